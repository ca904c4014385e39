-- A plan whose parts have nodes of their own is orderly.
use Rattle.std.proofs.Common.{◌≡◌, ℕ, ◌+◌, ◌≤◌, ◌==◌, Bool, true, false, List, [], ◌∷◌, ◌++◌, map, length, All, refl, ap, sym, subst, ◌∙◌, arith, cond, if◌then◌else◌}
use Rattle.std.specs.Prelude.{◌||◌, not, Option, Some, None}
use Rattle.std.specs.List.{flat_map, AllZip, AllByRecursion, IsDistinct}
use Rattle.std.proofs.lemmas.Map.Keys.{IsDistinct-head, IsDistinct-tail}
use Rattle.std.proofs.lemmas.List.{append-nil}
use Rattle.std.proofs.lemmas.List.Elements.{All-head, All-tail}
use Rattle.esql_types.specs.declared.cause.Cause.{Cause}
use Rattle.esql_types.specs.declared.cause.Failure.{Failure}
use Rattle.esql_types.specs.declared.names.ColId.{ColId}
use Rattle.esql_types.specs.declared.names.Column.{Column}
use Rattle.esql_types.specs.declared.names.NodeId.{NodeId}
use Rattle.esql_types.specs.declared.value.Kind.{Kind}
use Rattle.esql_types.specs.declared.value.Kind.TheVariants.{Integer, Long, Boolean, Keyword, Null}
use Rattle.esql_types.specs.declared.value.Value.{Value}
use Rattle.esql_types.specs.declared.value.Value.TheVariants as value
use Rattle.dissect_grok.specs.Groks.{GrokRead, grok_of, grok_columns, grok_takes}
use Rattle.esql_plan.specs.declared.function.Function.{Function}
use Rattle.esql_plan.specs.declared.typed.TypedExpr.{TypedExpr}
use Rattle.esql_plan.specs.declared.step.Aggregate.{Aggregate}
use Rattle.esql_plan.specs.declared.step.Step.{Step}
use Rattle.esql_plan.specs.declared.step.Step.TheVariants.{Eval, Filter, Sort, TopN, Limit, Expand, Stats, Dissect, Grok, Enrich}
use Rattle.esql_plan.specs.Rules.{Rule, singles, each, list_and_singles, lists, tests, logic, membership, conditions, alternatives, truth_in, is_null, multi_of}
use Rattle.esql_plan.specs.Functions.{rule_of}
use Rattle.esql_plan.specs.Values.{NumberedRow, failures_at, is_met, cells_of, value_of_typed}
use Rattle.esql_plan.proofs.Inductions.{typed_ind}
use Rattle.plan_semantics.specs.Groups.{Entry, keys_of_groups, entries_of_key, aggregate_of, values_at}
use Rattle.plan_semantics.specs.Stats.{entries_of}
use Rattle.plan_semantics.specs.Steps.{step_rows}
use Rattle.plan_semantics.specs.Parts.{FalliblePart, Parted, reached, parts_of_case, parts_of_coalesce, parts_of_all, parts_by, causes_by, own_part, parted, over_rows, condition_part, grok_part, aggregate_parts, step_parts, parts_after, fails_at, count_of}
use Rattle.plan_semantics.specs.WellFormed.{nodes_of, step_nodes, HaveOwnNodes}
use Rattle.plan_semantics.proofs.PartedFolds.{parted_of_constant, parted_of_column, parted_of_call, nodes_of_constant, nodes_of_column, nodes_of_call}
use Rattle.plan_semantics.proofs.Transposed.{count_of-append}
use Rattle.plan_semantics.proofs.Keeps.{other_number}
use Rattle.plan_semantics.specs.Tables.{CatalogHeld}
use Rattle.plan_semantics.specs.Taken.{converted, converted_columns, taken_values, taken_if, grokked_by, grokked}

-- the part fails at this node alone
abbrev pub IsPartOf : {Row : Type 0} → NodeId → (Row → List Failure) → Type 0
IsPartOf {Row} own part = (node : NodeId) → own.0 == node.0 ≡ false → (row : Row) → fails_at node (part row) ≡ false

-- each part has its node, in order
abbrev pub AreOf : {Row : Type 0} → List NodeId → List (Row → List Failure) → Type 0
AreOf nodes parts = AllZip IsPartOf nodes parts

of_both : (these : List NodeId) (xs : List FalliblePart) (those : List NodeId) (ys : List FalliblePart) → AreOf these xs → AreOf those ys → AreOf (these ++ those) (xs ++ ys)
of_both [] [] those ys first second = second
of_both [] (x ∷ xs) those ys first second = absurd first
of_both (one ∷ these) [] those ys first second = absurd first
of_both (one ∷ these) (x ∷ xs) those ys first second = (first.0, of_both these xs those ys first.1 second)

unreached : (b : Bool) (failures : List Failure) (node : NodeId) → fails_at node failures ≡ false → fails_at node (if b then failures else []) ≡ false
unreached true failures node is = is
unreached false failures node is = refl

of_reached : (test : NumberedRow → Bool) (nodes : List NodeId) (parts : List FalliblePart) → AreOf nodes parts → AreOf nodes (map (reached test) parts)
of_reached test [] [] are = tt
of_reached test [] (part ∷ parts) are = absurd are
of_reached test (node ∷ nodes) [] are = absurd are
of_reached test (own ∷ nodes) (part ∷ parts) are =
    ((λ node elsewhere row. unreached (test row) (part row) node (are.0 node elsewhere row)), of_reached test nodes parts are.1)

elsewhere_quiet : (own node : NodeId) (causes : List Cause) → own.0 == node.0 ≡ false → fails_at node (failures_at own causes) ≡ false
elsewhere_quiet own node [] elsewhere = refl
elsewhere_quiet own node (cause ∷ causes) elsewhere = ap (λ (b : Bool). b || fails_at node (failures_at own causes)) elsewhere ∙ elsewhere_quiet own node causes elsewhere

-- expressions ---------------------------------------------------------------------------------------------------------------------------

abbrev HasOwn : TypedExpr → Type 0
HasOwn expr = AreOf (nodes_of expr) (parted expr).parts

of_all : (args : List TypedExpr) → All HasOwn args → AreOf (flat_map nodes_of args) (parts_of_all (map parted args))
of_all [] all = tt
of_all (arg ∷ args) all =
    of_both (nodes_of arg) (parted arg).parts (flat_map nodes_of args) (parts_of_all (map parted args)) (All-head HasOwn arg args all) (of_all args (All-tail HasOwn arg args all))

of_coalesce : (args : List TypedExpr) → All HasOwn args → AreOf (flat_map nodes_of args) (parts_of_coalesce (map parted args))
of_coalesce [] all = tt
of_coalesce (arg ∷ args) all =
    let test : NumberedRow → Bool = λ row. is_null ((parted arg).value row).cell in
    of_both (nodes_of arg) (parted arg).parts (flat_map nodes_of args) (map (reached test) (parts_of_coalesce (map parted args)))
    (All-head HasOwn arg args all)
    (of_reached test (flat_map nodes_of args) (parts_of_coalesce (map parted args)) (of_coalesce args (All-tail HasOwn arg args all)))

of_case : (args : List TypedExpr) → All HasOwn args → AreOf (flat_map nodes_of args) (parts_of_case (map parted args))
of_case [] all = tt
of_case (otherwise ∷ []) all = subst (λ (nodes : List NodeId). AreOf nodes (parted otherwise).parts) (sym (append-nil (nodes_of otherwise))) (All-head HasOwn otherwise [] all)
of_case (condition ∷ part ∷ rest) all =
    let behind_it = All-tail HasOwn condition (part ∷ rest) all in
    let met : NumberedRow → Bool = λ row. is_met (truth_in ((parted condition).value row).cell) in
    let unmet : NumberedRow → Bool = λ row. not (is_met (truth_in ((parted condition).value row).cell)) in
    of_both (nodes_of condition) (parted condition).parts (nodes_of part ++ flat_map nodes_of rest) (map (reached met) (parted part).parts ++ map (reached unmet) (parts_of_case (map parted rest)))
    (All-head HasOwn condition (part ∷ rest) all)
    (of_both (nodes_of part) (map (reached met) (parted part).parts) (flat_map nodes_of rest) (map (reached unmet) (parts_of_case (map parted rest)))
    (of_reached met (nodes_of part) (parted part).parts (All-head HasOwn part rest behind_it))
    (of_reached unmet (flat_map nodes_of rest) (parts_of_case (map parted rest)) (of_case rest (All-tail HasOwn part rest behind_it))))

of_rule : (rule : Rule) (args : List TypedExpr) → All HasOwn args → AreOf (flat_map nodes_of args) (parts_by rule (map parted args))
of_rule (singles function) args all = of_all args all
of_rule (each function) args all = of_all args all
of_rule (list_and_singles function) args all = of_all args all
of_rule (lists function) args all = of_all args all
of_rule (tests function) args all = of_all args all
of_rule (logic function) args all = of_all args all
of_rule (membership function) args all = of_all args all
of_rule conditions args all = of_case args all
of_rule alternatives args all = of_coalesce args all

of_call : (own : NodeId) (function : Function) (args : List TypedExpr) → All HasOwn args
    → AreOf (flat_map nodes_of args ++ own ∷ []) (parts_by (rule_of function) (map parted args) ++ own_part function own (map parted args) ∷ [])
of_call own function args all =
    of_both (flat_map nodes_of args) (parts_by (rule_of function) (map parted args)) (own ∷ []) (own_part function own (map parted args) ∷ [])
    (of_rule (rule_of function) args all)
    ((λ node elsewhere row. elsewhere_quiet own node (causes_by (rule_of function) (cells_of (map (λ (arg : Parted). arg.value row) (map parted args)))) elsewhere), tt)

same_lists : (nodes those : List NodeId) (this that : Parted) → nodes ≡ those → this ≡ that → AreOf those that.parts → AreOf nodes this.parts
same_lists nodes those this that is also are =
    subst (λ (these : List NodeId). AreOf these this.parts) (sym is) (subst (λ (one : Parted). AreOf those one.parts) (sym also) are)

pub has_own : (expr : TypedExpr) → HasOwn expr
has_own = typed_ind HasOwn (record {
  constant = λ node kind cell. same_lists _ _ _ _ (nodes_of_constant _ cell refl) (parted_of_constant _ cell refl) tt;
  column = λ node kind id. same_lists _ _ _ _ (nodes_of_column _ id refl) (parted_of_column _ id refl) tt;
  apply = λ own kind function args pattern all.
      same_lists _ _ _ _ (nodes_of_call _ function args pattern refl) (parted_of_call _ function args pattern refl) (of_call own function args all);
})

condition_own : (node : NodeId) (condition : TypedExpr) → AreOf (nodes_of condition ++ node ∷ []) ((parted condition).parts ++ condition_part node condition ∷ [])
condition_own node condition =
    of_both (nodes_of condition) (parted condition).parts (node ∷ []) (condition_part node condition ∷ [])
    (has_own condition) ((λ other elsewhere row. elsewhere_quiet node other (multi_of (value_of_typed condition row).cell) elsewhere), tt)

aggregates_own : (place : ℕ) (aggregates : List Aggregate) (entries : List Entry) → AreOf (map (λ (aggregate : Aggregate). aggregate.node) aggregates) (aggregate_parts place aggregates entries)
aggregates_own place [] entries = tt
aggregates_own place (aggregate ∷ aggregates) entries = (
  λ node elsewhere key.
      let own : List Entry = entries_of_key key entries in
      elsewhere_quiet aggregate.node node (aggregate_of aggregate.function (length own) (values_at place own)).causes elsewhere,
  aggregates_own (place + 1) aggregates entries,
)

-- counts ---------------------------------------------------------------------------------------------------------------------------------

module _ (node : NodeId) where
  both_quiet : (xs ys : List Failure) → fails_at node xs ≡ false → fails_at node ys ≡ false → fails_at node (xs ++ ys) ≡ false
  both_quiet [] ys first second = second
  both_quiet (failure ∷ xs) ys first second =
      elim (failure.node.0 == node.0) as (λ b. b || fails_at node xs ≡ false → b || fails_at node (xs ++ ys) ≡ false)
      [ true ↦ λ no. no | false ↦ λ no. both_quiet xs ys no second ] first

  rows_quiet : {Row : Type 0} (part : Row → List Failure) → ((row : Row) → fails_at node (part row) ≡ false) → (rows : List Row) → fails_at node (flat_map part rows) ≡ false
  rows_quiet part none [] = refl
  rows_quiet part none (row ∷ rows) = both_quiet (part row) (flat_map part rows) (none row) (rows_quiet part none rows)

  -- GROK fails at the node of its step alone
  converted_quiet : (own : NodeId) → own.0 == node.0 ≡ false → (kind : Kind) (texts : List (List ℕ)) → fails_at node (converted own kind texts).failures ≡ false
  converted_quiet own elsewhere Integer texts = elsewhere_quiet own node _ elsewhere
  converted_quiet own elsewhere Long texts = elsewhere_quiet own node _ elsewhere
  converted_quiet own elsewhere Boolean texts = elsewhere_quiet own node _ elsewhere
  converted_quiet own elsewhere Keyword texts = refl
  converted_quiet own elsewhere Null texts = refl

  columns_quiet : (own : NodeId) → own.0 == node.0 ≡ false → (columns : List Column) (listed : List (List (List ℕ)))
      → fails_at node (taken_values (converted_columns own columns listed)).failures ≡ false
  columns_quiet own elsewhere [] listed = refl
  columns_quiet own elsewhere (column ∷ columns) [] = refl
  columns_quiet own elsewhere (column ∷ columns) (texts ∷ listed) =
      both_quiet (converted own column.kind texts).failures (taken_values (converted_columns own columns listed)).failures
      (converted_quiet own elsewhere column.kind texts) (columns_quiet own elsewhere columns listed)

  taken_quiet : (own : NodeId) → own.0 == node.0 ≡ false → (columns : List Column) (taken : Option (List (List (List ℕ)))) → fails_at node (taken_if own columns taken).failures ≡ false
  taken_quiet own elsewhere columns None = refl
  taken_quiet own elsewhere columns (Some listed) = columns_quiet own elsewhere columns listed

  value_quiet : (own : NodeId) → own.0 == node.0 ≡ false → (read : Option GrokRead) (one : Value) → fails_at node (grokked_by own read one).failures ≡ false
  value_quiet own elsewhere None one = refl
  value_quiet own elsewhere (Some read) (value.Int number) = refl
  value_quiet own elsewhere (Some read) (value.Long number) = refl
  value_quiet own elsewhere (Some read) (value.Bool truth) = refl
  value_quiet own elsewhere (Some read) (value.Text text) = taken_quiet own elsewhere (grok_columns read) (grok_takes read text)

  pub grok_quiet : (own : NodeId) → own.0 == node.0 ≡ false → (pattern : List ℕ) (count : ℕ) (cell : List Value) → fails_at node (grokked own pattern count cell).failures ≡ false
  grok_quiet own elsewhere pattern count cell = rows_quiet (λ (one : Value). (grokked_by own (grok_of pattern) one).failures) (value_quiet own elsewhere (grok_of pattern)) cell

grok_own : (own : NodeId) (input : ColId) (pattern : List ℕ) (count : ℕ) → AreOf (own ∷ []) (grok_part own input pattern count ∷ [])
grok_own own input pattern count = ((λ node elsewhere row. grok_quiet node own elsewhere pattern count (row input.0)), tt)

module _ (node : NodeId) where
  -- how often a node is among others
  abbrev pub places : List NodeId → ℕ
  places nodes = count_of (λ (one : NodeId). one.0 == node.0) nodes

  one_counts : (here fails : Bool) → (here ≡ false → fails ≡ false) → cond {A = ℕ} fails 1 0 ≤ cond {A = ℕ} here 1 0
  one_counts true true so = omega arith
  one_counts true false so = omega arith
  one_counts false true so = absurd (let no : true ≡ false = so refl in cc)
  one_counts false false so = omega arith

  pub parts_count : {Row : Type 0} (nodes : List NodeId) (parts : List (Row → List Failure)) → AreOf nodes parts → (rows : List Row) → count_of (fails_at node) (over_rows parts rows) ≤ places nodes
  parts_count [] [] are rows = omega arith
  parts_count [] (part ∷ parts) are rows = absurd are
  parts_count (own ∷ nodes) [] are rows = absurd are
  parts_count (own ∷ nodes) (part ∷ parts) are rows =
      omega (
        arith,
        one_counts (own.0 == node.0) (fails_at node (flat_map part rows)) (λ elsewhere. rows_quiet node part (are.0 node elsewhere) rows),
        parts_count nodes parts are.1 rows,
      )

  step_count : (step : Step) (rows : List NumberedRow) → count_of (fails_at node) (step_parts step rows) ≤ places (step_nodes step)
  step_count (Eval to expr) rows = parts_count (nodes_of expr) (parted expr).parts (has_own expr) rows
  step_count (Filter own condition) rows =
      parts_count (nodes_of condition ++ own ∷ []) ((parted condition).parts ++ condition_part own condition ∷ []) (condition_own own condition) rows
  step_count (Expand id to) rows = omega arith
  step_count (Sort keys) rows = omega arith
  step_count (TopN keys count) rows = omega arith
  step_count (Limit count) rows = omega arith
  step_count (Stats aggregates groups) rows =
      let entries : List Entry = entries_of aggregates groups rows in
      parts_count (map (λ (aggregate : Aggregate). aggregate.node) aggregates) (aggregate_parts 0 aggregates entries) (aggregates_own 0 aggregates entries) (keys_of_groups (length groups) entries)
  step_count (Dissect own input cutter pattern separator to) rows = omega arith
  step_count (Grok own input cutter pattern to) rows = parts_count (own ∷ []) (grok_part own input pattern (length to) ∷ []) (grok_own own input pattern (length to)) rows
  step_count (Enrich policy on fields to) rows = omega arith

  pub steps_count : (held : CatalogHeld) → (steps : List Step) (rows : List NumberedRow) → count_of (fails_at node) (parts_after held steps rows) ≤ places (flat_map step_nodes steps)
  steps_count held [] rows = omega arith
  steps_count held (step ∷ steps) rows =
      omega (
        arith,
        count_of-append (fails_at node) (step_parts step rows) (parts_after held steps (step_rows held step rows)),
        count_of-append (λ (one : NodeId). one.0 == node.0) (step_nodes step) (flat_map step_nodes steps),
        step_count step rows,
        steps_count held steps (step_rows held step rows),
      )

-- each number once ---------------------------------------------------------------------------------------------------------------------------

abbrev same_number : ℕ → ℕ → Bool
same_number this that = this == that

none_of : (n k : ℕ) → n ≡ k → (ns : List ℕ) → AllByRecursion (λ m. n == m ≡ false) ns → count_of (λ m. m == k) ns ≡ 0
none_of n k same [] all = refl
none_of n k same (m ∷ ns) all =
    let off : cond {A = ℕ} (m == k) 1 0 ≡ 0 = ap (λ (b : Bool). cond {A = ℕ} b 1 0) (other_number k m (subst (λ n. n == m ≡ false) same all.0)) in
    omega (arith, off, none_of n k same ns all.1)

once_step : (n k : ℕ) (ns : List ℕ) (b : Bool) → n == k ≡ b → IsDistinct same_number (n ∷ ns) → count_of (λ m. m == k) ns ≤ 1 → count_of (λ m. m == k) (n ∷ ns) ≤ 1
once_step n k ns true is distinct once =
    let same : n ≡ k = grind (arith, is) in
    let one : cond {A = ℕ} (n == k) 1 0 ≡ 1 = ap (λ (b : Bool). cond {A = ℕ} b 1 0) is in
    let none = none_of n k same ns (IsDistinct-head same_number n ns distinct) in
    omega (arith, one, none)
once_step n k ns false is distinct once =
    let off : cond {A = ℕ} (n == k) 1 0 ≡ 0 = ap (λ (b : Bool). cond {A = ℕ} b 1 0) is in
    omega (arith, off, once)

counted_once : (k : ℕ) (ns : List ℕ) → IsDistinct same_number ns → count_of (λ m. m == k) ns ≤ 1
counted_once k [] distinct = omega arith
counted_once k (n ∷ ns) distinct = once_step n k ns (n == k) refl distinct (counted_once k ns (IsDistinct-tail same_number n ns distinct))

places_mapped : (node : NodeId) (nodes : List NodeId) → places node nodes ≡ count_of (λ m. m == node.0) (map (λ (one : NodeId). one.0) nodes)
places_mapped node [] = refl
places_mapped node (one ∷ nodes) = ap (λ n. cond {A = ℕ} (one.0 == node.0) 1 0 + n) (places_mapped node nodes)

pub orderly_steps : (held : CatalogHeld) → (steps : List Step) → HaveOwnNodes steps → (rows : List NumberedRow) (node : NodeId) → count_of (fails_at node) (parts_after held steps rows) ≤ 1
orderly_steps held steps own rows node =
    omega (
      arith,
      steps_count node held steps rows,
      places_mapped node (flat_map step_nodes steps),
      counted_once node.0 (map (λ (one : NodeId). one.0) (flat_map step_nodes steps)) own,
    )
