-- Steps depend on the columns that they read alone.
use Rattle.std.proofs.Common.{◌≡◌, ℕ, zero, suc, ◌==◌, Bool, true, false, List, [], ◌∷◌, ◌++◌, map, length, take, All, Option, Some, None, refl, ap, sym, subst, ◌∙◌, if◌then◌else◌}
use Rattle.std.proofs.Math.Path.{fun_ext}
use Rattle.std.specs.Prelude.{not}
use Rattle.std.specs.List.{flat_map}
use Rattle.std.specs.Ordering.{is_gt, ordering_then}
use Rattle.std.specs.declared.cmp.Ordering.{Ordering}
use Rattle.std.proofs.lemmas.List.{map-append}
use Rattle.std.proofs.lemmas.List.Elements.{All-nil, All-cons, All-head, All-tail, All-append}
use Rattle.esql_types.specs.declared.value.Value.{Value}
use Rattle.esql_types.specs.declared.names.ColId.{ColId}
use Rattle.esql_types.specs.declared.names.NodeId.{NodeId}
use Rattle.function_rules.specs.Lists.{put_in_order, sorted_by}
use Rattle.esql_plan.specs.declared.function.Function.{Function}
use Rattle.esql_plan.specs.declared.typed.TypedExpr.{TypedExpr}
use Rattle.esql_plan.specs.declared.plan.OutColumn.{OutColumn}
use Rattle.esql_plan.specs.declared.step.Aggregate.{Aggregate}
use Rattle.esql_plan.specs.declared.step.GroupColumn.{GroupColumn}
use Rattle.esql_plan.specs.declared.step.NewColumn.{NewColumn}
use Rattle.esql_plan.specs.declared.step.PlanKey.{PlanKey}
use Rattle.esql_plan.specs.declared.step.Step.{Step}
use Rattle.esql_plan.specs.declared.step.Step.TheVariants.{Eval, Filter, Sort, TopN, Limit, Expand, Stats, Dissect, Grok, Enrich}
use Rattle.esql_plan.specs.Rules.{Rule, singles, each, list_and_singles, lists, tests, logic, membership, conditions, alternatives, truth_in, is_null, multi_of}
use Rattle.esql_plan.specs.Functions.{rule_of}
use Rattle.esql_plan.specs.Values.{Valued, NumberedRow, is_met, failures_at, cells_of, value_of_typed}
use Rattle.esql_plan.specs.Fits.{ReadColumn, columns_read}
use Rattle.esql_plan.proofs.TypedFolds.{map_map, columns_of_call}
use Rattle.esql_plan.proofs.Inductions.{typed_ind}
use Rattle.plan_semantics.specs.Tables.{CatalogHeld, with_cell}
use Rattle.plan_semantics.specs.Orders.{order_of_cells, order_of_rows}
use Rattle.plan_semantics.specs.Groups.{Entry, keys_of_groups, rows_of_groups, failures_of_groups}
use Rattle.plan_semantics.specs.Stats.{input_cell, entry_of, entries_of, stats_row}
use Rattle.plan_semantics.specs.Taken.{dissected, grokked, enriched, with_new}
use Rattle.plan_semantics.specs.Steps.{is_true, failures_of_condition, expanded, step_gives, step_fails, step_rows, step_failures}
use Rattle.plan_semantics.specs.Plans.{shown_row}
use Rattle.plan_semantics.specs.Parts.{FalliblePart, Parted, reached, parts_of_case, parts_of_coalesce, parts_of_all, parts_by, causes_by, own_part, parted, condition_part, grok_part, over_rows, aggregate_parts, step_parts}
use Rattle.plan_semantics.specs.Used.{restrict, ReadsUsed, InputUsed, StatsReadUsed, StepReadsUsed, IsUsedOut, SameOn, SameAfter}
use Rattle.plan_semantics.proofs.PartedFolds.{parted_of_constant, parted_of_column, parted_of_call}
use Rattle.plan_semantics.proofs.Reading.{map_all, parts_read, one_used, value_restricted}
use Rattle.plan_semantics.proofs.Failing.{parted_value}

-- lists --------------------------------------------------------------------------------------------------------------------------------

map_same : {A B : Type 0} (f g : A → B) → ((a : A) → f a ≡ g a) → (xs : List A) → map f xs ≡ map g xs
map_same f g same [] = refl
map_same f g same (x ∷ xs) = λ i. same x i ∷ map_same f g same xs i

flat_square : {A B : Type 0} (f : A → List B) (move : A → A) → ((a : A) → f (move a) ≡ f a) → (xs : List A) → flat_map f (map move xs) ≡ flat_map f xs
flat_square f move same [] = refl
flat_square f move same (x ∷ xs) = λ i. same x i ++ flat_square f move same xs i

-- a function that gives lists, up to a second function on their items
flat_upto : {A B : Type 0} (f : A → List B) (move : A → A) (cut : B → B) → ((a : A) → map cut (f (move a)) ≡ map cut (f a)) → (xs : List A)
    → map cut (flat_map f (map move xs)) ≡ map cut (flat_map f xs)
flat_upto f move cut same [] = refl
flat_upto f move cut same (x ∷ xs) =
    map-append cut (f (move x)) (flat_map f (map move xs))
    ∙ (λ i. same x i ++ flat_upto f move cut same xs i)
    ∙ sym (map-append cut (f x) (flat_map f xs))

take_map : {A B : Type 0} (f : A → B) (count : ℕ) (xs : List A) → take count (map f xs) ≡ map f (take count xs)
take_map f zero xs = refl
take_map f (suc count) [] = refl
take_map f (suc count) (x ∷ xs) = ap (λ rest. f x ∷ rest) (take_map f count xs)

module _ {A : Type 0} (order : A → A → Ordering) (move : A → A) (same : (a b : A) → order (move a) (move b) ≡ order a b) where
  put_moved : (x : A) (xs : List A) → put_in_order order (move x) (map move xs) ≡ map move (put_in_order order x xs)
  put_moved x [] = refl
  put_moved x (first ∷ rest) =
      ap (λ (o : Ordering). if is_gt o then move first ∷ put_in_order order (move x) (map move rest) else move x ∷ move first ∷ map move rest) (same x first)
      ∙ elim (is_gt (order x first)) as (λ b. (if b then move first ∷ put_in_order order (move x) (map move rest) else move x ∷ move first ∷ map move rest)
      ≡ map move (if b then first ∷ put_in_order order x rest else x ∷ first ∷ rest))
      [ true ↦ ap (λ these. move first ∷ these) (put_moved x rest) | false ↦ refl ]

  sorted_moved : (xs : List A) → sorted_by order (map move xs) ≡ map move (sorted_by order xs)
  sorted_moved [] = refl
  sorted_moved (x ∷ xs) = ap (put_in_order order (move x)) (sorted_moved xs) ∙ put_moved x (sorted_by order xs)

-- expressions ----------------------------------------------------------------------------------------------------------------------------

module _ (uses : ℕ → Bool) where
  -- what a part fails with depends on columns that are used alone
  abbrev IsSteady : FalliblePart → Type 0
  IsSteady part = (row : NumberedRow) → part (restrict uses row) ≡ part row

  record Steady (this : Parted) : Type 0 where
    value : (row : NumberedRow) → this.value (restrict uses row) ≡ this.value row
    parts : All IsSteady this.parts

  reached_steady : (test : NumberedRow → Bool) → ((row : NumberedRow) → test (restrict uses row) ≡ test row) → (part : FalliblePart) → IsSteady part → IsSteady (reached test part)
  reached_steady test same part steady row = λ i. if same row i then steady row i else []

  all_reached : (test : NumberedRow → Bool) → ((row : NumberedRow) → test (restrict uses row) ≡ test row) → (parts : List FalliblePart) → All IsSteady parts → All IsSteady (map (reached test) parts)
  all_reached test same [] all = All-nil IsSteady
  all_reached test same (part ∷ parts) all =
      All-cons IsSteady (reached test part) (map (reached test) parts)
      (reached_steady test same part (All-head IsSteady part parts all)) (all_reached test same parts (All-tail IsSteady part parts all))

  all_steady : (args : List Parted) → All Steady args → All IsSteady (parts_of_all args)
  all_steady [] all = All-nil IsSteady
  all_steady (arg ∷ args) all = All-append IsSteady arg.parts (parts_of_all args) (All-head Steady arg args all).parts (all_steady args (All-tail Steady arg args all))

  coalesce_steady : (args : List Parted) → All Steady args → All IsSteady (parts_of_coalesce args)
  coalesce_steady [] all = All-nil IsSteady
  coalesce_steady (arg ∷ args) all =
      let test : NumberedRow → Bool = λ row. is_null (arg.value row).cell in
      let own = All-head Steady arg args all in
      All-append IsSteady arg.parts (map (reached test) (parts_of_coalesce args)) own.parts
      (all_reached test (λ row. ap (λ (valued : Valued). is_null valued.cell) (own.value row)) (parts_of_coalesce args) (coalesce_steady args (All-tail Steady arg args all)))

  case_steady : (args : List Parted) → All Steady args → All IsSteady (parts_of_case args)
  case_steady [] all = All-nil IsSteady
  case_steady (otherwise ∷ []) all = (All-head Steady otherwise [] all).parts
  case_steady (condition ∷ part ∷ rest) all =
      let met : NumberedRow → Bool = λ row. is_met (truth_in (condition.value row).cell) in
      let unmet : NumberedRow → Bool = λ row. not (is_met (truth_in (condition.value row).cell)) in
      let own = All-head Steady condition (part ∷ rest) all in
      let behind_it = All-tail Steady condition (part ∷ rest) all in
      All-append IsSteady condition.parts (map (reached met) part.parts ++ map (reached unmet) (parts_of_case rest)) own.parts
      (All-append IsSteady (map (reached met) part.parts) (map (reached unmet) (parts_of_case rest))
      (all_reached met (λ row. ap (λ (valued : Valued). is_met (truth_in valued.cell)) (own.value row)) part.parts (All-head Steady part rest behind_it).parts)
      (all_reached unmet (λ row. ap (λ (valued : Valued). not (is_met (truth_in valued.cell))) (own.value row)) (parts_of_case rest) (case_steady rest (All-tail Steady part rest behind_it))))

  rule_steady : (rule : Rule) (args : List Parted) → All Steady args → All IsSteady (parts_by rule args)
  rule_steady (singles function) args all = all_steady args all
  rule_steady (each function) args all = all_steady args all
  rule_steady (list_and_singles function) args all = all_steady args all
  rule_steady (lists function) args all = all_steady args all
  rule_steady (tests function) args all = all_steady args all
  rule_steady (logic function) args all = all_steady args all
  rule_steady (membership function) args all = all_steady args all
  rule_steady conditions args all = case_steady args all
  rule_steady alternatives args all = coalesce_steady args all

  values_steady : (args : List Parted) → All Steady args → (row : NumberedRow) → map (λ (arg : Parted). arg.value (restrict uses row)) args ≡ map (λ (arg : Parted). arg.value row) args
  values_steady args all row = map_all Steady (λ (arg : Parted). arg.value (restrict uses row)) (λ (arg : Parted). arg.value row) (λ arg steady. steady.value row) args all

  -- the parts of an expression that reads columns that are used alone
  abbrev PartsSteady : TypedExpr → Type 0
  PartsSteady expr = All IsSteady (parted expr).parts

  abbrev Reads : TypedExpr → Type 0
  Reads expr = ReadsUsed uses expr

  value_steady : (expr : TypedExpr) → Reads expr → (row : NumberedRow) → (parted expr).value (restrict uses row) ≡ (parted expr).value row
  value_steady expr reads row = parted_value (restrict uses row) expr ∙ value_restricted uses expr reads row ∙ sym (parted_value row expr)

  args_steady : (args : List TypedExpr) → All (λ expr. Reads expr → PartsSteady expr) args → All Reads args → All Steady (map parted args)
  args_steady [] known all = All-nil Steady
  args_steady (arg ∷ args) known all =
      let own = All-head Reads arg args all in
      All-cons Steady (parted arg) (map parted args)
      (record { value = value_steady arg own; parts = All-head (λ expr. Reads expr → PartsSteady expr) arg args known own })
      (args_steady args (All-tail (λ expr. Reads expr → PartsSteady expr) arg args known) (All-tail Reads arg args all))

  call_steady : (own : NodeId) (function : Function) (args : List Parted) → All Steady args → All IsSteady (parts_by (rule_of function) args ++ own_part function own args ∷ [])
  call_steady own function args all =
      All-append IsSteady (parts_by (rule_of function) args) (own_part function own args ∷ []) (rule_steady (rule_of function) args all)
      (All-cons IsSteady (own_part function own args) []
      (λ row. ap (λ (values : List Valued). failures_at own (causes_by (rule_of function) (cells_of values))) (values_steady args all row)) (All-nil IsSteady))

  parts_steady : (expr : TypedExpr) → Reads expr → PartsSteady expr
  parts_steady = typed_ind (λ expr. Reads expr → PartsSteady expr) (record {
    constant = λ node kind cell reads. subst (λ (this : Parted). All IsSteady this.parts) (sym (parted_of_constant _ cell refl)) (All-nil IsSteady);
    column = λ node kind id reads. subst (λ (this : Parted). All IsSteady this.parts) (sym (parted_of_column _ id refl)) (All-nil IsSteady);
    apply = λ own kind function args pattern all reads.
        let P : ReadColumn → Type 0 = λ column. uses column.id.0 ≡ true in
        let read : All Reads args = parts_read P columns_read args (subst (All P) (columns_of_call _ function args pattern refl) reads) in
        subst (λ (this : Parted). All IsSteady this.parts) (sym (parted_of_call _ function args pattern refl))
        (call_steady own function (map parted args) (args_steady args all read));
  })

  -- rows ----------------------------------------------------------------------------------------------------------------------------------

  abbrev cut : NumberedRow → NumberedRow
  cut row = restrict uses row

  cut_twice : (row : NumberedRow) → cut (cut row) ≡ cut row
  cut_twice row = fun_ext (λ id. by_case (uses id) (row id))
    where
      by_case : (b : Bool) (cell : List Value) → (if b then (if b then cell else []) else []) ≡ (if b then cell else [])
      by_case true cell = refl
      by_case false cell = refl

  rows_twice : (rows : List NumberedRow) → map cut (map cut rows) ≡ map cut rows
  rows_twice rows = map_map cut cut rows ∙ map_same (λ (row : NumberedRow). cut (cut row)) cut cut_twice rows

  put_cut : (to : ℕ) (row : NumberedRow) (this that : List Value) → this ≡ that → cut (with_cell (cut row) to this) ≡ cut (with_cell row to that)
  put_cut to row this that same = fun_ext (λ id. by_case (uses id) (id == to) (row id))
    where
      by_case : (used here : Bool) (old : List Value) → (if used then (if here then this else (if used then old else [])) else []) ≡ (if used then (if here then that else old) else [])
      by_case true true old = same
      by_case true false old = refl
      by_case false here old = refl

  value_cut : (expr : TypedExpr) → Reads expr → (row : NumberedRow) → value_of_typed expr (cut row) ≡ value_of_typed expr row
  value_cut expr reads row = value_restricted uses expr reads row

  kept_cut : (row : NumberedRow) (this that : Bool) → this ≡ that → map cut (if this then cut row ∷ [] else []) ≡ map cut (if that then row ∷ [] else [])
  kept_cut row this that same = ap (λ (b : Bool). map cut (if b then cut row ∷ [] else [])) same ∙ by_case that
    where
      by_case : (b : Bool) → map cut (if b then cut row ∷ [] else []) ≡ map cut (if b then row ∷ [] else [])
      by_case true = ap (λ (row : NumberedRow). row ∷ []) (cut_twice row)
      by_case false = refl

  values_cut : (to : ℕ) (row : NumberedRow) (values : List Value) → map cut (map (λ (one : Value). with_cell (cut row) to (one ∷ [])) values) ≡ map cut (map (λ (one : Value). with_cell row to (one ∷ [])) values)
  values_cut to row [] = refl
  values_cut to row (value ∷ values) = λ i. put_cut to row (value ∷ []) (value ∷ []) refl i ∷ values_cut to row values i

  expanded_cut : (to : ℕ) (row : NumberedRow) (values : List Value) → map cut (expanded (cut row) to values) ≡ map cut (expanded row to values)
  expanded_cut to row [] = ap (λ (row : NumberedRow). row ∷ []) (put_cut to row [] [] refl)
  expanded_cut to row (value ∷ values) = values_cut to row (value ∷ values)

  -- rows that are the same in used columns are so with one more cell, and with new columns
  put_same : (id : ℕ) (cell : List Value) (this that : NumberedRow) → cut this ≡ cut that → cut (with_cell this id cell) ≡ cut (with_cell that id cell)
  put_same id cell this that same =
      sym (put_cut id this cell cell refl) ∙ ap (λ (row : NumberedRow). cut (with_cell row id cell)) same ∙ put_cut id that cell cell refl

  new_same : (to : List NewColumn) (cells : List (List Value)) (this that : NumberedRow) → cut this ≡ cut that → cut (with_new this to cells) ≡ cut (with_new that to cells)
  new_same [] cells this that same = same
  new_same (new ∷ to) [] this that same = new_same to [] (with_cell this new.id.0 []) (with_cell that new.id.0 []) (put_same new.id.0 [] this that same)
  new_same (new ∷ to) (cell ∷ cells) this that same =
      new_same to cells (with_cell this new.id.0 cell) (with_cell that new.id.0 cell) (put_same new.id.0 cell this that same)

  -- new columns that a used column gives
  new_cut : (to : List NewColumn) (gives : List Value → List (List Value)) (input : ColId) → uses input.0 ≡ true → (row : NumberedRow)
      → map cut (with_new (cut row) to (gives (cut row input.0)) ∷ []) ≡ map cut (with_new row to (gives (row input.0)) ∷ [])
  new_cut to gives input is row =
      ap (λ (cell : List Value). cut (with_new (cut row) to (gives cell)) ∷ []) (one_used (uses input.0) (row input.0) is)
      ∙ ap (λ (row : NumberedRow). row ∷ []) (new_same to (gives (row input.0)) (cut row) row (cut_twice row))

  grok_steady : (node : NodeId) (input : ColId) (pattern : List ℕ) (count : ℕ) → uses input.0 ≡ true → IsSteady (grok_part node input pattern count)
  grok_steady node input pattern count is row = ap (λ (cell : List Value). (grokked node pattern count cell).failures) (one_used (uses input.0) (row input.0) is)

  order_cut : (keys : List PlanKey) → All (λ (key : PlanKey). uses key.id.0 ≡ true) keys → (this that : NumberedRow) → order_of_rows keys (cut this) (cut that) ≡ order_of_rows keys this that
  order_cut [] all this that = refl
  order_cut (key ∷ keys) all this that =
      let P : PlanKey → Type 0 = λ key. uses key.id.0 ≡ true in
      let own = All-head P key keys all in
      λ i. ordering_then (order_of_cells key.descending key.nulls_first (one_used (uses key.id.0) (this key.id.0) own i) (one_used (uses key.id.0) (that key.id.0) own i)) (order_cut keys (All-tail P key keys all) this that i)

  input_cut : (input : Option ColId) → InputUsed uses input → (row : NumberedRow) → input_cell (cut row) input ≡ input_cell row input
  input_cut None is row = refl
  input_cut (Some id) is row = one_used (uses id.0) (row id.0) is

  entry_cut : (aggregates : List Aggregate) (groups : List GroupColumn) → StatsReadUsed uses aggregates groups → (row : NumberedRow)
      → entry_of aggregates groups (cut row) ≡ entry_of aggregates groups row
  entry_cut aggregates groups reads row = λ i. record {
    keys = map_all (λ (group : GroupColumn). uses group.id.0 ≡ true) (λ (group : GroupColumn). cut row group.id.0) (λ (group : GroupColumn). row group.id.0)
        (λ group is. one_used (uses group.id.0) (row group.id.0) is) groups reads.keys i;
    inputs = map_all (λ (aggregate : Aggregate). InputUsed uses aggregate.input) (λ (aggregate : Aggregate). input_cell (cut row) aggregate.input) (λ (aggregate : Aggregate). input_cell row aggregate.input)
        (λ aggregate is. input_cut aggregate.input is row) aggregates reads.inputs i;
  }

  -- groups look at columns that are used alone
  entries_cut : (aggregates : List Aggregate) (groups : List GroupColumn) → StatsReadUsed uses aggregates groups → (rows : List NumberedRow)
      → entries_of aggregates groups (map cut rows) ≡ entries_of aggregates groups rows
  entries_cut aggregates groups reads rows =
      map_map (entry_of aggregates groups) cut rows
      ∙ map_same (λ (row : NumberedRow). entry_of aggregates groups (cut row)) (entry_of aggregates groups) (entry_cut aggregates groups reads) rows

  -- steps ------------------------------------------------------------------------------------------------------------------------------------

  rows_cut : (held : CatalogHeld) → (step : Step) → StepReadsUsed uses step → (rows : List NumberedRow) → map cut (step_rows held step (map cut rows)) ≡ map cut (step_rows held step rows)
  rows_cut held (Eval to expr) reads rows =
      flat_upto (step_gives held (Eval to expr)) cut cut
      (λ row. ap (λ (row : NumberedRow). row ∷ []) (put_cut to.0 row (value_of_typed expr (cut row)).cell (value_of_typed expr row).cell (ap (λ (valued : Valued). valued.cell) (value_cut expr reads row)))) rows
  rows_cut held (Filter node condition) reads rows =
      flat_upto (step_gives held (Filter node condition)) cut cut
      (λ row. kept_cut row (is_true (value_of_typed condition (cut row)).cell) (is_true (value_of_typed condition row).cell) (ap (λ (valued : Valued). is_true valued.cell) (value_cut condition reads row))) rows
  rows_cut held (Expand id to) reads rows =
      flat_upto (step_gives held (Expand id to)) cut cut
      (λ row. ap (λ (values : List Value). map cut (expanded (cut row) to.0 values)) (one_used (uses id.0) (row id.0) reads) ∙ expanded_cut to.0 row (row id.0)) rows
  rows_cut held (Sort keys) reads rows = ap (map cut) (sorted_moved (order_of_rows keys) cut (order_cut keys reads) rows) ∙ rows_twice (sorted_by (order_of_rows keys) rows)
  rows_cut held (TopN keys count) reads rows =
      ap (λ (rows : List NumberedRow). map cut (take count rows)) (sorted_moved (order_of_rows keys) cut (order_cut keys reads) rows)
      ∙ ap (map cut) (take_map cut count (sorted_by (order_of_rows keys) rows))
      ∙ rows_twice (take count (sorted_by (order_of_rows keys) rows))
  rows_cut held (Limit count) reads rows = ap (map cut) (take_map cut count rows) ∙ rows_twice (take count rows)
  rows_cut held (Stats aggregates groups) reads rows =
      ap (λ (entries : List Entry). map cut (map (stats_row aggregates groups) (rows_of_groups (length groups) aggregates entries))) (entries_cut aggregates groups reads rows)
  rows_cut held (Dissect node input cutter pattern separator to) reads rows =
      flat_upto (step_gives held (Dissect node input cutter pattern separator to)) cut cut (new_cut to (λ (cell : List Value). (dissected pattern separator (length to) cell).cells) input reads) rows
  rows_cut held (Grok node input cutter pattern to) reads rows =
      flat_upto (step_gives held (Grok node input cutter pattern to)) cut cut (new_cut to (λ (cell : List Value). (grokked node pattern (length to) cell).cells) input reads) rows
  rows_cut held (Enrich policy on fields to) reads rows =
      flat_upto (step_gives held (Enrich policy on fields to)) cut cut (new_cut to (enriched held policy fields) on reads) rows

  fails_cut : (step : Step) → StepReadsUsed uses step → (row : NumberedRow) → step_fails step (cut row) ≡ step_fails step row
  fails_cut (Eval to expr) reads row = ap (λ (valued : Valued). valued.failures) (value_cut expr reads row)
  fails_cut (Filter node condition) reads row = ap (failures_of_condition node) (value_cut condition reads row)
  fails_cut (Expand id to) reads row = refl
  fails_cut (Sort keys) reads row = refl
  fails_cut (TopN keys count) reads row = refl
  fails_cut (Limit count) reads row = refl
  fails_cut (Stats aggregates groups) reads row = refl
  fails_cut (Dissect node input cutter pattern separator to) reads row = refl
  fails_cut (Grok node input cutter pattern to) reads row = grok_steady node input pattern (length to) reads row
  fails_cut (Enrich policy on fields to) reads row = refl

  failures_cut : (step : Step) → StepReadsUsed uses step → (rows : List NumberedRow) → step_failures step (map cut rows) ≡ step_failures step rows
  failures_cut (Eval to expr) reads rows = flat_square (step_fails (Eval to expr)) cut (fails_cut (Eval to expr) reads) rows
  failures_cut (Filter node condition) reads rows = flat_square (step_fails (Filter node condition)) cut (fails_cut (Filter node condition) reads) rows
  failures_cut (Expand id to) reads rows = flat_square (step_fails (Expand id to)) cut (fails_cut (Expand id to) reads) rows
  failures_cut (Sort keys) reads rows = flat_square (step_fails (Sort keys)) cut (fails_cut (Sort keys) reads) rows
  failures_cut (TopN keys count) reads rows = flat_square (step_fails (TopN keys count)) cut (fails_cut (TopN keys count) reads) rows
  failures_cut (Limit count) reads rows = flat_square (step_fails (Limit count)) cut (fails_cut (Limit count) reads) rows
  failures_cut (Stats aggregates groups) reads rows = ap (failures_of_groups (length groups) aggregates) (entries_cut aggregates groups reads rows)
  failures_cut (Dissect node input cutter pattern separator to) reads rows = flat_square (step_fails (Dissect node input cutter pattern separator to)) cut (fails_cut (Dissect node input cutter pattern separator to) reads) rows
  failures_cut (Grok node input cutter pattern to) reads rows = flat_square (step_fails (Grok node input cutter pattern to)) cut (fails_cut (Grok node input cutter pattern to) reads) rows
  failures_cut (Enrich policy on fields to) reads rows = flat_square (step_fails (Enrich policy on fields to)) cut (fails_cut (Enrich policy on fields to) reads) rows

  condition_steady : (node : NodeId) (condition : TypedExpr) → Reads condition → All IsSteady ((parted condition).parts ++ condition_part node condition ∷ [])
  condition_steady node condition reads =
      All-append IsSteady (parted condition).parts (condition_part node condition ∷ []) (parts_steady condition reads)
      (All-cons IsSteady (condition_part node condition) [] (λ row. ap (λ (valued : Valued). failures_at node (multi_of valued.cell)) (value_cut condition reads row)) (All-nil IsSteady))

  over_cut : (parts : List FalliblePart) → All IsSteady parts → (rows : List NumberedRow) → over_rows parts (map cut rows) ≡ over_rows parts rows
  over_cut parts steady rows =
      map_all IsSteady (λ (part : FalliblePart). flat_map part (map cut rows)) (λ (part : FalliblePart). flat_map part rows) (λ part steady. flat_square part cut steady rows) parts steady

  parts_cut : (step : Step) → StepReadsUsed uses step → (rows : List NumberedRow) → step_parts step (map cut rows) ≡ step_parts step rows
  parts_cut (Eval to expr) reads rows = over_cut (parted expr).parts (parts_steady expr reads) rows
  parts_cut (Filter node condition) reads rows = over_cut ((parted condition).parts ++ condition_part node condition ∷ []) (condition_steady node condition reads) rows
  parts_cut (Expand id to) reads rows = refl
  parts_cut (Sort keys) reads rows = refl
  parts_cut (TopN keys count) reads rows = refl
  parts_cut (Limit count) reads rows = refl
  parts_cut (Stats aggregates groups) reads rows =
      ap (λ (entries : List Entry). over_rows (aggregate_parts 0 aggregates entries) (keys_of_groups (length groups) entries)) (entries_cut aggregates groups reads rows)
  parts_cut (Dissect node input cutter pattern separator to) reads rows = refl
  parts_cut (Grok node input cutter pattern to) reads rows =
      let part : FalliblePart = grok_part node input pattern (length to) in
      over_cut (part ∷ []) (All-cons IsSteady part [] (grok_steady node input pattern (length to) reads) (All-nil IsSteady)) rows
  parts_cut (Enrich policy on fields to) reads rows = refl

  -- what steps that read used columns alone make of rows that are the same in these is the same in these
  pub same_after : (held : CatalogHeld) → (steps : List Step) → All (StepReadsUsed uses) steps → (xs ys : List NumberedRow) → SameOn uses xs ys → SameAfter held uses steps xs ys
  same_after held [] reads xs ys same = record { rows = same; failures = refl; parts = refl }
  same_after held (step ∷ steps) reads xs ys same =
      let own = All-head (StepReadsUsed uses) step steps reads in
      let next : SameOn uses (step_rows held step xs) (step_rows held step ys) = sym (rows_cut held step own xs) ∙ ap (λ (rows : List NumberedRow). map cut (step_rows held step rows)) same ∙ rows_cut held step own ys in
      let rest = same_after held steps (All-tail (StepReadsUsed uses) step steps reads) (step_rows held step xs) (step_rows held step ys) next in
      let failures : step_failures step xs ≡ step_failures step ys =
      sym (failures_cut step own xs) ∙ ap (step_failures step) same ∙ failures_cut step own ys in
      let parts : step_parts step xs ≡ step_parts step ys = sym (parts_cut step own xs) ∙ ap (step_parts step) same ∙ parts_cut step own ys in
      record { rows = rest.rows; failures = λ i. failures i ++ rest.failures i; parts = λ i. parts i ++ rest.parts i }

  shown_cut : (output : List OutColumn) → All (IsUsedOut uses) output → (row : NumberedRow) → shown_row output (cut row) ≡ shown_row output row
  shown_cut output reads row =
      map_all (IsUsedOut uses) (λ (out : OutColumn). cut row out.id.0) (λ (out : OutColumn). row out.id.0) (λ out is. one_used (uses out.id.0) (row out.id.0) is) output reads

  -- rows that are the same in used columns show the same
  pub shown_same : (output : List OutColumn) → All (IsUsedOut uses) output → (xs ys : List NumberedRow) → SameOn uses xs ys → map (shown_row output) xs ≡ map (shown_row output) ys
  shown_same output reads xs ys same = sym (shown xs) ∙ ap (map (shown_row output)) same ∙ shown ys
    where
      shown : (rows : List NumberedRow) → map (shown_row output) (map cut rows) ≡ map (shown_row output) rows
      shown rows = map_map (shown_row output) cut rows ∙ map_same (λ (row : NumberedRow). shown_row output (cut row)) (shown_row output) (shown_cut output reads) rows
