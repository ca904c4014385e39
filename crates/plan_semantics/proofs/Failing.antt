-- The value of an expression fails as its parts do.
use Rattle.std.proofs.Common.{◌≡◌, ℕ, ◌+◌, ◌≤◌, Bool, true, false, List, [], ◌∷◌, ◌++◌, map, All, refl, ap, sym, subst, ◌∙◌, arith, cond, if◌then◌else◌}
use Rattle.std.specs.Prelude.{not}
use Rattle.std.specs.List.{flat_map}
use Rattle.std.proofs.lemmas.List.{append-nil, map-append}
use Rattle.std.proofs.lemmas.Grind.{flat_map-append}
use Rattle.std.proofs.lemmas.List.Elements.{All-head, All-tail, All-map}
use Rattle.esql_types.specs.declared.cause.Cause.{Cause}
use Rattle.esql_types.specs.declared.cause.Failure.{Failure}
use Rattle.esql_types.specs.declared.names.NodeId.{NodeId}
use Rattle.esql_plan.specs.declared.function.Function.{Function}
use Rattle.esql_plan.specs.declared.typed.TypedExpr.{TypedExpr}
use Rattle.esql_plan.specs.Rules.{Rule, singles, each, list_and_singles, lists, tests, logic, membership, conditions, alternatives, multi_of, truth_in, is_null}
use Rattle.esql_plan.specs.Functions.{rule_of}
use Rattle.esql_plan.specs.Values.{Valued, NumberedRow, failures_at, behind, cells_of, applied, applied_by, case_of, coalesce_of, is_met, value_of_typed}
use Rattle.esql_plan.proofs.TypedFolds.{map_map, value_of_constant, value_of_column, value_of_call}
use Rattle.esql_plan.proofs.Inductions.{typed_ind}
use Rattle.plan_semantics.specs.Agrees.{causes_at}
use Rattle.plan_semantics.specs.Parts.{FalliblePart, Parted, reached, parts_of_case, parts_of_coalesce, parts_of_all, parts_by, case_causes, causes_by, own_part, parted, fails_in, fails_at, count_of}
use Rattle.plan_semantics.proofs.PartedFolds.{parted_of_constant, parted_of_column, parted_of_call}
use Rattle.plan_semantics.proofs.Reading.{map_all}
use Rattle.plan_semantics.proofs.Transposed.{both_nil, count_of-append, causes-append, quiet, uncounted, on}

-- the value of what has parts is the value of the expression ----------------------------------------------------------------------

pub parted_value : (row : NumberedRow) (expr : TypedExpr) → (parted expr).value row ≡ value_of_typed expr row
parted_value row = typed_ind (λ expr. (parted expr).value row ≡ value_of_typed expr row) (record {
  constant = λ node kind cell. ap (λ (this : Parted). this.value row) (parted_of_constant _ cell refl) ∙ sym (value_of_constant _ row cell refl);
  column = λ node kind id. ap (λ (this : Parted). this.value row) (parted_of_column _ id refl) ∙ sym (value_of_column _ row id refl);
  apply = λ node kind function args pattern all.
      ap (λ (this : Parted). this.value row) (parted_of_call _ function args pattern refl)
      ∙ ap (applied function node) (map_map (λ (arg : Parted). arg.value row) parted args)
      ∙ ap (applied function node) (map_all (λ (expr : TypedExpr). (parted expr).value row ≡ value_of_typed expr row) (λ expr. (parted expr).value row) (λ expr. value_of_typed expr row) (λ expr is. is) args all)
      ∙ sym (value_of_call _ row function args pattern refl);
})

abbrev values_on : List Parted → NumberedRow → List Valued
values_on args row = map (λ (arg : Parted). arg.value row) args

failures_at-append : (node : NodeId) (xs ys : List Cause) → failures_at node (xs ++ ys) ≡ failures_at node xs ++ failures_at node ys
failures_at-append node xs ys = map-append (λ (cause : Cause). record { node = node; cause = cause }) xs ys

-- parts that are reached ------------------------------------------------------------------------------------------------------------

module _ (test : NumberedRow → Bool) (row : NumberedRow) where
  reached_there : test row ≡ true → (parts : List FalliblePart) → on (map (reached test) parts) row ≡ on parts row
  reached_there is [] = refl
  reached_there is (part ∷ parts) = λ i. ap (λ (b : Bool). if b then part row else []) is i ∷ reached_there is parts i

  fails_there : test row ≡ true → (parts : List FalliblePart) → fails_in (map (reached test) parts) row ≡ fails_in parts row
  fails_there is [] = refl
  fails_there is (part ∷ parts) = λ i. ap (λ (b : Bool). if b then part row else []) is i ++ fails_there is parts i

  fails_nowhere : test row ≡ false → (parts : List FalliblePart) → fails_in (map (reached test) parts) row ≡ []
  fails_nowhere is [] = refl
  fails_nowhere is (part ∷ parts) = λ i. ap (λ (b : Bool). if b then part row else []) is i ++ fails_nowhere is parts i

-- one node on one row -----------------------------------------------------------------------------------------------------------------

module _ (node : NodeId) (row : NumberedRow) where
  -- how many parts fail at the node
  abbrev pub fails : List FalliblePart → ℕ
  fails parts = count_of (fails_at node) (on parts row)

  abbrev pub causes : List Failure → List Cause
  causes failures = causes_at node failures

  -- what the value fails with at the node is what the parts do, where one of them fails at most
  abbrev IsAlike : Parted → Type 0
  IsAlike this = fails this.parts ≤ 1 → causes (this.value row).failures ≡ causes (fails_in this.parts row)

  fails-append : (xs ys : List FalliblePart) → fails (xs ++ ys) ≡ fails xs + fails ys
  fails-append xs ys = ap (count_of (fails_at node)) (map-append (λ (part : FalliblePart). part row) xs ys) ∙ count_of-append (fails_at node) (on xs row) (on ys row)

  caused-append : (xs ys : List FalliblePart) → causes (fails_in (xs ++ ys) row) ≡ causes (fails_in xs row) ++ causes (fails_in ys row)
  caused-append xs ys = ap causes (flat_map-append (λ (part : FalliblePart). part row) xs ys) ∙ causes-append node (fails_in xs row) (fails_in ys row)

  -- parts of which none fails
  pub none_fails : (parts : List FalliblePart) → fails parts ≤ 0 → causes (fails_in parts row) ≡ []
  none_fails [] none = refl
  none_fails (part ∷ parts) none =
      causes-append node (part row) (fails_in parts row)
      ∙ (λ i. uncounted node (part row) (fails parts) none i ++ none_fails parts (omega (arith, none)) i)

  -- a value whose parts do not fail
  alike_none : (this : Parted) → IsAlike this → fails this.parts ≤ 0 → causes (this.value row).failures ≡ []
  alike_none this alike none = alike (omega (arith, none)) ∙ none_fails this.parts none

  module _ (own : NodeId) where
    abbrev own_failures : Rule → List Parted → List Failure
    own_failures rule args = failures_at own (causes_by rule (cells_of (values_on args row)))

    -- arguments that each row reaches
    all_alike : (args : List Parted) → All IsAlike args → fails (parts_of_all args) ≤ 1
        → causes (flat_map (λ (part : Valued). part.failures) (values_on args row)) ≡ causes (fails_in (parts_of_all args) row)
    all_alike [] alike once = refl
    all_alike (arg ∷ args) alike once =
        let split = fails-append arg.parts (parts_of_all args) in
        causes-append node (arg.value row).failures (flat_map (λ (part : Valued). part.failures) (values_on args row))
        ∙ (λ i. All-head IsAlike arg args alike (omega (arith, split, once)) i ++ all_alike args (All-tail IsAlike arg args alike) (omega (arith, split, once)) i)
        ∙ sym (caused-append arg.parts (parts_of_all args))

    -- COALESCE
    abbrev nulls : Parted → NumberedRow → Bool
    nulls arg row = is_null (arg.value row).cell

    abbrev CoalesceAlike : List Parted → Type 0
    CoalesceAlike args = fails (parts_of_coalesce args) ≤ 1 → causes (coalesce_of (values_on args row)).failures ≡ causes (fails_in (parts_of_coalesce args) row)

    coalesce_step : (arg : Parted) (args : List Parted) → IsAlike arg → CoalesceAlike args → (b : Bool) → nulls arg row ≡ b → CoalesceAlike (arg ∷ args)
    coalesce_step arg args alike rest true is once =
        let split = fails-append arg.parts (map (reached (nulls arg)) (parts_of_coalesce args)) in
        let there = ap (count_of (fails_at node)) (reached_there (nulls arg) row is (parts_of_coalesce args)) in
        ap (λ (b : Bool). causes (if b then behind (arg.value row).failures (coalesce_of (values_on args row)) else arg.value row).failures) is
        ∙ causes-append node (arg.value row).failures (coalesce_of (values_on args row)).failures
        ∙ (λ i. alike (omega (arith, split, there, once)) i ++ rest (omega (arith, split, there, once)) i)
        ∙ (λ i. causes (fails_in arg.parts row) ++ causes (sym (fails_there (nulls arg) row is (parts_of_coalesce args)) i))
        ∙ sym (caused-append arg.parts (map (reached (nulls arg)) (parts_of_coalesce args)))
    coalesce_step arg args alike rest false is once =
        let split = fails-append arg.parts (map (reached (nulls arg)) (parts_of_coalesce args)) in
        ap (λ (b : Bool). causes (if b then behind (arg.value row).failures (coalesce_of (values_on args row)) else arg.value row).failures) is
        ∙ alike (omega (arith, split, once))
        ∙ sym (append-nil (causes (fails_in arg.parts row)))
        ∙ (λ i. causes (fails_in arg.parts row) ++ causes (sym (fails_nowhere (nulls arg) row is (parts_of_coalesce args)) i))
        ∙ sym (caused-append arg.parts (map (reached (nulls arg)) (parts_of_coalesce args)))

    coalesce_alike : (args : List Parted) → All IsAlike args → CoalesceAlike args
    coalesce_alike [] alike once = refl
    coalesce_alike (arg ∷ args) alike once =
        coalesce_step arg args (All-head IsAlike arg args alike) (coalesce_alike args (All-tail IsAlike arg args alike)) (nulls arg row) refl once

    -- CASE
    abbrev met : Parted → NumberedRow → Bool
    met condition row = is_met (truth_in (condition.value row).cell)

    abbrev unmet : Parted → NumberedRow → Bool
    unmet condition row = not (met condition row)

    abbrev case_failures : List Parted → List Failure
    case_failures args = failures_at own (case_causes (cells_of (values_on args row)))

    abbrev case_value : List Parted → List Failure
    case_value args = (case_of own (values_on args row)).failures

    -- what a condition fails with itself, and what stands behind it
    abbrev multi : Parted → List Failure
    multi condition = failures_at own (multi_of (condition.value row).cell)

    -- where CASE does not fail itself
    abbrev CaseQuiet : List Parted → Type 0
    CaseQuiet args = fails (parts_of_case args) ≤ 1 → causes (case_failures args) ≡ [] → causes (case_value args) ≡ causes (fails_in (parts_of_case args) row)

    -- where its parts do not fail
    abbrev CaseLoud : List Parted → Type 0
    CaseLoud args = fails (parts_of_case args) ≤ 0 → causes (case_value args) ≡ causes (case_failures args)

    case_opened : (condition part : Parted) (rest : List Parted) (b : Bool) → met condition row ≡ b
        → causes (case_value (condition ∷ part ∷ rest))
        ≡ (causes (condition.value row).failures ++ causes (multi condition)) ++ causes (if b then part.value row else case_of own (values_on rest row)).failures
    case_opened condition part rest b is =
        ap (λ (b : Bool). causes (((condition.value row).failures ++ multi condition) ++ (if b then part.value row else case_of own (values_on rest row)).failures)) is
        ∙ causes-append node ((condition.value row).failures ++ multi condition) (if b then part.value row else case_of own (values_on rest row)).failures
        ∙ ap (λ front. front ++ causes (if b then part.value row else case_of own (values_on rest row)).failures) (causes-append node (condition.value row).failures (multi condition))

    failures_opened : (condition part : Parted) (rest : List Parted) (b : Bool) → met condition row ≡ b
        → causes (case_failures (condition ∷ part ∷ rest)) ≡ causes (multi condition) ++ causes (if b then [] else case_failures rest)
    failures_opened condition part rest b is =
        ap causes (failures_at-append own (multi_of (condition.value row).cell) (if met condition row then [] else case_causes (cells_of (values_on rest row))))
        ∙ causes-append node (multi condition) (failures_at own (if met condition row then [] else case_causes (cells_of (values_on rest row))))
        ∙ ap (λ (b : Bool). causes (multi condition) ++ causes (failures_at own (if b then [] else case_causes (cells_of (values_on rest row))))) is
        ∙ ap (λ behind. causes (multi condition) ++ causes behind) (by_case b)
      where
        by_case : (b : Bool) → failures_at own (if b then [] else case_causes (cells_of (values_on rest row))) ≡ (if b then [] else case_failures rest)
        by_case true = refl
        by_case false = refl

    -- the parts of the part behind a condition, and of the rest
    abbrev there : Parted → Parted → List FalliblePart
    there condition part = map (reached (met condition)) part.parts

    abbrev later : Parted → List Parted → List FalliblePart
    later condition rest = map (reached (unmet condition)) (parts_of_case rest)

    parts_split : (condition part : Parted) (rest : List Parted) → fails (parts_of_case (condition ∷ part ∷ rest)) ≡ fails condition.parts + (fails (there condition part) + fails (later condition rest))
    parts_split condition part rest =
        fails-append condition.parts (there condition part ++ later condition rest) ∙ ap (λ n. fails condition.parts + n) (fails-append (there condition part) (later condition rest))

    caused_split : (condition part : Parted) (rest : List Parted)
        → causes (fails_in (parts_of_case (condition ∷ part ∷ rest)) row)
        ≡ causes (fails_in condition.parts row) ++ (causes (fails_in (there condition part) row) ++ causes (fails_in (later condition rest) row))
    caused_split condition part rest =
        caused-append condition.parts (there condition part ++ later condition rest)
        ∙ ap (λ behind. causes (fails_in condition.parts row) ++ behind) (caused-append (there condition part) (later condition rest))

    quiet_step : (condition part : Parted) (rest : List Parted) → IsAlike condition → IsAlike part → CaseQuiet rest → (b : Bool) → met condition row ≡ b
        → CaseQuiet (condition ∷ part ∷ rest)
    quiet_step condition part rest first second more true is once silent_own =
        let split = parts_split condition part rest in
        let same = ap (count_of (fails_at node)) (reached_there (met condition) row is part.parts) in
        let none = both_nil (causes (multi condition)) [] (sym (failures_opened condition part rest true is) ∙ silent_own) in
        case_opened condition part rest true is
        ∙ ap (λ these. (causes (condition.value row).failures ++ these) ++ causes (part.value row).failures) none.0
        ∙ ap (λ these. these ++ causes (part.value row).failures) (append-nil (causes (condition.value row).failures))
        ∙ (λ i. first (omega (arith, split, same, once)) i ++ second (omega (arith, split, same, once)) i)
        ∙ ap (λ these. causes (fails_in condition.parts row) ++ these) (sym (append-nil (causes (fails_in part.parts row))))
        ∙ (λ i. causes (fails_in condition.parts row) ++ (causes (sym (fails_there (met condition) row is part.parts) i) ++ causes (sym (fails_nowhere (unmet condition) row (ap not is) (parts_of_case rest)) i)))
        ∙ sym (caused_split condition part rest)
    quiet_step condition part rest first second more false is once silent_own =
        let split = parts_split condition part rest in
        let same = ap (count_of (fails_at node)) (reached_there (unmet condition) row (ap not is) (parts_of_case rest)) in
        let none = both_nil (causes (multi condition)) (causes (case_failures rest)) (sym (failures_opened condition part rest false is) ∙ silent_own) in
        case_opened condition part rest false is
        ∙ ap (λ these. (causes (condition.value row).failures ++ these) ++ causes (case_value rest)) none.0
        ∙ ap (λ these. these ++ causes (case_value rest)) (append-nil (causes (condition.value row).failures))
        ∙ (λ i. first (omega (arith, split, same, once)) i ++ more (omega (arith, split, same, once)) none.1 i)
        ∙ (λ i. causes (fails_in condition.parts row) ++ (causes (sym (fails_nowhere (met condition) row is part.parts) i) ++ causes (sym (fails_there (unmet condition) row (ap not is) (parts_of_case rest)) i)))
        ∙ sym (caused_split condition part rest)

    case_quiet : (args : List Parted) → All IsAlike args → CaseQuiet args
    case_quiet [] alike once silent_own = refl
    case_quiet (otherwise ∷ []) alike once silent_own = All-head IsAlike otherwise [] alike once
    case_quiet (condition ∷ part ∷ rest) alike once silent_own =
        let behind_it = All-tail IsAlike condition (part ∷ rest) alike in
        quiet_step condition part rest (All-head IsAlike condition (part ∷ rest) alike) (All-head IsAlike part rest behind_it)
        (case_quiet rest (All-tail IsAlike part rest behind_it)) (met condition row) refl once silent_own

    loud_step : (condition part : Parted) (rest : List Parted) → IsAlike condition → IsAlike part → CaseLoud rest → (b : Bool) → met condition row ≡ b
        → CaseLoud (condition ∷ part ∷ rest)
    loud_step condition part rest first second more true is none =
        let split = parts_split condition part rest in
        let same = ap (count_of (fails_at node)) (reached_there (met condition) row is part.parts) in
        case_opened condition part rest true is
        ∙ (λ i. (alike_none condition first (omega (arith, split, same, none)) i ++ causes (multi condition)) ++ alike_none part second (omega (arith, split, same, none)) i)
        ∙ sym (failures_opened condition part rest true is)
    loud_step condition part rest first second more false is none =
        let split = parts_split condition part rest in
        let same = ap (count_of (fails_at node)) (reached_there (unmet condition) row (ap not is) (parts_of_case rest)) in
        case_opened condition part rest false is
        ∙ (λ i. (alike_none condition first (omega (arith, split, same, none)) i ++ causes (multi condition)) ++ more (omega (arith, split, same, none)) i)
        ∙ sym (failures_opened condition part rest false is)

    case_loud : (args : List Parted) → All IsAlike args → CaseLoud args
    case_loud [] alike none = refl
    case_loud (otherwise ∷ []) alike none = alike_none otherwise (All-head IsAlike otherwise [] alike) none
    case_loud (condition ∷ part ∷ rest) alike none =
        let behind_it = All-tail IsAlike condition (part ∷ rest) alike in
        loud_step condition part rest (All-head IsAlike condition (part ∷ rest) alike) (All-head IsAlike part rest behind_it)
        (case_loud rest (All-tail IsAlike part rest behind_it)) (met condition row) refl none

    -- any function
    abbrev RuleAlike : Rule → List Parted → Type 0
    RuleAlike rule args =
        fails (parts_by rule args) + cond {A = ℕ} (fails_at node (own_failures rule args)) 1 0 ≤ 1
        → causes (applied_by rule own (values_on args row)).failures ≡ causes (fails_in (parts_by rule args) row) ++ causes (own_failures rule args)

    plainly : (args : List Parted) (own_causes : List Cause) → All IsAlike args
        → fails (parts_of_all args) + cond {A = ℕ} (fails_at node (failures_at own own_causes)) 1 0 ≤ 1
        → causes (flat_map (λ (part : Valued). part.failures) (values_on args row) ++ failures_at own own_causes)
        ≡ causes (fails_in (parts_of_all args) row) ++ causes (failures_at own own_causes)
    plainly args own_causes alike once =
        causes-append node (flat_map (λ (part : Valued). part.failures) (values_on args row)) (failures_at own own_causes)
        ∙ ap (λ these. these ++ causes (failures_at own own_causes)) (all_alike args alike (omega (arith, once)))

    case_alike : (args : List Parted) → All IsAlike args → (b : Bool) → fails_at node (case_failures args) ≡ b → RuleAlike conditions args
    case_alike args alike true is once =
        let one = ap (λ (b : Bool). cond {A = ℕ} b 1 0) is in
        case_loud args alike (omega (arith, one, once))
        ∙ ap (λ these. these ++ causes (case_failures args)) (sym (none_fails (parts_of_case args) (omega (arith, one, once))))
    case_alike args alike false is once =
        let none = quiet node (case_failures args) is in
        case_quiet args alike (omega (arith, once)) none
        ∙ sym (append-nil (causes (fails_in (parts_of_case args) row)))
        ∙ ap (λ these. causes (fails_in (parts_of_case args) row) ++ these) (sym none)

    rule_alike : (rule : Rule) (args : List Parted) → All IsAlike args → RuleAlike rule args
    rule_alike (singles function) args alike once = plainly args (causes_by (singles function) (cells_of (values_on args row))) alike once
    rule_alike (each function) args alike once = plainly args (causes_by (each function) (cells_of (values_on args row))) alike once
    rule_alike (list_and_singles function) args alike once = plainly args (causes_by (list_and_singles function) (cells_of (values_on args row))) alike once
    rule_alike (lists function) args alike once = plainly args (causes_by (lists function) (cells_of (values_on args row))) alike once
    rule_alike (tests function) args alike once = plainly args [] alike once
    rule_alike (logic function) args alike once = plainly args (causes_by (logic function) (cells_of (values_on args row))) alike once
    rule_alike (membership function) args alike once = plainly args (causes_by (membership function) (cells_of (values_on args row))) alike once
    rule_alike conditions args alike once = case_alike args alike (fails_at node (case_failures args)) refl once
    rule_alike alternatives args alike once = coalesce_alike args alike (omega (arith, once)) ∙ sym (append-nil (causes (fails_in (parts_of_coalesce args) row)))

  -- expressions -------------------------------------------------------------------------------------------------------------------------

  abbrev ExprAlike : TypedExpr → Type 0
  ExprAlike expr = IsAlike (parted expr)

  call_alike : (own : NodeId) (function : Function) (args : List Parted) → All IsAlike args
      → fails (parts_by (rule_of function) args ++ own_part function own args ∷ []) ≤ 1
      → causes (applied function own (values_on args row)).failures ≡ causes (fails_in (parts_by (rule_of function) args ++ own_part function own args ∷ []) row)
  call_alike own function args alike once =
      let split = fails-append (parts_by (rule_of function) args) (own_part function own args ∷ []) in
      rule_alike own (rule_of function) args alike (omega (arith, split, once))
      ∙ ap (λ these. causes (fails_in (parts_by (rule_of function) args) row) ++ causes these) (sym (append-nil (own_part function own args row)))
      ∙ sym (caused-append (parts_by (rule_of function) args) (own_part function own args ∷ []))

  pub expr_alike : (expr : TypedExpr) → ExprAlike expr
  expr_alike = typed_ind ExprAlike (record {
    constant = λ node kind cell. subst IsAlike (sym (parted_of_constant _ cell refl)) (λ once. refl);
    column = λ node kind id. subst IsAlike (sym (parted_of_column _ id refl)) (λ once. refl);
    apply = λ own kind function args pattern all.
        subst IsAlike (sym (parted_of_call _ function args pattern refl)) (call_alike own function (map parted args) (All-map IsAlike parted args all));
  })

-- what the value of an expression fails with at a node is what its parts do, where one of them fails there at most
pub failures_by_parts : (node : NodeId) (row : NumberedRow) (expr : TypedExpr) → count_of (fails_at node) (on (parted expr).parts row) ≤ 1
    → causes_at node (value_of_typed expr row).failures ≡ causes_at node (fails_in (parted expr).parts row)
failures_by_parts node row expr once = ap (λ (valued : Valued). causes_at node valued.failures) (sym (parted_value row expr)) ∙ expr_alike node row expr once
