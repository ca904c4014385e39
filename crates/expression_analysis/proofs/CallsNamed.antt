-- Calls and conversions, by what their names are found as.
use Rattle.std.proofs.Common.{◌≡◌, ℕ, Bool, true, false, nat_le, cond, List, [], ◌∷◌, map, length, Option, Some, None, Result, Err, refl, ap, sym, subst, ◌∙◌, arith}
use Rattle.std.proofs.lemmas.List.{length-map, append-nil}
use Rattle.std.specs.Prelude.{if◌then◌else◌}
use Rattle.std.specs.List.{list_all}
use Rattle.std.specs.Str.{str_eq_ignore_ascii_case}
use Rattle.std.proofs.lemmas.Bool.{and_parts}
use Rattle.std.proofs.lemmas.Bool.Decides.{nat_tests}
use Rattle.esql_types.specs.declared.places.Span.{Span}
use Rattle.esql_types.specs.declared.names.NodeId.{NodeId}
use Rattle.esql_types.specs.declared.value.Kind.{Kind}
use Rattle.esql_ast.specs.declared.expr.Expr.{Expr}
use Rattle.esql_plan.specs.declared.function.Function.{Function}
use Rattle.esql_plan.specs.declared.function.Function.TheVariants as function
use Rattle.esql_plan.specs.declared.function.AggFunction.{AggFunction}
use Rattle.esql_plan.specs.declared.names.FunctionRow.{FunctionRow}
use Rattle.esql_plan.specs.Names.{entry_in, function_names, function_named}
use Rattle.text_match.specs.declared.patterns.Patterns.{Patterns}
use Rattle.row_semantics.specs.declared.rule.NameRule.TheVariants as rule
use Rattle.row_semantics.specs.Forms.{Part, applied, refused, takes, call_of, call_by, cast_by, part_of}
use Rattle.row_semantics.specs.Kinds.{Judged, judged, and_then, breaks}
use Rattle.row_semantics.specs.Scopes.{Broken}
use Rattle.row_semantics.specs.Typed.{Typing, typing}
use Rattle.row_semantics.specs.Regulars.{Regular}
use Rattle.expression_analysis.specs.declared.error.AnalyzeError.{AnalyzeError}
use Rattle.expression_analysis.specs.declared.error.AnalyzeError.TheVariants as error
use Rattle.expression_analysis.specs.Answers.{regulars_in, regulars_of_parts}
use Rattle.expression_analysis.specs.Calls.{takes_few, FewAreTaken}
use Rattle.expression_analysis.specs.Steps.{Marks, Over, Gives, IsErrorOf, IsAnswer, Readings, readings_at, judgement_over, applied_to, typings, judgeds, regular_parts, kinds_judgement}
use Rattle.expression_analysis.proofs.Judgements.{error_first}
use Rattle.expression_analysis.proofs.Completed.{parts_error}

-- the number of arguments ------------------------------------------------------------------------------------------------------------

abbrev pub call_readings : NodeId → Span → FunctionRow → Bool → List Expr → Readings
call_readings node span row star exprs =
    readings_at node span (call_of row star (typings exprs) span) (call_of row star (judgeds exprs) span) (call_of row star (regular_parts exprs) span)

abbrev pub refused_call : NodeId → Span → Readings
refused_call node span = readings_at node span (refused [] rule.BadArguments span) (refused [] rule.BadArguments span) (refused [] rule.BadArguments span)

module _ (node : NodeId) (span : Span) (row : FunctionRow) (exprs : List Expr) where
  count_in : (R : Type 0) (read : Expr → R) (taken : Bool) → takes row (length exprs) ≡ taken → takes row (length (map read exprs)) ≡ taken
  count_in R read taken is = ap (takes row) (length-map exprs read) ∙ is

  pub call_taken : takes row (length exprs) ≡ true → call_readings node span row false exprs ≡ applied_to node span row.function exprs
  call_taken is = λ i. readings_at node span
      (cond (count_in (Part Typing) (part_of typing) true is i) (applied row.function (typings exprs)) (refused [] rule.BadArguments span))
      (cond (count_in (Part Judged) (part_of judged) true is i) (applied row.function (judgeds exprs)) (refused [] rule.BadArguments span))
      (cond (count_in (Part (List Regular)) (part_of regulars_in) true is i) (applied row.function (regular_parts exprs)) (refused [] rule.BadArguments span))

  pub call_untaken : takes row (length exprs) ≡ false → call_readings node span row false exprs ≡ refused_call node span
  call_untaken is = λ i. readings_at node span
      (cond (count_in (Part Typing) (part_of typing) false is i) (applied row.function (typings exprs)) (refused [] rule.BadArguments span))
      (cond (count_in (Part Judged) (part_of judged) false is i) (applied row.function (judgeds exprs)) (refused [] rule.BadArguments span))
      (cond (count_in (Part (List Regular)) (part_of regulars_in) false is i) (applied row.function (regular_parts exprs)) (refused [] rule.BadArguments span))

-- the rows of functions ----------------------------------------------------------------------------------------------------------------

abbrev at_most_two : Option ℕ → Bool
at_most_two None = false
at_most_two (Some most) = nat_le most 2

abbrev row_is_few : FunctionRow → Bool
row_is_few row = cond (takes_few row.function 3) true (at_most_two row.most)

few_from : (written : Function) (least : ℕ) (most : Option ℕ) → row_is_few (record { function = written; least = least; most = most }) ≡ true → (count : ℕ)
    → takes (record { function = written; least = least; most = most }) count ≡ true → takes_few written count ≡ true
few_from function.MvSort least None is count taken = absurd cc
few_from function.MvSort least (Some most) is count taken =
    let parts = and_parts (nat_le least count) (nat_le count most) taken in
    smaller most count is parts.1
  where
    smaller : (most count : ℕ) → nat_le most 2 ≡ true → nat_le count most ≡ true → nat_le count 2 ≡ true
    smaller most count is also = grind (arith, nat_tests)
few_from written least most is count taken = refl

entry_passes : (test : FunctionRow → Bool) (name : List ℕ) (entries : List (List ℕ × FunctionRow)) (found : FunctionRow) → list_all (λ (entry : List ℕ × FunctionRow). test entry.1) entries ≡ true
    → entry_in entries name ≡ Some found → test found ≡ true
entry_passes test name [] found all is = absurd cc
entry_passes test name (entry ∷ entries) found all is =
    let both = and_parts (test entry.1) (list_all (λ (entry : List ℕ × FunctionRow). test entry.1) entries) all in
    elim (str_eq_ignore_ascii_case name entry.0) as (λ same. cond same (Some entry.1) (entry_in entries name) ≡ Some found → test found ≡ true)
    [ true ↦ λ this. let row : entry.1 ≡ found = cc in ap test (sym row) ∙ both.0 | false ↦ λ other. entry_passes test name entries found both.1 other ] is

pub few_found : (name : List ℕ) (row : FunctionRow) → function_named name ≡ Some row → FewAreTaken row
unfolding function_named
few_found name row is = few_from row.function row.least row.most (entry_passes row_is_few name function_names row refl is)

-- conversions --------------------------------------------------------------------------------------------------------------------------

abbrev pub cast_readings : NodeId → Span → Option Function → Expr → Span → Readings
cast_readings node span found arg at = readings_at node span (cast_by found (part_of typing arg) at) (cast_by found (part_of judged arg) at) (cast_by found (part_of regulars_in arg) at)

-- an error of the argument is one of the conversion
pub cast_error : (over : Over) (node : NodeId) (span : Span) (found : Option Function) (arg : Expr) (at : Span) (before after : Marks) (error : AnalyzeError)
    → IsErrorOf (kinds_judgement over (arg ∷ [])) (regulars_of_parts (regular_parts (arg ∷ []))) before after error
    → IsErrorOf (judgement_over over (cast_readings node span found arg at).judged) (cast_readings node span found arg at).regulars before after error
cast_error over node span (Some written) arg at before after error is = parts_error over (arg ∷ []) node span written before after error is
cast_error over node span None arg at before after error is =
    subst (λ (these : List Regular). IsErrorOf (judgement_over over (cast_readings node span None arg at).judged) these before after error) (append-nil (regulars_of_parts (regular_parts (arg ∷ []))))
    (error_first (List Kind) Kind (kinds_judgement over (arg ∷ [])) (λ kinds accepts. breaks rule.BadKind at) (regulars_of_parts (regular_parts (arg ∷ []))) [] before after error is)

-- a name that is no kind, behind an argument that breaks no rule
pub cast_refused : (over : Over) (node : NodeId) (span : Span) (arg : Expr) (at : Span) (old new : Patterns) (before after : Marks) (kinds : List Kind) → Gives (kinds_judgement over (arg ∷ [])) kinds → after ≡ before
    → IsAnswer (cast_readings node span None arg at) over old new before after (Err (error.Broken rule.BadKind at))
cast_refused over node span arg at old new before after kinds gives same =
    (ap (λ (told : Result (List Kind) Broken). and_then told (λ (these : List Kind). breaks {A = Kind} rule.BadKind at)) gives.accepted, same)

-- calls --------------------------------------------------------------------------------------------------------------------------------

abbrev pub named_readings : NodeId → Span → Option FunctionRow → Option AggFunction → Span → Bool → List Expr → Readings
named_readings node span found other name star exprs =
    readings_at node span (call_by found other name star (typings exprs) span) (call_by found other name star (judgeds exprs) span) (call_by found other name star (regular_parts exprs) span)

-- IN has any number of items
pub few_within : (negated : Bool) (count : ℕ) → takes_few (if negated then function.NotIn else function.In) count ≡ true
few_within true count = refl
few_within false count = refl
