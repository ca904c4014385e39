use Rattle.std.proofs.Common.{◌≡◌, List, Some, None, refl, ap, sym, ◌∙◌}
use Rattle.std.specs.Option.{option_copied}
use Rattle.std.proofs.lemmas.Result.{err_from_is_err_and}
use Rattle.esql_types.specs.declared.places.Span.{Span}
use Rattle.esql_plan.specs.Signatures.{misfit, kind_of_call}
use Rattle.row_semantics.specs.Forms.{function_in_plan, arguments_in_plan}
use Rattle.row_semantics.specs.Kinds.{wrong_literal, first_place}
use Rattle.expression_analysis.specs.Calls.{parts_at, place_of}
use Rattle.expression_analysis.specs.Steps.{marks_of, kinds_in}
use Rattle.expression_analysis.proofs.Placed.{kinds_in_plan, misplaced, pattern_error, completed_is}
use Rattle.expression_analysis.proofs.calls.completed.Goals as goal

pub returns-in_err-kinds : goal.returns-in_err-kinds
returns-in_err-kinds g c = let p = err_from_is_err_and c.from_residual.result c.from_residual.ensures.1 in rw (p.1, p.2) refl

pub same-args : goal.same-args
same-args g c = refl

pub returns-in-Some : goal.returns-in-Some
returns-in-Some g c =
    let literal = option_copied c.args.literal in
    let function = c.args.function in
    let parts = c.args.parts in
    let wrong : c.wrong_literal-wrong.result ≡ wrong_literal function (parts_at parts.spans literal) =
    c.wrong_literal-wrong.ensures ∙ ap (λ (spans : List Span). wrong_literal function (parts_at spans literal)) c.as_slice.ensures in
    let in_plan : c.function_in_plan-in_plan.result ≡ function_in_plan function (parts_at parts.spans literal) =
    c.function_in_plan-in_plan.ensures ∙ ap (λ (spans : List Span). function_in_plan function (parts_at spans literal)) c.as_slice-2.ensures in
    let kinds : c.as_slice-4.result.now ≡ arguments_in_plan function (kinds_in parts.args) =
    c.as_slice-4.ensures ∙ c.in_ok-kinds.ensures ∙ ap kinds_in (c.as_slice-3.ensures ∙ c.arguments_in_plan-args.ensures) ∙ kinds_in_plan function parts.args in
    let found : Some c.in-Some.place ≡ place_of function parts.spans literal (kinds_in parts.args) =
    c.in-Some.ensures ∙ (λ i. first_place ((c.misfit.ensures ∙ (λ j. misfit (in_plan j) (kinds j))) i) (wrong i)) in
    (misplaced function parts.spans literal (kinds_in parts.args) c.args.at.span c.in-Some.place c.as_slice-in-Some.result.now c.span_at.result c.as_slice-in-Some.ensures c.span_at.ensures found, refl)

pub returns-in_err-pattern : goal.returns-in_err-pattern
returns-in_err-pattern g c =
    let literal = option_copied c.args.literal in
    let function = c.args.function in
    let parts = c.args.parts in
    let wrong : c.wrong_literal-wrong.result ≡ wrong_literal function (parts_at parts.spans literal) =
    c.wrong_literal-wrong.ensures ∙ ap (λ (spans : List Span). wrong_literal function (parts_at spans literal)) c.as_slice.ensures in
    let in_plan : c.function_in_plan-in_plan.result ≡ function_in_plan function (parts_at parts.spans literal) =
    c.function_in_plan-in_plan.ensures ∙ ap (λ (spans : List Span). function_in_plan function (parts_at spans literal)) c.as_slice-2.ensures in
    let kinds : c.as_slice-4.result.now ≡ arguments_in_plan function (kinds_in parts.args) =
    c.as_slice-4.ensures ∙ c.in_ok-kinds.ensures ∙ ap kinds_in (c.as_slice-3.ensures ∙ c.arguments_in_plan-args.ensures) ∙ kinds_in_plan function parts.args in
    let found : None ≡ place_of function parts.spans literal (kinds_in parts.args) =
    sym (c.in_default.is) ∙ c.first_place.ensures ∙ (λ i. first_place ((c.misfit.ensures ∙ (λ j. misfit (in_plan j) (kinds j))) i) (wrong i)) in
    let p = err_from_is_err_and c.from_residual-in_err-pattern.result c.from_residual-in_err-pattern.ensures.1 in
    rw (p.1, p.2) (pattern_error function parts.spans literal (kinds_in parts.args) c.args.at.span c.as_slice-5.result.now c.args.patterns.now c.read_pattern.new.patterns
    (marks_of g.M.Maker.refused g.M.Maker.last c.args.maker.now) (marks_of g.M.Maker.refused g.M.Maker.last c.read_pattern.new.maker) c.in_err-pattern.field-0.0 found c.as_slice-5.ensures c.in_err-pattern.ensures)

pub returns : goal.returns
returns g c =
    let literal = option_copied c.args.literal in
    let function = c.args.function in
    let parts = c.args.parts in
    let wrong : c.wrong_literal-wrong.result ≡ wrong_literal function (parts_at parts.spans literal) =
    c.wrong_literal-wrong.ensures ∙ ap (λ (spans : List Span). wrong_literal function (parts_at spans literal)) c.as_slice.ensures in
    let in_plan : c.function_in_plan-in_plan.result ≡ function_in_plan function (parts_at parts.spans literal) =
    c.function_in_plan-in_plan.ensures ∙ ap (λ (spans : List Span). function_in_plan function (parts_at spans literal)) c.as_slice-2.ensures in
    let kinds : c.as_slice-4.result.now ≡ arguments_in_plan function (kinds_in parts.args) =
    c.as_slice-4.ensures ∙ c.in_ok-kinds.ensures ∙ ap kinds_in (c.as_slice-3.ensures ∙ c.arguments_in_plan-args.ensures) ∙ kinds_in_plan function parts.args in
    let found : None ≡ place_of function parts.spans literal (kinds_in parts.args) =
    sym (c.in_default.is) ∙ c.first_place.ensures ∙ (λ i. first_place ((c.misfit.ensures ∙ (λ j. misfit (in_plan j) (kinds j))) i) (wrong i)) in
    let own_kinds : c.as_slice-6.result.now ≡ arguments_in_plan function (kinds_in parts.args) =
    c.as_slice-6.ensures ∙ c.in_ok-kinds.ensures ∙ ap kinds_in (c.as_slice-3.ensures ∙ c.arguments_in_plan-args.ensures) ∙ kinds_in_plan function parts.args in
    let kind : c.kind_of_call.result ≡ kind_of_call (function_in_plan function (parts_at parts.spans literal)) (arguments_in_plan function (kinds_in parts.args)) =
    c.kind_of_call.ensures ∙ (λ i. kind_of_call (in_plan i) (own_kinds i)) in (
      completed_is c.args.at.node function parts literal c.args.at.span c.args.patterns.now c.read_pattern.new.patterns c.function_in_plan-in_plan.result c.arguments_in_plan-args.result c.kind_of_call.result
          c.in_ok-pattern.pattern c.as_slice-5.result.now in_plan c.arguments_in_plan-args.ensures kind found c.as_slice-5.ensures c.in_ok-pattern.ensures.0,
      c.in_ok-pattern.ensures.1,
    )
