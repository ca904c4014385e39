use Rattle.std.proofs.Common.{rules, ◌≡◌, ℕ, ◌+◌, ◌<◌, Bool, true, false, List, [], ◌∷◌, take, drop, length, Option, Some, None, Err, refl, ap, sym, subst, ◌∙◌, arith}
use Rattle.std.proofs.lemmas.List.{take_all}
use Rattle.std.proofs.lemmas.Result.{err_from_is_err_and}
use Rattle.esql_types.specs.declared.value.Value.{Value}
use Rattle.esql_ast.specs.declared.expr.Expr.{Expr, the_lemmas}
use Rattle.esql_ast.specs.declared.expr.Form.TheViews.{outs-Constant, outs-List, outs-Column, outs-Group, outs-Call, outs-Minus, outs-Not, outs-Binary, outs-Within, outs-Like, outs-IsNull, outs-Cast}
use Rattle.esql_ast.specs.declared.expr.Form.TheVariants.{Constant, List as Listed, Column, Group, Call, Minus, Not, Binary, Within, Like, IsNull, Cast}
use Rattle.esql_plan.specs.declared.function.Function.{Function}
use Rattle.esql_plan.specs.declared.function.Function.TheVariants as function
use Rattle.esql_plan.specs.declared.function.AggFunction.{AggFunction}
use Rattle.esql_plan.specs.declared.names.FunctionRow.{FunctionRow}
use Rattle.esql_plan.specs.Names.{function_named, aggregate_named, cast_named}
use Rattle.text_match.specs.declared.patterns.Patterns.{Patterns}
use Rattle.row_semantics.specs.declared.rule.NameRule.TheVariants as rule
use Rattle.row_semantics.specs.Forms.{function_of, like_function, constant_in, list_in_kind, kind_of_list, takes}
use Rattle.row_semantics.specs.Typed.{visible_named}
use Rattle.std.specs.Prelude.{slice_get, if◌then◌else◌}
use Rattle.std.specs.Option.{option_copied}
use Rattle.expression_analysis.specs.declared.error.AnalyzeError.TheVariants as error
use Rattle.expression_analysis.specs.Calls.{second_literal, takes_few}
use Rattle.expression_analysis.specs.Steps.{Readings, Over, marks_of, over_of, standing_of, aggregate_of, judgement_over, IsErrorOf, IsTyped, readings_of, applied_to, pattern_expr, judgeds, IsAnswer, AreAnswer, AreTyped, IsPlainAnswer, constant_or_rule, column_or_rule, literal_of_expr, literal_found}
use Rattle.expression_analysis.proofs.Aggregated.{alone_is, nested_answers, star_answers, uncounted_answers, argument_error, argument_answers}
use Rattle.expression_analysis.proofs.CallsNamed.{call_readings, call_taken, call_untaken, few_found, cast_readings, cast_error, cast_refused, few_within, named_readings}
use Rattle.expression_analysis.proofs.Completed.{completes, parts_error, few_parts}
use Rattle.expression_analysis.proofs.Leaves.{list_answers, constant_answers, column_answers, refused_answers}
use Rattle.expression_analysis.proofs.PartsTyped.{typed_one, typed_none, typed_both, error_one, error_before, error_behind, taken_more, cut_at}
use Rattle.expression_analysis.proofs.PatternParts.{typed_pattern, pattern_literal, second_found, next_found, like_read}
use Rattle.expression_analysis.proofs.Seens.{readings_opened}
use Rattle.expression_analysis.proofs.expression.+typed.Goals as goal
use Rattle.expression_analysis.proofs.expression.+typed.Goals.{call_of-then-star-via-then-star, call_of-then-star-via-else-star+then-not-takes}

pub add-typed-requires : goal.add-typed-requires
add-typed-requires g t c κs within = search (rules, the_lemmas)

pub add-returns-in_err-part : goal.add-returns-in_err-part
add-returns-in_err-part g t c =
    let before = marks_of g.M.Maker.refused g.M.Maker.last c.args.maker.now in
    let after = marks_of g.M.Maker.refused g.M.Maker.last c.typed.new.maker in
    let p = err_from_is_err_and c.from_residual.result c.from_residual.ensures.1 in
    rw (p.1, p.2) (error_one (over_of c.args.sight.now) c.args.expr.now before after c.in_err-part.field-0.0 c.in_err-part.ensures)

pub add-returns-in_err-push : goal.add-returns-in_err-push
add-returns-in_err-push g t c =
    let p = err_from_is_err_and c.from_residual-in_err-push.result c.from_residual-in_err-push.ensures.1 in
    rw (p.1, p.2) c.in_ok-part.ensures.1

pub add-returns : goal.add-returns
add-returns g t c =
    (typed_one (over_of c.args.sight.now) c.args.expr.now c.args.parts.now c.push.new.self c.args.patterns.now c.typed.new.patterns c.in_ok-part.part c.in_ok-push.ensures.args c.in_ok-push.ensures.spans c.in_ok-part.ensures.0, c.in_ok-part.ensures.1)

pub add_all-loop-expr-init : goal.add_all-loop-expr-init
add_all-loop-expr-init g t c =
    record { are = typed_none (over_of c.args.sight.now) c.args.parts.now c.args.patterns.now; quiet = refl }

pub add_all-loop-expr-preserved : goal.add_all-loop-expr-preserved
add_all-loop-expr-preserved g t c =
    let exprs = c.args.exprs.now in
    let place = c.loop-expr.expr-index in
    let expr = c.expr-item.result in
    let within : place < length exprs = omega arith in
    record {
      are = subst (λ (these : List Expr). AreTyped (over_of c.args.sight.now) these c.args.parts.now c.add.new.parts c.args.patterns.now c.add.new.patterns) (sym (taken_more exprs place expr within c.expr-item.is))
          (typed_both (over_of c.args.sight.now) (take place exprs) (expr ∷ []) c.args.parts.now c.loop-expr.parts c.add.new.parts c.args.patterns.now c.loop-expr.patterns c.add.new.patterns
          c.loop-expr.invariant.are c.in_ok-add.ensures.0);
      quiet = c.in_ok-add.ensures.1 ∙ c.loop-expr.invariant.quiet;
    }

pub add_all-returns : goal.add_all-returns
add_all-returns g t c =
    let all : take c.loop-expr.expr-index c.args.exprs.now ≡ c.args.exprs.now = take_all c.loop-expr.expr-index c.args.exprs.now (omega arith) in
    (subst (λ (these : List Expr). AreTyped (over_of c.args.sight.now) these c.args.parts.now c.loop-expr.parts c.args.patterns.now c.loop-expr.patterns) all c.loop-expr.invariant.are, c.loop-expr.invariant.quiet)

pub add_all-returns-in_err-add : goal.add_all-returns-in_err-add
add_all-returns-in_err-add g t c =
    let exprs = c.args.exprs.now in
    let place = c.loop-expr.expr-index in
    let expr = c.expr-item.result in
    let within : place < length exprs = omega arith in
    let start = marks_of g.M.Maker.refused g.M.Maker.last c.args.maker.now in
    let before = marks_of g.M.Maker.refused g.M.Maker.last c.loop-expr.maker in
    let after = marks_of g.M.Maker.refused g.M.Maker.last c.add.new.maker in
    let error = c.in_err-add.field-0.0 in
    let p = err_from_is_err_and c.from_residual.result c.from_residual.ensures.1 in
    rw (p.1, p.2) (subst (λ (these : List Expr). AreAnswer {U = Unit {0}} (over_of c.args.sight.now) these c.args.parts.now c.args.parts.now c.args.patterns.now c.args.patterns.now start after (Err error)) (cut_at exprs place expr within c.expr-item.is)
    (error_behind (over_of c.args.sight.now) (take place exprs) (expr ∷ drop (place + 1) exprs) _ start before after error c.loop-expr.invariant.are.gives c.loop-expr.invariant.quiet
    (error_before (over_of c.args.sight.now) (expr ∷ []) (drop (place + 1) exprs) before after error c.in_err-add.ensures)))

pub unary-add-requires : goal.unary-add-requires
unary-add-requires g t c κs within = search (rules, the_lemmas)

pub unary-returns-in_err-add : goal.unary-returns-in_err-add
unary-returns-in_err-add g t c =
    let before = marks_of g.M.Maker.refused g.M.Maker.last c.args.maker.now in
    let after = marks_of g.M.Maker.refused g.M.Maker.last c.add.new.maker in
    let columns = (over_of c.args.sight.now) in
    let error = c.in_err-add.field-0.0 in
    let p = err_from_is_err_and c.from_residual.result c.from_residual.ensures.1 in
    rw (p.1, p.2) (subst (λ (arg : Expr). IsAnswer (applied_to c.args.at.node c.args.at.span c.args.function (arg ∷ [])) columns c.args.patterns.now c.add.new.patterns before after (Err error)) c.get.ensures
    (parts_error columns (c.get.result.now ∷ []) c.args.at.node c.args.at.span c.args.function before after error c.in_err-add.ensures))

pub unary-returns : goal.unary-returns
unary-returns g t c =
    let before = marks_of g.M.Maker.refused g.M.Maker.last c.args.maker.now in
    let after = marks_of g.M.Maker.refused g.M.Maker.last c.completed.new.maker in
    let at_node = c.args.at.node in
    let at_span = c.args.at.span in
    subst (λ (arg : Expr). IsAnswer (applied_to at_node at_span c.args.function (arg ∷ [])) (over_of c.args.sight.now) c.args.patterns.now c.completed.new.patterns before after c.completed.result) c.get.ensures
    (completes (over_of c.args.sight.now) (c.get.result.now ∷ []) at_node at_span c.args.function c.new-parts.result c.add.new.parts None c.args.patterns.now c.add.new.patterns before (marks_of g.M.Maker.refused g.M.Maker.last c.add.new.maker) c.new-parts.ensures.args c.new-parts.ensures.spans
    c.in_ok-add.ensures.0 c.in_ok-add.ensures.1 refl (few_parts c.args.function 1 refl) c.completed.new.patterns after c.completed.result c.completed.ensures)

pub like-add-requires : goal.like-add-requires
like-add-requires g t c κs within = search (rules, the_lemmas)

pub like-fact_in-literal : goal.like-fact_in-literal
like-fact_in-literal g t c = search rules

pub like-returns-in_err-add : goal.like-returns-in_err-add
like-returns-in_err-add g t c =
    let before = marks_of g.M.Maker.refused g.M.Maker.last c.args.maker.now in
    let after = marks_of g.M.Maker.refused g.M.Maker.last c.add.new.maker in
    let pattern : Expr = pattern_expr c.args.at.node c.args.pattern.now in
    let columns = (over_of c.args.sight.now) in
    let error = c.in_err-add.field-0.0 in
    let p = err_from_is_err_and c.from_residual.result c.from_residual.ensures.1 in
    rw (p.1, p.2) (subst (λ (left : Expr). IsAnswer (applied_to c.args.at.node c.args.at.span c.args.function (left ∷ pattern ∷ [])) columns c.args.patterns.now c.add.new.patterns before after (Err error)) c.get.ensures
    (parts_error columns (c.get.result.now ∷ pattern ∷ []) c.args.at.node c.args.at.span c.args.function before after error
    (error_before columns (c.get.result.now ∷ []) (pattern ∷ []) before after error c.in_err-add.ensures)))

pub like-returns-in_err-push_pattern : goal.like-returns-in_err-push_pattern
like-returns-in_err-push_pattern g t c =
    let p = err_from_is_err_and c.from_residual-in_err-push_pattern.result c.from_residual-in_err-push_pattern.ensures.1 in
    rw (p.1, p.2) c.in_ok-add.ensures.1

pub like-returns : goal.like-returns
like-returns g t c =
    let before = marks_of g.M.Maker.refused g.M.Maker.last c.args.maker.now in
    let after = marks_of g.M.Maker.refused g.M.Maker.last c.completed.new.maker in
    let at_node = c.args.at.node in
    let at_span = c.args.at.span in
    let pattern : Expr = pattern_expr c.args.at.node c.args.pattern.now in
    let between = marks_of g.M.Maker.refused g.M.Maker.last c.add.new.maker in
    let both = typed_both (over_of c.args.sight.now) (c.get.result.now ∷ []) (pattern ∷ []) c.new-parts.result c.add.new.parts c.push_pattern.new.self c.args.patterns.now c.add.new.patterns c.add.new.patterns c.in_ok-add.ensures.0
    (typed_pattern (over_of c.args.sight.now) c.args.at.node c.args.pattern.now c.add.new.parts c.push_pattern.new.self c.add.new.patterns c.in_ok-push_pattern.ensures.args c.in_ok-push_pattern.ensures.spans) in
    let literal : Some c.as_str.result.now ≡ second_literal (judgeds (c.get.result.now ∷ pattern ∷ [])) = ap Some c.as_str.ensures ∙ sym (pattern_literal (over_of c.args.sight.now) c.args.at.node c.args.pattern.now) in
    subst (λ (left : Expr). IsAnswer (applied_to at_node at_span c.args.function (left ∷ pattern ∷ [])) (over_of c.args.sight.now) c.args.patterns.now c.completed.new.patterns before after c.completed.result) c.get.ensures
    (completes (over_of c.args.sight.now) (c.get.result.now ∷ pattern ∷ []) at_node at_span c.args.function c.new-parts.result c.push_pattern.new.self (Some c.as_str.result.now) c.args.patterns.now c.add.new.patterns before between c.new-parts.ensures.args c.new-parts.ensures.spans
    both c.in_ok-add.ensures.1 literal (few_parts c.args.function 2 refl) c.completed.new.patterns after c.completed.result c.completed.ensures)

pub cast-add-requires : goal.cast-add-requires
cast-add-requires g t c κs within = search (rules, the_lemmas)

pub cast-cast_function-requires-text-name : goal.cast-cast_function-requires-text-name
cast-cast_function-requires-text-name g t c κs = search rules

pub cast-returns-in_err-add : goal.cast-returns-in_err-add
cast-returns-in_err-add g t c =
    let before = marks_of g.M.Maker.refused g.M.Maker.last c.args.maker.now in
    let after = marks_of g.M.Maker.refused g.M.Maker.last c.add.new.maker in
    let columns = (over_of c.args.sight.now) in
    let error = c.in_err-add.field-0.0 in
    let found = cast_named c.args.kind.now.name in
    let p = err_from_is_err_and c.from_residual.result c.from_residual.ensures.1 in
    rw (p.1, p.2) (subst (λ (arg : Expr). IsAnswer (cast_readings c.args.at.node c.args.at.span found arg c.args.kind.now.span) columns c.args.patterns.now c.add.new.patterns before after (Err error)) c.get.ensures
    (cast_error columns c.args.at.node c.args.at.span found c.get.result.now c.args.kind.now.span before after error c.in_err-add.ensures))

pub cast-returns-in-Some : goal.cast-returns-in-Some
cast-returns-in-Some g t c =
    let before = marks_of g.M.Maker.refused g.M.Maker.last c.args.maker.now in
    let after = marks_of g.M.Maker.refused g.M.Maker.last c.completed.new.maker in
    let at_node = c.args.at.node in
    let at_span = c.args.at.span in
    let found : Some c.in-Some.function ≡ cast_named c.args.kind.now.name = c.in-Some.ensures ∙ ap cast_named c.as_str.ensures in
    subst (λ (arg : Expr). IsAnswer (cast_readings at_node at_span (cast_named c.args.kind.now.name) arg c.args.kind.now.span) (over_of c.args.sight.now) c.args.patterns.now c.completed.new.patterns before after c.completed.result) c.get.ensures
    (subst (λ (named : Option Function). IsAnswer (cast_readings at_node at_span named c.get.result.now c.args.kind.now.span) (over_of c.args.sight.now) c.args.patterns.now c.completed.new.patterns before after c.completed.result) found
    (completes (over_of c.args.sight.now) (c.get.result.now ∷ []) at_node at_span c.in-Some.function c.new-parts.result c.add.new.parts None c.args.patterns.now c.add.new.patterns before (marks_of g.M.Maker.refused g.M.Maker.last c.add.new.maker) c.new-parts.ensures.args c.new-parts.ensures.spans
    c.in_ok-add.ensures.0 c.in_ok-add.ensures.1 refl (few_parts c.in-Some.function 1 refl) c.completed.new.patterns after c.completed.result c.completed.ensures))

pub cast-returns-in-None : goal.cast-returns-in-None
cast-returns-in-None g t c =
    let before = marks_of g.M.Maker.refused g.M.Maker.last c.args.maker.now in
    let after = marks_of g.M.Maker.refused g.M.Maker.last c.add.new.maker in
    let node = c.args.at.node in
    let span = c.args.at.span in
    let found : None ≡ cast_named c.args.kind.now.name = c.in-None.ensures ∙ ap cast_named c.as_str.ensures in
    rw c.broken.ensures (subst (λ (arg : Expr). IsAnswer (cast_readings node span (cast_named c.args.kind.now.name) arg c.args.kind.now.span) (over_of c.args.sight.now) c.args.patterns.now c.add.new.patterns before after (Err (error.Broken rule.BadKind c.args.kind.now.span))) c.get.ensures
    (subst (λ (named : Option Function). IsAnswer (cast_readings node span named c.get.result.now c.args.kind.now.span) (over_of c.args.sight.now) c.args.patterns.now c.add.new.patterns before after (Err (error.Broken rule.BadKind c.args.kind.now.span))) found
    (cast_refused (over_of c.args.sight.now) node span c.get.result.now c.args.kind.now.span c.args.patterns.now c.add.new.patterns before after _ c.in_ok-add.ensures.0.gives c.in_ok-add.ensures.1)))

pub call-find_function-requires-text-name : goal.call-find_function-requires-text-name
call-find_function-requires-text-name g t c κs = search rules

pub call-find_aggregate-requires-text-name : goal.call-find_aggregate-requires-text-name
call-find_aggregate-requires-text-name g t c κs = search rules

pub call-call_of-requires : goal.call-call_of-requires
call-call_of-requires g t c κs within =
    let found : function_named c.args.function.now.name ≡ Some c.in-Some-default.row = ap function_named (sym c.as_str-name.ensures) ∙ sym c.find_function.ensures ∙ c.in-Some-default.is-0 in
    (search (rules, the_lemmas), (search (rules, the_lemmas), few_found c.args.function.now.name c.in-Some-default.row found))

pub call-returns-in-Some-default : goal.call-returns-in-Some-default
call-returns-in-Some-default g t c =
    let before = marks_of g.M.Maker.refused g.M.Maker.last c.args.maker.now in
    let after = marks_of g.M.Maker.refused g.M.Maker.last c.call_of.new.maker in
    let found : Some c.in-Some-default.row ≡ function_named c.args.function.now.name = sym c.in-Some-default.is-0 ∙ c.find_function.ensures ∙ ap function_named c.as_str-name.ensures in
    subst (λ (named : Option FunctionRow). IsAnswer (named_readings c.args.at.node c.args.at.span named (aggregate_named c.args.function.now.name) c.args.function.now.span c.args.star c.args.args.now) (over_of c.args.sight.now) c.args.patterns.now c.call_of.new.patterns before after c.call_of.result) found c.call_of.ensures

pub call-aggregate-requires : goal.call-aggregate-requires
call-aggregate-requires g t c κs within = search (rules, the_lemmas)

pub call-returns-in-None-Some : goal.call-returns-in-None-Some
call-returns-in-None-Some g t c =
    let before = marks_of g.M.Maker.refused g.M.Maker.last c.args.maker.now in
    let after = marks_of g.M.Maker.refused g.M.Maker.last c.aggregate.new.maker in
    let calls : None ≡ function_named c.args.function.now.name = sym c.in-None-Some.is-0 ∙ c.find_function.ensures ∙ ap function_named c.as_str-name.ensures in
    let aggregates : Some c.in-None-Some.found ≡ aggregate_named c.args.function.now.name = sym c.in-None-Some.is-1 ∙ c.find_aggregate.ensures ∙ ap aggregate_named c.as_str-name.ensures in
    subst (λ (named : Option FunctionRow). IsAnswer (named_readings c.args.at.node c.args.at.span named (aggregate_named c.args.function.now.name) c.args.function.now.span c.args.star c.args.args.now) (over_of c.args.sight.now) c.args.patterns.now c.args.patterns.now before after c.aggregate.result) calls
    (subst (λ (named : Option AggFunction). IsAnswer (named_readings c.args.at.node c.args.at.span None named c.args.function.now.span c.args.star c.args.args.now) (over_of c.args.sight.now) c.args.patterns.now c.args.patterns.now before after c.aggregate.result) aggregates (c.aggregate.ensures c.args.patterns.now))

pub call-returns-in-None-None : goal.call-returns-in-None-None
call-returns-in-None-None g t c =
    let before = marks_of g.M.Maker.refused g.M.Maker.last c.args.maker.now in
    let after = before in
    let calls : None ≡ function_named c.args.function.now.name = sym c.in-None-None.is-0 ∙ c.find_function.ensures ∙ ap function_named c.as_str-name.ensures in
    let aggregates : None ≡ aggregate_named c.args.function.now.name = sym c.in-None-None.is-1 ∙ c.find_aggregate.ensures ∙ ap aggregate_named c.as_str-name.ensures in
    rw c.broken.ensures (subst (λ (named : Option FunctionRow). IsAnswer (named_readings c.args.at.node c.args.at.span named (aggregate_named c.args.function.now.name) c.args.function.now.span c.args.star c.args.args.now) (over_of c.args.sight.now) c.args.patterns.now c.args.patterns.now before after (Err (error.Broken rule.UnknownFunction c.args.function.now.span))) calls
    (subst (λ (named : Option AggFunction). IsAnswer (named_readings c.args.at.node c.args.at.span None named c.args.function.now.span c.args.star c.args.args.now) (over_of c.args.sight.now) c.args.patterns.now c.args.patterns.now before after (Err (error.Broken rule.UnknownFunction c.args.function.now.span))) aggregates (refl, refl)))

pub aggregate-typed-requires : goal.aggregate-typed-requires
aggregate-typed-requires g t c κs within = search (rules, the_lemmas)

pub aggregate-returns-then-not-sight : goal.aggregate-returns-then-not-sight
aggregate-returns-then-not-sight g t c patterns =
    let marks = marks_of g.M.Maker.refused g.M.Maker.last c.args.maker.now in
    rw c.broken.ensures (nested_answers c.args.at.node c.args.at.span c.args.function c.args.star c.args.args.now (over_of c.args.sight.now) patterns marks (ap standing_of c.if-not-sight.true))

pub aggregate-returns-then-star : goal.aggregate-returns-then-star
aggregate-returns-then-star g t c patterns =
    let marks = marks_of g.M.Maker.refused g.M.Maker.last c.args.maker.now in
    subst (λ (star : Bool). IsAnswer (aggregate_of c.args.at.node c.args.at.span c.args.function star c.args.args.now) (over_of c.args.sight.now) patterns patterns marks marks c.star_call.result) (sym c.if-star.true)
    (star_answers c.args.at.node c.args.at.span c.args.function c.args.args.now (over_of c.args.sight.now) patterns marks (ap standing_of c.if-not-sight.false) c.star_call.result c.star_call.ensures)

pub aggregate-returns-in_err-argument : goal.aggregate-returns-in_err-argument
aggregate-returns-in_err-argument g t c patterns =
    let before = marks_of g.M.Maker.refused g.M.Maker.last c.args.maker.now in
    let after = marks_of g.M.Maker.refused g.M.Maker.last c.typed.new.maker in
    let over = over_of c.args.sight.now in
    let error = c.in_err-argument.field-0.0 in
    let arg : Expr = c.index-as_slice-0.result in
    let alone : arg ∷ [] ≡ c.args.args.now = alone_is c.as_slice.result.now arg (ap length c.as_slice.ensures ∙ sym c.len.ensures ∙ c.if-len-ne1.false) c.index-as_slice-0.is ∙ c.as_slice.ensures in
    let p = err_from_is_err_and c.from_residual.result c.from_residual.ensures.1 in
    rw (p.1, p.2) (subst (λ (star : Bool). IsAnswer (aggregate_of c.args.at.node c.args.at.span c.args.function star c.args.args.now) over patterns patterns before after (Err error)) (sym c.if-star.false)
    (subst (λ (exprs : List Expr). IsAnswer (aggregate_of c.args.at.node c.args.at.span c.args.function false exprs) over patterns patterns before after (Err error)) alone
    (argument_error c.args.at.node c.args.at.span c.args.function arg over (ap standing_of c.if-not-sight.false) before after error
    (subst (λ (these : Over). IsErrorOf (judgement_over these (readings_of arg).judged) (readings_of arg).regulars before after error) c.within_aggregate-within.ensures c.in_err-argument.ensures))))

pub aggregate-returns : goal.aggregate-returns
aggregate-returns g t c patterns =
    let before = marks_of g.M.Maker.refused g.M.Maker.last c.args.maker.now in
    let after = marks_of g.M.Maker.refused g.M.Maker.last c.typed.new.maker in
    let over = over_of c.args.sight.now in
    let arg : Expr = c.index-as_slice-0.result in
    let none : Patterns = record { whole = c.new.result; free = c.new-2.result } in
    let own = c.in_ok-argument.argument in
    let alone : arg ∷ [] ≡ c.args.args.now = alone_is c.as_slice.result.now arg (ap length c.as_slice.ensures ∙ sym c.len.ensures ∙ c.if-len-ne1.false) c.index-as_slice-0.is ∙ c.as_slice.ensures in
    subst (λ (star : Bool). IsAnswer (aggregate_of c.args.at.node c.args.at.span c.args.function star c.args.args.now) over patterns patterns before after c.argument_call.result) (sym c.if-star.false)
    (subst (λ (exprs : List Expr). IsAnswer (aggregate_of c.args.at.node c.args.at.span c.args.function false exprs) over patterns patterns before after c.argument_call.result) alone
    (argument_answers c.args.at.node c.args.at.span c.args.function arg over (ap standing_of c.if-not-sight.false) patterns none c.typed.new.patterns before after own
    (subst (λ (these : Over). IsTyped (readings_of arg) these none c.typed.new.patterns own) c.within_aggregate-within.ensures c.in_ok-argument.ensures.0) c.in_ok-argument.ensures.1 c.argument_call.result c.argument_call.ensures))

pub aggregate-bounds-as_slice-0 : goal.aggregate-bounds-as_slice-0
aggregate-bounds-as_slice-0 g t c = search rules

pub aggregate-returns-then-len-ne1 : goal.aggregate-returns-then-len-ne1
aggregate-returns-then-len-ne1 g t c patterns =
    let marks = marks_of g.M.Maker.refused g.M.Maker.last c.args.maker.now in
    rw c.broken-then-len-ne1.ensures (subst (λ (star : Bool). IsAnswer (aggregate_of c.args.at.node c.args.at.span c.args.function star c.args.args.now) (over_of c.args.sight.now) patterns patterns marks marks (Err (error.Broken rule.BadArguments c.args.at.span))) (sym c.if-star.false)
    (uncounted_answers c.args.at.node c.args.at.span c.args.function c.args.args.now (over_of c.args.sight.now) patterns marks (ap standing_of c.if-not-sight.false) (λ one. c.if-len-ne1.true (c.len.ensures ∙ one))))

pub call_of-add_all-requires : goal.call_of-add_all-requires
call_of-add_all-requires g t c κs within = search (rules, the_lemmas)

pub call_of-returns-then-star : goal.call_of-returns-then-star
call_of-returns-then-star g t c =
    let marks = marks_of g.M.Maker.refused g.M.Maker.last c.args.maker.now in
    let refusal = refused_answers (over_of c.args.sight.now) c.args.at.node c.args.at.span c.args.patterns.now marks rule.BadArguments c.args.at.span in
    rw c.broken.ensures (elim c.then-star.branch [
      | call_of-then-star-via-then-star w ↦ subst (λ (star : Bool). IsAnswer (call_readings c.args.at.node c.args.at.span c.args.row star c.args.args.now) (over_of c.args.sight.now) c.args.patterns.now c.args.patterns.now marks marks (Err (error.Broken rule.BadArguments c.args.at.span))) (sym w.if-star.true) refusal
      | call_of-then-star-via-else-star+then-not-takes w ↦
          (let untaken : takes c.args.row (length c.args.args.now) ≡ false = ap (takes c.args.row) (sym w.len.ensures) ∙ sym w.takes.ensures ∙ w.if-not-takes.true in
          subst (λ (star : Bool). IsAnswer (call_readings c.args.at.node c.args.at.span c.args.row star c.args.args.now) (over_of c.args.sight.now) c.args.patterns.now c.args.patterns.now marks marks (Err (error.Broken rule.BadArguments c.args.at.span))) (sym w.if-star.false)
          (subst (λ (read : Readings). IsAnswer read (over_of c.args.sight.now) c.args.patterns.now c.args.patterns.now marks marks (Err (error.Broken rule.BadArguments c.args.at.span))) (sym (call_untaken c.args.at.node c.args.at.span c.args.row c.args.args.now untaken)) refusal))
    ])

pub call_of-returns-in_err-add_all : goal.call_of-returns-in_err-add_all
call_of-returns-in_err-add_all g t c =
    let before = marks_of g.M.Maker.refused g.M.Maker.last c.args.maker.now in
    let after = marks_of g.M.Maker.refused g.M.Maker.last c.add_all.new.maker in
    let taken : takes c.args.row (length c.args.args.now) ≡ true = ap (takes c.args.row) (sym c.len.ensures) ∙ sym c.takes.ensures ∙ c.if-not-takes.false in
    let error = c.in_err-add_all.field-0.0 in
    let p = err_from_is_err_and c.from_residual.result c.from_residual.ensures.1 in
    rw (p.1, p.2) (subst (λ (star : Bool). IsAnswer (call_readings c.args.at.node c.args.at.span c.args.row star c.args.args.now) (over_of c.args.sight.now) c.args.patterns.now c.add_all.new.patterns before after (Err error)) (sym c.if-star.false)
    (subst (λ (read : Readings). IsAnswer read (over_of c.args.sight.now) c.args.patterns.now c.add_all.new.patterns before after (Err error)) (sym (call_taken c.args.at.node c.args.at.span c.args.row c.args.args.now taken))
    (subst (λ (exprs : List Expr). IsAnswer (applied_to c.args.at.node c.args.at.span c.args.row.function exprs) (over_of c.args.sight.now) c.args.patterns.now c.add_all.new.patterns before after (Err error)) c.as_slice.ensures
    (parts_error (over_of c.args.sight.now) c.as_slice.result.now c.args.at.node c.args.at.span c.args.row.function before after error c.in_err-add_all.ensures))))

pub call_of-returns : goal.call_of-returns
call_of-returns g t c =
    let before = marks_of g.M.Maker.refused g.M.Maker.last c.args.maker.now in
    let after = marks_of g.M.Maker.refused g.M.Maker.last c.completed.new.maker in
    let at_node = c.args.at.node in
    let at_span = c.args.at.span in
    let taken : takes c.args.row (length c.args.args.now) ≡ true = ap (takes c.args.row) (sym c.len.ensures) ∙ sym c.takes.ensures ∙ c.if-not-takes.false in
    let few = ap (takes_few c.args.row.function) (ap length c.as_slice.ensures) ∙ c.requires (length c.args.args.now) taken in
    let literal : option_copied c.literal_at-literal.result ≡ second_literal (judgeds c.as_slice.result.now) =
    c.literal_at-literal.ensures ∙ ap (λ (these : List Expr). literal_found (slice_get these 1)) (c.as_slice-2.ensures ∙ sym c.as_slice.ensures) ∙ second_found c.as_slice.result.now in
    subst (λ (star : Bool). IsAnswer (call_readings c.args.at.node c.args.at.span c.args.row star c.args.args.now) (over_of c.args.sight.now) c.args.patterns.now c.completed.new.patterns before after c.completed.result) (sym c.if-star.false)
    (subst (λ (read : Readings). IsAnswer read (over_of c.args.sight.now) c.args.patterns.now c.completed.new.patterns before after c.completed.result) (sym (call_taken c.args.at.node c.args.at.span c.args.row c.args.args.now taken))
    (subst (λ (exprs : List Expr). IsAnswer (applied_to c.args.at.node c.args.at.span c.args.row.function exprs) (over_of c.args.sight.now) c.args.patterns.now c.completed.new.patterns before after c.completed.result) c.as_slice.ensures
    (completes (over_of c.args.sight.now) (c.as_slice.result.now) at_node at_span c.args.row.function c.new-parts.result c.add_all.new.parts (option_copied c.literal_at-literal.result) c.args.patterns.now c.add_all.new.patterns before (marks_of g.M.Maker.refused g.M.Maker.last c.add_all.new.maker) c.new-parts.ensures.args c.new-parts.ensures.spans
    c.in_ok-add_all.ensures.0 c.in_ok-add_all.ensures.1 literal few c.completed.new.patterns after c.completed.result c.completed.ensures)))

pub typed-typed-requires : goal.typed-typed-requires
typed-typed-requires g t c κs within = search (rules, the_lemmas)

pub typed-call-requires : goal.typed-call-requires
typed-call-requires g t c κs within = search (rules, the_lemmas)

pub typed-unary-requires : goal.typed-unary-requires
typed-unary-requires g t c κs within = search (rules, the_lemmas)

pub typed-unary-requires-in-Not : goal.typed-unary-requires-in-Not
typed-unary-requires-in-Not g t c κs within = search (rules, the_lemmas)

pub typed-like-requires : goal.typed-like-requires
typed-like-requires g t c κs within = search (rules, the_lemmas)

pub typed-unary-requires-in-IsNull : goal.typed-unary-requires-in-IsNull
typed-unary-requires-in-IsNull g t c κs within = search (rules, the_lemmas)

pub typed-cast-requires : goal.typed-cast-requires
typed-cast-requires g t c κs within = search (rules, the_lemmas)

pub typed-typed_column-requires-text-name : goal.typed-typed_column-requires-text-name
typed-typed_column-requires-text-name g t c κs = search rules

pub typed-returns-in-Constant : goal.typed-returns-in-Constant
typed-returns-in-Constant g t c =
    let before = marks_of g.M.Maker.refused g.M.Maker.last c.args.maker.now in
    let after = marks_of g.M.Maker.refused g.M.Maker.last c.args.maker.now in
    subst (λ (read : Readings). IsAnswer read (over_of c.args.sight.now) c.args.patterns.now c.args.patterns.now before after c.typed_constant.result) (sym (readings_opened c.args.expr.now (Constant c.in-Constant.cell c.in-Constant.kind) _ c.in-Constant.is (outs-Constant c.in-Constant.cell c.in-Constant.kind)))
    (constant_answers (over_of c.args.sight.now) c.args.expr.now.node c.args.expr.now.span c.args.patterns.now before c.in-Constant.cell c.typed_constant.result
    (subst (λ (cell : List Value). IsPlainAnswer (constant_or_rule c.args.expr.now.node (constant_in cell c.args.expr.now.span)) c.typed_constant.result) c.as_slice.ensures c.typed_constant.ensures))

pub typed-returns-in-List : goal.typed-returns-in-List
typed-returns-in-List g t c =
    let before = marks_of g.M.Maker.refused g.M.Maker.last c.args.maker.now in
    let after = marks_of g.M.Maker.refused g.M.Maker.last c.args.maker.now in
    subst (λ (read : Readings). IsAnswer read (over_of c.args.sight.now) c.args.patterns.now c.args.patterns.now before after c.typed_list.result) (sym (readings_opened c.args.expr.now (Listed c.in-List.values) _ c.in-List.is (outs-List c.in-List.values)))
    (list_answers (over_of c.args.sight.now) c.args.expr.now.node c.args.expr.now.span c.args.patterns.now before c.in-List.values (kind_of_list c.in-List.values) c.typed_list.result
    (subst (λ (values : List Value). IsPlainAnswer (constant_or_rule c.args.expr.now.node (list_in_kind values (kind_of_list values) c.args.expr.now.span)) c.typed_list.result) c.as_slice-in-List.ensures c.typed_list.ensures))

pub typed-returns-in-Column : goal.typed-returns-in-Column
typed-returns-in-Column g t c =
    let before = marks_of g.M.Maker.refused g.M.Maker.last c.args.maker.now in
    let after = marks_of g.M.Maker.refused g.M.Maker.last c.args.maker.now in
    subst (λ (read : Readings). IsAnswer read (over_of c.args.sight.now) c.args.patterns.now c.args.patterns.now before after c.typed_column.result) (sym (readings_opened c.args.expr.now (Column c.in-Column.name) _ c.in-Column.is (outs-Column c.in-Column.name)))
    (column_answers (over_of c.args.sight.now) c.args.expr.now.node c.args.expr.now.span c.args.patterns.now before c.in-Column.name c.typed_column.result
    (subst (λ (name : List ℕ). IsPlainAnswer (column_or_rule c.args.expr.now.node c.args.expr.now.span (visible_named c.args.sight.now.columns.now name)) c.typed_column.result) c.as_str.ensures c.typed_column.ensures))

pub typed-returns-in-Group : goal.typed-returns-in-Group
typed-returns-in-Group g t c =
    let before = marks_of g.M.Maker.refused g.M.Maker.last c.args.maker.now in
    let after = marks_of g.M.Maker.refused g.M.Maker.last c.typed.new.maker in
    subst (λ (read : Readings). IsAnswer read (over_of c.args.sight.now) c.args.patterns.now c.typed.new.patterns before after c.typed.result) (sym (readings_opened c.args.expr.now (Group c.in-Group.inner) _ c.in-Group.is (outs-Group c.in-Group.inner)))
    (subst (λ (inner : Expr). IsAnswer (readings_of inner) (over_of c.args.sight.now) c.args.patterns.now c.typed.new.patterns before after c.typed.result) c.get.ensures c.typed.ensures)

pub typed-returns-in-Call : goal.typed-returns-in-Call
typed-returns-in-Call g t c =
    let before = marks_of g.M.Maker.refused g.M.Maker.last c.args.maker.now in
    let after = marks_of g.M.Maker.refused g.M.Maker.last c.call.new.maker in
    subst (λ (read : Readings). IsAnswer read (over_of c.args.sight.now) c.args.patterns.now c.call.new.patterns before after c.call.result) (sym (readings_opened c.args.expr.now (Call c.in-Call.function c.in-Call.args c.in-Call.star) _ c.in-Call.is (outs-Call c.in-Call.function c.in-Call.args c.in-Call.star)))
    (c.call.ensures)

pub typed-returns-in-Minus : goal.typed-returns-in-Minus
typed-returns-in-Minus g t c =
    let before = marks_of g.M.Maker.refused g.M.Maker.last c.args.maker.now in
    let after = marks_of g.M.Maker.refused g.M.Maker.last c.unary.new.maker in
    subst (λ (read : Readings). IsAnswer read (over_of c.args.sight.now) c.args.patterns.now c.unary.new.patterns before after c.unary.result) (sym (readings_opened c.args.expr.now (Minus c.in-Minus.arg) _ c.in-Minus.is (outs-Minus c.in-Minus.arg)))
    (c.unary.ensures)

pub typed-returns-in-Not : goal.typed-returns-in-Not
typed-returns-in-Not g t c =
    let before = marks_of g.M.Maker.refused g.M.Maker.last c.args.maker.now in
    let after = marks_of g.M.Maker.refused g.M.Maker.last c.unary-in-Not.new.maker in
    subst (λ (read : Readings). IsAnswer read (over_of c.args.sight.now) c.args.patterns.now c.unary-in-Not.new.patterns before after c.unary-in-Not.result) (sym (readings_opened c.args.expr.now (Not c.in-Not.arg) _ c.in-Not.is (outs-Not c.in-Not.arg)))
    (c.unary-in-Not.ensures)

pub typed-returns-in-IsNull : goal.typed-returns-in-IsNull
typed-returns-in-IsNull g t c =
    let before = marks_of g.M.Maker.refused g.M.Maker.last c.args.maker.now in
    let after = marks_of g.M.Maker.refused g.M.Maker.last c.unary-in-IsNull.new.maker in
    subst (λ (read : Readings). IsAnswer read (over_of c.args.sight.now) c.args.patterns.now c.unary-in-IsNull.new.patterns before after c.unary-in-IsNull.result) (sym (readings_opened c.args.expr.now (IsNull c.in-IsNull.negated c.in-IsNull.arg) _ c.in-IsNull.is (outs-IsNull c.in-IsNull.negated c.in-IsNull.arg)))
    (subst (λ (own : Function). IsAnswer (applied_to c.args.expr.now.node c.args.expr.now.span own (c.in-IsNull.arg ∷ [])) (over_of c.args.sight.now) c.args.patterns.now c.unary-in-IsNull.new.patterns before after c.unary-in-IsNull.result) c.null_function-function.ensures c.unary-in-IsNull.ensures)

pub typed-returns-in-Like : goal.typed-returns-in-Like
typed-returns-in-Like g t c =
    let before = marks_of g.M.Maker.refused g.M.Maker.last c.args.maker.now in
    let after = marks_of g.M.Maker.refused g.M.Maker.last c.like.new.maker in
    subst (λ (read : Readings). IsAnswer read (over_of c.args.sight.now) c.args.patterns.now c.like.new.patterns before after c.like.result) (sym (readings_opened c.args.expr.now (Like c.in-Like.negated c.in-Like.regex c.in-Like.left c.in-Like.pattern) _ c.in-Like.is (outs-Like c.in-Like.negated c.in-Like.regex c.in-Like.left c.in-Like.pattern)))
    (subst (λ (read : Readings). IsAnswer read (over_of c.args.sight.now) c.args.patterns.now c.like.new.patterns before after c.like.result) (like_read c.args.expr.now.node c.args.expr.now.span (like_function c.in-Like.negated c.in-Like.regex) c.in-Like.left c.in-Like.pattern)
    (subst (λ (own : Function). IsAnswer (applied_to c.args.expr.now.node c.args.expr.now.span own (c.in-Like.left ∷ pattern_expr c.args.expr.now.node c.in-Like.pattern ∷ [])) (over_of c.args.sight.now) c.args.patterns.now c.like.new.patterns before after c.like.result) c.like_function-function.ensures c.like.ensures))

pub typed-returns-in-Cast : goal.typed-returns-in-Cast
typed-returns-in-Cast g t c =
    let before = marks_of g.M.Maker.refused g.M.Maker.last c.args.maker.now in
    let after = marks_of g.M.Maker.refused g.M.Maker.last c.cast.new.maker in
    subst (λ (read : Readings). IsAnswer read (over_of c.args.sight.now) c.args.patterns.now c.cast.new.patterns before after c.cast.result) (sym (readings_opened c.args.expr.now (Cast c.in-Cast.arg c.in-Cast.kind) _ c.in-Cast.is (outs-Cast c.in-Cast.arg c.in-Cast.kind)))
    (c.cast.ensures)

pub typed-add-requires : goal.typed-add-requires
typed-add-requires g t c κs within = search (rules, the_lemmas)

pub typed-add-requires-in-Binary : goal.typed-add-requires-in-Binary
typed-add-requires-in-Binary g t c κs within = search (rules, the_lemmas)

pub typed-add-requires-in-Within : goal.typed-add-requires-in-Within
typed-add-requires-in-Within g t c κs within = search (rules, the_lemmas)

pub typed-add_all-requires : goal.typed-add_all-requires
typed-add_all-requires g t c κs within = search (rules, the_lemmas)

pub typed-returns-in_err-add-in-Binary : goal.typed-returns-in_err-add-in-Binary
typed-returns-in_err-add-in-Binary g t c =
    let before = marks_of g.M.Maker.refused g.M.Maker.last c.args.maker.now in
    let after = marks_of g.M.Maker.refused g.M.Maker.last c.add.new.maker in
    let at_node = c.args.expr.now.node in
    let at_span = c.args.expr.now.span in
    let error = c.in_err-add-in-Binary.field-0.0 in
    let p = err_from_is_err_and c.from_residual.result c.from_residual.ensures.1 in
    rw (p.1, p.2) (subst (λ (read : Readings). IsAnswer read (over_of c.args.sight.now) c.args.patterns.now c.add.new.patterns before after (Err error)) (sym (readings_opened c.args.expr.now (Binary c.in-Binary.op c.in-Binary.left c.in-Binary.right) _ c.in-Binary.is (outs-Binary c.in-Binary.op c.in-Binary.left c.in-Binary.right)))
    (subst (λ (left : Expr). IsAnswer (applied_to at_node at_span (function_of c.in-Binary.op) (left ∷ c.in-Binary.right ∷ [])) (over_of c.args.sight.now) c.args.patterns.now c.add.new.patterns before after (Err error)) c.get-in-Binary.ensures
    (parts_error (over_of c.args.sight.now) (c.get-in-Binary.result.now ∷ c.in-Binary.right ∷ []) at_node at_span (function_of c.in-Binary.op) before after error
    (error_before (over_of c.args.sight.now) (c.get-in-Binary.result.now ∷ []) (c.in-Binary.right ∷ []) before after error c.in_err-add-in-Binary.ensures))))

pub typed-returns-in_err-add-in-Binary-2 : goal.typed-returns-in_err-add-in-Binary-2
typed-returns-in_err-add-in-Binary-2 g t c =
    let before = marks_of g.M.Maker.refused g.M.Maker.last c.args.maker.now in
    let after = marks_of g.M.Maker.refused g.M.Maker.last c.add-in-Binary.new.maker in
    let between = marks_of g.M.Maker.refused g.M.Maker.last c.add.new.maker in
    let at_node = c.args.expr.now.node in
    let at_span = c.args.expr.now.span in
    let error = c.in_err-add-in-Binary-2.field-0.0 in
    let p = err_from_is_err_and c.from_residual-in_err-add-in-Binary-2.result c.from_residual-in_err-add-in-Binary-2.ensures.1 in
    rw (p.1, p.2) (subst (λ (read : Readings). IsAnswer read (over_of c.args.sight.now) c.args.patterns.now c.add-in-Binary.new.patterns before after (Err error)) (sym (readings_opened c.args.expr.now (Binary c.in-Binary.op c.in-Binary.left c.in-Binary.right) _ c.in-Binary.is (outs-Binary c.in-Binary.op c.in-Binary.left c.in-Binary.right)))
    (subst (λ (left : Expr). IsAnswer (applied_to at_node at_span (function_of c.in-Binary.op) (left ∷ c.in-Binary.right ∷ [])) (over_of c.args.sight.now) c.args.patterns.now c.add-in-Binary.new.patterns before after (Err error)) c.get-in-Binary.ensures
    (subst (λ (right : Expr). IsAnswer (applied_to at_node at_span (function_of c.in-Binary.op) (c.get-in-Binary.result.now ∷ right ∷ [])) (over_of c.args.sight.now) c.args.patterns.now c.add-in-Binary.new.patterns before after (Err error)) c.get-in-Binary-2.ensures
    (parts_error (over_of c.args.sight.now) (c.get-in-Binary.result.now ∷ c.get-in-Binary-2.result.now ∷ []) at_node at_span (function_of c.in-Binary.op) before after error
    (error_behind (over_of c.args.sight.now) (c.get-in-Binary.result.now ∷ []) (c.get-in-Binary-2.result.now ∷ []) _ before between after error c.in_ok-add-in-Binary.ensures.0.gives c.in_ok-add-in-Binary.ensures.1 c.in_err-add-in-Binary-2.ensures)))))

pub typed-returns-in_ok-add-in-Binary-2 : goal.typed-returns-in_ok-add-in-Binary-2
typed-returns-in_ok-add-in-Binary-2 g t c =
    let before = marks_of g.M.Maker.refused g.M.Maker.last c.args.maker.now in
    let after = marks_of g.M.Maker.refused g.M.Maker.last c.completed.new.maker in
    let at_node = c.args.expr.now.node in
    let at_span = c.args.expr.now.span in
    let left : Expr = c.get-in-Binary.result.now in
    let right : Expr = c.get-in-Binary-2.result.now in
    let both = typed_both (over_of c.args.sight.now) (left ∷ []) (right ∷ []) c.new-parts.result c.add.new.parts c.add-in-Binary.new.parts c.args.patterns.now c.add.new.patterns c.add-in-Binary.new.patterns c.in_ok-add-in-Binary.ensures.0 c.in_ok-add-in-Binary-2.ensures.0 in
    let literal : option_copied c.literal_of-literal.result ≡ second_literal (judgeds (left ∷ right ∷ [])) = c.literal_of-literal.ensures ∙ ap literal_of_expr (c.get-in-Binary-3.ensures ∙ sym c.get-in-Binary-2.ensures) in
    subst (λ (read : Readings). IsAnswer read (over_of c.args.sight.now) c.args.patterns.now c.completed.new.patterns before after c.completed.result) (sym (readings_opened c.args.expr.now (Binary c.in-Binary.op c.in-Binary.left c.in-Binary.right) _ c.in-Binary.is (outs-Binary c.in-Binary.op c.in-Binary.left c.in-Binary.right)))
    (subst (λ (left : Expr). IsAnswer (applied_to at_node at_span (function_of c.in-Binary.op) (left ∷ c.in-Binary.right ∷ [])) (over_of c.args.sight.now) c.args.patterns.now c.completed.new.patterns before after c.completed.result) c.get-in-Binary.ensures
    (subst (λ (right : Expr). IsAnswer (applied_to at_node at_span (function_of c.in-Binary.op) (c.get-in-Binary.result.now ∷ right ∷ [])) (over_of c.args.sight.now) c.args.patterns.now c.completed.new.patterns before after c.completed.result) c.get-in-Binary-2.ensures
    (subst (λ (own : Function). IsAnswer (applied_to at_node at_span own (left ∷ right ∷ [])) (over_of c.args.sight.now) c.args.patterns.now c.completed.new.patterns before after c.completed.result) c.function_of.ensures
    (completes (over_of c.args.sight.now) (left ∷ right ∷ []) at_node at_span c.function_of.result c.new-parts.result c.add-in-Binary.new.parts (option_copied c.literal_of-literal.result) c.args.patterns.now c.add-in-Binary.new.patterns before (marks_of g.M.Maker.refused g.M.Maker.last c.add-in-Binary.new.maker) c.new-parts.ensures.args c.new-parts.ensures.spans
    both (c.in_ok-add-in-Binary-2.ensures.1 ∙ c.in_ok-add-in-Binary.ensures.1) literal (few_parts c.function_of.result 2 refl) c.completed.new.patterns after c.completed.result c.completed.ensures))))

pub typed-returns-in_err-add-in-Within : goal.typed-returns-in_err-add-in-Within
typed-returns-in_err-add-in-Within g t c =
    let before = marks_of g.M.Maker.refused g.M.Maker.last c.args.maker.now in
    let after = marks_of g.M.Maker.refused g.M.Maker.last c.add-in-Within.new.maker in
    let at_node = c.args.expr.now.node in
    let at_span = c.args.expr.now.span in
    let error = c.in_err-add-in-Within.field-0.0 in
    let p = err_from_is_err_and c.from_residual-in_err-add-in-Within.result c.from_residual-in_err-add-in-Within.ensures.1 in
    rw (p.1, p.2) (subst (λ (read : Readings). IsAnswer read (over_of c.args.sight.now) c.args.patterns.now c.add-in-Within.new.patterns before after (Err error)) (sym (readings_opened c.args.expr.now (Within c.in-Within.negated c.in-Within.left c.in-Within.items) _ c.in-Within.is (outs-Within c.in-Within.negated c.in-Within.left c.in-Within.items)))
    (subst (λ (left : Expr). IsAnswer (applied_to at_node at_span (if c.in-Within.negated then function.NotIn else function.In) (left ∷ c.in-Within.items)) (over_of c.args.sight.now) c.args.patterns.now c.add-in-Within.new.patterns before after (Err error)) c.get-in-Within.ensures
    (parts_error (over_of c.args.sight.now) (c.get-in-Within.result.now ∷ c.in-Within.items) at_node at_span (if c.in-Within.negated then function.NotIn else function.In) before after error
    (error_before (over_of c.args.sight.now) (c.get-in-Within.result.now ∷ []) c.in-Within.items before after error c.in_err-add-in-Within.ensures))))

pub typed-returns-in_err-add_all-in-Within : goal.typed-returns-in_err-add_all-in-Within
typed-returns-in_err-add_all-in-Within g t c =
    let before = marks_of g.M.Maker.refused g.M.Maker.last c.args.maker.now in
    let after = marks_of g.M.Maker.refused g.M.Maker.last c.add_all.new.maker in
    let between = marks_of g.M.Maker.refused g.M.Maker.last c.add-in-Within.new.maker in
    let at_node = c.args.expr.now.node in
    let at_span = c.args.expr.now.span in
    let error = c.in_err-add_all-in-Within.field-0.0 in
    let p = err_from_is_err_and c.from_residual-in_err-add_all-in-Within.result c.from_residual-in_err-add_all-in-Within.ensures.1 in
    rw (p.1, p.2) (subst (λ (read : Readings). IsAnswer read (over_of c.args.sight.now) c.args.patterns.now c.add_all.new.patterns before after (Err error)) (sym (readings_opened c.args.expr.now (Within c.in-Within.negated c.in-Within.left c.in-Within.items) _ c.in-Within.is (outs-Within c.in-Within.negated c.in-Within.left c.in-Within.items)))
    (subst (λ (left : Expr). IsAnswer (applied_to at_node at_span (if c.in-Within.negated then function.NotIn else function.In) (left ∷ c.in-Within.items)) (over_of c.args.sight.now) c.args.patterns.now c.add_all.new.patterns before after (Err error)) c.get-in-Within.ensures
    (subst (λ (items : List Expr). IsAnswer (applied_to at_node at_span (if c.in-Within.negated then function.NotIn else function.In) (c.get-in-Within.result.now ∷ items)) (over_of c.args.sight.now) c.args.patterns.now c.add_all.new.patterns before after (Err error)) c.as_slice-in-Within.ensures
    (parts_error (over_of c.args.sight.now) (c.get-in-Within.result.now ∷ c.as_slice-in-Within.result.now) at_node at_span (if c.in-Within.negated then function.NotIn else function.In) before after error
    (error_behind (over_of c.args.sight.now) (c.get-in-Within.result.now ∷ []) c.as_slice-in-Within.result.now _ before between after error c.in_ok-add-in-Within.ensures.0.gives c.in_ok-add-in-Within.ensures.1 c.in_err-add_all-in-Within.ensures)))))

pub typed-returns-in_ok-add_all-in-Within : goal.typed-returns-in_ok-add_all-in-Within
typed-returns-in_ok-add_all-in-Within g t c =
    let before = marks_of g.M.Maker.refused g.M.Maker.last c.args.maker.now in
    let after = marks_of g.M.Maker.refused g.M.Maker.last c.completed-in-Within.new.maker in
    let at_node = c.args.expr.now.node in
    let at_span = c.args.expr.now.span in
    let left : Expr = c.get-in-Within.result.now in
    let items : List Expr = c.as_slice-in-Within.result.now in
    let both = typed_both (over_of c.args.sight.now) (left ∷ []) items c.new-parts-in-Within.result c.add-in-Within.new.parts c.add_all.new.parts c.args.patterns.now c.add-in-Within.new.patterns c.add_all.new.patterns c.in_ok-add-in-Within.ensures.0 c.in_ok-add_all-in-Within.ensures.0 in
    let literal : option_copied c.literal_at-literal.result ≡ second_literal (judgeds (left ∷ items)) =
    c.literal_at-literal.ensures ∙ ap (λ (these : List Expr). literal_found (slice_get these 0)) (c.as_slice-in-Within-2.ensures ∙ sym c.as_slice-in-Within.ensures) ∙ next_found left items in
    let few = ap (λ (own : Function). takes_few own (length (left ∷ items))) c.in_function.ensures ∙ few_within c.in-Within.negated (length (left ∷ items)) in
    subst (λ (read : Readings). IsAnswer read (over_of c.args.sight.now) c.args.patterns.now c.completed-in-Within.new.patterns before after c.completed-in-Within.result) (sym (readings_opened c.args.expr.now (Within c.in-Within.negated c.in-Within.left c.in-Within.items) _ c.in-Within.is (outs-Within c.in-Within.negated c.in-Within.left c.in-Within.items)))
    (subst (λ (left : Expr). IsAnswer (applied_to at_node at_span (if c.in-Within.negated then function.NotIn else function.In) (left ∷ c.in-Within.items)) (over_of c.args.sight.now) c.args.patterns.now c.completed-in-Within.new.patterns before after c.completed-in-Within.result) c.get-in-Within.ensures
    (subst (λ (items : List Expr). IsAnswer (applied_to at_node at_span (if c.in-Within.negated then function.NotIn else function.In) (c.get-in-Within.result.now ∷ items)) (over_of c.args.sight.now) c.args.patterns.now c.completed-in-Within.new.patterns before after c.completed-in-Within.result) c.as_slice-in-Within.ensures
    (subst (λ (own : Function). IsAnswer (applied_to at_node at_span own (left ∷ items)) (over_of c.args.sight.now) c.args.patterns.now c.completed-in-Within.new.patterns before after c.completed-in-Within.result) c.in_function.ensures
    (completes (over_of c.args.sight.now) (left ∷ items) at_node at_span c.in_function.result c.new-parts-in-Within.result c.add_all.new.parts (option_copied c.literal_at-literal.result) c.args.patterns.now c.add_all.new.patterns before (marks_of g.M.Maker.refused g.M.Maker.last c.add_all.new.maker) c.new-parts-in-Within.ensures.args c.new-parts-in-Within.ensures.spans
    both (c.in_ok-add_all-in-Within.ensures.1 ∙ c.in_ok-add-in-Within.ensures.1) literal few c.completed-in-Within.new.patterns after c.completed-in-Within.result c.completed-in-Within.ensures))))
