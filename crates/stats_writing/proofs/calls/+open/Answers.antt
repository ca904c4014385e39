use Rattle.std.proofs.Common.{◌≡◌, ◌++◌, List, IfOk, map, ap, sym, subst, ◌∙◌}
use Rattle.esql_types.specs.declared.places.Span.{Span}
use Rattle.esql_ast.specs.declared.expr.Expr.{Expr}
use Rattle.esql_plan.specs.Names.{function_named, aggregate_named}
use Rattle.query_semantics.specs.Calls.{AggregateCall, opened, calls_in, columns_in, calls_in_call, calls_of, outside_columns}
use Rattle.stats_writing.specs.CallsSeen.{seen_calls}
use Rattle.stats_writing.proofs.CallsFound.{call_calls, binary_calls, binary_columns, within_calls, within_columns, found_behind}
use Rattle.stats_writing.proofs.calls.+open.Goals as goal

pub open_expr-returns-in-Call-clause-calls : goal.open_expr-returns-in-Call-clause-calls
open_expr-returns-in-Call-clause-calls t c =
    let expr = c.args.expr.now in
    let function = c.in-Call.function in
    let found = seen_calls c.args.found.calls.items in
    let are = call_calls expr function c.in-Call.args c.in-Call.star c.in-Call.is
    ∙ ap (λ (args : List Expr). calls_in_call (function_named function.name) (aggregate_named function.name) c.in-Call.star (map opened args) expr.node) (sym c.as_slice.ensures) in
    subst (λ (calls : List AggregateCall). IfOk c.open_call.result (λ new. seen_calls new.calls.items ≡ found ++ calls)) (sym are) c.open_call.ensures.calls

pub open_expr-returns-in_ok-found-in-Binary-clause-calls : goal.open_expr-returns-in_ok-found-in-Binary-clause-calls
open_expr-returns-in_ok-found-in-Binary-clause-calls t c =
    let left = c.get-in-Binary.result.now in
    let right = c.get-in-Binary-2.result.now in
    let all = binary_calls c.args.expr.now c.in-Binary.op c.in-Binary.left c.in-Binary.right c.in-Binary.is
    ∙ (λ i. calls_of (sym c.get-in-Binary.ensures i) ++ calls_of (sym c.get-in-Binary-2.ensures i)) in
    subst (λ (calls : List AggregateCall). IfOk c.open_expr-in-Binary-2.result (λ new. seen_calls new.calls.items ≡ calls))
    (found_behind (seen_calls c.args.found.calls.items) (seen_calls c.in_ok-found-in-Binary.found.calls.items) (calls_of left) (calls_of right) (calls_of c.args.expr.now) c.in_ok-found-in-Binary.ensures.calls all)
    c.open_expr-in-Binary-2.ensures.calls

pub open_expr-returns-in_ok-found-in-Binary-clause-columns : goal.open_expr-returns-in_ok-found-in-Binary-clause-columns
open_expr-returns-in_ok-found-in-Binary-clause-columns t c =
    let left = c.get-in-Binary.result.now in
    let right = c.get-in-Binary-2.result.now in
    let all = binary_columns c.args.expr.now c.in-Binary.op c.in-Binary.left c.in-Binary.right c.in-Binary.is
    ∙ (λ i. outside_columns (sym c.get-in-Binary.ensures i) ++ outside_columns (sym c.get-in-Binary-2.ensures i)) in
    subst (λ (columns : List Span). IfOk c.open_expr-in-Binary-2.result (λ new. new.columns.items ≡ columns))
    (found_behind c.args.found.columns.items c.in_ok-found-in-Binary.found.columns.items (outside_columns left) (outside_columns right) (outside_columns c.args.expr.now) c.in_ok-found-in-Binary.ensures.columns all)
    c.open_expr-in-Binary-2.ensures.columns

pub open_expr-returns-in_ok-found-in-Within-clause-calls : goal.open_expr-returns-in_ok-found-in-Within-clause-calls
open_expr-returns-in_ok-found-in-Within-clause-calls t c =
    let left = c.get-in-Within.result.now in
    let items = c.as_slice-in-Within.result.now in
    let all = within_calls c.args.expr.now c.in-Within.negated c.in-Within.left c.in-Within.items c.in-Within.is
    ∙ (λ i. calls_of (sym c.get-in-Within.ensures i) ++ calls_in (map opened (sym c.as_slice-in-Within.ensures i))) in
    subst (λ (calls : List AggregateCall). IfOk c.open_all.result (λ new. seen_calls new.calls.items ≡ calls))
    (found_behind (seen_calls c.args.found.calls.items) (seen_calls c.in_ok-found-in-Within.found.calls.items) (calls_of left) (calls_in (map opened items)) (calls_of c.args.expr.now) c.in_ok-found-in-Within.ensures.calls all)
    c.open_all.ensures.calls

pub open_expr-returns-in_ok-found-in-Within-clause-columns : goal.open_expr-returns-in_ok-found-in-Within-clause-columns
open_expr-returns-in_ok-found-in-Within-clause-columns t c =
    let left = c.get-in-Within.result.now in
    let items = c.as_slice-in-Within.result.now in
    let all = within_columns c.args.expr.now c.in-Within.negated c.in-Within.left c.in-Within.items c.in-Within.is
    ∙ (λ i. outside_columns (sym c.get-in-Within.ensures i) ++ columns_in (map opened (sym c.as_slice-in-Within.ensures i))) in
    subst (λ (columns : List Span). IfOk c.open_all.result (λ new. new.columns.items ≡ columns))
    (found_behind c.args.found.columns.items c.in_ok-found-in-Within.found.columns.items (outside_columns left) (columns_in (map opened items)) (outside_columns c.args.expr.now) c.in_ok-found-in-Within.ensures.columns all)
    c.open_all.ensures.columns
