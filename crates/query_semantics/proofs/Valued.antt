-- The typed form of an expression has on a row of numbers the value that the expression has on the row of names.
use Rattle.std.proofs.Common.{◌≡◌, ℕ, ◌+◌, true, false, cond, ◌==◌, List, [], ◌∷◌, map, length, Some, None, refl, ap, sym, ◌∙◌}
use Rattle.std.specs.Str.{bytes_eq}
use Rattle.esql_types.specs.declared.places.Span.{Span}
use Rattle.esql_types.specs.declared.names.NodeId.{NodeId}
use Rattle.esql_ast.specs.declared.expr.Expr.{Expr}
use Rattle.esql_types.specs.declared.value.Kind.{Kind}
use Rattle.esql_plan.specs.declared.function.Function.{Function}
use Rattle.esql_plan.specs.declared.function.Function.TheVariants as function
use Rattle.esql_plan.specs.declared.plan.OutColumn.{OutColumn}
use Rattle.esql_plan.specs.declared.typed.TypedExpr.{TypedExpr}
use Rattle.esql_plan.specs.Values.{Valued, NumberedRow, silent, applied as value_of_applied, value_of_typed}
use Rattle.esql_plan.proofs.TypedFolds.{value_of_constant, value_of_column, value_of_call}
use Rattle.row_semantics.specs.Forms.{Part, Seen, constant, named, same, applied, aggregate, refused, Reader, read_by, function_in_plan, arguments_in_plan}
use Rattle.row_semantics.specs.Rows.{cell_at}
use Rattle.row_semantics.specs.declared.call.CallColumn.{CallColumn}
use Rattle.row_semantics.specs.Typed.{Visible, Typing, visible_named, call_at, typed_null, typed_column, typed_call, typed_parts, typing, typed_of}
use Rattle.row_semantics.specs.Meanings.{Given, cell_of_call, valued, value_on}
use Rattle.query_semantics.specs.RowValues.{value_in_row}
use Rattle.query_semantics.specs.Named.{named_row, call_cell, given_of}
use Rattle.query_semantics.proofs.Readings.{part_with, parts_with, seen_with, read_made}

-- the typed form of an expression and its value by names, which are the same
record Both : Type 0 where
  typing : Typing
  value : Given → Valued
  is : (visible : Visible) (whole free : ℕ) (row : NumberedRow) → value_of_typed (typing.at visible whole free) row ≡ value (given_of visible row)

abbrev typing_in : Both → Typing
typing_in both = both.typing

abbrev value_in : Both → Given → Valued
value_in both = both.value

-- names and aggregate calls
column_valued : (node : NodeId) (name : List ℕ) (visible : List OutColumn) (row : NumberedRow)
    → value_of_typed (typed_column node (visible_named visible name)) row ≡ silent (cell_at (named_row visible row) name)
column_valued node name [] row = value_of_constant (typed_null node) row [] refl
column_valued node name (column ∷ visible) row =
    elim (bytes_eq column.name name) as (λ same. value_of_typed (typed_column node (cond same (Some column) (visible_named visible name))) row ≡ silent (cond same (row column.id.0) (cell_at (named_row visible row) name)))
    [ true ↦ value_of_column (typed_column node (Some column)) row column.id refl | false ↦ column_valued node name visible row ]

call_valued : (node : NodeId) (kind : Kind) (calls : List CallColumn) (row : NumberedRow)
    → value_of_typed (typed_call node kind (call_at calls node)) row ≡ silent (cell_of_call (map (call_cell row) calls) node)
call_valued node kind [] row = value_of_constant (typed_call node kind None) row [] refl
call_valued node kind (call ∷ calls) row =
    elim (call.node.0 == node.0) as (λ same. value_of_typed (typed_call node kind (cond same (Some call) (call_at calls node))) row ≡ silent (cond same (row call.id.0) (cell_of_call (map (call_cell row) calls) node)))
    [ true ↦ value_of_column (typed_call node kind (Some call)) row call.id refl | false ↦ call_valued node kind calls row ]

-- a function is the same in the plan, whatever is read of its parts
pub function_with : {A B : Type 0} (make : A → B) (function : Function) (parts : List (Part A)) → function_in_plan function (parts_with make parts) ≡ function_in_plan function parts
function_with make function.MvSort (values ∷ order ∷ rest) = refl
function_with make other parts = refl

pub arguments_with : {A B : Type 0} (make : A → B) (function : Function) (items : List A) → arguments_in_plan function (map make items) ≡ map make (arguments_in_plan function items)
arguments_with make function.MvSort (values ∷ rest) = refl
arguments_with make other items = refl

parts_valued : (parts : List (Part Both)) (visible : Visible) (whole free : ℕ) (row : NumberedRow)
    → map (λ arg. value_of_typed arg row) (typed_parts (parts_with typing_in parts) visible whole free) ≡ map (λ part. part.reading (given_of visible row)) (parts_with value_in parts)
parts_valued [] visible whole free row = refl
parts_valued (part ∷ parts) visible whole free row =
    λ i. part.reading.is visible whole free row i ∷ parts_valued parts visible (whole + length part.reading.typing.whole) (free + length part.reading.typing.free) row i

applied_valued : (node : NodeId) (span : Span) (function : Function) (parts : List (Part Both)) (visible : Visible) (whole free : ℕ) (row : NumberedRow)
    → value_of_typed ((typing node span (applied function (parts_with typing_in parts))).at visible whole free) row ≡ valued node span (applied function (parts_with value_in parts)) (given_of visible row)
applied_valued node span function parts visible whole free row =
    let expr : TypedExpr = (typing node span (applied function (parts_with typing_in parts))).at visible whole free in
    let args : List (Part Typing) = arguments_in_plan function (parts_with typing_in parts) in
    value_of_call expr row (function_in_plan function (parts_with typing_in parts)) (typed_parts args visible whole free) _ refl
    ∙ (λ i. value_of_applied (function_with typing_in function parts i) node
    (map (λ arg. value_of_typed arg row) (typed_parts (arguments_with (part_with typing_in) function parts i) visible whole free)))
    ∙ ap (value_of_applied (function_in_plan function parts) node) (parts_valued (arguments_in_plan function parts) visible whole free row)
    ∙ (λ i. value_of_applied (sym (function_with value_in function parts) i) node
    (map (λ (part : Part (Given → Valued)). part.reading (given_of visible row)) (sym (arguments_with (part_with value_in) function parts) i)))

both_is : (node : NodeId) (span : Span) (seen : Seen Both) (visible : Visible) (whole free : ℕ) (row : NumberedRow)
    → value_of_typed ((typing node span (seen_with typing_in seen)).at visible whole free) row ≡ valued node span (seen_with value_in seen) (given_of visible row)
both_is node span (constant values kind) visible whole free row = value_of_constant _ row values refl
both_is node span (named name) visible whole free row = column_valued node name visible.columns row
both_is node span (same part) visible whole free row = part.reading.is visible whole free row
both_is node span (applied function parts) visible whole free row = applied_valued node span function parts visible whole free row
both_is node span (aggregate function star parts) visible whole free row = call_valued node _ visible.calls row
both_is node span (refused parts rule at) visible whole free row = value_of_constant (typed_null node) row [] refl

abbrev both : Reader Both
both node span seen = record {
  typing = typing node span (seen_with typing_in seen);
  value = valued node span (seen_with value_in seen);
  is = both_is node span seen;
}

-- the value of the typed form is that of the expression, over columns and calls that can be seen
pub expr_valued_on : (expr : Expr) (visible : Visible) (whole free : ℕ) (row : NumberedRow) → value_of_typed (typed_of expr visible whole free) row ≡ value_on expr (given_of visible row)
expr_valued_on expr visible whole free row =
    ap (λ (these : Typing). value_of_typed (these.at visible whole free) row) (read_made Both Typing both typing typing_in (record { is = λ node span seen. refl }) expr)
    ∙ (read_by both expr).is visible whole free row
    ∙ sym (ap (λ (these : Given → Valued). these (given_of visible row)) (read_made Both (Given → Valued) both valued value_in (record { is = λ node span seen. refl }) expr))

-- outside STATS
pub expr_valued : (expr : Expr) (visible : List OutColumn) (whole free : ℕ) (row : NumberedRow)
    → value_of_typed (typed_of expr (record { columns = visible; calls = [] }) whole free) row ≡ value_in_row expr (named_row visible row)
expr_valued expr visible whole free row = expr_valued_on expr (record { columns = visible; calls = [] }) whole free row
