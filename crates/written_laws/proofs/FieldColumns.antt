-- A field that is one column is a column that can be seen, or that stands for one of its calls.
use Rattle.std.proofs.Common.{◌≡◌, ℕ, ◌<◌, ◌==◌, true, false, cond, List, [], ◌∷◌, Option, Some, None, refl, sym, subst, ◌∙◌}
use Rattle.std.specs.List.{AllByRecursion}
use Rattle.std.specs.Str.{bytes_eq}
use Rattle.std.proofs.lemmas.List.Elements.{All-head, All-tail}
use Rattle.esql_types.specs.declared.places.Span.{Span}
use Rattle.esql_types.specs.declared.names.ColId.{ColId}
use Rattle.esql_types.specs.declared.names.NodeId.{NodeId}
use Rattle.esql_types.specs.declared.value.Kind.{Kind}
use Rattle.esql_ast.specs.declared.expr.Expr.{Expr}
use Rattle.esql_plan.specs.declared.plan.OutColumn.{OutColumn}
use Rattle.esql_plan.specs.declared.typed.TypedExpr.{TypedExpr}
use Rattle.row_semantics.specs.Forms.{Seen, constant, named, same, applied, aggregate, refused, Reader, read_by, function_in_plan}
use Rattle.row_semantics.specs.declared.call.CallColumn.{CallColumn}
use Rattle.row_semantics.specs.Typed.{Visible, Typing, visible_named, call_at, typed_null, typed_column, typed_call, typing, typed_of}
use Rattle.query_semantics.specs.Writings.{column_of_typed}
use Rattle.query_semantics.proofs.Inputs.{column_of_constant, column_of_column, column_of_call}
use Rattle.query_semantics.proofs.Named.{IsBelow, AllBelow}
use Rattle.query_semantics.proofs.Readings.{parts_with, seen_with, read_made}

abbrev pub CallsBelow : ℕ → List CallColumn → Type 0
CallsBelow next calls = AllByRecursion (λ (call : CallColumn). call.id.0 < next) calls

-- the column that an expression is, if it is one, is below a number
abbrev pub IsColumnBelow : ℕ → TypedExpr → Type 0
IsColumnBelow next expr = (id : ColId) → column_of_typed expr ≡ Some id → id.0 < next

abbrev ReadsBelow : Typing → Type 0
ReadsBelow typing = (next : ℕ) (visible : Visible) → AllBelow next visible.columns → CallsBelow next visible.calls → (whole free : ℕ) → IsColumnBelow next (typing.at visible whole free)

record Both : Type 0 where
  typing : Typing
  is : ReadsBelow typing

abbrev typing_in : Both → Typing
typing_in both = both.typing

none_below : (next : ℕ) (expr : TypedExpr) → column_of_typed expr ≡ None → IsColumnBelow next expr
none_below next expr none id is = absurd (let both : ◌≡◌ {A = Option ColId} None (Some id) = sym none ∙ is in cc)

one_below : (next : ℕ) (expr : TypedExpr) (own : ColId) → column_of_typed expr ≡ Some own → own.0 < next → IsColumnBelow next expr
one_below next expr own one less id is =
    let both : ◌≡◌ {A = Option ColId} (Some own) (Some id) = sym one ∙ is in
    let same : own ≡ id = cc in
    subst (λ (this : ColId). this.0 < next) same less

column_below : (next : ℕ) (node : NodeId) (name : List ℕ) (visible : List OutColumn) → AllBelow next visible → IsColumnBelow next (typed_column node (visible_named visible name))
column_below next node name [] below = none_below next (typed_null node) (column_of_constant (typed_null node) [] refl)
column_below next node name (column ∷ visible) below =
    elim (bytes_eq column.name name) as (λ same. IsColumnBelow next (typed_column node (cond same (Some column) (visible_named visible name)))) [
      | true ↦ one_below next (typed_column node (Some column)) column.id (column_of_column (typed_column node (Some column)) column.id refl) (All-head (IsBelow next) column visible below)
      | false ↦ column_below next node name visible (All-tail (IsBelow next) column visible below)
    ]

call_below : (next : ℕ) (node : NodeId) (kind : Kind) (calls : List CallColumn) → CallsBelow next calls → IsColumnBelow next (typed_call node kind (call_at calls node))
call_below next node kind [] below = none_below next (typed_call node kind None) (column_of_constant (typed_call node kind None) [] refl)
call_below next node kind (call ∷ calls) below =
    elim (call.node.0 == node.0) as (λ same. IsColumnBelow next (typed_call node kind (cond same (Some call) (call_at calls node)))) [
      | true ↦ one_below next (typed_call node kind (Some call)) call.id (column_of_column (typed_call node kind (Some call)) call.id refl) below.0
      | false ↦ call_below next node kind calls below.1
    ]

seen_below : (node : NodeId) (span : Span) (seen : Seen Both) → ReadsBelow (typing node span (seen_with typing_in seen))
seen_below node span (constant values kind) next visible columns calls whole free = none_below next _ (column_of_constant _ values refl)
seen_below node span (named name) next visible columns calls whole free = column_below next node name visible.columns columns
seen_below node span (same part) next visible columns calls whole free = part.reading.is next visible columns calls whole free
seen_below node span (applied function parts) next visible columns calls whole free =
    none_below next _ (column_of_call _ (function_in_plan function (parts_with typing_in parts)) _ _ refl)
seen_below node span (aggregate function star parts) next visible columns calls whole free = call_below next node _ visible.calls calls
seen_below node span (refused parts rule at) next visible columns calls whole free = none_below next (typed_null node) (column_of_constant (typed_null node) [] refl)

abbrev both : Reader Both
both node span seen = record { typing = typing node span (seen_with typing_in seen); is = seen_below node span seen }

pub typed_below : (expr : Expr) (next : ℕ) (visible : Visible) → AllBelow next visible.columns → CallsBelow next visible.calls → (whole free : ℕ) → IsColumnBelow next (typed_of expr visible whole free)
typed_below expr next visible columns calls whole free =
    subst (λ (these : Typing). IsColumnBelow next (these.at visible whole free)) (sym (read_made Both Typing both typing typing_in (record { is = λ node span seen. refl }) expr))
    ((read_by both expr).is next visible columns calls whole free)
