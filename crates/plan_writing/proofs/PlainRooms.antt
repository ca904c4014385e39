-- Room that is left by what makes one column at most.
use Rattle.std.proofs.Common.{ℕ, ◌+◌, ◌≤◌, Bool, true, false, not, cond, List, [], ◌∷◌, filter, length, Option, Some, None, arith}
use Rattle.std.specs.Str.{bytes_eq}
use Rattle.std.proofs.lemmas.List.{length-append}
use Rattle.esql_types.specs.declared.names.ColId.{ColId}
use Rattle.esql_types.specs.declared.value.Kind.{Kind}
use Rattle.esql_ast.specs.declared.expr.Expr.{Expr}
use Rattle.esql_ast.specs.Nodes.{nodes_of_expr}
use Rattle.esql_plan.specs.declared.plan.OutColumn.{OutColumn}
use Rattle.row_semantics.specs.Typed.{typing_of}
use Rattle.query_semantics.specs.Writings.{Writing, put_visible, typed_in, column_of_typed, write_input_by, write_input}
use Rattle.plan_writing.specs.Writings.{HasRoom}
use Rattle.plan_writing.proofs.Expressions.{patterns_at_most, some_node}

pub filter_shorter : {A : Type 0} (test : A → Bool) (xs : List A) → length (filter test xs) ≤ length xs
filter_shorter test [] = omega arith
filter_shorter test (x ∷ xs) =
    let rest = filter_shorter test xs in
    elim (test x) as (λ passes. length (cond passes (x ∷ filter test xs) (filter test xs)) ≤ length (x ∷ xs)) [ true ↦ omega (arith, rest) | false ↦ omega (arith, rest) ]

pub put_shown : (visible : List OutColumn) (name : List ℕ) (kind : Kind) (number : ℕ) → length (put_visible visible name kind number) ≤ length visible + 1
put_shown visible name kind number =
    let kept : List OutColumn = filter (λ (column : OutColumn). not (bytes_eq column.name name)) visible in
    omega (arith, length-append kept (record { name = name; kind = kind; id = record { 0 = number } } ∷ []), filter_shorter (λ (column : OutColumn). not (bytes_eq column.name name)) visible)

pub less_room : (writing : Writing) (room less : ℕ) → less ≤ room → HasRoom writing room → HasRoom writing less
less_room writing room less fewer has =
    record { shown = omega (arith, has.shown, fewer); columns = omega (arith, has.columns, fewer); whole = omega (arith, has.whole, fewer); free = omega (arith, has.free, fewer); cutters = omega (arith, has.cutters, fewer) }

pub same_room : (writing : Writing) (taken more : ℕ) → HasRoom writing (taken + more) → HasRoom writing more
same_room writing taken more room = record { shown = omega (arith, room.shown); columns = omega (arith, room.columns); whole = omega (arith, room.whole); free = omega (arith, room.free); cutters = omega (arith, room.cutters) }

pub input_room : (expr : Expr) (writing : Writing) (more : ℕ) → HasRoom writing (length (nodes_of_expr expr) + more) → HasRoom (write_input writing expr) more
input_room expr writing more room = by_column (column_of_typed (typed_in writing expr))
  where
    by_column : (found : Option ColId) → HasRoom (write_input_by found expr writing) more
    by_column (Some id) = same_room writing _ more room
    by_column None =
        let most = patterns_at_most expr in
        let some = some_node expr in
        record {
          shown = omega (arith, room.shown);
          columns = omega (arith, room.columns, some);
          whole = omega (arith, room.whole, most.whole, length-append writing.whole (typing_of expr).whole);
          free = omega (arith, room.free, most.free, length-append writing.free (typing_of expr).free);
          cutters = omega (arith, room.cutters);
        }
