-- A typed expression in a plan: its patterns, and the column that it is, or else a new one.
use Rattle.std.specs.Prelude.{◌+◌, [], ◌∷◌, ◌++◌, Option, Some, None}
use Rattle.esql_types.specs.declared.names.ColId.{ColId}
use Rattle.esql_ast.specs.declared.expr.Expr.{Expr}
use Rattle.esql_plan.specs.declared.step.Step.TheVariants.{Eval}
use Rattle.esql_plan.specs.declared.typed.TypedExpr.{TypedExpr}
use Rattle.row_semantics.specs.Typed.{typing_of}
use Rattle.query_semantics.specs.Writings.{Writing, column_at}

-- the patterns of an expression are read
abbrev pub with_patterns : Expr → Writing → Writing
with_patterns expr writing = record writing { whole = writing.whole ++ (typing_of expr).whole; free = writing.free ++ (typing_of expr).free }

abbrev pub with_column : Option ColId → TypedExpr → Writing → Writing
with_column (Some id) typed writing = writing
with_column None typed writing = record writing { next = writing.next + 1; steps = writing.steps ++ Eval (column_at writing.next) typed ∷ [] }
