-- A plan that is being written: its columns and steps, and what steps read of expressions.
use Rattle.std.specs.Prelude.{ℕ, ◌+◌, not, List, [], ◌∷◌, ◌++◌, filter, map, length, Option, Some, None}
use Rattle.std.specs.Str.{bytes_eq}
use Rattle.esql_types.specs.declared.names.ColId.{ColId}
use Rattle.esql_types.specs.declared.value.Kind.{Kind}
use Rattle.esql_ast.specs.declared.expr.Expr.{Expr}
use Rattle.esql_plan.specs.declared.plan.OutColumn.{OutColumn}
use Rattle.esql_plan.specs.declared.step.Step.{Step}
use Rattle.esql_plan.specs.declared.step.Step.TheVariants as step
use Rattle.esql_plan.specs.declared.typed.TypedExpr.{TypedExpr}
use Rattle.esql_plan.specs.declared.typed.TypedForm.TheOpen.{TypedForm-F, Constant, Column as ColumnRead, Apply}
use Rattle.esql_plan.specs.declared.typed.TypedForm.TheFolds.{fold-TypedExpr}
use Rattle.dissect_grok.specs.declared.cutter.Cutter.{Cutter}
use Rattle.row_semantics.specs.Typed.{typing_of, typed_of}

-- A plan that is being written: the columns that can be seen, the next column number, the patterns and cutters that were read so
-- far, and the steps.
pub record Writing : Type 0 where
  pub visible : List OutColumn
  pub next : ℕ
  pub whole : List (List ℕ)
  pub free : List (List ℕ)
  pub cutters : List Cutter
  pub steps : List Step

abbrev pub column_at : ℕ → ColId
column_at number = record { 0 = number }

-- the names of columns that can be seen
abbrev pub visible_names : List OutColumn → List (List ℕ)
visible_names visible = map (λ (column : OutColumn). column.name) visible

-- a column of a number takes the place of that of its name, and stands at the end
abbrev pub put_visible : List OutColumn → List ℕ → Kind → ℕ → List OutColumn
put_visible visible name kind number =
    filter (λ (column : OutColumn). not (bytes_eq column.name name)) visible ++ record { name = name; kind = kind; id = column_at number } ∷ []

-- a column that is seen under another name
abbrev pub visible_as : List ℕ → OutColumn → OutColumn
visible_as name column = record { name = name; kind = column.kind; id = column.id }

-- the typed form of an expression over the columns that can be seen; its patterns get the next numbers
abbrev pub typed_in : Writing → Expr → TypedExpr
typed_in writing expr = typed_of expr (record { columns = writing.visible; calls = [] }) (length writing.whole) (length writing.free)

-- one more step, which reads the patterns of an expression
abbrev pub with_step : Writing → Expr → Step → Writing
with_step writing expr next_step = record writing {
  whole = writing.whole ++ (typing_of expr).whole;
  free = writing.free ++ (typing_of expr).free;
  steps = writing.steps ++ next_step ∷ [];
}

-- Inputs: what a step reads is a column ----------------------------------------------------------------------------------

abbrev pub column_of_form : TypedForm-F (Option ColId) (Option ColId) → Option ColId
column_of_form (Constant cell) = None
column_of_form (ColumnRead id) = Some id
column_of_form (Apply function args pattern) = None

-- the column that an expression is, parentheses aside
abbrev pub column_of_typed : TypedExpr → Option ColId
column_of_typed = fold-TypedExpr (Option ColId) (Option ColId) column_of_form (λ expr. expr.form)

-- an expression that is no column first makes one, which cannot be seen
abbrev pub write_input_by : Option ColId → Expr → Writing → Writing
write_input_by (Some id) expr writing = writing
write_input_by None expr writing = record (with_step writing expr (step.Eval (column_at writing.next) (typed_in writing expr))) { next = writing.next + 1 }

abbrev pub write_input : Writing → Expr → Writing
write_input writing expr = write_input_by (column_of_typed (typed_in writing expr)) expr writing

-- the column that a step reads for an expression
abbrev pub input_by : Option ColId → ℕ → ColId
input_by (Some id) next = id
input_by None next = column_at next

abbrev pub input_of : Writing → Expr → ColId
input_of writing expr = input_by (column_of_typed (typed_in writing expr)) writing.next
