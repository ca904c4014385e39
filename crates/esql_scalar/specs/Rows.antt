-- Rows as they are kept, a cell for each column number, and expressions on them.
use Rattle.std.specs.Prelude.{ℕ, List, [], get_or, map}
use Rattle.esql_types.specs.declared.value.Value.{Value}
use Rattle.esql_plan.specs.declared.typed.TypedExpr.{TypedExpr}
use Rattle.esql_plan.specs.Values.{NumberedRow, Valued, value_of_typed}

-- the row of cells in the order of the column numbers
abbrev pub row_of : List (List Value) → NumberedRow
row_of cells = λ (id : ℕ). get_or cells id []

-- the values of expressions on a row
abbrev pub values_of : List TypedExpr → NumberedRow → List Valued
values_of exprs row = map (λ expr. value_of_typed expr row) exprs
