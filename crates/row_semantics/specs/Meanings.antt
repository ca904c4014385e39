-- The value of an expression on a row of names, with its failures.
use Rattle.std.specs.Prelude.{◌==◌, List, [], ◌∷◌, map, if◌then◌else◌}
use Rattle.esql_types.specs.declared.names.NodeId.{NodeId}
use Rattle.esql_types.specs.declared.value.Value.{Value}
use Rattle.esql_ast.specs.declared.expr.Expr.{Expr}
use Rattle.esql_plan.specs.Values.{Valued, silent, applied as value_of_applied}
use Rattle.row_semantics.specs.Forms.{constant, named, same, applied, aggregate, refused, Reader, read_by, function_in_plan, arguments_in_plan}
use Rattle.row_semantics.specs.Rows.{Row, cell_at}

-- the cell of an aggregate call, which is known by its node
pub record CallCell : Type 0 where
  pub node : NodeId
  pub cell : List Value

-- what an expression is evaluated on: a row of names, and in a field of STATS the cells of its aggregate calls for the group
pub record Given : Type 0 where
  pub row : Row
  pub calls : List CallCell

abbrev pub cell_of_call : List CallCell → NodeId → List Value
cell_of_call [] node = []
cell_of_call (call ∷ calls) node = if call.node.0 == node.0 then call.cell else cell_of_call calls node

-- The value of an expression by its form. One that breaks a rule is null; no query with it is answered.
abbrev pub valued : Reader (Given → Valued)
valued node span (constant values kind) given = silent values
valued node span (named name) given = silent (cell_at given.row name)
valued node span (same part) given = part.reading given
valued node span (applied function parts) given =
    value_of_applied (function_in_plan function parts) node (map (λ part. part.reading given) (arguments_in_plan function parts))
valued node span (aggregate function star parts) given = silent (cell_of_call given.calls node)
valued node span (refused parts rule at) given = silent []

-- the value of an expression on a row and the cells of its aggregate calls
abbrev pub value_on : Expr → Given → Valued
value_on = read_by valued
