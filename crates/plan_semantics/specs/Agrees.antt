-- What a plan shows, and when two agree in it.
use Rattle.std.specs.Prelude.{◌≡◌, ◌==◌, List, map, filter}
use Rattle.esql_types.specs.declared.value.Value.{Value}
use Rattle.esql_types.specs.declared.cause.Cause.{Cause}
use Rattle.esql_types.specs.declared.cause.Failure.{Failure}
use Rattle.esql_types.specs.declared.names.Column.{Column}
use Rattle.esql_types.specs.declared.names.NodeId.{NodeId}

-- columns, rows of cells in their order, and failures
pub record PlanSeen : Type 0 where
  pub columns : List Column
  pub rows : List (List (List Value))
  pub failures : List Failure

-- the causes of the failures of a node, in order
abbrev pub causes_at : NodeId → List Failure → List Cause
causes_at node failures = map (λ failure. failure.cause) (filter (λ failure. failure.node.0 == node.0) failures)

-- each node has the same causes in the same order
abbrev pub AgreeAtNodes : List Failure → List Failure → Type 0
AgreeAtNodes these those = (node : NodeId) → causes_at node these ≡ causes_at node those

-- the same columns, the same rows in the same order, and the same causes at each node
pub record Agrees (this that : PlanSeen) : Type 0 where
  pub columns : this.columns ≡ that.columns
  pub rows : this.rows ≡ that.rows
  pub failures : AgreeAtNodes this.failures that.failures
