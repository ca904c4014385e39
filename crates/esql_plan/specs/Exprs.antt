-- Typed expressions, by what they are made of.
use Rattle.std.specs.Prelude.{List}
use Rattle.esql_types.specs.declared.value.Kind.{Kind}
use Rattle.esql_types.specs.declared.value.Value.{Value}
use Rattle.esql_types.specs.declared.names.NodeId.{NodeId}
use Rattle.esql_plan.specs.declared.typed.TypedExpr.{TypedExpr, roll-TypedExpr}
use Rattle.esql_plan.specs.declared.typed.TypedForm.{TypedForm}
use Rattle.esql_plan.specs.declared.typed.TypedForm.TheVariants.{Constant}

-- the expression of a node, with a kind and a form
abbrev pub typed_at : NodeId → Kind → TypedForm → TypedExpr
typed_at node kind form = roll-TypedExpr (record { node = node; kind = kind; form = form })

abbrev pub constant_at : NodeId → Kind → List Value → TypedExpr
constant_at node kind cell = typed_at node kind (Constant cell)
