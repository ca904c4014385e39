-- Where a CASE stands between its parts.
use Rattle.std.specs.Prelude.{Bool, true, false, List, [], ◌∷◌}
use Rattle.esql_types.specs.declared.names.NodeId.{NodeId}
use Rattle.esql_plan.specs.Values.{Valued, silent, case_of}
use Rattle.esql_scalar.specs.declared.expression.CaseTurn.{CaseTurn}
use Rattle.esql_scalar.specs.declared.expression.CaseTurn.TheVariants.{Condition, Passed, Met}

-- what stands behind a condition that is met, or is not
abbrev pub turn_after : Bool → CaseTurn
turn_after true = Met
turn_after false = Passed

-- the value of a CASE of which these parts are left
abbrev pub case_at : CaseTurn → NodeId → List Valued → Valued
case_at Condition node parts = case_of node parts
case_at Passed node [] = silent []
case_at Passed node (part ∷ parts) = case_of node parts
case_at Met node [] = silent []
case_at Met node (part ∷ parts) = part
