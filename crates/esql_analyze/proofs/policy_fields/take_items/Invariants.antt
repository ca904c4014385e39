use Rattle.std.proofs.Common.{◌≡◌, drop}
use Rattle.std.specs.List.{filter_map}
use Rattle.query_semantics.specs.Appended.{taken_item}
use Rattle.query_semantics.specs.AppendedShapes.{first_unknown}
use Rattle.esql_analyze.proofs.PolicyFields.{TakenSoFar}
use Rattle.esql_analyze.proofs.policy_fields.take_items.Given as goal

abbrev pub invariant-loop-item : goal.invariant-loop-item
invariant-loop-item l = record {
  taken : TakenSoFar (filter_map (taken_item l.fields) l.items) (filter_map (taken_item l.fields) (drop l.item-index l.items)) l.taken;
  unknown : first_unknown l.fields (drop l.item-index l.items) ≡ first_unknown l.fields l.items;
}
