use Rattle.std.proofs.Common.{drop}
use Rattle.serde_json.specs.View.{items_view, members_view}
use Rattle.ndjson_load.specs.Gathering.{gather_items, gather_members}
use Rattle.ndjson_load.specs.Spreading.{Spreads}
use Rattle.ndjson_load.proofs.spread.+spread.Given as goal

abbrev pub invariant-spread_items-loop-item : goal.invariant-spread_items-loop-item
invariant-spread_items-loop-item l =
    Spreads l.columns l.reach.depth l.reach.low l.reach.high (gather_items (items_view l.item-items)) (gather_items (items_view (drop l.item-index l.item-items))) l.initial.cells l.cells

abbrev pub invariant-spread_members-loop-key : goal.invariant-spread_members-loop-key
invariant-spread_members-loop-key l =
    Spreads l.columns l.reach.depth l.reach.low l.reach.high (gather_members (members_view l.initial.key-iterator)) (gather_members (members_view l.key-iterator)) l.initial.cells l.cells
