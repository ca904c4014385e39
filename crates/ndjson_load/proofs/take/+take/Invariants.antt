use Rattle.std.proofs.Common.{◌≡◌, drop}
use Rattle.serde_json.specs.View.{items_view, members_view}
use Rattle.ndjson_load.specs.Gathering.{gather_items, gather_members}
use Rattle.ndjson_load.specs.Joining.{after}
use Rattle.ndjson_load.specs.Rows.{taken}
use Rattle.ndjson_load.proofs.take.+take.Given as goal

abbrev pub invariant-take_items-loop-item : goal.invariant-take_items-loop-item
invariant-take_items-loop-item l =
    after l.initial.cell (taken l.column (gather_items (items_view l.item-items) l.path)) ≡ after l.cell (taken l.column (gather_items (items_view (drop l.item-index l.item-items)) l.path))

abbrev pub invariant-take_members-loop-key : goal.invariant-take_members-loop-key
invariant-take_members-loop-key l =
    after l.initial.cell (taken l.column (gather_members (members_view l.initial.key-iterator) l.path)) ≡ after l.cell (taken l.column (gather_members (members_view l.key-iterator) l.path))
