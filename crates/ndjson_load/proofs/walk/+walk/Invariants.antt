use Rattle.std.proofs.Common.{◌≡◌}
use Rattle.serde_json.specs.View.{members_view}
use Rattle.ndjson_load.specs.Joining.{after}
use Rattle.ndjson_load.specs.Mappings.{columns_of}
use Rattle.ndjson_load.proofs.walk.+walk.Given as goal

abbrev pub invariant-walk_properties-loop-key : goal.invariant-walk_properties-loop-key
invariant-walk_properties-loop-key l =
    after l.initial.found.items (columns_of l.prefix (members_view l.initial.key-iterator)) ≡ after l.found.items (columns_of l.prefix (members_view l.key-iterator))
