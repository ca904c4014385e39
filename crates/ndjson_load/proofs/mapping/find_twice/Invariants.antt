use Rattle.std.proofs.Common.{◌≡◌, length}
use Rattle.ndjson_load.specs.Mappings.{first_twice}
use Rattle.ndjson_load.proofs.mapping.find_twice.Given as goal

abbrev pub invariant-pairs : goal.invariant-pairs
invariant-pairs l = first_twice l.rest ≡ first_twice l.columns

abbrev pub decreases-pairs : goal.decreases-pairs
decreases-pairs l = length l.rest
