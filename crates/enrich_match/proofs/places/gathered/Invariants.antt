use Rattle.std.proofs.Common.{◌≡◌, take}
use Rattle.enrich_match.specs.Places.{gathered}
use Rattle.enrich_match.proofs.places.gathered.Given as goal

abbrev pub invariant-loop-value : goal.invariant-loop-value
invariant-loop-value l = l.found.items ≡ gathered l.places.entries (take l.value-index l.cell)
