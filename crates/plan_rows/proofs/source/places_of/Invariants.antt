use Rattle.std.proofs.Common.{◌≡◌, ◌-◌, drop, length}
use Rattle.plan_rows.specs.Places.{places_of}
use Rattle.plan_rows.proofs.source.places_of.Given as goal

abbrev pub invariant-loop-back : goal.invariant-loop-back
invariant-loop-back l = l.places ≡ places_of l.count (drop (length l.scanned - l.back) l.scanned) l.columns
