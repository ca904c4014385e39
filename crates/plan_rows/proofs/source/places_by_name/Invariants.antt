use Rattle.std.proofs.Common.{◌≡◌, ℕ, ◌-◌, List, drop, length}
use Rattle.std.specs.BTreeMap.{get_by}
use Rattle.std.specs.Cmp.Lexicographic.{slice_cmp}
use Rattle.std.specs.Ordering.{nat_cmp}
use Rattle.plan_rows.specs.Places.{place_from}
use Rattle.plan_rows.proofs.source.places_by_name.Given as goal

abbrev pub invariant-loop-back : goal.invariant-loop-back
invariant-loop-back l = (name : List ℕ) →
    get_by (λ key. slice_cmp nat_cmp name key.now) l.named ≡ place_from (drop (length l.columns - l.back) l.columns) (length l.columns - l.back) name
