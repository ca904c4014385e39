use Rattle.std.proofs.Common.{◌≡◌, take}
use Rattle.std.specs.Prelude.{slice_get}
use Rattle.std.specs.List.{flat_map}
use Rattle.plan_semantics.specs.Taken.{match_rows}
use Rattle.plan_rows.specs.Held.{tables_held}
use Rattle.plan_rows.proofs.enrich.lookup_of.Given as goal

abbrev pub invariant-loop-number : goal.invariant-loop-number
invariant-loop-number l = l.lookup.rows ≡ flat_map (λ number. match_rows l.policy (slice_get (tables_held l.catalog l.tables).tables number)) (take l.number-index l.number-items)
