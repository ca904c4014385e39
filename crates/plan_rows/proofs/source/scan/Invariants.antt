use Rattle.std.proofs.Common.{◌≡◌, take}
use Rattle.std.specs.Prelude.{slice_get}
use Rattle.std.specs.List.{flat_map}
use Rattle.plan_semantics.specs.Tables.{scan_table}
use Rattle.plan_rows.specs.Held.{tables_held}
use Rattle.plan_rows.specs.Kept.{rows_of}
use Rattle.plan_rows.proofs.source.scan.Given as goal

abbrev pub invariant-loop-number : goal.invariant-loop-number
invariant-loop-number l =
    rows_of l.rows ≡ flat_map (λ number. scan_table l.scanned (slice_get (tables_held l.catalog l.tables).tables number)) (take l.number-index l.numbers)
