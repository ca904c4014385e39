use Rattle.std.proofs.Common.{◌≡◌}
use Rattle.plan_semantics.specs.Taken.{nulls}
use Rattle.plan_rows.proofs.cuts.no_cells.Given as goal

abbrev pub invariant-loop : goal.invariant-loop
invariant-loop l = l.cells ≡ nulls l.counter
