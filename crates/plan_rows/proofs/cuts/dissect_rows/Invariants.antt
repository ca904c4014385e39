use Rattle.std.proofs.Common.{◌≡◌, ◌++◌, ℕ, List, Some}
use Rattle.std.specs.List.{flat_map}
use Rattle.std.specs.Vec.Iter.{into_iter_items}
use Rattle.plan_semantics.specs.Taken.{taken_of_cell, dissected_by}
use Rattle.esql_types.specs.declared.value.Value.{Value}
use Rattle.plan_rows.specs.Kept.{kept_taken}
use Rattle.plan_rows.proofs.cuts.dissect_rows.Given as goal

abbrev pub invariant-loop-row : goal.invariant-loop-row
invariant-loop-row l =
    l.new ++ flat_map (kept_taken (λ count cell. taken_of_cell count (dissected_by (Some l.dissect)) cell) l.input l.to) (into_iter_items l.row-iterator)
    ≡ flat_map (kept_taken (λ count cell. taken_of_cell count (dissected_by (Some l.dissect)) cell) l.input l.to) l.fn.rows
