use Rattle.std.proofs.Common.{◌≡◌, List, Some, drop, fold}
use Rattle.esql_types.specs.declared.value.Value.{Value}
use Rattle.plan_semantics.specs.Taken.{joined_cells, dissected_by, nulls}
use Rattle.plan_rows.proofs.cuts.cut_cell.Given as goal

abbrev pub invariant-loop-value : goal.invariant-loop-value
invariant-loop-value l =
    fold (λ (cells : List (List Value)) (one : Value). joined_cells cells (dissected_by (Some l.dissect) one).cells) l.cells (drop l.value-index l.value-items)
    ≡ fold (λ (cells : List (List Value)) (one : Value). joined_cells cells (dissected_by (Some l.dissect) one).cells) (nulls l.count) l.value-items
