use Rattle.std.proofs.Common.{◌≡◌, ◌++◌, ℕ, List, Some, length}
use Rattle.std.specs.List.{flat_map}
use Rattle.std.specs.Vec.Iter.{into_iter_items}
use Rattle.esql_scalar.specs.Rows.{row_of}
use Rattle.warn_log.specs.Logs.{logged}
use Rattle.plan_semantics.specs.Taken.{taken_of_cell, grokked_by}
use Rattle.esql_types.specs.declared.value.Value.{Value}
use Rattle.plan_rows.specs.Kept.{kept_taken}
use Rattle.plan_rows.proofs.cuts.grok_rows.Given as goal

abbrev pub invariant-loop-row : goal.invariant-loop-row
invariant-loop-row l = record {
  rows : l.new ++ flat_map (kept_taken (λ count cell. taken_of_cell count (grokked_by l.node (Some l.grok)) cell) l.input l.to) (into_iter_items l.row-iterator)
      ≡ flat_map (kept_taken (λ count cell. taken_of_cell count (grokked_by l.node (Some l.grok)) cell) l.input l.to) l.fn.rows;
  log : logged l.log (flat_map (λ (row : List (List Value)). (taken_of_cell (length l.to) (grokked_by l.node (Some l.grok)) (row_of row l.input.0)).failures) (into_iter_items l.row-iterator))
      ≡ logged l.initial.log (flat_map (λ (row : List (List Value)). (taken_of_cell (length l.to) (grokked_by l.node (Some l.grok)) (row_of row l.input.0)).failures) l.fn.rows);
  nodes : length l.log ≡ length l.initial.log;
}
