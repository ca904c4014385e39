use Rattle.std.proofs.Common.{◌≡◌, ◌++◌, drop, map}
use Rattle.std.specs.List.{flat_map}
use Rattle.std.specs.Vec.Iter.{into_iter_items}
use Rattle.esql_plan.specs.Values.{Valued}
use Rattle.plan_semantics.specs.Taken.{converted_columns}
use Rattle.plan_rows.proofs.cuts.convert_columns.Given as goal

abbrev pub invariant-loop-column : goal.invariant-loop-column
invariant-loop-column l = record {
  cells : l.cells ++ map (λ (valued : Valued). valued.cell) (converted_columns l.node (drop l.column-index l.columns) (into_iter_items l.left))
      ≡ map (λ (valued : Valued). valued.cell) (converted_columns l.node l.columns l.fn.taken);
  failures : l.failures ++ flat_map (λ (valued : Valued). valued.failures) (converted_columns l.node (drop l.column-index l.columns) (into_iter_items l.left))
      ≡ l.initial.failures ++ flat_map (λ (valued : Valued). valued.failures) (converted_columns l.node l.columns l.fn.taken);
}
