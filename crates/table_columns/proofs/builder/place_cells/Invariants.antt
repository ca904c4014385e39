use Rattle.std.proofs.Common.{◌≡◌, map, drop}
use Rattle.table_columns.specs.Held.{Held, AreClosed, all_grown}
use Rattle.table_columns.specs.Placing.{placed}
use Rattle.table_columns.proofs.builder.place_cells.Given as goal

abbrev pub invariant-loop-cell : goal.invariant-loop-cell
invariant-loop-cell l = record {
  rest : placed l.number (drop l.cell-index l.present) l.columns.items ≡ placed l.number l.present l.initial.columns.items;
  closed : AreClosed l.columns.items;
  kinds : map (λ (column : Held). column.kind) (all_grown l.columns.items) ≡ map (λ (column : Held). column.kind) (all_grown l.initial.columns.items);
}
