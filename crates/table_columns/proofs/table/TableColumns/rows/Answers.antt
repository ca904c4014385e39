use Rattle.std.proofs.Common.{length, ap, arith}
use Rattle.std.proofs.lemmas.List.FromFn.{length-map-range_with_len}
use Rattle.table_columns.specs.Tables.{TableSeen}
use Rattle.table_columns.specs.Held.{held_row, all_held}
use Rattle.table_columns.proofs.table.TableColumns.rows.Goals as goal

pub returns : goal.returns
returns c =
    let many = length-map-range_with_len (held_row (all_held c.self.inside.columns.items)) 0 c.self.inside.count in
    let same = ap (λ (table : TableSeen). length table.rows) c.self.view_is in
    omega arith
