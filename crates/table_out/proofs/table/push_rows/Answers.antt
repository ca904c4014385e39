use Rattle.std.specs.String.{string_bytes}
use Rattle.table_out.proofs.Pages.{row_more}
use Rattle.table_out.proofs.table.push_rows.Goals as goal

pub loop-row-preserved : goal.loop-row-preserved
loop-row-preserved c =
    row_more c.args.widths.now c.args.rows.now c.row-item.result c.as_slice.result.now c.loop-row.row-index (string_bytes c.args.out.now) (string_bytes c.loop-row.out) (string_bytes c.push_line.new.out)
    c.loop-row-test.true c.row-item.is c.as_slice.ensures c.in_ok-push_line.ensures c.loop-row.invariant
