use Rattle.std.specs.BTreeMap.{get_by_text}
use Rattle.table_files.proofs.FieldsGiven.{column_given}
use Rattle.table_files.proofs.fields.add_columns.Goals as goal

pub loop-mapped-preserved : goal.loop-mapped-preserved
loop-mapped-preserved c =
    column_given c.args.columns.now c.loop-mapped.mapped-index c.mapped-item.result (get_by_text c.args.kinds.now) (get_by_text c.loop-mapped.kinds) (get_by_text c.add_column.new.kinds) c.loop-mapped-test.true c.mapped-item.is
    c.requires c.loop-mapped.invariant c.in_ok-add_column.ensures
