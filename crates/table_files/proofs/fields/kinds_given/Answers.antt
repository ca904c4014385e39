use Rattle.std.proofs.Common.{sym, subst, ap, ◌∙◌}
use Rattle.std.specs.BTreeMap.{get_by_text}
use Rattle.table_files.specs.Catalogs.{columns_of}
use Rattle.table_files.specs.Fields.{AreOnce}
use Rattle.table_files.specs.Policies.{columns_named}
use Rattle.table_files.proofs.FieldsGiven.{named_once, table_given}
use Rattle.table_files.proofs.fields.kinds_given.Goals as goal

pub add_columns-requires : goal.add_columns-requires
add_columns-requires c = subst AreOnce (sym c.columns_named.ensures) (named_once c.args.findings.now.tables c.as_str.result.now c.requires.rise)

pub loop-name-preserved : goal.loop-name-preserved
loop-name-preserved c =
    table_given c.args.findings.now.tables c.args.tables.now c.loop-name.name-index c.name-item.result (columns_of c.columns_named.result.now) (get_by_text c.loop-name.kinds) (get_by_text c.add_columns.new.kinds) c.loop-name-test.true c.name-item.is
    (c.columns_named.ensures ∙ ap (columns_named c.args.findings.now.tables) c.as_str.ensures) c.loop-name.invariant c.in_ok-add_columns.ensures
