use Rattle.std.proofs.Common.{None, Some, refl, ◌∙◌}
use Rattle.source_columns.proofs.Names.{table_found, item_read}
use Rattle.source_columns.proofs.index.table_of.Goals as goal

pub returns-in-Some : goal.returns-in-Some
returns-in-Some c =
    table_found c.args.tables.now c.args.name.now (Some c.in-Some.number.now) _ (c.in-Some.ensures.value ∙ c.requires c.args.name.now) (item_read c.args.tables.now c.in-Some.number.now c.get-in-Some.result c.get-in-Some.ensures.lookup)

pub returns-in-None : goal.returns-in-None
returns-in-None c = table_found c.args.tables.now c.args.name.now None None (c.in-None.ensures.value ∙ c.requires c.args.name.now) refl
