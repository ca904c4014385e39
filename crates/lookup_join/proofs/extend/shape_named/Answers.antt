use Rattle.std.proofs.Common.{None, Some, refl, sym, ◌∙◌}
use Rattle.source_columns.proofs.Names.{table_found, item_read}
use Rattle.lookup_join.proofs.extend.shape_named.Goals as goal

pub returns-in-Some : goal.returns-in-Some
returns-in-Some c =
    table_found c.args.tables.now c.args.name.now (Some c.in-Some.place) _ (sym c.in-Some.is ∙ c.place_named.ensures.number) (item_read c.args.tables.now c.in-Some.place c.get.result c.get.ensures.lookup)

pub returns-in-None : goal.returns-in-None
returns-in-None c = table_found c.args.tables.now c.args.name.now None None (sym c.in-None.is ∙ c.place_named.ensures.number) refl
