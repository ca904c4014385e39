use Rattle.std.proofs.Common.{Option, ℕ, ap, sym, ◌∙◌}
use Rattle.source_columns.proofs.Names.{item_read}
use Rattle.lookup_join.proofs.Found.{rows_at, rows_found}
use Rattle.lookup_join.proofs.extend.table_named.Goals as goal

pub returns-in-Some : goal.returns-in-Some
returns-in-Some c =
    item_read c.args.tables.now c.in-Some.place c.get.result c.get.ensures.lookup
    ∙ ap (λ (number : Option ℕ). rows_at number c.args.tables.now) (sym c.in-Some.is ∙ c.place_named.ensures.number)
    ∙ rows_found c.args.shapes.now c.args.tables.now c.args.name.now c.requires.many

pub returns-in-None : goal.returns-in-None
returns-in-None c =
    ap (λ (number : Option ℕ). rows_at number c.args.tables.now) (sym c.in-None.is ∙ c.place_named.ensures.number)
    ∙ rows_found c.args.shapes.now c.args.tables.now c.args.name.now c.requires.many
