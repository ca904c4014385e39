use Rattle.std.proofs.Common.{◌≡◌, [], ◌∷◌, ◌∙◌, ap, sym}
use Rattle.std.proofs.lemmas.Result.{IfOk-weaker}
use Rattle.plan_semantics.specs.Tables.{source_rows}
use Rattle.plan_rows.specs.Held.{tables_held}
use Rattle.plan_rows.specs.Kept.{rows_of}
use Rattle.plan_rows.proofs.source.source_rows.Goals as goal

pub returns-in-OneRow : goal.returns-in-OneRow
returns-in-OneRow c =
    let tables = (tables_held c.args.catalog.now c.args.tables.now).tables in
    IfOk-weaker c.one_row.result (λ rows. rows ≡ [] ∷ []) (λ rows. rows_of rows ≡ source_rows tables c.args.source.now)
    (λ rows is. ap rows_of is ∙ ap (source_rows tables) (sym c.in-OneRow.is))
    c.one_row.ensures
