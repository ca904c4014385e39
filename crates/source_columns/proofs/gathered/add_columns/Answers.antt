use Rattle.std.proofs.Common.{◌≡◌, ◌+◌, ◌∷◌, List, drop, fold, sym, ap, subst, ◌∙◌}
use Rattle.std.proofs.lemmas.List.{drop_more}
use Rattle.esql_types.specs.declared.names.Column.{Column}
use Rattle.row_semantics.specs.Sources.{with_column}
use Rattle.source_columns.specs.Gathered.{columns_in, AreOrdered}
use Rattle.source_columns.proofs.Order.{ordered_with}
use Rattle.source_columns.proofs.gathered.add_columns.Goals as goal

pub loop-column-preserved : goal.loop-column-preserved
loop-column-preserved c =
    let columns = c.args.columns.now in
    let place = c.loop-column.column-index in
    let column = c.column-item.result in
    let before = columns_in c.loop-column.gathered.entries in
    let step : drop place columns ≡ column ∷ drop (place + 1) columns =
    drop_more columns place column c.loop-column-test.true ∙ ap (λ (this : Column). this ∷ drop (place + 1) columns) (sym c.column-item.is) in
    record {
      left = ap (λ (these : List Column). fold with_column these (drop (place + 1) columns)) c.in_ok-add_column.ensures ∙ ap (λ (these : List Column). fold with_column before these) (sym step) ∙ c.loop-column.invariant.left;
      ordered = subst AreOrdered (sym c.in_ok-add_column.ensures) (ordered_with before column c.loop-column.invariant.ordered);
    }
