use Rattle.std.proofs.Common.{◌≡◌, ◌+◌, ◌∷◌, List, drop, sym, ap, ◌∙◌}
use Rattle.std.proofs.lemmas.List.{drop_more}
use Rattle.esql_ast.specs.declared.query.NameAt.{NameAt}
use Rattle.row_semantics.specs.Sources as source
use Rattle.source_columns.specs.Gathered.{columns_in}
use Rattle.source_columns.proofs.Again.{adds_ordered}
use Rattle.source_columns.proofs.Walks.{walk_adds}
use Rattle.source_columns.proofs.sources.columns_of_tables.Goals as goal

pub loop-name-preserved : goal.loop-name-preserved
loop-name-preserved c =
    let tables = c.as_slice-tables.result.now in
    let names = c.args.names.now in
    let place = c.loop-name.name-index in
    let name = c.name-item.result in
    let before = columns_in c.loop-name.gathered.entries in
    let after = columns_in c.add_source.new.gathered.entries in
    let step : drop place names ≡ name ∷ drop (place + 1) names =
    drop_more names place name c.loop-name-test.true ∙ ap (λ (this : NameAt). this ∷ drop (place + 1) names) (sym c.name-item.is) in
    record {
      left = walk_adds tables name (drop (place + 1) names) before after c.in_ok-add_source.ensures.added
          ∙ ap (λ (these : List NameAt). source.with_tables tables these before) (sym step)
          ∙ c.loop-name.invariant.left;
      ordered = adds_ordered name _ before after c.loop-name.invariant.ordered c.in_ok-add_source.ensures.added;
      taken = c.in_ok-add_source.ensures.taken;
    }
