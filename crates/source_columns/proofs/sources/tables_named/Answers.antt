use Rattle.std.proofs.Common.{◌≡◌, ◌≤◌, ◌+◌, ◌∷◌, List, length, drop, sym, ap, subst, ◌∙◌}
use Rattle.std.proofs.lemmas.List.{drop_more}
use Rattle.esql_ast.specs.declared.query.NameAt.{NameAt}
use Rattle.esql_plan.specs.declared.catalog.TableShape.{TableShape}
use Rattle.source_columns.specs.Index.{IsIndex}
use Rattle.source_columns.proofs.Walks.{few_small, walk_numbers, numbers_from}
use Rattle.source_columns.proofs.sources.tables_named.Goals as goal

pub loop-name-preserved : goal.loop-name-preserved
loop-name-preserved c =
    let tables = c.args.catalog.now.tables in
    let names = c.args.names.now in
    let place = c.loop-name.name-index in
    let name = c.name-item.result in
    let step : drop place names ≡ name ∷ drop (place + 1) names =
    drop_more names place name c.loop-name-test.true ∙ ap (λ (this : NameAt). this ∷ drop (place + 1) names) (sym c.name-item.is) in
    let index : IsIndex tables c.in_ok-index.index =
    subst (λ (these : List TableShape). IsIndex these c.in_ok-index.index) c.as_slice-tables.ensures c.in_ok-index.ensures in
    record {
      left = walk_numbers tables c.in_ok-index.index name (drop (place + 1) names) c.loop-name.numbers c.add_named.new.numbers index c.in_ok-add_named.ensures.numbers
          ∙ ap (λ (these : List NameAt). numbers_from tables c.loop-name.numbers these) (sym step)
          ∙ c.loop-name.invariant.left;
      seen = c.in_ok-add_named.ensures.seen;
    }

pub add_named-requires-clause-few : goal.add_named-requires-clause-few
add_named-requires-clause-few c =
    few_small c.as_slice-tables.result.now c.in_ok-index.index c.in_ok-index.ensures (subst (λ (these : List TableShape). length these ≤ 4294967295) (sym c.as_slice-tables.ensures) c.requires)
