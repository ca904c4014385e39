use Rattle.std.proofs.Common.{◌<◌, List, [], get_or, length, sym, ap, ◌∙◌, arith}
use Rattle.std.proofs.lemmas.List.{get_or_default, get_or_read}
use Rattle.serde_json.specs.View.{view}
use Rattle.esql_types.specs.declared.value.Value.{Value as CellValue}
use Rattle.ndjson_load.specs.Gathering.{gather}
use Rattle.ndjson_load.specs.Joining.{after}
use Rattle.ndjson_load.specs.Rows.{taken}
use Rattle.ndjson_load.specs.declared.column.MappedColumn.{MappedColumn}
use Rattle.ndjson_load.proofs.Spreads.{spreads_ending}
use Rattle.ndjson_load.proofs.Takings.{Takes-OnOk}
use Rattle.ndjson_load.proofs.spread.take_ending.Goals as goal

pub returns-in-Some : goal.returns-in-Some
returns-in-Some c =
    let columns = c.args.columns.now in
    let cells = c.args.cells.now in
    let place = c.in-Some.place in
    let ends = c.in-Some.ensures in
    let give = gather (view c.args.member.now) in
    let below = ends.below in
    let range = c.requires.range.within in
    let wide = c.requires.wide in
    let within : place < length cells = omega arith in
    Takes-OnOk (Unit {0}) _ c.take.result c.take.new.cell _
    (λ took. spreads_ending columns c.args.reach.depth c.args.reach.low c.args.reach.high give c.args.key.now place cells c.take.new.cell ends within
    (λ (d : MappedColumn).
    ap (λ (xs : List CellValue). after xs (taken (get_or columns place d) (give []))) (get_or_default cells place [] c.index-cells-place.result within)
    ∙ ap (λ (m : MappedColumn). after (get_or cells place c.index-cells-place.result) (taken m (give []))) (sym (get_or_read columns place c.index-columns-place.result (omega arith) c.index-columns-place.is d))
    ∙ took))
    c.take.ensures
