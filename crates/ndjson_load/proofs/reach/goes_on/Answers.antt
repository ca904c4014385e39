use Rattle.std.proofs.Common.{◌<◌, sym, ap, ◌∙◌, arith}
use Rattle.std.proofs.lemmas.List.{get_or_read}
use Rattle.ndjson_load.specs.Spreading.{rest_at}
use Rattle.ndjson_load.specs.declared.column.MappedColumn.{MappedColumn}
use Rattle.ndjson_load.proofs.Places.{first_ends}
use Rattle.ndjson_load.proofs.reach.goes_on.Goals as goal

pub returns-else-reach : goal.returns-else-reach
returns-else-reach c =
    let columns = c.args.columns.now in
    let depth = c.args.reach.depth in
    let low = c.args.reach.low in
    let order = c.requires.order in
    let within = c.requires.within in
    let apart = c.if-reach.false in
    let some : low < c.args.reach.high = omega arith in
    first_ends columns depth low c.args.reach.high c.requires c.rest_at.result.now some
    (λ (d : MappedColumn). ap (rest_at depth) (sym (get_or_read columns low c.index-columns-reach.result (omega arith) c.index-columns-reach.is d)) ∙ sym c.rest_at.ensures)
    c.is_empty.result c.is_empty.ensures
