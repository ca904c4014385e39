use Rattle.std.proofs.Common.{◌≡◌, ◌<◌, length, ap, arith}
use Rattle.std.proofs.lemmas.Bool.Decides.{nat_tests}
use Rattle.ndjson_load.specs.declared.column.MappedColumn.{MappedColumn}
use Rattle.ndjson_load.proofs.Places.{none_under, long_name, are_under}
use Rattle.ndjson_load.proofs.reach.under.Goals as goal

pub returns-then-low-high : goal.returns-then-low-high
returns-then-low-high c =
    let same : c.place_of-low.result ≡ c.place_of-high.result = grind (arith, nat_tests, c.if-low-high.true) in
    none_under c.args.columns.now c.args.reach.depth c.args.reach.low c.args.reach.high c.requires c.args.key.now c.place_of-low.result c.place_of-high.result c.place_of-low.ensures c.place_of-high.ensures same

pub depth_under-depth-requires : goal.depth_under-depth-requires
depth_under-depth-requires c =
    let column = c.index-columns-low.result in
    let from = c.place_of-high.ensures.from in
    let some : c.place_of-low.result < c.place_of-high.result = grind (arith, nat_tests, c.if-low-high.false, from) in
    let long = long_name c.args.columns.now c.args.reach.depth c.args.reach.low c.args.reach.high c.requires c.args.key.now c.place_of-low.result c.place_of-high.result c.place_of-low.ensures c.place_of-high.ensures some column in
    omega (arith, long, ap (λ (m : MappedColumn). length m.column.name) c.index-columns-low.is)

pub returns : goal.returns
returns c =
    are_under c.args.columns.now c.args.reach.depth c.args.reach.low c.args.reach.high c.requires c.args.key.now c.place_of-low.result c.place_of-high.result c.place_of-low.ensures c.place_of-high.ensures
    c.depth_under-depth.result c.depth_under-depth.ensures
