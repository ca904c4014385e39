use Rattle.std.proofs.Common.{◌++◌, Bool, rules}
use Rattle.std.proofs.lemmas.List.Sorted.{IsPartitionPoint-from_clause}
use Rattle.ndjson_load.specs.Spreading.{stands_before, rest_at}
use Rattle.ndjson_load.specs.declared.column.MappedColumn.{MappedColumn}
use Rattle.ndjson_load.proofs.Places.{part, part_parted, place_from}
use Rattle.ndjson_load.proofs.reach.place_of.Goals as goal

pub returns : goal.returns
returns c =
    let columns = c.args.columns.now in
    let depth = c.args.reach.depth in
    let low = c.args.reach.low in
    let high = c.args.reach.high in
    let bound = c.args.key.now ++ c.args.end.now in
    let test : MappedColumn → Bool = λ (m : MappedColumn). stands_before (rest_at depth m) bound in
    place_from columns depth low high c.requires bound c.partition_point.result c.partition_point.ensures.bound
    (IsPartitionPoint-from_clause test (part columns depth low high c.requires) c.partition_point.result c.partition_point.ensures.partitioned (part_parted columns depth low high c.requires bound) (λ a r q k. search rules))
