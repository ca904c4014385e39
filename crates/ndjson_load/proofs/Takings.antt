-- A cell that is taken one item after another.
use Rattle.std.proofs.Common.{◌≡◌, List, ◌++◌, Ok, Err, Result, ◌∙◌}
use Rattle.std.specs.Result.{OnOk}
use Rattle.esql_types.specs.declared.value.Value.{Value as CellValue}
use Rattle.ndjson_load.specs.declared.column.MappedColumn.{MappedColumn}
use Rattle.ndjson_load.specs.declared.cause.RowCause.{RowCause}
use Rattle.ndjson_load.specs.declared.take.TakeError.{TakeError}
use Rattle.ndjson_load.specs.declared.take.TakeError.TheVariants.{Bad, Memory}
use Rattle.ndjson_load.specs.Gathering.{Item}
use Rattle.ndjson_load.specs.Joining.{after}
use Rattle.ndjson_load.specs.Loading.{Takes}
use Rattle.ndjson_load.specs.Rows.{taken, taken_item}
use Rattle.ndjson_load.proofs.Joins.{join_all-more, join_all-fault}

-- the first items are taken
pub taken_more : (column : MappedColumn) (had now : List CellValue) (front back : List Item) → after had (taken column front) ≡ Ok now
    → after had (taken column (front ++ back)) ≡ after now (taken column back)
taken_more column had now front back is = join_all-more (taken_item column) had now front back is

-- one of the first items is bad
pub Takes-fault : (T : Type 0) (column : MappedColumn) (had cell : List CellValue) (front back : List Item) (meant : Result (List CellValue) RowCause) (error : TakeError)
    → meant ≡ after had (taken column (front ++ back)) → Takes {T = T} (after had (taken column front)) (Err error) cell → Takes {T = T} meant (Err error) cell
Takes-fault T column had cell front back meant (Bad cause) is takes = is ∙ join_all-fault (taken_item column) had cause front back takes
Takes-fault T column had cell front back meant (Memory error) is takes = tt

-- what was taken, where nothing was bad
pub Takes-OnOk : (T : Type 0) (meant : Result (List CellValue) RowCause) (result : Result T TakeError) (cell : List CellValue) (P : Type 0) → (meant ≡ Ok cell → P) → Takes {T = T} meant result cell → OnOk result P
Takes-OnOk T meant (Ok done) cell P step takes = step takes
Takes-OnOk T meant (Err (Bad cause)) cell P step takes = tt
Takes-OnOk T meant (Err (Memory error)) cell P step takes = tt
