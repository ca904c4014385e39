use Rattle.std.proofs.Common.{◌≡◌, true, length, rules}
use Rattle.std.specs.List.{AllAdjacentBelow}
use Rattle.std.proofs.lemmas.Bool.{MatchBool-at_true}
use Rattle.std.proofs.lemmas.List.Sorted.{answers_always}
use Rattle.ndjson_load.specs.Mappings.{name_lt}
use Rattle.ndjson_load.proofs.Rises.{names_rise}
use Rattle.ndjson_load.proofs.table.names_rise.Goals as goal

pub returns : goal.returns
returns c = λ rise.
    let columns = c.args.columns.now in
    names_rise columns
    (MatchBool-at_true (AllAdjacentBelow (λ x y. true ≡ name_lt x y) columns (length columns)) _ rise (c.is_sorted_by.ensures.cases name_lt (answers_always _ _ _ (λ f a r g h. search rules))))
