use Rattle.std.proofs.Common.{sym, ◌∙◌}
use Rattle.std.proofs.lemmas.List.Sorted.{searched}
use Rattle.table_columns.proofs.Found.{nowhere}
use Rattle.table_columns.proofs.Rises.{rises_in_order}
use Rattle.table_columns.proofs.held.place_of.Goals as goal

pub returns-clause-absent : goal.returns-clause-absent
returns-clause-absent c none =
    nowhere c.args.numbers.now c.args.number c.binary_search.result
    (searched c.args.numbers.now c.args.number c.binary_search.result c.binary_search.ensures.position (rises_in_order 0 c.args.numbers.now c.requires.0 c.requires.1))
    (sym c.ok.ensures.value ∙ none)
