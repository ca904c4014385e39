use Rattle.std.proofs.Common.{◌≡◌, ◌++◌, map}
use Rattle.std.specs.Vec.Iter.{into_iter_items}
use Rattle.esql_types.specs.declared.value.Value.TheVariants as value
use Rattle.plan_rows.proofs.cuts.cell_of_texts.Given as goal

abbrev pub invariant-loop-text : goal.invariant-loop-text
invariant-loop-text l = l.cell ++ map value.Text (into_iter_items l.text-iterator) ≡ map value.Text l.fn.texts
