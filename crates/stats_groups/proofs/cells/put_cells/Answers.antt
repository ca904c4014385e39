use Rattle.std.proofs.Common.{◌∙◌, sym, arith, rules}
use Rattle.std.proofs.lemmas.List.{nil_from_length}
use Rattle.std.specs.Vec.Iter.{into_iter_items}
use Rattle.stats_groups.proofs.CellSteps.{placed_turn, placed_end}
use Rattle.stats_groups.proofs.cells.put_cells.Goals as goal

pub loop-cell-preserved : goal.loop-cell-preserved
loop-cell-preserved c = record {
  counted = search rules;
  row = placed_turn c.loop-cell.row c.put_first.new.row c.loop-cell.left.now c.behind-left.result.now c.in-Some.cell (into_iter_items c.next.new.self) (into_iter_items c.loop-cell.cell-iterator)
      c.in_ok-put_first.ensures c.behind-left.ensures c.in-Some.ensures.steps.0
      ∙ c.loop-cell.invariant.row;
}

pub returns : goal.returns
returns c =
    let none = nil_from_length (into_iter_items c.loop-cell.cell-iterator) (omega (arith, c.loop-cell.invariant.counted, c.in-None.ensures.steps.0)) in
    placed_end c.loop-cell.row c.loop-cell.left.now (into_iter_items c.loop-cell.cell-iterator) none ∙ c.loop-cell.invariant.row
