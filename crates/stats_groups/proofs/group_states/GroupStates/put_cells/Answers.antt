use Rattle.std.proofs.Common.{[], ◌∷◌, ◌++◌, ◌∙◌, ap, map, arith, rules}
use Rattle.std.specs.List.{flat_map}
use Rattle.std.proofs.lemmas.List.{nil_from_length}
use Rattle.std.specs.Vec.Iter.{into_iter_items}
use Rattle.stats_groups.specs.Cells.{put_cells}
use Rattle.stats_groups.specs.States.{cell_of_running, failures_of_running}
use Rattle.stats_groups.proofs.CellSteps.{placed_turn, placed_end, given_turn}
use Rattle.stats_groups.proofs.group_states.GroupStates.put_cells.Goals as goal

pub loop-running-preserved : goal.loop-running-preserved
loop-running-preserved c =
    let row = c.loop-running.row in
    let left = c.loop-running.left.now in
    let rest = map cell_of_running (into_iter_items c.next.new.self) in
    let items = map cell_of_running (into_iter_items c.loop-running.running-iterator) in
    let made = c.in_ok-put_first.ensures ∙ ap (λ cell. put_cells row left (cell ∷ [])) c.in_ok-cell.ensures.cell in
    record {
      counted = search rules;
      row = placed_turn row c.put_first.new.row left c.behind-left.result.now (cell_of_running c.in-Some.running) rest items
          made c.behind-left.ensures (ap (map cell_of_running) c.in-Some.ensures.steps.0)
          ∙ c.loop-running.invariant.row;
      failures = given_turn failures_of_running c.loop-running.failures c.finish.new.failures (c.args.failures.now ++ flat_map failures_of_running c.args.self) c.in-Some.running
          (into_iter_items c.next.new.self) (into_iter_items c.loop-running.running-iterator) c.loop-running.invariant.failures c.in-Some.ensures.steps.0 c.in_ok-cell.ensures.failures;
    }

pub returns-clause-row : goal.returns-clause-row
returns-clause-row c =
    let none = nil_from_length (into_iter_items c.loop-running.running-iterator) (omega (arith, c.loop-running.invariant.counted, c.in-None.ensures.steps.0)) in
    placed_end c.loop-running.row c.loop-running.left.now (map cell_of_running (into_iter_items c.loop-running.running-iterator)) (ap (map cell_of_running) none)
    ∙ c.loop-running.invariant.row
