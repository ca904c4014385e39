use Rattle.std.proofs.Common.{◌<◌, ◌∙◌, sym, ap, length, arith, length-set}
use Rattle.stats_groups.specs.declared.state.Running.{Running}
use Rattle.stats_groups.specs.declared.state.State.{State}
use Rattle.stats_groups.specs.Entries.{inputs_of}
use Rattle.stats_groups.specs.States.{state_after}
use Rattle.stats_groups.proofs.RunningTurn.{running_end, running_turn}
use Rattle.stats_groups.proofs.group_states.GroupStates.add.Goals as goal

pub loop-place-preserved : goal.loop-place-preserved
loop-place-preserved c =
    let inputs = inputs_of c.args.aggregates.now c.args.row.now in
    let states = c.loop-place.self-inside.states.items in
    let place = c.loop-place.place in
    let old = c.index_mut.result.now in
    let new : Running = record { node = old.node; state = c.add.new.self } in
    let within : place < length states = omega (arith, c.loop-place.invariant.long) in
    record {
      long = length-set states place new ∙ c.loop-place.invariant.long;
      states = running_turn states place old new inputs within c.index_mut.ensures.value
          (ap (λ (state : State). let one : Running = record { node = old.node; state = state } in one) (c.in_ok-add.ensures ∙ ap (state_after old.state) c.input_at.ensures))
          ∙ c.loop-place.invariant.states;
    }

pub returns : goal.returns
returns c =
    let inputs = inputs_of c.args.aggregates.now c.args.row.now in
    sym (running_end c.loop-place.self-inside.states.items c.loop-place.place inputs (omega (arith, c.loop-place.invariant.long)))
    ∙ c.loop-place.invariant.states
