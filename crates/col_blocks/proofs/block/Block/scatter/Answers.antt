use Rattle.std.proofs.Common.{◌≡◌, ℕ, ◌+◌, ◌-◌, ◌<◌, ◌≤◌, Bool, true, false, cond, List, [], ◌∷◌, ◌++◌, length, get_or, take, refl, sym, ap, ◌∙◌, arith}
use Rattle.esql_types.specs.declared.value.Value.{Value}
use Rattle.col_blocks.specs.Kept.{scattered}
use Rattle.col_blocks.proofs.Growth.{cells_step}
use Rattle.col_blocks.proofs.Keeps.{count_step, scattered_step}
use Rattle.col_blocks.proofs.block.Block.scatter.Goals as goal

pub loop-place-preserved : goal.loop-place-preserved
loop-place-preserved c =
    let place = c.loop-place.place in
    let places = c.args.places.now in
    let cells = c.args.self.now.cells in
    let set = c.get.result in
    let taken = c.loop-place.taken in
    let before = scattered (take place places) cells in
    let more = cond {A = List Value} set (get_or cells taken []) [] ∷ [] in
    record {
      built = cells_step c.args.self.now.kind c.loop-place.builder c.push_scattered.new.builder before more (scattered (take (place + 1) places) cells) c.loop-place.invariant.built c.in_ok-taken.ensures.builder
          (scattered_step places cells before (before ++ more) place taken set (omega arith) refl c.loop-place.invariant.counted c.get.ensures refl);
      counted = count_step places place taken c.in_ok-taken.taken set (omega arith) c.loop-place.invariant.counted c.get.ensures c.in_ok-taken.ensures.taken;
    }
