use Rattle.std.proofs.Common.{◌≡◌, ◌++◌, map, take}
use Rattle.lookup_join.specs.Placed.{placed_shape}
use Rattle.lookup_join.proofs.extend.push_shapes.Given as goal

abbrev pub invariant-loop-shape : goal.invariant-loop-shape
invariant-loop-shape l = l.tables ≡ l.initial.tables ++ map placed_shape (take l.shape-index l.shapes)
