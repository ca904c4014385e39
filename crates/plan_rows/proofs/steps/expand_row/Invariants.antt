use Rattle.std.proofs.Common.{◌≡◌, ◌++◌, ◌∷◌, [], map, take}
use Rattle.stats_groups.specs.Cells.{put_cell}
use Rattle.plan_rows.proofs.steps.expand_row.Given as goal

abbrev pub invariant-loop-value : goal.invariant-loop-value
invariant-loop-value l = l.new ≡ l.initial.new ++ map (λ one. put_cell l.fn.row l.to.0 (one ∷ [])) (take l.value-index l.value-items)
