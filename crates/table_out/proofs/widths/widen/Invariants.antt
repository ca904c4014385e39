use Rattle.std.proofs.Common.{◌≡◌, ℕ, ◌<◌, ◌≤◌, max, [], length, map, get_or}
use Rattle.answer_text.specs.Txt.{printed, width_of}
use Rattle.table_out.proofs.widths.widen.Given as goal

-- the places so far are widened, and the others as they were
abbrev pub invariant-loop-place : goal.invariant-loop-place
invariant-loop-place g l = (length l.widths ≡ length l.initial.widths)
    × ((place : ℕ) → place < l.place → get_or l.widths place 0 ≡ max (get_or l.initial.widths place 0) (width_of (get_or (map (λ item. printed (g.T.Print.text item)) l.items) place [])))
    × ((place : ℕ) → l.place ≤ place → get_or l.widths place 0 ≡ get_or l.initial.widths place 0)
