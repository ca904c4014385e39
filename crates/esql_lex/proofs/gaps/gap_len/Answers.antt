use Rattle.std.proofs.Common.{sym, ◌∙◌, ap, arith}
use Rattle.esql_lex.specs.Gaps.{piece_len}
use Rattle.esql_lex.proofs.Pieces.{gap_step, gap_done}
use Rattle.esql_lex.proofs.gaps.gap_len.Goals as goal

pub overflow_add-len : goal.overflow_add-len
overflow_add-len c = let s = gap_step c.args.text.now c.walk.len c.in-Some.more c.walk.invariant.0 c.walk.invariant.1 (sym (c.piece_len.ensures ∙ ap piece_len c.split_at.ensures.back) ∙ c.in-Some.is) in grind (arith, s.1)

pub walk-smaller : goal.walk-smaller
walk-smaller c = let s = gap_step c.args.text.now c.walk.len c.in-Some.more c.walk.invariant.0 c.walk.invariant.1 (sym (c.piece_len.ensures ∙ ap piece_len c.split_at.ensures.back) ∙ c.in-Some.is) in omega (arith, s.0, s.1)

pub walk-preserved : goal.walk-preserved
walk-preserved c = let s = gap_step c.args.text.now c.walk.len c.in-Some.more c.walk.invariant.0 c.walk.invariant.1 (sym (c.piece_len.ensures ∙ ap piece_len c.split_at.ensures.back) ∙ c.in-Some.is) in (s.1, s.2)

pub returns-in-None-clause-splits : goal.returns-in-None-clause-splits
returns-in-None-clause-splits c = gap_done c.args.text.now c.walk.len c.walk.invariant.1 (sym (c.piece_len.ensures ∙ ap piece_len c.split_at.ensures.back) ∙ c.in-None.is)
