use Rattle.esql_lex.proofs.Closings.{closing_ends, closing_goes_on}
use Rattle.esql_lex.proofs.quotes.closing_len.Goals as goal

pub returns-then-next-ne96-clause-value : goal.returns-then-next-ne96-clause-value
returns-then-next-ne96-clause-value c = closing_ends c.args.text.now c.split_at.result.1.now c.walk.at c.walk.found c.split_at.ensures.back c.in-len2-up.len_at_least c.if-byte-ne96.false c.if-next-ne96.true c.walk.invariant.so_far

pub walk-preserved : goal.walk-preserved
walk-preserved c = closing_goes_on c.args.text.now c.split_at.result.1.now c.walk.at c.walk.found c.walk.invariant.within c.split_at.ensures.back c.in-len2-up.len_at_least c.if-byte-ne96.false c.if-next-ne96.false c.walk.invariant.so_far
