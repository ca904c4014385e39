use Rattle.std.proofs.Common.{◌≡◌, true, false, drop, sym, ◌∙◌, ap}
use Rattle.esql_lex.specs.Gaps.{begins}
use Rattle.esql_lex.proofs.Pieces.{search_found, search_goes_on}
use Rattle.esql_lex.proofs.gaps.end_of.Goals as goal

pub returns-then-starts_with-clause-value : goal.returns-then-starts_with-clause-value
returns-then-starts_with-clause-value c =
    let here : begins c.args.mark.now (drop c.walk.at c.args.text.now) ≡ true = ap (begins c.args.mark.now) (sym c.split_at.ensures.back) ∙ sym c.starts_with.ensures.value ∙ c.if-starts_with.true in
    search_found c.args.mark.now c.args.text.now c.walk.at c.walk-test.true c.walk.invariant here

pub walk-preserved : goal.walk-preserved
walk-preserved c =
    let here : begins c.args.mark.now (drop c.walk.at c.args.text.now) ≡ false = ap (begins c.args.mark.now) (sym c.split_at.ensures.back) ∙ sym c.starts_with.ensures.value ∙ c.if-starts_with.false in
    search_goes_on c.args.mark.now c.args.text.now c.walk.at c.walk-test.true c.walk.invariant here
