use Rattle.std.proofs.Common.{◌≡◌, ◌≤◌, length, drop, sym, ◌∙◌, ap, subst, arith}
use Rattle.esql_lex.specs.Steps.{closing_len}
use Rattle.esql_lex.proofs.Readings.{quoted_stands, quoted_open, quoted_empty}
use Rattle.esql_lex.proofs.quotes.quoted_at.Goals as goal

pub returns-then-len-gt1 : goal.returns-then-len-gt1
returns-then-len-gt1 c = quoted_stands c.args.mode c.args.at c.args.text.now c.closing_len-len.result c.token.result c.requires.some c.requires.quotes c.requires.begins
    (c.closing_len-len.ensures.value ∙ ap closing_len c.split_at.ensures.back) (subst (λ xs. c.closing_len-len.result ≤ length xs) c.split_at.ensures.back c.closing_len-len.ensures.within) c.if-len-gt1.true c.token.ensures

pub returns-then-opens_name : goal.returns-then-opens_name
returns-then-opens_name c = quoted_open c.args.mode c.args.at c.args.text.now c.requires.some c.requires.quotes c.requires.begins
    (λ l. let size : c.closing_len-len.result ≡ closing_len (drop 1 c.args.text.now) = c.closing_len-len.ensures.value ∙ ap closing_len c.split_at.ensures.back in let few = c.if-len-gt1.false in omega (arith, l, size, few)) (sym c.opens_name.ensures ∙ c.if-opens_name.true)

pub returns-else-opens_name : goal.returns-else-opens_name
returns-else-opens_name c = quoted_empty c.args.mode c.args.at c.args.text.now c.requires.some c.requires.quotes c.requires.begins
    (λ l. let size : c.closing_len-len.result ≡ closing_len (drop 1 c.args.text.now) = c.closing_len-len.ensures.value ∙ ap closing_len c.split_at.ensures.back in let few = c.if-len-gt1.false in omega (arith, l, size, few)) (sym c.opens_name.ensures ∙ c.if-opens_name.false)
