use Rattle.std.proofs.Common.{sym, ◌∙◌}
use Rattle.esql_lex.proofs.Slices.{long_stands, short_stands, nothing_stands}
use Rattle.esql_lex.proofs.forms.sign_at.Goals as goal

pub returns-in-Some : goal.returns-in-Some
returns-in-Some c = long_stands c.args.at c.args.text.now c.in-Some.sign c.token.result c.requires.no_comment c.requires.no_name c.requires.no_digit c.requires.no_backtick c.requires.no_quote (sym c.long_sign_at.ensures ∙ c.in-Some.is) c.token.ensures

pub returns-in-Some-short_sign : goal.returns-in-Some-short_sign
returns-in-Some-short_sign c = short_stands c.args.at c.args.text.now c.in-Some-short_sign.sign c.token-in-Some-short_sign.result c.requires.some c.requires.no_comment c.requires.no_name c.requires.no_digit c.requires.no_backtick c.requires.no_quote
    (sym c.long_sign_at.ensures ∙ c.in-None.is) (sym c.short_sign.ensures ∙ c.in-Some-short_sign.is) c.token-in-Some-short_sign.ensures

pub returns-in-None-short_sign : goal.returns-in-None-short_sign
returns-in-None-short_sign c = nothing_stands c.args.at c.args.text.now c.requires.some c.requires.no_comment c.requires.no_name c.requires.no_digit c.requires.no_backtick c.requires.no_quote
    (sym c.long_sign_at.ensures ∙ c.in-None.is) (sym c.short_sign.ensures ∙ c.in-None-short_sign.is)
