use Rattle.std.proofs.Common.{arith, ◌≤◌, ◌<◌, take, ◌∙◌, ap, subst}
use Rattle.std.specs.Prelude.{pos}
use Rattle.std.specs.List.{list_all}
use Rattle.std.specs.Char.{is_ascii_digit}
use Rattle.std.proofs.lemmas.Int.{to_z-of_z}
use Rattle.esql_lex.specs.Forms.{value_of}
use Rattle.esql_lex.proofs.Lists.{run_passes}
use Rattle.esql_lex.proofs.Slices.{number_stands, number_too_wide}
use Rattle.esql_lex.proofs.forms.number_at.Goals as goal

pub number_of-requires : goal.number_of-requires
number_of-requires c = ap (list_all is_ascii_digit) (c.split_at.ensures.front ∙ ap (λ n. take n c.args.text.now) c.digits_len-len.ensures.value) ∙ run_passes is_ascii_digit c.args.text.now

pub returns-in-Some : goal.returns-in-Some
returns-in-Some c = number_stands c.args.at c.args.text.now c.digits_len-len.result c.in-Some.value c.token.result c.requires.some c.requires.no_comment c.requires.no_name c.requires.begins c.digits_len-len.ensures.value
    ((c.in-Some.ensures).0 ∙ ap (λ slice. pos (value_of slice)) c.split_at.ensures.front)
    (subst (λ slice. value_of slice ≤ 9223372036854775807) c.split_at.ensures.front (c.in-Some.ensures).1)
    (grind (arith, to_z-of_z, c.token.ensures))

pub returns-in-None : goal.returns-in-None
returns-in-None c = number_too_wide c.args.at c.args.text.now c.digits_len-len.result c.requires.some c.requires.no_comment c.requires.no_name c.requires.begins c.digits_len-len.ensures.value
    (subst (λ slice. 9223372036854775807 < value_of slice) c.split_at.ensures.front c.in-None.ensures)
