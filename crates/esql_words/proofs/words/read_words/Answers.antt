use Rattle.std.proofs.Common.{◌≡◌, ◌∙◌, map, string_bytes, Option, Some, None, IfOk, IfErr, ap, sym, subst, option_and_then, option_map}
use Rattle.esql_words.specs.declared.options.Options.{Options}
use Rattle.esql_words.specs.declared.options.WordsError.TheVariants.{Usage}
use Rattle.esql_words.specs.Command.{given_by}
use Rattle.esql_words.specs.Words.{options_in, options_of}
use Rattle.esql_words.proofs.Asked.{asked}
use Rattle.esql_words.proofs.words.read_words.Goals as goal

said : (c : goal.After-options_in) → options_of (map string_bytes c.args.words.now) ≡ options_in (given_by c.in-Some.texts)
said c = asked _ _ c.in_ok-texts.ensures ∙ ap (λ texts. option_and_then options_in (option_map given_by texts)) c.in-Some.is

pub returns-in-Some-clause-read : goal.returns-in-Some-clause-read
returns-in-Some-clause-read c =
    let P : Option Options → Type 0 = λ asked. IfOk c.options_in.result (λ options. asked ≡ Some options) in
    subst P (sym (said c)) c.options_in.ensures.read

pub returns-in-Some-clause-refused : goal.returns-in-Some-clause-refused
returns-in-Some-clause-refused c =
    let P : Option Options → Type 0 = λ asked. IfErr c.options_in.result (λ error. error ≡ Usage → asked ≡ None) in
    subst P (sym (said c)) c.options_in.ensures.refused

pub returns-in-Some-clause-page : goal.returns-in-Some-clause-page
returns-in-Some-clause-page c = c.options_in.ensures.page

pub returns-in-Some-clause-rows : goal.returns-in-Some-clause-rows
returns-in-Some-clause-rows c = c.options_in.ensures.rows

pub returns-in-None-clause-refused : goal.returns-in-None-clause-refused
returns-in-None-clause-refused c =
    λ usage. asked _ _ c.in_ok-texts.ensures ∙ ap (λ texts. option_and_then options_in (option_map given_by texts)) c.in-None.is
