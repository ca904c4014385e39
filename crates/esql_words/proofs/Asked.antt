-- What words ask for, from what they give.
use Rattle.std.proofs.Common.{◌≡◌, List, ℕ, Option, ap, sym, option_and_then}
use Rattle.esql_words.specs.Command.{Given, esql_app, given_of}
use Rattle.esql_words.specs.Words.{options_in, options_of}

pub asked : (words : List (List ℕ)) (given : Option Given) → given ≡ given_of esql_app words → options_of words ≡ option_and_then options_in given
unfolding options_of
asked words given e = ap (option_and_then options_in) (sym e)
