-- What a command takes, from what its parse says. These are said of any command, since one that is written out computes far.
use Rattle.std.proofs.Common.{◌≡◌, ◌∙◌, List, [], ◌∷◌, true, Option, Some, None, refl, ap, sym}
use Rattle.clap.specs.Words.{App, IsAmong, Kinds, Row, Text, first_of, first_value, fault_of, is_simple, is_simple_and_free, matches_of, rows_of}
use Rattle.clap.specs.declared.error.kind.ErrorKind.{ErrorKind}
use Rattle.clap.specs.declared.parser.matches.Found.{Found}
use Rattle.clap.proofs.WalkLemmas.{first_value-rows}
use Rattle.clap.proofs.OnLiterals.{clap_on_literals}
use Rattle.esql_words.specs.Command.{Given, esql_app, given_in, given_of, given_unless}

pub text_by : (found : Found) (id : Text) (given : Option Text) → given ≡ first_value found id → given ≡ first_of id (rows_of found)
text_by found id given e = e ∙ first_value-rows found id

simple : is_simple esql_app ≡ true
unfolding esql_app clap_on_literals
simple = refl

simple_and_free : is_simple_and_free esql_app ≡ true
unfolding esql_app clap_on_literals
simple_and_free = refl

-- no fault and these matches
pub taken : {P : Type 0} (app : App) → app ≡ esql_app → (words : List Text) (given : Given) (rows : List Row) → given ≡ given_in rows
    → (is_simple app ≡ true → (rows ≡ matches_of app words) × P) → (is_simple_and_free app ≡ true → fault_of app words ≡ []) → Some given ≡ given_of esql_app words
unfolding given_of
taken {P} app is words given rows same matched faultless =
    ap Some (same ∙ ap given_in (matched (ap is_simple is ∙ simple)).0)
    ∙ ap (λ (faults : Kinds). given_unless faults (matches_of app words)) (sym (faultless (ap is_simple_and_free is ∙ simple_and_free)))
    ∙ ap (λ (a : App). given_of a words) is

none_at : (kind : ErrorKind) (kinds : Kinds) (rows : List Row) → IsAmong kind kinds → None ≡ given_unless kinds rows
none_at kind [] rows among = absurd among
none_at kind (k ∷ kinds) rows among = refl

-- a fault
pub refused : (app : App) → app ≡ esql_app → (words : List Text) (kind : ErrorKind)
    → (is_simple_and_free app ≡ true → IsAmong kind (fault_of app words)) → None ≡ given_of esql_app words
unfolding given_of
refused app is words kind among =
    none_at kind (fault_of app words) (matches_of app words) (among (ap is_simple_and_free is ∙ simple_and_free)) ∙ ap (λ (a : App). given_of a words) is
