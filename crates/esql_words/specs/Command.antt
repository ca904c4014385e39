-- The command by which `clap` reads the words, and the texts that it finds in them.
use Rattle.std.specs.Prelude.{ℕ, Bool, true, false, List, [], ◌∷◌, Option, Some, None, codes, option_map}
use Rattle.std.specs.Borrow.{Bor}
use Rattle.std.specs.Str.{bytes_eq}
use Rattle.clap.specs.Words.{App, Kinds, Row, Rule, fault_of, first_of, matches_of, new_rule, with_rule}
use Rattle.clap.specs.Simple.{new_shape}
use Rattle.clap.specs.declared.builder.action.ArgAction.TheVariants.{SetTrue}
use Rattle.esql_words.specs.declared.command.Texts.{Texts}

-- an option, `--NAME` and a value
abbrev pub option_rule : List ℕ → Rule
option_rule name = record (new_rule name) { long = Some name }

-- a flag, `--NAME` alone
abbrev pub flag_rule : List ℕ → Rule
flag_rule name = record (new_rule name) { long = Some name; action = Some SetTrue }

-- a value that stands by itself
abbrev pub operand_rule : List ℕ → Rule
operand_rule = new_rule

-- a command whose words begin after the program's name
abbrev pub bare_app : List ℕ → App
bare_app name = record { top = record (new_shape name) { no_binary_name = true }; subs = [] }

-- the options with a value, the flag and the one operand
unfoldable pub esql_app : App
esql_app =
    with_rule (with_rule (with_rule (with_rule (with_rule (with_rule (bare_app (codes "esql"))
    (option_rule (codes "data"))) (option_rule (codes "page-size"))) (option_rule (codes "format"))) (option_rule (codes "generate")))
    (flag_rule (codes "explain"))) (operand_rule (codes "query"))

-- what words give: the texts of the options and of the operand, and whether the flag is set
pub record Given : Type 0 where
  pub folder : Option (List ℕ)
  pub page_size : Option (List ℕ)
  pub format : Option (List ℕ)
  pub generate : Option (List ℕ)
  pub explain : Bool
  pub query : Option (List ℕ)

-- the value of a flag is `true` where it is set
abbrev pub is_set : Option (List ℕ) → Bool
is_set None = false
is_set (Some value) = bytes_eq value (codes "true")

-- what is given by the values that `clap` matches
abbrev pub given_in : List Row → Given
given_in rows = record {
  folder = first_of (codes "data") rows;
  page_size = first_of (codes "page-size") rows;
  format = first_of (codes "format") rows;
  generate = first_of (codes "generate") rows;
  explain = is_set (first_of (codes "explain") rows);
  query = first_of (codes "query") rows;
}

-- the command takes words in which it finds no fault
abbrev pub given_unless : Kinds → List Row → Option Given
given_unless [] rows = Some (given_in rows)
given_unless (fault ∷ faults) rows = None

-- what words give to a command, or nothing where it does not take them
unfoldable pub given_of : App → List (List ℕ) → Option Given
given_of app words = given_unless (fault_of app words) (matches_of app words)

-- the same of the texts that the program borrows from the words
abbrev pub bytes_of : Option (Bor (List ℕ)) → Option (List ℕ)
bytes_of = option_map (λ text. text.now)

abbrev pub given_by : Texts → Given
given_by texts = record {
  folder = bytes_of texts.folder;
  page_size = bytes_of texts.page_size;
  format = bytes_of texts.format;
  generate = bytes_of texts.generate;
  explain = texts.explain;
  query = bytes_of texts.query;
}
