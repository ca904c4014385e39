-- The words of the grammar that are names: they are taken without regard to ASCII case.
use Rattle.std.specs.Prelude.{ℕ, Bool, true, false, if◌then◌else◌, List, [], ◌∷◌, Option, Some, None, codes}
use Rattle.std.specs.Str.{str_eq_ignore_ascii_case}
use Rattle.esql_commands.specs.declared.words.CommandWord.{CommandWord}
use Rattle.esql_commands.specs.declared.words.CommandWord.TheVariants.{From, Row, Where, Eval, Keep, Drop, Rename, Sort, Limit, MvExpand, Stats, Dissect, Grok, Enrich, Lookup}

-- the words that commands begin with
abbrev pub command_words : List (List ℕ × CommandWord)
command_words =
    (codes "FROM", From) ∷ (codes "ROW", Row) ∷ (codes "WHERE", Where) ∷ (codes "EVAL", Eval) ∷ (codes "KEEP", Keep)
    ∷ (codes "DROP", Drop) ∷ (codes "RENAME", Rename) ∷ (codes "SORT", Sort) ∷ (codes "LIMIT", Limit)
    ∷ (codes "MV_EXPAND", MvExpand) ∷ (codes "STATS", Stats) ∷ (codes "DISSECT", Dissect) ∷ (codes "GROK", Grok)
    ∷ (codes "ENRICH", Enrich) ∷ (codes "LOOKUP", Lookup) ∷ []

abbrev pub command_in : List (List ℕ × CommandWord) → List ℕ → Option CommandWord
command_in [] name = None
command_in (word ∷ words) name = if str_eq_ignore_ascii_case name word.0 then Some word.1 else command_in words name

-- the command that a name is the word of
unfoldable pub command_word : List ℕ → Option CommandWord
command_word name = command_in command_words name

unfoldable pub is_join : List ℕ → Bool
is_join name = str_eq_ignore_ascii_case name (codes "JOIN")

unfoldable pub is_append_separator : List ℕ → Bool
is_append_separator name = str_eq_ignore_ascii_case name (codes "APPEND_SEPARATOR")

-- the command gives a query its first rows
abbrev pub is_source : CommandWord → Bool
is_source From = true
is_source Row = true
is_source Where = false
is_source Eval = false
is_source Keep = false
is_source Drop = false
is_source Rename = false
is_source Sort = false
is_source Limit = false
is_source MvExpand = false
is_source Stats = false
is_source Dissect = false
is_source Grok = false
is_source Enrich = false
is_source Lookup = false
