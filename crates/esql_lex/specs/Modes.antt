-- The mode that the tokens so far set for the next one.
use Rattle.std.specs.Prelude.{ℕ, List, codes, if◌then◌else◌}
use Rattle.std.specs.Str.{str_eq_ignore_ascii_case}
use Rattle.esql_lex.specs.declared.token.TokenKind.{TokenKind}
use Rattle.esql_lex.specs.declared.token.TokenKind.TheVariants.{Name, QuotedName, Pattern as PatternToken, Source as SourceToken, Text, Number, Word, Sign, End}
use Rattle.esql_lex.specs.declared.token.Sign.{Sign as SignMark}
use Rattle.esql_lex.specs.declared.token.Sign.TheVariants.{Bar, Comma, OpenParen, CloseParen, OpenBracket, CloseBracket, Plus, Minus, Star, Slash, Percent, Equal, NotEqual, Less, LessEqual, Greater, GreaterEqual, Assign, Cast}
use Rattle.esql_lex.specs.declared.mode.Mode.{Mode}
use Rattle.esql_lex.specs.declared.mode.Mode.TheVariants.{Plain, Source, Pattern}
use Rattle.esql_lex.specs.declared.mode.State.{State}
use Rattle.esql_lex.specs.declared.mode.State.TheVariants.{First, Inside, Sources, Patterns, OneSource, AfterLookup}

-- the mode of the next token
abbrev pub mode_of : State → Mode
mode_of First = Plain
mode_of Inside = Plain
mode_of Sources = Source
mode_of Patterns = Pattern
mode_of OneSource = Source
mode_of AfterLookup = Plain

-- the first name of a command sets the mode, without regard to ASCII case
abbrev pub opened_by : List ℕ → State
opened_by name =
    if str_eq_ignore_ascii_case name (codes "from") then Sources
    else (if str_eq_ignore_ascii_case name (codes "keep") then Patterns
    else (if str_eq_ignore_ascii_case name (codes "drop") then Patterns
    else (if str_eq_ignore_ascii_case name (codes "enrich") then OneSource
    else (if str_eq_ignore_ascii_case name (codes "lookup") then AfterLookup
    else Inside))))

-- after LOOKUP and JOIN stands one name of a table
abbrev pub joined_by : List ℕ → State
joined_by name = if str_eq_ignore_ascii_case name (codes "join") then OneSource else Inside

-- a token that is neither a name nor a bar: the modes of FROM, KEEP and DROP last, those for one token end
abbrev pub state_after_other : State → State
state_after_other First = Inside
state_after_other Inside = Inside
state_after_other Sources = Sources
state_after_other Patterns = Patterns
state_after_other OneSource = Inside
state_after_other AfterLookup = Inside

-- a name, never a quoted one
abbrev pub state_after_name : State → List ℕ → State
state_after_name First name = opened_by name
state_after_name Inside name = Inside
state_after_name Sources name = Sources
state_after_name Patterns name = Patterns
state_after_name OneSource name = Inside
state_after_name AfterLookup name = joined_by name

-- a sign: a bar ends the command
abbrev pub state_after_sign : State → SignMark → State
state_after_sign state Bar = First
state_after_sign state Comma = state_after_other state
state_after_sign state OpenParen = state_after_other state
state_after_sign state CloseParen = state_after_other state
state_after_sign state OpenBracket = state_after_other state
state_after_sign state CloseBracket = state_after_other state
state_after_sign state Plus = state_after_other state
state_after_sign state Minus = state_after_other state
state_after_sign state Star = state_after_other state
state_after_sign state Slash = state_after_other state
state_after_sign state Percent = state_after_other state
state_after_sign state Equal = state_after_other state
state_after_sign state NotEqual = state_after_other state
state_after_sign state Less = state_after_other state
state_after_sign state LessEqual = state_after_other state
state_after_sign state Greater = state_after_other state
state_after_sign state GreaterEqual = state_after_other state
state_after_sign state Assign = state_after_other state
state_after_sign state Cast = state_after_other state

-- what a token makes of the state
abbrev pub state_after : State → TokenKind → List ℕ → State
state_after state Name slice = state_after_name state slice
state_after state QuotedName slice = state_after_other state
state_after state PatternToken slice = state_after_other state
state_after state SourceToken slice = state_after_other state
state_after state Text slice = state_after_other state
state_after state (Number value) slice = state_after_other state
state_after state (Word word) slice = state_after_other state
state_after state (Sign sign) slice = state_after_sign state sign
state_after state End slice = state_after_other state
