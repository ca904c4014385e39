-- Refusals of a query, and what is said of them.
use Rattle.std.specs.Prelude.{ℕ, List, ◌++◌, codes, decimal}
use Rattle.esql_types.specs.declared.places.Span.{Span}
use Rattle.esql_types.specs.Places.{line_at, column_at}
use Rattle.esql_types.specs.Spans.{text_at}
use Rattle.answer_text.specs.declared.refusals.Refusal.{Refusal}
use Rattle.answer_text.specs.declared.refusals.Refusal.TheVariants.{TooLong, BadCharacter, OpenString, BadEscape, OpenComment, WideNumber, Unexpected, UnexpectedEnd, TooDeep, TooMany, NotBuilt, UnknownTable, UnknownPolicy, UnknownColumn, NoMatch, UnknownFunction, BadArguments, BadKind, NotBoolean, NotAggregate, NestedAggregate, BadDissect, BadGrok, BadRegex, EmptyResultColumns, PatternRoom}

-- `WORDS [PART]`
abbrev pub in_brackets : List ℕ → List ℕ → List ℕ
in_brackets words part = words ++ codes " [" ++ part ++ codes "]"

-- what is said of a refusal, which may name the part of the query that is refused
abbrev pub message_of : Refusal → List ℕ → List ℕ
message_of TooLong part = codes "query longer than 65536 bytes"
message_of BadCharacter part = codes "unexpected character"
message_of OpenString part = codes "text or name is not closed"
message_of BadEscape part = codes "unknown escape"
message_of OpenComment part = codes "comment is not closed"
message_of WideNumber part = codes "number is too large"
message_of Unexpected part = in_brackets (codes "unexpected") part
message_of UnexpectedEnd part = codes "unexpected end of query"
message_of TooDeep part = codes "expression nested deeper than 100"
message_of TooMany part = codes "more than 200 commands"
message_of NotBuilt part = codes "command not built"
message_of UnknownTable part = in_brackets (codes "unknown table") part
message_of UnknownPolicy part = in_brackets (codes "unknown policy") part
message_of UnknownColumn part = in_brackets (codes "unknown column") part
message_of NoMatch part = in_brackets (codes "no column matches") part
message_of UnknownFunction part = in_brackets (codes "unknown function") part
message_of BadArguments part = in_brackets (codes "wrong arguments in") part
message_of BadKind part = in_brackets (codes "wrong kind") part
message_of NotBoolean part = in_brackets (codes "condition is not boolean") part
message_of NotAggregate part = in_brackets (codes "not an aggregate") part
message_of NestedAggregate part = in_brackets (codes "aggregate not allowed here") part
message_of BadDissect part = codes "bad DISSECT pattern"
message_of BadGrok part = codes "bad GROK pattern"
message_of BadRegex part = codes "bad regular expression"
message_of EmptyResultColumns part = codes "no columns are left"
message_of PatternRoom part = codes "pattern too large"

-- `line L:C: MESSAGE`, with the place of an offset
abbrev pub placed_line : List ℕ → ℕ → List ℕ → List ℕ
placed_line text at message =
    codes "line " ++ decimal (line_at text at) ++ codes ":" ++ decimal (column_at text at) ++ codes ": " ++ message ++ codes "\n"

-- the line that refuses a part of the query, with the place of its start
abbrev pub refusal_line : List ℕ → Refusal → Span → List ℕ
refusal_line text refusal span = placed_line text span.from (message_of refusal (text_at text span))

-- the line that refuses a name which the part of the query stands for, with the place of its start
abbrev pub named_refusal_line : List ℕ → Refusal → List ℕ → Span → List ℕ
named_refusal_line text refusal name span = placed_line text span.from (message_of refusal name)
