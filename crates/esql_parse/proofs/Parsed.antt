-- What is known of a query that is parsed, and of a refusal.
use Rattle.std.proofs.Common.{◌≡◌, ◌⊎◌, inl, inr, ℕ, ◌≤◌, ◌<◌, List, length, map, Result, Ok, Err, IfOk, IfErr, MatchResult, ap, sym, subst, ⊎_elim, arith}
use Rattle.std.proofs.lemmas.List.{length-map}
use Rattle.esql_lex.specs.declared.token.Token.{Token}
use Rattle.esql_lex.specs.Tokens.{FitsText}
use Rattle.esql_ast.specs.declared.query.Query.{Query}
use Rattle.esql_ast.specs.declared.query.Command.{Command}
use Rattle.esql_ast.specs.declared.query.SourceCommand.{SourceCommand}
use Rattle.esql_ast.specs.Fits.{QueryFits}
use Rattle.esql_ast.specs.Numbering.{numbered_query}
use Rattle.esql_phrases.specs.Lexemes.{lexeme_of}
use Rattle.esql_parse.specs.declared.error.ParseError.{ParseError}
use Rattle.esql_parse.specs.declared.error.ParseError.TheVariants.{Unexpected, TooDeep, TooMany, Memory}
use Rattle.esql_parse.specs.Refusals.{Breaks}
use Rattle.esql_ast.specs.Laws.{IsNumbered}
use Rattle.esql_parse.specs.Spells.{Spells, Refuses, lexemes_of, IsWantOfMemory, IsQueryOrMemory, IsRefusalOrMemory, NamesToken}
use Rattle.esql_parse.proofs.Accepts.{one_query}
use Rattle.esql_parse.proofs.Refusals.{one_refusal, spelled_not_refused}
use Rattle.esql_parse.proofs.Fits.{spelled_fits}
use Rattle.esql_parse.proofs.Sizes.{query_size}

-- what is answered is right
abbrev pub IsExact : List ℕ → List Token → Result Query ParseError → Type 0
IsExact text tokens result = MatchResult result (Spells text tokens) (λ error. IsWantOfMemory error ⊎ Refuses text tokens error)

not_both : (text : List ℕ) (tokens : List Token) (query : Query) (error : ParseError) → Spells text tokens query → Refuses text tokens error → ⊥
not_both text tokens query error spelled refused = spelled_not_refused 100 200 error spelled.spells spelled.shallow spelled.few refused

pub only : (text : List ℕ) (tokens : List Token) (result : Result Query ParseError) → IsExact text tokens result → (query : Query) → Spells text tokens query → IsQueryOrMemory result query
only text tokens (Ok answered) is query spelled = one_query text tokens answered query is spelled
only text tokens (Err error) is query spelled = ⊎_elim (λ want. want) (λ refused. absurd (not_both text tokens query error spelled refused)) is

pub refusal : (text : List ℕ) (tokens : List Token) (result : Result Query ParseError) → IsExact text tokens result → (error : ParseError) → Refuses text tokens error → IsRefusalOrMemory result error
refusal text tokens (Ok answered) is error refused = not_both text tokens answered error is refused
refusal text tokens (Err answered) is error refused =
    ⊎_elim (λ want. inr want) (λ (also : Refuses text tokens answered). inl (one_refusal 100 200 (lexemes_of text tokens) answered error also refused)) is

pub fits : (text : List ℕ) (tokens : List Token) (result : Result Query ParseError) → length text ≤ 65536 → FitsText text tokens → IsExact text tokens result → IfOk result (QueryFits text)
fits text tokens (Ok query) short fit is = subst (QueryFits text) (sym is.numbered) (spelled_fits text tokens is.written is.depth short fit is.spells)
fits text tokens (Err error) short fit is = tt

pub numbers : (text : List ℕ) (tokens : List Token) (result : Result Query ParseError) → ((source : SourceCommand) (commands : List Command) → IsNumbered (numbered_query source commands))
    → IsExact text tokens result → IfOk result IsNumbered
numbers text tokens (Ok query) in_order is = subst IsNumbered (sym is.numbered) (in_order is.written.source is.written.commands)
numbers text tokens (Err error) in_order is = tt

-- each node takes a token at least
spelled_few : (text : List ℕ) (tokens : List Token) (query : Query) → Spells text tokens query → query.nodes ≤ length tokens
spelled_few text tokens query spelled =
    let size = query_size spelled.spells in
    let count : length (lexemes_of text tokens) ≡ length tokens = length-map tokens (lexeme_of text) in
    let is = ap (λ (this : Query). this.nodes) spelled.numbered in
    omega (arith, size, count, is)

pub few : (text : List ℕ) (tokens : List Token) (result : Result Query ParseError) → IsExact text tokens result → IfOk result (λ query. query.nodes ≤ length tokens)
few text tokens (Ok query) is = spelled_few text tokens query is
few text tokens (Err error) is = tt

within : (text : List ℕ) (tokens : List Token) (number : ℕ) → Breaks 100 200 (lexemes_of text tokens) number → number < length tokens
within text tokens number breaks = subst (λ (n : ℕ). number < n) (length-map tokens (lexeme_of text)) breaks.at

names : (text : List ℕ) (tokens : List Token) (error : ParseError) → Refuses text tokens error → NamesToken tokens error
names text tokens (Unexpected number) refused = within text tokens number refused.0
names text tokens (TooDeep number) refused = within text tokens number refused.0
names text tokens (TooMany number) refused = within text tokens number refused.0
names text tokens (Memory error) refused = tt

wants : (tokens : List Token) (error : ParseError) → IsWantOfMemory error → NamesToken tokens error
wants tokens (Memory error) want = tt
wants tokens (Unexpected number) want = absurd want
wants tokens (TooDeep number) want = absurd want
wants tokens (TooMany number) want = absurd want

pub places : (text : List ℕ) (tokens : List Token) (result : Result Query ParseError) → IsExact text tokens result → IfErr result (NamesToken tokens)
places text tokens (Ok query) is = tt
places text tokens (Err error) is = ⊎_elim (wants tokens error) (names text tokens error) is
