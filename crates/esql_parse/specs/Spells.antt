-- The query that the tokens of a text spell, and what is known of it.
use Rattle.std.specs.Prelude.{◌≡◌, ◌⊎◌, ℕ, ◌≤◌, ◌<◌, List, length, map, Result, MatchResult}
use Rattle.esql_lex.specs.declared.token.Token.{Token}
use Rattle.esql_ast.specs.declared.query.Query.{Query}
use Rattle.esql_ast.specs.Numbering.{numbered_query}
use Rattle.esql_phrases.specs.declared.lexeme.Lexeme.{Lexeme}
use Rattle.esql_phrases.specs.Lexemes.{lexeme_of}
use Rattle.esql_parse.specs.declared.error.ParseError.{ParseError}
use Rattle.esql_parse.specs.declared.error.ParseError.TheVariants.{Unexpected, TooDeep, TooMany, Memory}
use Rattle.esql_parse.specs.declared.state.Written.{Written}
use Rattle.esql_parse.specs.Grammar.{SpellsQuery}
use Rattle.esql_parse.specs.Refusals.{RefusesAt}

-- what the grammar sees in the tokens of a text
abbrev pub lexemes_of : List ℕ → List Token → List Lexeme
lexemes_of text tokens = map (lexeme_of text) tokens

-- the tokens of the text spell the query: no expression is deeper than 100, and at most 200 commands stand after the source
pub record Spells (text : List ℕ) (tokens : List Token) (query : Query) : Type 0 where
  pub written : Written
  pub depth : ℕ
  pub spells : SpellsQuery (lexemes_of text tokens) written depth
  pub shallow : depth ≤ 100
  pub few : length written.commands ≤ 200
  pub numbered : query ≡ numbered_query written.source written.commands

-- the tokens of the text are refused at a token
abbrev pub Refuses : List ℕ → List Token → ParseError → Type 0
Refuses text tokens error = RefusesAt 100 200 (lexemes_of text tokens) error

-- memory was refused
abbrev pub IsWantOfMemory : ParseError → Type 0
IsWantOfMemory (Memory error) = Unit {0}
IsWantOfMemory (Unexpected token) = ⊥
IsWantOfMemory (TooDeep token) = ⊥
IsWantOfMemory (TooMany token) = ⊥

-- what is answered is the query, or memory was refused
abbrev pub IsQueryOrMemory : Result Query ParseError → Query → Type 0
IsQueryOrMemory result query = MatchResult result (λ answered. answered ≡ query) IsWantOfMemory

-- what is answered is the refusal, or memory was refused
abbrev pub IsRefusalOrMemory : Result Query ParseError → ParseError → Type 0
IsRefusalOrMemory result error = MatchResult result (λ answered. ⊥) (λ answered. (answered ≡ error) ⊎ IsWantOfMemory answered)

-- a refusal names one of the tokens
abbrev pub NamesToken : List Token → ParseError → Type 0
NamesToken tokens (Unexpected token) = token < length tokens
NamesToken tokens (TooDeep token) = token < length tokens
NamesToken tokens (TooMany token) = token < length tokens
NamesToken tokens (Memory error) = Unit {0}
