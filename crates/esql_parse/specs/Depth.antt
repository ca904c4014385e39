-- A query that is too deep is refused for its depth alone.
use Rattle.std.specs.Prelude.{ℕ, ◌+◌, List, take}
use Rattle.esql_lex.specs.declared.token.Token.{Token}
use Rattle.esql_parse.specs.declared.error.ParseError.TheVariants.{TooDeep}
use Rattle.esql_parse.specs.Refusals.{FrontWithin}
use Rattle.esql_parse.specs.Spells.{lexemes_of, Refuses}

-- where tokens are refused as too deep, those up to the one that is named begin a query of at most 200 commands, of some depth
abbrev pub DeepAreFronts : Type 0
DeepAreFronts = (text : List ℕ) (tokens : List Token) (token : ℕ) → Refuses text tokens (TooDeep token) → (depth : ℕ) × FrontWithin depth 200 (take (token + 1) (lexemes_of text tokens))
