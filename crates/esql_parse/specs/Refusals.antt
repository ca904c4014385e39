-- Where lexemes leave the queries, and why.
use Rattle.std.specs.Prelude.{◌≡◌, ℕ, suc, ◌+◌, ◌≤◌, ◌<◌, List, [], ◌∷◌, ◌++◌, length, take}
use Rattle.esql_lex.specs.declared.token.Sign.TheVariants as sign
use Rattle.esql_phrases.specs.declared.lexeme.Lexeme.{Lexeme}
use Rattle.esql_phrases.specs.declared.lexeme.Lexeme.TheVariants.{Sign as Mark}
use Rattle.esql_parse.specs.declared.error.ParseError.{ParseError}
use Rattle.esql_parse.specs.declared.error.ParseError.TheVariants.{Unexpected, TooDeep, TooMany, Memory}
use Rattle.esql_parse.specs.declared.state.Written.{Written}
use Rattle.esql_parse.specs.Grammar.{SpellsQuery}

-- a prefix of the lexemes of some query
pub record Front (w : List Lexeme) : Type 0 where
  pub rest : List Lexeme
  pub written : Written
  pub depth : ℕ
  pub spells : SpellsQuery (w ++ rest) written depth

-- a prefix of the lexemes of some query within the limits of depth and of commands after the source
pub record FrontWithin (limit most : ℕ) (w : List Lexeme) : Type 0 where
  pub rest : List Lexeme
  pub written : Written
  pub depth : ℕ
  pub spells : SpellsQuery (w ++ rest) written depth
  pub shallow : depth ≤ limit
  pub few : length written.commands ≤ most

abbrev pub bar_at : Lexeme → ℕ
bar_at (Mark sign.Bar at) = 1
bar_at _ = 0

-- how many `|` there are
abbrev pub bars : List Lexeme → ℕ
bars [] = 0
bars (x ∷ w) = bar_at x + bars w

-- the first lexeme with which the lexemes leave the queries within the limits
pub record Breaks (limit most : ℕ) (w : List Lexeme) (place : ℕ) : Type 0 where
  pub at : place < length w
  pub before : FrontWithin limit most (take place w)
  pub not_with : FrontWithin limit most (take (place + 1) w) → ⊥

-- with it they begin no query at all; or one, but none that is shallow enough, or it begins one command too many
abbrev pub RefusesAt : ℕ → ℕ → List Lexeme → ParseError → Type 0
RefusesAt limit most w (Unexpected place) = Breaks limit most w place × (Front (take (place + 1) w) → ⊥)
RefusesAt limit most w (TooDeep place) = Breaks limit most w place × Front (take (place + 1) w) × (bars (take (place + 1) w) ≤ most)
RefusesAt limit most w (TooMany place) =
    Breaks limit most w place × Front (take (place + 1) w) × (bars (take (place + 1) w) ≡ suc most) × (bars (take place w) ≡ most)
RefusesAt limit most w (Memory error) = ⊥
