-- A step of the machine within the limits of 100 for the depth and of 200 commands after the source.
use Rattle.std.specs.Prelude.{◌≡◌, ℕ, ◌≤◌, ◌<◌, Option, Some, None}
use Rattle.esql_phrases.specs.declared.lexeme.Lexeme.{Lexeme}
use Rattle.esql_parse.specs.declared.error.ParseError.{ParseError}
use Rattle.esql_parse.specs.declared.error.ParseError.TheVariants.{Unexpected, TooDeep, TooMany, Memory}
use Rattle.esql_parse.specs.declared.state.Written.{Written}
use Rattle.esql_parse.specs.declared.state.Inside.{Inside}
use Rattle.esql_parse.specs.declared.state.Inside.TheVariants.{Begin, Open, At, Done}
use Rattle.esql_parse.specs.declared.state.State.{State}
use Rattle.esql_parse.specs.Machine.{step, need, pipes}

-- a lexeme leaves the queries within the limits: no query continues with it; it begins one command too many; or an expression gets too deep
abbrev pub Leaves : State → Lexeme → ℕ → ParseError → Type 0
Leaves s x place (Unexpected at) = (at ≡ place) × (step s x ≡ None)
Leaves s x place (TooMany at) = (at ≡ place) × ((next : State) × (step s x ≡ Some next) × (200 < pipes next))
Leaves s x place (TooDeep at) = (at ≡ place) × ((next : State) × (step s x ≡ Some next) × (pipes next ≤ 200) × (100 < need next))
Leaves s x place (Memory error) = ⊥

-- the query continues with a lexeme to the next state, within the limits
pub record Continues (s : State) (x : Lexeme) (next : State) : Type 0 where
  pub steps : step s x ≡ Some next
  pub few : pipes next ≤ 200
  pub shallow : need next ≤ 100

-- the query of a state that is at the end
abbrev pub written_in : Option Written → Inside → Option Written
written_in before Done = before
written_in before Begin = None
written_in before (Open slot reader) = None
written_in before (At here) = None

abbrev pub written_of : State → Option Written
written_of s = written_in s.progress.before s.inside
