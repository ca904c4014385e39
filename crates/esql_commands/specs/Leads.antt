-- How lexemes lead through a command, where each expression that has to come in it is read whole.
use Rattle.std.specs.Prelude.{◌≡◌, ℕ, max, List, [], ◌∷◌, ◌++◌, Option, Some, None}
use Rattle.esql_phrases.specs.declared.lexeme.Lexeme.{Lexeme}
use Rattle.esql_phrases.specs.declared.part.Part.{Part}
use Rattle.esql_phrases.specs.Phrases.{Phrase}
use Rattle.esql_commands.specs.declared.place.CommandEnd.{CommandEnd}
use Rattle.esql_commands.specs.declared.place.Move.TheVariants.{To}
use Rattle.esql_commands.specs.declared.place.Place.{Place}
use Rattle.esql_commands.specs.declared.place.Place.TheVariants.{At, Expression}
use Rattle.esql_commands.specs.declared.place.Point.{Point}
use Rattle.esql_commands.specs.declared.place.Point.TheVariants.{Ended, Stats}
use Rattle.esql_commands.specs.declared.place.Slot.{Slot}
use Rattle.esql_commands.specs.declared.words.CommandWord.{CommandWord}
use Rattle.esql_commands.specs.Begins.{place_after}
use Rattle.esql_commands.specs.Grammar.{Says}
use Rattle.esql_commands.specs.Points.{continue_command, finished_command}
use Rattle.esql_commands.specs.Slots.{line_in}
use Rattle.esql_commands.specs.Stats.{want_aggregate}

-- lexemes lead from one place in a command to another, and the greatest depth of an expression among them: none does not move; a
-- lexeme continues the command; an expression is read in its slot; and after STATS a field may begin
pub data Leads : Place → List Lexeme → ℕ → Place → Type 0 where
  stays : {here : Place} → Leads here [] 0 here
  continues : (x : Lexeme) {here : Point} {next to : Place} {w : List Lexeme} {d : ℕ} → continue_command here x ≡ Some (To next) → Leads next w d to → Leads (At here) (x ∷ w) d to
  reads : {slot : Slot} {p : Part} {to : Place} {u w : List Lexeme} {d : ℕ} → Phrase (line_in slot) u p → Leads (At (Ended slot p)) w d to → Leads (Expression slot) (u ++ w) (max p.depth d) to
  begins_field : {to : Place} {w : List Lexeme} {d : ℕ} → Leads (want_aggregate []) w d to → Leads (At Stats) w d to

-- the lexemes after the word of a command lead to a point where it ends, and this is what it says
pub record Finishes (begin : CommandWord) (w : List Lexeme) (says : CommandEnd) (d : ℕ) : Type 0 where
  pub here : Point
  pub leads : Leads (place_after begin) w d (At here)
  pub ends : finished_command here ≡ Some says

-- at least one expression has to come after STATS and in a slot
abbrev pub need_at : Point → ℕ
need_at Stats = 1
need_at _ = 0

abbrev pub need_of : Place → ℕ
need_of (At here) = need_at here
need_of (Expression slot) = 1

-- some lexemes after these say a whole command of a depth
pub record Completes (begin : CommandWord) (w : List Lexeme) (d : ℕ) : Type 0 where
  pub rest : List Lexeme
  pub says : CommandEnd
  pub whole : Says begin (w ++ rest) says d
