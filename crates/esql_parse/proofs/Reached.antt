-- The lexemes that lead to each state of the machine.
use Rattle.std.proofs.Common.{◌≡◌, ℕ, max, Bool, true, false, List, [], ◌∷◌, ◌++◌, Option, Some, None}
use Rattle.esql_types.specs.declared.places.Span.{Span}
use Rattle.esql_lex.specs.declared.token.Sign.TheVariants as sign
use Rattle.esql_ast.specs.declared.query.NameAt.{NameAt}
use Rattle.esql_phrases.specs.declared.lexeme.Lexeme.{Lexeme}
use Rattle.esql_phrases.specs.declared.lexeme.Lexeme.TheVariants.{Plain, Sign as Mark}
use Rattle.esql_expr.specs.declared.machine.Reader.{Reader}
use Rattle.esql_expr.specs.Machine as expr
use Rattle.esql_commands.specs.declared.place.Place.TheVariants as place
use Rattle.esql_commands.specs.declared.place.Point.{Point}
use Rattle.esql_commands.specs.declared.place.Slot.{Slot}
use Rattle.esql_commands.specs.declared.words.CommandWord.{CommandWord}
use Rattle.esql_commands.specs.Begins.{place_after}
use Rattle.esql_commands.specs.Grammar.{last_span}
use Rattle.esql_commands.specs.Leads.{Leads}
use Rattle.esql_commands.specs.Slots.{line_in}
use Rattle.esql_commands.specs.Words.{command_word, is_source}
use Rattle.esql_parse.specs.declared.state.Inside.{Inside}
use Rattle.esql_parse.specs.declared.state.Inside.TheVariants.{Begin, Open, At, Done}
use Rattle.esql_parse.specs.declared.state.State.{State}
use Rattle.esql_parse.specs.declared.state.Written.{Written}
use Rattle.esql_parse.specs.Grammar.{Piped, SpellsQuery}

-- what was read of a command after its word, and the greatest depth of an expression that ended in it
pub data Inner : CommandWord → Inside → List Lexeme → ℕ → Type 0 where
  in_slot : (w : List Lexeme) {begin : CommandWord} {slot : Slot} {reader : Reader} {u : List Lexeme} {d : ℕ}
      → Leads (place_after begin) u d (place.Expression slot) → expr.walk w (expr.start (line_in slot)) ≡ Some reader → Inner begin (Open slot reader) (u ++ w) d
  at_point : {begin : CommandWord} {here : Point} {v : List Lexeme} {d : ℕ} → Leads (place_after begin) v d (place.At here) → Inner begin (At here) v d

-- what stands before the open command: nothing, or a query so far and `|`
pub data Lead : List Lexeme → Option Written → ℕ → Type 0 where
  first_command : Lead [] None 0
  later_command : (bar : Span) {u : List Lexeme} {written : Written} {d : ℕ} → Piped u written d → Lead (u ++ Mark sign.Bar bar ∷ []) (Some written) d

abbrev pub is_first : Option Written → Bool
is_first None = true
is_first (Some written) = false

-- the lexemes that lead to a state
pub data Read : State → List Lexeme → Type 0 where
  to_begin : {before : Option Written} {d : ℕ} {word last : Span} {u : List Lexeme}
      → Lead u before d → Read (record { progress = record { before = before; deepest = d; word = word; last = last }; inside = Begin }) u
  in_command : (name : NameAt) {begin : CommandWord} {before : Option Written} {inside : Inside} {u v : List Lexeme} {d e : ℕ}
      → Lead u before d → command_word name.name ≡ Some begin → is_source begin ≡ is_first before → Inner begin inside v e
      → Read (record { progress = record { before = before; deepest = max d e; word = name.span; last = last_span name.span v }; inside = inside }) (u ++ Plain name ∷ v)
  at_end : {written : Written} {d : ℕ} {word last : Span} {w : List Lexeme}
      → SpellsQuery w written d → Read (record { progress = record { before = Some written; deepest = d; word = word; last = last }; inside = Done }) w
