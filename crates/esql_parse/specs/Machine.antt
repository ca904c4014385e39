-- Where a query stands that is being read, and what the next lexeme makes of it: the machine of commands, and in each slot of a command
-- that of expressions. It knows nothing of limits.
use Rattle.std.specs.Prelude.{ℕ, suc, max, List, [], ◌∷◌, length, Option, Some, None}
use Rattle.esql_types.specs.declared.places.Span.{Span}
use Rattle.esql_lex.specs.declared.token.Sign.TheVariants as sign
use Rattle.esql_phrases.specs.declared.lexeme.Lexeme.{Lexeme}
use Rattle.esql_phrases.specs.declared.lexeme.Lexeme.TheVariants.{Sign as Mark, End}
use Rattle.esql_phrases.specs.Ends.{span_at}
use Rattle.esql_phrases.specs.Parts.{join}
use Rattle.esql_expr.specs.declared.machine.Stepped.{Stepped}
use Rattle.esql_expr.specs.declared.machine.Stepped.TheVariants.{Goes, Ends, Stuck}
use Rattle.esql_expr.specs.Machine as expr
use Rattle.esql_commands.specs.declared.place.CommandEnd.{CommandEnd}
use Rattle.esql_commands.specs.declared.place.Move.{Move}
use Rattle.esql_commands.specs.declared.place.Move.TheVariants.{To, Begins}
use Rattle.esql_commands.specs.declared.place.Place.{Place}
use Rattle.esql_commands.specs.declared.place.Place.TheVariants as place
use Rattle.esql_commands.specs.declared.place.Point.{Point}
use Rattle.esql_commands.specs.declared.place.Point.TheVariants as point
use Rattle.esql_commands.specs.declared.place.Slot.{Slot}
use Rattle.esql_commands.specs.Begins.{begin_source, begin_command}
use Rattle.esql_commands.specs.Points.{continue_command, finished_command}
use Rattle.esql_commands.specs.Slots.{line_in}
use Rattle.esql_parse.specs.declared.state.Inside.{Inside}
use Rattle.esql_parse.specs.declared.state.Inside.TheVariants.{Begin, Open, At, Done}
use Rattle.esql_parse.specs.declared.state.Progress.{Progress}
use Rattle.esql_parse.specs.declared.state.State.{State}
use Rattle.esql_parse.specs.declared.state.Written.{Written}
use Rattle.esql_parse.specs.Grammar.{with_command}

-- the machine of expressions starts in each slot of a command
abbrev pub inside_at : Place → Inside
inside_at (place.At here) = At here
inside_at (place.Expression slot) = Open slot (expr.start (line_in slot))

-- an expression continues after its first lexeme
abbrev pub begun : Slot → Stepped → Option Inside
begun slot (Goes reader) = Some (Open slot reader)
begun slot (Ends part x) = None
begun slot Stuck = None

abbrev pub inside_after : Option Move → Option Inside
inside_after (Some (To next)) = Some (inside_at next)
inside_after (Some (Begins slot x)) = begun slot (expr.step (expr.start (line_in slot)) x)
inside_after None = None

-- the first command of a query is a source command, and no other is
abbrev pub place_of : Option Written → Lexeme → Option Place
place_of None x = begin_source x
place_of (Some written) x = begin_command x

abbrev pub inside_of : Option Place → Option Inside
inside_of (Some place) = Some (inside_at place)
inside_of None = None

abbrev pub moved : Progress → Span → Option Inside → Option State
moved p last None = None
moved p last (Some inside) = Some (record { progress = record { before = p.before; deepest = p.deepest; word = p.word; last = last }; inside = inside })

abbrev pub ended_with : Progress → Span → Inside → Option Written → Option State
ended_with p last inside None = None
ended_with p last inside (Some written) = Some (record { progress = record { before = Some written; deepest = p.deepest; word = p.word; last = last }; inside = inside })

-- the open command ends: its span is from its word to the last lexeme
abbrev pub ended : Progress → Span → Inside → Option CommandEnd → Option State
ended p last inside None = None
ended p last inside (Some says) = ended_with p last inside (with_command p.before says (join p.word p.last))

abbrev pub with_word : Progress → Span → Progress
with_word p word = record { before = p.before; deepest = p.deepest; word = word; last = p.last }

abbrev pub deeper : Progress → ℕ → Progress
deeper p depth = record { before = p.before; deepest = max p.deepest depth; word = p.word; last = p.last }

-- a command begins with the lexeme
abbrev pub step_begin : Progress → Lexeme → Option State
step_begin p x = moved (with_word p (span_at x)) (span_at x) (inside_of (place_of p.before x))

abbrev pub step_point : Progress → Point → Lexeme → Option State
step_point p here (Mark sign.Bar at) = ended p at Begin (finished_command here)
step_point p here (End at) = ended p at Done (finished_command here)
step_point p here x = moved p (span_at x) (inside_after (continue_command here x))

-- an expression continues, or it ended before the lexeme
abbrev pub step_expr : Progress → Slot → Stepped → Lexeme → Option State
step_expr p slot (Goes reader) x = moved p (span_at x) (Some (Open slot reader))
step_expr p slot (Ends part next) x = step_point (deeper p part.depth) (point.Ended slot part) next
step_expr p slot Stuck x = None

abbrev pub step_inside : Progress → Inside → Lexeme → Option State
step_inside p Begin x = step_begin p x
step_inside p (Open slot reader) x = step_expr p slot (expr.step reader x) x
step_inside p (At here) x = step_point p here x
step_inside p Done x = None

-- what a lexeme makes of a query that is being read
abbrev pub step : State → Lexeme → Option State
step s x = step_inside s.progress s.inside x

abbrev pub no_span : Span
no_span = record { from = 0; to = 0 }

-- no lexeme was read
abbrev pub start : State
start = record { progress = record { before = None; deepest = 0; word = no_span; last = no_span }; inside = Begin }

-- after STATS an expression has to come, after all else none has to
abbrev pub need_at : ℕ → Point → ℕ
need_at deepest point.Stats = max deepest 1
need_at deepest _ = deepest

abbrev pub need_inside : ℕ → Inside → ℕ
need_inside deepest Begin = deepest
need_inside deepest (Open slot reader) = max deepest (expr.need reader)
need_inside deepest (At here) = need_at deepest here
need_inside deepest Done = deepest

-- the least depth of a query that continues so
abbrev pub need : State → ℕ
need s = need_inside s.progress.deepest s.inside

abbrev pub piped : Option Written → Inside → ℕ
piped None inside = 0
piped (Some written) Done = length written.commands
piped (Some written) inside = suc (length written.commands)

-- how many `|` were read
abbrev pub pipes : State → ℕ
pipes s = piped s.progress.before s.inside

abbrev pub walk : List Lexeme → State → Option State
walk [] s = Some s
walk (x ∷ w) s = expr.and_then (step s x) (walk w)
