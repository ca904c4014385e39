-- How lexemes that lead through a command lead through a query.
use Rattle.std.proofs.Common.{◌≡◌, ℕ, max, List, [], ◌∷◌, ◌++◌, Option, Some, None, refl, sym, ◌∙◌, ap, subst, arith}
use Rattle.std.proofs.Math.Nat.{max-zero}
use Rattle.esql_types.specs.declared.places.Span.{Span}
use Rattle.esql_lex.specs.declared.token.Reserved.TheVariants as word
use Rattle.esql_lex.specs.declared.token.Sign.TheVariants as sign
use Rattle.esql_phrases.specs.declared.lexeme.Lexeme.{Lexeme}
use Rattle.esql_phrases.specs.declared.lexeme.Lexeme.TheVariants.{Plain, Dotted, Quoted, Text, Number, Word, Sign as Mark, End}
use Rattle.esql_phrases.specs.declared.part.Part.{Part}
use Rattle.esql_phrases.specs.Ends.{span_at}
use Rattle.esql_phrases.specs.Phrases.{Phrase}
use Rattle.esql_phrases.proofs.Begins.{Begins, begins}
use Rattle.esql_expr.specs.declared.machine.Reader.{Reader}
use Rattle.esql_expr.specs.declared.machine.Stepped.{Stepped}
use Rattle.esql_expr.specs.declared.machine.Stepped.TheVariants.{Goes, Ends, Stuck}
use Rattle.esql_expr.specs.Machine as expr
use Rattle.esql_expr.specs.Machine.{opener, close}
use Rattle.esql_expr.proofs.Walks.{and_then_assoc, and_then_same, leaves_all, NoParen, none_stops}
use Rattle.esql_expr.proofs.Complete.{reads as expression_reads}
use Rattle.esql_commands.specs.declared.place.Move.{Move}
use Rattle.esql_commands.specs.declared.place.Move.TheVariants.{To}
use Rattle.esql_commands.specs.declared.place.Place.{Place}
use Rattle.esql_commands.specs.declared.place.Place.TheVariants as place
use Rattle.esql_commands.specs.declared.place.Point.{Point}
use Rattle.esql_commands.specs.declared.place.Point.TheVariants as point
use Rattle.esql_commands.specs.declared.place.Slot.{Slot}
use Rattle.esql_commands.specs.declared.place.Slot.TheVariants as slot
use Rattle.esql_commands.specs.Grammar.{last_span}
use Rattle.esql_commands.specs.Leads.{Leads, stays, continues, reads, begins_field}
use Rattle.esql_commands.specs.Points.{continue_command}
use Rattle.esql_commands.specs.Slots.{line_in}
use Rattle.esql_commands.specs.Stats.{want_aggregate}
use Rattle.esql_commands.proofs.Stops.{bar_ends, end_ends, stops}
use Rattle.esql_parse.specs.declared.state.Inside.{Inside}
use Rattle.esql_parse.specs.declared.state.Inside.TheVariants.{Open, At}
use Rattle.esql_parse.specs.declared.state.Progress.{Progress}
use Rattle.esql_parse.specs.declared.state.State.{State}
use Rattle.esql_parse.specs.Machine.{inside_at, inside_after, moved, step_point, step_expr, step, walk}
use Rattle.esql_parse.proofs.Follows.{Passes, follows}

pub walk-append : (v w : List Lexeme) (from : State) → walk (v ++ w) from ≡ expr.and_then (walk v from) (walk w)
walk-append [] w from = refl
walk-append (x ∷ v) w from = and_then_same (step from x) _ _ (λ s. walk-append v w s) ∙ sym (and_then_assoc (step from x) (walk v) (walk w))

pub walk_from : (v w : List Lexeme) (from mid : State) → walk v from ≡ Some mid → walk (v ++ w) from ≡ walk w mid
walk_from v w from mid e = walk-append v w from ∙ ap (λ o. expr.and_then o (walk w)) e

pub walk_on : (x : Lexeme) (w : List Lexeme) (from to : State) → step from x ≡ Some to → walk (x ∷ w) from ≡ walk w to
walk_on x w from to e = ap (λ o. expr.and_then o (walk w)) e

pub last_span-append : (last : Span) (v w : List Lexeme) → last_span last (v ++ w) ≡ last_span (last_span last v) w
last_span-append last [] w = refl
last_span-append last (y ∷ v) w = last_span-append (span_at y) v w

-- the progress at another place in the same command
abbrev pub at_place : Progress → Span → ℕ → Progress
at_place p last deepest = record { before = p.before; deepest = deepest; word = p.word; last = last }

abbrev pub stand : Progress → Span → ℕ → Inside → State
stand p last deepest inside = record { progress = at_place p last deepest; inside = inside }

-- the lexemes are read, and after them a lexeme meets what it meets at the point
pub record Arrives (mid : State) (p : Progress) (last : Span) (w : List Lexeme) (deepest : ℕ) (to : Point) : Type 0 where
  pub after : State
  pub walked : walk w mid ≡ Some after
  pub agrees : (x : Lexeme) → Passes to x → step after x ≡ step_point (at_place p (last_span last w) deepest) to x

-- nothing is said of a way to an expression
abbrev pub ArrivesIn : State → Progress → Span → List Lexeme → ℕ → Place → Type 0
ArrivesIn mid p last w deepest (place.At to) = Arrives mid p last w deepest to
ArrivesIn mid p last w deepest (place.Expression slot) = Unit {0}

-- a state meets each lexeme as a place in the command does
abbrev pub Stands : State → Progress → Span → ℕ → Place → Type 0
Stands mid p last deepest (place.At here) = (x : Lexeme) → Passes here x → step mid x ≡ step_point (at_place p last deepest) here x
Stands mid p last deepest (place.Expression slot) = mid ≡ stand p last deepest (Open slot (expr.start (line_in slot)))

pub stands_at : (p : Progress) (last : Span) (deepest : ℕ) (next : Place) → Stands (stand p last deepest (inside_at next)) p last deepest next
stands_at p last deepest (place.At here) = λ x f. refl
stands_at p last deepest (place.Expression slot) = refl

-- a command continues with no `|` and no end
pub point_steps : (p : Progress) (here : Point) (x : Lexeme) (next : Place) → continue_command here x ≡ Some (To next) → step_point p here x ≡ moved p (span_at x) (Some (inside_at next))
point_steps p here (Mark sign.Bar at) next e = absurd (stops (bar_ends at) here next e)
point_steps p here (End at) next e = absurd (stops (end_ends at) here next e)
point_steps p here x next e = ap (λ m. moved p (span_at x) (inside_after m)) e

-- the lexemes of an expression are read where it stands
expr_continues : (p : Progress) (last : Span) (d : ℕ) (slot : Slot) (x : Lexeme) (w : List Lexeme) (stepped : Stepped) (to : Reader) (goal : Option State)
    → ((r : Reader) → expr.walk w r ≡ Some to → walk w (stand p (span_at x) d (Open slot r)) ≡ goal)
    → expr.and_then (expr.going stepped) (expr.walk w) ≡ Some to → expr.and_then (step_expr (at_place p last d) slot stepped x) (walk w) ≡ goal
expr_continues p last d slot x w (Goes r) to goal h e = h r e
expr_continues p last d slot x w (Ends part next) to goal h e = cc
expr_continues p last d slot x w Stuck to goal h e = cc

expr_walks : (p : Progress) (d : ℕ) (slot : Slot) (to : Reader) (w : List Lexeme) (last : Span) (from : Reader) → expr.walk w from ≡ Some to
    → walk w (stand p last d (Open slot from)) ≡ Some (stand p (last_span last w) d (Open slot to))
expr_walks p d slot to [] last from e = (let same : from ≡ to = cc in ap (λ r. Some (stand p last d (Open slot r))) same)
expr_walks p d slot to (x ∷ w) last from e =
    expr_continues p last d slot x w (expr.step from x) to _ (λ r f. expr_walks p d slot to w (span_at x) r f) e

-- an expression of a line is read in its slot
expr_arrives : (p : Progress) (last : Span) (d : ℕ) (slot : Slot) (least : ℕ) {w : List Lexeme} {part : Part} → Phrase least w part
    → Arrives (stand p last d (Open slot (expr.start least))) p last w (max d part.depth) (point.Ended slot part)
unfolding close
expr_arrives p last d slot least {w} {part} phrase =
    let r = expression_reads phrase least [] (omega arith) in
    let l = last_span last w in
    record {
      after = stand p l d (Open slot r.after);
      walked = expr_walks p d slot r.after w last (expr.start least) r.walked;
      agrees = λ x f. ap (λ t. step_expr (at_place p l d) slot t x) (r.agrees x (none_stops least x f.0 f.1) ∙ leaves_all least [] part x f.0);
    }

then_arrives : (mid next : State) (p : Progress) (last : Span) (v w : List Lexeme) (deepest : ℕ) (to : Place) → walk v mid ≡ Some next
    → ArrivesIn next p (last_span last v) w deepest to → ArrivesIn mid p last (v ++ w) deepest to
then_arrives mid next p last v w deepest (place.At to) e r = record {
  after = r.after;
  walked = walk_from v w mid next e ∙ r.walked;
  agrees = λ x f. r.agrees x f ∙ ap (λ l. step_point (at_place p l deepest) to x) (sym (last_span-append last v w));
}
then_arrives mid next p last v w deepest (place.Expression slot) e r = tt

arrives_deep : (mid : State) (p : Progress) (last : Span) (w : List Lexeme) (to : Place) {d e : ℕ} → d ≡ e → ArrivesIn mid p last w d to → ArrivesIn mid p last w e to
arrives_deep mid p last w to e r = subst (λ n. ArrivesIn mid p last w n to) e r

arrives_from : (from mid : State) (p : Progress) (last : Span) (w : List Lexeme) (deepest : ℕ) (to : Place) → from ≡ mid → ArrivesIn mid p last w deepest to → ArrivesIn from p last w deepest to
arrives_from from mid p last w deepest to e r = subst (λ s. ArrivesIn s p last w deepest to) (sym e) r

abbrev IsPoint : Place → Type 0
IsPoint (place.At here) = Unit {0}
IsPoint (place.Expression slot) = ⊥

-- the first field of STATS
abbrev first_field : Slot
first_field = slot.Aggregate [] None

-- what leads to a point out of a slot begins with an expression
leads_begin : {slot : Slot} {to : Place} {w : List Lexeme} {d : ℕ} → Leads (place.Expression slot) w d to → IsPoint to → Begins w
leads_begin (stays {here = place.Expression slot}) is = absurd is
leads_begin (reads {w = w} q l) is = let b = begins q in record { first = b.first; rest = b.rest ++ w; whole = ap (λ u. u ++ w) b.whole; can = b.can }

-- after STATS a field begins as after a comma
begins_first : (p : Progress) (last : Span) (d : ℕ) (x : Lexeme) (to : State) → step (stand p last d (Open first_field (expr.start 0))) x ≡ Some to → step (stand p last d (At point.Stats)) x ≡ Some to
begins_first p last d (Plain name) to e = e
begins_first p last d (Dotted name) to e = e
begins_first p last d (Quoted name) to e = e
begins_first p last d (Text text) to e = e
begins_first p last d (Number number at) to e = e
begins_first p last d (Word word.True at) to e = e
begins_first p last d (Word word.False at) to e = e
begins_first p last d (Word word.Null at) to e = e
begins_first p last d (Word word.Not at) to e = e
begins_first p last d (Word _ at) to e = cc
begins_first p last d (Mark sign.OpenParen at) to e = e
begins_first p last d (Mark sign.OpenBracket at) to e = e
begins_first p last d (Mark sign.Minus at) to e = e
begins_first p last d (Mark _ at) to e = cc
begins_first p last d _ to e = cc

first_step : (stepped : Option State) (w : List Lexeme) (after : State) → expr.and_then stepped (walk w) ≡ Some after → (to : State) × (stepped ≡ Some to)
first_step None w after e = cc
first_step (Some to) w after e = (to, refl)

field_first : (mid : State) (p : Progress) (last : Span) (deepest : ℕ) (x : Lexeme) (w : List Lexeme) (d : ℕ) (to : Point) → Stands mid p last deepest (place.At point.Stats)
    → Arrives (stand p last deepest (Open first_field (expr.start 0))) p last (x ∷ w) d to → Arrives mid p last (x ∷ w) d to
field_first mid p last deepest x w d to s r =
    let first = first_step (step (stand p last deepest (Open first_field (expr.start 0))) x) w r.after r.walked in
    record {
      after = r.after;
      walked = ap (λ o. expr.and_then o (walk w)) (s x tt ∙ begins_first p last deepest x first.0 first.1 ∙ sym first.1) ∙ r.walked;
      agrees = r.agrees;
    }

field_arrives : (mid : State) (p : Progress) (last : Span) (deepest : ℕ) {w : List Lexeme} {e : ℕ} (d : ℕ) (to : Place) → Leads (want_aggregate []) w e to → Stands mid p last deepest (place.At point.Stats)
    → ArrivesIn (stand p last deepest (Open first_field (expr.start 0))) p last w d to → ArrivesIn mid p last w d to
field_arrives mid p last deepest d (place.At to) l s r =
    let b = leads_begin l tt in
    subst (λ v. Arrives mid p last v d to) (sym b.whole)
    (field_first mid p last deepest b.first b.rest d to s (subst (λ v. Arrives (stand p last deepest (Open first_field (expr.start 0))) p last v d to) b.whole r))
field_arrives mid p last deepest d (place.Expression slot) l s r = tt

max_inner : (c d e : ℕ) → max (max c d) e ≡ max c (max d e)
max_inner c d e = omega arith

-- where lexemes lead through a command, they lead through the query
pub walks : {from to : Place} {w : List Lexeme} {d : ℕ} → Leads from w d to → (mid : State) (p : Progress) (last : Span) (deepest : ℕ) → Stands mid p last deepest from → ArrivesIn mid p last w (max deepest d) to
walks (stays {here = place.At here}) mid p last deepest s = record { after = mid; walked = refl; agrees = λ x f. s x f ∙ ap (λ n. step_point (at_place p last n) here x) (sym (max-zero deepest)) }
walks (stays {here = place.Expression slot}) mid p last deepest s = tt
walks {to = to} (continues x {here = here} {next = next} {w = w} {d = d} g l) mid p last deepest s =
    let second : State = stand p (span_at x) deepest (inside_at next) in
    then_arrives mid second p last (x ∷ []) w (max deepest d) to
    (walk_on x [] mid second (s x (follows here x next g) ∙ point_steps (at_place p last deepest) here x next g))
    (walks l second p (span_at x) deepest (stands_at p (span_at x) deepest next))
walks {to = to} (reads {slot = slot} {p = part} {u = u} {w = w} {d = d} q l) mid p last deepest s =
    let first : State = stand p last deepest (Open slot (expr.start (line_in slot))) in
    let r = expr_arrives p last deepest slot (line_in slot) q in
    arrives_from mid first p last (u ++ w) (max deepest (max part.depth d)) to s
    (arrives_deep first p last (u ++ w) to (max_inner deepest part.depth d)
    (then_arrives first r.after p last u w (max (max deepest part.depth) d) to r.walked
    (walks l r.after p (last_span last u) (max deepest part.depth) r.agrees)))
walks {to = to} (begins_field {w = w} {d = d} l) mid p last deepest s =
    field_arrives mid p last deepest (max deepest d) to l s (walks l (stand p last deepest (Open first_field (expr.start 0))) p last deepest refl)
