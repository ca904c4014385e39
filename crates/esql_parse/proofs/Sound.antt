-- What the machine reads leads to its state, and what it ends is spelled.
use Rattle.std.proofs.Common.{◌≡◌, ℕ, ◌≤◌, max, Bool, true, false, List, [], ◌∷◌, ◌++◌, Option, Some, None, refl, sym, ◌∙◌, ap, subst, append_assoc, append-nil, arith}
use Rattle.esql_types.specs.declared.places.Span.{Span}
use Rattle.std.specs.Prelude.{if◌then◌else◌}
use Rattle.esql_lex.specs.declared.token.Sign.TheVariants as sign
use Rattle.esql_ast.specs.declared.query.NameAt.{NameAt}
use Rattle.esql_phrases.specs.declared.lexeme.Lexeme.{Lexeme}
use Rattle.esql_phrases.specs.declared.lexeme.Lexeme.TheVariants.{Plain, Sign as Mark, End}
use Rattle.esql_phrases.specs.Ends.{span_at}
use Rattle.esql_phrases.specs.Parts.{join}
use Rattle.esql_expr.specs.declared.machine.Reader.{Reader}
use Rattle.esql_expr.specs.declared.machine.Stepped.{Stepped}
use Rattle.esql_expr.specs.declared.machine.Stepped.TheVariants.{Goes, Ends, Stuck}
use Rattle.esql_expr.specs.Machine as expr
use Rattle.esql_expr.proofs.Fronts.{ends_spelled}
use Rattle.esql_expr.proofs.Sound.{and_then_some}
use Rattle.esql_expr.proofs.Walks.{walk-append}
use Rattle.esql_commands.specs.declared.place.CommandEnd.{CommandEnd}
use Rattle.esql_commands.specs.declared.place.Move.{Move}
use Rattle.esql_commands.specs.declared.place.Move.TheVariants.{To, Begins}
use Rattle.esql_commands.specs.declared.place.Place.{Place}
use Rattle.esql_commands.specs.declared.place.Place.TheVariants as place
use Rattle.esql_commands.specs.declared.place.Point.{Point}
use Rattle.esql_commands.specs.declared.place.Point.TheVariants as point
use Rattle.esql_commands.specs.declared.place.Slot.{Slot}
use Rattle.esql_commands.specs.declared.place.Slot.TheVariants as slot
use Rattle.esql_commands.specs.declared.words.CommandWord.{CommandWord}
use Rattle.esql_commands.specs.Begins.{place_after, source_place, piped_place}
use Rattle.esql_commands.specs.Grammar.{CommandLine, command_line, last_span}
use Rattle.esql_commands.specs.Leads.{Leads, stays, begins_field}
use Rattle.esql_commands.specs.Points.{continue_command, finished_command}
use Rattle.esql_commands.specs.Slots.{line_in}
use Rattle.esql_commands.specs.Words.{command_word, is_source}
use Rattle.esql_commands.proofs.Completes.{line_low}
use Rattle.esql_commands.proofs.Sound.{finished_says}
use Rattle.esql_commands.proofs.Stops.{begins_so}
use Rattle.esql_commands.proofs.Walks.{leads_as, leads-append, one_more, then_reads}
use Rattle.esql_parse.specs.declared.state.Inside.{Inside}
use Rattle.esql_parse.specs.declared.state.Inside.TheVariants.{Begin, Open, At, Done}
use Rattle.esql_parse.specs.declared.state.Progress.{Progress}
use Rattle.esql_parse.specs.declared.state.State.{State}
use Rattle.esql_parse.specs.declared.state.Written.{Written}
use Rattle.esql_parse.specs.Grammar.{with_command, Piped, source_line, pipe_line, SpellsQuery, query_line}
use Rattle.esql_parse.specs.Machine.{inside_at, begun, inside_after, inside_of, with_word, moved, ended_with, ended, step_point, step_expr, step_inside, step, start, walk}
use Rattle.esql_parse.proofs.Reached.{Inner, in_slot, at_point, Lead, first_command, later_command, is_first, Read, to_begin, in_command, at_end}
use Rattle.esql_parse.proofs.Steps.{last_span-append}

pub inner_as : {begin : CommandWord} {inside : Inside} {v w : List Lexeme} {d e : ℕ} → v ≡ w → d ≡ e → Inner begin inside v d → Inner begin inside w e
inner_as {begin} {inside} {w = w} {d = d} p q i = subst (λ (n : ℕ). Inner begin inside w n) q (subst (λ (y : List Lexeme). Inner begin inside y d) p i)

-- lexemes that lead to a place lead into it
inner_at : {begin : CommandWord} {v : List Lexeme} {d : ℕ} (to : Place) → Leads (place_after begin) v d to → Inner begin (inside_at to) v d
inner_at (place.At here) l = at_point l
inner_at {v = v} (place.Expression slot) l = inner_as (append-nil v) refl (in_slot [] l refl)

-- ---- states

arrives : {r s : State} {w : List Lexeme} → Read r w → Some r ≡ Some s → Read s w
arrives {r} {s} {w} read e = let same : r ≡ s = cc in subst (λ (y : State). Read y w) same read

read_at : {s : State} {v w : List Lexeme} → v ≡ w → Read s v → Read s w
read_at {s} e read = subst (λ (y : List Lexeme). Read s y) e read

-- the state in the open command
abbrev in_open : Option Written → ℕ → Span → Span → Inside → State
in_open before deepest word last inside = record { progress = record { before = before; deepest = deepest; word = word; last = last }; inside = inside }

command_read : (name : NameAt) {begin : CommandWord} {before : Option Written} {inside : Inside} {u v : List Lexeme} {d e : ℕ} (deep : ℕ) (last : Span)
    → Lead u before d → command_word name.name ≡ Some begin → is_source begin ≡ is_first before → Inner begin inside v e → max d e ≡ deep → last_span name.span v ≡ last
    → Read (in_open before deep name.span last inside) (u ++ Plain name ∷ v)
command_read name {before = before} {inside = inside} {u = u} {v = v} deep last lead c k i p q =
    subst (λ (s : Span). Read (in_open before deep name.span s inside) (u ++ Plain name ∷ v)) q
    (subst (λ (n : ℕ). Read (in_open before n name.span (last_span name.span v) inside) (u ++ Plain name ∷ v)) p (in_command name lead c k i))

-- ---- a command begins

begun_read : {before : Option Written} {d : ℕ} {u : List Lexeme} {begin : CommandWord} (name : NameAt) → Lead u before d → command_word name.name ≡ Some begin → is_source begin ≡ is_first before
    → Read (in_open before d name.span name.span (inside_at (place_after begin))) (u ++ Plain name ∷ [])
begun_read {d = d} {begin = begin} name lead c k = command_read name d name.span lead c k (inner_at (place_after begin) stays) (omega arith) refl

abbrev progress : Option Written → ℕ → Span → Span → Progress
progress before deepest word last = record { before = before; deepest = deepest; word = word; last = last }

source_begins : {d : ℕ} {u : List Lexeme} {s : State} (word last : Span) (name : NameAt) (begin : CommandWord) (b : Bool) → is_source begin ≡ b → command_word name.name ≡ Some begin → Lead u None d
    → moved (with_word (progress None d word last) name.span) name.span (inside_of (if b then Some (place_after begin) else None)) ≡ Some s → Read s (u ++ Plain name ∷ [])
source_begins word last name begin true k c lead g = arrives (begun_read name lead c k) g
source_begins word last name begin false k c lead g = cc

piped_begins : {d : ℕ} {u : List Lexeme} {s : State} {written : Written} (word last : Span) (name : NameAt) (begin : CommandWord) (b : Bool) → is_source begin ≡ b → command_word name.name ≡ Some begin → Lead u (Some written) d
    → moved (with_word (progress (Some written) d word last) name.span) name.span (inside_of (if b then None else Some (place_after begin))) ≡ Some s → Read s (u ++ Plain name ∷ [])
piped_begins word last name begin true k c lead g = cc
piped_begins word last name begin false k c lead g = arrives (begun_read name lead c k) g

source_read : {d : ℕ} {u : List Lexeme} {s : State} (word last : Span) (name : NameAt) (o : Option CommandWord) → command_word name.name ≡ o → Lead u None d
    → moved (with_word (progress None d word last) name.span) name.span (inside_of (source_place o)) ≡ Some s → Read s (u ++ Plain name ∷ [])
source_read word last name (Some begin) c lead g = source_begins word last name begin (is_source begin) refl c lead g
source_read word last name None c lead g = cc

piped_read : {d : ℕ} {u : List Lexeme} {s : State} {written : Written} (word last : Span) (name : NameAt) (o : Option CommandWord) → command_word name.name ≡ o → Lead u (Some written) d
    → moved (with_word (progress (Some written) d word last) name.span) name.span (inside_of (piped_place o)) ≡ Some s → Read s (u ++ Plain name ∷ [])
piped_read word last name (Some begin) c lead g = piped_begins word last name begin (is_source begin) refl c lead g
piped_read word last name None c lead g = cc

begin_read : {before : Option Written} {d : ℕ} {u : List Lexeme} {s : State} (word last : Span) (x : Lexeme) → Lead u before d → step (in_open before d word last Begin) x ≡ Some s → Read s (u ++ x ∷ [])
begin_read {before = None} word last (Plain name) lead g = source_read word last name (command_word name.name) refl lead g
begin_read {before = Some written} word last (Plain name) lead g = piped_read word last name (command_word name.name) refl lead g
begin_read {before = None} word last _ lead g = cc
begin_read {before = Some written} word last _ lead g = cc

-- ---- a command ends

piped_as : {v w : List Lexeme} {written : Written} {d e : ℕ} → v ≡ w → d ≡ e → Piped v written d → Piped w written e
piped_as {w = w} {written} {d = d} p q s = subst (λ (n : ℕ). Piped w written n) q (subst (λ (y : List Lexeme). Piped y written d) p s)

pub piped_on : {before : Option Written} {u w : List Lexeme} {says : CommandEnd} {span : Span} {d e : ℕ} {written : Written} → Lead u before d → CommandLine w says span e → with_command before says span ≡ Some written → Piped (u ++ w) written (max d e)
piped_on first_command line g = piped_as refl (omega arith) (source_line line g)
piped_on {w = w} (later_command bar {u = u} p) line g = piped_as (sym (append_assoc u (Mark sign.Bar bar ∷ []) w)) refl (pipe_line bar p line g)

-- a query so far, and the state after it
record Closed (w : List Lexeme) (deep : ℕ) (name : NameAt) (last : Span) (inside : Inside) (s : State) : Type 0 where
  query : Written
  piped : Piped w query deep
  state : Some (in_open (Some query) deep name.span last inside) ≡ Some s

closed_with : {before : Option Written} {u v : List Lexeme} {says : CommandEnd} {d e deep : ℕ} {inside : Inside} {s : State} (name : NameAt) (last : Span) (written : Option Written)
    → Lead u before d → CommandLine (Plain name ∷ v) says (join name.span (last_span name.span v)) e → max d e ≡ deep → with_command before says (join name.span (last_span name.span v)) ≡ written
    → ended_with (progress before deep name.span (last_span name.span v)) last inside written ≡ Some s → Closed (u ++ Plain name ∷ v) deep name last inside s
closed_with name last (Some query) lead line m g h = record { query = query; piped = piped_as refl m (piped_on lead line g); state = h }
closed_with name last None lead line m g h = cc

closed : {before : Option Written} {u v : List Lexeme} {begin : CommandWord} {here : Point} {d e deep : ℕ} {inside : Inside} {s : State} (name : NameAt) (last : Span) (o : Option CommandEnd)
    → Lead u before d → command_word name.name ≡ Some begin → Leads (place_after begin) v e (place.At here) → max d e ≡ deep → finished_command here ≡ o
    → ended (progress before deep name.span (last_span name.span v)) last inside o ≡ Some s → Closed (u ++ Plain name ∷ v) deep name last inside s
closed {before = before} {v = v} {begin = begin} {here = here} {e = e} name last (Some says) lead c l m f h =
    closed_with name last (with_command before says (join name.span (last_span name.span v))) lead
    (command_line name c (finished_says begin v says e (record { here = here; leads = l; ends = f }))) m refl h
closed name last None lead c l m f h = cc

bar_read : {u : List Lexeme} {deep : ℕ} {name : NameAt} {s : State} (at : Span) → Closed u deep name at Begin s → Read s (u ++ Mark sign.Bar at ∷ [])
bar_read at c = arrives (to_begin (later_command at c.piped)) c.state

end_read : {u : List Lexeme} {deep : ℕ} {name : NameAt} {s : State} (at : Span) → Closed u deep name at Done s → Read s (u ++ End at ∷ [])
end_read at c = arrives (at_end (query_line at c.piped)) c.state

-- ---- a command continues

-- one lexeme begins an expression
begun_inner : {begin : CommandWord} {v : List Lexeme} {e : ℕ} {inside : Inside} (slot : Slot) (x : Lexeme) (o : Stepped) → Leads (place_after begin) v e (place.Expression slot)
    → expr.step (expr.start (line_in slot)) x ≡ o → begun slot o ≡ Some inside → Inner begin inside (v ++ x ∷ []) e
begun_inner {begin} {v} {e} {inside} slot x (Goes reader) l h g =
    let same : Open slot reader ≡ inside = cc in
    subst (λ (i : Inside). Inner begin i (v ++ x ∷ []) e) same (in_slot (x ∷ []) l (ap (λ s. expr.and_then (expr.going s) (expr.walk [])) h))
begun_inner slot x (Ends part next) l h g = cc
begun_inner slot x Stuck l h g = cc

-- after STATS a field may begin
at_field : (begin : CommandWord) {here : Point} {v : List Lexeme} {e : ℕ} {other : Slot} → point.Stats ≡ here → slot.Aggregate [] None ≡ other → Leads (place_after begin) v e (place.At here)
    → Leads (place_after begin) v e (place.Expression other)
at_field begin {v = v} {e = e} p q l =
    let stats : Leads (place_after begin) v e (place.At point.Stats) = subst (λ (y : Point). Leads (place_after begin) v e (place.At y)) (sym p) l in
    let field : Leads (place_after begin) v e (place.Expression (slot.Aggregate [] None)) = leads_as (append-nil v) (omega arith) (leads-append stats (begins_field stays)) in
    subst (λ (y : Slot). Leads (place_after begin) v e (place.Expression y)) q field

field_inner : {begin : CommandWord} {here : Point} {v : List Lexeme} {e : ℕ} {inside : Inside} (x y : Lexeme) (slot : Slot) → Leads (place_after begin) v e (place.At here) → continue_command here x ≡ Some (Begins slot y)
    → begun slot (expr.step (expr.start (line_in slot)) y) ≡ Some inside → Inner begin inside (v ++ x ∷ []) e
field_inner {begin} {here} {v} {e} {inside} x y slot l f g =
    let is = begins_so here x slot y f in
    begun_inner slot x (expr.step (expr.start (line_in slot)) x) (at_field begin is.stats is.first l) refl
    (subst (λ (z : Lexeme). begun slot (expr.step (expr.start (line_in slot)) z) ≡ Some inside) (sym is.same) g)

continues_inner : {begin : CommandWord} {here : Point} {v : List Lexeme} {e : ℕ} {inside : Inside} (x : Lexeme) (o : Option Move) → Leads (place_after begin) v e (place.At here) → continue_command here x ≡ o
    → inside_after o ≡ Some inside → Inner begin inside (v ++ x ∷ []) e
continues_inner {begin} {v = v} {e = e} {inside = inside} x (Some (To next)) l f g =
    let same : inside_at next ≡ inside = cc in
    subst (λ (i : Inside). Inner begin i (v ++ x ∷ []) e) same (inner_at next (one_more x l f))
continues_inner x (Some (Begins slot y)) l f g = field_inner x y slot l f g
continues_inner x None l f g = cc

moved_read : {before : Option Written} {u v : List Lexeme} {begin : CommandWord} {here : Point} {d e deep : ℕ} {s : State} (name : NameAt) (x : Lexeme) (o : Option Inside)
    → Lead u before d → command_word name.name ≡ Some begin → is_source begin ≡ is_first before → Leads (place_after begin) v e (place.At here) → max d e ≡ deep → inside_after (continue_command here x) ≡ o
    → moved (progress before deep name.span (last_span name.span v)) (span_at x) o ≡ Some s → Read s ((u ++ Plain name ∷ v) ++ x ∷ [])
moved_read {u = u} {v = v} {here = here} {deep = deep} name x (Some inside) lead c kind l m f h =
    let r = command_read name deep (span_at x) lead c kind (continues_inner x (continue_command here x) l refl f) m (last_span-append name.span v (x ∷ [])) in
    arrives (read_at (sym (append_assoc u (Plain name ∷ v) (x ∷ []))) r) h
moved_read name x None lead c kind l m f h = cc

point_steps : {before : Option Written} {u v : List Lexeme} {begin : CommandWord} {here : Point} {d e deep : ℕ} {s : State} (name : NameAt) (x : Lexeme)
    → Lead u before d → command_word name.name ≡ Some begin → is_source begin ≡ is_first before → Leads (place_after begin) v e (place.At here) → max d e ≡ deep
    → step_point (progress before deep name.span (last_span name.span v)) here x ≡ Some s → Read s ((u ++ Plain name ∷ v) ++ x ∷ [])
point_steps {here = here} name (Mark sign.Bar at) lead c kind l m h = bar_read at (closed name at (finished_command here) lead c l m refl h)
point_steps {here = here} name (End at) lead c kind l m h = end_read at (closed name at (finished_command here) lead c l m refl h)
point_steps {here = here} name x lead c kind l m h = moved_read name x (inside_after (continue_command here x)) lead c kind l m refl h

pub walk_one : (w : List Lexeme) (x : Lexeme) (from r to_ : Reader) → expr.walk w from ≡ Some r → expr.step r x ≡ Goes to_ → expr.walk (w ++ x ∷ []) from ≡ Some to_
walk_one w x from r to_ e f = walk-append w (x ∷ []) from ∙ ap (λ o. expr.and_then o (expr.walk (x ∷ []))) e ∙ ap (λ s. expr.and_then (expr.going s) (expr.walk [])) f

expr_steps : {before : Option Written} {u t : List Lexeme} {begin : CommandWord} {slot : Slot} {reader : Reader} {d e k : ℕ} {s : State} (name : NameAt) (w : List Lexeme) (x : Lexeme) (o : Stepped)
    → Lead u before d → command_word name.name ≡ Some begin → is_source begin ≡ is_first before → Leads (place_after begin) t e (place.Expression slot) → expr.walk w (expr.start (line_in slot)) ≡ Some reader → max d e ≡ k → expr.step reader x ≡ o
    → step_expr (progress before k name.span (last_span name.span (t ++ w))) slot o x ≡ Some s → Read s ((u ++ Plain name ∷ (t ++ w)) ++ x ∷ [])
expr_steps {u = u} {t = t} {slot = slot} {reader = reader} {k = k} name w x (Goes next) lead c kind l h m f g =
    let i = inner_as (sym (append_assoc t w (x ∷ []))) refl (in_slot (w ++ x ∷ []) l (walk_one w x (expr.start (line_in slot)) reader next h f)) in
    arrives (read_at (sym (append_assoc u (Plain name ∷ (t ++ w)) (x ∷ []))) (command_read name k (span_at x) lead c kind i m (last_span-append name.span (t ++ w) (x ∷ [])))) g
expr_steps {before} {t = t} {slot = slot} {reader = reader} {k = k} {s = s} name w x (Ends part next) lead c kind l h m f g =
    let ends = ends_spelled (line_in slot) w reader part x next (line_low slot) h f in
    point_steps name x lead c kind (then_reads l ends.0) (omega arith)
    (subst (λ (y : Lexeme). step_point (progress before (max k part.depth) name.span (last_span name.span (t ++ w))) (point.Ended slot part) y ≡ Some s) ends.1 g)
expr_steps name w x Stuck lead c kind l h m f g = cc

inside_steps : {before : Option Written} {u v : List Lexeme} {begin : CommandWord} {inside : Inside} {d e k : ℕ} {s : State} (name : NameAt) (x : Lexeme)
    → Lead u before d → command_word name.name ≡ Some begin → is_source begin ≡ is_first before → Inner begin inside v e → max d e ≡ k
    → step_inside (progress before k name.span (last_span name.span v)) inside x ≡ Some s → Read s ((u ++ Plain name ∷ v) ++ x ∷ [])
inside_steps name x lead c kind (in_slot w {reader = reader} l h) m g = expr_steps name w x (expr.step reader x) lead c kind l h m refl g
inside_steps name x lead c kind (at_point l) m g = point_steps name x lead c kind l m g

-- each step keeps what was read
pub step_read : {r s : State} {w : List Lexeme} (x : Lexeme) → Read r w → step r x ≡ Some s → Read s (w ++ x ∷ [])
step_read x (to_begin {word = word} {last = last} lead) g = begin_read word last x lead g
step_read x (in_command name lead c kind i) g = inside_steps name x lead c kind i refl g
step_read x (at_end q) g = cc

walk_read : (v : List Lexeme) (r s : State) {w : List Lexeme} → Read r w → walk v r ≡ Some s → Read s (w ++ v)
walk_read [] r s {w} read e = arrives (read_at (sym (append-nil w)) read) e
walk_read (x ∷ v) r s {w} read e =
    let n = and_then_some (step r x) (walk v) s e in
    read_at (append_assoc w (x ∷ []) v) (walk_read v n.0 s (step_read x read n.1) n.2)

-- what the machine takes leads to its state
pub walked : {w : List Lexeme} {s : State} → walk w start ≡ Some s → Read s w
walked {w} {s} e = walk_read w start s (to_begin first_command) e

pub not_done : {begin : CommandWord} {inside : Inside} {v : List Lexeme} {e : ℕ} → Inner begin inside v e → inside ≡ Done → ⊥
not_done (in_slot w b h) e = cc
not_done (at_point l) e = cc

pub done_spelled : {w : List Lexeme} {s : State} → Read s w → s.inside ≡ Done → (written : Written) × (s.progress.before ≡ Some written) × SpellsQuery w written s.progress.deepest
done_spelled (to_begin lead) e = cc
done_spelled (in_command name lead c kind i) e = absurd (not_done i e)
done_spelled (at_end {written = written} q) e = (written, refl, q)

-- where the machine ends, the lexemes spell the query that it made, of the depth that it found
pub spelled : {w : List Lexeme} {s : State} → walk w start ≡ Some s → s.inside ≡ Done → (written : Written) × (s.progress.before ≡ Some written) × SpellsQuery w written s.progress.deepest
spelled e f = done_spelled (walked e) f
