-- The machine reads exactly the fronts of queries, within limits too.
use Rattle.std.proofs.Common.{◌≡◌, ℕ, ◌≤◌, max, List, [], ◌∷◌, ◌++◌, length, Option, Some, None, refl, sym, ◌∙◌, ap, subst, arith}
use Rattle.esql_types.specs.declared.places.Span.{Span}
use Rattle.esql_phrases.specs.declared.lexeme.Lexeme.{Lexeme}
use Rattle.esql_phrases.specs.declared.lexeme.Lexeme.TheVariants.{End}
use Rattle.esql_expr.specs.declared.machine.Reader.{Reader}
use Rattle.esql_expr.specs.declared.machine.Stepped.{Stepped}
use Rattle.esql_expr.specs.declared.machine.Stepped.TheVariants.{Goes, Ends, Stuck}
use Rattle.esql_phrases.specs.Parts.{join}
use Rattle.esql_expr.specs.Machine as expr
use Rattle.esql_expr.proofs.Sound.{and_then_some}
use Rattle.esql_commands.specs.declared.place.CommandEnd.{CommandEnd}
use Rattle.esql_parse.specs.declared.state.Inside.{Inside}
use Rattle.esql_parse.specs.declared.state.Inside.TheVariants.{Open, At, Done}
use Rattle.esql_commands.specs.declared.place.Point.TheVariants as point
use Rattle.esql_commands.specs.declared.place.Slot.{Slot}
use Rattle.esql_parse.specs.declared.state.Progress.{Progress}
use Rattle.esql_parse.specs.declared.state.State.{State}
use Rattle.esql_parse.specs.declared.state.Written.{Written}
use Rattle.esql_commands.specs.Points.{finished_command}
use Rattle.esql_parse.specs.Machine.{ended_with, ended, deeper, step_point, step_expr, step_inside, step, need_inside, need, piped, pipes, start, walk}
use Rattle.esql_parse.specs.Grammar.{with_command}
use Rattle.esql_parse.specs.Refusals.{Front, FrontWithin}
use Rattle.esql_parse.proofs.Accepts.{accepts}
use Rattle.esql_commands.proofs.Stops.{end_ends}
use Rattle.esql_parse.proofs.Enders.{no_expression}
use Rattle.esql_parse.proofs.Grows.{ends_same, walk_grows}
use Rattle.esql_commands.specs.declared.words.CommandWord.{CommandWord}
use Rattle.esql_parse.proofs.Reached.{Inner, in_slot, at_point, Read, to_begin, in_command, at_end}
use Rattle.esql_parse.proofs.Sound.{walked}
use Rattle.esql_parse.proofs.Steps.{walk-append}
use Rattle.esql_parse.proofs.Viable.{viable}

-- ---- fronts

pub front : (w : List Lexeme) (s : State) → walk w start ≡ Some s → Front w
front w s e = let v = viable w s e in record { rest = v.0; written = v.1; depth = need s; spells = v.2 }

pub front_within : (limit most : ℕ) (w : List Lexeme) (s : State) → walk w start ≡ Some s → need s ≤ limit → pipes s ≤ most → FrontWithin limit most w
front_within limit most w s e h k = let v = viable w s e in let count = v.3 in record { rest = v.0; written = v.1; depth = need s; spells = v.2; shallow = h; few = omega arith }

-- at the end nothing more is needed
need_done : (s : State) → s.inside ≡ Done → need s ≡ s.progress.deepest
need_done s e = ap (need_inside s.progress.deepest) e

pipes_done : (s : State) (written : Written) → s.progress.before ≡ Some written → s.inside ≡ Done → pipes s ≡ length written.commands
pipes_done s written e f = ap (λ o. piped o s.inside) e ∙ ap (piped (Some written)) f

pub front_walked : {w : List Lexeme} → Front w → (s : State) × (walk w start ≡ Some s)
front_walked {w} f =
    let a = accepts f.spells in
    let n = and_then_some (walk w start) (walk f.rest) a.0 (sym (walk-append w f.rest start) ∙ a.1) in
    (n.0, n.1)

pub front_within_walked : {limit most : ℕ} {w : List Lexeme} → FrontWithin limit most w → (s : State) × (walk w start ≡ Some s) × (need s ≤ limit) × (pipes s ≤ most)
front_within_walked {limit} {most} {w} f =
    let a = accepts f.spells in
    let n = and_then_some (walk w start) (walk f.rest) a.0 (sym (walk-append w f.rest start) ∙ a.1) in
    let grown = walk_grows f.rest n.0 a.0 (walked n.1) n.2 in
    let needs = grown.needs in
    let counts = grown.counts in
    let deep = need_done a.0 a.3 in
    let deepest = a.4 in
    let count = pipes_done a.0 f.written a.2 a.3 in
    let shallow = f.shallow in
    let few = f.few in
    (n.0, n.1, omega arith, omega arith)

-- ---- the end

arrived_done : {r s : State} → Some r ≡ Some s → r.inside ≡ Done → s.inside ≡ Done
arrived_done {r} {s} e f = let same : r ≡ s = cc in sym (ap (λ (t : State). t.inside) same) ∙ f

ended_done : (p : Progress) (last : Span) (o : Option Written) {to : State} → ended_with p last Done o ≡ Some to → to.inside ≡ Done
ended_done p last (Some written) e = arrived_done e refl
ended_done p last None e = cc

command_done : (p : Progress) (last : Span) (o : Option CommandEnd) {to : State} → ended p last Done o ≡ Some to → to.inside ≡ Done
command_done p last (Some says) e = ended_done p last (with_command p.before says (join p.word p.last)) e
command_done p last None e = cc

expr_done : (p : Progress) (slot : Slot) (reader : Reader) (at : Span) (o : Stepped) {to : State} {begin : CommandWord} {v : List Lexeme} {d : ℕ} → Inner begin (Open slot reader) v d → expr.step reader (End at) ≡ o
    → step_expr p slot o (End at) ≡ Some to → to.inside ≡ Done
expr_done p slot reader at (Goes next) i f e = absurd (no_expression reader next (end_ends at) f)
expr_done p slot reader at (Ends part next) {to} i f e =
    command_done (deeper p part.depth) at (finished_command (point.Ended slot part))
    (subst (λ (y : Lexeme). step_point (deeper p part.depth) (point.Ended slot part) y ≡ Some to) (ends_same (End at) i f) e)
expr_done p slot reader at Stuck i f e = cc

inside_done : {begin : CommandWord} {inside : Inside} {v : List Lexeme} {d : ℕ} {to : State} (p : Progress) (at : Span) → Inner begin inside v d → step_inside p inside (End at) ≡ Some to → to.inside ≡ Done
inside_done p at (in_slot w {slot = slot} {reader = reader} l h) e = expr_done p slot reader at (expr.step reader (End at)) (in_slot w l h) refl e
inside_done p at (at_point {here = here} l) e = command_done p at (finished_command here) e

end_steps : {s to : State} {w : List Lexeme} (at : Span) → Read s w → step s (End at) ≡ Some to → to.inside ≡ Done
end_steps at (to_begin {before = None} lead) e = cc
end_steps at (to_begin {before = Some written} lead) e = cc
end_steps {s} at (in_command name lead c kind i) e = inside_done s.progress at i e
end_steps at (at_end q) e = cc

-- what ends with the end is at its end
pub ends_done : (v : List Lexeme) (at : Span) (s : State) → walk (v ++ End at ∷ []) start ≡ Some s → s.inside ≡ Done
ends_done v at s e =
    let n = and_then_some (walk v start) (walk (End at ∷ [])) s (sym (walk-append v (End at ∷ []) start) ∙ e) in
    let m = and_then_some (step n.0 (End at)) (walk []) s n.2 in
    let same : m.0 ≡ s = cc in
    ap (λ (t : State). t.inside) (sym same) ∙ end_steps at (walked n.1) m.1

-- and nothing continues it
pub done_stops : (s : State) (x : Lexeme) → s.inside ≡ Done → step s x ≡ None
done_stops s x e = ap (λ inside. step_inside s.progress inside x) e
