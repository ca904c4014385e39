-- The need never falls, and there is a command for each `|`.
use Rattle.std.proofs.Common.{◌≡◌, ℕ, suc, ◌+◌, ◌≤◌, max, Bool, true, false, List, [], ◌∷◌, ◌++◌, length, Option, Some, None, refl, sym, ◌∙◌, ap, subst, length-append, add-one, arith}
use Rattle.esql_types.specs.declared.places.Span.{Span}
use Rattle.esql_lex.specs.declared.token.Sign.TheVariants as sign
use Rattle.esql_phrases.specs.declared.lexeme.Lexeme.{Lexeme}
use Rattle.esql_phrases.specs.declared.lexeme.Lexeme.TheVariants.{Plain, Word, Sign as Mark, End}
use Rattle.esql_lex.specs.declared.token.Reserved.TheVariants as word
use Rattle.esql_expr.specs.declared.machine.Reader.{Reader}
use Rattle.esql_expr.specs.declared.machine.Stepped.{Stepped}
use Rattle.esql_expr.specs.declared.machine.Stepped.TheVariants.{Goes, Ends, Stuck}
use Rattle.esql_expr.specs.Machine as expr
use Rattle.esql_expr.proofs.Fronts.{need_grows, ends_spelled}
use Rattle.esql_expr.proofs.Grows.{ends_needs}
use Rattle.esql_expr.proofs.Sound.{and_then_some}
use Rattle.esql_commands.specs.declared.place.CommandEnd.{CommandEnd}
use Rattle.esql_commands.specs.declared.place.CommandEnd.TheVariants as end
use Rattle.esql_parse.specs.declared.state.Inside.{Inside}
use Rattle.esql_parse.specs.declared.state.Inside.TheVariants.{Begin, Open, At, Done}
use Rattle.esql_commands.specs.declared.place.Point.{Point}
use Rattle.esql_commands.specs.declared.place.Point.TheVariants as point
use Rattle.esql_commands.specs.declared.place.Slot.{Slot}
use Rattle.esql_commands.specs.declared.place.Slot.TheVariants as slot
use Rattle.esql_parse.specs.declared.state.Progress.{Progress}
use Rattle.esql_parse.specs.declared.state.State.{State}
use Rattle.esql_parse.specs.declared.state.Written.{Written}
use Rattle.esql_parse.specs.Grammar.{with_command}
use Rattle.esql_commands.specs.Points.{continue_command, finished_command}
use Rattle.esql_commands.specs.Slots.{line_in}
use Rattle.esql_commands.specs.Stats.{want_group, have_stats}
use Rattle.esql_parse.specs.Machine.{inside_at, begun, inside_after, place_of, inside_of, moved, ended_with, ended, with_word, deeper, step_begin, step_point, step_expr, step_inside, step, need_at, need_inside, need, piped, pipes, start, walk}
use Rattle.esql_parse.specs.Refusals.{bar_at, bars}
use Rattle.esql_parse.proofs.Sound.{step_read}
use Rattle.esql_commands.specs.declared.words.CommandWord.{CommandWord}
use Rattle.esql_parse.specs.Grammar.{SpellsQuery, query_line}
use Rattle.esql_parse.proofs.Reached.{first_command, Inner, in_slot, at_point, Read, to_begin, in_command, at_end}
use Rattle.esql_phrases.specs.Ends.{span_at}
use Rattle.esql_phrases.specs.Parts.{join}
use Rattle.esql_phrases.specs.declared.part.Part.{Part}
use Rattle.esql_commands.proofs.Completes.{line_low}
use Rattle.esql_commands.proofs.Stops.{bar_ends}
use Rattle.esql_parse.proofs.Enders.{no_expression}
use Rattle.esql_parse.proofs.Viable.{opened_count, opened_pipes}

-- ---- the need never falls

deepest_least : (deepest : ℕ) (inside : Inside) → deepest ≤ need_inside deepest inside
deepest_least deepest Begin = omega arith
deepest_least deepest (Open slot reader) = omega arith
deepest_least deepest (At point.Stats) = omega arith
deepest_least deepest (At _) = omega arith
deepest_least deepest Done = omega arith

grown_to : {r s : State} {m : ℕ} → Some r ≡ Some s → m ≤ need r → m ≤ need s
grown_to {r} {s} {m} e h = let same : r ≡ s = cc in subst (λ (y : State). m ≤ need y) same h

ended_grows : (p : Progress) (last : Span) (inside : Inside) (o : Option Written) {to : State} → ended_with p last inside o ≡ Some to → p.deepest ≤ need to
ended_grows p last inside (Some written) e = grown_to e (deepest_least p.deepest inside)
ended_grows p last inside None e = cc

end_grows : (p : Progress) (last : Span) (inside : Inside) (o : Option CommandEnd) {to : State} → ended p last inside o ≡ Some to → p.deepest ≤ need to
end_grows p last inside (Some says) e = ended_grows p last inside (with_command p.before says (join p.word p.last)) e
end_grows p last inside None e = cc

moved_grows : (p : Progress) (last : Span) (o : Option Inside) {to : State} → moved p last o ≡ Some to → p.deepest ≤ need to
moved_grows p last (Some inside) e = grown_to e (deepest_least p.deepest inside)
moved_grows p last None e = cc

point_grows : (p : Progress) (here : Point) (x : Lexeme) {to : State} → step_point p here x ≡ Some to → p.deepest ≤ need to
point_grows p here (Mark sign.Bar at) e = end_grows p at Begin (finished_command here) e
point_grows p here (End at) e = end_grows p at Done (finished_command here) e
point_grows p here x e = moved_grows p (span_at x) (inside_after (continue_command here x)) e

-- after STATS an expression begins
field_grows : (p : Progress) (last : Span) (x : Lexeme) (o : Stepped) {to : State} → expr.step (expr.start 0) x ≡ o → moved p last (begun (slot.Aggregate [] None) o) ≡ Some to → max p.deepest 1 ≤ need to
field_grows p last x (Goes reader) f e =
    let grown : 1 ≤ expr.need reader = need_grows (expr.start 0) reader x f in
    grown_to e (omega arith)
field_grows p last x (Ends part next) f e = cc
field_grows p last x Stuck f e = cc

stats_step : (p : Progress) (x : Lexeme) {to : State} → step_point p point.Stats x ≡ Some to → max p.deepest 1 ≤ need to
stats_step p (Mark sign.Bar at) e = cc
stats_step p (End at) e = cc
stats_step p (Word word.By at) e = grown_to e (omega arith)
stats_step p x e = field_grows p (span_at x) x (expr.step (expr.start 0) x) refl e

here_grows : (p : Progress) (here : Point) (x : Lexeme) {to : State} → step_point p here x ≡ Some to → need_at p.deepest here ≤ need to
here_grows p point.Stats x e = stats_step p x e
here_grows p here x e = point_grows p here x e

expr_grows : (p : Progress) (slot : Slot) (reader : Reader) (x : Lexeme) (o : Stepped) {to : State} → expr.step reader x ≡ o → step_expr p slot o x ≡ Some to → max p.deepest (expr.need reader) ≤ need to
expr_grows p slot reader x (Goes next) f e =
    let grown = need_grows reader next x f in
    grown_to e (omega arith)
expr_grows p slot reader x (Ends part next) {to} f e =
    let deep = ends_needs reader x part next f in
    let grown = point_grows (deeper p part.depth) (point.Ended slot part) next e in
    omega arith
expr_grows p slot reader x Stuck f e = cc

inside_grows : (p : Progress) (inside : Inside) (x : Lexeme) {to : State} → step_inside p inside x ≡ Some to → need_inside p.deepest inside ≤ need to
inside_grows p Begin x e = moved_grows (with_word p (span_at x)) (span_at x) (inside_of (place_of p.before x)) e
inside_grows p (Open slot reader) x e = expr_grows p slot reader x (expr.step reader x) refl e
inside_grows p (At here) x e = here_grows p here x e
inside_grows p Done x e = cc

pub need_rises : (s : State) (x : Lexeme) {to : State} → step s x ≡ Some to → need s ≤ need to
need_rises s x e = inside_grows s.progress s.inside x e

-- ---- a command for each `|`

abbrev is_end : Lexeme → Bool
is_end (End at) = true
is_end _ = false

abbrev last_is_end : Bool → List Lexeme → Bool
last_is_end last [] = last
last_is_end last (x ∷ w) = last_is_end (is_end x) w

last_of : (last : Bool) (w : List Lexeme) (x : Lexeme) → last_is_end last (w ++ x ∷ []) ≡ is_end x
last_of last [] x = refl
last_of last (y ∷ w) x = last_of (is_end y) w x

query_ends : {w : List Lexeme} {written : Written} {d : ℕ} → SpellsQuery w written d → last_is_end false w ≡ true
query_ends (query_line at {w = w} p) = last_of false w (End at)

at_pipes : (before : Option Written) (here : Point) → piped before (At here) ≡ opened_count before
at_pipes None here = refl
at_pipes (Some written) here = refl

slot_pipes : (before : Option Written) (slot : Slot) (reader : Reader) → piped before (Open slot reader) ≡ opened_count before
slot_pipes None slot reader = refl
slot_pipes (Some written) slot reader = refl

begin_pipes : (before : Option Written) → piped before Begin ≡ opened_count before
begin_pipes None = refl
begin_pipes (Some written) = refl

-- the query does not end before its last lexeme
still_open : {s : State} {w : List Lexeme} → Read s w → last_is_end false w ≡ false → pipes s ≡ opened_count s.progress.before
still_open (to_begin {before = before} lead) e = begin_pipes before
still_open (in_command name {before = before} lead c kind i) e = sym (opened_pipes before i)
still_open (at_end q) e = let f = query_ends q in cc

one_command_more : (before : Option Written) (says : CommandEnd) (span : Span) (written : Written) → with_command before says span ≡ Some written → length written.commands ≡ opened_count before
one_command_more None (end.From tables) span written e = let same = ap (λ o. piped o Done) e in sym same
one_command_more None (end.Row fields) span written e = let same = ap (λ o. piped o Done) e in sym same
one_command_more None (end.Piped kind) span written e = cc
one_command_more (Some before) (end.From tables) span written e = cc
one_command_more (Some before) (end.Row fields) span written e = cc
one_command_more (Some before) (end.Piped kind) span written e =
    let same = ap (λ o. piped o Done) e in
    sym same ∙ length-append before.commands _ ∙ add-one (length before.commands)

arrived : {r s : State} → Some r ≡ Some s → pipes s ≡ pipes r
arrived {r} {s} e = let same : r ≡ s = cc in sym (ap pipes same)

bar_pipes : (p : Progress) (at : Span) (says : CommandEnd) (span : Span) (o : Option Written) {to : State} → with_command p.before says span ≡ o → ended_with p at Begin o ≡ Some to → pipes to ≡ opened_count p.before + 1
bar_pipes p at says span (Some written) {to} f e =
    let count = one_command_more p.before says span written f in
    let same : pipes to ≡ suc (length written.commands) = arrived e in
    omega arith
bar_pipes p at says span None f e = cc

end_pipes : (p : Progress) (at : Span) (says : CommandEnd) (span : Span) (o : Option Written) {to : State} → with_command p.before says span ≡ o → ended_with p at Done o ≡ Some to → pipes to ≡ opened_count p.before + 0
end_pipes p at says span (Some written) {to} f e =
    let count = one_command_more p.before says span written f in
    let same : pipes to ≡ length written.commands = arrived e in
    omega arith
end_pipes p at says span None f e = cc

bar_closes : (p : Progress) (at : Span) (o : Option CommandEnd) {to : State} → ended p at Begin o ≡ Some to → pipes to ≡ opened_count p.before + 1
bar_closes p at (Some says) e = bar_pipes p at says (join p.word p.last) (with_command p.before says (join p.word p.last)) refl e
bar_closes p at None e = cc

end_closes : (p : Progress) (at : Span) (o : Option CommandEnd) {to : State} → ended p at Done o ≡ Some to → pipes to ≡ opened_count p.before + 0
end_closes p at (Some says) e = end_pipes p at says (join p.word p.last) (with_command p.before says (join p.word p.last)) refl e
end_closes p at None e = cc

moved_pipes : (p : Progress) (x : Lexeme) (o : Option Inside) {to : State} (v : List Lexeme) → moved p (span_at x) o ≡ Some to → Read to (v ++ x ∷ []) → is_end x ≡ false → bar_at x ≡ 0 → pipes to ≡ opened_count p.before + bar_at x
moved_pipes p x (Some inside) {to} v e read not_end no_bar =
    let same : record { progress = record { before = p.before; deepest = p.deepest; word = p.word; last = span_at x }; inside = inside } ≡ to = cc in
    let kept : p.before ≡ to.progress.before = ap (λ (r : State). r.progress.before) same in
    let open_still = still_open read (last_of false v x ∙ not_end) in
    let count = ap opened_count kept in
    omega arith
moved_pipes p x None v e read not_end no_bar = cc

point_pipes : (p : Progress) (here : Point) (x : Lexeme) {to : State} (v : List Lexeme) → step_point p here x ≡ Some to → Read to (v ++ x ∷ []) → pipes to ≡ opened_count p.before + bar_at x
point_pipes p here (Mark sign.Bar at) v e read = bar_closes p at (finished_command here) e
point_pipes p here (End at) v e read = end_closes p at (finished_command here) e
point_pipes p here x v e read = moved_pipes p x (inside_after (continue_command here x)) v e read refl refl

-- what continues an expression is no `|`
expr_no_bar : (reader next : Reader) (x : Lexeme) → expr.step reader x ≡ Goes next → bar_at x ≡ 0
expr_no_bar reader next (Mark sign.Bar at) e = absurd (no_expression reader next (bar_ends at) e)
expr_no_bar reader next _ e = refl

-- the lexeme that ends an expression is looked at again
pub ends_same : {begin : CommandWord} {slot : Slot} {reader : Reader} {v : List Lexeme} {e : ℕ} {part : Part} {next : Lexeme} (x : Lexeme) → Inner begin (Open slot reader) v e → expr.step reader x ≡ Ends part next → next ≡ x
ends_same {slot = slot} {reader = reader} {part = part} {next = next} x (in_slot w l h) f = (ends_spelled (line_in slot) w reader part x next (line_low slot) h f).1

expr_pipes : (p : Progress) (slot : Slot) (reader : Reader) (x : Lexeme) (o : Stepped) {to : State} {begin : CommandWord} {v : List Lexeme} {d : ℕ} (w : List Lexeme) → expr.step reader x ≡ o → Inner begin (Open slot reader) v d
    → step_expr p slot o x ≡ Some to → Read to (w ++ x ∷ []) → pipes to ≡ opened_count p.before + bar_at x
expr_pipes p slot reader x (Goes next) {to} w f i e read =
    let none = expr_no_bar reader next x f in
    let same : pipes to ≡ piped p.before (Open slot next) = arrived e in
    let count = slot_pipes p.before slot next in
    omega arith
expr_pipes p slot reader x (Ends part next) {to} w f i e read =
    point_pipes (deeper p part.depth) (point.Ended slot part) x w (subst (λ (y : Lexeme). step_point (deeper p part.depth) (point.Ended slot part) y ≡ Some to) (ends_same x i f) e) read
expr_pipes p slot reader x Stuck w f i e read = cc

-- a command begins with a name
begins_pipes : (p : Progress) (before : Option Written) (x : Lexeme) {to : State} (v : List Lexeme) → p.before ≡ before → moved (with_word p (span_at x)) (span_at x) (inside_of (place_of before x)) ≡ Some to → Read to (v ++ x ∷ [])
    → pipes to ≡ opened_count p.before + bar_at x
begins_pipes p None (Plain name) v same e read = moved_pipes (with_word p name.span) (Plain name) (inside_of (place_of None (Plain name))) v e read refl refl
begins_pipes p (Some written) (Plain name) v same e read = moved_pipes (with_word p name.span) (Plain name) (inside_of (place_of (Some written) (Plain name))) v e read refl refl
begins_pipes p None _ v same e read = cc
begins_pipes p (Some written) _ v same e read = cc

not_begin : {begin : CommandWord} {inside : Inside} {v : List Lexeme} {e : ℕ} → Inner begin inside v e → inside ≡ Begin → ⊥
not_begin (in_slot w l h) e = cc
not_begin (at_point l) e = cc

pipes_counted : {r s : State} {w : List Lexeme} (x : Lexeme) → Read r w → step r x ≡ Some s → Read s (w ++ x ∷ []) → pipes s ≡ pipes r + bar_at x
pipes_counted {r} {w = w} x (to_begin {before = before} lead) e read =
    let count = begin_pipes before in
    let steps = begins_pipes r.progress before x w refl e read in
    omega arith
pipes_counted {r} {s} {w = w} x (in_command name {inside = Open slot reader} lead c kind i) e read =
    let count = slot_pipes r.progress.before slot reader in
    let steps = expr_pipes r.progress slot reader x (expr.step reader x) w refl i e read in
    omega arith
pipes_counted {r} {s} {w = w} x (in_command name {inside = At here} lead c kind i) e read =
    let count = at_pipes r.progress.before here in
    let steps = point_pipes r.progress here x w e read in
    omega arith
pipes_counted x (in_command name {inside = Begin} lead c kind i) e read = absurd (not_begin i refl)
pipes_counted x (in_command name {inside = Done} lead c kind i) e read = cc
pipes_counted x (at_end q) e read = cc

-- each step needs no less, and reads at most one `|`
pub record Grows (r : State) (x : Lexeme) (s : State) : Type 0 where
  pub needs : need r ≤ need s
  pub counts : pipes s ≡ pipes r + bar_at x

pub step_grows : {r s : State} {w : List Lexeme} (x : Lexeme) → Read r w → step r x ≡ Some s → Grows r x s
step_grows {r} x read e = record { needs = need_rises r x e; counts = pipes_counted x read e (step_read x read e) }

pub record WalkGrows (r : State) (v : List Lexeme) (s : State) : Type 0 where
  pub needs : need r ≤ need s
  pub counts : pipes s ≡ pipes r + bars v

pub walk_grows : (v : List Lexeme) (r s : State) {w : List Lexeme} → Read r w → walk v r ≡ Some s → WalkGrows r v s
walk_grows [] r s read e = let same : r ≡ s = cc in subst (λ (y : State). WalkGrows r [] y) same (record { needs = omega arith; counts = omega arith })
walk_grows (x ∷ v) r s read e =
    let n = and_then_some (step r x) (walk v) s e in
    let first = step_grows x read n.1 in
    let others = walk_grows v n.0 s (step_read x read n.1) n.2 in
    let a = first.needs in let b = first.counts in let c = others.needs in let d = others.counts in
    record { needs = omega arith; counts = omega arith }

-- the machine counts the `|`
pub counted : (w : List Lexeme) (s : State) → walk w start ≡ Some s → pipes s ≡ bars w
counted w s e = let g = walk_grows w start s (to_begin first_command) e in let c = g.counts in omega arith
