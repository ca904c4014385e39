-- What can still come: a query of the depth that is needed.
use Rattle.std.proofs.Common.{◌≡◌, ℕ, suc, ◌+◌, max, Bool, true, false, List, [], ◌∷◌, ◌++◌, length, Option, Some, None, refl, sym, ◌∙◌, ap, subst, append_assoc, append-nil, length-append, add-one, arith}
use Rattle.std.specs.Prelude.{pos, codes}
use Rattle.esql_types.specs.declared.places.Span.{Span}
use Rattle.esql_ast.specs.declared.query.NameAt.{NameAt}
use Rattle.esql_phrases.specs.declared.lexeme.Lexeme.{Lexeme}
use Rattle.esql_phrases.specs.declared.lexeme.Lexeme.TheVariants.{Plain, Source, Number, End}
use Rattle.esql_phrases.specs.Parts.{join}
use Rattle.esql_expr.proofs.Fronts.{goes_on}
use Rattle.esql_commands.specs.declared.place.CommandEnd.{CommandEnd}
use Rattle.esql_commands.specs.declared.place.CommandEnd.TheVariants as end
use Rattle.esql_commands.specs.declared.place.Place.TheVariants as place
use Rattle.esql_commands.specs.declared.place.Point.{Point}
use Rattle.esql_commands.specs.declared.place.Point.TheVariants as point
use Rattle.esql_commands.specs.declared.words.CommandWord.{CommandWord}
use Rattle.esql_commands.specs.declared.words.CommandWord.TheVariants as begins
use Rattle.esql_commands.specs.Grammar.{first_item, table_line, Says, from_says, limit_says, row_says, command_line, last_span}
use Rattle.esql_commands.specs.Leads.{Completes, need_at as need_of_point}
use Rattle.esql_commands.specs.Slots.{line_in}
use Rattle.esql_commands.specs.Words.{command_word, is_source}
use Rattle.esql_commands.proofs.Completes.{nowhere, nameless, line_low, completed_with, completed_deep, completes}
use Rattle.esql_commands.proofs.Walks.{then_reads}
use Rattle.esql_parse.specs.declared.state.Inside.{Inside}
use Rattle.esql_parse.specs.declared.state.Inside.TheVariants.{Begin, Open, At, Done}
use Rattle.esql_parse.specs.declared.state.State.{State}
use Rattle.esql_parse.specs.declared.state.Written.{Written}
use Rattle.esql_parse.specs.Grammar.{with_command, SpellsQuery, query_line}
use Rattle.esql_parse.specs.Machine.{need_at, need_inside, need, piped, pipes, start, walk}
use Rattle.esql_parse.proofs.Reached.{Inner, in_slot, at_point, Lead, is_first, Read, to_begin, in_command, at_end}
use Rattle.esql_parse.proofs.Sound.{piped_on, walked}

need_is : (here : Point) (d : ℕ) → max d (need_of_point here) ≡ need_at d here
need_is point.Stats d = refl
need_is _ d = omega arith

completed_at : {begin : CommandWord} {v w : List Lexeme} {m : ℕ} → v ≡ w → Completes begin v m → Completes begin w m
completed_at {begin} {m = m} e c = subst (λ (v : List Lexeme). Completes begin v m) e c

-- the open command can be completed, and it has the depth that is needed
inner_completes : {begin : CommandWord} {inside : Inside} {v : List Lexeme} {d : ℕ} → Inner begin inside v d → Completes begin v (need_inside d inside)
inner_completes {begin} (in_slot w {slot = slot} {reader = reader} {u = u} {d = d} l h) =
    let n = goes_on (line_in slot) w reader (line_low slot) h in
    let deep = n.3 in
    completed_with n.0 (completed_at (sym (append_assoc u w n.0)) (completed_deep (omega arith) (completes begin (u ++ (w ++ n.0)) (max d n.1.depth) (place.At (point.Ended slot n.1)) (then_reads l n.2))))
inner_completes {begin} (at_point {here = here} {v = v} {d = d} l) = completed_deep (need_is here d) (completes begin v d (place.At here) l)

-- ---- a query

abbrev name_by : List ℕ → NameAt
name_by name = record { name = name; span = nowhere }

-- some lexemes after these make a query of the depth m with c commands after its source
record Queries (w : List Lexeme) (m c : ℕ) : Type 0 where
  rest : List Lexeme
  written : Written
  spells : SpellsQuery (w ++ rest) written m
  count : length written.commands ≡ c

-- a command of its kind can stand where it begins
record Stands (before : Option Written) (b : CommandEnd) (span : Span) (c : ℕ) : Type 0 where
  written : Written
  is : with_command before b span ≡ Some written
  count : length written.commands ≡ c

abbrev of_source : CommandEnd → Bool
of_source (end.Piped kind) = false
of_source _ = true

source_says : {begin : CommandWord} {w : List Lexeme} {says : CommandEnd} {d : ℕ} → Says begin w says d → is_source begin ≡ of_source says
source_says (from_says l) = refl
source_says _ = refl

-- the commands that there are with the open one
abbrev pub opened_count : Option Written → ℕ
opened_count None = 0
opened_count (Some written) = suc (length written.commands)

stands : (before : Option Written) (b : CommandEnd) (span : Span) → of_source b ≡ is_first before → Stands before b span (opened_count before)
stands None (end.From tables) span e = record { written = _; is = refl; count = refl }
stands None (end.Row fields) span e = record { written = _; is = refl; count = refl }
stands None (end.Piped kind) span e = cc
stands (Some written) (end.From tables) span e = cc
stands (Some written) (end.Row fields) span e = cc
stands (Some written) (end.Piped kind) span e = record { written = _; is = refl; count = length-append written.commands _ ∙ add-one (length written.commands) }

queries_with : {w : List Lexeme} {m c : ℕ} (v : List Lexeme) → Queries (w ++ v) m c → Queries w m c
queries_with {w} {m} v q = record { rest = v ++ q.rest; written = q.written; spells = subst (λ (y : List Lexeme). SpellsQuery y q.written m) (append_assoc w v q.rest) q.spells; count = q.count }

queries_at : {v w : List Lexeme} {m n c : ℕ} → v ≡ w → m ≡ n → Queries v m c → Queries w n c
queries_at {w = w} {m = m} {c = c} e f q = subst (λ (n : ℕ). Queries w n c) f (subst (λ (y : List Lexeme). Queries y m c) e q)

finishes : {before : Option Written} {u v : List Lexeme} {begin : CommandWord} {says : CommandEnd} {d e : ℕ} (name : NameAt)
    → Lead u before d → command_word name.name ≡ Some begin → is_source begin ≡ is_first before → Says begin v says e → Queries (u ++ Plain name ∷ v) (max d e) (opened_count before)
finishes {before} {u} {v} {says = b} name lead c kind says =
    let s = stands before b (join name.span (last_span name.span v)) (sym (source_says says) ∙ kind) in
    record { rest = End nowhere ∷ []; written = s.written; spells = query_line nowhere (piped_on lead (command_line name c says) s.is); count = s.count }

from_word : command_word (codes "FROM") ≡ Some begins.From
unfolding command_word
from_word = refl

limit_word : command_word (codes "LIMIT") ≡ Some begins.Limit
unfolding command_word
limit_word = refl

-- a command that has to begin can
begins_anew : {before : Option Written} {u : List Lexeme} {d : ℕ} → Lead u before d → Queries u (need_inside d Begin) (piped before Begin)
begins_anew {before = None} {d = d} lead = queries_at refl (omega arith) (queries_with (Plain (name_by (codes "FROM")) ∷ Source nameless ∷ []) (finishes (name_by (codes "FROM")) lead from_word refl (from_says (first_item (table_line nameless)))))
begins_anew {before = Some written} {d = d} lead = queries_at refl (omega arith) (queries_with (Plain (name_by (codes "LIMIT")) ∷ Number (pos 0) nowhere ∷ []) (finishes (name_by (codes "LIMIT")) lead limit_word refl (limit_says 0 nowhere)))

needs_more : (inside : Inside) (d e : ℕ) → max d (need_inside e inside) ≡ need_inside (max d e) inside
needs_more (Open slot reader) d e = omega arith
needs_more (At point.Stats) d e = omega arith
needs_more (At _) d e = refl
needs_more Begin d e = refl
needs_more Done d e = refl

pub opened_pipes : {begin : CommandWord} {inside : Inside} {v : List Lexeme} {e : ℕ} (before : Option Written) → Inner begin inside v e → opened_count before ≡ piped before inside
opened_pipes None i = refl
opened_pipes (Some written) (in_slot w l h) = refl
opened_pipes (Some written) (at_point l) = refl

queries_count : {w : List Lexeme} {m b c : ℕ} → b ≡ c → Queries w m b → Queries w m c
queries_count {w} {m} e q = subst (λ (c : ℕ). Queries w m c) e q

read_queries : {s : State} {w : List Lexeme} → Read s w → Queries w (need s) (pipes s)
read_queries (to_begin lead) = begins_anew lead
read_queries (in_command name {before = before} {inside = inside} {u = u} {v = v} {d = d} {e = e} lead c kind i) =
    let n = inner_completes i in
    queries_count (opened_pipes before i)
    (queries_with n.rest (queries_at (sym (append_assoc u (Plain name ∷ v) n.rest)) (needs_more inside d e) (finishes name lead c kind n.whole)))
read_queries (at_end {written = written} {d = d} {w = w} q) = record { rest = []; written = written; spells = subst (λ (y : List Lexeme). SpellsQuery y written d) (sym (append-nil w)) q; count = refl }

-- a state can still end as a query of the depth that it needs, with a command for each `|`
pub viable : (w : List Lexeme) (s : State) → walk w start ≡ Some s → (rest : List Lexeme) × (written : Written) × SpellsQuery (w ++ rest) written (need s) × (length written.commands ≡ pipes s)
viable w s e = let q = read_queries (walked e) in (q.rest, q.written, q.spells, q.count)
