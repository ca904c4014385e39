-- What the grammar spells, the machine takes; so lexemes spell at most one query.
use Rattle.std.proofs.Common.{◌≡◌, ℕ, max, Bool, true, false, List, [], ◌∷◌, ◌++◌, Option, Some, None, refl, sym, ◌∙◌, ap, subst}
use Rattle.std.specs.Prelude.{if◌then◌else◌}
use Rattle.std.proofs.Math.Nat.{zero-max}
use Rattle.esql_types.specs.declared.places.Span.{Span}
use Rattle.esql_lex.specs.declared.token.Sign.TheVariants as sign
use Rattle.esql_lex.specs.declared.token.Token.{Token}
use Rattle.esql_ast.specs.declared.query.NameAt.{NameAt}
use Rattle.esql_ast.specs.declared.query.Query.{Query}
use Rattle.esql_ast.specs.Numbering.{numbered_query}
use Rattle.esql_phrases.specs.declared.lexeme.Lexeme.{Lexeme}
use Rattle.esql_phrases.specs.declared.lexeme.Lexeme.TheVariants.{Plain, Sign as Mark, End}
use Rattle.esql_phrases.specs.Parts.{join}
use Rattle.esql_commands.specs.declared.place.CommandEnd.{CommandEnd}
use Rattle.esql_commands.specs.declared.words.CommandWord.{CommandWord}
use Rattle.esql_commands.specs.Begins.{place_after, source_place, piped_place}
use Rattle.esql_commands.specs.Grammar.{Says, from_says, row_says, last_span, CommandLine, command_line}
use Rattle.esql_commands.specs.Words.{is_source}
use Rattle.esql_commands.proofs.Commands.{finishes}
use Rattle.esql_parse.specs.declared.state.Inside.{Inside}
use Rattle.esql_parse.specs.declared.state.Inside.TheVariants.{Begin, Done}
use Rattle.esql_parse.specs.declared.state.Progress.{Progress}
use Rattle.esql_parse.specs.declared.state.State.{State}
use Rattle.esql_parse.specs.declared.state.Written.{Written}
use Rattle.esql_parse.specs.Grammar.{begin_with, continue_with, with_command, Piped, source_line, pipe_line, SpellsQuery, query_line}
use Rattle.esql_parse.specs.Machine.{inside_at, inside_of, with_word, moved, ended_with, ended, step, start, walk}
use Rattle.esql_parse.specs.Spells.{Spells}
use Rattle.esql_parse.proofs.Follows.{stop_passes}
use Rattle.esql_parse.proofs.Steps.{walk_from, walk_on, at_place, stand, stands_at, walks}

-- the state after what ends a command
abbrev closed : Written → ℕ → Span → Span → Inside → State
closed written d word last inside = record { progress = record { before = Some written; deepest = d; word = word; last = last }; inside = inside }

-- a command has to begin
abbrev begin_at : Progress → State
begin_at p = record { progress = p; inside = Begin }

-- the lexemes of whole commands are read, and then `|` or the end
record Runs (from : State) (w : List Lexeme) (written : Written) (d : ℕ) : Type 0 where
  after : State
  word : Span
  walked : walk w from ≡ Some after
  bar : (at : Span) → step after (Mark sign.Bar at) ≡ Some (closed written d word at Begin)
  end : (at : Span) → step after (End at) ≡ Some (closed written d word at Done)

-- a command is read once its word is
runs_command : (p : Progress) (name : NameAt) {begin : CommandWord} {w : List Lexeme} {says : CommandEnd} {d : ℕ} {written : Written}
    → step (begin_at p) (Plain name) ≡ Some (stand (with_word p name.span) name.span p.deepest (inside_at (place_after begin))) → Says begin w says d
    → with_command p.before says (join name.span (last_span name.span w)) ≡ Some written → Runs (begin_at p) (Plain name ∷ w) written (max p.deepest d)
runs_command p name {begin} {w} {says} {d} {written} first whole is =
    let f = finishes begin w says d whole in
    let o : Progress = with_word p name.span in
    let opening : State = stand o name.span p.deepest (inside_at (place_after begin)) in
    let r = walks f.leads opening o name.span p.deepest (stands_at o name.span p.deepest (place_after begin)) in
    let q : Progress = at_place o (last_span name.span w) (max p.deepest d) in
    record {
      after = r.after;
      word = name.span;
      walked = walk_on (Plain name) w (begin_at p) opening first ∙ r.walked;
      bar = λ at. r.agrees (Mark sign.Bar at) (stop_passes (Mark sign.Bar at) f.here (refl, tt)) ∙ ap (λ o. ended q at Begin o) f.ends ∙ ap (λ o. ended_with q at Begin o) is;
      end = λ at. r.agrees (End at) (stop_passes (End at) f.here (refl, tt)) ∙ ap (λ o. ended q at Done o) f.ends ∙ ap (λ o. ended_with q at Done o) is;
    }

-- what a query begins with has the word of a source command
source_begins : {begin : CommandWord} {w : List Lexeme} {says : CommandEnd} {d : ℕ} {written : Written} (span : Span) → Says begin w says d → begin_with says span ≡ Some written → is_source begin ≡ true
source_begins span (from_says list) e = refl
source_begins span (row_says list) e = refl
source_begins span _ e = cc

-- and what continues it has the word of another
command_begins : {begin : CommandWord} {w : List Lexeme} {says : CommandEnd} {d : ℕ} {written : Written} (before : Written) (span : Span) → Says begin w says d → continue_with before says span ≡ Some written → is_source begin ≡ false
command_begins before span (from_says list) e = cc
command_begins before span (row_says list) e = cc
command_begins before span _ e = refl

runs_source : {w : List Lexeme} {says : CommandEnd} {span : Span} {d : ℕ} {written : Written} → CommandLine w says span d → begin_with says span ≡ Some written → Runs start w written d
runs_source {written = written} (command_line name {begin = begin} {w = w} {d = d} e whole) is =
    let p = start.progress in
    let first : step start (Plain name) ≡ Some (stand (with_word p name.span) name.span 0 (inside_at (place_after begin))) =
    ap (λ o. moved (with_word p name.span) name.span (inside_of (source_place o))) e
    ∙ ap (λ b. moved (with_word p name.span) name.span (inside_of (if b then Some (place_after begin) else None))) (source_begins _ whole is) in
    subst (λ c. Runs start (Plain name ∷ w) written c) (zero-max d) (runs_command p name first whole is)

runs_next : (before : Written) (c : ℕ) (word last : Span) {w : List Lexeme} {says : CommandEnd} {span : Span} {d : ℕ} {written : Written} → CommandLine w says span d → continue_with before says span ≡ Some written
    → Runs (closed before c word last Begin) w written (max c d)
runs_next before c word last (command_line name {begin = begin} e whole) is =
    let p : Progress = record { before = Some before; deepest = c; word = word; last = last } in
    let first : step (begin_at p) (Plain name) ≡ Some (stand (with_word p name.span) name.span c (inside_at (place_after begin))) =
    ap (λ o. moved (with_word p name.span) name.span (inside_of (piped_place o))) e
    ∙ ap (λ b. moved (with_word p name.span) name.span (inside_of (if b then None else Some (place_after begin)))) (command_begins before _ whole is) in
    runs_command p name first whole is

runs_pipe : {from : State} {u w : List Lexeme} {before written : Written} {c d : ℕ} (bar : Span) (r : Runs from u before c) → Runs (closed before c r.word bar Begin) w written d
    → Runs from (u ++ Mark sign.Bar bar ∷ w) written d
runs_pipe {from} {u} {w} {before} {c = c} bar r q = record {
  after = q.after;
  word = q.word;
  walked = walk_from u (Mark sign.Bar bar ∷ w) from r.after r.walked ∙ walk_on (Mark sign.Bar bar) w r.after (closed before c r.word bar Begin) (r.bar bar) ∙ q.walked;
  bar = q.bar;
  end = q.end;
}

runs : {w : List Lexeme} {written : Written} {d : ℕ} → Piped w written d → Runs start w written d
runs (source_line line is) = runs_source line is
runs (pipe_line bar {d = d} {before = before} front line is) =
    let r = runs front in
    runs_pipe bar r (runs_next before d r.word bar line is)

-- what is spelled is taken, as it is written and as deep as it is
pub accepts : {w : List Lexeme} {written : Written} {d : ℕ} → SpellsQuery w written d
    → (s : State) × (walk w start ≡ Some s) × (s.progress.before ≡ Some written) × (s.inside ≡ Done) × (s.progress.deepest ≡ d)
accepts (query_line at {w = w} {written = written} {d = d} piped) =
    let r = runs piped in
    let s = closed written d r.word at Done in
    (s, walk_from w (End at ∷ []) start r.after r.walked ∙ walk_on (End at) [] r.after s (r.end at), refl, refl, refl)

same_end : (o : Option State) (s t : State) (a b : Written) (d e : ℕ) → o ≡ Some s → o ≡ Some t → s.progress.before ≡ Some a → t.progress.before ≡ Some b → s.progress.deepest ≡ d → t.progress.deepest ≡ e → (a ≡ b) × (d ≡ e)
same_end o s t a b d e f g h i j k =
    let same : s ≡ t = cc in
    let writes : Some a ≡ Some b = sym h ∙ ap (λ r. r.progress.before) same ∙ i in
    let deep : d ≡ e = sym j ∙ ap (λ r. r.progress.deepest) same ∙ k in
    (cc, deep)

-- lexemes spell at most one query
one_written : {w : List Lexeme} {a b : Written} {d e : ℕ} → SpellsQuery w a d → SpellsQuery w b e → (a ≡ b) × (d ≡ e)
one_written {w} {a} {b} {d} {e} p q =
    let s = accepts p in
    let t = accepts q in
    same_end (walk w start) s.0 t.0 a b d e s.1 t.1 s.2 t.2 s.4 t.4

-- tokens of a text spell at most one query
pub one_query : (text : List ℕ) (tokens : List Token) (query other : Query) → Spells text tokens query → Spells text tokens other → query ≡ other
one_query text tokens query other p q =
    let same = one_written p.spells q.spells in
    p.numbered ∙ ap (λ w. numbered_query w.source w.commands) same.0 ∙ sym q.numbered
