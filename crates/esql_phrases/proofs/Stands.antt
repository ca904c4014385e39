-- Lexemes that stand in a text: parts of a list of them, and the span from the first to the last.
use Rattle.std.proofs.Common.{◌≡◌, ℕ, ◌≤◌, true, false, List, [], ◌∷◌, ◌++◌, length, get_or, map, Bool, refl, sym, ap, subst, arith}
use Rattle.std.specs.Prelude.{IsCharBoundary, ◌==◌, if◌then◌else◌}
use Rattle.std.specs.List.{list_any}
use Rattle.std.proofs.lemmas.List.Elements.{All-head, All-map}
use Rattle.esql_types.specs.declared.places.Span.{Span}
use Rattle.esql_types.specs.Spans.{SpanFits}
use Rattle.esql_types.proofs.Lists.{All-front, All-back, AllPairs-front, AllPairs-back, AllPairs-map}
use Rattle.esql_lex.specs.declared.token.Token.{Token}
use Rattle.esql_lex.specs.declared.token.TokenKind.{TokenKind}
use Rattle.esql_lex.specs.declared.token.TokenKind.TheVariants.{Name, QuotedName, Pattern, Source, Text, Number, Word, Sign, End}
use Rattle.esql_lex.specs.Tokens.{slice_of, IsPartOf, FitsText}
use Rattle.esql_ast.specs.declared.query.NameAt.{NameAt}
use Rattle.esql_phrases.specs.declared.lexeme.Lexeme.{Lexeme}
use Rattle.esql_phrases.specs.declared.lexeme.Lexeme.TheVariants.{Plain, Dotted}
use Rattle.esql_phrases.specs.Lexemes.{named, name_lexeme, lexeme_at, lexeme_of}
use Rattle.esql_phrases.specs.Ends.{span_at, first_from, last_to}
use Rattle.esql_phrases.specs.Stands.{Stands}

-- a front of lexemes that stand, and what comes after it, stand
pub front : {text : List ℕ} (u w : List Lexeme) → Stands text (u ++ w) → Stands text u
front {text} u w s = record {
  parts = All-front (λ (x : Lexeme). SpanFits text (span_at x)) u w s.parts;
  ordered = AllPairs-front (λ (x y : Lexeme). (span_at x).to ≤ (span_at y).from) u w s.ordered;
}

pub back : {text : List ℕ} (u w : List Lexeme) → Stands text (u ++ w) → Stands text w
back {text} u w s = record {
  parts = All-back (λ (x : Lexeme). SpanFits text (span_at x)) u w s.parts;
  ordered = AllPairs-back (λ (x y : Lexeme). (span_at x).to ≤ (span_at y).from) u w s.ordered;
}

pub first_fits : {text : List ℕ} (x : Lexeme) (w : List Lexeme) → Stands text (x ∷ w) → SpanFits text (span_at x)
first_fits {text} x w s = All-head (λ (x : Lexeme). SpanFits text (span_at x)) x w s.parts

-- the span from the start of the first lexeme to the end of the last is a part of the text
pub run_fits : {text : List ℕ} (x : Lexeme) (w : List Lexeme) → Stands text (x ∷ w) → SpanFits text (record { from = (span_at x).from; to = last_to (x ∷ w) })
run_fits x [] s = let first = first_fits x [] s in record { ordered = first.ordered; begins = first.begins; ends = first.ends; short = first.short }
run_fits x (y ∷ w) s =
    let first = first_fits x (y ∷ w) s in
    let later = run_fits y w (back (x ∷ []) (y ∷ w) s) in
    let own : (span_at x).from ≤ (span_at x).to = first.ordered in
    let near : (span_at x).to ≤ (span_at y).from = s.ordered 0 1 x (omega arith) (omega arith) in
    let rest : (span_at y).from ≤ last_to (y ∷ w) = later.ordered in
    record { ordered = omega arith; begins = first.begins; ends = later.ends; short = first.short }

pub whole_fits : {text : List ℕ} (w : List Lexeme) (x : Lexeme) (u : List Lexeme) → w ≡ x ∷ u → Stands text w → SpanFits text (record { from = first_from w; to = last_to w })
whole_fits {text} w x u e s =
    subst (λ (y : List Lexeme). SpanFits text (record { from = first_from y; to = last_to y })) (sym e) (run_fits x u (subst (λ (y : List Lexeme). Stands text y) e s))

-- a span with the ends of one that fits
pub same_ends_fit : {text : List ℕ} {from to : ℕ} (span : Span) → from ≡ span.from → to ≡ span.to → SpanFits text (record { from = from; to = to }) → SpanFits text span
same_ends_fit {text} {from} {to} span e f s =
    let within : from ≤ to = s.ordered in
    let ordered : span.from ≤ span.to = omega arith in
    record { ordered = ordered; begins = subst (λ (n : ℕ). IsCharBoundary text n) e s.begins; ends = subst (λ (n : ℕ). IsCharBoundary text n) f s.ends; short = s.short }

either_span : (name : NameAt) (dotted : Bool) → span_at (if dotted then Dotted name else Plain name) ≡ name.span
either_span name true = refl
either_span name false = refl

name_span : (name : NameAt) (slice : List ℕ) → span_at (name_lexeme name slice) ≡ name.span
name_span name slice = either_span name (list_any (λ c. c == 46) slice)

lexeme_at_span : (kind : TokenKind) (slice : List ℕ) (span : Span) → span_at (lexeme_at kind slice span) ≡ span
lexeme_at_span Name slice span = name_span (named Name slice span) slice
lexeme_at_span QuotedName slice span = refl
lexeme_at_span Pattern slice span = refl
lexeme_at_span Source slice span = refl
lexeme_at_span Text slice span = refl
lexeme_at_span (Number value) slice span = refl
lexeme_at_span (Word word) slice span = refl
lexeme_at_span (Sign sign) slice span = refl
lexeme_at_span End slice span = refl

-- a lexeme stands where its token does
pub lexeme_span : (text : List ℕ) (token : Token) → span_at (lexeme_of text token) ≡ token.span
lexeme_span text token = lexeme_at_span token.kind (slice_of text token) token.span

lexeme_fits : (text : List ℕ) (token : Token) → length text ≤ 65536 → IsPartOf text token → SpanFits text (span_at (lexeme_of text token))
lexeme_fits text token small part =
    let fits : SpanFits text token.span = record { ordered = part.ordered; begins = part.starts; ends = part.ends; short = omega arith } in
    subst (λ (span : Span). SpanFits text span) (sym (lexeme_span text token)) fits

lexeme_after : (text : List ℕ) (token later : Token) → token.span.to ≤ later.span.from → (span_at (lexeme_of text token)).to ≤ (span_at (lexeme_of text later)).from
lexeme_after text token later after =
    let to : (span_at (lexeme_of text token)).to ≡ token.span.to = ap (λ (span : Span). span.to) (lexeme_span text token) in
    let from : (span_at (lexeme_of text later)).from ≡ later.span.from = ap (λ (span : Span). span.from) (lexeme_span text later) in
    omega arith

-- what the grammar sees in the tokens of a text stands in it
pub lexemes_stand : (text : List ℕ) (tokens : List Token) → length text ≤ 65536 → FitsText text tokens → Stands text (map (lexeme_of text) tokens)
lexemes_stand text tokens small fits = record {
  parts = All-map (λ (x : Lexeme). SpanFits text (span_at x)) (lexeme_of text) tokens
      (λ k d within. lexeme_fits text (get_or tokens k d) small (fits.parts k d within));
  ordered = AllPairs-map (λ (x y : Lexeme). (span_at x).to ≤ (span_at y).from) (lexeme_of text) tokens
      (λ i j d below within. lexeme_after text (get_or tokens i d) (get_or tokens j d) (fits.ordered i j d below within));
}
