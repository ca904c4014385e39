-- A span runs from the first lexeme to the last.
use Rattle.std.proofs.Common.{◌≡◌, ℕ, Bool, List, [], ◌∷◌, ◌++◌, refl, sym, ◌∙◌, ap, append_assoc, append-nil}
use Rattle.esql_types.specs.declared.places.Span.{Span}
use Rattle.esql_lex.specs.declared.token.Reserved.TheVariants as word
use Rattle.esql_lex.specs.declared.token.Sign.TheVariants as sign
use Rattle.esql_ast.specs.declared.query.NameAt.{NameAt}
use Rattle.esql_phrases.specs.declared.lexeme.Lexeme.{Lexeme}
use Rattle.esql_phrases.specs.declared.lexeme.Lexeme.TheVariants.{Plain, Text, Number, Word, Sign as Mark}
use Rattle.esql_phrases.specs.declared.part.Part.{Part}
use Rattle.esql_phrases.specs.Phrases.{IsName, plain_name, dotted_name, quoted_name, IsKindName, plain_kind, dotted_kind, operator, IsWords, is_words, is_not_words, Phrase, looser, number_line, text_line, true_line, false_line, null_line, list_line, name_line, group_line, empty_line, star_line, call_line, cast_line, minus_line, not_line, binary_line, in_line, like_line, is_line}
use Rattle.esql_phrases.specs.Parts.{span_of}
use Rattle.esql_phrases.specs.Ends.{span_at, first_from, last_to}

pub last_one : (u : List Lexeme) (x : Lexeme) → last_to (u ++ x ∷ []) ≡ (span_at x).to
last_one [] x = refl
last_one (a ∷ []) x = refl
last_one (a ∷ b ∷ u) x = last_one (b ∷ u) x

closing_one : (u v : List Lexeme) (x : Lexeme) → last_to (u ++ (v ++ x ∷ [])) ≡ (span_at x).to
closing_one u v x = ap last_to (sym (append_assoc u v (x ∷ []))) ∙ last_one (u ++ v) x

name_from : {x : Lexeme} {name : NameAt} → IsName x name → (span_at x).from ≡ name.span.from
name_from (plain_name name) = refl
name_from (dotted_name name) = refl
name_from (quoted_name name) = refl

name_to : {x : Lexeme} {name : NameAt} → IsName x name → (span_at x).to ≡ name.span.to
name_to (plain_name name) = refl
name_to (dotted_name name) = refl
name_to (quoted_name name) = refl

kind_to : {x : Lexeme} {kind : NameAt} → IsKindName x kind → (span_at x).to ≡ kind.span.to
kind_to (plain_kind kind) = refl
kind_to (dotted_kind kind) = refl

-- lexemes that begin with a phrase begin where its span does
pub from_first : {n : ℕ} {w : List Lexeme} {p : Part} → Phrase n w p → (v : List Lexeme) → first_from (w ++ v) ≡ (span_of p).from
from_first (looser p) v = from_first p v
from_first (number_line number at) v = refl
from_first (text_line text) v = refl
from_first (true_line at) v = refl
from_first (false_line at) v = refl
from_first (null_line at) v = refl
from_first (list_line opening closing vs) v = refl
from_first (name_line name) v = name_from name
from_first (group_line opening closing p) v = refl
from_first (empty_line function opening closing) v = refl
from_first (star_line function opening star closing) v = refl
from_first (call_line function opening closing es) v = refl
from_first (cast_line cast {w = w} {x = x} p kind) v = ap first_from (append_assoc w (Mark sign.Cast cast ∷ x ∷ []) v) ∙ from_first p (Mark sign.Cast cast ∷ x ∷ v)
from_first (minus_line minus p) v = refl
from_first (not_line not p) v = refl
from_first (binary_line op at {w = w} {v = u} p q) v = ap first_from (append_assoc w (operator op at ∷ u) v) ∙ from_first p (operator op at ∷ (u ++ v))
from_first (in_line opening closing {m = m} {w = w} {v = u} i p es) v =
    ap first_from (append_assoc w (m ++ Mark sign.OpenParen opening ∷ (u ++ Mark sign.CloseParen closing ∷ [])) v)
    ∙ from_first p ((m ++ Mark sign.OpenParen opening ∷ (u ++ Mark sign.CloseParen closing ∷ [])) ++ v)
from_first (like_line {m = m} {w = w} pattern i p) v = ap first_from (append_assoc w (m ++ Text pattern ∷ []) v) ∙ from_first p ((m ++ Text pattern ∷ []) ++ v)
from_first (is_line {m = m} {w = w} i p) v = ap first_from (append_assoc w m v) ∙ from_first p (m ++ v)

is_last : {n : Bool} {m : List Lexeme} {null : Span} → IsWords n m null → (u : List Lexeme) → last_to (u ++ m) ≡ null.to
is_last (is_words is null) u = closing_one u (Word word.Is is ∷ []) (Word word.Null null)
is_last (is_not_words is not null) u = closing_one u (Word word.Is is ∷ Word word.Not not ∷ []) (Word word.Null null)

-- lexemes that end with a phrase end where its span does
pub to_last : {n : ℕ} {w : List Lexeme} {p : Part} → Phrase n w p → (u : List Lexeme) → last_to (u ++ w) ≡ (span_of p).to
to_last (looser p) u = to_last p u
to_last (number_line number at) u = last_one u (Number number at)
to_last (text_line text) u = last_one u (Text text)
to_last (true_line at) u = last_one u (Word word.True at)
to_last (false_line at) u = last_one u (Word word.False at)
to_last (null_line at) u = last_one u (Word word.Null at)
to_last (list_line opening closing {w = w} vs) u = closing_one u (Mark sign.OpenBracket opening ∷ w) (Mark sign.CloseBracket closing)
to_last (name_line {x = x} name) u = last_one u x ∙ name_to name
to_last (group_line opening closing {w = w} p) u = closing_one u (Mark sign.OpenParen opening ∷ w) (Mark sign.CloseParen closing)
to_last (empty_line function opening closing) u = closing_one u (Plain function ∷ Mark sign.OpenParen opening ∷ []) (Mark sign.CloseParen closing)
to_last (star_line function opening star closing) u = closing_one u (Plain function ∷ Mark sign.OpenParen opening ∷ Mark sign.Star star ∷ []) (Mark sign.CloseParen closing)
to_last (call_line function opening closing {w = w} es) u = closing_one u (Plain function ∷ Mark sign.OpenParen opening ∷ w) (Mark sign.CloseParen closing)
to_last (cast_line cast {w = w} {x = x} p kind) u =
    let e : u ++ (w ++ Mark sign.Cast cast ∷ x ∷ []) ≡ (u ++ (w ++ Mark sign.Cast cast ∷ [])) ++ x ∷ [] = sym (simp append_assoc) in
    ap last_to e ∙ last_one (u ++ (w ++ Mark sign.Cast cast ∷ [])) x ∙ kind_to kind
to_last (minus_line minus {w = w} p) u = ap last_to (sym (append_assoc u (Mark sign.Minus minus ∷ []) w)) ∙ to_last p (u ++ Mark sign.Minus minus ∷ [])
to_last (not_line not {w = w} p) u = ap last_to (sym (append_assoc u (Word word.Not not ∷ []) w)) ∙ to_last p (u ++ Word word.Not not ∷ [])
to_last (binary_line op at {w = w} {v = v} p q) u =
    let e : u ++ (w ++ operator op at ∷ v) ≡ (u ++ (w ++ operator op at ∷ [])) ++ v = sym (simp append_assoc) in
    ap last_to e ∙ to_last q (u ++ (w ++ operator op at ∷ []))
to_last (in_line opening closing {m = m} {w = w} {v = v} i p es) u =
    let e : u ++ (w ++ (m ++ Mark sign.OpenParen opening ∷ (v ++ Mark sign.CloseParen closing ∷ []))) ≡ (u ++ (w ++ (m ++ Mark sign.OpenParen opening ∷ v))) ++ Mark sign.CloseParen closing ∷ [] = sym (simp append_assoc) in
    ap last_to e ∙ last_one (u ++ (w ++ (m ++ Mark sign.OpenParen opening ∷ v))) (Mark sign.CloseParen closing)
to_last (like_line {m = m} {w = w} pattern i p) u =
    let e : u ++ (w ++ (m ++ Text pattern ∷ [])) ≡ (u ++ (w ++ m)) ++ Text pattern ∷ [] = sym (simp append_assoc) in
    ap last_to e ∙ last_one (u ++ (w ++ m)) (Text pattern)
to_last (is_line {m = m} {w = w} i p) u = ap last_to (sym (append_assoc u w m)) ∙ is_last i (u ++ w)

-- the span of a phrase
pub spans : {n : ℕ} {w : List Lexeme} {p : Part} → Phrase n w p → (first_from w ≡ (span_of p).from) × (last_to w ≡ (span_of p).to)
spans {w = w} p = (ap first_from (sym (append-nil w)) ∙ from_first p [], to_last p [])
