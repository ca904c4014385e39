-- The spans of an expression are parts of the text in which its lexemes stand.
use Rattle.std.proofs.Common.{◌≡◌, ℕ, true, false, List, [], ◌∷◌, ◌++◌, All, sym, ap, ◌∙◌, append_assoc}
use Rattle.std.proofs.lemmas.List.Elements.{All-nil, All-cons, All-append}
use Rattle.esql_types.specs.Spans.{SpanFits}
use Rattle.esql_lex.specs.declared.token.Reserved.TheVariants as word
use Rattle.esql_lex.specs.declared.token.Sign.TheVariants as sign
use Rattle.esql_ast.specs.declared.expr.Expr.{Expr, out-Expr}
use Rattle.esql_ast.specs.declared.query.NameAt.{NameAt}
use Rattle.esql_ast.specs.Fits.{ExprFits, FormFits, NameFits}
use Rattle.esql_ast.proofs.PartsFit.{expr_fits, fits_constant, fits_list, fits_column, fits_group, fits_call, fits_minus, fits_not, fits_binary, fits_within, fits_like, fits_is_null, fits_cast}
use Rattle.esql_phrases.specs.declared.lexeme.Lexeme.{Lexeme}
use Rattle.esql_phrases.specs.declared.lexeme.Lexeme.TheVariants.{Plain, Text, Word, Sign as Mark}
use Rattle.esql_phrases.specs.declared.part.Part.{Part}
use Rattle.esql_phrases.specs.Ends.{span_at, last_to}
use Rattle.esql_phrases.specs.Parts.{join, span_of}
use Rattle.esql_phrases.specs.Phrases.{IsName, plain_name, dotted_name, quoted_name, IsKindName, plain_kind, dotted_kind, operator, Phrase, looser, number_line, text_line, true_line, false_line, null_line, list_line, name_line, group_line, empty_line, star_line, call_line, cast_line, minus_line, not_line, binary_line, in_line, like_line, is_line, Items, one_item, next_item}
use Rattle.esql_phrases.specs.Stands.{Stands}
use Rattle.esql_phrases.proofs.Begins.{begins}
use Rattle.esql_phrases.proofs.Spans.{from_first, to_last, spans}
use Rattle.esql_phrases.proofs.Stands.{front, back, first_fits, whole_fits, same_ends_fit}

-- a name stands where its lexeme does
pub name_fits : {text : List ℕ} {x : Lexeme} {name : NameAt} → IsName x name → SpanFits text (span_at x) → NameFits text name
name_fits (plain_name name) fits = fits
name_fits (dotted_name name) fits = fits
name_fits (quoted_name name) fits = fits

kind_fits : {text : List ℕ} {x : Lexeme} {kind : NameAt} → IsKindName x kind → SpanFits text (span_at x) → NameFits text kind
kind_fits (plain_kind kind) fits = fits
kind_fits (dotted_kind kind) fits = fits

-- the span of an expression is a part of the text
pub phrase_span_fits : {text : List ℕ} {n : ℕ} {w : List Lexeme} {p : Part} → Phrase n w p → Stands text w → SpanFits text (span_of p)
phrase_span_fits {w = w} {p = p} q s =
    let first = begins q in
    let ends = spans q in
    same_ends_fit (span_of p) ends.0 ends.1 (whole_fits w first.first first.rest first.whole s)

-- so is what stands from the start of one to the end of another after it
pub joined_fits : {text : List ℕ} {n m : ℕ} {w v : List Lexeme} {p q : Part} (between : List Lexeme)
    → Phrase n w p → Phrase m v q → Stands text (w ++ (between ++ v)) → SpanFits text (join (span_of p) (span_of q))
joined_fits {w = w} {v = v} {p = p} {q = q} between one other s =
    let first = begins one in
    let rest = between ++ v in
    let last : last_to (w ++ rest) ≡ (span_of q).to = ap last_to (sym (append_assoc w between v)) ∙ to_last other (w ++ between) in
    same_ends_fit (join (span_of p) (span_of q)) (from_first one rest) last
    (whole_fits (w ++ rest) first.first (first.rest ++ rest) (ap (λ (u : List Lexeme). u ++ rest) first.whole) s)

with_own : {text : List ℕ} {n : ℕ} {w : List Lexeme} {p : Part} → Phrase n w p → Stands text w → FormFits text (out-Expr p.expr).form → ExprFits text p.expr
with_own {text} {p = p} q s inner = expr_fits text p.expr (phrase_span_fits q s) inner

single : {X : Type 0} (P : X → Type 0) (x : X) → P x → All P (x ∷ [])
single P x p = All-cons P x [] p (All-nil P)

mutual
  inner_fits : {text : List ℕ} {n : ℕ} {w : List Lexeme} {p : Part} → Phrase n w p → Stands text w → FormFits text (out-Expr p.expr).form
  inner_fits (looser q) s = inner_fits q s
  inner_fits {text} (number_line number at) s = fits_constant text _ _
  inner_fits {text} (text_line content) s = fits_constant text _ _
  inner_fits {text} (true_line at) s = fits_constant text _ _
  inner_fits {text} (false_line at) s = fits_constant text _ _
  inner_fits {text} (null_line at) s = fits_constant text _ _
  inner_fits {text} (list_line opening closing {vs = vs} literals) s = fits_list text vs
  inner_fits {text} (name_line {name = name} named) s = fits_column text name.name
  inner_fits {text} (group_line opening closing {w = w} {p = p} q) s =
      let within = front w (Mark sign.CloseParen closing ∷ []) (back (Mark sign.OpenParen opening ∷ []) (w ++ Mark sign.CloseParen closing ∷ []) s) in
      fits_group text p.expr (with_own q within (inner_fits q within))
  inner_fits {text} (empty_line function opening closing) s = fits_call text function [] false (first_fits (Plain function) _ s) (All-nil (ExprFits text))
  inner_fits {text} (star_line function opening star closing) s = fits_call text function [] true (first_fits (Plain function) _ s) (All-nil (ExprFits text))
  inner_fits {text} (call_line function opening closing {w = w} {es = es} i) s =
      let within = front w (Mark sign.CloseParen closing ∷ []) (back (Plain function ∷ Mark sign.OpenParen opening ∷ []) (w ++ Mark sign.CloseParen closing ∷ []) s) in
      fits_call text function es false (first_fits (Plain function) _ s) (items_fit i within)
  inner_fits {text} (cast_line cast {w = w} {p = p} {x = x} {kind = kind} q named) s =
      let within = front w (Mark sign.Cast cast ∷ x ∷ []) s in
      let name = first_fits x [] (back (Mark sign.Cast cast ∷ []) (x ∷ []) (back w (Mark sign.Cast cast ∷ x ∷ []) s)) in
      fits_cast text p.expr kind (with_own q within (inner_fits q within)) (kind_fits named name)
  inner_fits {text} (minus_line minus {w = w} {p = p} q) s =
      let within = back (Mark sign.Minus minus ∷ []) w s in
      fits_minus text p.expr (with_own q within (inner_fits q within))
  inner_fits {text} (not_line not {w = w} {p = p} q) s =
      let within = back (Word word.Not not ∷ []) w s in
      fits_not text p.expr (with_own q within (inner_fits q within))
  inner_fits {text} (binary_line op at {w = w} {v = v} {p = p} {q = r} q t) s =
      let left = front w (operator op at ∷ v) s in
      let right = back (operator op at ∷ []) v (back w (operator op at ∷ v) s) in
      fits_binary text op p.expr r.expr (with_own q left (inner_fits q left)) (with_own t right (inner_fits t right))
  inner_fits {text} (in_line opening closing {n = n} {m = m} {w = w} {v = v} {p = p} {es = es} words q i) s =
      let after = v ++ Mark sign.CloseParen closing ∷ [] in
      let left = front w (m ++ Mark sign.OpenParen opening ∷ after) s in
      let rest = back m (Mark sign.OpenParen opening ∷ after) (back w (m ++ Mark sign.OpenParen opening ∷ after) s) in
      let within = front v (Mark sign.CloseParen closing ∷ []) (back (Mark sign.OpenParen opening ∷ []) after rest) in
      fits_within text n p.expr es (with_own q left (inner_fits q left)) (items_fit i within)
  inner_fits {text} (like_line {n = n} {regex = regex} {m = m} {w = w} {p = p} pattern words q) s =
      let left = front w (m ++ Text pattern ∷ []) s in
      let content = first_fits (Text pattern) [] (back m (Text pattern ∷ []) (back w (m ++ Text pattern ∷ []) s)) in
      fits_like text n regex p.expr pattern (with_own q left (inner_fits q left)) content
  inner_fits {text} (is_line {n = n} {m = m} {w = w} {p = p} words q) s =
      let left = front w m s in
      fits_is_null text n p.expr (with_own q left (inner_fits q left))

  pub items_fit : {text : List ℕ} {w : List Lexeme} {es : List Expr} {d : ℕ} → Items w es d → Stands text w → All (ExprFits text) es
  items_fit {text} (one_item {p = p} q) s = single (ExprFits text) p.expr (with_own q s (inner_fits q s))
  items_fit {text} (next_item comma {w = w} {v = v} {es = es} {p = p} i q) s =
      let last = back (Mark sign.Comma comma ∷ []) v (back w (Mark sign.Comma comma ∷ v) s) in
      All-append (ExprFits text) es (p.expr ∷ []) (items_fit i (front w (Mark sign.Comma comma ∷ v) s))
      (single (ExprFits text) p.expr (with_own q last (inner_fits q last)))

-- the spans of an expression and of its parts are parts of the text in which its lexemes stand
pub phrase_fits : {text : List ℕ} {n : ℕ} {w : List Lexeme} {p : Part} → Phrase n w p → Stands text w → ExprFits text p.expr
phrase_fits q s = with_own q s (inner_fits q s)
