-- An expression has at most as many nodes as lexemes: each node has a lexeme of its own.
use Rattle.std.proofs.Common.{◌≡◌, ℕ, ◌+◌, ◌≤◌, Bool, List, [], ◌∷◌, ◌++◌, length, map, ap, ◌∙◌, length-append, arith}
use Rattle.std.proofs.lemmas.List.{map-append}
use Rattle.esql_types.specs.declared.places.Span.{Span}
use Rattle.esql_lex.specs.declared.token.Sign.TheVariants as sign
use Rattle.esql_ast.specs.declared.expr.Expr.{Expr}
use Rattle.esql_ast.specs.declared.expr.Form.{Form}
use Rattle.esql_ast.specs.declared.expr.Form.TheOpen.{Form-F}
use Rattle.esql_ast.specs.declared.expr.Form.TheFolds.{map-Form}
use Rattle.esql_ast.specs.declared.expr.Form.TheViews.{out-Form, outs-Constant, outs-List, outs-Column, outs-Group, outs-Call, outs-Minus, outs-Not, outs-Binary, outs-Within, outs-Like, outs-IsNull, outs-Cast}
use Rattle.esql_ast.specs.Numbering.{Numbering, size_all, numbering_in, numbering_of, numbering_of_form, size_of, size_of_form}
use Rattle.esql_ast.proofs.Numberings.{expr_size, form_numbering}
use Rattle.esql_phrases.specs.declared.lexeme.Lexeme.{Lexeme}
use Rattle.esql_phrases.specs.declared.lexeme.Lexeme.TheVariants.{Text, Sign as Mark}
use Rattle.esql_phrases.specs.declared.part.Part.{Part}
use Rattle.esql_phrases.specs.Parts.{expr_of}
use Rattle.esql_phrases.specs.Phrases.{operator, IsWords, is_words, is_not_words, Phrase, looser, number_line, text_line, true_line, false_line, null_line, list_line, name_line, group_line, empty_line, star_line, call_line, cast_line, minus_line, not_line, binary_line, in_line, like_line, is_line, Items, one_item, next_item}

form_size : (form : Form) (layer : Form-F Form Expr) → out-Form form ≡ layer
    → size_of_form form ≡ (numbering_in (map-Form Form Expr (Numbering Form) (Numbering Expr) numbering_of_form numbering_of layer)).size
form_size form layer is = ap (λ (numbering : Numbering Form). numbering.size) (form_numbering form layer is)

-- an expression is its own node and those of its form
grows : (span : Span) (form : Form) (k n : ℕ) → size_of_form form ≡ k → 1 + k ≤ n → size_of (expr_of span form) ≤ n
grows span form k n e h = let s = expr_size (expr_of span form) in let t : size_of (expr_of span form) ≡ 1 + k = s ∙ ap (λ n. 1 + n) e in omega arith

size_all-append : {X : Type 0} (xs ys : List (Numbering X)) → size_all (xs ++ ys) ≡ size_all xs + size_all ys
size_all-append [] ys = omega arith
size_all-append (x ∷ xs) ys = let e = size_all-append xs ys in omega arith

-- a list has one more
pub sizes_one_more : {X : Type 0} (number : X → Numbering X) (xs : List X) (x : X) → size_all (map number (xs ++ x ∷ [])) ≡ size_all (map number xs) + (number x).size
sizes_one_more number xs x =
    let e = ap size_all (map-append number xs (x ∷ [])) in let f = size_all-append (map number xs) (number x ∷ []) in omega arith

is_long : {n : Bool} {m : List Lexeme} {null : Span} → IsWords n m null → 1 ≤ length m
is_long (is_words is null) = omega arith
is_long (is_not_words is not null) = omega arith

mutual
  pub phrase_size : {n : ℕ} {w : List Lexeme} {p : Part} → Phrase n w p → size_of p.expr ≤ length w
  phrase_size (looser p) = phrase_size p
  phrase_size (number_line number at) = grows _ _ 0 _ (form_size _ _ (outs-Constant _ _)) (omega arith)
  phrase_size (text_line text) = grows _ _ 0 _ (form_size _ _ (outs-Constant _ _)) (omega arith)
  phrase_size (true_line at) = grows _ _ 0 _ (form_size _ _ (outs-Constant _ _)) (omega arith)
  phrase_size (false_line at) = grows _ _ 0 _ (form_size _ _ (outs-Constant _ _)) (omega arith)
  phrase_size (null_line at) = grows _ _ 0 _ (form_size _ _ (outs-Constant _ _)) (omega arith)
  phrase_size (list_line opening closing vs) = grows _ _ 0 _ (form_size _ _ (outs-List _)) (omega arith)
  phrase_size (name_line x) = grows _ _ 0 _ (form_size _ _ (outs-Column _)) (omega arith)
  phrase_size (group_line opening closing {w = w} {p = p} q) =
      let inner = phrase_size q in let n = length-append w (Mark sign.CloseParen closing ∷ []) in grows _ _ (size_of p.expr) _ (form_size _ _ (outs-Group _)) (omega arith)
  phrase_size (empty_line function opening closing) = grows _ _ 0 _ (form_size _ _ (outs-Call _ _ _)) (omega arith)
  phrase_size (star_line function opening star closing) = grows _ _ 0 _ (form_size _ _ (outs-Call _ _ _)) (omega arith)
  phrase_size (call_line function opening closing {w = w} {es = es} i) =
      let inner = items_size i in let n = length-append w (Mark sign.CloseParen closing ∷ []) in grows _ _ (size_all (map numbering_of es)) _ (form_size _ _ (outs-Call _ _ _)) (omega arith)
  phrase_size (cast_line cast {w = w} {p = p} {x = x} q kind) =
      let inner = phrase_size q in let n = length-append w (Mark sign.Cast cast ∷ x ∷ []) in grows _ _ (size_of p.expr) _ (form_size _ _ (outs-Cast _ _)) (omega arith)
  phrase_size (minus_line minus {p = p} q) = let inner = phrase_size q in grows _ _ (size_of p.expr) _ (form_size _ _ (outs-Minus _)) (omega arith)
  phrase_size (not_line not {p = p} q) = let inner = phrase_size q in grows _ _ (size_of p.expr) _ (form_size _ _ (outs-Not _)) (omega arith)
  phrase_size (binary_line op at {w = w} {v = v} {p = p} {q = r} left right) =
      let a = phrase_size left in let b = phrase_size right in let n = length-append w (operator op at ∷ v) in
      grows _ _ (size_of p.expr + size_of r.expr) _ (form_size _ _ (outs-Binary _ _ _)) (omega arith)
  phrase_size (in_line opening closing {m = m} {w = w} {v = v} {p = p} {es = es} words left items) =
      let s = phrase_size left in let t = items_size items in
      let a = length-append w (m ++ Mark sign.OpenParen opening ∷ (v ++ Mark sign.CloseParen closing ∷ [])) in
      let b = length-append m (Mark sign.OpenParen opening ∷ (v ++ Mark sign.CloseParen closing ∷ [])) in
      let c = length-append v (Mark sign.CloseParen closing ∷ []) in
      grows _ _ (size_of p.expr + size_all (map numbering_of es)) _ (form_size _ _ (outs-Within _ _ _)) (omega arith)
  phrase_size (like_line {m = m} {w = w} {p = p} pattern words left) =
      let s = phrase_size left in let a = length-append w (m ++ Text pattern ∷ []) in let b = length-append m (Text pattern ∷ []) in
      grows _ _ (size_of p.expr) _ (form_size _ _ (outs-Like _ _ _ _)) (omega arith)
  phrase_size (is_line {m = m} {w = w} {p = p} words arg) =
      let s = phrase_size arg in let a = length-append w m in let b = is_long words in grows _ _ (size_of p.expr) _ (form_size _ _ (outs-IsNull _ _)) (omega arith)

  items_size : {w : List Lexeme} {es : List Expr} {d : ℕ} → Items w es d → size_all (map numbering_of es) ≤ length w
  items_size (one_item q) = let s = phrase_size q in omega arith
  items_size (next_item comma {w = w} {v = v} {es = es} {p = p} i q) =
      let s = items_size i in let t = phrase_size q in let n = length-append w (Mark sign.Comma comma ∷ v) in
      let e = sizes_one_more numbering_of es p.expr in omega arith
