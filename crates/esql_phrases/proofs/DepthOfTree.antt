-- The depth that the grammar keeps is that of the tree.
use Rattle.std.proofs.Common.{◌≡◌, ℕ, ◌+◌, max, List, [], map, refl, sym, ap, ◌∙◌, arith}
use Rattle.esql_types.specs.declared.places.Span.{Span}
use Rattle.esql_ast.specs.declared.expr.Expr.{Expr}
use Rattle.esql_ast.specs.declared.expr.Form.{Form}
use Rattle.esql_ast.specs.Depths.{greatest, depth_of_expr, deepest_part}
use Rattle.esql_ast.proofs.DepthParts.{greatest_push, expr_depth, constant_depth, list_depth, column_depth, group_depth, call_depth, minus_depth, not_depth, binary_depth, within_depth, like_depth, is_null_depth, cast_depth}
use Rattle.esql_phrases.specs.declared.lexeme.Lexeme.{Lexeme}
use Rattle.esql_phrases.specs.declared.part.Part.{Part}
use Rattle.esql_phrases.specs.Parts.{expr_of}
use Rattle.esql_phrases.specs.Phrases.{Phrase, looser, number_line, text_line, true_line, false_line, null_line, list_line, name_line, group_line, empty_line, star_line, call_line, cast_line, minus_line, not_line, binary_line, in_line, like_line, is_line, Items, one_item, next_item}

-- an expression of a form whose deepest part has a depth is one deeper
one_more : (span : Span) (form : Form) (depth beneath : ℕ) → deepest_part form ≡ beneath → depth ≡ 1 + beneath → depth ≡ depth_of_expr (expr_of span form)
one_more span form depth beneath part is = is ∙ sym (expr_depth (expr_of span form) ∙ ap (λ (n : ℕ). 1 + n) part)

mutual
  pub phrase_depth : {n : ℕ} {w : List Lexeme} {p : Part} → Phrase n w p → p.depth ≡ depth_of_expr p.expr
  phrase_depth (looser q) = phrase_depth q
  phrase_depth (number_line number at) = one_more _ _ 1 0 (constant_depth _ _) refl
  phrase_depth (text_line text) = one_more _ _ 1 0 (constant_depth _ _) refl
  phrase_depth (true_line at) = one_more _ _ 1 0 (constant_depth _ _) refl
  phrase_depth (false_line at) = one_more _ _ 1 0 (constant_depth _ _) refl
  phrase_depth (null_line at) = one_more _ _ 1 0 (constant_depth _ _) refl
  phrase_depth (list_line opening closing {vs = vs} literals) = one_more _ _ 1 0 (list_depth vs) refl
  phrase_depth (name_line {name = name} named) = one_more _ _ 1 0 (column_depth name.name) refl
  phrase_depth (group_line opening closing {p = p} q) = one_more _ _ (1 + p.depth) _ (group_depth p.expr) (ap (λ (n : ℕ). 1 + n) (phrase_depth q))
  phrase_depth (empty_line function opening closing) = one_more _ _ (1 + 0) 0 (call_depth function [] _) refl
  phrase_depth (star_line function opening star closing) = one_more _ _ 1 0 (call_depth function [] _) refl
  phrase_depth (call_line function opening closing {es = es} {d = d} i) = one_more _ _ (1 + d) _ (call_depth function es _) (ap (λ (n : ℕ). 1 + n) (items_depth i))
  phrase_depth (cast_line cast {p = p} {kind = kind} q named) = one_more _ _ (1 + p.depth) _ (cast_depth p.expr kind) (ap (λ (n : ℕ). 1 + n) (phrase_depth q))
  phrase_depth (minus_line minus {p = p} q) = one_more _ _ (1 + p.depth) _ (minus_depth p.expr) (ap (λ (n : ℕ). 1 + n) (phrase_depth q))
  phrase_depth (not_line not {p = p} q) = one_more _ _ (1 + p.depth) _ (not_depth p.expr) (ap (λ (n : ℕ). 1 + n) (phrase_depth q))
  phrase_depth (binary_line op at {p = p} {q = r} left right) =
      let s = phrase_depth left in let t = phrase_depth right in
      one_more _ _ (1 + max p.depth r.depth) (max (depth_of_expr p.expr) (depth_of_expr r.expr)) (binary_depth op p.expr r.expr) (ap (λ (n : ℕ). 1 + max n r.depth) s ∙ ap (λ (n : ℕ). 1 + max (depth_of_expr p.expr) n) t)
  phrase_depth (in_line opening closing {n = n} {p = p} {es = es} {d = d} words left items) =
      let s = phrase_depth left in let t = items_depth items in
      one_more _ _ (1 + max p.depth d) (max (depth_of_expr p.expr) (greatest (map depth_of_expr es))) (within_depth n p.expr es) (ap (λ (m : ℕ). 1 + max m d) s ∙ ap (λ (m : ℕ). 1 + max (depth_of_expr p.expr) m) t)
  phrase_depth (like_line {n = n} {regex = regex} {p = p} pattern words left) = one_more _ _ (1 + p.depth) _ (like_depth n regex p.expr pattern) (ap (λ (n : ℕ). 1 + n) (phrase_depth left))
  phrase_depth (is_line {n = n} {p = p} words arg) = one_more _ _ (1 + p.depth) _ (is_null_depth n p.expr) (ap (λ (n : ℕ). 1 + n) (phrase_depth arg))

  pub items_depth : {w : List Lexeme} {es : List Expr} {d : ℕ} → Items w es d → d ≡ greatest (map depth_of_expr es)
  items_depth (one_item q) = let s = phrase_depth q in omega arith
  items_depth (next_item comma {es = es} {p = p} i q) = let s = items_depth i in let t = phrase_depth q in let last = greatest_push depth_of_expr es p.expr in omega arith
