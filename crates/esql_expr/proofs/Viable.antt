-- What can still come: an expression of the depth that is needed.
use Rattle.std.proofs.Common.{◌≡◌, ℕ, ◌+◌, ◌≤◌, max, List, [], ◌∷◌, ◌++◌, refl, sym, ap, subst, append_assoc, append-nil, arith}
use Rattle.std.specs.Prelude.{pos}
use Rattle.esql_types.specs.declared.places.Span.{Span}
use Rattle.esql_lex.specs.declared.token.Reserved.TheVariants as word
use Rattle.esql_lex.specs.declared.token.Sign.TheVariants as sign
use Rattle.esql_ast.specs.declared.query.NameAt.{NameAt}
use Rattle.esql_ast.specs.declared.query.TextAt.{TextAt}
use Rattle.esql_phrases.specs.declared.lexeme.Lexeme.{Lexeme}
use Rattle.esql_phrases.specs.declared.lexeme.Lexeme.TheVariants.{Plain, Text, Number, Word, Sign as Mark}
use Rattle.esql_phrases.specs.declared.part.Part.{Part}
use Rattle.esql_expr.specs.declared.machine.Frame.{Frame}
use Rattle.esql_expr.specs.declared.machine.Frame.TheVariants.{Binary, Group, Minus, Not, Call, Within}
use Rattle.esql_expr.specs.declared.machine.Top.{Top}
use Rattle.esql_expr.specs.declared.machine.Top.TheVariants.{Want, Have, Named, Called, Starred, Denied, Among, Matching, Testing, TestingNot, Casting, Listing, Negating, Listed}
use Rattle.esql_phrases.specs.Parts.{number_value, constant_part}
use Rattle.esql_phrases.specs.Phrases.{plain_name, plain_kind, Literal, number_literal, negative_literal, like_word, not_likes, is_words, is_not_words, Phrase, looser, number_line, text_line, true_line, false_line, null_line, list_line, name_line, group_line, empty_line, star_line, call_line, cast_line, minus_line, not_line, binary_line, in_line, like_line, is_line, one_item}
use Rattle.esql_expr.specs.Machine.{hole}
use Rattle.esql_phrases.proofs.Lines.{depth_one, lift}
use Rattle.esql_expr.proofs.Reached.{Before, nothing_open, binary_open, group_open, minus_open, not_open, call_open, within_open, Read, wants, has, names, calls, stars, denies, amongs, matches, tests, tests_not, casts, lists, negates, listed}
use Rattle.esql_expr.specs.Machine.{up, depth_at}
use Rattle.esql_expr.proofs.Sound.{anywhere, with_item, with_literal}

-- some lexemes after these make a phrase of a depth
pub record Completed (least : ℕ) (w : List Lexeme) (m : ℕ) : Type 0 where
  pub rest : List Lexeme
  pub part : Part
  pub phrase : Phrase least (w ++ rest) part
  pub deep : part.depth ≡ m

nowhere : Span
nowhere = record { from = 0; to = 0 }

nameless : NameAt
nameless = record { name = []; span = nowhere }

no_text : TextAt
no_text = record { text = []; span = nowhere }

zero_literal : Literal (Number (pos 0) nowhere ∷ []) (number_value (pos 0))
zero_literal = number_literal (pos 0) nowhere

zero_line : Phrase 8 (Number (pos 0) nowhere ∷ []) (constant_part (number_value (pos 0)) nowhere)
zero_line = number_line (pos 0) nowhere

completed_with : {least : ℕ} {w : List Lexeme} {m : ℕ} (v : List Lexeme) → Completed least (w ++ v) m → Completed least w m
completed_with {least} {w} v c = record { rest = v ++ c.rest; part = c.part; phrase = subst (λ (y : List Lexeme). Phrase least y c.part) (append_assoc w v c.rest) c.phrase; deep = c.deep }

completed_at : {least : ℕ} {w v : List Lexeme} {m : ℕ} → w ≡ v → Completed least w m → Completed least v m
completed_at {least} {m = m} e c = subst (λ (y : List Lexeme). Completed least y m) e c

completed_deep : {least : ℕ} {w : List Lexeme} {m n : ℕ} → m ≡ n → Completed least w m → Completed least w n
completed_deep {least} {w} e c = subst (λ (m : ℕ). Completed least w m) e c

-- an expression that is as tight as is wanted can be completed
pub completes : (least : ℕ) (frames : List Frame) {u w : List Lexeme} {p : Part} → least ≤ 8 → Before least frames u → Phrase (hole least frames) w p → Completed least (u ++ w) (up frames p.depth)
completes least [] {w = w} {p = p} k nothing_open q = record { rest = []; part = p; phrase = subst (λ (y : List Lexeme). Phrase least y p) (sym (append-nil w)) q; deep = refl }
completes least (Binary op left ∷ above) {w = w} k (binary_open _ span {u = u} {w = v} b l le) q =
    completed_at (sym (simp append_assoc)) (completes least above k b (lift le (binary_line op span l q)))
completes least (Group opening ∷ above) {w = w} k (group_open _ {u = u} b) q =
    completed_with (Mark sign.CloseParen nowhere ∷ []) (completed_at (sym (simp append_assoc)) (completes least above k b (anywhere above k (group_line opening nowhere q))))
completes least (Minus minus ∷ above) {w = w} k (minus_open _ {u = u} b le) q =
    completed_at (sym (append_assoc u (Mark sign.Minus minus ∷ []) w)) (completes least above k b (lift le (minus_line minus q)))
completes least (Not not ∷ above) {w = w} k (not_open _ {u = u} b le) q =
    completed_at (sym (append_assoc u (Word word.Not not ∷ []) w)) (completes least above k b (lift le (not_line not q)))
completes least (Call function es d ∷ above) {w = w} k (call_open _ opening {u = u} {m = m} b i) q =
    completed_with (Mark sign.CloseParen nowhere ∷ []) (completed_at (sym (simp append_assoc)) (completes least above k b (anywhere above k (call_line function opening nowhere (with_item i q)))))
completes least (Within n left es d ∷ above) {w = w} k (within_open opening {u = u} {w = v} {i = j} {m = m} b l le words i) q =
    completed_with (Mark sign.CloseParen nowhere ∷ []) (completed_at (sym (simp append_assoc)) (completes least above k b (lift le (in_line opening nowhere words l (with_item i q)))))

one_more : (n : ℕ) → 1 ≤ n → 1 + max n 1 ≡ 1 + n
one_more n h = omega arith

-- a state that is read can be completed to the depth that it needs
pub viable : (least : ℕ) (frames : List Frame) (top : Top) {w : List Lexeme} → least ≤ 8 → Read least frames top w → Completed least w (up frames (depth_at top))
viable least frames Want k (wants b) = completed_with (Number (pos 0) nowhere ∷ []) (completes least frames k b (anywhere frames k zero_line))
viable least frames (Have p) k (has b q h) = completes least frames k b (lift h q)
viable least frames (Named name) k (names _ b) = completes least frames k b (anywhere frames k (name_line (plain_name name)))
viable least frames (Called function) k (calls _ opening {u = u} b) =
    completed_with (Mark sign.CloseParen nowhere ∷ []) (completed_at (sym (append_assoc u _ _)) (completes least frames k b (anywhere frames k (empty_line function opening nowhere))))
viable least frames (Starred function) k (stars _ opening star {u = u} b) =
    completed_with (Mark sign.CloseParen nowhere ∷ []) (completed_at (sym (append_assoc u _ _)) (completes least frames k b (anywhere frames k (star_line function opening star nowhere))))
viable least frames (Denied p) k (denies not {u = u} {w = w} b q le) =
    completed_with (Word word.Like nowhere ∷ Text no_text ∷ []) (completed_at (sym (simp append_assoc)) (completes least frames k b (lift le (like_line no_text (not_likes not (like_word nowhere)) q))))
viable least frames (Among n p) k (amongs {u = u} {w = w} {i = i} b q le words) =
    completed_with (Mark sign.OpenParen nowhere ∷ Number (pos 0) nowhere ∷ Mark sign.CloseParen nowhere ∷ [])
    (completed_at (sym (simp append_assoc)) (completed_deep (ap (up frames) (one_more p.depth (depth_one q))) (completes least frames k b (lift le (in_line nowhere nowhere words q (one_item (lift {m = 0} {n = 8} (omega arith) zero_line)))))))
viable least frames (Matching n regex p) k (matches {u = u} {w = w} {i = i} b q le words) =
    completed_with (Text no_text ∷ []) (completed_at (sym (simp append_assoc)) (completes least frames k b (lift le (like_line no_text words q))))
viable least frames (Testing p) k (tests is {u = u} {w = w} b q le) =
    completed_with (Word word.Null nowhere ∷ []) (completed_at (sym (simp append_assoc)) (completes least frames k b (lift le (is_line (is_words is nowhere) q))))
viable least frames (TestingNot p) k (tests_not is not {u = u} {w = w} b q le) =
    completed_with (Word word.Null nowhere ∷ []) (completed_at (sym (simp append_assoc)) (completes least frames k b (lift le (is_line (is_not_words is not nowhere) q))))
viable least frames (Casting p) k (casts cast {u = u} {w = w} b q le) =
    completed_with (Plain nameless ∷ []) (completed_at (sym (simp append_assoc)) (completes least frames k b (lift le (cast_line cast q (plain_kind nameless)))))
viable least frames (Listing opening vs) k (lists _ {u = u} {m = m} b i) =
    completed_with (Number (pos 0) nowhere ∷ Mark sign.CloseBracket nowhere ∷ []) (completed_at (sym (simp append_assoc)) (completes least frames k b (anywhere frames k (list_line opening nowhere (with_literal i zero_literal)))))
viable least frames (Negating opening vs) k (negates _ minus {u = u} {m = m} b i) =
    completed_with (Number (pos 0) nowhere ∷ Mark sign.CloseBracket nowhere ∷ [])
    (completed_at (sym (simp append_assoc)) (completes least frames k b (anywhere frames k (list_line opening nowhere (with_literal i (negative_literal minus (pos 0) nowhere))))))
viable least frames (Listed opening vs) k (listed _ {u = u} {m = m} b i) =
    completed_with (Mark sign.CloseBracket nowhere ∷ []) (completed_at (sym (simp append_assoc)) (completes least frames k b (anywhere frames k (list_line opening nowhere i))))
