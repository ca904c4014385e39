-- The line and the depth of a phrase.
use Rattle.std.proofs.Common.{◌≡◌, ℕ, zero, suc, ◌+◌, ◌-◌, ◌≤◌, max, List, subst, arith}
use Rattle.esql_phrases.specs.declared.lexeme.Lexeme.{Lexeme}
use Rattle.esql_phrases.specs.declared.part.Part.{Part}
use Rattle.esql_phrases.specs.Phrases.{Phrase, looser, number_line, text_line, true_line, false_line, null_line, list_line, name_line, group_line, empty_line, star_line, call_line, cast_line, minus_line, not_line, binary_line, in_line, like_line, is_line}

-- no expression has the depth 0
pub depth_one : {n : ℕ} {w : List Lexeme} {p : Part} → Phrase n w p → 1 ≤ p.depth
depth_one (looser q) = depth_one q
depth_one (number_line number span) = omega arith
depth_one (text_line text) = omega arith
depth_one (true_line span) = omega arith
depth_one (false_line span) = omega arith
depth_one (null_line span) = omega arith
depth_one (list_line opening closing vs) = omega arith
depth_one (name_line name) = omega arith
depth_one (group_line opening closing q) = omega arith
depth_one (empty_line function opening closing) = omega arith
depth_one (star_line function opening star closing) = omega arith
depth_one (call_line function opening closing es) = omega arith
depth_one (cast_line cast q kind) = omega arith
depth_one (minus_line minus q) = omega arith
depth_one (not_line not q) = omega arith
depth_one (binary_line op span l q) = omega arith
depth_one (in_line opening closing words q es) = omega arith
depth_one (like_line pattern words q) = omega arith
depth_one (is_line words q) = omega arith

-- a phrase is at least in its line
pub line_of_phrase : {n : ℕ} {w : List Lexeme} {p : Part} → Phrase n w p → n ≤ p.line
line_of_phrase (looser p) = let h = line_of_phrase p in omega arith
line_of_phrase (number_line number at) = omega arith
line_of_phrase (text_line text) = omega arith
line_of_phrase (true_line at) = omega arith
line_of_phrase (false_line at) = omega arith
line_of_phrase (null_line at) = omega arith
line_of_phrase (list_line opening closing vs) = omega arith
line_of_phrase (name_line name) = omega arith
line_of_phrase (group_line opening closing p) = omega arith
line_of_phrase (empty_line function opening closing) = omega arith
line_of_phrase (star_line function opening star closing) = omega arith
line_of_phrase (call_line function opening closing es) = omega arith
line_of_phrase (cast_line cast p kind) = omega arith
line_of_phrase (minus_line minus p) = omega arith
line_of_phrase (not_line not p) = omega arith
line_of_phrase (binary_line op at p q) = omega arith
line_of_phrase (in_line opening closing m p es) = omega arith
line_of_phrase (like_line pattern m p) = omega arith
line_of_phrase (is_line m p) = omega arith

lift_by : (d m n : ℕ) {w : List Lexeme} {p : Part} → d + m ≡ n → Phrase n w p → Phrase m w p
lift_by zero m n {w} {p} e phrase = let e' : n ≡ m = omega arith in subst (λ i. Phrase i w p) e' phrase
lift_by (suc d) m n {w} {p} e phrase = looser (lift_by d (suc m) n (omega arith) phrase)

-- a phrase of one line is one of each line before it
pub lift : {m n : ℕ} {w : List Lexeme} {p : Part} → m ≤ n → Phrase n w p → Phrase m w p
lift {m} {n} h phrase = lift_by (n - m) m n (omega arith) phrase
