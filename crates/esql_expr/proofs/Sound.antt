-- What the machine takes is the front of an expression, and what it ends is one.
use Rattle.std.proofs.Common.{◌≡◌, ℕ, ◌≤◌, max, Bool, true, false, ◌&&◌, List, [], ◌∷◌, ◌++◌, Option, Some, None, refl, sym, ◌∙◌, ap, subst, append_assoc, append-nil, arith}
use Rattle.std.specs.Prelude.{nat_le, if◌then◌else◌}
use Rattle.std.proofs.lemmas.Bool.{leb-true}
use Rattle.esql_types.specs.declared.places.Span.{Span}
use Rattle.esql_types.specs.declared.value.Value.{Value}
use Rattle.esql_lex.specs.declared.token.Reserved.{Reserved}
use Rattle.esql_lex.specs.declared.token.Reserved.TheVariants as word
use Rattle.esql_lex.specs.declared.token.Sign.{Sign}
use Rattle.esql_lex.specs.declared.token.Sign.TheVariants as sign
use Rattle.esql_ast.specs.declared.expr.BinaryOp.{BinaryOp}
use Rattle.esql_ast.specs.declared.expr.BinaryOp.TheVariants.{Add, Sub, Mul, Div, Mod, Eq, Ne, Lt, Le, Gt, Ge, And, Or}
use Rattle.esql_ast.specs.declared.expr.Expr.{Expr}
use Rattle.esql_ast.specs.declared.query.NameAt.{NameAt}
use Rattle.esql_phrases.specs.declared.lexeme.Lexeme.{Lexeme}
use Rattle.esql_phrases.specs.declared.lexeme.Lexeme.TheVariants.{Plain, Dotted, Quoted, Text, Number, Word, Sign as Mark}
use Rattle.esql_phrases.specs.declared.part.Part.{Part}
use Rattle.esql_expr.specs.declared.machine.Frame.{Frame}
use Rattle.esql_expr.specs.declared.machine.Frame.TheVariants.{Binary, Group, Minus, Not, Call, Within}
use Rattle.esql_expr.specs.declared.machine.Top.{Top}
use Rattle.esql_expr.specs.declared.machine.Top.TheVariants.{Want, Have, Named, Called, Starred, Denied, Among, Matching, Testing, TestingNot, Casting, Listing, Negating, Listed}
use Rattle.esql_expr.specs.declared.machine.Reader.{Reader}
use Rattle.esql_expr.specs.declared.machine.Stepped.{Stepped}
use Rattle.esql_expr.specs.declared.machine.Stepped.TheVariants.{Goes, Ends, Stuck}
use Rattle.esql_expr.specs.declared.machine.Opener.{Opener}
use Rattle.esql_expr.specs.declared.machine.Opener.TheVariants.{Infix, Not as Denial, In, Like, Is, Cast}
use Rattle.esql_phrases.specs.Parts.{column_part, minus_part, not_part, binary_part}
use Rattle.esql_phrases.specs.Phrases.{plain_name, dotted_name, quoted_name, plain_kind, dotted_kind, operator, Literal, number_literal, negative_literal, text_literal, true_literal, false_literal, Literals, one_literal, next_literal, InWords, in_word, not_in_words, like_word, rlike_word, LikeWords, likes, not_likes, is_words, is_not_words, Phrase, number_line, text_line, true_line, false_line, null_line, list_line, name_line, group_line, empty_line, star_line, call_line, cast_line, minus_line, not_line, binary_line, in_line, like_line, is_line, Items, one_item, next_item}
use Rattle.esql_expr.specs.Machine.{reader, start, hole, word_opener, sign_opener, operand_line, own_line, takes, opened_by, opened, or_closed, close_group, close_call, close_within, feed, begin_word, begin_sign, begin, after_name, after_open, after_star, after_not, after_in, after_like, after_is, after_is_not, after_cast, in_list, after_minus, after_literal, step_at, step, going, and_then, walk}
use Rattle.esql_phrases.proofs.Lines.{lift}
use Rattle.esql_expr.proofs.Grows.{least_kept}
use Rattle.esql_expr.proofs.Reached.{SoFar, none_yet, so_far, LiteralsSoFar, no_literal, some_literals, Before, nothing_open, binary_open, group_open, minus_open, not_open, call_open, within_open, Read, wants, has, names, calls, stars, denies, amongs, matches, tests, tests_not, casts, lists, negates, listed, Leads, Means}

-- no line is beyond the last
pub hole_line : (least : ℕ) (frames : List Frame) → least ≤ 8 → hole least frames ≤ 8
hole_line least [] k = k
hole_line least (Binary Or left ∷ above) k = omega arith
hole_line least (Binary And left ∷ above) k = omega arith
hole_line least (Binary Eq left ∷ above) k = omega arith
hole_line least (Binary Ne left ∷ above) k = omega arith
hole_line least (Binary Lt left ∷ above) k = omega arith
hole_line least (Binary Le left ∷ above) k = omega arith
hole_line least (Binary Gt left ∷ above) k = omega arith
hole_line least (Binary Ge left ∷ above) k = omega arith
hole_line least (Binary Add left ∷ above) k = omega arith
hole_line least (Binary Sub left ∷ above) k = omega arith
hole_line least (Binary Mul left ∷ above) k = omega arith
hole_line least (Binary Div left ∷ above) k = omega arith
hole_line least (Binary Mod left ∷ above) k = omega arith
hole_line least (Group opening ∷ above) k = omega arith
hole_line least (Minus minus ∷ above) k = omega arith
hole_line least (Not not ∷ above) k = omega arith
hole_line least (Call function args depth ∷ above) k = omega arith
hole_line least (Within negated left items depth ∷ above) k = omega arith

-- what stands for itself stands anywhere
pub anywhere : {least : ℕ} {w : List Lexeme} {p : Part} (frames : List Frame) → least ≤ 8 → Phrase 8 w p → Phrase (hole least frames) w p
anywhere {least} frames k q = lift (hole_line least frames k) q

has_primary : {least : ℕ} {frames : List Frame} {u w : List Lexeme} {p : Part} → least ≤ 8 → Before least frames u → Phrase 8 w p → p.line ≡ 8 → Read least frames (Have p) (u ++ w)
has_primary {least} {frames} {w = w} {p = p} k b q e = has b (subst (λ (n : ℕ). Phrase n w p) (sym e) q) (subst (λ (n : ℕ). hole least frames ≤ n) (sym e) (hole_line least frames k))

at : {least : ℕ} {frames : List Frame} {top : Top} {w v : List Lexeme} → w ≡ v → Read least frames top w → Read least frames top v
at {least} {frames} {top} e r = subst (λ (y : List Lexeme). Read least frames top y) e r

means_at : (least : ℕ) (x : Lexeme) {w v : List Lexeme} (s : Stepped) → w ≡ v → Means least w x s → Means least v x s
means_at least x s e r = subst (λ (y : List Lexeme). Means least y x s) e r

means_if : (least : ℕ) (w : List Lexeme) (x : Lexeme) (b : Bool) (s : Stepped) → (b ≡ true → Means least w x s) → Means least w x (if b then s else Stuck)
means_if least w x true s f = f refl
means_if least w x false s f = tt

-- one more item, one more literal
pub with_item : {m w : List Lexeme} {es : List Expr} {d : ℕ} {p : Part} → SoFar m es d → Phrase 0 w p → Items (m ++ w) (es ++ p.expr ∷ []) (max d p.depth)
with_item {w = w} {p = p} none_yet q = let same : p.depth ≡ max 0 p.depth = omega arith in subst (λ (d : ℕ). Items w (p.expr ∷ []) d) same (one_item q)
with_item {w = w} {es = es} {d = d} {p = p} (so_far comma {w = v} i) q =
    subst (λ (y : List Lexeme). Items y (es ++ p.expr ∷ []) (max d p.depth)) (sym (append_assoc v (Mark sign.Comma comma ∷ []) w)) (next_item comma i q)

pub with_literal : {m w : List Lexeme} {vs : List Value} {v : Value} → LiteralsSoFar m vs → Literal w v → Literals (m ++ w) (vs ++ v ∷ [])
with_literal no_literal q = one_literal q
with_literal {w = w} {vs = vs} {v = v} (some_literals comma {w = u} i) q =
    subst (λ (y : List Lexeme). Literals y (vs ++ v ∷ [])) (sym (append_assoc u (Mark sign.Comma comma ∷ []) w)) (next_literal comma i q)

-- ---- an operand and what goes on with it

abbrev Opened : List Lexeme → Option Reader → Type 0
Opened w (Some reader) = Leads reader w
Opened w None = Unit {0}

or_means : (least : ℕ) (w : List Lexeme) (x : Lexeme) (o : Option Reader) (s : Stepped) → Opened (w ++ x ∷ []) o → Means least w x s → Means least w x (or_closed o s)
or_means least w x (Some r) s p q = p
or_means least w x None s p q = q

both_true : (a b : Bool) → (a && b) ≡ true → (a ≡ true) × (b ≡ true)
both_true true b e = (refl, e)
both_true false b e = cc

opened_if : (w : List Lexeme) (b : Bool) (r : Reader) → (b ≡ true → Leads r w) → Opened w (if b then Some r else None)
opened_if w true r f = f refl
opened_if w false r f = tt

-- what goes on with an operand goes on, where the lines allow it
taken : (w : List Lexeme) (o : Opener) (line least : ℕ) (r : Reader) → (operand_line o ≤ line → least ≤ own_line o → Leads r w) → Opened w (if takes o line least then Some r else None)
taken w o line least r f = opened_if w (takes o line least) r (λ e. let both = both_true (nat_le (operand_line o) line) (nat_le least (own_line o)) e in f (leb-true _ _ both.0) (leb-true _ _ both.1))

-- an operand, and what stands before it
record Operand (least : ℕ) (frames : List Frame) (u w : List Lexeme) (p : Part) : Type 0 where
  before : Before least frames u
  phrase : Phrase p.line w p

infix_opens : (op : BinaryOp) (at : Span) (least : ℕ) (frames : List Frame) (p : Part) (u w : List Lexeme) → Operand least frames u w p
    → Opened ((u ++ w) ++ operator op at ∷ []) (opened_by (Some (Infix op)) least frames p)
infix_opens op span least frames p u w q =
    taken _ (Infix op) p.line (hole least frames) _ (λ l f. at (sym (append_assoc u w _)) (wants (binary_open op span q.before (lift l q.phrase) f)))

word_opens : (next : Reserved) (span : Span) (least : ℕ) (frames : List Frame) (p : Part) (u w : List Lexeme) → Operand least frames u w p
    → Opened ((u ++ w) ++ Word next span ∷ []) (opened_by (word_opener next) least frames p)
word_opens word.Or span least frames p u w q = infix_opens Or span least frames p u w q
word_opens word.And span least frames p u w q = infix_opens And span least frames p u w q
word_opens word.Not span least frames p u w q = taken _ Denial p.line (hole least frames) _ (λ l f. at (sym (append_assoc u w _)) (denies span q.before (lift l q.phrase) f))
word_opens word.In span least frames p u w q = taken _ In p.line (hole least frames) _ (λ l f. at (sym (append_assoc u w _)) (amongs q.before (lift l q.phrase) f (in_word span)))
word_opens word.Like span least frames p u w q = taken _ (Like false) p.line (hole least frames) _ (λ l f. at (sym (append_assoc u w _)) (matches q.before (lift l q.phrase) f (likes (like_word span))))
word_opens word.Rlike span least frames p u w q = taken _ (Like true) p.line (hole least frames) _ (λ l f. at (sym (append_assoc u w _)) (matches q.before (lift l q.phrase) f (likes (rlike_word span))))
word_opens word.Is span least frames p u w q = taken _ Is p.line (hole least frames) _ (λ l f. at (sym (append_assoc u w _)) (tests span q.before (lift l q.phrase) f))
word_opens _ span least frames p u w q = tt

sign_opens : (next : Sign) (span : Span) (least : ℕ) (frames : List Frame) (p : Part) (u w : List Lexeme) → Operand least frames u w p
    → Opened ((u ++ w) ++ Mark next span ∷ []) (opened_by (sign_opener next) least frames p)
sign_opens sign.Equal span least frames p u w q = infix_opens Eq span least frames p u w q
sign_opens sign.NotEqual span least frames p u w q = infix_opens Ne span least frames p u w q
sign_opens sign.Less span least frames p u w q = infix_opens Lt span least frames p u w q
sign_opens sign.LessEqual span least frames p u w q = infix_opens Le span least frames p u w q
sign_opens sign.Greater span least frames p u w q = infix_opens Gt span least frames p u w q
sign_opens sign.GreaterEqual span least frames p u w q = infix_opens Ge span least frames p u w q
sign_opens sign.Plus span least frames p u w q = infix_opens Add span least frames p u w q
sign_opens sign.Minus span least frames p u w q = infix_opens Sub span least frames p u w q
sign_opens sign.Star span least frames p u w q = infix_opens Mul span least frames p u w q
sign_opens sign.Slash span least frames p u w q = infix_opens Div span least frames p u w q
sign_opens sign.Percent span least frames p u w q = infix_opens Mod span least frames p u w q
sign_opens sign.Cast span least frames p u w q = taken _ Cast p.line (hole least frames) _ (λ l f. at (sym (append_assoc u w _)) (casts span q.before (lift l q.phrase) f))
sign_opens _ span least frames p u w q = tt

opened_means : (least : ℕ) (frames : List Frame) (p : Part) (x : Lexeme) (u w : List Lexeme) → Operand least frames u w p
    → Opened ((u ++ w) ++ x ∷ []) (opened least frames p x)
opened_means least frames p (Word next span) u w q = word_opens next span least frames p u w q
opened_means least frames p (Mark next span) u w q = sign_opens next span least frames p u w q
opened_means least frames p _ u w q = tt

-- ---- what ends an operand

group_means : (x : Lexeme) (least : ℕ) (above : List Frame) (opening : Span) (p : Part) (u w : List Lexeme) → least ≤ 8 → Before least above u → Phrase 0 w p
    → Means least ((u ++ Mark sign.OpenParen opening ∷ []) ++ w) x (close_group x least above opening p)
group_means (Mark sign.CloseParen closing) least above opening p u w k b q = at (sym (simp append_assoc)) (has_primary k b (group_line opening closing q) refl)
group_means _ least above opening p u w k b q = tt

call_means : (x : Lexeme) (least : ℕ) (above : List Frame) (function : NameAt) (opening : Span) (es : List Expr) (d : ℕ) (u m : List Lexeme) → least ≤ 8 → Before least above u → Items m es d
    → Means least (u ++ Plain function ∷ Mark sign.OpenParen opening ∷ m) x (close_call x least above function es d)
call_means (Mark sign.Comma comma) least above function opening es d u m k b i = at (sym (simp append_assoc)) (wants (call_open function opening b (so_far comma i)))
call_means (Mark sign.CloseParen closing) least above function opening es d u m k b i = at (sym (simp append_assoc)) (has_primary k b (call_line function opening closing i) refl)
call_means _ least above function opening es d u m k b i = tt

within_means : (x : Lexeme) (least : ℕ) (above : List Frame) (n : Bool) (opening : Span) (left : Part) (es : List Expr) (d : ℕ) (u w j m : List Lexeme)
    → Before least above u → Phrase 4 w left → hole least above ≤ 3 → InWords n j → Items m es d
    → Means least (u ++ (w ++ (j ++ Mark sign.OpenParen opening ∷ m))) x (close_within x least above n left es d)
within_means (Mark sign.Comma comma) least above n opening left es d u w j m b q le words i = at (sym (simp append_assoc)) (wants (within_open opening b q le words (so_far comma i)))
within_means (Mark sign.CloseParen closing) least above n opening left es d u w j m b q le words i = at (sym (simp append_assoc)) (has b (in_line opening closing words q i) le)
within_means _ least above n opening left es d u w j m b q le words i = tt

feed_means : (least : ℕ) (frames : List Frame) (p : Part) (x : Lexeme) {u w : List Lexeme} → least ≤ 8 → Before least frames u → Phrase p.line w p → hole least frames ≤ p.line
    → Means least (u ++ w) x (feed least frames p x)
unfolding feed
feed_means least [] p x {w = w} k nothing_open q h =
    or_means least _ x _ _ (opened_means least [] p x [] w (record { before = nothing_open; phrase = q })) (lift h q, refl)
feed_means least (Binary op left ∷ above) p x {w = w} k (binary_open _ span {u = u} {w = v} b l le) q h =
    or_means least _ x _ _ (opened_means least (Binary op left ∷ above) p x (u ++ (v ++ operator op span ∷ [])) w (record { before = binary_open op span b l le; phrase = q }))
    (means_at least x _ (sym (simp append_assoc)) (feed_means least above (binary_part op left p) x k b (binary_line op span l (lift h q)) le))
feed_means least (Group opening ∷ above) p x {w = w} k (group_open _ {u = u} b) q h =
    or_means least _ x _ _ (opened_means least (Group opening ∷ above) p x (u ++ Mark sign.OpenParen opening ∷ []) w (record { before = group_open opening b; phrase = q }))
    (group_means x least above opening p u w k b (lift h q))
feed_means least (Minus minus ∷ above) p x {w = w} k (minus_open _ {u = u} b le) q h =
    or_means least _ x _ _ (opened_means least (Minus minus ∷ above) p x (u ++ Mark sign.Minus minus ∷ []) w (record { before = minus_open minus b le; phrase = q }))
    (means_at least x _ (sym (simp append_assoc)) (feed_means least above (minus_part minus p) x k b (minus_line minus (lift h q)) le))
feed_means least (Not not ∷ above) p x {w = w} k (not_open _ {u = u} b le) q h =
    or_means least _ x _ _ (opened_means least (Not not ∷ above) p x (u ++ Word word.Not not ∷ []) w (record { before = not_open not b le; phrase = q }))
    (means_at least x _ (sym (simp append_assoc)) (feed_means least above (not_part not p) x k b (not_line not (lift h q)) le))
feed_means least (Call function es d ∷ above) p x {w = w} k (call_open _ opening {u = u} {m = m} b i) q h =
    or_means least _ x _ _ (opened_means least (Call function es d ∷ above) p x (u ++ Plain function ∷ Mark sign.OpenParen opening ∷ m) w (record { before = call_open function opening b i; phrase = q }))
    (means_at least x _ (sym (simp append_assoc)) (call_means x least above function opening (es ++ p.expr ∷ []) (max d p.depth) u (m ++ w) k b (with_item i (lift h q))))
feed_means least (Within n left es d ∷ above) p x {w = w} k (within_open opening {u = u} {w = v} {i = j} {m = m} b l le words i) q h =
    or_means least _ x _ _ (opened_means least (Within n left es d ∷ above) p x (u ++ (v ++ (j ++ Mark sign.OpenParen opening ∷ m))) w (record { before = within_open opening b l le words i; phrase = q }))
    (means_at least x _ (sym (simp append_assoc)) (within_means x least above n opening left (es ++ p.expr ∷ []) (max d p.depth) u v j (m ++ w) b l le words (with_item i (lift h q))))

-- ---- each lexeme

word_begins : (next : Reserved) (span : Span) (least : ℕ) (frames : List Frame) (u : List Lexeme) → least ≤ 8 → Before least frames u
    → Means least u (Word next span) (begin_word next span least frames)
word_begins word.True span least frames u k b = has_primary k b (true_line span) refl
word_begins word.False span least frames u k b = has_primary k b (false_line span) refl
word_begins word.Null span least frames u k b = has_primary k b (null_line span) refl
word_begins word.Not span least frames u k b = means_if least u _ (nat_le (hole least frames) 2) _ (λ e. wants (not_open span b (leb-true _ _ e)))
word_begins _ span least frames u k b = tt

sign_begins : (next : Sign) (span : Span) (least : ℕ) (frames : List Frame) (u : List Lexeme) → least ≤ 8 → Before least frames u
    → Means least u (Mark next span) (begin_sign next span least frames)
sign_begins sign.OpenParen span least frames u k b = wants (group_open span b)
sign_begins sign.OpenBracket span least frames u k b = lists span b no_literal
sign_begins sign.Minus span least frames u k b = means_if least u _ (nat_le (hole least frames) 6) _ (λ e. wants (minus_open span b (leb-true _ _ e)))
sign_begins _ span least frames u k b = tt

begin_means : (least : ℕ) (frames : List Frame) (x : Lexeme) (u : List Lexeme) → least ≤ 8 → Before least frames u → Means least u x (begin least frames x)
begin_means least frames (Plain name) u k b = names name b
begin_means least frames (Dotted name) u k b = has_primary k b (name_line (dotted_name name)) refl
begin_means least frames (Quoted name) u k b = has_primary k b (name_line (quoted_name name)) refl
begin_means least frames (Text text) u k b = has_primary k b (text_line text) refl
begin_means least frames (Number number span) u k b = has_primary k b (number_line number span) refl
begin_means least frames (Word next span) u k b = word_begins next span least frames u k b
begin_means least frames (Mark next span) u k b = sign_begins next span least frames u k b
begin_means least frames _ u k b = tt

name_means : (least : ℕ) (frames : List Frame) (name : NameAt) (x : Lexeme) (u : List Lexeme) → least ≤ 8 → Before least frames u
    → Means least (u ++ Plain name ∷ []) x (after_name least frames name x)
name_means least frames name (Mark sign.OpenParen span) u k b = at (sym (append_assoc u _ _)) (calls name span b)
name_means least frames name x u k b = feed_means least frames (column_part name) x k b (name_line (plain_name name)) (hole_line least frames k)

open_means : (least : ℕ) (frames : List Frame) (function : NameAt) (opening : Span) (x : Lexeme) (u : List Lexeme) → least ≤ 8 → Before least frames u
    → Means least (u ++ Plain function ∷ Mark sign.OpenParen opening ∷ []) x (after_open least frames function x)
open_means least frames function opening (Mark sign.CloseParen closing) u k b = at (sym (append_assoc u _ _)) (has_primary k b (empty_line function opening closing) refl)
open_means least frames function opening (Mark sign.Star star) u k b = at (sym (append_assoc u _ _)) (stars function opening star b)
open_means least frames function opening x u k b = begin_means least (Call function [] 0 ∷ frames) x _ k (call_open function opening b none_yet)

star_means : (least : ℕ) (frames : List Frame) (function : NameAt) (opening star : Span) (x : Lexeme) (u : List Lexeme) → least ≤ 8 → Before least frames u
    → Means least (u ++ Plain function ∷ Mark sign.OpenParen opening ∷ Mark sign.Star star ∷ []) x (after_star least frames function x)
star_means least frames function opening star (Mark sign.CloseParen closing) u k b = at (sym (append_assoc u _ _)) (has_primary k b (star_line function opening star closing) refl)
star_means least frames function opening star _ u k b = tt

not_means : (least : ℕ) (frames : List Frame) (not : Span) (p : Part) (x : Lexeme) (u w : List Lexeme) → Before least frames u → Phrase 4 w p → hole least frames ≤ 3
    → Means least (u ++ (w ++ Word word.Not not ∷ [])) x (after_not least frames p x)
not_means least frames not p (Word word.In span) u w b q le = at (sym (simp append_assoc)) (amongs b q le (not_in_words not span))
not_means least frames not p (Word word.Like span) u w b q le = at (sym (simp append_assoc)) (matches b q le (not_likes not (like_word span)))
not_means least frames not p (Word word.Rlike span) u w b q le = at (sym (simp append_assoc)) (matches b q le (not_likes not (rlike_word span)))
not_means least frames not p _ u w b q le = tt

in_means : (least : ℕ) (frames : List Frame) (n : Bool) (p : Part) (x : Lexeme) (u w i : List Lexeme) → Before least frames u → Phrase 4 w p → hole least frames ≤ 3 → InWords n i
    → Means least (u ++ (w ++ i)) x (after_in least frames n p x)
in_means least frames n p (Mark sign.OpenParen span) u w i b q le words = at (sym (simp append_assoc)) (wants (within_open span b q le words none_yet))
in_means least frames n p _ u w i b q le words = tt

like_means : (least : ℕ) (frames : List Frame) (n regex : Bool) (p : Part) (x : Lexeme) (u w i : List Lexeme) → Before least frames u → Phrase 4 w p → hole least frames ≤ 3 → LikeWords n regex i
    → Means least (u ++ (w ++ i)) x (after_like least frames n regex p x)
like_means least frames n regex p (Text pattern) u w i b q le words = at (sym (simp append_assoc)) (has b (like_line pattern words q) le)
like_means least frames n regex p _ u w i b q le words = tt

is_means : (least : ℕ) (frames : List Frame) (is : Span) (p : Part) (x : Lexeme) (u w : List Lexeme) → Before least frames u → Phrase 4 w p → hole least frames ≤ 3
    → Means least (u ++ (w ++ Word word.Is is ∷ [])) x (after_is least frames p x)
is_means least frames is p (Word word.Null null) u w b q le = at (sym (simp append_assoc)) (has b (is_line (is_words is null) q) le)
is_means least frames is p (Word word.Not not) u w b q le = at (sym (simp append_assoc)) (tests_not is not b q le)
is_means least frames is p _ u w b q le = tt

is_not_means : (least : ℕ) (frames : List Frame) (is not : Span) (p : Part) (x : Lexeme) (u w : List Lexeme) → Before least frames u → Phrase 4 w p → hole least frames ≤ 3
    → Means least (u ++ (w ++ Word word.Is is ∷ Word word.Not not ∷ [])) x (after_is_not least frames p x)
is_not_means least frames is not p (Word word.Null null) u w b q le = at (sym (simp append_assoc)) (has b (is_line (is_not_words is not null) q) le)
is_not_means least frames is not p _ u w b q le = tt

cast_means : (least : ℕ) (frames : List Frame) (cast : Span) (p : Part) (x : Lexeme) (u w : List Lexeme) → Before least frames u → Phrase 7 w p → hole least frames ≤ 7
    → Means least (u ++ (w ++ Mark sign.Cast cast ∷ [])) x (after_cast least frames p x)
cast_means least frames cast p (Plain kind) u w b q le = at (sym (simp append_assoc)) (has b (cast_line cast q (plain_kind kind)) le)
cast_means least frames cast p (Dotted kind) u w b q le = at (sym (simp append_assoc)) (has b (cast_line cast q (dotted_kind kind)) le)
cast_means least frames cast p _ u w b q le = tt

-- one more literal of a list
lists_one : {least : ℕ} {frames : List Frame} {u m w : List Lexeme} {vs : List Value} {v : Value} (opening : Span) → Before least frames u → LiteralsSoFar m vs → Literal w v
    → Read least frames (Listed opening (vs ++ v ∷ [])) ((u ++ Mark sign.OpenBracket opening ∷ m) ++ w)
lists_one {u = u} opening b i q = at (sym (append_assoc u _ _)) (listed opening b (with_literal i q))

list_means : (least : ℕ) (frames : List Frame) (opening : Span) (vs : List Value) (x : Lexeme) (u m : List Lexeme) → Before least frames u → LiteralsSoFar m vs
    → Means least (u ++ Mark sign.OpenBracket opening ∷ m) x (in_list least frames opening vs x)
list_means least frames opening vs (Number number span) u m b i = lists_one opening b i (number_literal number span)
list_means least frames opening vs (Text text) u m b i = lists_one opening b i (text_literal text)
list_means least frames opening vs (Word word.True span) u m b i = lists_one opening b i (true_literal span)
list_means least frames opening vs (Word word.False span) u m b i = lists_one opening b i (false_literal span)
list_means least frames opening vs (Mark sign.Minus span) u m b i = at (sym (simp append_assoc)) (negates opening span b i)
list_means least frames opening vs _ u m b i = tt

minus_means : (least : ℕ) (frames : List Frame) (opening minus : Span) (vs : List Value) (x : Lexeme) (u m : List Lexeme) → Before least frames u → LiteralsSoFar m vs
    → Means least (u ++ Mark sign.OpenBracket opening ∷ (m ++ Mark sign.Minus minus ∷ [])) x (after_minus least frames opening vs x)
minus_means least frames opening minus vs (Number number span) u m b i = at (sym (simp append_assoc)) (listed opening b (with_literal i (negative_literal minus number span)))
minus_means least frames opening minus vs _ u m b i = tt

literal_means : (least : ℕ) (frames : List Frame) (opening : Span) (vs : List Value) (x : Lexeme) (u m : List Lexeme) → least ≤ 8 → Before least frames u → Literals m vs
    → Means least (u ++ Mark sign.OpenBracket opening ∷ m) x (after_literal least frames opening vs x)
literal_means least frames opening vs (Mark sign.Comma comma) u m k b i = at (sym (simp append_assoc)) (lists opening b (some_literals comma i))
literal_means least frames opening vs (Mark sign.CloseBracket closing) u m k b i = at (sym (simp append_assoc)) (has_primary k b (list_line opening closing i) refl)
literal_means least frames opening vs _ u m k b i = tt

-- what each lexeme makes of what was read
pub step_means : (least : ℕ) (frames : List Frame) (top : Top) (x : Lexeme) {w : List Lexeme} → least ≤ 8 → Read least frames top w → Means least w x (step_at least frames top x)
step_means least frames Want x k (wants {u = u} b) = begin_means least frames x u k b
step_means least frames (Have p) x k (has b q h) = feed_means least frames p x k b q h
step_means least frames (Named name) x k (names _ {u = u} b) = name_means least frames name x u k b
step_means least frames (Called function) x k (calls _ opening {u = u} b) = open_means least frames function opening x u k b
step_means least frames (Starred function) x k (stars _ opening star {u = u} b) = star_means least frames function opening star x u k b
step_means least frames (Denied p) x k (denies not {u = u} {w = w} b q le) = not_means least frames not p x u w b q le
step_means least frames (Among n p) x k (amongs {u = u} {w = w} {i = i} b q le words) = in_means least frames n p x u w i b q le words
step_means least frames (Matching n regex p) x k (matches {u = u} {w = w} {i = i} b q le words) = like_means least frames n regex p x u w i b q le words
step_means least frames (Testing p) x k (tests is {u = u} {w = w} b q le) = is_means least frames is p x u w b q le
step_means least frames (TestingNot p) x k (tests_not is not {u = u} {w = w} b q le) = is_not_means least frames is not p x u w b q le
step_means least frames (Casting p) x k (casts cast {u = u} {w = w} b q le) = cast_means least frames cast p x u w b q le
step_means least frames (Listing opening vs) x k (lists _ {u = u} {m = m} b i) = list_means least frames opening vs x u m b i
step_means least frames (Negating opening vs) x k (negates _ minus {u = u} {m = m} b i) = minus_means least frames opening minus vs x u m b i
step_means least frames (Listed opening vs) x k (listed _ {u = u} {m = m} b i) = literal_means least frames opening vs x u m k b i

-- the lexeme goes on with what was read
pub step_read : (r to : Reader) (x : Lexeme) {w : List Lexeme} → r.least ≤ 8 → Leads r w → step r x ≡ Goes to → Leads to (w ++ x ∷ [])
step_read r to x {w} k read e = subst (λ (s : Stepped). Means r.least w x s) e (step_means r.least r.frames r.top x k read)

-- what ended is a phrase of the line that was wanted, before that lexeme
pub step_ends : (r : Reader) (x : Lexeme) (p : Part) (next : Lexeme) {w : List Lexeme} → r.least ≤ 8 → Leads r w → step r x ≡ Ends p next → Phrase r.least w p × (next ≡ x)
step_ends r x p next {w} k read e = subst (λ (s : Stepped). Means r.least w x s) e (step_means r.least r.frames r.top x k read)

pub going_goes : (s : Stepped) (to : Reader) → going s ≡ Some to → s ≡ Goes to
going_goes (Goes r) to e = let same : r ≡ to = cc in ap Goes same
going_goes (Ends p next) to e = cc
going_goes Stuck to e = cc

pub and_then_some : {A B : Type 0} (o : Option A) (next : A → Option B) (b : B) → and_then o next ≡ Some b → (a : A) × (o ≡ Some a) × (next a ≡ Some b)
and_then_some None next b e = cc
and_then_some (Some a) next b e = (a, refl, e)

pub record Walked (r to : Reader) (w v : List Lexeme) : Type 0 where
  pub kept : to.least ≡ r.least
  pub reads : Leads to (w ++ v)

walked_on : (v : List Lexeme) (r to : Reader) {w : List Lexeme} → r.least ≤ 8 → Leads r w → walk v r ≡ Some to → Walked r to w v
walked_on [] r to {w} k read e =
    let same : r ≡ to = cc in
    subst (λ (y : Reader). Walked r y w []) same (record { kept = refl; reads = at (sym (append-nil w)) read })
walked_on (x ∷ v) r to {w} k read e =
    let n = and_then_some (going (step r x)) (walk v) to e in
    let goes_on = going_goes (step r x) n.0 n.1 in
    let kept = least_kept r n.0 x goes_on in
    let rest = walked_on v n.0 to (subst (λ (m : ℕ). m ≤ 8) (sym kept) k) (step_read r n.0 x k read goes_on) n.2 in
    record { kept = rest.kept ∙ kept; reads = at (append_assoc w (x ∷ []) v) rest.reads }

-- what the machine takes leads to its state
pub walked : (least : ℕ) (w : List Lexeme) (to : Reader) → least ≤ 8 → walk w (start least) ≡ Some to → Walked (start least) to [] w
walked least w to k e = walked_on w (start least) to k (wants nothing_open) e
