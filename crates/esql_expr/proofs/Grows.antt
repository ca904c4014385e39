-- The depth that is needed never falls, and what ended has it.
use Rattle.std.proofs.Common.{◌≡◌, ℕ, ◌+◌, ◌≤◌, max, Bool, true, false, List, [], ◌∷◌, ◌++◌, Option, Some, None, refl, subst, arith}
use Rattle.std.specs.Prelude.{nat_le, if◌then◌else◌}
use Rattle.esql_types.specs.declared.places.Span.{Span}
use Rattle.esql_types.specs.declared.value.Value.{Value}
use Rattle.esql_lex.specs.declared.token.Reserved.{Reserved}
use Rattle.esql_lex.specs.declared.token.Reserved.TheVariants as word
use Rattle.esql_lex.specs.declared.token.Sign.{Sign}
use Rattle.esql_lex.specs.declared.token.Sign.TheVariants as sign
use Rattle.esql_ast.specs.declared.expr.Expr.{Expr}
use Rattle.esql_ast.specs.declared.query.NameAt.{NameAt}
use Rattle.esql_phrases.specs.declared.lexeme.Lexeme.{Lexeme}
use Rattle.esql_phrases.specs.declared.lexeme.Lexeme.TheVariants.{Plain, Dotted, Quoted, Text, Number, Word, Sign as Mark}
use Rattle.esql_phrases.specs.declared.part.Part.{Part}
use Rattle.esql_expr.specs.declared.machine.Frame.{Frame}
use Rattle.esql_expr.specs.declared.machine.Frame.TheVariants.{Binary, Group, Minus, Not, Call, Within}
use Rattle.esql_expr.specs.declared.machine.Top.{Top}
use Rattle.esql_expr.specs.declared.machine.Top.TheVariants.{Want, Have, Named, Called, Starred, Denied, Among, Matching, Testing, TestingNot, Casting, Listing, Negating, Listed}
use Rattle.esql_expr.specs.declared.machine.Reader.{Reader}
use Rattle.esql_expr.specs.declared.machine.Stepped.{Stepped}
use Rattle.esql_expr.specs.declared.machine.Stepped.TheVariants.{Goes, Ends, Stuck}
use Rattle.esql_expr.specs.declared.machine.Opener.{Opener}
use Rattle.esql_expr.specs.declared.machine.Opener.TheVariants.{Infix, Not as Denial, In, Like, Is, Cast}
use Rattle.esql_phrases.specs.Parts.{column_part, minus_part, not_part, binary_part}
use Rattle.esql_expr.specs.Machine.{start, hole, opener, takes, goes_to, opened_by, or_closed, close_group, close_call, close_within, feed, begin_word, begin_sign, begin, after_name, after_open, after_star, after_not, after_in, after_like, after_is, after_is_not, after_cast, in_list, after_minus, after_literal, step_at, step, up, depth_at, need}

-- a deeper part makes no shallower whole
pub up_monotone : (frames : List Frame) (m n : ℕ) → m ≤ n → up frames m ≤ up frames n
up_monotone [] m n h = h
up_monotone (Binary op left ∷ above) m n h = up_monotone above (1 + max left.depth m) (1 + max left.depth n) (omega arith)
up_monotone (Group opening ∷ above) m n h = up_monotone above (1 + m) (1 + n) (omega arith)
up_monotone (Minus minus ∷ above) m n h = up_monotone above (1 + m) (1 + n) (omega arith)
up_monotone (Not not ∷ above) m n h = up_monotone above (1 + m) (1 + n) (omega arith)
up_monotone (Call function args depth ∷ above) m n h = up_monotone above (1 + max depth m) (1 + max depth n) (omega arith)
up_monotone (Within negated left items depth ∷ above) m n h = up_monotone above (1 + max left.depth (max depth m)) (1 + max left.depth (max depth n)) (omega arith)

-- no part is deeper than the whole
pub up_least : (frames : List Frame) (m : ℕ) → m ≤ up frames m
up_least [] m = omega arith
up_least (Binary op left ∷ above) m = let h = up_least above (1 + max left.depth m) in omega arith
up_least (Group opening ∷ above) m = let h = up_least above (1 + m) in omega arith
up_least (Minus minus ∷ above) m = let h = up_least above (1 + m) in omega arith
up_least (Not not ∷ above) m = let h = up_least above (1 + m) in omega arith
up_least (Call function args depth ∷ above) m = let h = up_least above (1 + max depth m) in omega arith
up_least (Within negated left items depth ∷ above) m = let h = up_least above (1 + max left.depth (max depth m)) in omega arith

pub need_start : (least : ℕ) → need (start least) ≡ 1
need_start least = refl

-- the need does not fall, nor does the line change that is wanted; what ended has the depth that was needed
abbrev pub Grows : ℕ → ℕ → Stepped → Type 0
Grows least m (Goes to) = (m ≤ need to) × (to.least ≡ least)
Grows least m (Ends p next) = p.depth ≡ m
Grows least m Stuck = Unit {0}

grows_if : (least m : ℕ) (b : Bool) (s : Stepped) → Grows least m s → Grows least m (if b then s else Stuck)
grows_if least m true s g = g
grows_if least m false s g = tt

goes_grows : (o : Opener) (least : ℕ) (frames : List Frame) (p : Part) → Grows least (up frames p.depth) (Goes (goes_to o least frames p))
goes_grows (Infix op) least frames p = (up_monotone frames p.depth (1 + max p.depth 1) (omega arith), refl)
goes_grows Denial least frames p = (up_monotone frames p.depth (1 + p.depth) (omega arith), refl)
goes_grows In least frames p = (up_monotone frames p.depth (1 + p.depth) (omega arith), refl)
goes_grows (Like regex) least frames p = (up_monotone frames p.depth (1 + p.depth) (omega arith), refl)
goes_grows Is least frames p = (up_monotone frames p.depth (1 + p.depth) (omega arith), refl)
goes_grows Cast least frames p = (up_monotone frames p.depth (1 + p.depth) (omega arith), refl)

or_grows : (least m : ℕ) (b : Bool) (r : Reader) (s : Stepped) → Grows least m (Goes r) → Grows least m s → Grows least m (or_closed (if b then Some r else None) s)
or_grows least m true r s g h = g
or_grows least m false r s g h = h

opened_grows : (o : Option Opener) (least : ℕ) (frames : List Frame) (p : Part) (s : Stepped) → Grows least (up frames p.depth) s
    → Grows least (up frames p.depth) (or_closed (opened_by o least frames p) s)
opened_grows None least frames p s h = h
opened_grows (Some o) least frames p s h = or_grows least (up frames p.depth) (takes o p.line (hole least frames)) (goes_to o least frames p) s (goes_grows o least frames p) h

group_grows : (x : Lexeme) (least : ℕ) (above : List Frame) (opening : Span) (p : Part) → Grows least (up above (1 + p.depth)) (close_group x least above opening p)
group_grows (Mark sign.CloseParen closing) least above opening p = (omega arith, refl)
group_grows _ least above opening p = tt

call_grows : (x : Lexeme) (least : ℕ) (above : List Frame) (function : NameAt) (es : List Expr) (d : ℕ) → Grows least (up above (1 + d)) (close_call x least above function es d)
call_grows (Mark sign.Comma comma) least above function es d = (up_monotone above (1 + d) (1 + max d 1) (omega arith), refl)
call_grows (Mark sign.CloseParen closing) least above function es d = (omega arith, refl)
call_grows _ least above function es d = tt

within_grows : (x : Lexeme) (least : ℕ) (above : List Frame) (n : Bool) (left : Part) (es : List Expr) (d : ℕ) → Grows least (up above (1 + max left.depth d)) (close_within x least above n left es d)
within_grows (Mark sign.Comma comma) least above n left es d = (up_monotone above (1 + max left.depth d) (1 + max left.depth (max d 1)) (omega arith), refl)
within_grows (Mark sign.CloseParen closing) least above n left es d = (omega arith, refl)
within_grows _ least above n left es d = tt

feed_grows : (least : ℕ) (frames : List Frame) (p : Part) (x : Lexeme) → Grows least (up frames p.depth) (feed least frames p x)
unfolding feed
feed_grows least [] p x = opened_grows (opener x) least [] p _ refl
feed_grows least (Binary op left ∷ above) p x = opened_grows (opener x) least (Binary op left ∷ above) p _ (feed_grows least above (binary_part op left p) x)
feed_grows least (Group opening ∷ above) p x = opened_grows (opener x) least (Group opening ∷ above) p _ (group_grows x least above opening p)
feed_grows least (Minus minus ∷ above) p x = opened_grows (opener x) least (Minus minus ∷ above) p _ (feed_grows least above (minus_part minus p) x)
feed_grows least (Not not ∷ above) p x = opened_grows (opener x) least (Not not ∷ above) p _ (feed_grows least above (not_part not p) x)
feed_grows least (Call function es d ∷ above) p x = opened_grows (opener x) least (Call function es d ∷ above) p _ (call_grows x least above function (es ++ p.expr ∷ []) (max d p.depth))
feed_grows least (Within n left es d ∷ above) p x = opened_grows (opener x) least (Within n left es d ∷ above) p _ (within_grows x least above n left (es ++ p.expr ∷ []) (max d p.depth))

deeper : (frames : List Frame) (m : ℕ) → m ≤ up frames 1 → m ≤ up frames 2
deeper frames m h = let g = up_monotone frames 1 2 (omega arith) in omega arith

word_grows : (next : Reserved) (span : Span) (least m : ℕ) (frames : List Frame) → m ≤ up frames 1 → Grows least m (begin_word next span least frames)
word_grows word.True span least m frames h = (h, refl)
word_grows word.False span least m frames h = (h, refl)
word_grows word.Null span least m frames h = (h, refl)
word_grows word.Not span least m frames h = grows_if least m (nat_le (hole least frames) 2) _ (deeper frames m h, refl)
word_grows _ span least m frames h = tt

sign_grows : (next : Sign) (span : Span) (least m : ℕ) (frames : List Frame) → m ≤ up frames 1 → Grows least m (begin_sign next span least frames)
sign_grows sign.OpenParen span least m frames h = (deeper frames m h, refl)
sign_grows sign.OpenBracket span least m frames h = (h, refl)
sign_grows sign.Minus span least m frames h = grows_if least m (nat_le (hole least frames) 6) _ (deeper frames m h, refl)
sign_grows _ span least m frames h = tt

begin_grows : (least m : ℕ) (frames : List Frame) (x : Lexeme) → m ≤ up frames 1 → Grows least m (begin least frames x)
begin_grows least m frames (Plain name) h = (h, refl)
begin_grows least m frames (Dotted name) h = (h, refl)
begin_grows least m frames (Quoted name) h = (h, refl)
begin_grows least m frames (Text text) h = (h, refl)
begin_grows least m frames (Number number span) h = (h, refl)
begin_grows least m frames (Word next span) h = word_grows next span least m frames h
begin_grows least m frames (Mark next span) h = sign_grows next span least m frames h
begin_grows least m frames _ h = tt

name_grows : (least : ℕ) (frames : List Frame) (name : NameAt) (x : Lexeme) → Grows least (up frames 1) (after_name least frames name x)
name_grows least frames name (Mark sign.OpenParen span) = (omega arith, refl)
name_grows least frames name x = feed_grows least frames (column_part name) x

open_grows : (least : ℕ) (frames : List Frame) (function : NameAt) (x : Lexeme) → Grows least (up frames 1) (after_open least frames function x)
open_grows least frames function (Mark sign.CloseParen closing) = (omega arith, refl)
open_grows least frames function (Mark sign.Star star) = (omega arith, refl)
open_grows least frames function x = begin_grows least (up frames 1) (Call function [] 0 ∷ frames) x (up_monotone frames 1 2 (omega arith))

star_grows : (least : ℕ) (frames : List Frame) (function : NameAt) (x : Lexeme) → Grows least (up frames 1) (after_star least frames function x)
star_grows least frames function (Mark sign.CloseParen closing) = (omega arith, refl)
star_grows least frames function _ = tt

not_grows : (least : ℕ) (frames : List Frame) (p : Part) (x : Lexeme) → Grows least (up frames (1 + p.depth)) (after_not least frames p x)
not_grows least frames p (Word word.In span) = (omega arith, refl)
not_grows least frames p (Word word.Like span) = (omega arith, refl)
not_grows least frames p (Word word.Rlike span) = (omega arith, refl)
not_grows least frames p _ = tt

in_grows : (least : ℕ) (frames : List Frame) (n : Bool) (p : Part) (x : Lexeme) → Grows least (up frames (1 + p.depth)) (after_in least frames n p x)
in_grows least frames n p (Mark sign.OpenParen span) = (up_monotone frames (1 + p.depth) (1 + max p.depth (max 0 1)) (omega arith), refl)
in_grows least frames n p _ = tt

like_grows : (least : ℕ) (frames : List Frame) (n regex : Bool) (p : Part) (x : Lexeme) → Grows least (up frames (1 + p.depth)) (after_like least frames n regex p x)
like_grows least frames n regex p (Text pattern) = (omega arith, refl)
like_grows least frames n regex p _ = tt

is_grows : (least : ℕ) (frames : List Frame) (p : Part) (x : Lexeme) → Grows least (up frames (1 + p.depth)) (after_is least frames p x)
is_grows least frames p (Word word.Null null) = (omega arith, refl)
is_grows least frames p (Word word.Not not) = (omega arith, refl)
is_grows least frames p _ = tt

is_not_grows : (least : ℕ) (frames : List Frame) (p : Part) (x : Lexeme) → Grows least (up frames (1 + p.depth)) (after_is_not least frames p x)
is_not_grows least frames p (Word word.Null null) = (omega arith, refl)
is_not_grows least frames p _ = tt

cast_grows : (least : ℕ) (frames : List Frame) (p : Part) (x : Lexeme) → Grows least (up frames (1 + p.depth)) (after_cast least frames p x)
cast_grows least frames p (Plain kind) = (omega arith, refl)
cast_grows least frames p (Dotted kind) = (omega arith, refl)
cast_grows least frames p _ = tt

list_grows : (least : ℕ) (frames : List Frame) (opening : Span) (vs : List Value) (x : Lexeme) → Grows least (up frames 1) (in_list least frames opening vs x)
list_grows least frames opening vs (Number number span) = (omega arith, refl)
list_grows least frames opening vs (Text text) = (omega arith, refl)
list_grows least frames opening vs (Word word.True span) = (omega arith, refl)
list_grows least frames opening vs (Word word.False span) = (omega arith, refl)
list_grows least frames opening vs (Mark sign.Minus span) = (omega arith, refl)
list_grows least frames opening vs _ = tt

minus_grows : (least : ℕ) (frames : List Frame) (opening : Span) (vs : List Value) (x : Lexeme) → Grows least (up frames 1) (after_minus least frames opening vs x)
minus_grows least frames opening vs (Number number span) = (omega arith, refl)
minus_grows least frames opening vs _ = tt

literal_grows : (least : ℕ) (frames : List Frame) (opening : Span) (vs : List Value) (x : Lexeme) → Grows least (up frames 1) (after_literal least frames opening vs x)
literal_grows least frames opening vs (Mark sign.Comma comma) = (omega arith, refl)
literal_grows least frames opening vs (Mark sign.CloseBracket closing) = (omega arith, refl)
literal_grows least frames opening vs _ = tt

grows_at : (least : ℕ) (frames : List Frame) (top : Top) (x : Lexeme) → Grows least (up frames (depth_at top)) (step_at least frames top x)
grows_at least frames Want x = begin_grows least (up frames 1) frames x (omega arith)
grows_at least frames (Have p) x = feed_grows least frames p x
grows_at least frames (Named name) x = name_grows least frames name x
grows_at least frames (Called function) x = open_grows least frames function x
grows_at least frames (Starred function) x = star_grows least frames function x
grows_at least frames (Denied p) x = not_grows least frames p x
grows_at least frames (Among n p) x = in_grows least frames n p x
grows_at least frames (Matching n regex p) x = like_grows least frames n regex p x
grows_at least frames (Testing p) x = is_grows least frames p x
grows_at least frames (TestingNot p) x = is_not_grows least frames p x
grows_at least frames (Casting p) x = cast_grows least frames p x
grows_at least frames (Listing opening vs) x = list_grows least frames opening vs x
grows_at least frames (Negating opening vs) x = minus_grows least frames opening vs x
grows_at least frames (Listed opening vs) x = literal_grows least frames opening vs x

grows : (r : Reader) (x : Lexeme) (s : Stepped) → step r x ≡ s → Grows r.least (need r) s
grows r x s e = subst (λ (s : Stepped). Grows r.least (need r) s) e (grows_at r.least r.frames r.top x)

-- a lexeme that goes on with an expression leaves no less needed
pub step_grows : (r to : Reader) (x : Lexeme) → step r x ≡ Goes to → need r ≤ need to
step_grows r to x e = (grows r x (Goes to) e).0

-- the line that is wanted stays
pub least_kept : (r to : Reader) (x : Lexeme) → step r x ≡ Goes to → to.least ≡ r.least
least_kept r to x e = (grows r x (Goes to) e).1

-- what ends has the depth that was needed
pub ends_needs : (r : Reader) (x : Lexeme) (p : Part) (next : Lexeme) → step r x ≡ Ends p next → p.depth ≡ need r
ends_needs r x p next e = grows r x (Ends p next) e
