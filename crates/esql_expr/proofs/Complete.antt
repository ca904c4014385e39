-- What the grammar spells, the machine reads.
use Rattle.std.proofs.Common.{◌≡◌, ℕ, ◌≤◌, max, Bool, true, false, List, [], ◌∷◌, ◌++◌, Some, refl, sym, ◌∙◌, ap, arith}
use Rattle.std.specs.Prelude.{if◌then◌else◌}
use Rattle.esql_types.specs.declared.places.Span.{Span}
use Rattle.esql_types.specs.declared.value.Value.{Value}
use Rattle.esql_lex.specs.declared.token.Reserved.TheVariants as word
use Rattle.esql_lex.specs.declared.token.Sign.TheVariants as sign
use Rattle.esql_ast.specs.declared.expr.BinaryOp.{BinaryOp}
use Rattle.esql_ast.specs.declared.expr.BinaryOp.TheVariants.{Add, Sub, Mul, Div, Mod, Eq, Ne, Lt, Le, Gt, Ge, And, Or}
use Rattle.esql_ast.specs.declared.expr.Expr.{Expr}
use Rattle.esql_ast.specs.declared.query.NameAt.{NameAt}
use Rattle.esql_ast.specs.declared.query.TextAt.{TextAt}
use Rattle.esql_phrases.specs.declared.lexeme.Lexeme.{Lexeme}
use Rattle.esql_phrases.specs.declared.lexeme.Lexeme.TheVariants.{Text, Word, Sign as Mark}
use Rattle.esql_phrases.specs.declared.part.Part.{Part}
use Rattle.esql_expr.specs.declared.machine.Frame.{Frame}
use Rattle.esql_expr.specs.declared.machine.Frame.TheVariants.{Binary, Group, Minus, Not, Call, Within}
use Rattle.esql_expr.specs.declared.machine.Top.TheVariants.{Want, Have, Named, Called, Casting, Listing, Listed}
use Rattle.esql_expr.specs.declared.machine.Reader.{Reader}
use Rattle.esql_expr.specs.declared.machine.Stepped.TheVariants.{Goes, Stuck}
use Rattle.esql_expr.specs.declared.machine.Opener.{Opener}
use Rattle.esql_expr.specs.declared.machine.Opener.TheVariants.{Infix, Not as Denial, In, Like, Is, Cast}
use Rattle.esql_phrases.specs.Parts.{column_part, call_part, group_part, cast_part, minus_part, not_part, line_of, left_of, right_of, binary_part, within_part, like_part, is_null_part}
use Rattle.esql_phrases.specs.Phrases.{IsName, plain_name, dotted_name, quoted_name, IsKindName, plain_kind, dotted_kind, operator, Literal, number_literal, negative_literal, text_literal, true_literal, false_literal, Literals, one_literal, next_literal, InWords, in_word, not_in_words, like_word, rlike_word, LikeWords, likes, not_likes, IsWords, is_words, is_not_words, Phrase, looser, number_line, text_line, true_line, false_line, null_line, list_line, name_line, group_line, empty_line, star_line, call_line, cast_line, minus_line, not_line, binary_line, in_line, like_line, is_line, Items, one_item, next_item}
use Rattle.esql_expr.specs.Machine.{reader, hole, opener, operand_line, own_line, goes_to, feed, close, begin, after_name, after_open, step, going, and_then, walk}
use Rattle.esql_phrases.proofs.Begins.{Beginner, Begins, begins_items}
use Rattle.esql_phrases.proofs.Lines.{line_of_phrase}
use Rattle.esql_expr.proofs.Walks.{walk-append, le_true, opener_operator, opens, feed_opens, leaves, NoParen, Stops, operator_follows, stops_wider, none_stops, some_stops, line_left, line_right}

-- a walk goes on from where another ended
pub walk_from : (w v : List Lexeme) (from mid : Reader) → walk w from ≡ Some mid → walk (w ++ v) from ≡ walk v mid
walk_from w v from mid e = walk-append w v from ∙ ap (λ o. and_then o (walk v)) e

pub walk_on : (x : Lexeme) (rest : List Lexeme) (from to : Reader) → step from x ≡ Goes to → walk (x ∷ rest) from ≡ walk rest to
walk_on x rest from to e = ap (λ s. and_then (going s) (walk rest)) e

-- the lexemes are read, and after them each that stops the line n meets what it meets after the expression
pub record Reads (n : ℕ) (w : List Lexeme) (least : ℕ) (frames : List Frame) (p : Part) : Type 0 where
  pub after : Reader
  pub walked : walk w (reader least frames Want) ≡ Some after
  pub agrees : (x : Lexeme) → Stops n x → step after x ≡ feed least frames p x

opens_after : {n : ℕ} {w : List Lexeme} {least : ℕ} {frames : List Frame} {p : Part} → Reads n w least frames p → (o : Opener) (x : Lexeme) → opener x ≡ Some o → NoParen x
    → own_line o ≤ n → operand_line o ≤ p.line → hole least frames ≤ own_line o → (rest : List Lexeme) → walk (w ++ x ∷ rest) (reader least frames Want) ≡ walk rest (goes_to o least frames p)
opens_after {n} {w} {least} {frames} {p} r o x e f h k l rest =
    walk_from w (x ∷ rest) _ r.after r.walked
    ∙ walk_on x rest r.after (goes_to o least frames p) (r.agrees x (some_stops n x o e h f) ∙ feed_opens least frames p x _ (opens o x least frames p e k l))

named_goes : (least : ℕ) (frames : List Frame) (name : NameAt) (x : Lexeme) → NoParen x → after_name least frames name x ≡ feed least frames (column_part name) x
named_goes least frames name (Mark sign.OpenParen at) f = absurd f
named_goes least frames name _ f = refl

called_goes : (least : ℕ) (frames : List Frame) (function : NameAt) (x : Lexeme) → Beginner x → after_open least frames function x ≡ begin least (Call function [] 0 ∷ frames) x
called_goes least frames function (Mark sign.CloseParen at) b = absurd b
called_goes least frames function (Mark sign.Star at) b = absurd b
called_goes least frames function _ b = refl

-- the arguments of a function begin as an expression does
called_walks : {w : List Lexeme} → Begins w → (least : ℕ) (frames : List Frame) (function : NameAt) (v : List Lexeme)
    → walk (w ++ v) (reader least frames (Called function)) ≡ walk (w ++ v) (reader least (Call function [] 0 ∷ frames) Want)
called_walks b least frames function v =
    ap (λ u. walk (u ++ v) (reader least frames (Called function))) b.whole
    ∙ ap (λ s. and_then (going s) (walk (b.rest ++ v))) (called_goes least frames function b.first b.can)
    ∙ ap (λ u. walk (u ++ v) (reader least (Call function [] 0 ∷ frames) Want)) (sym b.whole)

-- no line has NOT or the unary minus as an operator of two sides
not_two : (o : Opener) → own_line o ≤ 2 → own_line o ≤ 1
not_two (Infix Or) h = omega arith
not_two (Infix And) h = omega arith
not_two (Infix Eq) h = omega arith
not_two (Infix Ne) h = omega arith
not_two (Infix Lt) h = omega arith
not_two (Infix Le) h = omega arith
not_two (Infix Gt) h = omega arith
not_two (Infix Ge) h = omega arith
not_two (Infix Add) h = omega arith
not_two (Infix Sub) h = omega arith
not_two (Infix Mul) h = omega arith
not_two (Infix Div) h = omega arith
not_two (Infix Mod) h = omega arith
not_two Denial h = omega arith
not_two In h = omega arith
not_two (Like regex) h = omega arith
not_two Is h = omega arith
not_two Cast h = omega arith

not_six : (o : Opener) → own_line o ≤ 6 → own_line o ≤ 5
not_six (Infix Or) h = omega arith
not_six (Infix And) h = omega arith
not_six (Infix Eq) h = omega arith
not_six (Infix Ne) h = omega arith
not_six (Infix Lt) h = omega arith
not_six (Infix Le) h = omega arith
not_six (Infix Gt) h = omega arith
not_six (Infix Ge) h = omega arith
not_six (Infix Add) h = omega arith
not_six (Infix Sub) h = omega arith
not_six (Infix Mul) h = omega arith
not_six (Infix Div) h = omega arith
not_six (Infix Mod) h = omega arith
not_six Denial h = omega arith
not_six In h = omega arith
not_six (Like regex) h = omega arith
not_six Is h = omega arith
not_six Cast h = omega arith

begin_minus : (least : ℕ) (frames : List Frame) (minus : Span) → hole least frames ≤ 6 → begin least frames (Mark sign.Minus minus) ≡ Goes (reader least (Minus minus ∷ frames) Want)
begin_minus least frames minus h = ap (λ b. if b then Goes (reader least (Minus minus ∷ frames) Want) else Stuck) (le_true (hole least frames) 6 h)

begin_not : (least : ℕ) (frames : List Frame) (not : Span) → hole least frames ≤ 2 → begin least frames (Word word.Not not) ≡ Goes (reader least (Not not ∷ frames) Want)
begin_not least frames not h = ap (λ b. if b then Goes (reader least (Not not ∷ frames) Want) else Stuck) (le_true (hole least frames) 2 h)

-- what was read stands as an expression
stands : {n least : ℕ} {w : List Lexeme} {frames : List Frame} {p : Part} → walk w (reader least frames Want) ≡ Some (reader least frames (Have p)) → Reads n w least frames p
stands {least = least} {frames = frames} {p = p} e = record { after = reader least frames (Have p); walked = e; agrees = λ x s. refl }

reads_name : {x : Lexeme} {name : NameAt} → IsName x name → (least : ℕ) (frames : List Frame) → Reads 8 (x ∷ []) least frames (column_part name)
reads_name (plain_name name) least frames = record { after = reader least frames (Named name); walked = refl; agrees = λ x s. named_goes least frames name x s.follows }
reads_name (dotted_name name) least frames = stands refl
reads_name (quoted_name name) least frames = stands refl

casts : {x : Lexeme} {kind : NameAt} → IsKindName x kind → (least : ℕ) (frames : List Frame) (p : Part) → step (reader least frames (Casting p)) x ≡ Goes (reader least frames (Have (cast_part p kind)))
casts (plain_kind kind) least frames p = refl
casts (dotted_kind kind) least frames p = refl

reads_literal : {w : List Lexeme} {v : Value} → Literal w v → (least : ℕ) (frames : List Frame) (opening : Span) (values : List Value)
    → walk w (reader least frames (Listing opening values)) ≡ Some (reader least frames (Listed opening (values ++ v ∷ [])))
reads_literal (number_literal number at) least frames opening values = refl
reads_literal (negative_literal minus number at) least frames opening values = refl
reads_literal (text_literal text) least frames opening values = refl
reads_literal (true_literal at) least frames opening values = refl
reads_literal (false_literal at) least frames opening values = refl

reads_literals : {w : List Lexeme} {vs : List Value} → Literals w vs → (least : ℕ) (frames : List Frame) (opening : Span)
    → walk w (reader least frames (Listing opening [])) ≡ Some (reader least frames (Listed opening vs))
reads_literals (one_literal v) least frames opening = reads_literal v least frames opening []
reads_literals (next_literal comma {u = u} {w = w} {vs = vs} us v) least frames opening =
    walk_from u (Mark sign.Comma comma ∷ w) _ _ (reads_literals us least frames opening)
    ∙ reads_literal v least frames opening vs

-- where the items of a list stand, and what their end makes of them
record Lister (least : ℕ) (above : List Frame) (f : List Expr → ℕ → Frame) (whole : List Expr → ℕ → Span → Part) : Type 0 where
  low : (es : List Expr) (d : ℕ) → hole least (f es d ∷ above) ≤ 0
  comma : (es : List Expr) (d : ℕ) (p : Part) (at : Span) → feed least (f es d ∷ above) p (Mark sign.Comma at) ≡ Goes (reader least (f (es ++ p.expr ∷ []) (max d p.depth) ∷ above) Want)
  closes : (es : List Expr) (d : ℕ) (p : Part) (at : Span) → feed least (f es d ∷ above) p (Mark sign.CloseParen at) ≡ Goes (reader least above (Have (whole (es ++ p.expr ∷ []) (max d p.depth) at)))

call_lister : (least : ℕ) (above : List Frame) (function : NameAt) → Lister least above (λ es d. Call function es d) (λ es d at. call_part function es d at)
unfolding feed
call_lister least above function = record { low = λ es d. omega arith; comma = λ es d p at. refl; closes = λ es d p at. refl }

within_lister : (least : ℕ) (above : List Frame) (negated : Bool) (left : Part) → Lister least above (λ es d. Within negated left es d) (λ es d at. within_part negated left es d at)
unfolding feed
within_lister least above negated left = record { low = λ es d. omega arith; comma = λ es d p at. refl; closes = λ es d p at. refl }

-- the items are read, and then a comma or the end
record ReadsItems (w : List Lexeme) (es : List Expr) (d least : ℕ) (above : List Frame) (f : List Expr → ℕ → Frame) (whole : List Expr → ℕ → Span → Part) : Type 0 where
  after : Reader
  walked : walk w (reader least (f [] 0 ∷ above) Want) ≡ Some after
  comma : (at : Span) → step after (Mark sign.Comma at) ≡ Goes (reader least (f es d ∷ above) Want)
  closes : (at : Span) → step after (Mark sign.CloseParen at) ≡ Goes (reader least above (Have (whole es d at)))

max_none : (d : ℕ) → max 0 d ≡ d
max_none d = omega arith

reads_first : {w : List Lexeme} {p : Part} {least : ℕ} {above : List Frame} {f : List Expr → ℕ → Frame} {whole : List Expr → ℕ → Span → Part} → Lister least above f whole
    → Reads 0 w least (f [] 0 ∷ above) p → ReadsItems w (p.expr ∷ []) p.depth least above f whole
reads_first {p = p} {least = least} {above = above} {f = f} {whole = whole} l r = record {
  after = r.after;
  walked = r.walked;
  comma = λ at. r.agrees _ (none_stops 0 _ refl tt) ∙ l.comma [] 0 p at ∙ ap (λ d. Goes (reader least (f (p.expr ∷ []) d ∷ above) Want)) (max_none p.depth);
  closes = λ at. r.agrees _ (none_stops 0 _ refl tt) ∙ l.closes [] 0 p at ∙ ap (λ d. Goes (reader least above (Have (whole (p.expr ∷ []) d at)))) (max_none p.depth);
}

reads_next : {w v : List Lexeme} {es : List Expr} {d : ℕ} {p : Part} {least : ℕ} {above : List Frame} {f : List Expr → ℕ → Frame} {whole : List Expr → ℕ → Span → Part} → Lister least above f whole
    → (comma : Span) → ReadsItems w es d least above f whole → Reads 0 v least (f es d ∷ above) p → ReadsItems (w ++ Mark sign.Comma comma ∷ v) (es ++ p.expr ∷ []) (max d p.depth) least above f whole
reads_next {w} {v} {es} {d} {p} l comma i r = record {
  after = r.after;
  walked = walk_from w (Mark sign.Comma comma ∷ v) _ i.after i.walked ∙ walk_on _ v i.after _ (i.comma comma) ∙ r.walked;
  comma = λ at. r.agrees _ (none_stops 0 _ refl tt) ∙ l.comma es d p at;
  closes = λ at. r.agrees _ (none_stops 0 _ refl tt) ∙ l.closes es d p at;
}

-- the items and what ends them
reads_closed : {w : List Lexeme} {es : List Expr} {d : ℕ} {least : ℕ} {above : List Frame} {f : List Expr → ℕ → Frame} {whole : List Expr → ℕ → Span → Part} → ReadsItems w es d least above f whole
    → (at : Span) → walk (w ++ Mark sign.CloseParen at ∷ []) (reader least (f [] 0 ∷ above) Want) ≡ Some (reader least above (Have (whole es d at)))
reads_closed {w} i at = walk_from w (Mark sign.CloseParen at ∷ []) _ i.after i.walked ∙ walk_on _ [] i.after _ (i.closes at)

reads_group : {w : List Lexeme} {p : Part} {least : ℕ} {frames : List Frame} (opening closing : Span) → Reads 0 w least (Group opening ∷ frames) p
    → Reads 8 (Mark sign.OpenParen opening ∷ (w ++ Mark sign.CloseParen closing ∷ [])) least frames (group_part opening p closing)
unfolding feed
reads_group {w} opening closing r = stands (walk_from w (Mark sign.CloseParen closing ∷ []) _ r.after r.walked ∙ walk_on _ [] r.after _ (r.agrees _ (none_stops 0 _ refl tt)))

reads_minus : {w : List Lexeme} {p : Part} {least : ℕ} {frames : List Frame} (minus : Span) → hole least frames ≤ 6 → Reads 6 w least (Minus minus ∷ frames) p
    → Reads 6 (Mark sign.Minus minus ∷ w) least frames (minus_part minus p)
unfolding close
reads_minus {w} {p} {least} {frames} minus h r = record {
  after = r.after;
  walked = walk_on (Mark sign.Minus minus) w (reader least frames Want) _ (begin_minus least frames minus h) ∙ r.walked;
  agrees = λ x s. r.agrees x s ∙ leaves 5 least (Minus minus ∷ frames) p x (omega arith) (record { at_most = λ o e. not_six o (s.at_most o e); follows = s.follows });
}

reads_not : {w : List Lexeme} {p : Part} {least : ℕ} {frames : List Frame} (not : Span) → hole least frames ≤ 2 → Reads 2 w least (Not not ∷ frames) p
    → Reads 2 (Word word.Not not ∷ w) least frames (not_part not p)
unfolding close
reads_not {w} {p} {least} {frames} not h r = record {
  after = r.after;
  walked = walk_on (Word word.Not not) w (reader least frames Want) _ (begin_not least frames not h) ∙ r.walked;
  agrees = λ x s. r.agrees x s ∙ leaves 1 least (Not not ∷ frames) p x (omega arith) (record { at_most = λ o e. not_two o (s.at_most o e); follows = s.follows });
}

reads_binary : {w v : List Lexeme} {p q : Part} {least : ℕ} {frames : List Frame} (op : BinaryOp) (at : Span) → left_of op ≤ p.line → hole least frames ≤ line_of op
    → Reads (left_of op) w least frames p → Reads (right_of op) v least (Binary op p ∷ frames) q → Reads (line_of op) (w ++ operator op at ∷ v) least frames (binary_part op p q)
unfolding close
reads_binary {w} {v} {p} {q} {least} {frames} op at k h r s =
    let lt = line_right op in
    record {
      after = s.after;
      walked = opens_after r (Infix op) (operator op at) (opener_operator op at) (operator_follows op at) (line_left op) k h v ∙ s.walked;
      agrees = λ x t. s.agrees x (stops_wider (omega arith) t) ∙ leaves (line_of op) least (Binary op p ∷ frames) q x lt t;
    }

reads_cast : {w : List Lexeme} {p : Part} {x : Lexeme} {kind : NameAt} {least : ℕ} {frames : List Frame} (cast : Span) → 7 ≤ p.line → hole least frames ≤ 7 → IsKindName x kind
    → Reads 7 w least frames p → Reads 7 (w ++ Mark sign.Cast cast ∷ x ∷ []) least frames (cast_part p kind)
reads_cast {p = p} {x = x} {least = least} {frames = frames} cast k h i r =
    stands (opens_after r Cast (Mark sign.Cast cast) refl tt (omega arith) k h (x ∷ []) ∙ walk_on x [] (reader least frames (Casting p)) _ (casts i least frames p))

reads_in : {n : Bool} {m w v : List Lexeme} {p : Part} {es : List Expr} {d least : ℕ} {frames : List Frame} (opening closing : Span) → InWords n m → 4 ≤ p.line → hole least frames ≤ 3
    → Reads 4 w least frames p → ReadsItems v es d least frames (λ items e. Within n p items e) (λ items e at. within_part n p items e at)
    → Reads 3 (w ++ (m ++ Mark sign.OpenParen opening ∷ (v ++ Mark sign.CloseParen closing ∷ []))) least frames (within_part n p es d closing)
reads_in opening closing (in_word at) k h r i =
    stands (opens_after r In (Word word.In at) refl tt (omega arith) k h _ ∙ reads_closed i closing)
reads_in opening closing (not_in_words not at) k h r i =
    stands (opens_after r Denial (Word word.Not not) refl tt (omega arith) k h _ ∙ reads_closed i closing)

reads_like : {n regex : Bool} {m w : List Lexeme} {p : Part} {least : ℕ} {frames : List Frame} (pattern : TextAt) → LikeWords n regex m → 4 ≤ p.line → hole least frames ≤ 3
    → Reads 4 w least frames p → Reads 3 (w ++ (m ++ Text pattern ∷ [])) least frames (like_part n regex p pattern)
reads_like pattern (likes (like_word at)) k h r = stands (opens_after r (Like false) (Word word.Like at) refl tt (omega arith) k h (Text pattern ∷ []))
reads_like pattern (likes (rlike_word at)) k h r = stands (opens_after r (Like true) (Word word.Rlike at) refl tt (omega arith) k h (Text pattern ∷ []))
reads_like pattern (not_likes not (like_word at)) k h r = stands (opens_after r Denial (Word word.Not not) refl tt (omega arith) k h (Word word.Like at ∷ Text pattern ∷ []))
reads_like pattern (not_likes not (rlike_word at)) k h r = stands (opens_after r Denial (Word word.Not not) refl tt (omega arith) k h (Word word.Rlike at ∷ Text pattern ∷ []))

reads_is : {n : Bool} {m w : List Lexeme} {p : Part} {null : Span} {least : ℕ} {frames : List Frame} → IsWords n m null → 4 ≤ p.line → hole least frames ≤ 3
    → Reads 4 w least frames p → Reads 3 (w ++ m) least frames (is_null_part n p null)
reads_is (is_words is null) k h r = stands (opens_after r Is (Word word.Is is) refl tt (omega arith) k h (Word word.Null null ∷ []))
reads_is (is_not_words is not null) k h r = stands (opens_after r Is (Word word.Is is) refl tt (omega arith) k h (Word word.Not not ∷ Word word.Null null ∷ []))

mutual
  -- the lexemes of a phrase are read as its expression
  pub reads : {n : ℕ} {w : List Lexeme} {p : Part} → Phrase n w p → (least : ℕ) (frames : List Frame) → hole least frames ≤ n → Reads n w least frames p
  reads (looser p) least frames h =
      let r = reads p least frames (omega arith) in
      record { after = r.after; walked = r.walked; agrees = λ x s. r.agrees x (stops_wider (omega arith) s) }
  reads (number_line number at) least frames h = stands refl
  reads (text_line text) least frames h = stands refl
  reads (true_line at) least frames h = stands refl
  reads (false_line at) least frames h = stands refl
  reads (null_line at) least frames h = stands refl
  reads (list_line opening closing {w = w} vs) least frames h = stands (walk_from w (Mark sign.CloseBracket closing ∷ []) _ _ (reads_literals vs least frames opening))
  reads (name_line name) least frames h = reads_name name least frames
  reads (group_line opening closing p) least frames h = reads_group opening closing (reads p least (Group opening ∷ frames) (omega arith))
  reads (empty_line function opening closing) least frames h = stands refl
  reads (star_line function opening star closing) least frames h = stands refl
  reads (call_line function opening closing es) least frames h =
      stands (called_walks (begins_items es) least frames function (Mark sign.CloseParen closing ∷ []) ∙ reads_closed (reads_items es least frames _ _ (call_lister least frames function)) closing)
  reads (cast_line cast p kind) least frames h = reads_cast cast (line_of_phrase p) h kind (reads p least frames h)
  reads (minus_line minus p) least frames h = reads_minus minus h (reads p least (Minus minus ∷ frames) (omega arith))
  reads (not_line not p) least frames h = reads_not not h (reads p least (Not not ∷ frames) (omega arith))
  reads (binary_line op at {p = a} p q) least frames h =
      let le = line_left op in
      reads_binary op at (line_of_phrase p) h (reads p least frames (omega arith)) (reads q least (Binary op a ∷ frames) (omega arith))
  reads (in_line opening closing {n = n} {p = a} m p es) least frames h =
      reads_in opening closing m (line_of_phrase p) h (reads p least frames (omega arith)) (reads_items es least frames _ _ (within_lister least frames n a))
  reads (like_line pattern m p) least frames h = reads_like pattern m (line_of_phrase p) h (reads p least frames (omega arith))
  reads (is_line m p) least frames h = reads_is m (line_of_phrase p) h (reads p least frames (omega arith))

  reads_items : {w : List Lexeme} {es : List Expr} {d : ℕ} → Items w es d → (least : ℕ) (above : List Frame) (f : List Expr → ℕ → Frame) (whole : List Expr → ℕ → Span → Part)
      → Lister least above f whole → ReadsItems w es d least above f whole
  reads_items (one_item p) least above f whole l = reads_first l (reads p least (f [] 0 ∷ above) (l.low [] 0))
  reads_items (next_item comma {es = es} {d = d} i p) least above f whole l =
      reads_next l comma (reads_items i least above f whole l) (reads p least (f es d ∷ above) (l.low es d))
