-- Laws of walks and of lines.
use Rattle.std.proofs.Common.{◌≡◌, ℕ, zero, suc, ◌+◌, ◌-◌, ◌<◌, ◌≤◌, Bool, true, false, ◌&&◌, List, [], ◌∷◌, ◌++◌, Option, Some, None, refl, sym, ◌∙◌, ap, subst, arith}
use Rattle.std.specs.Prelude.{nat_le, if◌then◌else◌}
use Rattle.std.proofs.lemmas.Bool.{le-leb}
use Rattle.std.proofs.lemmas.Bool.Decides.{nat_tests}
use Rattle.std.proofs.Math.Bool.{and-false}
use Rattle.esql_types.specs.declared.places.Span.{Span}
use Rattle.esql_lex.specs.declared.token.Reserved.{Reserved}
use Rattle.esql_lex.specs.declared.token.Reserved.TheVariants as word
use Rattle.esql_lex.specs.declared.token.Sign.{Sign}
use Rattle.esql_lex.specs.declared.token.Sign.TheVariants as sign
use Rattle.esql_ast.specs.declared.expr.BinaryOp.{BinaryOp}
use Rattle.esql_ast.specs.declared.expr.BinaryOp.TheVariants.{Add, Sub, Mul, Div, Mod, Eq, Ne, Lt, Le, Gt, Ge, And, Or}
use Rattle.esql_phrases.specs.declared.lexeme.Lexeme.{Lexeme}
use Rattle.esql_phrases.specs.declared.lexeme.Lexeme.TheVariants.{Word, Sign as Mark}
use Rattle.esql_phrases.specs.declared.part.Part.{Part}
use Rattle.esql_expr.specs.declared.machine.Frame.{Frame}
use Rattle.esql_expr.specs.declared.machine.Reader.{Reader}
use Rattle.esql_expr.specs.declared.machine.Stepped.TheVariants.{Goes}
use Rattle.esql_expr.specs.declared.machine.Opener.{Opener}
use Rattle.esql_expr.specs.declared.machine.Opener.TheVariants.{Infix, Not as Denial, In, Like, Is, Cast}
use Rattle.esql_phrases.specs.Parts.{line_of, left_of, right_of}
use Rattle.esql_phrases.specs.Phrases.{operator, LikeWord, like_word, rlike_word, Phrase, looser, number_line, text_line, true_line, false_line, null_line, list_line, name_line, group_line, empty_line, star_line, call_line, cast_line, minus_line, not_line, binary_line, in_line, like_line, is_line}
use Rattle.esql_expr.specs.Machine.{hole, word_opener, sign_opener, opener, operand_line, own_line, goes_to, opened_by, opened, or_closed, feed, close, step, going, and_then, walk}
use Rattle.esql_expr.proofs.Feeds.{feed_closes_or_opens}

pub and_then_assoc : {A B C : Type 0} (o : Option A) (f : A → Option B) (g : B → Option C) → and_then (and_then o f) g ≡ and_then o (λ a. and_then (f a) g)
and_then_assoc None f g = refl
and_then_assoc (Some a) f g = refl

pub and_then_same : {A B : Type 0} (o : Option A) (f g : A → Option B) → ((a : A) → f a ≡ g a) → and_then o f ≡ and_then o g
and_then_same None f g h = refl
and_then_same (Some a) f g h = h a

pub walk-append : (v w : List Lexeme) (from : Reader) → walk (v ++ w) from ≡ and_then (walk v from) (walk w)
walk-append [] w from = refl
walk-append (x ∷ v) w from = and_then_same (going (step from x)) _ _ (λ r. walk-append v w r) ∙ sym (and_then_assoc (going (step from x)) (walk v) (walk w))

pub le_true : (m n : ℕ) → m ≤ n → nat_le m n ≡ true
le_true m n h = le-leb m n h

pub lt_false : (m n : ℕ) → m < n → nat_le n m ≡ false
lt_false m n h = grind (arith, nat_tests)

pub opener_operator : (op : BinaryOp) (at : Span) → opener (operator op at) ≡ Some (Infix op)
opener_operator Or at = refl
opener_operator And at = refl
opener_operator Eq at = refl
opener_operator Ne at = refl
opener_operator Lt at = refl
opener_operator Le at = refl
opener_operator Gt at = refl
opener_operator Ge at = refl
opener_operator Add at = refl
opener_operator Sub at = refl
opener_operator Mul at = refl
opener_operator Div at = refl
opener_operator Mod at = refl

both : (a b : Bool) → a ≡ true → b ≡ true → (a && b) ≡ true
both a b e f = rw (e, f)

pub opens : (o : Opener) (x : Lexeme) (least : ℕ) (frames : List Frame) (part : Part) → opener x ≡ Some o → operand_line o ≤ part.line → hole least frames ≤ own_line o
    → opened least frames part x ≡ Some (goes_to o least frames part)
opens o x least frames part e h k =
    ap (λ r. opened_by r least frames part) e
    ∙ ap (λ b. if b then Some (goes_to o least frames part) else None) (both _ _ (le_true (operand_line o) part.line h) (le_true (hole least frames) (own_line o) k))

pub feed_opens : (least : ℕ) (frames : List Frame) (part : Part) (x : Lexeme) (to : Reader) → opened least frames part x ≡ Some to → feed least frames part x ≡ Goes to
feed_opens least frames part x to e = feed_closes_or_opens least frames part x ∙ ap (λ o. or_closed o (close least frames part x)) e

pub feed_closes : (least : ℕ) (frames : List Frame) (part : Part) (x : Lexeme) → opened least frames part x ≡ None → feed least frames part x ≡ close least frames part x
feed_closes least frames part x e = feed_closes_or_opens least frames part x ∙ ap (λ o. or_closed o (close least frames part x)) e

-- it may follow a name that is a column
abbrev pub NoParen : Lexeme → Type 0
NoParen (Mark sign.OpenParen at) = ⊥
NoParen _ = Unit {0}

-- no line below n goes on with the lexeme, and no name
pub record Stops (n : ℕ) (x : Lexeme) : Type 0 where
  pub at_most : (o : Opener) → opener x ≡ Some o → own_line o ≤ n
  pub follows : NoParen x

no_more : (o : Option Opener) (least : ℕ) (frames : List Frame) (part : Part) → ((p : Opener) → o ≡ Some p → own_line p < hole least frames) → opened_by o least frames part ≡ None
no_more None least frames part h = refl
no_more (Some o) least frames part h =
    ap (λ b. if b then Some (goes_to o least frames part) else None) (ap (λ b. nat_le (operand_line o) part.line && b) (lt_false (own_line o) (hole least frames) (h o refl)) ∙ and-false _)

-- what stops a line leaves it, where a tighter one is wanted
pub leaves : (n least : ℕ) (frames : List Frame) (part : Part) (x : Lexeme) → n < hole least frames → Stops n x → feed least frames part x ≡ close least frames part x
leaves n least frames part x h r = feed_closes least frames part x (no_more (opener x) least frames part (λ o e. let q = r.at_most o e in omega arith))

-- nothing goes on with it at all
pub leaves_all : (least : ℕ) (frames : List Frame) (part : Part) (x : Lexeme) → opener x ≡ None → feed least frames part x ≡ close least frames part x
leaves_all least frames part x e = feed_closes least frames part x (ap (λ o. opened_by o least frames part) e)

pub operator_follows : (op : BinaryOp) (at : Span) → NoParen (operator op at)
operator_follows Or at = tt
operator_follows And at = tt
operator_follows Eq at = tt
operator_follows Ne at = tt
operator_follows Lt at = tt
operator_follows Le at = tt
operator_follows Gt at = tt
operator_follows Ge at = tt
operator_follows Add at = tt
operator_follows Sub at = tt
operator_follows Mul at = tt
operator_follows Div at = tt
operator_follows Mod at = tt

pub stops_wider : {m n : ℕ} {x : Lexeme} → m ≤ n → Stops m x → Stops n x
stops_wider h r = record { at_most = λ o e. let q = r.at_most o e in omega arith; follows = r.follows }

pub none_stops : (n : ℕ) (x : Lexeme) → opener x ≡ None → NoParen x → Stops n x
none_stops n x h f = record { at_most = λ o e. cc; follows = f }

pub some_stops : (n : ℕ) (x : Lexeme) (o : Opener) → opener x ≡ Some o → own_line o ≤ n → NoParen x → Stops n x
some_stops n x o h le f = record { at_most = λ p e. (let same : o ≡ p = cc in subst (λ (q : Opener). own_line q ≤ n) same le); follows = f }

pub line_left : (op : BinaryOp) → line_of op ≤ left_of op
line_left Or = omega arith
line_left And = omega arith
line_left Eq = omega arith
line_left Ne = omega arith
line_left Lt = omega arith
line_left Le = omega arith
line_left Gt = omega arith
line_left Ge = omega arith
line_left Add = omega arith
line_left Sub = omega arith
line_left Mul = omega arith
line_left Div = omega arith
line_left Mod = omega arith

pub line_right : (op : BinaryOp) → line_of op < right_of op
line_right Or = omega arith
line_right And = omega arith
line_right Eq = omega arith
line_right Ne = omega arith
line_right Lt = omega arith
line_right Le = omega arith
line_right Gt = omega arith
line_right Ge = omega arith
line_right Add = omega arith
line_right Sub = omega arith
line_right Mul = omega arith
line_right Div = omega arith
line_right Mod = omega arith

word_operator : (w : Reserved) (at : Span) (op : BinaryOp) → word_opener w ≡ Some (Infix op) → Word w at ≡ operator op at
word_operator word.Or at op e = let e' : Or ≡ op = cc in ap (λ o. operator o at) e'
word_operator word.And at op e = let e' : And ≡ op = cc in ap (λ o. operator o at) e'
word_operator _ at op e = cc

sign_operator : (s : Sign) (at : Span) (op : BinaryOp) → sign_opener s ≡ Some (Infix op) → Mark s at ≡ operator op at
sign_operator sign.Equal at op e = let e' : Eq ≡ op = cc in ap (λ o. operator o at) e'
sign_operator sign.NotEqual at op e = let e' : Ne ≡ op = cc in ap (λ o. operator o at) e'
sign_operator sign.Less at op e = let e' : Lt ≡ op = cc in ap (λ o. operator o at) e'
sign_operator sign.LessEqual at op e = let e' : Le ≡ op = cc in ap (λ o. operator o at) e'
sign_operator sign.Greater at op e = let e' : Gt ≡ op = cc in ap (λ o. operator o at) e'
sign_operator sign.GreaterEqual at op e = let e' : Ge ≡ op = cc in ap (λ o. operator o at) e'
sign_operator sign.Plus at op e = let e' : Add ≡ op = cc in ap (λ o. operator o at) e'
sign_operator sign.Minus at op e = let e' : Sub ≡ op = cc in ap (λ o. operator o at) e'
sign_operator sign.Star at op e = let e' : Mul ≡ op = cc in ap (λ o. operator o at) e'
sign_operator sign.Slash at op e = let e' : Div ≡ op = cc in ap (λ o. operator o at) e'
sign_operator sign.Percent at op e = let e' : Mod ≡ op = cc in ap (λ o. operator o at) e'
sign_operator _ at op e = cc

-- which lexeme it is that opens so
pub operator_of : (x : Lexeme) (op : BinaryOp) → opener x ≡ Some (Infix op) → (at : Span) × (x ≡ operator op at)
operator_of (Word w at) op e = (at, word_operator w at op e)
operator_of (Mark s at) op e = (at, sign_operator s at op e)
operator_of _ op e = cc

word_denial : (w : Reserved) → word_opener w ≡ Some Denial → w ≡ word.Not
word_denial word.Not e = refl
word_denial _ e = cc

sign_denial : (s : Sign) → sign_opener s ≡ Some Denial → ⊥
sign_denial sign.Bar e = cc
sign_denial _ e = cc

pub denial_of : (x : Lexeme) → opener x ≡ Some Denial → (at : Span) × (x ≡ Word word.Not at)
denial_of (Word w at) e = (at, ap (λ v. Word v at) (word_denial w e))
denial_of (Mark s at) e = absurd (sign_denial s e)
denial_of _ e = cc

word_in : (w : Reserved) → word_opener w ≡ Some In → w ≡ word.In
word_in word.In e = refl
word_in _ e = cc

sign_in : (s : Sign) → sign_opener s ≡ Some In → ⊥
sign_in sign.Bar e = cc
sign_in _ e = cc

pub in_of : (x : Lexeme) → opener x ≡ Some In → (at : Span) × (x ≡ Word word.In at)
in_of (Word w at) e = (at, ap (λ v. Word v at) (word_in w e))
in_of (Mark s at) e = absurd (sign_in s e)
in_of _ e = cc

word_like : (w : Reserved) (at : Span) (regex : Bool) → word_opener w ≡ Some (Like regex) → LikeWord regex (Word w at)
word_like word.Like at regex e = let e' : false ≡ regex = cc in subst (λ b. LikeWord b (Word word.Like at)) e' (like_word at)
word_like word.Rlike at regex e = let e' : true ≡ regex = cc in subst (λ b. LikeWord b (Word word.Rlike at)) e' (rlike_word at)
word_like _ at regex e = cc

sign_like : (s : Sign) (regex : Bool) → sign_opener s ≡ Some (Like regex) → ⊥
sign_like sign.Bar regex e = cc
sign_like _ regex e = cc

pub like_of : (x : Lexeme) (regex : Bool) → opener x ≡ Some (Like regex) → LikeWord regex x
like_of (Word w at) regex e = word_like w at regex e
like_of (Mark s at) regex e = absurd (sign_like s regex e)
like_of _ regex e = cc

word_is : (w : Reserved) → word_opener w ≡ Some Is → w ≡ word.Is
word_is word.Is e = refl
word_is _ e = cc

sign_is : (s : Sign) → sign_opener s ≡ Some Is → ⊥
sign_is sign.Bar e = cc
sign_is _ e = cc

pub is_of : (x : Lexeme) → opener x ≡ Some Is → (at : Span) × (x ≡ Word word.Is at)
is_of (Word w at) e = (at, ap (λ v. Word v at) (word_is w e))
is_of (Mark s at) e = absurd (sign_is s e)
is_of _ e = cc

word_cast : (w : Reserved) → word_opener w ≡ Some Cast → ⊥
word_cast word.And e = cc
word_cast _ e = cc

sign_cast : (s : Sign) → sign_opener s ≡ Some Cast → s ≡ sign.Cast
sign_cast sign.Cast e = refl
sign_cast _ e = cc

pub cast_of : (x : Lexeme) → opener x ≡ Some Cast → (at : Span) × (x ≡ Mark sign.Cast at)
cast_of (Word w at) e = absurd (word_cast w e)
cast_of (Mark s at) e = (at, ap (λ v. Mark v at) (sign_cast s e))
cast_of _ e = cc
