-- Texts and names in quotes, and comments, that do not end.
use Rattle.std.proofs.Common.{◌≡◌, ℕ, suc, ◌+◌, Bool, true, false, ◌&&◌, ◌||◌, cond, ◌⊎◌, inl, inr, List, [], ◌∷◌, ◌++◌, drop, length, Some, None, refl, sym, ap, ◌∙◌, subst, arith}
use Rattle.std.specs.Prelude.{◌==◌, not, is_none}
use Rattle.std.proofs.lemmas.Bool.{false≢true, cases_Bool}
use Rattle.esql_lex.specs.declared.token.TokenKind.{TokenKind}
use Rattle.esql_lex.specs.declared.token.TokenKind.TheVariants.{Text}
use Rattle.esql_lex.specs.declared.mode.Mode.{Mode}
use Rattle.esql_lex.specs.declared.mode.Mode.TheVariants.{Plain, Source, Pattern}
use Rattle.esql_lex.specs.declared.body.Body.TheVariants.{OfText}
use Rattle.esql_lex.specs.Gaps.{begins_comment, begins_line, begins_block, comment_len, begins_open_comment}
use Rattle.esql_lex.specs.Forms.{form_at, kind_if, body_len, is_literal, is_escaped, closes_text, is_long_text, begins_long, begins_escape, bad_escape, bad_escape_at, opens_quote}
use Rattle.esql_lex.specs.Tokens.{HasNoSlice}
use Rattle.esql_lex.proofs.Lists.{both_true, drop_longer}
use Rattle.esql_lex.proofs.Slices.{empty_form, chosen, opens_nothing, plain_is, text_form}

-- no slice has a form where a comment begins
pub comment_no_form : (mode : Mode) (text slice : List ℕ) (kind : TokenKind) → begins_comment text ≡ true → form_at mode text slice ≡ Some kind → ⊥
unfolding form_at
comment_no_form mode text slice kind e f = let none : form_at mode text slice ≡ None = rw e refl in let clash : None ≡ Some kind = sym none ∙ f in cc

or_right : (a b : Bool) → b ≡ true → (a || b) ≡ true
or_right true b e = refl
or_right false b e = e

pub open_comment_begins : (text : List ℕ) → begins_open_comment text ≡ true → begins_comment text ≡ true
open_comment_begins text e = or_right (begins_line text) (begins_block text) (both_true (begins_block text) (is_none (comment_len text)) e).0

no_comment_at : (c : ℕ) (cs : List ℕ) → (c == 47) ≡ false → begins_comment (c ∷ cs) ≡ false
no_comment_at c [] e = refl
no_comment_at c (d ∷ cs) e = rw e refl

-- a quote begins no comment
pub opens_no_comment : (mode : Mode) (text : List ℕ) → opens_quote mode text ≡ true → begins_comment text ≡ false
opens_no_comment mode [] e = refl
opens_no_comment mode (c ∷ cs) e =
    elim (cases_Bool (c == 47)) [
      | inl s ↦ (let n : (c == 96) ≡ false = grind arith in let q : (c == 34) ≡ false = grind arith in absurd (false≢true (sym (opens_nothing mode c cs n q) ∙ e)))
      | inr s ↦ no_comment_at c cs s
    ]

some_if : (b : Bool) (x y : ℕ) → cond b (Some x) None ≡ Some y → (b ≡ true) × (x ≡ y)
some_if true x y e = (refl, cc)
some_if false x y e = cc

-- what a bad escape stands in
pub record IsBadEscape (c : ℕ) (cs : List ℕ) (offset : ℕ) : Type 0 where
  pub quote : (c == 34) ≡ true
  pub short : begins_long (c ∷ cs) ≡ false
  pub escape : begins_escape (drop (body_len OfText cs) cs) ≡ true
  pub place : offset ≡ 1 + body_len OfText cs

not_true : (b : Bool) → not b ≡ true → b ≡ false
not_true true e = absurd (false≢true e)
not_true false e = refl

pub bad_escape_is : (c : ℕ) (cs : List ℕ) (offset : ℕ) → bad_escape_at (c ∷ cs) ≡ Some offset → IsBadEscape c cs offset
bad_escape_is c cs offset e =
    let s : (((c == 34) && not (begins_long (c ∷ cs))) && begins_escape (drop (body_len OfText cs) cs)) ≡ true × (1 + body_len OfText cs ≡ offset) = some_if _ (1 + body_len OfText cs) offset e in
    let b : (((c == 34) && not (begins_long (c ∷ cs))) ≡ true) × (begins_escape (drop (body_len OfText cs) cs) ≡ true) = both_true _ _ s.0 in
    let q : ((c == 34) ≡ true) × (not (begins_long (c ∷ cs)) ≡ true) = both_true _ _ b.0 in
    record { quote = q.0; short = not_true _ q.1; escape = b.1; place = sym s.1 }

pub bad_escape_opens : (mode : Mode) (text : List ℕ) (offset : ℕ) → bad_escape mode text ≡ Some offset → opens_quote mode text ≡ true
bad_escape_opens Plain [] offset e = cc
bad_escape_opens Plain (c ∷ cs) offset e = rw (bad_escape_is c cs offset e).quote refl
bad_escape_opens Source text offset e = cc
bad_escape_opens Pattern text offset e = cc

-- where a text in quotes ends
pub record Stops (xs tail : List ℕ) : Type 0 where
  pub stop : drop (body_len OfText (xs ++ tail)) (xs ++ tail) ≡ 34 ∷ tail
  pub size : length xs ≡ 1 + body_len OfText (xs ++ tail)

drop_two : (n c d : ℕ) (cs : List ℕ) → drop (2 + n) (c ∷ d ∷ cs) ≡ drop n cs
drop_two n c d cs = let k : 2 + n ≡ suc (suc n) = omega arith in ap (λ m. drop m (c ∷ d ∷ cs)) k

stop_one : (c : ℕ) (tail : List ℕ) → c ≡ 34 → Stops (c ∷ []) tail
stop_one c [] e = rw e (record { stop = refl; size = refl })
stop_one c (d ∷ tail) e = rw e (record { stop = refl; size = refl })

stop_pair : (c d : ℕ) (cs tail : List ℕ) (a f s : Bool) → cond a (f && closes_text cs) (s && closes_text (d ∷ cs)) ≡ true
    → (closes_text cs ≡ true → Stops cs tail) → (closes_text (d ∷ cs) ≡ true → Stops (d ∷ cs) tail) → (n : ℕ)
    → n ≡ cond a (cond f (2 + body_len OfText (cs ++ tail)) 0) (cond s (1 + body_len OfText (d ∷ (cs ++ tail))) 0)
    → (drop n (c ∷ d ∷ (cs ++ tail)) ≡ 34 ∷ tail) × (2 + length cs ≡ 1 + n)
stop_pair c d cs tail true true s e g h n is =
    let t : Stops cs tail = g e in
    let size : length cs ≡ 1 + body_len OfText (cs ++ tail) = t.size in
    (ap (λ m. drop m (c ∷ d ∷ (cs ++ tail))) is ∙ drop_two _ c d (cs ++ tail) ∙ t.stop, omega (arith, size, is))
stop_pair c d cs tail true false s e g h n is = absurd (false≢true e)
stop_pair c d cs tail false f true e g h n is =
    let t : Stops (d ∷ cs) tail = h e in
    let size : suc (length cs) ≡ 1 + body_len OfText (d ∷ (cs ++ tail)) = t.size in
    (ap (λ m. drop m (c ∷ d ∷ (cs ++ tail))) is ∙ drop_longer _ c (d ∷ (cs ++ tail)) ∙ t.stop, omega (arith, size, is))
stop_pair c d cs tail false f false e g h n is = absurd (false≢true e)

equal_if : (c : ℕ) → (c == 34) ≡ true → c ≡ 34
equal_if c e = grind arith

pub text_stops : (xs tail : List ℕ) → closes_text xs ≡ true → Stops xs tail
text_stops [] tail e = absurd (false≢true e)
text_stops (c ∷ []) tail e = stop_one c tail (equal_if c e)
text_stops (c ∷ d ∷ cs) tail e =
    let p : (drop (body_len OfText (c ∷ d ∷ (cs ++ tail))) (c ∷ d ∷ (cs ++ tail)) ≡ 34 ∷ tail) × (2 + length cs ≡ 1 + body_len OfText (c ∷ d ∷ (cs ++ tail))) =
    stop_pair c d cs tail (c == 92) (is_escaped d) (is_literal c) e (text_stops cs tail) (text_stops (d ∷ cs) tail) (body_len OfText (c ∷ d ∷ (cs ++ tail))) refl in
    let size : 2 + length cs ≡ 1 + body_len OfText (c ∷ d ∷ (cs ++ tail)) = p.1 in
    record { stop = p.0; size = omega (arith, size) }

-- three quotes stand in front of what follows too
pub long_front : (slice tail : List ℕ) → begins_long slice ≡ true → begins_long (slice ++ tail) ≡ true
long_front [] tail e = absurd (false≢true e)
long_front (c ∷ []) tail e = absurd (false≢true e)
long_front (c ∷ d ∷ []) tail e = absurd (false≢true e)
long_front (c ∷ d ∷ f ∷ slice) tail e = e

either : (a b : Bool) → (a || b) ≡ true → (a ≡ true) ⊎ (b ≡ true)
either true b e = inl refl
either false b e = inr e

-- a text of the first form closes at the stop of its body
pub short_closes : (cs more tail : List ℕ) (kind : TokenKind) → begins_long (34 ∷ cs) ≡ false → cs ≡ more ++ tail → form_at Plain (34 ∷ cs) (34 ∷ more) ≡ Some kind → closes_text more ≡ true
short_closes cs more tail kind short cut has =
    let is : form_at Plain (34 ∷ cs) (34 ∷ more) ≡ kind_if (closes_text more || is_long_text (34 ∷ more)) Text = plain_is (34 ∷ cs) (34 ∷ more) (no_comment_at 34 cs refl) short ∙ text_form more in
    elim (either (closes_text more) (is_long_text (34 ∷ more)) (chosen _ _ _ (sym is ∙ has))) [
      | inl e ↦ e
      | inr e ↦ (let long : begins_long (34 ∷ more) ≡ true = (both_true (begins_long (34 ∷ more)) _ e).0 in
          let whole : begins_long (34 ∷ cs) ≡ true = subst (λ xs. begins_long (34 ∷ xs) ≡ true) (sym cut) (long_front (34 ∷ more) tail long) in
          absurd (false≢true (sym short ∙ whole)))
    ]

-- where the body of a text stops at no quote, no text stands
pub no_text : (cs more tail : List ℕ) (kind : TokenKind) → begins_long (34 ∷ cs) ≡ false → ((rest : List ℕ) → drop (body_len OfText cs) cs ≡ 34 ∷ rest → ⊥)
    → cs ≡ more ++ tail → form_at Plain (34 ∷ cs) (34 ∷ more) ≡ Some kind → ⊥
no_text cs more tail kind short stop cut has =
    let t : Stops more tail = text_stops more tail (short_closes cs more tail kind short cut has) in
    stop tail (subst (λ xs. drop (body_len OfText xs) xs ≡ 34 ∷ tail) (sym cut) t.stop)

escape_no_quote : (xs rest : List ℕ) → begins_escape xs ≡ true → xs ≡ 34 ∷ rest → ⊥
escape_no_quote xs rest e f = let g : false ≡ true = sym (ap begins_escape f) ∙ e in false≢true g

escape_no_slice : (c : ℕ) (cs slice after : List ℕ) (kind : TokenKind) (offset : ℕ) → IsBadEscape c cs offset → c ∷ cs ≡ slice ++ after → form_at Plain (c ∷ cs) slice ≡ Some kind → ⊥
escape_no_slice c cs [] after kind offset b cut has = empty_form Plain (c ∷ cs) kind has
escape_no_slice c cs (x ∷ more) after kind offset b cut has =
    let first : c ≡ 34 = equal_if c b.quote in
    let head : x ≡ c = cc in
    let rest : cs ≡ more ++ after = cc in
    let same : x ≡ 34 = head ∙ first in
    no_text cs more after kind (subst (λ y. begins_long (y ∷ cs) ≡ false) first b.short) (λ zs e. escape_no_quote _ zs b.escape e) rest
    (subst (λ y. form_at Plain (34 ∷ cs) (y ∷ more) ≡ Some kind) same (subst (λ y. form_at Plain (y ∷ cs) (x ∷ more) ≡ Some kind) first has))

pub bad_escape_no_slice : (mode : Mode) (text : List ℕ) (offset : ℕ) → bad_escape mode text ≡ Some offset → HasNoSlice (form_at mode text) text
bad_escape_no_slice Plain [] offset e slice after kind cut has = cc
bad_escape_no_slice Plain (c ∷ cs) offset e slice after kind cut has = escape_no_slice c cs slice after kind offset (bad_escape_is c cs offset e) cut has
bad_escape_no_slice Source text offset e slice after kind cut has = cc
bad_escape_no_slice Pattern text offset e slice after kind cut has = cc
