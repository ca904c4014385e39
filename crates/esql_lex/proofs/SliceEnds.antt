-- How slices end, and of what kind they are.
use Rattle.std.proofs.Common.{◌≡◌, ℕ, suc, ◌+◌, ◌<◌, Bool, true, false, ◌&&◌, ◌||◌, cond, ◌⊎◌, inl, inr, List, [], ◌∷◌, ◌++◌, length, Option, Some, None, refl, sym, ap, ◌∙◌, subst, arith}
use Rattle.std.specs.Prelude.{◌==◌, pos, eqb}
use Rattle.std.specs.List.{list_all}
use Rattle.std.specs.Option.{option_map}
use Rattle.std.specs.Char.{is_ascii_digit}
use Rattle.std.proofs.lemmas.Bool.{false≢true, cases_Bool}
use Rattle.esql_lex.specs.declared.token.Reserved.{Reserved}
use Rattle.esql_lex.specs.declared.token.Sign.{Sign as SignMark}
use Rattle.esql_lex.specs.declared.token.TokenKind.{TokenKind}
use Rattle.esql_lex.specs.declared.token.TokenKind.TheVariants.{Number, Sign, End, QuotedName, Text, Pattern as PatternToken, Source as SourceToken}
use Rattle.esql_lex.specs.declared.mode.Mode.{Mode}
use Rattle.esql_lex.specs.declared.mode.Mode.TheVariants.{Plain, Source, Pattern}
use Rattle.esql_lex.specs.declared.body.Body.TheVariants.{OfName}
use Rattle.esql_lex.specs.Words.{reserved_of, short_sign, long_sign, separator}
use Rattle.esql_lex.specs.Gaps.{begins_comment, end_of, begins}
use Rattle.esql_lex.specs.Forms.{form_of, form_at, plain_form, source_form, pattern_form, kind_if, begins_name, continues_name, word_kind, word_or_name, value_of, sign_of, separator_of, is_body, begins_long, is_quoted, closes_name, closes_text, is_long_text, has_length, is_escaped, is_literal, begins_source, continues_source, is_in_pattern}
use Rattle.esql_lex.proofs.Lists.{both_true}
use Rattle.esql_lex.proofs.Slices.{chosen, given, name_form, number_form, quoted_form, text_form, sign_form, run_source_form, mark_source_form, run_pattern_form, quoted_pattern_form, mark_pattern_form}

-- the last character
abbrev pub last_or : ℕ → List ℕ → ℕ
last_or d [] = d
last_or d (x ∷ xs) = last_or x xs

pub last_of_push : (xs : List ℕ) (d c : ℕ) → last_or d (xs ++ c ∷ []) ≡ c
last_of_push [] d c = refl
last_of_push (x ∷ xs) d c = last_of_push xs x c

last_in_run : (p : ℕ → Bool) (cs : List ℕ) (d : ℕ) → ((c : ℕ) → p c ≡ true → c < 128) → d < 128 → list_all p cs ≡ true → last_or d cs < 128
last_in_run p [] d ascii first all = first
last_in_run p (c ∷ cs) d ascii first all = let b : (p c ≡ true) × (list_all p cs ≡ true) = both_true (p c) (list_all p cs) all in last_in_run p cs c ascii (ascii c b.0) b.1

begins_ascii : (c : ℕ) → begins_name c ≡ true → c < 128
begins_ascii c e = grind arith

continues_ascii : (c : ℕ) → continues_name c ≡ true → c < 128
continues_ascii c e = grind arith

digit_ascii : (c : ℕ) → is_ascii_digit c ≡ true → c < 128
digit_ascii c e = grind arith

source_begins_ascii : (c : ℕ) → begins_source c ≡ true → c < 128
source_begins_ascii c e = grind arith

source_ascii : (c : ℕ) → continues_source c ≡ true → c < 128
source_ascii c e = grind arith

pattern_ascii : (c : ℕ) → is_in_pattern c ≡ true → c < 128
pattern_ascii c e = grind arith

short_ascii : (c : ℕ) (sign : SignMark) → short_sign c ≡ Some sign → c < 128
unfolding short_sign
short_ascii c sign e = grind arith

long_ascii : (c d : ℕ) (sign : SignMark) → long_sign c d ≡ Some sign → d < 128
unfolding long_sign
long_ascii c d sign e = grind arith

separator_ascii : (c : ℕ) (sign : SignMark) → separator c ≡ Some sign → c < 128
unfolding separator
separator_ascii c sign e = grind arith

name_pair : (a f s : Bool) (p q : Bool) (d : ℕ) (last : ℕ) → cond a (f && p) (s && q) ≡ true → (f ≡ true → d < 128) → (p ≡ true → d < 128 → last < 128) → (q ≡ true → last < 128) → last < 128
name_pair true f s p q d last e g h k = let b : (f ≡ true) × (p ≡ true) = both_true f p e in h b.1 (g b.0)
name_pair false f s p q d last e g h k = k (both_true s q e).1

name_last : (cs : List ℕ) (d : ℕ) → d < 128 → is_body OfName cs ≡ true → last_or d cs < 128
name_last [] d l e = l
name_last (c ∷ []) d l e = continues_ascii c e
name_last (c ∷ f ∷ cs) d l e =
    name_pair (c == 46) (begins_name f) (continues_name c) (is_body OfName cs) (is_body OfName (f ∷ cs)) f (last_or f cs) e (begins_ascii f) (λ p m. name_last cs f m p) (λ q. name_last (f ∷ cs) d l q)

quoted_pair : (a b : Bool) (p q : Bool) (last : ℕ) → cond a (b && p) q ≡ true → (p ≡ true → last ≡ 96) → (q ≡ true → last ≡ 96) → last ≡ 96
quoted_pair true b p q last e g h = g (both_true b p e).1
quoted_pair false b p q last e g h = h e

quoted_last : (cs : List ℕ) (d : ℕ) → closes_name cs ≡ true → last_or d cs ≡ 96
quoted_last [] d e = absurd (false≢true e)
quoted_last (c ∷ []) d e = grind arith
quoted_last (c ∷ f ∷ cs) d e = quoted_pair (c == 96) (f == 96) (closes_name cs) (closes_name (f ∷ cs)) (last_or f cs) e (quoted_last cs f) (quoted_last (f ∷ cs) d)

is_quoted_last : (cs : List ℕ) (d : ℕ) → is_quoted cs ≡ true → last_or d cs ≡ 96
is_quoted_last [] d e = absurd (false≢true e)
is_quoted_last (c ∷ []) d e = absurd (false≢true e)
is_quoted_last (c ∷ f ∷ cs) d e = quoted_last (c ∷ f ∷ cs) d e

text_pair : (a f s : Bool) (p q : Bool) (last : ℕ) → cond a (f && p) (s && q) ≡ true → (p ≡ true → last ≡ 34) → (q ≡ true → last ≡ 34) → last ≡ 34
text_pair true f s p q last e g h = g (both_true f p e).1
text_pair false f s p q last e g h = h (both_true s q e).1

text_last : (cs : List ℕ) (d : ℕ) → closes_text cs ≡ true → last_or d cs ≡ 34
text_last [] d e = absurd (false≢true e)
text_last (c ∷ []) d e = grind arith
text_last (c ∷ f ∷ cs) d e = text_pair (c == 92) (is_escaped f) (is_literal c) (closes_text cs) (closes_text (f ∷ cs)) (last_or f cs) e (text_last cs f) (text_last (f ∷ cs) d)

-- a text that three quotes end
equal_last : (m n : ℕ) → (m == n) ≡ true → m ≡ n
equal_last m n e = grind arith

marked_last : (c : ℕ) (cs : List ℕ) (d : ℕ) → begins (34 ∷ 34 ∷ 34 ∷ []) (c ∷ cs) ≡ true → 3 ≡ length (c ∷ cs) → last_or d (c ∷ cs) ≡ 34
marked_last c [] d b l = absurd (omega (arith, l))
marked_last c (f ∷ []) d b l = absurd (omega (arith, l))
marked_last c (f ∷ g ∷ []) d b l = let t : eqb 34 g ≡ true = (both_true (eqb 34 g) true (both_true (eqb 34 f) (eqb 34 g && true) (both_true (eqb 34 c) (eqb 34 f && (eqb 34 g && true)) b).1).1).0 in grind arith
marked_last c (f ∷ g ∷ h ∷ cs) d b l = absurd (omega (arith, l))

one_less : (o : Option ℕ) (n : ℕ) → option_map (λ m. 1 + m) o ≡ Some (suc n) → o ≡ Some n
one_less None n e = cc
one_less (Some m) n e = let same : 1 + m ≡ suc n = cc in let k : m ≡ n = omega (arith, same) in ap Some k

or_second : (a b : Bool) → b ≡ true → (a || b) ≡ true
or_second true b e = refl
or_second false b e = e

long_step : (c : ℕ) (cs : List ℕ) (d : ℕ) (b : Bool) → begins (34 ∷ 34 ∷ 34 ∷ []) (c ∷ cs) ≡ b
    → ((x : ℕ) → end_of (34 ∷ 34 ∷ 34 ∷ []) cs ≡ Some (length cs) → last_or x cs ≡ 34)
    → cond b (Some 3) (option_map (λ n. 1 + n) (end_of (34 ∷ 34 ∷ 34 ∷ []) cs)) ≡ Some (length (c ∷ cs)) → last_or d (c ∷ cs) ≡ 34
long_step c cs d true b ih e = let l : 3 ≡ length (c ∷ cs) = cc in marked_last c cs d b l
long_step c cs d false b ih e = ih c (one_less (end_of (34 ∷ 34 ∷ 34 ∷ []) cs) (length cs) e)

long_last : (cs : List ℕ) (d : ℕ) → end_of (34 ∷ 34 ∷ 34 ∷ []) cs ≡ Some (length cs) → last_or d cs ≡ 34
long_last [] d e = cc
long_last (c ∷ cs) d e = long_step c cs d _ refl (long_last cs) e

sized : (size : ℕ) (o : Option ℕ) → has_length size o ≡ true → o ≡ Some size
sized size None e = absurd (false≢true e)
sized size (Some n) e = ap Some (equal_last n size e)

three_less : (o : Option ℕ) (n : ℕ) → option_map (λ m. 3 + m) o ≡ Some (suc (suc (suc n))) → o ≡ Some n
three_less None n e = cc
three_less (Some m) n e = let same : 3 + m ≡ suc (suc (suc n)) = cc in let k : m ≡ n = omega (arith, same) in ap Some k

long_text_last : (slice : List ℕ) (d : ℕ) → is_long_text slice ≡ true → last_or d slice ≡ 34
long_text_last [] d e = absurd (false≢true e)
long_text_last (a ∷ []) d e = absurd (false≢true e)
long_text_last (a ∷ b ∷ []) d e = absurd (false≢true e)
long_text_last (a ∷ b ∷ c ∷ cs) d e =
    let s : (begins_long (a ∷ b ∷ c ∷ cs) ≡ true) × (has_length (length (a ∷ b ∷ c ∷ cs)) (option_map (λ n. 3 + n) (end_of (34 ∷ 34 ∷ 34 ∷ []) cs)) ≡ true) = both_true _ _ e in
    long_last cs c (three_less (end_of (34 ∷ 34 ∷ 34 ∷ []) cs) (length cs) (sized _ _ s.1))

mapped : (o : Option SignMark) (kind : TokenKind) → option_map Sign o ≡ Some kind → (sign : SignMark) × (o ≡ Some sign) × (Sign sign ≡ kind)
mapped None kind e = cc
mapped (Some sign) kind e = (sign, refl, (let same : Sign sign ≡ kind = cc in same))

-- a slice of a form ends in ASCII and is no end
pub record IsSlice (c : ℕ) (cs : List ℕ) (kind : TokenKind) : Type 0 where
  pub ascii : last_or c cs < 128
  pub no_end : kind ≡ End → ⊥

sign_slice : (c : ℕ) (cs : List ℕ) (kind : TokenKind) → sign_of c cs ≡ Some kind → IsSlice c cs kind
sign_slice c [] kind e =
    let m : (sign : SignMark) × (short_sign c ≡ Some sign) × (Sign sign ≡ kind) = mapped (short_sign c) kind e in
    record { ascii = short_ascii c m.0 m.1; no_end = λ end. let clash : Sign m.0 ≡ End = m.2 ∙ end in cc }
sign_slice c (d ∷ []) kind e =
    let m : (sign : SignMark) × (long_sign c d ≡ Some sign) × (Sign sign ≡ kind) = mapped (long_sign c d) kind e in
    record { ascii = long_ascii c d m.0 m.1; no_end = λ end. let clash : Sign m.0 ≡ End = m.2 ∙ end in cc }
sign_slice c (d ∷ f ∷ cs) kind e = cc

separator_slice : (c : ℕ) (cs : List ℕ) (kind : TokenKind) → separator_of c cs ≡ Some kind → IsSlice c cs kind
separator_slice c [] kind e =
    let m : (sign : SignMark) × (separator c ≡ Some sign) × (Sign sign ≡ kind) = mapped (separator c) kind e in
    record { ascii = separator_ascii c m.0 m.1; no_end = λ end. let clash : Sign m.0 ≡ End = m.2 ∙ end in cc }
separator_slice c (d ∷ cs) kind e = cc

word_no_end : (word : Option Reserved) (kind : TokenKind) → word_kind word ≡ kind → kind ≡ End → ⊥
word_no_end None kind e end = cc
word_no_end (Some word) kind e end = cc

quoted_slice : (c : ℕ) (cs : List ℕ) (kind : TokenKind) → kind_if (is_quoted cs) QuotedName ≡ Some kind → IsSlice c cs kind
quoted_slice c cs kind e =
    let last : last_or c cs ≡ 96 = is_quoted_last cs c (chosen _ _ _ e) in
    let is : QuotedName ≡ kind = given _ _ _ e in
    record { ascii = omega (arith, last); no_end = λ end. let clash : QuotedName ≡ End = is ∙ end in cc }

either : (a b : Bool) → (a || b) ≡ true → (a ≡ true) ⊎ (b ≡ true)
either true b e = inl refl
either false b e = inr e

text_slice : (c : ℕ) (cs : List ℕ) (kind : TokenKind) → kind_if (closes_text cs || is_long_text (c ∷ cs)) Text ≡ Some kind → IsSlice c cs kind
text_slice c cs kind e =
    let last : last_or c cs ≡ 34 = elim (either (closes_text cs) (is_long_text (c ∷ cs)) (chosen _ _ _ e)) [ inl t ↦ text_last cs c t | inr t ↦ long_text_last (c ∷ cs) c t ] in
    let is : Text ≡ kind = given _ _ _ e in
    record { ascii = omega (arith, last); no_end = λ end. let clash : Text ≡ End = is ∙ end in cc }

run_slice : (p : ℕ → Bool) (c : ℕ) (cs : List ℕ) (one kind : TokenKind) → ((d : ℕ) → p d ≡ true → d < 128) → c < 128 → (one ≡ End → ⊥) → kind_if (list_all p cs) one ≡ Some kind → IsSlice c cs kind
run_slice p c cs one kind ascii first other e =
    let is : one ≡ kind = given _ _ _ e in
    record { ascii = last_in_run p cs c ascii first (chosen _ _ _ e); no_end = λ end. other (is ∙ end) }

plain_slice : (c : ℕ) (cs : List ℕ) (kind : TokenKind) → plain_form c cs ≡ Some kind → IsSlice c cs kind
plain_slice c cs kind e =
    elim (cases_Bool (begins_name c)) [
      | inl n ↦ (let f : kind_if (is_body OfName cs) (word_or_name (c ∷ cs)) ≡ Some kind = sym (name_form c cs n) ∙ e in
          record { ascii = name_last cs c (begins_ascii c n) (chosen _ _ _ f); no_end = word_no_end (reserved_of (c ∷ cs)) kind (given _ _ _ f) })
      | inr n ↦ elim (cases_Bool (is_ascii_digit c)) [
        | inl d ↦ run_slice is_ascii_digit c cs (Number (pos (value_of (c ∷ cs)))) kind digit_ascii (digit_ascii c d) (λ end. cc) (sym (number_form c cs n d) ∙ e)
        | inr d ↦ elim (cases_Bool (c == 96)) [
          | inl q ↦ (let same : 96 ≡ c = sym (equal_last c 96 q) in quoted_slice c cs kind (sym (subst (λ x. plain_form x cs ≡ kind_if (is_quoted cs) QuotedName) same (quoted_form cs)) ∙ e))
          | inr q ↦ elim (cases_Bool (c == 34)) [
            | inl t ↦ (let same : 34 ≡ c = sym (equal_last c 34 t) in text_slice c cs kind (sym (subst (λ x. plain_form x cs ≡ kind_if (closes_text cs || is_long_text (x ∷ cs)) Text) same (text_form cs)) ∙ e))
            | inr t ↦ sign_slice c cs kind (sym (sign_form c cs n d q t) ∙ e)
          ]
        ]
      ]
    ]

source_slice : (c : ℕ) (cs : List ℕ) (kind : TokenKind) → source_form c cs ≡ Some kind → IsSlice c cs kind
source_slice c cs kind e =
    elim (cases_Bool (begins_source c)) [
      | inl n ↦ run_slice continues_source c cs SourceToken kind source_ascii (source_begins_ascii c n) (λ end. cc) (sym (run_source_form c cs n) ∙ e)
      | inr n ↦ separator_slice c cs kind (sym (mark_source_form c cs n) ∙ e)
    ]

pattern_slice : (c : ℕ) (cs : List ℕ) (kind : TokenKind) → pattern_form c cs ≡ Some kind → IsSlice c cs kind
pattern_slice c cs kind e =
    elim (cases_Bool (is_in_pattern c)) [
      | inl n ↦ run_slice is_in_pattern c cs PatternToken kind pattern_ascii (pattern_ascii c n) (λ end. cc) (sym (run_pattern_form c cs n) ∙ e)
      | inr n ↦ elim (cases_Bool (c == 96)) [
        | inl q ↦ (let same : 96 ≡ c = sym (equal_last c 96 q) in quoted_slice c cs kind (sym (subst (λ x. pattern_form x cs ≡ kind_if (is_quoted cs) QuotedName) same (quoted_pattern_form cs)) ∙ e))
        | inr q ↦ separator_slice c cs kind (sym (mark_pattern_form c cs n q) ∙ e)
      ]
    ]

form_slice : (mode : Mode) (c : ℕ) (cs : List ℕ) (kind : TokenKind) → form_of mode (c ∷ cs) ≡ Some kind → IsSlice c cs kind
form_slice Plain c cs kind e = plain_slice c cs kind e
form_slice Source c cs kind e = source_slice c cs kind e
form_slice Pattern c cs kind e = pattern_slice c cs kind e

-- a text of the second form has a form in the plain mode
long_is_form : (slice : List ℕ) → is_long_text slice ≡ true → form_of Plain slice ≡ Some Text
long_is_form [] e = absurd (false≢true e)
long_is_form (a ∷ []) e = absurd (false≢true e)
long_is_form (a ∷ b ∷ []) e = absurd (false≢true e)
long_is_form (a ∷ b ∷ c ∷ cs) e =
    let s : (begins_long (a ∷ b ∷ c ∷ cs) ≡ true) × (has_length (length (a ∷ b ∷ c ∷ cs)) (option_map (λ n. 3 + n) (end_of (34 ∷ 34 ∷ 34 ∷ []) cs)) ≡ true) = both_true _ _ e in
    let first : ((a == 34) ≡ true) × ((b == 34) ≡ true) = both_true (a == 34) (b == 34) (both_true ((a == 34) && (b == 34)) (c == 34) s.0).0 in
    let same : a ≡ 34 = equal_last a 34 first.0 in
    let any : (closes_text (b ∷ c ∷ cs) || is_long_text (34 ∷ b ∷ c ∷ cs)) ≡ true = or_second _ _ (subst (λ x. is_long_text (x ∷ b ∷ c ∷ cs) ≡ true) same e) in
    subst (λ x. plain_form x (b ∷ c ∷ cs) ≡ Some Text) (sym same) (text_form (b ∷ c ∷ cs) ∙ ap (λ t. kind_if t Text) any)

form_cases : (a b : Bool) (mode : Mode) (slice : List ℕ) (kind : TokenKind) → (b ≡ true → is_long_text slice ≡ true → form_of mode slice ≡ Some Text)
    → cond a None (cond b (kind_if (is_long_text slice) Text) (form_of mode slice)) ≡ Some kind → form_of mode slice ≡ Some kind
form_cases true b mode slice kind h e = cc
form_cases false true mode slice kind h e = h refl (chosen _ _ _ e) ∙ ap Some (given _ _ _ e)
form_cases false false mode slice kind h e = e

-- a form at a place is a form of the mode
pub form_is : (mode : Mode) (text slice : List ℕ) (kind : TokenKind) → form_at mode text slice ≡ Some kind → form_of mode slice ≡ Some kind
unfolding form_at
form_is Plain text slice kind e = form_cases (begins_comment text) (begins_long text) Plain slice kind (λ b l. long_is_form slice l) e
form_is Source text slice kind e = form_cases (begins_comment text) false Source slice kind (λ b l. absurd (false≢true b)) e
form_is Pattern text slice kind e = form_cases (begins_comment text) false Pattern slice kind (λ b l. absurd (false≢true b)) e

empty_no_form : (mode : Mode) (kind : TokenKind) → form_of mode [] ≡ Some kind → ⊥
empty_no_form Plain kind e = cc
empty_no_form Source kind e = cc
empty_no_form Pattern kind e = cc

pub slice_ends_ascii : (mode : Mode) (text slice : List ℕ) (kind : TokenKind) (xs : List ℕ) (c : ℕ) → form_at mode text slice ≡ Some kind → slice ≡ xs ++ c ∷ [] → c < 128
slice_ends_ascii mode text [] kind xs c e cut = absurd (empty_no_form mode kind (form_is mode text [] kind e))
slice_ends_ascii mode text (b ∷ bs) kind xs c e cut =
    let s : IsSlice b bs kind = form_slice mode b bs kind (form_is mode text (b ∷ bs) kind e) in
    let last : last_or b bs ≡ c = ap (last_or 0) cut ∙ last_of_push xs 0 c in
    let ascii : last_or b bs < 128 = s.ascii in
    omega (arith, last, ascii)

pub slice_no_end : (mode : Mode) (text slice : List ℕ) (kind : TokenKind) → form_at mode text slice ≡ Some kind → kind ≡ End → ⊥
slice_no_end mode text [] kind e end = empty_no_form mode kind (form_is mode text [] kind e)
slice_no_end mode text (b ∷ bs) kind e end = (form_slice mode b bs kind (form_is mode text (b ∷ bs) kind e)).no_end end
