-- What stands at a place, by its first character.
use Rattle.std.proofs.Common.{◌≡◌, ℕ, ◌+◌, ◌-◌, ◌<◌, ◌≤◌, Bool, true, false, ◌||◌, cond, List, [], ◌∷◌, ◌++◌, take, drop, get_or, length, Option, Some, None, refl, sym, ap, ◌∙◌, subst, arith, append_assoc, length-append}
use Rattle.std.specs.Prelude.{ℤ, pos, ◌≤ℤ◌, ◌==◌}
use Rattle.std.specs.List.{list_all, prefix_len}
use Rattle.std.specs.Option.{option_map}
use Rattle.std.specs.Char.{is_ascii_digit}
use Rattle.std.proofs.lemmas.List.{take-append-drop, length-take-le, nil_from_length}
use Rattle.std.proofs.lemmas.List.Sums.{prefix_len-le-length}
use Rattle.esql_lex.specs.declared.token.Token.{Token}
use Rattle.esql_lex.specs.declared.token.TokenKind.{TokenKind}
use Rattle.esql_lex.specs.declared.token.TokenKind.TheVariants.{Number, Sign, QuotedName, Pattern as PatternToken, Source as SourceToken, Text}
use Rattle.esql_lex.specs.declared.error.LexError.TheVariants.{WideNumber, BadCharacter}
use Rattle.esql_lex.specs.declared.token.Reserved.{Reserved}
use Rattle.esql_lex.specs.declared.token.Sign.{Sign as SignMark}
use Rattle.esql_lex.specs.declared.mode.Mode.{Mode}
use Rattle.esql_lex.specs.declared.mode.Mode.TheVariants.{Plain, Source, Pattern}
use Rattle.esql_lex.specs.declared.body.Body.TheVariants.{OfName}
use Rattle.esql_lex.specs.Words.{reserved_of, short_sign, long_sign, long_sign_at}
use Rattle.esql_lex.specs.Gaps.{begins_comment}
use Rattle.esql_lex.specs.Forms.{form_of, form_at, plain_form, source_form, pattern_form, kind_if, begins_name, word_kind, word_or_name, value_of, sign_of, separator_of, is_body, body_len, begins_long, is_quoted, closes_text, is_long_text, begins_source, continues_source, is_in_pattern, opens_quote}
use Rattle.esql_lex.specs.Tokens.{IsLongest, HasNoSlice, BeginsWithSlice, BeginsWith, IsInRange, IsFaultAt}
use Rattle.esql_lex.proofs.Lists.{run_passes, take_longer, run_bound}
use Rattle.esql_lex.proofs.Bodies.{front_is_body, body_bound, len_within}

-- a slice of a form at the front is at most so long
abbrev pub IsBound : (List ℕ → Option TokenKind) → List ℕ → ℕ → Type 0
IsBound form text n = (slice tail : List ℕ) (kind : TokenKind) → text ≡ slice ++ tail → form slice ≡ Some kind → length slice ≤ n

front_longest : (form : List ℕ → Option TokenKind) (text : List ℕ) (n : ℕ) → n ≤ length text → IsBound form text n → IsLongest form (take n text) (drop n text)
front_longest form text n within bound more tail kind cut has =
    let whole : text ≡ (take n text ++ more) ++ tail = sym (take-append-drop n text) ∙ ap (λ xs. take n text ++ xs) cut ∙ sym (append_assoc (take n text) more tail) in
    let l : length (take n text ++ more) ≤ n = bound (take n text ++ more) tail kind whole has in
    let size : length (take n text ++ more) ≡ length (take n text) + length more = length-append (take n text) more in
    let front : length (take n text) ≡ n = length-take-le n text within in
    nil_from_length more (omega (arith, l, size, front))

pub begins_front : (form : List ℕ → Option TokenKind) (text : List ℕ) (n : ℕ) (kind : TokenKind) → n ≤ length text → form (take n text) ≡ Some kind → IsBound form text n
    → BeginsWithSlice form text (take n text) kind (drop n text)
begins_front form text n kind within has bound = record { cut = sym (take-append-drop n text); has_form = has; longest = front_longest form text n within bound }

-- a token with the kind and the length of the slice stands at its place
pub stands : (mode : Mode) (at : ℕ) (text : List ℕ) (n : ℕ) (kind : TokenKind) (token : Token)
    → n ≤ length text → form_at mode text (take n text) ≡ Some kind → IsBound (form_at mode text) text n → IsInRange kind
    → token ≡ record { kind = kind; span = record { from = at; to = at + n } }
    → BeginsWith mode at text token (drop (token.span.to - at) text)
stands mode at text n kind token within has bound fits e =
    let to : token.span.to ≡ at + n = ap (λ t. t.span.to) e in
    let count : n ≡ token.span.to - at = omega (arith, to) in
    let size : length (take n text) ≡ n = length-take-le n text within in
    let same_kind : kind ≡ token.kind = sym (ap (λ t. t.kind) e) in
    record {
      slice = take n text;
      begins = subst (λ k. BeginsWithSlice (form_at mode text) text (take n text) k (drop (token.span.to - at) text)) same_kind
          (subst (λ m. BeginsWithSlice (form_at mode text) text (take n text) kind (drop m text)) count (begins_front (form_at mode text) text n kind within has bound));
      in_range = subst IsInRange same_kind fits;
      from = ap (λ t. t.span.from) e;
      to = to ∙ ap (λ m. at + m) (sym size);
    }

-- bounds by the first character
pub tail_bound : (form : List ℕ → Option TokenKind) (c : ℕ) (cs : List ℕ) (m : ℕ)
    → ((more tail : List ℕ) (kind : TokenKind) → cs ≡ more ++ tail → form (c ∷ more) ≡ Some kind → length more ≤ m) → IsBound form (c ∷ cs) (1 + m)
tail_bound form c cs m h [] tail kind cut has = omega arith
tail_bound form c cs m h (x ∷ more) tail kind cut has =
    let head : c ≡ x = cc in
    let rest : cs ≡ more ++ tail = cc in
    let l : length more ≤ m = h more tail kind rest (ap (λ y. form (y ∷ more)) head ∙ has) in
    omega (arith, l)

pub no_slice : (form : List ℕ → Option TokenKind) (c : ℕ) (cs : List ℕ) → ((kind : TokenKind) → form [] ≡ Some kind → ⊥)
    → ((more tail : List ℕ) (kind : TokenKind) → cs ≡ more ++ tail → form (c ∷ more) ≡ Some kind → ⊥) → HasNoSlice form (c ∷ cs)
no_slice form c cs none h [] after kind cut has = none kind has
no_slice form c cs none h (x ∷ more) after kind cut has =
    let head : c ≡ x = cc in
    let rest : cs ≡ more ++ after = cc in
    h more after kind rest (ap (λ y. form (y ∷ more)) head ∙ has)

-- a choice that gives something was made
pub chosen : (b : Bool) (x y : TokenKind) → kind_if b x ≡ Some y → b ≡ true
chosen true x y e = refl
chosen false x y e = cc

pub given : (b : Bool) (x y : TokenKind) → kind_if b x ≡ Some y → x ≡ y
given true x y e = cc
given false x y e = cc

-- the forms in each mode
pub not_long : (c : ℕ) (cs : List ℕ) → (c == 34) ≡ false → begins_long (c ∷ cs) ≡ false
not_long c [] n = refl
not_long c (d ∷ []) n = refl
not_long c (d ∷ e ∷ rest) n = rw n refl

pub plain_is : (text slice : List ℕ) → begins_comment text ≡ false → begins_long text ≡ false → form_at Plain text slice ≡ form_of Plain slice
unfolding form_at
plain_is text slice e f = rw (e, f) refl

pub source_is : (text slice : List ℕ) → begins_comment text ≡ false → form_at Source text slice ≡ form_of Source slice
unfolding form_at
source_is text slice e = rw e refl

pub pattern_is : (text slice : List ℕ) → begins_comment text ≡ false → form_at Pattern text slice ≡ form_of Pattern slice
unfolding form_at
pattern_is text slice e = rw e refl

pub name_form : (c : ℕ) (cs : List ℕ) → begins_name c ≡ true → plain_form c cs ≡ kind_if (is_body OfName cs) (word_or_name (c ∷ cs))
unfolding plain_form
name_form c cs e = rw e refl

pub number_form : (c : ℕ) (cs : List ℕ) → begins_name c ≡ false → is_ascii_digit c ≡ true → plain_form c cs ≡ kind_if (list_all is_ascii_digit cs) (Number (pos (value_of (c ∷ cs))))
unfolding plain_form
number_form c cs e f = rw (e, f) refl

pub quoted_form : (cs : List ℕ) → plain_form 96 cs ≡ kind_if (is_quoted cs) QuotedName
unfolding plain_form
quoted_form cs = refl

pub text_form : (cs : List ℕ) → plain_form 34 cs ≡ kind_if (closes_text cs || is_long_text (34 ∷ cs)) Text
unfolding plain_form
text_form cs = refl

pub sign_form : (c : ℕ) (cs : List ℕ) → begins_name c ≡ false → is_ascii_digit c ≡ false → (c == 96) ≡ false → (c == 34) ≡ false → plain_form c cs ≡ sign_of c cs
unfolding plain_form
sign_form c cs e f g h = rw (e, f, g, h) refl

pub run_source_form : (c : ℕ) (cs : List ℕ) → begins_source c ≡ true → source_form c cs ≡ kind_if (list_all continues_source cs) SourceToken
unfolding source_form
run_source_form c cs e = rw e refl

pub mark_source_form : (c : ℕ) (cs : List ℕ) → begins_source c ≡ false → source_form c cs ≡ separator_of c cs
unfolding source_form
mark_source_form c cs e = rw e refl

pub run_pattern_form : (c : ℕ) (cs : List ℕ) → is_in_pattern c ≡ true → pattern_form c cs ≡ kind_if (list_all is_in_pattern cs) PatternToken
unfolding pattern_form
run_pattern_form c cs e = rw e refl

pub quoted_pattern_form : (cs : List ℕ) → pattern_form 96 cs ≡ kind_if (is_quoted cs) QuotedName
unfolding pattern_form
quoted_pattern_form cs = refl

pub mark_pattern_form : (c : ℕ) (cs : List ℕ) → is_in_pattern c ≡ false → (c == 96) ≡ false → pattern_form c cs ≡ separator_of c cs
unfolding pattern_form
mark_pattern_form c cs e f = rw (e, f) refl

-- the bound of a run that a test gives
run_more : (p : ℕ → Bool) (cs more tail : List ℕ) → cs ≡ more ++ tail → list_all p more ≡ true → length more ≤ prefix_len p cs
run_more p cs more tail cut all = subst (λ xs. length more ≤ prefix_len p xs) (sym cut) (run_bound p more tail all)

-- a word or name is a first character and a body
word_in_range : (word : Option Reserved) → IsInRange (word_kind word)
word_in_range None = tt
word_in_range (Some word) = tt

pub word_stands : (at : ℕ) (text : List ℕ) (len : ℕ) (token : Token) → 0 < length text → begins_comment text ≡ false → begins_name (get_or text 0 0) ≡ true
    → len ≡ 1 + body_len OfName (drop 1 text)
    → token ≡ record { kind = word_or_name (take len text); span = record { from = at; to = at + len } }
    → BeginsWith Plain at text token (drop (token.span.to - at) text)
word_stands at [] len token l g e size is = absurd (omega arith)
word_stands at (c ∷ cs) len token l g e size is =
    let n : ℕ = body_len OfName cs in
    let n_within : n ≤ length cs = len_within OfName cs in
    let no_quote : (c == 34) ≡ false = grind arith in
    let front : take len (c ∷ cs) ≡ c ∷ take n cs = ap (λ m. take m (c ∷ cs)) size ∙ take_longer n c cs in
    let form : (slice : List ℕ) → form_at Plain (c ∷ cs) (c ∷ slice) ≡ kind_if (is_body OfName slice) (word_or_name (c ∷ slice)) = λ slice. plain_is (c ∷ cs) (c ∷ slice) g (not_long c cs no_quote) ∙ name_form c slice e in
    let has : form_at Plain (c ∷ cs) (take len (c ∷ cs)) ≡ Some (word_or_name (take len (c ∷ cs))) =
    subst (λ xs. form_at Plain (c ∷ cs) xs ≡ Some (word_or_name xs)) (sym front) (form (take n cs) ∙ ap (λ b. kind_if b (word_or_name (c ∷ take n cs))) (front_is_body OfName cs)) in
    stands Plain at (c ∷ cs) len (word_or_name (take len (c ∷ cs))) token (omega (arith, size, n_within)) has
    (subst (IsBound (form_at Plain (c ∷ cs)) (c ∷ cs)) (sym size) (tail_bound (form_at Plain (c ∷ cs)) c cs n (λ more tail kind cut f.
    subst (λ xs. length more ≤ body_len OfName xs) (sym cut) (body_bound OfName more tail (chosen _ _ _ (sym (form more) ∙ f))))))
    (word_in_range (reserved_of (take len (c ∷ cs)))) is

-- a number is a run of digits
pub number_begins : (text : List ℕ) (len : ℕ) → 0 < length text → begins_comment text ≡ false → begins_name (get_or text 0 0) ≡ false → is_ascii_digit (get_or text 0 0) ≡ true
    → len ≡ prefix_len is_ascii_digit text
    → (len ≤ length text) × (form_at Plain text (take len text) ≡ Some (Number (pos (value_of (take len text))))) × IsBound (form_at Plain text) text len
number_begins [] len l g e f size = absurd (omega arith)
number_begins (c ∷ cs) len l g e f size =
    let n : ℕ = prefix_len is_ascii_digit cs in
    let within : n ≤ length cs = prefix_len-le-length is_ascii_digit cs in
    let more : len ≡ 1 + n = size ∙ ap (λ b. cond b (1 + n) 0) f in
    let no_quote : (c == 34) ≡ false = grind arith in
    let front : take len (c ∷ cs) ≡ c ∷ take n cs = ap (λ m. take m (c ∷ cs)) more ∙ take_longer n c cs in
    let form : (slice : List ℕ) → form_at Plain (c ∷ cs) (c ∷ slice) ≡ kind_if (list_all is_ascii_digit slice) (Number (pos (value_of (c ∷ slice)))) = λ slice. plain_is (c ∷ cs) (c ∷ slice) g (not_long c cs no_quote) ∙ number_form c slice e f in
    let has : form_at Plain (c ∷ cs) (take len (c ∷ cs)) ≡ Some (Number (pos (value_of (take len (c ∷ cs))))) =
    subst (λ xs. form_at Plain (c ∷ cs) xs ≡ Some (Number (pos (value_of xs)))) (sym front) (form (take n cs) ∙ ap (λ b. kind_if b (Number (pos (value_of (c ∷ take n cs))))) (run_passes is_ascii_digit cs)) in
    (omega (arith, more, within), has, subst (IsBound (form_at Plain (c ∷ cs)) (c ∷ cs)) (sym more) (tail_bound (form_at Plain (c ∷ cs)) c cs n (λ xs tail kind cut h. run_more is_ascii_digit cs xs tail cut (chosen _ _ _ (sym (form xs) ∙ h)))))

pub number_stands : (at : ℕ) (text : List ℕ) (len : ℕ) (value : ℤ) (token : Token) → 0 < length text → begins_comment text ≡ false → begins_name (get_or text 0 0) ≡ false → is_ascii_digit (get_or text 0 0) ≡ true
    → len ≡ prefix_len is_ascii_digit text → value ≡ pos (value_of (take len text)) → value_of (take len text) ≤ 9223372036854775807
    → token ≡ record { kind = Number value; span = record { from = at; to = at + len } }
    → BeginsWith Plain at text token (drop (token.span.to - at) text)
number_stands at text len value token l g e f size v fits is =
    let found : (len ≤ length text) × (form_at Plain text (take len text) ≡ Some (Number (pos (value_of (take len text))))) × IsBound (form_at Plain text) text len = number_begins text len l g e f size in
    let in_range : pos (value_of (take len text)) ≤ℤ pos 9223372036854775807 = grind arith in
    stands Plain at text len _ token found.0 found.1 found.2 in_range (is ∙ ap (λ n. record { kind = Number n; span = record { from = at; to = at + len } }) v)

pub number_too_wide : (at : ℕ) (text : List ℕ) (len : ℕ) → 0 < length text → begins_comment text ≡ false → begins_name (get_or text 0 0) ≡ false → is_ascii_digit (get_or text 0 0) ≡ true
    → len ≡ prefix_len is_ascii_digit text → 9223372036854775807 < value_of (take len text) → IsFaultAt Plain at text (WideNumber at)
number_too_wide at text len l g e f size wide =
    let found : (len ≤ length text) × (form_at Plain text (take len text) ≡ Some (Number (pos (value_of (take len text))))) × IsBound (form_at Plain text) text len = number_begins text len l g e f size in
    (refl, (take len text, Number (pos (value_of (take len text))), drop len text, begins_front (form_at Plain text) text len _ found.0 found.1 found.2, λ fits. grind arith))

some_mapped : (o : Option SignMark) (kind : TokenKind) → o ≡ None → option_map Sign o ≡ Some kind → ⊥
some_mapped o kind e f = let g : None ≡ Some kind = sym (ap (option_map Sign) e) ∙ f in cc

-- a text with no name, number or quote begins with a sign of two characters, of one, or with no token
pub record IsMark (c : ℕ) (cs : List ℕ) : Type 0 where
  pub no_comment : begins_comment (c ∷ cs) ≡ false
  pub no_name : begins_name c ≡ false
  pub no_digit : is_ascii_digit c ≡ false
  pub no_backtick : (c == 96) ≡ false
  pub no_quote : (c == 34) ≡ false

mark_form : (c : ℕ) (cs slice : List ℕ) → IsMark c cs → form_at Plain (c ∷ cs) (c ∷ slice) ≡ sign_of c slice
mark_form c cs slice m = plain_is (c ∷ cs) (c ∷ slice) m.no_comment (not_long c cs m.no_quote) ∙ sign_form c slice m.no_name m.no_digit m.no_backtick m.no_quote

long_more : (c : ℕ) (more : List ℕ) (kind : TokenKind) → sign_of c more ≡ Some kind → length more ≤ 1
long_more c [] kind e = omega arith
long_more c (d ∷ []) kind e = omega arith
long_more c (d ∷ f ∷ more) kind e = cc

no_long : (c d : ℕ) (cs rest : List ℕ) → long_sign_at (c ∷ cs) ≡ None → cs ≡ d ∷ rest → long_sign c d ≡ None
no_long c d cs rest none cut = sym (ap (λ xs. long_sign_at (c ∷ xs)) cut) ∙ none

short_more : (c : ℕ) (cs more tail : List ℕ) (kind : TokenKind) → long_sign_at (c ∷ cs) ≡ None → cs ≡ more ++ tail → sign_of c more ≡ Some kind → length more ≤ 0
short_more c cs [] tail kind none cut e = omega arith
short_more c cs (d ∷ []) tail kind none cut e = absurd (some_mapped (long_sign c d) kind (no_long c d cs tail none cut) e)
short_more c cs (d ∷ f ∷ more) tail kind none cut e = cc

no_sign : (c : ℕ) (cs more tail : List ℕ) (kind : TokenKind) → long_sign_at (c ∷ cs) ≡ None → short_sign c ≡ None → cs ≡ more ++ tail → sign_of c more ≡ Some kind → ⊥
no_sign c cs [] tail kind none s cut e = some_mapped (short_sign c) kind s e
no_sign c cs (d ∷ []) tail kind none s cut e = some_mapped (long_sign c d) kind (no_long c d cs tail none cut) e
no_sign c cs (d ∷ f ∷ more) tail kind none s cut e = cc

pub is_mark : (c : ℕ) (cs : List ℕ) → begins_comment (c ∷ cs) ≡ false → begins_name c ≡ false → is_ascii_digit c ≡ false → (c ≡ 96 → ⊥) → (c ≡ 34 → ⊥) → IsMark c cs
is_mark c cs g e f n q = record { no_comment = g; no_name = e; no_digit = f; no_backtick = grind arith; no_quote = grind arith }

pub long_stands : (at : ℕ) (text : List ℕ) (sign : SignMark) (token : Token) → begins_comment text ≡ false → begins_name (get_or text 0 0) ≡ false → is_ascii_digit (get_or text 0 0) ≡ false
    → (get_or text 0 0 ≡ 96 → ⊥) → (get_or text 0 0 ≡ 34 → ⊥)
    → long_sign_at text ≡ Some sign → token ≡ record { kind = Sign sign; span = record { from = at; to = at + 2 } }
    → BeginsWith Plain at text token (drop (token.span.to - at) text)
long_stands at [] sign token g e f n q s is = cc
long_stands at (c ∷ []) sign token g e f n q s is = cc
long_stands at (c ∷ d ∷ rest) sign token g e f n q s is =
    let m : IsMark c (d ∷ rest) = is_mark c (d ∷ rest) g e f n q in
    stands Plain at (c ∷ d ∷ rest) 2 (Sign sign) token (omega arith) (mark_form c (d ∷ rest) (d ∷ []) m ∙ ap (option_map Sign) s)
    (tail_bound (form_at Plain (c ∷ d ∷ rest)) c (d ∷ rest) 1 (λ more tail kind cut h. long_more c more kind (sym (mark_form c (d ∷ rest) more m) ∙ h))) tt is

pub short_stands : (at : ℕ) (text : List ℕ) (sign : SignMark) (token : Token) → 0 < length text → begins_comment text ≡ false → begins_name (get_or text 0 0) ≡ false → is_ascii_digit (get_or text 0 0) ≡ false
    → (get_or text 0 0 ≡ 96 → ⊥) → (get_or text 0 0 ≡ 34 → ⊥)
    → long_sign_at text ≡ None → short_sign (get_or text 0 0) ≡ Some sign → token ≡ record { kind = Sign sign; span = record { from = at; to = at + 1 } }
    → BeginsWith Plain at text token (drop (token.span.to - at) text)
short_stands at [] sign token l g e f n q none s is = absurd (omega arith)
short_stands at (c ∷ cs) sign token l g e f n q none s is =
    let m : IsMark c cs = is_mark c cs g e f n q in
    stands Plain at (c ∷ cs) 1 (Sign sign) token (omega arith) (mark_form c cs [] m ∙ ap (option_map Sign) s)
    (tail_bound (form_at Plain (c ∷ cs)) c cs 0 (λ more tail kind cut h. short_more c cs more tail kind none cut (sym (mark_form c cs more m) ∙ h))) tt is

unformed : (a b : Bool) (kind : TokenKind) → cond a None (cond b None None) ≡ Some kind → ⊥
unformed true b kind e = cc
unformed false true kind e = cc
unformed false false kind e = cc

-- an empty slice has no form
pub empty_form : (mode : Mode) (text : List ℕ) (kind : TokenKind) → form_at mode text [] ≡ Some kind → ⊥
unfolding form_at
empty_form Plain text kind h = unformed (begins_comment text) (begins_long text) kind h
empty_form Source text kind h = unformed (begins_comment text) false kind h
empty_form Pattern text kind h = unformed (begins_comment text) false kind h

-- a slice of a form has a character
pub slice_length : (mode : Mode) (text slice : List ℕ) (kind : TokenKind) → form_at mode text slice ≡ Some kind → 0 < length slice
slice_length mode text [] kind e = absurd (empty_form mode text kind e)
slice_length mode text (c ∷ cs) kind e = omega arith

pub opens_nothing : (mode : Mode) (c : ℕ) (cs : List ℕ) → (c == 96) ≡ false → (c == 34) ≡ false → opens_quote mode (c ∷ cs) ≡ false
opens_nothing Plain c [] e f = rw (e, f) refl
opens_nothing Plain c (d ∷ []) e f = rw (e, f) refl
opens_nothing Plain c (d ∷ g ∷ cs) e f = rw (e, f) refl
opens_nothing Source c cs e f = refl
opens_nothing Pattern c [] e f = rw e refl
opens_nothing Pattern c (d ∷ []) e f = rw e refl
opens_nothing Pattern c (d ∷ g ∷ cs) e f = rw e refl

pub nothing_stands : (at : ℕ) (text : List ℕ) → 0 < length text → begins_comment text ≡ false → begins_name (get_or text 0 0) ≡ false → is_ascii_digit (get_or text 0 0) ≡ false
    → (get_or text 0 0 ≡ 96 → ⊥) → (get_or text 0 0 ≡ 34 → ⊥)
    → long_sign_at text ≡ None → short_sign (get_or text 0 0) ≡ None → IsFaultAt Plain at text (BadCharacter at)
nothing_stands at [] l g e f n q none s = absurd (omega arith)
nothing_stands at (c ∷ cs) l g e f n q none s =
    let m : IsMark c cs = is_mark c cs g e f n q in (
      refl,
      (λ h. cc),
      no_slice (form_at Plain (c ∷ cs)) c cs (λ kind h. empty_form Plain (c ∷ cs) kind h)
          (λ more tail kind cut h. no_sign c cs more tail kind none s cut (sym (mark_form c cs more m) ∙ h)),
      g,
      opens_nothing Plain c cs m.no_backtick m.no_quote,
    )
