-- What stands in quotes, and in the modes of sources and patterns.
use Rattle.std.proofs.Common.{◌≡◌, ℕ, ◌+◌, ◌-◌, ◌<◌, ◌≤◌, Bool, true, false, ◌||◌, cond, List, [], ◌∷◌, ◌++◌, take, drop, get_or, length, Option, Some, None, codes, refl, sym, ap, ◌∙◌, subst, arith}
use Rattle.std.specs.Prelude.{◌==◌, is_none}
use Rattle.std.specs.List.{list_all, prefix_len}
use Rattle.std.specs.Option.{option_map}
use Rattle.std.proofs.lemmas.Bool.{false≢true}
use Rattle.std.proofs.lemmas.List.Sums.{prefix_len-le-length}
use Rattle.esql_lex.specs.declared.token.Token.{Token}
use Rattle.esql_lex.specs.declared.token.TokenKind.{TokenKind}
use Rattle.esql_lex.specs.declared.token.TokenKind.TheVariants.{Sign, QuotedName, Pattern as PatternToken, Source as SourceToken}
use Rattle.esql_lex.specs.declared.error.LexError.TheVariants.{BadCharacter, OpenString}
use Rattle.esql_lex.specs.declared.token.Sign.{Sign as SignMark}
use Rattle.esql_lex.specs.declared.mode.Mode.{Mode}
use Rattle.esql_lex.specs.declared.mode.Mode.TheVariants.{Plain, Source, Pattern}
use Rattle.esql_lex.specs.Words.{separator}
use Rattle.esql_lex.specs.Gaps.{begins_comment, begins_line, begins_block, piece_len, comment_len, begins_open_comment, is_white, is_in_line, end_of}
use Rattle.esql_lex.specs.Forms.{form_at, kind_if, separator_of, begins_source, continues_source, is_in_pattern, is_quoted, opens_quote, opens_name, bad_escape}
use Rattle.esql_lex.specs.Steps.{closing_len}
use Rattle.esql_lex.specs.Tokens.{BeginsWith, IsFaultAt, HasNoSlice}
use Rattle.esql_lex.proofs.Lists.{run_passes, take_longer, both_true, run_bound}
use Rattle.esql_lex.proofs.Closings.{quoted_front, quoted_bound}
use Rattle.esql_lex.proofs.Slices.{IsBound, stands, tail_bound, no_slice, chosen, empty_form, source_is, pattern_is, plain_is, not_long, quoted_form, quoted_pattern_form, run_source_form, mark_source_form, run_pattern_form, mark_pattern_form}

run_more : (p : ℕ → Bool) (cs more tail : List ℕ) → cs ≡ more ++ tail → list_all p more ≡ true → length more ≤ prefix_len p cs
run_more p cs more tail cut all = subst (λ xs. length more ≤ prefix_len p xs) (sym cut) (run_bound p more tail all)

pub source_stands : (at : ℕ) (text : List ℕ) (len : ℕ) (token : Token) → 0 < length text → begins_comment text ≡ false → begins_source (get_or text 0 0) ≡ true
    → len ≡ 1 + prefix_len continues_source (drop 1 text) → token ≡ record { kind = SourceToken; span = record { from = at; to = at + len } }
    → BeginsWith Source at text token (drop (token.span.to - at) text)
source_stands at [] len token l g e size is = absurd (omega arith)
source_stands at (c ∷ cs) len token l g e size is =
    let n : ℕ = prefix_len continues_source cs in
    let within : n ≤ length cs = prefix_len-le-length continues_source cs in
    let front : take len (c ∷ cs) ≡ c ∷ take n cs = ap (λ m. take m (c ∷ cs)) size ∙ take_longer n c cs in
    let form : (slice : List ℕ) → form_at Source (c ∷ cs) (c ∷ slice) ≡ kind_if (list_all continues_source slice) SourceToken = λ slice. source_is (c ∷ cs) (c ∷ slice) g ∙ run_source_form c slice e in
    stands Source at (c ∷ cs) len SourceToken token (omega (arith, size, within)) (ap (form_at Source (c ∷ cs)) front ∙ form (take n cs) ∙ ap (λ b. kind_if b SourceToken) (run_passes continues_source cs))
    (subst (IsBound (form_at Source (c ∷ cs)) (c ∷ cs)) (sym size) (tail_bound (form_at Source (c ∷ cs)) c cs n (λ more tail kind cut h. run_more continues_source cs more tail cut (chosen _ _ _ (sym (form more) ∙ h))))) tt is

pub pattern_stands : (at : ℕ) (text : List ℕ) (len : ℕ) (token : Token) → 0 < length text → begins_comment text ≡ false → is_in_pattern (get_or text 0 0) ≡ true
    → len ≡ prefix_len is_in_pattern text → token ≡ record { kind = PatternToken; span = record { from = at; to = at + len } }
    → BeginsWith Pattern at text token (drop (token.span.to - at) text)
pattern_stands at [] len token l g e size is = absurd (omega arith)
pattern_stands at (c ∷ cs) len token l g e whole is =
    let n : ℕ = prefix_len is_in_pattern cs in
    let size : len ≡ 1 + n = whole ∙ ap (λ b. cond b (1 + n) 0) e in
    let within : n ≤ length cs = prefix_len-le-length is_in_pattern cs in
    let front : take len (c ∷ cs) ≡ c ∷ take n cs = ap (λ m. take m (c ∷ cs)) size ∙ take_longer n c cs in
    let form : (slice : List ℕ) → form_at Pattern (c ∷ cs) (c ∷ slice) ≡ kind_if (list_all is_in_pattern slice) PatternToken = λ slice. pattern_is (c ∷ cs) (c ∷ slice) g ∙ run_pattern_form c slice e in
    stands Pattern at (c ∷ cs) len PatternToken token (omega (arith, size, within)) (ap (form_at Pattern (c ∷ cs)) front ∙ form (take n cs) ∙ ap (λ b. kind_if b PatternToken) (run_passes is_in_pattern cs))
    (subst (IsBound (form_at Pattern (c ∷ cs)) (c ∷ cs)) (sym size) (tail_bound (form_at Pattern (c ∷ cs)) c cs n (λ more tail kind cut h. run_more is_in_pattern cs more tail cut (chosen _ _ _ (sym (form more) ∙ h))))) tt is

-- the separators in a mode that has no other sign
abbrev HasMarks : Mode → ℕ → List ℕ → Type 0
HasMarks mode c cs = (slice : List ℕ) → form_at mode (c ∷ cs) (c ∷ slice) ≡ separator_of c slice

one_mark : (c : ℕ) (more : List ℕ) (kind : TokenKind) → separator_of c more ≡ Some kind → length more ≤ 0
one_mark c [] kind e = omega arith
one_mark c (d ∷ more) kind e = cc

no_mark : (c : ℕ) (more : List ℕ) (kind : TokenKind) → separator c ≡ None → separator_of c more ≡ Some kind → ⊥
no_mark c [] kind s e = let clash : None ≡ Some kind = sym (ap (option_map Sign) s) ∙ e in cc
no_mark c (d ∷ more) kind s e = cc

marks_stand : (mode : Mode) (at : ℕ) (c : ℕ) (cs : List ℕ) (sign : SignMark) (token : Token) → HasMarks mode c cs → separator c ≡ Some sign
    → token ≡ record { kind = Sign sign; span = record { from = at; to = at + 1 } } → BeginsWith mode at (c ∷ cs) token (drop (token.span.to - at) (c ∷ cs))
marks_stand mode at c cs sign token m s is =
    stands mode at (c ∷ cs) 1 (Sign sign) token (omega arith) (m [] ∙ ap (option_map Sign) s)
    (tail_bound (form_at mode (c ∷ cs)) c cs 0 (λ more tail kind cut h. one_mark c more kind (sym (m more) ∙ h))) tt is

no_marks : (mode : Mode) (at : ℕ) (c : ℕ) (cs : List ℕ) → HasMarks mode c cs → separator c ≡ None → begins_comment (c ∷ cs) ≡ false → opens_quote mode (c ∷ cs) ≡ false → IsFaultAt mode at (c ∷ cs) (BadCharacter at)
no_marks mode at c cs m s g q =
    (refl, (λ h. cc), no_slice (form_at mode (c ∷ cs)) c cs (λ kind h. empty_form mode (c ∷ cs) kind h) (λ more tail kind cut h. no_mark c more kind s (sym (m more) ∙ h)), g, q)

pub source_mark_stands : (at : ℕ) (text : List ℕ) (sign : SignMark) (token : Token) → 0 < length text → begins_comment text ≡ false → begins_source (get_or text 0 0) ≡ false → separator (get_or text 0 0) ≡ Some sign
    → token ≡ record { kind = Sign sign; span = record { from = at; to = at + 1 } } → BeginsWith Source at text token (drop (token.span.to - at) text)
source_mark_stands at [] sign token l g e s is = absurd (omega arith)
source_mark_stands at (c ∷ cs) sign token l g e s is = marks_stand Source at c cs sign token (λ slice. source_is (c ∷ cs) (c ∷ slice) g ∙ mark_source_form c slice e) s is

pub source_nothing : (at : ℕ) (text : List ℕ) → 0 < length text → begins_comment text ≡ false → begins_source (get_or text 0 0) ≡ false → separator (get_or text 0 0) ≡ None → IsFaultAt Source at text (BadCharacter at)
source_nothing at [] l g e s = absurd (omega arith)
source_nothing at (c ∷ cs) l g e s = no_marks Source at c cs (λ slice. source_is (c ∷ cs) (c ∷ slice) g ∙ mark_source_form c slice e) s g refl

not_equal : (c d : ℕ) → (c ≡ d → ⊥) → (c == d) ≡ false
not_equal c d n = grind arith

pub pattern_mark_stands : (at : ℕ) (text : List ℕ) (sign : SignMark) (token : Token) → 0 < length text → begins_comment text ≡ false → is_in_pattern (get_or text 0 0) ≡ false → (get_or text 0 0 ≡ 96 → ⊥) → separator (get_or text 0 0) ≡ Some sign
    → token ≡ record { kind = Sign sign; span = record { from = at; to = at + 1 } } → BeginsWith Pattern at text token (drop (token.span.to - at) text)
pattern_mark_stands at [] sign token l g e n s is = absurd (omega arith)
pattern_mark_stands at (c ∷ cs) sign token l g e n s is = marks_stand Pattern at c cs sign token (λ slice. pattern_is (c ∷ cs) (c ∷ slice) g ∙ mark_pattern_form c slice e (not_equal c 96 n)) s is

opens_no_name : (c : ℕ) (cs : List ℕ) → (c == 96) ≡ false → opens_name (c ∷ cs) ≡ false
opens_no_name c [] e = e
opens_no_name c (d ∷ []) e = rw e refl
opens_no_name c (d ∷ f ∷ cs) e = rw e refl

pub pattern_nothing : (at : ℕ) (text : List ℕ) → 0 < length text → begins_comment text ≡ false → is_in_pattern (get_or text 0 0) ≡ false → (get_or text 0 0 ≡ 96 → ⊥) → separator (get_or text 0 0) ≡ None → IsFaultAt Pattern at text (BadCharacter at)
pattern_nothing at [] l g e n s = absurd (omega arith)
pattern_nothing at (c ∷ cs) l g e n s = no_marks Pattern at c cs (λ slice. pattern_is (c ∷ cs) (c ∷ slice) g ∙ mark_pattern_form c slice e (not_equal c 96 n)) s g (opens_no_name c cs (not_equal c 96 n))

-- what stands where no gap does, and no comment is open, is no comment
no_comment_in : (c : ℕ) (cs : List ℕ) (a b w : Bool) → is_white c ≡ w → begins_line (c ∷ cs) ≡ a → begins_block (c ∷ cs) ≡ b → cond w (Some 1) (cond a (Some (2 + prefix_len is_in_line (drop 2 (c ∷ cs)))) (cond b (option_map (λ n. 2 + n) (end_of (codes "*/") (drop 2 (c ∷ cs)))) None)) ≡ None → b ≡ false → (a || b) ≡ false
no_comment_in c cs a b true w e f g h = cc
no_comment_in c cs true b false w e f g h = cc
no_comment_in c cs false b false w e f g h = h

pub no_comment : (text : List ℕ) → piece_len text ≡ None → begins_block text ≡ false → begins_comment text ≡ false
unfolding comment_len
no_comment [] p b = refl
no_comment (c ∷ cs) p b = no_comment_in c cs (begins_line (c ∷ cs)) (begins_block (c ∷ cs)) (is_white c) refl refl refl p b

block_first : (c d : ℕ) (cs : List ℕ) → begins_block (c ∷ d ∷ cs) ≡ true → (c ≡ 47) × (d ≡ 42)
block_first c d cs e = let b : ((c == 47) ≡ true) × ((d == 42) ≡ true) = both_true (c == 47) (d == 42) e in (grind arith, grind arith)

-- a block comment that is no gap is open
open_in : (o : Option ℕ) → o ≡ None → is_none o ≡ true
open_in o e = rw e refl

pub open_comment : (text : List ℕ) → piece_len text ≡ None → begins_block text ≡ true → begins_open_comment text ≡ true
open_comment [] p b = absurd (false≢true b)
open_comment (c ∷ []) p b = absurd (false≢true b)
open_comment (c ∷ d ∷ cs) p b =
    let f : (c ≡ 47) × (d ≡ 42) = block_first c d cs b in
    let same : piece_len (c ∷ d ∷ cs) ≡ comment_len (c ∷ d ∷ cs) = rw f.0 refl in
    rw b (open_in (comment_len (c ∷ d ∷ cs)) (sym same ∙ p))

-- names in backticks
no_backtick_comment : (cs : List ℕ) → begins_comment (96 ∷ cs) ≡ false
no_backtick_comment [] = refl
no_backtick_comment (d ∷ cs) = refl

quoted_is : (mode : Mode) (cs slice : List ℕ) → (mode ≡ Source → ⊥) → form_at mode (96 ∷ cs) (96 ∷ slice) ≡ kind_if (is_quoted slice) QuotedName
quoted_is Plain cs slice n = plain_is (96 ∷ cs) (96 ∷ slice) (no_backtick_comment cs) (not_long 96 cs refl) ∙ quoted_form slice
quoted_is Source cs slice n = absurd (n refl)
quoted_is Pattern cs slice n = pattern_is (96 ∷ cs) (96 ∷ slice) (no_backtick_comment cs) ∙ quoted_pattern_form slice

quoted_length : (mode : Mode) (cs more tail : List ℕ) (kind : TokenKind) → (mode ≡ Source → ⊥) → cs ≡ more ++ tail → form_at mode (96 ∷ cs) (96 ∷ more) ≡ Some kind → (length more ≤ closing_len cs) × (2 ≤ length more)
quoted_length mode cs more tail kind n cut h =
    let q : (length more ≤ closing_len (more ++ tail)) × (2 ≤ length more) = quoted_bound more tail (chosen _ _ _ (sym (quoted_is mode cs more n) ∙ h)) in
    (subst (λ xs. length more ≤ closing_len xs) (sym cut) q.0, q.1)

pub quoted_stands : (mode : Mode) (at : ℕ) (text : List ℕ) (len : ℕ) (token : Token) → 0 < length text → (mode ≡ Source → ⊥) → get_or text 0 0 ≡ 96 → len ≡ closing_len (drop 1 text) → len ≤ length (drop 1 text) → 1 < len
    → token ≡ record { kind = QuotedName; span = record { from = at; to = at + (1 + len) } } → BeginsWith mode at text token (drop (token.span.to - at) text)
quoted_stands mode at [] len token l n e size within more is = absurd (omega arith)
quoted_stands mode at (c ∷ cs) len token l n e size within more is = subst (λ x. BeginsWith mode at (x ∷ cs) token (drop (token.span.to - at) (x ∷ cs))) (sym e)
    (let room : len ≤ length cs = within in
    let k : closing_len cs ≤ length cs = omega (arith, size, room) in
    let two : 1 < closing_len cs = omega (arith, size, more) in
    let front : take (1 + len) (96 ∷ cs) ≡ 96 ∷ take (closing_len cs) cs = take_longer len 96 cs ∙ ap (λ m. 96 ∷ take m cs) size in
    stands mode at (96 ∷ cs) (1 + len) QuotedName token (omega (arith, room)) (ap (form_at mode (96 ∷ cs)) front ∙ quoted_is mode cs (take (closing_len cs) cs) n ∙ ap (λ b. kind_if b QuotedName) (quoted_front cs two k))
    (tail_bound (form_at mode (96 ∷ cs)) 96 cs len (λ xs tail kind cut h. let q : (length xs ≤ closing_len cs) × (2 ≤ length xs) = quoted_length mode cs xs tail kind n cut h in omega (arith, q.0, size))) tt is)

no_quoted : (mode : Mode) (cs : List ℕ) → (mode ≡ Source → ⊥) → (1 < closing_len cs → ⊥) → HasNoSlice (form_at mode (96 ∷ cs)) (96 ∷ cs)
no_quoted mode cs n few = no_slice (form_at mode (96 ∷ cs)) 96 cs (λ kind h. empty_form mode (96 ∷ cs) kind h)
    (λ xs tail kind cut h. let q : (length xs ≤ closing_len cs) × (2 ≤ length xs) = quoted_length mode cs xs tail kind n cut h in few (omega (arith, q.0, q.1)))

opens_as : (mode : Mode) (cs : List ℕ) (b : Bool) → (mode ≡ Source → ⊥) → opens_name (96 ∷ cs) ≡ b → opens_quote mode (96 ∷ cs) ≡ b
opens_as Plain cs b n e = e
opens_as Source cs b n e = absurd (n refl)
opens_as Pattern cs b n e = e

no_escape : (mode : Mode) (cs : List ℕ) → bad_escape mode (96 ∷ cs) ≡ None
no_escape Plain cs = refl
no_escape Source cs = refl
no_escape Pattern cs = refl

pub quoted_open : (mode : Mode) (at : ℕ) (text : List ℕ) → 0 < length text → (mode ≡ Source → ⊥) → get_or text 0 0 ≡ 96 → (1 < closing_len (drop 1 text) → ⊥) → opens_name text ≡ true → IsFaultAt mode at text (OpenString at)
quoted_open mode at [] l n e few o = absurd (omega arith)
quoted_open mode at (c ∷ cs) l n e few o = subst (λ x. IsFaultAt mode at (x ∷ cs) (OpenString at)) (sym e)
    (refl, no_quoted mode cs n few, opens_as mode cs true n (subst (λ x. opens_name (x ∷ cs) ≡ true) e o), no_escape mode cs)

pub quoted_empty : (mode : Mode) (at : ℕ) (text : List ℕ) → 0 < length text → (mode ≡ Source → ⊥) → get_or text 0 0 ≡ 96 → (1 < closing_len (drop 1 text) → ⊥) → opens_name text ≡ false → IsFaultAt mode at text (BadCharacter at)
quoted_empty mode at [] l n e few o = absurd (omega arith)
quoted_empty mode at (c ∷ cs) l n e few o = subst (λ x. IsFaultAt mode at (x ∷ cs) (BadCharacter at)) (sym e)
    (refl, (λ h. cc), no_quoted mode cs n few, no_backtick_comment cs, opens_as mode cs false n (subst (λ x. opens_name (x ∷ cs) ≡ false) e o))
