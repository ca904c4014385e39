-- Texts of both forms.
use Rattle.std.proofs.Common.{◌≡◌, ℕ, suc, ◌+◌, ◌-◌, ◌<◌, ◌≤◌, Bool, true, false, ◌&&◌, ◌||◌, cond, List, [], ◌∷◌, ◌++◌, take, drop, get_or, length, Option, Some, None, refl, sym, ap, ◌∙◌, subst, arith, length-drop}
use Rattle.std.specs.Prelude.{◌==◌, not}
use Rattle.std.specs.Option.{option_map}
use Rattle.std.proofs.lemmas.Bool.{false≢true}
use Rattle.std.proofs.lemmas.List.{length-take-le}
use Rattle.esql_lex.specs.declared.token.Token.{Token}
use Rattle.esql_lex.specs.declared.token.TokenKind.TheVariants.{Text}
use Rattle.esql_lex.specs.declared.error.LexError.TheVariants.{OpenString, BadEscape}
use Rattle.esql_lex.specs.declared.mode.Mode.TheVariants.{Plain}
use Rattle.esql_lex.specs.declared.body.Body.TheVariants.{OfText}
use Rattle.esql_lex.specs.Gaps.{begins_comment, begins, end_of}
use Rattle.esql_lex.specs.Forms.{form_at, kind_if, body_len, is_literal, is_escaped, closes_text, is_long_text, has_length, begins_long, begins_escape, opens_text}
use Rattle.esql_lex.specs.Tokens.{BeginsWith, IsFaultAt}
use Rattle.esql_lex.proofs.Lists.{both_true, take_longer, drop_longer}
use Rattle.esql_lex.proofs.Opened.{text_stops, short_closes, no_text, Stops}
use Rattle.esql_lex.proofs.Pieces.{three_within, end_within}
use Rattle.esql_lex.proofs.Slices.{stands, tail_bound, no_slice, chosen, empty_form, plain_is, text_form, IsBound}

take_two : (n c d : ℕ) (cs : List ℕ) → take (2 + n) (c ∷ d ∷ cs) ≡ c ∷ d ∷ take n cs
take_two n c d cs = let k : 2 + n ≡ suc (suc n) = omega arith in ap (λ m. take m (c ∷ d ∷ cs)) k

drop_two : (n c d : ℕ) (cs : List ℕ) → drop (2 + n) (c ∷ d ∷ cs) ≡ drop n cs
drop_two n c d cs = let k : 2 + n ≡ suc (suc n) = omega arith in ap (λ m. drop m (c ∷ d ∷ cs)) k

no_both : (c : ℕ) → (c == 92) ≡ true → (c == 34) ≡ true → ⊥
no_both c e f = grind arith

one_closes : (c : ℕ) (s : Bool) → opens_text (drop (cond s 1 0) (c ∷ [])) ≡ true → closes_text (take (1 + cond s 1 0) (c ∷ [])) ≡ true
one_closes c true o = absurd (false≢true o)
one_closes c false o = o

literal_more : (c : ℕ) (zs : List ℕ) → (c == 92) ≡ false → is_literal c ≡ true → closes_text zs ≡ true → closes_text (c ∷ zs) ≡ true
literal_more c [] a s e = absurd (false≢true e)
literal_more c (d ∷ zs) a s e = ap (λ t. cond t (is_escaped d && closes_text zs) (is_literal c && closes_text (d ∷ zs))) a ∙ ap (λ t. t && closes_text (d ∷ zs)) s ∙ e

two_close : (c d : ℕ) (cs : List ℕ) (a f s : Bool) → (c == 92) ≡ a → is_escaped d ≡ f → is_literal c ≡ s
    → (opens_text (drop (body_len OfText cs) cs) ≡ true → closes_text (take (1 + body_len OfText cs) cs) ≡ true)
    → (opens_text (drop (body_len OfText (d ∷ cs)) (d ∷ cs)) ≡ true → closes_text (take (1 + body_len OfText (d ∷ cs)) (d ∷ cs)) ≡ true)
    → (n : ℕ) → n ≡ cond a (cond f (2 + body_len OfText cs) 0) (cond s (1 + body_len OfText (d ∷ cs)) 0)
    → opens_text (drop n (c ∷ d ∷ cs)) ≡ true → closes_text (take (1 + n) (c ∷ d ∷ cs)) ≡ true
two_close c d cs true true s a f e ih ih' n is o =
    let k : 1 + n ≡ 2 + (1 + body_len OfText cs) = omega (arith, is) in
    let inner : closes_text (take (1 + body_len OfText cs) cs) ≡ true = ih (ap opens_text (sym (ap (λ m. drop m (c ∷ d ∷ cs)) is ∙ drop_two (body_len OfText cs) c d cs)) ∙ o) in
    let front : take (1 + n) (c ∷ d ∷ cs) ≡ c ∷ d ∷ take (1 + body_len OfText cs) cs = ap (λ m. take m (c ∷ d ∷ cs)) k ∙ take_two (1 + body_len OfText cs) c d cs in
    rw front (rw (a, f) inner)
two_close c d cs true false s a f e ih ih' n is o = absurd (no_both c a (sym (ap (λ m. opens_text (drop m (c ∷ d ∷ cs))) is) ∙ o))
two_close c d cs false f true a g e ih ih' n is o =
    let inner : closes_text (take (1 + body_len OfText (d ∷ cs)) (d ∷ cs)) ≡ true = ih' (ap opens_text (sym (ap (λ m. drop m (c ∷ d ∷ cs)) is ∙ drop_longer (body_len OfText (d ∷ cs)) c (d ∷ cs))) ∙ o) in
    let front : take (1 + n) (c ∷ d ∷ cs) ≡ c ∷ take (1 + body_len OfText (d ∷ cs)) (d ∷ cs) = take_longer n c (d ∷ cs) ∙ ap (λ m. c ∷ take m (d ∷ cs)) is in
    rw front (literal_more c _ a e inner)
two_close c d cs false f false a g e ih ih' n is o =
    let first : (c == 34) ≡ true = sym (ap (λ m. opens_text (drop m (c ∷ d ∷ cs))) is) ∙ o in
    let front : take (1 + n) (c ∷ d ∷ cs) ≡ c ∷ [] = ap (λ m. take (1 + m) (c ∷ d ∷ cs)) is in
    rw front first

-- the body and the quote after it close a text
closes_front : (cs : List ℕ) → opens_text (drop (body_len OfText cs) cs) ≡ true → closes_text (take (1 + body_len OfText cs) cs) ≡ true
closes_front [] o = absurd (false≢true o)
closes_front (c ∷ []) o = one_closes c (is_literal c) o
closes_front (c ∷ d ∷ cs) o = two_close c d cs _ _ _ refl refl refl (closes_front cs) (closes_front (d ∷ cs)) (body_len OfText (c ∷ d ∷ cs)) refl o

quote_comment : (cs : List ℕ) → begins_comment (34 ∷ cs) ≡ false
quote_comment [] = refl
quote_comment (d ∷ cs) = refl

short_is : (cs more : List ℕ) → begins_long (34 ∷ cs) ≡ false → form_at Plain (34 ∷ cs) (34 ∷ more) ≡ kind_if (closes_text more || is_long_text (34 ∷ more)) Text
short_is cs more short = plain_is (34 ∷ cs) (34 ∷ more) (quote_comment cs) short ∙ text_form more

opened_some : (xs : List ℕ) → opens_text xs ≡ true → 1 ≤ length xs
opened_some [] o = absurd (false≢true o)
opened_some (c ∷ cs) o = omega arith

or_first : (a b : Bool) → a ≡ true → (a || b) ≡ true
or_first true b e = refl
or_first false b e = absurd (false≢true e)

pub short_stands : (at : ℕ) (text stop : List ℕ) (len : ℕ) (token : Token) → 0 < length text → get_or text 0 0 ≡ 34 → begins_long text ≡ false → len ≡ body_len OfText (drop 1 text) → stop ≡ drop len (drop 1 text) → opens_text stop ≡ true
    → token ≡ record { kind = Text; span = record { from = at; to = at + (2 + len) } } → BeginsWith Plain at text token (drop (token.span.to - at) text)
short_stands at [] stop len token l e short size cut o is = absurd (omega arith)
short_stands at (c ∷ cs) stop len token l e short size cut o is = subst (λ x. BeginsWith Plain at (x ∷ cs) token (drop (token.span.to - at) (x ∷ cs))) (sym e)
    (let brief : begins_long (34 ∷ cs) ≡ false = subst (λ x. begins_long (x ∷ cs) ≡ false) e short in
    let opened : opens_text (drop (body_len OfText cs) cs) ≡ true = ap opens_text (sym (cut ∙ ap (λ m. drop m cs) size)) ∙ o in
    let some : 1 ≤ length (drop (body_len OfText cs) cs) = opened_some _ opened in
    let left : length (drop (body_len OfText cs) cs) ≡ length cs - body_len OfText cs = length-drop (body_len OfText cs) cs in
    let two : 2 + len ≡ 1 + (1 + body_len OfText cs) = omega (arith, size) in
    let front : take (2 + len) (34 ∷ cs) ≡ 34 ∷ take (1 + body_len OfText cs) cs = ap (λ m. take m (34 ∷ cs)) two ∙ take_longer (1 + body_len OfText cs) 34 cs in
    stands Plain at (34 ∷ cs) (2 + len) Text token (omega (arith, size, some, left))
    (ap (form_at Plain (34 ∷ cs)) front ∙ short_is cs (take (1 + body_len OfText cs) cs) brief ∙ ap (λ b. kind_if b Text) (or_first _ _ (closes_front cs opened)))
    (subst (IsBound (form_at Plain (34 ∷ cs)) (34 ∷ cs)) (sym two) (tail_bound (form_at Plain (34 ∷ cs)) 34 cs (1 + body_len OfText cs) (λ more tail kind whole h.
    let t : Stops more tail = text_stops more tail (short_closes cs more tail kind brief whole h) in
    let n : length more ≡ 1 + body_len OfText cs = t.size ∙ ap (λ xs. 1 + body_len OfText xs) (sym whole) in omega (arith, n)))) tt is)

pub short_escapes : (at : ℕ) (text stop : List ℕ) (len : ℕ) → 0 < length text → get_or text 0 0 ≡ 34 → begins_long text ≡ false → len ≡ body_len OfText (drop 1 text) → stop ≡ drop len (drop 1 text) → begins_escape stop ≡ true
    → IsFaultAt Plain at text (BadEscape (at + 1 + len))
short_escapes at [] stop len l e short size cut o = absurd (omega arith)
short_escapes at (c ∷ cs) stop len l e short size cut o =
    let esc : begins_escape (drop (body_len OfText cs) cs) ≡ true = ap begins_escape (sym (cut ∙ ap (λ m. drop m cs) size)) ∙ o in
    let first : (c == 34) ≡ true = rw e refl in
    (1 + body_len OfText cs, rw (first, short, esc) refl, omega (arith, size))

stop_no_quote : (xs rest : List ℕ) → opens_text xs ≡ false → xs ≡ 34 ∷ rest → ⊥
stop_no_quote xs rest o e = false≢true (sym o ∙ ap opens_text e)

pub short_open : (at : ℕ) (text stop : List ℕ) (len : ℕ) → 0 < length text → get_or text 0 0 ≡ 34 → begins_long text ≡ false → len ≡ body_len OfText (drop 1 text) → stop ≡ drop len (drop 1 text) → opens_text stop ≡ false → begins_escape stop ≡ false
    → IsFaultAt Plain at text (OpenString at)
short_open at [] stop len l e short size cut o f = absurd (omega arith)
short_open at (c ∷ cs) stop len l e short size cut o f = subst (λ x. IsFaultAt Plain at (x ∷ cs) (OpenString at)) (sym e)
    (let brief : begins_long (34 ∷ cs) ≡ false = subst (λ x. begins_long (x ∷ cs) ≡ false) e short in
    let here : drop (body_len OfText cs) cs ≡ stop = sym (cut ∙ ap (λ m. drop m cs) size) in
    let esc : begins_escape (drop (body_len OfText cs) cs) ≡ false = ap begins_escape here ∙ f in
    (refl, no_slice (form_at Plain (34 ∷ cs)) 34 cs (λ kind h. empty_form Plain (34 ∷ cs) kind h) (λ more tail kind whole h. no_text cs more tail kind brief (λ rest q. stop_no_quote _ rest (ap opens_text here ∙ o) q) whole h), refl, rw (brief, esc) refl))

-- where three quotes end
abbrev three : List ℕ
three = 34 ∷ 34 ∷ 34 ∷ []

one_more : (o : Option ℕ) (n : ℕ) → option_map (λ m. 1 + m) o ≡ Some n → (m : ℕ) × (o ≡ Some m) × (n ≡ 1 + m)
one_more None n e = cc
one_more (Some m) n e = (m, refl, (let same : 1 + m ≡ n = cc in sym same))

least_step : (c : ℕ) (cs : List ℕ) (n : ℕ) (b : Bool) → begins three (c ∷ cs) ≡ b → cond b (Some 3) (option_map (λ m. 1 + m) (end_of three cs)) ≡ Some n → ((m : ℕ) → end_of three cs ≡ Some m → (3 ≤ length cs) × (3 ≤ m)) → (3 ≤ length (c ∷ cs)) × (3 ≤ n)
least_step c cs n true b e ih = let same : 3 ≡ n = cc in (three_within 34 34 34 (c ∷ cs) b, omega (arith, same))
least_step c cs n false b e ih = let m : (m : ℕ) × (end_of three cs ≡ Some m) × (n ≡ 1 + m) = one_more _ n e in let l : (3 ≤ length cs) × (3 ≤ m.0) = ih m.0 m.1 in (omega (arith, l.0), omega (arith, l.1, m.2))

end_least : (xs : List ℕ) (n : ℕ) → end_of three xs ≡ Some n → (3 ≤ length xs) × (3 ≤ n)
end_least [] n e = cc
end_least (c ∷ cs) n e = least_step c cs n _ refl e (end_least cs)

more_step : (c d f : ℕ) (cs tail : List ℕ) (n : ℕ) (b : Bool) → cond b (Some 3) (option_map (λ m. 1 + m) (end_of three (d ∷ f ∷ cs))) ≡ Some n → ((m : ℕ) → end_of three (d ∷ f ∷ cs) ≡ Some m → end_of three (d ∷ f ∷ (cs ++ tail)) ≡ Some m)
    → cond b (Some 3) (option_map (λ m. 1 + m) (end_of three (d ∷ f ∷ (cs ++ tail)))) ≡ Some n
more_step c d f cs tail n true e ih = e
more_step c d f cs tail n false e ih = let m : (m : ℕ) × (end_of three (d ∷ f ∷ cs) ≡ Some m) × (n ≡ 1 + m) = one_more _ n e in ap (option_map (λ k. 1 + k)) (ih m.0 m.1) ∙ ap Some (sym m.2)

end_more : (xs tail : List ℕ) (n : ℕ) → end_of three xs ≡ Some n → end_of three (xs ++ tail) ≡ Some n
end_more [] tail n e = cc
end_more (c ∷ []) tail n e = let l : 3 ≤ length (c ∷ []) = (end_least (c ∷ []) n e).0 in absurd (omega (arith, l))
end_more (c ∷ d ∷ []) tail n e = let l : 3 ≤ length (c ∷ d ∷ []) = (end_least (c ∷ d ∷ []) n e).0 in absurd (omega (arith, l))
end_more (c ∷ d ∷ f ∷ cs) tail n e = more_step c d f cs tail n (begins three (c ∷ d ∷ f ∷ cs)) e (end_more (d ∷ f ∷ cs) tail)

cut_skip : (c d f : ℕ) (cs : List ℕ) (m k : ℕ) → m ≡ 2 + k → begins three (c ∷ d ∷ f ∷ cs) ≡ false → end_of three (take m (d ∷ f ∷ cs)) ≡ Some m → end_of three (take (1 + m) (c ∷ d ∷ f ∷ cs)) ≡ Some (1 + m)
cut_skip c d f cs m k size b ih =
    let inner : take m (d ∷ f ∷ cs) ≡ d ∷ f ∷ take k cs = ap (λ j. take j (d ∷ f ∷ cs)) size ∙ take_two k d f cs in
    let front : take (1 + m) (c ∷ d ∷ f ∷ cs) ≡ c ∷ d ∷ f ∷ take k cs = take_longer m c (d ∷ f ∷ cs) ∙ ap (λ xs. c ∷ xs) inner in
    let again : begins three (c ∷ d ∷ f ∷ take k cs) ≡ false = b in
    ap (end_of three) front ∙ ap (λ t. cond t (Some 3) (option_map (λ j. 1 + j) (end_of three (d ∷ f ∷ take k cs)))) again ∙ ap (option_map (λ j. 1 + j)) (sym (ap (end_of three) inner) ∙ ih)

cut_step : (c d f : ℕ) (cs : List ℕ) (n : ℕ) (b : Bool) → begins three (c ∷ d ∷ f ∷ cs) ≡ b → cond b (Some 3) (option_map (λ m. 1 + m) (end_of three (d ∷ f ∷ cs))) ≡ Some n
    → ((m : ℕ) → end_of three (d ∷ f ∷ cs) ≡ Some m → end_of three (take m (d ∷ f ∷ cs)) ≡ Some m) → end_of three (take n (c ∷ d ∷ f ∷ cs)) ≡ Some n
cut_step c d f cs n true b e ih =
    let same : 3 ≡ n = cc in
    let again : begins three (c ∷ d ∷ f ∷ []) ≡ true = b in
    subst (λ m. end_of three (take m (c ∷ d ∷ f ∷ cs)) ≡ Some m) same (ap (λ t. cond t (Some 3) (option_map (λ j. 1 + j) (end_of three (d ∷ f ∷ [])))) again)
cut_step c d f cs n false b e ih =
    let m : (m : ℕ) × (end_of three (d ∷ f ∷ cs) ≡ Some m) × (n ≡ 1 + m) = one_more _ n e in
    let least : 3 ≤ m.0 = (end_least (d ∷ f ∷ cs) m.0 m.1).1 in
    subst (λ k. end_of three (take k (c ∷ d ∷ f ∷ cs)) ≡ Some k) (sym m.2) (cut_skip c d f cs m.0 (m.0 - 2) (omega (arith, least)) b (ih m.0 m.1))

end_cut : (xs : List ℕ) (n : ℕ) → end_of three xs ≡ Some n → end_of three (take n xs) ≡ Some n
end_cut [] n e = cc
end_cut (c ∷ []) n e = let l : 3 ≤ length (c ∷ []) = (end_least (c ∷ []) n e).0 in absurd (omega (arith, l))
end_cut (c ∷ d ∷ []) n e = let l : 3 ≤ length (c ∷ d ∷ []) = (end_least (c ∷ d ∷ []) n e).0 in absurd (omega (arith, l))
end_cut (c ∷ d ∷ f ∷ cs) n e = cut_step c d f cs n _ refl e (end_cut (d ∷ f ∷ cs))

same_if : (m n : ℕ) → (m == n) ≡ true → m ≡ n
same_if m n e = grind arith

sized : (size : ℕ) (o : Option ℕ) → has_length size o ≡ true → o ≡ Some size
sized size None e = absurd (false≢true e)
sized size (Some n) e = ap Some (same_if n size e)

three_less : (o : Option ℕ) (n : ℕ) → option_map (λ m. 3 + m) o ≡ Some (suc (suc (suc n))) → o ≡ Some n
three_less None n e = cc
three_less (Some m) n e = let same : 3 + m ≡ suc (suc (suc n)) = cc in let k : m ≡ n = omega (arith, same) in ap Some k

long_is : (text slice : List ℕ) → begins_comment text ≡ false → begins_long text ≡ true → form_at Plain text slice ≡ kind_if (is_long_text slice) Text
unfolding form_at
long_is text slice e f = rw (e, f) refl

three_first : (c d f : ℕ) (cs : List ℕ) → begins_long (c ∷ d ∷ f ∷ cs) ≡ true → c ≡ 34
three_first c d f cs e = same_if c 34 (both_true (c == 34) (d == 34) (both_true ((c == 34) && (d == 34)) (f == 34) e).0).0

long_comment : (c d : ℕ) (cs : List ℕ) → c ≡ 34 → begins_comment (c ∷ d ∷ cs) ≡ false
long_comment c d cs e = rw e refl

-- a slice of the second form at the front ends at the first three quotes
long_inner : (c d f : ℕ) (rest slice tail : List ℕ) → c ∷ d ∷ f ∷ rest ≡ slice ++ tail → is_long_text slice ≡ true → (inner : ℕ) × (end_of three rest ≡ Some inner) × (length slice ≡ 3 + inner)
long_inner c d f rest [] tail cut e = absurd (false≢true e)
long_inner c d f rest (x ∷ []) tail cut e = absurd (false≢true e)
long_inner c d f rest (x ∷ y ∷ []) tail cut e = absurd (false≢true e)
long_inner c d f rest (x ∷ y ∷ z ∷ more) tail cut e =
    let whole : rest ≡ more ++ tail = cc in
    let s : end_of three more ≡ Some (length more) = three_less (end_of three more) (length more) (sized _ _ (both_true (begins_long (x ∷ y ∷ z ∷ more)) _ e).1) in
    (length more, ap (end_of three) whole ∙ end_more more tail (length more) s, omega arith)

equal_sizes : (m n : ℕ) → m ≡ n → (m == n) ≡ true
equal_sizes m n e = grind arith

long_has : (c d f : ℕ) (rest : List ℕ) (n : ℕ) → begins_long (c ∷ d ∷ f ∷ rest) ≡ true → n ≤ length rest → end_of three rest ≡ Some n → is_long_text (c ∷ d ∷ f ∷ take n rest) ≡ true
long_has c d f rest n b within e =
    let begun : begins_long (c ∷ d ∷ f ∷ take n rest) ≡ true = b in
    let size : length (take n rest) ≡ n = length-take-le n rest within in
    let count : (3 + n == length (c ∷ d ∷ f ∷ take n rest)) ≡ true = equal_sizes (3 + n) (length (c ∷ d ∷ f ∷ take n rest)) (omega (arith, size)) in
    rw (begun, end_cut rest n e) count

pub long_stands : (at : ℕ) (text : List ℕ) (len : ℕ) (token : Token) → begins_long text ≡ true → end_of three (drop 3 text) ≡ Some len
    → token ≡ record { kind = Text; span = record { from = at; to = at + (3 + len) } } → BeginsWith Plain at text token (drop (token.span.to - at) text)
long_stands at [] len token b e is = absurd (false≢true b)
long_stands at (c ∷ []) len token b e is = absurd (false≢true b)
long_stands at (c ∷ d ∷ []) len token b e is = absurd (false≢true b)
long_stands at (c ∷ d ∷ f ∷ rest) len token b e is =
    let within : len ≤ length rest = end_within three rest len (λ xs h. three_within 34 34 34 xs h) e in
    let k : 3 + len ≡ suc (suc (suc len)) = omega arith in
    let front : take (3 + len) (c ∷ d ∷ f ∷ rest) ≡ c ∷ d ∷ f ∷ take len rest = ap (λ m. take m (c ∷ d ∷ f ∷ rest)) k in
    let form : (slice : List ℕ) → form_at Plain (c ∷ d ∷ f ∷ rest) slice ≡ kind_if (is_long_text slice) Text = λ slice. long_is (c ∷ d ∷ f ∷ rest) slice (long_comment c d (f ∷ rest) (three_first c d f rest b)) b in
    stands Plain at (c ∷ d ∷ f ∷ rest) (3 + len) Text token (omega (arith, within))
    (ap (form_at Plain (c ∷ d ∷ f ∷ rest)) front ∙ form (c ∷ d ∷ f ∷ take len rest) ∙ ap (λ t. kind_if t Text) (long_has c d f rest len b within e))
    (λ slice tail kind cut h. let i : (inner : ℕ) × (end_of three rest ≡ Some inner) × (length slice ≡ 3 + inner) = long_inner c d f rest slice tail cut (chosen _ _ _ (sym (form slice) ∙ h)) in
    let some : Some i.0 ≡ Some len = sym i.1 ∙ e in let same : i.0 ≡ len = cc in omega (arith, i.2, same)) tt is

no_bad : (q long e : Bool) (x : ℕ) → long ≡ true → ◌≡◌ {A = Option ℕ} (cond ((q && not long) && e) (Some x) None) None
no_bad true true e x l = refl
no_bad true false e x l = absurd (false≢true l)
no_bad false long e x l = refl

pub long_open : (at : ℕ) (text : List ℕ) → begins_long text ≡ true → end_of three (drop 3 text) ≡ None → IsFaultAt Plain at text (OpenString at)
long_open at [] b e = absurd (false≢true b)
long_open at (c ∷ []) b e = absurd (false≢true b)
long_open at (c ∷ d ∷ []) b e = absurd (false≢true b)
long_open at (c ∷ d ∷ f ∷ rest) b e =
    let first : c ≡ 34 = three_first c d f rest b in (
      refl,
      (λ slice tail kind cut h. let i : (inner : ℕ) × (end_of three rest ≡ Some inner) × (length slice ≡ 3 + inner) = long_inner c d f rest slice tail cut (chosen _ _ _ (sym (long_is (c ∷ d ∷ f ∷ rest) slice (long_comment c d (f ∷ rest) first) b) ∙ h)) in
          let clash : None ≡ Some i.0 = sym e ∙ i.1 in cc),
      (let q : (c == 34) ≡ true = rw first refl in rw q refl),
      no_bad (c == 34) (begins_long (c ∷ d ∷ f ∷ rest)) (begins_escape (drop (body_len OfText (d ∷ f ∷ rest)) (d ∷ f ∷ rest))) (1 + body_len OfText (d ∷ f ∷ rest)) b,
    )
