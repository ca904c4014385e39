-- Where names and texts in quotes close.
use Rattle.std.proofs.Common.{◌≡◌, ℕ, suc, ◌+◌, ◌-◌, ◌<◌, ◌≤◌, Bool, true, false, ◌&&◌, cond, List, [], ◌∷◌, ◌++◌, take, drop, get_or, length, refl, sym, ap, ◌∙◌, arith, length-drop}
use Rattle.std.specs.Prelude.{◌==◌}
use Rattle.std.proofs.lemmas.Bool.{false≢true}
use Rattle.std.proofs.lemmas.List.{drop-drop, length-take-le}
use Rattle.esql_lex.specs.Forms.{closes_name, is_quoted}
use Rattle.esql_lex.specs.Steps.{past, closing_len}
use Rattle.esql_lex.proofs.Lists.{both_true, take_longer}

closing_one : (xs : List ℕ) → 2 ≤ length xs → get_or xs 0 0 ≡ 96 → (get_or xs 1 0 ≡ 96 → ⊥) → closing_len xs ≡ 1
closing_one [] l e f = absurd (omega arith)
closing_one (c ∷ []) l e f = absurd (omega arith)
closing_one (c ∷ d ∷ cs) l e f = let n : (d == 96) ≡ false = grind arith in rw (e, n) refl

closing_pair : (xs : List ℕ) → 2 ≤ length xs → get_or xs 0 0 ≡ 96 → get_or xs 1 0 ≡ 96 → closing_len xs ≡ past 2 1 (closing_len (drop 2 xs))
closing_pair [] l e f = absurd (omega arith)
closing_pair (c ∷ []) l e f = absurd (omega arith)
closing_pair (c ∷ d ∷ cs) l e f = rw (e, f) refl

pub closing_ends : (text rest : List ℕ) (at found : ℕ) → rest ≡ drop at text → 2 ≤ length rest → get_or rest 0 0 ≡ 96 → (get_or rest 1 0 ≡ 96 → ⊥)
    → closing_len text ≡ past at found (closing_len (drop at text)) → at + 1 ≡ closing_len text
closing_ends text rest at found back l e f so_far = sym (so_far ∙ ap (past at found) (ap closing_len (sym back) ∙ closing_one rest l e f))

past_past : (at found more : ℕ) (b : Bool) → (more == 0) ≡ b → past at found (cond b 1 (2 + more)) ≡ cond b (at + 1) ((at + 2) + more)
past_past at found more true e = refl
past_past at found more false e = let n : ((2 + more) == 0) ≡ false = grind arith in rw n (let k : at + (2 + more) ≡ (at + 2) + more = omega arith in k)

pub closing_goes_on : (text rest : List ℕ) (at found : ℕ) → at ≤ length text → rest ≡ drop at text → 2 ≤ length rest → get_or rest 0 0 ≡ 96 → get_or rest 1 0 ≡ 96
    → closing_len text ≡ past at found (closing_len (drop at text))
    → record { within : at + 2 ≤ length text; found : at + 1 ≤ length text; so_far : closing_len text ≡ past (at + 2) (at + 1) (closing_len (drop (at + 2) text)) }
closing_goes_on text rest at found within back l e f so_far =
    let size : length rest ≡ length text - at = ap length back ∙ length-drop at text in
    let two : drop 2 rest ≡ drop (at + 2) text = ap (drop 2) back ∙ drop-drop 2 at text in
    let here : closing_len (drop at text) ≡ past 2 1 (closing_len (drop (at + 2) text)) = ap closing_len (sym back) ∙ closing_pair rest l e f ∙ ap (λ xs. past 2 1 (closing_len xs)) two in
    record {
      within = omega (arith, l, size, within);
      found = omega (arith, l, size, within);
      so_far = so_far ∙ ap (past at found) here ∙ past_past at found (closing_len (drop (at + 2) text)) _ refl;
    }

not_zero : (n : ℕ) → 1 ≤ n → (n == 0) ≡ false
not_zero n l = grind arith

some_if : (n : ℕ) → (n == 0) ≡ false → 1 ≤ n
some_if n e = grind arith

zero_if : (n : ℕ) → (n == 0) ≡ true → n ≡ 0
zero_if n e = grind arith

-- the slices that close a name are within the bound
name_step : (a b : Bool) (p q : Bool) (k m n : ℕ) → cond a (b && p) q ≡ true → (p ≡ true → k ≤ m) → (q ≡ true → 1 + k ≤ n) → (p ≡ true → 1 ≤ k)
    → 2 + k ≤ cond a (cond b (past 2 1 m) 1) (past 1 0 n)
name_step true b p q k m n e g h some =
    let t : (b ≡ true) × (p ≡ true) = both_true b p e in
    let l : k ≤ m = g t.1 in
    let one : 1 ≤ k = some t.1 in
    let more : (m == 0) ≡ false = not_zero m (omega (arith, l, one)) in
    rw t.0 (rw more (omega (arith, l)))
name_step false b p q k m n e g h some =
    let l : 1 + k ≤ n = h e in
    let more : (n == 0) ≡ false = not_zero n (omega (arith, l)) in
    rw more (omega (arith, l))

closes_some : (xs : List ℕ) → closes_name xs ≡ true → 1 ≤ length xs
closes_some [] e = absurd (false≢true e)
closes_some (c ∷ cs) e = omega arith

past_some : (a b more : ℕ) (t : Bool) → (more == 0) ≡ t → 1 ≤ a → 1 ≤ b → 1 ≤ past a b more
past_some a b more true e l k = rw e k
past_some a b more false e l k = rw e (omega (arith, l))

last_next : (b : Bool) (more : ℕ) → 1 ≤ cond b (past 2 1 more) 1
last_next true more = past_some 2 1 more _ refl (omega arith) (omega arith)
last_next false more = omega arith

last_bound : (c : ℕ) (tail : List ℕ) → c ≡ 96 → 1 ≤ closing_len (c ∷ tail)
last_bound c [] e = rw e (omega arith)
last_bound c (d ∷ tail) e = rw e (last_next (d == 96) (closing_len tail))

is_backtick : (c : ℕ) → (c == 96) ≡ true → c ≡ 96
is_backtick c e = grind arith

pub closing_bound : (ys tail : List ℕ) → closes_name ys ≡ true → length ys ≤ closing_len (ys ++ tail)
closing_bound [] tail e = absurd (false≢true e)
closing_bound (c ∷ []) tail e = last_bound c tail (is_backtick c e)
closing_bound (c ∷ d ∷ cs) tail e =
    let l : 2 + length cs ≤ closing_len (c ∷ d ∷ (cs ++ tail)) =
    name_step (c == 96) (d == 96) (closes_name cs) (closes_name (d ∷ cs)) (length cs) (closing_len (cs ++ tail)) (closing_len (d ∷ (cs ++ tail))) e
    (closing_bound cs tail) (λ q. let k : suc (length cs) ≤ closing_len (d ∷ (cs ++ tail)) = closing_bound (d ∷ cs) tail q in omega (arith, k)) (closes_some cs) in
    omega (arith, l)

take_two : (n c d : ℕ) (cs : List ℕ) → take (2 + n) (c ∷ d ∷ cs) ≡ c ∷ d ∷ take n cs
take_two n c d cs = let k : 2 + n ≡ suc (suc n) = omega arith in ap (λ m. take m (c ∷ d ∷ cs)) k

closes_more : (c : ℕ) (zs : List ℕ) → (c == 96) ≡ false → closes_name zs ≡ true → closes_name (c ∷ zs) ≡ true
closes_more c [] n e = absurd (false≢true e)
closes_more c (d ∷ zs) n e = rw n e

front_one : (c : ℕ) (b : Bool) → (c == 96) ≡ b → 1 ≤ cond b 1 0 → closes_name (take (cond b 1 0) (c ∷ [])) ≡ true
front_one c true e l = e
front_one c false e l = absurd (omega (arith, l))

pair_front : (c d : ℕ) (cs : List ℕ) (z : Bool) → (c == 96) ≡ true → (d == 96) ≡ true → (closing_len cs == 0) ≡ z → (1 ≤ closing_len cs → closes_name (take (closing_len cs) cs) ≡ true)
    → closes_name (take (cond z 1 (2 + closing_len cs)) (c ∷ d ∷ cs)) ≡ true
pair_front c d cs true a b z ih = a
pair_front c d cs false a b z ih =
    let some : 1 ≤ closing_len cs = some_if (closing_len cs) z in
    rw (take_two (closing_len cs) c d cs) (rw (a, b) (ih some))

skip_front : (c d : ℕ) (cs : List ℕ) (z : Bool) → (c == 96) ≡ false → (closing_len (d ∷ cs) == 0) ≡ z → 1 ≤ cond z 0 (1 + closing_len (d ∷ cs)) → (1 ≤ closing_len (d ∷ cs) → closes_name (take (closing_len (d ∷ cs)) (d ∷ cs)) ≡ true)
    → closes_name (take (cond z 0 (1 + closing_len (d ∷ cs))) (c ∷ d ∷ cs)) ≡ true
skip_front c d cs true a z l ih = absurd (omega (arith, l))
skip_front c d cs false a z l ih =
    let some : 1 ≤ closing_len (d ∷ cs) = some_if (closing_len (d ∷ cs)) z in
    rw (take_longer (closing_len (d ∷ cs)) c (d ∷ cs)) (closes_more c _ a (ih some))

front_two : (c d : ℕ) (cs : List ℕ) (a b : Bool) → (c == 96) ≡ a → (d == 96) ≡ b → (1 ≤ closing_len cs → closes_name (take (closing_len cs) cs) ≡ true)
    → (1 ≤ closing_len (d ∷ cs) → closes_name (take (closing_len (d ∷ cs)) (d ∷ cs)) ≡ true)
    → 1 ≤ cond a (cond b (past 2 1 (closing_len cs)) 1) (past 1 0 (closing_len (d ∷ cs)))
    → closes_name (take (cond a (cond b (past 2 1 (closing_len cs)) 1) (past 1 0 (closing_len (d ∷ cs)))) (c ∷ d ∷ cs)) ≡ true
front_two c d cs true true a b ih ih' l = pair_front c d cs _ a b refl ih
front_two c d cs true false a b ih ih' l = a
front_two c d cs false b a e ih ih' l = skip_front c d cs _ a refl l ih'

pub closing_front : (cs : List ℕ) → 1 ≤ closing_len cs → closes_name (take (closing_len cs) cs) ≡ true
closing_front [] l = absurd (omega (arith, l))
closing_front (c ∷ []) l = front_one c _ refl l
closing_front (c ∷ d ∷ cs) l = front_two c d cs _ _ refl refl (closing_front cs) (closing_front (d ∷ cs)) l

long_quoted : (xs : List ℕ) → 2 ≤ length xs → closes_name xs ≡ true → is_quoted xs ≡ true
long_quoted [] l e = absurd (omega (arith, l))
long_quoted (c ∷ []) l e = absurd (omega (arith, l))
long_quoted (c ∷ d ∷ cs) l e = e

pub quoted_front : (cs : List ℕ) → 1 < closing_len cs → closing_len cs ≤ length cs → is_quoted (take (closing_len cs) cs) ≡ true
quoted_front cs l within = let size : length (take (closing_len cs) cs) ≡ closing_len cs = length-take-le (closing_len cs) cs within in
    long_quoted (take (closing_len cs) cs) (omega (arith, size, l)) (closing_front cs (omega (arith, l)))

pub quoted_bound : (xs tail : List ℕ) → is_quoted xs ≡ true → (length xs ≤ closing_len (xs ++ tail)) × (2 ≤ length xs)
quoted_bound [] tail e = absurd (false≢true e)
quoted_bound (c ∷ []) tail e = absurd (false≢true e)
quoted_bound (c ∷ d ∷ cs) tail e = (closing_bound (c ∷ d ∷ cs) tail e, omega arith)
