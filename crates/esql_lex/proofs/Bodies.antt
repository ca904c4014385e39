-- Bodies of names and texts.
use Rattle.std.proofs.Common.{◌≡◌, ℕ, suc, ◌+◌, ◌-◌, ◌≤◌, Bool, true, false, ◌&&◌, cond, length-drop, List, [], ◌∷◌, ◌++◌, take, drop, length, refl, sym, ap, subst, arith}
use Rattle.std.specs.Prelude.{◌==◌}
use Rattle.std.proofs.lemmas.List.{drop-drop}
use Rattle.esql_lex.specs.declared.body.Body.{Body}
use Rattle.esql_lex.specs.declared.body.Body.TheVariants.{OfName, OfText}
use Rattle.esql_lex.specs.Forms.{body_len, is_body, mark_of, may_follow, stands_alone}
use Rattle.esql_lex.specs.Steps.{step_len}
use Rattle.std.proofs.lemmas.Bool.{false≢true}
use Rattle.esql_lex.proofs.Lists.{both_true, take_longer}

-- a length, where a test holds
abbrev length_if : Bool → ℕ → ℕ
length_if test n = cond test n 0

none_one : (s : Bool) (n : ℕ) → length_if s 1 ≡ 0 → length_if s (1 + n) ≡ 0
none_one true n e = absurd (omega (arith, e))
none_one false n e = refl

none_pair : (a f s : Bool) (m n : ℕ) → cond a (length_if f 2) (length_if s 1) ≡ 0 → cond a (length_if f (2 + m)) (length_if s (1 + n)) ≡ 0
none_pair true true s m n e = absurd (omega (arith, e))
none_pair true false s m n e = refl
none_pair false f s m n e = none_one s n e

-- where no step is made, the body ends
pub step_none : (body : Body) (xs : List ℕ) → step_len body xs ≡ 0 → body_len body xs ≡ 0
step_none body [] e = refl
step_none body (c ∷ []) e = e
step_none body (c ∷ d ∷ cs) e = none_pair (c == mark_of body) (may_follow body d) (stands_alone body c) (body_len body cs) (body_len body (d ∷ cs)) e

some_one : (body : Body) (c : ℕ) (s : Bool) (k : ℕ) → length_if s 1 ≡ k → (k ≡ 0 → ⊥) → (length_if s 1 ≡ k + body_len body (drop k (c ∷ []))) × (k ≤ 1)
some_one body c true k e n = subst (λ m. (1 ≡ m + body_len body (drop m (c ∷ []))) × (m ≤ 1)) e (refl, omega arith)
some_one body c false k e n = absurd (n (sym e))

some_pair : (body : Body) (c d : ℕ) (cs : List ℕ) (a f s : Bool) (k : ℕ) → cond a (length_if f 2) (length_if s 1) ≡ k → (k ≡ 0 → ⊥)
    → (cond a (length_if f (2 + body_len body cs)) (length_if s (1 + body_len body (d ∷ cs))) ≡ k + body_len body (drop k (c ∷ d ∷ cs))) × (k ≤ 2)
some_pair body c d cs true true s k e n = subst (λ m. (2 + body_len body cs ≡ m + body_len body (drop m (c ∷ d ∷ cs))) × (m ≤ 2)) e (refl, omega arith)
some_pair body c d cs true false s k e n = absurd (n (sym e))
some_pair body c d cs false f true k e n = subst (λ m. (1 + body_len body (d ∷ cs) ≡ m + body_len body (drop m (c ∷ d ∷ cs))) × (m ≤ 2)) e (refl, omega arith)
some_pair body c d cs false f false k e n = absurd (n (sym e))

-- a step goes on with the body
step_some : (body : Body) (xs : List ℕ) (k : ℕ) → step_len body xs ≡ k → (k ≡ 0 → ⊥) → (body_len body xs ≡ k + body_len body (drop k xs)) × (k ≤ length xs)
step_some body [] k e n = absurd (n (sym e))
step_some body (c ∷ []) k e n = some_one body c (stands_alone body c) k e n
step_some body (c ∷ d ∷ cs) k e n =
    let s : (body_len body (c ∷ d ∷ cs) ≡ k + body_len body (drop k (c ∷ d ∷ cs))) × (k ≤ 2) = some_pair body c d cs (c == mark_of body) (may_follow body d) (stands_alone body c) k e n in
    (s.0, omega (arith, s.1))

-- one more step of a walk
pub walked : (body : Body) (text : List ℕ) (len k : ℕ) → len ≤ length text → body_len body text ≡ len + body_len body (drop len text)
    → step_len body (drop len text) ≡ k → (k ≡ 0 → ⊥) → (len + k ≤ length text) × (body_len body text ≡ (len + k) + body_len body (drop (len + k) text))
walked body text len k within so_far e n =
    let s : (body_len body (drop len text) ≡ k + body_len body (drop k (drop len text))) × (k ≤ length (drop len text)) = step_some body (drop len text) k e n in
    let rest : body_len body (drop k (drop len text)) ≡ body_len body (drop (len + k) text) = ap (body_len body) (drop-drop k len text) in
    let size : length (drop len text) ≡ length text - len = length-drop len text in
    (omega (arith, s.1, size, within), omega (arith, so_far, s.0, rest))

pub ended : (body : Body) (text : List ℕ) (len : ℕ) → body_len body text ≡ len + body_len body (drop len text) → step_len body (drop len text) ≡ 0 → len ≡ body_len body text
ended body text len so_far e = let none : body_len body (drop len text) ≡ 0 = step_none body (drop len text) e in omega (arith, so_far, none)

one_within : (s : Bool) → length_if s 1 ≤ 1
one_within true = omega arith
one_within false = omega arith

pair_within : (a f s : Bool) (m n size : ℕ) → m ≤ size → n ≤ 1 + size → cond a (length_if f (2 + m)) (length_if s (1 + n)) ≤ 2 + size
pair_within true true s m n size l k = omega (arith, l)
pair_within true false s m n size l k = omega arith
pair_within false f true m n size l k = omega (arith, k)
pair_within false f false m n size l k = omega arith

pub len_within : (body : Body) (xs : List ℕ) → body_len body xs ≤ length xs
len_within body [] = omega arith
len_within body (c ∷ []) = one_within (stands_alone body c)
len_within body (c ∷ d ∷ cs) =
    let next : body_len body (d ∷ cs) ≤ suc (length cs) = len_within body (d ∷ cs) in
    let l : body_len body (c ∷ d ∷ cs) ≤ 2 + length cs = pair_within (c == mark_of body) (may_follow body d) (stands_alone body c) (body_len body cs) (body_len body (d ∷ cs)) (length cs) (len_within body cs) (omega (arith, next)) in
    omega (arith, l)

-- the body as far as it goes is one
alone_body : (body : Body) (c : ℕ) (b : Bool) → stands_alone body c ≡ b → is_body body (take (length_if b 1) (c ∷ [])) ≡ true
alone_body body c true e = e
alone_body body c false e = refl

more_alone : (body : Body) (c : ℕ) (xs : List ℕ) → stands_alone body c ≡ true → (c == mark_of body) ≡ false → is_body body xs ≡ true → is_body body (c ∷ xs) ≡ true
more_alone body c [] s a ih = s
more_alone body c (d ∷ xs) s a ih = rw (a, s) ih

take_two : (n c d : ℕ) (cs : List ℕ) → take (2 + n) (c ∷ d ∷ cs) ≡ c ∷ d ∷ take n cs
take_two n c d cs = let k : 2 + n ≡ suc (suc n) = omega arith in ap (λ m. take m (c ∷ d ∷ cs)) k

pair_body : (body : Body) (c d : ℕ) (cs : List ℕ) (a f s : Bool) → (c == mark_of body) ≡ a → may_follow body d ≡ f → stands_alone body c ≡ s
    → is_body body (take (body_len body cs) cs) ≡ true → is_body body (take (body_len body (d ∷ cs)) (d ∷ cs)) ≡ true
    → is_body body (take (cond a (length_if f (2 + body_len body cs)) (length_if s (1 + body_len body (d ∷ cs)))) (c ∷ d ∷ cs)) ≡ true
pair_body body c d cs true true s a f e ih ih' =
    let two : take (2 + body_len body cs) (c ∷ d ∷ cs) ≡ c ∷ d ∷ take (body_len body cs) cs = take_two (body_len body cs) c d cs in
    rw two (rw (a, f) ih)
pair_body body c d cs true false s a f e ih ih' = refl
pair_body body c d cs false f true a g e ih ih' =
    let one : take (1 + body_len body (d ∷ cs)) (c ∷ d ∷ cs) ≡ c ∷ take (body_len body (d ∷ cs)) (d ∷ cs) = take_longer (body_len body (d ∷ cs)) c (d ∷ cs) in
    rw one (more_alone body c _ e a ih')
pair_body body c d cs false f false a g e ih ih' = refl

pub front_is_body : (body : Body) (xs : List ℕ) → is_body body (take (body_len body xs) xs) ≡ true
front_is_body body [] = refl
front_is_body body (c ∷ []) = alone_body body c (stands_alone body c) refl
front_is_body body (c ∷ d ∷ cs) = pair_body body c d cs _ _ _ refl refl refl (front_is_body body cs) (front_is_body body (d ∷ cs))

-- no body at the front is longer
one_bound : (s : Bool) → s ≡ true → 1 ≤ length_if s 1
one_bound true e = omega arith
one_bound false e = absurd (false≢true e)

first_bound : (body : Body) (c d : ℕ) (a f s : Bool) (m n : ℕ) → s ≡ true → a ≡ false → 1 ≤ cond a (length_if f (2 + m)) (length_if s (1 + n))
first_bound body c d true f s m n e g = absurd (false≢true (sym g))
first_bound body c d false f true m n e g = omega arith
first_bound body c d false f false m n e g = absurd (false≢true e)

unmarked : (body : Body) (c : ℕ) → stands_alone body c ≡ true → (c == mark_of body) ≡ false
unmarked OfName c e = grind arith
unmarked OfText c e = grind arith

pair_bound : (a f s : Bool) (m n k : ℕ) (p q : Bool) → cond a (f && p) (s && q) ≡ true → (p ≡ true → k ≤ m) → (q ≡ true → 1 + k ≤ n)
    → 2 + k ≤ cond a (length_if f (2 + m)) (length_if s (1 + n))
pair_bound true f s m n k p q e g h = let b : (f ≡ true) × (p ≡ true) = both_true f p e in let l : k ≤ m = g b.1 in rw b.0 (omega (arith, l))
pair_bound false f s m n k p q e g h = let b : (s ≡ true) × (q ≡ true) = both_true s q e in let l : 1 + k ≤ n = h b.1 in rw b.0 (omega (arith, l))

pub body_bound : (body : Body) (ys tail : List ℕ) → is_body body ys ≡ true → length ys ≤ body_len body (ys ++ tail)
body_bound body [] tail e = omega arith
body_bound body (c ∷ []) [] e = one_bound (stands_alone body c) e
body_bound body (c ∷ []) (d ∷ tail) e = first_bound body c d (c == mark_of body) (may_follow body d) (stands_alone body c) _ _ e (unmarked body c e)
body_bound body (c ∷ d ∷ cs) tail e =
    let l : 2 + length cs ≤ body_len body (c ∷ d ∷ (cs ++ tail)) =
    pair_bound (c == mark_of body) (may_follow body d) (stands_alone body c) (body_len body (cs ++ tail)) (body_len body (d ∷ (cs ++ tail))) (length cs) (is_body body cs) (is_body body (d ∷ cs)) e
    (body_bound body cs tail) (λ q. let l : suc (length cs) ≤ body_len body (d ∷ (cs ++ tail)) = body_bound body (d ∷ cs) tail q in omega (arith, l)) in
    omega (arith, l)
