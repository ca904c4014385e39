-- What stands before a key with an end after it, and what goes on under a key.
use Rattle.std.proofs.Common.{◌≡◌, ⊎_elim, ℕ, suc, ◌+◌, ◌-◌, ◌<◌, ◌≤◌, Bool, true, false, not, cond, eqb, ltb, List, [], ◌∷◌, ◌++◌, length, take, drop, Some, None, refl, sym, ap, ◌∙◌, subst, arith}
use Rattle.std.specs.Prelude.{◌&&◌, nat_eq, Option}
use Rattle.std.specs.Option.{option_map_or}
use Rattle.std.specs.List.{starts_with}
use Rattle.std.specs.Ordering.{nat_cmp, is_lt, is_eq, ordering_then, MatchOrdering}
use Rattle.std.specs.Cmp.Lexicographic.{slice_cmp}
use Rattle.std.specs.Str.{bytes_eq}
use Rattle.std.specs.declared.cmp.Ordering.{Ordering}
use Rattle.std.specs.declared.cmp.Ordering.TheVariants.{Less, Equal, Greater}
use Rattle.std.proofs.lemmas.Bool.{both_ways, cases_eq, false_from_ne_true, ne_eqb, eq-eqb}
use Rattle.std.proofs.lemmas.Bool.Decides.{nat_tests, Decides-eqb}
use Rattle.std.proofs.lemmas.Cmp.{ranked, tied_itself, nat_cmp_total}
use Rattle.std.proofs.lemmas.List.{append-nil, append_assoc, length_push, length-append}
use Rattle.std.proofs.lemmas.Map.Text.{is_eq-slice_cmp}
use Rattle.std.proofs.lemmas.Slice.Eq.{bytes_eq-Decides, starts_is}
use Rattle.ndjson_load.specs.Gathering.{Item, rest_of, after_key}
use Rattle.ndjson_load.specs.Spreading.{stands_before, goes_under, at_key, under_key}

then_assoc : (o p q : Ordering) → ordering_then o (ordering_then p q) ≡ ordering_then (ordering_then o p) q
then_assoc Less p q = refl
then_assoc Equal p q = refl
then_assoc Greater p q = refl

-- the front as long as the key decides, and else what follows it
pub bounded : (key end rest : List ℕ) → slice_cmp nat_cmp rest (key ++ end) ≡ ordering_then (slice_cmp nat_cmp (take (length key) rest) key) (slice_cmp nat_cmp (drop (length key) rest) end)
bounded [] end rest = refl
bounded (b ∷ key) end [] = refl
bounded (b ∷ key) end (c ∷ rest) =
    ap (ordering_then (nat_cmp c b)) (bounded key end rest)
    ∙ then_assoc (nat_cmp c b) (slice_cmp nat_cmp (take (length key) rest) key) (slice_cmp nat_cmp (drop (length key) rest) end)

-- ---- going on under a key, by its bounds

told : (c b : ℕ) (o : Ordering) → MatchOrdering o (c < b) (c ≡ b) (b < c) → MatchOrdering o (nat_eq b c ≡ false) (nat_eq b c ≡ true) (nat_eq b c ≡ false)
told c b Less h = ne_eqb b c (λ e. omega arith)
told c b Equal h = eq-eqb b c (sym h)
told c b Greater h = ne_eqb b c (λ e. omega arith)

step_under : (o p q : Ordering) (t g : Bool) → MatchOrdering o (t ≡ false) (t ≡ true) (t ≡ false) → g ≡ (not (is_lt p) && is_lt q)
    → (t && g) ≡ (not (is_lt (ordering_then o p)) && is_lt (ordering_then o q))
step_under Less p q t g h e = ap (λ (b : Bool). b && g) h
step_under Equal p q t g h e = ap (λ (b : Bool). b && g) h ∙ e
step_under Greater p q t g h e = ap (λ (b : Bool). b && g) h

nothing_not_more : (rest : List ℕ) → is_lt (slice_cmp nat_cmp rest []) ≡ false
nothing_not_more [] = refl
nothing_not_more (c ∷ rest) = refl

then_not_less : (o p : Ordering) → is_lt p ≡ false → is_lt (ordering_then o p) ≡ is_lt o
then_not_less Less p h = refl
then_not_less Equal p h = h
then_not_less Greater p h = refl

first_less : (c b : ℕ) (o : Ordering) → MatchOrdering o (c < b) (c ≡ b) (b < c) → is_lt o ≡ ltb c b
first_less c b Less h = grind (arith, nat_tests)
first_less c b Equal h = grind (arith, nat_tests)
first_less c b Greater h = grind (arith, nat_tests)

one_byte : (c b : ℕ) (rest : List ℕ) → stands_before (c ∷ rest) (b ∷ []) ≡ ltb c b
one_byte c b rest = then_not_less (nat_cmp c b) (slice_cmp nat_cmp rest []) (nothing_not_more rest) ∙ first_less c b (nat_cmp c b) (ranked c b (nat_cmp c b) refl)

dot_here : (c : ℕ) → (nat_eq 46 c && true) ≡ (not (ltb c 46) && ltb c 47)
dot_here c = grind (arith, nat_tests)

pub under_bounds : (key rest : List ℕ) → goes_under key rest ≡ (not (stands_before rest (key ++ 46 ∷ [])) && stands_before rest (key ++ 47 ∷ []))
under_bounds [] [] = refl
under_bounds [] (c ∷ rest) =
    dot_here c ∙ ap (λ (b : Bool). not b && ltb c 47) (sym (one_byte c 46 rest)) ∙ ap (λ (b : Bool). not (stands_before (c ∷ rest) (46 ∷ [])) && b) (sym (one_byte c 47 rest))
under_bounds (b ∷ key) [] = refl
under_bounds (b ∷ key) (c ∷ rest) =
    step_under (nat_cmp c b) (slice_cmp nat_cmp rest (key ++ 46 ∷ [])) (slice_cmp nat_cmp rest (key ++ 47 ∷ [])) (nat_eq b c) (goes_under key rest)
    (told c b (nat_cmp c b) (ranked c b (nat_cmp c b) refl)) (under_bounds key rest)

-- ---- what a member gives, by the two ways that its key leaves a path

nat_eq-sym : (a b : ℕ) → nat_eq a b ≡ nat_eq b a
nat_eq-sym a b = grind (arith, nat_tests)

dot_gives : (f : List ℕ → List Item) (p : List ℕ) (s t : Bool) → s ≡ t → option_map_or f (cond s (Some p) None) [] ≡ cond (t && true) (f p) []
dot_gives f p true true e = refl
dot_gives f p false false e = refl
dot_gives f p true false e = absurd cc
dot_gives f p false true e = absurd cc

step_gives : (f : List ℕ → List Item) (t s : Bool) (found : Option (List ℕ)) (a b g : Bool) (below : List Item) → t ≡ s → option_map_or f (cond a found None) [] ≡ cond b (f []) [] ++ cond g below []
    → option_map_or f (cond (t && a) found None) [] ≡ cond (s && b) (f []) [] ++ cond (t && g) below []
step_gives f true true found a b g below e h = h
step_gives f false false found a b g below e h = refl
step_gives f true false found a b g below e h = absurd cc
step_gives f false true found a b g below e h = absurd cc

pub two_ways : (f : List ℕ → List Item) (key path : List ℕ) → option_map_or f (rest_of key path) [] ≡ at_key key f path ++ under_key key f path
two_ways f [] [] = sym (append-nil (f []))
two_ways f [] (c ∷ path) = dot_gives f path (eqb c 46) (nat_eq 46 c) (nat_eq-sym c 46)
two_ways f (b ∷ key) [] = refl
two_ways f (b ∷ key) (c ∷ path) =
    let shift : length (b ∷ key) + 1 ≡ suc (length key + 1) = omega arith in
    step_gives f (nat_eq b c) (nat_eq c b) (after_key (drop (length key) path)) (starts_with nat_eq path key) (bytes_eq path key) (goes_under key path) (f (drop (length key + 1) path)) (nat_eq-sym b c) (two_ways f key path)
    ∙ ap (λ (n : ℕ). cond (bytes_eq (c ∷ path) (b ∷ key)) (f []) [] ++ cond (goes_under (b ∷ key) (c ∷ path)) (f (drop n (c ∷ path))) []) (sym shift)

-- ---- bytes that are not a key

lt_not_eq : (o : Ordering) → is_lt o ≡ true → is_eq o ≡ false
lt_not_eq Less h = refl
lt_not_eq Equal h = absurd cc
lt_not_eq Greater h = refl

pub less_other : (rest key : List ℕ) → stands_before rest key ≡ true → bytes_eq rest key ≡ false
less_other rest key h = sym (is_eq-slice_cmp rest key) ∙ lt_not_eq (slice_cmp nat_cmp rest key) h

pub behind_other : (first rest key : List ℕ) → stands_before first rest ≡ true → stands_before first key ≡ false → bytes_eq rest key ≡ false
behind_other first rest key h not = false_from_ne_true (bytes_eq rest key) (λ e.
    let same : rest ≡ key = (bytes_eq-Decides rest key).0 e in
    both_ways (stands_before first key) not (subst (λ (r : List ℕ). stands_before first r ≡ true) same h))

pub above_some : (rest first : List ℕ) → stands_before first rest ≡ true → 0 < length rest
above_some [] first h = absurd (both_ways (stands_before first []) (nothing_not_more first) h)
above_some (c ∷ rest) first h = omega arith

-- ---- after a key and a dot

same_front : (front left right : List ℕ) → slice_cmp nat_cmp (front ++ left) (front ++ right) ≡ slice_cmp nat_cmp left right
same_front [] left right = refl
same_front (b ∷ front) left right = ap (λ (o : Ordering). ordering_then o (slice_cmp nat_cmp (front ++ left) (front ++ right))) (tied_itself nat_cmp_total b) ∙ same_front front left right

pub under_cut : (key rest : List ℕ) → goes_under key rest ≡ true → rest ≡ (key ++ 46 ∷ []) ++ drop (length key + 1) rest
under_cut key rest h =
    let cut : rest ≡ (key ++ 46 ∷ []) ++ drop (length (key ++ 46 ∷ [])) rest = (starts_is Decides-eqb rest (key ++ 46 ∷ []) (goes_under key rest) refl).0 h in
    cut ∙ ap (λ (n : ℕ). (key ++ 46 ∷ []) ++ drop n rest) (length_push key 46)

pub under_long : (key rest : List ℕ) → goes_under key rest ≡ true → length key + 1 ≤ length rest
under_long key rest h =
    let cut = ap length (under_cut key rest h) in
    omega (arith, cut, length-append (key ++ 46 ∷ []) (drop (length key + 1) rest), length_push key 46)

pub under_rise : (key left right : List ℕ) → goes_under key left ≡ true → goes_under key right ≡ true → stands_before left right ≡ true
    → stands_before (drop (length key + 1) left) (drop (length key + 1) right) ≡ true
under_rise key left right h g less =
    let a = drop (length key + 1) left in
    let b = drop (length key + 1) right in
    let cut : stands_before left right ≡ stands_before ((key ++ 46 ∷ []) ++ a) ((key ++ 46 ∷ []) ++ b) =
    ap (λ (l : List ℕ). stands_before l right) (under_cut key left h) ∙ ap (λ (r : List ℕ). stands_before ((key ++ 46 ∷ []) ++ a) r) (under_cut key right g) in
    sym (cut ∙ ap is_lt (same_front (key ++ 46 ∷ []) a b)) ∙ less

-- ---- names that no longer begin with a key

pub under_starts : (key rest : List ℕ) → goes_under key rest ≡ true → starts_with nat_eq rest key ≡ true
under_starts key rest h = (starts_is Decides-eqb rest key (starts_with nat_eq rest key) refl).1 (46 ∷ drop (length key + 1) rest) (under_cut key rest h ∙ append_assoc key (46 ∷ []) (drop (length key + 1) rest))

step_apart : (o p q : Ordering) (t s g : Bool) → MatchOrdering o (t ≡ false) (t ≡ true) (t ≡ false) → is_lt (ordering_then o p) ≡ false → (t && s) ≡ false → is_lt (ordering_then o q) ≡ true
    → (is_lt p ≡ false → s ≡ false → is_lt q ≡ true → g ≡ false) → g ≡ false
step_apart Less p q t s g h not other less later = absurd cc
step_apart Equal p q t s g h not other less later = later not (sym (ap (λ (b : Bool). b && s) h) ∙ other) less
step_apart Greater p q t s g h not other less later = absurd cc

-- after bytes that are not below a key and do not begin with it, nothing goes on under it
pub apart_under : (key first rest : List ℕ) → stands_before first key ≡ false → starts_with nat_eq first key ≡ false → stands_before first rest ≡ true → goes_under key rest ≡ false
apart_under [] first rest not other less = absurd cc
apart_under (b ∷ key) [] rest not other less = absurd cc
apart_under (b ∷ key) (c ∷ first) [] not other less = absurd cc
apart_under (b ∷ key) (c ∷ first) (e ∷ rest) not other less = ⊎_elim
    (λ (same : b ≡ e).
    let less_here : stands_before (c ∷ first) (b ∷ rest) ≡ true = subst (λ (x : ℕ). stands_before (c ∷ first) (x ∷ rest) ≡ true) (sym same) less in
    ap (λ (t : Bool). t && goes_under key rest) (eq-eqb b e same)
    ∙ step_apart (nat_cmp c b) (slice_cmp nat_cmp first key) (slice_cmp nat_cmp first rest) (nat_eq b c) (starts_with nat_eq first key) (goes_under key rest)
    (told c b (nat_cmp c b) (ranked c b (nat_cmp c b) refl)) not other less_here (apart_under key first rest))
    (λ (apart : b ≡ e → ⊥). ap (λ (t : Bool). t && goes_under key rest) (ne_eqb b e apart))
    (cases_eq b e)
