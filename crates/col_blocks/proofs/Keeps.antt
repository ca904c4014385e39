-- Lists that are kept by a mask, one place more at a time, and cells that are put at the places of one.
use Rattle.std.proofs.Common.{◌≡◌, ℕ, zero, suc, ◌+◌, ◌-◌, ◌<◌, ◌≤◌, Bool, true, false, cond, List, [], ◌∷◌, ◌++◌, map, length, get_or, take, drop, replicate, refl, sym, ap, ◌∙◌, subst, arith, add-one, count_by, length-append}
use Rattle.std.proofs.lemmas.List.{take_all, length-replicate}
use Rattle.std.proofs.lemmas.List.Sums.{sum_by-cons}
use Rattle.esql_types.specs.declared.value.Value.{Value}
use Rattle.col_blocks.specs.Kept.{kept_by, scattered}

pub kept-map : {X Y : Type 0} (f : X → Y) (keeps : List Bool) (xs : List X) → map f (kept_by keeps xs) ≡ kept_by keeps (map f xs)
kept-map f [] xs = refl
kept-map f (keep ∷ keeps) [] = refl
kept-map f (true ∷ keeps) (x ∷ xs) = ap (λ rest. f x ∷ rest) (kept-map f keeps xs)
kept-map f (false ∷ keeps) (x ∷ xs) = kept-map f keeps xs

pub kept_none : {X : Type 0} (keeps : List Bool) → kept_by {X = X} keeps [] ≡ []
kept_none [] = refl
kept_none (keep ∷ keeps) = refl

-- how many places are set
abbrev pub set_count : List Bool → ℕ
set_count places = count_by (λ place. place) places

pub count-cons : (place : Bool) (places : List Bool) → set_count (place ∷ places) ≡ cond {A = ℕ} place 1 0 + set_count places
count-cons place places = sum_by-cons (λ (place : Bool). cond {A = ℕ} place 1 0) place places

pub kept_same : {X : Type 0} (keeps : List Bool) (x : X) (n : ℕ) → length keeps ≡ n → kept_by keeps (replicate n x) ≡ replicate (set_count keeps) x
kept_same [] x n is = refl
kept_same (keep ∷ keeps) x zero is = absurd (omega (arith, is))
kept_same (true ∷ keeps) x (suc n) is =
    let more : suc (set_count keeps) ≡ set_count (true ∷ keeps) = omega (arith, count-cons true keeps) in
    ap (λ xs. x ∷ xs) (kept_same keeps x n (omega (arith, is))) ∙ ap (λ (n : ℕ). replicate n x) more
kept_same (false ∷ keeps) x (suc n) is =
    let same : set_count keeps ≡ set_count (false ∷ keeps) = omega (arith, count-cons false keeps) in
    kept_same keeps x n (omega (arith, is)) ∙ ap (λ (n : ℕ). replicate n x) same

-- one place more
kept_more : {X : Type 0} (keeps : List Bool) (xs : List X) (i : ℕ) (keep : Bool) (x : X) → i < length keeps → i < length xs
    → kept_by (take (suc i) keeps) (take (suc i) xs) ≡ kept_by (take i keeps) (take i xs) ++ cond {A = List X} (get_or keeps i keep) (get_or xs i x ∷ []) []
kept_more [] xs i keep x here there = absurd (omega (arith, here))
kept_more (one ∷ keeps) [] i keep x here there = absurd (omega (arith, there))
kept_more {X} (one ∷ keeps) (y ∷ xs) zero keep x here there = at one
  where
    at : (b : Bool) → kept_by (b ∷ []) (y ∷ []) ≡ cond {A = List X} b (y ∷ []) []
    at true = refl
    at false = refl
kept_more {X} (one ∷ keeps) (y ∷ xs) (suc i) keep x here there = at one (kept_more keeps xs i keep x (omega (arith, here)) (omega (arith, there)))
  where
    at : (b : Bool) → kept_by (take (suc i) keeps) (take (suc i) xs) ≡ kept_by (take i keeps) (take i xs) ++ cond {A = List X} (get_or keeps i keep) (get_or xs i x ∷ []) []
        → kept_by (b ∷ take (suc i) keeps) (y ∷ take (suc i) xs) ≡ kept_by (b ∷ take i keeps) (y ∷ take i xs) ++ cond {A = List X} (get_or keeps i keep) (get_or xs i x ∷ []) []
    at true same = ap (λ xs. y ∷ xs) same
    at false same = same

pub kept_step : {X : Type 0} (keeps : List Bool) (xs old new : List X) (i : ℕ) (x : X) (keep : Bool) → i < length keeps → i < length xs → old ≡ kept_by (take i keeps) (take i xs)
    → keep ≡ get_or keeps i false → new ≡ old ++ cond {A = List X} keep (get_or xs i x ∷ []) [] → new ≡ kept_by (take (i + 1) keeps) (take (i + 1) xs)
kept_step {X} keeps xs old new i x keep here there before is pushed =
    rw add-one (pushed ∙ (λ j. before j ++ cond {A = List X} (is j) (get_or xs i x ∷ []) []) ∙ sym (kept_more keeps xs i false x here there))

-- the same where the item is read
pub kept_read : {X : Type 0} (keeps : List Bool) (xs old new : List X) (i : ℕ) (x : X) (keep : Bool) → i < length keeps → i < length xs → old ≡ kept_by (take i keeps) (take i xs)
    → keep ≡ get_or keeps i false → x ≡ get_or xs i x → new ≡ old ++ cond {A = List X} keep (x ∷ []) [] → new ≡ kept_by (take (i + 1) keeps) (take (i + 1) xs)
kept_read {X} keeps xs old new i x keep here there before is read pushed =
    kept_step keeps xs old new i x keep here there before is (pushed ∙ ap (λ (y : X). old ++ cond {A = List X} keep (y ∷ []) []) read)

pub kept_all : {X : Type 0} (keeps : List Bool) (xs : List X) (i : ℕ) → length keeps ≤ i → length xs ≤ i → kept_by (take i keeps) (take i xs) ≡ kept_by keeps xs
kept_all keeps xs i here there = λ j. kept_by (take_all i keeps here j) (take_all i xs there j)

-- cells at the set places

count_more : (places : List Bool) (i : ℕ) → i < length places → set_count (take (suc i) places) ≡ set_count (take i places) + cond {A = ℕ} (get_or places i false) 1 0
count_more [] i within = absurd (omega (arith, within))
count_more (place ∷ places) zero within = count-cons place [] ∙ (let none : set_count [] ≡ 0 = refl in omega arith)
count_more (place ∷ places) (suc i) within =
    let more = count-cons place (take (suc i) places) in
    let here = count-cons place (take i places) in
    let rest = count_more places i (omega (arith, within)) in
    omega arith

pub count_step : (places : List Bool) (i old new : ℕ) (set : Bool) → i < length places → old ≡ set_count (take i places) → set ≡ get_or places i false → new ≡ old + cond {A = ℕ} set 1 0 → new ≡ set_count (take (i + 1) places)
count_step places i old new set within before is counted =
    rw add-one (counted ∙ (λ j. before j + cond {A = ℕ} (is j) 1 0) ∙ sym (count_more places i within))

pub count_below : (places : List Bool) (i : ℕ) → i < length places → get_or places i false ≡ true → set_count (take i places) < set_count places
count_below [] i within set = absurd (omega (arith, within))
count_below (false ∷ places) zero within set = absurd cc
count_below (true ∷ places) zero within set = omega (arith, count-cons true places)
count_below (place ∷ places) (suc i) within set =
    let all = count-cons place places in
    let here = count-cons place (take i places) in
    let rest = count_below places i (omega (arith, within)) set in
    omega arith

scattered_more : (places : List Bool) (cells : List (List Value)) (i : ℕ) → i < length places
    → scattered (take (suc i) places) cells ≡ scattered (take i places) cells ++ cond {A = List Value} (get_or places i false) (get_or cells (set_count (take i places)) []) [] ∷ []
scattered_more [] cells i within = absurd (omega (arith, within))
scattered_more (false ∷ places) cells zero within = refl
scattered_more (true ∷ places) [] zero within = refl
scattered_more (true ∷ places) (cell ∷ cells) zero within = refl
scattered_more (false ∷ places) cells (suc i) within =
    let same : set_count (take i places) ≡ set_count (false ∷ take i places) = omega (arith, count-cons false (take i places)) in
    ap (λ (rest : List (List Value)). [] ∷ rest) (scattered_more places cells i (omega (arith, within)))
    ∙ ap (λ (n : ℕ). ([] ∷ scattered (take i places) cells) ++ cond {A = List Value} (get_or places i false) (get_or cells n []) [] ∷ []) same
scattered_more (true ∷ places) [] (suc i) within = ap (λ (rest : List (List Value)). [] ∷ rest) (scattered_more places [] i (omega (arith, within)))
scattered_more (true ∷ places) (cell ∷ cells) (suc i) within =
    let more : suc (set_count (take i places)) ≡ set_count (true ∷ take i places) = omega (arith, count-cons true (take i places)) in
    ap (λ (rest : List (List Value)). cell ∷ rest) (scattered_more places cells i (omega (arith, within)))
    ∙ ap (λ (n : ℕ). (cell ∷ scattered (take i places) cells) ++ cond {A = List Value} (get_or places i false) (get_or (cell ∷ cells) n []) [] ∷ []) more

pub scattered_step : (places : List Bool) (cells old new : List (List Value)) (i taken : ℕ) (set : Bool) → i < length places → old ≡ scattered (take i places) cells → taken ≡ set_count (take i places) → set ≡ get_or places i false
    → new ≡ old ++ cond {A = List Value} set (get_or cells taken []) [] ∷ [] → new ≡ scattered (take (i + 1) places) cells
scattered_step places cells old new i taken set within before counted is pushed =
    rw add-one (pushed ∙ (λ j. before j ++ cond {A = List Value} (is j) (get_or cells (counted j) []) [] ∷ []) ∙ sym (scattered_more places cells i within))
