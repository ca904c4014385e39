-- A file that is read one piece after another.
use Rattle.std.proofs.Common.{◌≡◌, ℕ, ◌+◌, ◌<◌, ◌≤◌, List, [], ◌++◌, length, take, drop, Option, Some, None, option_map, refl, ap, sym, ◌∙◌, subst, arith, length-drop, append-nil}
use Rattle.std.specs.Prelude.{is_some, unwrap_or, true}
use Rattle.std.specs.Option.{IfSome, IsSomeAnd}
use Rattle.esql_io.specs.Files.{Held, IsFound, whole_of}
use Rattle.std.proofs.Math.Seq.{take-add}
use Rattle.std.proofs.lemmas.List.{take-append-drop, drop-drop}
use Rattle.ndjson_load.specs.Whole.{IsNext}

-- the bytes are the first n of a list
pub record IsFront (n : ℕ) (bytes whole : List ℕ) : Type 0 where
  pub within : n ≤ length whole
  pub is : bytes ≡ take n whole

-- nothing is read yet
pub front_none : (whole : Option (List ℕ)) (n : ℕ) (bytes : List ℕ) → n ≡ 0 → bytes ≡ [] → IfSome whole (IsFront n bytes)
front_none None n bytes none empty = tt
front_none (Some whole) n bytes none empty = record { within = omega arith; is = empty ∙ ap (λ m. take m whole) (sym none) }

drop_none : (whole : List ℕ) (n : ℕ) → n ≡ 0 → whole ≡ drop n whole
drop_none whole n none = ap (λ m. drop m whole) (sym none)

pub left_none : (whole : Option (List ℕ)) (n : ℕ) → n ≡ 0 → whole ≡ option_map (drop n) whole
left_none None n none = refl
left_none (Some whole) n none = ap Some (drop_none whole n none)

front_more_of : (whole : Option (List ℕ)) (bytes more : List ℕ) (n m count size : ℕ) → m ≡ n + count → IfSome whole (IsFront n bytes)
    → IfSome (option_map (drop n) whole) (λ rest. IsNext rest count size) → IfSome (option_map (drop n) whole) (λ rest. more ≡ bytes ++ take count rest) → IfSome whole (IsFront m more)
front_more_of None bytes more n m count size sum front next read = tt
front_more_of (Some whole) bytes more n m count size sum front next read =
    record {
      within = omega (arith, next.within, front.within, length-drop n whole);
      is = read ∙ ap (λ b. b ++ take count (drop n whole)) front.is ∙ sym (take-add n count whole) ∙ ap (λ k. take k whole) (sym sum);
    }

-- the next bytes of what is left were read too
pub front_more : (whole left : Option (List ℕ)) (bytes more : List ℕ) (n m count size : ℕ) → m ≡ n + count → IfSome whole (IsFront n bytes) → left ≡ option_map (drop n) whole
    → IfSome left (λ rest. IsNext rest count size) → IfSome left (λ rest. more ≡ bytes ++ take count rest) → IfSome whole (IsFront m more)
front_more whole left bytes more n m count size sum front is next read =
    front_more_of whole bytes more n m count size sum front (subst (λ l. IfSome l (λ rest. IsNext rest count size)) is next) (subst (λ l. IfSome l (λ rest. more ≡ bytes ++ take count rest)) is read)

drop_more : (whole : Option (List ℕ)) (n m count : ℕ) → m ≡ n + count → option_map (drop count) (option_map (drop n) whole) ≡ option_map (drop m) whole
drop_more None n m count sum = refl
drop_more (Some whole) n m count sum = ap Some (drop-drop count n whole ∙ ap (λ k. drop k whole) (sym sum))

pub left_more : (whole left later : Option (List ℕ)) (n m count : ℕ) → m ≡ n + count → left ≡ option_map (drop n) whole → later ≡ option_map (drop count) left → later ≡ option_map (drop m) whole
left_more whole left later n m count sum before step = step ∙ ap (option_map (drop count)) before ∙ drop_more whole n m count sum

front_all_of : (whole : Option (List ℕ)) (bytes : List ℕ) (n size : ℕ) → 0 < size → IfSome whole (IsFront n bytes) → IfSome (option_map (drop n) whole) (λ rest. IsNext rest 0 size) → IfSome whole (λ rest. bytes ≡ rest)
front_all_of None bytes n size some front next = tt
front_all_of (Some whole) bytes n size some front next =
    let none : drop n whole ≡ [] = next.some some refl in
    front.is ∙ sym (append-nil (take n whole)) ∙ ap (λ b. take n whole ++ b) (sym none) ∙ take-append-drop n whole

-- the next bytes are none, so all is read
pub front_all : (whole left : Option (List ℕ)) (bytes : List ℕ) (n m count size : ℕ) → count ≡ 0 → m ≡ n + count → 0 < size → IfSome whole (IsFront m bytes)
    → left ≡ option_map (drop n) whole → IfSome left (λ rest. IsNext rest count size) → IfSome whole (λ rest. bytes ≡ rest)
front_all whole left bytes n m count size none sum some front is next =
    let same : m ≡ n = omega arith in
    front_all_of whole bytes n size some (subst (λ k. IfSome whole (IsFront k bytes)) same front)
    (subst (λ k. IfSome (option_map (drop n) whole) (λ rest. IsNext rest k size)) none (subst (λ l. IfSome l (λ rest. IsNext rest count size)) is next))

-- a front is no longer than the whole
pub front_long : (whole : Option (List ℕ)) (bytes : List ℕ) (n most : ℕ) → most < n → IfSome whole (IsFront n bytes) → IfSome whole (λ rest. most < length rest)
front_long None bytes n most more front = tt
front_long (Some whole) bytes n most more front = omega (arith, front.within)

long_held_of : (bytes : Option (List ℕ)) (most : ℕ) → true ≡ is_some bytes → most < length (unwrap_or bytes []) → IsSomeAnd bytes (λ b. most < length b)
long_held_of None most found long = absurd (cc)
long_held_of (Some bytes) most found long = long

-- what is left of a file that was found is what is held of it
pub long_held : (held : Held) (name : List ℕ) (left : Option (List ℕ)) (most : ℕ) → IsFound held name true → left ≡ whole_of held name → IfSome left (λ rest. most < length rest)
    → IfSome held (λ bytes_of. IsSomeAnd (bytes_of name) (λ b. most < length b))
long_held None name left most found is long = tt
long_held (Some bytes_of) name left most found is long = long_held_of (bytes_of name) most found (subst (λ l. IfSome l (λ rest. most < length rest)) is long)
