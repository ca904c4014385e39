-- Maps that pass through filters, fronts and places.
use Rattle.std.proofs.Common.{◌≡◌, ℕ, zero, suc, Bool, true, false, cond, List, [], ◌∷◌, ◌++◌, map, filter, All, Option, Some, None, IfSome, refl, ap, sym, ◌∙◌}
use Rattle.std.specs.Prelude.{slice_get}
use Rattle.std.specs.List.{flat_map, filter_map, cons_option}
use Rattle.std.specs.Option.{option_map}
use Rattle.std.proofs.lemmas.Option.{slice_get-map}
use Rattle.std.proofs.lemmas.List.{map-append}
use Rattle.std.proofs.lemmas.List.Elements.{All-nil, All-cons, All-head, All-tail}
use Rattle.name_rules.specs.NameRules.{Renaming, at_places, renamed_by}

pub map_map : {A B C : Type 0} (f : B → C) (g : A → B) (xs : List A) → map f (map g xs) ≡ map (λ x. f (g x)) xs
map_map f g [] = refl
map_map f g (x ∷ xs) = λ i. f (g x) ∷ map_map f g xs i

pub map_same : {A B : Type 0} (f g : A → B) → ((x : A) → f x ≡ g x) → (xs : List A) → map f xs ≡ map g xs
map_same f g same [] = refl
map_same f g same (x ∷ xs) = λ i. same x i ∷ map_same f g same xs i

pub map_all : {A B : Type 0} (P : A → Type 0) (f g : A → B) → ((x : A) → P x → f x ≡ g x) → (xs : List A) → All P xs → map f xs ≡ map g xs
map_all P f g same [] all = refl
map_all P f g same (x ∷ xs) all = λ i. same x (All-head P x xs all) i ∷ map_all P f g same xs (All-tail P x xs all) i

-- a map of each, with that of one item each behind it
pub map_square : {A B C D : Type 0} (f : B → C) (g : A → B) (h : D → C) (k : A → D) → ((x : A) → f (g x) ≡ h (k x)) → (xs : List A) → map f (map g xs) ≡ map h (flat_map (λ x. k x ∷ []) xs)
map_square f g h k same [] = refl
map_square f g h k same (x ∷ xs) = λ i. same x i ∷ map_square f g h k same xs i

pub flat_map_square : {A B C : Type 0} (f : B → List C) (g : A → B) (k : A → List C) → ((x : A) → f (g x) ≡ k x) → (xs : List A) → flat_map f (map g xs) ≡ flat_map k xs
flat_map_square f g k same [] = refl
flat_map_square f g k same (x ∷ xs) = λ i. same x i ++ flat_map_square f g k same xs i

pub flat_map_same : {A B : Type 0} (f g : A → List B) → ((x : A) → f x ≡ g x) → (xs : List A) → flat_map f xs ≡ flat_map g xs
flat_map_same f g same [] = refl
flat_map_same f g same (x ∷ xs) = λ i. same x i ++ flat_map_same f g same xs i

pub map-flat_map : {X A B : Type 0} (f : A → B) (rows : X → List A) (xs : List X) → map f (flat_map rows xs) ≡ flat_map (λ x. map f (rows x)) xs
map-flat_map f rows [] = refl
map-flat_map f rows (x ∷ xs) = map-append f (rows x) (flat_map rows xs) ∙ ap (λ these. map f (rows x) ++ these) (map-flat_map f rows xs)

pub flat_map_none : {A B : Type 0} (f : A → List B) → ((x : A) → f x ≡ []) → (xs : List A) → flat_map f xs ≡ []
flat_map_none f none [] = refl
flat_map_none f none (x ∷ xs) = λ i. none x i ++ flat_map_none f none xs i

pub flat_map_one : {A B : Type 0} (f : A → B) (xs : List A) → flat_map (λ x. f x ∷ []) xs ≡ map f xs
flat_map_one f [] = refl
flat_map_one f (x ∷ xs) = ap (λ rest. f x ∷ rest) (flat_map_one f xs)

map-cond : {A B : Type 0} (f : A → B) (b : Bool) (xs ys : List A) → map f (cond b xs ys) ≡ cond b (map f xs) (map f ys)
map-cond f true xs ys = refl
map-cond f false xs ys = refl

pub filter_square : {A B : Type 0} (p : B → Bool) (g : A → B) (q : A → Bool) → ((x : A) → p (g x) ≡ q x) → (xs : List A) → filter p (map g xs) ≡ map g (filter q xs)
filter_square p g q same [] = refl
filter_square p g q same (x ∷ xs) =
    (λ i. cond (same x i) (g x ∷ filter_square p g q same xs i) (filter_square p g q same xs i))
    ∙ sym (map-cond g (q x) (x ∷ filter q xs) (filter q xs))

filter_one : {A : Type 0} (b : Bool) (x : A) (xs : List A) → cond b (x ∷ xs) xs ≡ cond b (x ∷ []) [] ++ xs
filter_one true x xs = refl
filter_one false x xs = refl

-- a filter is one item or none of each
pub filter_each : {A : Type 0} (q : A → Bool) (xs : List A) → filter q xs ≡ flat_map (λ x. cond (q x) (x ∷ []) []) xs
filter_each q [] = refl
filter_each q (x ∷ xs) = filter_one (q x) x (filter q xs) ∙ ap (λ these. cond (q x) (x ∷ []) [] ++ these) (filter_each q xs)

cons_option-map : {A B : Type 0} (f : A → B) (found : Option A) (xs : List A) → cons_option (option_map f found) (map f xs) ≡ map f (cons_option found xs)
cons_option-map f None xs = refl
cons_option-map f (Some x) xs = refl

-- where each item that is found is mapped, the list of those found is
found_map : {A B I : Type 0} (f : A → B) (these : I → Option A) (those : I → Option B) → ((i : I) → those i ≡ option_map f (these i)) → (items : List I) → filter_map those items ≡ map f (filter_map these items)
found_map f these those same [] = refl
found_map f these those same (item ∷ items) =
    (λ i. cons_option (same item i) (found_map f these those same items i)) ∙ cons_option-map f (these item) (filter_map these items)

pub at_places-map : {A B : Type 0} (f : A → B) (places : List ℕ) (xs : List A) → at_places places (map f xs) ≡ map f (at_places places xs)
at_places-map f places xs = found_map f (λ place. slice_get xs place) (λ place. slice_get (map f xs) place) (λ place. slice_get-map f xs place) places

renamed_found : {A B : Type 0} (f : A → B) (r : A → A) (s : B → B) → ((x : A) → s (f x) ≡ f (r x)) → (found : Option A) → option_map s (option_map f found) ≡ option_map f (option_map r found)
renamed_found f r s same None = refl
renamed_found f r s same (Some x) = ap Some (same x)

pub renamed_by-map : {A B : Type 0} (f : A → B) (r : List ℕ → A → A) (s : List ℕ → B → B) → ((name : List ℕ) (x : A) → s name (f x) ≡ f (r name x))
    → (these : List Renaming) (xs : List A) → renamed_by s these (map f xs) ≡ map f (renamed_by r these xs)
renamed_by-map f r s same these xs =
    found_map f (λ (renaming : Renaming). option_map (r renaming.name) (slice_get xs renaming.place)) (λ (renaming : Renaming). option_map (s renaming.name) (slice_get (map f xs) renaming.place))
    (λ (renaming : Renaming). ap (option_map (s renaming.name)) (slice_get-map f xs renaming.place) ∙ renamed_found f (r renaming.name) (s renaming.name) (same renaming.name) (slice_get xs renaming.place))
    these

All-cons_option : {A : Type 0} (P : A → Type 0) (found : Option A) (xs : List A) → IfSome found P → All P xs → All P (cons_option found xs)
All-cons_option P None xs holds all = all
All-cons_option P (Some x) xs holds all = All-cons P x xs holds all

-- what holds of each item holds of those found
All-found : {A I : Type 0} (P : A → Type 0) (these : I → Option A) → ((i : I) → IfSome (these i) P) → (items : List I) → All P (filter_map these items)
All-found P these each [] = All-nil P
All-found P these each (item ∷ items) = All-cons_option P (these item) (filter_map these items) (each item) (All-found P these each items)

IfSome-slice_get : {A : Type 0} (P : A → Type 0) (xs : List A) (place : ℕ) → All P xs → IfSome (slice_get xs place) P
IfSome-slice_get P [] place all = tt
IfSome-slice_get P (x ∷ xs) zero all = All-head P x xs all
IfSome-slice_get P (x ∷ xs) (suc place) all = IfSome-slice_get P xs place (All-tail P x xs all)

IfSome-option_map : {A : Type 0} (P : A → Type 0) (f : A → A) → ((x : A) → P x → P (f x)) → (found : Option A) → IfSome found P → IfSome (option_map f found) P
IfSome-option_map P f kept None holds = holds
IfSome-option_map P f kept (Some x) holds = kept x holds

pub All-at_places : {A : Type 0} (P : A → Type 0) (places : List ℕ) (xs : List A) → All P xs → All P (at_places places xs)
All-at_places P places xs all = All-found P (λ place. slice_get xs place) (λ place. IfSome-slice_get P xs place all) places

pub All-renamed_by : {A : Type 0} (P : A → Type 0) (r : List ℕ → A → A) → ((name : List ℕ) (x : A) → P x → P (r name x)) → (these : List Renaming) (xs : List A) → All P xs → All P (renamed_by r these xs)
All-renamed_by P r kept these xs all =
    All-found P (λ (renaming : Renaming). option_map (r renaming.name) (slice_get xs renaming.place))
    (λ renaming. IfSome-option_map P (r renaming.name) (kept renaming.name) (slice_get xs renaming.place) (IfSome-slice_get P xs renaming.place all)) these
