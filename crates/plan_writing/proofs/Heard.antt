-- What the maker is heard to say in a part is heard of the whole, where it said nothing before.
use Rattle.std.proofs.Common.{◌≡◌, inl, inr, ℕ, zero, suc, ◌<◌, ◌≤◌, List, [], ◌∷◌, ◌++◌, length, get_or, Result, Ok, Err, subst, ◌∙◌, arith}
use Rattle.std.specs.List.{flat_map}
use Rattle.esql_types.specs.declared.places.Span.{Span}
use Rattle.esql_types.specs.Counts.{Rose}
use Rattle.row_semantics.specs.Regulars.{Regular}
use Rattle.expression_analysis.specs.declared.error.AnalyzeError.{AnalyzeError}
use Rattle.expression_analysis.specs.declared.error.AnalyzeError.TheVariants.{Broken, PatternRoom, Memory}
use Rattle.expression_analysis.specs.Answers.{OneIsNoted, IsUntouched}
use Rattle.plan_writing.specs.Answers.{IsHeard, Hears}

-- what is noted of a part is noted of the whole
abbrev pub IsWithin : List Regular → List Regular → Type 0
IsWithin these those = (span : Span) (noted : List ℕ) → OneIsNoted these span noted → OneIsNoted those span noted

pub within_front : (these those : List Regular) → IsWithin these (these ++ those)
within_front [] those span noted one = absurd one
within_front (regular ∷ these) those span noted (inl own) = inl own
within_front (regular ∷ these) those span noted (inr rest) = inr (within_front these those span noted rest)

pub within_back : (these those : List Regular) → IsWithin those (these ++ those)
within_back [] those span noted one = one
within_back (regular ∷ these) those span noted one = inr (within_back these those span noted one)

pub within_one : {A : Type 0} (f : A → List Regular) (i : ℕ) (xs : List A) (x : A) → i < length xs → x ≡ get_or xs i x → IsWithin (f x) (flat_map f xs)
within_one f i [] x less is = absurd (omega (arith, less))
within_one f zero (y ∷ xs) x less is = λ span noted one. within_front (f y) (flat_map f xs) span noted (subst (λ z. OneIsNoted (f z) span noted) is one)
within_one f (suc i) (y ∷ xs) x less is = λ span noted one. within_back (f y) (flat_map f xs) span noted (within_one f i xs x (omega (arith, less)) is span noted one)

pub untouched_more : {M : Type 0} (count : M → ℕ) (last : M → List ℕ) (old mid new : M) → IsUntouched count last old mid → IsUntouched count last mid new → IsUntouched count last old new
untouched_more count last old mid new first next = record { counted = next.counted ∙ first.counted; noted = next.noted ∙ first.noted }

pub heard_more : {M : Type 0} (count : M → ℕ) (last : M → List ℕ) (these those : List Regular) (old mid new : M) (error : AnalyzeError) → IsUntouched count last old mid → IsWithin these those
    → IsHeard count last these mid new error → IsHeard count last those old new error
heard_more count last these those old mid new (Broken rule span) first within heard = untouched_more count last old mid new first heard
heard_more count last these those old mid new (PatternRoom span) first within heard = (
  record { rose = subst (λ n. Rose n (count new)) first.counted heard.0.rose; noted_one = within span (last new) heard.0.noted_one },
  subst (λ n. n ≤ count new) first.counted heard.1,
)
heard_more count last these those old mid new (Memory error) first within heard = untouched_more count last old mid new first heard

-- what is heard behind something that did not ask the maker
pub hears_more : {M A : Type 0} (count : M → ℕ) (last : M → List ℕ) (these those : List Regular) (old mid new : M) (result : Result A AnalyzeError) → IsUntouched count last old mid → IsWithin these those
    → Hears count last these mid new result → Hears count last those old new result
hears_more count last these those old mid new (Ok value) first within heard = untouched_more count last old mid new first heard
hears_more count last these those old mid new (Err error) first within heard = heard_more count last these those old mid new error first within heard
