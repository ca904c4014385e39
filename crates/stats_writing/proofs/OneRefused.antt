-- Where one of the parts of something that was judged is refused, so is the whole.
use Rattle.std.proofs.Common.{◌≡◌, inl, inr, Bool, List, [], ◌∷◌, ◌++◌, IfErr, Result, Ok, Err, refl, sym, subst}
use Rattle.std.proofs.lemmas.List.Elements.{All-head}
use Rattle.esql_types.proofs.Lists.{All-front, All-back}
use Rattle.row_semantics.specs.Kinds.{and_then}
use Rattle.row_semantics.specs.Regulars.{Regular, is_accepted}
use Rattle.row_semantics.specs.Scopes.{Broken}
use Rattle.expression_analysis.specs.declared.error.AnalyzeError.{AnalyzeError}
use Rattle.expression_analysis.specs.declared.error.AnalyzeError.TheVariants.{Broken as BrokenAt, PatternRoom, Memory}
use Rattle.expression_analysis.specs.Answers.{accepted_but, IsRefusal}
use Rattle.stats_writing.specs.Parts.{Judgement, HasValue, AllFind, OneIsRefused}
use Rattle.plan_writing.proofs.Stays.{Stays}

pub has_ok : {A : Type 0} (found : Result A Broken) (value : A) → found ≡ Ok value → HasValue found
has_ok {A} found value is = subst (λ (these : Result A Broken). HasValue these) (sym is) tt

-- a value that is found, and what is found behind it
pub record Found {A B : Type 0} (first : Result A Broken) (next : A → Result B Broken) : Type 0 where
  pub value : A
  pub is : first ≡ Ok value
  pub next_has : HasValue (next value)

pub has_found : {A B : Type 0} (first : Result A Broken) (next : A → Result B Broken) → HasValue (and_then first next) → Found first next
has_found (Ok value) next has = record { value = value; is = refl; next_has = has }
has_found (Err broken) next has = absurd has

pub record Value {A : Type 0} (found : Result A Broken) : Type 0 where
  pub value : A
  pub is : found ≡ Ok value

pub value_in : {A : Type 0} (found : Result A Broken) → HasValue found → Value found
value_in (Ok value) has = record { value = value; is = refl }
value_in (Err broken) has = absurd has

-- one that is refused, among others
pub one_refused : {A : Type 0} (judge : (Regular → Bool) → Result A Broken) (those : List Judgement) (error : AnalyzeError) → ((accepts : Regular → Bool) → AllFind accepts those → HasValue (judge accepts))
    → IsRefusal judge error → OneIsRefused those error
one_refused {A} judge those (BrokenAt rule span) finds refused = λ all. subst (λ (these : Result A Broken). HasValue these) refused (finds is_accepted all)
one_refused {A} judge those (PatternRoom span) finds refused = λ all. subst (λ (these : Result A Broken). HasValue these) refused (finds (accepted_but span) all)
one_refused judge those (Memory error) finds refused = tt

pub refused_alone : (judge : Judgement) (error : AnalyzeError) → IsRefusal judge error → OneIsRefused (judge ∷ []) error
refused_alone judge error refused = one_refused judge (judge ∷ []) error (λ accepts all. All-head (λ (each : Judgement). HasValue (each accepts)) judge [] all) refused

pub refused_among : (these those : List Judgement) (error : AnalyzeError) → ((accepts : Regular → Bool) → AllFind accepts those → AllFind accepts these) → OneIsRefused these error → OneIsRefused those error
refused_among these those (BrokenAt rule span) finds refused = λ all. refused (finds is_accepted all)
refused_among these those (PatternRoom span) finds refused = λ all. refused (finds (accepted_but span) all)
refused_among these those (Memory error) finds refused = tt

pub refused_front : (these those : List Judgement) (error : AnalyzeError) → OneIsRefused these error → OneIsRefused (these ++ those) error
refused_front these those error = refused_among these (these ++ those) error (λ accepts. All-front (λ (each : Judgement). HasValue (each accepts)) these those)

pub refused_back : (these those : List Judgement) (error : AnalyzeError) → OneIsRefused those error → OneIsRefused (these ++ those) error
refused_back these those error = refused_among those (these ++ those) error (λ accepts. All-back (λ (each : Judgement). HasValue (each accepts)) these those)

-- something that was found, and in which each of these is
pub whole_refused : {A : Type 0} (whole : (Regular → Bool) → Result A Broken) (parts : List Judgement) (error : AnalyzeError) → Stays whole → HasValue (whole is_accepted)
    → ((accepts : Regular → Bool) → HasValue (whole accepts) → AllFind accepts parts) → OneIsRefused parts error → IsRefusal whole error
whole_refused whole parts (BrokenAt rule span) stays has finds refused = absurd (refused (finds is_accepted has))
whole_refused {A} whole parts (PatternRoom span) stays has finds refused =
    elim (stays span) [
      | inl same ↦ absurd (refused (finds (accepted_but span) (subst (λ (these : Result A Broken). HasValue these) (sym same) has)))
      | inr refuses ↦ refuses
    ]
whole_refused whole parts (Memory error) stays has finds refused = tt

pub err_alone : {A : Type 0} (judge : Judgement) (result : Result A AnalyzeError) → IfErr result (IsRefusal judge) → IfErr result (OneIsRefused (judge ∷ []))
err_alone judge (Ok value) refused = tt
err_alone judge (Err error) refused = refused_alone judge error refused

pub err_back : {A : Type 0} (these those : List Judgement) (result : Result A AnalyzeError) → IfErr result (OneIsRefused those) → IfErr result (OneIsRefused (these ++ those))
err_back these those (Ok value) refused = tt
err_back these those (Err error) refused = refused_back these those error refused
