-- How refusals go on behind what was judged before.
use Rattle.std.proofs.Common.{◌≡◌, inl, inr, Bool, Result, Ok, ap, ◌∙◌}
use Rattle.row_semantics.specs.Regulars.{Regular, is_accepted}
use Rattle.row_semantics.specs.Scopes.{Broken}
use Rattle.row_semantics.specs.Kinds.{and_then}
use Rattle.expression_analysis.specs.declared.error.AnalyzeError.{AnalyzeError}
use Rattle.expression_analysis.specs.declared.error.AnalyzeError.TheVariants.{Broken as BrokenAt, PatternRoom, Memory}
use Rattle.expression_analysis.specs.Answers.{accepted_but, IsRefusal}
use Rattle.plan_writing.proofs.Stays.{Stays}

-- what is refused behind something that is found refuses both
pub refused_behind : {A B : Type 0} (first : (Regular → Bool) → Result A Broken) (next : (Regular → Bool) → A → Result B Broken) (value : A) (error : AnalyzeError) → Stays first → first is_accepted ≡ Ok value
    → IsRefusal (λ accepts. next accepts value) error → IsRefusal (λ accepts. and_then (first accepts) (next accepts)) error
refused_behind first next value (BrokenAt rule span) stays is refused = ap (λ r. and_then r (next is_accepted)) is ∙ refused
refused_behind first next value (PatternRoom span) stays is refused =
    elim (stays span) [
      | inl as_before ↦ ap (λ r. and_then r (next (accepted_but span))) (as_before ∙ is) ∙ refused
      | inr refuses ↦ ap (λ r. and_then r (next (accepted_but span))) refuses
    ]
refused_behind first next value (Memory error) stays is refused = tt

-- what is refused first refuses both
pub refused_first : {A B : Type 0} (first : (Regular → Bool) → Result A Broken) (next : (Regular → Bool) → A → Result B Broken) (error : AnalyzeError)
    → IsRefusal first error → IsRefusal (λ accepts. and_then (first accepts) (next accepts)) error
refused_first first next (BrokenAt rule span) refused = ap (λ r. and_then r (next is_accepted)) refused
refused_first first next (PatternRoom span) refused = ap (λ r. and_then r (next (accepted_but span))) refused
refused_first first next (Memory error) refused = tt

-- a judgement that is another one refuses as it does
pub refused_as : {A : Type 0} (this that : (Regular → Bool) → Result A Broken) (error : AnalyzeError) → ((accepts : Regular → Bool) → this accepts ≡ that accepts) → IsRefusal that error → IsRefusal this error
refused_as this that (BrokenAt rule span) same refused = same is_accepted ∙ refused
refused_as this that (PatternRoom span) same refused = same (accepted_but span) ∙ refused
refused_as this that (Memory error) same refused = tt
