-- Judgements one after another, and the errors that they give.
use Rattle.std.proofs.Common.{◌≡◌, ◌⊎◌, inl, inr, ℕ, Bool, List, [], ◌∷◌, ◌++◌, Result, Ok, Err, refl, ap, sym, subst, ◌∙◌}
use Rattle.esql_types.specs.declared.places.Span.{Span}
use Rattle.row_semantics.specs.declared.rule.NameRule.TheVariants.{BadRegex}
use Rattle.row_semantics.specs.Kinds.{and_then}
use Rattle.row_semantics.specs.Regulars.{Regular, is_accepted}
use Rattle.row_semantics.specs.Scopes.{Broken}
use Rattle.expression_analysis.specs.declared.error.AnalyzeError.{AnalyzeError}
use Rattle.expression_analysis.specs.declared.error.AnalyzeError.TheVariants as error
use Rattle.expression_analysis.specs.Answers.{accepted_but, OneIsNoted}
use Rattle.expression_analysis.specs.Steps.{Marks, Judgement, Gives, WasTooLarge, IsErrorOf}

-- what a judgement gives is handed to the next
abbrev pub chained : {A B : Type 0} → Judgement A → (A → Judgement B) → Judgement B
chained first next accepts = and_then (first accepts) (λ value. next value accepts)

abbrev pub is_refused_at : Span → Broken
is_refused_at span = record { rule = BadRegex; span = span }

module _ (A B : Type 0) (broken : Broken) (value : A) (next : A → Result B Broken) where
  but_next : (made : B) (told : Result A Broken) → (told ≡ Ok value) ⊎ (told ≡ Err broken) → (next value ≡ Ok made) ⊎ (next value ≡ Err broken)
      → (and_then told next ≡ Ok made) ⊎ (and_then told next ≡ Err broken)
  but_next made told (inl is) (inl also) = inl (ap (λ (these : Result A Broken). and_then these next) is ∙ also)
  but_next made told (inl is) (inr also) = inr (ap (λ (these : Result A Broken). and_then these next) is ∙ also)
  but_next made told (inr is) also = inr (ap (λ (these : Result A Broken). and_then these next) is)

  error_behind : (told : Result A Broken) → (told ≡ Ok value) ⊎ (told ≡ Err broken) → next value ≡ Err broken → and_then told next ≡ Err broken
  error_behind told (inl is) also = ap (λ (these : Result A Broken). and_then these next) is ∙ also
  error_behind told (inr is) also = ap (λ (these : Result A Broken). and_then these next) is

-- regular expressions ------------------------------------------------------------------------------------------------------------

pub noted_front : (span : Span) (noted : List ℕ) (xs ys : List Regular) → OneIsNoted xs span noted → OneIsNoted (xs ++ ys) span noted
noted_front span noted [] ys one = absurd one
noted_front span noted (x ∷ xs) ys (inl here) = inl here
noted_front span noted (x ∷ xs) ys (inr later) = inr (noted_front span noted xs ys later)

pub noted_back : (span : Span) (noted : List ℕ) (xs ys : List Regular) → OneIsNoted ys span noted → OneIsNoted (xs ++ ys) span noted
noted_back span noted [] ys one = one
noted_back span noted (x ∷ xs) ys one = inr (noted_back span noted xs ys one)

-- the same judgement -------------------------------------------------------------------------------------------------------------

module _ (A : Type 0) (judge other : Judgement A) (same : (accepts : Regular → Bool) → judge accepts ≡ other accepts) where
  gives_same_but : (value : A) (broken : Broken) (accepts : Regular → Bool) → (judge accepts ≡ Ok value) ⊎ (judge accepts ≡ Err broken)
      → (other accepts ≡ Ok value) ⊎ (other accepts ≡ Err broken)
  gives_same_but value broken accepts (inl is) = inl (sym (same accepts) ∙ is)
  gives_same_but value broken accepts (inr is) = inr (sym (same accepts) ∙ is)

  pub gives_same : (value : A) → Gives judge value → Gives other value
  gives_same value gives = record {
    accepted = sym (same is_accepted) ∙ gives.accepted;
    but = λ span. gives_same_but value (is_refused_at span) (accepted_but span) (gives.but span);
  }

  pub error_same : (regulars : List Regular) (before after : Marks) (told : AnalyzeError) → IsErrorOf judge regulars before after told → IsErrorOf other regulars before after told
  error_same regulars before after (error.Broken rule span) is = (sym (same is_accepted) ∙ is.0, is.1)
  error_same regulars before after (error.PatternRoom span) is = (sym (same (accepted_but span)) ∙ is.0, is.1)
  error_same regulars before after (error.Memory memory) is = is

-- chains -------------------------------------------------------------------------------------------------------------------------

-- a judgement that refuses nothing
pub gives_all : (A : Type 0) (value : A) → Gives (λ accepts. Ok value) value
gives_all A value = record { accepted = refl; but = λ span. inl refl }

module _ (A B : Type 0) (first : Judgement A) (next : A → Judgement B) where
  pub gives_next : (value : A) (made : B) → Gives first value → Gives (next value) made → Gives (chained first next) made
  gives_next value made here there = record {
    accepted = ap (λ (told : Result A Broken). and_then told (λ (these : A). next these is_accepted)) here.accepted ∙ there.accepted;
    but = λ span. but_next A B (is_refused_at span) value (λ (these : A). next these (accepted_but span)) made (first (accepted_but span)) (here.but span) (there.but span);
  }

  -- an error of the first is one of both
  pub error_first : (regulars more : List Regular) (before after : Marks) (told : AnalyzeError) → IsErrorOf first regulars before after told
      → IsErrorOf (chained first next) (regulars ++ more) before after told
  error_first regulars more before after (error.Broken rule span) is = (ap (λ (these : Result A Broken). and_then these (λ (value : A). next value is_accepted)) is.0, is.1)
  error_first regulars more before after (error.PatternRoom span) is = (
    ap (λ (these : Result A Broken). and_then these (λ (value : A). next value (accepted_but span))) is.0,
    record { rose = is.1.rose; count = is.1.count; noted = noted_front span after.last regulars more is.1.noted },
  )
  error_first regulars more before after (error.Memory memory) is = is

  -- an error of the next one, behind what the first gives
  pub error_next : (value : A) (earlier regulars : List Regular) (before middle after : Marks) (told : AnalyzeError) → Gives first value → middle ≡ before
      → IsErrorOf (next value) regulars middle after told → IsErrorOf (chained first next) (earlier ++ regulars) before after told
  error_next value earlier regulars before middle after (error.Broken rule span) here same is =
      (ap (λ (these : Result A Broken). and_then these (λ (value : A). next value is_accepted)) here.accepted ∙ is.0, is.1 ∙ same)
  error_next value earlier regulars before middle after (error.PatternRoom span) here same is = (
    error_behind A B (is_refused_at span) value (λ (these : A). next these (accepted_but span)) (first (accepted_but span)) (here.but span) is.0,
    subst (λ (marks : Marks). WasTooLarge (earlier ++ regulars) span marks after) same
        (record { rose = is.1.rose; count = is.1.count; noted = noted_back span after.last earlier regulars is.1.noted }),
  )
  error_next value earlier regulars before middle after (error.Memory memory) here same is = is ∙ same
