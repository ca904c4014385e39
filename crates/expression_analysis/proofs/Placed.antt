-- A function of typed parts: its first misfit, its pattern, and the typed expression.
use Rattle.std.proofs.Common.{◌≡◌, ◌⊎◌, inl, inr, ℕ, Bool, true, false, not, ◌&&◌, cond, List, [], ◌∷◌, Option, Some, None, Result, Ok, Err, refl, ap, sym, subst, ◌∙◌, arith}
use Rattle.std.specs.Prelude.{slice_index_or}
use Rattle.std.proofs.lemmas.Bool.Decides.{nat_tests}
use Rattle.esql_types.specs.declared.places.Span.{Span}
use Rattle.esql_types.specs.declared.names.NodeId.{NodeId}
use Rattle.esql_types.specs.declared.value.Kind.{Kind}
use Rattle.esql_types.specs.declared.value.Kind.TheVariants as kind
use Rattle.esql_plan.specs.declared.function.Function.{Function}
use Rattle.esql_plan.specs.declared.function.Function.TheVariants as function
use Rattle.esql_plan.specs.declared.typed.TypedExpr.{TypedExpr, roll-TypedExpr}
use Rattle.esql_plan.specs.declared.typed.TypedForm.TheVariants.{Apply}
use Rattle.esql_plan.specs.Signatures.{misfit, kind_of_call}
use Rattle.text_match.specs.declared.patterns.Patterns.{Patterns}
use Rattle.row_semantics.specs.declared.rule.NameRule.TheVariants.{BadKind, BadRegex}
use Rattle.row_semantics.specs.Forms.{function_in_plan, arguments_in_plan}
use Rattle.row_semantics.specs.Kinds.{breaks, wrong_literal, regular_of, first_place, if_accepted, fitting}
use Rattle.row_semantics.specs.Regulars.{Regular, is_accepted}
use Rattle.row_semantics.specs.Scopes.{Broken}
use Rattle.expression_analysis.specs.declared.error.AnalyzeError.{AnalyzeError}
use Rattle.expression_analysis.specs.declared.error.AnalyzeError.TheVariants as error
use Rattle.expression_analysis.specs.declared.parts.Parts.{Parts}
use Rattle.expression_analysis.specs.Answers.{same_span, accepted_but, scope_of}
use Rattle.expression_analysis.specs.Calls.{parts_at, place_of, own_kind}
use Rattle.expression_analysis.specs.Steps.{Marks, Gives, IsErrorOf, if_read, kinds_in, own_regulars, IsPatternRead, IsPatternAnswer, IsCompleted}
use Rattle.expression_analysis.proofs.Judgements.{is_refused_at, gives_same}

pub kinds_in_plan : (written : Function) (args : List TypedExpr) → kinds_in (arguments_in_plan written args) ≡ arguments_in_plan written (kinds_in args)
kinds_in_plan function.MvSort [] = refl
kinds_in_plan function.MvSort (first ∷ rest) = refl
kinds_in_plan written args = refl

no_first : (place other : Option ℕ) → None ≡ first_place place other → other ≡ None
no_first None None is = refl
no_first None (Some other) is = absurd cc
no_first (Some place) None is = absurd cc
no_first (Some place) (Some other) is = absurd cc

told_alike : (own : Option Regular) (accepts : Regular → Bool) (broken : Broken) (given : Kind) → if_read own accepts ≡ Err broken → if_accepted own (scope_of accepts []) given ≡ Err broken
told_alike None accepts broken given is = absurd cc
told_alike (Some regular) accepts broken given is = told_by (accepts regular) is
  where
    told_by : (accepted : Bool) → cond accepted (Ok kind.Null) (breaks BadRegex regular.span) ≡ Err broken → cond accepted (Ok given) (breaks BadRegex regular.span) ≡ Err broken
    told_by true is = absurd cc
    told_by false is = is

module _ (written : Function) (spans : List Span) (literal : Option (List ℕ)) (kinds : List Kind) (span : Span) where
  abbrev kind_there : (Regular → Bool) → Result Kind Broken
  kind_there accepts = if_accepted (regular_of written (parts_at spans literal)) (scope_of accepts []) (kind_of_call (function_in_plan written (parts_at spans literal)) (arguments_in_plan written kinds))

  pub misplaced : (place : ℕ) (slice : List Span) (at : Span) → slice ≡ spans → at ≡ slice_index_or slice place span → Some place ≡ place_of written spans literal kinds
      → own_kind written spans literal kinds span is_accepted ≡ Err (record { rule = BadKind; span = at })
  misplaced place slice at same is found =
      ap (λ (first : Option ℕ). fitting first spans span (kind_there is_accepted)) (sym found)
      ∙ ap (λ (there : Span). breaks BadKind there) (sym (is ∙ ap (λ (these : List Span). slice_index_or these place span) same))

  module _ (found : None ≡ place_of written spans literal kinds) where
    -- where every part fits
    fits_there : (accepts : Regular → Bool) → kind_there accepts ≡ own_kind written spans literal kinds span accepts
    fits_there accepts = ap (λ (first : Option ℕ). fitting first spans span (kind_there accepts)) found

    pattern_told : (before after : Marks) (told : AnalyzeError) → IsErrorOf (if_read (regular_of written (parts_at spans literal))) (own_regulars written spans literal) before after told
        → IsErrorOf (own_kind written spans literal kinds span) (own_regulars written spans literal) before after told
    pattern_told before after (error.Broken rule at) is = (sym (fits_there is_accepted) ∙ told_alike (regular_of written (parts_at spans literal)) is_accepted _ _ is.0, is.1)
    pattern_told before after (error.PatternRoom at) is = (sym (fits_there (accepted_but at)) ∙ told_alike (regular_of written (parts_at spans literal)) (accepted_but at) _ _ is.0, is.1)
    pattern_told before after (error.Memory memory) is = is

pub pattern_error : (written : Function) (spans : List Span) (literal : Option (List ℕ)) (kinds : List Kind) (span : Span) (slice : List Span) (old new : Patterns) (before after : Marks) (told : AnalyzeError)
    → None ≡ place_of written spans literal kinds → slice ≡ spans → IsPatternAnswer written slice literal old new before after (Err told)
    → IsErrorOf (own_kind written spans literal kinds span) (own_regulars written spans literal) before after told
pattern_error written spans literal kinds span slice old new before after told found same is =
    pattern_told written spans literal kinds span found before after told
    (subst (λ (these : List Span). IsErrorOf (if_read (regular_of written (parts_at these literal))) (own_regulars written these literal) before after told) same is)

-- a place is the same as another one, or not
span_same : (left right : Span) (same : Bool) → same_span left right ≡ same → (left ≡ right) ⊎ (same ≡ false)
span_same left right true is =
    let from : left.from ≡ right.from = grind (arith, nat_tests) in
    let to : left.to ≡ right.to = grind (arith, nat_tests) in
    inl (λ i. record { from = from i; to = to i })
span_same left right false is = inr refl

-- an accepted regular expression gives the kind, or is refused at its own place
module _ (regular : Regular) (kind : Kind) (accepted : is_accepted regular ≡ true) where
  abbrev by_test : Bool → Result Kind Broken
  by_test found = cond found (Ok kind) (breaks BadRegex regular.span)

  by_place : (span : Span) (same : Bool) → same_span span regular.span ≡ same → (span ≡ regular.span) ⊎ (same ≡ false)
      → (by_test (accepted_but span regular) ≡ Ok kind) ⊎ (by_test (accepted_but span regular) ≡ Err (is_refused_at span))
  by_place span true is (inl there) = inr ((λ i. by_test (accepted i && not (is i))) ∙ (λ i. Err (is_refused_at (sym there i))))
  by_place span true is (inr none) = absurd cc
  by_place span false is other = inl (λ i. by_test (accepted i && not (is i)))

gives_own : (own : Option Regular) (kind : Kind) → ((regular : Regular) → own ≡ Some regular → is_accepted regular ≡ true) → Gives (λ accepts. if_accepted own (scope_of accepts []) kind) kind
gives_own None kind accepted = record { accepted = refl; but = λ span. inl refl }
gives_own (Some regular) kind accepted = record {
  accepted = ap (λ (found : Bool). cond found (Ok kind) (breaks BadRegex regular.span)) (accepted regular refl);
  but = λ span. by_place regular kind (accepted regular refl) span (same_span span regular.span) refl (span_same span regular.span (same_span span regular.span) refl);
}

module _ (node : NodeId) (written : Function) (parts : Parts) (literal : Option (List ℕ)) (span : Span) (old new : Patterns) (in_plan : Function) (args : List TypedExpr) (own : Kind) (number : Option ℕ)
    (slice : List Span) (in_plan_is : in_plan ≡ function_in_plan written (parts_at parts.spans literal)) (args_are : args ≡ arguments_in_plan written parts.args)
    (own_is : own ≡ kind_of_call (function_in_plan written (parts_at parts.spans literal)) (arguments_in_plan written (kinds_in parts.args)))
    (found : None ≡ place_of written parts.spans literal (kinds_in parts.args)) (same : slice ≡ parts.spans) (pattern : IsPatternRead written slice literal old new number) where
  read_there : IsPatternRead written parts.spans literal old new number
  read_there = subst (λ (these : List Span). IsPatternRead written these literal old new number) same pattern

  gives_kind : Gives (kind_there written parts.spans literal (kinds_in parts.args) span) own
  gives_kind =
      subst (Gives (kind_there written parts.spans literal (kinds_in parts.args) span)) (sym own_is)
      (gives_own (regular_of written (parts_at parts.spans literal)) (kind_of_call (function_in_plan written (parts_at parts.spans literal)) (arguments_in_plan written (kinds_in parts.args))) read_there.accepted)

  kind_again : own ≡ kind_of_call (function_in_plan written (parts_at parts.spans literal)) (kinds_in (arguments_in_plan written parts.args))
  kind_again = own_is ∙ ap (kind_of_call (function_in_plan written (parts_at parts.spans literal))) (sym (kinds_in_plan written parts.args))

  pub completed_is : IsCompleted node written parts literal span old new (roll-TypedExpr (record { node = node; kind = own; form = Apply in_plan args number }))
  completed_is = record {
    is = λ room. λ i. roll-TypedExpr (record { node = node; kind = kind_again i; form = Apply (in_plan_is i) (args_are i) (read_there.is room i) });
    fits = no_first (misfit (function_in_plan written (parts_at parts.spans literal)) (arguments_in_plan written (kinds_in parts.args))) (wrong_literal written (parts_at parts.spans literal)) found;
    kind = own_is;
    gives = gives_same Kind (kind_there written parts.spans literal (kinds_in parts.args) span) (own_kind written parts.spans literal (kinds_in parts.args) span)
        (fits_there written parts.spans literal (kinds_in parts.args) span found) own gives_kind;
    whole = read_there.whole;
    free = read_there.free;
  }
