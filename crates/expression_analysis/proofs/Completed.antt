-- A function of typed parts answers for the node that it is.
use Rattle.std.proofs.Common.{◌≡◌, ℕ, ◌+◌, ◌≤◌, nat_le, Bool, true, false, cond, List, [], ◌∷◌, ◌++◌, map, length, Option, Some, None, Result, Ok, Err, refl, ap, sym, subst, ◌∙◌, arith}
use Rattle.std.proofs.lemmas.Bool.Decides.{nat_tests}
use Rattle.esql_types.specs.declared.places.Span.{Span}
use Rattle.esql_types.specs.declared.names.NodeId.{NodeId}
use Rattle.esql_types.specs.declared.value.Kind.{Kind}
use Rattle.esql_ast.specs.declared.expr.Expr.{Expr}
use Rattle.esql_plan.specs.declared.function.Function.{Function}
use Rattle.esql_plan.specs.declared.function.Function.TheVariants as function
use Rattle.esql_plan.specs.declared.typed.TypedExpr.{TypedExpr}
use Rattle.esql_plan.specs.Signatures.{kind_of_call}
use Rattle.text_match.specs.declared.patterns.Patterns.{Patterns}
use Rattle.row_semantics.specs.Forms.{Part, Reader, part_of, is_word, function_in_plan, arguments_in_plan}
use Rattle.row_semantics.specs.Kinds.{Judged, judged, wrong_literal, regular_of, kind_of_applied}
use Rattle.row_semantics.specs.Regulars.{Regular}
use Rattle.row_semantics.specs.Typed.{Typing, Visible, typing, typed_parts, typed_apply, whole_of, free_of, pattern_number}
use Rattle.expression_analysis.specs.declared.error.AnalyzeError.{AnalyzeError}
use Rattle.expression_analysis.specs.declared.parts.Parts.{Parts}
use Rattle.expression_analysis.specs.Answers.{regulars_in, regulars_in_option, regulars_of_parts}
use Rattle.expression_analysis.specs.Calls.{parts_at, second_literal, own_kind, takes_few}
use Rattle.expression_analysis.specs.Steps.{Marks, Over, visible_over, scope_over, Judgement, IsErrorOf, IsTyped, IsAnswer, judgement_over, applied_to, literal_of_expr, typings, judgeds, regular_parts, wholes, frees, kinds_in, kinds_judgement, AreTyped, own_whole, own_free, own_regulars, IsCompleted, IsCompletion}
use Rattle.expression_analysis.proofs.Judgements.{gives_same, gives_next, error_same, error_first, error_next}
use Rattle.expression_analysis.proofs.Placed.{kinds_in_plan}
use Rattle.expression_analysis.proofs.PartsTyped.{room_first, room_next, room_same, grown, counted}
use Rattle.expression_analysis.proofs.Seens.{own_span, literal_same, literal_quiet}
use Rattle.expression_analysis.proofs.Shown.{spans_of, function_shown, regular_shown, whole_shown, free_shown, own_shown}

-- parts by what reads them ---------------------------------------------------------------------------------------------------------

module _ (R : Type 0) (reader : Reader R) where
  spans_read : (exprs : List Expr) → map (λ (expr : Expr). expr.span) exprs ≡ spans_of (map (part_of reader) exprs)
  spans_read [] = refl
  spans_read (expr ∷ exprs) = λ i. sym (own_span R reader expr) i ∷ spans_read exprs i

  second_read : (exprs : List Expr) → second_literal (judgeds exprs) ≡ second_literal (map (part_of reader) exprs)
  second_read [] = refl
  second_read (expr ∷ []) = refl
  second_read (first ∷ second ∷ rest) = sym (literal_same R reader second)

-- arguments in the plan ------------------------------------------------------------------------------------------------------------

typed_in_plan : (written : Function) (parts : List (Part Typing)) (visible : Visible) (whole free : ℕ)
    → arguments_in_plan written (typed_parts parts visible whole free) ≡ typed_parts (arguments_in_plan written parts) visible whole free
typed_in_plan function.MvSort [] visible whole free = refl
typed_in_plan function.MvSort (first ∷ rest) visible whole free = refl
typed_in_plan written parts visible whole free = refl

number_sorted : (down : Bool) (whole free : ℕ) → None ≡ pattern_number (cond down function.MvSortDesc function.MvSort) whole free
number_sorted true whole free = refl
number_sorted false whole free = refl

number_in_plan : (written : Function) (parts : List (Part Typing)) (whole free : ℕ) → pattern_number written whole free ≡ pattern_number (function_in_plan written parts) whole free
number_in_plan function.MvSort [] whole free = refl
number_in_plan function.MvSort (first ∷ []) whole free = refl
number_in_plan function.MvSort (first ∷ second ∷ rest) whole free = number_sorted (is_word "DESC" second.literal) whole free
number_in_plan written parts whole free = refl

-- the text of a literal that is a direction
record IsText (literal : Option (List ℕ)) : Type 0 where
  pub text : List ℕ
  pub is : literal ≡ Some text

directed : (literal : Option (List ℕ)) (first second : Span) (rest : List (Part (Unit {0}))) → wrong_literal function.MvSort (record { span = first; literal = None; reading = tt } ∷ record { span = second; literal = literal; reading = tt } ∷ rest) ≡ None → IsText literal
directed None first second rest is = absurd cc
directed (Some text) first second rest is = record { text = text; is = refl }

-- the patterns of the arguments in the plan are those of all arguments
record SamePatterns (written : Function) (exprs : List Expr) : Type 0 where
  pub whole : wholes (arguments_in_plan written (typings exprs)) ≡ wholes (typings exprs)
  pub free : frees (arguments_in_plan written (typings exprs)) ≡ frees (typings exprs)

not_few : (A : Type 0) (rest : List A) → nat_le (3 + length rest) 2 ≡ true → ⊥
not_few A rest is = let bound : 3 + length rest ≤ 2 = grind (arith, nat_tests) in omega arith

same_patterns : (written : Function) (exprs : List Expr) → takes_few written (length exprs) ≡ true → wrong_literal written (parts_at (spans_of (judgeds exprs)) (second_literal (judgeds exprs))) ≡ None → SamePatterns written exprs
same_patterns function.MvSort [] few fits = record { whole = refl; free = refl }
same_patterns function.MvSort (values ∷ []) few fits = record { whole = refl; free = refl }
same_patterns function.MvSort (values ∷ order ∷ []) few fits =
    let text = directed (literal_of_expr order) (part_of judged values).span (part_of judged order).span [] fits in
    let quiet = literal_quiet order text.text text.is in
    record {
      whole = ap (λ (these : List (List ℕ)). (part_of typing values).reading.whole ++ (these ++ [])) (sym quiet.whole);
      free = ap (λ (these : List (List ℕ)). (part_of typing values).reading.free ++ (these ++ [])) (sym quiet.free);
    }
same_patterns function.MvSort (values ∷ order ∷ next ∷ rest) few fits = absurd (not_few Expr rest (ap (λ (count : ℕ). nat_le count 2) (counts rest) ∙ few))
  where
    counts : (rest : List Expr) → 3 + length rest ≡ length (values ∷ order ∷ next ∷ rest)
    counts rest = omega arith
same_patterns written exprs few fits = record { whole = refl; free = refl }

-- few parts ------------------------------------------------------------------------------------------------------------------------

pub few_parts : (written : Function) (count : ℕ) → nat_le count 2 ≡ true → takes_few written count ≡ true
few_parts function.MvSort count is = is
few_parts written count is = refl

-- the node ---------------------------------------------------------------------------------------------------------------------------

module _ (over : Over) (exprs : List Expr) (node : NodeId) (span : Span) (written : Function) (empty parts : Parts) (literal : Option (List ℕ)) (old middle : Patterns)
    (before between : Marks) (no_args : empty.args ≡ []) (no_spans : empty.spans ≡ []) (typed : AreTyped over exprs empty parts old middle) (same : between ≡ before)
    (is_literal : literal ≡ second_literal (judgeds exprs)) (few : takes_few written (length exprs) ≡ true) where
  all_args : parts.args ≡ typed.added
  all_args = typed.args ∙ ap (λ (these : List TypedExpr). these ++ typed.added) no_args

  all_spans : parts.spans ≡ map (λ (expr : Expr). expr.span) exprs
  all_spans = typed.spans ∙ ap (λ (these : List Span). these ++ map (λ (expr : Expr). expr.span) exprs) no_spans

  spans_in : (R : Type 0) (reader : Reader R) → parts.spans ≡ spans_of (map (part_of reader) exprs)
  spans_in R reader = all_spans ∙ spans_read R reader exprs

  literal_in : (R : Type 0) (reader : Reader R) → literal ≡ second_literal (map (part_of reader) exprs)
  literal_in R reader = is_literal ∙ second_read R reader exprs

  shown_in : (R : Type 0) (reader : Reader R) → parts_at parts.spans literal ≡ parts_at (spans_of (map (part_of reader) exprs)) (second_literal (map (part_of reader) exprs))
  shown_in R reader = λ i. parts_at (spans_in R reader i) (literal_in R reader i)

  abbrev next_kind : List Kind → Judgement Kind
  next_kind kinds accepts = kind_of_applied written (judgeds exprs) kinds span (scope_over accepts over)

  kind_is : (accepts : Regular → Bool) → own_kind written parts.spans literal (kinds_in parts.args) span accepts ≡ next_kind (kinds_in typed.added) accepts
  kind_is accepts =
      (λ i. own_kind written (spans_in Judged judged i) (literal_in Judged judged i) (kinds_in (all_args i)) span accepts)
      ∙ own_shown written (judgeds exprs) (kinds_in typed.added) span over accepts

  whole_is : own_whole written parts.spans literal ≡ whole_of written (typings exprs)
  whole_is = ap (whole_of written) (shown_in Typing typing) ∙ whole_shown Typing written (typings exprs)

  free_is : own_free written parts.spans literal ≡ free_of written (typings exprs)
  free_is = ap (free_of written) (shown_in Typing typing) ∙ free_shown Typing written (typings exprs)

  regulars_are : own_regulars written parts.spans literal ≡ regulars_in_option (regular_of written (regular_parts exprs))
  regulars_are =
      ap (λ (these : List (Part (Unit {0}))). regulars_in_option (regular_of written these)) (shown_in (List Regular) regulars_in)
      ∙ ap regulars_in_option (regular_shown (List Regular) written (regular_parts exprs))

  function_is : function_in_plan written (parts_at parts.spans literal) ≡ function_in_plan written (typings exprs)
  function_is = ap (function_in_plan written) (shown_in Typing typing) ∙ function_shown Typing written (typings exprs)

  completed_typed : (new : Patterns) (made : TypedExpr) → IsCompleted node written parts literal span middle new made → IsTyped (applied_to node span written exprs) over old new made
  completed_typed new made done =
      let tp : List (Part Typing) = typings exprs in
      let visible : Visible = visible_over over in
      let kept = same_patterns written exprs few (ap (wrong_literal written) (sym (shown_in Judged judged)) ∙ done.fits) in
      let whole_kept : wholes (arguments_in_plan written tp) ++ whole_of written tp ≡ wholes tp ++ own_whole written parts.spans literal = λ i. kept.whole i ++ sym whole_is i in
      let free_kept : frees (arguments_in_plan written tp) ++ free_of written tp ≡ frees tp ++ own_free written parts.spans literal = λ i. kept.free i ++ sym free_is i in
      record {
        is = λ room.
            let enough = room_same old _ _ _ _ whole_kept free_kept room in
            let here = typed.are (room_first old (wholes tp) (own_whole written parts.spans literal) (frees tp) (own_free written parts.spans literal) enough) in
            let there = done.is (room_next old middle (wholes tp) (own_whole written parts.spans literal) (frees tp) (own_free written parts.spans literal) typed.whole typed.free enough) in
            let args : arguments_in_plan written parts.args ≡ typed_parts (arguments_in_plan written tp) visible (length old.whole) (length old.free) =
            ap (arguments_in_plan written) (all_args ∙ here) ∙ typed_in_plan written tp visible (length old.whole) (length old.free) in
            let number : pattern_number written (length middle.whole) (length middle.free) ≡ pattern_number (function_in_plan written tp)
            (length old.whole + length (wholes (arguments_in_plan written tp))) (length old.free + length (frees (arguments_in_plan written tp))) =
            (λ i. pattern_number written (counted old.whole middle.whole (wholes tp) typed.whole i) (counted old.free middle.free (frees tp) typed.free i))
            ∙ number_in_plan written tp (length old.whole + length (wholes tp)) (length old.free + length (frees tp))
            ∙ (λ i. pattern_number (function_in_plan written tp) (length old.whole + length (sym kept.whole i)) (length old.free + length (sym kept.free i))) in
            there ∙ (λ i. typed_apply node (function_is i) (args i) (number i));
        kind = λ whole free. done.kind
            ∙ (λ i. kind_of_call (function_is i) (arguments_in_plan written (kinds_in (all_args i))))
            ∙ ap (λ (kinds : List Kind). kind_of_call (function_in_plan written tp) (arguments_in_plan written kinds)) (typed.kinds whole free)
            ∙ ap (kind_of_call (function_in_plan written tp)) (sym (kinds_in_plan written (typed_parts tp visible whole free)) ∙ ap kinds_in (typed_in_plan written tp visible whole free));
        gives = gives_next (List Kind) Kind (kinds_judgement over exprs) next_kind (kinds_in typed.added) made.kind typed.gives
            (gives_same Kind (own_kind written parts.spans literal (kinds_in parts.args) span) (next_kind (kinds_in typed.added)) kind_is made.kind done.gives);
        whole = grown old.whole middle.whole new.whole (wholes tp) (own_whole written parts.spans literal) typed.whole done.whole ∙ ap (λ (these : List (List ℕ)). old.whole ++ these) (sym whole_kept);
        free = grown old.free middle.free new.free (frees tp) (own_free written parts.spans literal) typed.free done.free ∙ ap (λ (these : List (List ℕ)). old.free ++ these) (sym free_kept);
      }

  pub completes : (new : Patterns) (after : Marks) (result : Result TypedExpr AnalyzeError) → IsCompletion node written parts literal span middle new between after result
      → IsAnswer (applied_to node span written exprs) over old new before after result
  completes new after (Ok made) done = (completed_typed new made done.0, done.1 ∙ same)
  completes new after (Err error) is =
      error_next (List Kind) Kind (kinds_judgement over exprs) next_kind (kinds_in typed.added) (regulars_of_parts (regular_parts exprs)) (regulars_in_option (regular_of written (regular_parts exprs)))
      before between after error typed.gives same
      (subst (λ (these : List Regular). IsErrorOf (next_kind (kinds_in typed.added)) these between after error) regulars_are
      (error_same Kind (own_kind written parts.spans literal (kinds_in parts.args) span) (next_kind (kinds_in typed.added)) kind_is (own_regulars written parts.spans literal) between after error is))

-- errors of the parts ------------------------------------------------------------------------------------------------------------------

-- an error of the parts is one of the node
pub parts_error : (over : Over) (exprs : List Expr) (node : NodeId) (span : Span) (written : Function) (before after : Marks) (error : AnalyzeError)
    → IsErrorOf (kinds_judgement over exprs) (regulars_of_parts (regular_parts exprs)) before after error
    → IsErrorOf (judgement_over over (applied_to node span written exprs).judged) (applied_to node span written exprs).regulars before after error
parts_error over exprs node span written before after error is =
    error_first (List Kind) Kind (kinds_judgement over exprs) (λ kinds accepts. kind_of_applied written (judgeds exprs) kinds span (scope_over accepts over)) (regulars_of_parts (regular_parts exprs))
    (regulars_in_option (regular_of written (regular_parts exprs))) before after error is
