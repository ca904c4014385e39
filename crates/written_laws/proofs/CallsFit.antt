-- A function of parts that are well formed is well formed, where its parts fit by their kinds and its literals are there.
use Rattle.std.proofs.Common.{◌≡◌, ℕ, suc, ◌+◌, Bool, true, false, ◌&&◌, List, [], ◌∷◌, ◌++◌, map, length, All, Option, Some, None, is_some, option_map, Result, Ok, refl, ap, sym, subst, ◌∙◌, if◌then◌else◌}
use Rattle.std.specs.Prelude.{slice_get}
use Rattle.std.specs.List.{flat_map, list_all}
use Rattle.std.specs.Str.{bytes_eq}
use Rattle.std.proofs.lemmas.Bool.{and_from}
use Rattle.std.proofs.lemmas.List.Elements.{All-nil, All-cons, All-head, All-tail}
use Rattle.std.proofs.lemmas.Slice.Eq.{bytes_eq-Decides}
use Rattle.esql_types.specs.declared.places.Span.{Span}
use Rattle.esql_types.specs.declared.value.Kind.{Kind}
use Rattle.esql_types.specs.declared.value.Kind.TheVariants as kind
use Rattle.esql_types.specs.declared.names.NodeId.{NodeId}
use Rattle.function_rules.specs.Found.{wrapped}
use Rattle.esql_plan.specs.declared.function.Function.{Function}
use Rattle.esql_plan.specs.declared.function.Function.TheVariants as function
use Rattle.esql_plan.specs.declared.typed.TypedExpr.{TypedExpr}
use Rattle.esql_plan.specs.Signatures.{a_keyword, whole_pattern, free_pattern, signature_of, is_count, wants_of, misfit, kind_of_call, kind_unless, result_kind, same_kind}
use Rattle.esql_plan.specs.Fits.{Part as PlanPart, ExprFits, part_of as plan_part, is_pattern, same_text, literals_fit, is_result}
use Rattle.esql_plan.proofs.TypedFolds.{part_of_constant, part_of_column, part_of_call}
use Rattle.esql_plan.proofs.Inductions.{typed_ind}
use Rattle.row_semantics.specs.Forms.{Part, applied, is_word, function_in_plan, arguments_in_plan}
use Rattle.row_semantics.specs.Scopes.{Broken, Scope}
use Rattle.row_semantics.specs.Kinds.{Judged, and_then, kinds_of_parts, kind_of_applied, fitting, first_place, wrong_literal, judged}
use Rattle.row_semantics.specs.Typed.{Visible, Typing, literals_of, whole_of, free_of, pattern_number, typed_parts, typed_applied, typing}
use Rattle.query_semantics.proofs.Readings.{part_with, parts_with}
use Rattle.query_semantics.proofs.Valued.{function_with, arguments_with}
use Rattle.query_semantics.proofs.Squares.{map_map, map_same}
use Rattle.query_semantics.proofs.Kinded.{StandsOver, Both, typing_in, judged_in, found_of, parts_kinded, arguments_have, kinds_typed}
use Rattle.written_laws.proofs.Numbers.{HasAt, at-append}
use Rattle.written_laws.proofs.RowsFit.{HasPattern, IsCount}
use Rattle.written_laws.proofs.WantsFit.{are_plain, all_plain_fit, wants_plain, number_is}

-- A part has its literal in the plan; where it breaks no rule, and its patterns stand at its numbers, it is well formed.
pub record PartFits (part : Part Both) : Type 0 where
  pub literal : (text : List ℕ) → part.literal ≡ Some text → (visible : Visible) (at_whole at_free : ℕ) (whole free : List (List ℕ))
      → (plan_part whole free (part.reading.typing.at visible at_whole at_free)).literal ≡ Some text
  pub fits : (visible : Visible) (scope : Scope) (kind : Kind) → StandsOver visible scope → part.reading.judged scope ≡ Ok kind
      → (at_whole at_free : ℕ) (whole free : List (List ℕ)) → HasAt whole at_whole part.reading.typing.whole → HasAt free at_free part.reading.typing.free
      → ExprFits whole free (part.reading.typing.at visible at_whole at_free)

-- a function has as many parts as it takes, and its patterns
pub record AppliedFits (function : Function) (parts : List (Part Both)) : Type 0 where
  pub each : All PartFits parts
  pub count : IsCount function parts
  pub pattern : HasPattern function parts

-- where nothing is broken --------------------------------------------------------------------------------------------------

place_none : (place : Option ℕ) (spans : List Span) (own : Span) (next : Result Kind Broken) (kind : Kind) → fitting place spans own next ≡ Ok kind → place ≡ None
place_none None spans own next kind is = refl
place_none (Some place) spans own next kind is = absurd cc

both_none : (this that : Option ℕ) → first_place this that ≡ None → (this ≡ None) × (that ≡ None)
both_none None that is = (refl, is)
both_none (Some place) None is = absurd cc
both_none (Some place) (Some other) is = absurd cc

kind_itself : (kind : Kind) → same_kind kind kind ≡ true
kind_itself kind.Integer = refl
kind_itself kind.Long = refl
kind_itself kind.Boolean = refl
kind_itself kind.Keyword = refl
kind_itself kind.Null = refl

result_is : (function : Function) (kinds : List Kind) → misfit function kinds ≡ None → is_result (result_kind function kinds) (kind_of_call function kinds) ≡ true
result_is function kinds none =
    ap (λ (place : Option ℕ). is_result (kind_unless place (kind_of_call function kinds)) (kind_of_call function kinds)) none ∙ kind_itself (kind_of_call function kinds)

-- literals -----------------------------------------------------------------------------------------------------------------

text_itself : (text : List ℕ) → bytes_eq text text ≡ true
text_itself text = (bytes_eq-Decides text text).1 refl

pattern_is : (patterns : List (List ℕ)) (place : ℕ) (text : List ℕ) (literal : Option (List ℕ)) → slice_get patterns place ≡ Some text → literal ≡ Some text
    → is_pattern patterns (Some place) literal ≡ true
pattern_is patterns place text literal there is = (λ i. same_text (there i) (is i)) ∙ text_itself text

text_of : (literal : Option (List ℕ)) → is_some literal ≡ true → (text : List ℕ) × (literal ≡ Some text)
text_of None is = absurd cc
text_of (Some text) is = (text, refl)

is_given : (literal : Option (List ℕ)) → ◌≡◌ {A = Option ℕ} (if is_some literal then None else Some 1) None → is_some literal ≡ true
is_given None is = absurd cc
is_given (Some text) is = refl

-- the typed form of a part has the part's kind
pub kind_of_part : (whole free : List (List ℕ)) (expr : TypedExpr) → (plan_part whole free expr).kind ≡ expr.kind
kind_of_part whole free = typed_ind (λ expr. (plan_part whole free expr).kind ≡ expr.kind) (record {
  constant = λ node kind cell. ap (λ (part : PlanPart). part.kind) (part_of_constant whole free _ cell refl);
  column = λ node kind id. ap (λ (part : PlanPart). part.kind) (part_of_column whole free _ id refl);
  apply = λ node kind function args pattern all. ap (λ (part : PlanPart). part.kind) (part_of_call whole free _ function args pattern refl);
})

kinds_of_typed : (whole free : List (List ℕ)) (args : List TypedExpr) → map (λ (part : PlanPart). part.kind) (map (plan_part whole free) args) ≡ map (λ (arg : TypedExpr). arg.kind) args
kinds_of_typed whole free args =
    map_map (λ (part : PlanPart). part.kind) (plan_part whole free) args
    ∙ map_same (λ (arg : TypedExpr). (plan_part whole free arg).kind) (λ (arg : TypedExpr). arg.kind) (kind_of_part whole free) args

pub All-in_plan : {A : Type 0} (P : A → Type 0) (function : Function) (items : List A) → All P items → All P (arguments_in_plan function items)
All-in_plan P function.MvSort [] all = all
All-in_plan P function.MvSort (values ∷ rest) all = All-cons P values [] (All-head P values rest all) (All-nil P)
All-in_plan P other items all = all

abbrev pub wholes : List (Part Both) → List (List ℕ)
wholes parts = flat_map (λ (part : Part Typing). part.reading.whole) (parts_with typing_in parts)

abbrev pub frees : List (Part Both) → List (List ℕ)
frees parts = flat_map (λ (part : Part Typing). part.reading.free) (parts_with typing_in parts)

module _ (visible : Visible) (scope : Scope) (stands : StandsOver visible scope) (whole free : List (List ℕ)) where
  abbrev HasKind : Part Both → Type 0
  HasKind part = (kind : Kind) × (part.reading.judged scope ≡ Ok kind)

  abbrev typed_args : List (Part Both) → ℕ → ℕ → List TypedExpr
  typed_args parts at_whole at_free = typed_parts (parts_with typing_in parts) visible at_whole at_free

  abbrev seen_args : List (Part Both) → ℕ → ℕ → List PlanPart
  seen_args parts at_whole at_free = map (plan_part whole free) (typed_args parts at_whole at_free)

  have_kinds : (parts : List (Part Both)) (kinds : List Kind) → kinds_of_parts (parts_with judged_in parts) scope ≡ Ok kinds → All HasKind parts
  have_kinds [] kinds is = All-nil HasKind
  have_kinds (part ∷ parts) kinds is =
      let first = found_of (part.reading.judged scope) (λ kind. and_then (kinds_of_parts (parts_with judged_in parts) scope) (λ kinds. Ok (kind ∷ kinds))) kinds is in
      let rest = found_of (kinds_of_parts (parts_with judged_in parts) scope) (λ kinds. Ok (first.value ∷ kinds)) kinds first.next_is in
      All-cons HasKind part parts (first.value, first.is) (have_kinds parts rest.value rest.is)

  all_fit : (parts : List (Part Both)) → All PartFits parts → All HasKind parts → (at_whole at_free : ℕ) → HasAt whole at_whole (wholes parts) → HasAt free at_free (frees parts)
      → list_all (λ (part : PlanPart). part.fits) (seen_args parts at_whole at_free) ≡ true
  all_fit [] each have at_whole at_free wholes_at frees_at = refl
  all_fit (part ∷ parts) each have at_whole at_free wholes_at frees_at =
      let kinded = All-head HasKind part parts have in
      let first = at-append whole at_whole part.reading.typing.whole (wholes parts) wholes_at in
      let second = at-append free at_free part.reading.typing.free (frees parts) frees_at in
      let next_whole : ℕ = at_whole + length part.reading.typing.whole in
      let next_free : ℕ = at_free + length part.reading.typing.free in
      and_from (plan_part whole free (part.reading.typing.at visible at_whole at_free)).fits (list_all (λ (part : PlanPart). part.fits) (seen_args parts next_whole next_free))
      ((All-head PartFits part parts each).fits visible scope kinded.0 stands kinded.1 at_whole at_free whole free first.0 second.0)
      (all_fit parts (All-tail PartFits part parts each) (All-tail HasKind part parts have) next_whole next_free first.1 second.1)

  length_seen : (parts : List (Part Both)) (at_whole at_free : ℕ) → length (seen_args parts at_whole at_free) ≡ length parts
  length_seen [] at_whole at_free = refl
  length_seen (part ∷ parts) at_whole at_free =
      ap (λ (n : ℕ). suc n) (length_seen parts (at_whole + length part.reading.typing.whole) (at_free + length part.reading.typing.free))

  -- the literal of the second part
  second_literal : (left pattern : Part Both) (rest : List (Part Both)) (at_whole at_free : ℕ) → All PartFits (left ∷ pattern ∷ rest) → (text : List ℕ) → pattern.literal ≡ Some text
      → (plan_part whole free (pattern.reading.typing.at visible (at_whole + length left.reading.typing.whole) (at_free + length left.reading.typing.free))).literal ≡ Some text
  second_literal left pattern rest at_whole at_free each text is =
      (All-head PartFits pattern rest (All-tail PartFits left (pattern ∷ rest) each)).literal text is visible (at_whole + length left.reading.typing.whole) (at_free + length left.reading.typing.free) whole free

  like_literals : (left pattern : Part Both) (rest : List (Part Both)) (at_whole at_free : ℕ) → All PartFits (left ∷ pattern ∷ rest) → is_some pattern.literal ≡ true
      → (is_some (plan_part whole free (pattern.reading.typing.at visible (at_whole + length left.reading.typing.whole) (at_free + length left.reading.typing.free))).literal && true) ≡ true
  like_literals left pattern rest at_whole at_free each given =
      let literal = text_of pattern.literal given in
      and_from _ true (ap is_some (second_literal left pattern rest at_whole at_free each literal.0 literal.1)) refl

  whole_literals : (left pattern : Part Both) (rest : List (Part Both)) (at_whole at_free : ℕ) → All PartFits (left ∷ pattern ∷ rest) → is_some pattern.literal ≡ true
      → HasAt whole at_whole (wholes (left ∷ pattern ∷ rest) ++ map wrapped (literals_of pattern.literal))
      → literals_fit whole free (Some (at_whole + length (wholes (left ∷ pattern ∷ rest)))) (a_keyword ∷ whole_pattern ∷ []) (seen_args (left ∷ pattern ∷ rest) at_whole at_free) ≡ true
  whole_literals left pattern rest at_whole at_free each given stand =
      let literal = text_of pattern.literal given in
      let place : ℕ = at_whole + length (wholes (left ∷ pattern ∷ rest)) in
      let back = (at-append whole at_whole (wholes (left ∷ pattern ∷ rest)) (map wrapped (literals_of pattern.literal)) stand).1 in
      let there : HasAt whole place (wrapped literal.0 ∷ []) = subst (λ (own : Option (List ℕ)). HasAt whole place (map wrapped (literals_of own))) literal.1 back in
      and_from _ true
      (pattern_is whole place (wrapped literal.0) _ there.0 (ap (option_map wrapped) (second_literal left pattern rest at_whole at_free each literal.0 literal.1)))
      refl

  free_literals : (left pattern : Part Both) (rest : List (Part Both)) (at_whole at_free : ℕ) → All PartFits (left ∷ pattern ∷ rest) → is_some pattern.literal ≡ true
      → HasAt free at_free (frees (left ∷ pattern ∷ rest) ++ literals_of pattern.literal)
      → literals_fit whole free (Some (at_free + length (frees (left ∷ pattern ∷ rest)))) (a_keyword ∷ free_pattern ∷ a_keyword ∷ []) (seen_args (left ∷ pattern ∷ rest) at_whole at_free) ≡ true
  free_literals left pattern rest at_whole at_free each given stand =
      let literal = text_of pattern.literal given in
      let place : ℕ = at_free + length (frees (left ∷ pattern ∷ rest)) in
      let back = (at-append free at_free (frees (left ∷ pattern ∷ rest)) (literals_of pattern.literal) stand).1 in
      let there : HasAt free place (literal.0 ∷ []) = subst (λ (own : Option (List ℕ)). HasAt free place (literals_of own)) literal.1 back in
      and_from _ _
      (pattern_is free place literal.0 _ there.0 (second_literal left pattern rest at_whole at_free each literal.0 literal.1))
      (all_plain_fit whole free (Some place) (a_keyword ∷ []) _ refl)

  -- the literals of a function are there
  abbrev LiteralsFit : Function → List (Part Both) → ℕ → ℕ → ℕ → Type 0
  LiteralsFit plan args count at_whole at_free =
      literals_fit whole free (pattern_number plan (at_whole + length (wholes args)) (at_free + length (frees args))) (wants_of (signature_of plan).parameters count) (seen_args args at_whole at_free) ≡ true

  plain_literals : (plan : Function) (args : List (Part Both)) (count at_whole at_free : ℕ) → are_plain (signature_of plan).parameters ≡ true → LiteralsFit plan args count at_whole at_free
  plain_literals plan args count at_whole at_free plain =
      all_plain_fit whole free (pattern_number plan (at_whole + length (wholes args)) (at_free + length (frees args))) (wants_of (signature_of plan).parameters count) (seen_args args at_whole at_free)
      (wants_plain (signature_of plan).parameters count plain)

  sort_literals : (descending : Bool) (args : List (Part Both)) (count at_whole at_free : ℕ) → LiteralsFit (if descending then function.MvSortDesc else function.MvSort) args count at_whole at_free
  sort_literals true args count at_whole at_free = plain_literals function.MvSortDesc args count at_whole at_free refl
  sort_literals false args count at_whole at_free = plain_literals function.MvSort args count at_whole at_free refl

  literals : (written : Function) (parts : List (Part Both)) (count at_whole at_free : ℕ) → All PartFits parts → HasPattern written parts → wrong_literal written (parts_with judged_in parts) ≡ None
      → HasAt whole at_whole (wholes (arguments_in_plan written parts) ++ whole_of written (parts_with typing_in parts))
      → HasAt free at_free (frees (arguments_in_plan written parts) ++ free_of written (parts_with typing_in parts))
      → LiteralsFit (function_in_plan written parts) (arguments_in_plan written parts) count at_whole at_free
  literals function.Like [] count at_whole at_free each has given wholes_at frees_at = refl
  literals function.Like (left ∷ []) count at_whole at_free each has given wholes_at frees_at = refl
  literals function.Like (left ∷ pattern ∷ rest) count at_whole at_free each has given wholes_at frees_at = like_literals left pattern rest at_whole at_free each has
  literals function.NotLike [] count at_whole at_free each has given wholes_at frees_at = refl
  literals function.NotLike (left ∷ []) count at_whole at_free each has given wholes_at frees_at = refl
  literals function.NotLike (left ∷ pattern ∷ rest) count at_whole at_free each has given wholes_at frees_at = like_literals left pattern rest at_whole at_free each has
  literals function.Rlike [] count at_whole at_free each has given wholes_at frees_at = refl
  literals function.Rlike (left ∷ []) count at_whole at_free each has given wholes_at frees_at = refl
  literals function.Rlike (left ∷ pattern ∷ rest) count at_whole at_free each has given wholes_at frees_at = whole_literals left pattern rest at_whole at_free each has wholes_at
  literals function.NotRlike [] count at_whole at_free each has given wholes_at frees_at = refl
  literals function.NotRlike (left ∷ []) count at_whole at_free each has given wholes_at frees_at = refl
  literals function.NotRlike (left ∷ pattern ∷ rest) count at_whole at_free each has given wholes_at frees_at = whole_literals left pattern rest at_whole at_free each has wholes_at
  literals function.Replace [] count at_whole at_free each has given wholes_at frees_at = refl
  literals function.Replace (left ∷ []) count at_whole at_free each has given wholes_at frees_at = refl
  literals function.Replace (left ∷ pattern ∷ rest) count at_whole at_free each has given wholes_at frees_at = free_literals left pattern rest at_whole at_free each (is_given pattern.literal given) frees_at
  literals function.MvSort [] count at_whole at_free each has given wholes_at frees_at = plain_literals function.MvSort [] count at_whole at_free refl
  literals function.MvSort (values ∷ []) count at_whole at_free each has given wholes_at frees_at = plain_literals function.MvSort (values ∷ []) count at_whole at_free refl
  literals function.MvSort (values ∷ order ∷ rest) count at_whole at_free each has given wholes_at frees_at =
      sort_literals (is_word "DESC" order.literal) (values ∷ []) count at_whole at_free
  literals other parts count at_whole at_free each has given wholes_at frees_at = plain_literals other parts count at_whole at_free refl

  -- a function in the plan --------------------------------------------------------------------------------------------------

  abbrev Formed : NodeId → Function → List (Part Typing) → Function → List (Part Typing) → ℕ → ℕ → Type 0
  Formed node plan args written all at_whole at_free =
      HasAt whole at_whole (typed_applied node plan written args all).whole → HasAt free at_free (typed_applied node plan written args all).free
      → ExprFits whole free ((typed_applied node plan written args all).at visible at_whole at_free)

  planned : (node : NodeId) (span : Span) (written : Function) (parts : List (Part Both)) (kinds : List Kind) (kind : Kind) → AppliedFits written parts
      → kinds_of_parts (parts_with judged_in parts) scope ≡ Ok kinds → kind_of_applied written (parts_with judged_in parts) kinds span scope ≡ Ok kind → (at_whole at_free : ℕ)
      → Formed node (function_in_plan written parts) (parts_with typing_in (arguments_in_plan written parts)) written (parts_with typing_in parts) at_whole at_free
  planned node span written parts kinds kind fits kinds_are is at_whole at_free wholes_at frees_at =
      let plan : Function = function_in_plan written parts in
      let args : List (Part Both) = arguments_in_plan written parts in
      let typed : List TypedExpr = typed_args args at_whole at_free in
      let parts_seen : List PlanPart = seen_args args at_whole at_free in
      let pattern : Option ℕ = pattern_number plan (at_whole + length (wholes args)) (at_free + length (frees args)) in
      let none = both_none _ _ (place_none _ (map (λ (part : Part Judged). part.span) (parts_with judged_in parts)) span _ kind is) in
      let have = arguments_have visible written parts kinds (parts_kinded visible scope parts kinds stands kinds_are) in
      let typed_kinds : map (λ (arg : TypedExpr). arg.kind) typed ≡ arguments_in_plan written kinds = kinds_typed visible args (arguments_in_plan written kinds) at_whole at_free have in
      let nowhere : misfit plan (map (λ (arg : TypedExpr). arg.kind) typed) ≡ None = (λ i. misfit (sym (function_with judged_in written parts) i) (typed_kinds i)) ∙ none.0 in
      let result : is_result (result_kind plan (map (λ (part : PlanPart). part.kind) parts_seen)) (kind_of_call plan (map (λ (arg : TypedExpr). arg.kind) typed)) ≡ true =
      ap (λ (these : List Kind). is_result (result_kind plan these) (kind_of_call plan (map (λ (arg : TypedExpr). arg.kind) typed))) (kinds_of_typed whole free typed) ∙ result_is plan (map (λ (arg : TypedExpr). arg.kind) typed) nowhere in
      let counted : is_count (signature_of plan).parameters (length parts_seen) ≡ true = subst (λ (count : ℕ). is_count (signature_of plan).parameters count ≡ true) (sym (length_seen args at_whole at_free)) fits.count in
      let literal = literals written parts (length parts_seen) at_whole at_free fits.each fits.pattern none.1 wholes_at frees_at in
      let number = number_is plan (length parts_seen) (at_whole + length (wholes args)) (at_free + length (frees args)) in
      let whole_own = at-append whole at_whole (wholes args) (whole_of written (parts_with typing_in parts)) wholes_at in
      let free_own = at-append free at_free (frees args) (free_of written (parts_with typing_in parts)) frees_at in
      let each = all_fit args (All-in_plan PartFits written parts fits.each) (All-in_plan HasKind written parts (have_kinds parts kinds kinds_are)) at_whole at_free whole_own.0 free_own.0 in
      ap (λ (part : PlanPart). part.fits) (part_of_call whole free _ plan typed pattern refl)
      ∙ and_from _ _ each (and_from _ _ (and_from _ _ counted result) (and_from _ _ literal number))

  pub applied_fits : (node : NodeId) (span : Span) (written : Function) (parts : List (Part Both)) (kind : Kind) → AppliedFits written parts
      → judged node span (applied written (parts_with judged_in parts)) scope ≡ Ok kind → (at_whole at_free : ℕ)
      → HasAt whole at_whole (typing node span (applied written (parts_with typing_in parts))).whole → HasAt free at_free (typing node span (applied written (parts_with typing_in parts))).free
      → ExprFits whole free ((typing node span (applied written (parts_with typing_in parts))).at visible at_whole at_free)
  applied_fits node span written parts kind fits is at_whole at_free =
      let read : List (Part Judged) = parts_with judged_in parts in
      let all : List (Part Typing) = parts_with typing_in parts in
      let found = found_of (kinds_of_parts read scope) (λ kinds. kind_of_applied written read kinds span scope) kind is in
      let core = planned node span written parts found.value kind fits found.is found.next_is at_whole at_free in
      subst (λ (plan : Function). Formed node plan (arguments_in_plan written all) written all at_whole at_free) (sym (function_with typing_in written parts))
      (subst (λ (args : List (Part Typing)). Formed node (function_in_plan written parts) args written all at_whole at_free) (sym (arguments_with (part_with typing_in) written parts)) core)
