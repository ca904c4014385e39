-- Parts that are typed one behind another.
use Rattle.std.proofs.Common.{◌≡◌, ℕ, Bool, ◌+◌, ◌<◌, List, [], ◌∷◌, ◌++◌, map, length, take, drop, get_or, add-one, drop-cons, Result, Ok, Err, refl, ap, sym, subst, ◌∙◌, arith, append_assoc, length-append}
use Rattle.std.proofs.lemmas.List.{map-append, append-nil, take_more, take-append-drop}
use Rattle.std.proofs.lemmas.Grind.{flat_map-append}
use Rattle.esql_types.specs.declared.places.Span.{Span}
use Rattle.esql_types.specs.declared.value.Kind.{Kind}
use Rattle.esql_ast.specs.declared.expr.Expr.{Expr}
use Rattle.esql_plan.specs.declared.typed.TypedExpr.{TypedExpr}
use Rattle.text_match.specs.declared.patterns.Patterns.{Patterns}
use Rattle.row_semantics.specs.Forms.{Part, part_of}
use Rattle.row_semantics.specs.Kinds.{Judged, judged, and_then, kinds_of_parts}
use Rattle.row_semantics.specs.Regulars.{Regular}
use Rattle.row_semantics.specs.Scopes.{Broken, Scope}
use Rattle.row_semantics.specs.Typed.{Typing, Visible, typing, typed_parts}
use Rattle.expression_analysis.specs.declared.error.AnalyzeError.{AnalyzeError}
use Rattle.expression_analysis.specs.declared.parts.Parts.{Parts}
use Rattle.expression_analysis.specs.Answers.{regulars_in, regulars_of_parts}
use Rattle.expression_analysis.specs.Steps.{Marks, Over, visible_over, scope_over, Judgement, Gives, IsErrorOf, HasRoom, IsTyped, readings_of, judgement_over, typings, judgeds, regular_parts, wholes, frees, kinds_in, kinds_judgement, AreTyped}
use Rattle.expression_analysis.proofs.Judgements.{chained, gives_all, gives_same, gives_next, error_same, error_first, error_next}

-- kinds ---------------------------------------------------------------------------------------------------------------------------

abbrev joined : Result (List Kind) Broken → Result (List Kind) Broken → Result (List Kind) Broken
joined first later = and_then first (λ these. and_then later (λ those. Ok (these ++ those)))

joined_none : (later : Result (List Kind) Broken) → later ≡ joined (Ok []) later
joined_none (Ok kinds) = refl
joined_none (Err broken) = refl

joined_more : (own : Result Kind Broken) (first later : Result (List Kind) Broken)
    → and_then own (λ kind. and_then (joined first later) (λ kinds. Ok (kind ∷ kinds))) ≡ joined (and_then own (λ kind. and_then first (λ kinds. Ok (kind ∷ kinds)))) later
joined_more (Err broken) first later = refl
joined_more (Ok kind) (Err broken) later = refl
joined_more (Ok kind) (Ok kinds) (Err broken) = refl
joined_more (Ok kind) (Ok kinds) (Ok others) = refl

kinds_append : (xs ys : List (Part Judged)) (scope : Scope) → kinds_of_parts (xs ++ ys) scope ≡ joined (kinds_of_parts xs scope) (kinds_of_parts ys scope)
kinds_append [] ys scope = joined_none (kinds_of_parts ys scope)
kinds_append (x ∷ xs) ys scope =
    ap (λ (rest : Result (List Kind) Broken). and_then (x.reading scope) (λ kind. and_then rest (λ kinds. Ok (kind ∷ kinds)))) (kinds_append xs ys scope)
    ∙ joined_more (x.reading scope) (kinds_of_parts xs scope) (kinds_of_parts ys scope)

module _ (over : Over) (xs ys : List Expr) where
  -- the kinds of the first expressions, then those of the later ones
  abbrev in_turn : Judgement (List Kind)
  in_turn = chained (kinds_judgement over xs) (λ these. chained (kinds_judgement over ys) (λ those accepts. Ok (these ++ those)))

  kinds_in_turn : (accepts : Regular → Bool) → in_turn accepts ≡ kinds_judgement over (xs ++ ys) accepts
  kinds_in_turn accepts =
      sym (ap (λ (parts : List (Part Judged)). kinds_of_parts parts (scope_over accepts over)) (map-append (part_of judged) xs ys)
      ∙ kinds_append (judgeds xs) (judgeds ys) (scope_over accepts over))

  gives_both : (first later : List Kind) → Gives (kinds_judgement over xs) first → Gives (kinds_judgement over ys) later → Gives (kinds_judgement over (xs ++ ys)) (first ++ later)
  gives_both first later here there =
      gives_same (List Kind) in_turn (kinds_judgement over (xs ++ ys)) kinds_in_turn (first ++ later)
      (gives_next (List Kind) (List Kind) (kinds_judgement over xs) (λ these. chained (kinds_judgement over ys) (λ those accepts. Ok (these ++ those))) first (first ++ later) here
      (gives_next (List Kind) (List Kind) (kinds_judgement over ys) (λ those accepts. Ok (first ++ those)) later (first ++ later) there (gives_all (List Kind) (first ++ later))))

  regulars_append : regulars_of_parts (regular_parts xs) ++ regulars_of_parts (regular_parts ys) ≡ regulars_of_parts (regular_parts (xs ++ ys))
  regulars_append =
      sym (flat_map-append (λ (part : Part (List Regular)). part.reading) (regular_parts xs) (regular_parts ys))
      ∙ sym (ap regulars_of_parts (map-append (part_of regulars_in) xs ys))

  abbrev ErrorIn : List Expr → Marks → Marks → AnalyzeError → Type 0
  ErrorIn exprs before after error = IsErrorOf (kinds_judgement over exprs) (regulars_of_parts (regular_parts exprs)) before after error

  error_in_turn : (before after : Marks) (error : AnalyzeError) → IsErrorOf in_turn (regulars_of_parts (regular_parts xs) ++ regulars_of_parts (regular_parts ys)) before after error
      → ErrorIn (xs ++ ys) before after error
  error_in_turn before after error is =
      error_same (List Kind) in_turn (kinds_judgement over (xs ++ ys)) kinds_in_turn (regulars_of_parts (regular_parts (xs ++ ys))) before after error
      (subst (λ (these : List Regular). IsErrorOf in_turn these before after error) regulars_append is)

  -- an error of the first expressions is one of all
  pub error_before : (before after : Marks) (error : AnalyzeError) → ErrorIn xs before after error → ErrorIn (xs ++ ys) before after error
  error_before before after error is =
      error_in_turn before after error
      (error_first (List Kind) (List Kind) (kinds_judgement over xs) (λ these. chained (kinds_judgement over ys) (λ those accepts. Ok (these ++ those)))
      (regulars_of_parts (regular_parts xs)) (regulars_of_parts (regular_parts ys)) before after error is)

  -- an error of later expressions, behind first ones that are typed
  pub error_behind : (first : List Kind) (before middle after : Marks) (error : AnalyzeError) → Gives (kinds_judgement over xs) first → middle ≡ before
      → ErrorIn ys middle after error → ErrorIn (xs ++ ys) before after error
  error_behind first before middle after error here same is =
      error_in_turn before after error
      (error_next (List Kind) (List Kind) (kinds_judgement over xs) (λ these. chained (kinds_judgement over ys) (λ those accepts. Ok (these ++ those))) first
      (regulars_of_parts (regular_parts xs)) (regulars_of_parts (regular_parts ys)) before middle after error here same
      (subst (λ (these : List Regular). IsErrorOf (chained (kinds_judgement over ys) (λ those accepts. Ok (first ++ those))) these middle after error) (append-nil (regulars_of_parts (regular_parts ys)))
      (error_first (List Kind) (List Kind) (kinds_judgement over ys) (λ those accepts. Ok (first ++ those)) (regulars_of_parts (regular_parts ys)) [] middle after error is)))

-- typed parts ----------------------------------------------------------------------------------------------------------------------

pub wholes_append : (xs ys : List Expr) → wholes (typings (xs ++ ys)) ≡ wholes (typings xs) ++ wholes (typings ys)
wholes_append xs ys = ap wholes (map-append (part_of typing) xs ys) ∙ flat_map-append (λ (part : Part Typing). part.reading.whole) (typings xs) (typings ys)

pub frees_append : (xs ys : List Expr) → frees (typings (xs ++ ys)) ≡ frees (typings xs) ++ frees (typings ys)
frees_append xs ys = ap frees (map-append (part_of typing) xs ys) ∙ flat_map-append (λ (part : Part Typing). part.reading.free) (typings xs) (typings ys)

longer : (start : ℕ) (xs ys : List (List ℕ)) → (start + length xs) + length ys ≡ start + length (xs ++ ys)
longer start xs ys = omega (arith, length-append xs ys)

no_more : (start : ℕ) → start ≡ start + 0
no_more start = omega arith

pub counted : (old new more : List (List ℕ)) → new ≡ old ++ more → length new ≡ length old + length more
counted old new more is = omega (arith, ap length is, length-append old more)

typed_append : (xs ys : List (Part Typing)) (visible : Visible) (whole free : ℕ)
    → typed_parts (xs ++ ys) visible whole free ≡ typed_parts xs visible whole free ++ typed_parts ys visible (whole + length (wholes xs)) (free + length (frees xs))
typed_append [] ys visible whole free = λ i. typed_parts ys visible (no_more whole i) (no_more free i)
typed_append (x ∷ xs) ys visible whole free =
    ap (λ (rest : List TypedExpr). x.reading.at visible whole free ∷ rest)
    (typed_append xs ys visible (whole + length x.reading.whole) (free + length x.reading.free)
    ∙ (λ i. typed_parts xs visible (whole + length x.reading.whole) (free + length x.reading.free)
    ++ typed_parts ys visible (longer whole x.reading.whole (wholes xs) i) (longer free x.reading.free (frees xs) i)))

-- room for patterns is room for the first of them, and for the others behind these
pub room_first : (patterns : Patterns) (whole more_whole free more_free : List (List ℕ)) → HasRoom patterns (whole ++ more_whole) (free ++ more_free) → HasRoom patterns whole free
room_first patterns whole more_whole free more_free room = record {
  whole_fits = omega (arith, room.whole_fits, length-append whole more_whole);
  free_fits = omega (arith, room.free_fits, length-append free more_free);
}

pub room_next : (patterns later : Patterns) (whole more_whole free more_free : List (List ℕ)) → later.whole ≡ patterns.whole ++ whole → later.free ≡ patterns.free ++ free
    → HasRoom patterns (whole ++ more_whole) (free ++ more_free) → HasRoom later more_whole more_free
room_next patterns later whole more_whole free more_free are_whole are_free room = record {
  whole_fits = omega (arith, room.whole_fits, length-append whole more_whole, length-append patterns.whole whole, ap length are_whole);
  free_fits = omega (arith, room.free_fits, length-append free more_free, length-append patterns.free free, ap length are_free);
}

pub room_same : (patterns : Patterns) (whole other_whole free other_free : List (List ℕ)) → whole ≡ other_whole → free ≡ other_free → HasRoom patterns whole free → HasRoom patterns other_whole other_free
room_same patterns whole other_whole free other_free same_whole same_free room = record {
  whole_fits = omega (arith, room.whole_fits, ap length same_whole);
  free_fits = omega (arith, room.free_fits, ap length same_free);
}

pub grown : (old middle new xs ys : List (List ℕ)) → middle ≡ old ++ xs → new ≡ middle ++ ys → new ≡ old ++ (xs ++ ys)
grown old middle new xs ys first next = next ∙ ap (λ (these : List (List ℕ)). these ++ ys) first ∙ append_assoc old xs ys

pub typed_both : (over : Over) (xs ys : List Expr) (parts next last : Parts) (old middle new : Patterns)
    → AreTyped over xs parts next old middle → AreTyped over ys next last middle new → AreTyped over (xs ++ ys) parts last old new
typed_both over xs ys parts next last old middle new first later = record {
  added = first.added ++ later.added;
  args = later.args ∙ ap (λ (these : List TypedExpr). these ++ later.added) first.args ∙ append_assoc parts.args first.added later.added;
  spans = later.spans ∙ ap (λ (these : List Span). these ++ map (λ (expr : Expr). expr.span) ys) first.spans
      ∙ append_assoc parts.spans (map (λ (expr : Expr). expr.span) xs) (map (λ (expr : Expr). expr.span) ys)
      ∙ ap (λ (these : List Span). parts.spans ++ these) (sym (map-append (λ (expr : Expr). expr.span) xs ys));
  are = λ room.
      let apart = room_same old (wholes (typings (xs ++ ys))) (wholes (typings xs) ++ wholes (typings ys)) (frees (typings (xs ++ ys))) (frees (typings xs) ++ frees (typings ys))
      (wholes_append xs ys) (frees_append xs ys) room in
      let here = first.are (room_first old (wholes (typings xs)) (wholes (typings ys)) (frees (typings xs)) (frees (typings ys)) apart) in
      let there = later.are (room_next old middle (wholes (typings xs)) (wholes (typings ys)) (frees (typings xs)) (frees (typings ys)) first.whole first.free apart) in
      (λ i. here i ++ there i)
      ∙ (λ i. typed_parts (typings xs) (visible_over over) (length old.whole) (length old.free)
      ++ typed_parts (typings ys) (visible_over over) (counted old.whole middle.whole (wholes (typings xs)) first.whole i) (counted old.free middle.free (frees (typings xs)) first.free i))
      ∙ sym (typed_append (typings xs) (typings ys) (visible_over over) (length old.whole) (length old.free))
      ∙ ap (λ (these : List (Part Typing)). typed_parts these (visible_over over) (length old.whole) (length old.free)) (sym (map-append (part_of typing) xs ys));
  kinds = λ whole free. map-append (λ (arg : TypedExpr). arg.kind) first.added later.added
      ∙ (λ i. first.kinds whole free i ++ later.kinds (whole + length (wholes (typings xs))) (free + length (frees (typings xs))) i)
      ∙ sym (map-append (λ (arg : TypedExpr). arg.kind) (typed_parts (typings xs) (visible_over over) whole free)
      (typed_parts (typings ys) (visible_over over) (whole + length (wholes (typings xs))) (free + length (frees (typings xs)))))
      ∙ ap kinds_in (sym (typed_append (typings xs) (typings ys) (visible_over over) whole free))
      ∙ ap (λ (these : List (Part Typing)). kinds_in (typed_parts these (visible_over over) whole free)) (sym (map-append (part_of typing) xs ys));
  gives = subst (λ (these : List Kind). Gives (kinds_judgement over (xs ++ ys)) these) (sym (map-append (λ (arg : TypedExpr). arg.kind) first.added later.added))
      (gives_both over xs ys (kinds_in first.added) (kinds_in later.added) first.gives later.gives);
  whole = grown old.whole middle.whole new.whole (wholes (typings xs)) (wholes (typings ys)) first.whole later.whole ∙ ap (λ (these : List (List ℕ)). old.whole ++ these) (sym (wholes_append xs ys));
  free = grown old.free middle.free new.free (frees (typings xs)) (frees (typings ys)) first.free later.free ∙ ap (λ (these : List (List ℕ)). old.free ++ these) (sym (frees_append xs ys));
}

-- one part ---------------------------------------------------------------------------------------------------------------------------

abbrev alone : Kind → Judgement (List Kind)
alone kind accepts = Ok (kind ∷ [])

pub typed_one : (over : Over) (expr : Expr) (parts next : Parts) (old new : Patterns) (typed : TypedExpr) → next.args ≡ parts.args ++ typed ∷ [] → next.spans ≡ parts.spans ++ expr.span ∷ []
    → IsTyped (readings_of expr) over old new typed → AreTyped over (expr ∷ []) parts next old new
typed_one over expr parts next old new typed args spans is = record {
  added = typed ∷ [];
  args = args;
  spans = spans;
  are = λ room. ap (λ (these : TypedExpr). these ∷ []) (is.is (room_same old _ _ _ _ (append-nil (readings_of expr).typing.whole) (append-nil (readings_of expr).typing.free) room));
  kinds = λ whole free. ap (λ (these : Kind). these ∷ []) (is.kind whole free);
  gives = gives_next Kind (List Kind) (judgement_over over (readings_of expr).judged) alone typed.kind (typed.kind ∷ []) is.gives (gives_all (List Kind) (typed.kind ∷ []));
  whole = is.whole ∙ ap (λ (these : List (List ℕ)). old.whole ++ these) (sym (append-nil (readings_of expr).typing.whole));
  free = is.free ∙ ap (λ (these : List (List ℕ)). old.free ++ these) (sym (append-nil (readings_of expr).typing.free));
}

pub error_one : (over : Over) (expr : Expr) (before after : Marks) (error : AnalyzeError) → IsErrorOf (judgement_over over (readings_of expr).judged) (readings_of expr).regulars before after error
    → IsErrorOf (kinds_judgement over (expr ∷ [])) (regulars_of_parts (regular_parts (expr ∷ []))) before after error
error_one over expr before after error is =
    error_first Kind (List Kind) (judgement_over over (readings_of expr).judged) alone (readings_of expr).regulars [] before after error is

-- no part ------------------------------------------------------------------------------------------------------------------------------

pub typed_none : (over : Over) (parts : Parts) (patterns : Patterns) → AreTyped over [] parts parts patterns patterns
typed_none over parts patterns = record {
  added = [];
  args = sym (append-nil parts.args);
  spans = sym (append-nil parts.spans);
  are = λ room. refl;
  kinds = λ whole free. refl;
  gives = gives_all (List Kind) [];
  whole = sym (append-nil patterns.whole);
  free = sym (append-nil patterns.free);
}

-- expressions in turn --------------------------------------------------------------------------------------------------------------------

pub taken_more : (exprs : List Expr) (place : ℕ) (expr : Expr) → place < length exprs → expr ≡ get_or exprs place expr → take (place + 1) exprs ≡ take place exprs ++ expr ∷ []
taken_more exprs place expr within is = take_more exprs place expr within ∙ ap (λ (next : Expr). take place exprs ++ next ∷ []) (sym is)

pub cut_at : (exprs : List Expr) (place : ℕ) (expr : Expr) → place < length exprs → expr ≡ get_or exprs place expr → take place exprs ++ (expr ∷ drop (place + 1) exprs) ≡ exprs
cut_at exprs place expr within is =
    ap (λ (rest : List Expr). take place exprs ++ rest) (sym (drop-cons exprs place expr within ∙ (λ i. sym is i ∷ drop (sym (add-one place) i) exprs)))
    ∙ take-append-drop place exprs
