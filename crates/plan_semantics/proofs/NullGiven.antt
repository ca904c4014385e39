-- Where the new columns of DISSECT, GROK and ENRICH are null.
use Rattle.std.proofs.Common.{◌≡◌, ℕ, List, [], ◌∷◌, map, filter, length, All, Option, Some, None, slice_get, refl, ap, sym, subst, ◌∙◌}
use Rattle.std.specs.List.{flat_map}
use Rattle.std.specs.Prelude.{slice_index_or}
use Rattle.std.proofs.lemmas.List.Elements.{All-nil, All-cons}
use Rattle.esql_types.specs.declared.names.ColId.{ColId}
use Rattle.esql_types.specs.declared.names.NodeId.{NodeId}
use Rattle.esql_types.specs.declared.value.Value.{Value}
use Rattle.esql_plan.specs.declared.catalog.PolicyShape.{PolicyShape}
use Rattle.esql_plan.specs.declared.step.NewColumn.{NewColumn}
use Rattle.esql_plan.specs.declared.step.Step.{Step}
use Rattle.esql_plan.specs.declared.step.Step.TheVariants.{Dissect, Grok, Enrich}
use Rattle.esql_plan.specs.Values.{NumberedRow}
use Rattle.enrich_match.specs.Matches.{MatchRow, is_match, matched_cell}
use Rattle.plan_semantics.specs.Tables.{TableHeld, CatalogHeld}
use Rattle.plan_semantics.specs.Taken.{nulls, dissected, grokked, rows_of_policy, found_if, enriched, with_new}
use Rattle.plan_semantics.specs.Steps.{step_gives, step_fails}
use Rattle.plan_semantics.specs.Laws.{GivesNull}
use Rattle.plan_semantics.proofs.NewColumns.{nulls_new}

abbrev AreNull : List NewColumn → NumberedRow → Type 0
AreNull to row = All (λ (new : NewColumn). row new.id.0 ≡ []) to

-- a step that puts nulls
given_null : (held : CatalogHeld) (step : Step) (to : List NewColumn) (row : NumberedRow) (cells : List (List Value)) (count : ℕ)
    → step_gives held step row ≡ with_new row to cells ∷ [] → cells ≡ nulls count → step_fails step row ≡ [] → GivesNull held step to row
given_null held step to row cells count is are silent =
    let whole : step_gives held step row ≡ with_new row to (nulls count) ∷ [] = is ∙ ap (λ cells. with_new row to cells ∷ []) are in
    record {
      alone = ap length whole;
      cells = subst (All (AreNull to)) (sym whole) (All-cons (AreNull to) (with_new row to (nulls count)) [] (nulls_new to count row) (All-nil (AreNull to)));
      failures = silent;
    }

pub null_is_cut : (held : CatalogHeld) (node : NodeId) (input : ColId) (number : ℕ) (pattern separator : List ℕ) (to : List NewColumn) (row : NumberedRow) → row input.0 ≡ []
    → GivesNull held (Dissect node input number pattern separator to) to row × GivesNull held (Grok node input number pattern to) to row
null_is_cut held node input number pattern separator to row is = (
  given_null held (Dissect node input number pattern separator to) to row (dissected pattern separator (length to) (row input.0)).cells (length to) refl
      (ap (λ cell. (dissected pattern separator (length to) cell).cells) is) refl,
  given_null held (Grok node input number pattern to) to row (grokked node pattern (length to) (row input.0)).cells (length to) refl
      (ap (λ cell. (grokked node pattern (length to) cell).cells) is) (ap (λ cell. (grokked node pattern (length to) cell).failures) is),
)

-- no row matches
none_found : (rows : List MatchRow) (cell : List Value) → filter (is_match cell) rows ≡ [] → (fields : List ℕ) → map (matched_cell rows cell) fields ≡ nulls (length fields)
none_found rows cell none [] = refl
none_found rows cell none (field ∷ fields) = λ i. flat_map (λ (row : MatchRow). slice_index_or row.fields field []) (none i) ∷ none_found rows cell none fields i

null_is_in_none : (rows : List MatchRow) → filter (is_match []) rows ≡ []
null_is_in_none [] = refl
null_is_in_none (row ∷ rows) = null_is_in_none rows

pub empty_gives_null : (held : CatalogHeld) (number : ℕ) (policy : PolicyShape) → slice_get held.policies number ≡ Some policy → rows_of_policy held.tables policy ≡ []
    → (on : ColId) (fields : List ℕ) (to : List NewColumn) (row : NumberedRow) → GivesNull held (Enrich number on fields to) to row
empty_gives_null held number policy is empty on fields to row =
    let cell = row on.0 in
    given_null held (Enrich number on fields to) to row (enriched held number fields cell) (length fields) refl
    (ap (λ found. found_if held.tables found fields cell) is
    ∙ ap (λ rows. map (matched_cell rows cell) fields) empty
    ∙ none_found [] cell refl fields)
    refl

-- ENRICH by null, where the policy is there and where it is not
count_if : Option PolicyShape → List ℕ → ℕ
count_if None fields = 0
count_if (Some policy) fields = length fields

found_for_null : (tables : List TableHeld) (found : Option PolicyShape) (fields : List ℕ) → found_if tables found fields [] ≡ nulls (count_if found fields)
unfolding count_if
found_for_null tables None fields = refl
found_for_null tables (Some policy) fields = none_found (rows_of_policy tables policy) [] (null_is_in_none (rows_of_policy tables policy)) fields

pub null_matches : (held : CatalogHeld) (number : ℕ) (on : ColId) (fields : List ℕ) (to : List NewColumn) (row : NumberedRow) → row on.0 ≡ []
    → GivesNull held (Enrich number on fields to) to row
null_matches held number on fields to row is =
    let found = slice_get held.policies number in
    given_null held (Enrich number on fields to) to row (enriched held number fields (row on.0)) (count_if found fields) refl
    (ap (enriched held number fields) is ∙ found_for_null held.tables found fields) refl
