-- The steps of a join on all rows.
use Rattle.std.proofs.Common.{◌≡◌, List, [], ◌∷◌, ◌++◌, refl, ap, ◌∙◌}
use Rattle.std.specs.List.{flat_map}
use Rattle.std.proofs.lemmas.List.{append-nil}
use Rattle.std.proofs.lemmas.Grind.{flat_map-append}
use Rattle.esql_types.specs.declared.value.Kind.TheVariants.{Long as LongKind}
use Rattle.esql_types.specs.declared.cause.Failure.{Failure}
use Rattle.esql_plan.specs.declared.step.Step.TheVariants as step
use Rattle.esql_plan.specs.Values.{Valued, NumberedRow}
use Rattle.plan_semantics.specs.Tables.{CatalogHeld}
use Rattle.plan_semantics.specs.Steps.{step_fails, step_gives, step_rows}
use Rattle.plan_semantics.proofs.RowByRow.{none_of_any}
use Rattle.lookup_join.specs.Joins.{join_fails, joined_rows, key_expr}
use Rattle.lookup_join.specs.Laws.{JoinFailsAsItsSteps, JoinMeansItsSteps}
use Rattle.lookup_join.proofs.Keys.{key_is}
use Rattle.lookup_join.proofs.Runs.{place_free}
use Rattle.lookup_join.proofs.Steps.{steps_of_row}

-- rows of rows, one after another
in_turn : {A B C : Type 0} (g : B → List C) (f : A → List B) (items : List A) → flat_map g (flat_map f items) ≡ flat_map (λ (item : A). flat_map g (f item)) items
in_turn g f [] = refl
in_turn g f (item ∷ items) = flat_map-append g (f item) (flat_map f items) ∙ ap (λ rest. flat_map g (f item) ++ rest) (in_turn g f items)

same_rows : {A B : Type 0} (f g : A → List B) → ((item : A) → f item ≡ g item) → (items : List A) → flat_map f items ≡ flat_map g items
same_rows f g same [] = refl
same_rows f g same (item ∷ items) = ap (λ these. these ++ flat_map f items) (same item) ∙ ap (λ rest. g item ++ rest) (same_rows f g same items)

-- the rows after four steps, each of which makes rows of one row
four_steps : (held : CatalogHeld) (one two three four : NumberedRow → List NumberedRow) (rows : List NumberedRow)
    → flat_map four (flat_map three (flat_map two (flat_map one rows))) ≡ flat_map (λ (row : NumberedRow). flat_map four (flat_map three (flat_map two (one row)))) rows
four_steps held one two three four rows =
    ap (λ these. flat_map four (flat_map three these)) (in_turn two one rows)
    ∙ ap (flat_map four) (in_turn three (λ (row : NumberedRow). flat_map two (one row)) rows)
    ∙ in_turn four (λ (row : NumberedRow). flat_map three (flat_map two (one row))) rows

pub join_means_its_steps : JoinMeansItsSteps
join_means_its_steps held table column number by_key by_place node kind on kept numbers to rows extended joinable =
    four_steps held (step_gives held (step.Eval kept.key (key_expr node kind on)))
    (step_gives held (step.Enrich by_key kept.key (0 ∷ []) (record { id = kept.places; kind = LongKind } ∷ [])))
    (step_gives held (step.Expand kept.places kept.place)) (step_gives held (step.Enrich by_place kept.place numbers to)) rows
    ∙ same_rows _ (joined_rows table column.name on kept numbers to)
    (steps_of_row held table column number by_key by_place extended joinable (place_free table.shape.columns) node kind on kept numbers to) rows

pub join_fails_as_its_steps : JoinFailsAsItsSteps
join_fails_as_its_steps held node kind on kept by_key by_place numbers to rows =
    let after_key : List NumberedRow = step_rows held (step.Eval kept.key (key_expr node kind on)) rows in
    let after_places : List NumberedRow = step_rows held (step.Enrich by_key kept.key (0 ∷ []) (record { id = kept.places; kind = LongKind } ∷ [])) after_key in
    let after_place : List NumberedRow = step_rows held (step.Expand kept.places kept.place) after_places in
    let fails : List Failure = flat_map (step_fails (step.Eval kept.key (key_expr node kind on))) rows in
    ap (λ (none : List Failure). fails ++ (none ++ (flat_map (step_fails (step.Expand kept.places kept.place)) after_places ++ (flat_map (step_fails (step.Enrich by_place kept.place numbers to)) after_place ++ [])))) (none_of_any after_key)
    ∙ ap (λ (none : List Failure). fails ++ (none ++ (flat_map (step_fails (step.Enrich by_place kept.place numbers to)) after_place ++ []))) (none_of_any after_places)
    ∙ ap (λ (none : List Failure). fails ++ (none ++ [])) (none_of_any after_place)
    ∙ append-nil fails
    ∙ same_rows _ (join_fails node on) (λ row. ap (λ (valued : Valued). valued.failures) (key_is node kind on row)) rows
