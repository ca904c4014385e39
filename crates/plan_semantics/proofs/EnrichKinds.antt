-- What ENRICH finds for a cell has the kinds of the fields.
use Rattle.std.proofs.Common.{◌≡◌, ℕ, zero, suc, List, [], ◌∷◌, map, filter, All, Option, Some, None, option_map, slice_get, refl, ap, sym, subst, ◌∙◌}
use Rattle.std.specs.Prelude.{IfSome, slice_index_or}
use Rattle.std.specs.List.{flat_map, AllZip}
use Rattle.std.proofs.lemmas.List.Elements.{All-nil, All-head, All-tail, All-map, All-filter, All-weaker}
use Rattle.std.proofs.lemmas.Option.{slice_get-map}
use Rattle.esql_types.specs.declared.names.Column.{Column}
use Rattle.esql_types.specs.declared.names.ColId.{ColId}
use Rattle.esql_types.specs.declared.value.Kind.{Kind}
use Rattle.esql_types.specs.declared.value.Value.{Value}
use Rattle.esql_plan.specs.declared.catalog.Catalog.{Catalog}
use Rattle.esql_plan.specs.declared.catalog.PolicyShape.{PolicyShape}
use Rattle.esql_plan.specs.declared.catalog.TableShape.{TableShape}
use Rattle.esql_plan.specs.declared.step.NewColumn.{NewColumn}
use Rattle.enrich_match.specs.Matches.{MatchRow, is_match, matched_cell}
use Rattle.plan_semantics.specs.Tables.{TableHeld, CatalogHeld, catalog_tables, cell_named}
use Rattle.plan_semantics.specs.Taken.{match_row, match_rows, rows_of_policy, found_if, enriched}
use Rattle.plan_semantics.specs.WellFormed.{Bounds, MadeColumn, new_kinds, GivesKind, IsPolicyTable, IsField, EnrichStands, IsTable, AreTables}
use Rattle.plan_semantics.proofs.ResultKinds.{Has, has_test, pass_append}
use Rattle.plan_semantics.proofs.RowKinds.{all_flat, CellFits, named_has, found_table}
use Rattle.plan_semantics.proofs.TakenKinds.{CellsHave}

-- rows of a policy -------------------------------------------------------------------------------------------------------------------------

-- a row that a policy looks at has a cell of its kind for each field
abbrev FieldsHave : PolicyShape → MatchRow → Type 0
FieldsHave policy row = (number : ℕ) (field : Column) → slice_get policy.fields number ≡ Some field → Has field.kind (slice_index_or row.fields number [])

fields_have : (shape : TableShape) (cells : List (List Value)) → AllZip CellFits shape.columns cells → (fields : List Column) → All (GivesKind shape) fields
    → (number : ℕ) (field : Column) → slice_get fields number ≡ Some field
    → Has field.kind (slice_index_or (map (λ (field : Column). cell_named shape.columns cells field.name) fields) number [])
fields_have shape cells fits [] gives number field is = absurd cc
fields_have shape cells fits (first ∷ fields) gives zero field is =
    let same : first ≡ field = cc in
    subst (λ (field : Column). Has field.kind (cell_named shape.columns cells first.name)) same
    (named_has shape.columns cells first.name first.kind fits (All-head (GivesKind shape) first fields gives))
fields_have shape cells fits (first ∷ fields) gives (suc number) field is = fields_have shape cells fits fields (All-tail (GivesKind shape) first fields gives) number field is

-- the rows of a table that may be there
found_rows : (policy : PolicyShape) (found : Option TableHeld) → IfSome found IsTable
    → IfSome (option_map (λ (table : TableHeld). table.shape) found) (λ shape. All (GivesKind shape) (policy.match_field ∷ policy.fields)) → All (FieldsHave policy) (match_rows policy found)
found_rows policy None is gives = All-nil (FieldsHave policy)
found_rows policy (Some table) is gives =
    let own = All-tail (GivesKind table.shape) policy.match_field policy.fields gives in
    All-map (FieldsHave policy) (match_row policy table.shape.columns) table.rows
    (All-weaker (λ cells. AllZip CellFits table.shape.columns cells) (λ cells. FieldsHave policy (match_row policy table.shape.columns cells))
    (λ cells fits. fields_have table.shape cells fits policy.fields own) table.rows is)

policy_rows : (catalog : Catalog) (tables : List TableHeld) → catalog.tables ≡ catalog_tables tables → All IsTable tables
    → (policy : PolicyShape) → All (IsPolicyTable catalog policy) policy.tables → All (FieldsHave policy) (rows_of_policy tables policy)
policy_rows catalog tables shapes all policy stand =
    all_flat (IsPolicyTable catalog policy) (FieldsHave policy) (λ number. match_rows policy (slice_get tables number))
    (λ number is.
    found_rows policy (slice_get tables number) (found_table tables number all (slice_get tables number) refl)
    (subst (λ found. IfSome found (λ shape. All (GivesKind shape) (policy.match_field ∷ policy.fields)))
    (ap (λ these. slice_get these number) shapes ∙ slice_get-map (λ (table : TableHeld). table.shape) tables number) is.kinds))
    policy.tables stand

-- what is found ------------------------------------------------------------------------------------------------------------------------------

flat_has : (kind : Kind) (gives : MatchRow → List Value) (rows : List MatchRow) → All (λ row. Has kind (gives row)) rows → Has kind (flat_map gives rows)
flat_has kind gives [] all = refl
flat_has kind gives (row ∷ rows) all =
    let P : MatchRow → Type 0 = λ row. Has kind (gives row) in
    pass_append (has_test kind) (gives row) (flat_map gives rows) (All-head P row rows all) (flat_has kind gives rows (All-tail P row rows all))

matched_has : (policy : PolicyShape) (rows : List MatchRow) → All (FieldsHave policy) rows → (cell : List Value) (number : ℕ) (field : Column) → slice_get policy.fields number ≡ Some field
    → Has field.kind (matched_cell rows cell number)
matched_has policy rows all cell number field is =
    flat_has field.kind (λ (row : MatchRow). slice_index_or row.fields number []) (filter (is_match cell) rows)
    (All-weaker (FieldsHave policy) (λ (row : MatchRow). Has field.kind (slice_index_or row.fields number [])) (λ row own. own number field is) (filter (is_match cell) rows)
    (All-filter (is_match cell) (FieldsHave policy) rows all))

found_have : (policy : PolicyShape) (rows : List MatchRow) → All (FieldsHave policy) rows → (cell : List Value) (fields : List ℕ) (to : List NewColumn) → AllZip (IsField policy) fields to
    → CellsHave (map (matched_cell rows cell) fields) (new_kinds to)
found_have policy rows all cell [] to are = tt
found_have policy rows all cell (number ∷ fields) [] are = tt
found_have policy rows all cell (number ∷ fields) (new ∷ to) are = (
  subst (λ kind. Has kind (matched_cell rows cell number)) (sym are.0.kind) (matched_has policy rows all cell number are.0.field are.0.is),
  found_have policy rows all cell fields to are.1,
)

pub enriched_have : (held : CatalogHeld) (bounds : Bounds) → AreTables bounds.catalog held → (made : List MadeColumn) (number : ℕ) (on : ColId) (fields : List ℕ) (to : List NewColumn)
    → EnrichStands bounds made number on fields to → (cell : List Value) → CellsHave (enriched held number fields cell) (new_kinds to)
enriched_have held bounds are made number on fields to stands cell =
    let policy = stands.policy in
    let is : slice_get held.policies number ≡ Some policy = sym (ap (λ (catalog : Catalog). slice_get catalog.policies number) are.shapes) ∙ stands.is in
    subst (λ found. CellsHave (found_if held.tables found fields cell) (new_kinds to)) (sym is)
    (found_have policy (rows_of_policy held.tables policy)
    (policy_rows bounds.catalog held.tables (ap (λ (catalog : Catalog). catalog.tables) are.shapes) are.kinds policy stands.tables)
    cell fields to stands.fields_are)
