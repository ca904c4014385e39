-- DISSECT, GROK and ENRICH: the columns that they append, and the cells that these have in a row.
use Rattle.std.specs.Prelude.{ℕ, ◌+◌, List, [], ◌∷◌, ◌++◌, length, map, Option, Some, None, option_map, if◌then◌else◌}
use Rattle.std.specs.List.{filter_map, flat_map}
use Rattle.std.specs.Str.{bytes_eq}
use Rattle.esql_types.specs.declared.places.Span.{Span}
use Rattle.esql_types.specs.declared.value.Value.{Value}
use Rattle.esql_types.specs.declared.cause.Failure.{Failure}
use Rattle.esql_types.specs.declared.names.Column.{Column}
use Rattle.esql_types.specs.declared.names.NodeId.{NodeId}
use Rattle.esql_ast.specs.declared.expr.Expr.{Expr}
use Rattle.esql_ast.specs.declared.query.EnrichItem.{EnrichItem}
use Rattle.esql_ast.specs.declared.query.NameAt.{NameAt}
use Rattle.esql_plan.specs.declared.catalog.PolicyShape.{PolicyShape}
use Rattle.plan_semantics.specs.Tables.{TableHeld, CatalogHeld}
use Rattle.plan_semantics.specs.Taken.{Taken, dissected, dissect_columns, grokked, columns_in_grok, found_of_policy}
use Rattle.row_semantics.specs.Columns.{names_of, put_column}
use Rattle.row_semantics.specs.Rows.{Row, cell_at, put}
use Rattle.query_semantics.specs.RowValues.{value_in_row, failures_of_expr}

-- cells under names, each in the place of that of its name, at the end; null where there is none for a name
abbrev pub put_cells : Row → List (List ℕ) → List (List Value) → Row
put_cells row [] cells = row
put_cells row (name ∷ names) [] = put_cells (put row name []) names []
put_cells row (name ∷ names) (cell ∷ cells) = put_cells (put row name cell) names cells

-- columns, each in the place of that of its name, at the end
abbrev pub put_columns : List Column → List Column → List Column
put_columns columns [] = columns
put_columns columns (new ∷ more) = put_columns (put_column columns new.name new.kind) more

-- DISSECT and GROK ---------------------------------------------------------------------------------------------------------

-- what a row's value of the input gives for columns
abbrev pub taken_in_row : (ℕ → List Value → Taken) → List Column → Expr → Row → Taken
taken_in_row take columns input row = take (length columns) (value_in_row input row).cell

abbrev pub row_with_taken : (ℕ → List Value → Taken) → List Column → Expr → Row → Row
row_with_taken take columns input row = put_cells row (names_of columns) (taken_in_row take columns input row).cells

-- the failures of the input row after row, then those of what is taken
abbrev pub failures_of_taken : (ℕ → List Value → Taken) → List Column → Expr → List Row → List Failure
failures_of_taken take columns input rows = failures_of_expr input rows ++ flat_map (λ row. (taken_in_row take columns input row).failures) rows

abbrev pub rows_of_dissect : Expr → List ℕ → List ℕ → List Row → List Row
rows_of_dissect input pattern separator rows = map (row_with_taken (dissected pattern separator) (dissect_columns pattern separator) input) rows

abbrev pub rows_of_grok : NodeId → Expr → List ℕ → List Row → List Row
rows_of_grok node input pattern rows = map (row_with_taken (grokked node pattern) (columns_in_grok pattern) input) rows

abbrev pub failures_of_grok : NodeId → Expr → List ℕ → List Row → List Failure
failures_of_grok node input pattern rows = failures_of_taken (grokked node pattern) (columns_in_grok pattern) input rows

-- ENRICH -------------------------------------------------------------------------------------------------------------------

-- a policy and its number in the catalog
pub record FoundPolicy : Type 0 where
  pub number : ℕ
  pub shape : PolicyShape

-- the first policy of a name, where the first of these has a number
abbrev pub policy_from : ℕ → List PolicyShape → List ℕ → Option FoundPolicy
policy_from number [] name = None
policy_from number (policy ∷ policies) name =
    if bytes_eq policy.name name then Some (record { number = number; shape = policy }) else policy_from (number + 1) policies name

abbrev pub policy_named : List PolicyShape → List ℕ → Option FoundPolicy
policy_named policies name = policy_from 0 policies name

-- the name of the matched column: that of ON, or that of the match field where ON is not written
abbrev pub matched_name : PolicyShape → Option NameAt → List ℕ
matched_name policy None = policy.match_field.name
matched_name policy (Some on) = on.name

-- where the matched column is named: in ON, or where ON is not written at the policy
abbrev pub matched_at : NameAt → Option NameAt → Span
matched_at policy None = policy.span
matched_at policy (Some on) = on.span

-- a field of a policy by its number, and the column that it becomes
pub record FieldTaken : Type 0 where
  pub number : ℕ
  pub column : Column

-- all fields under their own names, where the first of these has a number
abbrev pub all_fields : ℕ → List Column → List FieldTaken
all_fields number [] = []
all_fields number (field ∷ fields) = record { number = number; column = field } ∷ all_fields (number + 1) fields

-- the first field of a name, where the first of these has a number
abbrev pub field_from : ℕ → List Column → List ℕ → Option FieldTaken
field_from number [] name = None
field_from number (field ∷ fields) name =
    if bytes_eq field.name name then Some (record { number = number; column = field }) else field_from (number + 1) fields name

-- the name of an item, which is that of its field where no other is written
abbrev pub item_name : EnrichItem → List ℕ
item_name item = name_or item.name item.field.name
  where
    name_or : Option NameAt → List ℕ → List ℕ
    name_or None own = own
    name_or (Some name) own = name.name

abbrev pub taken_as : List ℕ → FieldTaken → FieldTaken
taken_as name taken = record { number = taken.number; column = record { name = name; kind = taken.column.kind } }

abbrev pub taken_item : List Column → EnrichItem → Option FieldTaken
taken_item fields item = option_map (taken_as (item_name item)) (field_from 0 fields item.field.name)

-- the fields that are written, or all where none are; one that is not there is none
abbrev pub fields_taken : List Column → Option (List EnrichItem) → List FieldTaken
fields_taken fields None = all_fields 0 fields
fields_taken fields (Some items) = filter_map (taken_item fields) items

abbrev pub taken_columns : List FieldTaken → List Column
taken_columns taken = map (λ (one : FieldTaken). one.column) taken

abbrev pub taken_numbers : List FieldTaken → List ℕ
taken_numbers taken = map (λ (one : FieldTaken). one.number) taken

abbrev pub enriched_row : List TableHeld → PolicyShape → Option NameAt → List FieldTaken → Row → Row
enriched_row tables policy on taken row =
    put_cells row (names_of (taken_columns taken)) (found_of_policy tables policy (taken_numbers taken) (cell_at row (matched_name policy on)))

abbrev pub rows_of_policy_found : List TableHeld → Option FoundPolicy → Option NameAt → Option (List EnrichItem) → List Row → List Row
rows_of_policy_found tables None on items rows = rows
rows_of_policy_found tables (Some policy) on items rows = map (enriched_row tables policy.shape on (fields_taken policy.shape.fields items)) rows

-- a policy that is not there adds nothing; it breaks a rule
abbrev pub rows_of_enrich : CatalogHeld → NameAt → Option NameAt → Option (List EnrichItem) → List Row → List Row
rows_of_enrich held policy on items rows = rows_of_policy_found held.tables (policy_named held.policies policy.name) on items rows
