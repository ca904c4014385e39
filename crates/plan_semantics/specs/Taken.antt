-- What DISSECT and GROK take out of a cell, what ENRICH finds for one, and the columns that it becomes.
use Rattle.std.specs.Prelude.{ℕ, zero, suc, ◌&&◌, ◌||◌, Bool, List, [], ◌∷◌, ◌++◌, map, fold, zip, Option, Some, None, slice_get}
use Rattle.std.specs.List.{flat_map}
use Rattle.esql_types.specs.declared.value.Kind.{Kind}
use Rattle.esql_types.specs.declared.value.Kind.TheVariants.{Integer, Long, Boolean, Keyword, Null}
use Rattle.esql_types.specs.declared.value.Value.{Value}
use Rattle.esql_types.specs.declared.value.Value.TheVariants as value
use Rattle.esql_types.specs.declared.cause.Failure.{Failure}
use Rattle.esql_types.specs.declared.names.Column.{Column}
use Rattle.esql_types.specs.declared.names.NodeId.{NodeId}
use Rattle.esql_plan.specs.declared.catalog.PolicyShape.{PolicyShape}
use Rattle.esql_plan.specs.declared.function.Function.{Function}
use Rattle.esql_plan.specs.declared.function.Function.TheVariants.{ToInteger, ToLong, ToBoolean}
use Rattle.esql_plan.specs.declared.step.NewColumn.{NewColumn}
use Rattle.esql_plan.specs.Signatures.{is_kind, is_numeric}
use Rattle.esql_plan.specs.Values.{Valued, NumberedRow, silent, applied}
use Rattle.dissect_grok.specs.Patterns.{Reading, reading_of, names_of}
use Rattle.dissect_grok.specs.Cuts.{cut_of}
use Rattle.dissect_grok.specs.Groks.{GrokRead, grok_of, grok_columns, grok_takes}
use Rattle.enrich_match.specs.Matches.{MatchRow, matched_cell}
use Rattle.plan_semantics.specs.Tables.{TableHeld, CatalogHeld, cell_named, with_cell}

-- What one value gives for each of several new columns, and what fails on the way.
pub record Taken : Type 0 where
  pub cells : List (List Value)
  pub failures : List Failure

abbrev pub nothing_taken : Taken
nothing_taken = record { cells = []; failures = [] }

-- so many nulls
abbrev pub nulls : ℕ → List (List Value)
nulls zero = []
nulls (suc count) = [] ∷ nulls count

-- each cell, with the values of the other at its place behind its own
abbrev pub joined_cells : List (List Value) → List (List Value) → List (List Value)
joined_cells [] others = []
joined_cells (cell ∷ cells) [] = cell ∷ cells
joined_cells (cell ∷ cells) (other ∷ others) = (cell ++ other) ∷ joined_cells cells others

-- what the values of a cell give one after another, for so many new columns
abbrev pub taken_of_cell : ℕ → (Value → Taken) → List Value → Taken
taken_of_cell count take cell = record {
  cells = fold (λ cells value. joined_cells cells (take value).cells) (nulls count) cell;
  failures = flat_map (λ value. (take value).failures) cell;
}

-- DISSECT ------------------------------------------------------------------------------------------------------------------

abbrev pub text_cell : List ℕ → List Value
text_cell text = value.Text text ∷ []

-- a text that matches gives a text for each name, any other nothing
abbrev pub taken_texts : Option (List (List ℕ)) → Taken
taken_texts None = nothing_taken
taken_texts (Some texts) = record { cells = map text_cell texts; failures = [] }

-- a keyword is cut; there are no other values, since the input is a keyword
abbrev pub dissected_by : Option Reading → Value → Taken
dissected_by None value = nothing_taken
dissected_by (Some reading) (value.Int number) = nothing_taken
dissected_by (Some reading) (value.Long number) = nothing_taken
dissected_by (Some reading) (value.Bool truth) = nothing_taken
dissected_by (Some reading) (value.Text text) = taken_texts (cut_of reading text)

abbrev pub dissected : List ℕ → List ℕ → ℕ → List Value → Taken
dissected pattern separator count cell = taken_of_cell count (dissected_by (reading_of pattern separator)) cell

abbrev pub keyword_column : List ℕ → Column
keyword_column name = record { name = name; kind = Keyword }

abbrev pub columns_of_reading : Option Reading → List Column
columns_of_reading None = []
columns_of_reading (Some reading) = map keyword_column (names_of reading.keys)

-- the columns of a pattern of DISSECT are keywords
abbrev pub dissect_columns : List ℕ → List ℕ → List Column
dissect_columns pattern separator = columns_of_reading (reading_of pattern separator)

-- GROK ---------------------------------------------------------------------------------------------------------------------

-- the function by which texts become values of a kind; keywords stay what they are, and no column of a pattern has the kind null
abbrev pub conversion_to : Kind → Option Function
conversion_to Integer = Some ToInteger
conversion_to Long = Some ToLong
conversion_to Boolean = Some ToBoolean
conversion_to Keyword = None
conversion_to Null = None

abbrev pub converted_by : Option Function → NodeId → List Value → Valued
converted_by None node cell = silent cell
converted_by (Some function) node cell = applied function node (silent cell ∷ [])

-- texts as values of a kind; what is none is a failure of the node
abbrev pub converted : NodeId → Kind → List (List ℕ) → Valued
converted node kind texts = converted_by (conversion_to kind) node (map value.Text texts)

-- the texts that columns take, as values of their kinds
abbrev pub converted_columns : NodeId → List Column → List (List (List ℕ)) → List Valued
converted_columns node columns lists = map (λ (pair : Column × List (List ℕ)). converted node pair.0.kind pair.1) (zip columns lists)

abbrev pub taken_values : List Valued → Taken
taken_values values = record { cells = map (λ (valued : Valued). valued.cell) values; failures = flat_map (λ (valued : Valued). valued.failures) values }

-- a text that matches gives its texts to the columns, any other nothing
abbrev pub taken_if : NodeId → List Column → Option (List (List (List ℕ))) → Taken
taken_if node columns None = nothing_taken
taken_if node columns (Some lists) = taken_values (converted_columns node columns lists)

-- a keyword is searched; there are no other values, since the input is a keyword
abbrev pub grokked_by : NodeId → Option GrokRead → Value → Taken
grokked_by node None value = nothing_taken
grokked_by node (Some read) (value.Int number) = nothing_taken
grokked_by node (Some read) (value.Long number) = nothing_taken
grokked_by node (Some read) (value.Bool truth) = nothing_taken
grokked_by node (Some read) (value.Text text) = taken_if node (grok_columns read) (grok_takes read text)

abbrev pub grokked : NodeId → List ℕ → ℕ → List Value → Taken
grokked node pattern count cell = taken_of_cell count (grokked_by node (grok_of pattern)) cell

abbrev pub columns_of_grok : Option GrokRead → List Column
columns_of_grok None = []
columns_of_grok (Some read) = grok_columns read

-- the columns of a pattern of GROK
abbrev pub columns_in_grok : List ℕ → List Column
columns_in_grok pattern = columns_of_grok (grok_of pattern)

-- ENRICH -------------------------------------------------------------------------------------------------------------------

-- The kinds of a matched column and of a match field fit where they are equal, where both are numbers, and where the column is null.
abbrev pub kinds_match : Kind → Kind → Bool
kinds_match column field = is_kind field column || (is_numeric column && is_numeric field)

-- what a policy looks at in a row of one of its tables; a column that the table lacks is null
abbrev pub match_row : PolicyShape → List Column → List (List Value) → MatchRow
match_row policy columns cells = record {
  key = cell_named columns cells policy.match_field.name;
  fields = map (λ (field : Column). cell_named columns cells field.name) policy.fields;
}

abbrev pub match_rows : PolicyShape → Option TableHeld → List MatchRow
match_rows policy None = []
match_rows policy (Some table) = map (match_row policy table.shape.columns) table.rows

-- the rows of a policy are those of its tables, one table after another
abbrev pub rows_of_policy : List TableHeld → PolicyShape → List MatchRow
rows_of_policy tables policy = flat_map (λ number. match_rows policy (slice_get tables number)) policy.tables

-- the cells of fields of a policy in the rows that match a cell
abbrev pub found_of_policy : List TableHeld → PolicyShape → List ℕ → List Value → List (List Value)
found_of_policy tables policy fields cell = map (matched_cell (rows_of_policy tables policy) cell) fields

abbrev pub found_if : List TableHeld → Option PolicyShape → List ℕ → List Value → List (List Value)
found_if tables None fields cell = []
found_if tables (Some policy) fields cell = found_of_policy tables policy fields cell

-- the same for the policy of a number
abbrev pub enriched : CatalogHeld → ℕ → List ℕ → List Value → List (List Value)
enriched held policy fields cell = found_if held.tables (slice_get held.policies policy) fields cell

-- New columns --------------------------------------------------------------------------------------------------------------

-- the row with a cell in each of new columns; null where there is none for it
abbrev pub with_new : NumberedRow → List NewColumn → List (List Value) → NumberedRow
with_new row [] cells = row
with_new row (new ∷ more) [] = with_new (with_cell row new.id.0 []) more []
with_new row (new ∷ more) (cell ∷ cells) = with_new (with_cell row new.id.0 cell) more cells
