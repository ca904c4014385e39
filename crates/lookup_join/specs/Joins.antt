-- What LOOKUP JOIN makes of a row of a plan, and the steps that it is written as.
use Rattle.std.specs.Prelude.{ℕ, suc, Bool, None, List, [], ◌∷◌, map, slice_index_or, if◌then◌else◌}
use Rattle.std.specs.List.{flat_map}
use Rattle.esql_types.specs.declared.value.Kind.{Kind}
use Rattle.esql_types.specs.declared.value.Kind.TheVariants.{Boolean as BooleanKind, Long as LongKind}
use Rattle.esql_types.specs.declared.value.Value.{Value}
use Rattle.esql_types.specs.declared.cause.Failure.{Failure}
use Rattle.esql_types.specs.declared.names.ColId.{ColId}
use Rattle.esql_types.specs.declared.names.Column.{Column}
use Rattle.esql_types.specs.declared.names.NodeId.{NodeId}
use Rattle.esql_plan.specs.declared.function.Function.TheVariants as function
use Rattle.esql_plan.specs.declared.step.NewColumn.{NewColumn}
use Rattle.esql_plan.specs.declared.step.Step.{Step}
use Rattle.esql_plan.specs.declared.step.Step.TheVariants as step
use Rattle.esql_plan.specs.declared.typed.TypedExpr.{TypedExpr}
use Rattle.esql_plan.specs.declared.typed.TypedForm.TheVariants as form
use Rattle.esql_plan.specs.Rules.{multi_of}
use Rattle.esql_plan.specs.Values.{NumberedRow, failures_at}
use Rattle.enrich_match.specs.Matches.{is_match}
use Rattle.plan_semantics.specs.Tables.{TableHeld, cell_named, with_cell}
use Rattle.plan_semantics.specs.Taken.{with_new}
use Rattle.lookup_join.specs.Placed.{place_cell}

-- The meaning ---------------------------------------------------------------------------------------------------------------

-- the value of a cell that has one; a cell of none or of several matches nothing
abbrev pub single : List Value → List Value
single [] = []
single (value ∷ []) = value ∷ []
single (value ∷ other ∷ values) = []

-- the row's cell of the column has a value equal to that of the key, an integer as the long of the same number
abbrev pub is_joined : List Column → List ℕ → List Value → List (List Value) → Bool
is_joined columns name key row = is_match key (record { key = cell_named columns row name; fields = [] })

-- a row of a table, and its place
pub record Placed : Type 0 where
  pub place : ℕ
  pub cells : List (List Value)

-- the rows that match a key, in order, where the first of these has a place
abbrev pub joined_from : ℕ → List Column → List ℕ → List Value → List (List (List Value)) → List Placed
joined_from place columns name key [] = []
joined_from place columns name key (row ∷ rows) =
    if is_joined columns name key row then record { place = place; cells = row } ∷ joined_from (suc place) columns name key rows
    else joined_from (suc place) columns name key rows

-- the cell of the column of a number in a row of these columns
abbrev pub cell_of_number : List Column → List (List Value) → ℕ → List Value
cell_of_number columns row number = slice_index_or (map (λ (column : Column). cell_named columns row column.name) columns) number []

abbrev pub cells_of_numbers : List Column → List (List Value) → List ℕ → List (List Value)
cells_of_numbers columns row numbers = map (cell_of_number columns row) numbers

-- the columns in which a join keeps its key, the places of the matches, and the place of one match
pub record JoinColumns : Type 0 where
  pub key : ColId
  pub places : ColId
  pub place : ColId

-- the row with the key and the places of its matches
abbrev pub row_with_places : JoinColumns → NumberedRow → List Value → List Placed → NumberedRow
row_with_places kept row key matches =
    with_cell (with_cell row kept.key.0 key) kept.places.0 (flat_map (λ (match : Placed). place_cell match.place) matches)

-- a match gives a row with the match's cells in new columns
abbrev pub row_of_match : JoinColumns → List Column → List ℕ → List NewColumn → NumberedRow → Placed → NumberedRow
row_of_match kept columns numbers to row match =
    with_new (with_cell row kept.place.0 (place_cell match.place)) to (cells_of_numbers columns match.cells numbers)

-- each match gives one row; no match gives one, with null in the new columns
abbrev pub rows_of_matches : JoinColumns → List Column → List ℕ → List NewColumn → NumberedRow → List Placed → List NumberedRow
rows_of_matches kept columns numbers to row [] = with_new (with_cell row kept.place.0 []) to [] ∷ []
rows_of_matches kept columns numbers to row (match ∷ matches) = map (row_of_match kept columns numbers to row) (match ∷ matches)

-- what LOOKUP JOIN makes of a row: the rows of the table whose cell of the column has a value equal to the row's single value
abbrev pub joined_rows : TableHeld → List ℕ → ColId → JoinColumns → List ℕ → List NewColumn → NumberedRow → List NumberedRow
joined_rows table name on kept numbers to row =
    rows_of_matches kept table.shape.columns numbers to
    (row_with_places kept row (single (row on.0)) (joined_from 0 table.shape.columns name (single (row on.0)) table.rows))
    (joined_from 0 table.shape.columns name (single (row on.0)) table.rows)

-- a cell of several values is a failure of the command's node
abbrev pub join_fails : NodeId → ColId → NumberedRow → List Failure
join_fails node on row = failures_at node (multi_of (row on.0))

-- The steps -----------------------------------------------------------------------------------------------------------------

abbrev pub column_expr : NodeId → Kind → ColId → TypedExpr
column_expr node kind on = record { node = node; kind = kind; form = form.Column on }

-- `case(eq(c, c), c)`, each node the command's
abbrev pub key_expr : NodeId → Kind → ColId → TypedExpr
key_expr node kind on = record {
  node = node;
  kind = kind;
  form = form.Apply function.Case
      (record { node = node; kind = BooleanKind; form = form.Apply function.Eq (column_expr node kind on ∷ column_expr node kind on ∷ []) None } ∷ column_expr node kind on ∷ []) None;
}

-- the single value; the places of the rows that match it; one place after another; and the cells of the row of a place
abbrev pub join_steps : NodeId → Kind → ColId → JoinColumns → ℕ → ℕ → List ℕ → List NewColumn → List Step
join_steps node kind on kept by_key by_place numbers to =
    step.Eval kept.key (key_expr node kind on)
    ∷ step.Enrich by_key kept.key (0 ∷ []) (record { id = kept.places; kind = LongKind } ∷ [])
    ∷ step.Expand kept.places kept.place
    ∷ step.Enrich by_place kept.place numbers to ∷ []
