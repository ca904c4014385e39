-- FROM: the columns of the tables that it names.
use Rattle.std.specs.Prelude.{ℕ, ◌+◌, ◌==◌, Bool, not, ◌&&◌, List, [], ◌∷◌, ◌++◌, fold, Option, Some, None, option_map, Result, Ok, Err, if◌then◌else◌}
use Rattle.std.specs.List.{list_any}
use Rattle.std.specs.Str.{bytes_eq}
use Rattle.std.specs.Ordering.{nat_cmp, is_lt}
use Rattle.std.specs.Cmp.Lexicographic.{slice_cmp}
use Rattle.esql_types.specs.declared.names.Column.{Column}
use Rattle.esql_ast.specs.declared.query.NameAt.{NameAt}
use Rattle.esql_plan.specs.declared.catalog.TableShape.{TableShape}
use Rattle.esql_plan.specs.Signatures.{same_kind}
use Rattle.row_semantics.specs.declared.rule.NameRule.TheVariants as rule
use Rattle.row_semantics.specs.Scopes.{Broken}
use Rattle.row_semantics.specs.Kinds.{breaks, and_then}

-- the number of the table of a name in a catalog
abbrev pub number_of_table : List TableShape → List ℕ → Option ℕ
number_of_table [] name = None
number_of_table (table ∷ tables) name = if bytes_eq table.name name then Some 0 else option_map (λ number. number + 1) (number_of_table tables name)

-- the table of a name
abbrev pub table_named : List TableShape → List ℕ → Option TableShape
table_named [] name = None
table_named (table ∷ tables) name = if bytes_eq table.name name then Some table else table_named tables name

-- a number behind others, if it is not among them
abbrev pub with_number : List ℕ → Option ℕ → List ℕ
with_number numbers None = numbers
with_number numbers (Some number) = if list_any (λ other. other == number) numbers then numbers else numbers ++ number ∷ []

-- the numbers of the tables of names; a name that is written twice counts once, at its first place
abbrev pub tables_named : List TableShape → List NameAt → List ℕ
tables_named catalog names = fold (λ numbers (name : NameAt). with_number numbers (number_of_table catalog name.name)) [] names

-- a column among columns that stand in byte order of their names; one of the name that is there stays
abbrev pub with_column : List Column → Column → List Column
with_column [] column = column ∷ []
with_column (first ∷ rest) column =
    if bytes_eq first.name column.name then first ∷ rest else
    (if is_lt (slice_cmp nat_cmp column.name first.name) then column ∷ first ∷ rest else first ∷ with_column rest column)

-- a column has one of the same name, and of another kind, among others
abbrev pub clashes : List Column → Column → Bool
clashes columns column = list_any (λ (other : Column). bytes_eq other.name column.name && not (same_kind other.kind column.kind)) columns

-- the columns so far with those of one more table, which has to be there; one name has one kind in all tables
abbrev pub with_table : NameAt → Option TableShape → List Column → Result (List Column) Broken
with_table name None columns = breaks rule.UnknownTable name.span
with_table name (Some table) columns = if list_any (clashes columns) table.columns then breaks rule.BadKind name.span else Ok (fold with_column columns table.columns)

-- the columns so far with those of the tables of names
abbrev pub with_tables : List TableShape → List NameAt → List Column → Result (List Column) Broken
with_tables catalog [] columns = Ok columns
with_tables catalog (name ∷ names) columns = and_then (with_table name (table_named catalog name.name) columns) (with_tables catalog names)

-- the columns of all tables of names, in byte order of their names
abbrev pub columns_of_tables : List TableShape → List NameAt → Result (List Column) Broken
columns_of_tables catalog names = with_tables catalog names []

-- the columns of all tables of names, or none where a rule is broken, since no such query is answered
abbrev pub columns_or_none : Result (List Column) Broken → List Column
columns_or_none (Ok columns) = columns
columns_or_none (Err broken) = []
