-- What the laws of written plans say.
use Rattle.std.specs.Prelude.{◌≡◌, ℕ, List, ◌∷◌, ◌++◌, take, Ok}
use Rattle.esql_types.specs.declared.names.Column.{Column}
use Rattle.esql_ast.specs.declared.query.Query.{Query}
use Rattle.esql_ast.specs.declared.query.Command.{Command}
use Rattle.esql_ast.specs.declared.query.CommandKind.TheVariants.{Limit}
use Rattle.esql_ast.specs.declared.query.SourceCommand.{SourceCommand}
use Rattle.esql_ast.specs.Laws.{IsNumbered}
use Rattle.esql_plan.specs.declared.catalog.Catalog.{Catalog}
use Rattle.plan_semantics.specs.Tables.{CatalogHeld, catalog_held}
use Rattle.plan_semantics.specs.Agrees.{Agrees}
use Rattle.plan_semantics.specs.Plans.{plan_means}
use Rattle.plan_semantics.specs.Parts.{IsOrderly}
use Rattle.plan_semantics.specs.WellFormed.{IsWellFormed}
use Rattle.row_semantics.specs.Columns.{HaveDistinctNames}
use Rattle.query_semantics.specs.Built.{IsBuiltQuery}
use Rattle.query_semantics.specs.Catalogs.{IsCatalog}
use Rattle.query_semantics.specs.Commands.{rows_of_commands, failures_of_commands}
use Rattle.query_semantics.specs.Meaning.{meaning_of, AreRowsOf, shown_under, rows_of_source}
use Rattle.query_semantics.specs.Shapes.{shape_of}
use Rattle.query_semantics.specs.Written.{written_of}

-- what is held with rows is the catalog
abbrev pub AreTablesOf : Catalog → CatalogHeld → Type 0
AreTablesOf catalog held = catalog ≡ catalog_held held

-- a query that breaks no rule means what the plan means that it is written as
abbrev pub PlansMeanQueries : Type 0
PlansMeanQueries = (text : List ℕ) (catalog : Catalog) (held : CatalogHeld) (query : Query) (columns : List Column)
    → AreTablesOf catalog held → shape_of text catalog query ≡ Ok columns
    → Agrees (plan_means (written_of text catalog query).plan held) (shown_under columns (meaning_of text held query))

-- the rows of a query that breaks no rule have just the names of its columns
abbrev pub RowsHaveTheirColumns : Type 0
RowsHaveTheirColumns = (text : List ℕ) (catalog : Catalog) (held : CatalogHeld) (query : Query) (columns : List Column)
    → AreTablesOf catalog held → shape_of text catalog query ≡ Ok columns → AreRowsOf columns (meaning_of text held query).rows

-- no two columns of a query that breaks no rule have one name
abbrev pub ColumnsDiffer : Type 0
ColumnsDiffer = (text : List ℕ) (catalog : Catalog) (query : Query) (columns : List Column) → shape_of text catalog query ≡ Ok columns → HaveDistinctNames columns

abbrev pub query_of : SourceCommand → List Command → Query
query_of source commands = record { source = source; commands = commands; nodes = 0 }

-- all failures before a LIMIT stay, whatever its count is; the commands behind it fail on the rows that it leaves
abbrev pub LimitsKeepFailures : Type 0
LimitsKeepFailures = (text : List ℕ) (held : CatalogHeld) (source : SourceCommand) (before : List Command) (limit : Command) (count : ℕ) (after : List Command)
    → limit.kind ≡ Limit count
    → (meaning_of text held (query_of source (before ++ limit ∷ after))).failures
    ≡ (meaning_of text held (query_of source before)).failures ++ failures_of_commands text held after (take count (rows_of_commands text held before (rows_of_source text held.tables source)))

-- The plan that a query is written as, which breaks no rule, is well formed. An IN without items, which no text is parsed as, breaks no
-- rule, and no plan has one.
abbrev pub PlansAreWellFormed : Type 0
PlansAreWellFormed = (text : List ℕ) (catalog : Catalog) (query : Query) (columns : List Column)
    → IsCatalog catalog → IsNumbered query → IsBuiltQuery query → shape_of text catalog query ≡ Ok columns
    → IsWellFormed catalog (written_of text catalog query).whole (written_of text catalog query).free (written_of text catalog query).cutters (written_of text catalog query).plan

-- the plan that a numbered query is written as is orderly: each node fails in one part of it at most
abbrev pub PlansAreOrderly : Type 0
PlansAreOrderly = (text : List ℕ) (catalog : Catalog) (query : Query) (columns : List Column)
    → IsCatalog catalog → IsNumbered query → IsBuiltQuery query → shape_of text catalog query ≡ Ok columns
    → (held : CatalogHeld) → IsOrderly (written_of text catalog query).plan held
