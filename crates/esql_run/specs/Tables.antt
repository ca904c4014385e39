-- What a query of which each command is built is answered with, over the tables and policies that it names.
use Rattle.std.specs.Prelude.{◌≡◌, ℕ, List, map, Option, Some, Ok, Err}
use Rattle.esql_io.specs.Files.{Held}
use Rattle.esql_types.specs.declared.names.Column.{Column}
use Rattle.esql_ast.specs.declared.query.Query.{Query}
use Rattle.esql_ast.specs.Nodes.{warned_nodes_of}
use Rattle.esql_ast.specs.Uses.{source_names}
use Rattle.esql_plan.specs.declared.catalog.Catalog.{Catalog}
use Rattle.ndjson_load.specs.Over.{Over}
use Rattle.table_files.specs.Asked.{AskedToFind, AskedToLoad}
use Rattle.table_files.specs.Catalog.{Rows, Gathers, Loads}
use Rattle.table_files.specs.Catalogs.{catalog_of}
use Rattle.table_files.specs.Found.{Found, nothing}
use Rattle.table_files.specs.Halts.{Halt, unknown, unknown_of, unknown_policy, bad}
use Rattle.plan_semantics.specs.Tables.{CatalogHeld}
use Rattle.plan_rows.specs.Held.{tables_held}
use Rattle.row_semantics.specs.declared.rule.NameRule.{NameRule}
use Rattle.row_semantics.specs.declared.rule.NameRule.TheVariants as rule
use Rattle.row_semantics.specs.Scopes.{Broken}
use Rattle.query_semantics.specs.Commands.{cells_of}
use Rattle.query_semantics.specs.Meaning.{meaning_of}
use Rattle.query_semantics.specs.Shapes.{shape_of}
use Rattle.answer_text.specs.declared.refusals.Refusal.{Refusal}
use Rattle.answer_text.specs.declared.refusals.Refusal.TheVariants as refusal
use Rattle.answer_text.specs.Warnings.{warned}
use Rattle.esql_words.specs.declared.options.Format.{Format}
use Rattle.esql_run.specs.Bytes.{Outcome, refused, refused_name, bad_file}
use Rattle.esql_run.specs.Shown.{shown}
use Rattle.esql_run.specs.declared.status.Status.TheVariants.{Done}

-- A name that is no table's or no policy's is refused where it stands, a table that a policy lacks where the policy's name stands, and a
-- file that is bad is named.
abbrev pub halted : List ℕ → Halt → Outcome
halted text (unknown span) = refused text refusal.UnknownTable span
halted text (unknown_of name span) = refused_name text refusal.UnknownTable name span
halted text (unknown_policy span) = refused text refusal.UnknownPolicy span
halted text (bad message) = bad_file message

-- what is said of each rule that a query breaks
abbrev pub refusal_of : NameRule → Refusal
refusal_of rule.UnknownTable = refusal.UnknownTable
refusal_of rule.UnknownColumn = refusal.UnknownColumn
refusal_of rule.NoMatch = refusal.NoMatch
refusal_of rule.UnknownFunction = refusal.UnknownFunction
refusal_of rule.BadArguments = refusal.BadArguments
refusal_of rule.BadKind = refusal.BadKind
refusal_of rule.NotBoolean = refusal.NotBoolean
refusal_of rule.NotAggregate = refusal.NotAggregate
refusal_of rule.NestedAggregate = refusal.NestedAggregate
refusal_of rule.UnknownPolicy = refusal.UnknownPolicy
refusal_of rule.BadDissect = refusal.BadDissect
refusal_of rule.BadGrok = refusal.BadGrok
refusal_of rule.BadRegex = refusal.BadRegex
refusal_of rule.EmptyResultColumns = refusal.EmptyResultColumns

-- the table that the query means over a catalog with its rows, in a format, and its warnings
abbrev pub meant : Format → List ℕ → Query → List Column → CatalogHeld → Outcome
meant format text query columns held = record {
  status = Done;
  out = shown format columns (map cells_of (meaning_of text held query).rows);
  err = warned text (warned_nodes_of query) (meaning_of text held query).failures;
}

-- the catalog of the tables and policies that were found
abbrev pub catalog_found : Found → Catalog
catalog_found found = catalog_of found.tables found.policies

-- The tables and policies are found by their names, in the folder where one is named; then the query is judged by their catalog; then
-- the rows of the tables are read, and it is answered with what it means over them, in a format.
pub data IsTablesOutcome (folder : Option (List ℕ)) (format : Format) (held : Held) (text : List ℕ) (query : Query) : Outcome → Type 0 where
  not_found : (halt : Halt) → Gathers folder held nothing (source_names query) (Err halt) → IsTablesOutcome folder format held text query (halted text halt)
  broken : (found : Found) (first : Broken) → Gathers folder held nothing (source_names query) (Ok found) → shape_of text (catalog_found found) query ≡ Err first
      → IsTablesOutcome folder format held text query (refused text (refusal_of first.rule) first.span)
  not_loaded : (found : Found) (columns : List Column) (halt : Halt) → Gathers folder held nothing (source_names query) (Ok found)
      → shape_of text (catalog_found found) query ≡ Ok columns → Loads folder held found.tables (Err halt) → IsTablesOutcome folder format held text query (halted text halt)
  loaded : (found : Found) (columns : List Column) (reads : List Rows) → Gathers folder held nothing (source_names query) (Ok found)
      → shape_of text (catalog_found found) query ≡ Ok columns → Loads folder held found.tables (Ok reads)
      → IsTablesOutcome folder format held text query (meant format text query columns (tables_held (catalog_found found) reads))

-- the answer over what the files hold, and over some contents where they do not tell it
abbrev pub AnswersTables : Option (List ℕ) → Format → List ℕ → Held → Query → Outcome → Type 0
AnswersTables folder format text held query outcome = Over held (λ bytes_of. IsTablesOutcome folder format (Some bytes_of) text query outcome)

-- The files that are asked for: those with which the tables and policies are found, and, where the query breaks no rule, those of the
-- tables' rows.
pub data AskedByTables (folder : Option (List ℕ)) (held : Held) (text : List ℕ) (query : Query) : List ℕ → Type 0 where
  to_find : (file : List ℕ) → AskedToFind folder held nothing (source_names query) file → AskedByTables folder held text query file
  to_load : (found : Found) (columns : List Column) (file : List ℕ) → Gathers folder held nothing (source_names query) (Ok found)
      → shape_of text (catalog_found found) query ≡ Ok columns → AskedToLoad folder held found.tables file → AskedByTables folder held text query file
