-- The plan that a query is written as means what the query means.
use Rattle.std.proofs.Common.{◌≡◌, ℕ, List, [], ◌++◌, map, Ok, ap, sym, ◌∙◌}
use Rattle.std.proofs.lemmas.List.{append-nil}
use Rattle.esql_types.specs.declared.names.Column.{Column}
use Rattle.esql_ast.specs.declared.query.Query.{Query}
use Rattle.esql_plan.specs.declared.catalog.Catalog.{Catalog}
use Rattle.esql_plan.specs.Values.{NumberedRow}
use Rattle.plan_semantics.specs.Tables.{CatalogHeld, catalog_held, source_rows}
use Rattle.plan_semantics.specs.Steps.{rows_after}
use Rattle.plan_semantics.specs.Agrees.{Agrees}
use Rattle.plan_semantics.specs.Plans.{columns_of, shown_row, plan_means}
use Rattle.plan_semantics.proofs.Agreeing.{Agrees-same}
use Rattle.row_semantics.specs.Regulars.{is_accepted}
use Rattle.query_semantics.specs.Commands.{cells_of}
use Rattle.query_semantics.specs.Cuts.{last_count}
use Rattle.query_semantics.specs.Meaning.{meaning_of, shown_under}
use Rattle.query_semantics.specs.Shapes.{Context, shape_of, shape_of_source, shape_of_commands}
use Rattle.query_semantics.specs.Writings.{Writing}
use Rattle.query_semantics.specs.Written.{source_in_plan, write_source, writing_of, written_of}
use Rattle.query_semantics.specs.Named.{named_row}
use Rattle.query_semantics.proofs.Squares.{map_map, map_same}
use Rattle.query_semantics.proofs.Named.{cells_of-named}
use Rattle.query_semantics.proofs.Kinded.{found_of}
use Rattle.written_laws.proofs.Commands.{commands_stand, limit_stands}
use Rattle.written_laws.proofs.Sources.{source_stands}
use Rattle.written_laws.proofs.Shown.{source_shows, commands_show}
use Rattle.written_laws.proofs.Standing.{Stands}

-- the rows that the source of the written plan gives
abbrev pub start_of : CatalogHeld → Catalog → Query → List NumberedRow
start_of held catalog query = source_rows held.tables (source_in_plan catalog query.source)

-- what is written of a query that breaks no rule stands for what the query means
query_stands : (text : List ℕ) (held : CatalogHeld) (catalog : Catalog) (query : Query) (columns : List Column) → catalog ≡ catalog_held held → shape_of text catalog query ≡ Ok columns
    → Stands held (start_of held catalog query) (meaning_of text held query).rows ((meaning_of text held query).failures ++ []) (writing_of text catalog query)
query_stands text held catalog query columns tables_are is =
    let context : Context = record { text = text; catalog = catalog; accepts = is_accepted } in
    let start : List NumberedRow = start_of held catalog query in
    let found = found_of (shape_of_source context query.source) (shape_of_commands context query.commands) columns is in
    let stand = commands_stand context held start (ap (λ (these : Catalog). these.policies) tables_are) query.commands found.value columns _ _ _
    (source_shows context query.source found.value found.is) found.next_is
    (source_stands text held catalog query.source (ap (λ (these : Catalog). these.tables) tables_are)) in
    limit_stands held start _ _ _ stand (last_count query)

-- the rows and the failures
pub rows_are : (text : List ℕ) (held : CatalogHeld) (catalog : Catalog) (query : Query) (columns : List Column) → catalog ≡ catalog_held held → shape_of text catalog query ≡ Ok columns
    → (meaning_of text held query).rows ≡ map (named_row (writing_of text catalog query).visible) (rows_after held (writing_of text catalog query).steps (start_of held catalog query))
rows_are text held catalog query columns tables_are is = (query_stands text held catalog query columns tables_are is).rows_are

pub failures_are : (text : List ℕ) (held : CatalogHeld) (catalog : Catalog) (query : Query) (columns : List Column) → catalog ≡ catalog_held held → shape_of text catalog query ≡ Ok columns
    → (meaning_of text held query).failures ≡ (plan_means (written_of text catalog query).plan held).failures
failures_are text held catalog query columns tables_are is =
    sym (append-nil (meaning_of text held query).failures) ∙ (query_stands text held catalog query columns tables_are is).failures_are

-- the columns, where no rule is broken
pub columns_are : (text : List ℕ) (catalog : Catalog) (query : Query) (columns : List Column) → shape_of text catalog query ≡ Ok columns
    → columns ≡ columns_of (written_of text catalog query).plan.output
columns_are text catalog query columns is =
    let context : Context = record { text = text; catalog = catalog; accepts = is_accepted } in
    let found = found_of (shape_of_source context query.source) (shape_of_commands context query.commands) columns is in
    commands_show context query.commands found.value columns (write_source text catalog query.source) (source_shows context query.source found.value found.is) found.next_is

pub plan_is_meaning : (text : List ℕ) (held : CatalogHeld) (catalog : Catalog) (query : Query) (columns : List Column) → catalog ≡ catalog_held held
    → shape_of text catalog query ≡ Ok columns
    → plan_means (written_of text catalog query).plan held ≡ shown_under columns (meaning_of text held query)
plan_is_meaning text held catalog query columns tables_are is =
    let writing : Writing = writing_of text catalog query in
    let after : List NumberedRow = rows_after held writing.steps (start_of held catalog query) in
    let rows = ap (map cells_of) (rows_are text held catalog query columns tables_are is)
    ∙ map_map cells_of (named_row writing.visible) after
    ∙ map_same (λ (row : NumberedRow). cells_of (named_row writing.visible row)) (shown_row writing.visible) (cells_of-named writing.visible) after in
    let columns_is = columns_are text catalog query columns is in
    let failures = failures_are text held catalog query columns tables_are is in
    λ i. record { columns = sym columns_is i; rows = sym rows i; failures = sym failures i }

pub plan_agrees : (text : List ℕ) (held : CatalogHeld) (catalog : Catalog) (query : Query) (columns : List Column) → catalog ≡ catalog_held held
    → shape_of text catalog query ≡ Ok columns
    → Agrees (plan_means (written_of text catalog query).plan held) (shown_under columns (meaning_of text held query))
plan_agrees text held catalog query columns tables_are is = Agrees-same _ _ (plan_is_meaning text held catalog query columns tables_are is)
