-- The rows of a query have just the names of its columns.
use Rattle.std.proofs.Common.{◌≡◌, ℕ, List, [], ◌∷◌, map, Ok, sym, subst, ◌∙◌}
use Rattle.std.proofs.lemmas.List.Elements.{All-nil, All-cons}
use Rattle.esql_types.specs.declared.names.Column.{Column}
use Rattle.esql_ast.specs.declared.query.Query.{Query}
use Rattle.esql_plan.specs.declared.catalog.Catalog.{Catalog}
use Rattle.esql_plan.specs.declared.plan.OutColumn.{OutColumn}
use Rattle.esql_plan.specs.Values.{NumberedRow}
use Rattle.plan_semantics.specs.Tables.{CatalogHeld, catalog_held}
use Rattle.plan_semantics.specs.Steps.{rows_after}
use Rattle.plan_semantics.specs.Plans.{columns_of}
use Rattle.row_semantics.specs.Columns.{names_of}
use Rattle.query_semantics.specs.Commands.{names_in}
use Rattle.query_semantics.specs.Meaning.{meaning_of, AreRowsOf}
use Rattle.query_semantics.specs.Shapes.{shape_of}
use Rattle.query_semantics.specs.Writings.{Writing}
use Rattle.query_semantics.specs.Written.{writing_of}
use Rattle.query_semantics.specs.Named.{named_row}
use Rattle.query_semantics.proofs.Named.{names_in-named, names_of-columns}
use Rattle.written_laws.proofs.Whole.{start_of, rows_are, columns_are}

rows_named : (visible : List OutColumn) (rows : List NumberedRow) → AreRowsOf (columns_of visible) (map (named_row visible) rows)
rows_named visible [] = All-nil (λ row. names_in row ≡ names_of (columns_of visible))
rows_named visible (row ∷ rows) =
    All-cons (λ row. names_in row ≡ names_of (columns_of visible)) (named_row visible row) (map (named_row visible) rows) (names_in-named visible row ∙ sym (names_of-columns visible)) (rows_named visible rows)

pub are_rows : (text : List ℕ) (held : CatalogHeld) (catalog : Catalog) (query : Query) (columns : List Column) → catalog ≡ catalog_held held
    → shape_of text catalog query ≡ Ok columns → AreRowsOf columns (meaning_of text held query).rows
are_rows text held catalog query columns tables_are is =
    let writing : Writing = writing_of text catalog query in
    subst (λ these. AreRowsOf these (meaning_of text held query).rows) (sym (columns_are text catalog query columns is))
    (subst (AreRowsOf (columns_of writing.visible)) (sym (rows_are text held catalog query columns tables_are is)) (rows_named writing.visible (rows_after held writing.steps (start_of held catalog query))))
