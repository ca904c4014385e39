-- FROM and ROW begin a plan as they are to.
use Rattle.std.proofs.Common.{◌≡◌, ℕ, ◌+◌, Bool, true, false, cond, List, [], ◌∷◌, map, length, fold, Option, Some, None, Result, Ok, Err, refl, ap, sym, ◌∙◌}
use Rattle.std.specs.List.{flat_map, list_any}
use Rattle.std.proofs.lemmas.List.{length-append, length-map}
use Rattle.std.proofs.lemmas.List.FromFn.{length-range_with_len}
use Rattle.esql_types.specs.declared.places.Span.{Span}
use Rattle.esql_types.specs.declared.names.Column.{Column}
use Rattle.esql_ast.specs.declared.nodes.NodeAt.{NodeAt}
use Rattle.esql_ast.specs.declared.query.NameAt.{NameAt}
use Rattle.esql_ast.specs.declared.query.Query.{Query}
use Rattle.esql_ast.specs.Laws.{IsNumbered}
use Rattle.esql_ast.specs.Nodes.{nodes_of, nodes_of_source, nodes_of_command}
use Rattle.esql_plan.specs.declared.catalog.Catalog.{Catalog}
use Rattle.esql_plan.specs.declared.catalog.TableShape.{TableShape}
use Rattle.esql_plan.specs.declared.plan.PlanSource.{PlanSource}
use Rattle.esql_plan.specs.declared.plan.PlanSource.TheVariants as plan_source
use Rattle.plan_semantics.specs.Plans.{columns_of}
use Rattle.row_semantics.specs.declared.rule.NameRule.TheVariants as rule
use Rattle.row_semantics.specs.Kinds.{breaks, and_then}
use Rattle.row_semantics.specs.Regulars.{Regular}
use Rattle.row_semantics.specs.Sources.{tables_named, table_named, with_column, clashes, with_table, with_tables, columns_of_tables, columns_or_none}
use Rattle.query_semantics.specs.Shapes.{Shape, unless_empty}
use Rattle.query_semantics.specs.Writings.{Writing}
use Rattle.query_semantics.specs.Written.{numbered_from, scan_column, writing_of_columns}
use Rattle.query_semantics.proofs.Named.{columns_of-numbered}
use Rattle.expression_analysis.specs.declared.error.AnalyzeError.{AnalyzeError}
use Rattle.expression_analysis.specs.declared.error.AnalyzeError.TheVariants as told_error
use Rattle.expression_analysis.specs.Answers.{IsRefusal}
use Rattle.source_columns.specs.declared.refusals.SourceError.{SourceError}
use Rattle.source_columns.specs.declared.refusals.SourceError.TheVariants as source_error
use Rattle.source_columns.specs.Refusals.{IsRefusal as IsSourceRefusal}
use Rattle.plan_writing.specs.declared.writing.Writing.{Writing as Made}
use Rattle.esql_analyze.specs.declared.source.Begun.{Begun}
use Rattle.plan_writing.specs.Writings.{seen}
use Rattle.esql_analyze.specs.Plans.{IsScanned, IsScanError, Begins, shape_of_tables, tables_in_plan, write_tables}
use Rattle.plan_writing.specs.Answers.{Hears}
use Rattle.plan_writing.proofs.Refusals.{refused_as}
use Rattle.esql_analyze.proofs.NameWrites.{as_told, in_memory}
use Rattle.esql_analyze.proofs.CommandWrites.{IsPlain, other_plain, empty_plain}

-- FROM --------------------------------------------------------------------------------------------------------------------

shown_is : (columns : List Column) (made : Made) (numbers : List ℕ) (begun : Begun) → IsScanned numbers columns begun → columns_of begun.writing.visible ≡ columns
shown_is columns made numbers begun scanned = ap (λ (writing : Writing). columns_of writing.visible) scanned.1 ∙ columns_of-numbered 0 columns

pub tables_begin : (span : Span) (names : List NameAt) (catalog : Catalog) (columns : List Column) (begun : Begun) (made : Made) → columns_of_tables catalog.tables names ≡ Ok columns
    → IsScanned (tables_named catalog.tables names) columns begun
    → (seen made ≡ seen begun.writing) × (unless_empty span (columns_of begun.writing.visible) ≡ Ok (columns_of made.visible))
    → (begun.source ≡ tables_in_plan names catalog) × ((seen made ≡ write_tables names catalog) × (shape_of_tables span names catalog ≡ Ok (columns_of made.visible)))
tables_begin span names catalog columns begun made are scanned writes =
    let found : columns ≡ columns_or_none (columns_of_tables catalog.tables names) = ap columns_or_none (sym are) in
    let shown : columns_of begun.writing.visible ≡ columns = shown_is columns made (tables_named catalog.tables names) begun scanned in (
      scanned.0 ∙ ap (λ (these : List Column). plan_source.Scan (tables_named catalog.tables names) (map scan_column (numbered_from 0 these))) found,
      (
        writes.0 ∙ scanned.1 ∙ ap writing_of_columns found,
        ap (λ (these : Shape). and_then these (unless_empty span)) are ∙ ap (unless_empty span) (sym shown) ∙ writes.1,
      ),
    )

pub source_told : (span : Span) (names : List NameAt) (catalog : Catalog) (error : SourceError) (told : AnalyzeError) → IsSourceRefusal (columns_of_tables catalog.tables names) error → IsScanError error told
    → IsRefusal (λ (accepts : Regular → Bool). shape_of_tables span names catalog) told
source_told span names catalog (source_error.Broken rule at) told refused is =
    as_told (shape_of_tables span names catalog) told rule at is (ap (λ (these : Shape). and_then these (unless_empty span)) refused)
source_told span names catalog (source_error.Memory error) told refused is = in_memory (shape_of_tables span names catalog) told is

pub empty_told : (span : Span) (names : List NameAt) (catalog : Catalog) (columns : List Column) (begun : Begun) (error : AnalyzeError) → columns_of_tables catalog.tables names ≡ Ok columns
    → IsScanned (tables_named catalog.tables names) columns begun → IsRefusal (λ (accepts : Regular → Bool). unless_empty span (columns_of begun.writing.visible)) error
    → IsRefusal (λ (accepts : Regular → Bool). shape_of_tables span names catalog) error
empty_told span names catalog columns begun error are scanned refused =
    let shown : columns_of begun.writing.visible ≡ columns = shown_is columns begun.writing (tables_named catalog.tables names) begun scanned in
    let same : shape_of_tables span names catalog ≡ unless_empty span (columns_of begun.writing.visible) =
    ap (λ (these : Shape). and_then these (unless_empty span)) are ∙ ap (unless_empty span) (sym shown) in
    refused_as (λ (accepts : Regular → Bool). shape_of_tables span names catalog) (λ (accepts : Regular → Bool). unless_empty span (columns_of begun.writing.visible)) error (λ accepts. same) refused

-- FROM breaks no rule of patterns
either_plain : (clash : Bool) (at : Span) (columns : List Column) → IsPlain (cond clash (breaks rule.BadKind at) (Ok columns))
either_plain true at columns span is = other_plain (breaks rule.BadKind at) tt span is
either_plain false at columns span is = other_plain (Ok columns) tt span is

table_plain : (name : NameAt) (table : Option TableShape) (columns : List Column) → IsPlain (with_table name table columns)
table_plain name None columns span is = other_plain (breaks rule.UnknownTable name.span) tt span is
table_plain name (Some table) columns span is = either_plain (list_any (clashes columns) table.columns) name.span (fold with_column columns table.columns) span is

then_plain : (first : Shape) (next : List Column → Shape) → IsPlain first → ((columns : List Column) → IsPlain (next columns)) → IsPlain (and_then first next)
then_plain (Ok columns) next plain later span is = later columns span is
then_plain (Err broken) next plain later span is = plain span (ap (λ (these : Shape). these) is)

all_plain : (catalog : List TableShape) (names : List NameAt) (columns : List Column) → IsPlain (with_tables catalog names columns)
all_plain catalog [] columns span is = other_plain (Ok columns) tt span is
all_plain catalog (name ∷ names) columns span is =
    then_plain (with_table name (table_named catalog name.name) columns) (with_tables catalog names) (table_plain name (table_named catalog name.name) columns) (λ more. all_plain catalog names more) span is

tables_plain : (span : Span) (names : List NameAt) (catalog : Catalog) → IsPlain (shape_of_tables span names catalog)
tables_plain span names catalog = then_plain (columns_of_tables catalog.tables names) (unless_empty span) (all_plain catalog.tables names []) (λ columns. empty_plain span columns)

pub tables_hear : {M : Type 0} (count : M → ℕ) (last : M → List ℕ) (these : List Regular) (old : M) (span : Span) (names : List NameAt) (catalog : Catalog) (source : PlanSource) (written : Writing) (result : Result Begun AnalyzeError)
    → Begins (λ accepts. shape_of_tables span names catalog) source written result → Hears count last these old old result
tables_hear count last these old span names catalog source written (Ok begun) begins = record { counted = refl; noted = refl }
tables_hear count last these old span names catalog source written (Err (told_error.Broken rule at)) begins = record { counted = refl; noted = refl }
tables_hear count last these old span names catalog source written (Err (told_error.PatternRoom at)) begins = absurd (tables_plain span names catalog at begins)
tables_hear count last these old span names catalog source written (Err (told_error.Memory error)) begins = record { counted = refl; noted = refl }

-- nodes -------------------------------------------------------------------------------------------------------------------

-- the nodes of a query are as many as it says
pub as_many_nodes : (query : Query) → IsNumbered query → length (nodes_of_source query.source) + length (flat_map nodes_of_command query.commands) ≡ query.nodes
as_many_nodes query numbered =
    sym (length-append (nodes_of_source query.source) (flat_map nodes_of_command query.commands))
    ∙ sym (length-map (nodes_of query) (λ (place : NodeAt). place.node.0))
    ∙ ap length numbered
    ∙ length-range_with_len 0 query.nodes
