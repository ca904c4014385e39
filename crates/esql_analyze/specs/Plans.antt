-- What is begun by a source command, and what is written of a query.
use Rattle.std.specs.Prelude.{◌≡◌, ℕ, Bool, List, map, Result, Ok, Err}
use Rattle.esql_types.specs.declared.names.Column.{Column}
use Rattle.esql_types.specs.declared.places.Span.{Span}
use Rattle.esql_ast.specs.declared.query.NameAt.{NameAt}
use Rattle.esql_plan.specs.declared.catalog.Catalog.{Catalog}
use Rattle.esql_plan.specs.declared.plan.PlanSource.{PlanSource}
use Rattle.esql_plan.specs.declared.plan.PlanSource.TheVariants.{Scan}
use Rattle.row_semantics.specs.Kinds.{and_then}
use Rattle.row_semantics.specs.Regulars.{Regular}
use Rattle.row_semantics.specs.Sources.{tables_named, columns_of_tables, columns_or_none}
use Rattle.query_semantics.specs.Shapes.{Shape, unless_empty}
use Rattle.query_semantics.specs.Writings.{Writing}
use Rattle.query_semantics.specs.Written.{Written, writing_of_columns, numbered_from, scan_column}
use Rattle.source_columns.specs.declared.refusals.SourceError.{SourceError}
use Rattle.source_columns.specs.declared.refusals.SourceError.TheVariants as source_error
use Rattle.expression_analysis.specs.declared.error.AnalyzeError.{AnalyzeError}
use Rattle.expression_analysis.specs.declared.error.AnalyzeError.TheVariants.{Broken}
use Rattle.expression_analysis.specs.Answers.{IsRefusal}
use Rattle.esql_analyze.specs.declared.query.Analyzed.{Analyzed}
use Rattle.esql_analyze.specs.declared.source.Begun.{Begun}
use Rattle.plan_writing.specs.Writings.{seen}
use Rattle.plan_writing.specs.Answers.{Writes}
use Rattle.esql_analyze.specs.Names.{IsMemory}

-- the plan and the patterns that it reads are what is written
pub record IsWritten (written : Written) (analyzed : Analyzed) : Type 0 where
  pub plan : analyzed.plan ≡ written.plan
  pub whole : analyzed.patterns.whole ≡ written.whole
  pub free : analyzed.patterns.free ≡ written.free
  pub cutters : analyzed.cutters ≡ written.cutters

-- the source of the plan is the one that is meant, and its columns are written as they are to be
abbrev pub Begins : ((Regular → Bool) → Shape) → PlanSource → Writing → Result Begun AnalyzeError → Type 0
Begins shape source written (Ok begun) = (begun.source ≡ source) × Writes shape written (Ok begun.writing)
Begins shape source written (Err error) = IsRefusal shape error

-- the columns are read of the tables of these numbers, each under its number
abbrev pub IsScanned : List ℕ → List Column → Begun → Type 0
IsScanned numbers columns begun = (begun.source ≡ Scan numbers (map scan_column (numbered_from 0 columns))) × (seen begun.writing ≡ writing_of_columns columns)

-- the rule that FROM breaks, as it is told
abbrev pub IsScanError : SourceError → AnalyzeError → Type 0
IsScanError (source_error.Broken rule span) told = told ≡ Broken rule span
IsScanError (source_error.Memory error) told = IsMemory told

-- the columns of FROM, of which there has to be one
abbrev pub shape_of_tables : Span → List NameAt → Catalog → Shape
shape_of_tables span names catalog = and_then (columns_of_tables catalog.tables names) (unless_empty span)

-- each table is read once
abbrev pub tables_in_plan : List NameAt → Catalog → PlanSource
tables_in_plan names catalog = Scan (tables_named catalog.tables names) (map scan_column (numbered_from 0 (columns_or_none (columns_of_tables catalog.tables names))))

abbrev pub write_tables : List NameAt → Catalog → Writing
write_tables names catalog = writing_of_columns (columns_or_none (columns_of_tables catalog.tables names))
