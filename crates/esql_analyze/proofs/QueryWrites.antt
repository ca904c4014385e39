-- A query writes what it is to write, and is refused as its shape is.
use Rattle.std.proofs.Common.{◌≡◌, ℕ, List, Ok}
use Rattle.esql_types.specs.declared.names.Column.{Column}
use Rattle.esql_ast.specs.declared.query.Query.{Query}
use Rattle.esql_plan.specs.declared.catalog.Catalog.{Catalog}
use Rattle.plan_semantics.specs.Plans.{columns_of}
use Rattle.row_semantics.specs.Regulars.{is_accepted}
use Rattle.query_semantics.specs.Shapes.{shape_of_source, shape_of_commands, shape_in}
use Rattle.expression_analysis.specs.declared.error.AnalyzeError.{AnalyzeError}
use Rattle.expression_analysis.specs.Answers.{IsRefusal}
use Rattle.plan_writing.specs.declared.writing.Writing.{Writing as Made}
use Rattle.plan_writing.specs.Contexts.{over_catalog}
use Rattle.plan_writing.proofs.Refusals.{refused_behind}
use Rattle.esql_analyze.proofs.ShapeStays.{source_stays}

-- and one that is broken by a command behind it
pub commands_refused : (text : List ℕ) (catalog : Catalog) (query : Query) (begun : Made) (error : AnalyzeError) → shape_of_source (over_catalog text catalog is_accepted) query.source ≡ Ok (columns_of begun.visible)
    → IsRefusal (λ accepts. shape_of_commands (over_catalog text catalog accepts) query.commands (columns_of begun.visible)) error → IsRefusal (λ accepts. shape_in (over_catalog text catalog accepts) query) error
commands_refused text catalog query begun error is refused =
    let columns : List Column = columns_of begun.visible in
    refused_behind (λ accepts. shape_of_source (over_catalog text catalog accepts) query.source) (λ accepts. shape_of_commands (over_catalog text catalog accepts) query.commands) columns error
    (source_stays text catalog query.source) is refused
