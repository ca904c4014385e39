-- What is shown of a plan is what the query means.
use Rattle.std.proofs.Common.{◌≡◌, ℕ, List, sym, ap, ◌∙◌}
use Rattle.std.specs.Prelude.{map, take}
use Rattle.esql_types.specs.declared.cause.Cause.{Cause}
use Rattle.esql_types.specs.declared.cause.Failure.{Failure}
use Rattle.esql_types.specs.declared.names.Column.{Column}
use Rattle.esql_types.specs.declared.value.Value.{Value}
use Rattle.esql_ast.specs.declared.query.Query.{Query}
use Rattle.esql_ast.specs.Nodes.{warned_nodes_of}
use Rattle.answer_text.specs.Warnings.{warned}
use Rattle.plan_semantics.specs.Agrees.{AgreeAtNodes}
use Rattle.plan_semantics.specs.Plans.{columns_of, plan_means}
use Rattle.plan_semantics.specs.Tables.{CatalogHeld, catalog_held}
use Rattle.query_semantics.specs.Commands.{cells_of}
use Rattle.query_semantics.specs.Meaning.{meaning_of}
use Rattle.warn_log.specs.Logs.{LogStands, most_kept}
use Rattle.esql_answer.specs.Prepared.{PreparedSeen, MeansQuery}
use Rattle.esql_words.specs.declared.options.Format.{Format}
use Rattle.esql_run.specs.Bytes.{Outcome}
use Rattle.esql_run.specs.Shown.{shown}
use Rattle.esql_run.specs.Tables.{meant}
use Rattle.esql_run.specs.declared.status.Status.TheVariants.{Done}

abbrev Rows : Type 0
Rows = List (List (List Value))

-- a log stands for all failures with the same causes at each node
stands_for_these : (log : List (List Cause)) (those these : List Failure) → LogStands log those → AgreeAtNodes those these → LogStands log these
stands_for_these log those these stands agree = λ node. stands node ∙ ap (λ (causes : List Cause). take most_kept causes) (agree node)

pub shown_means : (format : Format) (text : List ℕ) (query : Query) (held : CatalogHeld) (seen : PreparedSeen) (columns : List Column) (rows : Rows) (log : List (List Cause)) (out err : List ℕ)
    → seen.catalog ≡ catalog_held held → MeansQuery text query seen → columns ≡ columns_of seen.plan.output → rows ≡ (plan_means seen.plan held).rows
    → LogStands log (plan_means seen.plan held).failures → out ≡ shown format columns rows
    → ((failures : List Failure) → LogStands log failures → err ≡ warned text (warned_nodes_of query) failures)
    → record { status = Done; out = out; err = err } ≡ meant format text query (columns_of seen.plan.output) held
shown_means format text query held seen columns rows log out err over means columns_are rows_are stands out_is err_is =
    let agrees = means held over in
    let meant_rows : Rows = map cells_of (meaning_of text held query).rows in
    let failures : List Failure = (meaning_of text held query).failures in
    let outs : out ≡ shown format (columns_of seen.plan.output) meant_rows =
    out_is ∙ ap (λ (these : List Column). shown format these rows) columns_are ∙ ap (λ (these : Rows). shown format (columns_of seen.plan.output) these) (rows_are ∙ agrees.rows) in
    let errs : err ≡ warned text (warned_nodes_of query) failures = err_is failures (stands_for_these log (plan_means seen.plan held).failures failures stands agrees.failures) in
    ap (λ (this : List ℕ). record { status = Done; out = this; err = err }) outs
    ∙ ap (λ (this : List ℕ). record { status = Done; out = shown format (columns_of seen.plan.output) meant_rows; err = this }) errs
