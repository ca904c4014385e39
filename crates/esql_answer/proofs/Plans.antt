-- What a plan that is prepared shows.
use Rattle.std.proofs.Common.{◌≡◌, ℕ, ◌<◌, List, Ok, map, length, All, get_or, sym, ap, subst, ◌∙◌}
use Rattle.std.proofs.lemmas.List.{length-map}
use Rattle.std.proofs.lemmas.List.Elements.{All-map}
use Rattle.esql_types.specs.declared.value.Value.{Value}
use Rattle.esql_types.specs.declared.cause.Cause.{Cause}
use Rattle.esql_types.specs.declared.cause.Failure.{Failure}
use Rattle.esql_types.specs.declared.names.Column.{Column}
use Rattle.esql_ast.specs.declared.query.Query.{Query}
use Rattle.esql_plan.specs.declared.catalog.Catalog.{Catalog}
use Rattle.esql_plan.specs.declared.plan.Plan.{Plan}
use Rattle.esql_plan.specs.declared.plan.OutColumn.{OutColumn}
use Rattle.esql_plan.specs.Values.{NumberedRow}
use Rattle.dissect_grok.specs.declared.cutter.Cutter.{Cutter}
use Rattle.plan_semantics.specs.Agrees.{Agrees}
use Rattle.plan_semantics.specs.Laws.{PlansFailBelow}
use Rattle.plan_semantics.specs.Plans.{columns_of, plan_means, shown_row}
use Rattle.plan_semantics.specs.Tables.{CatalogHeld, catalog_held}
use Rattle.plan_semantics.specs.WellFormed.{IsWellFormed}
use Rattle.query_semantics.specs.Meaning.{meaning_of, shown_under}
use Rattle.query_semantics.specs.Shapes.{shape_of}
use Rattle.query_semantics.specs.Written.{written_of}
use Rattle.warn_log.specs.Logs.{logged, empty_log, LogStands}
use Rattle.written_laws.specs.Laws.{PlansMeanQueries}

-- the plan that a query is written as, which breaks no rule, shows what the query means over all tables of its catalog
pub written_means : (text : List ℕ) (catalog : Catalog) (query : Query) (plan : Plan) → plan ≡ (written_of text catalog query).plan → shape_of text catalog query ≡ Ok (columns_of plan.output) → PlansMeanQueries
    → (held : CatalogHeld) → catalog ≡ catalog_held held → Agrees (plan_means plan held) (shown_under (columns_of plan.output) (meaning_of text held query))
written_means text catalog query plan is shape mean held of_catalog =
    subst (λ (this : Plan). Agrees (plan_means this held) (shown_under (columns_of plan.output) (meaning_of text held query))) (sym is)
    (mean text catalog held query (columns_of plan.output) of_catalog shape)

-- a log that was opened for the nodes of a well formed plan stands for what the plan fails with
pub opened_stands : (catalog : Catalog) (whole free : List (List ℕ)) (cutters : List Cutter) (plan : Plan) (held : CatalogHeld) (opened log : List (List Cause)) → IsWellFormed catalog whole free cutters plan
    → opened ≡ empty_log plan.nodes → log ≡ logged opened (plan_means plan held).failures → PlansFailBelow
    → ((nodes : ℕ) (failures : List Failure) → All (λ (failure : Failure). failure.node.0 < nodes) failures → LogStands (logged (empty_log nodes) failures) failures)
    → LogStands log (plan_means plan held).failures
opened_stands catalog whole free cutters plan held opened log formed empty noted below stands =
    let failures : List Failure = (plan_means plan held).failures in
    subst (λ (these : List (List Cause)). LogStands these failures) (sym (noted ∙ ap (λ (these : List (List Cause)). logged these failures) empty))
    (stands plan.nodes failures (below catalog whole free cutters plan formed held))

-- a row that is shown has a cell for each column
row_wide : (output : List OutColumn) (row : NumberedRow) → length (shown_row output row) ≡ length (columns_of output)
row_wide output row = length-map output (λ (out : OutColumn). row out.id.0) ∙ sym (length-map output (λ (out : OutColumn). record { name = out.name; kind = out.kind }))

-- and so has each of the rows that a plan shows
pub shown_wide : (output : List OutColumn) (columns : List Column) (rows : List NumberedRow) (shown : List (List (List Value)))
    → columns ≡ columns_of output → shown ≡ map (shown_row output) rows → All (λ (row : List (List Value)). length row ≡ length columns) shown
shown_wide output columns rows shown columns_is shown_is =
    rw (columns_is, shown_is)
    (All-map (λ (row : List (List Value)). length row ≡ length (columns_of output)) (shown_row output) rows (λ number d within. row_wide output (get_or rows number d)))
