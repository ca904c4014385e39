-- A query that can be answered: its plan for a catalog, with the patterns that the plan reads.
use Rattle.std.specs.Prelude.{◌≡◌, ℕ, List}
use Rattle.esql_ast.specs.declared.query.Query.{Query}
use Rattle.esql_plan.specs.declared.catalog.Catalog.{Catalog}
use Rattle.esql_plan.specs.declared.plan.Plan.{Plan}
use Rattle.plan_semantics.specs.Agrees.{Agrees}
use Rattle.plan_semantics.specs.Plans.{columns_of, plan_means}
use Rattle.dissect_grok.specs.declared.cutter.Cutter.{Cutter}
use Rattle.plan_semantics.specs.Tables.{CatalogHeld, catalog_held}
use Rattle.query_semantics.specs.Meaning.{meaning_of, shown_under}
use Rattle.query_semantics.specs.Written.{Written, written_of}

-- a plan for a catalog, the texts of its patterns, those that are matched against whole texts and those that are searched for,
-- and its cutters
pub record PreparedSeen : Type 0 where
  pub catalog : Catalog
  pub plan : Plan
  pub whole : List (List ℕ)
  pub free : List (List ℕ)
  pub cutters : List Cutter

abbrev pub prepared_by : Catalog → Written → PreparedSeen
prepared_by catalog written = record { catalog = catalog; plan = written.plan; whole = written.whole; free = written.free; cutters = written.cutters }

-- the plan that a query is written as
abbrev pub prepared_of : List ℕ → Catalog → Query → PreparedSeen
prepared_of text catalog query = prepared_by catalog (written_of text catalog query)

-- whatever the tables of its catalog hold, the plan shows what the query means
abbrev pub MeansQuery : List ℕ → Query → PreparedSeen → Type 0
MeansQuery text query prepared = (held : CatalogHeld) → prepared.catalog ≡ catalog_held held
    → Agrees (plan_means prepared.plan held) (shown_under (columns_of prepared.plan.output) (meaning_of text held query))
