-- What steps are run over.
use Rattle.plan_semantics.specs.Tables.{CatalogHeld}
use Rattle.plan_semantics.specs.WellFormed.{Bounds}
use Rattle.plan_rows.specs.declared.run.Setting.{Setting}
use Rattle.plan_rows.specs.Held.{tables_held}

-- its catalog, patterns and cutters; no number of columns or of nodes bounds what can be run
abbrev pub bounds_over : Setting → Bounds
bounds_over setting = record {
  catalog = setting.catalog.now;
  whole = setting.patterns.now.whole;
  free = setting.patterns.now.free;
  cutters = setting.cutters.now;
  columns = 0;
  nodes = 0;
}

-- the catalog with the rows of its tables
abbrev pub held_by : Setting → CatalogHeld
held_by setting = tables_held setting.catalog.now setting.tables.now
