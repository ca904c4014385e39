-- What a query is judged by, and what its fields are judged by, which do not look at the catalog.
use Rattle.std.specs.Prelude.{ℕ, Bool, List, []}
use Rattle.esql_plan.specs.declared.catalog.Catalog.{Catalog}
use Rattle.row_semantics.specs.Regulars.{Regular}
use Rattle.query_semantics.specs.Shapes.{Context}

abbrev pub no_catalog : Catalog
no_catalog = record { tables = []; policies = [] }

-- what a query is judged by where nothing is read from the catalog
abbrev pub over : List ℕ → (Regular → Bool) → Context
over text accepts = record { text = text; catalog = no_catalog; accepts = accepts }

-- what a query over a catalog is judged by
abbrev pub over_catalog : List ℕ → Catalog → (Regular → Bool) → Context
over_catalog text catalog accepts = record { text = text; catalog = catalog; accepts = accepts }
