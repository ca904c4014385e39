-- The table that is made from a seed: its name, its columns and its rows.
use Rattle.std.specs.Prelude.{ℕ, List, [], ◌∷◌, codes}
use Rattle.esql_types.specs.declared.value.Kind.TheVariants.{Integer, Long, Keyword}
use Rattle.esql_plan.specs.declared.catalog.TableShape.{TableShape}
use Rattle.plan_semantics.specs.Tables.{TableHeld}
use Rattle.table_generator.specs.Rows.{generated_rows}

-- the columns stand in byte order of their names
abbrev pub generated_shape : TableShape
generated_shape = record {
  name = codes "gen";
  columns = record { name = codes "dept"; kind = Keyword } ∷ record { name = codes "id"; kind = Long } ∷ record { name = codes "pay"; kind = Integer } ∷ [];
}

abbrev pub generated_table : ℕ → ℕ → TableHeld
generated_table seed rows = record { shape = generated_shape; rows = generated_rows seed rows }
