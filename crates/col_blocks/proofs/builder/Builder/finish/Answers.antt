use Rattle.std.proofs.Common.{◌≡◌, ℕ, ◌+◌, ◌-◌, ◌<◌, ◌≤◌, Bool, true, false, leb, eqb, List, [], ◌∷◌, ◌++◌, map, length, get_or, take, drop, refl, sym, ap, ◌∙◌, subst, arith}
use Rattle.esql_types.specs.declared.value.Value.{Value}
use Rattle.col_blocks.specs.Building.{Building, BuilderFits}
use Rattle.col_blocks.specs.Pieces.{pieces, last_end}
use Rattle.col_blocks.specs.Stored.{values_of, kind_of, value_read}
use Rattle.col_blocks.proofs.Growth.{closed_whole}
use Rattle.col_blocks.proofs.builder.Builder.finish.Goals as goal

pub rows_of-requires-clause-whole : goal.rows_of-requires-clause-whole
rows_of-requires-clause-whole c =
    closed_whole (values_of c.self.inside.values) c.self.inside.ends.items c.self.invariant.rises (ap (λ (b : Building). b.row) c.self.view_is ∙ c.requires)
