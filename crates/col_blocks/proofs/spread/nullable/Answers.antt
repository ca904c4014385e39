use Rattle.std.proofs.Common.{◌≡◌, ℕ, ◌+◌, ◌-◌, ◌<◌, ◌≤◌, Bool, true, false, leb, eqb, List, [], ◌∷◌, ◌++◌, map, length, get_or, take, drop, refl, sym, ap, ◌∙◌, subst, arith}
use Rattle.col_blocks.specs.Stored.{values_of, kind_of}
use Rattle.col_blocks.proofs.Flat.{flat_cells, flat_fits}
use Rattle.col_blocks.proofs.spread.nullable.Goals as goal

pub returns-clause-fit : goal.returns-clause-fit
returns-clause-fit c = (c.in_ok-values.ensures.kind, flat_fits (kind_of c.args.values.now) (values_of c.args.values.now) (values_of c.in_ok-values.values) c.args.ends.now c.in_ok-valid.valid c.requires.rises c.requires.few c.in_ok-valid.ensures c.in_ok-values.ensures.values)

pub returns-clause-cells : goal.returns-clause-cells
returns-clause-cells c = flat_cells (kind_of c.args.values.now) (values_of c.args.values.now) (values_of c.in_ok-values.values) c.args.ends.now c.in_ok-valid.valid c.requires.rises c.requires.few c.in_ok-valid.ensures c.in_ok-values.ensures.values
