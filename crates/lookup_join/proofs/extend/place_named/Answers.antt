use Rattle.std.proofs.Common.{ℕ, ◌<◌, Option, length, sym, subst, ◌∙◌}
use Rattle.std.specs.Prelude.{IfSome}
use Rattle.lookup_join.proofs.Found.{numbers_below}
use Rattle.lookup_join.proofs.extend.place_named.Goals as goal

pub returns-clause-below : goal.returns-clause-below
returns-clause-below c =
    subst (λ (this : Option ℕ). IfSome this (λ place. place < length c.args.tables.now)) (sym (c.copied.ensures ∙ c.get.ensures.value ∙ c.requires c.args.name.now))
    (numbers_below c.args.tables.now c.args.name.now)
