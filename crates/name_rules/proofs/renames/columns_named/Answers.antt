use Rattle.std.proofs.Common.{rules, ◌+◌, ◌∷◌, [], refl, ap, sym, ◌∙◌, arith}
use Rattle.name_rules.specs.Renames.{seen_of}
use Rattle.name_rules.proofs.NamePlaces.{placed_next}
use Rattle.name_rules.proofs.renames.columns_named.Goals as goal

pub loop-name-preserved : goal.loop-name-preserved
loop-name-preserved c = record {
  place = ap (λ place. place + 1) c.loop-name.invariant.place;
  begun = c.in_ok-renames.ensures.begun;
  seen = placed_next c.loop-name.name-index c.args.names.now c.name-item.result c.name-item.result c.loop-name.place (seen_of c.loop-name.renames) _
      (search rules) (search rules) c.loop-name.invariant.place refl c.loop-name.invariant.seen c.in_ok-renames.ensures.seen;
}
