use Rattle.std.proofs.Common.{None, Some, [], ◌∷◌, ◌++◌, sym, ap, ◌∙◌, arith}
use Rattle.std.specs.BTreeMap.{get_by_text}
use Rattle.std.proofs.lemmas.Map.Text.{text_keys}
use Rattle.std.specs.List.{slice_get}
use Rattle.name_rules.proofs.RenamePlaces.{front_kept, last_here}
use Rattle.name_rules.proofs.RenameBegins.{begun_seen, known_inverse, new_inverse, new_own, one_below, one_more, own_more, IsPut}
use Rattle.name_rules.proofs.renames.add_column.Goals as goal

pub returns-in-Some-clause-begun : goal.returns-in-Some-clause-begun
returns-in-Some-clause-begun c =
    let begun = c.requires in
    let less = begun.below c.in-Some.first.now c.in-Some.first.now (begun.own c.as_str.result.now c.in-Some.first.now (sym c.in-Some.ensures.value)) in
    record {
      inverse = known_inverse c.args.renames.names _ (get_by_text c.args.renames.places) begun.inverse c.in_ok-push-2.ensures.ok;
      own = own_more c.args.renames.firsts _ (get_by_text c.args.renames.places) c.in-Some.first.now begun.own c.in_ok-push.ensures.ok;
      names = one_more c.args.renames.names _ None c.args.place begun.names c.in_ok-push-2.ensures.ok;
      firsts = one_more c.args.renames.firsts _ c.in-Some.first.now c.args.place begun.firsts c.in_ok-push.ensures.ok;
      below = one_below c.args.renames.firsts _ c.in-Some.first.now c.args.place begun.below (omega (arith, less)) c.in_ok-push.ensures.ok;
    }

pub returns-in-Some-clause-seen : goal.returns-in-Some-clause-seen
returns-in-Some-clause-seen c =
    let begun = c.requires in
    let stands = begun.inverse.stands c.as_str.result.now c.in-Some.first.now (sym c.in-Some.ensures.value) in
    begun_seen c.args.renames.names _ c.args.renames.firsts _ None c.in-Some.first.now c.args.place c.args.name.now begun.names begun.firsts begun.below
    c.in_ok-push-2.ensures.ok c.in_ok-push.ensures.ok (front_kept c.args.renames.names c.in-Some.first.now None _ stands ∙ ap (λ name. Some (Some name)) c.as_str.ensures)

pub returns-clause-begun : goal.returns-clause-begun
returns-clause-begun c =
    let begun = c.requires in
    let put : IsPut c.args.name.now c.args.place (get_by_text c.args.renames.places) (get_by_text c.insert.new.self) = grind (arith, text_keys) in
    record {
      inverse = new_inverse c.args.renames.names _ (get_by_text c.args.renames.places) (get_by_text c.insert.new.self) c.args.name.now _ c.args.place begun.inverse
          (ap (get_by_text c.args.renames.places) (sym c.as_str.ensures) ∙ sym c.in_default.ensures.value) begun.names c.in_ok-copy.ensures c.in_ok-push-4.ensures.ok put;
      own = new_own c.args.renames.firsts _ (get_by_text c.args.renames.places) (get_by_text c.insert.new.self) c.args.name.now c.args.place begun.own begun.firsts c.in_ok-push-3.ensures.ok put;
      names = one_more c.args.renames.names _ _ c.args.place begun.names c.in_ok-push-4.ensures.ok;
      firsts = one_more c.args.renames.firsts _ c.args.place c.args.place begun.firsts c.in_ok-push-3.ensures.ok;
      below = one_below c.args.renames.firsts _ c.args.place c.args.place begun.below (omega arith) c.in_ok-push-3.ensures.ok;
    }

pub returns-clause-seen : goal.returns-clause-seen
returns-clause-seen c =
    let begun = c.requires in
    begun_seen c.args.renames.names _ c.args.renames.firsts _ (Some c.args.name.now) c.args.place c.args.place c.args.name.now begun.names begun.firsts begun.below
    (c.in_ok-push-4.ensures.ok ∙ ap (λ name. c.args.renames.names ++ Some name ∷ []) c.in_ok-copy.ensures) c.in_ok-push-3.ensures.ok
    (ap (slice_get (c.args.renames.names ++ Some c.args.name.now ∷ [])) (sym begun.names) ∙ last_here c.args.renames.names (Some c.args.name.now))
