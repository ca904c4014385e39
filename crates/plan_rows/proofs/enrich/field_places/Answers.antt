use Rattle.std.proofs.Common.{◌≡◌, [], ◌++◌, ◌∷◌, ◌∙◌, ap, arith}
use Rattle.std.specs.BTreeMap.{get_by}
use Rattle.std.specs.Cmp.Lexicographic.{slice_cmp}
use Rattle.std.specs.Ordering.{nat_cmp}
use Rattle.esql_types.specs.declared.names.Column.{Column}
use Rattle.plan_rows.proofs.ListTurns.{map_turn}
use Rattle.plan_rows.proofs.enrich.field_places.Goals as goal

pub loop-field-preserved : goal.loop-field-preserved
loop-field-preserved c =
    map_turn (λ (field : Column). get_by (λ key. slice_cmp nat_cmp field.name key.now) c.args.named.now) [] c.loop-field.places c.push.new.self c.args.fields.now c.loop-field.field-index c.field-item.result
    c.loop-field.invariant (omega arith) c.field-item.is (c.in_ok-push.ensures.ok ∙ ap (λ place. c.loop-field.places ++ place ∷ []) c.place_named.ensures)
