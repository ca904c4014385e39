use Rattle.std.proofs.Common.{◌≡◌, map, take}
use Rattle.std.specs.BTreeMap.{get_by}
use Rattle.std.specs.Cmp.Lexicographic.{slice_cmp}
use Rattle.std.specs.Ordering.{nat_cmp}
use Rattle.esql_types.specs.declared.names.Column.{Column}
use Rattle.plan_rows.proofs.enrich.field_places.Given as goal

abbrev pub invariant-loop-field : goal.invariant-loop-field
invariant-loop-field l = l.places ≡ map (λ (field : Column). get_by (λ key. slice_cmp nat_cmp field.name key.now) l.named) (take l.field-index l.fields)
