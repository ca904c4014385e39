use Rattle.std.proofs.Common.{◌≡◌, sym, ap, ◌∙◌, Ok, Err}
use Rattle.std.specs.BTreeMap.{get_by_text}
use Rattle.table_files.specs.Fields.{field_by, fields_by}
use Rattle.table_files.proofs.FieldsGiven.{field_next, field_none}
use Rattle.table_files.proofs.Shaped.{handed_on}
use Rattle.table_files.proofs.fields.fields_of.Goals as goal

pub returns-in_err-field-clause-bad : goal.returns-in_err-field-clause-bad
returns-in_err-field-clause-bad c =
    handed_on _ c.from_residual.result c.in_err-field.field-0.0 (λ cause. field_by (get_by_text c.args.kinds.now) c.as_str.result.now ≡ Err cause)
    (λ cause. fields_by (get_by_text c.args.kinds.now) c.args.names.now ≡ Err cause) c.from_residual.ensures.1
    (λ cause own. field_none (get_by_text c.args.kinds.now) c.args.names.now c.loop-name.name-index c.name-item.result c.as_str.result.now c.loop-name.fields cause c.loop-name-test.true c.name-item.is c.as_str.ensures c.loop-name.invariant own)
    c.in_err-field.ensures.bad

pub loop-name-preserved : goal.loop-name-preserved
loop-name-preserved c =
    field_next (get_by_text c.args.kinds.now) c.args.names.now c.loop-name.name-index c.name-item.result c.as_str.result.now c.loop-name.fields c.in_ok-field.field c.loop-name-test.true c.name-item.is c.as_str.ensures
    c.loop-name.invariant c.in_ok-field.ensures.ok
    ∙ ap Ok (sym c.in_ok-push.ensures.ok)
