use Rattle.std.proofs.Common.{◌≡◌, Err}
use Rattle.std.specs.BTreeMap.{get_by_text}
use Rattle.table_files.specs.Fields.{field_by, fields_by}
use Rattle.table_files.specs.Policies.{shape_of_policy}
use Rattle.table_files.proofs.Shaped.{handed_on, shape_ok, shape_bad, shape_unmatched}
use Rattle.table_files.proofs.fields.shape_of_policy.Goals as goal

pub returns-in_err-match_field-clause-bad : goal.returns-in_err-match_field-clause-bad
returns-in_err-match_field-clause-bad c =
    handed_on _ c.from_residual-in_err-match_field.result c.in_err-match_field.field-0.0 (λ cause. field_by (get_by_text c.in_ok-kinds.kinds) c.as_str.result.now ≡ Err cause)
    (λ cause. shape_of_policy c.args.findings.now.tables c.args.name.now c.args.policy.now ≡ Err cause) c.from_residual-in_err-match_field.ensures.1
    (λ cause own.
    shape_unmatched c.args.findings.now.tables c.args.tables.now c.args.name.now c.args.policy.now (get_by_text c.in_ok-kinds.kinds) c.as_str.result.now cause c.requires.once c.in_ok-kinds.ensures c.as_str.ensures own)
    c.in_err-match_field.ensures.bad

pub returns-in_err-fields-clause-bad : goal.returns-in_err-fields-clause-bad
returns-in_err-fields-clause-bad c =
    handed_on _ c.from_residual-in_err-fields.result c.in_err-fields.field-0.0 (λ cause. fields_by (get_by_text c.in_ok-kinds.kinds) c.as_slice.result.now ≡ Err cause)
    (λ cause. shape_of_policy c.args.findings.now.tables c.args.name.now c.args.policy.now ≡ Err cause) c.from_residual-in_err-fields.ensures.1
    (λ cause rest.
    shape_bad c.args.findings.now.tables c.args.tables.now c.args.name.now c.args.policy.now (get_by_text c.in_ok-kinds.kinds) c.as_str.result.now c.as_slice.result.now c.in_ok-match_field.match_field cause
    c.requires.once c.in_ok-kinds.ensures c.as_str.ensures c.as_slice.ensures c.in_ok-match_field.ensures.ok rest)
    c.in_err-fields.ensures.bad

pub returns-clause-ok : goal.returns-clause-ok
returns-clause-ok c =
    shape_ok c.args.findings.now.tables c.args.tables.now c.args.name.now c.in_ok-from_str.field-0 c.args.policy.now (get_by_text c.in_ok-kinds.kinds) c.as_str.result.now c.as_slice.result.now c.in_ok-numbers.numbers
    c.in_ok-match_field.match_field c.in_ok-fields.fields c.requires.once c.in_ok-kinds.ensures c.in_ok-from_str.ensures c.in_ok-numbers.ensures c.as_str.ensures c.as_slice.ensures c.in_ok-match_field.ensures.ok c.in_ok-fields.ensures.ok
