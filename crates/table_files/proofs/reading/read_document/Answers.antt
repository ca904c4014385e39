use Rattle.std.proofs.Common.{[], ap, arith, ◌∙◌}
use Rattle.table_files.specs.Policies.{each_once}
use Rattle.table_files.specs.Reading.{ReadsDocument, policy_is}
use Rattle.table_files.proofs.Documents.{document_fault, document_many, entries_same}
use Rattle.table_files.proofs.Stopped.{says_bad}
use Rattle.table_files.proofs.reading.read_document.Goals.{else-len-left-via-then-len-left+else-len-left-2, else-len-left-via-else-len-left}
use Rattle.table_files.proofs.reading.read_document.Goals as goal

pub returns-in-Err-Bad-clause-told : goal.returns-in-Err-Bad-clause-told
returns-in-Err-Bad-clause-told c =
    says_bad [] (ReadsDocument c.args.bytes.now c.args.file.now c.args.entries) _ _ c.in_ok-bad_data-in-Err-Bad.ensures
    (document_fault c.args.bytes.now c.args.file.now _ c.args.entries c.in-Err-Bad.cause c.in-Err-Bad.field-0 c.in-Err-Bad.field-0-is c.in-Err-Bad.ensures.bad c.in_ok-mapping_message-in-Err-Bad.ensures)

pub returns-then-len-left-2-clause-told : goal.returns-then-len-left-2-clause-told
returns-then-len-left-2-clause-told c =
    let same = entries_same c.in-Ok.policy c.in_ok-tables.tables (c.in_ok-tables.ensures ∙ ap each_once c.as_slice.ensures) in
    policy_is c.in-Ok.policy c.in-Ok.ensures.ok (omega (arith, same, c.len.ensures, c.len-then-len-left.ensures, c.len-then-len-left-2.ensures, c.if-len-left.true, c.if-len-left-2.true))

pub returns-clause-told : goal.returns-clause-told
returns-clause-told c =
    let same = entries_same c.in-Ok.policy c.in_ok-tables.tables (c.in_ok-tables.ensures ∙ ap each_once c.as_slice.ensures) in
    says_bad [] (ReadsDocument c.args.bytes.now c.args.file.now c.args.entries) _ _ c.in_ok-bad_data.ensures
    (document_many c.args.bytes.now c.args.file.now _ c.args.entries c.in-Ok.policy c.in-Ok.ensures.ok
    (elim c.else-len-left.branch [
      | else-len-left-via-then-len-left+else-len-left-2 w ↦ omega (arith, same, c.requires, c.len.ensures, w.len-then-len-left.ensures, w.len-then-len-left-2.ensures, w.if-len-left.true, w.if-len-left-2.false)
      | else-len-left-via-else-len-left w ↦ omega (arith, same, c.requires, c.len.ensures, w.if-len-left.false)
    ]) c.in_ok-too_many.ensures)
