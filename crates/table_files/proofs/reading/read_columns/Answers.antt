use Rattle.std.proofs.Common.{[], arith}
use Rattle.table_files.specs.Reading.{ReadsColumns, columns_are}
use Rattle.table_files.proofs.Documents.{columns_fault, columns_many}
use Rattle.table_files.proofs.Stopped.{says_bad}
use Rattle.table_files.proofs.reading.read_columns.Goals as goal

pub returns-in-Err-Bad-clause-told : goal.returns-in-Err-Bad-clause-told
returns-in-Err-Bad-clause-told c =
    says_bad [] (ReadsColumns c.args.bytes.now c.args.file.now c.args.entries) _ _ c.in_ok-bad_data-in-Err-Bad.ensures
    (columns_fault c.args.bytes.now c.args.file.now _ c.args.entries c.in-Err-Bad.cause c.in-Err-Bad.field-0 c.in-Err-Bad.field-0-is c.in-Err-Bad.ensures.bad c.in_ok-mapping_message-in-Err-Bad.ensures)

pub returns-then-len-entries-clause-told : goal.returns-then-len-entries-clause-told
returns-then-len-entries-clause-told c = columns_are c.in-Ok.columns c.in-Ok.ensures.ok (omega (arith, c.if-len-entries.true, c.len.ensures))

pub returns-clause-told : goal.returns-clause-told
returns-clause-told c =
    says_bad [] (ReadsColumns c.args.bytes.now c.args.file.now c.args.entries) _ _ c.in_ok-bad_data.ensures
    (columns_many c.args.bytes.now c.args.file.now _ c.args.entries c.in-Ok.columns c.in-Ok.ensures.ok (omega (arith, c.if-len-entries.false, c.len.ensures, c.requires)) c.in_ok-too_many.ensures)
