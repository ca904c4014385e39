use Rattle.std.proofs.Common.{◌≡◌, ◌+◌, ap, arith, option_copied, refl, true, [], ◌∙◌}
use Rattle.std.proofs.lemmas.Result.{err_from_is_err_and}
use Rattle.esql_io.proofs.Calls.{none_yet}
use Rattle.table_files.specs.Asked.{AskedForPolicy, AskedForTable}
use Rattle.table_files.specs.Catalog.{AddsPolicy, AddsTable, policy_file}
use Rattle.table_files.specs.Halts.{unknown_policy}
use Rattle.table_files.specs.InTurn.{AskedInTurn}
use Rattle.table_files.specs.Policies.{names_at}
use Rattle.table_files.specs.Reading.{ReadsDocument, ReadsPolicy}
use Rattle.table_files.proofs.Documents.{entries_same}
use Rattle.table_files.proofs.PolicyFound.{asks_document, finding_policy, policy_asks, policy_bad, policy_fits, policy_lacks, policy_misfits, policy_missing, policy_read, policy_unread, room_for}
use Rattle.table_files.proofs.Stopped.{says_bad, says_of, says_refused, stopped_then}
use Rattle.table_files.proofs.gathering.find_policy.Goals as goal

pub returns-in_err-bytes-clause-told : goal.returns-in_err-bytes-clause-told
returns-in_err-bytes-clause-told g c =
    let file = c.in_ok-file.ensures ∙ ap (policy_file (option_copied c.args.folder)) c.as_str.ensures in
    let p = err_from_is_err_and c.from_residual-in_err-bytes.result c.from_residual-in_err-bytes.ensures.1 in
    rw (p.1, p.2) (policy_unread c.args.text.now (option_copied c.args.folder) (g.F.Files.holds c.args.files.now) c.args.findings c.args.name.now _ _ (c.as_str-2.ensures ∙ file) c.in_err-bytes.ensures.told)

pub returns-in_err-bytes-clause-called : goal.returns-in_err-bytes-clause-called
returns-in_err-bytes-clause-called g c =
    let file = c.in_ok-file.ensures ∙ ap (policy_file (option_copied c.args.folder)) c.as_str.ensures in
    let p = err_from_is_err_and c.from_residual-in_err-bytes.result c.from_residual-in_err-bytes.ensures.1 in
    rw (p.1, p.2) (stopped_then (λ asked. asked ≡ c.as_str-2.result.now) (AskedForPolicy (option_copied c.args.folder) (g.F.Files.holds c.args.files.now) c.args.findings c.args.name.now) _ _ _ _ (none_yet _ _ _ _)
    (asks_document (option_copied c.args.folder) _ c.args.findings c.args.name.now _ (c.as_str-2.ensures ∙ file)) c.in_err-bytes.ensures.called)

pub returns-in_default-clause-told : goal.returns-in_default-clause-told
returns-in_default-clause-told g c =
    let file = c.in_ok-file.ensures ∙ ap (policy_file (option_copied c.args.folder)) c.as_str.ensures in
    says_refused c.args.text.now (AddsPolicy (option_copied c.args.folder) (g.F.Files.holds c.args.files.now) c.args.findings c.args.name.now) (unknown_policy c.args.name.now.span) c.args.name.now.span _
    c.in_ok-unknown_policy.ensures refl c.requires.fits
    (policy_missing (option_copied c.args.folder) (g.F.Files.holds c.args.files.now) c.args.findings c.args.name.now _ _ (c.as_str-2.ensures ∙ file) c.in_default.is c.in_ok-bytes.ensures.told)

pub returns-in_err-policy-clause-told : goal.returns-in_err-policy-clause-told
returns-in_err-policy-clause-told g c =
    let file = c.in_ok-file.ensures ∙ ap (policy_file (option_copied c.args.folder)) c.as_str.ensures in
    let p = err_from_is_err_and c.from_residual-in_err-policy.result c.from_residual-in_err-policy.ensures.1 in
    rw (p.1, p.2) (policy_bad c.args.text.now (option_copied c.args.folder) (g.F.Files.holds c.args.files.now) c.args.findings _ c.args.name.now _ _ c.in-Some.bytes _ _ _ (c.as_str-2.ensures ∙ file) (c.as_str-3.ensures ∙ file)
    c.in-Some.is c.as_slice.ensures c.entries.ensures c.in_ok-bytes.ensures.told (says_of [] (ReadsDocument c.as_slice.result.now c.as_str-3.result.now c.entries.result) (ReadsPolicy c.as_slice.result.now c.as_str-3.result.now c.entries.result) _ (λ halt at. at) c.in_err-policy.ensures.told))

pub returns-in_err-findings-clause-told : goal.returns-in_err-findings-clause-told
returns-in_err-findings-clause-told g c =
    let file = c.in_ok-file.ensures ∙ ap (policy_file (option_copied c.args.folder)) c.as_str.ensures in
    let has = policy_read (option_copied c.args.folder) (g.F.Files.holds c.args.files.now) c.args.findings _ c.args.name.now _ _ c.in-Some.bytes _ _ c.in_ok-policy.policy (c.as_str-2.ensures ∙ file) (c.as_str-3.ensures ∙ file)
    c.in-Some.is c.as_slice.ensures c.entries.ensures c.in_ok-bytes.ensures.told c.in_ok-policy.ensures.told in
    let same = entries_same c.in_ok-policy.policy c.in_ok-policy.tables c.in_ok-policy.ensures.once in
    let p = err_from_is_err_and c.from_residual-in_err-findings.result c.from_residual-in_err-findings.ensures.1 in
    rw (p.1, p.2) (policy_lacks c.args.text.now (option_copied c.args.folder) (g.F.Files.holds c.args.files.now) _ _ c.args.findings c.args.name.now _ c.in_ok-policy.policy _ c.in_ok-bytes.ensures.called.held
    (omega (arith, same, c.len.ensures, c.len-2.ensures)) (c.as_slice-2.ensures ∙ c.in_ok-policy.ensures.once) has c.in_err-findings.ensures.told)

pub returns-in_err-findings-clause-called : goal.returns-in_err-findings-clause-called
returns-in_err-findings-clause-called g c =
    let file = c.in_ok-file.ensures ∙ ap (policy_file (option_copied c.args.folder)) c.as_str.ensures in
    let has = policy_read (option_copied c.args.folder) (g.F.Files.holds c.args.files.now) c.args.findings _ c.args.name.now _ _ c.in-Some.bytes _ _ c.in_ok-policy.policy (c.as_str-2.ensures ∙ file) (c.as_str-3.ensures ∙ file)
    c.in-Some.is c.as_slice.ensures c.entries.ensures c.in_ok-bytes.ensures.told c.in_ok-policy.ensures.told in
    let same = entries_same c.in_ok-policy.policy c.in_ok-policy.tables c.in_ok-policy.ensures.once in
    let p = err_from_is_err_and c.from_residual-in_err-findings.result c.from_residual-in_err-findings.ensures.1 in
    rw (p.1, p.2) (stopped_then
    (AskedInTurn (AddsTable (option_copied c.args.folder) (g.F.Files.holds c.read_file.new.files) true (1 + c.len.result + c.len-2.result)) (AskedForTable (option_copied c.args.folder) (g.F.Files.holds c.read_file.new.files)) c.args.findings
    (names_at c.args.name.now.span c.as_slice-2.result.now))
    (AskedForPolicy (option_copied c.args.folder) (g.F.Files.holds c.args.files.now) c.args.findings c.args.name.now) _ _ _ _ c.in_ok-bytes.ensures.called
    (policy_asks (option_copied c.args.folder) (g.F.Files.holds c.args.files.now) (g.F.Files.holds c.read_file.new.files) (1 + c.len.result + c.len-2.result) c.args.findings c.args.name.now c.as_slice-2.result.now c.in_ok-policy.policy c.in_ok-bytes.ensures.called.held
    (omega (arith, same, c.len.ensures, c.len-2.ensures)) (c.as_slice-2.ensures ∙ c.in_ok-policy.ensures.once) has)
    c.in_err-findings.ensures.called)

pub with_policy-requires : goal.with_policy-requires
with_policy-requires g c =
    let same = entries_same c.in_ok-policy.policy c.in_ok-policy.tables c.in_ok-policy.ensures.once in
    room_for c.in_ok-findings.findings (1 + c.len.result + c.len-2.result) c.as_str-4.result.now c.in_ok-policy.policy c.in-Ok.shape (omega (arith, same, c.len.ensures, c.len-2.ensures)) c.in-Ok.ensures.ok c.in_ok-findings.ensures.room

pub returns-in-Ok-clause-told : goal.returns-in-Ok-clause-told
returns-in-Ok-clause-told g c =
    let file = c.in_ok-file.ensures ∙ ap (policy_file (option_copied c.args.folder)) c.as_str.ensures in
    let has = policy_read (option_copied c.args.folder) (g.F.Files.holds c.args.files.now) c.args.findings _ c.args.name.now _ _ c.in-Some.bytes _ _ c.in_ok-policy.policy (c.as_str-2.ensures ∙ file) (c.as_str-3.ensures ∙ file)
    c.in-Some.is c.as_slice.ensures c.entries.ensures c.in_ok-bytes.ensures.told c.in_ok-policy.ensures.told in
    let same = entries_same c.in_ok-policy.policy c.in_ok-policy.tables c.in_ok-policy.ensures.once in
    policy_fits (option_copied c.args.folder) (g.F.Files.holds c.args.files.now) _ _ c.args.findings c.in_ok-findings.findings _ c.args.name.now c.as_str-4.result.now _ c.in_ok-policy.policy c.in-Ok.shape c.in_ok-bytes.ensures.called.held
    (omega (arith, same, c.len.ensures, c.len-2.ensures)) (c.as_slice-2.ensures ∙ c.in_ok-policy.ensures.once) has c.in_ok-findings.ensures.told c.as_str-4.ensures c.in-Ok.ensures.ok c.in_ok-with_policy-in-Ok.ensures

pub returns-in-Ok-clause-finding : goal.returns-in-Ok-clause-finding
returns-in-Ok-clause-finding g c =
    let same = entries_same c.in_ok-policy.policy c.in_ok-policy.tables c.in_ok-policy.ensures.once in
    finding_policy c.in_ok-findings.findings _ (1 + c.len.result + c.len-2.result) c.as_str-4.result.now c.as_slice-2.result.now c.in_ok-policy.policy c.in-Ok.shape c.in_ok-with_policy-in-Ok.ensures c.in_ok-findings.ensures.finding
    (omega (arith, same, c.len.ensures, c.len-2.ensures)) (c.as_slice-2.ensures ∙ c.in_ok-policy.ensures.once) c.in_ok-findings.ensures.all c.in-Ok.ensures.ok c.in_ok-findings.ensures.room

pub returns-in-Err-Bad-clause-told : goal.returns-in-Err-Bad-clause-told
returns-in-Err-Bad-clause-told g c =
    let file = c.in_ok-file.ensures ∙ ap (policy_file (option_copied c.args.folder)) c.as_str.ensures in
    let has = policy_read (option_copied c.args.folder) (g.F.Files.holds c.args.files.now) c.args.findings _ c.args.name.now _ _ c.in-Some.bytes _ _ c.in_ok-policy.policy (c.as_str-2.ensures ∙ file) (c.as_str-3.ensures ∙ file)
    c.in-Some.is c.as_slice.ensures c.entries.ensures c.in_ok-bytes.ensures.told c.in_ok-policy.ensures.told in
    let same = entries_same c.in_ok-policy.policy c.in_ok-policy.tables c.in_ok-policy.ensures.once in
    says_bad c.args.text.now (AddsPolicy (option_copied c.args.folder) (g.F.Files.holds c.args.files.now) c.args.findings c.args.name.now) _ _ c.in_ok-bad_data-in-Err-Bad.ensures
    (policy_misfits (option_copied c.args.folder) (g.F.Files.holds c.args.files.now) _ _ c.args.findings c.in_ok-findings.findings c.args.name.now _ c.as_str-4.result.now _ _ c.in_ok-policy.policy c.in-Err-Bad.cause c.in-Err-Bad.field-0
    c.in_ok-bytes.ensures.called.held (omega (arith, same, c.len.ensures, c.len-2.ensures)) (c.as_slice-2.ensures ∙ c.in_ok-policy.ensures.once) has c.in_ok-findings.ensures.told c.as_str-4.ensures c.in-Err-Bad.field-0-is c.in-Err-Bad.ensures.bad
    (c.as_str-in-Err-Bad.ensures ∙ file) c.in_ok-mapping_message-in-Err-Bad.ensures)
