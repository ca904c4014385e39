use Rattle.std.proofs.Common.{◌≡◌, option_copied, ◌∙◌}
use Rattle.std.proofs.lemmas.Result.{err_from_is_err_and}
use Rattle.esql_ast.specs.declared.query.NameAt.{NameAt}
use Rattle.esql_io.proofs.Calls.{none_yet}
use Rattle.table_files.specs.Asked.{AskedForFiles}
use Rattle.table_files.specs.Catalog.{StandsFor}
use Rattle.table_files.specs.Halts.{absent}
use Rattle.table_files.proofs.Named.{asks_mapping, asks_rows, name_bad, name_missing, name_rowless, name_table, name_unfound, name_unread, placed}
use Rattle.table_files.proofs.Stopped.{says_refused, stopped_then}
use Rattle.table_files.proofs.lookups.look_up.Goals as goal

pub returns-in_err-bytes-clause-told : goal.returns-in_err-bytes-clause-told
returns-in_err-bytes-clause-told g c =
    let p = err_from_is_err_and c.from_residual-in_err-bytes.result c.from_residual-in_err-bytes.ensures.1 in
    rw (p.1, p.2) (name_unread c.args.text.now (option_copied c.args.folder) (g.F.Files.holds c.args.files.now) c.args.policy c.args.entries (record { name = c.args.name.now; span = c.args.span }) c.as_str.result.now _
    (c.as_str.ensures ∙ c.in_ok-file.ensures) c.in_err-bytes.ensures.told)

pub returns-in_err-bytes-clause-called : goal.returns-in_err-bytes-clause-called
returns-in_err-bytes-clause-called g c =
    let p = err_from_is_err_and c.from_residual-in_err-bytes.result c.from_residual-in_err-bytes.ensures.1 in
    rw (p.1, p.2) (stopped_then (λ asked. asked ≡ c.as_str.result.now) (AskedForFiles (option_copied c.args.folder) (g.F.Files.holds c.args.files.now) c.args.name.now) _ _ _ _
    (none_yet _ _ _ _) (asks_mapping (option_copied c.args.folder) _ c.args.name.now _ (c.as_str.ensures ∙ c.in_ok-file.ensures)) c.in_err-bytes.ensures.called)

pub returns-in_default-clause-told : goal.returns-in_default-clause-told
returns-in_default-clause-told g c =
    let name : NameAt = record { name = c.args.name.now; span = c.args.span } in
    says_refused c.args.text.now (StandsFor (option_copied c.args.folder) (g.F.Files.holds c.args.files.now) c.args.policy c.args.entries name) (absent c.args.policy name) c.args.span _ c.in_ok-unknown_table.ensures
    (placed c.args.policy name) c.requires.fits
    (name_missing (option_copied c.args.folder) (g.F.Files.holds c.args.files.now) c.args.policy c.args.entries name _ _ (c.as_str.ensures ∙ c.in_ok-file.ensures) c.in_default.is c.in_ok-bytes.ensures.told)

pub returns-in_err-find_file-clause-told : goal.returns-in_err-find_file-clause-told
returns-in_err-find_file-clause-told g c =
    let p = err_from_is_err_and c.from_residual-in_err-find_file.result c.from_residual-in_err-find_file.ensures.1 in
    rw (p.1, p.2) (name_unfound c.args.text.now (option_copied c.args.folder) (g.F.Files.holds c.args.files.now) _ c.args.policy c.args.entries (record { name = c.args.name.now; span = c.args.span }) _ _
    c.in_err-find_file.ensures.told)

pub returns-in_err-find_file-clause-called : goal.returns-in_err-find_file-clause-called
returns-in_err-find_file-clause-called g c =
    let p = err_from_is_err_and c.from_residual-in_err-find_file.result c.from_residual-in_err-find_file.ensures.1 in
    rw (p.1, p.2) (stopped_then (λ asked. asked ≡ c.in_ok-row_file.field-0) (AskedForFiles (option_copied c.args.folder) (g.F.Files.holds c.args.files.now) c.args.name.now) _ _ _ _
    c.in_ok-bytes.ensures.called (asks_rows (option_copied c.args.folder) _ c.args.name.now _ _ c.in-Some.bytes _ (c.as_str.ensures ∙ c.in_ok-file.ensures) c.in_ok-row_file.ensures c.in-Some.is c.in_ok-bytes.ensures.told)
    c.in_err-find_file.ensures.called)

pub returns-then-not-branch-clause-told : goal.returns-then-not-branch-clause-told
returns-then-not-branch-clause-told g c =
    let name : NameAt = record { name = c.args.name.now; span = c.args.span } in
    says_refused c.args.text.now (StandsFor (option_copied c.args.folder) (g.F.Files.holds c.args.files.now) c.args.policy c.args.entries name) (absent c.args.policy name) c.args.span _ c.in_ok-unknown_table-2.ensures
    (placed c.args.policy name) c.requires.fits
    (name_rowless (option_copied c.args.folder) (g.F.Files.holds c.args.files.now) _ c.args.policy c.args.entries name _ _ c.in-Some.bytes _ _ c.in_ok-bytes.ensures.called.held
    (c.as_str.ensures ∙ c.in_ok-file.ensures) c.in_ok-row_file.ensures c.in-Some.is c.if-not-branch.true c.in_ok-bytes.ensures.told c.in_ok-find_file.ensures.told)

pub returns-in_err-columns-clause-told : goal.returns-in_err-columns-clause-told
returns-in_err-columns-clause-told g c =
    let p = err_from_is_err_and c.from_residual-in_err-columns.result c.from_residual-in_err-columns.ensures.1 in
    rw (p.1, p.2) (name_bad c.args.text.now (option_copied c.args.folder) (g.F.Files.holds c.args.files.now) _ c.args.policy c.args.entries (record { name = c.args.name.now; span = c.args.span }) _ _ _ c.in-Some.bytes _ _ _ _
    c.in_ok-bytes.ensures.called.held (c.as_str.ensures ∙ c.in_ok-file.ensures) c.in_ok-row_file.ensures (c.as_str-2.ensures ∙ c.in_ok-file.ensures) c.in-Some.is c.as_slice.ensures c.if-not-branch.false
    c.in_ok-bytes.ensures.told c.in_ok-find_file.ensures.told c.in_err-columns.ensures.told)

pub returns-clause-told : goal.returns-clause-told
returns-clause-told g c =
    name_table (option_copied c.args.folder) (g.F.Files.holds c.args.files.now) _ c.args.policy c.args.entries (record { name = c.args.name.now; span = c.args.span }) _ _ _ c.in-Some.bytes _ _ _ _ c.in_ok-columns.columns
    c.in_ok-bytes.ensures.called.held (c.as_str.ensures ∙ c.in_ok-file.ensures) c.in_ok-row_file.ensures c.in-Some.is c.as_slice.ensures c.if-not-branch.false c.in_ok-from_str.ensures
    c.in_ok-bytes.ensures.told c.in_ok-find_file.ensures.told c.in_ok-columns.ensures.told
