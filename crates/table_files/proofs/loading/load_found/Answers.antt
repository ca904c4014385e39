use Rattle.std.proofs.Common.{ℕ, List, ap, option_copied, ◌∙◌}
use Rattle.table_files.specs.Catalog.{HasRows, row_file}
use Rattle.table_files.specs.declared.stop.Stop.TheVariants.{Refused}
use Rattle.table_files.specs.Found.{absent_table, name_of}
use Rattle.table_files.specs.Halts.{absent}
use Rattle.table_files.specs.Stops.{halt_line}
use Rattle.table_files.proofs.Named.{placed}
use Rattle.table_files.proofs.Stopped.{says_bad, says_refused}
use Rattle.table_files.proofs.RowsRead.{rows_some, rows_none, rows_wide, rows_bad}
use Rattle.table_files.proofs.loading.load_found.Goals as goal

pub returns-in-Ok-Some-clause-told : goal.returns-in-Ok-Some-clause-told
returns-in-Ok-Some-clause-told g c =
    let file = c.in_ok-file.ensures ∙ ap (row_file (option_copied c.args.folder)) c.as_str.ensures in
    rw c.in-Ok-Some.table-is (rows_some (option_copied c.args.folder) (g.F.Files.holds c.args.files.now) c.args.found.now _ c.in-Ok-Some.field-0 c.in-Ok-Some.table c.in-Ok-Some.field-0-is
    (c.as_str-2.ensures ∙ file) c.in-Ok-Some.ensures.loaded)

pub returns-in-Ok-None-clause-told : goal.returns-in-Ok-None-clause-told
returns-in-Ok-None-clause-told g c =
    let file = c.in_ok-file.ensures ∙ ap (row_file (option_copied c.args.folder)) c.as_str.ensures in
    let shown = ap (λ (n : List ℕ). halt_line c.args.text.now (absent c.args.found.now.policy (record { name = n; span = c.args.found.now.span }))) c.as_str-name.ensures in
    says_refused c.args.text.now (HasRows (option_copied c.args.folder) (g.F.Files.holds c.args.files.now) c.args.found.now) (absent_table c.args.found.now) c.args.found.now.span _ (c.in_ok-unknown_table-in-Ok-None.ensures ∙ ap Refused shown)
    (placed c.args.found.now.policy (name_of c.args.found.now)) c.requires
    (rows_none (option_copied c.args.folder) (g.F.Files.holds c.args.files.now) c.args.found.now _ c.in-Ok-None.field-0 c.in-Ok-None.field-0-is
    (c.as_str-2.ensures ∙ file) c.in-Ok-None.ensures.loaded)

pub returns-in-Err-TooLarge-clause-told : goal.returns-in-Err-TooLarge-clause-told
returns-in-Err-TooLarge-clause-told g c =
    let file = c.in_ok-file.ensures ∙ ap (row_file (option_copied c.args.folder)) c.as_str.ensures in
    says_bad c.args.text.now (HasRows (option_copied c.args.folder) (g.F.Files.holds c.args.files.now) c.args.found.now) _ _ c.in_ok-bad_data-in-Err-TooLarge.ensures
    (rows_wide (option_copied c.args.folder) (g.F.Files.holds c.args.files.now) c.args.found.now _ _ _ (c.as_str-2.ensures ∙ file) (c.as_str-in-Err-TooLarge.ensures ∙ file)
    c.in_ok-too_large-in-Err-TooLarge.ensures (c.load_table.ensures.too_large (cc)))

pub returns-in-Err-BadRow-clause-told : goal.returns-in-Err-BadRow-clause-told
returns-in-Err-BadRow-clause-told g c =
    let file = c.in_ok-file.ensures ∙ ap (row_file (option_copied c.args.folder)) c.as_str.ensures in
    says_bad c.args.text.now (HasRows (option_copied c.args.folder) (g.F.Files.holds c.args.files.now) c.args.found.now) _ _ c.in_ok-bad_data-in-Err-BadRow.ensures
    (rows_bad (option_copied c.args.folder) (g.F.Files.holds c.args.files.now) c.args.found.now _ _ _ _ c.in-Err-BadRow.line c.in-Err-BadRow.field c.in-Err-BadRow.cause c.in-Err-BadRow.field-0
    c.in-Err-BadRow.field-0-is (c.as_str-2.ensures ∙ file) (c.as_str-in-Err-BadRow.ensures ∙ file) c.as_str-in-Err-BadRow-2.ensures
    c.in_ok-message-in-Err-BadRow.ensures c.in-Err-BadRow.ensures.bad)
