use Rattle.std.proofs.Common.{[]}
use Rattle.table_files.specs.Reading.{ReadsOver}
use Rattle.table_files.proofs.FilesRead.{reads_over, reads_wide}
use Rattle.table_files.proofs.Stopped.{says_bad}
use Rattle.table_files.proofs.reading.read_file.Goals as goal

pub returns-in-Ok-clause-told : goal.returns-in-Ok-clause-told
returns-in-Ok-clause-told g c =
    reads_over (g.F.Files.holds c.args.files.now) c.args.file.now c.in-Ok.bytes c.in-Ok.ensures.held c.in-Ok.ensures.within

pub returns-in_ok-bad_data-in-Err-TooLarge-clause-told : goal.returns-in_ok-bad_data-in-Err-TooLarge-clause-told
returns-in_ok-bad_data-in-Err-TooLarge-clause-told g c =
    says_bad [] (ReadsOver (g.F.Files.holds c.args.files.now) c.args.file.now) _ _ c.in_ok-bad_data-in-Err-TooLarge.ensures
    (reads_wide (g.F.Files.holds c.args.files.now) c.args.file.now _ c.in_ok-too_large-in-Err-TooLarge.ensures (c.read_whole.ensures.too_large (cc)))
