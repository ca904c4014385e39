use Rattle.table_files.proofs.FilesRead.{finds_over}
use Rattle.table_files.proofs.reading.find_file.Goals as goal

pub returns-in-Ok-clause-told : goal.returns-in-Ok-clause-told
returns-in-Ok-clause-told g c = finds_over (g.F.Files.holds c.args.files.now) c.args.file _ c.in-Ok.found c.as_str.ensures c.in-Ok.ensures.found
