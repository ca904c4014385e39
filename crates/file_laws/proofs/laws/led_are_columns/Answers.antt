use Rattle.file_laws.proofs.Paths.{led_are_columns}
use Rattle.file_laws.proofs.laws.led_are_columns.Goals as goal

pub returns : goal.returns
returns c = led_are_columns
