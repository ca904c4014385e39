use Rattle.file_laws.proofs.Paths.{columns_are_led}
use Rattle.file_laws.proofs.laws.columns_are_led.Goals as goal

pub returns : goal.returns
returns c = columns_are_led
