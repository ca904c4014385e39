use Rattle.ndjson_load.proofs.OneMapping.{no_fault}
use Rattle.ndjson_load.proofs.laws.no_mapping_fault.Goals as goal

pub returns : goal.returns
returns c = no_fault
