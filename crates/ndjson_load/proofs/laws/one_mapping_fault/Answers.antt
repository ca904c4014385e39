use Rattle.ndjson_load.proofs.OneMapping.{one_fault}
use Rattle.ndjson_load.proofs.laws.one_mapping_fault.Goals as goal

pub returns : goal.returns
returns c = one_fault
