use Rattle.ndjson_load.proofs.OneMapping.{one_mapping}
use Rattle.ndjson_load.proofs.laws.one_mapping.Goals as goal

pub returns : goal.returns
returns c = one_mapping
