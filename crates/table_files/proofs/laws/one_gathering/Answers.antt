use Rattle.table_files.proofs.OneCatalog.{one_gathering}
use Rattle.table_files.proofs.laws.one_gathering.Goals as goal

pub returns : goal.returns
returns c = λ folder. one_gathering folder (record {
  one_mapping = c.one_mapping.ensures;
  one_mapping_fault = c.one_mapping_fault.ensures;
  no_mapping_fault = c.no_mapping_fault.ensures;
})
