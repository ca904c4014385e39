use Rattle.std.proofs.Common.{rules}
use Rattle.std.proofs.lemmas.Cmp.{nat_list_cmp_total}
use Rattle.std.proofs.lemmas.List.Sorted.{ranks_by, answers_always}
use Rattle.ndjson_load.specs.declared.column.MappedColumn.{MappedColumn}
use Rattle.ndjson_load.specs.Mappings.{name_lt}
use Rattle.ndjson_load.proofs.mapping.sort_by_name.Goals as goal

pub returns : goal.returns
returns c = record {
  same = c.sort_unstable_by.ensures.permutation;
  order = c.sort_unstable_by.ensures.sorted name_lt (ranks_by nat_list_cmp_total (λ (m : MappedColumn). m.column.name)) (answers_always _ _ _ (λ f a r g h. search rules));
}
