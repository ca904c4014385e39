use Rattle.std.specs.BTreeMap.{get_by_text}
use Rattle.visible_columns.specs.Names.{FirstsOf}
use Rattle.visible_columns.proofs.Firsts.{firsts_seen, firsts_stand}
use Rattle.std.proofs.Common.{subst}
use Rattle.visible_columns.proofs.columns.VisibleColumns.from_seq.Goals as goal

pub invariant_of-result : goal.invariant_of-result
invariant_of-result c = firsts_stand (get_by_text c.in_ok-names.names) c.args.columns (subst (λ these. FirstsOf these (get_by_text c.in_ok-names.names)) c.as_slice.ensures c.in_ok-names.ensures)

pub returns : goal.returns
returns c = firsts_seen (get_by_text c.in_ok-names.names) c.args.columns (subst (λ these. FirstsOf these (get_by_text c.in_ok-names.names)) c.as_slice.ensures c.in_ok-names.ensures)
