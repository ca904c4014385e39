use Rattle.std.proofs.Common.{◌≡◌, take}
use Rattle.std.specs.BTreeMap.{get_by_text}
use Rattle.table_files.specs.Numbers.{AreKnown}
use Rattle.table_files.specs.Policies.{each_once}
use Rattle.table_files.proofs.once.each_once.Given as goal

abbrev pub invariant-loop-name : goal.invariant-loop-name
invariant-loop-name l = record {
  known : AreKnown (get_by_text l.seen) l.once;
  once : l.once ≡ each_once (take l.name-index l.names);
}
