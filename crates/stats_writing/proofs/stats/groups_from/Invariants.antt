use Rattle.std.proofs.Common.{◌≡◌, ◌+◌, ◌++◌, drop}
use Rattle.query_semantics.specs.WrittenStats.{groups_from}
use Rattle.stats_writing.specs.StatsSeen.{groups_seen}
use Rattle.stats_writing.proofs.stats.groups_from.Given as goal

abbrev pub invariant-loop-input : goal.invariant-loop-input
invariant-loop-input l = record {
  groups : l.groups ++ groups_from l.next (groups_seen (drop l.input-index l.inputs)) ≡ groups_from l.number (groups_seen l.inputs);
  number : l.next ≡ l.number + l.input-index;
}
