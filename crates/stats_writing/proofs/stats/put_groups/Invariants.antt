use Rattle.std.proofs.Common.{◌≡◌, ◌+◌, drop}
use Rattle.query_semantics.specs.WrittenStats.{put_groups}
use Rattle.stats_writing.specs.StatsSeen.{groups_seen}
use Rattle.stats_writing.proofs.stats.put_groups.Given as goal

abbrev pub invariant-loop-place : goal.invariant-loop-place
invariant-loop-place l = record {
  shown : put_groups l.text l.number (drop l.place l.groups) (groups_seen (drop l.place l.inputs)) l.visible ≡ put_groups l.text l.initial.number l.groups (groups_seen l.inputs) l.initial.visible;
  number : l.number ≡ l.initial.number + l.place;
}
