use Rattle.std.proofs.Common.{◌≡◌, take}
use Rattle.lookup_join.specs.Extended.{pairs_of_joins, same_join}
use Rattle.lookup_join.proofs.Seen.{Knows, compare_pairs, join_of, joins_symm, pairs_agree}
use Rattle.lookup_join.proofs.joins.pairs_of_joins.Given as goal

abbrev pub invariant-loop-join : goal.invariant-loop-join
invariant-loop-join l = record {
  kept : l.pairs ≡ pairs_of_joins (take l.join-index l.joins);
  known : Knows same_join joins_symm compare_pairs join_of pairs_agree l.seen (take l.join-index l.joins);
}
