use Rattle.std.proofs.Common.{◌≡◌, map, take}
use Rattle.std.specs.Str.{bytes_eq}
use Rattle.lookup_join.specs.declared.joins.JoinAt.{JoinAt}
use Rattle.lookup_join.specs.Extended.{tables_of_joins}
use Rattle.lookup_join.proofs.Seen.{Knows, bytes_symm, compare_names, name_of, names_agree}
use Rattle.lookup_join.proofs.joins.tables_of_joins.Given as goal

abbrev pub invariant-loop-join : goal.invariant-loop-join
invariant-loop-join l = record {
  kept : l.names ≡ tables_of_joins (take l.join-index l.joins);
  known : Knows bytes_eq bytes_symm compare_names name_of names_agree l.seen (map (λ (join : JoinAt). join.table) (take l.join-index l.joins));
}
