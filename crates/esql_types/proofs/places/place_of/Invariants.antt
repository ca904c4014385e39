use Rattle.std.proofs.Common.{◌≡◌, ◌+◌, ◌==◌, not, count_by}
use Rattle.std.specs.List.{suffix_len}
use Rattle.esql_types.proofs.places.place_of.Given as goal

abbrev pub invariant-loop-character : goal.invariant-loop-character
invariant-loop-character l = record {
  line : l.line ≡ 1 + count_by (λ c. c == 10) l.yielded;
  column : l.column ≡ 1 + suffix_len (λ c. not (c == 10)) l.yielded;
}
