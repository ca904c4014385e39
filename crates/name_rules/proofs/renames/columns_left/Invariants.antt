use Rattle.std.proofs.Common.{◌≡◌, ◌++◌, drop}
use Rattle.name_rules.specs.Renames.{renames_seen, seen_of}
use Rattle.name_rules.proofs.renames.columns_left.Given as goal

abbrev pub invariant-loop-first : goal.invariant-loop-first
invariant-loop-first l = record {
  place : l.place ≡ l.first-index;
  left : l.columns ++ renames_seen l.renames.names l.place (drop l.first-index l.first-items) ≡ seen_of l.fn.renames;
}
