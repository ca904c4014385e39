use Rattle.std.proofs.Common.{◌≡◌, take}
use Rattle.name_rules.specs.NameRules.{placed}
use Rattle.name_rules.specs.Renames.{IsBegun, seen_of}
use Rattle.name_rules.proofs.renames.columns_named.Given as goal

abbrev pub invariant-loop-name : goal.invariant-loop-name
invariant-loop-name l = record {
  place : l.place ≡ l.name-index;
  begun : IsBegun l.renames l.place;
  seen : seen_of l.renames ≡ placed (take l.name-index l.names);
}
