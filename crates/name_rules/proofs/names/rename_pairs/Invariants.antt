use Rattle.std.proofs.Common.{◌≡◌, fold, drop}
use Rattle.name_rules.specs.NameRules.{with_pair, renamings, first_missing_of, first_missing}
use Rattle.name_rules.specs.Renames.{AreRenames, seen_of}
use Rattle.name_rules.proofs.names.rename_pairs.Given as goal

abbrev pub invariant-loop-pair : goal.invariant-loop-pair
invariant-loop-pair l = record {
  renames : AreRenames l.renames;
  renamed : fold with_pair (seen_of l.renames) (drop l.pair-index l.pair-items) ≡ renamings l.fn.names l.fn.pairs;
  missing : first_missing_of (seen_of l.renames) (drop l.pair-index l.pair-items) ≡ first_missing l.fn.names l.fn.pairs;
}
