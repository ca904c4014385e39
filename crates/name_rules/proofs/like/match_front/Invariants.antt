use Rattle.std.proofs.Common.{length}
use denote.Text.{Utf8}
use denote.Shadow.{shadow}
use Rattle.std.specs.Str.{chars}
use Rattle.name_rules.specs.NameRules.{parts_of}
use Rattle.name_rules.specs.NameFronts.{Stood}
use Rattle.name_rules.proofs.like.match_front.Given as goal

abbrev pub invariant-loop-own : goal.invariant-loop-own
invariant-loop-own l =
    shadow (Utf8 l.pattern) × shadow (Utf8 l.name) × Stood (parts_of l.fn.pattern) (chars l.fn.name) (parts_of l.pattern) (chars l.name)

abbrev pub decreases-loop-own : goal.decreases-loop-own
decreases-loop-own l = length (chars l.pattern)
