use Rattle.std.proofs.Common.{◌≡◌, ◌+◌, length}
use denote.Text.{Utf8}
use denote.Shadow.{shadow}
use Rattle.std.specs.Str.{chars}
use Rattle.name_rules.specs.NameRules.{parts_of}
use Rattle.name_rules.specs.NameFronts.{stand_for_end}
use Rattle.name_rules.proofs.like.end_is_like.Given as goal

abbrev pub invariant-loop-pattern : goal.invariant-loop-pattern
invariant-loop-pattern l =
    shadow (Utf8 l.pattern) × shadow (Utf8 l.name)
    × (stand_for_end (parts_of l.fn.pattern) (chars l.fn.name) ≡ stand_for_end (parts_of l.pattern) (chars l.name))

abbrev pub decreases-loop-pattern : goal.decreases-loop-pattern
decreases-loop-pattern l = length (parts_of l.pattern) + length (chars l.name)
