use Rattle.std.proofs.Common.{◌≤◌, length}
use denote.Text.{Utf8}
use denote.Shadow.{shadow}
use Rattle.std.specs.Str.{chars}
use Rattle.function_rules.specs.Wildcards.{itself}
use Rattle.text_match.specs.Fronts.{SameEnds}
use Rattle.text_match.proofs.wildcards.from_first.Given as goal

abbrev pub invariant-loop-character : goal.invariant-loop-character
invariant-loop-character l =
    shadow (Utf8 l.text) × SameEnds (itself l.fn.own) (chars l.fn.text) (chars l.text) × (length (chars l.text) ≤ length (chars l.fn.text))

abbrev pub decreases-loop-character : goal.decreases-loop-character
decreases-loop-character l = length (chars l.text)
