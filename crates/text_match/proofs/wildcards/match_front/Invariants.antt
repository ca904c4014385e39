use Rattle.std.proofs.Common.{length}
use denote.Text.{Utf8}
use denote.Shadow.{shadow}
use Rattle.std.specs.Str.{chars}
use Rattle.function_rules.specs.Wildcards.{wildcards}
use Rattle.text_match.specs.Fronts.{Stood}
use Rattle.text_match.proofs.wildcards.match_front.Given as goal

abbrev pub invariant-loop-part : goal.invariant-loop-part
invariant-loop-part l =
    shadow (Utf8 l.pattern) × shadow (Utf8 l.text) × Stood (wildcards l.fn.pattern) (chars l.fn.text) (wildcards l.pattern) (chars l.text)

abbrev pub decreases-loop-part : goal.decreases-loop-part
decreases-loop-part l = length (wildcards l.pattern)
