use Rattle.std.proofs.Common.{◌≡◌, ◌+◌, length, count_by}
use Rattle.plain_functions.specs.Bytes.{begins_character}
use Rattle.plain_functions.proofs.texts.character_starts.Given as goal

abbrev pub invariant-loop-rest : goal.invariant-loop-rest
invariant-loop-rest l = l.count + count_by begins_character l.rest ≡ count_by begins_character l.bytes

abbrev pub decreases-loop-rest : goal.decreases-loop-rest
decreases-loop-rest l = length l.rest
