use Rattle.std.proofs.Common.{◌≡◌, take, count_by}
use Rattle.plain_functions.specs.Bytes.{begins_character}
use Rattle.plain_functions.proofs.texts.few_characters.Given as goal

abbrev pub invariant-loop-byte : goal.invariant-loop-byte
invariant-loop-byte l = l.count ≡ count_by begins_character (take l.byte-index l.bytes)
