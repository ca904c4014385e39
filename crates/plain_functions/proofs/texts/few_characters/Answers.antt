use Rattle.std.proofs.Common.{◌≡◌, ℕ, ◌+◌, ◌≤◌, Bool, true, false, take, count_by, length, arith}
use Rattle.std.specs.Int.{from_bool}
use Rattle.std.proofs.lemmas.List.{length-take}
use Rattle.std.proofs.lemmas.List.Sums.{count_by-le-length}
use Rattle.plain_functions.specs.Bytes.{begins_character}
use Rattle.plain_functions.proofs.texts.few_characters.Goals as goal

at_most_one : (test : Bool) → from_bool test ≤ 1
at_most_one true = omega arith
at_most_one false = omega arith

pub overflow_add-count : goal.overflow_add-count
overflow_add-count c =
    let few = count_by-le-length begins_character (take c.loop-byte.byte-index c.args.bytes.now) in
    let many = length-take c.loop-byte.byte-index c.args.bytes.now in
    let counted : c.loop-byte.count ≡ count_by begins_character (take c.loop-byte.byte-index c.args.bytes.now) = c.loop-byte.invariant in
    let one : c.from-count.result ≤ 1 = rw c.from-count.ensures (at_most_one c.begins_character.result) in
    let short : length c.args.bytes.now ≤ 255 = c.requires in
    omega arith
