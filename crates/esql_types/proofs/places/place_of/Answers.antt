use Rattle.std.proofs.Common.{◌≡◌, ◌<◌, ◌+◌, ◌==◌, ℕ, List, length, take, not, arith, ◌∙◌, ap, count_by}
use Rattle.std.specs.List.{suffix_len}
use Rattle.std.proofs.lemmas.Iterator.{YieldsList-from_chars}
use Rattle.std.proofs.lemmas.Iterator.Consumers.{YieldsList-turn, YieldsList-end}
use Rattle.std.proofs.lemmas.List.Sums.{suffix_len-le-length}
use Rattle.std.proofs.lemmas.Bool.Decides.{nat_tests}
use Rattle.std.specs.Str.{chars}
use Rattle.esql_types.proofs.Lines.{counted_more, length-chars-le, yielded_front}
use Rattle.esql_types.proofs.places.place_of.Goals as goal

pub overflow_add-column : goal.overflow_add-column
overflow_add-column c =
    let front = c.range-front.result.now in
    let turn = YieldsList-turn (YieldsList-from_chars front c.range-front.utf8 cc) c.loop-character.yielded _ c.loop-character.yielded_by _ _ c.in-Some.character c.in-Some.is c.next.ensures.steps in
    let before : length c.loop-character.yielded < length (chars front) = turn.0 in
    let least = suffix_len-le-length (λ (x : ℕ). not (x == 10)) c.loop-character.yielded in
    omega (arith, length-chars-le front c.range-front.utf8)

pub loop-character-preserved : goal.loop-character-preserved
loop-character-preserved c = let more = counted_more c.loop-character.yielded c.in-Some.character in grind (arith, nat_tests)

pub returns-clause-line : goal.returns-clause-line
returns-clause-line c =
    let all = YieldsList-end (YieldsList-from_chars c.range-front.result.now c.range-front.utf8 cc) c.loop-character.yielded _ c.loop-character.yielded_by _ _ c.in-None.is c.next.ensures.steps in
    let same : c.loop-character.yielded ≡ chars (take c.args.at c.args.text.now) = yielded_front c.args.text.now c.range-front.result.now _ c.args.at c.range-front.ensures.value all.0 in
    c.loop-character.invariant.line ∙ ap (λ (xs : List ℕ). 1 + count_by (λ x. x == 10) xs) same

pub returns-clause-column : goal.returns-clause-column
returns-clause-column c =
    let all = YieldsList-end (YieldsList-from_chars c.range-front.result.now c.range-front.utf8 cc) c.loop-character.yielded _ c.loop-character.yielded_by _ _ c.in-None.is c.next.ensures.steps in
    let same : c.loop-character.yielded ≡ chars (take c.args.at c.args.text.now) = yielded_front c.args.text.now c.range-front.result.now _ c.args.at c.range-front.ensures.value all.0 in
    c.loop-character.invariant.column ∙ ap (λ (xs : List ℕ). 1 + suffix_len (λ x. not (x == 10)) xs) same
