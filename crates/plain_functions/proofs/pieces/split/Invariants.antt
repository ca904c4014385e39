use Rattle.std.proofs.Common.{◌≡◌, ◌++◌, length, map}
use denote.Text.{Utf8}
use denote.Shadow.{shadow}
use Rattle.function_rules.specs.Texts.{split_of}
use Rattle.plain_functions.specs.Keywords.{keyword}
use Rattle.plain_functions.proofs.pieces.split.Given as goal

abbrev pub invariant-loop-front : goal.invariant-loop-front
invariant-loop-front l =
    shadow (Utf8 l.rest) × (map keyword (split_of l.text l.delimiter) ≡ l.cell ++ map keyword (split_of l.rest l.delimiter))

abbrev pub decreases-loop-front : goal.decreases-loop-front
decreases-loop-front l = length l.rest
