use Rattle.std.proofs.Common.{◌≡◌, ◌-◌, length, take}
use Rattle.std.specs.Str.{chars}
use denote.Shadow.{shadow}
use denote.Text.{Utf8}
use Rattle.plain_functions.proofs.texts.before_last.Given as goal

abbrev pub invariant-loop : goal.invariant-loop
invariant-loop l = record { is_text : shadow (Utf8 l.rest); passed : chars l.rest ≡ take (length (chars l.text) - l.counter) (chars l.text) }
