use Rattle.std.proofs.Common.{◌≡◌, drop}
use Rattle.std.specs.Str.{chars}
use denote.Shadow.{shadow}
use denote.Text.{Utf8}
use Rattle.plain_functions.proofs.texts.behind_first.Given as goal

abbrev pub invariant-loop : goal.invariant-loop
invariant-loop l = record { is_text : shadow (Utf8 l.rest); passed : chars l.rest ≡ drop l.counter (chars l.text) }
