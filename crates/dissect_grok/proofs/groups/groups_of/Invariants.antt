use Rattle.std.proofs.Common.{◌≡◌, take}
use Rattle.regex.specs.Strings.{regex_names}
use Rattle.dissect_grok.specs.GrokParts.{groups_in}
use Rattle.dissect_grok.proofs.groups.groups_of.Given as goal

abbrev pub invariant-loop-number : goal.invariant-loop-number
invariant-loop-number l = l.groups ≡ groups_in (regex_names l.regex) (take l.number l.places) l.name
