use Rattle.std.proofs.Common.{◌≡◌, take}
use Rattle.std.specs.List.{filter_map}
use Rattle.regex.specs.Strings.{captures_haystack, captures_span}
use Rattle.dissect_grok.specs.GrokParts.{group_text}
use Rattle.dissect_grok.proofs.groups.texts_of.Given as goal

abbrev pub invariant-loop-group : goal.invariant-loop-group
invariant-loop-group l = l.texts ≡ filter_map (group_text (captures_haystack l.captures) (captures_span l.captures)) (take l.group-index l.groups)
