use Rattle.std.proofs.Common.{◌≡◌, map, take}
use Rattle.std.specs.List.{filter_map}
use Rattle.regex.specs.Strings.{captures_haystack, captures_span}
use Rattle.dissect_grok.specs.GrokParts.{group_text}
use Rattle.dissect_grok.proofs.groups.texts_of_each.Given as goal

abbrev pub invariant-loop-column : goal.invariant-loop-column
invariant-loop-column l = l.lists ≡ map (filter_map (group_text (captures_haystack l.captures) (captures_span l.captures))) (take l.column-index l.groups)
