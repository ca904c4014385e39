use Rattle.std.proofs.Common.{◌≡◌, map, take}
use Rattle.regex.specs.Strings.{regex_names}
use Rattle.esql_types.specs.declared.names.Column.{Column}
use Rattle.dissect_grok.specs.GrokParts.{groups_in}
use Rattle.dissect_grok.proofs.groups.groups_of_each.Given as goal

abbrev pub invariant-loop-column : goal.invariant-loop-column
invariant-loop-column l = l.groups ≡ map (λ (column : Column). groups_in (regex_names l.regex) l.places column.name) (take l.column-index l.columns)
