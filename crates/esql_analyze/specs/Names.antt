-- The rules that KEEP, DROP, RENAME and the patterns of GROK break, as they are told.
use Rattle.std.specs.Prelude.{◌≡◌}
use Rattle.name_rules.specs.declared.kept.NameError.{NameError}
use Rattle.name_rules.specs.declared.kept.NameError.TheVariants as pattern_error
use Rattle.name_rules.specs.declared.names.RenameError.{RenameError}
use Rattle.name_rules.specs.declared.names.RenameError.TheVariants as pair_error
use Rattle.esql_types.specs.declared.places.Span.{Span}
use Rattle.dissect_grok.specs.declared.error.GrokError.{GrokError}
use Rattle.dissect_grok.specs.declared.error.GrokError.TheVariants as grok_error
use Rattle.row_semantics.specs.declared.rule.NameRule.TheVariants as rule
use Rattle.expression_analysis.specs.declared.error.AnalyzeError.{AnalyzeError}
use Rattle.expression_analysis.specs.declared.error.AnalyzeError.TheVariants.{Broken, PatternRoom, Memory}

abbrev pub IsMemory : AnalyzeError → Type 0
IsMemory (Broken rule span) = ⊥
IsMemory (PatternRoom span) = ⊥
IsMemory (Memory error) = Unit {0}

-- a full name that is no column's is an unknown column, a pattern with `*` that meets none matches none
abbrev pub IsPatternError : NameError → AnalyzeError → Type 0
IsPatternError (pattern_error.UnknownColumn span) told = told ≡ Broken rule.UnknownColumn span
IsPatternError (pattern_error.NoMatch span) told = told ≡ Broken rule.NoMatch span
IsPatternError (pattern_error.Memory error) told = IsMemory told

abbrev pub IsPairError : RenameError → AnalyzeError → Type 0
IsPairError (pair_error.UnknownColumn span) told = told ≡ Broken rule.UnknownColumn span
IsPairError (pair_error.Memory error) told = IsMemory told

-- a pattern of GROK that is bad, and one whose regular expression is not readable or too large
abbrev pub told_of_grok : GrokError → Span → AnalyzeError
told_of_grok grok_error.Bad span = Broken rule.BadGrok span
told_of_grok grok_error.NotRead span = Broken rule.BadRegex span
told_of_grok grok_error.TooLarge span = PatternRoom span
told_of_grok (grok_error.Memory error) span = Memory error
