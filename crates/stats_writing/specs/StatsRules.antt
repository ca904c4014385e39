-- The rules of STATS itself, field by field, once the parts of the fields break none.
use Rattle.std.specs.Prelude.{Bool, List, [], ◌∷◌, Option, None, Result, Ok}
use Rattle.esql_types.specs.declared.names.Column.{Column}
use Rattle.esql_ast.specs.declared.query.StatsField.{StatsField}
use Rattle.row_semantics.specs.Kinds.{and_then}
use Rattle.row_semantics.specs.Regulars.{Regular}
use Rattle.row_semantics.specs.Scopes.{Broken}
use Rattle.query_semantics.specs.StatsShapes.{kinds_of_field, first_broken, field_rule}
use Rattle.stats_writing.specs.declared.stats_rules.BrokenRule.{BrokenRule}

abbrev pub broken_of : BrokenRule → Broken
broken_of broken = record { rule = broken.rule; span = broken.span }

-- the rule that a field breaks
abbrev pub rule_of_field : (Regular → Bool) → List Column → StatsField → Result (Option Broken) Broken
rule_of_field accepts columns stats = and_then (kinds_of_field accepts columns stats) (λ kinds. Ok (field_rule stats kinds))

-- the first rule that fields break, in order
abbrev pub rule_of_fields : (Regular → Bool) → List Column → List StatsField → Result (Option Broken) Broken
rule_of_fields accepts columns [] = Ok None
rule_of_fields accepts columns (stats ∷ fields) =
    and_then (rule_of_field accepts columns stats) (λ first. and_then (rule_of_fields accepts columns fields) (λ later. Ok (first_broken first later)))
