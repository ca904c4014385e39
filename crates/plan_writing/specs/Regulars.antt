-- The regular expressions of fields, in the order in which they are written.
use Rattle.std.specs.Prelude.{List, [], ◌++◌, Option, Some, None}
use Rattle.esql_ast.specs.declared.query.Condition.{Condition}
use Rattle.esql_ast.specs.declared.query.Field.{Field}
use Rattle.esql_ast.specs.declared.query.StatsField.{StatsField}
use Rattle.row_semantics.specs.Regulars.{Regular}
use Rattle.expression_analysis.specs.Answers.{regulars_of_expr}

abbrev pub regulars_of_field : Field → List Regular
regulars_of_field field = regulars_of_expr field.expr

abbrev pub regulars_of_condition : Option Condition → List Regular
regulars_of_condition None = []
regulars_of_condition (Some condition) = regulars_of_expr condition.expr

abbrev pub regulars_of_stats : StatsField → List Regular
regulars_of_stats stats = regulars_of_field stats.field ++ regulars_of_condition stats.condition
