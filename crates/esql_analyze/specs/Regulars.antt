-- The regular expressions of a query, in the order in which they are written.
use Rattle.std.specs.Prelude.{List, [], ◌∷◌, ◌++◌, Option, Some, None}
use Rattle.std.specs.List.{flat_map}
use Rattle.esql_types.specs.declared.places.Span.{Span}
use Rattle.esql_ast.specs.declared.query.SortKey.{SortKey}
use Rattle.esql_ast.specs.declared.query.Query.{Query}
use Rattle.esql_ast.specs.declared.query.Command.{Command}
use Rattle.esql_ast.specs.declared.query.CommandKind.{CommandKind}
use Rattle.esql_ast.specs.declared.query.CommandKind.TheVariants.{Filter, Eval, Keep, Drop, Rename, Sort, Limit, Expand, Stats, Dissect, Grok, Enrich, Join}
use Rattle.esql_ast.specs.declared.query.SourceCommand.{SourceCommand}
use Rattle.esql_ast.specs.declared.query.SourceCommand.TheVariants.{Tables, OneRow}
use Rattle.dissect_grok.specs.Groks.{GrokRead, grok_of}
use Rattle.row_semantics.specs.Regulars.{Regular}
use Rattle.query_semantics.specs.AppendedShapes.{regular_of_grok}
use Rattle.expression_analysis.specs.Answers.{regulars_of_expr}
use Rattle.plan_writing.specs.Regulars.{regulars_of_field, regulars_of_stats}

abbrev pub regulars_of_key : SortKey → List Regular
regulars_of_key key = regulars_of_expr key.expr

-- the regular expression that a pattern of GROK stands for
abbrev pub regulars_of_grok : Span → Option GrokRead → List Regular
regulars_of_grok span None = []
regulars_of_grok span (Some read) = regular_of_grok span read ∷ []

abbrev pub regulars_of_kind : CommandKind → List Regular
regulars_of_kind (Filter condition) = regulars_of_expr condition
regulars_of_kind (Eval fields) = flat_map regulars_of_field fields
regulars_of_kind (Keep patterns) = []
regulars_of_kind (Drop patterns) = []
regulars_of_kind (Rename pairs) = []
regulars_of_kind (Sort keys) = flat_map regulars_of_key keys
regulars_of_kind (Limit count) = []
regulars_of_kind (Expand column) = []
regulars_of_kind (Stats fields groups) = flat_map regulars_of_stats fields ++ flat_map regulars_of_field groups
regulars_of_kind (Dissect input pattern separator) = regulars_of_expr input
regulars_of_kind (Grok input pattern) = regulars_of_expr input ++ regulars_of_grok pattern.span (grok_of pattern.text)
regulars_of_kind (Enrich policy on fields) = []
regulars_of_kind (Join table on) = []

abbrev pub regulars_of_command : Command → List Regular
regulars_of_command command = regulars_of_kind command.kind

abbrev pub regulars_of_source : SourceCommand → List Regular
regulars_of_source (Tables node span tables) = []
regulars_of_source (OneRow node span fields) = flat_map regulars_of_field fields

-- those of the source command, then those of each command in turn
abbrev pub regulars_of_query : Query → List Regular
regulars_of_query query = regulars_of_source query.source ++ flat_map regulars_of_command query.commands
