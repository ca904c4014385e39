-- How many columns the commands of a query append, beside those of its nodes.
use Rattle.std.specs.Prelude.{ℕ, ◌+◌, ◌≤◌, List, [], ◌∷◌, length, All, Option, Some, None, IfSome}
use Rattle.esql_ast.specs.declared.query.Command.{Command}
use Rattle.esql_ast.specs.declared.query.CommandKind.{CommandKind}
use Rattle.esql_ast.specs.declared.query.CommandKind.TheVariants.{Filter, Eval, Keep, Drop, Rename, Sort, Limit, Expand, Stats, Dissect, Grok, Enrich, Join}
use Rattle.esql_ast.specs.declared.query.EnrichItem.{EnrichItem}
use Rattle.esql_ast.specs.declared.query.Query.{Query}
use Rattle.esql_plan.specs.declared.catalog.PolicyShape.{PolicyShape}
use Rattle.plan_semantics.specs.Taken.{dissect_columns, columns_in_grok}
use Rattle.query_semantics.specs.Appended.{FoundPolicy, policy_named, fields_taken}

abbrev pub fields_appended : Option FoundPolicy → Option (List EnrichItem) → ℕ
fields_appended None items = 0
fields_appended (Some policy) items = length (fields_taken policy.shape.fields items)

-- the columns that DISSECT, GROK and ENRICH append
abbrev pub appended_by : List PolicyShape → CommandKind → ℕ
appended_by policies (Filter condition) = 0
appended_by policies (Eval fields) = 0
appended_by policies (Keep patterns) = 0
appended_by policies (Drop patterns) = 0
appended_by policies (Rename pairs) = 0
appended_by policies (Sort keys) = 0
appended_by policies (Limit count) = 0
appended_by policies (Expand column) = 0
appended_by policies (Stats fields groups) = 0
appended_by policies (Dissect input pattern separator) = length (dissect_columns pattern.text separator)
appended_by policies (Grok input pattern) = length (columns_in_grok pattern.text)
appended_by policies (Enrich policy on items) = fields_appended (policy_named policies policy.name) items
appended_by policies (Join table on) = 0

abbrev pub appended_in : List PolicyShape → List Command → ℕ
appended_in policies [] = 0
appended_in policies (command ∷ commands) = appended_by policies command.kind + appended_in policies commands

-- a pattern and the items of a command are no longer than a query can be
abbrev pub IsShort : CommandKind → Type 0
IsShort (Filter condition) = Unit {0}
IsShort (Eval fields) = Unit {0}
IsShort (Keep patterns) = Unit {0}
IsShort (Drop patterns) = Unit {0}
IsShort (Rename pairs) = Unit {0}
IsShort (Sort keys) = Unit {0}
IsShort (Limit count) = Unit {0}
IsShort (Expand column) = Unit {0}
IsShort (Stats fields groups) = Unit {0}
IsShort (Dissect input pattern separator) = length pattern.text ≤ 65536
IsShort (Grok input pattern) = length pattern.text ≤ 65536
IsShort (Enrich policy on items) = IfSome items (λ (these : List EnrichItem). length these ≤ 65537)
IsShort (Join table on) = Unit {0}

-- at most 200 commands stand behind the source, each no longer than a query can be
pub record IsShortQuery (query : Query) : Type 0 where
  pub commands : length query.commands ≤ 200
  pub each : All (λ (command : Command). IsShort command.kind) query.commands
