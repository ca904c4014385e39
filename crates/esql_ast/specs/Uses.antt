-- The tables and policies that a query names.
use Rattle.std.specs.Prelude.{ℕ, Bool, true, false, ◌&&◌, not, List, [], ◌∷◌, ◌++◌, fold, if◌then◌else◌}
use Rattle.std.specs.List.{list_any}
use Rattle.std.specs.Str.{bytes_eq}
use Rattle.esql_ast.specs.declared.query.NameAt.{NameAt}
use Rattle.esql_ast.specs.declared.query.Query.{Query}
use Rattle.esql_ast.specs.declared.query.Command.{Command}
use Rattle.esql_ast.specs.declared.query.CommandKind.{CommandKind}
use Rattle.esql_ast.specs.declared.query.CommandKind.TheVariants.{Enrich, Join}
use Rattle.esql_ast.specs.declared.query.SourceCommand.{SourceCommand}
use Rattle.esql_ast.specs.declared.query.SourceCommand.TheVariants.{Tables, OneRow}
use Rattle.esql_ast.specs.declared.uses.SourceUse.{SourceUse}

abbrev pub same_bool : Bool → Bool → Bool
same_bool true other = other
same_bool false other = not other

-- the use is of the same name, and of a policy as the other or of a table
abbrev pub is_use_of : List ℕ → Bool → SourceUse → Bool
is_use_of name policy use_ = bytes_eq use_.name.name name && same_bool use_.policy policy

-- a name counts at its first place alone
abbrev pub with_use : Bool → List SourceUse → NameAt → List SourceUse
with_use policy uses name = if list_any (is_use_of name.name policy) uses then uses else uses ++ record { name = name; policy = policy } ∷ []

-- FROM names its tables
abbrev pub uses_in_source : SourceCommand → List SourceUse
uses_in_source (Tables node span tables) = fold (with_use false) [] tables
uses_in_source (OneRow node span fields) = []

-- ENRICH names a policy, LOOKUP JOIN a table
abbrev pub with_kind : List SourceUse → CommandKind → List SourceUse
with_kind uses (Enrich policy on fields) = with_use true uses policy
with_kind uses (Join table on) = with_use false uses table
with_kind uses _ = uses

abbrev pub with_command : List SourceUse → Command → List SourceUse
with_command uses command = with_kind uses command.kind

-- each table and policy once, at its first place, in written order
abbrev pub source_names : Query → List SourceUse
source_names query = fold with_command (uses_in_source query.source) query.commands
