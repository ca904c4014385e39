-- What is known of the tables and policies that a query names.
use Rattle.std.specs.Prelude.{◌≡◌, Bool, true, false, List, [], ◌∷◌, ◌++◌, All, map}
use Rattle.std.specs.List.{IsDistinct, flat_map, list_any}
use Rattle.esql_ast.specs.declared.query.NameAt.{NameAt}
use Rattle.esql_ast.specs.declared.query.Query.{Query}
use Rattle.esql_ast.specs.declared.query.Command.{Command}
use Rattle.esql_ast.specs.declared.query.CommandKind.{CommandKind}
use Rattle.esql_ast.specs.declared.query.CommandKind.TheVariants.{Enrich, Join}
use Rattle.esql_ast.specs.declared.query.SourceCommand.{SourceCommand}
use Rattle.esql_ast.specs.declared.query.SourceCommand.TheVariants.{Tables, OneRow}
use Rattle.esql_ast.specs.declared.uses.SourceUse.{SourceUse}
use Rattle.esql_ast.specs.Uses.{is_use_of, source_names}

abbrev pub mention : Bool → NameAt → SourceUse
mention policy name = record { name = name; policy = policy }

-- FROM mentions its tables
abbrev pub mentions_in_source : SourceCommand → List SourceUse
mentions_in_source (Tables node span tables) = map (mention false) tables
mentions_in_source (OneRow node span fields) = []

-- ENRICH mentions a policy, LOOKUP JOIN a table
abbrev pub mentions_in_kind : CommandKind → List SourceUse
mentions_in_kind (Enrich policy on fields) = mention true policy ∷ []
mentions_in_kind (Join table on) = mention false table ∷ []
mentions_in_kind _ = []

-- each place where a query mentions a table or a policy, in written order
abbrev pub mentions : Query → List SourceUse
mentions query = mentions_in_source query.source ++ flat_map (λ (command : Command). mentions_in_kind command.kind) query.commands

-- two mentions of one name, both of a policy or both of a table
abbrev pub is_same_use : SourceUse → SourceUse → Bool
is_same_use one other = is_use_of other.name.name other.policy one

-- the use is among the mentions, and none before it is of the same table or policy
pub record IsFirstMention (uses : List SourceUse) (use_ : SourceUse) : Type 0 where
  pub before : List SourceUse
  pub behind : List SourceUse
  pub is : uses ≡ before ++ use_ ∷ behind
  pub first : list_any (is_use_of use_.name.name use_.policy) before ≡ false

-- no table and no policy is used twice
abbrev pub UsesDiffer : Query → Type 0
UsesDiffer query = IsDistinct is_same_use (source_names query)

-- each table and policy that is mentioned is used
abbrev pub MentionedAreUsed : Query → Type 0
MentionedAreUsed query = All (λ (use_ : SourceUse). list_any (is_use_of use_.name.name use_.policy) (source_names query) ≡ true) (mentions query)

-- each use stands where its table or policy is mentioned first
abbrev pub UsesAreFirst : Query → Type 0
UsesAreFirst query = All (IsFirstMention (mentions query)) (source_names query)
