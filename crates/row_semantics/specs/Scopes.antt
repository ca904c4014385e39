-- What the names of an expression stand for where it stands.
use Rattle.std.specs.Prelude.{ℕ, Bool, List, [], ◌∷◌, Option, Some, None, if◌then◌else◌}
use Rattle.std.specs.Str.{bytes_eq}
use Rattle.esql_types.specs.declared.places.Span.{Span}
use Rattle.esql_types.specs.declared.names.Column.{Column}
use Rattle.row_semantics.specs.declared.rule.NameRule.{NameRule}
use Rattle.row_semantics.specs.Regulars.{Regular}

-- a broken rule and its place
pub record Broken : Type 0 where
  pub rule : NameRule
  pub span : Span

-- where an expression stands: in a field of STATS outside its aggregates, where they may stand, or elsewhere
pub data Standing : Type 0 where
  elsewhere : Standing
  in_field : Standing

-- What an expression is judged by: the columns there, where it stands, and which regular expressions are accepted.
pub record Scope : Type 0 where
  pub columns : List Column
  pub standing : Standing
  pub accepts : Regular → Bool

-- the first column of a name
abbrev pub column_named : List Column → List ℕ → Option Column
column_named [] name = None
column_named (column ∷ columns) name = if bytes_eq column.name name then Some column else column_named columns name

-- the scope within an aggregate, where no other may stand
abbrev pub within_aggregate : Scope → Scope
within_aggregate scope = record scope { standing = elsewhere }
