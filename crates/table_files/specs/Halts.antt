-- Where the names of a query halt.
use Rattle.std.specs.Prelude.{ℕ, Bool, true, false, List, Option, Some, None}
use Rattle.esql_types.specs.declared.places.Span.{Span}
use Rattle.esql_ast.specs.declared.query.NameAt.{NameAt}

-- at a name that is no table's; at the name of a policy, of which a table is none; at a name that is no policy's; or at a bad
-- file, which a message names
pub data Halt : Type 0 where
  unknown : Span → Halt
  unknown_of : List ℕ → Span → Halt
  unknown_policy : Span → Halt
  bad : List ℕ → Halt

-- there is no table of the name, which stands in the query or, for a policy, at the policy's name
abbrev pub absent : Bool → NameAt → Halt
absent false name = unknown name.span
absent true name = unknown_of name.name name.span

-- the part of the query at which names halt
abbrev pub place_of : Halt → Option Span
place_of (unknown span) = Some span
place_of (unknown_of name span) = Some span
place_of (unknown_policy span) = Some span
place_of (bad message) = None
