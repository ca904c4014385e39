-- An expression whose typed form is a column reads no pattern.
use Rattle.std.proofs.Common.{◌≡◌, ℕ, [], Some, refl, ap, sym, ◌∙◌}
use Rattle.esql_types.specs.declared.places.Span.{Span}
use Rattle.esql_types.specs.declared.names.NodeId.{NodeId}
use Rattle.esql_types.specs.declared.names.ColId.{ColId}
use Rattle.esql_ast.specs.declared.expr.Expr.{Expr}
use Rattle.row_semantics.specs.Forms.{Seen, constant, named, same, applied, aggregate, refused, Reader, read_by}
use Rattle.row_semantics.specs.Typed.{Visible, Typing, typing, typing_of}
use Rattle.query_semantics.specs.Writings.{column_of_typed}
use Rattle.query_semantics.proofs.Inputs.{column_of_call}
use Rattle.query_semantics.proofs.Readings.{seen_with, read_made}

-- a typed form is a column only where no pattern is read
abbrev IsBare : Typing → Type 0
IsBare these = (visible : Visible) (whole free : ℕ) (id : ColId) → column_of_typed (these.at visible whole free) ≡ Some id → (these.whole ≡ []) × (these.free ≡ [])

record Bare : Type 0 where
  typing : Typing
  is : IsBare typing

abbrev typing_in : Bare → Typing
typing_in bare = bare.typing

seen_bare : (node : NodeId) (span : Span) (seen : Seen Bare) → IsBare (typing node span (seen_with typing_in seen))
seen_bare node span (constant values kind) visible whole free id is = (refl, refl)
seen_bare node span (named name) visible whole free id is = (refl, refl)
seen_bare node span (same part) visible whole free id is = part.reading.is visible whole free id is
seen_bare node span (applied function parts) visible whole free id is =
    let none = column_of_call ((typing node span (seen_with typing_in (applied function parts))).at visible whole free) _ _ _ refl in
    absurd cc
seen_bare node span (aggregate function star parts) visible whole free id is = (refl, refl)
seen_bare node span (refused parts rule at) visible whole free id is = (refl, refl)

abbrev bare : Reader Bare
bare node span seen = record { typing = typing node span (seen_with typing_in seen); is = seen_bare node span seen }

-- an expression whose typed form is a column has no patterns
pub columns_bare : (expr : Expr) (visible : Visible) (whole free : ℕ) (id : ColId) → column_of_typed ((typing_of expr).at visible whole free) ≡ Some id
    → ((typing_of expr).whole ≡ []) × ((typing_of expr).free ≡ [])
columns_bare expr visible whole free id is =
    let read : typing_of expr ≡ (read_by bare expr).typing = read_made Bare Typing bare typing typing_in (record { is = λ node span seen. refl }) expr in
    let none = (read_by bare expr).is visible whole free id (sym (ap (λ (these : Typing). column_of_typed (these.at visible whole free)) read) ∙ is) in
    (ap (λ (these : Typing). these.whole) read ∙ none.0, ap (λ (these : Typing). these.free) read ∙ none.1)
