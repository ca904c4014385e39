-- The value of an expression is the same where each name has the same cell and the aggregate calls have the same cells.
use Rattle.std.proofs.Common.{◌≡◌, ℕ, List, [], ◌∷◌, map, refl, ap, sym, ◌∙◌}
use Rattle.esql_types.specs.declared.places.Span.{Span}
use Rattle.esql_types.specs.declared.names.NodeId.{NodeId}
use Rattle.esql_ast.specs.declared.expr.Expr.{Expr}
use Rattle.esql_plan.specs.declared.function.Function.{Function}
use Rattle.esql_plan.specs.Values.{Valued, silent, applied as value_of_applied}
use Rattle.row_semantics.specs.Forms.{Part, Seen, constant, named, same, applied, aggregate, refused, Reader, read_by, function_in_plan, arguments_in_plan}
use Rattle.row_semantics.specs.Rows.{cell_at}
use Rattle.row_semantics.specs.Meanings.{CallCell, Given, cell_of_call, valued, value_on}
use Rattle.query_semantics.proofs.Readings.{part_with, parts_with, seen_with, read_made}
use Rattle.query_semantics.proofs.Valued.{arguments_with}

-- the same cell at each name, and the same cells of aggregate calls
pub record IsSameGiven (this that : Given) : Type 0 where
  pub cells : (name : List ℕ) → cell_at this.row name ≡ cell_at that.row name
  pub calls : this.calls ≡ that.calls

-- a value that is the same then
record Kept : Type 0 where
  value : Given → Valued
  is : (this that : Given) → IsSameGiven this that → value this ≡ value that

abbrev value_in : Kept → Given → Valued
value_in kept = kept.value

parts_kept : (parts : List (Part Kept)) (this that : Given) → IsSameGiven this that
    → map (λ (part : Part (Given → Valued)). part.reading this) (parts_with value_in parts) ≡ map (λ (part : Part (Given → Valued)). part.reading that) (parts_with value_in parts)
parts_kept [] this that alike = refl
parts_kept (part ∷ parts) this that alike = λ i. part.reading.is this that alike i ∷ parts_kept parts this that alike i

arguments_kept : (function : Function) (parts : List (Part Kept)) (this that : Given) → IsSameGiven this that
    → map (λ (part : Part (Given → Valued)). part.reading this) (arguments_in_plan function (parts_with value_in parts))
    ≡ map (λ (part : Part (Given → Valued)). part.reading that) (arguments_in_plan function (parts_with value_in parts))
arguments_kept function parts this that alike =
    let own = arguments_with (part_with value_in) function parts in
    ap (map (λ (part : Part (Given → Valued)). part.reading this)) own
    ∙ parts_kept (arguments_in_plan function parts) this that alike
    ∙ sym (ap (map (λ (part : Part (Given → Valued)). part.reading that)) own)

kept_is : (node : NodeId) (span : Span) (seen : Seen Kept) (this that : Given) → IsSameGiven this that → valued node span (seen_with value_in seen) this ≡ valued node span (seen_with value_in seen) that
kept_is node span (constant values kind) this that alike = refl
kept_is node span (named name) this that alike = ap silent (alike.cells name)
kept_is node span (same part) this that alike = part.reading.is this that alike
kept_is node span (applied function parts) this that alike =
    ap (value_of_applied (function_in_plan function (parts_with value_in parts)) node) (arguments_kept function parts this that alike)
kept_is node span (aggregate function star parts) this that alike = ap (λ (calls : List CallCell). silent (cell_of_call calls node)) alike.calls
kept_is node span (refused parts rule at) this that alike = refl

abbrev kept : Reader Kept
kept node span seen = record { value = valued node span (seen_with value_in seen); is = kept_is node span seen }

pub value_same : (expr : Expr) (this that : Given) → IsSameGiven this that → value_on expr this ≡ value_on expr that
value_same expr this that alike =
    let own = read_made Kept (Given → Valued) kept valued value_in (record { is = λ node span seen. refl }) expr in
    ap (λ (these : Given → Valued). these this) own ∙ (read_by kept expr).is this that alike ∙ sym (ap (λ (these : Given → Valued). these that) own)
