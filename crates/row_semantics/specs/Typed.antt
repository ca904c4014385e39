-- The typed form of an expression, over numbered columns.
use Rattle.std.specs.Prelude.{ℕ, ◌+◌, ◌==◌, Bool, true, false, List, [], ◌∷◌, ◌++◌, map, length, Option, Some, None, if◌then◌else◌}
use Rattle.std.specs.List.{flat_map}
use Rattle.std.specs.Str.{bytes_eq}
use Rattle.esql_types.specs.declared.names.NodeId.{NodeId}
use Rattle.esql_types.specs.declared.value.Kind.{Kind}
use Rattle.esql_types.specs.declared.value.Kind.TheVariants as kind
use Rattle.esql_ast.specs.declared.expr.Expr.{Expr}
use Rattle.function_rules.specs.Found.{wrapped}
use Rattle.esql_plan.specs.declared.function.Function.{Function}
use Rattle.esql_plan.specs.declared.function.Function.TheVariants as function
use Rattle.esql_plan.specs.declared.function.AggFunction.{AggFunction}
use Rattle.esql_plan.specs.declared.plan.OutColumn.{OutColumn}
use Rattle.esql_plan.specs.declared.typed.TypedExpr.{TypedExpr, roll-TypedExpr}
use Rattle.esql_plan.specs.declared.typed.TypedForm.TheVariants as form
use Rattle.esql_plan.specs.Signatures.{kind_of_call}
use Rattle.row_semantics.specs.declared.call.CallColumn.{CallColumn}
use Rattle.row_semantics.specs.Kinds.{aggregate_kind}
use Rattle.row_semantics.specs.Forms.{Part, constant, named, same, applied, aggregate, refused, Reader, read_by, function_in_plan, arguments_in_plan}

-- what names and aggregate calls stand for: numbered columns
pub record Visible : Type 0 where
  pub columns : List OutColumn
  pub calls : List CallColumn

abbrev pub visible_named : List OutColumn → List ℕ → Option OutColumn
visible_named [] name = None
visible_named (column ∷ columns) name = if bytes_eq column.name name then Some column else visible_named columns name

abbrev pub call_at : List CallColumn → NodeId → Option CallColumn
call_at [] node = None
call_at (call ∷ calls) node = if call.node.0 == node.0 then Some call else call_at calls node

-- the typed form of an expression, by the numbers that its first pattern of each kind gets; the texts of these patterns, in order
pub record Typing : Type 0 where
  pub whole : List (List ℕ)
  pub free : List (List ℕ)
  pub at : Visible → ℕ → ℕ → TypedExpr

abbrev pub typed_null : NodeId → TypedExpr
typed_null node = roll-TypedExpr (record { node = node; kind = kind.Null; form = form.Constant [] })

abbrev pub typed_column : NodeId → Option OutColumn → TypedExpr
typed_column node (Some column) = roll-TypedExpr (record { node = node; kind = column.kind; form = form.Column column.id })
typed_column node None = typed_null node

-- an aggregate call is the column that stands for it, and null where there is none so far
abbrev pub typed_call : NodeId → Kind → Option CallColumn → TypedExpr
typed_call node kind (Some call) = roll-TypedExpr (record { node = node; kind = kind; form = form.Column call.id })
typed_call node kind None = roll-TypedExpr (record { node = node; kind = kind; form = form.Constant [] })

-- parts in turn, each with the numbers on from those of the patterns before it
abbrev pub typed_parts : List (Part Typing) → Visible → ℕ → ℕ → List TypedExpr
typed_parts [] visible whole free = []
typed_parts (part ∷ parts) visible whole free =
    part.reading.at visible whole free ∷ typed_parts parts visible (whole + length part.reading.whole) (free + length part.reading.free)

-- the text of a literal, if there is one
abbrev pub literals_of : Option (List ℕ) → List (List ℕ)
literals_of None = []
literals_of (Some text) = text ∷ []

-- the pattern that RLIKE reads, which has to match a whole text; no other function reads one
abbrev pub whole_of : {Reading : Type 0} → Function → List (Part Reading) → List (List ℕ)
whole_of function.Rlike (left ∷ pattern ∷ rest) = map wrapped (literals_of pattern.literal)
whole_of function.NotRlike (left ∷ pattern ∷ rest) = map wrapped (literals_of pattern.literal)
whole_of function parts = []

-- the pattern that REPLACE reads; no other function reads one
abbrev pub free_of : {Reading : Type 0} → Function → List (Part Reading) → List (List ℕ)
free_of function.Replace (text ∷ pattern ∷ rest) = literals_of pattern.literal
free_of function parts = []

-- the number of a function's own pattern, by the numbers that are next; most functions have none
abbrev pub pattern_number : Function → ℕ → ℕ → Option ℕ
pattern_number function.Rlike whole free = Some whole
pattern_number function.NotRlike whole free = Some whole
pattern_number function.Replace whole free = Some free
pattern_number function whole free = None

abbrev pub typed_apply : NodeId → Function → List TypedExpr → Option ℕ → TypedExpr
typed_apply node function args pattern = roll-TypedExpr (record {
  node = node;
  kind = kind_of_call function (map (λ (arg : TypedExpr). arg.kind) args);
  form = form.Apply function args pattern;
})

-- a function's patterns come behind those of its parts
abbrev pub typed_applied : NodeId → Function → Function → List (Part Typing) → List (Part Typing) → Typing
typed_applied node function written parts all = record {
  whole = flat_map (λ part. part.reading.whole) parts ++ whole_of written all;
  free = flat_map (λ part. part.reading.free) parts ++ free_of written all;
  at = λ visible whole free. typed_apply node function (typed_parts parts visible whole free)
      (pattern_number function (whole + length (flat_map (λ part. part.reading.whole) parts)) (free + length (flat_map (λ part. part.reading.free) parts)));
}

-- the kind of an aggregate by its argument; that of `*` is the kind of a count
abbrev pub kind_of_called : AggFunction → Bool → List (Part Typing) → Visible → Kind
kind_of_called function true parts visible = kind.Long
kind_of_called function false [] visible = aggregate_kind function kind.Null
kind_of_called function false (part ∷ parts) visible = aggregate_kind function (part.reading.at visible 0 0).kind

abbrev pub without_patterns : (Visible → TypedExpr) → Typing
without_patterns expr = record { whole = []; free = []; at = λ visible whole free. expr visible }

-- The typed form of an expression by its form; parentheses vanish. The patterns in an aggregate's argument are read where the
-- argument is written, not where the call stands.
abbrev pub typing : Reader Typing
typing node span (constant values kind) = without_patterns (λ visible. roll-TypedExpr (record { node = node; kind = kind; form = form.Constant values }))
typing node span (named name) = without_patterns (λ visible. typed_column node (visible_named visible.columns name))
typing node span (same part) = part.reading
typing node span (applied function parts) = typed_applied node (function_in_plan function parts) function (arguments_in_plan function parts) parts
typing node span (aggregate function star parts) = without_patterns (λ visible. typed_call node (kind_of_called function star parts visible) (call_at visible.calls node))
typing node span (refused parts rule at) = without_patterns (λ visible. typed_null node)

abbrev pub typing_of : Expr → Typing
typing_of = read_by typing

-- the typed form of an expression whose first patterns get these numbers
abbrev pub typed_of : Expr → Visible → ℕ → ℕ → TypedExpr
typed_of expr = (typing_of expr).at
