-- The typed form of an expression reads columns that can be seen.
use Rattle.std.proofs.Common.{ℕ, ◌+◌, true, false, cond, List, [], ◌∷◌, length, All, Some, None, refl, ap, ◌∙◌}
use Rattle.std.specs.List.{flat_map}
use Rattle.std.specs.Str.{bytes_eq}
use Rattle.std.proofs.lemmas.List.Elements.{All-nil, All-cons, All-head, All-tail, All-append, All-same}
use Rattle.esql_types.specs.declared.places.Span.{Span}
use Rattle.esql_types.specs.declared.names.NodeId.{NodeId}
use Rattle.esql_ast.specs.declared.expr.Expr.{Expr}
use Rattle.esql_plan.specs.declared.function.Function.{Function}
use Rattle.esql_plan.specs.declared.plan.OutColumn.{OutColumn}
use Rattle.esql_plan.specs.declared.typed.TypedExpr.{TypedExpr}
use Rattle.esql_plan.specs.Fits.{ReadColumn, columns_read}
use Rattle.esql_plan.proofs.TypedFolds.{columns_of_constant, columns_of_column, columns_of_call}
use Rattle.plan_semantics.specs.WellFormed.{MadeColumn, IsMadeAs}
use Rattle.row_semantics.specs.Forms.{Part, Seen, constant, named, same, applied, aggregate, refused, Reader, read_by, function_in_plan, arguments_in_plan}
use Rattle.row_semantics.specs.Typed.{Visible, Typing, visible_named, typed_null, typed_column, typed_call, kind_of_called, typed_parts, typing, typed_of}
use Rattle.query_semantics.proofs.Readings.{part_with, parts_with, seen_with, read_made}
use Rattle.query_semantics.proofs.Valued.{arguments_with}

-- a column that can be seen, or that is read, is made with its kind
abbrev pub OutIsMade : List MadeColumn → OutColumn → Type 0
OutIsMade made out = IsMadeAs made out.id out.kind

abbrev pub ReadIsMade : List MadeColumn → ReadColumn → Type 0
ReadIsMade made column = IsMadeAs made column.id column.kind

abbrev pub over : List OutColumn → Visible
over visible = record { columns = visible; calls = [] }

-- columns that are made are read alone, where these alone can be seen
abbrev ReadsMade : Typing → Type 0
ReadsMade typing = (made : List MadeColumn) (visible : List OutColumn) → All (OutIsMade made) visible → (whole free : ℕ) → All (ReadIsMade made) (columns_read (typing.at (over visible) whole free))

record Both : Type 0 where
  typing : Typing
  is : ReadsMade typing

abbrev typing_in : Both → Typing
typing_in both = both.typing

null_reads : (made : List MadeColumn) (node : NodeId) → All (ReadIsMade made) (columns_read (typed_null node))
null_reads made node = All-same (ReadIsMade made) _ _ (columns_of_constant (typed_null node) [] refl) (All-nil (ReadIsMade made))

column_reads : (made : List MadeColumn) (node : NodeId) (name : List ℕ) (visible : List OutColumn) → All (OutIsMade made) visible
    → All (ReadIsMade made) (columns_read (typed_column node (visible_named visible name)))
column_reads made node name [] all = null_reads made node
column_reads made node name (column ∷ visible) all =
    elim (bytes_eq column.name name) as (λ same. All (ReadIsMade made) (columns_read (typed_column node (cond same (Some column) (visible_named visible name))))) [
      | true ↦ All-same (ReadIsMade made) _ _ (columns_of_column (typed_column node (Some column)) column.id refl)
          (All-cons (ReadIsMade made) (record { id = column.id; kind = column.kind }) [] (All-head (OutIsMade made) column visible all) (All-nil (ReadIsMade made)))
      | false ↦ column_reads made node name visible (All-tail (OutIsMade made) column visible all)
    ]

parts_read : (made : List MadeColumn) (visible : List OutColumn) → All (OutIsMade made) visible → (parts : List (Part Both)) (whole free : ℕ)
    → All (ReadIsMade made) (flat_map columns_read (typed_parts (parts_with typing_in parts) (over visible) whole free))
parts_read made visible all [] whole free = All-nil (ReadIsMade made)
parts_read made visible all (part ∷ parts) whole free =
    let next_whole : ℕ = whole + length part.reading.typing.whole in
    let next_free : ℕ = free + length part.reading.typing.free in
    All-append (ReadIsMade made) (columns_read (part.reading.typing.at (over visible) whole free)) (flat_map columns_read (typed_parts (parts_with typing_in parts) (over visible) next_whole next_free))
    (part.reading.is made visible all whole free) (parts_read made visible all parts next_whole next_free)

applied_reads : (node : NodeId) (span : Span) (function : Function) (parts : List (Part Both)) → ReadsMade (typing node span (applied function (parts_with typing_in parts)))
applied_reads node span function parts made visible all whole free =
    let expr : TypedExpr = (typing node span (applied function (parts_with typing_in parts))).at (over visible) whole free in
    let args : List (Part Typing) = arguments_in_plan function (parts_with typing_in parts) in
    All-same (ReadIsMade made) _ _
    (columns_of_call expr (function_in_plan function (parts_with typing_in parts)) (typed_parts args (over visible) whole free) _ refl
    ∙ (λ i. flat_map columns_read (typed_parts (arguments_with (part_with typing_in) function parts i) (over visible) whole free)))
    (parts_read made visible all (arguments_in_plan function parts) whole free)

seen_reads : (node : NodeId) (span : Span) (seen : Seen Both) → ReadsMade (typing node span (seen_with typing_in seen))
seen_reads node span (constant values kind) made visible all whole free = All-same (ReadIsMade made) _ _ (columns_of_constant _ values refl) (All-nil (ReadIsMade made))
seen_reads node span (named name) made visible all whole free = column_reads made node name visible all
seen_reads node span (same part) made visible all whole free = part.reading.is made visible all whole free
seen_reads node span (applied function parts) made visible all whole free = applied_reads node span function parts made visible all whole free
seen_reads node span (aggregate function star parts) made visible all whole free =
    All-same (ReadIsMade made) _ _ (columns_of_constant (typed_call node (kind_of_called function star (parts_with typing_in parts) (over visible)) None) [] refl) (All-nil (ReadIsMade made))
seen_reads node span (refused parts rule at) made visible all whole free = null_reads made node

abbrev both : Reader Both
both node span seen = record { typing = typing node span (seen_with typing_in seen); is = seen_reads node span seen }

pub typed_reads : (expr : Expr) (made : List MadeColumn) (visible : List OutColumn) → All (OutIsMade made) visible → (whole free : ℕ)
    → All (ReadIsMade made) (columns_read (typed_of expr (over visible) whole free))
typed_reads expr made visible all whole free =
    All-same (ReadIsMade made) _ _
    (ap (λ (these : Typing). columns_read (these.at (over visible) whole free)) (read_made Both Typing both typing typing_in (record { is = λ node span seen. refl }) expr))
    ((read_by both expr).is made visible all whole free)
