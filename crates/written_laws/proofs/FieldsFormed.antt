-- The fields of STATS are well formed behind the step that makes the groups.
use Rattle.std.proofs.Common.{◌≡◌, ℕ, ◌+◌, ◌≤◌, ◌==◌, Bool, true, false, cond, not, List, [], ◌∷◌, filter, length, All, Option, Some, None, refl, ap, sym, subst, ◌∙◌, arith}
use Rattle.std.specs.List.{flat_map}
use Rattle.std.specs.Str.{bytes_eq}
use Rattle.std.proofs.lemmas.List.Elements.{All-nil, All-cons, All-head, All-tail, All-filter, All-push, All-same}
use Rattle.esql_types.specs.declared.value.Kind.{Kind}
use Rattle.esql_types.specs.declared.names.Column.{Column}
use Rattle.esql_types.specs.declared.names.NodeId.{NodeId}
use Rattle.esql_types.specs.declared.names.ColId.{ColId}
use Rattle.esql_ast.specs.declared.expr.Expr.{Expr}
use Rattle.esql_ast.specs.declared.query.StatsField.{StatsField}
use Rattle.esql_ast.specs.Nodes.{nodes_of_expr}
use Rattle.esql_plan.specs.declared.plan.OutColumn.{OutColumn}
use Rattle.esql_plan.specs.declared.typed.TypedExpr.{TypedExpr}
use Rattle.esql_plan.specs.Fits.{columns_read}
use Rattle.plan_semantics.specs.Plans.{columns_of}
use Rattle.plan_semantics.specs.WellFormed.{MadeColumn, IsMadeAs, steps_made}
use Rattle.row_semantics.specs.declared.call.CallColumn.{CallColumn}
use Rattle.row_semantics.specs.Typed.{Visible, call_at}
use Rattle.query_semantics.specs.Calls.{AggregateCall, calls_of}
use Rattle.query_semantics.specs.Shapes.{Context}
use Rattle.query_semantics.specs.Stats.{name_of_stats}
use Rattle.query_semantics.specs.StatsShapes.{field_scope}
use Rattle.query_semantics.specs.Writings.{Writing, column_at, put_visible, column_of_typed, input_by}
use Rattle.query_semantics.specs.WrittenStats.{call_columns, field_typed, write_typed, write_field_by, write_stats_field, write_stats_fields}
use Rattle.query_semantics.proofs.Inputs.{column_read}
use Rattle.query_semantics.proofs.Named.{eq_itself}
use Rattle.written_laws.proofs.CallsCounted.{in_calls, field_counts}
use Rattle.written_laws.proofs.CallsFormed.{AreKept, FieldJudged, calls_in_field}
use Rattle.written_laws.proofs.ColumnsTyped.{OutIsMade, ReadIsMade}
use Rattle.written_laws.proofs.ExprsFit.{expr_fits}
use Rattle.written_laws.proofs.FieldsRead.{call_kind, field_reads}
use Rattle.written_laws.proofs.GroupingFormed.{AreNumbered, numbered_kept, numbered_parts}
use Rattle.written_laws.proofs.MadeOnce.{turned}
use Rattle.written_laws.proofs.NodesCounted.{placed, one_at}
use Rattle.written_laws.proofs.StepsFormed.{Start, IsFormed, number_behind, typed_formed, typed_made, typed_kept, seen_formed}

-- the columns of calls ----------------------------------------------------------------------------------------------------------------

-- no node is twice among calls with their arguments
abbrev CallsDiffer : List AggregateCall → Type 0
CallsDiffer calls = (node : NodeId) → in_calls node calls ≤ 1

abbrev IsOtherCall : NodeId → AggregateCall → Type 0
IsOtherCall node call = call.node.0 == node.0 ≡ false

others_differ : (node : NodeId) (calls : List AggregateCall) → in_calls node calls ≤ 0 → All (IsOtherCall node) calls
others_differ node [] none = All-nil (IsOtherCall node)
others_differ node (call ∷ calls) none =
    All-cons (IsOtherCall node) call calls (by_test (call.node.0 == node.0) (omega (arith, none))) (others_differ node calls (omega (arith, none)))
  where
    by_test : (here : Bool) → cond {A = ℕ} here 1 0 ≤ 0 → here ≡ false
    by_test true few = absurd (omega (arith, few))
    by_test false few = refl

module _ (made : List MadeColumn) (visible : Visible) where
  -- the column that stands for a call among columns is made with its kind
  abbrev IsReadIn : List CallColumn → AggregateCall → Type 0
  IsReadIn among call = (found : CallColumn) → call_at among call.node ≡ Some found → ReadIsMade made (record { id = found.id; kind = call_kind visible call })

  read_behind : (first : CallColumn) (among : List CallColumn) (calls : List AggregateCall) → All (IsOtherCall first.node) calls → All (IsReadIn among) calls → All (IsReadIn (first ∷ among)) calls
  read_behind first among [] others read = All-nil (IsReadIn (first ∷ among))
  read_behind first among (call ∷ calls) others read =
      let other = turned call.node.0 first.node.0 (All-head (IsOtherCall first.node) call calls others) in
      All-cons (IsReadIn (first ∷ among)) call calls
      (λ found is. All-head (IsReadIn among) call calls read found (sym (ap (λ (here : Bool). cond here (Some first) (call_at among call.node)) other) ∙ is))
      (read_behind first among calls (All-tail (IsOtherCall first.node) call calls others) (All-tail (IsReadIn among) call calls read))

  calls_read : (columns : List Column) (number : ℕ) (calls : List AggregateCall) → columns ≡ columns_of visible.columns → CallsDiffer calls → AreNumbered columns made number calls
      → All (IsReadIn (call_columns number calls)) calls
  calls_read columns number [] shows differ are = All-nil (IsReadIn [])
  calls_read columns number (call ∷ calls) shows differ are =
      let first : CallColumn = record { node = call.node; id = column_at number } in
      let among : List CallColumn = call_columns (number + 1) calls in
      let itself : one_at call.node call.node ≡ 1 = ap (λ (b : Bool). cond {A = ℕ} b 1 0) (eq_itself call.node.0) in
      All-cons (IsReadIn (first ∷ among)) call calls
      (λ found is.
      let here : Some first ≡ Some found = sym (ap (λ (here : Bool). cond here (Some first) (call_at among call.node)) (eq_itself call.node.0)) ∙ is in
      let same : first ≡ found = cc in
      subst (λ (these : CallColumn). ReadIsMade made (record { id = these.id; kind = call_kind visible call })) same (are.0 visible shows))
      (read_behind first among calls (others_differ call.node calls (omega (arith, itself, differ call.node)))
      (calls_read columns (number + 1) calls shows (λ node. omega (arith, differ node)) are.1))

-- one more column that can be seen
pub put_made : (made : List MadeColumn) (visible : List OutColumn) (name : List ℕ) (kind : Kind) (number : ℕ) → All (OutIsMade made) visible → IsMadeAs made (column_at number) kind
    → All (OutIsMade made) (put_visible visible name kind number)
put_made made visible name kind number all there =
    let other : OutColumn → Bool = λ (column : OutColumn). not (bytes_eq column.name name) in
    All-push (OutIsMade made) (filter other visible) (record { name = name; kind = kind; id = column_at number }) (All-filter other (OutIsMade made) visible all) there

-- fields ------------------------------------------------------------------------------------------------------------------------------

-- no node is twice among those of a field
abbrev pub FieldDiffers : StatsField → Type 0
FieldDiffers stats = (node : NodeId) → placed node (nodes_of_expr stats.field.expr) ≤ 1

-- what has been written is well formed, and no column is lost
pub record KeepsFormed (made : List MadeColumn) (start : Start) (before after : Writing) : Type 0 where
  pub formed : IsFormed made start after
  pub kept : AreKept (steps_made made before.steps) (steps_made made after.steps)

module _ (made : List MadeColumn) (start : Start) (context : Context) (columns : List Column) (before : List OutColumn) (shows : columns ≡ columns_of before) where
  field_formed : (number : ℕ) (stats : StatsField) (writing : Writing) → IsFormed made start writing → FieldJudged context columns stats → FieldDiffers stats
      → AreNumbered columns (steps_made made writing.steps) number (calls_of stats.field.expr)
      → KeepsFormed made start writing (write_stats_field context.text before number stats writing)
  field_formed number stats writing formed judged differs are = by_found (column_of_typed typed) refl
    where
      expr : Expr
      expr = stats.field.expr

      visible : Visible
      visible = record { columns = before; calls = call_columns number (calls_of expr) }

      typed : TypedExpr
      typed = field_typed before number writing expr

      name : List ℕ
      name = name_of_stats context.text stats

      so_far : List MadeColumn
      so_far = steps_made made writing.steps

      reads : All (ReadIsMade so_far) (columns_read typed)
      reads =
          field_reads (ReadIsMade so_far) visible expr judged.outside
          (calls_read so_far visible columns number (calls_of expr) shows (λ node. omega (arith, field_counts node expr, differs node)) are)
          (length writing.whole) (length writing.free)

      by_found : (found : Option ColId) → column_of_typed typed ≡ found
          → KeepsFormed made start writing (record (write_field_by found writing expr typed) { visible = put_visible writing.visible name typed.kind (input_by found writing.next).0 })
      by_found (Some id) is = record {
        formed = seen_formed made start writing formed (put_visible writing.visible name typed.kind id.0)
            (put_made so_far writing.visible name typed.kind id.0 formed.columns.seen
            (All-head (ReadIsMade so_far) (record { id = id; kind = typed.kind }) [] (All-same (ReadIsMade so_far) _ _ (sym (column_read typed id is)) reads)));
        kept = λ column there. there;
      }
      by_found None is =
          let after : Writing = write_typed writing expr typed in
          let makes : IsFormed made start after = typed_formed made start writing formed expr typed (λ bounds whole free nodes. record {
            fits = expr_fits expr visible (field_scope context.accepts columns) judged.kind shows judged.is (length writing.whole) (length writing.free) bounds.whole bounds.free
                (number_behind bounds.whole writing.whole _ whole) (number_behind bounds.free writing.free _ free);
            reads = reads;
            nodes = nodes;
          }) in
          record {
            formed = seen_formed made start after makes (put_visible writing.visible name typed.kind writing.next)
                (put_made (steps_made made after.steps) writing.visible name typed.kind writing.next makes.columns.seen (typed_made made start writing formed expr typed));
            kept = typed_kept made start writing formed expr typed;
          }

  abbrev Judged : StatsField → Type 0
  Judged = FieldJudged context columns

  pub fields_formed : (number : ℕ) (fields : List StatsField) (writing : Writing) → IsFormed made start writing → All Judged fields → All FieldDiffers fields
      → AreNumbered columns (steps_made made writing.steps) number (flat_map calls_in_field fields)
      → KeepsFormed made start writing (write_stats_fields context.text before number fields writing)
  fields_formed number [] writing formed judged differ are = record { formed = formed; kept = λ column there. there }
  fields_formed number (stats ∷ fields) writing formed judged differ are =
      let next : Writing = write_stats_field context.text before number stats writing in
      let more : List AggregateCall = flat_map calls_in_field fields in
      let parts = numbered_parts columns (steps_made made writing.steps) number (calls_of stats.field.expr) more are in
      let one = field_formed number stats writing formed (All-head Judged stats fields judged) (All-head FieldDiffers stats fields differ) parts.0 in
      let rest = fields_formed (number + length (calls_of stats.field.expr)) fields next one.formed (All-tail Judged stats fields judged) (All-tail FieldDiffers stats fields differ)
      (numbered_kept columns (steps_made made writing.steps) (steps_made made next.steps) one.kept (number + length (calls_of stats.field.expr)) more parts.1) in
      record { formed = rest.formed; kept = λ column there. rest.kept column (one.kept column there) }
