-- Each command writes steps that are well formed over the columns that are made before them.
use Rattle.std.proofs.Common.{◌≡◌, ℕ, ◌+◌, ◌≤◌, ◌<◌, Bool, true, false, cond, not, List, [], ◌∷◌, ◌++◌, map, filter, length, All, Contains, Option, Some, None, Ok, Err, refl, ap, sym, subst, ◌∙◌, arith}
use Rattle.std.specs.List.{flat_map}
use Rattle.std.specs.Str.{bytes_eq}
use Rattle.std.proofs.lemmas.Grind.{flat_map-append}
use Rattle.std.proofs.lemmas.List.Elements.{All-nil, All-cons, All-head, All-tail, All-filter, All-push, All-same}
use Rattle.esql_types.proofs.Lists.{All-front, All-back}
use Rattle.esql_types.specs.declared.value.Kind.{Kind}
use Rattle.esql_types.specs.declared.value.Kind.TheVariants as kind
use Rattle.esql_types.specs.declared.names.Column.{Column}
use Rattle.esql_types.specs.declared.names.NodeId.{NodeId}
use Rattle.esql_types.specs.declared.names.ColId.{ColId}
use Rattle.esql_ast.specs.declared.expr.Expr.{Expr}
use Rattle.esql_ast.specs.declared.query.Field.{Field}
use Rattle.esql_ast.specs.declared.query.SortKey.{SortKey}
use Rattle.esql_plan.specs.declared.catalog.Catalog.{Catalog}
use Rattle.esql_plan.specs.declared.plan.OutColumn.{OutColumn}
use Rattle.esql_plan.specs.declared.step.PlanKey.{PlanKey}
use Rattle.esql_plan.specs.declared.step.Step.{Step}
use Rattle.esql_plan.specs.declared.step.Step.TheVariants as step
use Rattle.esql_plan.specs.declared.typed.TypedExpr.{TypedExpr}
use Rattle.esql_plan.specs.Fits.{columns_read}
use Rattle.esql_plan.specs.Signatures.{is_kind}
use Rattle.plan_semantics.specs.WellFormed.{MadeColumn, made_as, IsMadeAs, IsMade, kind_made, step_made, steps_made, nodes_of, step_nodes, Bounds, ExprStands, StepStands, StepsStand}
use Rattle.row_semantics.specs.Scopes.{Broken}
use Rattle.row_semantics.specs.Kinds.{kind_or_rule}
use Rattle.row_semantics.specs.Fields.{name_of_field}
use Rattle.row_semantics.specs.Columns.{put_column, HaveDistinctNames, names_of}
use Rattle.row_semantics.specs.Typed.{visible_named, typing_of}
use Rattle.query_semantics.specs.Shapes.{Context, Shape, scope_over, shape_of_field, shape_of_fields, shape_of_condition, shape_of_keys}
use Rattle.query_semantics.specs.Writings.{Writing, column_at, typed_in, visible_names, put_visible, column_of_typed, write_input_by, write_input, input_by, input_of}
use Rattle.query_semantics.specs.WrittenStats.{write_typed}
use Rattle.query_semantics.specs.Written.{write_field, write_fields, write_condition, write_limit, write_keys, keys_in_plan, write_sort, renumbered, write_expand_of}
use Rattle.query_semantics.proofs.Kinded.{found_of, expr_kinded}
use Rattle.query_semantics.proofs.Distinct.{AreDistinct}
use Rattle.query_semantics.proofs.Inputs.{column_read}
use Rattle.query_semantics.proofs.Named.{names_of-columns}
use Rattle.written_laws.proofs.Inputs.{write_inputs}
use Rattle.written_laws.proofs.Commands.{expr_of_key}
use Rattle.written_laws.proofs.Shown.{Shows, field_shows, input_shows}
use Rattle.written_laws.proofs.Numbers.{HasAt, at-append}
use Rattle.written_laws.proofs.ExprsFit.{expr_fits}
use Rattle.written_laws.proofs.ColumnsTyped.{OutIsMade, ReadIsMade, over, typed_reads}
use Rattle.written_laws.proofs.MadeOnce.{AreMade, made_first, made_later, is_made, made_other, made_next, HasKindIf, named_made, named_kinds, renumbered_made}

abbrev pub IsNodeBelow : ℕ → NodeId → Type 0
IsNodeBelow nodes node = node.0 < nodes

-- what a plan begins with: its catalog, and as many columns as its source makes
pub record Start : Type 0 where
  pub catalog : Catalog
  pub columns : ℕ

-- what has been written is within bounds
pub record IsWithin (start : Start) (bounds : Bounds) (writing : Writing) : Type 0 where
  pub catalog : bounds.catalog ≡ start.catalog
  pub whole : HasAt bounds.whole 0 writing.whole
  pub free : HasAt bounds.free 0 writing.free
  pub cutters : HasAt bounds.cutters 0 writing.cutters
  pub next : writing.next ≤ bounds.columns
  pub nodes : All (IsNodeBelow bounds.nodes) (flat_map step_nodes writing.steps)

-- what has been written is well formed over the columns that the source makes
pub record IsFormed (made : List MadeColumn) (start : Start) (writing : Writing) : Type 0 where
  pub columns : AreMade (steps_made made writing.steps) writing.next writing.visible
  pub later : start.columns ≤ writing.next
  pub stand : (bounds : Bounds) → IsWithin start bounds writing → StepsStand bounds [] made writing.steps

-- a step at the end -----------------------------------------------------------------------------------------------------------

pub steps_made-push : (made : List MadeColumn) (steps : List Step) (last : Step) → steps_made made (steps ++ last ∷ []) ≡ step_made (steps_made made steps) last
steps_made-push made [] last = refl
steps_made-push made (first ∷ steps) last = steps_made-push (step_made made first) steps last

pub steps_stand-push : (bounds : Bounds) (made : List MadeColumn) (steps : List Step) (last : Step) → StepsStand bounds [] made steps → StepStands bounds (steps_made made steps) last
    → StepsStand bounds [] made (steps ++ last ∷ [])
steps_stand-push bounds made [] last stand own = (own, All-nil (OutIsMade (step_made made last)))
steps_stand-push bounds made (first ∷ steps) last stand own = (stand.0, steps_stand-push bounds (step_made made first) steps last stand.1 own)

-- in the end these columns are shown
pub steps_show : (bounds : Bounds) (output : List OutColumn) (made : List MadeColumn) (steps : List Step) → StepsStand bounds [] made steps → All (OutIsMade (steps_made made steps)) output
    → StepsStand bounds output made steps
steps_show bounds output made [] stand all = all
steps_show bounds output made (step ∷ steps) stand all = (stand.0, steps_show bounds output (step_made made step) steps stand.1 all)

pub number_behind : {Item : Type 0} (all these those : List Item) → HasAt all 0 (these ++ those) → HasAt all (length these) those
number_behind all these those at = subst (λ (n : ℕ). HasAt all n those) (same (length these)) (at-append all 0 these those at).1
  where
    same : (n : ℕ) → 0 + n ≡ n
    same n = omega arith

module _ (made : List MadeColumn) (start : Start) (writing : Writing) (formed : IsFormed made start writing) where
  abbrev so_far : List MadeColumn
  so_far = steps_made made writing.steps

  -- the nodes of the steps before and of a step at the end
  pub split_nodes : (nodes : ℕ) (last : Step) → All (IsNodeBelow nodes) (flat_map step_nodes (writing.steps ++ last ∷ []))
      → All (IsNodeBelow nodes) (flat_map step_nodes writing.steps) × All (IsNodeBelow nodes) (step_nodes last)
  split_nodes nodes last all =
      let parts = All-same (IsNodeBelow nodes) _ _ (sym (flat_map-append step_nodes writing.steps (last ∷ []))) all in (
        All-front (IsNodeBelow nodes) (flat_map step_nodes writing.steps) (flat_map step_nodes (last ∷ [])) parts,
        All-front (IsNodeBelow nodes) (step_nodes last) [] (All-back (IsNodeBelow nodes) (flat_map step_nodes writing.steps) (flat_map step_nodes (last ∷ [])) parts),
      )

  -- an expression over the columns that can be seen
  pub expr_stands : (context : Context) (columns : List Column) (expr : Expr) (kind : Kind) → Shows writing columns → kind_or_rule expr (scope_over context columns) ≡ Ok kind
      → (bounds : Bounds) → HasAt bounds.whole 0 (writing.whole ++ (typing_of expr).whole) → HasAt bounds.free 0 (writing.free ++ (typing_of expr).free)
      → All (IsNodeBelow bounds.nodes) (nodes_of (typed_in writing expr)) → ExprStands bounds so_far (typed_in writing expr)
  expr_stands context columns expr kind shows is bounds whole free nodes = record {
    fits = expr_fits expr (over writing.visible) (scope_over context columns) kind shows is (length writing.whole) (length writing.free) bounds.whole bounds.free
        (number_behind bounds.whole writing.whole (typing_of expr).whole whole) (number_behind bounds.free writing.free (typing_of expr).free free);
    reads = typed_reads expr so_far writing.visible formed.columns.seen (length writing.whole) (length writing.free);
    nodes = nodes;
  }

  -- a typed expression makes a column that cannot be seen
  pub typed_formed : (expr : Expr) (typed : TypedExpr)
      → ((bounds : Bounds) → HasAt bounds.whole 0 (writing.whole ++ (typing_of expr).whole) → HasAt bounds.free 0 (writing.free ++ (typing_of expr).free)
      → All (IsNodeBelow bounds.nodes) (nodes_of typed) → ExprStands bounds so_far typed)
      → IsFormed made start (write_typed writing expr typed)
  typed_formed expr typed stands =
      let last : Step = step.Eval (column_at writing.next) typed in
      record {
        columns = subst (λ (these : List MadeColumn). AreMade these (writing.next + 1) writing.visible) (sym (steps_made-push made writing.steps last))
            (made_next so_far writing.next writing.visible typed.kind formed.columns);
        later = omega (arith, formed.later);
        stand = λ bounds within.
            let nodes = split_nodes bounds.nodes last within.nodes in
            let before : IsWithin start bounds writing = record {
              catalog = within.catalog;
              whole = (at-append bounds.whole 0 writing.whole (typing_of expr).whole within.whole).0;
              free = (at-append bounds.free 0 writing.free (typing_of expr).free within.free).0;
              cutters = within.cutters;
              next = omega (arith, within.next);
              nodes = nodes.0;
            } in
            steps_stand-push bounds made writing.steps last (formed.stand bounds before)
            (stands bounds within.whole within.free nodes.1, record { new = made_other so_far writing.next formed.columns.below; below = omega (arith, within.next) });
      }

  -- the column of a typed expression is made, and no other is lost
  pub typed_made : (expr : Expr) (typed : TypedExpr) → IsMadeAs (steps_made made (write_typed writing expr typed).steps) (column_at writing.next) typed.kind
  typed_made expr typed =
      subst (λ (these : List MadeColumn). IsMadeAs these (column_at writing.next) typed.kind) (sym (steps_made-push made writing.steps (step.Eval (column_at writing.next) typed)))
      (made_first (made_as (column_at writing.next) typed.kind) so_far)

  pub typed_kept : (expr : Expr) (typed : TypedExpr) (column : MadeColumn) → Contains so_far column → Contains (steps_made made (write_typed writing expr typed).steps) column
  typed_kept expr typed column there =
      subst (λ (these : List MadeColumn). Contains these column) (sym (steps_made-push made writing.steps (step.Eval (column_at writing.next) typed)))
      (made_later (made_as (column_at writing.next) typed.kind) so_far column there)

  -- an expression makes a column
  pub eval_formed : (context : Context) (columns : List Column) (expr : Expr) (kind : Kind) → Shows writing columns → kind_or_rule expr (scope_over context columns) ≡ Ok kind
      → IsFormed made start (write_input_by None expr writing)
  eval_formed context columns expr kind shows is = typed_formed expr (typed_in writing expr) (expr_stands context columns expr kind shows is)

  either_true : (truth : Bool) (broken : Broken) (columns after : List Column) → ◌≡◌ {A = Shape} (cond truth (Ok columns) (Err broken)) (Ok after) → truth ≡ true
  either_true true broken columns after is = refl
  either_true false broken columns after is = absurd cc

  -- WHERE
  pub condition_formed : (context : Context) (columns after : List Column) (node : NodeId) (condition : Expr) → Shows writing columns
      → shape_of_condition context condition columns ≡ Ok after → IsFormed made start (write_condition node condition writing)
  condition_formed context columns after node condition shows is =
      let typed : TypedExpr = typed_in writing condition in
      let last : Step = step.Filter node typed in
      let found = found_of (kind_or_rule condition (scope_over context columns)) _ after is in
      let kinded : typed.kind ≡ found.value =
      expr_kinded condition (over writing.visible) (scope_over context columns) found.value shows found.is (length writing.whole) (length writing.free) in
      let are : steps_made made (writing.steps ++ last ∷ []) ≡ so_far = steps_made-push made writing.steps last in
      record {
        columns = subst (λ (these : List MadeColumn). AreMade these writing.next writing.visible) (sym are) formed.columns;
        later = formed.later;
        stand = λ bounds within.
            let nodes = split_nodes bounds.nodes last within.nodes in
            let before : IsWithin start bounds writing = record {
              catalog = within.catalog;
              whole = (at-append bounds.whole 0 writing.whole (typing_of condition).whole within.whole).0;
              free = (at-append bounds.free 0 writing.free (typing_of condition).free within.free).0;
              cutters = within.cutters;
              next = within.next;
              nodes = nodes.0;
            } in
            steps_stand-push bounds made writing.steps last (formed.stand bounds before)
            (record {
              stands = expr_stands context columns condition found.value shows found.is bounds within.whole within.free (All-front (IsNodeBelow bounds.nodes) (nodes_of typed) (node ∷ []) nodes.1);
              truth = ap (is_kind kind.Boolean) kinded ∙ either_true (is_kind kind.Boolean found.value) _ columns after found.next_is;
              below = All-head (IsNodeBelow bounds.nodes) node [] (All-back (IsNodeBelow bounds.nodes) (nodes_of typed) (node ∷ []) nodes.1);
            });
      }

  -- other columns that can be seen
  pub seen_formed : (visible : List OutColumn) → All (OutIsMade so_far) visible → IsFormed made start (record writing { visible = visible })
  seen_formed visible all = record {
    columns = record { seen = all; below = formed.columns.below; once = formed.columns.once };
    later = formed.later;
    stand = λ bounds within. formed.stand bounds (record { catalog = within.catalog; whole = within.whole; free = within.free; cutters = within.cutters; next = within.next; nodes = within.nodes });
  }

  -- a step that makes no column, as LIMIT and SORT
  pub step_formed : (last : Step) → step_made so_far last ≡ so_far → ((bounds : Bounds) → StepStands bounds so_far last) → IsFormed made start (record writing { steps = writing.steps ++ last ∷ [] })
  step_formed last same stands = record {
    columns = subst (λ (these : List MadeColumn). AreMade these writing.next writing.visible) (sym (steps_made-push made writing.steps last ∙ same)) formed.columns;
    later = formed.later;
    stand = λ bounds within.
        let before : IsWithin start bounds writing = record { catalog = within.catalog; whole = within.whole; free = within.free; cutters = within.cutters; next = within.next; nodes = (split_nodes bounds.nodes last within.nodes).0 } in
        steps_stand-push bounds made writing.steps last (formed.stand bounds before) (stands bounds);
  }

  pub limit_formed : (count : ℕ) → IsFormed made start (write_limit count writing)
  limit_formed count = step_formed (step.Limit count) refl (λ bounds. tt)

  -- MV_EXPAND
  pub expand_formed : (name : List ℕ) (found : Option OutColumn) → visible_named writing.visible name ≡ found → AreDistinct (visible_names writing.visible)
      → IsFormed made start (write_expand_of found name writing)
  expand_formed name None is distinct = formed
  expand_formed name (Some column) is distinct =
      let last : Step = step.Expand column.id (column_at writing.next) in
      let there : OutIsMade so_far column = named_made so_far writing.visible name column formed.columns.seen is in
      let kind : Kind = kind_made so_far column.id in
      let known : column.kind ≡ kind = sym (formed.columns.once column.id column.kind there) in
      let new : MadeColumn = made_as (column_at writing.next) kind in
      let visible : List OutColumn = map (renumbered name writing.next) writing.visible in
      let next : AreMade (new ∷ so_far) (writing.next + 1) writing.visible = made_next so_far writing.next writing.visible kind formed.columns in
      let seen : All (OutIsMade (new ∷ so_far)) visible =
      renumbered_made so_far writing.next writing.visible name kind
      (subst (λ (own : Kind). All (HasKindIf name own) writing.visible) known (named_kinds writing.visible name column distinct is)) formed.columns.seen in
      record {
        columns = subst (λ (these : List MadeColumn). AreMade these (writing.next + 1) visible) (sym (steps_made-push made writing.steps last)) (record { seen = seen; below = next.below; once = next.once });
        later = omega (arith, formed.later);
        stand = λ bounds within.
            let before : IsWithin start bounds writing = record {
              catalog = within.catalog;
              whole = within.whole;
              free = within.free;
              cutters = within.cutters;
              next = omega (arith, within.next);
              nodes = (split_nodes bounds.nodes last within.nodes).0;
            } in
            steps_stand-push bounds made writing.steps last (formed.stand bounds before)
            (is_made so_far column.id column.kind there, record { new = made_other so_far writing.next formed.columns.below; below = omega (arith, within.next) });
      }

-- a field
field_formed : (made : List MadeColumn) (start : Start) (context : Context) (columns : List Column) (field : Field) (kind : Kind) (writing : Writing) → IsFormed made start writing → Shows writing columns
    → kind_or_rule field.expr (scope_over context columns) ≡ Ok kind → IsFormed made start (write_field context.text writing field)
field_formed made start context columns field kind writing formed shows is =
    let after : Writing = write_input_by None field.expr writing in
    let name : List ℕ = name_of_field context.text field in
    let typed : TypedExpr = typed_in writing field.expr in
    let makes : IsFormed made start after = eval_formed made start writing formed context columns field.expr kind shows is in
    let own : OutColumn = record { name = name; kind = typed.kind; id = column_at writing.next } in
    let there : OutIsMade (steps_made made after.steps) own =
    subst (λ (these : List MadeColumn). OutIsMade these own) (sym (steps_made-push made writing.steps (step.Eval (column_at writing.next) typed)))
    (made_first (made_as (column_at writing.next) typed.kind) (steps_made made writing.steps)) in
    seen_formed made start after makes (put_visible writing.visible name typed.kind writing.next)
    (All-push (OutIsMade (steps_made made after.steps)) (filter (λ (column : OutColumn). not (bytes_eq column.name name)) writing.visible) own
    (All-filter (λ (column : OutColumn). not (bytes_eq column.name name)) (OutIsMade (steps_made made after.steps)) writing.visible makes.columns.seen) there)

-- inputs ------------------------------------------------------------------------------------------------------------------------

-- the expression has some kind
pub record HasSomeKind (context : Context) (columns : List Column) (expr : Expr) : Type 0 where
  pub kind : Kind
  pub is : kind_or_rule expr (scope_over context columns) ≡ Ok kind

-- The column of an input is made, with the kind of the expression, and no column is lost.
pub record InputIsFormed (made : List MadeColumn) (start : Start) (before after : Writing) (id : ColId) (kind : Kind) : Type 0 where
  pub formed : IsFormed made start after
  pub input : IsMadeAs (steps_made made after.steps) id kind
  pub kept : (column : MadeColumn) → Contains (steps_made made before.steps) column → Contains (steps_made made after.steps) column

pub input_formed : (made : List MadeColumn) (start : Start) (context : Context) (columns : List Column) (expr : Expr) (writing : Writing) → IsFormed made start writing → Shows writing columns
    → HasSomeKind context columns expr → InputIsFormed made start writing (write_input writing expr) (input_of writing expr) (typed_in writing expr).kind
input_formed made start context columns expr writing formed shows some = by_found (column_of_typed typed) refl
  where
    typed : TypedExpr
    typed = typed_in writing expr

    by_found : (found : Option ColId) → column_of_typed typed ≡ found → InputIsFormed made start writing (write_input_by found expr writing) (input_by found writing.next) typed.kind
    by_found (Some id) is =
        let reads : All (ReadIsMade (steps_made made writing.steps)) (columns_read typed) = typed_reads expr (steps_made made writing.steps) writing.visible formed.columns.seen _ _ in
        record {
          formed = formed;
          input = All-head (ReadIsMade (steps_made made writing.steps)) (record { id = id; kind = typed.kind }) [] (All-same (ReadIsMade (steps_made made writing.steps)) _ _ (sym (column_read typed id is)) reads);
          kept = λ column there. there;
        }
    by_found None is = record {
      formed = eval_formed made start writing formed context columns expr some.kind shows some.is;
      input = typed_made made start writing formed expr typed;
      kept = typed_kept made start writing formed expr typed;
    }

module _ {Item : Type 0} (expr_of : Item → Expr) where
  -- the columns of inputs in turn are made, with the kinds of the expressions
  abbrev pub AreInputsMade : List MadeColumn → List Item → Writing → Type 0
  AreInputsMade made [] writing = Unit {0}
  AreInputsMade made (item ∷ items) writing =
      IsMadeAs made (input_of writing (expr_of item)) (typed_in writing (expr_of item)).kind × AreInputsMade made items (write_input writing (expr_of item))

  pub record InputsAreFormed (made : List MadeColumn) (start : Start) (items : List Item) (writing : Writing) : Type 0 where
    pub formed : IsFormed made start (write_inputs expr_of items writing)
    pub inputs : AreInputsMade (steps_made made (write_inputs expr_of items writing).steps) items writing
    pub kept : (column : MadeColumn) → Contains (steps_made made writing.steps) column → Contains (steps_made made (write_inputs expr_of items writing).steps) column

  pub inputs_formed : (made : List MadeColumn) (start : Start) (context : Context) (columns : List Column) (items : List Item) (writing : Writing) → IsFormed made start writing → Shows writing columns
      → All (λ (item : Item). HasSomeKind context columns (expr_of item)) items → InputsAreFormed made start items writing
  inputs_formed made start context columns [] writing formed shows kinds = record { formed = formed; inputs = tt; kept = λ column there. there }
  inputs_formed made start context columns (item ∷ items) writing formed shows kinds =
      let Kinded : Item → Type 0 = λ item. HasSomeKind context columns (expr_of item) in
      let expr : Expr = expr_of item in
      let one = input_formed made start context columns expr writing formed shows (All-head Kinded item items kinds) in
      let rest = inputs_formed made start context columns items (write_input writing expr) one.formed (input_shows columns writing expr shows) (All-tail Kinded item items kinds) in
      record {
        formed = rest.formed;
        inputs = (rest.kept (made_as (input_of writing expr) (typed_in writing expr).kind) one.input, rest.inputs);
        kept = λ column there. rest.kept column (one.kept column there);
      }

-- SORT
keys_kinds : (context : Context) (keys : List SortKey) (columns after : List Column) → shape_of_keys context keys columns ≡ Ok after → All (λ (key : SortKey). HasSomeKind context columns key.expr) keys
keys_kinds context [] columns after is = All-nil (λ (key : SortKey). HasSomeKind context columns key.expr)
keys_kinds context (key ∷ keys) columns after is =
    let found = found_of (kind_or_rule key.expr (scope_over context columns)) (λ kind. shape_of_keys context keys columns) after is in
    All-cons (λ (key : SortKey). HasSomeKind context columns key.expr) key keys (record { kind = found.value; is = found.is }) (keys_kinds context keys columns after found.next_is)

keys_made : (made : List MadeColumn) (keys : List SortKey) (writing : Writing) → AreInputsMade expr_of_key made keys writing → All (λ (key : PlanKey). IsMade made key.id) (keys_in_plan keys writing)
keys_made made [] writing inputs = All-nil (λ (key : PlanKey). IsMade made key.id)
keys_made made (key ∷ keys) writing inputs =
    All-cons (λ (key : PlanKey). IsMade made key.id) _ (keys_in_plan keys (write_input writing key.expr)) (is_made made (input_of writing key.expr) (typed_in writing key.expr).kind inputs.0)
    (keys_made made keys (write_input writing key.expr) inputs.1)

pub sort_formed : (made : List MadeColumn) (start : Start) (context : Context) (keys : List SortKey) (columns after : List Column) (writing : Writing) → IsFormed made start writing → Shows writing columns
    → shape_of_keys context keys columns ≡ Ok after → IsFormed made start (write_sort keys writing)
sort_formed made start context keys columns after writing formed shows is =
    let inputs = inputs_formed expr_of_key made start context columns keys writing formed shows (keys_kinds context keys columns after is) in
    step_formed made start (write_keys keys writing) inputs.formed (step.Sort (keys_in_plan keys writing)) refl
    (λ bounds. keys_made (steps_made made (write_keys keys writing).steps) keys writing inputs.inputs)

-- fields in turn
pub fields_formed : (made : List MadeColumn) (start : Start) (context : Context) (fields : List Field) (columns after : List Column) (writing : Writing) → IsFormed made start writing → Shows writing columns
    → shape_of_fields context fields columns ≡ Ok after → IsFormed made start (write_fields context.text fields writing)
fields_formed made start context [] columns after writing formed shows is = formed
fields_formed made start context (field ∷ fields) columns after writing formed shows is =
    let found = found_of (shape_of_field context field columns) (shape_of_fields context fields) after is in
    let kinded = found_of (kind_or_rule field.expr (scope_over context columns)) (λ kind. Ok (put_column columns (name_of_field context.text field) kind)) found.value found.is in
    fields_formed made start context fields found.value after (write_field context.text writing field)
    (field_formed made start context columns field kinded.value writing formed shows kinded.is)
    (field_shows context field columns found.value writing shows found.is)
    found.next_is

pub distinct_seen : (columns : List Column) (writing : Writing) → Shows writing columns → HaveDistinctNames columns → AreDistinct (visible_names writing.visible)
distinct_seen columns writing shows distinct = subst AreDistinct (ap names_of shows ∙ names_of-columns writing.visible) distinct
