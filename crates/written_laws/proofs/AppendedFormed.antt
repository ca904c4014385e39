-- DISSECT, GROK and ENRICH write steps that are well formed.
use Rattle.std.proofs.Common.{◌≡◌, ℕ, ◌+◌, true, List, [], ◌∷◌, ◌++◌, length, All, Option, Some, None, Ok, refl, ap, sym, subst, ◌∙◌, arith}
use Rattle.std.specs.Prelude.{slice_get}
use Rattle.std.proofs.lemmas.List.Elements.{All-head}
use Rattle.esql_types.specs.declared.value.Kind.{Kind}
use Rattle.esql_types.specs.declared.value.Kind.TheVariants.{Keyword}
use Rattle.esql_types.specs.declared.names.Column.{Column}
use Rattle.esql_types.specs.declared.names.ColId.{ColId}
use Rattle.esql_types.specs.declared.names.NodeId.{NodeId}
use Rattle.esql_ast.specs.declared.expr.Expr.{Expr}
use Rattle.esql_ast.specs.declared.query.EnrichItem.{EnrichItem}
use Rattle.esql_ast.specs.declared.query.NameAt.{NameAt}
use Rattle.esql_ast.specs.declared.query.TextAt.{TextAt}
use Rattle.esql_plan.specs.declared.catalog.Catalog.{Catalog}
use Rattle.esql_plan.specs.declared.catalog.PolicyShape.{PolicyShape}
use Rattle.esql_plan.specs.declared.plan.OutColumn.{OutColumn}
use Rattle.esql_plan.specs.declared.step.NewColumn.{NewColumn}
use Rattle.esql_plan.specs.declared.step.Step.{Step}
use Rattle.esql_plan.specs.declared.step.Step.TheVariants as step
use Rattle.esql_plan.specs.Signatures.{is_kind}
use Rattle.dissect_grok.specs.declared.cutter.Cutter.{Cutter}
use Rattle.dissect_grok.specs.declared.cutter.Cutter.TheVariants as cutter
use Rattle.dissect_grok.specs.Patterns.{Reading, reading_of}
use Rattle.dissect_grok.specs.Groks.{GrokRead, grok_of}
use Rattle.plan_semantics.specs.Taken.{kinds_match, dissect_columns, columns_of_reading, columns_in_grok, columns_of_grok}
use Rattle.plan_semantics.specs.WellFormed.{MadeColumn, IsMade, kind_made, step_made, steps_made, new_made, kinds_of, step_nodes, Bounds, StepStands, NewStand, IsPolicyTable}
use Rattle.row_semantics.specs.Scopes.{column_named}
use Rattle.row_semantics.specs.Kinds.{kind_of_column}
use Rattle.query_semantics.specs.Appended.{FoundPolicy, matched_name, matched_at, FieldTaken, fields_taken, taken_columns, taken_numbers}
use Rattle.query_semantics.specs.AppendedShapes.{shape_of_dissect, shape_of_grok, shape_of_enrich}
use Rattle.query_semantics.specs.Catalogs.{IsCatalog}
use Rattle.query_semantics.specs.Shapes.{Context, scope_over}
use Rattle.query_semantics.specs.Writings.{Writing, typed_in, column_of_typed, write_input_by, write_input, input_of}
use Rattle.query_semantics.specs.WrittenAppended.{put_new, new_columns, write_new, dissect_cutters, write_dissect, grok_cutters, write_grok, write_matched, write_policy, write_enrich}
use Rattle.query_semantics.proofs.Kinded.{expr_kinded}
use Rattle.written_laws.proofs.AppendedJudged.{InputIsKeyword, dissect_judged, grok_judged, IsSeen, named_seen, enrich_judged}
use Rattle.written_laws.proofs.ColumnsTyped.{OutIsMade, over}
use Rattle.written_laws.proofs.MadeOnce.{AreMade, is_made, named_made}
use Rattle.written_laws.proofs.NewMade.{kinds_new, new_stand, made_new}
use Rattle.written_laws.proofs.Numbers.{HasAt, at-append}
use Rattle.written_laws.proofs.PoliciesFound.{all_at_place, policy_at, fields_are_taken, fields_are}
use Rattle.written_laws.proofs.Shown.{Shows}
use Rattle.written_laws.proofs.StepsFormed.{Start, IsNodeBelow, IsWithin, IsFormed, steps_made-push, steps_stand-push, number_behind, split_nodes, input_formed}

input_cutters : (writing : Writing) (input : Expr) → (write_input writing input).cutters ≡ writing.cutters
input_cutters writing input = by_found (column_of_typed (typed_in writing input))
  where
    by_found : (found : Option ColId) → (write_input_by found input writing).cutters ≡ writing.cutters
    by_found (Some id) = refl
    by_found None = refl

-- the cutter behind those that were there before
cutter_at : (all before these those : List Cutter) (one : Cutter) → before ≡ these → those ≡ one ∷ [] → HasAt all 0 (before ++ those) → slice_get all (length these) ≡ Some one
cutter_at all before these those one same is at =
    (number_behind all these (one ∷ []) (subst (λ (own : List Cutter). HasAt all 0 (these ++ own)) is (subst (λ (own : List Cutter). HasAt all 0 (own ++ those)) same at))).0

-- one more step that makes columns of the next numbers
module _ (made : List MadeColumn) (start : Start) (writing : Writing) (formed : IsFormed made start writing) where
  abbrev so_far : List MadeColumn
  so_far = steps_made made writing.steps

  new_formed : (columns : List Column) (cutters : List Cutter) (step_to : List NewColumn → Step) → ((before : List MadeColumn) (to : List NewColumn) → step_made before (step_to to) ≡ new_made to ++ before)
      → ((bounds : Bounds) → bounds.catalog ≡ start.catalog → HasAt bounds.cutters 0 (writing.cutters ++ cutters) → NewStand bounds so_far (new_columns writing.next columns)
      → All (IsNodeBelow bounds.nodes) (step_nodes (step_to (new_columns writing.next columns))) → StepStands bounds so_far (step_to (new_columns writing.next columns)))
      → IsFormed made start (write_new columns cutters step_to writing)
  new_formed columns cutters step_to makes stands =
      let to : List NewColumn = new_columns writing.next columns in
      let last : Step = step_to to in
      record {
        columns = subst (λ (these : List MadeColumn). AreMade these (writing.next + length columns) (put_new writing.visible columns writing.next))
            (sym (steps_made-push made writing.steps last ∙ makes so_far to)) (made_new so_far writing.next writing.visible columns formed.columns);
        later = omega (arith, formed.later);
        stand = λ bounds within.
            let nodes = split_nodes made start writing formed bounds.nodes last within.nodes in
            let before : IsWithin start bounds writing = record {
              catalog = within.catalog;
              whole = within.whole;
              free = within.free;
              cutters = (at-append bounds.cutters 0 writing.cutters cutters within.cutters).0;
              next = omega (arith, within.next);
              nodes = nodes.0;
            } in
            steps_stand-push bounds made writing.steps last (formed.stand bounds before)
            (stands bounds within.catalog within.cutters (new_stand writing.next columns bounds so_far formed.columns.below within.next) nodes.1);
      }

-- the input of DISSECT and GROK is made, and is a keyword
record KeywordIsFormed (made : List MadeColumn) (start : Start) (writing : Writing) (input : Expr) : Type 0 where
  formed : IsFormed made start (write_input writing input)
  there : IsMade (steps_made made (write_input writing input).steps) (input_of writing input)
  keyword : is_kind Keyword (kind_made (steps_made made (write_input writing input).steps) (input_of writing input)) ≡ true

module _ (made : List MadeColumn) (start : Start) (context : Context) (columns after : List Column) (writing : Writing) (formed : IsFormed made start writing) (shows : Shows writing columns) where
  keyword_formed : (input : Expr) → InputIsKeyword context.accepts columns input → KeywordIsFormed made start writing input
  keyword_formed input judged =
      let one = input_formed made start context columns input writing formed shows (record { kind = judged.kind; is = judged.is }) in
      let kind : Kind = (typed_in writing input).kind in
      let kinded : kind ≡ judged.kind = expr_kinded input (over writing.visible) (scope_over context columns) judged.kind shows judged.is (length writing.whole) (length writing.free) in
      record {
        formed = one.formed;
        there = is_made (steps_made made (write_input writing input).steps) (input_of writing input) kind one.input;
        keyword = ap (is_kind Keyword) (one.formed.columns.once (input_of writing input) kind one.input ∙ kinded) ∙ judged.keyword;
      }

  pub dissect_formed : (node : NodeId) (input : Expr) (pattern : TextAt) (separator : List ℕ) → shape_of_dissect context.accepts input pattern separator columns ≡ Ok after
      → IsFormed made start (write_dissect node input pattern.text separator writing)
  dissect_formed node input pattern separator is =
      let judged = dissect_judged context.accepts columns input pattern separator after is in
      let own = keyword_formed input judged.of_input in
      let next : Writing = write_input writing input in
      new_formed made start next own.formed (dissect_columns pattern.text separator) (dissect_cutters (reading_of pattern.text separator))
      (step.Dissect node (input_of writing input) (length writing.cutters) pattern.text separator) (λ before to. refl)
      (λ bounds catalog cutters new nodes. record {
        reading = judged.reading;
        read = judged.read;
        cutter = cutter_at bounds.cutters next.cutters writing.cutters (dissect_cutters (reading_of pattern.text separator)) (cutter.Dissect judged.reading)
            (input_cutters writing input) (ap dissect_cutters judged.read) cutters;
        cut = record {
          is_made = own.there;
          keyword = own.keyword;
          kinds = kinds_new next.next (dissect_columns pattern.text separator) ∙ ap (λ (read : Option Reading). kinds_of (columns_of_reading read)) judged.read;
          new = new;
        };
      })

  pub grok_formed : (node : NodeId) (input : Expr) (pattern : TextAt) → shape_of_grok context.accepts input pattern columns ≡ Ok after → IsFormed made start (write_grok node input pattern.text writing)
  grok_formed node input pattern is =
      let judged = grok_judged context.accepts columns input pattern after is in
      let own = keyword_formed input judged.of_input in
      let next : Writing = write_input writing input in
      new_formed made start next own.formed (columns_in_grok pattern.text) (grok_cutters (grok_of pattern.text))
      (step.Grok node (input_of writing input) (length writing.cutters) pattern.text) (λ before to. refl)
      (λ bounds catalog cutters new nodes. record {
        reading = judged.reading;
        read = judged.read;
        cutter = cutter_at bounds.cutters next.cutters writing.cutters (grok_cutters (grok_of pattern.text)) (cutter.Grok judged.reading) (input_cutters writing input) (ap grok_cutters judged.read) cutters;
        cut = record {
          is_made = own.there;
          keyword = own.keyword;
          kinds = kinds_new next.next (columns_in_grok pattern.text) ∙ ap (λ (read : Option GrokRead). kinds_of (columns_of_grok read)) judged.read;
          new = new;
        };
        below = All-head (IsNodeBelow bounds.nodes) node [] nodes;
      })

  -- ENRICH over a catalog whose policies stand
  module _ (of : start.catalog ≡ context.catalog) (is_catalog : IsCatalog context.catalog) where
    abbrev HasTables : Catalog → PolicyShape → Type 0
    HasTables catalog policy = All (IsPolicyTable catalog policy) policy.tables

    matched_formed : (policy : FoundPolicy) (items : Option (List EnrichItem)) (column : OutColumn) → slice_get context.catalog.policies policy.number ≡ Some policy.shape
        → OutIsMade (steps_made made writing.steps) column → kinds_match column.kind policy.shape.match_field.kind ≡ true
        → IsFormed made start (write_matched policy (Some column) (fields_taken policy.shape.fields items) writing)
    matched_formed policy items column there out fit =
        let taken : List FieldTaken = fields_taken policy.shape.fields items in
        let made_so_far : List MadeColumn = steps_made made writing.steps in
        new_formed made start writing formed (taken_columns taken) [] (step.Enrich policy.number column.id (taken_numbers taken)) (λ before to. refl)
        (λ bounds catalog cutters new nodes.
        let same : context.catalog ≡ bounds.catalog = sym (catalog ∙ of) in
        record {
          policy = policy.shape;
          is = subst (λ (these : Catalog). slice_get these.policies policy.number ≡ Some policy.shape) same there;
          tables = subst (λ (these : Catalog). HasTables these policy.shape) same
              (all_at_place (HasTables context.catalog) context.catalog.policies policy.number policy.shape is_catalog.policies there);
          matched = is_made made_so_far column.id column.kind out;
          fit = ap (λ (kind : Kind). kinds_match kind policy.shape.match_field.kind) (formed.columns.once column.id column.kind out) ∙ fit;
          fields_are = fields_are policy.shape taken writing.next (fields_are_taken policy.shape.fields items);
          new = new;
        })

    pub enrich_formed : (policy : NameAt) (on : Option NameAt) (items : Option (List EnrichItem)) → shape_of_enrich context.catalog.policies policy on items columns ≡ Ok after
        → IsFormed made start (write_enrich context.catalog.policies policy on items writing)
    enrich_formed policy on items is =
        let judged = enrich_judged columns on items after context.catalog.policies policy is in
        let name : List ℕ = matched_name judged.found.shape on in
        let seen : IsSeen writing.visible name judged.kind =
        named_seen writing.visible name (matched_at policy on) judged.kind (subst (λ (these : List Column). kind_of_column (column_named these name) (matched_at policy on) ≡ Ok judged.kind) shows judged.is) in
        subst (λ (found : Option FoundPolicy). IsFormed made start (write_policy found on items writing)) (sym judged.named)
        (subst (λ (column : Option OutColumn). IsFormed made start (write_matched judged.found column (fields_taken judged.found.shape.fields items) writing)) (sym seen.is)
        (matched_formed judged.found items seen.column (policy_at [] context.catalog.policies policy.name judged.found judged.named)
        (named_made (steps_made made writing.steps) writing.visible name seen.column formed.columns.seen seen.is)
        (ap (λ (kind : Kind). kinds_match kind judged.found.shape.match_field.kind) seen.kind_is ∙ judged.fit)))
