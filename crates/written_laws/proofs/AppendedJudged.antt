-- What is known of DISSECT, GROK and ENRICH where they break no rule.
use Rattle.std.proofs.Common.{◌≡◌, ℕ, Bool, true, false, cond, List, [], ◌∷◌, Option, Some, None, Result, Ok, Err, refl, ap, ◌∙◌}
use Rattle.std.specs.Str.{bytes_eq}
use Rattle.esql_types.specs.declared.places.Span.{Span}
use Rattle.esql_types.specs.declared.value.Kind.{Kind}
use Rattle.esql_types.specs.declared.value.Kind.TheVariants.{Keyword}
use Rattle.esql_types.specs.declared.names.Column.{Column}
use Rattle.esql_ast.specs.declared.expr.Expr.{Expr}
use Rattle.esql_ast.specs.declared.query.EnrichItem.{EnrichItem}
use Rattle.esql_ast.specs.declared.query.NameAt.{NameAt}
use Rattle.esql_ast.specs.declared.query.TextAt.{TextAt}
use Rattle.esql_plan.specs.declared.catalog.PolicyShape.{PolicyShape}
use Rattle.esql_plan.specs.declared.plan.OutColumn.{OutColumn}
use Rattle.esql_plan.specs.Signatures.{is_kind}
use Rattle.dissect_grok.specs.Patterns.{Reading, reading_of}
use Rattle.dissect_grok.specs.Groks.{GrokRead, grok_of}
use Rattle.plan_semantics.specs.Plans.{columns_of}
use Rattle.plan_semantics.specs.Taken.{kinds_match, columns_of_reading, columns_of_grok}
use Rattle.row_semantics.specs.Regulars.{Regular}
use Rattle.row_semantics.specs.Scopes.{Broken, column_named}
use Rattle.row_semantics.specs.Kinds.{kind_of_column, kind_or_rule}
use Rattle.row_semantics.specs.Typed.{visible_named}
use Rattle.query_semantics.specs.Appended.{FoundPolicy, put_columns, policy_named, matched_name, matched_at, fields_taken, taken_columns}
use Rattle.query_semantics.specs.AppendedShapes.{if_keyword, shape_of_reading, shape_of_dissect, regular_of_grok, shape_of_grok_read, shape_of_grok, unknown_field, unless_unknown, shape_of_matched, shape_of_policy, shape_of_enrich}
use Rattle.query_semantics.specs.StatsShapes.{outside_scope}
use Rattle.query_semantics.proofs.Kinded.{found_of, ok_is}

-- a condition that has to be met, and what follows
passed : {A : Type 0} (truth : Bool) (next : Result A Broken) (broken : Broken) (after : A) → ◌≡◌ {A = Result A Broken} (cond truth next (Err broken)) (Ok after) → (truth ≡ true) × (next ≡ Ok after)
passed true next broken after is = (refl, is)
passed false next broken after is = absurd cc

module _ (accepts : Regular → Bool) (columns : List Column) where
  -- the input is a keyword or null
  pub record InputIsKeyword (input : Expr) : Type 0 where
    pub kind : Kind
    pub is : kind_or_rule input (outside_scope accepts columns) ≡ Ok kind
    pub keyword : is_kind Keyword kind ≡ true

  pub record DissectIsJudged (input : Expr) (pattern separator : List ℕ) (after : List Column) : Type 0 where
    pub of_input : InputIsKeyword input
    pub reading : Reading
    pub read : reading_of pattern separator ≡ Some reading
    pub next_is : put_columns columns (columns_of_reading (Some reading)) ≡ after

  pub dissect_judged : (input : Expr) (pattern : TextAt) (separator : List ℕ) (after : List Column) → shape_of_dissect accepts input pattern separator columns ≡ Ok after
      → DissectIsJudged input pattern.text separator after
  dissect_judged input pattern separator after is =
      let next : Result (List Column) Broken = shape_of_reading (reading_of pattern.text separator) pattern.span columns in
      let found = found_of (kind_or_rule input (outside_scope accepts columns)) (if_keyword input next) after is in
      let both = passed (is_kind Keyword found.value) next _ after found.next_is in
      by_read (reading_of pattern.text separator) (record { kind = found.value; is = found.is; keyword = both.0 }) refl both.1
    where
      by_read : (read : Option Reading) → InputIsKeyword input → reading_of pattern.text separator ≡ read → shape_of_reading read pattern.span columns ≡ Ok after
          → DissectIsJudged input pattern.text separator after
      by_read None own read next = absurd cc
      by_read (Some reading) own read next = record { of_input = own; reading = reading; read = read; next_is = ok_is next }

  pub record GrokIsJudged (input : Expr) (pattern : List ℕ) (after : List Column) : Type 0 where
    pub of_input : InputIsKeyword input
    pub reading : GrokRead
    pub read : grok_of pattern ≡ Some reading
    pub next_is : put_columns columns (columns_of_grok (Some reading)) ≡ after

  pub grok_judged : (input : Expr) (pattern : TextAt) (after : List Column) → shape_of_grok accepts input pattern columns ≡ Ok after → GrokIsJudged input pattern.text after
  grok_judged input pattern after is =
      let next : Result (List Column) Broken = shape_of_grok_read accepts (grok_of pattern.text) pattern.span columns in
      let found = found_of (kind_or_rule input (outside_scope accepts columns)) (if_keyword input next) after is in
      let both = passed (is_kind Keyword found.value) next _ after found.next_is in
      by_read (grok_of pattern.text) (record { kind = found.value; is = found.is; keyword = both.0 }) refl both.1
    where
      by_read : (read : Option GrokRead) → InputIsKeyword input → grok_of pattern.text ≡ read → shape_of_grok_read accepts read pattern.span columns ≡ Ok after → GrokIsJudged input pattern.text after
      by_read None own read next = absurd cc
      by_read (Some reading) own read next = record {
        of_input = own;
        reading = reading;
        read = read;
        next_is = ok_is (passed (accepts (regular_of_grok pattern.span reading)) _ _ after next).1;
      }

-- the column of a name among those that can be seen
pub record IsSeen (visible : List OutColumn) (name : List ℕ) (kind : Kind) : Type 0 where
  pub column : OutColumn
  pub is : visible_named visible name ≡ Some column
  pub kind_is : column.kind ≡ kind

pub named_seen : (visible : List OutColumn) (name : List ℕ) (span : Span) (kind : Kind) → kind_of_column (column_named (columns_of visible) name) span ≡ Ok kind → IsSeen visible name kind
named_seen [] name span kind is = absurd cc
named_seen (first ∷ visible) name span kind is = by_same (bytes_eq first.name name) refl is (named_seen visible name span kind)
  where
    by_same : (same : Bool) → bytes_eq first.name name ≡ same
        → kind_of_column (cond same (Some (record { name = first.name; kind = first.kind })) (column_named (columns_of visible) name)) span ≡ Ok kind
        → (kind_of_column (column_named (columns_of visible) name) span ≡ Ok kind → IsSeen visible name kind) → IsSeen (first ∷ visible) name kind
    by_same true own here rest = record { column = first; is = ap (λ (b : Bool). cond b (Some first) (visible_named visible name)) own; kind_is = ok_is here }
    by_same false own later rest =
        let found = rest later in
        record { column = found.column; is = ap (λ (b : Bool). cond b (Some first) (visible_named visible name)) own ∙ found.is; kind_is = found.kind_is }

module _ (columns : List Column) (on : Option NameAt) (items : Option (List EnrichItem)) (after : List Column) where
  -- the policy is there, and the matched column fits its match field
  pub record PolicyIsJudged (policies : List PolicyShape) (policy : NameAt) : Type 0 where
    pub found : FoundPolicy
    pub named : policy_named policies policy.name ≡ Some found
    pub kind : Kind
    pub is : kind_of_column (column_named columns (matched_name found.shape on)) (matched_at policy on) ≡ Ok kind
    pub fit : kinds_match kind found.shape.match_field.kind ≡ true
    pub next_is : put_columns columns (taken_columns (fields_taken found.shape.fields items)) ≡ after

  known_is : (place : Option Span) (known : List Column) → unless_unknown place known ≡ Ok after → known ≡ after
  known_is None known is = ok_is is
  known_is (Some span) known is = absurd cc

  pub enrich_judged : (policies : List PolicyShape) (policy : NameAt) → shape_of_enrich policies policy on items columns ≡ Ok after → PolicyIsJudged policies policy
  enrich_judged policies policy is = by_found (policy_named policies policy.name) refl is
    where
      by_found : (found : Option FoundPolicy) → policy_named policies policy.name ≡ found → shape_of_policy found policy on items columns ≡ Ok after → PolicyIsJudged policies policy
      by_found None named next = absurd cc
      by_found (Some found) named next =
          let own = found_of (kind_of_column (column_named columns (matched_name found.shape on)) (matched_at policy on)) (shape_of_matched found.shape (matched_at policy on) items columns) after next in
          let both = passed (kinds_match own.value found.shape.match_field.kind) _ _ after own.next_is in
          record {
            found = found;
            named = named;
            kind = own.value;
            is = own.is;
            fit = both.0;
            next_is = known_is (unknown_field found.shape.fields items) _ both.1;
          }
