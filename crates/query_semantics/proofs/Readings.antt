-- A reading that is made of another one is that of the whole expression, where it is that of each form.
use Rattle.std.proofs.Common.{◌≡◌, ℕ, suc, Bool, true, false, cond, List, [], ◌∷◌, map, length, Option, Some, None, refl, ap, sym, subst, ◌∙◌}
use Rattle.std.specs.Prelude.{if◌then◌else◌}
use denote.Hole.Holds.{Such}
use Rattle.esql_types.specs.declared.places.Span.{Span}
use Rattle.esql_types.specs.declared.value.Kind.{Kind}
use Rattle.esql_types.specs.declared.value.Kind.TheVariants as kind
use Rattle.esql_types.specs.declared.value.Value.{Value}
use Rattle.esql_types.specs.declared.value.Value.TheVariants as value
use Rattle.esql_types.specs.declared.names.NodeId.{NodeId}
use Rattle.esql_ast.specs.declared.expr.Expr.{Expr}
use Rattle.esql_ast.specs.declared.expr.Form.{Form}
use Rattle.esql_ast.specs.declared.expr.Form.TheBlock.{the_family, member-Form, member-Expr}
use Rattle.esql_ast.specs.declared.expr.Form.TheOpen.{Expr-F, Form-F, Constant, List as Listed, Column, Group, Call, Minus, Not, Binary, Within, Like, IsNull, Cast}
use Rattle.esql_ast.specs.declared.expr.Form.TheViews.{roll-Form, roll-Expr}
use Rattle.esql_ast.specs.declared.expr.Form.TheFolds.{claims, map-Form, map-Expr, fold-Form, fold-roll-Form, fold-roll-Expr, ind-Expr}
use Rattle.esql_plan.specs.declared.function.Function.{Function}
use Rattle.esql_plan.specs.declared.function.Function.TheVariants as function
use Rattle.esql_plan.specs.declared.function.AggFunction.{AggFunction}
use Rattle.esql_plan.specs.declared.names.FunctionRow.{FunctionRow}
use Rattle.esql_plan.specs.Names.{function_named, aggregate_named, cast_named}
use Rattle.row_semantics.specs.declared.rule.NameRule.TheVariants as rule
use Rattle.row_semantics.specs.Forms.{Part, Seen, constant, named, same, applied, aggregate, refused, Reader, seen, call_by, takes, cast_by, list_in_kind, kind_of_list, constant_in, function_of, like_function, literal_of, part_of_form, part_of, read_by}

-- a part with another reading
abbrev pub part_with : {A B : Type 0} → (A → B) → Part A → Part B
part_with make part = record { span = part.span; literal = part.literal; reading = make part.reading }

abbrev pub parts_with : {A B : Type 0} → (A → B) → List (Part A) → List (Part B)
parts_with make parts = map (part_with make) parts

-- the same form of parts with other readings
abbrev pub seen_with : {A B : Type 0} → (A → B) → Seen A → Seen B
seen_with make (constant values kind) = constant values kind
seen_with make (named name) = named name
seen_with make (same part) = same (part_with make part)
seen_with make (applied function parts) = applied function (parts_with make parts)
seen_with make (aggregate function star parts) = aggregate function star (parts_with make parts)
seen_with make (refused parts rule span) = refused (parts_with make parts) rule span

length_with : {A B : Type 0} (make : A → B) (parts : List (Part A)) → length (parts_with make parts) ≡ length parts
length_with make [] = refl
length_with make (part ∷ parts) = ap (λ (n : ℕ). suc n) (length_with make parts)

-- the forms that are told by more than their constructor
list_with : {A B : Type 0} (make : A → B) (values : List Value) (found : Option Kind) (span : Span) → list_in_kind values found span ≡ seen_with make (list_in_kind values found span)
list_with make values (Some kind.Long) span = refl
list_with make values (Some other) span = refl
list_with make values None span = refl

constant_with : {A B : Type 0} (make : A → B) (cell : List Value) (span : Span) → constant_in cell span ≡ seen_with make (constant_in cell span)
constant_with make [] span = refl
constant_with make (value ∷ values) span = list_with make (value ∷ values) (kind_of_list (value ∷ values)) span

arguments_with : {A B : Type 0} (make : A → B) (row : FunctionRow) (parts : List (Part A)) (span : Span) (taken : Bool)
    → cond taken (applied row.function (parts_with make parts)) (refused [] rule.BadArguments span) ≡ seen_with make (cond taken (applied row.function parts) (refused [] rule.BadArguments span))
arguments_with make row parts span true = refl
arguments_with make row parts span false = refl

call_with : {A B : Type 0} (make : A → B) (found : Option FunctionRow) (other : Option AggFunction) (name : Span) (star : Bool) (parts : List (Part A)) (span : Span)
    → call_by found other name star (parts_with make parts) span ≡ seen_with make (call_by found other name star parts span)
call_with make (Some row) other name true parts span = refl
call_with make (Some row) other name false parts span =
    ap (λ (count : ℕ). cond (takes row count) (applied row.function (parts_with make parts)) (refused [] rule.BadArguments span)) (length_with make parts)
    ∙ arguments_with make row parts span (takes row (length parts))
call_with make None (Some function) name star parts span = refl
call_with make None None name star parts span = refl

cast_with : {A B : Type 0} (make : A → B) (found : Option Function) (part : Part A) (name : Span) → cast_by found (part_with make part) name ≡ seen_with make (cast_by found part name)
cast_with make (Some function) part name = refl
cast_with make None part name = refl

-- a reading is made of another one at each form
pub record IsMade (A B : Type 0) (first : Reader A) (second : Reader B) (make : A → B) : Type 0 where
  pub is : (node : NodeId) (span : Span) (form : Seen A) → second node span (seen_with make form) ≡ make (first node span form)

module _ (A B : Type 0) (first : Reader A) (second : Reader B) (make : A → B) (made : IsMade A B first second make) where
  abbrev in_form : (R : Type 0) → Reader R → Form → NodeId → Span → Part R
  in_form R reader = fold-Form (NodeId → Span → Part R) (Part R) (part_of_form reader) (λ e. e.form e.node e.span)

  abbrev ExprMade : Expr → Type 0
  ExprMade expr = part_of second expr ≡ part_with make (part_of first expr)

  abbrev FormMade : Form → Type 0
  FormMade form = (node : NodeId) (span : Span) → in_form B second form node span ≡ part_with make (in_form A first form node span)

  abbrev GoodForm : Type 0
  GoodForm = Such the_family (claims FormMade ExprMade) member-Form

  abbrev GoodExpr : Type 0
  GoodExpr = Such the_family (claims FormMade ExprMade) member-Expr

  abbrev the_expr : GoodExpr → Expr
  the_expr good = good.0

  abbrev the_form : GoodForm → Form
  the_form good = good.0

  abbrev layer_of : Form-F GoodForm GoodExpr → Form-F Form Expr
  layer_of = map-Form GoodForm GoodExpr Form Expr the_form the_expr

  abbrev layer_in : (R : Type 0) → Reader R → Form-F Form Expr → Form-F (NodeId → Span → Part R) (Part R)
  layer_in R reader = map-Form Form Expr (NodeId → Span → Part R) (Part R) (in_form R reader) (part_of reader)

  all_made : (goods : List GoodExpr) → map (part_of second) (map the_expr goods) ≡ parts_with make (map (part_of first) (map the_expr goods))
  all_made [] = refl
  all_made (good ∷ goods) = λ i. good.1 i ∷ all_made goods i

  carried : (layer : Form-F Form Expr)
      → literal_of (layer_in B second layer) ≡ literal_of (layer_in A first layer)
      → ((node : NodeId) (span : Span) → seen second node span (layer_in B second layer) ≡ seen_with make (seen first node span (layer_in A first layer)))
      → FormMade (roll-Form layer)
  carried layer literal form node span =
      let left = fold-roll-Form (NodeId → Span → Part B) (Part B) (part_of_form second) (λ e. e.form e.node e.span) layer in
      let right = fold-roll-Form (NodeId → Span → Part A) (Part A) (part_of_form first) (λ e. e.form e.node e.span) layer in
      let reading = ap (second node span) (form node span) ∙ made.is node span (seen first node span (layer_in A first layer)) in
      ap (λ f. f node span) left
      ∙ (λ i. record { span = span; literal = literal i; reading = reading i })
      ∙ sym (ap (λ f. part_with make (f node span)) right)

  form_made : (layer : Form-F GoodForm GoodExpr) → FormMade (roll-Form (layer_of layer))
  form_made (Constant cell kind) = carried (layer_of (Constant cell kind)) refl (λ node span. constant_with make cell span)
  form_made (Listed values) = carried (layer_of (Listed values)) refl (λ node span. list_with make values (kind_of_list values) span)
  form_made (Column name) = carried (layer_of (Column name)) refl (λ node span. refl)
  form_made (Group inner) = carried (layer_of (Group inner)) refl (λ node span. ap same inner.1)
  form_made (Call function args star) =
      carried (layer_of (Call function args star)) refl
      (λ node span.
      ap (λ (parts : List (Part B)). call_by (function_named function.name) (aggregate_named function.name) function.span star parts span) (all_made args)
      ∙ call_with make (function_named function.name) (aggregate_named function.name) function.span star (map (part_of first) (map the_expr args)) span)
  form_made (Minus arg) = carried (layer_of (Minus arg)) refl (λ node span. ap (λ (part : Part B). applied function.Neg (part ∷ [])) arg.1)
  form_made (Not arg) = carried (layer_of (Not arg)) refl (λ node span. ap (λ (part : Part B). applied function.Not (part ∷ [])) arg.1)
  form_made (Binary op left right) = carried (layer_of (Binary op left right)) refl (λ node span. λ i. applied (function_of op) (left.1 i ∷ right.1 i ∷ []))
  form_made (Within negated left items) =
      carried (layer_of (Within negated left items)) refl (λ node span. λ i. applied (if negated then function.NotIn else function.In) (left.1 i ∷ all_made items i))
  form_made (Like negated regex left pattern) =
      carried (layer_of (Like negated regex left pattern)) refl
      (λ node span. λ i. applied (like_function negated regex) (left.1 i ∷ record {
        span = pattern.span;
        literal = Some pattern.text;
        reading = made.is node pattern.span (constant (value.Text pattern.text ∷ []) kind.Keyword) i;
      } ∷ []))
  form_made (IsNull negated arg) =
      carried (layer_of (IsNull negated arg)) refl (λ node span. ap (λ (part : Part B). applied (if negated then function.IsNotNull else function.IsNull) (part ∷ [])) arg.1)
  form_made (Cast arg kind) =
      carried (layer_of (Cast arg kind)) refl
      (λ node span. ap (λ (part : Part B). cast_by (cast_named kind.name) part kind.span) arg.1 ∙ cast_with make (cast_named kind.name) (part_of first arg.0) kind.span)

  part_made : (expr : Expr) → ExprMade expr
  part_made =
      ind-Expr FormMade ExprMade (λ layer goods is. let P : Form-F Form Expr → Type 0 = λ these. FormMade (roll-Form these) in subst P is (form_made goods))
      (λ own good is. let P : Expr-F Form Expr → Type 0 = λ this. ExprMade (roll-Expr this) in subst P is (own_made (map-Expr GoodForm GoodExpr Form Expr the_form the_expr good) good.form.1))
    where
      own_made : (own : Expr-F Form Expr) → FormMade own.form → ExprMade (roll-Expr own)
      own_made own form =
          let left = fold-roll-Expr (NodeId → Span → Part B) (Part B) (part_of_form second) (λ e. e.form e.node e.span) own in
          let right = fold-roll-Expr (NodeId → Span → Part A) (Part A) (part_of_form first) (λ e. e.form e.node e.span) own in
          left ∙ form own.node own.span ∙ sym (ap (part_with make) right)

  -- the reading of an expression is made of the other one
  pub read_made : (expr : Expr) → read_by second expr ≡ make (read_by first expr)
  read_made expr = ap (λ (part : Part B). part.reading) (part_made expr)
