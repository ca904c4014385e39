-- What is read of an expression, by its form.
use Rattle.std.proofs.Common.{◌≡◌, ℕ, List, [], ◌∷◌, Some, refl, ap, sym, ◌∙◌}
use Rattle.esql_types.specs.declared.places.Span.{Span}
use Rattle.esql_types.specs.declared.names.NodeId.{NodeId}
use Rattle.esql_types.specs.declared.value.Kind.{Kind}
use Rattle.esql_types.specs.declared.value.Kind.TheVariants as kind
use Rattle.esql_types.specs.declared.value.Value.{Value}
use Rattle.esql_types.specs.declared.value.Value.TheVariants as value
use Rattle.esql_ast.specs.declared.expr.Expr.{Expr}
use Rattle.esql_ast.specs.declared.expr.Form.{Form}
use Rattle.esql_ast.specs.declared.expr.Form.TheOpen.{Form-F, Constant, List as Listed, Column, Group, Call, Minus, Not, Binary, Within, Like, IsNull, Cast}
use Rattle.esql_ast.specs.declared.expr.Form.TheViews.{out-Form}
use Rattle.esql_ast.specs.declared.expr.Form.TheFolds.{map-Form, fold-Form, fold_out-Expr, fold_out-Form, fold-roll-Form, fold-roll-Expr}
use Rattle.esql_ast.specs.declared.query.TextAt.{TextAt}
use Rattle.row_semantics.specs.Forms.{Part, Reader, seen, literal_of, part_of_form, part_of, pattern_part}
use Rattle.row_semantics.specs.Kinds.{Judged, judged}
use Rattle.row_semantics.specs.Regulars.{Regular}
use Rattle.row_semantics.specs.Typed.{Typing, typing}
use Rattle.expression_analysis.specs.Answers.{regulars_in}
use Rattle.expression_analysis.specs.Steps.{readings_of, readings_at, literal_of_expr, pattern_expr}

module _ (R : Type 0) (reader : Reader R) where
  abbrev in_form : Form → NodeId → Span → Part R
  in_form = fold-Form (NodeId → Span → Part R) (Part R) (part_of_form reader) (λ e. e.form e.node e.span)

  -- a layer of a form, with what is read of its parts
  abbrev pub layer_in : Form-F Form Expr → Form-F (NodeId → Span → Part R) (Part R)
  layer_in = map-Form Form Expr (NodeId → Span → Part R) (Part R) in_form (part_of reader)

  pub part_opened : (expr : Expr) (form : Form) (layer : Form-F Form Expr) → expr.form ≡ form → out-Form form ≡ layer
      → part_of reader expr ≡ part_of_form reader (layer_in layer) expr.node expr.span
  part_opened expr form layer is opened =
      fold_out-Expr (NodeId → Span → Part R) (Part R) (part_of_form reader) (λ e. e.form e.node e.span) expr
      ∙ ap (λ (these : Form). in_form these expr.node expr.span) is
      ∙ ap (λ f. f expr.node expr.span) (fold_out-Form (NodeId → Span → Part R) (Part R) (part_of_form reader) (λ e. e.form e.node e.span) form)
      ∙ ap (λ (these : Form-F Form Expr). part_of_form reader (layer_in these) expr.node expr.span) opened

  pub own_span : (expr : Expr) → (part_of reader expr).span ≡ expr.span
  own_span expr = ap (λ (part : Part R). part.span) (part_opened expr expr.form (out-Form expr.form) refl refl)

  pub own_literal : (expr : Expr) → (part_of reader expr).literal ≡ literal_of (layer_in (out-Form expr.form))
  own_literal expr = ap (λ (part : Part R). part.literal) (part_opened expr expr.form (out-Form expr.form) refl refl)

  pub pattern_opened : (node : NodeId) (pattern : TextAt) → part_of reader (pattern_expr node pattern) ≡ pattern_part reader node pattern
  pattern_opened node pattern =
      fold-roll-Expr (NodeId → Span → Part R) (Part R) (part_of_form reader) (λ e. e.form e.node e.span) (record { node = node; span = pattern.span; form = (pattern_expr node pattern).form })
      ∙ ap (λ f. f node pattern.span) (fold-roll-Form (NodeId → Span → Part R) (Part R) (part_of_form reader) (λ e. e.form e.node e.span) (Constant (value.Text pattern.text ∷ []) kind.Keyword))

-- all that is read of an expression, by one layer of its form
pub readings_opened : (expr : Expr) (form : Form) (layer : Form-F Form Expr) → expr.form ≡ form → out-Form form ≡ layer
    → readings_of expr ≡ readings_at expr.node expr.span (seen typing expr.node expr.span (layer_in Typing typing layer)) (seen judged expr.node expr.span (layer_in Judged judged layer))
    (seen regulars_in expr.node expr.span (layer_in (List Regular) regulars_in layer))
readings_opened expr form layer is opened = λ i. record {
  typing = (part_opened Typing typing expr form layer is opened i).reading;
  judged = (part_opened Judged judged expr form layer is opened i).reading;
  regulars = (part_opened (List Regular) regulars_in expr form layer is opened i).reading;
}

-- literals -----------------------------------------------------------------------------------------------------------------------

literal_alike : (R S : Type 0) (reader : Reader R) (other : Reader S) (layer : Form-F Form Expr) → literal_of (layer_in R reader layer) ≡ literal_of (layer_in S other layer)
literal_alike R S reader other (Constant cell kind) = refl
literal_alike R S reader other (Listed values) = refl
literal_alike R S reader other (Column name) = refl
literal_alike R S reader other (Group inner) = refl
literal_alike R S reader other (Call function args star) = refl
literal_alike R S reader other (Minus arg) = refl
literal_alike R S reader other (Not arg) = refl
literal_alike R S reader other (Binary op left right) = refl
literal_alike R S reader other (Within negated left items) = refl
literal_alike R S reader other (Like negated regex left pattern) = refl
literal_alike R S reader other (IsNull negated arg) = refl
literal_alike R S reader other (Cast arg kind) = refl

pub literal_same : (R : Type 0) (reader : Reader R) (expr : Expr) → (part_of reader expr).literal ≡ literal_of_expr expr
literal_same R reader expr = own_literal R reader expr ∙ literal_alike R Judged reader judged (out-Form expr.form) ∙ sym (own_literal Judged judged expr)

-- a literal has no pattern of its own
pub record HasNoPattern (read : Typing) : Type 0 where
  pub whole : read.whole ≡ []
  pub free : read.free ≡ []

constant_quiet : (node : NodeId) (span : Span) (text : List ℕ) (cell : List Value) (kind : Kind) → literal_of (layer_in Typing typing (Constant cell kind)) ≡ Some text
    → HasNoPattern (typing node span (seen typing node span (layer_in Typing typing (Constant cell kind))))
constant_quiet node span text [] kind is = absurd cc
constant_quiet node span text (value.Int number ∷ rest) kind is = absurd cc
constant_quiet node span text (value.Long number ∷ rest) kind is = absurd cc
constant_quiet node span text (value.Bool truth ∷ rest) kind is = absurd cc
constant_quiet node span text (value.Text own ∷ []) kind is = record { whole = refl; free = refl }
constant_quiet node span text (value.Text own ∷ next ∷ rest) kind is = absurd cc

layer_quiet : (node : NodeId) (span : Span) (text : List ℕ) (layer : Form-F Form Expr) → literal_of (layer_in Typing typing layer) ≡ Some text
    → HasNoPattern (typing node span (seen typing node span (layer_in Typing typing layer)))
layer_quiet node span text (Constant cell kind) is = constant_quiet node span text cell kind is
layer_quiet node span text (Listed values) is = absurd cc
layer_quiet node span text (Column name) is = absurd cc
layer_quiet node span text (Group inner) is = absurd cc
layer_quiet node span text (Call function args star) is = absurd cc
layer_quiet node span text (Minus arg) is = absurd cc
layer_quiet node span text (Not arg) is = absurd cc
layer_quiet node span text (Binary op left right) is = absurd cc
layer_quiet node span text (Within negated left items) is = absurd cc
layer_quiet node span text (Like negated regex left pattern) is = absurd cc
layer_quiet node span text (IsNull negated arg) is = absurd cc
layer_quiet node span text (Cast arg kind) is = absurd cc

pub literal_quiet : (expr : Expr) (text : List ℕ) → literal_of_expr expr ≡ Some text → HasNoPattern (part_of typing expr).reading
literal_quiet expr text is =
    let quiet = layer_quiet expr.node expr.span text (out-Form expr.form) (sym (own_literal Typing typing expr) ∙ literal_same Typing typing expr ∙ is) in
    let opened = part_opened Typing typing expr expr.form (out-Form expr.form) refl refl in
    record { whole = ap (λ (part : Part Typing). part.reading.whole) opened ∙ quiet.whole; free = ap (λ (part : Part Typing). part.reading.free) opened ∙ quiet.free }
