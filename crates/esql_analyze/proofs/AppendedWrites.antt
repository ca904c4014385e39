-- DISSECT and GROK write what they are to write: an input, and then one step of new columns.
use Rattle.std.proofs.Common.{◌≡◌, ℕ, ◌+◌, Bool, true, false, cond, List, [], ◌∷◌, ◌++◌, length, Option, Some, None, Result, Ok, Err, refl, ap, sym, subst, ◌∙◌}
use Rattle.esql_types.specs.declared.places.Span.{Span}
use Rattle.esql_types.specs.declared.value.Kind.{Kind}
use Rattle.esql_types.specs.declared.value.Kind.TheVariants as kind
use Rattle.esql_types.specs.declared.names.Column.{Column}
use Rattle.esql_types.specs.declared.names.ColId.{ColId}
use Rattle.esql_ast.specs.declared.expr.Expr.{Expr}
use Rattle.esql_ast.specs.Nodes.{nodes_of_expr}
use Rattle.esql_plan.specs.declared.plan.OutColumn.{OutColumn}
use Rattle.esql_plan.specs.declared.step.NewColumn.{NewColumn}
use Rattle.esql_plan.specs.declared.step.Step.{Step}
use Rattle.esql_plan.specs.Signatures.{is_kind}
use Rattle.dissect_grok.specs.declared.cutter.Cutter.{Cutter}
use Rattle.dissect_grok.specs.Patterns.{Reading, reading_of}
use Rattle.dissect_grok.specs.Groks.{GrokRead, grok_of}
use Rattle.plan_semantics.specs.Plans.{columns_of}
use Rattle.plan_semantics.specs.Taken.{columns_of_reading, columns_of_grok, dissect_columns, columns_in_grok}
use Rattle.row_semantics.specs.declared.rule.NameRule.TheVariants as rule
use Rattle.row_semantics.specs.Kinds.{breaks, and_then, kind_or_rule}
use Rattle.row_semantics.specs.Regulars.{Regular, is_accepted}
use Rattle.row_semantics.specs.Scopes.{Broken, elsewhere}
use Rattle.query_semantics.specs.Appended.{put_columns}
use Rattle.query_semantics.specs.AppendedShapes.{if_keyword, shape_of_reading, regular_of_grok, shape_of_grok_read}
use Rattle.query_semantics.specs.Shapes.{Shape}
use Rattle.query_semantics.specs.Writings.{Writing, put_visible, column_of_typed, typed_in, write_input_by, write_input, input_of}
use Rattle.query_semantics.specs.WrittenAppended.{put_new, new_columns, write_new}
use Rattle.query_semantics.proofs.Named.{columns_put}
use Rattle.expression_analysis.specs.declared.error.AnalyzeError.{AnalyzeError}
use Rattle.expression_analysis.specs.declared.error.AnalyzeError.TheVariants.{Broken as BrokenAt, PatternRoom, Memory}
use Rattle.expression_analysis.specs.Answers.{scope_of, IsRefusal, IsUntouched}
use Rattle.plan_writing.specs.declared.writing.Writing.{Writing as Made}
use Rattle.esql_analyze.specs.declared.appended.Appended.{Appended}
use Rattle.plan_writing.specs.Writings.{seen, HasRoom}
use Rattle.plan_writing.specs.Answers.{IsHeard}
use Rattle.esql_analyze.proofs.CommandWrites.{IsPlain, other_plain}
use Rattle.plan_writing.proofs.PlainRooms.{input_room}
use Rattle.plan_writing.proofs.Stays.{expr_stays}
use Rattle.plan_writing.proofs.Refusals.{refused_behind, refused_as}

-- new columns among those that can be seen are new columns of the shape
pub columns_new : (visible : List OutColumn) (columns : List Column) (next : ℕ) → columns_of (put_new visible columns next) ≡ put_columns (columns_of visible) columns
columns_new visible [] next = refl
columns_new visible (column ∷ columns) next =
    columns_new (put_visible visible column.name column.kind next) columns (next + 1)
    ∙ ap (λ (these : List Column). put_columns these columns) (sym (columns_put visible column.name column.kind next))

-- an input reads no cutter
pub input_cutters : (writing : Writing) (input : Expr) → (write_input writing input).cutters ≡ writing.cutters
input_cutters writing input = by_column (column_of_typed (typed_in writing input))
  where
    by_column : (found : Option ColId) → (write_input_by found input writing).cutters ≡ writing.cutters
    by_column (Some id) = refl
    by_column None = refl

-- new columns, and then the step that makes them
pub new_written : (columns : List Column) (cutters : List Cutter) (step_to : List NewColumn → Step) (old new : Made) (appended : Appended)
    → appended.writing.visible ≡ put_new old.visible columns old.next → appended.writing.next ≡ old.next + length columns → appended.writing.patterns ≡ old.patterns
    → appended.to ≡ new_columns old.next columns
    → new.visible ≡ appended.writing.visible → new.next ≡ appended.writing.next → new.patterns ≡ appended.writing.patterns → new.cutters ≡ old.cutters ++ cutters
    → new.steps ≡ old.steps ++ step_to appended.to ∷ []
    → seen new ≡ write_new columns cutters step_to (seen old)
new_written columns cutters step_to old new appended shown count read to visible next patterns cut steps =
    let all_visible = visible ∙ shown in
    let all_next = next ∙ count in
    let all_read = patterns ∙ read in
    let all_steps = steps ∙ ap (λ (these : List NewColumn). old.steps ++ step_to these ∷ []) to in
    λ i. record { visible = all_visible i; next = all_next i; whole = (all_read i).whole; free = (all_read i).free; cutters = cut i; steps = all_steps i }

-- the shape of new columns behind an input that is a keyword
keyword_shape : (input : Expr) (visible : List OutColumn) (found : Kind) (next : Shape) → kind_or_rule input (scope_of is_accepted visible) ≡ Ok found → is_kind kind.Keyword found ≡ true
    → and_then (kind_or_rule input (scope_of is_accepted visible)) (if_keyword input next) ≡ next
keyword_shape input visible found next is keyword =
    ap (λ (these : Result Kind Broken). and_then these (if_keyword input next)) is ∙ ap (λ (these : Bool). cond these next (breaks rule.BadKind input.span)) keyword

pub cut_writes : (input : Expr) (old mid new : Made) (found : Kind) (columns : List Column) (cutters : List Cutter) (step_to : List NewColumn → Step) (next : Shape)
    → seen mid ≡ write_input (seen old) input → mid.visible ≡ old.visible → kind_or_rule input (scope_of is_accepted old.visible) ≡ Ok found → is_kind kind.Keyword found ≡ true
    → next ≡ Ok (put_columns (columns_of old.visible) columns)
    → seen new ≡ write_new columns cutters step_to (seen mid)
    → (seen new ≡ write_new columns cutters step_to (write_input (seen old) input))
    × (and_then (kind_or_rule input (scope_of is_accepted old.visible)) (if_keyword input next) ≡ Ok (columns_of new.visible))
cut_writes input old mid new found columns cutters step_to next is same kinded keyword shaped written =
    let shown : columns_of new.visible ≡ put_columns (columns_of old.visible) columns =
    ap (λ (writing : Writing). columns_of writing.visible) written ∙ columns_new mid.visible columns mid.next ∙ ap (λ (these : List OutColumn). put_columns (columns_of these) columns) same in (
      written ∙ ap (λ (writing : Writing). write_new columns cutters step_to writing) is,
      keyword_shape input old.visible found next kinded keyword ∙ shaped ∙ ap (λ (these : List Column). let shape : Shape = Ok these in shape) (sym shown),
    )

-- an input that is no keyword
pub not_keyword : (input : Expr) (visible : List OutColumn) (found : Kind) (next : Shape) → kind_or_rule input (scope_of is_accepted visible) ≡ Ok found → is_kind kind.Keyword found ≡ false
    → and_then (kind_or_rule input (scope_of is_accepted visible)) (if_keyword input next) ≡ Err (record { rule = rule.BadKind; span = input.span })
not_keyword input visible found next is keyword =
    ap (λ (these : Result Kind Broken). and_then these (if_keyword input next)) is ∙ ap (λ (these : Bool). cond these next (breaks rule.BadKind input.span)) keyword

-- what is refused behind an input that is a keyword
pub pattern_refused : (input : Expr) (visible : List OutColumn) (found : Kind) (next : (Regular → Bool) → Shape) (error : AnalyzeError) → kind_or_rule input (scope_of is_accepted visible) ≡ Ok found
    → is_kind kind.Keyword found ≡ true → IsRefusal next error → IsRefusal (λ accepts. and_then (kind_or_rule input (scope_of accepts visible)) (if_keyword input (next accepts))) error
pattern_refused input visible found next error is keyword refused =
    let after : (Regular → Bool) → Kind → Shape = λ accepts found. if_keyword input (next accepts) found in
    refused_behind (λ accepts. kind_or_rule input (scope_of accepts visible)) after found error (expr_stays input (columns_of visible) elsewhere) is
    (refused_as (λ accepts. if_keyword input (next accepts) found) next error (λ accepts. ap (λ (these : Bool). cond these (next accepts) (breaks rule.BadKind input.span)) keyword) refused)

-- room for new columns is left behind the input
pub room_behind : (input : Expr) (old mid : Made) (more : ℕ) → seen mid ≡ write_input (seen old) input → HasRoom (seen old) (length (nodes_of_expr input) + more) → HasRoom (seen mid) more
room_behind input old mid more is room = subst (λ (writing : Writing). HasRoom writing more) (sym is) (input_room input (seen old) more room)

-- an input that is a keyword, and a step of new columns with its cutter
pub cut_written : (input : Expr) (old mid new : Made) (found : Kind) (id : ColId) (columns : List Column) (cutters own : List Cutter) (step_to : ColId → ℕ → List NewColumn → Step) (next : Shape)
    → seen mid ≡ write_input (seen old) input → mid.visible ≡ old.visible → kind_or_rule input (scope_of is_accepted old.visible) ≡ Ok found → is_kind kind.Keyword found ≡ true
    → id ≡ input_of (seen old) input → next ≡ Ok (put_columns (columns_of old.visible) columns) → own ≡ cutters
    → seen new ≡ write_new columns own (step_to id (length mid.cutters)) (seen mid)
    → (seen new ≡ write_new columns cutters (step_to (input_of (seen old) input) (length old.cutters)) (write_input (seen old) input))
    × (and_then (kind_or_rule input (scope_of is_accepted old.visible)) (if_keyword input next) ≡ Ok (columns_of new.visible))
cut_written input old mid new found id columns cutters own step_to next is same kinded keyword id_is shaped own_is written =
    let count : length mid.cutters ≡ length old.cutters = ap (λ (writing : Writing). length writing.cutters) is ∙ ap (λ (these : List Cutter). length these) (input_cutters (seen old) input) in
    cut_writes input old mid new found columns cutters (step_to (input_of (seen old) input) (length old.cutters)) next is same kinded keyword shaped
    (written ∙ (λ i. write_new columns (own_is i) (step_to (id_is i) (count i)) (seen mid)))

-- DISSECT ------------------------------------------------------------------------------------------------------------------

pub dissect_shape : (pattern separator : List ℕ) (span : Span) (columns : List Column) (reading : Reading) → reading_of pattern separator ≡ Some reading
    → shape_of_reading (reading_of pattern separator) span columns ≡ Ok (put_columns columns (dissect_columns pattern separator))
dissect_shape pattern separator span columns reading is =
    ap (λ (read : Option Reading). shape_of_reading read span columns) is
    ∙ ap (λ (read : Option Reading). let shape : Shape = Ok (put_columns columns (columns_of_reading read)) in shape) (sym is)

reading_plain : (read : Option Reading) (span : Span) (columns : List Column) → IsPlain (shape_of_reading read span columns)
reading_plain None span columns at is = other_plain (shape_of_reading None span columns) tt at is
reading_plain (Some reading) span columns at is = other_plain (shape_of_reading (Some reading) span columns) tt at is

-- what breaks no rule of patterns is not told of one
pub plain_heard : {M : Type 0} (count : M → ℕ) (last : M → List ℕ) (these : List Regular) (old new : M) (shape : Shape) (error : AnalyzeError) → IsPlain shape → IsRefusal (λ accepts. shape) error
    → IsUntouched count last old new → IsHeard count last these old new error
plain_heard count last these old new shape (BrokenAt rule span) plain refused heard = heard
plain_heard count last these old new shape (PatternRoom span) plain refused heard = absurd (plain span refused)
plain_heard count last these old new shape (Memory error) plain refused heard = heard

pub reading_heard : {M : Type 0} (count : M → ℕ) (last : M → List ℕ) (these : List Regular) (old new : M) (read : Option Reading) (span : Span) (columns : List Column) (error : AnalyzeError)
    → IsRefusal (λ accepts. shape_of_reading read span columns) error → IsUntouched count last old new → IsHeard count last these old new error
reading_heard count last these old new read span columns error refused heard =
    plain_heard count last these old new (shape_of_reading read span columns) error (reading_plain read span columns) refused heard

-- GROK ---------------------------------------------------------------------------------------------------------------------

pub grok_shape : (pattern : List ℕ) (span : Span) (columns : List Column) (read : GrokRead) → grok_of pattern ≡ Some read → is_accepted (regular_of_grok span read) ≡ true
    → shape_of_grok_read is_accepted (grok_of pattern) span columns ≡ Ok (put_columns columns (columns_in_grok pattern))
grok_shape pattern span columns read is accepted =
    ap (λ (these : Option GrokRead). shape_of_grok_read is_accepted these span columns) is
    ∙ ap (λ (these : Bool). let shape : Shape = cond these (Ok (put_columns columns (columns_of_grok (Some read)))) (breaks rule.BadRegex span) in shape) accepted
    ∙ ap (λ (these : Option GrokRead). let shape : Shape = Ok (put_columns columns (columns_of_grok these)) in shape) (sym is)
