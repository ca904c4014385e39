-- A command writes what it is to write, and what the maker is not asked for it does not tell.
use Rattle.std.proofs.Common.{◌≡◌, ℕ, Bool, true, false, cond, List, [], ◌∷◌, Option, Some, None, Result, Ok, Err, ap, subst, ◌∙◌}
use Rattle.esql_types.specs.declared.places.Span.{Span}
use Rattle.esql_types.specs.declared.names.Column.{Column}
use Rattle.esql_types.specs.declared.value.Kind.{Kind}
use Rattle.esql_ast.specs.declared.query.EnrichItem.{EnrichItem}
use Rattle.esql_ast.specs.declared.query.NameAt.{NameAt}
use Rattle.esql_ast.specs.declared.query.Command.{Command}
use Rattle.esql_plan.specs.declared.catalog.Catalog.{Catalog}
use Rattle.esql_plan.specs.declared.catalog.PolicyShape.{PolicyShape}
use Rattle.plan_semantics.specs.Plans.{columns_of}
use Rattle.row_semantics.specs.declared.rule.NameRule.{NameRule}
use Rattle.row_semantics.specs.declared.rule.NameRule.TheVariants as rule
use Rattle.plan_semantics.specs.Taken.{kinds_match}
use Rattle.row_semantics.specs.Kinds.{breaks, and_then, kind_of_column}
use Rattle.row_semantics.specs.Scopes.{column_named}
use Rattle.row_semantics.specs.Regulars.{Regular, is_accepted}
use Rattle.query_semantics.specs.Appended.{FoundPolicy, policy_named, matched_name, matched_at}
use Rattle.query_semantics.specs.AppendedShapes.{unknown_field, unless_unknown, shape_of_matched, shape_of_policy, shape_of_enrich}
use Rattle.query_semantics.specs.Shapes.{Shape, shape_of_kind, unless_empty, shape_of_command}
use Rattle.query_semantics.specs.Writings.{Writing}
use Rattle.query_semantics.specs.Written.{write_kind, write_command}
use Rattle.expression_analysis.specs.declared.error.AnalyzeError.{AnalyzeError}
use Rattle.expression_analysis.specs.declared.error.AnalyzeError.TheVariants.{Broken as BrokenAt, PatternRoom, Memory}
use Rattle.expression_analysis.specs.Answers.{IsUntouched}
use Rattle.plan_writing.specs.declared.writing.Writing.{Writing as Made}
use Rattle.plan_writing.specs.Contexts.{over_catalog}
use Rattle.plan_writing.specs.Writings.{seen}
use Rattle.plan_writing.specs.Answers.{Writes, Hears}
use Rattle.plan_writing.proofs.Refusals.{refused_behind}
use Rattle.esql_analyze.proofs.ShapeStays.{kind_stays}

-- a shape that refuses no pattern
abbrev pub IsPlain : Shape → Type 0
IsPlain shape = (span : Span) → shape ≡ Err (record { rule = rule.BadRegex; span = span }) → ⊥

abbrev pub rule_in : Shape → Option NameRule
rule_in (Ok columns) = None
rule_in (Err broken) = Some broken.rule

-- another rule than that of patterns, or none
abbrev pub IsOther : Option NameRule → Type 0
IsOther None = Unit {0}
IsOther (Some rule.BadRegex) = ⊥
IsOther (Some other) = Unit {0}

pub other_plain : (shape : Shape) → IsOther (rule_in shape) → IsPlain shape
other_plain shape other span is = subst IsOther (ap rule_in is) other

pub empty_plain : (at : Span) (columns : List Column) → IsPlain (unless_empty at columns)
empty_plain at [] span is = other_plain (unless_empty at []) tt span is
empty_plain at (column ∷ columns) span is = other_plain (unless_empty at (column ∷ columns)) tt span is

-- ENRICH reads no pattern
either_plain : (is : Bool) (this that : Shape) → IsPlain this → IsPlain that → IsPlain (cond is this that)
either_plain true this that plain also = plain
either_plain false this that plain also = also

known_plain : (place : Option Span) (columns : List Column) → IsPlain (unless_unknown place columns)
known_plain None columns span is = other_plain (unless_unknown None columns) tt span is
known_plain (Some at) columns span is = other_plain (unless_unknown (Some at) columns) tt span is

column_plain : (column : Option Column) (at : Span) (next : Kind → Shape) → ((found : Kind) → IsPlain (next found)) → IsPlain (and_then (kind_of_column column at) next)
column_plain None at next later span is = other_plain (and_then (kind_of_column None at) next) tt span is
column_plain (Some column) at next later span is = later column.kind span is

policy_plain : (found : Option FoundPolicy) (policy : NameAt) (on : Option NameAt) (items : Option (List EnrichItem)) (columns : List Column) → IsPlain (shape_of_policy found policy on items columns)
policy_plain None policy on items columns span is = other_plain (shape_of_policy None policy on items columns) tt span is
policy_plain (Some found) policy on items columns span is =
    column_plain (column_named columns (matched_name found.shape on)) (matched_at policy on) (shape_of_matched found.shape (matched_at policy on) items columns)
    (λ kind. either_plain (kinds_match kind found.shape.match_field.kind) _ (breaks rule.BadKind (matched_at policy on)) (known_plain (unknown_field found.shape.fields items) _)
    (other_plain (breaks rule.BadKind (matched_at policy on)) tt)) span is

pub enrich_plain : (policies : List PolicyShape) (policy : NameAt) (on : Option NameAt) (items : Option (List EnrichItem)) (columns : List Column) → IsPlain (shape_of_enrich policies policy on items columns)
enrich_plain policies policy on items columns = policy_plain (policy_named policies policy.name) policy on items columns

-- what was heard before something that does not ask the maker
pub hears_then : {M : Type 0} (count : M → ℕ) (last : M → List ℕ) (these : List Regular) (old new : M) (shape : Shape) (written : Writing) (result : Result Made AnalyzeError) → IsPlain shape
    → Writes (λ accepts. shape) written result → IsUntouched count last old new → Hears count last these old new result
hears_then count last these old new shape written (Ok made) plain writes heard = heard
hears_then count last these old new shape written (Err (BrokenAt rule span)) plain writes heard = heard
hears_then count last these old new shape written (Err (PatternRoom span)) plain writes heard = absurd (plain span writes)
hears_then count last these old new shape written (Err (Memory error)) plain writes heard = heard

-- a command that has to leave a column
pub command_writes : (text : List ℕ) (catalog : Catalog) (command : Command) (old made : Made) (result : Result Made AnalyzeError)
    → (seen made ≡ write_kind text catalog.policies command.node command.kind (seen old)) × (shape_of_kind (over_catalog text catalog is_accepted) command.kind (columns_of old.visible) ≡ Ok (columns_of made.visible))
    → Writes (λ accepts. unless_empty command.span (columns_of made.visible)) (seen made) result
    → Writes (λ accepts. shape_of_command (over_catalog text catalog accepts) command (columns_of old.visible)) (write_command text catalog.policies (seen old) command) result
command_writes text catalog command old made (Ok new) first next = (next.0 ∙ first.0, ap (λ (found : Shape). and_then found (unless_empty command.span)) first.1 ∙ next.1)
command_writes text catalog command old made (Err error) first next =
    refused_behind (λ accepts. shape_of_kind (over_catalog text catalog accepts) command.kind (columns_of old.visible)) (λ accepts. unless_empty command.span) (columns_of made.visible) error
    (kind_stays text catalog command.kind (columns_of old.visible)) first.1 next
