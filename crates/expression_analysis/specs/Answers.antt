-- What the analysis of an expression answers.
use Rattle.std.specs.Prelude.{◌≡◌, ◌⊎◌, ℕ, ◌==◌, Bool, true, not, ◌&&◌, List, [], ◌∷◌, ◌++◌, Option, Some, None, Result, Ok, Err}
use Rattle.std.specs.List.{flat_map}
use Rattle.esql_types.specs.declared.places.Span.{Span}
use Rattle.esql_types.specs.Counts.{Rose}
use Rattle.esql_ast.specs.declared.expr.Expr.{Expr}
use Rattle.esql_plan.specs.declared.plan.OutColumn.{OutColumn}
use Rattle.function_rules.specs.Found.{wrapped}
use Rattle.plan_semantics.specs.Plans.{columns_of}
use Rattle.row_semantics.specs.declared.rule.NameRule.TheVariants.{BadRegex}
use Rattle.row_semantics.specs.Forms.{Part, constant, named, same, applied, aggregate, refused, Reader, read_by}
use Rattle.row_semantics.specs.Kinds.{regular_of}
use Rattle.row_semantics.specs.Regulars.{Regular, is_accepted}
use Rattle.row_semantics.specs.Scopes.{Broken, elsewhere, in_field, Scope}
use Rattle.row_semantics.specs.Typed.{Visible}
use Rattle.expression_analysis.specs.declared.error.AnalyzeError.{AnalyzeError}
use Rattle.expression_analysis.specs.declared.error.AnalyzeError.TheVariants as error

-- the columns that can be seen, outside aggregates
abbrev pub visible_of : List OutColumn → Visible
visible_of columns = record { columns = columns; calls = [] }

-- what an expression over these columns is judged by, outside STATS
abbrev pub scope_of : (Regular → Bool) → List OutColumn → Scope
scope_of accepts columns = record { columns = columns_of columns; standing = elsewhere; accepts = accepts }

-- what an expression over these columns is judged by, in a field of STATS
abbrev pub field_scope_of : (Regular → Bool) → List OutColumn → Scope
field_scope_of accepts columns = record { columns = columns_of columns; standing = in_field; accepts = accepts }

abbrev pub same_span : Span → Span → Bool
same_span left right = left.from == right.from && left.to == right.to

-- every regular expression that is readable, but for one at this place
abbrev pub accepted_but : Span → Regular → Bool
accepted_but span regular = is_accepted regular && not (same_span span regular.span)

-- An answer of analysis is right by what a judgement gives: the broken rule is the judgement's; at a pattern that was too large,
-- the judgement would refuse there if that pattern were not accepted.
abbrev pub IsRefusal : {A : Type 0} → ((Regular → Bool) → Result A Broken) → AnalyzeError → Type 0
IsRefusal judge (error.Broken rule span) = judge is_accepted ≡ Err (record { rule = rule; span = span })
IsRefusal judge (error.PatternRoom span) = judge (accepted_but span) ≡ Err (record { rule = BadRegex; span = span })
IsRefusal judge (error.Memory error) = Unit {0}

abbrev pub regulars_in_option : Option Regular → List Regular
regulars_in_option None = []
regulars_in_option (Some regular) = regular ∷ []

abbrev pub regulars_of_parts : List (Part (List Regular)) → List Regular
regulars_of_parts parts = flat_map (λ part. part.reading) parts

-- the regular expressions of an expression by its form: those of its parts, then its own
abbrev pub regulars_in : Reader (List Regular)
regulars_in node span (constant values kind) = []
regulars_in node span (named name) = []
regulars_in node span (same part) = part.reading
regulars_in node span (applied function parts) = regulars_of_parts parts ++ regulars_in_option (regular_of function parts)
regulars_in node span (aggregate function star parts) = regulars_of_parts parts
regulars_in node span (refused parts rule at) = regulars_of_parts parts

-- the regular expressions that stand in an expression, from the left
abbrev pub regulars_of_expr : Expr → List Regular
regulars_of_expr = read_by regulars_in

-- the regular expression stands at the place, and the noted pattern is its text, or its wrapped text where it has to match whole texts
pub record IsNoted (regular : Regular) (span : Span) (noted : List ℕ) : Type 0 where
  pub place : regular.span ≡ span
  pub text : (noted ≡ regular.text) ⊎ ((regular.is_whole ≡ true) × (noted ≡ wrapped regular.text))

-- one of the regular expressions stands at the place with the noted pattern
abbrev pub OneIsNoted : List Regular → Span → List ℕ → Type 0
OneIsNoted [] span noted = ⊥
OneIsNoted (regular ∷ regulars) span noted = IsNoted regular span noted ⊎ OneIsNoted regulars span noted

-- The maker told of a pattern that was too large: it counted the refusal and noted the pattern.
pub record Told (regulars : List Regular) (span : Span) (old_count new_count : ℕ) (noted : List ℕ) : Type 0 where
  pub rose : Rose old_count new_count
  pub noted_one : OneIsNoted regulars span noted

abbrev pub IsTold : {M : Type 0} → (M → ℕ) → (M → List ℕ) → List Regular → M → M → AnalyzeError → Type 0
IsTold count last regulars old new (error.Broken rule span) = Unit {0}
IsTold count last regulars old new (error.PatternRoom span) = Told regulars span (count old) (count new) (last new)
IsTold count last regulars old new (error.Memory error) = Unit {0}

-- The maker's count and note are as before, but where a pattern was too large.
pub record IsUntouched {M : Type 0} (count : M → ℕ) (last : M → List ℕ) (old new : M) : Type 0 where
  pub counted : count new ≡ count old
  pub noted : last new ≡ last old

abbrev pub IsQuietAt : {M : Type 0} → (M → ℕ) → (M → List ℕ) → M → M → AnalyzeError → Type 0
IsQuietAt count last old new (error.Broken rule span) = IsUntouched count last old new
IsQuietAt count last old new (error.PatternRoom span) = Unit {0}
IsQuietAt count last old new (error.Memory error) = IsUntouched count last old new

abbrev pub IsQuiet : {M A : Type 0} → (M → ℕ) → (M → List ℕ) → M → M → Result A AnalyzeError → Type 0
IsQuiet count last old new (Ok value) = IsUntouched count last old new
IsQuiet count last old new (Err error) = IsQuietAt count last old new error
