-- KEEP, DROP and RENAME write what they are to write, and are refused as their shapes are.
use Rattle.std.proofs.Common.{◌≡◌, ℕ, cond, List, map, Option, None, Ok, Err, ap, sym, subst, ◌∙◌}
use Rattle.esql_types.specs.declared.places.Span.{Span}
use Rattle.esql_types.specs.declared.names.Column.{Column}
use Rattle.name_rules.specs.declared.kept.NameError.{NameError}
use Rattle.name_rules.specs.declared.kept.NameError.TheVariants as pattern_error
use Rattle.name_rules.specs.declared.names.RenameError.{RenameError}
use Rattle.name_rules.specs.declared.names.RenameError.TheVariants as pair_error
use Rattle.esql_ast.specs.declared.query.NamePattern.{NamePattern}
use Rattle.esql_ast.specs.declared.query.RenamePair.{RenamePair}
use Rattle.name_rules.specs.NameRules.{Renaming, first_unmet, first_missing, keep_places, drop_places, at_places, renamings, renamed_by}
use Rattle.name_rules.specs.NamePlaces.{IsNameRefusal, IsRenameRefusal}
use Rattle.esql_plan.specs.declared.plan.OutColumn.{OutColumn}
use Rattle.plan_semantics.specs.Plans.{columns_of}
use Rattle.row_semantics.specs.declared.rule.NameRule.{NameRule}
use Rattle.row_semantics.specs.declared.rule.NameRule.TheVariants as rule
use Rattle.row_semantics.specs.Columns.{names_of}
use Rattle.query_semantics.specs.Shapes.{Shape, unless_unmet, shape_of_keep, shape_of_drop, unless_missing, shape_of_rename}
use Rattle.query_semantics.specs.Writings.{visible_names, visible_as}
use Rattle.query_semantics.specs.Written.{write_keep, write_drop, write_rename}
use Rattle.query_semantics.proofs.Named.{names_of-columns, columns-kept, columns-left, columns-renamed}
use Rattle.expression_analysis.specs.declared.error.AnalyzeError.{AnalyzeError}
use Rattle.expression_analysis.specs.declared.error.AnalyzeError.TheVariants.{Broken as BrokenAt, PatternRoom, Memory}
use Rattle.expression_analysis.specs.Answers.{IsRefusal}
use Rattle.plan_writing.specs.declared.writing.Writing.{Writing as Made}
use Rattle.plan_writing.specs.declared.columns.Apart.{Apart}
use Rattle.visible_columns.specs.Columns.{shown_of}
use Rattle.plan_writing.specs.Writings.{seen, joined, shown_under}
use Rattle.esql_analyze.specs.Names.{IsMemory, IsPatternError, IsPairError}
use Rattle.plan_writing.proofs.Parted.{joined_apart, shown_renamed}

-- the columns whose names were taken apart
pub apart_is : (visible : List OutColumn) (apart : Apart) → apart.names ≡ visible_names visible → apart.shown ≡ map shown_of visible → joined apart.names apart.shown ≡ visible
apart_is visible apart names shown = (λ i. joined (names i) (shown i)) ∙ joined_apart visible

pub kept_writes : (patterns : List NamePattern) (old new : Made) (apart : Apart) (places : List ℕ) → apart.names ≡ visible_names old.visible → apart.shown ≡ map shown_of old.visible
    → places ≡ keep_places apart.names patterns → first_unmet apart.names patterns ≡ None
    → new.visible ≡ at_places places (joined apart.names apart.shown) → new.next ≡ old.next → new.patterns ≡ old.patterns → new.cutters ≡ old.cutters → new.steps ≡ old.steps
    → (seen new ≡ write_keep patterns (seen old)) × (shape_of_keep patterns (columns_of old.visible) ≡ Ok (columns_of new.visible))
kept_writes patterns old new apart places names shown are met visible next read cut steps =
    let written : new.visible ≡ at_places (keep_places (visible_names old.visible) patterns) old.visible = visible ∙ (λ i. at_places ((are ∙ ap (λ these. keep_places these patterns) names) i) (apart_is old.visible apart names shown i)) in
    let unmet : first_unmet (names_of (columns_of old.visible)) patterns ≡ None = ap (λ these. first_unmet these patterns) (names_of-columns old.visible ∙ sym names) ∙ met in (
      (λ i. record { visible = written i; next = next i; whole = (read i).whole; free = (read i).free; cutters = cut i; steps = steps i }),
      (λ i. unless_unmet (unmet i) (columns-kept patterns old.visible i)) ∙ ap (λ (these : List OutColumn). let shape : Shape = Ok (columns_of these) in shape) (sym written),
    )

pub left_writes : (patterns : List NamePattern) (old new : Made) (apart : Apart) (places : List ℕ) → apart.names ≡ visible_names old.visible → apart.shown ≡ map shown_of old.visible
    → places ≡ drop_places apart.names patterns → first_unmet apart.names patterns ≡ None
    → new.visible ≡ at_places places (joined apart.names apart.shown) → new.next ≡ old.next → new.patterns ≡ old.patterns → new.cutters ≡ old.cutters → new.steps ≡ old.steps
    → (seen new ≡ write_drop patterns (seen old)) × (shape_of_drop patterns (columns_of old.visible) ≡ Ok (columns_of new.visible))
left_writes patterns old new apart places names shown are met visible next read cut steps =
    let written : new.visible ≡ at_places (drop_places (visible_names old.visible) patterns) old.visible = visible ∙ (λ i. at_places ((are ∙ ap (λ these. drop_places these patterns) names) i) (apart_is old.visible apart names shown i)) in
    let unmet : first_unmet (names_of (columns_of old.visible)) patterns ≡ None = ap (λ these. first_unmet these patterns) (names_of-columns old.visible ∙ sym names) ∙ met in (
      (λ i. record { visible = written i; next = next i; whole = (read i).whole; free = (read i).free; cutters = cut i; steps = steps i }),
      (λ i. unless_unmet (unmet i) (columns-left patterns old.visible i)) ∙ ap (λ (these : List OutColumn). let shape : Shape = Ok (columns_of these) in shape) (sym written),
    )

pub renamed_writes : (pairs : List RenamePair) (old new : Made) (apart : Apart) (renamed : List Renaming) → apart.names ≡ visible_names old.visible → apart.shown ≡ map shown_of old.visible
    → renamed ≡ renamings apart.names pairs → first_missing apart.names pairs ≡ None
    → new.visible ≡ shown_under renamed apart.shown → new.next ≡ old.next → new.patterns ≡ old.patterns → new.cutters ≡ old.cutters → new.steps ≡ old.steps
    → (seen new ≡ write_rename pairs (seen old)) × (shape_of_rename pairs (columns_of old.visible) ≡ Ok (columns_of new.visible))
renamed_writes pairs old new apart renamed names shown are there visible next read cut steps =
    let written : new.visible ≡ renamed_by visible_as (renamings (visible_names old.visible) pairs) old.visible =
    visible ∙ (λ i. shown_under ((are ∙ ap (λ these. renamings these pairs) names) i) (shown i)) ∙ shown_renamed (renamings (visible_names old.visible) pairs) old.visible in
    let missing : first_missing (names_of (columns_of old.visible)) pairs ≡ None = ap (λ these. first_missing these pairs) (names_of-columns old.visible ∙ sym names) ∙ there in (
      (λ i. record { visible = written i; next = next i; whole = (read i).whole; free = (read i).free; cutters = cut i; steps = steps i }),
      (λ i. unless_missing (missing i) (columns-renamed pairs old.visible i)) ∙ ap (λ (these : List OutColumn). let shape : Shape = Ok (columns_of these) in shape) (sym written),
    )

-- refusals ------------------------------------------------------------------------------------------------------------------

pub as_told : (judge : Shape) (told : AnalyzeError) (own : NameRule) (at : Span) → told ≡ BrokenAt own at → judge ≡ Err (record { rule = own; span = at }) → IsRefusal (λ accepts. judge) told
as_told judge told own at is refused = subst (IsRefusal (λ accepts. judge)) (sym is) refused

pub in_memory : (judge : Shape) (told : AnalyzeError) → IsMemory told → IsRefusal (λ accepts. judge) told
in_memory judge (BrokenAt rule span) memory = absurd memory
in_memory judge (PatternRoom span) memory = absurd memory
in_memory judge (Memory error) memory = tt

-- a pattern that no column meets is told as its shape says
pub pattern_told : (names : List (List ℕ)) (patterns : List NamePattern) (columns these : List Column) (error : NameError) (told : AnalyzeError) → names_of columns ≡ names
    → IsNameRefusal names patterns error → IsPatternError error told → IsRefusal (λ accepts. unless_unmet (first_unmet (names_of columns) patterns) these) told
pattern_told names patterns columns these (pattern_error.UnknownColumn span) told are (pattern, unmet, wild, at) is =
    as_told (unless_unmet (first_unmet (names_of columns) patterns) these) told rule.UnknownColumn span is
    (ap (λ (found : Option NamePattern). unless_unmet found these) (ap (λ own. first_unmet own patterns) are ∙ unmet)
    ∙ (λ i. Err (record { rule = cond (wild i) rule.NoMatch rule.UnknownColumn; span = at i })))
pattern_told names patterns columns these (pattern_error.NoMatch span) told are (pattern, unmet, wild, at) is =
    as_told (unless_unmet (first_unmet (names_of columns) patterns) these) told rule.NoMatch span is
    (ap (λ (found : Option NamePattern). unless_unmet found these) (ap (λ own. first_unmet own patterns) are ∙ unmet)
    ∙ (λ i. Err (record { rule = cond (wild i) rule.NoMatch rule.UnknownColumn; span = at i })))
pattern_told names patterns columns these (pattern_error.Memory error) told are refused is = in_memory (unless_unmet (first_unmet (names_of columns) patterns) these) told is

-- a pair whose old name is not there is told as its shape says
pub pair_told : (names : List (List ℕ)) (pairs : List RenamePair) (columns these : List Column) (error : RenameError) (told : AnalyzeError) → names_of columns ≡ names
    → IsRenameRefusal names pairs error → IsPairError error told → IsRefusal (λ accepts. unless_missing (first_missing (names_of columns) pairs) these) told
pair_told names pairs columns these (pair_error.UnknownColumn span) told are (pair, missing, at) is =
    as_told (unless_missing (first_missing (names_of columns) pairs) these) told rule.UnknownColumn span is
    (ap (λ (found : Option RenamePair). unless_missing found these) (ap (λ own. first_missing own pairs) are ∙ missing)
    ∙ (λ i. Err (record { rule = rule.UnknownColumn; span = at i })))
pair_told names pairs columns these (pair_error.Memory error) told are refused is = in_memory (unless_missing (first_missing (names_of columns) pairs) these) told is
