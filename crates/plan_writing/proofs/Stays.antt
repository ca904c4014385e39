-- Where one more pattern is not accepted, a judgement is as it was, or it refuses at that pattern.
use Rattle.std.proofs.Common.{◌≡◌, ◌⊎◌, inl, inr, ℕ, ◌==◌, ◌&&◌, not, Bool, true, false, cond, List, [], ◌∷◌, map, Option, Some, None, Result, Ok, Err, refl, ap, sym, ◌∙◌, arith}
use Rattle.std.proofs.lemmas.Bool.Decides.{nat_tests}
use Rattle.esql_types.specs.declared.places.Span.{Span}
use Rattle.esql_types.specs.declared.value.Kind.{Kind}
use Rattle.esql_types.specs.declared.names.Column.{Column}
use Rattle.esql_types.specs.declared.names.NodeId.{NodeId}
use Rattle.esql_ast.specs.declared.expr.Expr.{Expr}
use Rattle.esql_plan.specs.declared.function.Function.{Function}
use Rattle.esql_plan.specs.declared.function.AggFunction.{AggFunction}
use Rattle.esql_plan.specs.Signatures.{misfit, kind_of_call}
use Rattle.row_semantics.specs.declared.rule.NameRule.TheVariants as rule
use Rattle.row_semantics.specs.Forms.{Part, Seen, constant, named, same, applied, aggregate, refused, Reader, read_by, function_in_plan, arguments_in_plan}
use Rattle.row_semantics.specs.Regulars.{Regular, is_accepted}
use Rattle.row_semantics.specs.Scopes.{Broken, Standing, elsewhere, in_field, Scope}
use Rattle.row_semantics.specs.Kinds.{Judged, judged, breaks, and_then, kinds_of_parts, kind_of_applied, wrong_literal, regular_of, first_place, if_accepted, fitting, kind_of_argument, kind_of_aggregate, kind_of_standing, kind_or_rule}
use Rattle.query_semantics.proofs.Readings.{parts_with, seen_with, read_made}
use Rattle.expression_analysis.specs.Answers.{accepted_but, same_span}

-- the judgement is as it was, or refuses at the place
abbrev pub Stays : {A : Type 0} → ((Regular → Bool) → Result A Broken) → Type 0
Stays judge = (span : Span) → (judge (accepted_but span) ≡ judge is_accepted) ⊎ (judge (accepted_but span) ≡ Err (record { rule = rule.BadRegex; span = span }))

follows : {A B : Type 0} (next : (Regular → Bool) → A → Result B Broken) → ((value : A) → Stays (λ accepts. next accepts value)) → (span : Span) (first but found : Result A Broken) → first ≡ found → but ≡ found
    → (and_then but (next (accepted_but span)) ≡ and_then first (next is_accepted)) ⊎ (and_then but (next (accepted_but span)) ≡ Err (record { rule = rule.BadRegex; span = span }))
follows next later span first but (Ok value) is also =
    let after = ap (λ r. and_then r (next (accepted_but span))) also in
    elim (later value span) [
      | inl stays ↦ inl (after ∙ stays ∙ sym (ap (λ r. and_then r (next is_accepted)) is))
      | inr refuses ↦ inr (after ∙ refuses)
    ]
follows next later span first but (Err broken) is also = inl (ap (λ r. and_then r (next (accepted_but span))) also ∙ sym (ap (λ r. and_then r (next is_accepted)) is))

pub then_stays : {A B : Type 0} (first : (Regular → Bool) → Result A Broken) (next : (Regular → Bool) → A → Result B Broken) → Stays first → ((value : A) → Stays (λ accepts. next accepts value))
    → Stays (λ accepts. and_then (first accepts) (next accepts))
then_stays first next stays later span =
    elim (stays span) [
      | inl as_before ↦ follows next later span (first is_accepted) (first (accepted_but span)) (first is_accepted) refl as_before
      | inr refuses ↦ inr (ap (λ r. and_then r (next (accepted_but span))) refuses)
    ]

-- a pattern is accepted as it was, or stands at the place and is not
place_is : (this that : Span) → (this.from == that.from && this.to == that.to) ≡ true → this ≡ that
place_is this that is =
    let from : this.from ≡ that.from = grind (arith, nat_tests) in
    let to : this.to ≡ that.to = grind (arith, nat_tests) in
    λ i. record { from = from i; to = to i }

but_cases : (span : Span) (regular : Regular) → (accepted_but span regular ≡ is_accepted regular) ⊎ ((accepted_but span regular ≡ false) × (regular.span ≡ span))
but_cases span regular = by_place (same_span span regular.span) refl (is_accepted regular)
  where
    by_place : (here : Bool) → same_span span regular.span ≡ here → (accepted : Bool) → ((accepted && not here) ≡ accepted) ⊎ (((accepted && not here) ≡ false) × (regular.span ≡ span))
    by_place true is true = inr (refl, sym (place_is span regular.span is))
    by_place true is false = inl refl
    by_place false is true = inl refl
    by_place false is false = inl refl

-- what follows where a pattern is accepted
pub regular_stays : {A : Type 0} (regular : Regular) (after : Result A Broken) → Stays (λ accepts. cond (accepts regular) after (breaks rule.BadRegex regular.span))
regular_stays regular after span =
    elim (but_cases span regular) [
      | inl stays ↦ inl (ap (λ (accepted : Bool). cond accepted after (breaks rule.BadRegex regular.span)) stays)
      | inr refuses ↦ inr (ap (λ (accepted : Bool). cond accepted after (breaks rule.BadRegex regular.span)) refuses.0 ∙ ap (λ (at : Span). breaks rule.BadRegex at) refuses.1)
    ]

accepted_stays : (found : Option Regular) (columns : List Column) (standing : Standing) (kind : Kind) → Stays (λ accepts. if_accepted found (record { columns = columns; standing = standing; accepts = accepts }) kind)
accepted_stays None columns standing kind span = inl refl
accepted_stays (Some regular) columns standing kind span = regular_stays regular (Ok kind) span

fitting_stays : (place : Option ℕ) (spans : List Span) (own : Span) (next : (Regular → Bool) → Result Kind Broken) → Stays next → Stays (λ accepts. fitting place spans own (next accepts))
fitting_stays None spans own next stays span = stays span
fitting_stays (Some place) spans own next stays span = inl refl

-- a judgement of an expression that stays
record Spared : Type 0 where
  judges : Judged
  is : (columns : List Column) (standing : Standing) → Stays (λ accepts. judges (record { columns = columns; standing = standing; accepts = accepts }))

abbrev the_judged : Spared → Judged
the_judged spared = spared.judges

kinds_stay : (parts : List (Part Spared)) (columns : List Column) (standing : Standing) → Stays (λ accepts. kinds_of_parts (parts_with the_judged parts) (record { columns = columns; standing = standing; accepts = accepts }))
kinds_stay [] columns standing span = inl refl
kinds_stay (part ∷ parts) columns standing span =
    let scope : (Regular → Bool) → Scope = λ accepts. record { columns = columns; standing = standing; accepts = accepts } in
    let rest : (Regular → Bool) → Result (List Kind) Broken = λ accepts. kinds_of_parts (parts_with the_judged parts) (scope accepts) in
    let next : (Regular → Bool) → Kind → Result (List Kind) Broken = λ accepts kind. and_then (rest accepts) (λ kinds. Ok (kind ∷ kinds)) in
    let last : Kind → (Regular → Bool) → List Kind → Result (List Kind) Broken = λ kind accepts kinds. Ok (kind ∷ kinds) in
    then_stays (λ accepts. part.reading.judges (scope accepts)) next (part.reading.is columns standing)
    (λ kind. then_stays rest (last kind) (kinds_stay parts columns standing) (λ kinds span. inl refl)) span

aggregate_stays : (function : AggFunction) (star : Bool) (parts : List (Part Spared)) (own : Span) (columns : List Column) (standing : Standing)
    → Stays (λ accepts. kind_of_aggregate function star (parts_with the_judged parts) own (record { columns = columns; standing = standing; accepts = accepts }))
aggregate_stays function true parts own columns standing span = inl refl
aggregate_stays function false [] own columns standing span = inl refl
aggregate_stays function false (part ∷ []) own columns standing span =
    let next : (Regular → Bool) → Kind → Result Kind Broken = λ accepts kind. kind_of_argument function kind part.span in
    then_stays (λ accepts. part.reading.judges (record { columns = columns; standing = elsewhere; accepts = accepts })) next (part.reading.is columns elsewhere) (λ kind span. inl refl) span
aggregate_stays function false (part ∷ more ∷ parts) own columns standing span = inl refl

standing_stays : (function : AggFunction) (star : Bool) (parts : List (Part Spared)) (own : Span) (columns : List Column) (standing : Standing)
    → Stays (λ accepts. kind_of_standing standing function star (parts_with the_judged parts) own (record { columns = columns; standing = standing; accepts = accepts }))
standing_stays function star parts own columns elsewhere span = inl refl
standing_stays function star parts own columns in_field span = aggregate_stays function star parts own columns in_field span

applied_stays : (function : Function) (these : List (Part Judged)) (kinds : List Kind) (own : Span) (columns : List Column) (standing : Standing)
    → Stays (λ accepts. kind_of_applied function these kinds own (record { columns = columns; standing = standing; accepts = accepts }))
applied_stays function these kinds own columns standing =
    let kind : Kind = kind_of_call (function_in_plan function these) (arguments_in_plan function kinds) in
    fitting_stays (first_place (misfit (function_in_plan function these) (arguments_in_plan function kinds)) (wrong_literal function these)) (map (λ (part : Part Judged). part.span) these) own
    (λ accepts. if_accepted (regular_of function these) (record { columns = columns; standing = standing; accepts = accepts }) kind)
    (accepted_stays (regular_of function these) columns standing kind)

judged_stays : (node : NodeId) (own : Span) (seen : Seen Spared) (columns : List Column) (standing : Standing)
    → Stays (λ accepts. judged node own (seen_with the_judged seen) (record { columns = columns; standing = standing; accepts = accepts }))
judged_stays node own (constant values kind) columns standing span = inl refl
judged_stays node own (named name) columns standing span = inl refl
judged_stays node own (same part) columns standing span = part.reading.is columns standing span
judged_stays node own (applied function parts) columns standing span =
    let these : List (Part Judged) = parts_with the_judged parts in
    let scope : (Regular → Bool) → Scope = λ accepts. record { columns = columns; standing = standing; accepts = accepts } in
    let next : (Regular → Bool) → List Kind → Result Kind Broken = λ accepts kinds. kind_of_applied function these kinds own (scope accepts) in
    then_stays (λ accepts. kinds_of_parts these (scope accepts)) next (kinds_stay parts columns standing)
    (λ kinds. applied_stays function these kinds own columns standing) span
judged_stays node own (aggregate function star parts) columns standing span = standing_stays function star parts own columns standing span
judged_stays node own (refused parts rule at) columns standing span =
    let these : List (Part Judged) = parts_with the_judged parts in
    let next : (Regular → Bool) → List Kind → Result Kind Broken = λ accepts kinds. breaks rule at in
    then_stays (λ accepts. kinds_of_parts these (record { columns = columns; standing = standing; accepts = accepts })) next (kinds_stay parts columns standing) (λ kinds span. inl refl) span

abbrev spared : Reader Spared
spared node own seen = record { judges = judged node own (seen_with the_judged seen); is = judged_stays node own seen }

-- where one more pattern is not accepted, an expression has the kind that it had, or breaks the rule at that pattern
pub expr_stays : (expr : Expr) (columns : List Column) (standing : Standing) → Stays (λ accepts. kind_or_rule expr (record { columns = columns; standing = standing; accepts = accepts }))
expr_stays expr columns standing span =
    let read : kind_or_rule expr ≡ (read_by spared expr).judges = read_made Spared Judged spared judged the_judged (record { is = λ node own seen. refl }) expr in
    let at : (accepts : Regular → Bool) → kind_or_rule expr (record { columns = columns; standing = standing; accepts = accepts }) ≡ (read_by spared expr).judges (record { columns = columns; standing = standing; accepts = accepts }) =
    λ accepts. ap (λ (judges : Judged). judges (record { columns = columns; standing = standing; accepts = accepts })) read in
    elim ((read_by spared expr).is columns standing span) [
      | inl stays ↦ inl (at (accepted_but span) ∙ stays ∙ sym (at is_accepted))
      | inr refuses ↦ inr (at (accepted_but span) ∙ refuses)
    ]
