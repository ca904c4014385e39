-- Steps that are well formed make each column once, as far as no Stats is among them.
use Rattle.std.proofs.Common.{◌≡◌, ℕ, ◌<◌, ◌≤◌, ◌==◌, Bool, false, List, [], ◌∷◌, ◌++◌, map, All, ap, sym, subst, ◌∙◌, append_assoc, arith}
use Rattle.std.specs.List.{flat_map, AllByRecursion, IsDistinct}
use Rattle.std.proofs.lemmas.List.{append-nil, map-append}
use Rattle.std.proofs.lemmas.Grind.{flat_map-append}
use Rattle.std.proofs.lemmas.List.Elements.{All-nil, All-cons, All-head, All-tail, All-append, All-map, All-weaker}
use Rattle.std.proofs.lemmas.Map.Keys.{IsDistinct-head, IsDistinct-tail, IsDistinct-cons}
use Rattle.esql_types.specs.declared.value.Kind.{Kind}
use Rattle.esql_types.specs.declared.names.ColId.{ColId}
use Rattle.esql_plan.specs.declared.catalog.Catalog.{Catalog}
use Rattle.esql_plan.specs.declared.plan.PlanSource.{PlanSource}
use Rattle.esql_plan.specs.declared.plan.PlanSource.TheVariants.{OneRow, Scan}
use Rattle.esql_plan.specs.declared.plan.ScanColumn.{ScanColumn}
use Rattle.esql_plan.specs.declared.plan.OutColumn.{OutColumn}
use Rattle.esql_plan.specs.declared.step.NewColumn.{NewColumn}
use Rattle.esql_plan.specs.declared.step.Step.{Step}
use Rattle.esql_plan.specs.declared.step.Step.TheVariants.{Eval, Filter, Sort, TopN, Limit, Expand, Stats, Dissect, Grok, Enrich}
use Rattle.esql_plan.proofs.TypedFolds.{map_map}
use Rattle.plan_semantics.specs.Steps.{is_stats}
use Rattle.plan_semantics.specs.WellFormed.{Bounds, MadeColumn, made_as, IsNew, kind_made, new_made, new_ids, NewStand, source_made, source_makes, step_made, step_makes, StepStands, StepsStand, SourceStands, AreOnce, AreMadeOnce}
use Rattle.plan_semantics.proofs.Keeps.{other_number, are_new}

abbrev same_number : ℕ → ℕ → Bool
same_number this that = this == that

abbrev Differ : ℕ → ℕ → Type 0
Differ this that = this == that ≡ false

by_recursion : {Item : Type 0} (P : Item → Type 0) (items : List Item) → All P items → AllByRecursion P items
by_recursion P [] all = tt
by_recursion P (item ∷ items) all = (All-head P item items all, by_recursion P items (All-tail P item items all))

both_by_recursion : {Item : Type 0} (P : Item → Type 0) (xs ys : List Item) → AllByRecursion P xs → AllByRecursion P ys → AllByRecursion P (xs ++ ys)
both_by_recursion P [] ys first second = second
both_by_recursion P (x ∷ xs) ys first second = (first.0, both_by_recursion P xs ys first.1 second)

-- numbers that differ, and others behind them that differ from these and among each other
pub distinct-append : (xs ys : List ℕ) → IsDistinct same_number xs → IsDistinct same_number ys → All (λ x. All (Differ x) ys) xs → IsDistinct same_number (xs ++ ys)
distinct-append [] ys first second apart = second
distinct-append (x ∷ xs) ys first second apart =
    IsDistinct-cons same_number x (xs ++ ys)
    (both_by_recursion (Differ x) xs ys (IsDistinct-head same_number x xs first) (by_recursion (Differ x) ys (All-head (λ x. All (Differ x) ys) x xs apart)))
    (distinct-append xs ys (IsDistinct-tail same_number x xs first) second (All-tail (λ x. All (Differ x) ys) x xs apart))

-- the column of this number is not made so far
abbrev IsFresh : List MadeColumn → ℕ → Type 0
IsFresh made id = All (λ (column : MadeColumn). id == column.id ≡ false) made

-- numbers that are not made so far, each once
record AreFresh (made : List MadeColumn) (ids : List ℕ) : Type 0 where
  new : All (IsFresh made) ids
  once : IsDistinct same_number ids

abbrev numbers_of : List ColId → List ℕ
numbers_of ids = map (λ (id : ColId). id.0) ids

none_fresh : (made : List MadeColumn) → AreFresh made []
unfolding IsDistinct
none_fresh made = record { new = All-nil (IsFresh made); once = tt }

-- a number more in front
one_fresh : (made : List MadeColumn) (to : ColId) (kind : Kind) → IsNew made to → (ids : List ℕ) → AreFresh (made_as to kind ∷ made) ids → AreFresh made (to.0 ∷ ids)
one_fresh made to kind new ids rest =
    let column : MadeColumn = made_as to kind in
    let Q : MadeColumn → ℕ → Type 0 = λ column id. id == column.id ≡ false in
    record {
      new = All-cons (IsFresh made) to.0 ids new (All-weaker (IsFresh (column ∷ made)) (IsFresh made) (λ id all. All-tail (λ (column : MadeColumn). Q column id) column made all) ids rest.new);
      once = IsDistinct-cons same_number to.0 ids
          (by_recursion (Differ to.0) ids (All-weaker (IsFresh (column ∷ made)) (Differ to.0) (λ id all. other_number id to.0 (All-head (λ (column : MadeColumn). Q column id) column made all)) ids rest.new))
          rest.once;
    }

-- columns more in front
behind_new : (made : List MadeColumn) (to : List NewColumn) (id : ℕ) → IsFresh (new_made to ++ made) id → IsFresh made id
behind_new made [] id fresh = fresh
behind_new made (one ∷ to) id fresh =
    behind_new made to id (All-tail (λ (column : MadeColumn). id == column.id ≡ false) (made_as one.id one.kind) (new_made to ++ made) fresh)

apart_of_new : (made : List MadeColumn) (to : List NewColumn) (ids : List ℕ) → All (IsFresh (new_made to ++ made)) ids → All (λ x. All (Differ x) ids) (numbers_of (new_ids to))
apart_of_new made [] ids fresh = All-nil (λ x. All (Differ x) ids)
apart_of_new made (one ∷ to) ids fresh =
    let rest : List MadeColumn = new_made to ++ made in
    let own : MadeColumn = made_as one.id one.kind in
    let Q : ℕ → MadeColumn → Type 0 = λ id column. id == column.id ≡ false in
    All-cons (λ x. All (Differ x) ids) one.id.0 (numbers_of (new_ids to))
    (All-weaker (IsFresh (own ∷ rest)) (Differ one.id.0) (λ id all. other_number id one.id.0 (All-head (Q id) own rest all)) ids fresh)
    (apart_of_new made to ids (All-weaker (IsFresh (own ∷ rest)) (IsFresh rest) (λ id all. All-tail (Q id) own rest all) ids fresh))

new_fresh : (bounds : Bounds) (made : List MadeColumn) (to : List NewColumn) → NewStand bounds made to → (later : List ColId)
    → AreFresh (new_made to ++ made) (numbers_of later) → AreFresh made (numbers_of (new_ids to ++ later))
new_fresh bounds made to stands later rest =
    let ids : List ℕ = numbers_of later in
    subst (AreFresh made) (sym (map-append (λ (id : ColId). id.0) (new_ids to) later)) (record {
      new = All-append (IsFresh made) (numbers_of (new_ids to)) ids
          (All-map (IsFresh made) (λ (id : ColId). id.0) (new_ids to) (All-map (λ (id : ColId). IsFresh made id.0) (λ (new : NewColumn). new.id) to (are_new bounds made to stands)))
          (All-weaker (IsFresh (new_made to ++ made)) (IsFresh made) (behind_new made to) ids rest.new);
      once = distinct-append (numbers_of (new_ids to)) ids stands.once rest.once (apart_of_new made to ids rest.new);
    })

abbrev IsNoStats : Step → Type 0
IsNoStats step = is_stats step ≡ false

module _ (bounds : Bounds) (output : List OutColumn) where
  steps_fresh : (made : List MadeColumn) (steps : List Step) → StepsStand bounds output made steps → All IsNoStats steps → AreFresh made (numbers_of (flat_map step_makes steps))
  steps_fresh made [] stands none = none_fresh made
  steps_fresh made (step ∷ steps) stands none = by_step step stands.0 (All-head IsNoStats step steps none) (steps_fresh (step_made made step) steps stands.1 (All-tail IsNoStats step steps none))
    where
      by_step : (step : Step) → StepStands bounds made step → IsNoStats step → AreFresh (step_made made step) (numbers_of (flat_map step_makes steps)) → AreFresh made (numbers_of (step_makes step ++ flat_map step_makes steps))
      by_step (Eval to expr) own isnt rest = one_fresh made to expr.kind own.1.new (numbers_of (flat_map step_makes steps)) rest
      by_step (Filter node condition) own isnt rest = rest
      by_step (Expand id to) own isnt rest = one_fresh made to (kind_made made id) own.1.new (numbers_of (flat_map step_makes steps)) rest
      by_step (Sort keys) own isnt rest = rest
      by_step (TopN keys count) own isnt rest = rest
      by_step (Limit count) own isnt rest = rest
      by_step (Stats aggregates groups) own isnt rest = absurd cc
      by_step (Dissect node input cutter pattern separator to) own isnt rest = new_fresh bounds made to own.cut.new (flat_map step_makes steps) rest
      by_step (Grok node input cutter pattern to) own isnt rest = new_fresh bounds made to own.cut.new (flat_map step_makes steps) rest
      by_step (Enrich policy on fields to) own isnt rest = new_fresh bounds made to own.new (flat_map step_makes steps) rest

  -- what is fresh differs from what is made
  apart_from : (columns : List ScanColumn) (ids : List ℕ) → All (IsFresh (map (λ (column : ScanColumn). made_as column.to column.kind) columns)) ids
      → All (λ x. All (Differ x) ids) (numbers_of (map (λ (column : ScanColumn). column.to) columns))
  apart_from [] ids fresh = All-nil (λ x. All (Differ x) ids)
  apart_from (column ∷ columns) ids fresh =
      let made : List MadeColumn = map (λ (column : ScanColumn). made_as column.to column.kind) columns in
      let own : MadeColumn = made_as column.to column.kind in
      let Q : ℕ → MadeColumn → Type 0 = λ id column. id == column.id ≡ false in
      All-cons (λ x. All (Differ x) ids) column.to.0 (numbers_of (map (λ (column : ScanColumn). column.to) columns))
      (All-weaker (IsFresh (own ∷ made)) (Differ column.to.0) (λ id all. other_number id column.to.0 (All-head (Q id) own made all)) ids fresh)
      (apart_from columns ids (All-weaker (IsFresh (own ∷ made)) (IsFresh made) (λ id all. All-tail (Q id) own made all) ids fresh))

  pub made_once : (catalog : Catalog) (source : PlanSource) (steps : List Step) → SourceStands catalog bounds source → StepsStand bounds output (source_made source) steps → All IsNoStats steps
      → AreMadeOnce source steps
  made_once catalog OneRow steps source stands none = (steps_fresh [] steps stands none).once
  made_once catalog (Scan numbers columns) steps source stands none =
      let later : List ColId = flat_map step_makes steps in
      let tos : List ColId = map (λ (column : ScanColumn). column.to) columns in
      let fresh = steps_fresh (source_made (Scan numbers columns)) steps stands none in
      subst (IsDistinct same_number) (sym (map-append (λ (id : ColId). id.0) tos later))
      (distinct-append (numbers_of tos) (numbers_of later)
      (subst (IsDistinct same_number) (sym (map_map (λ (id : ColId). id.0) (λ (column : ScanColumn). column.to) columns)) source.once)
      fresh.once (apart_from columns (numbers_of later) fresh.new))

-- a step at the end ---------------------------------------------------------------------------------------------------------------

other_than : (n m : ℕ) → n < m → n == m ≡ false
other_than n m less = grind arith

-- numbers below one, and others from it on
apart_below : (next : ℕ) (ids more : List ColId) → All (λ (id : ColId). id.0 < next) ids → All (λ (id : ColId). next ≤ id.0) more
    → All (λ x. All (Differ x) (numbers_of more)) (numbers_of ids)
apart_below next ids more below later =
    All-map (λ x. All (Differ x) (numbers_of more)) (λ (id : ColId). id.0) ids
    (All-weaker (λ (id : ColId). id.0 < next) (λ (id : ColId). All (Differ id.0) (numbers_of more))
    (λ id less. All-map (Differ id.0) (λ (one : ColId). one.0) more
    (All-weaker (λ (one : ColId). next ≤ one.0) (λ (one : ColId). Differ id.0 one.0) (λ one from. other_than id.0 one.0 (omega (arith, less, from))) more later)) ids below)

-- a step that makes new columns, whose numbers begin where those of the steps before end
pub once-push : (source : PlanSource) (steps : List Step) (last : Step) (next : ℕ) → AreMadeOnce source steps
    → All (λ (id : ColId). id.0 < next) (source_makes source ++ flat_map step_makes steps) → AreOnce (step_makes last) → All (λ (id : ColId). next ≤ id.0) (step_makes last)
    → AreMadeOnce source (steps ++ last ∷ [])
once-push source steps last next once below own later =
    let before : List ColId = source_makes source ++ flat_map step_makes steps in
    let same : source_makes source ++ flat_map step_makes (steps ++ last ∷ []) ≡ before ++ step_makes last =
    ap (λ (these : List ColId). source_makes source ++ these) (flat_map-append step_makes steps (last ∷ []))
    ∙ ap (λ (these : List ColId). source_makes source ++ (flat_map step_makes steps ++ these)) (append-nil (step_makes last))
    ∙ sym (append_assoc (source_makes source) (flat_map step_makes steps) (step_makes last)) in
    subst AreOnce (sym same)
    (subst (IsDistinct same_number) (sym (map-append (λ (id : ColId). id.0) before (step_makes last)))
    (distinct-append (numbers_of before) (numbers_of (step_makes last)) once own (apart_below next before (step_makes last) below later)))
