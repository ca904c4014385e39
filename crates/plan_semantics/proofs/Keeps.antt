-- A step of a well formed plan keeps the columns that are made before it.
use Rattle.std.proofs.Common.{◌≡◌, ℕ, ◌==◌, Bool, true, false, List, [], ◌∷◌, map, length, All, refl, ◌∙◌, if◌then◌else◌, arith}
use Rattle.std.proofs.lemmas.List.Elements.{All-nil, All-cons, All-head, All-tail, All-weaker}
use Rattle.esql_types.specs.declared.value.Value.{Value}
use Rattle.esql_types.specs.declared.names.ColId.{ColId}
use Rattle.esql_plan.specs.declared.step.NewColumn.{NewColumn}
use Rattle.esql_plan.specs.declared.step.Step.{Step}
use Rattle.esql_plan.specs.declared.step.Step.TheVariants.{Eval, Filter, Sort, TopN, Limit, Expand, Stats, Dissect, Grok, Enrich}
use Rattle.esql_plan.specs.Values.{NumberedRow, value_of_typed}
use Rattle.plan_semantics.specs.Tables.{CatalogHeld, with_cell}
use Rattle.plan_semantics.specs.Steps.{is_true, expanded, step_gives}
use Rattle.plan_semantics.specs.Taken.{dissected, grokked, enriched, with_new}
use Rattle.plan_semantics.specs.WellFormed.{Bounds, MadeColumn, IsNew, MakesNew, NewStand, StepStands}
use Rattle.plan_semantics.specs.Laws.{IsKept}

pub other_number : (n m : ℕ) → n == m ≡ false → m == n ≡ false
other_number n m is = grind arith

pub cell_kept : (row : NumberedRow) (id other : ℕ) (cell : List Value) → id == other ≡ false → with_cell row id cell other ≡ row other
cell_kept row id other cell is = by_case (other == id) (other_number id other is)
  where
    by_case : (b : Bool) → b ≡ false → (if b then cell else row other) ≡ row other
    by_case false is = refl
    by_case true is = absurd cc

pub kept_at_new : (made : List MadeColumn) (to : ColId) (row : NumberedRow) (cell : List Value) → IsNew made to → IsKept made row (with_cell row to.0 cell)
kept_at_new [] to row cell new = All-nil (λ (column : MadeColumn). with_cell row to.0 cell column.id ≡ row column.id)
kept_at_new (column ∷ made) to row cell new =
    All-cons (λ (column : MadeColumn). with_cell row to.0 cell column.id ≡ row column.id) column made
    (cell_kept row to.0 column.id cell (All-head (λ (column : MadeColumn). to.0 == column.id ≡ false) column made new))
    (kept_at_new made to row cell (All-tail (λ (column : MadeColumn). to.0 == column.id ≡ false) column made new))

pub kept_itself : (made : List MadeColumn) (row : NumberedRow) → IsKept made row row
kept_itself [] row = All-nil (λ (column : MadeColumn). row column.id ≡ row column.id)
kept_itself (column ∷ made) row = All-cons (λ (column : MadeColumn). row column.id ≡ row column.id) column made refl (kept_itself made row)

pub kept_through : (made : List MadeColumn) (first middle last : NumberedRow) → IsKept made first middle → IsKept made middle last → IsKept made first last
kept_through [] first middle last these those = All-nil (λ (column : MadeColumn). last column.id ≡ first column.id)
kept_through (column ∷ made) first middle last these those =
    let P : MadeColumn → Type 0 = λ column. middle column.id ≡ first column.id in
    let Q : MadeColumn → Type 0 = λ column. last column.id ≡ middle column.id in
    All-cons (λ (column : MadeColumn). last column.id ≡ first column.id) column made
    (All-head Q column made those ∙ All-head P column made these)
    (kept_through made first middle last (All-tail P column made these) (All-tail Q column made those))

-- the columns of a step are new
abbrev pub AreNew : List MadeColumn → List NewColumn → Type 0
AreNew made to = All (λ (new : NewColumn). IsNew made new.id) to

pub are_new : (bounds : Bounds) (made : List MadeColumn) (to : List NewColumn) → NewStand bounds made to → AreNew made to
are_new bounds made to stands = All-weaker (λ (new : NewColumn). MakesNew bounds made new.id) (λ (new : NewColumn). IsNew made new.id) (λ new own. own.new) to stands.new

pub kept_at_all : (made : List MadeColumn) (to : List NewColumn) (cells : List (List Value)) (row : NumberedRow) → AreNew made to → IsKept made row (with_new row to cells)
kept_at_all made [] cells row new = kept_itself made row
kept_at_all made (one ∷ to) [] row new =
    let next = with_cell row one.id.0 [] in
    kept_through made row next (with_new next to [])
    (kept_at_new made one.id row [] (All-head (λ (new : NewColumn). IsNew made new.id) one to new))
    (kept_at_all made to [] next (All-tail (λ (new : NewColumn). IsNew made new.id) one to new))
kept_at_all made (one ∷ to) (cell ∷ cells) row new =
    let next = with_cell row one.id.0 cell in
    kept_through made row next (with_new next to cells)
    (kept_at_new made one.id row cell (All-head (λ (new : NewColumn). IsNew made new.id) one to new))
    (kept_at_all made to cells next (All-tail (λ (new : NewColumn). IsNew made new.id) one to new))

module _ (made : List MadeColumn) (row : NumberedRow) where
  one_kept : (given : NumberedRow) → IsKept made row given → All (IsKept made row) (given ∷ [])
  one_kept given kept = All-cons (IsKept made row) given [] kept (All-nil (IsKept made row))

  if_kept : (b : Bool) → All (IsKept made row) (if b then row ∷ [] else [])
  if_kept true = one_kept row (kept_itself made row)
  if_kept false = All-nil (IsKept made row)

  values_kept : (to : ColId) → IsNew made to → (values : List Value) → All (IsKept made row) (map (λ (one : Value). with_cell row to.0 (one ∷ [])) values)
  values_kept to new [] = All-nil (IsKept made row)
  values_kept to new (value ∷ values) =
      All-cons (IsKept made row) (with_cell row to.0 (value ∷ [])) (map (λ (one : Value). with_cell row to.0 (one ∷ [])) values)
      (kept_at_new made to row (value ∷ []) new) (values_kept to new values)

  expanded_kept : (to : ColId) → IsNew made to → (values : List Value) → All (IsKept made row) (expanded row to.0 values)
  expanded_kept to new [] = one_kept (with_cell row to.0 []) (kept_at_new made to row [] new)
  expanded_kept to new (value ∷ values) = values_kept to new (value ∷ values)

  all_kept : (bounds : Bounds) (to : List NewColumn) (cells : List (List Value)) → NewStand bounds made to → All (IsKept made row) (with_new row to cells ∷ [])
  all_kept bounds to cells stands = one_kept (with_new row to cells) (kept_at_all made to cells row (are_new bounds made to stands))

  pub step_kept : (held : CatalogHeld) (bounds : Bounds) (step : Step) → StepStands bounds made step → All (IsKept made row) (step_gives held step row)
  step_kept held bounds (Eval to expr) stands = one_kept (with_cell row to.0 (value_of_typed expr row).cell) (kept_at_new made to row (value_of_typed expr row).cell stands.1.new)
  step_kept held bounds (Filter node condition) stands = if_kept (is_true (value_of_typed condition row).cell)
  step_kept held bounds (Expand id to) stands = expanded_kept to stands.1.new (row id.0)
  step_kept held bounds (Sort keys) stands = one_kept row (kept_itself made row)
  step_kept held bounds (TopN keys count) stands = one_kept row (kept_itself made row)
  step_kept held bounds (Limit count) stands = one_kept row (kept_itself made row)
  step_kept held bounds (Stats aggregates groups) stands = All-nil (IsKept made row)
  step_kept held bounds (Dissect node input cutter pattern separator to) stands =
      all_kept bounds to (dissected pattern separator (length to) (row input.0)).cells stands.cut.new
  step_kept held bounds (Grok node input cutter pattern to) stands = all_kept bounds to (grokked node pattern (length to) (row input.0)).cells stands.cut.new
  step_kept held bounds (Enrich policy on fields to) stands = all_kept bounds to (enriched held policy fields (row on.0)) stands.new
