-- New columns of a step, numbered on from the next number: they are made with their kinds, and each once.
use Rattle.std.proofs.Common.{◌≡◌, ℕ, suc, ◌+◌, ◌≤◌, ◌<◌, ◌==◌, false, List, [], ◌∷◌, ◌++◌, length, All, refl, ap, subst, arith}
use Rattle.std.proofs.lemmas.List.Elements.{All-nil, All-cons, All-head, All-tail, All-weaker, All-append, All-map, Contains-append_left, Contains-append_right, Contains-push}
use Rattle.esql_types.specs.declared.value.Kind.{Kind}
use Rattle.esql_types.specs.declared.names.Column.{Column}
use Rattle.esql_types.specs.declared.names.ColId.{ColId}
use Rattle.esql_plan.specs.declared.plan.OutColumn.{OutColumn}
use Rattle.esql_plan.specs.declared.step.NewColumn.{NewColumn}
use Rattle.plan_semantics.specs.WellFormed.{MadeColumn, made_as, IsMadeAs, new_made, new_ids, new_kinds, kinds_of, Bounds, MakesNew, NewStand}
use Rattle.query_semantics.specs.Writings.{column_at, put_visible}
use Rattle.query_semantics.specs.WrittenAppended.{put_new, new_columns}
use Rattle.query_semantics.proofs.Named.{eq_below}
use Rattle.written_laws.proofs.ColumnsTyped.{OutIsMade}
use Rattle.written_laws.proofs.Consecutive.{AreFrom, HasBetween, all_between, from_once}
use Rattle.written_laws.proofs.FieldsFormed.{put_made}
use Rattle.written_laws.proofs.NewColumns.{length-new}
use Rattle.written_laws.proofs.MadeOnce.{AreMade, IsMadeBelow, IsOnce, IsOtherThan, once_cons}
use Rattle.written_laws.proofs.Sources.{eq_above}

abbrev number_of : ColId → ℕ
number_of id = id.0

abbrev number_of_new : NewColumn → ℕ
number_of_new new = new.id.0

abbrev made_of : NewColumn → MadeColumn
made_of new = made_as new.id new.kind

-- their numbers follow one another
pub ids_from : (next : ℕ) (columns : List Column) → AreFrom number_of next (new_ids (new_columns next columns))
ids_from next [] = tt
ids_from next (column ∷ columns) = (refl, ids_from (next + 1) columns)

new_from : (next : ℕ) (columns : List Column) → AreFrom number_of_new next (new_columns next columns)
new_from next [] = tt
new_from next (column ∷ columns) = (refl, new_from (next + 1) columns)

pub length-new_ids : (next : ℕ) (columns : List Column) → length (new_ids (new_columns next columns)) ≡ length columns
length-new_ids next [] = refl
length-new_ids next (column ∷ columns) = ap (λ (n : ℕ). suc n) (length-new_ids (next + 1) columns)

-- they have the kinds of the columns
pub kinds_new : (next : ℕ) (columns : List Column) → new_kinds (new_columns next columns) ≡ kinds_of columns
kinds_new next [] = refl
kinds_new next (column ∷ columns) = ap (λ (kinds : List Kind). column.kind ∷ kinds) (kinds_new (next + 1) columns)

module _ (next : ℕ) (columns : List Column) where
  abbrev IsNextNew : NewColumn → Type 0
  IsNextNew = HasBetween number_of_new next (next + length columns)

  new_between : All IsNextNew (new_columns next columns)
  new_between =
      subst (λ (n : ℕ). All (HasBetween number_of_new next (next + n)) (new_columns next columns)) (length-new next columns)
      (all_between number_of_new next (new_columns next columns) (new_from next columns))

  -- they are new, and stand once
  pub new_stand : (bounds : Bounds) (made : List MadeColumn) → All (IsMadeBelow next) made → next + length columns ≤ bounds.columns → NewStand bounds made (new_columns next columns)
  new_stand bounds made below few = record {
    new = All-weaker IsNextNew (λ (new : NewColumn). MakesNew bounds made new.id)
        (λ new between. record {
          new = All-weaker (IsMadeBelow next) (λ column. new.id.0 == column.id ≡ false) (λ column less. eq_above column.id new.id.0 (omega (arith, less, between.from))) made below;
          below = omega (arith, between.below, few);
        })
        (new_columns next columns) new_between;
    once = from_once number_of next (new_ids (new_columns next columns)) (ids_from next columns);
  }

-- among columns that are made ------------------------------------------------------------------------------------------------------

abbrev IsMadeIn : List MadeColumn → NewColumn → Type 0
IsMadeIn made new = IsMadeAs made new.id new.kind

all_new : (made : List MadeColumn) (to : List NewColumn) → All (IsMadeIn (new_made to ++ made)) to
all_new made [] = All-nil (IsMadeIn made)
all_new made (new ∷ to) =
    let first : MadeColumn = made_of new in
    All-cons (IsMadeIn (new_made (new ∷ to) ++ made)) new to (Contains-append_left (first ∷ []) (new_made to ++ made) first (Contains-push [] first))
    (All-weaker (IsMadeIn (new_made to ++ made)) (IsMadeIn (new_made (new ∷ to) ++ made)) (λ other there. Contains-append_right (first ∷ []) (new_made to ++ made) (made_of other) there) to (all_new made to))

-- those that take the places of others, and stand at the end
new_seen : (made : List MadeColumn) (columns : List Column) (next : ℕ) (visible : List OutColumn) → All (OutIsMade made) visible → All (IsMadeIn made) (new_columns next columns)
    → All (OutIsMade made) (put_new visible columns next)
new_seen made [] next visible seen new = seen
new_seen made (column ∷ columns) next visible seen new =
    let first : NewColumn = record { id = column_at next; kind = column.kind } in
    new_seen made columns (next + 1) (put_visible visible column.name column.kind next)
    (put_made made visible column.name column.kind next seen (All-head (IsMadeIn made) first (new_columns (next + 1) columns) new))
    (All-tail (IsMadeIn made) first (new_columns (next + 1) columns) new)

new_once : (made : List MadeColumn) (last next : ℕ) (columns : List Column) → All (IsMadeBelow last) made → IsOnce made → last ≤ next → IsOnce (new_made (new_columns next columns) ++ made)
new_once made last next [] below once few = once
new_once made last next (column ∷ columns) below once few =
    let later : List NewColumn = new_columns (next + 1) columns in
    once_cons (made_as (column_at next) column.kind) (new_made later ++ made)
    (All-append (IsOtherThan next) (new_made later) made
    (All-map (IsOtherThan next) made_of later
    (All-weaker (IsNextNew (next + 1) columns) (λ (new : NewColumn). next == new.id.0 ≡ false) (λ new between. eq_below next new.id.0 (omega (arith, between.from))) later (new_between (next + 1) columns)))
    (All-weaker (IsMadeBelow last) (IsOtherThan next) (λ other less. eq_above other.id next (omega (arith, less, few))) made below))
    (new_once made last (next + 1) columns below once (omega (arith, few)))

-- columns that are made, and those of the next numbers
pub made_new : (made : List MadeColumn) (next : ℕ) (visible : List OutColumn) (columns : List Column) → AreMade made next visible
    → AreMade (new_made (new_columns next columns) ++ made) (next + length columns) (put_new visible columns next)
made_new made next visible columns are =
    let to : List NewColumn = new_columns next columns in
    let all : List MadeColumn = new_made to ++ made in
    let last : ℕ = next + length columns in
    record {
      seen = new_seen all columns next visible
          (All-weaker (OutIsMade made) (OutIsMade all) (λ out there. Contains-append_right (new_made to) made (made_as out.id out.kind) there) visible are.seen) (all_new made to);
      below = All-append (IsMadeBelow last) (new_made to) made
          (All-map (IsMadeBelow last) made_of to (All-weaker (IsNextNew next columns) (λ (new : NewColumn). new.id.0 < last) (λ new between. between.below) to (new_between next columns)))
          (All-weaker (IsMadeBelow next) (IsMadeBelow last) (λ column less. omega (arith, less)) made are.below);
      once = new_once made next next columns are.below are.once (omega arith);
    }
