-- Columns that are made once, each with one kind, and those that can be seen among them.
use Rattle.std.proofs.Common.{◌≡◌, ℕ, ◌+◌, ◌<◌, ◌==◌, Bool, true, false, cond, List, [], ◌∷◌, map, All, Contains, Some, ◌⊎◌, inl, inr, ⊎_elim, refl, ap, sym, subst, ◌∙◌, arith}
use Rattle.std.specs.List.{AllByRecursion}
use Rattle.std.specs.Str.{bytes_eq}
use Rattle.std.specs.Cmp.Lexicographic.{nat_list_eq_equiv}
use Rattle.std.proofs.lemmas.List.Elements.{All-nil, All-cons, All-head, All-tail, All-weaker, All-contains, Contains-append_left, Contains-append_right, Contains-append_cases, Contains-push, Contains-push_cases}
use Rattle.esql_types.specs.declared.value.Kind.{Kind}
use Rattle.esql_types.specs.declared.names.ColId.{ColId}
use Rattle.esql_plan.specs.declared.plan.OutColumn.{OutColumn}
use Rattle.plan_semantics.specs.WellFormed.{MadeColumn, made_as, IsMadeAs, IsMade, kind_made}
use Rattle.row_semantics.specs.Typed.{visible_named}
use Rattle.query_semantics.specs.Writings.{column_at, visible_names}
use Rattle.query_semantics.specs.Written.{renumbered}
use Rattle.query_semantics.proofs.Named.{eq_itself}
use Rattle.query_semantics.proofs.Distinct.{AreDistinct, IsOther, distinct_head, distinct_tail}
use Rattle.written_laws.proofs.Sources.{eq_above}
use Rattle.written_laws.proofs.ColumnsTyped.{OutIsMade}

-- among a column and others ------------------------------------------------------------------------------------------------------

pub made_first : (first : MadeColumn) (made : List MadeColumn) → Contains (first ∷ made) first
made_first first made = Contains-append_left (first ∷ []) made first (Contains-push [] first)

pub made_later : (first : MadeColumn) (made : List MadeColumn) (column : MadeColumn) → Contains made column → Contains (first ∷ made) column
made_later first made column there = Contains-append_right (first ∷ []) made column there

first_or_later : (first : MadeColumn) (made : List MadeColumn) (column : MadeColumn) → Contains (first ∷ made) column → (first ≡ column) ⊎ Contains made column
first_or_later first made column there =
    ⊎_elim (λ own. inl (⊎_elim (λ none. let less = none.1 in absurd (omega (arith, less))) (λ same. same) (Contains-push_cases [] first column own))) inr
    (Contains-append_cases (first ∷ []) made column there)

-- a column that is made with a kind is made
abbrev id_of : MadeColumn → ℕ
id_of column = column.id

abbrev HasId : List MadeColumn → MadeColumn → Type 0
HasId made column = Contains (map id_of made) column.id

ids_made : (made : List MadeColumn) → All (HasId made) made
ids_made [] = All-nil (HasId [])
ids_made (column ∷ made) =
    All-cons (HasId (column ∷ made)) column made (Contains-append_left (column.id ∷ []) (map id_of made) column.id (Contains-push [] column.id))
    (All-weaker (HasId made) (HasId (column ∷ made)) (λ other there. Contains-append_right (column.id ∷ []) (map id_of made) other.id there) made (ids_made made))

pub is_made : (made : List MadeColumn) (id : ColId) (kind : Kind) → IsMadeAs made id kind → IsMade made id
is_made made id kind there = All-contains (HasId made) made (made_as id kind) (ids_made made) there

-- one kind for each number ---------------------------------------------------------------------------------------------------------

abbrev pub IsOnce : List MadeColumn → Type 0
IsOnce made = (id : ColId) (kind : Kind) → IsMadeAs made id kind → kind_made made id ≡ kind

pub none_made_once : IsOnce []
none_made_once id kind there = let less = there.1 in absurd (omega (arith, less))

pub turned : (n m : ℕ) → n == m ≡ false → m == n ≡ false
turned n m other = grind (arith, other)

abbrev pub IsOtherThan : ℕ → MadeColumn → Type 0
IsOtherThan id column = id == column.id ≡ false

pub once_cons : (new : MadeColumn) (made : List MadeColumn) → All (IsOtherThan new.id) made → IsOnce made → IsOnce (new ∷ made)
once_cons new made fresh once id kind there = ⊎_elim own later (first_or_later new made (made_as id kind) there)
  where
    own : new ≡ made_as id kind → kind_made (new ∷ made) id ≡ kind
    own same = ap (λ (first : MadeColumn). kind_made (first ∷ made) id) same ∙ ap (λ (b : Bool). cond b kind (kind_made made id)) (eq_itself id.0)

    later : IsMadeAs made id kind → kind_made (new ∷ made) id ≡ kind
    later behind =
        ap (λ (b : Bool). cond b new.kind (kind_made made id)) (turned new.id id.0 (All-contains (IsOtherThan new.id) made (made_as id kind) fresh behind)) ∙ once id kind behind

-- columns that are made, each below the next number and with one kind; those that can be seen are among them ----------------------------

abbrev pub IsMadeBelow : ℕ → MadeColumn → Type 0
IsMadeBelow next column = column.id < next

pub record AreMade (made : List MadeColumn) (next : ℕ) (visible : List OutColumn) : Type 0 where
  pub seen : All (OutIsMade made) visible
  pub below : All (IsMadeBelow next) made
  pub once : IsOnce made

pub made_other : (made : List MadeColumn) (next : ℕ) → All (IsMadeBelow next) made → All (IsOtherThan next) made
made_other made next below = All-weaker (IsMadeBelow next) (IsOtherThan next) (λ column less. eq_above column.id next less) made below

-- a column of the next number
pub made_next : (made : List MadeColumn) (next : ℕ) (visible : List OutColumn) (kind : Kind) → AreMade made next visible → AreMade (made_as (column_at next) kind ∷ made) (next + 1) visible
made_next made next visible kind are =
    let new : MadeColumn = made_as (column_at next) kind in
    record {
      seen = All-weaker (OutIsMade made) (OutIsMade (new ∷ made)) (λ out there. made_later new made (made_as out.id out.kind) there) visible are.seen;
      below = All-cons (IsMadeBelow (next + 1)) new made (omega arith) (All-weaker (IsMadeBelow next) (IsMadeBelow (next + 1)) (λ column less. omega (arith, less)) made are.below);
      once = once_cons new made (made_other made next are.below) are.once;
    }

-- the column of a name -----------------------------------------------------------------------------------------------------------------

pub named_made : (made : List MadeColumn) (visible : List OutColumn) (name : List ℕ) (column : OutColumn) → All (OutIsMade made) visible → visible_named visible name ≡ Some column → OutIsMade made column
named_made made [] name column all is = absurd cc
named_made made (first ∷ visible) name column all is =
    elim (bytes_eq first.name name) as (λ same. cond same (Some first) (visible_named visible name) ≡ Some column → OutIsMade made column)
    [ true ↦ λ here. (let same : first ≡ column = cc in subst (OutIsMade made) same (All-head (OutIsMade made) first visible all)) | false ↦ λ there. named_made made visible name column (All-tail (OutIsMade made) first visible all) there ] is

-- where names differ, no other column has the name
abbrev pub HasKindIf : List ℕ → Kind → OutColumn → Type 0
HasKindIf name kind out = bytes_eq out.name name ≡ true → out.kind ≡ kind

others_not : (first name : List ℕ) (kind : Kind) (visible : List OutColumn) → bytes_eq first name ≡ true → AllByRecursion (IsOther first) (visible_names visible) → All (HasKindIf name kind) visible
others_not first name kind [] is others = All-nil (HasKindIf name kind)
others_not first name kind (out ∷ visible) is others =
    All-cons (HasKindIf name kind) out visible
    (λ same. absurd (let both : true ≡ false = sym same ∙ nat_list_eq_equiv.symm out.name name ∙ sym (nat_list_eq_equiv.congr first name out.name is) ∙ others.0 in cc))
    (others_not first name kind visible is others.1)

pub named_kinds : (visible : List OutColumn) (name : List ℕ) (column : OutColumn) → AreDistinct (visible_names visible) → visible_named visible name ≡ Some column → All (HasKindIf name column.kind) visible
named_kinds [] name column distinct is = absurd cc
named_kinds (first ∷ visible) name column distinct is =
    by_same (bytes_eq first.name name) refl is (named_kinds visible name column (distinct_tail first.name (visible_names visible) distinct))
  where
    by_same : (same : Bool) → bytes_eq first.name name ≡ same → cond same (Some first) (visible_named visible name) ≡ Some column
        → (visible_named visible name ≡ Some column → All (HasKindIf name column.kind) visible) → All (HasKindIf name column.kind) (first ∷ visible)
    by_same true own here rest =
        let same : first ≡ column = cc in
        All-cons (HasKindIf name column.kind) first visible (λ is. ap (λ (this : OutColumn). this.kind) same)
        (others_not first.name name column.kind visible own (distinct_head first.name (visible_names visible) distinct))
    by_same false own there rest =
        All-cons (HasKindIf name column.kind) first visible (λ same. absurd (let both : false ≡ true = sym own ∙ same in cc)) (rest there)

-- a column of the next number in the place of that of a name, with its kind
pub renumbered_made : (made : List MadeColumn) (next : ℕ) (visible : List OutColumn) (name : List ℕ) (kind : Kind) → All (HasKindIf name kind) visible → All (OutIsMade made) visible
    → All (OutIsMade (made_as (column_at next) kind ∷ made)) (map (renumbered name next) visible)
renumbered_made made next [] name kind kinds all = All-nil (OutIsMade (made_as (column_at next) kind ∷ made))
renumbered_made made next (out ∷ visible) name kind kinds all =
    All-cons (OutIsMade (new ∷ made)) (renumbered name next out) (map (renumbered name next) visible)
    (by_same (bytes_eq out.name name) refl)
    (renumbered_made made next visible name kind (All-tail (HasKindIf name kind) out visible kinds) (All-tail (OutIsMade made) out visible all))
  where
    new : MadeColumn
    new = made_as (column_at next) kind

    by_same : (same : Bool) → bytes_eq out.name name ≡ same → OutIsMade (new ∷ made) (cond same (record { name = out.name; kind = out.kind; id = column_at next }) out)
    by_same true is = subst (λ (own : Kind). Contains (new ∷ made) (made_as (column_at next) own)) (sym (All-head (HasKindIf name kind) out visible kinds is)) (made_first new made)
    by_same false is = made_later new made (made_as out.id out.kind) (All-head (OutIsMade made) out visible all)
