-- The first slot of each name.
use Rattle.std.proofs.Common.{◌≡◌, ℕ, zero, suc, ◌+◌, ◌≤◌, ◌<◌, Bool, true, false, cond, List, [], ◌∷◌, ◌++◌, length, take, get_or, Option, Some, None, option_map, refl, sym, ap, subst, ◌∙◌, add-one, arith, rules}
use Rattle.std.specs.List.{slice_get}
use Rattle.std.specs.Str.{bytes_eq}
use Rattle.std.proofs.lemmas.Bool.{le-leb}
use Rattle.std.proofs.lemmas.List.{length-take}
use Rattle.std.proofs.Math.Seq.{take-suc}
use Rattle.esql_plan.specs.declared.plan.OutColumn.{OutColumn}
use Rattle.visible_columns.specs.declared.names.Known.{Known}
use Rattle.visible_columns.specs.Names.{known_from, known_or, first_from, FirstsOf}
use Rattle.visible_columns.specs.Slots.{seen_by, slots_seen, HasName, AreStanding}
use Rattle.visible_columns.proofs.Seen.{own_name}

-- a column stands at the first slot of its name or behind
record FirstAt (slot : ℕ) (columns : List OutColumn) (name : List ℕ) (last : ℕ) : Type 0 where
  at : ℕ
  is : first_from slot columns name ≡ Some at
  before : at ≤ last

first_at : (slot : ℕ) (columns : List OutColumn) (place : ℕ) (column : OutColumn) → slice_get columns place ≡ Some column → FirstAt slot columns column.name (slot + place)
first_at slot [] place column stands = absurd cc
first_at slot (first ∷ columns) zero column stands =
    let same : first ≡ column = search rules in
    record {
      at = slot;
      is = ap (λ (own : Bool). cond own (Some slot) (first_from (slot + 1) columns column.name)) (ap (λ (one : OutColumn). bytes_eq one.name column.name) same ∙ own_name column.name);
      before = omega arith;
    }
first_at slot (first ∷ columns) (suc place) column stands = by_name (bytes_eq first.name column.name) refl (first_at (slot + 1) columns place column stands)
  where
    by_name : (same : Bool) → bytes_eq first.name column.name ≡ same → FirstAt (slot + 1) columns column.name (slot + 1 + place)
        → FirstAt slot (first ∷ columns) column.name (slot + suc place)
    by_name true same rest = record { at = slot; is = ap (λ (own : Bool). cond own (Some slot) (first_from (slot + 1) columns column.name)) same; before = omega arith }
    by_name false same rest = record {
      at = rest.at;
      is = ap (λ (own : Bool). cond own (Some slot) (first_from (slot + 1) columns column.name)) same ∙ rest.is;
      before = omega (arith, rest.before);
    }

-- each column of a list can be seen
seen_all : (known : List ℕ → Option Known) (slot : ℕ) (columns : List OutColumn)
    → ((place : ℕ) (column : OutColumn) → slice_get columns place ≡ Some column → (at : ℕ) × (known column.name ≡ Some (known_from at)) × (at ≤ slot + place))
    → slots_seen known slot columns ≡ columns
seen_all known slot [] each = refl
seen_all known slot (column ∷ columns) each =
    let own = each 0 column refl in
    let here : seen_by (known column.name) slot column ≡ column ∷ [] =
    ap (λ (what : Option Known). seen_by what slot column) own.1 ∙ ap (λ (here : Bool). cond here (column ∷ []) []) (le-leb own.0 slot (omega (arith, own.2))) in
    let rest = seen_all known (slot + 1) columns (λ place other stands.
    let its = each (suc place) other stands in
    (its.0, its.1, omega (arith, its.2))) in
    λ i. here i ++ rest i

pub firsts_seen : (known : List ℕ → Option Known) (columns : List OutColumn) → FirstsOf columns known → slots_seen known 0 columns ≡ columns
firsts_seen known columns are =
    seen_all known 0 columns (λ place column stands.
    let first = first_at 0 columns place column stands in
    (first.at, are column.name ∙ ap (option_map known_from) first.is, first.before))

-- the first slot of a name has it
first_has : (slot : ℕ) (columns : List OutColumn) (name : List ℕ) (at : ℕ) → first_from slot columns name ≡ Some at → (place : ℕ) × (at ≡ slot + place) × HasName columns name place
first_has slot [] name at is = absurd cc
first_has slot (column ∷ columns) name at is = by_name (bytes_eq column.name name) refl (λ later. first_has (slot + 1) columns name at later)
  where
    by_name : (same : Bool) → bytes_eq column.name name ≡ same → (first_from (slot + 1) columns name ≡ Some at → (place : ℕ) × (at ≡ slot + 1 + place) × HasName columns name place)
        → (place : ℕ) × (at ≡ slot + place) × HasName (column ∷ columns) name place
    by_name true same next =
        let own : Some slot ≡ Some at = sym (ap (λ (own : Bool). cond own (Some slot) (first_from (slot + 1) columns name)) same) ∙ is in
        let here : slot ≡ at = search rules in
        (0, omega (arith, here), (column, refl, same))
    by_name false same next =
        let rest = next (sym (ap (λ (own : Bool). cond own (Some slot) (first_from (slot + 1) columns name)) same) ∙ is) in
        (suc rest.0, omega (arith, rest.1), rest.2)

stands_by : (columns : List OutColumn) (name : List ℕ) (this : Known) (first : Option ℕ) → first_from 0 columns name ≡ first → option_map known_from first ≡ Some this → HasName columns name this.from
stands_by columns name this None is now = absurd cc
stands_by columns name this (Some at) is now =
    let has = first_has 0 columns name at is in
    let from : at ≡ this.from = ap (λ (what : Option Known). by_known what at) now in
    let here : has.0 ≡ this.from = omega (arith, has.1, from) in
    subst (HasName columns name) here has.2
  where
    by_known : Option Known → ℕ → ℕ
    by_known None other = other
    by_known (Some one) other = one.from

pub firsts_stand : (known : List ℕ → Option Known) (columns : List OutColumn) → FirstsOf columns known → AreStanding known columns
firsts_stand known columns are name this is = stands_by columns name this (first_from 0 columns name) refl (sym (are name) ∙ is)

-- one more column
first_snoc : (slot : ℕ) (columns : List OutColumn) (column : OutColumn) (name : List ℕ)
    → option_map known_from (first_from slot (columns ++ column ∷ []) name) ≡ known_or (option_map known_from (first_from slot columns name)) column.name (slot + length columns) name
first_snoc slot [] column name =
    ap (λ (here : ℕ). option_map known_from (cond (bytes_eq column.name name) (Some here) None)) (omega arith) ∙ by_name (bytes_eq column.name name)
  where
    by_name : (same : Bool) → option_map known_from (cond same (Some (slot + 0)) None) ≡ cond same (Some (known_from (slot + 0))) None
    by_name true = refl
    by_name false = refl
first_snoc slot (first ∷ columns) column name = by_name (bytes_eq first.name name) (first_snoc (slot + 1) columns column name)
  where
    by_name : (same : Bool)
        → option_map known_from (first_from (slot + 1) (columns ++ column ∷ []) name) ≡ known_or (option_map known_from (first_from (slot + 1) columns name)) column.name (slot + 1 + length columns) name
        → option_map known_from (cond same (Some slot) (first_from (slot + 1) (columns ++ column ∷ []) name))
        ≡ known_or (option_map known_from (cond same (Some slot) (first_from (slot + 1) columns name))) column.name (slot + suc (length columns)) name
    by_name true rest = refl
    by_name false rest =
        rest
        ∙ ap (λ (here : ℕ). known_or (option_map known_from (first_from (slot + 1) columns name)) column.name here name) (omega arith)

pub first_more : (columns : List OutColumn) (place : ℕ) (column : OutColumn) (name : List ℕ) → place < length columns → column ≡ get_or columns place column
    → known_or (option_map known_from (first_from 0 (take place columns) name)) column.name place name ≡ option_map known_from (first_from 0 (take (place + 1) columns) name)
first_more columns place column name within is =
    let front : take (place + 1) columns ≡ take place columns ++ column ∷ [] =
    ap (λ n. take n columns) (add-one place) ∙ take-suc columns place column within ∙ ap (λ y. take place columns ++ y ∷ []) (sym is) in
    let count : length (take place columns) ≡ place = grind (arith, length-take) in
    sym (ap (λ (these : List OutColumn). option_map known_from (first_from 0 these name)) front
    ∙ first_snoc 0 (take place columns) column name
    ∙ ap (λ (here : ℕ). known_or (option_map known_from (first_from 0 (take place columns) name)) column.name here name) (omega (arith, count)))

pub known_at : (columns : List OutColumn) (place : ℕ) (column : OutColumn) (own name : List ℕ) → place < length columns → column ≡ get_or columns place column → own ≡ column.name
    → (known : Option Known) → known ≡ option_map known_from (first_from 0 (take place columns) name)
    → known_or known own place name ≡ option_map known_from (first_from 0 (take (place + 1) columns) name)
known_at columns place column own name within is same known before =
    (λ i. known_or (before i) (same i) place name) ∙ first_more columns place column name within is
