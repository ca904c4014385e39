-- The shortest run of `#` that is no column's name.
use Rattle.std.proofs.Common.{◌≡◌, ℕ, zero, suc, ◌≤◌, ◌<◌, Bool, true, false, ◌||◌, List, [], ◌∷◌, length, refl, sym, ap, ◌∙◌, arith}
use Rattle.std.specs.Prelude.{if◌then◌else◌}
use Rattle.std.specs.Str.{bytes_eq}
use Rattle.std.proofs.lemmas.Bool.{false_from_ne_true}
use Rattle.std.proofs.lemmas.Slice.Eq.{bytes_eq-Decides}
use Rattle.esql_types.specs.declared.names.Column.{Column}
use Rattle.lookup_join.specs.Placed.{free_run, has_column, place_name}

-- the columns that do not have the name
without : List ℕ → List Column → List Column
without name [] = []
without name (column ∷ columns) = if bytes_eq column.name name then without name columns else column ∷ without name columns

no_more_without : (name : List ℕ) (columns : List Column) → length (without name columns) ≤ length columns
unfolding without
no_more_without name [] = omega arith
no_more_without name (column ∷ columns) = go (bytes_eq column.name name) (no_more_without name columns)
  where
    go : (here : Bool) → length (without name columns) ≤ length columns
        → length (if here then without name columns else column ∷ without name columns) ≤ suc (length columns)
    go true rest = omega (arith, rest)
    go false rest = omega (arith, rest)

-- one less at least, where a column has the name
fewer_without : (name : List ℕ) (columns : List Column) → has_column columns name ≡ true → length (without name columns) < length columns
unfolding without
fewer_without name [] there = absurd cc
fewer_without name (column ∷ columns) there =
    go (bytes_eq column.name name) refl (λ rest. fewer_without name columns rest)
  where
    behind : bytes_eq column.name name ≡ false → has_column columns name ≡ true
    behind other = sym (ap (λ (here : Bool). here || has_column columns name) other) ∙ there

    go : (here : Bool) → bytes_eq column.name name ≡ here → (has_column columns name ≡ true → length (without name columns) < length columns)
        → length (if here then without name columns else column ∷ without name columns) < suc (length columns)
    go true is rest = let less = no_more_without name columns in omega (arith, less)
    go false is rest = let less = rest (behind is) in omega (arith, less)

-- names of two lengths differ
lengths_differ : (one other : List ℕ) → length one < length other → bytes_eq one other ≡ false
lengths_differ one other shorter =
    false_from_ne_true (bytes_eq one other)
    (λ same. let lengths : length one ≡ length other = ap length ((bytes_eq-Decides one other).0 same) in absurd (omega (arith, shorter, lengths)))

-- a longer name is among the columns without a name where it is among all
same_without : (name other : List ℕ) (columns : List Column) → length name < length other → has_column columns other ≡ has_column (without name columns) other
unfolding without
same_without name other [] longer = refl
same_without name other (column ∷ columns) longer = go (bytes_eq column.name name) refl (same_without name other columns longer)
  where
    go : (here : Bool) → bytes_eq column.name name ≡ here → has_column columns other ≡ has_column (without name columns) other
        → (bytes_eq column.name other || has_column columns other) ≡ has_column (if here then without name columns else column ∷ without name columns) other
    go true is rest =
        let own : column.name ≡ name = (bytes_eq-Decides column.name name).0 is in
        ap (λ (one : List ℕ). bytes_eq one other || has_column columns other) own
        ∙ ap (λ (here : Bool). here || has_column columns other) (lengths_differ name other longer)
        ∙ rest
    go false is rest = ap (λ (there : Bool). bytes_eq column.name other || there) rest

-- so a run that is longer comes out the same
same_run : (more : ℕ) (name run : List ℕ) (columns : List Column) → length name < length run → free_run more run columns ≡ free_run more run (without name columns)
same_run zero name run columns longer = refl
same_run (suc more) name run columns longer =
    ap (λ (there : Bool). if there then free_run more (35 ∷ run) columns else run) (same_without name run columns longer)
    ∙ ap (λ (next : List ℕ). if has_column (without name columns) run then next else run) (same_run more name (35 ∷ run) columns (omega (arith, longer)))

-- a run is not shorter than the first that is tried
as_long : (more : ℕ) (run : List ℕ) (columns : List Column) → length run ≤ length (free_run more run columns)
as_long zero run columns = omega arith
as_long (suc more) run columns = go (has_column columns run) (as_long more (35 ∷ run) columns)
  where
    go : (there : Bool) → suc (length run) ≤ length (free_run more (35 ∷ run) columns) → length run ≤ length (if there then free_run more (35 ∷ run) columns else run)
    go true rest = omega (arith, rest)
    go false rest = omega arith

run_is_free : (more : ℕ) (run : List ℕ) (columns : List Column) → length columns ≤ more → has_column columns (free_run more run columns) ≡ false
run_is_free zero run [] few = refl
run_is_free zero run (column ∷ columns) few = absurd (omega (arith, few))
run_is_free (suc more) run columns few =
    go (has_column columns run) refl (λ less. run_is_free more (35 ∷ run) (without run columns) less)
  where
    go : (there : Bool) → has_column columns run ≡ there
        → (length (without run columns) ≤ more → has_column (without run columns) (free_run more (35 ∷ run) (without run columns)) ≡ false)
        → has_column columns (if there then free_run more (35 ∷ run) columns else run) ≡ false
    go true is rest =
        let less = fewer_without run columns is in
        same_without run (free_run more (35 ∷ run) columns) columns (let long = as_long more (35 ∷ run) columns in omega (arith, long))
        ∙ ap (has_column (without run columns)) (same_run more run (35 ∷ run) columns (omega arith))
        ∙ rest (omega (arith, few, less))
    go false is rest = is

-- the name of the column of places is no column's
pub place_free : (columns : List Column) → has_column columns (place_name columns) ≡ false
place_free columns = run_is_free (length columns) (35 ∷ []) columns (omega arith)
