-- A table without a row.
use Rattle.std.proofs.Common.{◌≡◌, ℕ, ◌+◌, ◌<◌, List, [], ◌∷◌, ◌++◌, map, length, get_or, take, refl, sym, ap, ◌∙◌, subst, arith}
use Rattle.std.proofs.lemmas.List.Elements.{All-map}
use Rattle.std.proofs.lemmas.List.{map_push, map_more}
use Rattle.esql_types.specs.declared.value.Kind.{Kind}
use Rattle.table_columns.specs.declared.growing.GrowingColumn.{GrowingColumn}
use Rattle.table_columns.specs.Held.{Held, IsHeld, AreHeld, grown, all_grown}

-- nothing is held by columns that are empty, and their kinds are those that they were made of
pub empty_kinds : (kinds : List Kind) → map (λ (column : Held). column.kind) (map (λ (kind : Kind). record { kind = kind; numbers = []; cells = [] }) kinds) ≡ kinds
empty_kinds [] = refl
empty_kinds (kind ∷ kinds) = ap (λ (rest : List Kind). kind ∷ rest) (empty_kinds kinds)

pub empty_held : (kinds : List Kind) (columns : List Held) → columns ≡ map (λ (kind : Kind). record { kind = kind; numbers = []; cells = [] }) kinds → AreHeld 0 columns
empty_held kinds columns is = subst (AreHeld 0) (sym is) (All-map (IsHeld 0) (λ (kind : Kind). record { kind = kind; numbers = []; cells = [] }) kinds (λ k d within. record { rise = omega arith; paired = refl }))

-- one empty column more
pub empty_more : (kinds : List Kind) (i : ℕ) (kind d : Kind) (old new : List GrowingColumn) (column : GrowingColumn) → i < length kinds → kind ≡ get_or kinds i d → grown column ≡ record { kind = kind; numbers = []; cells = [] } → new ≡ old ++ column ∷ []
    → all_grown old ≡ map (λ (kind : Kind). record { kind = kind; numbers = []; cells = [] }) (take i kinds)
    → all_grown new ≡ map (λ (kind : Kind). record { kind = kind; numbers = []; cells = [] }) (take (i + 1) kinds)
empty_more kinds i kind d old new column within is made pushed before =
    ap all_grown pushed
    ∙ map_push grown old column
    ∙ (λ j. before j ++ (made ∙ ap (λ (kind : Kind). record { kind = kind; numbers = []; cells = [] }) is) j ∷ [])
    ∙ sym (map_more (λ (kind : Kind). record { kind = kind; numbers = []; cells = [] }) kinds i d within)
