-- What a policy looks at in the rows of a table, by the places of its columns.
use Rattle.std.proofs.Common.{◌≡◌, ℕ, List, [], ◌∷◌, map, Option, refl, ap, sym, ◌∙◌}
use Rattle.std.specs.BTreeMap.{get_by}
use Rattle.std.specs.Cmp.Lexicographic.{slice_cmp}
use Rattle.std.specs.Ordering.{nat_cmp}
use Rattle.esql_types.specs.declared.names.Column.{Column}
use Rattle.esql_types.specs.declared.value.Value.{Value}
use Rattle.esql_plan.specs.declared.catalog.PolicyShape.{PolicyShape}
use Rattle.enrich_match.specs.Matches.{MatchRow}
use Rattle.plan_semantics.specs.Tables.{cell_named}
use Rattle.plan_semantics.specs.Taken.{match_row}
use Rattle.plan_rows.specs.Places.{place_from, cell_in, cells_in}
use Rattle.plan_rows.proofs.Scans.{cell_in-named}

fields_are : (columns : List Column) (row : List (List Value)) (place : Column → Option ℕ) → ((field : Column) → place field ≡ place_from columns 0 field.name)
    → (fields : List Column) → cells_in (map place fields) row ≡ map (λ (field : Column). cell_named columns row field.name) fields
fields_are columns row place at [] = refl
fields_are columns row place at (field ∷ fields) =
    λ i. (ap (cell_in row) (at field) ∙ cell_in-named row field.name columns) i ∷ fields_are columns row place at fields i

pub match_row-is : (policy : PolicyShape) (columns : List Column) (row : List (List Value)) (cell : List Value) (cells : List (List Value)) (key : Option ℕ) (place : Column → Option ℕ) (places : List (Option ℕ))
    → key ≡ place_from columns 0 policy.match_field.name → ((field : Column) → place field ≡ place_from columns 0 field.name) → places ≡ map place policy.fields
    → cell ≡ cell_in row key → cells ≡ cells_in places row → (λ (this : MatchRow). this ≡ match_row policy columns row) (record { key = cell; fields = cells })
match_row-is policy columns row cell cells key place places at places_at are is cells_are =
    let own : cell ≡ cell_named columns row policy.match_field.name = is ∙ ap (cell_in row) at ∙ cell_in-named row policy.match_field.name columns in
    let all : cells ≡ map (λ (field : Column). cell_named columns row field.name) policy.fields =
    cells_are ∙ ap (λ (these : List (Option ℕ)). cells_in these row) are ∙ fields_are columns row place places_at policy.fields in
    λ i. record { key = own i; fields = all i }
