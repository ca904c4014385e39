-- What the fields of `Groups` hold, as it is seen.
use Rattle.std.proofs.Common.{◌≡◌, Bool, true, false, List, [], ◌∷◌, ◌++◌, map, length, Some, None, IsSome, refl, sym, ap, subst, ◌∙◌}
use Rattle.std.specs.Prelude.{if◌then◌else◌}
use Rattle.std.specs.List.{flat_map}
use Rattle.std.specs.Option.{option_map}
use Rattle.esql_types.specs.declared.cause.Failure.{Failure}
use Rattle.esql_types.specs.declared.value.Value.{Value}
use Rattle.plan_semantics.specs.Groups.{Entry, keys_of_cells, failures_of_groups}
use Rattle.plan_semantics.specs.Stats.{stats_columns}
use Rattle.stats_groups.specs.declared.groups.Groups.TheInside.{Inside}
use Rattle.stats_groups.specs.Cells.{put_cells}
use Rattle.stats_groups.specs.Entries.{cells_of, entry_of_row, inputs_of}
use Rattle.stats_groups.specs.Grouped.{Grouped, with_entry, rows_made, rows_grouped, failures_grouped}
use Rattle.stats_groups.specs.Held.{grouped_of, HoldsGroups}
use Rattle.stats_groups.specs.Maps.{Group, failures_of_group, groups_of, row_of_group, with_row_at}
use Rattle.stats_groups.proofs.SameTurns.{cells_long}
use Rattle.stats_groups.proofs.GroupSteps.{groups_more, rows_in_the_end, failures_in_the_end}

map_twice : {A B C : Type 0} (f : A → B) (g : B → C) (items : List A) → map (λ item. g (f item)) items ≡ map g (map f items)
map_twice f g [] = refl
map_twice f g (item ∷ items) = ap (λ rest. g (f item) ∷ rest) (map_twice f g items)

module _ (inside : Inside) (seen : Grouped) (view : grouped_of inside ≡ seen) where
  pub seen_broken : inside.is_broken ≡ true → seen ≡ record seen { entries = None }
  seen_broken broken =
      sym view
      ∙ ap (λ (is : Bool). let one : Grouped = record { columns = inside.columns; aggregates = inside.aggregates; entries = if is then None else Some inside.entries.list } in one) broken
      ∙ ap (λ (one : Grouped). record one { entries = None }) view

  pub seen_none : record (grouped_of inside) { entries = None } ≡ record seen { entries = None }
  seen_none = ap (λ (one : Grouped). record one { entries = None }) view

  module _ (whole : inside.is_broken ≡ false) where
    pub seen_some : IsSome seen.entries
    seen_some =
        subst (λ (one : Grouped). IsSome one.entries) view
        (subst (λ (is : Bool). IsSome (if is then None else Some inside.entries.list)) (sym whole) refl)

    pub seen_more : (entry : Entry) (list : List Entry) → list ≡ inside.entries.list ++ entry ∷ []
        → record (grouped_of inside) { entries = if inside.is_broken then None else Some list } ≡ with_entry entry seen
    seen_more entry list listed =
        ap (λ (is : Bool). let one : Grouped = record { columns = inside.columns; aggregates = inside.aggregates; entries = if is then None else Some list } in one) whole
        ∙ ap (λ (these : List Entry). let one : Grouped = record { columns = inside.columns; aggregates = inside.aggregates; entries = Some these } in one) listed
        ∙ ap (λ (is : Bool). let one : Grouped = record { columns = inside.columns; aggregates = inside.aggregates; entries = option_map (λ entries. entries ++ entry ∷ []) (if is then None else Some inside.entries.list) } in one) (sym whole)
        ∙ ap (with_entry entry) view

    module _ (holds : HoldsGroups inside) where
      pub held_more : (row : List (List Value)) (groups : List Group) (list : List Entry)
          → groups ≡ with_row_at inside.aggregates (keys_of_cells (cells_of inside.columns row)) (inputs_of inside.aggregates row) inside.groups.entries
          → list ≡ inside.entries.list ++ entry_of_row inside.columns inside.aggregates row ∷ []
          → groups ≡ groups_of (length inside.columns) inside.aggregates list
      held_more row groups list made listed =
          made
          ∙ ap (with_row_at inside.aggregates (keys_of_cells (cells_of inside.columns row)) (inputs_of inside.aggregates row)) (holds whole)
          ∙ groups_more inside.aggregates (length inside.columns) inside.entries.list (entry_of_row inside.columns inside.aggregates row) (cells_long inside.columns row)
          ∙ ap (groups_of (length inside.columns) inside.aggregates) (sym listed)

      abbrev placed : List (List Value) → List (List Value)
      placed = put_cells [] (stats_columns inside.aggregates inside.columns)

      pub seen_rows : Some (map (λ (group : Group). placed (row_of_group group)) inside.groups.entries) ≡ rows_grouped seen
      seen_rows =
          ap Some (map_twice row_of_group placed inside.groups.entries
          ∙ ap (map placed) (ap (map row_of_group) (holds whole) ∙ rows_in_the_end inside.aggregates (length inside.columns) inside.entries.list))
          ∙ sym (ap (λ (is : Bool). option_map (rows_made inside.columns inside.aggregates) (if is then None else Some inside.entries.list)) whole)
          ∙ ap rows_grouped view

      pub seen_failures : (old : List Failure) → Some (old ++ flat_map failures_of_group inside.groups.entries) ≡ option_map (λ new. old ++ new) (failures_grouped seen)
      seen_failures old =
          ap (λ (new : List Failure). Some (old ++ new)) (ap (flat_map failures_of_group) (holds whole) ∙ failures_in_the_end inside.aggregates (length inside.columns) inside.entries.list)
          ∙ sym (ap (λ (is : Bool). option_map (λ new. old ++ new) (option_map (failures_of_groups (length inside.columns) inside.aggregates) (if is then None else Some inside.entries.list))) whole)
          ∙ ap (λ (one : Grouped). option_map (λ new. old ++ new) (failures_grouped one)) view
