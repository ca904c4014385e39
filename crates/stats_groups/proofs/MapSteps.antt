-- What a write or an insert does to the groups.
use Rattle.std.proofs.Common.{◌≡◌, Bool, true, false, List, [], ◌∷◌, Some, refl, sym, ap, ◌∙◌, true≢false, is_some}
use Rattle.std.specs.Map.{lookup}
use Rattle.std.proofs.lemmas.Option.{same_Some, none-some}
use Rattle.esql_types.specs.declared.value.Value.{Value}
use Rattle.esql_plan.specs.declared.step.Aggregate.{Aggregate}
use Rattle.indexmap.specs.IndexMap.{insert_entry}
use Rattle.plan_semantics.specs.Groups.{Key, same_key}
use Rattle.stats_groups.specs.declared.state.Running.{Running}
use Rattle.stats_groups.specs.Maps.{Group, with_row}
use Rattle.stats_groups.specs.States.{running_after, running_before}

module _ (aggregates : List Aggregate) (key : Key) (inputs : List (List Value)) (new : List Running) where
  pub row_present : (groups : List Group) (old : List Running) → lookup (same_key key) groups ≡ Some old → new ≡ running_after 0 old inputs
      → insert_entry same_key groups key new ≡ with_row aggregates key inputs groups
  row_present [] old found is_new = absurd (none-some old found)
  row_present (group ∷ groups) old found is_new = go (same_key key group.0) refl (λ later. row_present groups old later is_new)
    where
      go : (here : Bool) → same_key key group.0 ≡ here
          → (lookup (same_key key) groups ≡ Some old → insert_entry same_key groups key new ≡ with_row aggregates key inputs groups)
          → insert_entry same_key (group ∷ groups) key new ≡ with_row aggregates key inputs (group ∷ groups)
      go true is later =
          let at : group.1 ≡ old = same_Some _ _ (rw is at found) in
          rw is (ap (λ running. (group.0, running) ∷ groups) (is_new ∙ ap (λ running. running_after 0 running inputs) (sym at)))
      go false is later = rw is (ap (λ others. group ∷ others) (later (rw is at found)))

  pub row_absent : (groups : List Group) → is_some (lookup (same_key key) groups) ≡ false → new ≡ running_after 0 (running_before aggregates) inputs
      → insert_entry same_key groups key new ≡ with_row aggregates key inputs groups
  row_absent [] none is_new = ap (λ running. (key, running) ∷ []) is_new
  row_absent (group ∷ groups) none is_new = go (same_key key group.0) refl (λ later. row_absent groups later is_new)
    where
      go : (here : Bool) → same_key key group.0 ≡ here
          → (is_some (lookup (same_key key) groups) ≡ false → insert_entry same_key groups key new ≡ with_row aggregates key inputs groups)
          → insert_entry same_key (group ∷ groups) key new ≡ with_row aggregates key inputs (group ∷ groups)
      go true is later = let no : true ≡ false = rw is at none in absurd (true≢false no)
      go false is later = rw is (ap (λ others. group ∷ others) (later (rw is at none)))
