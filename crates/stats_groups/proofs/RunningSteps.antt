-- The running aggregates of rows, after one more row and in the end.
use Rattle.std.proofs.Common.{◌≡◌, ℕ, ◌+◌, List, [], ◌∷◌, ◌++◌, map, length, refl, sym, ap, ◌∙◌, length-append}
use Rattle.std.specs.Prelude.{slice_index_or}
use Rattle.std.specs.List.{flat_map}
use Rattle.std.proofs.lemmas.List.{append-nil}
use Rattle.std.proofs.lemmas.Grind.{flat_map-append}
use Rattle.esql_plan.specs.declared.step.Aggregate.{Aggregate}
use Rattle.esql_plan.specs.Rules.{Given}
use Rattle.esql_plan.specs.Values.{failures_at}
use Rattle.plan_semantics.specs.Groups.{Entry, values_at, aggregates_from, failures_given}
use Rattle.stats_groups.specs.Maps.{running_from}
use Rattle.stats_groups.specs.States.{state_of, state_after, running_before, running_after, cell_of_running, failures_of_running}
use Rattle.stats_groups.proofs.StateSteps.{state_more, state_first, state_given}

values_more : (place : ℕ) (entries : List Entry) (entry : Entry)
    → values_at place (entries ++ entry ∷ []) ≡ values_at place entries ++ slice_index_or entry.inputs place []
values_more place entries entry =
    flat_map-append (λ (one : Entry). slice_index_or one.inputs place []) entries (entry ∷ [])
    ∙ ap (λ more. values_at place entries ++ more) (append-nil (slice_index_or entry.inputs place []))

pub running_more : (place : ℕ) (aggregates : List Aggregate) (entries : List Entry) (entry : Entry)
    → running_after place (running_from place aggregates entries) entry.inputs ≡ running_from place aggregates (entries ++ entry ∷ [])
running_more place [] entries entry = refl
running_more place (aggregate ∷ aggregates) entries entry =
    let longer : length entries + 1 ≡ length (entries ++ entry ∷ []) = sym (length-append entries (entry ∷ [])) in
    let values : values_at place entries ++ slice_index_or entry.inputs place [] ≡ values_at place (entries ++ entry ∷ []) = sym (values_more place entries entry) in
    let state : state_after (state_of aggregate.function (length entries) (values_at place entries)) (slice_index_or entry.inputs place [])
    ≡ state_of aggregate.function (length (entries ++ entry ∷ [])) (values_at place (entries ++ entry ∷ [])) =
    state_more aggregate.function (length entries) (values_at place entries) (slice_index_or entry.inputs place [])
    ∙ (λ i. state_of aggregate.function (longer i) (values i)) in
    λ i. record { node = aggregate.node; state = state i } ∷ running_more (place + 1) aggregates entries entry i

pub running_first : (place : ℕ) (aggregates : List Aggregate) → running_before aggregates ≡ running_from place aggregates []
running_first place [] = refl
running_first place (aggregate ∷ aggregates) =
    λ i. record { node = aggregate.node; state = state_first aggregate.function i } ∷ running_first (place + 1) aggregates i

pub running_cells : (place : ℕ) (aggregates : List Aggregate) (entries : List Entry)
    → map cell_of_running (running_from place aggregates entries) ≡ map (λ (one : Given). one.cell) (aggregates_from place aggregates entries)
running_cells place [] entries = refl
running_cells place (aggregate ∷ aggregates) entries =
    λ i. (state_given aggregate.function (length entries) (values_at place entries) i).cell ∷ running_cells (place + 1) aggregates entries i

pub running_failures : (place : ℕ) (aggregates : List Aggregate) (entries : List Entry)
    → flat_map failures_of_running (running_from place aggregates entries) ≡ failures_given aggregates (aggregates_from place aggregates entries)
running_failures place [] entries = refl
running_failures place (aggregate ∷ aggregates) entries =
    λ i. failures_at aggregate.node (state_given aggregate.function (length entries) (values_at place entries) i).causes ++ running_failures (place + 1) aggregates entries i
