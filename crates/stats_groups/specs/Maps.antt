-- Groups as a map keeps them: each key with the running aggregates of its rows.
use Rattle.std.specs.Prelude.{ℕ, zero, suc, ◌+◌, length, Bool, true, false, List, [], ◌∷◌, ◌++◌, map, fold, if◌then◌else◌}
use Rattle.std.specs.List.{flat_map}
use Rattle.esql_types.specs.declared.cause.Failure.{Failure}
use Rattle.esql_types.specs.declared.value.Value.{Value}
use Rattle.esql_plan.specs.declared.step.Aggregate.{Aggregate}
use Rattle.plan_semantics.specs.Groups.{Entry, Key, same_key, values_at, keys_of_groups, entries_of_key}
use Rattle.stats_groups.specs.States.{state_of, running_before, running_after, cell_of_running, failures_of_running}
use Rattle.stats_groups.specs.declared.state.Running.{Running}

-- a cell of one value or none
abbrev pub is_single : List Value → Bool
is_single [] = true
is_single (value ∷ []) = true
is_single (value ∷ second ∷ more) = false

-- a key with the running aggregates of its rows
abbrev pub Group : Type 0
Group = Key × List Running

-- a row's inputs go to the group of a key, or make a new group at the end
abbrev pub with_row : List Aggregate → Key → List (List Value) → List Group → List Group
with_row aggregates key inputs [] = (key, running_after 0 (running_before aggregates) inputs) ∷ []
with_row aggregates key inputs (group ∷ groups) =
    if same_key key group.0 then (group.0, running_after 0 group.1 inputs) ∷ groups else group ∷ with_row aggregates key inputs groups

-- a row's inputs go to the groups of its keys
abbrev pub with_row_at : List Aggregate → List Key → List (List Value) → List Group → List Group
with_row_at aggregates keys inputs groups = fold (λ done key. with_row aggregates key inputs done) groups keys

-- the groups before the first row: where rows are grouped by no column there is one
abbrev pub groups_before : ℕ → List Aggregate → List Group
groups_before zero aggregates = ([], running_before aggregates) ∷ []
groups_before (suc columns) aggregates = []

-- a group's row: the cells of its aggregates, then those of its key
abbrev pub row_of_group : Group → List (List Value)
row_of_group group = map cell_of_running group.1 ++ group.0

abbrev pub failures_of_group : Group → List Failure
failures_of_group group = flat_map failures_of_running group.1

-- the running aggregates of rows, the first of them of the inputs at a place and the others of those behind it
abbrev pub running_from : ℕ → List Aggregate → List Entry → List Running
running_from place [] entries = []
running_from place (aggregate ∷ aggregates) entries =
    record { node = aggregate.node; state = state_of aggregate.function (length entries) (values_at place entries) } ∷ running_from (place + 1) aggregates entries

-- the group of a key
abbrev pub group_of : List Aggregate → List Entry → Key → Group
group_of aggregates entries key = (key, running_from 0 aggregates (entries_of_key key entries))

-- the groups of rows
abbrev pub groups_of : ℕ → List Aggregate → List Entry → List Group
groups_of columns aggregates entries = map (group_of aggregates entries) (keys_of_groups columns entries)
