-- One turn of the loop that gives each running aggregate its input.
use Rattle.std.proofs.Common.{◌≡◌, ℕ, suc, ◌+◌, ◌<◌, ◌≤◌, List, [], ◌∷◌, ◌++◌, length, get_or, set, take, drop, sym, ap, ◌∙◌, append_assoc, arith, drop-cons}
use Rattle.std.specs.Prelude.{slice_index_or}
use Rattle.std.proofs.lemmas.List.{append-nil, drop_all, drop-set-lt, take_all, take_more_set}
use Rattle.esql_types.specs.declared.value.Value.{Value}
use Rattle.stats_groups.specs.declared.state.Running.{Running}
use Rattle.stats_groups.specs.States.{running_after, state_after}

pub running_turn : (states : List Running) (place : ℕ) (old new : Running) (inputs : List (List Value)) → place < length states → old ≡ get_or states place old
    → new ≡ record { node = old.node; state = state_after old.state (slice_index_or inputs place []) }
    → take (place + 1) (set states place new) ++ running_after (place + 1) (drop (place + 1) (set states place new)) inputs
    ≡ take place states ++ running_after place (drop place states) inputs
running_turn states place old new inputs within is made =
    let next : suc place ≡ place + 1 = omega arith in
    let rest : drop place states ≡ old ∷ drop (place + 1) states =
    drop-cons states place old within ∙ (λ i. sym is i ∷ drop (next i) states) in
    (λ i. take_more_set states place new within i ++ running_after (place + 1) (drop-set-lt (place + 1) states place new (omega arith) i) inputs)
    ∙ append_assoc (take place states) (new ∷ []) (running_after (place + 1) (drop (place + 1) states) inputs)
    ∙ ap (λ (one : Running). take place states ++ (one ∷ running_after (place + 1) (drop (place + 1) states) inputs)) made
    ∙ ap (λ these. take place states ++ running_after place these inputs) (sym rest)

-- at the end each has its input
pub running_end : (states : List Running) (place : ℕ) (inputs : List (List Value)) → length states ≤ place
    → take place states ++ running_after place (drop place states) inputs ≡ states
running_end states place inputs past =
    (λ i. take_all place states past i ++ running_after place (drop_all place states past i) inputs) ∙ append-nil states
