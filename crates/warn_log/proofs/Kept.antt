-- What a log keeps of failures, node by node.
use Rattle.std.proofs.Common.{◌≡◌, ℕ, ◌==◌, ◌≤◌, ◌<◌, Bool, true, false, cond, List, [], ◌∷◌, ◌++◌, take, map, fold, filter, length, get_or, nat_lt, All, append_assoc, refl, ap, sym, ◌∙◌, arith}
use Rattle.std.proofs.lemmas.List.{append-nil, take_all, take-append-le, length-append, length-set, length-replicate, get_or-set_same, get_or-set_other, get_or-replicate, get_or_past, ext_get_or}
use Rattle.std.proofs.lemmas.List.Elements.{All-head, All-tail}
use Rattle.std.proofs.lemmas.List.Sums.{fold-append}
use Rattle.esql_types.specs.declared.cause.Cause.{Cause}
use Rattle.esql_types.specs.declared.cause.Failure.{Failure}
use Rattle.esql_types.specs.declared.names.NodeId.{NodeId}
use Rattle.answer_text.specs.Warnings.{at_node}
use Rattle.warn_log.specs.Logs.{keep, kept_at, noted, logged, empty_log, LogStands}

abbrev cause_of : Failure → Cause
cause_of failure = failure.cause

-- a log has as many nodes after failures as before
pub length-logged : (log : List (List Cause)) (failures : List Failure) → length (logged log failures) ≡ length log
length-logged log [] = refl
length-logged log (failure ∷ failures) =
    length-logged (noted log failure) failures ∙ length-set log failure.node.0 (keep (kept_at log failure.node) failure.cause)

-- at a node, a failure is kept where it is the node's
noted_here : (log : List (List Cause)) (failure : Failure) (node : NodeId) → failure.node.0 ≡ node.0 → node.0 < length log
    → kept_at (noted log failure) node ≡ keep (kept_at log node) failure.cause
noted_here log failure node here within =
    ap (λ (place : ℕ). get_or (noted log failure) place []) (sym here)
    ∙ get_or-set_same log failure.node.0 (keep (kept_at log failure.node) failure.cause) [] (rw here within)
    ∙ ap (λ (place : ℕ). keep (get_or log place []) failure.cause) here

noted_elsewhere : (log : List (List Cause)) (failure : Failure) (node : NodeId) → failure.node.0 == node.0 ≡ false
    → kept_at (noted log failure) node ≡ kept_at log node
noted_elsewhere log failure node other =
    get_or-set_other log failure.node.0 node.0 (keep (kept_at log failure.node) failure.cause) [] (λ same. grind (arith, other, same))

-- at a node, a log continues with the causes of that node
logged_at : (log : List (List Cause)) (failures : List Failure) (node : NodeId) → node.0 < length log
    → kept_at (logged log failures) node ≡ fold keep (kept_at log node) (at_node failures node)
logged_at log [] node within = refl
logged_at log (failure ∷ failures) node within =
    logged_at (noted log failure) failures node (rw (length-set log failure.node.0 (keep (kept_at log failure.node) failure.cause)) within)
    ∙ next (failure.node.0 == node.0) refl
  where
    next : (b : Bool) → failure.node.0 == node.0 ≡ b
        → fold keep (kept_at (noted log failure) node) (at_node failures node)
        ≡ fold keep (kept_at log node) (map cause_of (cond b (failure ∷ filter (λ (f : Failure). f.node.0 == node.0) failures) (filter (λ (f : Failure). f.node.0 == node.0) failures)))
    next true is = ap (λ (causes : List Cause). fold keep causes (at_node failures node)) (noted_here log failure node (grind (arith, is)) within)
    next false is = ap (λ (causes : List Cause). fold keep causes (at_node failures node)) (noted_elsewhere log failure node is)

-- failures after failures
pub logged-append : (log : List (List Cause)) (first second : List Failure) → logged (logged log first) second ≡ logged log (first ++ second)
logged-append log first second = sym (fold-append noted log first second)

-- only the causes of each node count, and their order
pub logged-same : (log : List (List Cause)) (some other : List Failure) → ((node : NodeId) → at_node some node ≡ at_node other node) → logged log some ≡ logged log other
logged-same log some other same =
    ext_get_or [] (logged log some) (logged log other) (length-logged log some ∙ sym (length-logged log other))
    (λ place within.
    let node : NodeId = record { 0 = place } in
    let among : place < length log = rw (← length-logged log some) within in
    logged_at log some node among ∙ ap (fold keep (kept_at log node)) (same node) ∙ sym (logged_at log other node among))

-- causes one at a time are the first of all
kept_first : (kept causes : List Cause) → length kept ≤ 20 → fold keep kept causes ≡ take 20 (kept ++ causes)
kept_first kept [] fits = sym (ap (take 20) (append-nil kept) ∙ take_all 20 kept fits)
kept_first kept (cause ∷ causes) fits =
    by_room (nat_lt (length kept) 20) refl (λ room. kept_first (kept ++ cause ∷ []) causes room) (kept_first kept causes fits)
  where
    by_room : (b : Bool) → nat_lt (length kept) 20 ≡ b
        → (length (kept ++ cause ∷ []) ≤ 20 → fold keep (kept ++ cause ∷ []) causes ≡ take 20 ((kept ++ cause ∷ []) ++ causes))
        → fold keep kept causes ≡ take 20 (kept ++ causes)
        → fold keep (cond b (kept ++ cause ∷ []) kept) causes ≡ take 20 (kept ++ cause ∷ causes)
    by_room true is more same = more (let size = length-append kept (cause ∷ []) in grind (arith, size, is)) ∙ ap (take 20) (append_assoc kept (cause ∷ []) causes)
    by_room false is more same =
        let full : 20 ≤ length kept = grind (arith, is) in
        same ∙ take-append-le 20 kept causes full ∙ sym (take-append-le 20 kept (cause ∷ causes) full)

-- no failure is at a node beyond all
none_at : (nodes : ℕ) (failures : List Failure) (node : NodeId) → All (λ (f : Failure). f.node.0 < nodes) failures → nodes ≤ node.0 → at_node failures node ≡ []
none_at nodes [] node below beyond = refl
none_at nodes (failure ∷ failures) node below beyond =
    elsewhere (failure.node.0 == node.0) refl (All-head (λ (f : Failure). f.node.0 < nodes) failure failures below)
    (none_at nodes failures node (All-tail (λ (f : Failure). f.node.0 < nodes) failure failures below) beyond)
  where
    elsewhere : (b : Bool) → failure.node.0 == node.0 ≡ b → failure.node.0 < nodes → at_node failures node ≡ []
        → map cause_of (cond b (failure ∷ filter (λ (f : Failure). f.node.0 == node.0) failures) (filter (λ (f : Failure). f.node.0 == node.0) failures)) ≡ []
    elsewhere true is first rest = absurd (grind (arith, first, beyond, is))
    elsewhere false is first rest = rest

-- a log begun with nothing keeps the first 20 of each node
pub logged-LogStands : (nodes : ℕ) (failures : List Failure) → All (λ (f : Failure). f.node.0 < nodes) failures → LogStands (logged (empty_log nodes) failures) failures
logged-LogStands nodes failures below node = by_place (nat_lt node.0 nodes) refl
  where
    by_place : (b : Bool) → nat_lt node.0 nodes ≡ b → kept_at (logged (empty_log nodes) failures) node ≡ take 20 (at_node failures node)
    by_place true is =
        let within : node.0 < nodes = grind (arith, is) in
        let size : length (empty_log nodes) ≡ nodes = length-replicate nodes [] in
        logged_at (empty_log nodes) failures node (rw size within)
        ∙ ap (λ (causes : List Cause). fold keep causes (at_node failures node)) (get_or-replicate nodes node.0 [] [] within)
        ∙ kept_first [] (at_node failures node) (omega arith)
    by_place false is =
        let beyond : nodes ≤ node.0 = grind (arith, is) in
        let size : length (logged (empty_log nodes) failures) ≡ nodes = length-logged (empty_log nodes) failures ∙ length-replicate nodes [] in
        get_or_past (logged (empty_log nodes) failures) node.0 [] (rw size beyond)
        ∙ sym (ap (take 20) (none_at nodes failures node below beyond))
