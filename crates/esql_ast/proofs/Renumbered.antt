-- Places whose nodes have the numbers in turn.
use Rattle.std.proofs.Common.{◌≡◌, ℕ, ◌+◌, List, [], ◌∷◌, ◌++◌, map, length, All, refl, sym, ap, ◌∙◌, arith}
use Rattle.std.specs.List.{flat_map, range_with_len}
use Rattle.std.proofs.lemmas.List.Elements.{All-head, All-tail, All-cons}
use Rattle.std.proofs.lemmas.List.{length-append}
use Rattle.esql_types.specs.declared.places.Span.{Span}
use Rattle.esql_ast.specs.declared.nodes.NodeAt.{NodeAt}
use Rattle.esql_ast.specs.Numbering.{Numbering, node_id, size_all, numbered_all}

-- the places, with the numbers from a number on
abbrev pub renumbered : ℕ → List NodeAt → List NodeAt
renumbered node [] = []
renumbered node (place ∷ places) = record { node = node_id node; span = place.span } ∷ renumbered (node + 1) places

pub renumbered_join : (node : ℕ) (front back : List NodeAt) → renumbered node (front ++ back) ≡ renumbered node front ++ renumbered (node + length front) back
renumbered_join node [] back = ap (λ (n : ℕ). renumbered n back) (omega arith)
renumbered_join node (place ∷ front) back =
    let start : node + 1 + length front ≡ node + length (place ∷ front) = omega arith in
    ap (λ (places : List NodeAt). record { node = node_id node; span = place.span } ∷ places)
    (renumbered_join (node + 1) front back ∙ ap (λ (n : ℕ). renumbered (node + 1) front ++ renumbered n back) start)

pub renumbered_numbers : (node : ℕ) (places : List NodeAt) → map (λ (place : NodeAt). place.node.0) (renumbered node places) ≡ range_with_len node (length places)
renumbered_numbers node [] = refl
renumbered_numbers node (place ∷ places) = ap (λ (numbers : List ℕ). node ∷ numbers) (renumbered_numbers (node + 1) places)

pub renumbered_spans : (node : ℕ) (places : List NodeAt) → map (λ (place : NodeAt). place.span) (renumbered node places) ≡ map (λ (place : NodeAt). place.span) places
renumbered_spans node [] = refl
renumbered_spans node (place ∷ places) = ap (λ (spans : List Span). place.span ∷ spans) (renumbered_spans (node + 1) places)

-- what holds of the spans still does
pub renumbered_all : (P : Span → Type 0) (node : ℕ) (places : List NodeAt)
    → All (λ (place : NodeAt). P place.span) places → All (λ (place : NodeAt). P place.span) (renumbered node places)
renumbered_all P node [] all = all
renumbered_all P node (place ∷ places) all =
    let Q : NodeAt → Type 0 = λ place. P place.span in
    All-cons Q (record { node = node_id node; span = place.span }) (renumbered (node + 1) places) (All-head Q place places all)
    (renumbered_all P (node + 1) places (All-tail Q place places all))

-- A numbering of a part numbers the part's nodes in turn, and is of their number.
pub record IsInTurn {Part : Type 0} (nodes : Part → List NodeAt) (part : Part) (numbering : Numbering Part) : Type 0 where
  pub size : numbering.size ≡ length (nodes part)
  pub at : (node : ℕ) → nodes (numbering.at node) ≡ renumbered node (nodes part)

-- nodes in turn, and those that follow them
pub joined_in_turn : (node after : ℕ) (front back front_now back_now : List NodeAt) → after ≡ node + length front
    → front_now ≡ renumbered node front → back_now ≡ renumbered after back → front_now ++ back_now ≡ renumbered node (front ++ back)
joined_in_turn node after front back front_now back_now follows f b =
    ap (λ (places : List NodeAt). places ++ back_now) f
    ∙ ap (λ (places : List NodeAt). renumbered node front ++ places) (b ∙ ap (λ (n : ℕ). renumbered n back) follows)
    ∙ sym (renumbered_join node front back)

pub all_size : {Part : Type 0} (nodes : Part → List NodeAt) (numbering : Part → Numbering Part) (parts : List Part)
    → All (λ (part : Part). IsInTurn nodes part (numbering part)) parts → size_all (map numbering parts) ≡ length (flat_map nodes parts)
all_size nodes numbering [] all = refl
all_size {Part} nodes numbering (part ∷ parts) all =
    let Q : Part → Type 0 = λ part. IsInTurn nodes part (numbering part) in
    omega (arith, (All-head Q part parts all).size, all_size nodes numbering parts (All-tail Q part parts all), length-append (nodes part) (flat_map nodes parts))

pub all_at : {Part : Type 0} (nodes : Part → List NodeAt) (numbering : Part → Numbering Part) (parts : List Part)
    → All (λ (part : Part). IsInTurn nodes part (numbering part)) parts
    → (node : ℕ) → flat_map nodes (numbered_all (map numbering parts) node) ≡ renumbered node (flat_map nodes parts)
all_at nodes numbering [] all node = refl
all_at {Part} nodes numbering (part ∷ parts) all node =
    let Q : Part → Type 0 = λ part. IsInTurn nodes part (numbering part) in
    joined_in_turn node (node + (numbering part).size) (nodes part) (flat_map nodes parts) _ _
    (ap (λ (n : ℕ). node + n) (All-head Q part parts all).size) ((All-head Q part parts all).at node)
    (all_at nodes numbering parts (All-tail Q part parts all) (node + (numbering part).size))
