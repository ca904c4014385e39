-- The turns of a name in order.
use Rattle.std.proofs.Common.{◌≡◌, ℕ, zero, suc, ◌+◌, ◌<◌, ◌≤◌, ◌==◌, nat_lt, not, Bool, true, false, cond, List, [], ◌∷◌, ◌++◌, length, Option, Some, None, All, refl, sym, ap, subst, ◌∙◌, arith, if◌then◌else◌}
use Rattle.std.specs.Cmp.{IsTotalOrder}
use Rattle.std.specs.List.{insert, position, position_or_len}
use Rattle.std.specs.List.Sorted.{IsPermutation, IsSorted}
use Rattle.std.specs.Option.{unwrap_or}
use Rattle.std.specs.Ordering.{is_gt, nat_cmp, ordering_then}
use Rattle.std.specs.declared.cmp.Ordering.{Ordering}
use Rattle.std.specs.declared.cmp.Ordering.TheVariants.{Less, Equal, Greater}
use Rattle.std.proofs.lemmas.Bool.Decides.{Decides-ltb, Decides-eqb}
use Rattle.std.proofs.lemmas.Cmp.{nat_cmp_total, on_total, then_total}
use Rattle.std.proofs.lemmas.List.Elements.{All-cons, All-head, All-nil, All-tail}
use Rattle.std.proofs.lemmas.List.Sorted.{All-permutation, IsPermutation-middle, IsPermutation-refl, IsPermutation-sym, IsPermutation-trans}
use Rattle.std.proofs.lemmas.List.Sums.{prefix_len-le-length}
use Rattle.function_rules.specs.Lists.{put_in_order, sorted_by}
use Rattle.function_rules.proofs.ListsSorted.{sorted_by_permutes, sorted_by_sorted, sorted_once}
use Rattle.dissect_grok.specs.Joined.{first_later, has_name, order_in, turns_from, turns_of, with_form, with_turn}
use Rattle.dissect_grok.specs.Numbered.{turn_order, turns_at}
use Rattle.dissect_grok.proofs.Named.{nothing_more}
use Rattle.dissect_grok.specs.declared.keys.Key.{Key}
use Rattle.dissect_grok.specs.declared.turns.Turn.{Turn}

pub turns_total : IsTotalOrder turn_order
turns_total = then_total (on_total (λ (turn : Turn). turn.order) nat_cmp_total) (on_total (λ (turn : Turn). turn.place) nat_cmp_total)

-- two turns of one order and one place are the same
same_number : (this that : ℕ) → nat_cmp this that ≡ Equal → this ≡ that
same_number this that is = by_less (nat_lt this that) refl
  where
    by_equal : (same : Bool) → (this == that) ≡ same → cond same Equal Greater ≡ Equal → this ≡ that
    by_equal true e is = (Decides-eqb this that).0 e
    by_equal false e is = absurd cc

    by_less : (less : Bool) → nat_lt this that ≡ less → this ≡ that
    by_less true e = absurd (let wrong : Less ≡ Equal = sym (ap (λ (b : Bool). cond b Less (cond (this == that) Equal Greater)) e) ∙ is in cc)
    by_less false e = by_equal (this == that) refl (sym (ap (λ (b : Bool). cond b Less (cond (this == that) Equal Greater)) e) ∙ is)

same_turns : (this that : Turn) → turn_order this that ≡ Equal → this ≡ that
same_turns this that is = by_order (nat_cmp this.order that.order) refl is
  where
    by_order : (order : Ordering) → nat_cmp this.order that.order ≡ order → ordering_then order (nat_cmp this.place that.place) ≡ Equal → this ≡ that
    by_order Less e is = absurd cc
    by_order Greater e is = absurd cc
    by_order Equal e is =
        ap (λ (order : ℕ). let turn : Turn = record { order = order; place = this.place } in turn) (same_number this.order that.order e)
        ∙ ap (λ (place : ℕ). let turn : Turn = record { order = that.order; place = place } in turn) (same_number this.place that.place is)

-- a turn of a greater place comes before the first of a greater order
behind : (turn other : Turn) → other.place < turn.place → is_gt (turn_order turn other) ≡ not (nat_lt turn.order other.order)
behind turn other below = by_less (nat_lt turn.order other.order) refl
  where
    later : is_gt (nat_cmp turn.place other.place) ≡ true
    later = by_place (nat_lt turn.place other.place) refl
      where
        by_same : (same : Bool) → (turn.place == other.place) ≡ same → is_gt (cond same Equal Greater) ≡ true
        by_same true e = absurd (let equal : turn.place ≡ other.place = (Decides-eqb turn.place other.place).0 e in omega arith)
        by_same false e = refl

        by_place : (less : Bool) → nat_lt turn.place other.place ≡ less → is_gt (cond less Less (cond (turn.place == other.place) Equal Greater)) ≡ true
        by_place true e = absurd (let wrong : turn.place < other.place = (Decides-ltb turn.place other.place).0 e in omega arith)
        by_place false e = by_same (turn.place == other.place) refl

    by_equal : (same : Bool) → is_gt (ordering_then (cond same Equal Greater) (nat_cmp turn.place other.place)) ≡ true
    by_equal true = later
    by_equal false = refl

    by_less : (less : Bool) → nat_lt turn.order other.order ≡ less →
        is_gt (ordering_then (cond less Less (cond (turn.order == other.order) Equal Greater)) (nat_cmp turn.place other.place)) ≡ not less
    by_less true e = refl
    by_less false e = by_equal (turn.order == other.order)

first_place : {X : Type 0} (test : X → Bool) (items : List X) → unwrap_or (position test items) (length items) ≡ position_or_len test items
first_place test items = by_less (nat_lt (position_or_len test items) (length items)) refl
  where
    by_less : (less : Bool) → nat_lt (position_or_len test items) (length items) ≡ less →
        unwrap_or (cond less (Some (position_or_len test items)) None) (length items) ≡ position_or_len test items
    by_less true e = refl
    by_less false e =
        let most : position_or_len test items ≤ length items = prefix_len-le-length (λ x. not (test x)) items in
        let not_less : position_or_len test items < length items → ⊥ = λ less. (let wrong = (Decides-ltb (position_or_len test items) (length items)).1 less in absurd cc) in
        omega arith

put_first : (turn : Turn) (turns : List Turn) → All (λ (other : Turn). other.place < turn.place) turns →
    insert turns (position_or_len (λ (other : Turn). nat_lt turn.order other.order) turns) turn ≡ put_in_order turn_order turn turns
put_first turn [] all = refl
put_first turn (first ∷ rest) all =
    by_less (nat_lt turn.order first.order) (put_first turn rest (All-tail (λ (other : Turn). other.place < turn.place) first rest all))
    ∙ ap (λ (later : Bool). if later then first ∷ put_in_order turn_order turn rest else turn ∷ first ∷ rest)
    (sym (behind turn first (All-head (λ (other : Turn). other.place < turn.place) first rest all)))
  where
    by_less : (less : Bool) → insert rest (position_or_len (λ (other : Turn). nat_lt turn.order other.order) rest) turn ≡ put_in_order turn_order turn rest →
        insert (first ∷ rest) (cond (not less) (1 + position_or_len (λ (other : Turn). nat_lt turn.order other.order) rest) 0) turn
        ≡ (if not less then first ∷ put_in_order turn_order turn rest else turn ∷ first ∷ rest)
    by_less true is = refl
    by_less false is =
        let count = position_or_len (λ (other : Turn). nat_lt turn.order other.order) rest in
        ap (λ (place : ℕ). insert (first ∷ rest) place turn) (let more : 1 + count ≡ suc count = omega arith in more) ∙ ap (λ (more : List Turn). first ∷ more) is

with_turn_is : (turns : List Turn) (turn : Turn) → All (λ (other : Turn). other.place < turn.place) turns → with_turn turns turn ≡ put_in_order turn_order turn turns
with_turn_is turns turn all =
    ap (λ (place : ℕ). insert turns place turn) (first_place (λ (other : Turn). nat_lt turn.order other.order) turns) ∙ put_first turn turns all

-- the turns of keys, the last one first, before others
abbrev turns_back : List ℕ → List Turn → ℕ → List Key → List Turn
turns_back name turns place [] = turns
turns_back name turns place (key ∷ keys) =
    turns_back name (if has_name name key.form then record { order = order_in key.form; place = place } ∷ turns else turns) (place + 1) keys

abbrev AreBelow : ℕ → List Turn → Type 0
AreBelow place turns = All (λ (other : Turn). other.place < place) turns

below_more : (place : ℕ) (turns : List Turn) → AreBelow place turns → AreBelow (place + 1) turns
below_more place turns all i d within = let less = all i d within in omega arith

sorted_back : (name : List ℕ) (turns : List Turn) (place : ℕ) (keys : List Key) → AreBelow place turns →
    turns_from name (sorted_by turn_order turns) place keys ≡ sorted_by turn_order (turns_back name turns place keys)
sorted_back name turns place [] below = refl
sorted_back name turns place (key ∷ keys) below =
    by_name (has_name name key.form)
    (sorted_back name (record { order = order_in key.form; place = place } ∷ turns) (place + 1) keys
    (All-cons (λ (other : Turn). other.place < place + 1) (record { order = order_in key.form; place = place }) turns (omega arith) (below_more place turns below)))
    (sorted_back name turns (place + 1) keys (below_more place turns below))
  where
    turn : Turn
    turn = record { order = order_in key.form; place = place }

    by_name : (has : Bool) →
        turns_from name (sorted_by turn_order (turn ∷ turns)) (place + 1) keys ≡ sorted_by turn_order (turns_back name (turn ∷ turns) (place + 1) keys) →
        turns_from name (sorted_by turn_order turns) (place + 1) keys ≡ sorted_by turn_order (turns_back name turns (place + 1) keys) →
        turns_from name (if has then with_turn (sorted_by turn_order turns) turn else sorted_by turn_order turns) (place + 1) keys
        ≡ sorted_by turn_order (turns_back name (if has then turn ∷ turns else turns) (place + 1) keys)
    by_name true with_it without =
        ap (λ (some : List Turn). turns_from name some (place + 1) keys)
        (with_turn_is (sorted_by turn_order turns) turn (All-permutation (λ (other : Turn). other.place < place) turns (sorted_by turn_order turns) (sorted_by_permutes turn_order turns) below))
        ∙ with_it
    by_name false with_it without = without

back_permutes : (name : List ℕ) (turns : List Turn) (place : ℕ) (keys : List Key) → IsPermutation (turns_at place keys name ++ turns) (turns_back name turns place keys)
back_permutes name turns place [] = IsPermutation-refl turns
back_permutes name turns place (key ∷ keys) =
    by_name (has_name name key.form) (back_permutes name (record { order = order_in key.form; place = place } ∷ turns) (place + 1) keys) (back_permutes name turns (place + 1) keys)
  where
    turn : Turn
    turn = record { order = order_in key.form; place = place }

    rest : List Turn
    rest = turns_at (place + 1) keys name

    by_name : (has : Bool) → IsPermutation (rest ++ turn ∷ turns) (turns_back name (turn ∷ turns) (place + 1) keys) →
        IsPermutation (rest ++ turns) (turns_back name turns (place + 1) keys) →
        IsPermutation ((if has then turn ∷ rest else rest) ++ turns) (turns_back name (if has then turn ∷ turns else turns) (place + 1) keys)
    by_name true with_it without =
        IsPermutation-trans (turn ∷ (rest ++ turns)) (rest ++ turn ∷ turns) (turns_back name (turn ∷ turns) (place + 1) keys)
        (IsPermutation-sym (rest ++ turn ∷ turns) (turn ∷ (rest ++ turns)) (IsPermutation-middle rest turn turns)) with_it
    by_name false with_it without = without

-- what a sort of turns gives
pub sorted_turns : (turns sorted : List Turn) → IsPermutation turns sorted → IsSorted turn_order sorted → sorted ≡ sorted_by turn_order turns
sorted_turns turns sorted moved up = sorted_once turn_order turns_total same_turns turns sorted moved up

-- the turns of a name are its turns by their places, put in order
pub turns_in_order : (keys : List Key) (name : List ℕ) → sorted_by turn_order (turns_at 0 keys name) ≡ turns_of keys name
turns_in_order keys name =
    let own = turns_at 0 keys name in
    let back = turns_back name [] 0 keys in
    let moved : IsPermutation own back = subst (λ (turns : List Turn). IsPermutation turns back) (nothing_more own) (back_permutes name [] 0 keys) in
    sorted_turns back (sorted_by turn_order own)
    (IsPermutation-trans back own (sorted_by turn_order own) (IsPermutation-sym own back moved) (sorted_by_permutes turn_order own))
    (sorted_by_sorted turn_order turns_total own)
    ∙ sym (sorted_back name [] 0 keys (All-nil (λ (other : Turn). other.place < 0)))
