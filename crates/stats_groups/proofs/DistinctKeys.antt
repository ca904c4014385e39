-- The keys of a row differ.
use Rattle.std.proofs.Common.{◌≡◌, Bool, true, false, ◌&&◌, List, [], ◌∷◌, ◌++◌, map, refl, sym, ap, ◌∙◌, true≢false}
use Rattle.std.specs.List.{flat_map, list_all, AllByRecursion, IsDistinct}
use Rattle.function_rules.proofs.ListsDistinct.{distinct_once}
use Rattle.esql_types.specs.declared.value.Value.{Value}
use Rattle.plan_semantics.specs.Groups.{choices, distinct_values, key_cells, keys_of_cells, same_key, same_list, same_value}
use Rattle.stats_groups.specs.Maps.{is_single}

module _ {Item : Type 0} (P : Item → Type 0) where
  all_append : (items others : List Item) → AllByRecursion P items → AllByRecursion P others → AllByRecursion P (items ++ others)
  all_append [] others all later = later
  all_append (item ∷ items) others all later = (all.0, all_append items others all.1 later)

all_map : {Item Made : Type 0} (P : Made → Type 0) (make : Item → Made) (items : List Item)
    → AllByRecursion (λ item. P (make item)) items → AllByRecursion P (map make items)
all_map P make [] all = tt
all_map P make (item ∷ items) all = (all.0, all_map P make items all.1)

all_so : {Item : Type 0} (P Q : Item → Type 0) → ((item : Item) → P item → Q item) → (items : List Item) → AllByRecursion P items → AllByRecursion Q items
all_so P Q so [] all = tt
all_so P Q so (item ∷ items) all = (so item all.0, all_so P Q so items all.1)

all_of : {Item : Type 0} (P : Item → Type 0) → ((item : Item) → P item) → (items : List Item) → AllByRecursion P items
all_of P so [] = tt
all_of P so (item ∷ items) = (so item, all_of P so items)

distinct_append : {Item : Type 0} (same : Item → Item → Bool) (items others : List Item) → IsDistinct same items → IsDistinct same others
    → AllByRecursion (λ item. AllByRecursion (λ other. same item other ≡ false) others) items → IsDistinct same (items ++ others)
unfolding IsDistinct
distinct_append same [] others apart later cross = later
distinct_append same (item ∷ items) others apart later cross =
    (all_append (λ other. same item other ≡ false) items others apart.0 cross.0, distinct_append same items others apart.1 later cross.1)

distinct_map : {Item Made : Type 0} (same : Item → Item → Bool) (alike : Made → Made → Bool) (make : Item → Made)
    → ((item other : Item) → same item other ≡ false → alike (make item) (make other) ≡ false)
    → (items : List Item) → IsDistinct same items → IsDistinct alike (map make items)
unfolding IsDistinct
distinct_map same alike make differ [] apart = tt
distinct_map same alike make differ (item ∷ items) apart = (
  all_map (λ other. alike (make item) other ≡ false) make items
      (all_so (λ other. same item other ≡ false) (λ other. alike (make item) (make other) ≡ false) (differ item) items apart.0),
  distinct_map same alike make differ items apart.1,
)

false_behind : (first : Bool) → (first && false) ≡ false
false_behind true = refl
false_behind false = refl

module _ {Item : Type 0} (same : Item → Item → Bool) where
  -- choices that begin with different items differ
  begin_apart : (item : Item) (choice : List Item) (lists : List (List Item)) (others : List Item) → AllByRecursion (λ other. same item other ≡ false) others
      → AllByRecursion (λ other. same_list same (item ∷ choice) other ≡ false) (flat_map (λ other. map (λ more. other ∷ more) lists) others)
  begin_apart item choice lists [] all = tt
  begin_apart item choice lists (other ∷ others) all =
      all_append (λ one. same_list same (item ∷ choice) one ≡ false) (map (λ more. other ∷ more) lists) (flat_map (λ one. map (λ more. one ∷ more) lists) others)
      (all_map (λ one. same_list same (item ∷ choice) one ≡ false) (λ more. other ∷ more) lists
      (all_of (λ more. (same item other && same_list same choice more) ≡ false) (λ more. ap (λ first. first && same_list same choice more) all.0) lists))
      (begin_apart item choice lists others all.1)

  blocks_distinct : (lists : List (List Item)) → IsDistinct (same_list same) lists → (items : List Item) → IsDistinct same items
      → IsDistinct (same_list same) (flat_map (λ item. map (λ more. item ∷ more) lists) items)
  unfolding IsDistinct
  blocks_distinct lists apart [] differ = tt
  blocks_distinct lists apart (item ∷ items) differ =
      distinct_append (same_list same) (map (λ more. item ∷ more) lists) (flat_map (λ one. map (λ more. one ∷ more) lists) items)
      (distinct_map (same_list same) (same_list same) (λ more. item ∷ more)
      (λ this that unlike. ap (λ later. same item item && later) unlike ∙ false_behind (same item item)) lists apart)
      (blocks_distinct lists apart items differ.1)
      (all_map (λ one. AllByRecursion (λ other. same_list same one other ≡ false) (flat_map (λ other. map (λ more. other ∷ more) lists) items)) (λ more. item ∷ more) lists
      (all_of (λ more. AllByRecursion (λ other. same_list same (item ∷ more) other ≡ false) (flat_map (λ other. map (λ rest. other ∷ rest) lists) items))
      (λ more. begin_apart item more lists items differ.0) lists))

  choices_distinct : (lists : List (List Item)) → AllByRecursion (IsDistinct same) lists → IsDistinct (same_list same) (choices lists)
  unfolding IsDistinct
  choices_distinct [] all = (tt, tt)
  choices_distinct (items ∷ lists) all = blocks_distinct (choices lists) (choices_distinct lists all.1) items all.0

key_cells_distinct : (cell : List Value) → IsDistinct (same_list same_value) (key_cells cell)
unfolding IsDistinct
key_cells_distinct [] = (tt, tt)
key_cells_distinct (value ∷ values) =
    distinct_map same_value (same_list same_value) (λ one. one ∷ []) (λ this that unlike. ap (λ first. first && true) unlike)
    (distinct_values (value ∷ values)) (distinct_once same_value (value ∷ values))

each_distinct : (cells : List (List Value)) → AllByRecursion (IsDistinct (same_list same_value)) (map key_cells cells)
each_distinct [] = tt
each_distinct (cell ∷ cells) = (key_cells_distinct cell, each_distinct cells)

pub keys_distinct : (cells : List (List Value)) → IsDistinct same_key (keys_of_cells cells)
keys_distinct cells = choices_distinct (same_list same_value) (map key_cells cells) (each_distinct cells)

-- Cells of one value or none are a key, their only one.
single_cell : (cell : List Value) → is_single cell ≡ true → key_cells cell ≡ cell ∷ []
single_cell [] single = refl
single_cell (value ∷ []) single = refl
single_cell (value ∷ second ∷ more) single = absurd (true≢false (sym single))

both_so : (first second : Bool) → (first && second) ≡ true → (first ≡ true) × (second ≡ true)
both_so true second so = (refl, so)
both_so false second so = absurd (true≢false (sym so))

pub single_key : (cells : List (List Value)) → list_all is_single cells ≡ true → keys_of_cells cells ≡ cells ∷ []
single_key [] single = refl
single_key (cell ∷ cells) single =
    let both = both_so (is_single cell) (list_all is_single cells) single in
    ap (λ items. choices (items ∷ map key_cells cells)) (single_cell cell both.0)
    ∙ ap (λ keys. map (λ more. cell ∷ more) keys ++ []) (single_key cells both.1)
