-- The groups of rows, after one more row and in the end.
use Rattle.std.proofs.Common.{◌≡◌, ℕ, zero, suc, Bool, true, false, cond, ◌||◌, List, [], ◌∷◌, ◌++◌, map, length, refl, sym, ap, ◌∙◌, true≢false, arith, append_assoc}
use Rattle.std.specs.Prelude.{if◌then◌else◌}
use Rattle.std.specs.List.{flat_map, list_any, AllByRecursion, IsDistinct}
use Rattle.std.proofs.lemmas.List.{append-nil}
use Rattle.std.proofs.lemmas.List.Elements.{filter-append}
use Rattle.std.proofs.lemmas.List.Folds.{list_any-append}
use Rattle.std.proofs.lemmas.Grind.{flat_map-append}
use Rattle.esql_types.specs.declared.value.Value.{Value}
use Rattle.esql_plan.specs.declared.step.Aggregate.{Aggregate}
use Rattle.function_rules.specs.Lists.{distinct_of}
use Rattle.function_rules.proofs.ListsDistinct.{distinct_keeps, distinct_once}
use Rattle.plan_semantics.specs.Groups.{Entry, Key, aggregates_at, cells_of_group, entries_of_key, failures_given, failures_of_groups, keys_of_entry, keys_of_groups, rows_of_groups, same_key}
use Rattle.stats_groups.specs.declared.state.Running.{Running}
use Rattle.stats_groups.specs.Keys.{key_decides, key_equivalence}
use Rattle.stats_groups.specs.Maps.{Group, failures_of_group, group_of, groups_before, groups_of, row_of_group, running_from, with_row, with_row_at}
use Rattle.stats_groups.specs.States.{running_after, running_before}
use Rattle.stats_groups.proofs.DistinctFolds.{any_turned, insert_one}
use Rattle.stats_groups.proofs.DistinctKeys.{keys_distinct}
use Rattle.stats_groups.proofs.RunningSteps.{running_cells, running_failures, running_first, running_more}

-- what each key has
abbrev Kept : Type 0
Kept = Key → List Running

-- what each key has once a row's inputs went to the group of one
abbrev put : Key → List (List Value) → Kept → Kept
put key inputs kept one = if same_key key one then running_after 0 (kept one) inputs else kept one

-- what each key has once they went to the groups of several
abbrev put_all : List Key → List (List Value) → Kept → Kept
put_all [] inputs kept = kept
put_all (key ∷ keys) inputs kept = put_all keys inputs (put key inputs kept)

abbrev groups_at : Kept → List Key → List Group
groups_at kept keys = map (λ key. (key, kept key)) keys

same_self : (key : Key) → same_key key key ≡ true
same_self key = key_equivalence.refl key

-- where none of the keys is the one, nothing is put
untouched : (key : Key) (inputs : List (List Value)) (kept : Kept) (keys : List Key) → AllByRecursion (λ other. same_key key other ≡ false) keys
    → groups_at kept keys ≡ groups_at (put key inputs kept) keys
untouched key inputs kept [] apart = refl
untouched key inputs kept (other ∷ keys) apart =
    λ i. (other, sym (ap (λ here. if here then running_after 0 (kept other) inputs else kept other) apart.0) i) ∷ untouched key inputs kept keys apart.1 i

-- keys that differ from a key differ from each that is the same
apart_turned : (key other : Key) → same_key key other ≡ true → (keys : List Key)
    → AllByRecursion (λ one. same_key other one ≡ false) keys → AllByRecursion (λ one. same_key key one ≡ false) keys
apart_turned key other alike [] apart = tt
apart_turned key other alike (one ∷ keys) apart =
    (ap (λ this. same_key this one) ((key_decides key other).0 alike) ∙ apart.0, apart_turned key other alike keys apart.1)

module _ (aggregates : List Aggregate) (key : Key) (inputs : List (List Value)) (kept : Kept) where
  pushed : (known : Bool) (one : Key) (keys : List Key)
      → groups_at (put key inputs kept) (one ∷ (if known then keys else keys ++ key ∷ []))
      ≡ groups_at (put key inputs kept) (if known then one ∷ keys else (one ∷ keys) ++ key ∷ [])
  pushed true one keys = refl
  pushed false one keys = refl

  -- a row's inputs go to the group of the key that is the same, or to a new one
  row_put : (keys : List Key) → IsDistinct same_key keys → (known : Bool) → list_any (same_key key) keys ≡ known
      → (known ≡ false → kept key ≡ running_before aggregates)
      → with_row aggregates key inputs (groups_at kept keys) ≡ groups_at (put key inputs kept) (if known then keys else keys ++ key ∷ [])
  unfolding IsDistinct
  row_put [] apart true is fresh = absurd (true≢false (sym is))
  row_put [] apart false is fresh =
      ap (λ running. (key, running_after 0 running inputs) ∷ []) (sym (fresh refl))
      ∙ ap (λ here. (key, if here then running_after 0 (kept key) inputs else kept key) ∷ []) (sym (same_self key))
  row_put (one ∷ keys) apart known is fresh = go (same_key key one) refl (row_put keys apart.1)
    where
      go : (here : Bool) → same_key key one ≡ here
          → ((later : Bool) → list_any (same_key key) keys ≡ later → (later ≡ false → kept key ≡ running_before aggregates)
          → with_row aggregates key inputs (groups_at kept keys) ≡ groups_at (put key inputs kept) (if later then keys else keys ++ key ∷ []))
          → with_row aggregates key inputs (groups_at kept (one ∷ keys)) ≡ groups_at (put key inputs kept) (if known then one ∷ keys else (one ∷ keys) ++ key ∷ [])
      go true alike later =
          let is_known : true ≡ known = sym (ap (λ here. here || list_any (same_key key) keys) alike) ∙ is in
          ap (λ here. if here then (one, running_after 0 (kept one) inputs) ∷ groups_at kept keys else (one, kept one) ∷ with_row aggregates key inputs (groups_at kept keys)) alike
          ∙ (λ i. (one, sym (ap (λ here. if here then running_after 0 (kept one) inputs else kept one) alike) i)
          ∷ untouched key inputs kept keys (apart_turned key one alike keys apart.0) i)
          ∙ ap (λ answer. groups_at (put key inputs kept) (if answer then one ∷ keys else (one ∷ keys) ++ key ∷ [])) is_known
      go false unlike later =
          let rest : list_any (same_key key) keys ≡ known = sym (ap (λ here. here || list_any (same_key key) keys) unlike) ∙ is in
          ap (λ here. if here then (one, running_after 0 (kept one) inputs) ∷ groups_at kept keys else (one, kept one) ∷ with_row aggregates key inputs (groups_at kept keys)) unlike
          ∙ (λ i. (one, sym (ap (λ here. if here then running_after 0 (kept one) inputs else kept one) unlike) i) ∷ later known rest fresh i)
          ∙ pushed known one keys

both_not : (first second : Bool) → (first || second) ≡ false → (first ≡ false) × (second ≡ false)
both_not true second none = absurd (true≢false none)
both_not false second none = (refl, none)

module _ (aggregates : List Aggregate) (inputs : List (List Value)) where
  -- a key that none of the keys so far is the same as has nothing yet
  fresh_after : (all : List Key) (kept : Kept) (key : Key)
      → ((one : Key) → list_any (λ earlier. same_key earlier one) all ≡ false → kept one ≡ running_before aggregates)
      → (one : Key) → list_any (λ earlier. same_key earlier one) (all ++ key ∷ []) ≡ false → put key inputs kept one ≡ running_before aggregates
  fresh_after all kept key fresh one none =
      let both = both_not (list_any (λ earlier. same_key earlier one) all) (same_key key one || false)
      (sym (list_any-append (λ earlier. same_key earlier one) all (key ∷ [])) ∙ none) in
      let unlike = (both_not (same_key key one) false both.1).0 in
      ap (λ here. if here then running_after 0 (kept one) inputs else kept one) unlike ∙ fresh one both.0

  row_put_distinct : (all : List Key) (kept : Kept) (key : Key)
      → ((one : Key) → list_any (λ earlier. same_key earlier one) all ≡ false → kept one ≡ running_before aggregates)
      → with_row aggregates key inputs (groups_at kept (distinct_of same_key all)) ≡ groups_at (put key inputs kept) (distinct_of same_key (all ++ key ∷ []))
  row_put_distinct all kept key fresh =
      row_put aggregates key inputs kept (distinct_of same_key all) (distinct_once same_key all) (list_any (same_key key) (distinct_of same_key all)) refl
      (λ none. fresh key (sym (distinct_keeps same_key key_equivalence all key) ∙ any_turned same_key key_equivalence (distinct_of same_key all) key ∙ none))
      ∙ ap (groups_at (put key inputs kept)) (insert_one same_key key_equivalence all key)

  rows_put : (keys all : List Key) (kept : Kept)
      → ((one : Key) → list_any (λ earlier. same_key earlier one) all ≡ false → kept one ≡ running_before aggregates)
      → with_row_at aggregates keys inputs (groups_at kept (distinct_of same_key all)) ≡ groups_at (put_all keys inputs kept) (distinct_of same_key (all ++ keys))
  rows_put [] all kept fresh = ap (λ seen. groups_at kept (distinct_of same_key seen)) (sym (append-nil all))
  rows_put (key ∷ keys) all kept fresh =
      ap (with_row_at aggregates keys inputs) (row_put_distinct all kept key fresh)
      ∙ rows_put keys (all ++ key ∷ []) (put key inputs kept) (fresh_after all kept key fresh)
      ∙ ap (λ seen. groups_at (put_all keys inputs (put key inputs kept)) (distinct_of same_key seen)) (append_assoc all (key ∷ []) keys)

any_none : (one : Key) (keys : List Key) → AllByRecursion (λ other. same_key one other ≡ false) keys → list_any (same_key one) keys ≡ false
any_none one [] apart = refl
any_none one (key ∷ keys) apart = ap (λ here. here || list_any (same_key one) keys) apart.0 ∙ any_none one keys apart.1

-- a key has a row's inputs once where it is one of several that differ
put_all_once : (keys : List Key) → IsDistinct same_key keys → (inputs : List (List Value)) (kept : Kept) (one : Key)
    → put_all keys inputs kept one ≡ (if list_any (same_key one) keys then running_after 0 (kept one) inputs else kept one)
unfolding IsDistinct
put_all_once [] apart inputs kept one = refl
put_all_once (key ∷ keys) apart inputs kept one =
    put_all_once keys apart.1 inputs (put key inputs kept) one ∙ go (same_key key one) refl
  where
    go : (here : Bool) → same_key key one ≡ here
        → (if list_any (same_key one) keys then running_after 0 (put key inputs kept one) inputs else put key inputs kept one)
        ≡ (if same_key one key || list_any (same_key one) keys then running_after 0 (kept one) inputs else kept one)
    go true alike =
        let turned : same_key one key ≡ true = key_equivalence.symm one key ∙ alike in
        let none : list_any (same_key one) keys ≡ false = any_none one keys (apart_turned one key turned keys apart.0) in
        ap (λ later. if later then running_after 0 (put key inputs kept one) inputs else put key inputs kept one) none
        ∙ ap (λ here. if here then running_after 0 (kept one) inputs else kept one) alike
        ∙ ap (λ here. if here || list_any (same_key one) keys then running_after 0 (kept one) inputs else kept one) (sym turned)
    go false unlike =
        let turned : same_key one key ≡ false = key_equivalence.symm one key ∙ unlike in
        let here : put key inputs kept one ≡ kept one = ap (λ here. if here then running_after 0 (kept one) inputs else kept one) unlike in
        ap (λ (running : List Running). if list_any (same_key one) keys then running_after 0 running inputs else running) here
        ∙ ap (λ first. if first || list_any (same_key one) keys then running_after 0 (kept one) inputs else kept one) (sym turned)

module _ (aggregates : List Aggregate) where
  -- what a key has of one more row
  key_more : (entries : List Entry) (entry : Entry) (one : Key)
      → (if list_any (same_key one) (keys_of_entry entry) then running_after 0 (running_from 0 aggregates (entries_of_key one entries)) entry.inputs
      else running_from 0 aggregates (entries_of_key one entries))
      ≡ running_from 0 aggregates (entries_of_key one (entries ++ entry ∷ []))
  key_more entries entry one =
      go (list_any (same_key one) (keys_of_entry entry))
      ∙ ap (running_from 0 aggregates) (sym (filter-append (λ (row : Entry). list_any (same_key one) (keys_of_entry row)) entries (entry ∷ [])))
    where
      go : (here : Bool)
          → (if here then running_after 0 (running_from 0 aggregates (entries_of_key one entries)) entry.inputs
          else running_from 0 aggregates (entries_of_key one entries))
          ≡ running_from 0 aggregates (entries_of_key one entries ++ cond here (entry ∷ []) [])
      go true = running_more 0 aggregates (entries_of_key one entries) entry
      go false = ap (running_from 0 aggregates) (sym (append-nil (entries_of_key one entries)))

  none_of_key : (entries : List Entry) (one : Key) → list_any (λ earlier. same_key earlier one) (flat_map keys_of_entry entries) ≡ false
      → entries_of_key one entries ≡ []
  none_of_key [] one none = refl
  none_of_key (entry ∷ entries) one none =
      let both = both_not (list_any (λ earlier. same_key earlier one) (keys_of_entry entry)) (list_any (λ earlier. same_key earlier one) (flat_map keys_of_entry entries))
      (sym (list_any-append (λ earlier. same_key earlier one) (keys_of_entry entry) (flat_map keys_of_entry entries)) ∙ none) in
      let unlike : list_any (same_key one) (keys_of_entry entry) ≡ false = sym (any_turned same_key key_equivalence (keys_of_entry entry) one) ∙ both.0 in
      ap (λ here. cond here (entry ∷ entries_of_key one entries) (entries_of_key one entries)) unlike ∙ none_of_key entries one both.1

  -- the groups by some columns
  some_more : (columns : ℕ) (entries : List Entry) (entry : Entry)
      → with_row_at aggregates (keys_of_entry entry) entry.inputs (groups_of (suc columns) aggregates entries) ≡ groups_of (suc columns) aggregates (entries ++ entry ∷ [])
  some_more columns entries entry =
      let kept : Kept = λ key. running_from 0 aggregates (entries_of_key key entries) in
      let all = flat_map keys_of_entry entries in
      let keys = keys_of_entry entry in
      let has : (one : Key) → put_all keys entry.inputs kept one ≡ running_from 0 aggregates (entries_of_key one (entries ++ entry ∷ [])) =
      λ one. put_all_once keys (keys_distinct entry.keys) entry.inputs kept one ∙ key_more entries entry one in
      let seen : all ++ keys ≡ flat_map keys_of_entry (entries ++ entry ∷ []) =
      sym (flat_map-append keys_of_entry entries (entry ∷ []) ∙ ap (λ more. all ++ more) (append-nil keys)) in
      rows_put aggregates entry.inputs keys all kept
      (λ one none. ap (running_from 0 aggregates) (none_of_key entries one none) ∙ sym (running_first 0 aggregates))
      ∙ (λ i. groups_at (λ one. has one i) (distinct_of same_key (seen i)))

  -- the one group by no column
  one_more : (keys inputs : List (List Value)) (entries : List Entry) → length keys ≡ 0
      → with_row_at aggregates (keys_of_entry (record { keys = keys; inputs = inputs })) inputs (groups_of zero aggregates entries)
      ≡ groups_of zero aggregates (entries ++ (record { keys = keys; inputs = inputs }) ∷ [])
  one_more [] inputs entries none =
      ap (λ running. ([], running) ∷ []) (key_more entries (record { keys = []; inputs = inputs }) [])
  one_more (key ∷ keys) inputs entries none = absurd (omega (arith, none))

  pub groups_more : (columns : ℕ) (entries : List Entry) (entry : Entry) → length entry.keys ≡ columns
      → with_row_at aggregates (keys_of_entry entry) entry.inputs (groups_of columns aggregates entries) ≡ groups_of columns aggregates (entries ++ entry ∷ [])
  groups_more zero entries entry long = one_more entry.keys entry.inputs entries long
  groups_more (suc columns) entries entry long = some_more columns entries entry

  pub groups_first : (columns : ℕ) → groups_before columns aggregates ≡ groups_of columns aggregates []
  groups_first zero = ap (λ running. ([], running) ∷ []) (running_first 0 aggregates)
  groups_first (suc columns) = refl

  rows_at : (entries : List Entry) (keys : List Key) → map row_of_group (map (group_of aggregates entries) keys) ≡ map (cells_of_group aggregates entries) keys
  rows_at entries [] = refl
  rows_at entries (key ∷ keys) = λ i. (running_cells 0 aggregates (entries_of_key key entries) i ++ key) ∷ rows_at entries keys i

  pub rows_in_the_end : (columns : ℕ) (entries : List Entry) → map row_of_group (groups_of columns aggregates entries) ≡ rows_of_groups columns aggregates entries
  rows_in_the_end columns entries = rows_at entries (keys_of_groups columns entries)

  failures_at_keys : (entries : List Entry) (keys : List Key)
      → flat_map failures_of_group (map (group_of aggregates entries) keys) ≡ flat_map (λ key. failures_given aggregates (aggregates_at aggregates entries key)) keys
  failures_at_keys entries [] = refl
  failures_at_keys entries (key ∷ keys) = λ i. running_failures 0 aggregates (entries_of_key key entries) i ++ failures_at_keys entries keys i

  pub failures_in_the_end : (columns : ℕ) (entries : List Entry) → flat_map failures_of_group (groups_of columns aggregates entries) ≡ failures_of_groups columns aggregates entries
  failures_in_the_end columns entries = failures_at_keys entries (keys_of_groups columns entries)
