-- The names of keys, and names that two keys have.
use Rattle.std.proofs.Common.{◌≡◌, ℕ, zero, suc, ◌+◌, ◌<◌, ◌≤◌, ◌||◌, not, Bool, true, false, List, [], ◌∷◌, ◌++◌, length, take, drop, fold, map, get_or, Option, Some, None, is_some, refl, sym, ap, subst, ◌∙◌, arith, if◌then◌else◌}
use Rattle.std.specs.Option.{option_and_then}
use Rattle.std.specs.List.{list_any}
use Rattle.std.specs.Str.{bytes_eq}
use Rattle.std.proofs.lemmas.List.{drop_more, take_more, length-take-le}
use Rattle.dissect_grok.specs.Joined.{has_name, order_in, turns_of}
use Rattle.function_rules.specs.Lists.{sorted_by}
use Rattle.dissect_grok.specs.Numbered.{AreDistinct, IsIndex, is_noted, number_at, number_of, put_at, turn_order, turns_at}
use Rattle.dissect_grok.specs.Patterns.{have_name_twice, is_named, is_named_again, name_in, names_of, with_name}
use Rattle.dissect_grok.specs.declared.keys.Form.{Form}
use Rattle.dissect_grok.specs.declared.keys.Form.TheVariants.{Skipped, Named, Appended}
use Rattle.dissect_grok.specs.declared.keys.Key.{Key}
use Rattle.dissect_grok.specs.declared.turns.Turn.{Turn}
use Rattle.dissect_grok.proofs.Named.{Numbers, distinct_more, item_put, nothing_more}
use Rattle.dissect_grok.proofs.Ordered.{turns_in_order}

-- the name of one key more
pub name_new : (names after : List (List ℕ)) (named : Option (List ℕ)) (name text : List ℕ) → named ≡ Some name → list_any (bytes_eq name) names ≡ false →
    after ≡ names ++ text ∷ [] → text ≡ name → after ≡ with_name names named
name_new names after named name text is none added same =
    added ∙ ap (λ (last : List ℕ). names ++ last ∷ []) same
    ∙ sym (ap (with_name names) is ∙ ap (λ (among : Bool). if among then names else names ++ name ∷ []) none)

pub name_old : (names : List (List ℕ)) (named : Option (List ℕ)) (name : List ℕ) → named ≡ Some name → list_any (bytes_eq name) names ≡ true → names ≡ with_name names named
name_old names named name is some = sym (ap (with_name names) is ∙ ap (λ (among : Bool). if among then names else names ++ name ∷ []) some)

-- each name stands once among the names of keys
with_name_distinct : (names : List (List ℕ)) (named : Option (List ℕ)) → AreDistinct names → AreDistinct (with_name names named)
with_name_distinct names None distinct = distinct
with_name_distinct names (Some name) distinct = by_among (list_any (bytes_eq name) names) refl
  where
    by_among : (among : Bool) → list_any (bytes_eq name) names ≡ among → AreDistinct (if among then names else names ++ name ∷ [])
    by_among true is = distinct
    by_among false is = distinct_more names name distinct is

names_more_distinct : (names : List (List ℕ)) (keys : List Key) → AreDistinct names → AreDistinct (fold (λ (some : List (List ℕ)) (key : Key). with_name some (name_in key.form)) names keys)
names_more_distinct names [] distinct = distinct
names_more_distinct names (key ∷ keys) distinct = names_more_distinct (with_name names (name_in key.form)) keys (with_name_distinct names (name_in key.form) distinct)

pub names_distinct : (keys : List Key) (names : List (List ℕ)) → names ≡ names_of keys → AreDistinct names
names_distinct keys names is = subst AreDistinct (sym is) (names_more_distinct [] keys tt)

-- a name without `+` that is noted
abbrev pub AreNoted : Numbers → List Key → Type 0
AreNoted noted keys = (name : List ℕ) → is_some (number_at noted name) ≡ list_any (λ (key : Key). is_named name key.form) keys

noted_is_again : (noted : Numbers) (form : Form) (keys : List Key) → AreNoted noted keys → is_noted (number_at noted) form ≡ is_named_again form keys
noted_is_again noted Skipped keys are = refl
noted_is_again noted (Named name) keys are = are name
noted_is_again noted (Appended name order) keys are = refl

from_place : (keys : List Key) (place : ℕ) (key : Key) → place < length keys → key ≡ get_or keys place key → drop place keys ≡ key ∷ drop (place + 1) keys
from_place keys place key within is = drop_more keys place key within ∙ ap (λ (item : Key). item ∷ drop (place + 1) keys) (sym is)

twice_behind : (keys : List Key) (place : ℕ) → have_name_twice (drop place keys) ≡ true → have_name_twice keys ≡ true
twice_behind keys zero is = is
twice_behind [] (suc place) is = is
twice_behind (key ∷ keys) (suc place) is = by_again (is_named_again key.form keys) (twice_behind keys place is)
  where
    by_again : (again : Bool) → have_name_twice keys ≡ true → (again || have_name_twice keys) ≡ true
    by_again true twice = refl
    by_again false twice = twice

pub twice_found : (keys : List Key) (place : ℕ) (key : Key) (noted : Numbers) (again : Bool) → place < length keys → key ≡ get_or keys place key → AreNoted noted (drop (place + 1) keys) →
    again ≡ is_noted (number_at noted) key.form → again ≡ true → true ≡ have_name_twice keys
twice_found keys place key noted again within is are found was_there =
    sym (twice_behind keys place (ap have_name_twice (from_place keys place key within is)
    ∙ ap (λ (b : Bool). b || have_name_twice (drop (place + 1) keys)) (sym (noted_is_again noted key.form (drop (place + 1) keys) are) ∙ sym found ∙ was_there)))

pub still_once : (keys : List Key) (place : ℕ) (key : Key) (noted : Numbers) (again : Bool) → place < length keys → key ≡ get_or keys place key → AreNoted noted (drop (place + 1) keys) →
    again ≡ is_noted (number_at noted) key.form → again ≡ false → have_name_twice (drop (place + 1) keys) ≡ false → have_name_twice (drop place keys) ≡ false
still_once keys place key noted again within is are found is_new once =
    ap have_name_twice (from_place keys place key within is)
    ∙ ap (λ (b : Bool). b || have_name_twice (drop (place + 1) keys)) (sym (noted_is_again noted key.form (drop (place + 1) keys) are) ∙ sym found ∙ is_new) ∙ once

pub still_noted : (keys : List Key) (place : ℕ) (key : Key) (old new : Numbers) → place < length keys → key ≡ get_or keys place key → AreNoted old (drop (place + 1) keys) →
    ((name : List ℕ) → is_some (number_at new name) ≡ (is_named name key.form || is_some (number_at old name))) → AreNoted new (drop place keys)
still_noted keys place key old new within is are noted name =
    noted name ∙ ap (λ (some : Bool). is_named name key.form || some) (are name)
    ∙ sym (ap (list_any (λ (one : Key). is_named name one.form)) (from_place keys place key within is))

-- one turn more
turns_more : (name : List ℕ) (place : ℕ) (keys : List Key) (key : Key) →
    turns_at place (keys ++ key ∷ []) name ≡ turns_at place keys name ++ (if has_name name key.form then record { order = order_in key.form; place = place + length keys } ∷ [] else [])
turns_more name place [] key =
    ap (λ (n : ℕ). if has_name name key.form then (let turn : Turn = record { order = order_in key.form; place = n } in turn) ∷ [] else []) (let same : place ≡ place + 0 = omega arith in same)
turns_more name place (first ∷ rest) key =
    by_first (has_name name first.form) (turns_at (place + 1) rest name) (turns_at (place + 1) (rest ++ key ∷ []) name)
    (if has_name name key.form then record { order = order_in key.form; place = place + suc (length rest) } ∷ [] else [])
    (turns_more name (place + 1) rest key
    ∙ ap (λ (n : ℕ). turns_at (place + 1) rest name ++ (if has_name name key.form then (let turn : Turn = record { order = order_in key.form; place = n } in turn) ∷ [] else []))
    (let same : place + 1 + length rest ≡ place + suc (length rest) = omega arith in same))
  where
    turn : Turn
    turn = record { order = order_in first.form; place = place }

    by_first : (has : Bool) (some more last : List Turn) → more ≡ some ++ last → (if has then turn ∷ more else more) ≡ (if has then turn ∷ some else some) ++ last
    by_first true some more last same = ap (λ (turns : List Turn). turn ∷ turns) same
    by_first false some more last same = same

same_each : (before after : List ℕ → List Turn) → ((name : List ℕ) → after name ≡ before name ++ []) → (names : List (List ℕ)) → map before names ≡ map after names
same_each before after same [] = refl
same_each before after same (name ∷ names) =
    ap (λ (turns : List Turn). turns ∷ map before names) (sym (same name ∙ nothing_more (before name)))
    ∙ ap (λ (lists : List (List Turn)). after name ∷ lists) (same_each before after same names)

form_put : (names : List (List ℕ)) (form : Form) (turn : Turn) (before after : List ℕ → List Turn) → AreDistinct names →
    ((name : List ℕ) → after name ≡ before name ++ (if has_name name form then turn ∷ [] else [])) →
    put_at (option_and_then (number_of names) (name_in form)) (map before names) turn ≡ map after names
form_put names Skipped turn before after distinct added = same_each before after added names
form_put names (Named own) turn before after distinct added = item_put own turn before after added names distinct
form_put names (Appended own order) turn before after distinct added = item_put own turn before after added names distinct

index_in_form : (names : List (List ℕ)) (index : Numbers) (named : Option (List ℕ)) → IsIndex names index → option_and_then (number_at index) named ≡ option_and_then (number_of names) named
index_in_form names index None is = refl
index_in_form names index (Some name) is = is name

pub turn_put : (names : List (List ℕ)) (keys : List Key) (place : ℕ) (key : Key) (index : Numbers) (lists after : List (List Turn)) → AreDistinct names → IsIndex names index →
    place < length keys → key ≡ get_or keys place key → lists ≡ map (turns_at 0 (take place keys)) names →
    after ≡ put_at (option_and_then (number_at index) (name_in key.form)) lists (record { order = order_in key.form; place = place }) →
    after ≡ map (turns_at 0 (take (place + 1) keys)) names
turn_put names keys place key index lists after distinct indexed within is held put =
    let turn : Turn = record { order = order_in key.form; place = place } in
    let more : take (place + 1) keys ≡ take place keys ++ key ∷ [] =
    take_more keys place key within ∙ ap (λ (item : Key). take place keys ++ item ∷ []) (sym is) in
    let number : 0 + length (take place keys) ≡ place = (let long : length (take place keys) ≡ place = length-take-le place keys (omega arith) in omega arith) in
    put ∙ ap (λ (at : Option ℕ). put_at at lists turn) (index_in_form names index (name_in key.form) indexed)
    ∙ ap (λ (some : List (List Turn)). put_at (option_and_then (number_of names) (name_in key.form)) some turn) held
    ∙ form_put names key.form turn (turns_at 0 (take place keys)) (turns_at 0 (take (place + 1) keys)) distinct
    (λ name. ap (λ (some : List Key). turns_at 0 some name) more ∙ turns_more name 0 (take place keys) key
    ∙ ap (λ (n : ℕ). turns_at 0 (take place keys) name ++ (if has_name name key.form then (let one : Turn = record { order = order_in key.form; place = n } in one) ∷ [] else [])) number)

-- the turns of each name in order
pub ordered_each : (keys : List Key) (names : List (List ℕ)) → map (sorted_by turn_order) (map (turns_at 0 keys) names) ≡ map (turns_of keys) names
ordered_each keys [] = refl
ordered_each keys (name ∷ names) =
    ap (λ (turns : List Turn). turns ∷ map (sorted_by turn_order) (map (turns_at 0 keys) names)) (turns_in_order keys name)
    ∙ ap (λ (lists : List (List Turn)). turns_of keys name ∷ lists) (ordered_each keys names)
