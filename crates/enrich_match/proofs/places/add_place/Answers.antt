use Rattle.std.proofs.Common.{ℕ, List, [], Option, sym, ap, ◌∙◌}
use Rattle.std.specs.Map.{lookup}
use Rattle.std.specs.Option.{unwrap_or}
use Rattle.indexmap.proofs.MapLemmas.{insert_entry-first, Found-position}
use Rattle.esql_types.specs.declared.value.Value.{Value}
use Rattle.plain_functions.specs.Values.{value_same}
use Rattle.enrich_match.specs.Places.{places_at, with_place}
use Rattle.enrich_match.proofs.Entries.{no_places, placed}
use Rattle.enrich_match.proofs.places.add_place.Goals as goal

pub returns-in_ok-push_place-in-Some : goal.returns-in_ok-push_place-in-Some
returns-in_ok-push_place-in-Some c = λ value.
    let entries = c.args.places.now.entries in
    let new = c.push_place.new.places in
    let written = insert_entry-first value_same c.args.key new entries c.in-Some.at (Found-position (value_same c.args.key) entries c.in-Some.at (sym c.in-Some.ensures.index)).first in
    let old = ap (λ (found : Option (List ℕ)). unwrap_or found []) (sym c.in-Some.ensures.value ∙ c.index_mut.ensures.value) in
    ap (λ (these : List (Value × List ℕ)). places_at these value) (sym written)
    ∙ placed entries c.args.key c.args.place new (c.in_ok-push_place-in-Some.ensures ∙ ap (λ (these : List ℕ). with_place these c.args.place) (sym old)) value

pub returns-in_ok-insert-in-None : goal.returns-in_ok-insert-in-None
returns-in_ok-insert-in-None c = λ value.
    let entries = c.args.places.now.entries in
    let new = c.push_place-in-None.new.places in
    let none = no_places (lookup (value_same c.args.key) entries) (sym c.in-None.ensures.found) in
    ap (λ (these : List (Value × List ℕ)). places_at these value) c.in_ok-insert-in-None.ensures.entries
    ∙ placed entries c.args.key c.args.place new (c.in_ok-push_place-in-None.ensures ∙ ap (λ (these : List ℕ). with_place these c.args.place) (c.new-first.ensures ∙ sym none)) value
