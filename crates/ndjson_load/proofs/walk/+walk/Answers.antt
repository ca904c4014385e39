use Rattle.std.proofs.Common.{◌≡◌, ◌++◌, Some, None, Ok, option_map, string_bytes, sym, ap, ◌∙◌, subst, append-nil}
use Rattle.std.specs.Prelude.{codes}
use Rattle.serde_json.specs.View.{view, members_view}
use Rattle.serde_json.proofs.Views.{view-Object, view_of_ref, view-lookup}
use Rattle.ndjson_load.specs.Joining.{after}
use Rattle.ndjson_load.specs.Mappings.{Gives, columns_of, property_columns}
use Rattle.ndjson_load.proofs.Joins.{after_more}
use Rattle.ndjson_load.proofs.Properties.{property_columns-from}
use Rattle.ndjson_load.proofs.walk.+walk.Goals as goal

pub walk_properties-loop-key-preserved : goal.walk_properties-loop-key-preserved
walk_properties-loop-key-preserved t c =
    let prefix = c.args.prefix.now in
    let had = c.loop-key.found.items in
    let now = c.walk_property.new.found.items in
    let property = view c.in-Some.property.now in
    let key = string_bytes c.in-Some.key.now in
    let named = c.as_str-in-loop-key.ensures.value ∙ c.in_ok-path.ensures ∙ ap (λ k. prefix ++ k) c.as_str.ensures.value in
    let stepped = ap (λ es. after had (columns_of prefix (members_view es))) c.in-Some.ensures.steps in
    c.loop-key.invariant ∙ stepped ∙ after_more had now (property_columns (prefix ++ key) property) (columns_of prefix (members_view c.next.new.self))
    (subst (λ p. after had (property_columns p property) ≡ Ok now) named c.in_ok-walk_property.ensures)

pub walk_property-returns-in-None : goal.walk_property-returns-in-None
walk_property-returns-in-None t c =
    let had = c.args.found.now.items in
    let path = c.args.path.now in
    let object_is = ap view c.in-Object.is ∙ view-Object c.in-Object.members in
    let found = view_of_ref c.get.result ∙ ap (option_map view) c.get.ensures.value ∙ view-lookup (codes "properties") c.in-Object.members.entries in
    let none = sym (ap (option_map (λ x. view x.now)) c.in-None.is) ∙ found in
    ap (after had) (property_columns-from path (view c.args.property.now) (members_view c.in-Object.members.entries) None object_is (sym c.if-not-is_branch.ensures) none) ∙ ap Ok (append-nil had)

pub walk_property-returns-in-Some : goal.walk_property-returns-in-Some
walk_property-returns-in-Some t c =
    let had = c.args.found.now.items in
    let path = c.args.path.now in
    let object_is = ap view c.in-Object.is ∙ view-Object c.in-Object.members in
    let found = view_of_ref c.get.result ∙ ap (option_map view) c.get.ensures.value ∙ view-lookup (codes "properties") c.in-Object.members.entries in
    let inner = sym (ap (option_map (λ x. view x.now)) c.in-Some.is) ∙ found in
    subst (λ meant. Gives (after had meant) c.walk_inner.result c.walk_inner.new.found.items)
    (sym (property_columns-from path (view c.args.property.now) (members_view c.in-Object.members.entries) (Some (view c.in-Some.inner.now)) object_is (sym c.if-not-is_branch.ensures) inner))
    c.walk_inner.ensures
