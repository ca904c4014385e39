use Rattle.std.proofs.Common.{None, sym}
use Rattle.std.specs.BTreeMap.{get_by_text}
use Rattle.std.proofs.lemmas.Map.Text.{btree_map_updates_text}
use Rattle.name_rules.proofs.RenamePlaces.{within_some}
use Rattle.name_rules.proofs.RenameSteps.{goes, goes_not}
use Rattle.name_rules.proofs.renames.let_go.Goals as goal

pub replace-requires : goal.replace-requires
replace-requires c = within_some c.args.names.now c.in-Some.place _ (c.requires.stands c.args.name.now c.in-Some.place (sym c.in-Some.ensures.value))

pub returns-in-Some-clause-names : goal.returns-in-Some-clause-names
returns-in-Some-clause-names c =
    goes c.args.names.now c.replace.new.self (get_by_text c.args.places.now) c.args.name.now c.in-Some.place c.requires (sym c.in-Some.ensures.value) c.replace.ensures.new

pub returns-in-Some-clause-places : goal.returns-in-Some-clause-places
returns-in-Some-clause-places c = btree_map_updates_text c.args.name.now c.args.places.now c.remove.new.self None c.remove.ensures.updates

pub returns-in_default-clause-names : goal.returns-in_default-clause-names
returns-in_default-clause-names c = goes_not c.args.names.now (get_by_text c.args.places.now) c.args.name.now c.requires (sym c.in_default.ensures.value)
