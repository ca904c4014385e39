use Rattle.std.proofs.Common.{None, Some, cond, sym, ap, ◌∙◌, arith}
use Rattle.std.specs.BTreeMap.{get_by_text}
use Rattle.std.specs.Str.{bytes_eq}
use Rattle.std.specs.String.{string_bytes}
use Rattle.std.proofs.lemmas.Map.Text.{btree_map_updates_text, text_keys}
use Rattle.name_rules.proofs.RenamePlaces.{within_some}
use Rattle.name_rules.proofs.RenameSteps.{calls, calls_not}
use Rattle.name_rules.proofs.renames.call.Goals as goal

pub returns-in-None-clause-names : goal.returns-in-None-clause-names
returns-in-None-clause-names c =
    calls_not c.args.names.now (get_by_text c.args.places.now) c.args.before.now c.args.after.now c.requires.inverse (sym c.in-None.ensures.value)

pub replace-requires : goal.replace-requires
replace-requires c = within_some c.args.names.now c.in-Some.place _ (c.requires.inverse.stands c.args.before.now c.in-Some.place (sym c.in-Some.ensures.value))

pub returns-clause-names : goal.returns-clause-names
returns-clause-names c =
    calls c.args.names.now c.replace.new.self (get_by_text c.args.places.now) c.args.before.now c.args.after.now _ c.in-Some.place c.requires.inverse (sym c.in-Some.ensures.value)
    c.in_ok-copy.ensures c.replace.ensures.new

pub returns-clause-places : goal.returns-clause-places
returns-clause-places c = grind (arith, text_keys)
