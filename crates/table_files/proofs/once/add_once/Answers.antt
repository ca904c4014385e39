use Rattle.std.proofs.Common.{◌≡◌, true, false, sym, ap, subst, ◌∙◌, arith}
use Rattle.std.specs.BTreeMap.{get_by_text}
use Rattle.std.specs.Option.{is_some}
use Rattle.std.proofs.lemmas.Map.Text.{text_keys}
use Rattle.table_files.specs.Numbers.{AreKnown}
use Rattle.table_files.proofs.NamesOnce.{known_passes, new_last, known_more}
use Rattle.table_files.proofs.once.add_once.Goals as goal

pub returns-then-contains_key-clause-once : goal.returns-then-contains_key-clause-once
returns-then-contains_key-clause-once c =
    let here : is_some (get_by_text c.args.seen.now c.as_str.result.now) ≡ true = sym c.if-contains_key.ensures in
    known_passes c.args.once.now c.args.name.now (sym (c.requires c.args.name.now) ∙ ap (λ name. is_some (get_by_text c.args.seen.now name)) (sym c.as_str.ensures) ∙ here)

pub returns-clause-seen : goal.returns-clause-seen
returns-clause-seen c =
    subst (AreKnown (get_by_text c.insert.new.self)) (sym c.in_ok-push.ensures.ok)
    (known_more (get_by_text c.args.seen.now) (get_by_text c.insert.new.self) c.args.once.now c.args.name.now c.in_ok-copy.field-0 tt c.in_ok-copy.ensures c.requires (λ other. grind (arith, text_keys)))

pub returns-clause-once : goal.returns-clause-once
returns-clause-once c =
    let here : is_some (get_by_text c.args.seen.now c.as_str.result.now) ≡ false = sym c.if-contains_key.ensures in
    c.in_ok-push.ensures.ok
    ∙ new_last c.args.once.now c.args.name.now c.in_ok-copy.field-0 c.in_ok-copy.ensures (sym (c.requires c.args.name.now) ∙ ap (λ name. is_some (get_by_text c.args.seen.now name)) (sym c.as_str.ensures) ∙ here)
