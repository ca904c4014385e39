use Rattle.std.proofs.Common.{◌≡◌, ◌-◌, length, drop, arith, ap, sym, ◌∙◌, cond, Some}
use Rattle.std.specs.Str.{bytes_eq}
use Rattle.std.proofs.lemmas.Map.Text.{btree_map_updates_str}
use Rattle.esql_types.specs.declared.names.Column.{Column}
use Rattle.plan_rows.specs.Places.{place_from}
use Rattle.plan_rows.proofs.Backward.{place_from-turn}
use Rattle.plan_rows.proofs.source.places_by_name.Goals as goal

pub loop-back-preserved : goal.loop-back-preserved
loop-back-preserved c = λ name.
    let columns = c.args.columns.now in
    let back = c.loop-back.back in
    let column = c.index-columns-place.result in
    let rest = place_from (drop (length columns - back) columns) (length columns - back) name in
    btree_map_updates_str c.as_str.result.now c.loop-back.named c.insert.new.self _ c.in_ok-insert.ensures.updates name
    ∙ ap (cond (bytes_eq c.as_str.result.now name) (Some (length columns - 1 - back))) (c.loop-back.invariant name)
    ∙ ap (λ text. cond (bytes_eq text name) (Some (length columns - 1 - back)) rest) c.as_str.ensures
    ∙ ap (λ (one : Column). cond (bytes_eq one.name name) (Some (length columns - 1 - back)) rest) (sym c.index-columns-place.is)
    ∙ place_from-turn columns back column name (omega arith) c.index-columns-place.is
