use Rattle.std.proofs.Common.{◌≡◌, List, Option, Some, None, ◌++◌, ◌∙◌, ap, sym, map}
use Rattle.std.proofs.lemmas.List.{append-nil}
use Rattle.std.proofs.lemmas.Result.{on_ok_weaker}
use Rattle.std.specs.Option.{option_copied}
use Rattle.std.specs.Prelude.{slice_get}
use Rattle.plan_semantics.specs.Tables.{TableHeld}
use Rattle.plan_semantics.specs.Taken.{match_row, match_rows}
use Rattle.plan_rows.specs.Held.{shapes_held}
use Rattle.plan_rows.proofs.Scans.{held_at, without_shape, without_rows}
use Rattle.plan_rows.proofs.enrich.add_table.Goals as goal

pub returns-in-Some-Some : goal.returns-in-Some-Some
returns-in-Some-Some c =
    let shapes = c.args.catalog.now.tables in
    let before = c.args.lookup.now.rows in
    let policy = c.args.policy.now in
    let there : slice_get shapes c.args.number ≡ Some c.in-Some-Some.shape.now = sym c.at.ensures.value ∙ ap option_copied (c.in-Some-Some.is-0 ∙ ap Some c.in-Some-Some.shape-is) in
    let held : slice_get c.args.tables.now c.args.number ≡ Some c.as_slice.result.now =
    sym c.table_at.ensures ∙ ap option_copied (c.in-Some-Some.is-1 ∙ ap Some c.in-Some-Some.table-is) ∙ ap Some (sym c.as_slice.ensures) in
    on_ok_weaker c.add_rows.result
    (λ made. made
    ∙ ap (λ columns. before ++ map (match_row policy columns) c.as_slice.result.now) c.as_slice-columns.ensures
    ∙ ap (λ (one : Option TableHeld). before ++ match_rows policy one) (sym (held_at shapes c.args.tables.now c.args.number c.in-Some-Some.shape.now c.as_slice.result.now there held)))
    c.add_rows.ensures

pub returns-in-Some-None : goal.returns-in-Some-None
returns-in-Some-None c =
    let none : slice_get c.args.tables.now c.args.number ≡ None = sym c.table_at.ensures ∙ ap option_copied c.in-Some-None.is-1 in
    sym (append-nil c.args.lookup.now.rows)
    ∙ ap (λ (one : Option TableHeld). c.args.lookup.now.rows ++ match_rows c.args.policy.now one) (sym (without_rows c.args.catalog.now.tables c.args.tables.now c.args.number none))

pub returns-in-None-default : goal.returns-in-None-default
returns-in-None-default c =
    let none : slice_get c.args.catalog.now.tables c.args.number ≡ None = sym c.at.ensures.value ∙ ap option_copied c.in-None-default.is-0 in
    sym (append-nil c.args.lookup.now.rows)
    ∙ ap (λ (one : Option TableHeld). c.args.lookup.now.rows ++ match_rows c.args.policy.now one) (sym (without_shape c.args.catalog.now.tables c.args.tables.now c.args.number none))
