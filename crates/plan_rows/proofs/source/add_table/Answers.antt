use Rattle.std.proofs.Common.{◌≡◌, List, Some, None, ◌++◌, ◌∙◌, ap, sym, map}
use Rattle.std.proofs.lemmas.Result.{on_ok_weaker}
use Rattle.std.specs.Option.{option_copied}
use Rattle.std.specs.Prelude.{slice_get}
use Rattle.plan_rows.specs.Kept.{rows_of}
use Rattle.plan_rows.specs.Held.{tables_held}
use Rattle.plan_rows.specs.Places.{places_of, cells_in}
use Rattle.plan_rows.proofs.Scans.{rows_more, none_more, held_at, without_shape, without_rows}
use Rattle.plan_rows.proofs.source.add_table.Goals as goal

pub returns-in_ok-places-in-Some-Some : goal.returns-in_ok-places-in-Some-Some
returns-in_ok-places-in-Some-Some c =
    let before = c.args.rows.now in
    let after = c.add_rows.new.rows in
    let shapes = c.args.catalog.now.tables in
    let places = c.in_ok-places-in-Some-Some.places in
    let are = c.in_ok-places-in-Some-Some.ensures ∙ ap (λ columns. places_of c.width_of.result c.args.scanned.now columns) c.as_slice.ensures in
    let there : slice_get shapes c.args.number ≡ Some c.in-Some-Some.shape.now = sym c.at.ensures.value ∙ ap option_copied (c.in-Some-Some.is-0 ∙ ap Some c.in-Some-Some.shape-is) in
    let held : slice_get c.args.tables.now c.args.number ≡ Some c.as_slice-in-Some-Some-2.result.now =
    sym c.table_at.ensures ∙ ap option_copied (c.in-Some-Some.is-1 ∙ ap Some c.in-Some-Some.table-is) ∙ ap Some (sym c.as_slice-in-Some-Some-2.ensures) in
    on_ok_weaker c.add_rows.result
    (λ made. rows_more c.width_of.result c.args.scanned.now c.in-Some-Some.shape.now before c.as_slice-in-Some-Some-2.result.now after c.as_slice-in-Some-Some.result.now (c.as_slice-in-Some-Some.ensures ∙ are) made c.width_of.ensures
    (slice_get (tables_held c.args.catalog.now c.args.tables.now).tables c.args.number)
    (held_at shapes c.args.tables.now c.args.number c.in-Some-Some.shape.now c.as_slice-in-Some-Some-2.result.now there held))
    c.add_rows.ensures

pub returns-in-Some-None : goal.returns-in-Some-None
returns-in-Some-None c =
    let none : slice_get c.args.tables.now c.args.number ≡ None = sym c.table_at.ensures ∙ ap option_copied c.in-Some-None.is-1 in
    none_more c.args.scanned.now (rows_of c.args.rows.now) (slice_get (tables_held c.args.catalog.now c.args.tables.now).tables c.args.number)
    (without_rows c.args.catalog.now.tables c.args.tables.now c.args.number none)

pub returns-in-None-default : goal.returns-in-None-default
returns-in-None-default c =
    let none : slice_get c.args.catalog.now.tables c.args.number ≡ None = sym c.at.ensures.value ∙ ap option_copied c.in-None-default.is-0 in
    none_more c.args.scanned.now (rows_of c.args.rows.now) (slice_get (tables_held c.args.catalog.now c.args.tables.now).tables c.args.number)
    (without_shape c.args.catalog.now.tables c.args.tables.now c.args.number none)
