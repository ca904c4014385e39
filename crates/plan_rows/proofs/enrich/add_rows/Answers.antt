use Rattle.std.proofs.Common.{◌≡◌, [], ◌++◌, ◌∷◌, ◌∙◌, ap, map, arith}
use Rattle.std.specs.BTreeMap.{get_by}
use Rattle.std.specs.Cmp.Lexicographic.{slice_cmp}
use Rattle.std.specs.Ordering.{nat_cmp}
use Rattle.esql_types.specs.declared.names.Column.{Column}
use Rattle.plan_semantics.specs.Taken.{match_row}
use Rattle.plan_rows.specs.Places.{cells_in}
use Rattle.plan_rows.proofs.ListTurns.{map_turn}
use Rattle.plan_rows.proofs.MatchRows.{match_row-is}
use Rattle.plan_rows.proofs.enrich.add_rows.Goals as goal
use Rattle.plan_rows.proofs.enrich.add_rows.Goals.{in-Inline-3, in-Heap-3}

pub loop-row-preserved : goal.loop-row-preserved
loop-row-preserved c =
    let row = c.row-item.result in
    let policy = c.args.policy.now in
    let columns = c.args.columns.now in
    let named = c.in_ok-named.named in
    let key = c.place_named-key.ensures ∙ c.in_ok-named.ensures policy.match_field.name in
    let places = c.in_ok-places.ensures ∙ ap (map (λ (field : Column). get_by (λ key. slice_cmp nat_cmp field.name key.now) named)) c.as_slice.ensures in
    let cells = c.as_slice-in-loop-row-2.ensures ∙ c.in_ok-cells.ensures ∙ ap (λ these. cells_in these row) c.as_slice-in-loop-row.ensures in
    let is = match_row-is policy columns row c.in_ok-cell.cell c.as_slice-in-loop-row-2.result.now c.place_named-key.result (λ field. get_by (λ key. slice_cmp nat_cmp field.name key.now) named) c.in_ok-places.places
    key (λ field. c.in_ok-named.ensures field.name) places c.in_ok-cell.ensures cells in
    let turn = map_turn (match_row policy columns) c.args.lookup.now.rows c.loop-row.lookup.rows c.add.new.self.rows c.args.table.now c.loop-row.row-index row
    c.loop-row.invariant (omega arith) c.row-item.is (ap (λ lookup. lookup.rows) c.in_ok-add.ensures.ok ∙ ap (λ one. c.loop-row.lookup.rows ++ one ∷ []) is) in
    elim c.match-cell-3.branch [ in-Inline-3 w ↦ turn | in-Heap-3 w ↦ turn ]
