use Rattle.std.proofs.Common.{◌≡◌, ◌<◌, List, length, map, get_or, set, take, sym, ap, ◌∙◌, subst, arith}
use Rattle.std.proofs.lemmas.List.{take_all}
use Rattle.esql_types.specs.declared.value.Value.{Value}
use Rattle.table_columns.specs.declared.growing.GrowingColumn.{GrowingColumn}
use Rattle.table_columns.specs.Held.{Held, IsClosed, all_grown}
use Rattle.table_columns.specs.Placing.{filled, with_filled}
use Rattle.table_columns.proofs.Presents.{many_kinds}
use Rattle.table_columns.proofs.Fills.{length-filled, filled_past, filled_more, as_many_cells, cell_kind}
use Rattle.table_columns.proofs.builder.fill_cells.Goals as goal

pub index_mut-requires : goal.index_mut-requires
index_mut-requires c =
    let first = c.args.columns.items in
    let cells = c.args.cells.now in
    let place = c.loop-place.place in
    let columns = c.loop-place.columns.items in
    let same = ap length c.loop-place.invariant in
    let as_long = length-filled c.args.number (take place cells) first in
    let as_many = as_many_cells (map (λ (column : Held). column.kind) (all_grown first)) cells c.requires.cells in
    let kinds = many_kinds first in
    let within = c.loop-place-test.true in
    let there : place < length columns = omega arith in
    omega (arith, there, c.loop-place.columns.ok.0)

pub push_filled-requires-clause-kind : goal.push_filled-requires-clause-kind
push_filled-requires-clause-kind c =
    let first = c.args.columns.items in
    let cells = c.args.cells.now in
    let place = c.loop-place.place in
    let columns = c.loop-place.columns.items in
    let column = c.index_mut.result.now in
    let read : column ≡ get_or first place column = c.index_mut.ensures.value ∙ ap (λ (columns : List GrowingColumn). get_or columns place column) c.loop-place.invariant ∙ filled_past c.args.number cells first place column (omega arith) in
    cell_kind first cells place c.index-cells-place.result column c.requires.cells c.loop-place-test.true c.index-cells-place.is read

pub push_filled-requires-clause-closed : goal.push_filled-requires-clause-closed
push_filled-requires-clause-closed c =
    let first = c.args.columns.items in
    let cells = c.args.cells.now in
    let place = c.loop-place.place in
    let columns = c.loop-place.columns.items in
    let column = c.index_mut.result.now in
    let read : column ≡ get_or first place column = c.index_mut.ensures.value ∙ ap (λ (columns : List GrowingColumn). get_or columns place column) c.loop-place.invariant ∙ filled_past c.args.number cells first place column (omega arith) in
    let as_many = as_many_cells (map (λ (column : Held). column.kind) (all_grown first)) cells c.requires.cells in
    let kinds = many_kinds first in
    subst IsClosed (sym read) (c.requires.closed place column (omega (arith, c.loop-place-test.true)))

pub loop-place-preserved : goal.loop-place-preserved
loop-place-preserved c =
    let first = c.args.columns.items in
    let cells = c.args.cells.now in
    let place = c.loop-place.place in
    let columns = c.loop-place.columns.items in
    let before = c.loop-place.invariant in
    let old = c.index_mut.result.now in
    let new = c.push_filled.new.self in
    let as_many = as_many_cells (map (λ (column : Held). column.kind) (all_grown first)) cells c.requires.cells in
    let kinds = many_kinds first in
    let made : new ≡ with_filled c.args.number c.index-cells-place.result old = c.in_ok-push_filled.ensures in
    ap (λ (columns : List GrowingColumn). set columns place new) before
    ∙ filled_more c.args.number cells first place c.index-cells-place.result old new c.loop-place-test.true (omega (arith, c.loop-place-test.true)) c.index-cells-place.is
    (c.index_mut.ensures.value ∙ ap (λ (columns : List GrowingColumn). get_or columns place old) before) made

pub returns : goal.returns
returns c =
    c.loop-place.invariant ∙ ap (λ (cells : List (List Value)). filled c.args.number cells c.args.columns.items) (take_all c.loop-place.place c.args.cells.now (omega arith))
