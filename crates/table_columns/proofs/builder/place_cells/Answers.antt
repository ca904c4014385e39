use Rattle.std.proofs.Common.{◌≡◌, ◌<◌, List, length, map, sym, ap, ◌∙◌, subst, arith}
use Rattle.esql_types.specs.declared.value.Kind.{Kind}
use Rattle.col_blocks.specs.Cells.{IsOfKind}
use Rattle.table_columns.specs.Held.{Held, IsClosed, all_grown}
use Rattle.table_columns.specs.Placing.{with_cell}
use Rattle.table_columns.specs.Tables.{kind_at}
use Rattle.table_columns.proofs.Presents.{present_within, present_kind, many_kinds, kind_of_column, more_rest, more_closed, more_kinds}
use Rattle.table_columns.proofs.builder.place_cells.Goals as goal

pub index_mut-requires : goal.index_mut-requires
index_mut-requires c =
    let first = c.args.columns.items in
    let columns = c.loop-cell.columns.items in
    let p = c.cell-item.result in
    let below = present_within (map (λ (column : Held). column.kind) (all_grown first)) c.args.present.now c.loop-cell.cell-index p c.requires.present c.loop-cell-test.true c.cell-item.is in
    let same = ap length c.loop-cell.invariant.kinds in
    let one = many_kinds first in
    let other = many_kinds columns in
    omega arith

pub push-requires-clause-kind : goal.push-requires-clause-kind
push-requires-clause-kind c =
    let first = c.args.columns.items in
    let columns = c.loop-cell.columns.items in
    let p = c.cell-item.result in
    let below = present_within (map (λ (column : Held). column.kind) (all_grown first)) c.args.present.now c.loop-cell.cell-index p c.requires.present c.loop-cell-test.true c.cell-item.is in
    let same = ap length c.loop-cell.invariant.kinds in
    let one = many_kinds first in
    let other = many_kinds columns in
    subst (λ (kind : Kind). IsOfKind kind p.cell)
    (ap (λ (kinds : List Kind). kind_at kinds p.column) (sym c.loop-cell.invariant.kinds) ∙ kind_of_column columns p.column c.index_mut.result.now (omega arith) c.index_mut.ensures.value)
    (present_kind (map (λ (column : Held). column.kind) (all_grown first)) c.args.present.now c.loop-cell.cell-index p c.requires.present c.loop-cell-test.true c.cell-item.is)

pub push-requires-clause-closed : goal.push-requires-clause-closed
push-requires-clause-closed c =
    let first = c.args.columns.items in
    let columns = c.loop-cell.columns.items in
    let p = c.cell-item.result in
    let below = present_within (map (λ (column : Held). column.kind) (all_grown first)) c.args.present.now c.loop-cell.cell-index p c.requires.present c.loop-cell-test.true c.cell-item.is in
    let same = ap length c.loop-cell.invariant.kinds in
    let one = many_kinds first in
    let other = many_kinds columns in
    subst IsClosed (sym c.index_mut.ensures.value) (c.loop-cell.invariant.closed p.column c.index_mut.result.now (omega arith))

pub loop-cell-preserved : goal.loop-cell-preserved
loop-cell-preserved c =
    let first = c.args.columns.items in
    let columns = c.loop-cell.columns.items in
    let p = c.cell-item.result in
    let k = c.loop-cell.cell-index in
    let before = c.loop-cell.invariant in
    let old = c.index_mut.result.now in
    let new = c.push.new.self in
    let inside = c.loop-cell-test.true in
    let below = present_within (map (λ (column : Held). column.kind) (all_grown first)) c.args.present.now k p c.requires.present inside c.cell-item.is in
    let same = ap length before.kinds in
    let one = many_kinds first in
    let other = many_kinds columns in
    let there : p.column < length columns = omega arith in
    let made : new ≡ with_cell c.args.number p.cell old = c.in_ok-push.ensures in
    record {
      rest = more_rest c.args.number k c.args.present.now p columns old new inside c.cell-item.is there c.index_mut.ensures.value made ∙ before.rest;
      closed = more_closed c.args.number k c.args.present.now p columns old new inside c.cell-item.is there c.index_mut.ensures.value made before.closed;
      kinds = more_kinds c.args.number k c.args.present.now p columns old new inside c.cell-item.is there c.index_mut.ensures.value made ∙ before.kinds;
    }
