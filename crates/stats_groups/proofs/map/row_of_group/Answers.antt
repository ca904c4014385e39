use Rattle.std.proofs.Common.{◌≡◌, [], ◌++◌, List, IfOk, ap, sym, map, length, ◌∙◌, drop}
use Rattle.std.proofs.lemmas.List.{length-map}
use Rattle.esql_types.specs.declared.names.ColId.{ColId}
use Rattle.stats_groups.specs.Cells.{put_cells}
use Rattle.stats_groups.specs.States.{cell_of_running}
use Rattle.stats_groups.proofs.CellSteps.{put_append}
use Rattle.stats_groups.proofs.map.row_of_group.Goals as goal

pub returns-clause-row : goal.returns-clause-row
returns-clause-row c =
    let columns = c.args.columns.now in
    let cells = map cell_of_running c.args.states in
    let behind : c.behind-key_columns.result.now ≡ drop (length cells) columns =
    c.behind-key_columns.ensures ∙ ap (λ count. drop count columns) (c.len.ensures ∙ sym (length-map c.args.states cell_of_running)) in
    let start = c.from_vec-row.ensures ∙ c.in_ok-with_capacity.ensures.items in
    let placed = c.in_ok-put_cells.ensures.row ∙ ap (λ row. put_cells row columns cells) start in
    c.in_ok-put_cells-2.ensures
    ∙ (λ i. put_cells (placed i) (behind i) c.args.key)
    ∙ put_append cells c.args.key [] columns
