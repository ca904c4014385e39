use Rattle.std.proofs.Common.{◌∙◌, sym}
use Rattle.source_columns.proofs.Held.{column_added, column_kept}
use Rattle.source_columns.proofs.gathered.add_column.Goals as goal

pub returns-in_ok-insert : goal.returns-in_ok-insert
returns-in_ok-insert c =
    column_added c.args.gathered.now c.insert.new.self c.as_str-name.result c.args.column.now c.as_str-name.ensures (sym c.contains_key.ensures ∙ c.if-not-contains_key.true) c.in_ok-insert.ensures.entries

pub returns-else-not-contains_key : goal.returns-else-not-contains_key
returns-else-not-contains_key c =
    column_kept c.args.gathered.now c.as_str-name.result.now c.args.column.now c.as_str-name.ensures c.requires (sym c.contains_key.ensures ∙ c.if-not-contains_key.false)
