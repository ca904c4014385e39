use Rattle.std.proofs.Common.{subst, sym, refl, ap, fold, List, ◌∙◌}
use Rattle.std.specs.List.{list_any}
use Rattle.esql_types.specs.declared.names.Column.{Column}
use Rattle.row_semantics.specs.Sources as source
use Rattle.source_columns.specs.Gathered.{columns_in, AreOrdered}
use Rattle.source_columns.proofs.Order.{ordered_fold}
use Rattle.source_columns.proofs.Again.{newly_taken}
use Rattle.source_columns.proofs.sources.add_table.Goals as goal

pub has_clash-requires-2 : goal.has_clash-requires-2
has_clash-requires-2 c =
    subst AreOrdered (sym c.in_ok-add_columns.ensures) (ordered_fold c.as_slice-columns.result.now (columns_in c.args.gathered.now.entries) c.requires)

pub returns-clause-taken : goal.returns-clause-taken
returns-clause-taken c =
    let after = columns_in c.add_columns.new.gathered.entries in
    newly_taken (columns_in c.args.gathered.now.entries) after c.args.table.now _ c.has_clash-2.result c.requires
    (c.in_ok-add_columns.ensures ∙ ap (λ (these : List Column). fold source.with_column (columns_in c.args.gathered.now.entries) these) c.as_slice-columns.ensures)
    (c.has_clash-2.ensures ∙ ap (λ (these : List Column). list_any (source.clashes after) these) c.as_slice-columns.ensures) refl
