use Rattle.std.proofs.Common.{refl, sym, ◌∙◌}
use Rattle.name_rules.specs.NameRules.{renamings, renamed_by}
use Rattle.plan_semantics.specs.Plans.{columns_of}
use Rattle.row_semantics.specs.Columns.{names_of, column_as}
use Rattle.query_semantics.proofs.Named.{names_of-columns}
use Rattle.esql_analyze.proofs.NameWrites.{renamed_writes, pair_told}
use Rattle.esql_analyze.proofs.names.write_rename.Goals as goal

pub returns-in-Err : goal.returns-in-Err
returns-in-Err c =
    let pairs = c.args.pairs.now in
    let visible = c.args.writing.visible in
    pair_told c.in_ok-apart.apart.names pairs (columns_of visible) (renamed_by column_as (renamings (names_of (columns_of visible)) pairs) (columns_of visible)) c.in-Err.error c.pair_error.result
    (names_of-columns visible ∙ sym c.in_ok-apart.ensures.names) c.in-Err.ensures c.pair_error.ensures

pub returns : goal.returns
returns c =
    let old = c.args.writing in
    renamed_writes c.args.pairs.now old (record { visible = c.in_ok-visible.visible; next = old.next; patterns = old.patterns; cutters = old.cutters; steps = old.steps }) c.in_ok-apart.apart c.in-Ok.renamed
    c.in_ok-apart.ensures.names c.in_ok-apart.ensures.shown c.in-Ok.ensures.0 c.in-Ok.ensures.1 c.in_ok-visible.ensures refl refl refl refl
