use Rattle.std.proofs.Common.{List, [], refl, sym, subst}
use Rattle.esql_ast.specs.declared.query.Field.{Field}
use Rattle.esql_ast.specs.declared.query.SortKey.{SortKey}
use Rattle.esql_ast.specs.declared.query.CommandKind.{CommandKind}
use Rattle.plan_semantics.specs.Plans.{columns_of}
use Rattle.query_semantics.specs.Shapes.{shape_of_fields, shape_of_keys, shape_of_kind}
use Rattle.query_semantics.specs.Written.{write_fields, write_sort, write_kind}
use Rattle.plan_writing.specs.Contexts.{over, over_catalog}
use Rattle.plan_writing.specs.Writings.{seen}
use Rattle.plan_writing.specs.Answers.{Writes}
use Rattle.esql_analyze.proofs.SortWrites.{sorts_anywhere}
use Rattle.esql_analyze.specs.Regulars.{regulars_of_kind}
use Rattle.query_semantics.specs.AppendedShapes.{shape_of_enrich}
use Rattle.query_semantics.specs.WrittenAppended.{write_enrich}
use Rattle.esql_analyze.proofs.CommandWrites.{hears_then, enrich_plain}
use Rattle.esql_analyze.proofs.commands.write_kind.Goals as goal

pub returns-in-Eval-clause-writes : goal.returns-in-Eval-clause-writes
returns-in-Eval-clause-writes g c =
    let text = c.args.text.now in
    let catalog = c.args.catalog.now in
    let old = c.args.writing in
    let result = c.write_fields.result in
    let writes = subst (λ (fields : List Field). Writes (λ accepts. shape_of_fields (over text accepts) fields (columns_of old.visible)) (write_fields text fields (seen old)) result) c.as_slice.ensures c.write_fields.ensures.writes in
    subst (λ (kind : CommandKind). Writes (λ accepts. shape_of_kind (over_catalog text catalog accepts) kind (columns_of old.visible)) (write_kind text catalog.policies c.args.command.now.node kind (seen old)) result) (sym c.in-Eval.is)
    writes

pub returns-in-Sort-clause-writes : goal.returns-in-Sort-clause-writes
returns-in-Sort-clause-writes g c =
    let text = c.args.text.now in
    let catalog = c.args.catalog.now in
    let old = c.args.writing in
    let result = c.write_sort.result in
    let writes = subst (λ (keys : List SortKey). Writes (λ accepts. shape_of_keys (over [] accepts) keys (columns_of old.visible)) (write_sort keys (seen old)) result) c.as_slice-in-Sort.ensures c.write_sort.ensures.writes in
    subst (λ (kind : CommandKind). Writes (λ accepts. shape_of_kind (over_catalog text catalog accepts) kind (columns_of old.visible)) (write_kind text catalog.policies c.args.command.now.node kind (seen old)) result) (sym c.in-Sort.is)
    (sorts_anywhere text c.in-Sort.keys (columns_of old.visible) (write_sort c.in-Sort.keys (seen old)) result writes)

pub returns-in-Enrich-clause-hears : goal.returns-in-Enrich-clause-hears
returns-in-Enrich-clause-hears g c =
    let policies = c.args.catalog.now.policies in
    let columns = columns_of c.args.writing.visible in
    hears_then g.M.Maker.refused g.M.Maker.last (regulars_of_kind c.args.command.now.kind) c.args.maker.now c.args.maker.now (shape_of_enrich policies c.in-Enrich.policy c.in-Enrich.on c.in-Enrich.fields columns)
    (write_enrich policies c.in-Enrich.policy c.in-Enrich.on c.in-Enrich.fields (seen c.args.writing)) c.write_enrich.result (enrich_plain policies c.in-Enrich.policy c.in-Enrich.on c.in-Enrich.fields columns)
    c.write_enrich.ensures (record { counted = refl; noted = refl })
