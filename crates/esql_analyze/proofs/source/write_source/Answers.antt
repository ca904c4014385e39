use Rattle.std.proofs.Common.{List, [], sym, subst}
use Rattle.esql_ast.specs.declared.query.Field.{Field}
use Rattle.esql_ast.specs.declared.query.SourceCommand.{SourceCommand}
use Rattle.esql_plan.specs.declared.plan.PlanSource.TheVariants.{OneRow}
use Rattle.query_semantics.specs.Shapes.{shape_of_fields, shape_of_source}
use Rattle.query_semantics.specs.Written.{source_in_plan, write_fields, write_source, writing_of_columns}
use Rattle.plan_writing.specs.Contexts.{over, over_catalog}
use Rattle.esql_analyze.specs.Plans.{Begins, tables_in_plan, write_tables}
use Rattle.esql_analyze.specs.Regulars.{regulars_of_source}
use Rattle.esql_analyze.proofs.SourceWrites.{tables_hear}
use Rattle.esql_analyze.proofs.source.write_source.Goals as goal

pub returns-in-Tables-clause-hears : goal.returns-in-Tables-clause-hears
returns-in-Tables-clause-hears g c =
    let names = c.as_slice.result.now in
    let catalog = c.args.catalog.now in
    tables_hear g.M.Maker.refused g.M.Maker.last (regulars_of_source c.args.command.now) c.args.maker.now c.in-Tables.span names catalog (tables_in_plan names catalog) (write_tables names catalog)
    c.from_tables.result c.from_tables.ensures

pub returns-in-OneRow-clause-begins : goal.returns-in-OneRow-clause-begins
returns-in-OneRow-clause-begins g c =
    let text = c.args.text.now in
    let catalog = c.args.catalog.now in
    let result = c.from_row.result in
    let begins = subst (λ (fields : List Field). Begins (λ accepts. shape_of_fields (over text accepts) fields []) OneRow (write_fields text fields (writing_of_columns [])) result) c.as_slice-in-OneRow.ensures
    c.from_row.ensures.begins in
    subst (λ (command : SourceCommand). Begins (λ accepts. shape_of_source (over_catalog text catalog accepts) command) (source_in_plan catalog command) (write_source text catalog command) result) (sym c.in-OneRow.is)
    begins
