use Rattle.std.proofs.Common.{Result, sym, subst, arith}
use Rattle.expression_analysis.specs.declared.error.AnalyzeError.{AnalyzeError}
use Rattle.esql_analyze.specs.declared.source.Begun.{Begun}
use Rattle.esql_analyze.specs.Plans.{Begins, shape_of_tables, tables_in_plan, write_tables}
use Rattle.esql_analyze.proofs.Tables.{tables_few, columns_few}
use Rattle.plan_writing.proofs.Turns.{err_is}
use Rattle.esql_analyze.proofs.SourceWrites.{tables_begin, source_told, empty_told}
use Rattle.esql_analyze.proofs.source.from_tables.Goals as goal

pub scan-requires-clause-tables : goal.scan-requires-clause-tables
scan-requires-clause-tables c = omega (arith, tables_few c.args.catalog.now.tables, c.requires.few)

pub scan-requires-clause-columns : goal.scan-requires-clause-columns
scan-requires-clause-columns c = omega (arith, columns_few c.args.catalog.now.tables c.args.names.now c.in-Ok.columns c.in-Ok.ensures.columns, c.requires.few)

pub returns-in-Err : goal.returns-in-Err
returns-in-Err c = source_told c.args.span c.args.names.now c.args.catalog.now c.in-Err.error c.source_error.result c.in-Err.ensures.broken c.source_error.ensures

pub returns-in_err-writing : goal.returns-in_err-writing
returns-in_err-writing c =
    let span = c.args.span in
    let names = c.args.names.now in
    let catalog = c.args.catalog.now in
    let error = c.in_err-writing.field-0.0 in
    subst (λ (result : Result Begun AnalyzeError). Begins (λ accepts. shape_of_tables span names catalog) (tables_in_plan names catalog) (write_tables names catalog) result)
    (sym (err_is c.from_residual-in_err-writing.result error c.from_residual-in_err-writing.ensures.1))
    (empty_told span names catalog c.in-Ok.columns c.in_ok-begun.begun error c.in-Ok.ensures.columns c.in_ok-begun.ensures c.in_err-writing.ensures)

pub returns : goal.returns
returns c =
    tables_begin c.args.span c.args.names.now c.args.catalog.now c.in-Ok.columns c.in_ok-begun.begun c.in_ok-writing.writing c.in-Ok.ensures.columns c.in_ok-begun.ensures c.in_ok-writing.ensures
