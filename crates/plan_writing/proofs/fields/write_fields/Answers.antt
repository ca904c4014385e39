use Rattle.std.proofs.Common.{List, drop, ◌+◌, Result, sym, subst}
use Rattle.std.specs.List.{flat_map}
use Rattle.esql_ast.specs.declared.query.Field.{Field}
use Rattle.plan_semantics.specs.Plans.{columns_of}
use Rattle.query_semantics.specs.Shapes.{shape_of_fields}
use Rattle.query_semantics.specs.Written.{write_fields}
use Rattle.expression_analysis.specs.declared.error.AnalyzeError.{AnalyzeError}
use Rattle.plan_writing.specs.declared.writing.Writing.{Writing as Made}
use Rattle.plan_writing.specs.Contexts.{over}
use Rattle.plan_writing.specs.Writings.{seen}
use Rattle.plan_writing.specs.Answers.{Writes, Hears}
use Rattle.plan_writing.specs.Regulars.{regulars_of_field}
use Rattle.plan_writing.proofs.Turns.{Along, along_more, along_refused, dropped, err_is}
use Rattle.plan_writing.proofs.FieldTurns.{fields_turn}
use Rattle.plan_writing.proofs.Heard.{heard_more, untouched_more, within_one}
use Rattle.plan_writing.proofs.fields.write_fields.Goals as goal

pub returns-in_err-writing-clause-writes : goal.returns-in_err-writing-clause-writes
returns-in_err-writing-clause-writes g c =
    let text = c.args.text.now in
    let fields = c.args.fields.now in
    let start = c.args.writing in
    let made = c.loop-field.writing in
    let i = c.loop-field.field-index in
    let item = c.field-item.result in
    let error = c.in_err-writing.field-0.0 in
    let along = subst (λ (rest : List Field). Along (fields_turn text) fields start rest made) (dropped i fields item c.loop-field-test.true c.field-item.is) c.loop-field.invariant.along in
    subst (λ (result : Result Made AnalyzeError). Writes (λ accepts. shape_of_fields (over text accepts) fields (columns_of start.visible)) (write_fields text fields (seen start)) result)
    (sym (err_is c.from_residual.result error c.from_residual.ensures.1))
    (along_refused (fields_turn text) fields start item (drop (i + 1) fields) made error along c.in_err-writing.ensures.writes)

pub returns-in_err-writing-clause-hears : goal.returns-in_err-writing-clause-hears
returns-in_err-writing-clause-hears g c =
    let fields = c.args.fields.now in
    let i = c.loop-field.field-index in
    let item = c.field-item.result in
    let error = c.in_err-writing.field-0.0 in
    subst (λ (result : Result Made AnalyzeError). Hears g.M.Maker.refused g.M.Maker.last (flat_map regulars_of_field fields) c.args.maker.now c.write_field.new.maker result)
    (sym (err_is c.from_residual.result error c.from_residual.ensures.1))
    (heard_more g.M.Maker.refused g.M.Maker.last (regulars_of_field item) (flat_map regulars_of_field fields) c.args.maker.now c.loop-field.maker c.write_field.new.maker error
    c.loop-field.invariant.heard (within_one regulars_of_field i fields item c.loop-field-test.true c.field-item.is) c.in_err-writing.ensures.hears)

pub loop-field-preserved : goal.loop-field-preserved
loop-field-preserved g c =
    let text = c.args.text.now in
    let fields = c.args.fields.now in
    let start = c.args.writing in
    let made = c.loop-field.writing in
    let i = c.loop-field.field-index in
    let item = c.field-item.result in
    let along = subst (λ (rest : List Field). Along (fields_turn text) fields start rest made) (dropped i fields item c.loop-field-test.true c.field-item.is) c.loop-field.invariant.along in
    record {
      along = along_more (fields_turn text) fields start item (drop (i + 1) fields) made c.in_ok-writing.writing along c.in_ok-writing.ensures.writes;
      heard = untouched_more g.M.Maker.refused g.M.Maker.last c.args.maker.now c.loop-field.maker c.write_field.new.maker c.loop-field.invariant.heard c.in_ok-writing.ensures.hears;
    }
