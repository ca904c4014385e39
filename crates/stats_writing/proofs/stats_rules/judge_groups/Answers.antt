use Rattle.std.proofs.Common.{List, drop, ◌+◌, Result, IfErr, sym, subst, arith}
use Rattle.std.specs.List.{flat_map}
use Rattle.esql_ast.specs.declared.query.Field.{Field}
use Rattle.esql_ast.specs.Nodes.{nodes_of_field}
use Rattle.plan_semantics.specs.Plans.{columns_of}
use Rattle.query_semantics.specs.StatsShapes.{kinds_of_groups}
use Rattle.expression_analysis.specs.declared.error.AnalyzeError.{AnalyzeError}
use Rattle.expression_analysis.specs.Answers.{IsRefusal}
use Rattle.plan_writing.specs.Answers.{Hears}
use Rattle.plan_writing.specs.Regulars.{regulars_of_field}
use Rattle.plan_writing.proofs.Heard.{heard_more, untouched_more, within_one}
use Rattle.stats_writing.proofs.StatsTurns.{GroupsAlong, groups_more, groups_refused, one_few}
use Rattle.plan_writing.proofs.Turns.{dropped, err_is}
use Rattle.stats_writing.proofs.stats_rules.judge_groups.Goals as goal

pub kind_outside-requires : goal.kind_outside-requires
kind_outside-requires g c =
    let groups = c.args.groups.now in
    let few = one_few nodes_of_field c.loop-group.group-index groups c.group-item.result c.loop-group-test.true c.group-item.is in
    omega (arith, few, c.requires)

pub returns-in_err-kind_outside-clause-refusal : goal.returns-in_err-kind_outside-clause-refusal
returns-in_err-kind_outside-clause-refusal g c =
    let columns = columns_of c.args.columns.now in
    let groups = c.args.groups.now in
    let i = c.loop-group.group-index in
    let item = c.group-item.result in
    let error = c.in_err-kind_outside.field-0.0 in
    let along = subst (λ (rest : List Field). GroupsAlong columns groups rest) (dropped i groups item c.loop-group-test.true c.group-item.is) c.loop-group.invariant.along in
    subst (λ (result : Result (Unit {0}) AnalyzeError). IfErr result (IsRefusal (λ accepts. kinds_of_groups accepts columns groups)))
    (sym (err_is c.from_residual.result error c.from_residual.ensures.1))
    (groups_refused columns groups item (drop (i + 1) groups) error along c.in_err-kind_outside.ensures.refusal)

pub returns-in_err-kind_outside-clause-hears : goal.returns-in_err-kind_outside-clause-hears
returns-in_err-kind_outside-clause-hears g c =
    let groups = c.args.groups.now in
    let i = c.loop-group.group-index in
    let item = c.group-item.result in
    let error = c.in_err-kind_outside.field-0.0 in
    subst (λ (result : Result (Unit {0}) AnalyzeError). Hears g.M.Maker.refused g.M.Maker.last (flat_map regulars_of_field groups) c.args.maker.now c.kind_outside.new.maker result)
    (sym (err_is c.from_residual.result error c.from_residual.ensures.1))
    (heard_more g.M.Maker.refused g.M.Maker.last (regulars_of_field item) (flat_map regulars_of_field groups) c.args.maker.now c.loop-group.maker c.kind_outside.new.maker error
    c.loop-group.invariant.heard (within_one regulars_of_field i groups item c.loop-group-test.true c.group-item.is) c.in_err-kind_outside.ensures.hears)

pub loop-group-preserved : goal.loop-group-preserved
loop-group-preserved g c =
    let columns = columns_of c.args.columns.now in
    let groups = c.args.groups.now in
    let i = c.loop-group.group-index in
    let item = c.group-item.result in
    let along = subst (λ (rest : List Field). GroupsAlong columns groups rest) (dropped i groups item c.loop-group-test.true c.group-item.is) c.loop-group.invariant.along in
    record {
      along = groups_more columns groups item (drop (i + 1) groups) c.in_ok-kind_outside.field-0 along c.in_ok-kind_outside.ensures.kind;
      heard = untouched_more g.M.Maker.refused g.M.Maker.last c.args.maker.now c.loop-group.maker c.kind_outside.new.maker c.loop-group.invariant.heard c.in_ok-kind_outside.ensures.hears;
    }
