use Rattle.std.proofs.Common.{◌≡◌, List, [], ◌++◌, drop, ◌+◌, Result, refl, sym, subst, arith}
use Rattle.std.proofs.lemmas.List.{drop_all}
use Rattle.std.specs.List.{flat_map}
use Rattle.esql_ast.specs.declared.query.SortKey.{SortKey}
use Rattle.plan_semantics.specs.Plans.{columns_of}
use Rattle.query_semantics.specs.Shapes.{shape_of_keys}
use Rattle.query_semantics.specs.Written.{keys_in_plan, write_sort}
use Rattle.expression_analysis.specs.declared.error.AnalyzeError.{AnalyzeError}
use Rattle.plan_writing.specs.declared.writing.Writing.{Writing as Made}
use Rattle.plan_writing.specs.Contexts.{over}
use Rattle.plan_writing.specs.Writings.{seen}
use Rattle.plan_writing.specs.Answers.{Writes, Hears}
use Rattle.esql_analyze.specs.Regulars.{regulars_of_key}
use Rattle.plan_writing.proofs.Turns.{Along, along_more, along_refused, dropped, err_is}
use Rattle.esql_analyze.proofs.CommandTurns.{keys_turn}
use Rattle.plan_writing.proofs.Heard.{heard_more, untouched_more, within_one}
use Rattle.esql_analyze.proofs.SortWrites.{keys_behind, key_shaped, key_refused, sort_writes}
use Rattle.esql_analyze.proofs.sort.write_sort.Goals as goal

pub returns-in_err-input-clause-writes : goal.returns-in_err-input-clause-writes
returns-in_err-input-clause-writes g c =
    let keys = c.args.keys.now in
    let start = c.args.writing in
    let made = c.loop-key.writing in
    let i = c.loop-key.key-index in
    let item = c.key-item.result in
    let error = c.in_err-input.field-0.0 in
    let along = subst (λ (rest : List SortKey). Along keys_turn keys start rest made) (dropped i keys item c.loop-key-test.true c.key-item.is) c.loop-key.invariant.along in
    subst (λ (result : Result Made AnalyzeError). Writes (λ accepts. shape_of_keys (over [] accepts) keys (columns_of start.visible)) (write_sort keys (seen start)) result)
    (sym (err_is c.from_residual.result error c.from_residual.ensures.1))
    (along_refused keys_turn keys start item (drop (i + 1) keys) made error along (key_refused item made error c.in_err-input.ensures.refusal))

pub returns-in_err-input-clause-hears : goal.returns-in_err-input-clause-hears
returns-in_err-input-clause-hears g c =
    let keys = c.args.keys.now in
    let i = c.loop-key.key-index in
    let item = c.key-item.result in
    let error = c.in_err-input.field-0.0 in
    subst (λ (result : Result Made AnalyzeError). Hears g.M.Maker.refused g.M.Maker.last (flat_map regulars_of_key keys) c.args.maker.now c.write_input.new.maker result)
    (sym (err_is c.from_residual.result error c.from_residual.ensures.1))
    (heard_more g.M.Maker.refused g.M.Maker.last (regulars_of_key item) (flat_map regulars_of_key keys) c.args.maker.now c.loop-key.maker c.write_input.new.maker error
    c.loop-key.invariant.heard (within_one regulars_of_key i keys item c.loop-key-test.true c.key-item.is) c.in_err-input.ensures.hears)

pub loop-key-preserved : goal.loop-key-preserved
loop-key-preserved g c =
    let keys = c.args.keys.now in
    let start = c.args.writing in
    let made = c.loop-key.writing in
    let i = c.loop-key.key-index in
    let item = c.key-item.result in
    let input = c.in_ok-input.input in
    let all = keys_in_plan keys (seen start) in
    let left = dropped i keys item c.loop-key-test.true c.key-item.is in
    let along = subst (λ (rest : List SortKey). Along keys_turn keys start rest made) left c.loop-key.invariant.along in
    let behind = subst (λ (rest : List SortKey). c.loop-key.plan_keys ++ keys_in_plan rest (seen made) ≡ all) left c.loop-key.invariant.in_plan in
    record {
      along = along_more keys_turn keys start item (drop (i + 1) keys) made input.writing along
          (c.in_ok-input.ensures.written, key_shaped item made input.writing input.kind c.in_ok-input.ensures.kind c.in_ok-input.ensures.visible);
      in_plan = keys_behind c.loop-key.plan_keys c.push.new.self all item (drop (i + 1) keys) input.id made input.writing behind
          c.in_ok-input.ensures.id c.in_ok-input.ensures.written c.in_ok-push.ensures.ok;
      heard = untouched_more g.M.Maker.refused g.M.Maker.last c.args.maker.now c.loop-key.maker c.write_input.new.maker c.loop-key.invariant.heard c.in_ok-input.ensures.hears;
    }

pub returns-clause-writes : goal.returns-clause-writes
returns-clause-writes g c =
    let keys = c.args.keys.now in
    let start = c.args.writing in
    let made = c.loop-key.writing in
    let none = drop_all c.loop-key.key-index keys (omega (arith, c.loop-key-test.false)) in
    let along = subst (λ (rest : List SortKey). Along keys_turn keys start rest made) none c.loop-key.invariant.along in
    let are = subst (λ (rest : List SortKey). c.loop-key.plan_keys ++ keys_in_plan rest (seen made) ≡ keys_in_plan keys (seen start)) none c.loop-key.invariant.in_plan in
    sort_writes keys start made (record { visible = made.visible; next = made.next; patterns = made.patterns; cutters = made.cutters; steps = c.push-2.new.self }) c.loop-key.plan_keys along are
    refl refl refl refl c.in_ok-push-2.ensures.ok
