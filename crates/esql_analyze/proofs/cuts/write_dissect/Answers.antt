use Rattle.std.proofs.Common.{◌≡◌, ◌+◌, Bool, [], ◌∷◌, length, Some, sym, ap}
use Rattle.esql_plan.specs.declared.step.Step.TheVariants as step
use Rattle.dissect_grok.specs.Patterns.{reading_of}
use Rattle.dissect_grok.specs.declared.cutter.Cutter.TheVariants as cutter
use Rattle.plan_semantics.specs.Plans.{columns_of}
use Rattle.plan_semantics.specs.Taken.{dissect_columns}
use Rattle.row_semantics.specs.Regulars.{Regular}
use Rattle.query_semantics.specs.AppendedShapes.{shape_of_reading}
use Rattle.query_semantics.specs.Shapes.{Shape}
use Rattle.query_semantics.specs.WrittenAppended.{dissect_cutters}
use Rattle.expression_analysis.specs.Answers.{regulars_of_expr}
use Rattle.esql_analyze.proofs.AppendedWrites.{cut_written, dissect_shape, pattern_refused, reading_heard, room_behind}
use Rattle.esql_analyze.proofs.cuts.write_dissect.Goals as goal

pub returns-in-Err-clause-writes : goal.returns-in-Err-clause-writes
returns-in-Err-clause-writes g c =
    let pattern = c.args.pattern.now in
    let columns = columns_of c.args.writing.visible in
    c.in-Err.ensures.refusal (λ accepts. shape_of_reading (reading_of pattern.text c.args.separator.now) pattern.span columns)

pub returns-in-Err-read_dissect-clause-writes : goal.returns-in-Err-read_dissect-clause-writes
returns-in-Err-read_dissect-clause-writes g c =
    let pattern = c.args.pattern.now in
    let columns = columns_of c.args.writing.visible in
    let next : (Regular → Bool) → Shape = λ accepts. shape_of_reading (reading_of pattern.text c.args.separator.now) pattern.span columns in
    pattern_refused c.args.input.now c.args.writing.visible c.in-Ok.source.kind next c.in-Err-read_dissect.error c.in-Ok.ensures.kind c.in-Ok.ensures.keyword (c.in-Err-read_dissect.ensures.refusal columns)

pub returns-in-Err-read_dissect-clause-hears : goal.returns-in-Err-read_dissect-clause-hears
returns-in-Err-read_dissect-clause-hears g c =
    let pattern = c.args.pattern.now in
    reading_heard g.M.Maker.refused g.M.Maker.last (regulars_of_expr c.args.input.now) c.args.maker.now c.keyword_input.new.maker (reading_of pattern.text c.args.separator.now) pattern.span
    (columns_of c.args.writing.visible) c.in-Err-read_dissect.error (c.in-Err-read_dissect.ensures.refusal (columns_of c.args.writing.visible)) c.in-Ok.ensures.hears

pub add_dissect-requires-clause-room : goal.add_dissect-requires-clause-room
add_dissect-requires-clause-room g c =
    room_behind c.args.input.now c.args.writing c.in-Ok.source.writing (1 + length (dissect_columns c.args.pattern.now.text c.args.separator.now)) c.in-Ok.ensures.written c.requires

pub returns-in-Ok-add_dissect-clause-writes : goal.returns-in-Ok-add_dissect-clause-writes
returns-in-Ok-add_dissect-clause-writes g c =
    let pattern = c.args.pattern.now in
    let separator = c.args.separator.now in
    let input = c.args.input.now in
    let old = c.args.writing in
    let dissect = c.in-Ok-read_dissect.dissect in
    let source = c.in-Ok.source in
    let columns = dissect_columns pattern.text separator in
    let read : reading_of pattern.text separator ≡ Some dissect = c.in-Ok-read_dissect.ensures.read in
    cut_written input old source.writing c.in-Ok-add_dissect.writing source.kind source.id columns (dissect_cutters (reading_of pattern.text separator)) (cutter.Dissect dissect ∷ [])
    (λ id number. step.Dissect c.args.node id number pattern.text separator)
    (shape_of_reading (reading_of pattern.text separator) pattern.span (columns_of old.visible))
    c.in-Ok.ensures.written c.in-Ok.ensures.visible c.in-Ok.ensures.kind c.in-Ok.ensures.keyword c.in-Ok.ensures.id
    (dissect_shape pattern.text separator pattern.span (columns_of old.visible) dissect read)
    (sym (ap dissect_cutters read))
    c.in-Ok-add_dissect.ensures
