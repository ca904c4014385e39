use Rattle.std.proofs.Common.{◌≡◌, ◌+◌, Bool, List, [], ◌∷◌, length, Some, ap, sym, refl}
use Rattle.esql_plan.specs.declared.step.Step.TheVariants as step
use Rattle.dissect_grok.specs.declared.cutter.Cutter.TheVariants as cutter
use Rattle.dissect_grok.specs.Groks.{grok_of}
use Rattle.plan_semantics.specs.Plans.{columns_of}
use Rattle.plan_semantics.specs.Taken.{columns_in_grok}
use Rattle.row_semantics.specs.Regulars.{Regular, is_accepted}
use Rattle.query_semantics.specs.AppendedShapes.{shape_of_grok_read}
use Rattle.query_semantics.specs.Shapes.{Shape}
use Rattle.query_semantics.specs.WrittenAppended.{grok_cutters}
use Rattle.expression_analysis.specs.Answers.{regulars_of_expr}
use Rattle.esql_analyze.specs.Regulars.{regulars_of_grok}
use Rattle.esql_analyze.proofs.AppendedWrites.{cut_written, grok_shape, pattern_refused, room_behind}
use Rattle.plan_writing.proofs.Heard.{heard_more, within_front, within_back}
use Rattle.esql_analyze.proofs.cuts.write_grok.Goals as goal

pub returns-in-Err-clause-writes : goal.returns-in-Err-clause-writes
returns-in-Err-clause-writes g c =
    let pattern = c.args.pattern.now in
    let columns = columns_of c.args.writing.visible in
    c.in-Err.ensures.refusal (λ accepts. shape_of_grok_read accepts (grok_of pattern.text) pattern.span columns)

pub returns-in-Err-clause-hears : goal.returns-in-Err-clause-hears
returns-in-Err-clause-hears g c =
    let pattern = c.args.pattern.now in
    let own : List Regular = regulars_of_expr c.args.input.now in
    let behind : List Regular = regulars_of_grok pattern.span (grok_of pattern.text) in
    heard_more g.M.Maker.refused g.M.Maker.last own _ c.args.maker.now c.args.maker.now c.keyword_input.new.maker c.in-Err.error (record { counted = refl; noted = refl }) (within_front own behind) c.in-Err.ensures.hears

pub returns-in-Err-read_grok-clause-writes : goal.returns-in-Err-read_grok-clause-writes
returns-in-Err-read_grok-clause-writes g c =
    let pattern = c.args.pattern.now in
    let columns = columns_of c.args.writing.visible in
    let next : (Regular → Bool) → Shape = λ accepts. shape_of_grok_read accepts (grok_of pattern.text) pattern.span columns in
    pattern_refused c.args.input.now c.args.writing.visible c.in-Ok.source.kind next c.in-Err-read_grok.error c.in-Ok.ensures.kind c.in-Ok.ensures.keyword (c.in-Err-read_grok.ensures.refusal columns)

pub returns-in-Err-read_grok-clause-hears : goal.returns-in-Err-read_grok-clause-hears
returns-in-Err-read_grok-clause-hears g c =
    let pattern = c.args.pattern.now in
    let own : List Regular = regulars_of_expr c.args.input.now in
    let behind : List Regular = regulars_of_grok pattern.span (grok_of pattern.text) in
    heard_more g.M.Maker.refused g.M.Maker.last behind _ c.args.maker.now c.keyword_input.new.maker c.read_grok.new.maker c.in-Err-read_grok.error c.in-Ok.ensures.hears (within_back own behind) c.in-Err-read_grok.ensures.hears

pub add_grok-requires-clause-room : goal.add_grok-requires-clause-room
add_grok-requires-clause-room g c =
    room_behind c.args.input.now c.args.writing c.in-Ok.source.writing (1 + length (columns_in_grok c.args.pattern.now.text)) c.in-Ok.ensures.written c.requires

pub returns-in-Ok-add_grok-clause-writes : goal.returns-in-Ok-add_grok-clause-writes
returns-in-Ok-add_grok-clause-writes g c =
    let pattern = c.args.pattern.now in
    let input = c.args.input.now in
    let old = c.args.writing in
    let grok = c.in-Ok-read_grok.grok in
    let source = c.in-Ok.source in
    let columns = columns_in_grok pattern.text in
    let read : grok_of pattern.text ≡ Some grok = c.in-Ok-read_grok.ensures.read in
    cut_written input old source.writing c.in-Ok-add_grok.writing source.kind source.id columns (grok_cutters (grok_of pattern.text)) (cutter.Grok grok ∷ [])
    (λ id number. step.Grok c.args.node id number pattern.text)
    (shape_of_grok_read is_accepted (grok_of pattern.text) pattern.span (columns_of old.visible))
    c.in-Ok.ensures.written c.in-Ok.ensures.visible c.in-Ok.ensures.kind c.in-Ok.ensures.keyword c.in-Ok.ensures.id
    (grok_shape pattern.text pattern.span (columns_of old.visible) grok read c.in-Ok-read_grok.ensures.accepted)
    (sym (ap grok_cutters read))
    c.in-Ok-add_grok.ensures
