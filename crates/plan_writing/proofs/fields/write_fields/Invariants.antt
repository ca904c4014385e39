use Rattle.std.proofs.Common.{drop}
use Rattle.expression_analysis.specs.Answers.{IsUntouched}
use Rattle.plan_writing.proofs.Turns.{Along}
use Rattle.plan_writing.proofs.FieldTurns.{fields_turn}
use Rattle.plan_writing.proofs.fields.write_fields.Given as goal

abbrev pub invariant-loop-field : goal.invariant-loop-field
invariant-loop-field g l = record {
  along : Along (fields_turn l.text) l.fields l.initial.writing (drop l.field-index l.fields) l.writing;
  heard : IsUntouched g.M.Maker.refused g.M.Maker.last l.initial.maker l.maker;
}
