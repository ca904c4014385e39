use Rattle.esql_types.proofs.Readings.{unreadable_from_refusal}
use Rattle.esql_types.proofs.maker.CrateMakerMaker.build.Goals as goal

pub returns-in-Err-Syntax-clause-not_read : goal.returns-in-Err-Syntax-clause-not_read
returns-in-Err-Syntax-clause-not_read c _ =
    let arm = c.in-Err-Syntax in
    unreadable_from_refusal _ arm.field-0-0.kind (rw arm.field-0-is at arm.ensures.kind) (arm.ensures.by_grammar _ arm.field-0-is)
