use Rattle.std.proofs.Common.{◌<◌, suc, add-one, arith}
use Rattle.function_signatures.specs.Tables.{want_meant}
use Rattle.function_signatures.proofs.Wants.{drop-replicate}
use Rattle.function_signatures.proofs.table.Parameters.want_at.Goals as goal

pub returns-in-OneOrMore : goal.returns-in-OneOrMore
returns-in-OneOrMore c =
    let within : c.args.place < suc c.args.count = omega arith in
    rw (c.in-OneOrMore.is, add-one) (drop-replicate c.args.place (suc c.args.count) (want_meant c.in-OneOrMore.each) within)

pub returns-in-TwoOrMore : goal.returns-in-TwoOrMore
returns-in-TwoOrMore c =
    let within : c.args.place < suc (suc c.args.count) = omega arith in
    rw (c.in-TwoOrMore.is, add-one) (drop-replicate c.args.place (suc (suc c.args.count)) (want_meant c.in-TwoOrMore.each) within)
