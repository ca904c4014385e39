use Rattle.std.proofs.Common.{◌∙◌, sym, ap, not, None, Some}
use Rattle.source_columns.proofs.Held.{clash_of}
use Rattle.source_columns.proofs.gathered.clashes.Goals as goal

pub returns-in-Some : goal.returns-in-Some
returns-in-Some c =
    ap not c.is_same.ensures
    ∙ clash_of c.args.gathered.now c.as_str.result.now c.args.column.now (Some c.in-Some.kind.now) c.as_str.ensures c.requires (sym c.in-Some.ensures.value)

pub returns-in-None : goal.returns-in-None
returns-in-None c = clash_of c.args.gathered.now c.as_str.result.now c.args.column.now None c.as_str.ensures c.requires (sym c.in-None.ensures.value)
