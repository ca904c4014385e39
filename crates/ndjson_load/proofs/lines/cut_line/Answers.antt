use Rattle.std.proofs.Common.{take, ap, ◌∙◌}
use Rattle.ndjson_load.proofs.Cuts.{end_found}
use Rattle.ndjson_load.proofs.lines.cut_line.Goals as goal

pub returns-in-Some-clause-line : goal.returns-in-Some-clause-line
returns-in-Some-clause-line c =
    let bytes = c.args.bytes.now in
    c.split_at.ensures.front ∙ ap (λ end. take end bytes) (end_found bytes c.in-Some.end c.in-Some.ensures).0
