use Rattle.std.proofs.Common.{length, min, drop, ap, ◌≡◌, ◌∙◌, ◌+◌, arith}
use Rattle.esql_io.proofs.Held.{drop_further}
use Rattle.esql_io.proofs.memory_files.cursor_after.Goals as goal

pub returns : goal.returns
returns c =
    let bytes = c.args.bytes.now in
    let is : c.min.result ≡ min (min (c.args.cursor + c.args.count) 18446744073709551615) (length bytes) = cc in
    ap (λ n. drop n bytes) is ∙ drop_further bytes c.args.cursor c.args.count 18446744073709551615 (omega arith)
