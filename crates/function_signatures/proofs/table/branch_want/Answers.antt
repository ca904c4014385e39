use Rattle.std.proofs.Common.{◌≡◌, ◌+◌, ◌≤◌, ◌%◌, add-one}
use Rattle.function_signatures.proofs.Wants.{drop-condition, drop-value}
use Rattle.function_signatures.proofs.table.branch_want.Goals as goal
use Rattle.function_signatures.proofs.table.branch_want.Goals.{else-place-eq0-via-then-place-eq0+else-place-count, else-place-eq0-via-else-place-eq0}

pub returns-then-place-count : goal.returns-then-place-count
returns-then-place-count c = rw add-one (drop-condition c.args.place c.args.count c.if-place-eq0.true c.if-place-count.true)

pub returns-else-place-eq0 : goal.returns-else-place-eq0
returns-else-place-eq0 c =
    let last : c.args.place % 2 ≡ 0 → c.args.count ≤ c.args.place + 1 =
    elim c.else-place-eq0.branch [
      | else-place-eq0-via-then-place-eq0+else-place-count w ↦ λ even. w.if-place-count.false
      | else-place-eq0-via-else-place-eq0 w ↦ λ even. absurd (w.if-place-eq0.false even)
    ] in
    rw add-one (drop-value c.args.place c.args.count c.requires last)
