use Rattle.std.proofs.Common.{ℕ, List, false, option_copied, subst}
use Rattle.table_files.specs.Catalog.{AddsTable}
use Rattle.table_files.specs.Stops.{Says}
use Rattle.table_files.proofs.gathering.find_named.Goals as goal

pub returns-else-policy-clause-told : goal.returns-else-policy-clause-told
returns-else-policy-clause-told g c =
    rw c.if-policy.false
    (subst (λ (name : List ℕ). Says c.args.text.now (AddsTable (option_copied c.args.folder) (g.F.Files.holds c.args.files.now) false 0 c.args.findings (record { name = name; span = c.args.name.now.span })) c.find_table.result)
    c.as_str.ensures c.find_table.ensures.told)
