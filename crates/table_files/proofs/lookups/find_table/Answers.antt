use Rattle.std.proofs.Common.{◌+◌, ap, arith, option_copied, subst, sym, ◌∙◌}
use Rattle.std.proofs.lemmas.Result.{err_from_is_err_and}
use Rattle.esql_ast.specs.declared.query.NameAt.{NameAt}
use Rattle.table_files.specs.Catalog.{known}
use Rattle.table_files.specs.Reading.{IsFinding}
use Rattle.table_files.specs.Shapes.{entries_in}
use Rattle.table_files.proofs.Adds.{adds_halt, adds_one, entries_with, finding_with, number_tells}
use Rattle.table_files.proofs.lookups.find_table.Goals as goal

pub returns-then-is_some-clause-told : goal.returns-then-is_some-clause-told
returns-then-is_some-clause-told g c =
    known (number_tells c.args.findings.tables c.args.name.now _ _ c.number_of.ensures (sym c.is_some.ensures ∙ c.if-is_some.true))

pub returns-in_err-table-clause-told : goal.returns-in_err-table-clause-told
returns-in_err-table-clause-told g c =
    let p = err_from_is_err_and c.from_residual.result c.from_residual.ensures.1 in
    let none = number_tells c.args.findings.tables c.args.name.now _ _ c.number_of.ensures (sym c.is_some.ensures ∙ c.if-is_some.false) in
    rw (p.1, p.2) (adds_halt c.args.text.now (option_copied c.args.folder) (g.F.Files.holds c.args.files.now) c.args.policy c.args.beside _ c.args.findings (record { name = c.args.name.now; span = c.args.span }) _
    none (ap (λ n. n + c.args.beside) c.entries.ensures) c.in_err-table.ensures.told)

pub returns-clause-told : goal.returns-clause-told
returns-clause-told g c =
    let none = number_tells c.args.findings.tables c.args.name.now _ _ c.number_of.ensures (sym c.is_some.ensures ∙ c.if-is_some.false) in
    adds_one (option_copied c.args.folder) (g.F.Files.holds c.args.files.now) c.args.policy c.args.beside _ c.args.findings _ (record { name = c.args.name.now; span = c.args.span }) c.in_ok-table.table
    none (ap (λ n. n + c.args.beside) c.entries.ensures) c.in_ok-with_table.ensures c.in_ok-table.ensures.told

pub returns-clause-finding : goal.returns-clause-finding
returns-clause-finding g c =
    let none = number_tells c.args.findings.tables c.args.name.now _ _ c.number_of.ensures (sym c.is_some.ensures ∙ c.if-is_some.false) in
    let here = ap (λ (at : NameAt). at.name) c.in_ok-table.ensures.named_so in
    subst IsFinding (sym c.in_ok-with_table.ensures)
    (finding_with c.args.findings c.in_ok-table.table c.requires.finding (rw here none) c.in_ok-table.ensures.loadable c.in_ok-table.ensures.rise
    (omega (arith, c.entries.ensures, c.in_ok-table.ensures.few)))

pub returns-clause-room : goal.returns-clause-room
returns-clause-room g c =
    omega (arith, c.entries.ensures, c.in_ok-table.ensures.few, entries_with c.args.findings c.in_ok-table.table, ap entries_in c.in_ok-with_table.ensures)
