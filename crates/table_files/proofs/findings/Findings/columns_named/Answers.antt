use Rattle.std.proofs.Common.{ap, sym, ◌∙◌}
use Rattle.table_files.specs.Catalogs.{columns_of}
use Rattle.table_files.specs.Found.{Found}
use Rattle.table_files.specs.Policies.{columns_named}
use Rattle.table_files.specs.declared.tables.FoundTable.{FoundTable}
use Rattle.table_files.proofs.Numbered.{some_number, no_number, same_table, no_table}
use Rattle.table_files.proofs.findings.Findings.columns_named.Goals as goal

pub returns-in-None : goal.returns-in-None
returns-in-None c =
    sym (ap (λ (found : Found). columns_named found.tables c.args.name.now) (sym c.self.view_is)
    ∙ no_number c.self.inside.tables c.args.name.now (sym (c.self.invariant.numbers c.args.name.now) ∙ sym c.in-None.ensures.value))

pub returns-in-Some-at : goal.returns-in-Some-at
returns-in-Some-at c =
    let has = some_number c.self.inside.tables c.args.name.now c.in-Some.number.now (sym (c.self.invariant.numbers c.args.name.now) ∙ sym c.in-Some.ensures.value) in
    ap columns_of c.as_slice.ensures ∙ ap (λ (table : FoundTable). columns_of table.columns) (same_table _ _ (c.in-Some-at.ensures.value ∙ has.stands)) ∙ has.columns
    ∙ ap (λ (found : Found). columns_named found.tables c.args.name.now) c.self.view_is

pub returns-in-None-at : goal.returns-in-None-at
returns-in-None-at c =
    let has = some_number c.self.inside.tables c.args.name.now c.in-Some.number.now (sym (c.self.invariant.numbers c.args.name.now) ∙ sym c.in-Some.ensures.value) in
    absurd (no_table _ (c.in-None-at.ensures.value ∙ has.stands))
