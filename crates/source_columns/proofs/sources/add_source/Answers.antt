use Rattle.std.proofs.Common.{◌≡◌, List, ℕ, true, false, Some, ap, sym, subst, ◌∙◌}
use Rattle.row_semantics.specs.Sources as source
use Rattle.source_columns.specs.Gathered.{columns_in}
use Rattle.source_columns.specs.Index.{at_name}
use Rattle.source_columns.specs.Refusals.{IsRefusal}
use Rattle.source_columns.specs.Taken.{Puts}
use Rattle.source_columns.proofs.Again.{again_agrees, again_clashes, taken_at, taken_after}
use Rattle.source_columns.proofs.sources.add_source.Goals as goal

pub returns-in-Some-true-clause-added : goal.returns-in-Some-true-clause-added
returns-in-Some-true-clause-added c =
    let name = c.args.name.now in
    let found : at_name c.args.taken.now name.name ≡ Some true =
    ap (λ (this : List ℕ). at_name c.args.taken.now this) (sym c.as_str.ensures) ∙ sym c.in-Some-true.ensures.value ∙ ap Some c.in-Some-true.field-0-test in
    again_agrees name _ (columns_in c.args.gathered.now.entries) c.requires.ordered
    (taken_at c.args.tables.now (columns_in c.args.gathered.now.entries) c.args.taken.now name.name true c.requires.taken found)

pub returns-in-Some-false-clause-refused : goal.returns-in-Some-false-clause-refused
returns-in-Some-false-clause-refused c =
    let name = c.args.name.now in
    let found : at_name c.args.taken.now name.name ≡ Some false =
    ap (λ (this : List ℕ). at_name c.args.taken.now this) (sym c.as_str.ensures) ∙ sym c.in-Some-false.ensures.value ∙ ap Some c.in-Some-false.field-0-test in
    subst (IsRefusal _) (sym c.broken.ensures)
    (again_clashes name _ (columns_in c.args.gathered.now.entries)
    (taken_at c.args.tables.now (columns_in c.args.gathered.now.entries) c.args.taken.now name.name false c.requires.taken found))

pub returns-in_ok-note_taken-in-Some-clause-taken : goal.returns-in_ok-note_taken-in-Some-clause-taken
returns-in_ok-note_taken-in-Some-clause-taken c =
    let table = c.in-Some.table.now in
    let found : source.table_named c.args.tables.now c.args.name.now.name ≡ Some table =
    sym (c.in-Some.ensures ∙ ap (λ (this : List ℕ). source.table_named c.args.tables.now this) c.as_str-in-None.ensures) in
    let puts : Puts table.name c.in_ok-agrees-in-Some.agrees c.args.taken.now c.note_taken.new.taken =
    subst (λ (this : List ℕ). Puts this c.in_ok-agrees-in-Some.agrees c.args.taken.now c.note_taken.new.taken) c.as_str-in-Some.ensures c.in_ok-note_taken-in-Some.ensures in
    taken_after c.args.tables.now c.args.name.now (columns_in c.args.gathered.now.entries) (columns_in c.add_table.new.gathered.entries) c.args.taken.now c.note_taken.new.taken table
    c.in_ok-agrees-in-Some.agrees c.requires.ordered found c.in_ok-agrees-in-Some.ensures.added c.in_ok-agrees-in-Some.ensures.taken puts c.requires.taken
