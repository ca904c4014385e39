-- What a name stands for in a table is an entry of the table.
use Rattle.std.proofs.Common.{◌≡◌, ℕ, Bool, true, false, List, [], ◌∷◌, Some, ap, sym, ◌∙◌, if◌then◌else◌}
use Rattle.std.specs.List.{list_all}
use Rattle.std.specs.Str.{str_eq_ignore_ascii_case}
use Rattle.std.proofs.lemmas.Bool.{and_parts}
use Rattle.esql_plan.specs.Names.{entry_in}

-- what a test finds of each entry of a table it finds of what a name stands for
pub found_passes : {Entry : Type 0} (test : Entry → Bool) (entries : List (List ℕ × Entry)) (name : List ℕ) (found : Entry) → list_all (λ (entry : List ℕ × Entry). test entry.1) entries ≡ true
    → entry_in entries name ≡ Some found → test found ≡ true
found_passes test [] name found all is = absurd cc
found_passes {Entry} test (entry ∷ entries) name found all is =
    let both = and_parts (test entry.1) (list_all (λ (entry : List ℕ × Entry). test entry.1) entries) all in
    elim (str_eq_ignore_ascii_case name entry.0) as (λ b. (if b then Some entry.1 else entry_in entries name) ≡ Some found → test found ≡ true)
    [ true ↦ λ here. sym (ap test (some_is entry.1 found here)) ∙ both.0 | false ↦ λ there. found_passes test entries name found both.1 there ] is
  where
    some_is : (this that : Entry) → Some this ≡ Some that → this ≡ that
    some_is this that is = cc
