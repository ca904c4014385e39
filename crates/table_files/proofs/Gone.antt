-- Where the row file of a table that was found is gone, names halt at it.
use Rattle.std.proofs.Common.{◌≡◌, ◌⊎◌, inl, inr, ⊎_elim, ℕ, ◌+◌, Bool, true, false, List, [], ◌∷◌, Option, Some, None, Ok, Err, refl, sym, ap, ◌∙◌, subst}
use Rattle.std.specs.Str.{bytes_eq}
use Rattle.std.proofs.lemmas.Bool.{true≢false, cases_Bool, or_from}
use Rattle.esql_ast.specs.declared.query.NameAt.{NameAt}
use Rattle.esql_ast.specs.declared.uses.SourceUse.{SourceUse}
use Rattle.ndjson_load.specs.Over.{BytesOf}
use Rattle.policy_json.specs.declared.policy.PolicyText.{PolicyText}
use Rattle.table_files.specs.declared.tables.FoundTable.{FoundTable}
use Rattle.table_files.specs.Catalog.{mapping_file, NamesTable, no_rows, table, AddsTable, known, no_table, one_more, NamesPolicy, AddsTables, AddsPolicy, lacks_table, fits, AddsNamed, AddsUse, Gathers}
use Rattle.table_files.specs.Found.{Found, absent_table, has_table, nothing}
use Rattle.table_files.specs.Halts.{Halt}
use Rattle.table_files.specs.Policies.{entries_of_text, tables_named}
use Rattle.table_files.specs.Shapes.{entries_in}
use Rattle.table_files.proofs.Alike.{holds_alike, name_alike, document_alike}
use Rattle.table_files.proofs.Contents.{table_name}
use Rattle.table_files.proofs.Grown.{Grows, table_grows, use_grows, has_more, table_named, named_grown, named_has, named_last}
use Rattle.table_files.proofs.Replaced.{set_row, row_here, row_there, mapping_kept, document_kept}
use Rattle.table_files.proofs.Steps.{in_turn_halts}

module _ (folder : Option (List ℕ)) (held : BytesOf) (name : List ℕ) (halt : Halt) where
  abbrev without : BytesOf
  without = set_row folder name None held

  -- no table of the name was found
  abbrev Lacks : Found → Type 0
  Lacks found = has_table found.tables name ≡ false

  -- the halt is that at the table of the name
  abbrev HaltsAtIt : Found → Type 0
  HaltsAtIt found = (one : FoundTable) → table_named found.tables name ≡ Some one → absent_table one ≡ halt

  at_it_before : (found next : Found) → Grows found next → HaltsAtIt next → HaltsAtIt found
  at_it_before found next grown at_it = λ one is. at_it one (named_grown name found next one grown is)

  name_gone : (policy : Bool) (entries : ℕ) (at : NameAt) (new : FoundTable) → bytes_eq new.name name ≡ true → NamesTable folder held policy entries at (Ok new) → NamesTable folder without policy entries at (Err (absent_table new))
  name_gone policy entries at new same (table bytes lines columns holds is mapping few) =
      no_rows bytes (holds_alike held without (mapping_file folder at.name) bytes (mapping_kept folder name None held at.name) holds) (row_here folder name None held at.name same)

  name_kept : (policy : Bool) (entries : ℕ) (at : NameAt) (new : FoundTable) → bytes_eq new.name name ≡ false → NamesTable folder held policy entries at (Ok new) → NamesTable folder without policy entries at (Ok new)
  name_kept policy entries at new other is =
      name_alike folder held without policy entries at (Ok new)
      (record {
        mapping = mapping_kept folder name None held at.name;
        rows_too = row_there folder name None held at.name (ap (λ (n : List ℕ). bytes_eq n name) (sym (table_name folder held policy entries at new is)) ∙ other);
      }) is

  table_gone : (policy : Bool) (beside : ℕ) (found : Found) (at : NameAt) (next : Found) → Lacks found → HaltsAtIt next → AddsTable folder (Some held) policy beside found at (Ok next)
      → (Lacks next × AddsTable folder (Some without) policy beside found at (Ok next)) ⊎ AddsTable folder (Some without) policy beside found at (Err halt)
  table_gone policy beside found at next lacks at_it (known has) = inl (lacks, known has)
  table_gone policy beside found at next lacks at_it (one_more new not_yet is) =
      ⊎_elim
      (λ (same : bytes_eq new.name name ≡ true).
      inr (no_table halt not_yet (subst (λ (h : Halt). NamesTable folder without policy (entries_in found + beside) at (Err h)) (at_it new (named_last name found.tables new lacks same))
      (name_gone policy (entries_in found + beside) at new same is))))
      (λ (other : bytes_eq new.name name ≡ false).
      inl (
        has_more name found.tables (new ∷ []) ∙ or_from (has_table found.tables name) (has_table (new ∷ []) name) lacks (or_from (bytes_eq new.name name) false other refl),
        one_more new not_yet (name_kept policy (entries_in found + beside) at new other is),
      ))
      (cases_Bool (bytes_eq new.name name))

  tables_gone : (found : Found) (at : NameAt) (policy : PolicyText) (next : Found) → Lacks found → HaltsAtIt next → AddsTables folder (Some held) found at policy (Ok next)
      → (Lacks next × AddsTables folder (Some without) found at policy (Ok next)) ⊎ AddsTables folder (Some without) found at policy (Err halt)
  tables_gone found at policy next lacks at_it adds =
      in_turn_halts (AddsTable folder (Some held) true (entries_of_text policy)) (AddsTable folder (Some without) true (entries_of_text policy)) Lacks HaltsAtIt halt
      (λ state item after step it. at_it_before state after (table_grows folder (Some held) true (entries_of_text policy) state item after step) it)
      (λ state item after no it step. table_gone true (entries_of_text policy) state item after no it step) found (tables_named at policy) next lacks at_it adds

  document_left : (found : Found) (at : NameAt) (policy : PolicyText) → NamesPolicy folder held (entries_in found) at (Ok policy) → NamesPolicy folder without (entries_in found) at (Ok policy)
  document_left found at policy is = document_alike folder held without (entries_in found) at (Ok policy) (document_kept folder name None held at.name) is

  policy_gone : (found : Found) (at : NameAt) (next : Found) → Lacks found → HaltsAtIt next → AddsPolicy folder (Some held) found at (Ok next)
      → (Lacks next × AddsPolicy folder (Some without) found at (Ok next)) ⊎ AddsPolicy folder (Some without) found at (Err halt)
  policy_gone found at next lacks at_it (fits policy new shape is adds shape_is) =
      ⊎_elim
      (λ (goes : Lacks new × AddsTables folder (Some without) found at policy (Ok new)). inl (goes.0, fits policy new shape (document_left found at policy is) goes.1 shape_is))
      (λ (halted : AddsTables folder (Some without) found at policy (Err halt)). inr (lacks_table policy halt (document_left found at policy is) halted))
      (tables_gone found at policy new lacks at_it adds)

  named_gone : (policy : Bool) (found : Found) (at : NameAt) (next : Found) → Lacks found → HaltsAtIt next → AddsNamed folder (Some held) policy found at (Ok next)
      → (Lacks next × AddsNamed folder (Some without) policy found at (Ok next)) ⊎ AddsNamed folder (Some without) policy found at (Err halt)
  named_gone false found at next lacks at_it adds = table_gone false 0 found at next lacks at_it adds
  named_gone true found at next lacks at_it adds = policy_gone found at next lacks at_it adds

  gathers_gone : (found : Found) (uses : List SourceUse) (last : Found) → Lacks found → HaltsAtIt last → Gathers folder (Some held) found uses (Ok last)
      → (Lacks last × Gathers folder (Some without) found uses (Ok last)) ⊎ Gathers folder (Some without) found uses (Err halt)
  gathers_gone found uses last lacks at_it gathers =
      in_turn_halts (AddsUse folder (Some held)) (AddsUse folder (Some without)) Lacks HaltsAtIt halt
      (λ state item after step it. at_it_before state after (use_grows folder (Some held) state item after step) it)
      (λ state item after no it step. named_gone item.policy state item.name after no it step) found uses last lacks at_it gathers

-- no two tables are the first of a name
first_table : (tables : List FoundTable) (one other : FoundTable) → table_named tables one.name ≡ Some one → table_named tables one.name ≡ Some other → other ≡ one
first_table tables one other is was = let both : Some other ≡ Some one = sym was ∙ is in cc

-- with the row file of a table removed, the uses that found it halt there
pub halts_at : (folder : Option (List ℕ)) (held : BytesOf) (uses : List SourceUse) (last : Found) (one : FoundTable) → Gathers folder (Some held) nothing uses (Ok last) → table_named last.tables one.name ≡ Some one
    → Gathers folder (Some (set_row folder one.name None held)) nothing uses (Err (absent_table one))
halts_at folder held uses last one gathers named =
    ⊎_elim
    (λ goes. absurd (true≢false (sym (named_has one.name last.tables one named) ∙ goes.0)))
    (λ halted. halted)
    (gathers_gone folder held one.name (absent_table one) nothing uses last refl (λ other is. ap absent_table (first_table last.tables one other named is)) gathers)
