-- Contents that hold the same in the files of a name, and the names of these files.
use Rattle.std.proofs.Common.{◌≡◌, ℕ, Bool, true, false, cond, List, ◌++◌, get_or, reverse, codes, Option, Result, refl, sym, ap, ◌∙◌, arith}
use Rattle.std.specs.Str.{bytes_eq}
use Rattle.std.proofs.lemmas.Bool.{false_from_ne_true}
use Rattle.std.proofs.lemmas.List.{append_cancel_left, append_cancel_right, reverse-append}
use Rattle.std.proofs.lemmas.Slice.Eq.{bytes_eq-Decides}
use Rattle.esql_ast.specs.declared.query.NameAt.{NameAt}
use Rattle.ndjson_load.specs.Over.{BytesOf}
use Rattle.policy_json.specs.declared.policy.PolicyText.{PolicyText}
use Rattle.table_files.specs.declared.tables.FoundTable.{FoundTable}
use Rattle.table_files.specs.Catalog.{folder_text, mapping_file, row_file, policy_file, Holds, IsTooLarge, NamesTable, no_mapping, wide_mapping, no_rows, bad_mapping, crowded, table, NamesPolicy, no_document, wide_document, bad_document, crowded_document, document, Rows, RowsOf, vanished, wide_rows, bad_row, rows}
use Rattle.table_files.specs.Halts.{Halt}

-- ---- contents that hold the same

-- the two files of a table hold the same
pub record AreAlike (folder : Option (List ℕ)) (name : List ℕ) (held other : BytesOf) : Type 0 where
  pub mapping : other (mapping_file folder name) ≡ held (mapping_file folder name)
  pub rows_too : other (row_file folder name) ≡ held (row_file folder name)

pub holds_alike : (held other : BytesOf) (file bytes : List ℕ) → other file ≡ held file → Holds held file bytes → Holds other file bytes
holds_alike held other file bytes same holds = record { is = same ∙ holds.is; fits = holds.fits }

large_alike : (held other : BytesOf) (file : List ℕ) → other file ≡ held file → IsTooLarge held file → IsTooLarge other file
large_alike held other file same wide = record { bytes = wide.bytes; is = same ∙ wide.is; wide = wide.wide }

pub name_alike : (folder : Option (List ℕ)) (held other : BytesOf) (policy : Bool) (entries : ℕ) (name : NameAt) (result : Result FoundTable Halt) → AreAlike folder name.name held other → NamesTable folder held policy entries name result
    → NamesTable folder other policy entries name result
name_alike folder held other policy entries name result alike (no_mapping none) = no_mapping (alike.mapping ∙ none)
name_alike folder held other policy entries name result alike (wide_mapping wide) = wide_mapping (large_alike held other (mapping_file folder name.name) alike.mapping wide)
name_alike folder held other policy entries name result alike (no_rows bytes holds none) = no_rows bytes (holds_alike held other (mapping_file folder name.name) bytes alike.mapping holds) (alike.rows_too ∙ none)
name_alike folder held other policy entries name result alike (bad_mapping bytes lines cause holds is fault) =
    bad_mapping bytes lines cause (holds_alike held other (mapping_file folder name.name) bytes alike.mapping holds) (alike.rows_too ∙ is) fault
name_alike folder held other policy entries name result alike (crowded bytes lines columns holds is mapping many) =
    crowded bytes lines columns (holds_alike held other (mapping_file folder name.name) bytes alike.mapping holds) (alike.rows_too ∙ is) mapping many
name_alike folder held other policy entries name result alike (table bytes lines columns holds is mapping few) =
    table bytes lines columns (holds_alike held other (mapping_file folder name.name) bytes alike.mapping holds) (alike.rows_too ∙ is) mapping few

pub document_alike : (folder : Option (List ℕ)) (held other : BytesOf) (entries : ℕ) (name : NameAt) (result : Result PolicyText Halt) → other (policy_file folder name.name) ≡ held (policy_file folder name.name)
    → NamesPolicy folder held entries name result → NamesPolicy folder other entries name result
document_alike folder held other entries name result same (no_document none) = no_document (same ∙ none)
document_alike folder held other entries name result same (wide_document wide) = wide_document (large_alike held other (policy_file folder name.name) same wide)
document_alike folder held other entries name result same (bad_document bytes cause holds is) = bad_document bytes cause (holds_alike held other (policy_file folder name.name) bytes same holds) is
document_alike folder held other entries name result same (crowded_document bytes policy holds is many) =
    crowded_document bytes policy (holds_alike held other (policy_file folder name.name) bytes same holds) is many
document_alike folder held other entries name result same (document bytes policy holds is few) = document bytes policy (holds_alike held other (policy_file folder name.name) bytes same holds) is few

pub rows_alike : (folder : Option (List ℕ)) (held other : BytesOf) (found : FoundTable) (read : Result Rows Halt) → other (row_file folder found.name) ≡ held (row_file folder found.name) → RowsOf folder held found read → RowsOf folder other found read
rows_alike folder held other found read same (vanished none) = vanished (same ∙ none)
rows_alike folder held other found read same (wide_rows wide) = wide_rows (large_alike held other (row_file folder found.name) same wide)
rows_alike folder held other found read same (bad_row bytes fault holds is) = bad_row bytes fault (holds_alike held other (row_file folder found.name) bytes same holds) is
rows_alike folder held other found read same (rows bytes all holds is) = rows bytes all (holds_alike held other (row_file folder found.name) bytes same holds) is

-- ---- contents that are put together

-- some files as one content holds them, every other as another does
abbrev pub joined : (List ℕ → Bool) → BytesOf → BytesOf → BytesOf
joined mine here there = λ (file : List ℕ). cond (mine file) (here file) (there file)

pub joined_here : (mine : List ℕ → Bool) (here there : BytesOf) (file : List ℕ) → mine file ≡ true → joined mine here there file ≡ here file
joined_here mine here there file is = ap (λ (b : Bool). cond b (here file) (there file)) is

pub joined_there : (mine : List ℕ → Bool) (here there : BytesOf) (file : List ℕ) → mine file ≡ false → joined mine here there file ≡ there file
joined_there mine here there file is = ap (λ (b : Bool). cond b (here file) (there file)) is

-- ---- the names of files

pub same_bytes : (bytes : List ℕ) → bytes_eq bytes bytes ≡ true
same_bytes bytes = (bytes_eq-Decides bytes bytes).1 refl

pub equal_bytes : (one other : List ℕ) → bytes_eq one other ≡ true → one ≡ other
equal_bytes one other same = (bytes_eq-Decides one other).0 same

differ : (one other : List ℕ) → (one ≡ other → ⊥) → bytes_eq one other ≡ false
differ one other not = false_from_ne_true (bytes_eq one other) (λ same. not (equal_bytes one other same))

-- tests that pass together
same_tests : (one other : Bool) → (one ≡ true → other ≡ true) → (other ≡ true → one ≡ true) → one ≡ other
same_tests true other to from = sym (to refl)
same_tests false true to from = from refl
same_tests false false to from = refl

-- names are the same in either order
pub turned : (one other : List ℕ) → bytes_eq one other ≡ bytes_eq other one
turned one other =
    same_tests (bytes_eq one other) (bytes_eq other one) (λ same. (bytes_eq-Decides other one).1 (sym (equal_bytes one other same)))
    (λ same. (bytes_eq-Decides one other).1 (sym (equal_bytes other one same)))

-- the file of one name is that of another exactly where the names are equal
file_of : (folder : Option (List ℕ)) (suffix one other : List ℕ) → bytes_eq (folder_text folder ++ (one ++ suffix)) (folder_text folder ++ (other ++ suffix)) ≡ bytes_eq one other
file_of folder suffix one other =
    same_tests (bytes_eq (folder_text folder ++ (one ++ suffix)) (folder_text folder ++ (other ++ suffix))) (bytes_eq one other)
    (λ same. (bytes_eq-Decides one other).1 (append_cancel_right one other suffix (append_cancel_left (folder_text folder) (one ++ suffix) (other ++ suffix)
    (equal_bytes (folder_text folder ++ (one ++ suffix)) (folder_text folder ++ (other ++ suffix)) same))))
    (λ same. (bytes_eq-Decides (folder_text folder ++ (one ++ suffix)) (folder_text folder ++ (other ++ suffix))).1 (ap (λ (n : List ℕ). folder_text folder ++ (n ++ suffix)) (equal_bytes one other same)))

pub mapping_of : (folder : Option (List ℕ)) (one other : List ℕ) → bytes_eq (mapping_file folder one) (mapping_file folder other) ≡ bytes_eq one other
mapping_of folder = file_of folder (codes ".mapping.json")

pub rows_of : (folder : Option (List ℕ)) (one other : List ℕ) → bytes_eq (row_file folder one) (row_file folder other) ≡ bytes_eq one other
rows_of folder = file_of folder (codes ".ndjson")

pub policy_of : (folder : Option (List ℕ)) (one other : List ℕ) → bytes_eq (policy_file folder one) (policy_file folder other) ≡ bytes_eq one other
policy_of folder = file_of folder (codes ".policy.json")

-- the sixth byte from the end, by which the files of a name differ
abbrev sixth_last : List ℕ → ℕ
sixth_last bytes = get_or (reverse bytes) 5 0

ends : (folder : Option (List ℕ)) (name suffix : List ℕ) → reverse (folder_text folder ++ (name ++ suffix)) ≡ (reverse suffix ++ reverse name) ++ reverse (folder_text folder)
ends folder name suffix = reverse-append (folder_text folder) (name ++ suffix) ∙ ap (λ (bytes : List ℕ). bytes ++ reverse (folder_text folder)) (reverse-append name suffix)

mapping_end : (folder : Option (List ℕ)) (name : List ℕ) → sixth_last (mapping_file folder name) ≡ 103
mapping_end folder name = ap (λ (bytes : List ℕ). get_or bytes 5 0) (ends folder name (codes ".mapping.json"))

rows_end : (folder : Option (List ℕ)) (name : List ℕ) → sixth_last (row_file folder name) ≡ 110
rows_end folder name = ap (λ (bytes : List ℕ). get_or bytes 5 0) (ends folder name (codes ".ndjson"))

policy_end : (folder : Option (List ℕ)) (name : List ℕ) → sixth_last (policy_file folder name) ≡ 121
policy_end folder name = ap (λ (bytes : List ℕ). get_or bytes 5 0) (ends folder name (codes ".policy.json"))

by_end : (one other : List ℕ) (m n : ℕ) → sixth_last one ≡ m → sixth_last other ≡ n → (m ≡ n → ⊥) → bytes_eq one other ≡ false
by_end one other m n at too not = differ one other (λ same. not (sym at ∙ ap sixth_last same ∙ too))

pub mapping_no_rows : (folder : Option (List ℕ)) (one other : List ℕ) → bytes_eq (mapping_file folder one) (row_file folder other) ≡ false
mapping_no_rows folder one other = by_end (mapping_file folder one) (row_file folder other) 103 110 (mapping_end folder one) (rows_end folder other) (λ same. omega (arith, same))

pub mapping_no_policy : (folder : Option (List ℕ)) (one other : List ℕ) → bytes_eq (mapping_file folder one) (policy_file folder other) ≡ false
mapping_no_policy folder one other = by_end (mapping_file folder one) (policy_file folder other) 103 121 (mapping_end folder one) (policy_end folder other) (λ same. omega (arith, same))

pub rows_no_mapping : (folder : Option (List ℕ)) (one other : List ℕ) → bytes_eq (row_file folder one) (mapping_file folder other) ≡ false
rows_no_mapping folder one other = by_end (row_file folder one) (mapping_file folder other) 110 103 (rows_end folder one) (mapping_end folder other) (λ same. omega (arith, same))

pub rows_no_policy : (folder : Option (List ℕ)) (one other : List ℕ) → bytes_eq (row_file folder one) (policy_file folder other) ≡ false
rows_no_policy folder one other = by_end (row_file folder one) (policy_file folder other) 110 121 (rows_end folder one) (policy_end folder other) (λ same. omega (arith, same))

pub policy_no_mapping : (folder : Option (List ℕ)) (one other : List ℕ) → bytes_eq (policy_file folder one) (mapping_file folder other) ≡ false
policy_no_mapping folder one other = by_end (policy_file folder one) (mapping_file folder other) 121 103 (policy_end folder one) (mapping_end folder other) (λ same. omega (arith, same))

pub policy_no_rows : (folder : Option (List ℕ)) (one other : List ℕ) → bytes_eq (policy_file folder one) (row_file folder other) ≡ false
policy_no_rows folder one other = by_end (policy_file folder one) (row_file folder other) 121 110 (policy_end folder one) (rows_end folder other) (λ same. omega (arith, same))
