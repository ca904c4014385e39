-- Looking up a name in a list of files, and reading on in one of them.
use Rattle.std.proofs.Common.{◌≡◌, ℕ, ◌+◌, ◌<◌, ◌≤◌, suc, zero, true, cond, List, [], ◌∷◌, drop, length, min, Some, slice_get, ap, sym, ◌∙◌, ⊎_elim, arith}
use Rattle.std.specs.Str.{bytes_eq}
use Rattle.std.proofs.lemmas.List.{drop-drop, drop_all}
use Rattle.std.proofs.lemmas.Bool.{cases_lt}
use Rattle.esql_io.specs.declared.memory_files.HeldFile.{HeldFile}
use Rattle.esql_io.specs.MemoryFiles.{held_in}

-- the file at a place, where its name is the one that is sought
pub held_here : (files : List HeldFile) (name : List ℕ) (place : ℕ) (file : HeldFile)
    → slice_get files place ≡ Some file → bytes_eq file.name name ≡ true → held_in (drop place files) name ≡ Some file.bytes
held_here [] name place file at same = absurd cc
held_here (first ∷ files) name zero file at same =
    let is : first ≡ file = cc in
    ap (λ (f : HeldFile). cond (bytes_eq f.name name) (Some f.bytes) (held_in files name)) is
    ∙ ap (λ b. cond b (Some file.bytes) (held_in files name)) same
held_here (first ∷ files) name (suc place) file at same = held_here files name place file at same

-- going further by a count, but not past the end, drops as many more
pub drop_further : (xs : List ℕ) (cursor count most : ℕ) → length xs ≤ most → drop (min (min (cursor + count) most) (length xs)) xs ≡ drop count (drop cursor xs)
drop_further xs cursor count most fits =
    ⊎_elim
    (λ (within : cursor + count < length xs).
    let here : min (min (cursor + count) most) (length xs) ≡ cursor + count = omega arith in
    ap (λ n. drop n xs) here ∙ sym (drop-drop count cursor xs))
    (λ (past : length xs ≤ cursor + count).
    let end : min (min (cursor + count) most) (length xs) ≡ length xs = omega arith in
    ap (λ n. drop n xs) end ∙ drop_all (length xs) xs (omega arith) ∙ sym (drop-drop count cursor xs ∙ drop_all (cursor + count) xs past))
    (cases_lt (cursor + count) (length xs))
