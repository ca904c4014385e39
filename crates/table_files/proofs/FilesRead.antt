-- What is answered of files, over files that may not tell what they hold.
use Rattle.std.proofs.Common.{◌≡◌, ℕ, ◌+◌, ◌≤◌, ◌<◌, List, [], length, replicate, Bool, true, false, Ok, Err, Option, Some, None, refl, ap, sym, subst, ◌∙◌, arith}
use Rattle.std.specs.Prelude.{is_some}
use Rattle.std.specs.Option.{IfSome, IsSomeAnd}
use Rattle.std.proofs.lemmas.List.{length-replicate}
use Rattle.esql_io.specs.Files.{Held, IsFound}
use Rattle.ndjson_load.specs.Over.{BytesOf, Over}
use Rattle.table_files.specs.Catalog.{Holds, IsTooLarge}
use Rattle.table_files.specs.Halts.{bad}
use Rattle.table_files.specs.Messages.{too_large}
use Rattle.table_files.specs.Reading.{ReadsFile, reads, is_missing, is_wide, ReadsOver, FindsFile, finds, lacks, FindsOver}

-- what holds over some files holds of another thing over them
pub over_weaker : (held : Held) (P Q : BytesOf → Type 0) → ((bytes_of : BytesOf) → P bytes_of → Q bytes_of) → Over held P → Over held Q
over_weaker None P Q step (bytes_of, p) = (bytes_of, step bytes_of p)
over_weaker (Some bytes_of) P Q step p = step bytes_of p

-- what holds over no files holds over none
pub over_never : {A : Type 0} (held : Held) (P : BytesOf → Type 0) → ((bytes_of : BytesOf) → P bytes_of → ⊥) → Over held P → A
over_never {A} None P never (bytes_of, p) = absurd (never bytes_of p)
over_never {A} (Some bytes_of) P never p = absurd (never bytes_of p)

-- ---- a file that is opened

held_some : (bytes : Option (List ℕ)) → true ≡ is_some bytes → (b : List ℕ) × (bytes ≡ Some b)
held_some None found = absurd cc
held_some (Some b) found = (b, refl)

held_none : (bytes : Option (List ℕ)) → false ≡ is_some bytes → bytes ≡ None
held_none None found = refl
held_none (Some b) found = absurd cc

finds_held : (bytes_of : BytesOf) (file : List ℕ) (is : Bool) → is ≡ is_some (bytes_of file) → FindsFile bytes_of file (Ok is)
finds_held bytes_of file true found = let (b, is) = held_some (bytes_of file) found in finds b is
finds_held bytes_of file false found = lacks (held_none (bytes_of file) found)

pub finds_over : (held : Held) (file named : List ℕ) (is : Bool) → named ≡ file → IsFound held named is → FindsOver held file (Ok is)
finds_over None file named true same found = ((λ name. Some []), finds [] refl)
finds_over None file named false same found = ((λ name. None), lacks refl)
finds_over (Some bytes_of) file named is same found = finds_held bytes_of file is (found ∙ ap (λ (f : List ℕ). is_some (bytes_of f)) same)

-- ---- a file that is read whole

reads_held : (bytes_of : BytesOf) (file : List ℕ) (read : Option (List ℕ)) → read ≡ bytes_of file → IfSome read (λ b. length b ≤ 268435456) → ReadsFile bytes_of file (Ok read)
reads_held bytes_of file None is within = is_missing (sym is)
reads_held bytes_of file (Some b) is within = reads b (record { is = sym is; fits = within })

pub reads_over : (held : Held) (file : List ℕ) (read : Option (List ℕ)) → IfSome held (λ h. read ≡ h file) → IfSome read (λ b. length b ≤ 268435456) → ReadsOver held file (Ok read)
reads_over None file read is within = ((λ name. read), reads_held (λ name. read) file read refl within)
reads_over (Some h) file read is within = reads_held h file read is within

-- some list is longer
longer : (n : ℕ) → (bytes : List ℕ) × (n < length bytes)
longer n = (replicate (n + 1) 0, subst (λ (m : ℕ). n < m) (sym (length-replicate (n + 1) 0)) (omega arith))

too_large_of : (h : BytesOf) (file : List ℕ) (bytes : Option (List ℕ)) → h file ≡ bytes → IsSomeAnd bytes (λ b. 268435456 < length b) → IsTooLarge h file
too_large_of h file None is wide = absurd wide
too_large_of h file (Some b) is wide = record { bytes = b; is = is; wide = wide }

-- a file that was given up is too large
pub over_large : (held : Held) (file : List ℕ) → IfSome held (λ h. IsSomeAnd (h file) (λ b. 268435456 < length b)) → Over held (λ h. IsTooLarge h file)
over_large None file wide = let (bytes, long) = longer 268435456 in ((λ name. Some bytes), record { bytes = bytes; is = refl; wide = long })
over_large (Some h) file wide = too_large_of h file (h file) refl wide

pub reads_wide : (held : Held) (file message : List ℕ) → message ≡ too_large file
    → IfSome held (λ h. IsSomeAnd (h file) (λ b. 268435456 < length b)) → ReadsOver held file (Err (bad message))
reads_wide held file message is wide =
    over_weaker held (λ h. IsTooLarge h file) (λ h. ReadsFile h file (Err (bad message)))
    (λ h large. subst (λ m. ReadsFile h file (Err (bad m))) (sym is) (is_wide large)) (over_large held file wide)

-- ---- what was answered, again

pub holds_of : (h : BytesOf) (file bytes : List ℕ) → ReadsFile h file (Ok (Some bytes)) → Holds h file bytes
holds_of h file bytes (reads _ holds) = holds

pub missing_of : (h : BytesOf) (file : List ℕ) → ReadsFile h file (Ok None) → h file ≡ None
missing_of h file (is_missing none) = none

pub found_of : (h : BytesOf) (file : List ℕ) → FindsFile h file (Ok true) → (bytes : List ℕ) × (h file ≡ Some bytes)
found_of h file (finds bytes is) = (bytes, is)

pub lacking_of : (h : BytesOf) (file : List ℕ) → FindsFile h file (Ok false) → h file ≡ None
lacking_of h file (lacks none) = none
