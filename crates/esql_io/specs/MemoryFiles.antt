-- What files in memory are, and what they hold.
use Rattle.std.specs.Prelude.{ℕ, Bool, List, [], ◌∷◌, drop, length, min, Option, Some, None, option_map, slice_get, if◌then◌else◌}
use Rattle.std.specs.Str.{bytes_eq}
use Rattle.std.specs.Option.{option_map_or}
use Rattle.esql_types.specs.Counts.{is_listed}
use Rattle.esql_io.specs.Files.{Held}
use Rattle.esql_io.specs.declared.memory_files.HeldFile.{HeldFile}
use Rattle.esql_io.specs.declared.memory_files.OpenFile.{OpenFile}

-- The files, the most bytes that one read gives, the numbers of the calls that fail, how many calls were made, how many
-- failed, the name and what is left of the open file, and the name at the last call that failed.
pub record MemoryFilesState : Type 0 where
  pub files : List HeldFile
  pub piece : ℕ
  pub failing : List ℕ
  pub calls : ℕ
  pub faults : ℕ
  pub opened : Option (List ℕ)
  pub left : List ℕ
  pub failed : List ℕ

-- the bytes of the first file of the name
abbrev pub held_in : List HeldFile → List ℕ → Option (List ℕ)
held_in [] name = None
held_in (file ∷ files) name = if bytes_eq file.name name then Some file.bytes else held_in files name

-- they tell what they hold
abbrev pub holds_of : MemoryFilesState → Held
holds_of state = Some (held_in state.files)

-- the next call fails: its number is one that fails
abbrev pub is_failing : MemoryFilesState → Bool
is_failing state = is_listed state.failing state.calls

-- how many bytes the next read gives into a piece of so many, where it does not fail
abbrev pub read_count : MemoryFilesState → ℕ → ℕ
read_count state size = min size (min state.piece (length state.left))

-- the name of the file that is open
abbrev pub opened_name : List HeldFile → Option OpenFile → Option (List ℕ)
opened_name files None = None
opened_name files (Some open_file) = option_map (λ (file : HeldFile). file.name) (slice_get files open_file.place)

-- what is left of the file that is open
abbrev pub left_of : List HeldFile → Option OpenFile → List ℕ
left_of files None = []
left_of files (Some open_file) = option_map_or (λ (file : HeldFile). drop open_file.cursor file.bytes) (slice_get files open_file.place) []
