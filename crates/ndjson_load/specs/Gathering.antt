-- What of a JSON value belongs to a column.
use Rattle.std.specs.Prelude.{ℕ, ◌==◌, Bool, List, [], ◌∷◌, ◌++◌, length, drop, nat_eq, Option, Some, None, if◌then◌else◌}
use Rattle.std.specs.List.{starts_with}
use Rattle.std.specs.Option.{option_map_or}
use Rattle.serde_json.specs.Data.{Data, null, boolean, number, string, array, object, Items, no_items, item, Members, no_members, member}
use Rattle.ndjson_load.specs.declared.cause.RowCause.{RowCause}
use Rattle.ndjson_load.specs.declared.cause.RowCause.TheVariants.{WantsObject, WantsValue}

-- A value, a null that the document writes, or a fault.
pub data Item : Type 0 where
  value : Data → Item
  explicit_null : Item
  fault : RowCause → Item

-- what follows a key in a path: nothing, or a dot and the rest
abbrev pub after_key : List ℕ → Option (List ℕ)
after_key [] = Some []
after_key (c ∷ rest) = if c == 46 then Some rest else None

-- the rest of a path after a key that is the path or is followed in it by a dot
abbrev pub rest_of : List ℕ → List ℕ → Option (List ℕ)
rest_of key path = if starts_with nat_eq path key then after_key (drop (length key) path) else None

abbrev pub is_empty : List ℕ → Bool
is_empty path = length path == 0

-- The items of a value under a path. An array gives those of its items, joined. With an empty path a null gives one
-- explicit null, an object a fault, and another value itself. With a path left a null gives nothing, an object those of
-- each member whose key begins the path, joined in byte order of the keys, and another value a fault.
abbrev mutual
  pub gather : Data → List ℕ → List Item
  gather null path = if is_empty path then explicit_null ∷ [] else []
  gather (boolean b) path = if is_empty path then value (boolean b) ∷ [] else fault WantsObject ∷ []
  gather (number n) path = if is_empty path then value (number n) ∷ [] else fault WantsObject ∷ []
  gather (string s) path = if is_empty path then value (string s) ∷ [] else fault WantsObject ∷ []
  gather (array ds) path = gather_items ds path
  gather (object ms) path = if is_empty path then fault WantsValue ∷ [] else gather_members ms path

  pub gather_items : Items → List ℕ → List Item
  gather_items no_items path = []
  gather_items (item d ds) path = gather d path ++ gather_items ds path

  pub gather_members : Members → List ℕ → List Item
  gather_members no_members path = []
  gather_members (member key d ms) path = option_map_or (gather d) (rest_of key path) [] ++ gather_members ms path

-- the items of a member whose key leaves this of the path, if it begins the path
abbrev pub gather_rest : Data → Option (List ℕ) → List Item
gather_rest d rest = option_map_or (gather d) rest []
