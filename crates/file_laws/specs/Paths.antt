-- The chains of properties that lead to the columns of a mapping.
use Rattle.std.specs.Prelude.{◌≡◌, Bool, true, false, List, [], ◌∷◌, ◌++◌, codes, ℕ, Some, Ok}
use Rattle.serde_json.specs.Data.{Data, object, Members, member}
use Rattle.serde_json.specs.Find.{get_member}
use Rattle.ndjson_load.specs.Mappings.{columns_of, is_branch, leaf_of}
use Rattle.ndjson_load.specs.declared.column.MappedColumn.{MappedColumn}

-- x is one of a list
pub data IsAmong {X : Type 0} (x : X) : List X → Type 0 where
  first : (xs : List X) → IsAmong x (x ∷ xs)
  later : (y : X) (xs : List X) → IsAmong x xs → IsAmong x (y ∷ xs)

-- A chain of properties leads to a path and a property: to the name of one, behind the prefix; or through a branch, whose name and a
-- dot come before what its properties lead to.
pub data LeadsTo : List ℕ → Members → List ℕ → Data → Type 0 where
  here : (prefix key : List ℕ) (property : Data) (others : Members) → LeadsTo prefix (member key property others) (prefix ++ key) property
  beside : (prefix key : List ℕ) (other : Data) (others : Members) (path : List ℕ) (property : Data) → LeadsTo prefix others path property
      → LeadsTo prefix (member key other others) path property
  inside : (prefix key : List ℕ) (branch inner others : Members) (path : List ℕ) (property : Data) → is_branch (object branch) ≡ true
      → get_member (codes "properties") branch ≡ Some (object inner) → LeadsTo ((prefix ++ key) ++ 46 ∷ []) inner path property
      → LeadsTo prefix (member key (object branch) others) path property

-- a chain leads to a property that is no branch, and gives the column by its type and its parameters
pub record IsLed (prefix : List ℕ) (properties : Members) (column : MappedColumn) : Type 0 where
  pub path : List ℕ
  pub leaf : Members
  pub leads : LeadsTo prefix properties path (object leaf)
  pub is_leaf : is_branch (object leaf) ≡ false
  pub gives : leaf_of path (object leaf) ≡ Ok (column ∷ [])

-- a chain leads to each column of properties
abbrev pub ColumnsAreLed : Type 0
ColumnsAreLed = (prefix : List ℕ) (properties : Members) (columns : List MappedColumn) (column : MappedColumn) → columns_of prefix properties ≡ Ok columns → IsAmong column columns
    → IsLed prefix properties column

-- to whatever a chain leads is a column of properties
abbrev pub LedAreColumns : Type 0
LedAreColumns = (prefix : List ℕ) (properties : Members) (columns : List MappedColumn) (column : MappedColumn) → columns_of prefix properties ≡ Ok columns → IsLed prefix properties column
    → IsAmong column columns
