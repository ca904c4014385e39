-- The columns of properties are those to which chains of properties lead.
use Rattle.std.proofs.Common.{◌≡◌, ◌⊎◌, inl, inr, ⊎_elim, ℕ, Bool, true, false, cond, List, [], ◌∷◌, ◌++◌, Option, Some, None, Result, Ok, Err, refl, sym, ap, subst, ◌∙◌}
use Rattle.std.specs.Prelude.{codes}
use Rattle.std.specs.Ordering.{nat_cmp, is_eq, match_ordering}
use Rattle.std.specs.declared.cmp.Ordering.{Ordering}
use Rattle.std.specs.declared.cmp.Ordering.TheVariants.{Less, Equal, Greater}
use Rattle.std.specs.Cmp.Lexicographic.{slice_cmp}
use Rattle.std.specs.Str.{bytes_eq}
use Rattle.std.proofs.lemmas.Map.Text.{is_eq-slice_cmp}
use Rattle.serde_json.specs.Data.{Data, null, boolean, number, string, array, object, Members, no_members, member}
use Rattle.serde_json.specs.Find.{get, get_member}
use Rattle.esql_types.specs.declared.value.Kind.{Kind}
use Rattle.esql_types.specs.declared.value.Value.{Value}
use Rattle.ndjson_load.specs.Joining.{joined}
use Rattle.ndjson_load.specs.Mappings.{columns_of, property_columns, branch_columns, inner_columns, is_branch, leaf_of, leaf_from, typed_column, column_from, kind_of_type, ignores_of, null_of}
use Rattle.ndjson_load.specs.declared.cause.MappingCause.{MappingCause}
use Rattle.ndjson_load.specs.declared.column.MappedColumn.{MappedColumn}
use Rattle.file_laws.specs.Paths.{IsAmong, first, later, LeadsTo, here, beside, inside, IsLed, ColumnsAreLed, LedAreColumns}

-- ---- of a list and another

among_front : (column : MappedColumn) (front back : List MappedColumn) → IsAmong column front → IsAmong column (front ++ back)
among_front column [] back is = elim is [ ]
among_front column (x ∷ front) back (first xs) = first (front ++ back)
among_front column (x ∷ front) back (later y xs is) = later x (front ++ back) (among_front column front back is)

among_back : (column : MappedColumn) (front back : List MappedColumn) → IsAmong column back → IsAmong column (front ++ back)
among_back column [] back is = is
among_back column (x ∷ front) back is = later x (front ++ back) (among_back column front back is)

among_either : (column : MappedColumn) (front back : List MappedColumn) → IsAmong column (front ++ back) → IsAmong column front ⊎ IsAmong column back
among_either column [] back is = inr is
among_either column (x ∷ front) back (first xs) = inl (first front)
among_either column (x ∷ front) back (later y xs is) = ⊎_elim (λ one. inl (later x front one)) (λ other. inr other) (among_either column front back is)

among_none : (column : MappedColumn) → IsAmong column [] → ⊥
among_none column is = elim is [ ]

-- the two lists that are joined
record AreParts (front back : Result (List MappedColumn) MappingCause) (whole : List MappedColumn) : Type 0 where
  one : List MappedColumn
  other : List MappedColumn
  front_is : front ≡ Ok one
  back_is : back ≡ Ok other
  is : one ++ other ≡ whole

parts_of : (front back : Result (List MappedColumn) MappingCause) (whole : List MappedColumn) → joined front back ≡ Ok whole → AreParts front back whole
parts_of (Err fault) back whole is = absurd cc
parts_of (Ok one) (Err fault) whole is = absurd cc
parts_of (Ok one) (Ok other) whole is = record { one = one; other = other; front_is = refl; back_is = refl; is = cc }

-- ---- a leaf gives one column or none

abbrev GivesOne : Result (List MappedColumn) MappingCause → MappedColumn → Type 0
GivesOne result column = result ≡ Ok (column ∷ [])

one_of_one : (column other : MappedColumn) → IsAmong column (other ∷ []) → other ≡ column
one_of_one column other (first xs) = refl
one_of_one column other (later y xs is) = absurd (among_none column is)

column_one : (path : List ℕ) (kind : Kind) (ignores : Option Bool) (stands_for : Option (Option Value)) (found : List MappedColumn) (column : MappedColumn)
    → column_from path kind ignores stands_for ≡ Ok found → IsAmong column found → GivesOne (column_from path kind ignores stands_for) column
column_one path kind None stands_for found column is among = absurd cc
column_one path kind (Some ignores) None found column is among = absurd cc
column_one path kind (Some ignores) (Some stands_for) found column is among =
    let made : MappedColumn = record { column = record { name = path; kind = kind }; ignore_malformed = ignores; null_value = stands_for } in
    let one : made ∷ [] ≡ found = cc in
    ap (λ other. Ok (other ∷ [])) (one_of_one column made (subst (IsAmong column) (sym one) among))

typed_one : (path name : List ℕ) (o : Option Kind) (property : Data) (found : List MappedColumn) (column : MappedColumn) → typed_column path name o property ≡ Ok found → IsAmong column found
    → GivesOne (typed_column path name o property) column
typed_one path name None property found column is among =
    let none : [] ≡ found = cc in
    absurd (among_none column (subst (IsAmong column) (sym none) among))
typed_one path name (Some kind) property found column is among = column_one path kind (ignores_of kind property) (null_of name kind property) found column is among

leaf_one : (path : List ℕ) (o : Option Data) (property : Data) (found : List MappedColumn) (column : MappedColumn) → leaf_from path o property ≡ Ok found → IsAmong column found
    → GivesOne (leaf_from path o property) column
leaf_one path None property found column is among = absurd cc
leaf_one path (Some null) property found column is among = absurd cc
leaf_one path (Some (boolean b)) property found column is among = absurd cc
leaf_one path (Some (number n)) property found column is among = absurd cc
leaf_one path (Some (string name)) property found column is among = typed_one path name (kind_of_type name) property found column is among
leaf_one path (Some (array ds)) property found column is among = absurd cc
leaf_one path (Some (object inner)) property found column is among = absurd cc

-- ---- the member of a name

same_test : (o : Ordering) (rest : Option Data) (d : Data) (test : Bool) → is_eq o ≡ test → match_ordering o rest (Some d) rest ≡ cond test (Some d) rest
same_test Less rest d test is = ap (λ t. cond t (Some d) rest) is
same_test Equal rest d test is = ap (λ t. cond t (Some d) rest) is
same_test Greater rest d test is = ap (λ t. cond t (Some d) rest) is

get_is : (name key : List ℕ) (d : Data) (ms : Members) → get_member name (member key d ms) ≡ cond (bytes_eq name key) (Some d) (get_member name ms)
get_is name key d ms = same_test (slice_cmp nat_cmp name key) (get_member name ms) d (bytes_eq name key) (is_eq-slice_cmp name key)

-- ---- a chain leads to each column

-- what a property leads to, under its own path
data LeadsFrom (path : List ℕ) : Data → List ℕ → Members → Type 0 where
  itself : (leaf : Members) → LeadsFrom path (object leaf) path leaf
  within : (branch inner : Members) (end : List ℕ) (leaf : Members) → is_branch (object branch) ≡ true → get_member (codes "properties") branch ≡ Some (object inner)
      → LeadsTo (path ++ 46 ∷ []) inner end (object leaf) → LeadsFrom path (object branch) end leaf

record IsLedFrom (path : List ℕ) (property : Data) (column : MappedColumn) : Type 0 where
  end : List ℕ
  leaf : Members
  leads : LeadsFrom path property end leaf
  is_leaf : is_branch (object leaf) ≡ false
  gives : leaf_of end (object leaf) ≡ Ok (column ∷ [])

leads_here : (prefix key : List ℕ) (property : Data) (others : Members) (end : List ℕ) (leaf : Members) → LeadsFrom (prefix ++ key) property end leaf
    → LeadsTo prefix (member key property others) end (object leaf)
leads_here prefix key null others end leaf is = elim is [ ]
leads_here prefix key (boolean b) others end leaf is = elim is [ ]
leads_here prefix key (number n) others end leaf is = elim is [ ]
leads_here prefix key (string s) others end leaf is = elim is [ ]
leads_here prefix key (array ds) others end leaf is = elim is [ ]
leads_here prefix key (object own) others end leaf (itself same) = here prefix key (object own) others
leads_here prefix key (object own) others end leaf (within branch inner last bottom is_one properties leads) = inside prefix key own inner others end (object leaf) is_one properties leads

led_here : (prefix key : List ℕ) (property : Data) (others : Members) (column : MappedColumn) → IsLedFrom (prefix ++ key) property column → IsLed prefix (member key property others) column
led_here prefix key property others column led = record {
  path = led.end;
  leaf = led.leaf;
  leads = leads_here prefix key property others led.end led.leaf led.leads;
  is_leaf = led.is_leaf;
  gives = led.gives;
}

led_beside : (prefix key : List ℕ) (other : Data) (others : Members) (column : MappedColumn) → IsLed prefix others column → IsLed prefix (member key other others) column
led_beside prefix key other others column led = record {
  path = led.path;
  leaf = led.leaf;
  leads = beside prefix key other others led.path (object led.leaf) led.leads;
  is_leaf = led.is_leaf;
  gives = led.gives;
}

-- the properties of a branch, and what they lead to
record IsLedWithin (path : List ℕ) (branch : Members) (column : MappedColumn) : Type 0 where
  inner : Members
  properties : get_member (codes "properties") branch ≡ Some (object inner)
  led : IsLed (path ++ 46 ∷ []) inner column

led_leaf : (path : List ℕ) (ms : Members) (column : MappedColumn) → is_branch (object ms) ≡ false → GivesOne (leaf_of path (object ms)) column → IsLedFrom path (object ms) column
led_leaf path ms column is_leaf gives = record { end = path; leaf = ms; leads = itself ms; is_leaf = is_leaf; gives = gives }

led_branch : (path : List ℕ) (ms : Members) (column : MappedColumn) → is_branch (object ms) ≡ true → IsLedWithin path ms column → IsLedFrom path (object ms) column
led_branch path ms column is_one led = record {
  end = led.led.path;
  leaf = led.led.leaf;
  leads = within ms led.inner led.led.path led.led.leaf is_one led.properties led.led.leads;
  is_leaf = led.led.is_leaf;
  gives = led.led.gives;
}

by_branch : (path : List ℕ) (ms : Members) (columns : List MappedColumn) (column : MappedColumn) (test : Bool) → is_branch (object ms) ≡ test
    → cond (is_branch (object ms)) (branch_columns path ms) (leaf_of path (object ms)) ≡ Ok columns → IsAmong column columns → (branch_columns path ms ≡ Ok columns → IsLedWithin path ms column)
    → IsLedFrom path (object ms) column
by_branch path ms columns column true is_one is among branch =
    led_branch path ms column is_one (branch (sym (ap (λ t. cond t (branch_columns path ms) (leaf_of path (object ms))) is_one) ∙ is))
by_branch path ms columns column false is_leaf is among branch =
    led_leaf path ms column is_leaf
    (leaf_one path (get (codes "type") (object ms)) (object ms) columns column (sym (ap (λ t. cond t (branch_columns path ms) (leaf_of path (object ms))) is_leaf) ∙ is) among)

by_name : (path key : List ℕ) (d : Data) (ms : Members) (columns : List MappedColumn) (column : MappedColumn) (test : Bool) → bytes_eq (codes "properties") key ≡ test
    → cond (bytes_eq (codes "properties") key) (inner_columns path d) (branch_columns path ms) ≡ Ok columns
    → (bytes_eq (codes "properties") key ≡ true → inner_columns path d ≡ Ok columns → IsLedWithin path (member key d ms) column)
    → (branch_columns path ms ≡ Ok columns → IsLedWithin path ms column) → IsLedWithin path (member key d ms) column
by_name path key d ms columns column true own is inner branch = inner own (sym (ap (λ t. cond t (inner_columns path d) (branch_columns path ms)) own) ∙ is)
by_name path key d ms columns column false other is inner branch =
    let rest = branch (sym (ap (λ t. cond t (inner_columns path d) (branch_columns path ms)) other) ∙ is) in
    record {
      inner = rest.inner;
      properties = get_is (codes "properties") key d ms ∙ ap (λ t. cond t (Some d) (get_member (codes "properties") ms)) other ∙ rest.properties;
      led = rest.led;
    }

mutual
  columns_led : (prefix : List ℕ) (ms : Members) (columns : List MappedColumn) (column : MappedColumn) → columns_of prefix ms ≡ Ok columns → IsAmong column columns → IsLed prefix ms column
  columns_led prefix no_members columns column is among =
      let none : [] ≡ columns = cc in
      absurd (among_none column (subst (IsAmong column) (sym none) among))
  columns_led prefix (member key d ms) columns column is among =
      let parts = parts_of (property_columns (prefix ++ key) d) (columns_of prefix ms) columns is in
      ⊎_elim (λ one. led_here prefix key d ms column (property_led (prefix ++ key) d parts.one column parts.front_is one))
      (λ other. led_beside prefix key d ms column (columns_led prefix ms parts.other column parts.back_is other))
      (among_either column parts.one parts.other (subst (IsAmong column) (sym parts.is) among))

  property_led : (path : List ℕ) (d : Data) (columns : List MappedColumn) (column : MappedColumn) → property_columns path d ≡ Ok columns → IsAmong column columns → IsLedFrom path d column
  property_led path null columns column is among = absurd cc
  property_led path (boolean b) columns column is among = absurd cc
  property_led path (number n) columns column is among = absurd cc
  property_led path (string s) columns column is among = absurd cc
  property_led path (array ds) columns column is among = absurd cc
  property_led path (object ms) columns column is among =
      by_branch path ms columns column (is_branch (object ms)) refl is among (λ e. branch_led path ms columns column e among)

  branch_led : (path : List ℕ) (ms : Members) (columns : List MappedColumn) (column : MappedColumn) → branch_columns path ms ≡ Ok columns → IsAmong column columns → IsLedWithin path ms column
  branch_led path no_members columns column is among =
      let none : [] ≡ columns = cc in
      absurd (among_none column (subst (IsAmong column) (sym none) among))
  branch_led path (member key d ms) columns column is among =
      by_name path key d ms columns column (bytes_eq (codes "properties") key) refl is (λ own e. inner_led path d key ms columns column own e among)
      (λ e. branch_led path ms columns column e among)

  inner_led : (path : List ℕ) (d : Data) (key : List ℕ) (ms : Members) (columns : List MappedColumn) (column : MappedColumn) → bytes_eq (codes "properties") key ≡ true → inner_columns path d ≡ Ok columns
      → IsAmong column columns → IsLedWithin path (member key d ms) column
  inner_led path null key ms columns column own is among = absurd cc
  inner_led path (boolean b) key ms columns column own is among = absurd cc
  inner_led path (number n) key ms columns column own is among = absurd cc
  inner_led path (string s) key ms columns column own is among = absurd cc
  inner_led path (array ds) key ms columns column own is among = absurd cc
  inner_led path (object inner) key ms columns column own is among = record {
    inner = inner;
    properties = get_is (codes "properties") key (object inner) ms ∙ ap (λ t. cond t (Some (object inner)) (get_member (codes "properties") ms)) own;
    led = columns_led (path ++ 46 ∷ []) inner columns column is among;
  }

pub columns_are_led : ColumnsAreLed
columns_are_led prefix properties columns column is among = columns_led prefix properties columns column is among

-- ---- to whatever a chain leads is a column

same_some : (one other : Data) → Some one ≡ Some other → one ≡ other
same_some one other same = cc

inner_by : (path key : List ℕ) (d : Data) (ms inner : Members) (test : Bool) → bytes_eq (codes "properties") key ≡ test
    → cond (bytes_eq (codes "properties") key) (Some d) (get_member (codes "properties") ms) ≡ Some (object inner)
    → (get_member (codes "properties") ms ≡ Some (object inner) → branch_columns path ms ≡ columns_of (path ++ 46 ∷ []) inner)
    → branch_columns path (member key d ms) ≡ columns_of (path ++ 46 ∷ []) inner
inner_by path key d ms inner true own is rest =
    ap (λ t. cond t (inner_columns path d) (branch_columns path ms)) own
    ∙ ap (inner_columns path) (same_some d (object inner) (sym (ap (λ t. cond t (Some d) (get_member (codes "properties") ms)) own) ∙ is))
inner_by path key d ms inner false other is rest =
    ap (λ t. cond t (inner_columns path d) (branch_columns path ms)) other
    ∙ rest (sym (ap (λ t. cond t (Some d) (get_member (codes "properties") ms)) other) ∙ is)

branch_inner : (path : List ℕ) (ms inner : Members) → get_member (codes "properties") ms ≡ Some (object inner) → branch_columns path ms ≡ columns_of (path ++ 46 ∷ []) inner
branch_inner path no_members inner is = absurd cc
branch_inner path (member key d ms) inner is =
    inner_by path key d ms inner (bytes_eq (codes "properties") key) refl (sym (get_is (codes "properties") key d ms) ∙ is) (λ e. branch_inner path ms inner e)

abbrev ok_of : List MappedColumn → Result (List MappedColumn) MappingCause
ok_of columns = Ok columns

same_found : (one other : List MappedColumn) → ok_of one ≡ ok_of other → one ≡ other
same_found one other same = cc

module _ (leaf : Members) (is_leaf : is_branch (object leaf) ≡ false) (column : MappedColumn) where
  own_column : (path : List ℕ) (found : List MappedColumn) → leaf_of path (object leaf) ≡ Ok (column ∷ []) → property_columns path (object leaf) ≡ Ok found → IsAmong column found
  own_column path found gives is =
      let given : cond (is_branch (object leaf)) (branch_columns path leaf) (leaf_of path (object leaf)) ≡ leaf_of path (object leaf) =
      ap (λ t. cond t (branch_columns path leaf) (leaf_of path (object leaf))) is_leaf in
      subst (IsAmong column) (same_found (column ∷ []) found (sym gives ∙ sym given ∙ is)) (first [])

  led_column : (prefix : List ℕ) (ms : Members) (columns : List MappedColumn) (path : List ℕ) (property : Data) → columns_of prefix ms ≡ Ok columns → LeadsTo prefix ms path property
      → property ≡ object leaf → leaf_of path (object leaf) ≡ Ok (column ∷ []) → IsAmong column columns
  led_column prefix no_members columns path property is leads same gives = elim leads [ ]
  led_column prefix (member key d ms) columns path property is (here start name own others) same gives =
      let parts = parts_of (property_columns (prefix ++ key) d) (columns_of prefix ms) columns is in
      subst (IsAmong column) parts.is
      (among_front column parts.one parts.other (own_column (prefix ++ key) parts.one gives (ap (property_columns (prefix ++ key)) (sym same) ∙ parts.front_is)))
  led_column prefix (member key d ms) columns path property is (beside start name other others end bottom leads) same gives =
      let parts = parts_of (property_columns (prefix ++ key) d) (columns_of prefix ms) columns is in
      subst (IsAmong column) parts.is (among_back column parts.one parts.other (led_column prefix ms parts.other path property parts.back_is leads same gives))
  led_column prefix (member key (object branch) ms) columns path property is (inside start name branched inner others end bottom is_one properties leads) same gives =
      let parts = parts_of (property_columns (prefix ++ key) (object branch)) (columns_of prefix ms) columns is in
      let given : cond (is_branch (object branch)) (branch_columns (prefix ++ key) branch) (leaf_of (prefix ++ key) (object branch)) ≡ branch_columns (prefix ++ key) branch =
      ap (λ t. cond t (branch_columns (prefix ++ key) branch) (leaf_of (prefix ++ key) (object branch))) is_one in
      subst (IsAmong column) parts.is
      (among_front column parts.one parts.other
      (led_column ((prefix ++ key) ++ 46 ∷ []) inner parts.one path property (sym (branch_inner (prefix ++ key) branch inner properties) ∙ sym given ∙ parts.front_is) leads same gives))

pub led_are_columns : LedAreColumns
led_are_columns prefix properties columns column is led = led_column led.leaf led.is_leaf column prefix properties columns led.path (object led.leaf) is led.leads refl led.gives
