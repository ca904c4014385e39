-- Which columns of slots can be seen: by a name, with one more, and under another number.
use Rattle.std.proofs.Common.{◌≡◌, ℕ, zero, suc, ◌+◌, ◌≤◌, nat_le, nat_eq, Bool, true, false, not, cond, List, [], ◌∷◌, ◌++◌, String, length, map, filter, Option, Some, None, refl, sym, ap, subst, ◌∙◌, append_assoc, arith, rules}
use Rattle.std.specs.BTreeMap.{BTreeMap, get_by_text, is_at}
use Rattle.std.specs.List.{slice_get}
use Rattle.std.specs.Map.{lookup}
use Rattle.std.specs.Str.{bytes_eq}
use Rattle.std.specs.String.{string_bytes}
use Rattle.std.proofs.lemmas.Bool.{le-leb, lt-leb, ne_eqb}
use Rattle.std.proofs.lemmas.List.{append-nil}
use Rattle.std.proofs.lemmas.List.Elements.{filter-append}
use Rattle.std.proofs.lemmas.Map.Text.{is_eq-slice_cmp, text_cmp}
use Rattle.std.proofs.lemmas.Slice.Eq.{bytes_eq-Decides}
use Rattle.esql_types.specs.declared.names.ColId.{ColId}
use Rattle.esql_plan.specs.declared.plan.OutColumn.{OutColumn}
use Rattle.row_semantics.specs.Typed.{visible_named}
use Rattle.visible_columns.specs.declared.names.Known.{Known}
use Rattle.visible_columns.specs.Columns.{is_empty, with_last, renumbered}
use Rattle.visible_columns.specs.Names.{put_name, known_from}
use Rattle.visible_columns.specs.Slots.{numbered_by, seen_by, slots_seen, HasName, AreStanding}

pub same_name : (one other : List ℕ) → bytes_eq one other ≡ true → one ≡ other
same_name one other is = (bytes_eq-Decides one other).0 is

pub own_name : (name : List ℕ) → bytes_eq name name ≡ true
own_name name = (bytes_eq-Decides name name).1 refl

other_by : (one other : List ℕ) (same : Bool) → bytes_eq other one ≡ same → bytes_eq one other ≡ false → bytes_eq other one ≡ false
other_by one other true is apart = let same = (bytes_eq-Decides one other).1 (sym (same_name other one is)) in absurd cc
other_by one other false is apart = is

other_way : (one other : List ℕ) → bytes_eq one other ≡ false → bytes_eq other one ≡ false
other_way one other apart = other_by one other (bytes_eq other one) refl apart

some_is : {A : Type 0} (one other : A) → Some one ≡ Some other → one ≡ other
some_is one other is = search rules

-- the column of a name ------------------------------------------------------------------------------------------------------

-- a column of another name is passed
passed : (known : Option Known) (slot : ℕ) (column : OutColumn) (rest : List OutColumn) (name : List ℕ) → bytes_eq column.name name ≡ false
    → visible_named (seen_by known slot column ++ rest) name ≡ visible_named rest name
passed None slot column rest name other = refl
passed (Some this) slot column rest name other = by_place (nat_le this.from slot) this.number
  where
    by_place : (here : Bool) (number : Option ColId) → visible_named (cond here (numbered_by number column ∷ []) [] ++ rest) name ≡ visible_named rest name
    by_place false number = refl
    by_place true None = rw other refl
    by_place true (Some id) = rw other refl

-- one of the name is seen
met : (number : Option ColId) (column : OutColumn) (rest : List OutColumn) (name : List ℕ) → bytes_eq column.name name ≡ true
    → visible_named (numbered_by number column ∷ rest) name ≡ Some (numbered_by number column)
met None column rest name is = rw is refl
met (Some id) column rest name is = rw is refl

-- a name that is not known
pub none_named : (known : List ℕ → Option Known) (slot : ℕ) (columns : List OutColumn) (name : List ℕ) → known name ≡ None → visible_named (slots_seen known slot columns) name ≡ None
none_named known slot [] name none = refl
none_named known slot (column ∷ columns) name none = by_name (bytes_eq column.name name) refl (none_named known (slot + 1) columns name none)
  where
    by_name : (same : Bool) → bytes_eq column.name name ≡ same → visible_named (slots_seen known (slot + 1) columns) name ≡ None
        → visible_named (seen_by (known column.name) slot column ++ slots_seen known (slot + 1) columns) name ≡ None
    by_name true is rest =
        let unknown : known column.name ≡ None = ap known (same_name column.name name is) ∙ none in
        ap (λ (this : Option Known). visible_named (seen_by this slot column ++ slots_seen known (slot + 1) columns) name) unknown ∙ rest
    by_name false is rest = passed (known column.name) slot column (slots_seen known (slot + 1) columns) name is ∙ rest

-- the column of a name that is known stands where the name begins to be seen
pub some_named : (known : List ℕ → Option Known) (slot : ℕ) (columns : List OutColumn) (name : List ℕ) (this : Known) (at : ℕ) (column : OutColumn)
    → known name ≡ Some this → this.from ≡ slot + at → slice_get columns at ≡ Some column → bytes_eq column.name name ≡ true
    → visible_named (slots_seen known slot columns) name ≡ Some (numbered_by this.number column)
some_named known slot [] name this at column is from stands named = absurd cc
some_named known slot (first ∷ columns) name this zero column is from stands named =
    let same : first ≡ column = some_is first column stands in
    let own : bytes_eq first.name name ≡ true = ap (λ (one : OutColumn). bytes_eq one.name name) same ∙ named in
    let known_is : known first.name ≡ Some this = ap known (same_name first.name name own) ∙ is in
    ap (λ (what : Option Known). visible_named (seen_by what slot first ++ slots_seen known (slot + 1) columns) name) known_is
    ∙ ap (λ (here : Bool). visible_named (cond here (numbered_by this.number first ∷ []) [] ++ slots_seen known (slot + 1) columns) name) (le-leb this.from slot (omega (arith, from)))
    ∙ met this.number first (slots_seen known (slot + 1) columns) name own
    ∙ ap (λ (one : OutColumn). Some (numbered_by this.number one)) same
some_named known slot (first ∷ columns) name this (suc at) column is from stands named =
    by_name (bytes_eq first.name name) refl (some_named known (slot + 1) columns name this at column is (omega (arith, from)) stands named)
  where
    by_name : (same : Bool) → bytes_eq first.name name ≡ same → visible_named (slots_seen known (slot + 1) columns) name ≡ Some (numbered_by this.number column)
        → visible_named (seen_by (known first.name) slot first ++ slots_seen known (slot + 1) columns) name ≡ Some (numbered_by this.number column)
    by_name true same rest =
        let known_is : known first.name ≡ Some this = ap known (same_name first.name name same) ∙ is in
        ap (λ (what : Option Known). visible_named (seen_by what slot first ++ slots_seen known (slot + 1) columns) name) known_is
        ∙ ap (λ (here : Bool). visible_named (cond here (numbered_by this.number first ∷ []) [] ++ slots_seen known (slot + 1) columns) name) (lt-leb this.from slot (omega (arith, from)))
        ∙ rest
    by_name false same rest = passed (known first.name) slot first (slots_seen known (slot + 1) columns) name same ∙ rest

-- one more column -----------------------------------------------------------------------------------------------------------

pub seen_snoc : (known : List ℕ → Option Known) (slot : ℕ) (columns : List OutColumn) (column : OutColumn)
    → slots_seen known slot (columns ++ column ∷ []) ≡ slots_seen known slot columns ++ seen_by (known column.name) (slot + length columns) column
seen_snoc known slot [] column = append-nil (seen_by (known column.name) slot column) ∙ ap (λ (here : ℕ). seen_by (known column.name) here column) (omega arith)
seen_snoc known slot (first ∷ columns) column =
    ap (λ (these : List OutColumn). seen_by (known first.name) slot first ++ these) (seen_snoc known (slot + 1) columns column)
    ∙ sym (append_assoc (seen_by (known first.name) slot first) (slots_seen known (slot + 1) columns) (seen_by (known column.name) (slot + 1 + length columns) column))
    ∙ ap (λ (here : ℕ). (seen_by (known first.name) slot first ++ slots_seen known (slot + 1) columns) ++ seen_by (known column.name) here column) (omega arith)

abbrev is_other : List ℕ → OutColumn → Bool
is_other name other = not (bytes_eq other.name name)

-- none of the name is left
gone : (known : Option Known) (slot : ℕ) (column : OutColumn) (name : List ℕ) → bytes_eq column.name name ≡ true → filter (is_other name) (seen_by known slot column) ≡ []
gone None slot column name is = refl
gone (Some this) slot column name is = by_place (nat_le this.from slot) this.number
  where
    by_place : (here : Bool) (number : Option ColId) → filter (is_other name) (cond here (numbered_by number column ∷ []) []) ≡ []
    by_place false number = refl
    by_place true None = rw is refl
    by_place true (Some id) = rw is refl

-- one of another name is left
left : (known : Option Known) (slot : ℕ) (column : OutColumn) (name : List ℕ) → bytes_eq column.name name ≡ false
    → filter (is_other name) (seen_by known slot column) ≡ seen_by known slot column
left None slot column name is = refl
left (Some this) slot column name is = by_place (nat_le this.from slot) this.number
  where
    by_place : (here : Bool) (number : Option ColId) → filter (is_other name) (cond here (numbered_by number column ∷ []) []) ≡ cond here (numbered_by number column ∷ []) []
    by_place false number = refl
    by_place true None = rw is refl
    by_place true (Some id) = rw is refl

-- a name that is seen from a later slot on is seen no more
put_before : (old new : List ℕ → Option Known) (name : List ℕ) (last slot : ℕ) (columns : List OutColumn)
    → ((other : List ℕ) → new other ≡ put_name name (known_from last) old other) → slot + length columns ≤ last
    → slots_seen new slot columns ≡ filter (is_other name) (slots_seen old slot columns)
put_before old new name last slot [] puts within = refl
put_before old new name last slot (column ∷ columns) puts within =
    by_name (bytes_eq column.name name) refl (put_before old new name last (slot + 1) columns puts (omega (arith, within))) ∙ sym both
  where
    both : filter (is_other name) (seen_by (old column.name) slot column ++ slots_seen old (slot + 1) columns)
        ≡ filter (is_other name) (seen_by (old column.name) slot column) ++ filter (is_other name) (slots_seen old (slot + 1) columns)
    both = filter-append (is_other name) (seen_by (old column.name) slot column) (slots_seen old (slot + 1) columns)

    by_name : (same : Bool) → bytes_eq column.name name ≡ same → slots_seen new (slot + 1) columns ≡ filter (is_other name) (slots_seen old (slot + 1) columns)
        → seen_by (new column.name) slot column ++ slots_seen new (slot + 1) columns
        ≡ filter (is_other name) (seen_by (old column.name) slot column) ++ filter (is_other name) (slots_seen old (slot + 1) columns)
    by_name true is rest =
        let same : bytes_eq name column.name ≡ true = (bytes_eq-Decides name column.name).1 (sym (same_name column.name name is)) in
        let now : new column.name ≡ Some (known_from last) = puts column.name ∙ ap (λ (this : Bool). cond this (Some (known_from last)) (old column.name)) same in
        let none : seen_by (new column.name) slot column ≡ [] =
        ap (λ (what : Option Known). seen_by what slot column) now ∙ ap (λ (here : Bool). cond here (column ∷ []) []) (lt-leb last slot (omega (arith, within))) in
        λ i. (none ∙ sym (gone (old column.name) slot column name is)) i ++ rest i
    by_name false is rest =
        let now : new column.name ≡ old column.name =
        puts column.name ∙ ap (λ (this : Bool). cond this (Some (known_from last)) (old column.name)) (other_way column.name name is) in
        λ i. (ap (λ (what : Option Known). seen_by what slot column) now ∙ sym (left (old column.name) slot column name is)) i ++ rest i

-- a column is put at the end
pub put_last : (old new : List ℕ → Option Known) (columns : List OutColumn) (column : OutColumn)
    → ((other : List ℕ) → new other ≡ put_name column.name (known_from (length columns)) old other)
    → slots_seen new 0 (columns ++ column ∷ []) ≡ with_last (slots_seen old 0 columns) column
put_last old new columns column puts =
    let own : new column.name ≡ Some (known_from (length columns)) =
    puts column.name ∙ ap (λ (this : Bool). cond this (Some (known_from (length columns))) (old column.name)) (own_name column.name) in
    let seen : seen_by (new column.name) (0 + length columns) column ≡ column ∷ [] =
    ap (λ (what : Option Known). seen_by what (0 + length columns) column) own
    ∙ ap (λ (here : Bool). cond here (column ∷ []) []) (le-leb (length columns) (0 + length columns) (omega arith)) in
    seen_snoc new 0 columns column
    ∙ (λ i. put_before old new column.name (length columns) 0 columns puts (omega arith) i ++ seen i)

-- each name that is known stands where it did, and the new one at the end
slot_kept : (columns : List OutColumn) (slot : ℕ) (column last : OutColumn) → slice_get columns slot ≡ Some column → slice_get (columns ++ last ∷ []) slot ≡ Some column
slot_kept [] slot column last is = absurd cc
slot_kept (first ∷ columns) zero column last is = is
slot_kept (first ∷ columns) (suc slot) column last is = slot_kept columns slot column last is

slot_last : (columns : List OutColumn) (last : OutColumn) → slice_get (columns ++ last ∷ []) (length columns) ≡ Some last
slot_last [] last = refl
slot_last (first ∷ columns) last = slot_last columns last

pub put_stands : (old new : List ℕ → Option Known) (columns : List OutColumn) (column : OutColumn)
    → ((other : List ℕ) → new other ≡ put_name column.name (known_from (length columns)) old other)
    → AreStanding old columns → AreStanding new (columns ++ column ∷ [])
put_stands old new columns column puts stand name this is = by_name (bytes_eq column.name name) refl
  where
    by_name : (same : Bool) → bytes_eq column.name name ≡ same → HasName (columns ++ column ∷ []) name this.from
    by_name true same =
        let now : Some (known_from (length columns)) ≡ Some this =
        sym (puts name ∙ ap (λ (own : Bool). cond own (Some (known_from (length columns))) (old name)) same) ∙ is in
        let from : length columns ≡ this.from = ap (λ (what : Known). what.from) (some_is (known_from (length columns)) this now) in
        (column, ap (slice_get (columns ++ column ∷ [])) (sym from) ∙ slot_last columns column, same)
    by_name false same =
        let before : old name ≡ Some this = sym (puts name ∙ ap (λ (own : Bool). cond own (Some (known_from (length columns))) (old name)) same) ∙ is in
        let stood = stand name this before in
        (stood.0, slot_kept columns this.from stood.0 column stood.1, stood.2)

-- another number -----------------------------------------------------------------------------------------------------------

apart : (number : ColId) (name : List ℕ) (known : Option Known) (slot : ℕ) (column : OutColumn) → bytes_eq column.name name ≡ false
    → map (renumbered name number) (seen_by known slot column) ≡ seen_by known slot column
apart number name None slot column is = refl
apart number name (Some this) slot column is = by_place (nat_le this.from slot) this.number
  where
    by_place : (here : Bool) (old : Option ColId) → map (renumbered name number) (cond here (numbered_by old column ∷ []) []) ≡ cond here (numbered_by old column ∷ []) []
    by_place false old = refl
    by_place true None = rw is refl
    by_place true (Some id) = rw is refl

changed : (number : ColId) (name : List ℕ) (this : Known) (slot : ℕ) (column : OutColumn) → bytes_eq column.name name ≡ true
    → seen_by (Some (record { from = this.from; number = Some number })) slot column ≡ map (renumbered name number) (seen_by (Some this) slot column)
changed number name this slot column is = by_place (nat_le this.from slot) this.number
  where
    by_place : (here : Bool) (old : Option ColId) → cond here (numbered_by (Some number) column ∷ []) [] ≡ map (renumbered name number) (cond here (numbered_by old column ∷ []) [])
    by_place false old = refl
    by_place true None = rw is refl
    by_place true (Some id) = rw is refl

map_both : (f : OutColumn → OutColumn) (xs ys : List OutColumn) → map f (xs ++ ys) ≡ map f xs ++ map f ys
map_both f [] ys = refl
map_both f (x ∷ xs) ys = ap (λ (these : List OutColumn). f x ∷ these) (map_both f xs ys)

pub renumbers : (old new : List ℕ → Option Known) (name : List ℕ) (number : ColId) (this : Known) (slot : ℕ) (columns : List OutColumn) → old name ≡ Some this
    → ((other : List ℕ) → new other ≡ put_name name (record { from = this.from; number = Some number }) old other)
    → slots_seen new slot columns ≡ map (renumbered name number) (slots_seen old slot columns)
renumbers old new name number this slot [] is puts = refl
renumbers old new name number this slot (column ∷ columns) is puts =
    by_name (bytes_eq column.name name) refl (renumbers old new name number this (slot + 1) columns is puts)
    ∙ sym (map_both (renumbered name number) (seen_by (old column.name) slot column) (slots_seen old (slot + 1) columns))
  where
    by_name : (same : Bool) → bytes_eq column.name name ≡ same → slots_seen new (slot + 1) columns ≡ map (renumbered name number) (slots_seen old (slot + 1) columns)
        → seen_by (new column.name) slot column ++ slots_seen new (slot + 1) columns
        ≡ map (renumbered name number) (seen_by (old column.name) slot column) ++ map (renumbered name number) (slots_seen old (slot + 1) columns)
    by_name true named rest =
        let same : bytes_eq name column.name ≡ true = (bytes_eq-Decides name column.name).1 (sym (same_name column.name name named)) in
        let now : new column.name ≡ Some (record { from = this.from; number = Some number }) =
        puts column.name ∙ ap (λ (own : Bool). cond own (Some (record { from = this.from; number = Some number })) (old column.name)) same in
        let before : old column.name ≡ Some this = ap old (same_name column.name name named) ∙ is in
        λ i. (ap (λ (what : Option Known). seen_by what slot column) now ∙ changed number name this slot column named
        ∙ ap (λ (what : Option Known). map (renumbered name number) (seen_by what slot column)) (sym before)) i ++ rest i
    by_name false named rest =
        let now : new column.name ≡ old column.name =
        puts column.name ∙ ap (λ (own : Bool). cond own (Some (record { from = this.from; number = Some number })) (old column.name)) (other_way column.name name named) in
        λ i. (ap (λ (what : Option Known). seen_by what slot column) now ∙ sym (apart number name (old column.name) slot column named)) i ++ rest i

-- a name that is not known has no column
pub renumbers_none : (known : List ℕ → Option Known) (name : List ℕ) (number : ColId) (slot : ℕ) (columns : List OutColumn) → known name ≡ None
    → slots_seen known slot columns ≡ map (renumbered name number) (slots_seen known slot columns)
renumbers_none known name number slot [] none = refl
renumbers_none known name number slot (column ∷ columns) none =
    by_name (bytes_eq column.name name) refl (renumbers_none known name number (slot + 1) columns none)
    ∙ sym (map_both (renumbered name number) (seen_by (known column.name) slot column) (slots_seen known (slot + 1) columns))
  where
    by_name : (same : Bool) → bytes_eq column.name name ≡ same → slots_seen known (slot + 1) columns ≡ map (renumbered name number) (slots_seen known (slot + 1) columns)
        → seen_by (known column.name) slot column ++ slots_seen known (slot + 1) columns
        ≡ map (renumbered name number) (seen_by (known column.name) slot column) ++ map (renumbered name number) (slots_seen known (slot + 1) columns)
    by_name true named rest =
        let unknown : known column.name ≡ None = ap known (same_name column.name name named) ∙ none in
        λ i. (ap (λ (what : Option Known). seen_by what slot column) unknown
        ∙ ap (λ (what : Option Known). map (renumbered name number) (seen_by what slot column)) (sym unknown)) i ++ rest i
    by_name false named rest = λ i. sym (apart number name (known column.name) slot column named) i ++ rest i

pub renumber_stands : (old new : List ℕ → Option Known) (name : List ℕ) (number : ColId) (this : Known) (columns : List OutColumn) → old name ≡ Some this
    → ((other : List ℕ) → new other ≡ put_name name (record { from = this.from; number = Some number }) old other)
    → AreStanding old columns → AreStanding new columns
renumber_stands old new name number this columns is puts stand other that now = by_name (bytes_eq name other) refl
  where
    by_name : (same : Bool) → bytes_eq name other ≡ same → HasName columns other that.from
    by_name true same =
        let put : Some (record { from = this.from; number = Some number }) ≡ Some that =
        sym (puts other ∙ ap (λ (own : Bool). cond own (Some (record { from = this.from; number = Some number })) (old other)) same) ∙ now in
        let from : this.from ≡ that.from = ap (λ (what : Known). what.from) (some_is (record { from = this.from; number = Some number }) that put) in
        let before : old other ≡ Some this = ap old (sym (same_name name other same)) ∙ is in
        subst (HasName columns other) from (stand other this before)
    by_name false same =
        stand other that (sym (puts other ∙ ap (λ (own : Bool). cond own (Some (record { from = this.from; number = Some number })) (old other)) same) ∙ now)

-- a map of names -----------------------------------------------------------------------------------------------------------

pub found : (known : List ℕ → Option Known) (columns : List OutColumn) (name : List ℕ) (this : Known) (column : OutColumn)
    → AreStanding known columns → known name ≡ Some this → slice_get columns this.from ≡ Some column
    → visible_named (slots_seen known 0 columns) name ≡ Some (numbered_by this.number column)
found known columns name this column stand is stands =
    let has = stand name this is in
    let same : has.0 ≡ column = some_is has.0 column (sym has.1 ∙ stands) in
    some_named known 0 columns name this this.from column is (omega arith) stands (ap (λ (one : OutColumn). bytes_eq one.name name) (sym same) ∙ has.2)

pub never_gone : (known : List ℕ → Option Known) (columns : List OutColumn) (name : List ℕ) (this : Known)
    → AreStanding known columns → known name ≡ Some this → slice_get columns this.from ≡ None → ⊥
never_gone known columns name this stand is gone =
    let has = stand name this is in
    let none : Some has.0 ≡ None = sym has.1 ∙ gone in
    absurd cc

none_seen : (known : List ℕ → Option Known) (slot : ℕ) (columns : List OutColumn) → ((name : List ℕ) → known name ≡ None) → slots_seen known slot columns ≡ []
none_seen known slot [] none = refl
none_seen known slot (column ∷ columns) none = λ i. ap (λ (what : Option Known). seen_by what slot column) (none column.name) i ++ none_seen known (slot + 1) columns none i

some_seen : (columns : List OutColumn) (name : List ℕ) (column : OutColumn) → visible_named columns name ≡ Some column → is_empty columns ≡ false
some_seen [] name column is = absurd cc
some_seen (first ∷ columns) name column is = refl

pub empty_by : {Y : Type 0} (names : BTreeMap (String Y) Known) (columns : List OutColumn) → AreStanding (get_by_text names) columns
    → nat_eq (length names.entries) 0 ≡ is_empty (slots_seen (get_by_text names) 0 columns)
empty_by {Y = Y} names columns stand = by_entries names.entries refl
  where
    by_entries : (entries : List (String Y × Known)) → names.entries ≡ entries → nat_eq (length names.entries) 0 ≡ is_empty (slots_seen (get_by_text names) 0 columns)
    by_entries [] is =
        ap (λ these. nat_eq (length these) 0) is
        ∙ sym (ap is_empty (none_seen (get_by_text names) 0 columns (λ name. ap (lookup (is_at (text_cmp name))) is)))
    by_entries (entry ∷ entries) is =
        let name = string_bytes entry.0 in
        let own : is_at (text_cmp name) entry.0 ≡ true = is_eq-slice_cmp name name ∙ own_name name in
        let there : get_by_text names name ≡ Some entry.1 = ap (lookup (is_at (text_cmp name))) is ∙ ap (λ (same : Bool). cond same (Some entry.1) (lookup (is_at (text_cmp name)) entries)) own in
        let has = stand name entry.1 there in
        ap (λ these. nat_eq (length these) 0) is
        ∙ ne_eqb (length (entry ∷ entries)) 0 (λ none. absurd (omega (arith, none)))
        ∙ sym (some_seen (slots_seen (get_by_text names) 0 columns) name _ (found (get_by_text names) columns name entry.1 has.0 stand there has.1))

pub put_at : (old new : List ℕ → Option Known) (columns after : List OutColumn) (column : OutColumn) (count : ℕ) (name : List ℕ) → count ≡ length columns → name ≡ column.name
    → ((other : List ℕ) → new other ≡ put_name name (known_from count) old other) → after ≡ columns ++ column ∷ []
    → slots_seen new 0 after ≡ with_last (slots_seen old 0 columns) column
put_at old new columns after column count name counted named puts pushed =
    ap (slots_seen new 0) pushed ∙ put_last old new columns column (λ other. puts other ∙ (λ i. put_name (named i) (known_from (counted i)) old other))

-- a loop that goes over the slots
pub seen_turn : (known : List ℕ → Option Known) (slot : ℕ) (before after items rest whole : List OutColumn) (column : OutColumn) (name : List ℕ) (found : Option Known) → items ≡ column ∷ rest
    → name ≡ column.name → found ≡ known name → before ++ slots_seen known slot items ≡ whole → after ≡ before ++ seen_by found slot column
    → after ++ slots_seen known (slot + 1) rest ≡ whole
seen_turn known slot before after items rest whole column name found are named is so_far pushed =
    (λ i. (pushed ∙ ap (λ (what : Option Known). before ++ seen_by what slot column) (is ∙ ap known named)) i ++ slots_seen known (slot + 1) rest)
    ∙ append_assoc before (seen_by (known column.name) slot column) (slots_seen known (slot + 1) rest)
    ∙ ap (λ (these : List OutColumn). before ++ slots_seen known slot these) (sym are)
    ∙ so_far
