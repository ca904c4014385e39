-- What a mapping gives is unique: one list of columns, or one fault.
use Rattle.std.proofs.Common.{◌≡◌, inl, inr, ℕ, zero, suc, ◌+◌, ◌<◌, Bool, true, false, List, [], ◌∷◌, length, get_or, map, cond, Option, Some, None, Result, Ok, Err, refl, sym, ap, subst, ◌∙◌, arith}
use Rattle.std.specs.Ordering.{nat_cmp, is_eq, is_lt, ordering_reverse}
use Rattle.std.specs.List.Sorted.{IsSortedBy}
use Rattle.std.specs.declared.cmp.Ordering.{Ordering}
use Rattle.std.specs.declared.cmp.Ordering.TheVariants.{Less, Equal, Greater}
use Rattle.std.proofs.lemmas.List.MinMax.{ranks_by}
use Rattle.std.proofs.lemmas.List.Sorted.{sorted_far}
use Rattle.std.specs.Cmp.Lexicographic.{slice_cmp}
use Rattle.std.specs.Str.{bytes_eq}
use Rattle.std.proofs.lemmas.Cmp.{nat_list_cmp_total, tied_itself}
use Rattle.std.proofs.lemmas.Map.Lookups.{exact_bytes}
use Rattle.std.proofs.lemmas.Map.Text.{is_eq-slice_cmp}
use Rattle.ndjson_load.specs.declared.cause.MappingCause.{MappingCause}
use Rattle.ndjson_load.specs.declared.cause.MappingCause.TheVariants.{Twice}
use Rattle.ndjson_load.specs.declared.column.MappedColumn.{MappedColumn}
use Rattle.ndjson_load.specs.Mappings.{IsMapping, IsMappingFault, IsTwice, AreOrdered, found_columns, first_twice, begins_with_name, name_lt}
use Rattle.ndjson_load.specs.Shapes.{NamesRise}
use Rattle.ndjson_load.proofs.Sorted.{one_list_of_keys, places_differ, one_order}

abbrev name_of : MappedColumn → List ℕ
name_of column = column.column.name

-- what stands twice is seen in the names alone
same_begins : (name : List ℕ) (columns others : List MappedColumn) → map name_of columns ≡ map name_of others → begins_with_name name columns ≡ begins_with_name name others
same_begins name [] [] same = refl
same_begins name [] (other ∷ others) same = absurd cc
same_begins name (column ∷ columns) [] same = absurd cc
same_begins name (column ∷ columns) (other ∷ others) same =
    let first : name_of column ≡ name_of other = cc in
    ap (λ (n : List ℕ). bytes_eq n name) first

same_twice : (columns others : List MappedColumn) → map name_of columns ≡ map name_of others → first_twice columns ≡ first_twice others
same_twice [] [] same = refl
same_twice [] (other ∷ others) same = absurd cc
same_twice (column ∷ columns) [] same = absurd cc
same_twice (column ∷ columns) (other ∷ others) same =
    let first : name_of column ≡ name_of other = cc in
    let rest : map name_of columns ≡ map name_of others = cc in
    let begins : begins_with_name (name_of column) columns ≡ begins_with_name (name_of other) others =
    same_begins (name_of column) columns others rest ∙ ap (λ (n : List ℕ). begins_with_name n others) first in
    let later : first_twice columns ≡ first_twice others = same_twice columns others rest in
    ap (λ (b : Bool). cond b (Some (name_of column)) (first_twice columns)) begins
    ∙ ap (λ (n : List ℕ). cond (begins_with_name (name_of other) others) (Some n) (first_twice columns)) first
    ∙ ap (λ (t : Option (List ℕ)). cond (begins_with_name (name_of other) others) (Some (name_of other)) t) later

-- where no name stands twice, neighbours have different names
chosen_none : (b : Bool) (name : List ℕ) (rest : Option (List ℕ)) → cond b (Some name) rest ≡ None → (b ≡ false) × (rest ≡ None)
chosen_none true name rest none = absurd cc
chosen_none false name rest none = (refl, none)

same_bytes : (left right : List ℕ) → left ≡ right → bytes_eq left right ≡ true
same_bytes left right same =
    sym (is_eq-slice_cmp left right) ∙ ap (λ (other : List ℕ). is_eq (slice_cmp nat_cmp left other)) (sym same) ∙ ap is_eq (tied_itself nat_list_cmp_total left)

differ : (columns : List MappedColumn) (d : MappedColumn) (i : ℕ) → first_twice columns ≡ None → i + 1 < length columns → name_of (get_or columns i d) ≡ name_of (get_or columns (i + 1) d) → ⊥
differ [] d i none within same = omega arith
differ (column ∷ []) d i none within same = omega arith
differ (column ∷ next ∷ rest) d zero none within same =
    let apart = chosen_none (bytes_eq (name_of next) (name_of column)) (name_of column) (first_twice (next ∷ rest)) none in
    let alike : bytes_eq (name_of next) (name_of column) ≡ true = same_bytes (name_of next) (name_of column) (sym same) in
    let both : true ≡ false = sym alike ∙ apart.0 in
    cc
differ (column ∷ next ∷ rest) d (suc i) none within same =
    let later = chosen_none (bytes_eq (name_of next) (name_of column)) (name_of column) (first_twice (next ∷ rest)) none in
    let shift : suc i + 1 ≡ suc (i + 1) = omega arith in
    differ (next ∷ rest) d i later.1 (omega arith) (subst (λ (n : ℕ). name_of (get_or (next ∷ rest) i d) ≡ name_of (get_or (column ∷ next ∷ rest) n d)) shift same)

ordered_names : (found columns others : List MappedColumn) → AreOrdered found columns → AreOrdered found others → map name_of columns ≡ map name_of others
ordered_names found columns others one other = one_list_of_keys nat_list_cmp_total exact_bytes name_of found columns others one.same other.same one.order other.order

ordered_once : (found columns others : List MappedColumn) → AreOrdered found columns → AreOrdered found others → first_twice columns ≡ None → columns ≡ others
ordered_once found columns others one other once =
    one_order name_of found columns others one.same other.same (ordered_names found columns others one other)
    (places_differ nat_list_cmp_total exact_bytes name_of columns one.order (λ i d within same. differ columns d i once within same))

less_by : (o p : Ordering) → p ≡ ordering_reverse o → is_lt o ≡ false → (o ≡ Equal → ⊥) → is_lt p ≡ true
less_by Less p reversed not apart = absurd cc
less_by Equal p reversed not apart = absurd (apart refl)
less_by Greater p reversed not apart = ap is_lt reversed

-- columns in order, no two of one name, have names that rise
pub ordered_rise : (columns : List MappedColumn) → IsSortedBy name_lt columns → first_twice columns ≡ None → NamesRise columns
ordered_rise columns order once i j d before within =
    let left = name_of (get_or columns i d) in
    let right = name_of (get_or columns j d) in
    let o = nat_list_cmp_total in
    let not : is_lt (slice_cmp nat_cmp right left) ≡ false = sorted_far name_lt (ranks_by o name_of) columns order i j d (omega arith) within in
    let apart = places_differ o exact_bytes name_of columns order (λ i d within same. differ columns d i once within same) i j d before within in
    less_by (slice_cmp nat_cmp right left) (slice_cmp nat_cmp left right) (o.antisymm left right) not (λ same. apart (sym (exact_bytes right left same)))

abbrev Found : Type 0
Found = Result (List MappedColumn) MappingCause

same_found : (bytes : List ℕ) (found also : List MappedColumn) → found_columns bytes ≡ Ok found → found_columns bytes ≡ Ok also → found ≡ also
same_found bytes found also is was =
    let same : ◌≡◌ {A = Found} (Ok found) (Ok also) = sym is ∙ was in
    cc

pub one_mapping : (bytes : List ℕ) (columns others : List MappedColumn) → IsMapping bytes columns → IsMapping bytes others → columns ≡ others
one_mapping bytes columns others (found, is, ordered, once) (also, was, other, too) =
    ordered_once found columns others ordered (subst (λ (f : List MappedColumn). AreOrdered f others) (sym (same_found bytes found also is was)) other) once

one_name : (found : List MappedColumn) (cause other : MappingCause) → IsTwice found cause → IsTwice found other → cause ≡ other
one_name found cause other (columns, name, ordered, twice, is) (others, word, again, also, was) =
    let same : Some name ≡ Some word = sym twice ∙ same_twice columns others (ordered_names found columns others ordered again) ∙ also in
    let names : name ≡ word = cc in
    is ∙ ap Twice names ∙ sym was

not_twice : (found columns : List MappedColumn) (cause : MappingCause) → AreOrdered found columns → first_twice columns ≡ None → IsTwice found cause → ⊥
not_twice found columns cause ordered once (others, name, again, twice, is) =
    let same : None ≡ Some name = sym once ∙ same_twice columns others (ordered_names found columns others ordered again) ∙ twice in
    cc

found_no_fault : (bytes : List ℕ) (found : List MappedColumn) (cause : MappingCause) → found_columns bytes ≡ Ok found → found_columns bytes ≡ Err cause → ⊥
found_no_fault bytes found cause is was =
    let same : ◌≡◌ {A = Found} (Ok found) (Err cause) = sym is ∙ was in
    cc

pub one_fault : (bytes : List ℕ) (cause other : MappingCause) → IsMappingFault bytes cause → IsMappingFault bytes other → cause ≡ other
one_fault bytes cause other (inl is) (inl was) =
    let same : ◌≡◌ {A = Found} (Err cause) (Err other) = sym is ∙ was in
    cc
one_fault bytes cause other (inl is) (inr (found, was, twice)) = absurd (found_no_fault bytes found cause was is)
one_fault bytes cause other (inr (found, is, twice)) (inl was) = absurd (found_no_fault bytes found other is was)
one_fault bytes cause other (inr (found, is, twice)) (inr (also, was, again)) =
    one_name found cause other twice (subst (λ (f : List MappedColumn). IsTwice f other) (sym (same_found bytes found also is was)) again)

pub no_fault : (bytes : List ℕ) (columns : List MappedColumn) (cause : MappingCause) → IsMapping bytes columns → IsMappingFault bytes cause → ⊥
no_fault bytes columns cause (found, is, ordered, once) (inl fault) = found_no_fault bytes found cause is fault
no_fault bytes columns cause (found, is, ordered, once) (inr (also, was, twice)) =
    not_twice found columns cause ordered once (subst (λ (f : List MappedColumn). IsTwice f cause) (sym (same_found bytes found also is was)) twice)
