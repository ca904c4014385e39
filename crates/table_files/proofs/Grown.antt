-- The tables that were found grow: what each step adds stands behind those before it.
use Rattle.std.proofs.Common.{◌≡◌, ℕ, Bool, true, false, ◌||◌, cond, List, [], ◌∷◌, ◌++◌, Option, Some, None, Ok, refl, sym, ap, ◌∙◌, ⊎_elim, append_assoc, append-nil}
use Rattle.std.specs.Str.{bytes_eq}
use Rattle.std.proofs.lemmas.Bool.{true≢false, cases_Bool, false_from_ne_true, or_from, or_left, or_parts}
use Rattle.std.proofs.lemmas.List.Folds.{list_any-append}
use Rattle.esql_io.specs.Files.{Held}
use Rattle.esql_ast.specs.declared.query.NameAt.{NameAt}
use Rattle.esql_ast.specs.declared.uses.SourceUse.{SourceUse}
use Rattle.policy_json.specs.declared.policy.PolicyText.{PolicyText}
use Rattle.table_files.specs.declared.tables.FoundTable.{FoundTable}
use Rattle.table_files.specs.Catalog.{AddsTable, known, one_more, AddsTables, AddsPolicy, fits, AddsNamed, AddsUse}
use Rattle.table_files.specs.Found.{Found, has_table}
use Rattle.table_files.specs.Policies.{entries_of_text, tables_named}
use Rattle.table_files.proofs.Alike.{equal_bytes, turned}
use Rattle.table_files.proofs.Steps.{in_turn_keeps}

-- ---- tables behind others

abbrev pub Grows : Found → Found → Type 0
Grows found next = (more : List FoundTable) × (next.tables ≡ found.tables ++ more)

grows_not : (found : Found) → Grows found found
grows_not found = ([], sym (append-nil found.tables))

grows_on : (found next last : Found) → Grows found next → Grows next last → Grows found last
grows_on found next last (more, is) (again, was) = (more ++ again, was ∙ ap (λ (tables : List FoundTable). tables ++ again) is ∙ append_assoc found.tables more again)

pub table_grows : (folder : Option (List ℕ)) (held : Held) (policy : Bool) (beside : ℕ) (found : Found) (name : NameAt) (next : Found) → AddsTable folder held policy beside found name (Ok next) → Grows found next
table_grows folder held policy beside found name next (known has) = grows_not found
table_grows folder held policy beside found name next (one_more new lacks is) = (new ∷ [], refl)

tables_grow : (folder : Option (List ℕ)) (held : Held) (found : Found) (name : NameAt) (policy : PolicyText) (next : Found) → AddsTables folder held found name policy (Ok next) → Grows found next
tables_grow folder held found name policy next adds =
    in_turn_keeps (AddsTable folder held true (entries_of_text policy)) (λ (state : Found). Grows found state)
    (λ state item after is grown. grows_on found state after grown (table_grows folder held true (entries_of_text policy) state item after is)) found (tables_named name policy) next adds (grows_not found)

policy_grows : (folder : Option (List ℕ)) (held : Held) (found : Found) (name : NameAt) (next : Found) → AddsPolicy folder held found name (Ok next) → Grows found next
policy_grows folder held found name next (fits policy new shape is adds shape_is) = tables_grow folder held found name policy new adds

named_grows : (folder : Option (List ℕ)) (held : Held) (policy : Bool) (found : Found) (name : NameAt) (next : Found) → AddsNamed folder held policy found name (Ok next) → Grows found next
named_grows folder held false found name next adds = table_grows folder held false 0 found name next adds
named_grows folder held true found name next adds = policy_grows folder held found name next adds

pub use_grows : (folder : Option (List ℕ)) (held : Held) (found : Found) (use_ : SourceUse) (next : Found) → AddsUse folder held found use_ (Ok next) → Grows found next
use_grows folder held found use_ next adds = named_grows folder held use_.policy found use_.name next adds

-- ---- the tables that are among them

pub has_more : (name : List ℕ) (tables more : List FoundTable) → has_table (tables ++ more) name ≡ (has_table tables name || has_table more name)
has_more name tables more = list_any-append (λ (table : FoundTable). bytes_eq table.name name) tables more

pub has_grown : (name : List ℕ) (found next : Found) → Grows found next → has_table found.tables name ≡ true → has_table next.tables name ≡ true
has_grown name found next (more, is) has =
    ap (λ (tables : List FoundTable). has_table tables name) is ∙ has_more name found.tables more ∙ or_left (has_table found.tables name) (has_table more name) has

pub lacks_before : (name : List ℕ) (found next : Found) → Grows found next → has_table next.tables name ≡ false → has_table found.tables name ≡ false
lacks_before name found next (more, is) lacks =
    (or_parts (has_table found.tables name) (has_table more name) (sym (has_more name found.tables more) ∙ sym (ap (λ (tables : List FoundTable). has_table tables name) is) ∙ lacks)).0

-- ---- the first table of a name

abbrev pub table_named : List FoundTable → List ℕ → Option FoundTable
table_named [] name = None
table_named (table ∷ tables) name = cond (bytes_eq table.name name) (Some table) (table_named tables name)

-- the first is it, or is passed
pub named_first : (name : List ℕ) (table : FoundTable) (tables : List FoundTable) → bytes_eq table.name name ≡ true → table_named (table ∷ tables) name ≡ Some table
named_first name table tables is = ap (λ (b : Bool). cond b (Some table) (table_named tables name)) is

pub named_behind : (name : List ℕ) (table : FoundTable) (tables : List FoundTable) → bytes_eq table.name name ≡ false → table_named (table ∷ tables) name ≡ table_named tables name
named_behind name table tables is = ap (λ (b : Bool). cond b (Some table) (table_named tables name)) is

pub named_has : (name : List ℕ) (tables : List FoundTable) (table : FoundTable) → table_named tables name ≡ Some table → has_table tables name ≡ true
named_has name [] table is = absurd cc
named_has name (first_table ∷ tables) table is =
    ⊎_elim
    (λ (same : bytes_eq first_table.name name ≡ true). or_left (bytes_eq first_table.name name) (has_table tables name) same)
    (λ (other : bytes_eq first_table.name name ≡ false).
    ap (λ (b : Bool). b || has_table tables name) other ∙ named_has name tables table (sym (named_behind name first_table tables other) ∙ is))
    (cases_Bool (bytes_eq first_table.name name))

named_more : (name : List ℕ) (tables more : List FoundTable) (table : FoundTable) → table_named tables name ≡ Some table → table_named (tables ++ more) name ≡ Some table
named_more name [] more table is = absurd cc
named_more name (first_table ∷ tables) more table is =
    ⊎_elim
    (λ (same : bytes_eq first_table.name name ≡ true). named_first name first_table (tables ++ more) same ∙ sym (named_first name first_table tables same) ∙ is)
    (λ (other : bytes_eq first_table.name name ≡ false).
    named_behind name first_table (tables ++ more) other ∙ named_more name tables more table (sym (named_behind name first_table tables other) ∙ is))
    (cases_Bool (bytes_eq first_table.name name))

pub named_grown : (name : List ℕ) (found next : Found) (table : FoundTable) → Grows found next → table_named found.tables name ≡ Some table → table_named next.tables name ≡ Some table
named_grown name found next table (more, grown) is = ap (λ (tables : List FoundTable). table_named tables name) grown ∙ named_more name found.tables more table is

pub named_last : (name : List ℕ) (tables : List FoundTable) (table : FoundTable) → has_table tables name ≡ false → bytes_eq table.name name ≡ true → table_named (tables ++ table ∷ []) name ≡ Some table
named_last name [] table lacks is = named_first name table [] is
named_last name (first_table ∷ tables) table lacks is =
    let (other, rest) = or_parts (bytes_eq first_table.name name) (has_table tables name) lacks in
    named_behind name first_table (tables ++ table ∷ []) other ∙ named_last name tables table rest is

-- ---- tables of different names

abbrev pub DifferInName : List FoundTable → Type 0
DifferInName [] = Unit {0}
DifferInName (table ∷ tables) = (has_table tables table.name ≡ false) × DifferInName tables

-- a table that is not among the others, behind them
pub differ_more : (tables : List FoundTable) (new : FoundTable) → DifferInName tables → has_table tables new.name ≡ false → DifferInName (tables ++ new ∷ [])
differ_more [] new differ lacks = (refl, tt)
differ_more (table ∷ tables) new differ lacks =
    let (other, rest) = or_parts (bytes_eq table.name new.name) (has_table tables new.name) lacks in (
      has_more table.name tables (new ∷ []) ∙ or_from (has_table tables table.name) (bytes_eq new.name table.name || false) differ.0 (or_from (bytes_eq new.name table.name) false (turned new.name table.name ∙ other) refl),
      differ_more tables new differ.1 rest,
    )

-- a name that is among them is that of no table that is not
pub no_other : (tables : List FoundTable) (one other : List ℕ) → has_table tables one ≡ true → has_table tables other ≡ false → bytes_eq one other ≡ false
no_other tables one other has lacks =
    false_from_ne_true (bytes_eq one other) (λ same. true≢false (sym has ∙ ap (has_table tables) (equal_bytes one other same) ∙ lacks))
