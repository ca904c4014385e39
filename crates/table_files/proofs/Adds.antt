-- One table after another is added to what was found.
use Rattle.std.proofs.Common.{◌≡◌, ℕ, ◌+◌, ◌≤◌, ◌<◌, Bool, true, false, ◌||◌, List, [], ◌∷◌, ◌++◌, length, map, All, Option, Some, None, Ok, Err, refl, sym, ap, subst, ◌∙◌, arith, length-append}
use Rattle.std.specs.Prelude.{is_some, if◌then◌else◌}
use Rattle.std.specs.Option.{IfSome}
use Rattle.std.specs.List.{AllByRecursion, IsDistinct, slice_get}
use Rattle.std.specs.Str.{bytes_eq}
use Rattle.std.proofs.lemmas.Bool.{or_parts}
use Rattle.std.proofs.lemmas.List.{get_or_append_left, map-append}
use Rattle.std.proofs.lemmas.List.Elements.{All-push, All-weaker}
use Rattle.std.proofs.lemmas.List.Folds.{list_any-append}
use Rattle.std.proofs.lemmas.Option.{slice_get-get_or}
use Rattle.esql_io.specs.Files.{Held}
use Rattle.esql_ast.specs.declared.query.NameAt.{NameAt}
use Rattle.esql_plan.specs.declared.catalog.PolicyShape.{PolicyShape}
use Rattle.esql_plan.specs.declared.catalog.TableShape.{TableShape}
use Rattle.ndjson_load.specs.Over.{BytesOf}
use Rattle.ndjson_load.specs.Shapes.{IsLoadable, NamesRise}
use Rattle.plan_semantics.specs.WellFormed.{GivesKind, IsPolicyTable}
use Rattle.table_files.specs.declared.tables.FoundTable.{FoundTable}
use Rattle.table_files.specs.declared.stop.Stop.{Stop}
use Rattle.table_files.specs.Asked.{AskedForFiles, AskedForTable}
use Rattle.table_files.specs.Catalog.{AddsTable, known, no_table, one_more, NamesTable, table, StandsFor}
use Rattle.table_files.specs.Catalogs.{catalog_of, shape_of}
use Rattle.table_files.specs.Found.{Found, has_table, name_of, with_table}
use Rattle.table_files.specs.Numbers.{number_if}
use Rattle.table_files.specs.Policies.{number_of}
use Rattle.table_files.specs.Reading.{FitsTables, IsFinding}
use Rattle.table_files.specs.Shapes.{AreApart, entries_in, entries_of}
use Rattle.table_files.specs.Stops.{Says}
use Rattle.table_files.proofs.Numbered.{entries_more, own_name}
use Rattle.table_files.proofs.Stopped.{says_of}

-- ---- whether a table was found

some_if : {A : Type 0} (test : Bool) (x : A) → is_some (if test then Some x else None) ≡ test
some_if true x = refl
some_if false x = refl

pub number_tells : (tables : List FoundTable) (name : List ℕ) (number : Option ℕ) (test : Bool) → number ≡ number_if tables name → is_some number ≡ test → has_table tables name ≡ test
number_tells tables name number test is tells = sym (some_if (has_table tables name) (number_of tables name)) ∙ sym (ap (λ (o : Option ℕ). is_some o) is) ∙ tells

-- ---- what is known of what was found

pub entries_with : (found : Found) (new : FoundTable) → entries_in (with_table found new) ≡ entries_in found + 1 + length new.columns
entries_with found new = let more = entries_more found.tables new in omega arith

abbrev names_in : List FoundTable → List (List ℕ)
names_in tables = map (λ (one : FoundTable). one.name) tables

first_apart : (name : List ℕ) (tables : List FoundTable) (new : FoundTable) → AllByRecursion (λ other. bytes_eq name other ≡ false) (names_in tables) → bytes_eq name new.name ≡ false
    → AllByRecursion (λ other. bytes_eq name other ≡ false) (names_in (tables ++ new ∷ []))
first_apart name [] new are is = (is, tt)
first_apart name (next ∷ tables) new are is = (are.0, first_apart name tables new are.1 is)

apart_push : (tables : List FoundTable) (new : FoundTable) → AreApart (names_in tables) → has_table tables new.name ≡ false → AreApart (names_in (tables ++ new ∷ []))
unfolding IsDistinct
apart_push [] new are none = (tt, tt)
apart_push (one ∷ tables) new are none =
    let parts = or_parts (bytes_eq one.name new.name) (has_table tables new.name) none in
    (first_apart one.name tables new are.0 parts.0, apart_push tables new are.1 parts.1)

get_left : {X : Type 0} (xs ys : List X) (n : ℕ) → n < length xs → slice_get (xs ++ ys) n ≡ slice_get xs n
get_left [] ys n within = absurd (omega (arith, within))
get_left {X} (x ∷ xs) ys n within =
    let long = length-append (x ∷ xs) ys in
    slice_get-get_or ((x ∷ xs) ++ ys) n x (omega arith) ∙ ap (λ (y : X). Some y) (get_or_append_left (x ∷ xs) ys x n within) ∙ sym (slice_get-get_or (x ∷ xs) n x within)

abbrev shapes_in : List FoundTable → List TableShape
shapes_in tables = map shape_of tables

policy_table_more : (tables more : List FoundTable) (policy : PolicyShape) (number : ℕ) → IsPolicyTable (catalog_of tables []) policy number → IsPolicyTable (catalog_of (tables ++ more) []) policy number
policy_table_more tables more policy number is =
    let cut : shapes_in (tables ++ more) ≡ shapes_in tables ++ shapes_in more = map-append shape_of tables more in
    let there : number < length (shapes_in tables) = is.there in
    let long = length-append (shapes_in tables) (shapes_in more) in
    record {
      there = subst (λ (shapes : List TableShape). number < length shapes) (sym cut) (omega (arith, there, long));
      kinds = subst (λ (shapes : List TableShape). IfSome (slice_get shapes number) (λ shape. All (GivesKind shape) (policy.match_field ∷ policy.fields))) (sym cut)
          (subst (λ (o : Option TableShape). IfSome o (λ shape. All (GivesKind shape) (policy.match_field ∷ policy.fields))) (sym (get_left (shapes_in tables) (shapes_in more) number there)) is.kinds);
    }

-- a policy stands over its tables also where more are found
pub policy_fits_more : (tables more : List FoundTable) (policy : PolicyShape) → FitsTables tables policy → FitsTables (tables ++ more) policy
policy_fits_more tables more policy fits =
    All-weaker (IsPolicyTable (catalog_of tables []) policy) (IsPolicyTable (catalog_of (tables ++ more) []) policy) (policy_table_more tables more policy) policy.tables fits

pub finding_with : (found : Found) (new : FoundTable) → IsFinding found → has_table found.tables new.name ≡ false → All IsLoadable new.columns → NamesRise new.columns
    → entries_in found + 1 + length new.columns ≤ 100000 → IsFinding (with_table found new)
finding_with found new was none loadable rise few = record {
  few = subst (λ (n : ℕ). n ≤ 100000) (sym (entries_with found new)) few;
  apart = apart_push found.tables new was.apart none;
  loadable = All-push (λ (one : FoundTable). All IsLoadable one.columns) found.tables new was.loadable loadable;
  rise = All-push (λ (one : FoundTable). NamesRise one.columns) found.tables new was.rise rise;
  policies = All-weaker (FitsTables found.tables) (FitsTables (found.tables ++ new ∷ [])) (policy_fits_more found.tables (new ∷ [])) found.policies was.policies;
}

-- ---- what is told of a table

pub adds_halt : (text : List ℕ) (folder : Option (List ℕ)) (held : Held) (policy : Bool) (beside entries : ℕ) (found : Found) (name : NameAt) (stop : Stop) → has_table found.tables name.name ≡ false → entries ≡ entries_in found + beside
    → Says text (StandsFor folder held policy entries name) (Err stop) → Says text (AddsTable folder held policy beside found name) (Err stop)
adds_halt text folder held policy beside entries found name stop none sum says =
    says_of text (StandsFor folder held policy entries name) (AddsTable folder held policy beside found name) stop
    (λ halt at. no_table halt none (subst (λ (n : ℕ). StandsFor folder held policy n name (Err halt)) sum at)) says

pub adds_one : (folder : Option (List ℕ)) (held : Held) (policy : Bool) (beside entries : ℕ) (found next : Found) (name : NameAt) (new : FoundTable) → has_table found.tables name.name ≡ false → entries ≡ entries_in found + beside
    → next ≡ with_table found new → StandsFor folder held policy entries name (Ok new) → AddsTable folder held policy beside found name (Ok next)
adds_one folder held policy beside entries found next name new none sum is stands =
    subst (λ (f : Found). AddsTable folder held policy beside found name (Ok f)) (sym is) (one_more new none (subst (λ (n : ℕ). StandsFor folder held policy n name (Ok new)) sum stands))

pub asked_new : (folder : Option (List ℕ)) (held : Held) (found : Found) (name : NameAt) → has_table found.tables name.name ≡ false → (file : List ℕ) → AskedForFiles folder held name.name file → AskedForTable folder held found name file
asked_new folder held found name none file asks = record { new = none; asked = asks }

-- ---- what was found stays

named_as : (folder : Option (List ℕ)) (h : BytesOf) (policy : Bool) (entries : ℕ) (name : NameAt) (new : FoundTable) → NamesTable folder h policy entries name (Ok new) → name_of new ≡ name
named_as folder h policy entries name new (table bytes rows columns holds is mapping few) = refl

pub over_named : (folder : Option (List ℕ)) (held : Held) (policy : Bool) (entries : ℕ) (name : NameAt) (new : FoundTable) → StandsFor folder held policy entries name (Ok new) → name_of new ≡ name
over_named folder None policy entries name new (h, is) = named_as folder h policy entries name new is
over_named folder (Some h) policy entries name new is = named_as folder h policy entries name new is

or_left : (a b : Bool) → a ≡ true → (a || b) ≡ true
or_left a b is = ap (λ (t : Bool). t || b) is

has_in_front : (tables more : List FoundTable) (name : List ℕ) → has_table tables name ≡ true → has_table (tables ++ more) name ≡ true
has_in_front tables more name has =
    list_any-append (λ (one : FoundTable). bytes_eq one.name name) tables more ∙ or_left (has_table tables name) (has_table more name) has

-- what was found before is found still
pub adds_keeps : (folder : Option (List ℕ)) (held : Held) (policy : Bool) (beside : ℕ) (found next : Found) (name : NameAt) → AddsTable folder held policy beside found name (Ok next)
    → (other : List ℕ) → has_table found.tables other ≡ true → has_table next.tables other ≡ true
adds_keeps folder held policy beside found next name (known has) other had = had
adds_keeps folder held policy beside found next name (one_more new none stands) other had = has_in_front found.tables (new ∷ []) other had

pub adds_policies : (folder : Option (List ℕ)) (held : Held) (policy : Bool) (beside : ℕ) (found next : Found) (name : NameAt) → AddsTable folder held policy beside found name (Ok next) → next.policies ≡ found.policies
adds_policies folder held policy beside found next name (known has) = refl
adds_policies folder held policy beside found next name (one_more new none stands) = refl

or_right : (a b : Bool) → b ≡ true → (a || b) ≡ true
or_right true b is = refl
or_right false b is = is

pub adds_has : (folder : Option (List ℕ)) (held : Held) (policy : Bool) (beside : ℕ) (found next : Found) (name : NameAt) → AddsTable folder held policy beside found name (Ok next) → has_table next.tables name.name ≡ true
adds_has folder held policy beside found next name (known has) = has
adds_has folder held policy beside found next name (one_more new none stands) =
    list_any-append (λ (one : FoundTable). bytes_eq one.name name.name) found.tables (new ∷ [])
    ∙ or_right (has_table found.tables name.name) (has_table (new ∷ []) name.name)
    (or_left (bytes_eq new.name name.name) false
    (ap (λ (at : NameAt). bytes_eq at.name name.name) (over_named folder held policy (entries_in found + beside) name new stands) ∙ own_name name.name))

-- the tables of names that were found are found still, and so is the new one
pub all_found : (folder : Option (List ℕ)) (held : Held) (policy : Bool) (beside : ℕ) (found next : Found) (at : NameAt) (names : List (List ℕ)) (name : List ℕ) → at.name ≡ name → AddsTable folder held policy beside found at (Ok next)
    → All (λ (one : List ℕ). has_table found.tables one ≡ true) names → All (λ (one : List ℕ). has_table next.tables one ≡ true) (names ++ name ∷ [])
all_found folder held policy beside found next at names name is adds all =
    All-push (λ (one : List ℕ). has_table next.tables one ≡ true) names name
    (All-weaker (λ (one : List ℕ). has_table found.tables one ≡ true) (λ (one : List ℕ). has_table next.tables one ≡ true) (adds_keeps folder held policy beside found next at adds) names all)
    (sym (ap (has_table next.tables) is) ∙ adds_has folder held policy beside found next at adds)
