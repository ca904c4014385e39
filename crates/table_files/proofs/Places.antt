-- The places at which tables were found.
use Rattle.std.proofs.Common.{ℕ, ◌+◌, Bool, true, false, Option, List, [], ◌∷◌, All, Result, Ok, sym, subst}
use Rattle.std.proofs.lemmas.List.Elements.{All-nil, All-head, All-tail, All-push, All-map}
use Rattle.esql_io.specs.Files.{Held}
use Rattle.esql_types.specs.Spans.{SpanFits}
use Rattle.esql_ast.specs.declared.query.NameAt.{NameAt}
use Rattle.esql_ast.specs.declared.query.Query.{Query}
use Rattle.esql_ast.specs.declared.uses.SourceUse.{SourceUse}
use Rattle.esql_ast.specs.Fits.{NameFits, QueryFits}
use Rattle.esql_ast.specs.Uses.{source_names}
use Rattle.table_files.specs.declared.tables.FoundTable.{FoundTable}
use Rattle.table_files.specs.declared.tables.Gathered.{Gathered}
use Rattle.table_files.specs.Answers.{MayBeGathered}
use Rattle.table_files.specs.Catalog.{AddsNamed, AddsPolicy, fits, AddsTable, known, one_more, AddsUse}
use Rattle.table_files.specs.Found.{Found, nothing, tables_of}
use Rattle.table_files.specs.Halts.{Halt}
use Rattle.table_files.specs.InTurn.{InTurn, no_items, goes_on}
use Rattle.table_files.specs.Policies.{each_once, entries_of_text, names_at}
use Rattle.table_files.specs.Shapes.{entries_in}
use Rattle.table_files.proofs.Adds.{over_named}
use Rattle.table_files.proofs.SourceNames.{uses_fit}

-- what holds at the start, and after each step where it held before, holds at the end
pub kept_in_turn : {S X : Type 0} (Step : S → X → Result S Halt → Type 0) (Keeps : S → Type 0) (Serves : X → Type 0)
    → ((state : S) (item : X) (next : S) → Serves item → Keeps state → Step state item (Ok next) → Keeps next)
    → (state : S) (items : List X) (final : S) → All Serves items → Keeps state → InTurn Step state items (Ok final) → Keeps final
kept_in_turn {S} {X} Step Keeps Serves step state [] final all keeps (no_items _) = keeps
kept_in_turn {S} {X} Step Keeps Serves step state (item ∷ items) final all keeps (goes_on _ _ _ next _ taken turns) =
    kept_in_turn Step Keeps Serves step next items final (All-tail Serves item items all) (step state item next (All-head Serves item items all) keeps taken) turns

-- the places of the tables are parts of the text
abbrev TablesFit : List ℕ → Found → Type 0
TablesFit text found = All (λ (one : FoundTable). SpanFits text one.span) found.tables

table_fits : (text : List ℕ) (folder : Option (List ℕ)) (held : Held) (policy : Bool) (beside : ℕ) (found : Found) (name : NameAt) (next : Found) → NameFits text name → TablesFit text found
    → AddsTable folder held policy beside found name (Ok next) → TablesFit text next
table_fits text folder held policy beside found name next fit all (known has) = all
table_fits text folder held policy beside found name next fit all (one_more new none stands) =
    All-push (λ (one : FoundTable). SpanFits text one.span) found.tables new all
    (subst (λ (at : NameAt). SpanFits text at.span) (sym (over_named folder held policy (entries_in found + beside) name new stands)) fit)

policy_fits : (text : List ℕ) (folder : Option (List ℕ)) (held : Held) (found : Found) (name : NameAt) (next : Found) → NameFits text name → TablesFit text found
    → AddsPolicy folder held found name (Ok next) → TablesFit text next
policy_fits text folder held found name next fit all (fits policy new shape has turns is) =
    kept_in_turn (AddsTable folder held true (entries_of_text policy)) (TablesFit text) (NameFits text)
    (λ state item after served keeps taken. table_fits text folder held true (entries_of_text policy) state item after served keeps taken)
    found (names_at name.span (each_once policy.indices)) new
    (All-map (NameFits text) (λ (one : List ℕ). record { name = one; span = name.span }) (each_once policy.indices) (λ k d within. fit)) all turns

named_fits : (text : List ℕ) (folder : Option (List ℕ)) (held : Held) (policy : Bool) (found : Found) (name : NameAt) (next : Found) → NameFits text name → TablesFit text found
    → AddsNamed folder held policy found name (Ok next) → TablesFit text next
named_fits text folder held true found name next fit all adds = policy_fits text folder held found name next fit all adds
named_fits text folder held false found name next fit all adds = table_fits text folder held false 0 found name next fit all adds

-- where the query's spans are parts of the text, so are the places of the tables that were gathered for it
pub tables_fit : (text : List ℕ) (folder : Option (List ℕ)) (query : Query) (gathered : Gathered) → QueryFits text query → MayBeGathered folder query gathered
    → All (λ (one : FoundTable). SpanFits text one.span) (tables_of gathered)
tables_fit text folder query gathered fit (held, is) =
    kept_in_turn (AddsUse folder held) (TablesFit text) (λ (use_ : SourceUse). NameFits text use_.name)
    (λ state item next served keeps taken. named_fits text folder held item.policy state item.name next served keeps taken)
    nothing (source_names query) _ (uses_fit text query fit) (All-nil (λ (one : FoundTable). SpanFits text one.span)) is.gathers
