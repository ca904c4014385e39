-- The places of the names that a query uses are parts of the text.
use Rattle.std.proofs.Common.{◌≡◌, ℕ, Bool, true, false, List, [], ◌∷◌, ◌++◌, All, refl}
use Rattle.std.specs.Prelude.{fold, if◌then◌else◌}
use Rattle.std.specs.List.{list_any}
use Rattle.std.proofs.lemmas.List.Elements.{All-nil, All-head, All-tail, All-push}
use Rattle.esql_ast.specs.declared.query.NameAt.{NameAt}
use Rattle.esql_ast.specs.declared.query.Query.{Query}
use Rattle.esql_ast.specs.declared.query.Command.{Command}
use Rattle.esql_ast.specs.declared.query.CommandKind.{CommandKind}
use Rattle.esql_ast.specs.declared.query.CommandKind.TheVariants.{Filter, Eval, Keep, Drop, Rename, Sort, Limit, Expand, Stats, Dissect, Grok, Enrich, Join}
use Rattle.esql_ast.specs.declared.query.SourceCommand.{SourceCommand}
use Rattle.esql_ast.specs.declared.query.SourceCommand.TheVariants.{Tables, OneRow}
use Rattle.esql_ast.specs.declared.uses.SourceUse.{SourceUse}
use Rattle.esql_ast.specs.Fits.{NameFits, KindFits, SourceFits, QueryFits}
use Rattle.esql_ast.specs.Uses.{is_use_of, with_use, uses_in_source, with_kind, with_command, source_names}

-- what holds at the start, and after each step where it held before, holds at the end
fold_keeps : {A B : Type 0} (P : B → Type 0) (Q : A → Type 0) (step : B → A → B) → ((b : B) (a : A) → Q a → P b → P (step b a)) → (start : B) (xs : List A) → All Q xs → P start → P (fold step start xs)
fold_keeps P Q step keeps start [] each holds = holds
fold_keeps P Q step keeps start (x ∷ xs) each holds =
    fold_keeps P Q step keeps (step start x) xs (All-tail Q x xs each) (keeps start x (All-head Q x xs each) holds)

either : {A : Type 0} (P : A → Type 0) (test : Bool) (x y : A) → P x → (test ≡ false → P y) → P (if test then x else y)
either P true x y holds other = holds
either P false x y holds other = other refl

abbrev UseFits : List ℕ → SourceUse → Type 0
UseFits text use_ = NameFits text use_.name

fits_with : (text : List ℕ) (policy : Bool) (uses : List SourceUse) (name : NameAt) → NameFits text name → All (UseFits text) uses → All (UseFits text) (with_use policy uses name)
fits_with text policy uses name fits all =
    either (All (UseFits text)) (list_any (is_use_of name.name policy) uses) uses (uses ++ record { name = name; policy = policy } ∷ []) all
    (λ none. All-push (UseFits text) uses (record { name = name; policy = policy }) all fits)

fits_kind : (text : List ℕ) (uses : List SourceUse) (kind : CommandKind) → KindFits text kind → All (UseFits text) uses → All (UseFits text) (with_kind uses kind)
fits_kind text uses (Filter condition) fits all = all
fits_kind text uses (Eval fields) fits all = all
fits_kind text uses (Keep patterns) fits all = all
fits_kind text uses (Drop patterns) fits all = all
fits_kind text uses (Rename pairs) fits all = all
fits_kind text uses (Sort keys) fits all = all
fits_kind text uses (Limit count) fits all = all
fits_kind text uses (Expand column) fits all = all
fits_kind text uses (Stats fields groups) fits all = all
fits_kind text uses (Dissect input pattern separator) fits all = all
fits_kind text uses (Grok input pattern) fits all = all
fits_kind text uses (Enrich policy on fields) fits all = fits_with text true uses policy fits.0 all
fits_kind text uses (Join table on) fits all = fits_with text false uses table fits.0 all

fits_source : (text : List ℕ) (source : SourceCommand) → SourceFits text source → All (UseFits text) (uses_in_source source)
fits_source text (Tables node span tables) fits =
    fold_keeps (All (UseFits text)) (NameFits text) (with_use false) (λ uses name one all. fits_with text false uses name one all) [] tables fits (All-nil (UseFits text))
fits_source text (OneRow node span fields) fits = All-nil (UseFits text)

-- where the query's spans are parts of the text, so are those of the names that it uses
pub uses_fit : (text : List ℕ) (query : Query) → QueryFits text query → All (λ (use_ : SourceUse). NameFits text use_.name) (source_names query)
uses_fit text query fits =
    fold_keeps (All (UseFits text)) (λ (command : Command). KindFits text command.kind) with_command (λ uses command one all. fits_kind text uses command.kind one all)
    (uses_in_source query.source) query.commands fits.commands (fits_source text query.source fits.source)
