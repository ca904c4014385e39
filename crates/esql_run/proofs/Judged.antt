-- What is answered where a rule is broken, or a pattern is too large.
use Rattle.std.proofs.Common.{◌≡◌, ℕ, Bool, List, Option, Some, None, Result, Ok, Err, IfOk, sym, subst}
use Rattle.esql_io.specs.Files.{Held}
use Rattle.esql_io.specs.Calls.{NoneFailed}
use Rattle.esql_types.specs.Spans.{SpanFits}
use Rattle.esql_types.specs.declared.places.Span.{Span}
use Rattle.esql_ast.specs.declared.query.Query.{Query}
use Rattle.esql_ast.specs.Fits.{QueryFits}
use Rattle.esql_ast.specs.Uses.{source_names}
use Rattle.esql_plan.specs.declared.catalog.Catalog.{Catalog}
use Rattle.ndjson_load.specs.Over.{Over}
use Rattle.row_semantics.specs.declared.rule.NameRule.{NameRule}
use Rattle.row_semantics.specs.declared.rule.NameRule.TheVariants.{BadRegex}
use Rattle.row_semantics.specs.Regulars.{Regular, is_accepted}
use Rattle.row_semantics.specs.Scopes.{Broken as BrokenRule}
use Rattle.query_semantics.specs.Places.{BrokenFits}
use Rattle.query_semantics.specs.Shapes.{Shape, shape_of, shape_in}
use Rattle.query_semantics.proofs.ShapePlaces.{shape_fits}
use Rattle.expression_analysis.specs.declared.error.AnalyzeError.{AnalyzeError}
use Rattle.expression_analysis.specs.declared.error.AnalyzeError.TheVariants.{Broken, PatternRoom as StoppedByRoom, Memory as LackedMemory}
use Rattle.expression_analysis.specs.Answers.{accepted_but, IsRefusal, IsTold, IsQuietAt}
use Rattle.esql_analyze.specs.Regulars.{regulars_of_query}
use Rattle.table_files.specs.Catalog.{Gathers}
use Rattle.table_files.specs.Found.{Found, nothing}
use Rattle.esql_words.specs.declared.options.Format.{Format}
use Rattle.esql_run.specs.declared.rendered.Rendered.{Rendered}
use Rattle.esql_run.specs.declared.rendered.Unanswered.{Unanswered}
use Rattle.esql_run.specs.declared.rendered.Unanswered.TheVariants.{ReadFault, PatternRoom, Memory}
use Rattle.esql_run.specs.Built.{unbuilt_of}
use Rattle.esql_run.specs.Made.{outcome_made}
use Rattle.esql_run.specs.Rooms.{IsRoomOf}
use Rattle.esql_run.specs.Stopped.{CalledToAnswer, MadeToAnswer, IsUnprepared, ErrorFits}
use Rattle.esql_run.specs.Tables.{catalog_found, IsTablesOutcome, broken}

-- the query is judged by its tables, and by which regular expressions are accepted
abbrev judged : List ℕ → Catalog → Query → (Regular → Bool) → Shape
judged text catalog query accepts = shape_in (record { text = text; catalog = catalog; accepts = accepts }) query

placed : (text : List ℕ) (catalog : Catalog) (query : Query) (accepts : Regular → Bool) (rule : NameRule) (span : Span) → QueryFits text query
    → judged text catalog query accepts ≡ Err (record { rule = rule; span = span }) → SpanFits text span
placed text catalog query accepts rule span fits is =
    subst (λ (shape : Shape). BrokenFits text shape) is (shape_fits (record { text = text; catalog = catalog; accepts = accepts }) query fits)

-- the place that an error names is a part of the text
pub error_fits : (text : List ℕ) (catalog : Catalog) (query : Query) (error : AnalyzeError) → QueryFits text query → IsRefusal (judged text catalog query) error → ErrorFits text error
error_fits text catalog query (Broken rule span) fits is = placed text catalog query is_accepted rule span fits is
error_fits text catalog query (StoppedByRoom span) fits is = placed text catalog query (accepted_but span) BadRegex span fits is
error_fits text catalog query (LackedMemory error) fits is = tt

-- a broken rule is what the query is refused for
pub broken_told : (text : List ℕ) (folder : Option (List ℕ)) (format : Format) (held : Held) (query : Query) (found : Found) (catalog : Catalog) (error : AnalyzeError) (result : Result Rendered Unanswered) → catalog ≡ catalog_found found
    → Gathers folder held nothing (source_names query) (Ok found) → IsRefusal (judged text catalog query) error → IsUnprepared text error result
    → IfOk result (λ answer. IsTablesOutcome folder format held text query (outcome_made answer))
broken_told text folder format held query found catalog (Broken rule span) (Ok answer) are gathers why is =
    let first : BrokenRule = record { rule = rule; span = span } in
    let shape : shape_of text (catalog_found found) query ≡ Err first = subst (λ (c : Catalog). judged text c query is_accepted ≡ Err first) are why in
    subst (IsTablesOutcome folder format held text query) (sym is) (broken found first gathers shape)
broken_told text folder format held query found catalog (StoppedByRoom span) (Ok answer) are gathers why is = absurd is
broken_told text folder format held query found catalog (LackedMemory error) (Ok answer) are gathers why is = absurd is
broken_told text folder format held query found catalog error (Err unanswered) are gathers why is = tt

-- no file is opened meanwhile
pub called_judged : {Files : Type 0} {holds : Files → Held} {faults : Files → ℕ} {failed : Files → List ℕ} (P : List ℕ → Type 0) (text : List ℕ) (error : AnalyzeError) (result : Result Rendered Unanswered) (old new : Files)
    → NoneFailed holds faults failed old new → IsUnprepared text error result → CalledToAnswer holds faults failed P result old new
called_judged P text error (Ok answer) old new none is = none
called_judged P text (Broken rule span) (Err (ReadFault file)) old new none is = absurd is
called_judged P text (StoppedByRoom span) (Err (ReadFault file)) old new none is = absurd is
called_judged P text (LackedMemory error) (Err (ReadFault file)) old new none is = absurd is
called_judged P text error (Err (PatternRoom line)) old new none is = none
called_judged P text error (Err (Memory lack)) old new none is = tt

-- the line for a pattern that is too large says what the maker told
pub made_judged : {Maker : Type 0} (count : Maker → ℕ) (last : Maker → List ℕ) (folder : Option (List ℕ)) (text : List ℕ) (held : Held) (query : Query) (found : Found) (catalog : Catalog) (error : AnalyzeError) (result : Result Rendered Unanswered) (old new : Maker)
    → catalog ≡ catalog_found found → unbuilt_of query ≡ None → Over held (λ bytes_of. Gathers folder (Some bytes_of) nothing (source_names query) (Ok found)) → IsRefusal (judged text catalog query) error
    → IsTold count last (regulars_of_query query) old new error → IsQuietAt count last old new error → IsUnprepared text error result
    → MadeToAnswer count (IsRoomOf count last folder text held query) result old new
made_judged count last folder text held query found catalog (Broken rule span) (Ok answer) old new are built somewhere why told quiet is = quiet.counted
made_judged count last folder text held query found catalog (StoppedByRoom span) (Ok answer) old new are built somewhere why told quiet is = absurd is
made_judged count last folder text held query found catalog (LackedMemory error) (Ok answer) old new are built somewhere why told quiet is = absurd is
made_judged count last folder text held query found catalog (Broken rule span) (Err (ReadFault file)) old new are built somewhere why told quiet is = absurd is
made_judged count last folder text held query found catalog (StoppedByRoom span) (Err (ReadFault file)) old new are built somewhere why told quiet is = absurd is
made_judged count last folder text held query found catalog (LackedMemory error) (Err (ReadFault file)) old new are built somewhere why told quiet is = absurd is
made_judged count last folder text held query found catalog (Broken rule span) (Err (PatternRoom line)) old new are built somewhere why told quiet is = absurd is
made_judged count last folder text held query found catalog (StoppedByRoom span) (Err (PatternRoom line)) old new are built somewhere why told quiet is = record {
  span = span;
  found = found;
  built = built;
  gathers = somewhere;
  refuses = subst (λ (c : Catalog). judged text c query (accepted_but span) ≡ Err (record { rule = BadRegex; span = span })) are why;
  told = told;
  is = is;
}
made_judged count last folder text held query found catalog (LackedMemory error) (Err (PatternRoom line)) old new are built somewhere why told quiet is = absurd is
made_judged count last folder text held query found catalog error (Err (Memory lack)) old new are built somewhere why told quiet is = tt
