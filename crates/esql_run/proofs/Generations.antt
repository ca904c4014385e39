-- What is answered over the table that is made.
use Rattle.std.proofs.Common.{◌≡◌, ℕ, List, [], ◌∷◌, Bool, All, Option, Some, None, Result, Ok, Err, IfOk, IfErr, refl, sym, subst, ap, ◌∙◌, arith}
use Rattle.std.specs.List.{IsDistinct}
use Rattle.std.proofs.lemmas.List.Elements.{All-nil, All-cons}
use Rattle.esql_io.specs.Files.{Held}
use Rattle.esql_io.specs.Calls.{NoneFailed}
use Rattle.esql_types.specs.declared.places.Span.{Span}
use Rattle.esql_types.specs.declared.names.Column.{Column}
use Rattle.esql_ast.specs.declared.query.Query.{Query}
use Rattle.esql_plan.specs.declared.catalog.Catalog.{Catalog}
use Rattle.esql_plan.specs.declared.catalog.PolicyShape.{PolicyShape}
use Rattle.esql_plan.specs.declared.catalog.TableShape.{TableShape}
use Rattle.plan_semantics.specs.WellFormed.{IsPolicyTable}
use Rattle.row_semantics.specs.declared.rule.NameRule.TheVariants.{BadRegex}
use Rattle.row_semantics.specs.Columns.{HaveDistinctNames}
use Rattle.row_semantics.specs.Regulars.{Regular, is_accepted}
use Rattle.row_semantics.specs.Scopes.{Broken as BrokenRule}
use Rattle.query_semantics.specs.Catalogs.{IsCatalog}
use Rattle.query_semantics.specs.Shapes.{Shape, shape_of, shape_in}
use Rattle.expression_analysis.specs.declared.error.AnalyzeError.{AnalyzeError}
use Rattle.expression_analysis.specs.declared.error.AnalyzeError.TheVariants.{Broken, PatternRoom as StoppedByRoom, Memory as LackedMemory}
use Rattle.expression_analysis.specs.Answers.{accepted_but, IsRefusal, IsTold, IsQuietAt}
use Rattle.esql_analyze.specs.Regulars.{regulars_of_query}
use Rattle.esql_answer.specs.Queries.{IsQuery}
use Rattle.table_generator.specs.Tables.{generated_shape}
use Rattle.table_generator.specs.Words.{generated_query}
use Rattle.esql_run.specs.declared.generated.Generation.{Generation}
use Rattle.esql_run.specs.declared.rendered.Rendered.{Rendered}
use Rattle.esql_run.specs.declared.rendered.Unanswered.{Unanswered}
use Rattle.esql_run.specs.declared.rendered.Unanswered.TheVariants.{ReadFault, PatternRoom, Memory}
use Rattle.esql_run.specs.Built.{unbuilt_of}
use Rattle.esql_run.specs.Generated.{generated_catalog, answered_for, IsRoomOver, IsRoomOfGenerated, IsNoFault}
use Rattle.esql_run.specs.Made.{outcome_made}
use Rattle.esql_run.specs.Stopped.{CalledToAnswer, MadeToAnswer, IsUnprepared}
use Rattle.esql_run.specs.Tables.{refusal_of}

-- the catalog of the one table
names_differ : HaveDistinctNames generated_shape.columns
unfolding IsDistinct
names_differ = ((refl, (refl, tt)), ((refl, tt), (tt, tt)))

pub catalog_is_one : (catalog : Catalog) → catalog ≡ generated_catalog → IsCatalog catalog
unfolding IsDistinct
catalog_is_one catalog is = subst IsCatalog (sym is) (record {
  tables = (tt, tt);
  columns = All-cons (λ (table : TableShape). HaveDistinctNames table.columns) generated_shape [] names_differ (All-nil (λ (table : TableShape). HaveDistinctNames table.columns));
  policies = All-nil (λ (policy : PolicyShape). All (IsPolicyTable generated_catalog policy) policy.tables);
  few = omega arith;
})

-- the query is judged by the table, and by which regular expressions are accepted
abbrev judged : List ℕ → Catalog → Query → (Regular → Bool) → Shape
judged text catalog query accepts = shape_in (record { text = text; catalog = catalog; accepts = accepts }) query

-- a broken rule is what the query is refused for
pub broken_generated : (generation : Generation) (text : List ℕ) (catalog : Catalog) (query : Query) (error : AnalyzeError) (result : Result Rendered Unanswered) → catalog ≡ generated_catalog
    → IsRefusal (judged text catalog query) error → IsUnprepared text error result
    → IfOk result (λ answer. outcome_made answer ≡ answered_for (shape_of text generated_catalog query) generation text query)
broken_generated generation text catalog query (Broken rule span) (Ok answer) are why is =
    let first : BrokenRule = record { rule = rule; span = span } in
    let shape : shape_of text generated_catalog query ≡ Err first = subst (λ (c : Catalog). judged text c query is_accepted ≡ Err first) are why in
    is ∙ ap (λ (these : Shape). answered_for these generation text query) (sym shape)
broken_generated generation text catalog query (StoppedByRoom span) (Ok answer) are why is = absurd is
broken_generated generation text catalog query (LackedMemory error) (Ok answer) are why is = absurd is
broken_generated generation text catalog query error (Err unanswered) are why is = tt

-- the line for a pattern that is too large says what the maker told
pub made_generated : {Maker : Type 0} (count : Maker → ℕ) (last : Maker → List ℕ) (text : List ℕ) (catalog : Catalog) (query : Query) (error : AnalyzeError) (result : Result Rendered Unanswered) (old new : Maker)
    → catalog ≡ generated_catalog → unbuilt_of query ≡ None → IsRefusal (judged text catalog query) error
    → IsTold count last (regulars_of_query query) old new error → IsQuietAt count last old new error → IsUnprepared text error result
    → MadeToAnswer count (IsRoomOver count last text query) result old new
made_generated count last text catalog query (Broken rule span) (Ok answer) old new are built why told quiet is = quiet.counted
made_generated count last text catalog query (StoppedByRoom span) (Ok answer) old new are built why told quiet is = absurd is
made_generated count last text catalog query (LackedMemory error) (Ok answer) old new are built why told quiet is = absurd is
made_generated count last text catalog query (Broken rule span) (Err (ReadFault file)) old new are built why told quiet is = absurd is
made_generated count last text catalog query (StoppedByRoom span) (Err (ReadFault file)) old new are built why told quiet is = absurd is
made_generated count last text catalog query (LackedMemory error) (Err (ReadFault file)) old new are built why told quiet is = absurd is
made_generated count last text catalog query (Broken rule span) (Err (PatternRoom line)) old new are built why told quiet is = absurd is
made_generated count last text catalog query (StoppedByRoom span) (Err (PatternRoom line)) old new are built why told quiet is = record {
  span = span;
  built = built;
  refuses = subst (λ (c : Catalog). judged text c query (accepted_but span) ≡ Err (record { rule = BadRegex; span = span })) are why;
  told = told;
  is = is;
}
made_generated count last text catalog query (LackedMemory error) (Err (PatternRoom line)) old new are built why told quiet is = absurd is
made_generated count last text catalog query error (Err (Memory lack)) old new are built why told quiet is = tt

-- no file is asked where a rule is broken
pub no_fault_judged : (text : List ℕ) (error : AnalyzeError) (result : Result Rendered Unanswered) → IsUnprepared text error result → IfErr result IsNoFault
no_fault_judged text error (Ok answer) is = tt
no_fault_judged text (Broken rule span) (Err (ReadFault file)) is = is
no_fault_judged text (StoppedByRoom span) (Err (ReadFault file)) is = is
no_fault_judged text (LackedMemory error) (Err (ReadFault file)) is = is
no_fault_judged text error (Err (PatternRoom line)) is = tt
no_fault_judged text error (Err (Memory lack)) is = tt

-- the line says it of the query of the text
pub made_of_query : {Maker : Type 0} (count : Maker → ℕ) (last : Maker → List ℕ) (query : Query) (result : Result Rendered Unanswered) (old new : Maker) → IsQuery generated_query query
    → MadeToAnswer count (IsRoomOver count last generated_query query) result old new → MadeToAnswer count (IsRoomOfGenerated count last) result old new
made_of_query count last query (Ok answer) old new is made = made
made_of_query count last query (Err (ReadFault file)) old new is made = made
made_of_query count last query (Err (PatternRoom line)) old new is made = (query, is, made)
made_of_query count last query (Err (Memory lack)) old new is made = tt

-- no call on a file was made
pub called_nowhere : {Files : Type 0} {holds : Files → Held} {faults : Files → ℕ} {failed : Files → List ℕ} (P : List ℕ → Type 0) (result : Result Rendered Unanswered) (old new : Files)
    → NoneFailed holds faults failed old new → IfErr result IsNoFault → CalledToAnswer holds faults failed P result old new
called_nowhere P (Ok answer) old new none is = none
called_nowhere P (Err (ReadFault file)) old new none is = absurd is
called_nowhere P (Err (PatternRoom line)) old new none is = none
called_nowhere P (Err (Memory lack)) old new none is = tt
