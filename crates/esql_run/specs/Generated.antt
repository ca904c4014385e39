-- What `--generate` is answered with: the answer to its query over the table that is made from the seed, and a line behind it.
use Rattle.std.specs.Prelude.{◌≡◌, ◌⊎◌, ℕ, List, [], ◌∷◌, ◌++◌, Option, Some, None, Ok, Err}
use Rattle.esql_types.specs.declared.places.Span.{Span}
use Rattle.esql_ast.specs.declared.query.Query.{Query}
use Rattle.answer_text.specs.Refusals.{refusal_line}
use Rattle.answer_text.specs.declared.refusals.Refusal.{Refusal}
use Rattle.answer_text.specs.declared.refusals.Refusal.TheVariants as refusal
use Rattle.esql_plan.specs.declared.catalog.Catalog.{Catalog}
use Rattle.plan_semantics.specs.Tables.{CatalogHeld}
use Rattle.row_semantics.specs.declared.rule.NameRule.TheVariants.{BadRegex}
use Rattle.query_semantics.specs.Shapes.{Shape, shape_of, shape_in}
use Rattle.expression_analysis.specs.declared.error.AnalyzeError.TheVariants.{PatternRoom as StoppedByRoom}
use Rattle.expression_analysis.specs.Answers.{accepted_but, IsTold}
use Rattle.esql_analyze.specs.Regulars.{regulars_of_query}
use Rattle.esql_answer.specs.Queries.{IsQuery, IsNoQuery}
use Rattle.table_generator.specs.Tables.{generated_shape, generated_table}
use Rattle.table_generator.specs.Words.{generated_query, generated_line}
use Rattle.esql_run.specs.declared.generated.Generation.{Generation}
use Rattle.esql_run.specs.declared.rendered.Unanswered.{Unanswered}
use Rattle.esql_run.specs.declared.rendered.Unanswered.TheVariants.{ReadFault, PatternRoom, Memory}
use Rattle.esql_run.specs.Bytes.{Outcome, refused}
use Rattle.esql_run.specs.Built.{unbuilt_of}
use Rattle.esql_run.specs.Tables.{refusal_of, meant}

-- the table that is made is the only one
abbrev pub generated_catalog : Catalog
generated_catalog = record { tables = generated_shape ∷ []; policies = [] }

-- with its rows
abbrev pub generated_held : ℕ → ℕ → CatalogHeld
generated_held seed rows = record { tables = generated_table seed rows ∷ []; policies = [] }

-- a line behind the output
abbrev pub with_line : List ℕ → Outcome → Outcome
with_line line outcome = record { status = outcome.status; out = outcome.out ++ line; err = outcome.err }

-- a query with these columns is answered with what it means over the table, and one that breaks a rule is refused
abbrev pub answered_for : Shape → Generation → List ℕ → Query → Outcome
answered_for (Err first) generation text query = refused text (refusal_of first.rule) first.span
answered_for (Ok columns) generation text query =
    with_line (generated_line generation.seed generation.rows) (meant generation.format text query columns (generated_held generation.seed generation.rows))

-- the first command that is not built is refused; where each is built the query is judged by the columns of the table
abbrev pub generated_by : Option Span → Generation → List ℕ → Query → Outcome
generated_by (Some span) generation text query = refused text refusal.NotBuilt span
generated_by None generation text query = answered_for (shape_of text generated_catalog query) generation text query

-- the outcome is that of the query that the text is
abbrev pub IsGenerated : Generation → Outcome → Type 0
IsGenerated generation outcome =
    ((query : Query) × IsQuery generated_query query × (outcome ≡ generated_by (unbuilt_of query) generation generated_query query))
    ⊎ ((why : Refusal) × (span : Span) × IsNoQuery generated_query why span × (outcome ≡ refused generated_query why span))

-- a regular expression of the query was too large to build, as the line says
pub record IsRoomOver {Maker : Type 0} (count : Maker → ℕ) (last : Maker → List ℕ) (text : List ℕ) (query : Query) (old new : Maker) (line : List ℕ) : Type 0 where
  pub span : Span
  pub built : unbuilt_of query ≡ None
  pub refuses : shape_in (record { text = text; catalog = generated_catalog; accepts = accepted_but span }) query ≡ Err (record { rule = BadRegex; span = span })
  pub told : IsTold count last (regulars_of_query query) old new (StoppedByRoom span)
  pub is : line ≡ refusal_line text refusal.PatternRoom span

abbrev pub IsRoomOfGenerated : {Maker : Type 0} → (Maker → ℕ) → (Maker → List ℕ) → Maker → Maker → List ℕ → Type 0
IsRoomOfGenerated count last old new line = (query : Query) × IsQuery generated_query query × IsRoomOver count last generated_query query old new line

-- no file was asked, so no call on one failed
abbrev pub IsNoFault : Unanswered → Type 0
IsNoFault (ReadFault file) = ⊥
IsNoFault (PatternRoom line) = Unit {0}
IsNoFault (Memory error) = Unit {0}
