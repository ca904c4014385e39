-- Where a regular expression of a query was too large to build: its text is noted by the maker, and the line names its place.
use Rattle.std.specs.Prelude.{◌≡◌, ℕ, List, Option, Some, None, Ok, Err}
use Rattle.esql_io.specs.Files.{Held}
use Rattle.esql_types.specs.declared.places.Span.{Span}
use Rattle.esql_ast.specs.declared.query.Query.{Query}
use Rattle.esql_ast.specs.Uses.{source_names}
use Rattle.ndjson_load.specs.Over.{Over}
use Rattle.table_files.specs.Catalog.{Gathers}
use Rattle.table_files.specs.Found.{Found, nothing}
use Rattle.row_semantics.specs.declared.rule.NameRule.TheVariants.{BadRegex}
use Rattle.query_semantics.specs.Shapes.{shape_in}
use Rattle.expression_analysis.specs.declared.error.AnalyzeError.TheVariants.{PatternRoom}
use Rattle.expression_analysis.specs.Answers.{accepted_but, IsTold}
use Rattle.esql_analyze.specs.Regulars.{regulars_of_query}
use Rattle.esql_answer.specs.Queries.{IsQuery}
use Rattle.answer_text.specs.declared.refusals.Refusal.TheVariants as refusal
use Rattle.answer_text.specs.Refusals.{refusal_line}
use Rattle.esql_run.specs.Built.{unbuilt_of}
use Rattle.esql_run.specs.Generated.{IsRoomOfGenerated}
use Rattle.esql_run.specs.Tables.{catalog_found}
use Rattle.esql_words.specs.declared.options.Options.{Options}
use Rattle.esql_words.specs.declared.options.Request.{Request}
use Rattle.esql_words.specs.declared.options.Request.TheVariants.{Query as AskQuery, Generate}
use Rattle.esql_words.specs.Words.{options_of}

-- Each command of the query is built, and its tables and policies are found. At a span stands a regular expression that the maker
-- refused for its size and noted; no rule is broken before it, since the query would be refused there if that expression alone were not
-- accepted. The line is the refusal of the span.
pub record IsRoomOf {Maker : Type 0} (count : Maker → ℕ) (last : Maker → List ℕ) (folder : Option (List ℕ)) (text : List ℕ) (held : Held) (query : Query) (old new : Maker) (line : List ℕ) : Type 0 where
  pub span : Span
  pub found : Found
  pub built : unbuilt_of query ≡ None
  pub gathers : Over held (λ bytes_of. Gathers folder (Some bytes_of) nothing (source_names query) (Ok found))
  pub refuses : shape_in (record { text = text; catalog = catalog_found found; accepts = accepted_but span }) query ≡ Err (record { rule = BadRegex; span = span })
  pub told : IsTold count last (regulars_of_query query) old new (PatternRoom span)
  pub is : line ≡ refusal_line text refusal.PatternRoom span

-- the line says that a regular expression of the query of a text was too large
abbrev pub IsRoomIn : {Maker : Type 0} → (Maker → ℕ) → (Maker → List ℕ) → Option (List ℕ) → List ℕ → Held → Maker → Maker → List ℕ → Type 0
IsRoomIn count last folder text held old new line = (query : Query) × IsQuery text query × IsRoomOf count last folder text held query old new line

abbrev pub IsRoomForRequest : {Maker : Type 0} → (Maker → ℕ) → (Maker → List ℕ) → Option (List ℕ) → Request → Held → Maker → Maker → List ℕ → Type 0
IsRoomForRequest count last folder (AskQuery text) held old new line = IsRoomIn count last folder text held old new line
IsRoomForRequest count last folder (Generate seed rows) held old new line = IsRoomOfGenerated count last old new line

abbrev pub IsRoomForOptions : {Maker : Type 0} → (Maker → ℕ) → (Maker → List ℕ) → Option Options → Held → Maker → Maker → List ℕ → Type 0
IsRoomForOptions count last None held old new line = ⊥
IsRoomForOptions count last (Some options) held old new line = IsRoomForRequest count last options.folder options.request held old new line

-- the line says that a regular expression of the query of the words was too large
abbrev pub IsRoomLine : {Maker : Type 0} → (Maker → ℕ) → (Maker → List ℕ) → List (List ℕ) → Held → Maker → Maker → List ℕ → Type 0
IsRoomLine count last words held old new line = IsRoomForOptions count last (options_of words) held old new line
