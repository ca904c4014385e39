-- What a query is answered with over its tables is unique, over files that tell what they hold.
use Rattle.std.proofs.Common.{◌≡◌, ℕ, List, [], Option, Some, Result, Ok, Err, refl, sym, ap, ◌∙◌, subst}
use Rattle.esql_types.specs.declared.names.Column.{Column}
use Rattle.esql_ast.specs.declared.query.Query.{Query}
use Rattle.esql_ast.specs.declared.uses.SourceUse.{SourceUse}
use Rattle.esql_ast.specs.Uses.{source_names}
use Rattle.ndjson_load.specs.Over.{BytesOf}
use Rattle.plan_rows.specs.Held.{tables_held}
use Rattle.query_semantics.specs.Shapes.{Shape, shape_of}
use Rattle.esql_words.specs.declared.options.Format.{Format}
use Rattle.table_files.specs.declared.tables.FoundTable.{FoundTable}
use Rattle.table_files.specs.Catalog.{Rows, Gathers, Loads, no_tables, stops, stops_later, more_rows}
use Rattle.table_files.specs.Found.{Found, nothing}
use Rattle.table_files.specs.Halts.{Halt}
use Rattle.table_files.specs.InTurn.{no_items, halts, goes_on}
use Rattle.table_files.specs.Laws.{OneGathering, OneLoading}
use Rattle.esql_run.specs.Bytes.{Outcome, refused}
use Rattle.esql_run.specs.Tables.{halted, refusal_of, catalog_found, meant, IsTablesOutcome, not_found, broken, not_loaded, loaded}

-- the laws of tables
pub record TableLaws : Type 0 where
  pub one_gathering : OneGathering
  pub one_loading : OneLoading

-- what rows are answered with, or where they halt
abbrev with_rows : Format → List ℕ → Query → Found → List Column → Result (List Rows) Halt → Outcome
with_rows format text query found columns (Err halt) = halted text halt
with_rows format text query found columns (Ok reads) = meant format text query columns (tables_held (catalog_found found) reads)

-- what is answered where the query has these columns, or breaks this rule
abbrev AnswersShape : Option (List ℕ) → Format → BytesOf → List ℕ → Query → Found → Shape → Outcome → Type 0
AnswersShape folder format held text query found (Err first) outcome = outcome ≡ refused text (refusal_of first.rule) first.span
AnswersShape folder format held text query found (Ok columns) outcome =
    (read : Result (List Rows) Halt) × Loads folder (Some held) found.tables read × (outcome ≡ with_rows format text query found columns read)

-- what is answered over what was found, or where the names halt
abbrev AnswersFound : Option (List ℕ) → Format → BytesOf → List ℕ → Query → Result Found Halt → Outcome → Type 0
AnswersFound folder format held text query (Err halt) outcome = outcome ≡ halted text halt
AnswersFound folder format held text query (Ok found) outcome = AnswersShape folder format held text query found (shape_of text (catalog_found found) query) outcome

by_shape : (folder : Option (List ℕ)) (format : Format) (held : BytesOf) (text : List ℕ) (query : Query) (found : Found) (shape : Shape) (outcome : Outcome) → shape_of text (catalog_found found) query ≡ shape
    → AnswersShape folder format held text query found shape outcome → AnswersShape folder format held text query found (shape_of text (catalog_found found) query) outcome
by_shape folder format held text query found shape outcome is answers = subst (λ (s : Shape). AnswersShape folder format held text query found s outcome) (sym is) answers

gathered_for : (folder : Option (List ℕ)) (format : Format) (held : BytesOf) (text : List ℕ) (query : Query) (outcome : Outcome) → IsTablesOutcome folder format (Some held) text query outcome
    → (gathered : Result Found Halt) × Gathers folder (Some held) nothing (source_names query) gathered × AnswersFound folder format held text query gathered outcome
gathered_for folder format held text query outcome (not_found halt gathers) = (Err halt, gathers, refl)
gathered_for folder format held text query outcome (broken found first gathers shape) = (Ok found, gathers, by_shape folder format held text query found (Err first) _ shape refl)
gathered_for folder format held text query outcome (not_loaded found columns halt gathers shape loads) =
    (Ok found, gathers, by_shape folder format held text query found (Ok columns) _ shape (Err halt, loads, refl))
gathered_for folder format held text query outcome (loaded found columns reads gathers shape loads) =
    (Ok found, gathers, by_shape folder format held text query found (Ok columns) _ shape (Ok reads, loads, refl))

one_shape : (laws : TableLaws) (folder : Option (List ℕ)) (format : Format) (held : BytesOf) (text : List ℕ) (query : Query) (found : Found) (shape : Shape) (outcome other : Outcome)
    → AnswersShape folder format held text query found shape outcome → AnswersShape folder format held text query found shape other → outcome ≡ other
one_shape laws folder format held text query found (Err first) outcome other is was = is ∙ sym was
one_shape laws folder format held text query found (Ok columns) outcome other (read, loads, is) (also, again, was) =
    is ∙ ap (with_rows format text query found columns) (laws.one_loading folder held found.tables read also loads again) ∙ sym was

one_answer : (laws : TableLaws) (folder : Option (List ℕ)) (format : Format) (held : BytesOf) (text : List ℕ) (query : Query) (gathered : Result Found Halt) (outcome other : Outcome)
    → AnswersFound folder format held text query gathered outcome → AnswersFound folder format held text query gathered other → outcome ≡ other
one_answer laws folder format held text query (Err halt) outcome other is was = is ∙ sym was
one_answer laws folder format held text query (Ok found) outcome other is was = one_shape laws folder format held text query found (shape_of text (catalog_found found) query) outcome other is was

pub one_over_tables : (laws : TableLaws) (folder : Option (List ℕ)) (format : Format) (held : BytesOf) (text : List ℕ) (query : Query) (outcome other : Outcome)
    → IsTablesOutcome folder format (Some held) text query outcome → IsTablesOutcome folder format (Some held) text query other → outcome ≡ other
one_over_tables laws folder format held text query outcome other is was =
    let (gathered, gathers, answers) = gathered_for folder format held text query outcome is in
    let (also, again, answered) = gathered_for folder format held text query other was in
    let same : also ≡ gathered = laws.one_gathering folder held nothing (source_names query) also gathered again gathers in
    one_answer laws folder format held text query gathered outcome other answers (subst (λ (g : Result Found Halt). AnswersFound folder format held text query g other) same answered)

-- ---- where no table and no policy is named, no file is read

gathers_none : (folder : Option (List ℕ)) (one other : BytesOf) (found : Found) (uses : List SourceUse) (r : Result Found Halt) → uses ≡ [] → Gathers folder (Some one) found uses r
    → Gathers folder (Some other) found uses r × (r ≡ Ok found)
gathers_none folder one other found uses r none (no_items _) = (no_items _, refl)
gathers_none folder one other found uses r none (halts _ use_ rest halt is) = absurd cc
gathers_none folder one other found uses r none (goes_on _ use_ rest next later is so) = absurd cc

loads_none : (folder : Option (List ℕ)) (one other : BytesOf) (tables : List FoundTable) (r : Result (List Rows) Halt) → tables ≡ [] → Loads folder (Some one) tables r → Loads folder (Some other) tables r
loads_none folder one other tables r none no_tables = no_tables
loads_none folder one other tables r none (stops table rest halt is) = absurd cc
loads_none folder one other tables r none (stops_later table rest read halt is later) = absurd cc
loads_none folder one other tables r none (more_rows table rest read reads is later) = absurd cc

-- so no table is found
no_table : (found : Found) (r : Result Found Halt) → r ≡ Ok found → r ≡ Ok nothing → found.tables ≡ []
no_table found r is none = let same : found ≡ nothing = cc (is, none) in ap (λ (f : Found). f.tables) same

-- so the answer is the same over all contents
pub over_any : (folder : Option (List ℕ)) (format : Format) (one other : BytesOf) (text : List ℕ) (query : Query) (outcome : Outcome) → source_names query ≡ [] → IsTablesOutcome folder format (Some one) text query outcome
    → IsTablesOutcome folder format (Some other) text query outcome
over_any folder format one other text query outcome none (not_found halt gathers) = not_found halt (gathers_none folder one other nothing (source_names query) (Err halt) none gathers).0
over_any folder format one other text query outcome none (broken found first gathers shape) = broken found first (gathers_none folder one other nothing (source_names query) (Ok found) none gathers).0 shape
over_any folder format one other text query outcome none (not_loaded found columns halt gathers shape loads) =
    let same = gathers_none folder one other nothing (source_names query) (Ok found) none gathers in
    not_loaded found columns halt same.0 shape (loads_none folder one other found.tables (Err halt) (no_table found (Ok found) refl same.1) loads)
over_any folder format one other text query outcome none (loaded found columns reads gathers shape loads) =
    let same = gathers_none folder one other nothing (source_names query) (Ok found) none gathers in
    loaded found columns reads same.0 shape (loads_none folder one other found.tables (Ok reads) (no_table found (Ok found) refl same.1) loads)
