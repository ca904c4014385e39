-- What DISSECT and GROK take out of a cell has the kinds of their columns.
use Rattle.std.proofs.Common.{◌≡◌, ℕ, zero, suc, true, List, [], ◌∷◌, map, length, All, Option, Some, None, refl, ap, ◌∙◌}
use Rattle.std.specs.Prelude.{fold}
use Rattle.std.specs.List.{AllZip}
use Rattle.std.proofs.lemmas.List.Elements.{All-head, All-tail}
use Rattle.esql_types.specs.declared.names.Column.{Column}
use Rattle.esql_types.specs.declared.names.NodeId.{NodeId}
use Rattle.esql_types.specs.declared.value.Kind.{Kind}
use Rattle.esql_types.specs.declared.value.Kind.TheVariants.{Integer, Long, Boolean, Keyword, Null}
use Rattle.esql_types.specs.declared.value.Value.{Value}
use Rattle.esql_types.specs.declared.value.Value.TheVariants as value
use Rattle.esql_plan.specs.declared.function.Function.TheVariants as function
use Rattle.esql_plan.specs.Values.{silent}
use Rattle.esql_plan.specs.Fits.{has_kind}
use Rattle.esql_plan.proofs.KindsGiven.{always_kind}
use Rattle.dissect_grok.specs.Patterns.{Reading, reading_of, names_of}
use Rattle.dissect_grok.specs.Cuts.{cut_of}
use Rattle.dissect_grok.specs.Groks.{GrokRead, grok_of, grok_columns, grok_takes}
use Rattle.plan_semantics.specs.Taken.{Taken, nulls, joined_cells, taken_of_cell, text_cell, taken_texts, dissected_by, dissected, keyword_column, columns_of_reading, converted, converted_columns, taken_values, taken_if, grokked_by, grokked, columns_of_grok, columns_in_grok}
use Rattle.plan_semantics.specs.WellFormed.{kinds_of}
use Rattle.plan_semantics.proofs.ResultKinds.{Has, has_test, pass_append}
use Rattle.plan_semantics.proofs.GrokKinds.{HasValues, ColumnHas, pattern_columns}

-- cells that are there have the kinds of their places; there may be more cells than kinds, or fewer
abbrev pub CellsHave : List (List Value) → List Kind → Type 0
CellsHave [] kinds = Unit {0}
CellsHave (cell ∷ cells) [] = Unit {0}
CellsHave (cell ∷ cells) (kind ∷ kinds) = Has kind cell × CellsHave cells kinds

nulls_have : (count : ℕ) (kinds : List Kind) → CellsHave (nulls count) kinds
nulls_have zero kinds = tt
nulls_have (suc count) [] = tt
nulls_have (suc count) (kind ∷ kinds) = (refl, nulls_have count kinds)

joined_have : (cells others : List (List Value)) (kinds : List Kind) → CellsHave cells kinds → CellsHave others kinds → CellsHave (joined_cells cells others) kinds
joined_have [] others kinds these those = tt
joined_have (cell ∷ cells) [] kinds these those = these
joined_have (cell ∷ cells) (other ∷ others) [] these those = tt
joined_have (cell ∷ cells) (other ∷ others) (kind ∷ kinds) these those =
    (pass_append (has_test kind) cell other these.0 those.0, joined_have cells others kinds these.1 those.1)

module _ (kinds : List Kind) (take : Value → Taken) (each_has : (one : Value) → CellsHave (take one).cells kinds) where
  all_have : (cells : List (List Value)) (cell : List Value) → CellsHave cells kinds → CellsHave (fold (λ cells one. joined_cells cells (take one).cells) cells cell) kinds
  all_have cells [] has = has
  all_have cells (one ∷ cell) has = all_have (joined_cells cells (take one).cells) cell (joined_have cells (take one).cells kinds has (each_has one))

  taken_have : (count : ℕ) (cell : List Value) → CellsHave (taken_of_cell count take cell).cells kinds
  taken_have count cell = all_have (nulls count) cell (nulls_have count kinds)

-- DISSECT ------------------------------------------------------------------------------------------------------------------------------

texts_have : (texts names : List (List ℕ)) → CellsHave (map text_cell texts) (kinds_of (map keyword_column names))
texts_have [] names = tt
texts_have (text ∷ texts) [] = tt
texts_have (text ∷ texts) (name ∷ names) = (refl, texts_have texts names)

if_cut_have : (names : List (List ℕ)) (texts : Option (List (List ℕ))) → CellsHave (taken_texts texts).cells (kinds_of (map keyword_column names))
if_cut_have names None = tt
if_cut_have names (Some texts) = texts_have texts names

one_dissected : (reading : Option Reading) (one : Value) → CellsHave (dissected_by reading one).cells (kinds_of (columns_of_reading reading))
one_dissected None one = tt
one_dissected (Some reading) (value.Int number) = tt
one_dissected (Some reading) (value.Long number) = tt
one_dissected (Some reading) (value.Bool truth) = tt
one_dissected (Some reading) (value.Text text) = if_cut_have (names_of reading.keys) (cut_of reading text)

pub dissected_have : (pattern separator : List ℕ) (count : ℕ) (cell : List Value) → CellsHave (dissected pattern separator count cell).cells (kinds_of (columns_of_reading (reading_of pattern separator)))
dissected_have pattern separator count cell =
    let reading = reading_of pattern separator in
    taken_have (kinds_of (columns_of_reading reading)) (dissected_by reading) (one_dissected reading) count cell

-- GROK ---------------------------------------------------------------------------------------------------------------------------------

keywords_have : (texts : List (List ℕ)) → Has Keyword (map value.Text texts)
keywords_have [] = refl
keywords_have (text ∷ texts) = keywords_have texts

converted_has : (node : NodeId) (kind : Kind) (texts : List (List ℕ)) → HasValues kind → Has kind (converted node kind texts).cell
converted_has node Integer texts has = always_kind function.ToInteger Integer refl node (silent (map value.Text texts) ∷ [])
converted_has node Long texts has = always_kind function.ToLong Long refl node (silent (map value.Text texts) ∷ [])
converted_has node Boolean texts has = always_kind function.ToBoolean Boolean refl node (silent (map value.Text texts) ∷ [])
converted_has node Keyword texts has = keywords_have texts
converted_has node Null texts has = absurd has

columns_have : (node : NodeId) (columns : List Column) → All ColumnHas columns → (listed : List (List (List ℕ)))
    → CellsHave (taken_values (converted_columns node columns listed)).cells (kinds_of columns)
columns_have node [] has listed = tt
columns_have node (column ∷ columns) has [] = tt
columns_have node (column ∷ columns) has (texts ∷ listed) =
    (converted_has node column.kind texts (All-head ColumnHas column columns has), columns_have node columns (All-tail ColumnHas column columns has) listed)

if_found_have : (node : NodeId) (columns : List Column) → All ColumnHas columns → (found : Option (List (List (List ℕ)))) → CellsHave (taken_if node columns found).cells (kinds_of columns)
if_found_have node columns has None = tt
if_found_have node columns has (Some listed) = columns_have node columns has listed

one_grokked : (node : NodeId) (read : Option GrokRead) → All ColumnHas (columns_of_grok read) → (one : Value) → CellsHave (grokked_by node read one).cells (kinds_of (columns_of_grok read))
one_grokked node None has one = tt
one_grokked node (Some read) has (value.Int number) = tt
one_grokked node (Some read) has (value.Long number) = tt
one_grokked node (Some read) has (value.Bool truth) = tt
one_grokked node (Some read) has (value.Text text) = if_found_have node (grok_columns read) has (grok_takes read text)

pub grokked_have : (node : NodeId) (pattern : List ℕ) (count : ℕ) (cell : List Value) → CellsHave (grokked node pattern count cell).cells (kinds_of (columns_of_grok (grok_of pattern)))
grokked_have node pattern count cell =
    let read = grok_of pattern in
    taken_have (kinds_of (columns_of_grok read)) (grokked_by node read) (one_grokked node read (pattern_columns pattern)) count cell

-- as many cells as columns ----------------------------------------------------------------------------------------------------------------

nulls_length : (count : ℕ) → length (nulls count) ≡ count
nulls_length zero = refl
nulls_length (suc count) = ap suc (nulls_length count)

joined_length : (cells others : List (List Value)) → length (joined_cells cells others) ≡ length cells
joined_length [] others = refl
joined_length (cell ∷ cells) [] = refl
joined_length (cell ∷ cells) (other ∷ others) = ap suc (joined_length cells others)

module _ (take : Value → Taken) where
  all_length : (cells : List (List Value)) (cell : List Value) → length (fold (λ cells one. joined_cells cells (take one).cells) cells cell) ≡ length cells
  all_length cells [] = refl
  all_length cells (one ∷ cell) = all_length (joined_cells cells (take one).cells) cell ∙ joined_length cells (take one).cells

  pub taken_length : (count : ℕ) (cell : List Value) → length (taken_of_cell count take cell).cells ≡ count
  taken_length count cell = all_length (nulls count) cell ∙ nulls_length count

pub zip_have : (columns : List Column) (cells : List (List Value)) → length cells ≡ length columns → CellsHave cells (kinds_of columns)
    → AllZip (λ (column : Column) cell. has_kind column.kind cell ≡ true) columns cells
zip_have [] [] same has = tt
zip_have [] (cell ∷ cells) same has = absurd cc
zip_have (column ∷ columns) [] same has = absurd cc
zip_have (column ∷ columns) (cell ∷ cells) same has = let rest : length cells ≡ length columns = cc in (has.0, zip_have columns cells rest has.1)

pub grokked_zip : (node : NodeId) (pattern : List ℕ) (cell : List Value)
    → AllZip (λ (column : Column) cell. has_kind column.kind cell ≡ true) (columns_in_grok pattern) (grokked node pattern (length (columns_in_grok pattern)) cell).cells
grokked_zip node pattern cell =
    let count = length (columns_in_grok pattern) in
    zip_have (columns_in_grok pattern) (grokked node pattern count cell).cells (taken_length (grokked_by node (grok_of pattern)) count cell) (grokked_have node pattern count cell)
