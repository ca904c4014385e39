-- A table in each of the formats.
use Rattle.std.specs.Prelude.{ℕ, List}
use Rattle.esql_types.specs.declared.names.Column.{Column}
use Rattle.esql_types.specs.declared.value.Value.{Value}
use Rattle.answer_text.specs.Txt.{shown_txt}
use Rattle.table_out.specs.Csv.{shown_csv}
use Rattle.table_out.specs.Json.{shown_json}
use Rattle.esql_words.specs.declared.options.Format.{Format}
use Rattle.esql_words.specs.declared.options.Format.TheVariants.{Txt, Csv, Json}

abbrev pub shown : Format → List Column → List (List (List Value)) → List ℕ
shown Txt columns rows = shown_txt columns rows
shown Csv columns rows = shown_csv columns rows
shown Json columns rows = shown_json columns rows
