-- The text of a table in JSON, part by part.
use Rattle.std.proofs.Common.{◌≡◌, ℕ, List, [], ◌++◌, map, codes, refl, sym, ap, ◌∙◌, append_assoc}
use Rattle.esql_types.specs.declared.names.Column.{Column}
use Rattle.esql_types.specs.declared.value.Value.{Value}
use Rattle.serde_json.proofs.OnLiterals.{serde_json_on_literals}
use Rattle.serde_json.specs.Data.{array}
use Rattle.serde_json.specs.View.{items_of}
use Rattle.serde_json.specs.Written.{compact_text}
use Rattle.table_out.specs.Json.{column_data, row_data, shown_json, table_data}

module _ (columns : List Column) (rows : List (List (List Value))) where
  abbrev columns_text : List ℕ
  columns_text = compact_text (array (items_of (map column_data columns)))

  abbrev rows_text : List ℕ
  rows_text = compact_text (array (items_of (map row_data rows)))

  table_text : compact_text (table_data columns rows) ≡ codes "{\"columns\":" ++ (columns_text ++ (codes ",\"values\":" ++ (rows_text ++ codes "}")))
  unfolding serde_json_on_literals
  table_text = refl

  parts : (front behind middle last : List ℕ) (left right : List ℕ)
      → (((front ++ left) ++ middle) ++ right) ++ (behind ++ last) ≡ (front ++ (left ++ (middle ++ (right ++ behind)))) ++ last
  parts front behind middle last left right =
      sym (append_assoc (((front ++ left) ++ middle) ++ right) behind last)
      ∙ ap (λ text. text ++ last)
      (append_assoc ((front ++ left) ++ middle) right behind
      ∙ append_assoc (front ++ left) middle (right ++ behind)
      ∙ append_assoc front left (middle ++ (right ++ behind)))

  pub pushed_table : (start one two three four five : List ℕ)
      → start ≡ [] → one ≡ start ++ codes "{\"columns\":" → two ≡ one ++ columns_text → three ≡ two ++ codes ",\"values\":" → four ≡ three ++ rows_text → five ≡ four ++ codes "}\n"
      → five ≡ shown_json columns rows
  pushed_table start one two three four five at_start at_one at_two at_three at_four at_five =
      let first : one ≡ codes "{\"columns\":" = at_one ∙ ap (λ text. text ++ codes "{\"columns\":") at_start in
      let second : two ≡ codes "{\"columns\":" ++ columns_text = at_two ∙ ap (λ text. text ++ columns_text) first in
      let third : three ≡ (codes "{\"columns\":" ++ columns_text) ++ codes ",\"values\":" = at_three ∙ ap (λ text. text ++ codes ",\"values\":") second in
      let fourth : four ≡ ((codes "{\"columns\":" ++ columns_text) ++ codes ",\"values\":") ++ rows_text = at_four ∙ ap (λ text. text ++ rows_text) third in
      at_five
      ∙ ap (λ text. text ++ codes "}\n") fourth
      ∙ parts (codes "{\"columns\":") (codes "}") (codes ",\"values\":") (codes "\n") columns_text rows_text
      ∙ ap (λ text. text ++ codes "\n") (sym table_text)
