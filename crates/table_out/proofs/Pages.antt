-- A table in the layout `txt`, part by part.
use Rattle.std.proofs.Common.{◌≡◌, ℕ, ◌+◌, ◌<◌, List, [], ◌∷◌, ◌++◌, length, map, take, get_or, codes, refl, sym, ap, ap₂, ◌∙◌, append_assoc}
use Rattle.std.specs.List.{flat_map, zip}
use Rattle.std.proofs.lemmas.List.{flat_map_more, length-map, take_more}
use Rattle.std.proofs.lemmas.List.Folds.{flat_map-map}
use Rattle.esql_types.specs.declared.names.Column.{Column}
use Rattle.esql_types.specs.declared.value.Value.{Value}
use Rattle.answer_text.specs.Txt.{dashes, heads_of, line_of, lines_of, printed, shown_txt, texts_of, widths}

module _ (columns : List Column) (rows : List (List (List Value))) where
  abbrev wide : List ℕ
  wide = widths (heads_of columns ∷ map texts_of rows) (length columns)

  abbrev row_lines : List ℕ
  row_lines = flat_map (λ row. line_of (zip wide (texts_of row)) ++ codes "\n") rows

  lined : (line ruler rest : List ℕ) → ((line ++ codes "\n") ++ (ruler ++ codes "\n")) ++ rest ≡ line ++ codes "\n" ++ ruler ++ codes "\n" ++ rest
  lined line ruler rest = simp append_assoc refl

  pub pushed_lines : (start one two three : List ℕ)
      → start ≡ [] → one ≡ start ++ (line_of (zip wide (heads_of columns)) ++ codes "\n") → two ≡ one ++ (dashes wide ++ codes "\n") → three ≡ two ++ row_lines
      → three ≡ shown_txt columns rows
  pushed_lines start one two three at_start at_one at_two at_three =
      let head = line_of (zip wide (heads_of columns)) in
      let first : one ≡ head ++ codes "\n" = at_one ∙ ap (λ text. text ++ (head ++ codes "\n")) at_start in
      let second : two ≡ (head ++ codes "\n") ++ (dashes wide ++ codes "\n") = at_two ∙ ap (λ text. text ++ (dashes wide ++ codes "\n")) first in
      at_three
      ∙ ap₂ (λ front back. front ++ back) second (sym (flat_map-map (λ texts. line_of (zip wide texts) ++ codes "\n") texts_of rows))
      ∙ lined head (dashes wide) (flat_map (λ texts. line_of (zip wide texts) ++ codes "\n") (map texts_of rows))
      ∙ ap (λ count. lines_of (widths (heads_of columns ∷ map texts_of rows) count) (heads_of columns) (map texts_of rows)) (sym (length-map columns (λ column. printed column.name)))

-- one row more
pub row_more : (wide : List ℕ) (rows : List (List (List Value))) (item row : List (List Value)) (index : ℕ) (start out new : List ℕ)
    → index < length rows → item ≡ get_or rows index item → row ≡ item
    → new ≡ out ++ (line_of (zip wide (texts_of row)) ++ codes "\n")
    → out ≡ start ++ flat_map (λ row. line_of (zip wide (texts_of row)) ++ codes "\n") (take index rows)
    → new ≡ start ++ flat_map (λ row. line_of (zip wide (texts_of row)) ++ codes "\n") (take (index + 1) rows)
row_more wide rows item row index start out new within is_item is_row written before =
    let line = λ (cells : List (List Value)). line_of (zip wide (texts_of cells)) ++ codes "\n" in
    written
    ∙ ap₂ (λ front cells. front ++ line cells) before (is_row ∙ is_item)
    ∙ flat_map_more line start (take index rows) (get_or rows index item)
    ∙ ap (λ taken. start ++ flat_map line taken) (sym (take_more rows index item within))
