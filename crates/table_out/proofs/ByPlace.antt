-- The widths of columns, one line after another.
use Rattle.std.proofs.Common.{◌≡◌, ℕ, ◌+◌, ◌<◌, ◌∷◌, List, [], ◌++◌, length, map, max, take, drop, replicate, get_or, All, ap, sym, ◌∙◌, subst, arith, append-nil, append_assoc}
use Rattle.std.specs.List.{range_with_len}
use Rattle.std.proofs.lemmas.List.{drop_all, ext_get_or, get_or-replicate, length-map, length-replicate, map_more, take_all}
use Rattle.std.proofs.lemmas.List.FromFn.{get_or-map-range_with_len, length-range_with_len}
use Rattle.std.proofs.lemmas.List.Sums.{fold-append}
use Rattle.esql_types.specs.declared.names.Column.{Column}
use Rattle.esql_types.specs.declared.value.Value.{Value}
use Rattle.answer_text.specs.Txt.{column_width, heads_of, texts_of, width_of, widths}
use Rattle.table_out.specs.Widths.{AreWidths}

-- one line more
column_width_more : (lines : List (List (List ℕ))) (line : List (List ℕ)) (place : ℕ)
    → column_width (lines ++ line ∷ []) place ≡ max (column_width lines place) (width_of (get_or line place []))
column_width_more lines line place = fold-append (λ width line. max width (width_of (get_or line place []))) 0 lines (line ∷ [])

widened : (old new : List ℕ) (lines : List (List (List ℕ))) (line : List (List ℕ)) → length new ≡ length old
    → ((place : ℕ) → place < length old → get_or new place 0 ≡ max (get_or old place 0) (width_of (get_or line place [])))
    → AreWidths old lines → AreWidths new (lines ++ line ∷ [])
widened old new lines line same each before place within =
    let among : place < length old = omega (arith, same) in
    each place among
    ∙ ap (λ width. max width (width_of (get_or line place []))) (before place among)
    ∙ sym (column_width_more lines line place)

-- one row more
pub widened_by_row : (start old new : List ℕ) (rows : List (List (List Value))) (item row : List (List Value)) (index : ℕ)
    → All (λ row. length row ≡ length start) rows → index < length rows → item ≡ get_or rows index item → row ≡ item
    → length old ≡ length start → length new ≡ length old
    → ((place : ℕ) → place < length row → get_or new place 0 ≡ max (get_or old place 0) (width_of (get_or (texts_of row) place [])))
    → ((lines : List (List (List ℕ))) → AreWidths start lines → AreWidths old (lines ++ map texts_of (take index rows)))
    → (lines : List (List (List ℕ))) → AreWidths start lines → AreWidths new (lines ++ map texts_of (take (index + 1) rows))
widened_by_row start old new rows item row index all within is_item is_row kept same each before lines begun =
    let here : row ≡ get_or rows index item = is_row ∙ is_item in
    let sized : length row ≡ length start = ap length here ∙ all index item within in
    let more : lines ++ map texts_of (take (index + 1) rows) ≡ (lines ++ map texts_of (take index rows)) ++ texts_of row ∷ [] =
    ap (λ texts. lines ++ texts) (map_more texts_of rows index item within ∙ ap (λ cells. map texts_of (take index rows) ++ texts_of cells ∷ []) (sym here))
    ∙ sym (append_assoc lines (map texts_of (take index rows)) (texts_of row ∷ [])) in
    subst (AreWidths new) (sym more) (widened old new (lines ++ map texts_of (take index rows)) (texts_of row) same (λ place among. each place (omega (arith, sized, kept))) (before lines begun))

pub length-widths : (lines : List (List (List ℕ))) (count : ℕ) → length (widths lines count) ≡ count
length-widths lines count = length-map (range_with_len 0 count) (column_width lines) ∙ length-range_with_len 0 count

-- numbers that are the widths place by place
widths_by_place : (lines : List (List (List ℕ))) (found : List ℕ) (count : ℕ) → length found ≡ count → AreWidths found lines → found ≡ widths lines count
widths_by_place lines found count sized each =
    ext_get_or 0 found (widths lines count) (sized ∙ sym (length-widths lines count))
    (λ place within. let below : place < count = omega (arith, sized) in
    each place within ∙ sym (get_or-map-range_with_len (column_width lines) 0 count place place 0 below (omega arith)))

-- what stands in a list over which a slice of its length was written
written_back : (items new : List ℕ) (len : ℕ) → len ≡ length items → length new ≡ length items → take len (new ++ drop (length new) items) ≡ new
written_back items new len whole same =
    ap (λ rest. take len (new ++ rest)) (drop_all (length new) items (omega (arith, same)))
    ∙ ap (take len) (append-nil new)
    ∙ take_all len new (omega (arith, whole, same))

-- the widths, from zeros by the names and then by the rows
pub found_widths : (columns : List Column) (rows : List (List (List Value))) (items begun headed found : List ℕ) (len : ℕ)
    → items ≡ replicate (length columns) 0 → len ≡ length items → begun ≡ items → length headed ≡ length begun → length found ≡ length headed
    → ((place : ℕ) → place < length columns → get_or headed place 0 ≡ max (get_or begun place 0) (width_of (get_or (heads_of columns) place [])))
    → ((lines : List (List (List ℕ))) → AreWidths headed lines → AreWidths found (lines ++ map texts_of rows))
    → take len (found ++ drop (length found) items) ≡ widths (heads_of columns ∷ map texts_of rows) (length columns)
found_widths columns rows items begun headed found len zeros whole same same_headed same_found by_names by_rows =
    let count = length columns in
    let long : length items ≡ count = ap length zeros ∙ length-replicate count 0 in
    let begun_long : length begun ≡ count = ap length same ∙ long in
    let none : AreWidths begun [] = λ place within.
    ap (λ numbers. get_or numbers place 0) (same ∙ zeros) ∙ get_or-replicate count place 0 0 (omega (arith, begun_long)) in
    let by_heads : AreWidths headed (heads_of columns ∷ []) =
    widened begun headed [] (heads_of columns) same_headed (λ place within. by_names place (omega (arith, begun_long))) none in
    written_back items found len whole (omega (arith, same_found, same_headed, begun_long, long))
    ∙ widths_by_place (heads_of columns ∷ map texts_of rows) found count (omega (arith, same_found, same_headed, begun_long)) (by_rows (heads_of columns ∷ []) by_heads)
