-- The line feeds of a table in the layout `txt`.
use Rattle.std.proofs.Common.{◌≡◌, ◌≢◌, ℕ, zero, suc, lit≤, ltb, ◌+◌, ◌-◌, ◌/◌, ◌%◌, ◌≤◌, ◌==◌, nat_lt, Bool, true, false, cond, List, [], ◌∷◌, ◌++◌, map, length, replicate, count_by, refl, ap, arith, codes}
use Rattle.std.specs.Char.{digit_char}
use Rattle.std.specs.List.{flat_map, zip, AllByRecursion}
use Rattle.std.specs.Str.{chars}
use Rattle.std.proofs.Math.Utf8.{encode}
use Rattle.std.proofs.lemmas.Bool.{ne_eqb, ltb-false}
use Rattle.std.proofs.lemmas.List.Sums.{sum_by-append}
use Rattle.esql_types.specs.declared.names.Column.{Column}
use Rattle.esql_types.specs.declared.value.Value.{Value}
use Rattle.answer_text.specs.Cells.{cell_text}
use Rattle.answer_text.specs.Txt.{printed_character, printed, padded, line_of, lines_of, dashes, widths, heads_of, texts_of, width_of, shown_txt}

-- how many bytes are line feeds
feeds : List ℕ → ℕ
feeds text = count_by (λ byte. byte == 10) text

-- no byte is a line feed
record Quiet (text : List ℕ) : Type 0 where
  none : feeds text ≡ 0

feeds-append : (xs ys : List ℕ) → feeds (xs ++ ys) ≡ feeds xs + feeds ys
unfolding feeds
feeds-append xs ys = sum_by-append (λ byte. cond (byte == 10) 1 0) xs ys

quiet_nil : Quiet []
unfolding feeds
quiet_nil = record { none = refl }

quiet_append : {xs ys : List ℕ} → Quiet xs → Quiet ys → Quiet (xs ++ ys)
quiet_append {xs} {ys} left right = let l = left.none in let r = right.none in record { none = omega (arith, feeds-append xs ys) }

quiet_one : (x : ℕ) → x ≢ 10 → Quiet (x ∷ [])
unfolding feeds
quiet_one x other = record { none = ap (λ (b : Bool). 0 + cond {A = ℕ} b 1 0) (ne_eqb x 10 other) }

quiet_cons : {x : ℕ} {xs : List ℕ} → x ≢ 10 → Quiet xs → Quiet (x ∷ xs)
quiet_cons {x} {xs} other rest = quiet_append (quiet_one x other) rest

quiet_cond : (b : Bool) {xs ys : List ℕ} → Quiet xs → Quiet ys → Quiet (cond b xs ys)
quiet_cond true left right = left
quiet_cond false left right = right

quiet_replicate : (count x : ℕ) → x ≢ 10 → Quiet (replicate count x)
quiet_replicate zero x other = quiet_nil
quiet_replicate (suc count) x other = quiet_cons other (quiet_replicate count x other)

quiet_flat_map : {X : Type 0} (f : X → List ℕ) → ((x : X) → Quiet (f x)) → (xs : List X) → Quiet (flat_map f xs)
quiet_flat_map f quiet [] = quiet_nil
quiet_flat_map f quiet (x ∷ xs) = quiet_append (quiet x) (quiet_flat_map f quiet xs)

above : (bits lead : ℕ) → 128 ≤ lead → lead + bits ≢ 10
above bits lead wide same = omega arith

below : (c : ℕ) → 32 ≤ c → c ≢ 10
below c high same = omega arith

quiet_encode : (c : ℕ) → 32 ≤ c → Quiet (encode c)
unfolding encode
quiet_encode c high =
    quiet_cond (ltb c 128) (quiet_one c (below c high))
    (quiet_cond (ltb c 2048) (quiet_cons (above _ 192 (lit≤ tt)) (quiet_one _ (above _ 128 (lit≤ tt))))
    (quiet_cond (ltb c 65536) (quiet_cons (above _ 224 (lit≤ tt)) (quiet_cons (above _ 128 (lit≤ tt)) (quiet_one _ (above _ 128 (lit≤ tt)))))
    (quiet_cons (above _ 240 (lit≤ tt)) (quiet_cons (above _ 128 (lit≤ tt)) (quiet_cons (above _ 128 (lit≤ tt)) (quiet_one _ (above _ 128 (lit≤ tt))))))))

digit_other : (b : Bool) (digit : ℕ) → cond b (48 + digit) (87 + digit) ≢ 10
digit_other true digit same = omega arith
digit_other false digit same = omega arith

-- the literals of the layout
quiet_escape : Quiet (codes "\\x")
unfolding feeds
quiet_escape = record { none = refl }

quiet_bar : Quiet (codes " | ")
unfolding feeds
quiet_bar = record { none = refl }

quiet_cross : Quiet (codes "-+-")
unfolding feeds
quiet_cross = record { none = refl }

quiet_feed : Quiet (codes "\\n")
unfolding feeds
quiet_feed = record { none = refl }

quiet_return : Quiet (codes "\\r")
unfolding feeds
quiet_return = record { none = refl }

quiet_tab : Quiet (codes "\\t")
unfolding feeds
quiet_tab = record { none = refl }

feed : feeds (codes "\n") ≡ 1
unfolding feeds
feed = refl

quiet_code : (code : ℕ) → Quiet (codes "\\x" ++ digit_char (code / 16) ∷ digit_char (code % 16) ∷ [])
quiet_code code =
    quiet_append quiet_escape (quiet_cons (digit_other (nat_lt (code / 16) 10) (code / 16)) (quiet_one _ (digit_other (nat_lt (code % 16) 10) (code % 16))))

quiet_other : (c : ℕ) (low : Bool) → nat_lt c 32 ≡ low → Quiet (cond low (codes "\\x" ++ digit_char (c / 16) ∷ digit_char (c % 16) ∷ []) (encode c))
quiet_other c true is = quiet_code c
quiet_other c false is = quiet_encode c (ltb-false c 32 is)

quiet_character : (c : ℕ) → Quiet (printed_character c)
quiet_character c = quiet_cond (c == 10) quiet_feed (quiet_cond (c == 13) quiet_return (quiet_cond (c == 9) quiet_tab (quiet_other c (nat_lt c 32) refl)))

quiet_printed : (text : List ℕ) → Quiet (printed text)
quiet_printed text = quiet_flat_map printed_character quiet_character (chars text)

quiet_padded : (width : ℕ) (text : List ℕ) → Quiet text → Quiet (padded width text)
quiet_padded width text quiet = quiet_append quiet (quiet_replicate (width - width_of text) 32 (λ same. omega arith))

quiet_line : (widths : List ℕ) (texts : List (List ℕ)) → AllByRecursion Quiet texts → Quiet (line_of (zip widths texts))
quiet_line [] texts quiet = quiet_nil
quiet_line (width ∷ widths) [] quiet = quiet_nil
quiet_line (width ∷ []) (text ∷ texts) quiet = quiet.0
quiet_line (width ∷ next ∷ widths) (text ∷ []) quiet = quiet.0
quiet_line (width ∷ next ∷ widths) (text ∷ following ∷ texts) quiet =
    quiet_append (quiet_append (quiet_padded width text quiet.0) quiet_bar)
    (quiet_line (next ∷ widths) (following ∷ texts) quiet.1)

quiet_dashes : (widths : List ℕ) → Quiet (dashes widths)
quiet_dashes [] = quiet_nil
quiet_dashes (width ∷ widths) =
    quiet_append (quiet_replicate width 45 (λ same. omega arith))
    (quiet_flat_map (λ wide. codes "-+-" ++ replicate wide 45) (λ wide. quiet_append quiet_cross (quiet_replicate wide 45 (λ same. omega arith))) widths)

quiet_texts : {X : Type 0} (text : X → List ℕ) (xs : List X) → AllByRecursion Quiet (map (λ x. printed (text x)) xs)
quiet_texts text [] = tt
quiet_texts text (x ∷ xs) = (quiet_printed (text x), quiet_texts text xs)

one_feed : (line : List ℕ) → Quiet line → feeds (line ++ codes "\n") ≡ 1
one_feed line quiet = let none = quiet.none in omega (arith, feeds-append line (codes "\n"), feed)

feeds-rows : (widths : List ℕ) (rows : List (List (List Value))) → feeds (flat_map (λ texts. line_of (zip widths texts) ++ codes "\n") (map texts_of rows)) ≡ length rows
feeds-rows widths [] = quiet_nil.none
feeds-rows widths (row ∷ rows) =
    let line = line_of (zip widths (texts_of row)) in
    let one = one_feed line (quiet_line widths (texts_of row) (quiet_texts cell_text row)) in
    let rest = feeds-rows widths rows in
    let both = feeds-append (line ++ codes "\n") (flat_map (λ texts. line_of (zip widths texts) ++ codes "\n") (map texts_of rows)) in
    omega arith

feeds-lines : (widths : List ℕ) (columns : List Column) (rows : List (List (List Value))) → feeds (lines_of widths (heads_of columns) (map texts_of rows)) ≡ 2 + length rows
feeds-lines widths columns rows =
    let names = line_of (zip widths (heads_of columns)) in
    let body = flat_map (λ texts. line_of (zip widths texts) ++ codes "\n") (map texts_of rows) in
    let first = one_feed names (quiet_line widths (heads_of columns) (quiet_texts (λ column. column.name) columns)) in
    let under = feeds-append (names ++ codes "\n") (dashes widths) in
    let second = feeds-append ((names ++ codes "\n") ++ dashes widths) (codes "\n") in
    let dashed = (quiet_dashes widths).none in
    let ended = feed in
    let all = feeds-append (((names ++ codes "\n") ++ dashes widths) ++ codes "\n") body in
    let rest = feeds-rows widths rows in
    omega arith

-- a table has two lines more than rows
pub feeds-shown_txt : (columns : List Column) (rows : List (List (List Value))) → count_by (λ byte. byte == 10) (shown_txt columns rows) ≡ 2 + length rows
unfolding feeds
feeds-shown_txt columns rows = feeds-lines (widths (heads_of columns ∷ map texts_of rows) (length (heads_of columns))) columns rows
