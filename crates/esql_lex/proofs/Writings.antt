-- Names and texts as they are written, and what they hold then.
use Rattle.std.proofs.Common.{◌≡◌, ◌≢◌, ℕ, ◌+◌, ◌-◌, Bool, true, false, ◌&&◌, ◌||◌, cond, ◌⊎◌, inl, inr, List, [], ◌∷◌, ◌++◌, take, length, nat_lt, slice_index, refl, sym, ap, ◌∙◌, arith, codes}
use Rattle.std.specs.Prelude.{◌==◌, flat_map}
use Rattle.std.specs.Io.BufRead.{strip_last}
use Rattle.std.proofs.lemmas.Bool.{ne_eqb, eqb-true, false≢true}
use Rattle.std.proofs.lemmas.List.{length_push, get_or_push, take_at, append_assoc}
use Rattle.esql_lex.specs.declared.token.TokenKind.TheVariants.{QuotedName, Text}
use Rattle.esql_lex.specs.Forms.{kind_if, closes_name, closes_text, is_quoted, is_escaped, is_literal, is_long_text, begins_long}
use Rattle.esql_lex.specs.Contents.{meant, undone, unquoted, doubled, as_escape, in_backticks, in_quotes, Holds}
use Rattle.esql_lex.proofs.Contents.{undone-other, undone-pair}
use Rattle.esql_lex.proofs.Slices.{quoted_form, text_form}

both : (a b : Bool) → a ≡ true → b ≡ true → (a && b) ≡ true
both true b e f = f
both false b e f = absurd (false≢true e)

-- a quote that is put at the end can be taken from there
strip_last-push : (quote : ℕ) (xs : List ℕ) → (quote == quote) ≡ true → strip_last quote (xs ++ quote ∷ []) ≡ xs
strip_last-push quote xs same =
    let all = xs ++ quote ∷ [] in
    let size : length all ≡ length xs + 1 = length_push xs quote in
    let place : length all - 1 ≡ length xs = omega (arith, size) in
    let some : nat_lt 0 (length all) ≡ true = grind arith in
    let last : (slice_index all (length all - 1) == quote) ≡ true =
    ap (λ i. slice_index all i == quote) place ∙ ap (λ x. x == quote) (get_or_push xs quote 0 (length xs) refl) ∙ same in
    ap (λ b. cond b (take (length all - 1) all) all) (both _ _ some last) ∙ take_at xs (quote ∷ []) (length all - 1) (sym place)

is_backtick : (c : ℕ) → (c == 96) ≡ true → c ≡ 96
is_backtick c e = eqb-true c 96 e

not_backtick : (c : ℕ) → (c == 96) ≡ false → c ≢ 96
not_backtick c e same = grind arith

-- doubled, a character comes to itself
undone-doubled_at : (c : ℕ) (rest : List ℕ) (b : Bool) → (c == 96) ≡ b → undone 96 (cond b (codes "``") (c ∷ []) ++ rest) ≡ c ∷ undone 96 rest
undone-doubled_at c rest true e = undone-pair 96 96 rest ∙ ap (λ x. x ∷ undone 96 rest) (sym (is_backtick c e))
undone-doubled_at c rest false e = undone-other 96 c rest (not_backtick c e)

undone-doubled : (name : List ℕ) → undone 96 (flat_map doubled name) ≡ name
undone-doubled [] = refl
undone-doubled (c ∷ cs) = undone-doubled_at c (flat_map doubled cs) (c == 96) refl ∙ ap (λ xs. c ∷ xs) (undone-doubled cs)

closes_name-other : (c : ℕ) (rest : List ℕ) → (c == 96) ≡ false → closes_name (c ∷ rest) ≡ closes_name rest
closes_name-other c [] e = e
closes_name-other c (d ∷ rest) e = ap (λ b. cond b (d == 96 && closes_name rest) (closes_name (d ∷ rest))) e

closes_name-doubled_at : (c : ℕ) (rest : List ℕ) (b : Bool) → (c == 96) ≡ b → closes_name (cond b (codes "``") (c ∷ []) ++ rest) ≡ closes_name rest
closes_name-doubled_at c rest true e = refl
closes_name-doubled_at c rest false e = closes_name-other c rest e

closes_name-doubled : (name : List ℕ) → closes_name (flat_map doubled name ++ 96 ∷ []) ≡ true
closes_name-doubled [] = refl
closes_name-doubled (c ∷ cs) =
    ap closes_name (append_assoc (doubled c) (flat_map doubled cs) (96 ∷ [])) ∙ closes_name-doubled_at c (flat_map doubled cs ++ 96 ∷ []) (c == 96) refl ∙ closes_name-doubled cs

-- a name that closes and has two characters is quoted
quoted_from : (xs : List ℕ) (c : ℕ) → xs ≢ [] → closes_name (xs ++ c ∷ []) ≡ true → is_quoted (xs ++ c ∷ []) ≡ true
quoted_from [] c some e = absurd (some refl)
quoted_from (x ∷ []) c some e = e
quoted_from (x ∷ y ∷ xs) c some e = e

doubled_some_at : (c : ℕ) (rest : List ℕ) (b : Bool) → cond b (codes "``") (c ∷ []) ++ rest ≢ []
doubled_some_at c rest true e = grind arith
doubled_some_at c rest false e = grind arith

doubled_some : (name : List ℕ) → name ≢ [] → flat_map doubled name ≢ []
doubled_some [] some = some
doubled_some (c ∷ cs) some = doubled_some_at c (flat_map doubled cs) (c == 96)

pub names_in_backticks : (name : List ℕ) → name ≢ [] → Holds (in_backticks name) QuotedName name
names_in_backticks name some =
    let inside = flat_map doubled name in
    let quoted : is_quoted (inside ++ 96 ∷ []) ≡ true = quoted_from inside 96 (doubled_some name some) (closes_name-doubled name) in
    (quoted_form (inside ++ 96 ∷ []) ∙ ap (λ b. kind_if b QuotedName) quoted, ap (undone 96) (strip_last-push 96 inside refl) ∙ undone-doubled name)

-- a character is written as an escape or stands for itself
abbrev IsWritten : ℕ → List ℕ → Type 0
IsWritten c written = ((d : ℕ) × (written ≡ 92 ∷ d ∷ []) × (is_escaped d ≡ true) × (meant 92 d ≡ c)) ⊎ ((written ≡ c ∷ []) × (is_literal c ≡ true))

written_at : (c : ℕ) (t n r q b : Bool) → (c == 9) ≡ t → (c == 10) ≡ n → (c == 13) ≡ r → (c == 34) ≡ q → (c == 92) ≡ b
    → IsWritten c (cond t (codes "\\t") (cond n (codes "\\n") (cond r (codes "\\r") (cond q (codes "\\\"") (cond b (codes "\\\\") (c ∷ []))))))
written_at c true n r q b e f g h i = inl (116, refl, refl, sym (eqb-true c 9 e))
written_at c false true r q b e f g h i = inl (110, refl, refl, sym (eqb-true c 10 f))
written_at c false false true q b e f g h i = inl (114, refl, refl, sym (eqb-true c 13 g))
written_at c false false false true b e f g h i = inl (34, refl, refl, sym (eqb-true c 34 h))
written_at c false false false false true e f g h i = inl (92, refl, refl, sym (eqb-true c 92 i))
written_at c false false false false false e f g h i = inr (refl, rw (h, i, f, g) refl)

is_written : (c : ℕ) → IsWritten c (as_escape c)
is_written c = written_at c (c == 9) (c == 10) (c == 13) (c == 34) (c == 92) refl refl refl refl refl

literal_other : (c d : ℕ) → is_literal c ≡ true → is_literal d ≡ false → c ≢ d
literal_other c d e f same = false≢true (sym f ∙ ap is_literal (sym same) ∙ e)

undone-written : (c : ℕ) (written rest : List ℕ) → IsWritten c written → undone 92 (written ++ rest) ≡ c ∷ undone 92 rest
undone-written c written rest w =
    elim w [
      | inl m ↦ ap (λ xs. undone 92 (xs ++ rest)) m.1 ∙ undone-pair 92 m.0 rest ∙ ap (λ x. x ∷ undone 92 rest) m.3
      | inr m ↦ ap (λ xs. undone 92 (xs ++ rest)) m.0 ∙ undone-other 92 c rest (literal_other c 92 m.1 refl)
    ]

undone-escapes : (text : List ℕ) → undone 92 (flat_map as_escape text) ≡ text
undone-escapes [] = refl
undone-escapes (c ∷ cs) = undone-written c (as_escape c) (flat_map as_escape cs) (is_written c) ∙ ap (λ xs. c ∷ xs) (undone-escapes cs)

closes_text-literal : (c : ℕ) (rest : List ℕ) → is_literal c ≡ true → closes_text (c ∷ rest) ≡ closes_text rest
closes_text-literal c [] e = ne_eqb c 34 (literal_other c 34 e refl)
closes_text-literal c (d ∷ rest) e =
    ap (λ b. cond b (is_escaped d && closes_text rest) (is_literal c && closes_text (d ∷ rest))) (ne_eqb c 92 (literal_other c 92 e refl)) ∙ ap (λ b. b && closes_text (d ∷ rest)) e

closes_text-written : (c : ℕ) (written rest : List ℕ) → IsWritten c written → closes_text (written ++ rest) ≡ closes_text rest
closes_text-written c written rest w =
    elim w [
      | inl m ↦ ap (λ xs. closes_text (xs ++ rest)) m.1 ∙ ap (λ b. b && closes_text rest) m.2
      | inr m ↦ ap (λ xs. closes_text (xs ++ rest)) m.0 ∙ closes_text-literal c rest m.1
    ]

closes_text-escapes : (text : List ℕ) → closes_text (flat_map as_escape text ++ 34 ∷ []) ≡ true
closes_text-escapes [] = refl
closes_text-escapes (c ∷ cs) =
    ap closes_text (append_assoc (as_escape c) (flat_map as_escape cs) (34 ∷ [])) ∙ closes_text-written c (as_escape c) (flat_map as_escape cs ++ 34 ∷ []) (is_written c) ∙ closes_text-escapes cs

short-literal : (c : ℕ) (rest : List ℕ) → (c == 34) ≡ false → begins_long (34 ∷ c ∷ rest) ≡ false
short-literal c [] e = refl
short-literal c (d ∷ rest) e = ap (λ b. b && d == 34) e

short-written : (c : ℕ) (written rest : List ℕ) → IsWritten c written → begins_long (34 ∷ (written ++ rest)) ≡ false
short-written c written rest w =
    elim w [
      | inl m ↦ ap (λ xs. begins_long (34 ∷ (xs ++ rest))) m.1
      | inr m ↦ ap (λ xs. begins_long (34 ∷ (xs ++ rest))) m.0 ∙ short-literal c rest (ne_eqb c 34 (literal_other c 34 m.1 refl))
    ]

short-escapes : (text : List ℕ) → begins_long (in_quotes text) ≡ false
short-escapes [] = refl
short-escapes (c ∷ cs) =
    ap (λ xs. begins_long (34 ∷ xs)) (append_assoc (as_escape c) (flat_map as_escape cs) (34 ∷ [])) ∙ short-written c (as_escape c) (flat_map as_escape cs ++ 34 ∷ []) (is_written c)

pub texts_in_quotes : (text : List ℕ) → Holds (in_quotes text) Text text
texts_in_quotes text =
    let inside = flat_map as_escape text in
    let slice = in_quotes text in
    (text_form (inside ++ 34 ∷ []) ∙ ap (λ b. kind_if (b || is_long_text slice) Text) (closes_text-escapes text), ap (λ b. cond b (unquoted 34 (unquoted 34 (unquoted 34 slice))) (undone 92 (unquoted 34 slice))) (short-escapes text) ∙ ap (undone 92) (strip_last-push 34 inside refl) ∙ undone-escapes text)
