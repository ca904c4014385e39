-- A writer of records takes fields one after another.
use Rattle.std.proofs.Common.{◌≡◌, ◌≢◌, ℕ, suc, ◌+◌, ◌-◌, ◌^◌, ◌<◌, ◌≤◌, ◌==◌, ◌&&◌, ◌||◌, min, not, Bool, true, false, cond, List, [], ◌∷◌, ◌++◌, length, get_or, Some, IsUtf8, IfOk, Result, Ok, Err, inl, inr, refl, sym, ap, ◌∙◌, subst, arith, append_assoc, append-nil, length-append}
use Rattle.std.proofs.lemmas.Bool.{and_parts, cases_lt, cases_eq, ne_eqb}
use Rattle.std.proofs.lemmas.Str.{IsUtf8-append, IsUtf8-nil, IsUtf8-encode, encode_ascii, inside_one}
use lib.Utf8.{scalar, scalars, encode, encodes, low_scalar}
use Rattle.csv.specs.Writing.{default_writer, escaped, quoted, field_text, needs_quotes, next_sep, is_blank, row_body, row_text, tail_text, writer_setup, fields_written, has_written, writer_under, writer_pending}
use Rattle.csv.specs.declared.writer.QuoteStyle.TheVariants as style
use Rattle.csv.proofs.WriteFacts.{escaped-append, escaped-other, escaped-double, row-more, blank-more, row-final}
use Rattle.table_out.specs.Writers.{RecordWriter, Stands, TakesField, EndsRecord, text_in}

-- ---- what is written is UTF-8

ascii_then : (x : ℕ) (xs : List ℕ) → x < 128 → IsUtf8 xs → IsUtf8 (x ∷ xs)
ascii_then x xs small text = IsUtf8-append (x ∷ []) xs (subst IsUtf8 (encode_ascii x small) (IsUtf8-encode x (low_scalar x (omega arith)))) text

escaped_high : (xs : List ℕ) → ((k : ℕ) → k < length xs → 128 ≤ get_or xs k 0) → escaped default_writer xs ≡ xs
unfolding escaped
escaped_high [] high = refl
escaped_high (x ∷ xs) high =
    let big : 128 ≤ x = high 0 (omega arith) in
    let other : (x == 34) ≡ false = ne_eqb x 34 (λ same. omega arith) in
    rw other (ap (λ rest. x ∷ rest) (escaped_high xs (λ k below. high (suc k) (omega arith))))

escaped_character : (c : ℕ) → scalar c ≡ true → IsUtf8 (escaped default_writer (encode c))
escaped_character c ok = elim (cases_lt c 128) [
  | inl small ↦ elim (cases_eq c 34) [
    | inl quote ↦ rw (encode_ascii c small, escaped-double default_writer c quote refl) (ascii_then c _ small (ascii_then c _ small IsUtf8-nil))
    | inr other ↦ rw (encode_ascii c small, escaped-other default_writer c other) (ascii_then c _ small IsUtf8-nil)
  ]
  | inr big ↦
      let high : (k : ℕ) → k < length (encode c) → 128 ≤ get_or (encode c) k 0 = λ k below. elim (cases_lt (get_or (encode c) k 0) 128) [
        | inl low ↦ absurd (omega (arith, inside_one c [] (encode c) k (sym (append-nil _)) below low))
        | inr h ↦ h
      ] in
      subst IsUtf8 (sym (escaped_high (encode c) high)) (IsUtf8-encode c ok)
]

escaped_characters : (cs : List ℕ) → scalars cs ≡ true → IsUtf8 (escaped default_writer (encodes cs))
unfolding escaped
escaped_characters [] ok = IsUtf8-nil
escaped_characters (c ∷ cs) ok =
    let parts = and_parts _ _ ok in
    subst IsUtf8 (sym (escaped-append default_writer (encode c) (encodes cs))) (IsUtf8-append _ _ (escaped_character c parts.0) (escaped_characters cs parts.1))

quoted_utf8 : (field : List ℕ) → IsUtf8 field → IsUtf8 (quoted default_writer field)
quoted_utf8 field text =
    ascii_then 34 _ (omega arith) (IsUtf8-append _ _ (subst (λ bytes. IsUtf8 (escaped default_writer bytes)) text.1.1 (escaped_characters text.0 text.1.0)) (ascii_then 34 [] (omega arith) IsUtf8-nil))

either_utf8 : (chosen : Bool) (left right : List ℕ) → IsUtf8 left → IsUtf8 right → IsUtf8 (cond chosen left right)
either_utf8 true left right one other = one
either_utf8 false left right one other = other

field_utf8 : (field : List ℕ) → IsUtf8 field → IsUtf8 (field_text default_writer field)
field_utf8 field text = either_utf8 (needs_quotes default_writer field) _ _ (quoted_utf8 field text) text

separated_utf8 : (place : ℕ) (field : List ℕ) → IsUtf8 field → IsUtf8 (next_sep default_writer place ++ field_text default_writer field)
separated_utf8 place field text =
    IsUtf8-append _ _ (either_utf8 (place == 0) [] (44 ∷ []) IsUtf8-nil (ascii_then 44 [] (omega arith) IsUtf8-nil)) (field_utf8 field text)

tail_utf8 : (wrote : Bool) (fields : ℕ) → IsUtf8 (tail_text default_writer wrote fields)
tail_utf8 wrote fields =
    IsUtf8-append _ _ (either_utf8 (not wrote && ((fields == 0) || (fields == 1))) (34 ∷ 34 ∷ []) [] (ascii_then 34 _ (omega arith) (ascii_then 34 [] (omega arith) IsUtf8-nil)) IsUtf8-nil)
    (ascii_then 10 [] (omega arith) IsUtf8-nil)

-- ---- one field, and the end

module _ (old new : RecordWriter) where
  pub takes_field : (field : List ℕ) → IsUtf8 field
      → ((writer_setup old).style ≢ style.NonNumeric → text_in new ≡ text_in old ++ (next_sep (writer_setup old) (fields_written old) ++ field_text (writer_setup old) field))
      → writer_setup new ≡ writer_setup old
      → fields_written new ≡ min (fields_written old + 1) (2 ^ 64 - 1)
      → (has_written old ≡ false → (writer_setup old).style ≢ style.NonNumeric → has_written new ≡ not (length (field_text (writer_setup old) field) == 0))
      → (has_written old ≡ true → has_written new ≡ true)
      → TakesField old new field
  takes_field field utf8 text same count wrote stays before fields small stands =
      let default : writer_setup old ≡ default_writer = stands.0 in
      let necessary : (writer_setup old).style ≡ style.Necessary = ap (λ setup. setup.style) default in
      let plain : (writer_setup old).style ≢ style.NonNumeric = λ numeric. cc in
      let added : text_in new ≡ text_in old ++ (next_sep default_writer (length fields) ++ field_text default_writer field) = rw (default, stands.2) at (text plain) in
      let more : length (fields ++ field ∷ []) ≡ length fields + 1 = length-append fields (field ∷ []) in (
        same ∙ default,
        added
            ∙ ap (λ front. front ++ (next_sep default_writer (length fields) ++ field_text default_writer field)) stands.1
            ∙ append_assoc before (row_body default_writer fields) _
            ∙ ap (λ body. before ++ body) (sym (row-more default_writer fields field)),
        count ∙ ap (λ n. min (n + 1) (2 ^ 64 - 1)) stands.2 ∙ omega (arith, more),
        rw more (blank-more default_writer fields field (has_written old) (has_written new) stands.3 (λ nothing. rw default at (wrote nothing plain)) stays),
        subst IsUtf8 (sym added) (IsUtf8-append _ _ stands.4 (separated_utf8 (length fields) field utf8)),
      )

  pub ends_record : text_in new ≡ text_in old ++ tail_text (writer_setup old) (has_written old) (fields_written old)
      → writer_setup new ≡ writer_setup old → fields_written new ≡ 0 → has_written new ≡ false
      → EndsRecord old new
  unfolding is_blank
  ends_record text same none nothing before fields stands =
      let added : text_in new ≡ text_in old ++ tail_text default_writer (has_written old) (length fields) = rw (stands.0, stands.2) at text in
      let whole : text_in new ≡ before ++ row_text default_writer fields =
      row-final (Some before) (Some (text_in old)) (Some (text_in new)) default_writer fields (has_written old) (length fields) stands.1 stands.3 added in (
        same ∙ stands.0,
        whole ∙ sym (append-nil _),
        none,
        rw nothing refl,
        subst IsUtf8 (sym added) (IsUtf8-append _ _ stands.4 (tail_utf8 (has_written old) (length fields))),
      )

-- ---- from the start

pub starts : (writer : RecordWriter) → writer_setup writer ≡ default_writer → (writer_under writer).items ≡ [] → writer_pending writer ≡ []
    → fields_written writer ≡ 0 → has_written writer ≡ false → Stands writer [] []
unfolding is_blank
starts writer setup under pending none nothing =
    let empty : text_in writer ≡ [] = ap (λ front. front ++ writer_pending writer) under ∙ pending in
    (setup, empty, none, rw nothing refl, subst IsUtf8 (sym empty) IsUtf8-nil)

pub if_ok_too : {T E : Type 0} {P Q : T → Type 0} (result : Result T E) → ((value : T) → P value → Q value) → IfOk result P → IfOk result Q
if_ok_too (Ok value) more holds = more value holds
if_ok_too (Err error) more holds = tt
