-- Where the tokens of a text stand in it.
use Rattle.std.proofs.Common.{◌≡◌, ◌≢◌, Result, Ok, Err, ℕ, zero, suc, ◌+◌, ◌-◌, ◌<◌, ◌≤◌, Bool, true, false, ◌&&◌, cond, List, [], ◌∷◌, ◌++◌, take, drop, get_or, length, Option, Some, None, refl, sym, ap, ◌∙◌, subst, inl, inr, arith, append_assoc, length-append, length-drop}
use Rattle.std.specs.Prelude.{IfOk, IfErr, All, AllPairs, IsCharBoundary, IsUtf8, slice_range, eqb}
use Rattle.std.specs.List.{prefix_len}
use Rattle.std.specs.Option.{option_map}
use Rattle.std.proofs.lemmas.Bool.{false≢true}
use Rattle.std.proofs.lemmas.List.{take-append-drop, drop_at, take_at, length-take-le, take_all, append-nil, get_or_at, drop-drop}
use Rattle.std.proofs.lemmas.List.Folds.{drop_split}
use Rattle.std.proofs.lemmas.List.Elements.{All-nil, All-cons, All-push, All-weaker}
use Rattle.std.proofs.lemmas.List.Kept.{AllPairs-cons}
use Rattle.std.proofs.lemmas.Str.{IsCharBoundary-start, IsCharBoundary-end, IsCharBoundary-after_ascii, IsCharBoundary-before_ascii}
use Rattle.esql_lex.specs.declared.error.LexError.{LexError}
use Rattle.esql_lex.specs.declared.error.LexError.TheVariants.{BadCharacter, OpenString, BadEscape, OpenComment, WideNumber, Memory}
use Rattle.esql_lex.specs.declared.mode.Mode.{Mode}
use Rattle.esql_lex.specs.declared.mode.Mode.TheVariants.{Plain, Source, Pattern}
use Rattle.esql_lex.specs.declared.mode.State.{State}
use Rattle.esql_lex.specs.declared.mode.State.TheVariants.{First}
use Rattle.esql_lex.specs.declared.body.Body.TheVariants.{OfText}
use Rattle.esql_lex.specs.declared.token.Token.{Token}
use Rattle.esql_lex.specs.declared.token.TokenKind.TheVariants.{End}
use Rattle.esql_lex.specs.Forms.{form_of, body_len, bad_escape, begins_escape}
use Rattle.esql_lex.specs.Gaps.{is_white, is_in_line, begins, end_of, comment_len, piece_len, BeginsWithPieces, SplitsGap}
use Rattle.esql_lex.specs.Modes.{mode_of}
use Rattle.esql_lex.specs.Tokens.{BeginsWith, Divides, Tokens, LexFault, IsFaultAt, IsPartOf, FitsText, HasPlaceIn, Lexes, IsWantOfMemory, slice_of, pieces_of, HasForm, end_at, state_past}
use Rattle.esql_lex.proofs.Lists.{both_true, run_stops, drop_longer}
use Rattle.esql_lex.proofs.Opened.{IsBadEscape, bad_escape_is}
use Rattle.esql_lex.proofs.Pieces.{comment_is, piece_is, piece_size}
use Rattle.esql_lex.proofs.SliceEnds.{slice_ends_ascii, slice_no_end, form_is}
use Rattle.esql_lex.proofs.Slices.{slice_length}

-- a place after an ASCII character is the start of a character
after_ascii : (whole front back : List ℕ) (c : ℕ) → IsUtf8 whole → whole ≡ front ++ (c ∷ back) → c < 128 → IsCharBoundary whole (length front + 1)
after_ascii whole front back c utf8 cut ascii =
    let size : length whole ≡ length front + length (c ∷ back) = ap length cut ∙ length-append front (c ∷ back) in
    let here : get_or whole (length front) 0 ≡ c = ap (λ xs. get_or xs (length front) 0) cut ∙ get_or_at front c back 0 (length front) refl in
    IsCharBoundary-after_ascii whole (length front) utf8 (omega (arith, size)) (omega (arith, here, ascii))

-- a list with a character is its front and its last
last_of : (xs : List ℕ) → 0 < length xs → (front : List ℕ) × (c : ℕ) × (xs ≡ front ++ c ∷ [])
last_of [] l = absurd (omega arith)
last_of (x ∷ []) l = ([], x, refl)
last_of (x ∷ y ∷ ys) l =
    let more : (front : List ℕ) × (c : ℕ) × (y ∷ ys ≡ front ++ c ∷ []) = last_of (y ∷ ys) (omega arith) in
    (x ∷ more.0, more.1, ap (λ zs. x ∷ zs) more.2)

-- where the last character of a part is ASCII, the part ends at the start of a character
ends_at : (whole front part back : List ℕ) (place : ℕ) → IsUtf8 whole → whole ≡ front ++ (part ++ back) → place ≡ length front + length part → 0 < length part
    → ((xs : List ℕ) (c : ℕ) → part ≡ xs ++ c ∷ [] → c < 128) → IsCharBoundary whole place
ends_at whole front part back place utf8 cut size some ascii =
    let l : (xs : List ℕ) × (c : ℕ) × (part ≡ xs ++ c ∷ []) = last_of part some in
    let inner : part ++ back ≡ l.0 ++ (l.1 ∷ back) = ap (λ p. p ++ back) l.2 ∙ append_assoc l.0 (l.1 ∷ []) back in
    let whole_cut : whole ≡ (front ++ l.0) ++ (l.1 ∷ back) = cut ∙ ap (λ p. front ++ p) inner ∙ sym (append_assoc front l.0 (l.1 ∷ back)) in
    let count : length part ≡ length l.0 + 1 = ap length l.2 ∙ length-append l.0 (l.1 ∷ []) in
    let front_size : length (front ++ l.0) ≡ length front + length l.0 = length-append front l.0 in
    let at : place ≡ length (front ++ l.0) + 1 = omega (arith, size, count, front_size) in
    subst (IsCharBoundary whole) (sym at) (after_ascii whole (front ++ l.0) back l.1 utf8 whole_cut (ascii l.0 l.1 l.2))

white_ascii : (c : ℕ) → is_white c ≡ true → c < 128
white_ascii c e = grind arith

-- a place where an ASCII character stands, or the end, is the start of a character
at_ascii : (whole front back : List ℕ) (c : ℕ) → whole ≡ front ++ (c ∷ back) → c < 128 → IsCharBoundary whole (length front)
at_ascii whole front back c cut ascii =
    let size : length whole ≡ length front + length (c ∷ back) = ap length cut ∙ length-append front (c ∷ back) in
    let here : get_or whole (length front) 0 ≡ c = ap (λ xs. get_or xs (length front) 0) cut ∙ get_or_at front c back 0 (length front) refl in
    IsCharBoundary-before_ascii whole (length front) (omega (arith, size)) (omega (arith, here, ascii))

-- what stands after a first part of the text
record Cut (whole : List ℕ) (place : ℕ) (rest : List ℕ) : Type 0 where
  front : List ℕ
  cut : whole ≡ front ++ rest
  size : place ≡ length front

cut_more : (whole : List ℕ) (place : ℕ) (rest : List ℕ) (n : ℕ) → n ≤ length rest → Cut whole place rest → Cut whole (place + n) (drop n rest)
cut_more whole place rest n within c =
    let size : length (take n rest) ≡ n = length-take-le n rest within in
    record {
      front = c.front ++ take n rest;
      cut = c.cut ∙ ap (λ xs. c.front ++ xs) (sym (take-append-drop n rest)) ∙ sym (append_assoc c.front (take n rest) (drop n rest));
      size = let both : length (c.front ++ take n rest) ≡ length c.front + length (take n rest) = length-append c.front (take n rest) in omega (arith, both, size, c.size);
    }

-- after the line of a comment stands a line feed or the end
line_end : (whole : List ℕ) (place : ℕ) (rest : List ℕ) → Cut whole place rest → ((m : ℕ) (tail : List ℕ) → rest ≡ m ∷ tail → is_in_line m ≡ false) → IsCharBoundary whole place
line_end whole place [] c h =
    let end : length c.front ≡ length whole = sym (ap length (c.cut ∙ append-nil c.front)) in
    subst (IsCharBoundary whole) (sym (c.size ∙ end)) (IsCharBoundary-end whole)
line_end whole place (m ∷ tail) c h =
    let feed : is_in_line m ≡ false = h m tail refl in
    let ascii : m < 128 = grind arith in
    subst (IsCharBoundary whole) (sym c.size) (at_ascii whole c.front tail m c.cut ascii)

mark_ends : (whole : List ℕ) (place : ℕ) (x : ℕ) (rest : List ℕ) → IsUtf8 whole → Cut whole place (x ∷ rest) → begins (42 ∷ 47 ∷ []) (x ∷ rest) ≡ true → IsCharBoundary whole (place + 2)
mark_ends whole place x [] utf8 c b = absurd (false≢true (both_true (eqb 42 x) false b).1)
mark_ends whole place x (y ∷ rest) utf8 c b =
    let second : eqb 47 y ≡ true = (both_true (eqb 47 y) true (both_true (eqb 42 x) (eqb 47 y && true) b).1).0 in
    let ascii : y < 128 = grind arith in
    let d : Cut whole (place + 1) (y ∷ rest) = cut_more whole place (x ∷ y ∷ rest) 1 (omega arith) c in
    let two : length d.front + 1 ≡ place + 2 = omega (arith, d.size) in
    subst (IsCharBoundary whole) two (after_ascii whole d.front rest y utf8 d.cut ascii)

one_more : (o : Option ℕ) (n : ℕ) → option_map (λ m. 1 + m) o ≡ Some n → (m : ℕ) × (o ≡ Some m) × (n ≡ 1 + m)
one_more None n e = cc
one_more (Some m) n e = (m, refl, (let same : 1 + m ≡ n = cc in sym same))

mark_step : (whole : List ℕ) (place : ℕ) (x : ℕ) (rest : List ℕ) (n : ℕ) (b : Bool) → begins (42 ∷ 47 ∷ []) (x ∷ rest) ≡ b → IsUtf8 whole → Cut whole place (x ∷ rest)
    → cond b (Some 2) (option_map (λ m. 1 + m) (end_of (42 ∷ 47 ∷ []) rest)) ≡ Some n
    → ((m : ℕ) → Cut whole (place + 1) rest → end_of (42 ∷ 47 ∷ []) rest ≡ Some m → IsCharBoundary whole ((place + 1) + m)) → IsCharBoundary whole (place + n)
mark_step whole place x rest n true b utf8 c e ih = let two : 2 ≡ n = cc in subst (λ m. IsCharBoundary whole (place + m)) two (mark_ends whole place x rest utf8 c b)
mark_step whole place x rest n false b utf8 c e ih =
    let m : (m : ℕ) × (end_of (42 ∷ 47 ∷ []) rest ≡ Some m) × (n ≡ 1 + m) = one_more _ n e in
    let to : (place + 1) + m.0 ≡ place + n = omega (arith, m.2) in
    subst (IsCharBoundary whole) to (ih m.0 (cut_more whole place (x ∷ rest) 1 (omega arith) c) m.1)

-- a mark that ends in ASCII ends at the start of a character
ends_with_mark : (whole : List ℕ) (place : ℕ) (rest : List ℕ) (n : ℕ) → IsUtf8 whole → Cut whole place rest → end_of (42 ∷ 47 ∷ []) rest ≡ Some n → IsCharBoundary whole (place + n)
ends_with_mark whole place [] n utf8 c e = cc
ends_with_mark whole place (x ∷ rest) n utf8 c e = mark_step whole place x rest n _ refl utf8 c e (λ m d f. ends_with_mark whole (place + 1) rest m utf8 d f)

comment_ends : (whole : List ℕ) (place : ℕ) (text : List ℕ) (n : ℕ) → IsUtf8 whole → Cut whole place text → n ≤ length text → comment_len text ≡ Some n → IsCharBoundary whole (place + n)
comment_ends whole place text n utf8 c within e =
    elim (comment_is text n e) [
      | inl l ↦ (let line : List ℕ = drop 2 text in
          let k : (2 + prefix_len is_in_line line) ≡ n = sym l.size in
          let rest : drop (prefix_len is_in_line line) line ≡ drop n text = drop-drop (prefix_len is_in_line line) 2 text ∙ ap (λ m. drop m text) k in
          line_end whole (place + n) (drop n text) (cut_more whole place text n within c) (λ m tail f. run_stops is_in_line line tail m (rest ∙ f)))
      | inr b ↦ (let two : 2 ≤ length text = omega (arith, b.size, within) in
          let to : (place + 2) + b.inner ≡ place + n = omega (arith, b.size) in
          subst (IsCharBoundary whole) to (ends_with_mark whole (place + 2) (drop 2 text) b.inner utf8 (cut_more whole place text 2 two c) b.ends))
    ]

piece_ends : (whole : List ℕ) (place : ℕ) (text : List ℕ) (n : ℕ) → IsUtf8 whole → Cut whole place text → piece_len text ≡ Some n → IsCharBoundary whole (place + n)
piece_ends whole place [] n utf8 c e = cc
piece_ends whole place (x ∷ text) n utf8 c e =
    elim (piece_is x text n e) [
      | inl w ↦ (let to : length c.front + 1 ≡ place + n = let one : n ≡ 1 = w.1 in omega (arith, one, c.size) in
          subst (IsCharBoundary whole) to (after_ascii whole c.front text x utf8 c.cut (white_ascii x w.0)))
      | inr k ↦ comment_ends whole place (x ∷ text) n utf8 c (piece_size (x ∷ text) n e).1 k
    ]

pieces_end : (count : ℕ) (whole : List ℕ) (place : ℕ) (text back : List ℕ) (end : ℕ) → IsUtf8 whole → IsCharBoundary whole place → Cut whole place text → BeginsWithPieces count text back
    → end + length back ≡ place + length text → IsCharBoundary whole end
pieces_end zero whole place text back end utf8 b c p size = let n : length back ≡ length text = ap length p in let same : place ≡ end = omega (arith, n, size) in subst (IsCharBoundary whole) same b
pieces_end (suc count) whole place text back end utf8 b c p size =
    let s : (1 ≤ p.0) × (p.0 ≤ length text) = piece_size text p.0 p.1 in
    let rest : length (drop p.0 text) ≡ length text - p.0 = length-drop p.0 text in
    pieces_end count whole (place + p.0) (drop p.0 text) back end utf8 (piece_ends whole place text p.0 utf8 c p.1) (cut_more whole place text p.0 s.1 c) p.2 (omega (arith, size, rest, s.1))

-- a gap that begins at the start of a character ends at one
gap_ends : (whole gap back : List ℕ) (at : ℕ) → IsUtf8 whole → IsCharBoundary whole at → SplitsGap (drop at whole) gap back → IsCharBoundary whole (at + length gap)
gap_ends whole gap back at utf8 b s =
    let front : length (take at whole) ≡ at = length-take-le at whole b.0 in
    let size : length (drop at whole) ≡ length gap + length back = ap length s.cut ∙ length-append gap back in
    pieces_end s.count whole at (drop at whole) back (at + length gap) utf8 b (record { front = take at whole; cut = sym (take-append-drop at whole); size = sym front }) s.pieces (omega (arith, size))

-- how a token at or after a place cuts the text
pub record Cuts (whole : List ℕ) (at : ℕ) (slice : List ℕ) (token : Token) (after : List ℕ) : Type 0 where
  pub later : at ≤ token.span.from
  pub some : token.span.from < token.span.to
  pub within : token.span.to ≤ length whole
  pub front : List ℕ
  pub cut : whole ≡ front ++ (slice ++ after)
  pub from : token.span.from ≡ length front
  pub to : token.span.to ≡ length front + length slice
  pub rest : after ≡ drop token.span.to whole
  pub slice_is : slice_of whole token ≡ slice

token_cuts : (mode : Mode) (whole gap back after : List ℕ) (at : ℕ) (token : Token) → at ≤ length whole
    → SplitsGap (drop at whole) gap back → (b : BeginsWith mode (at + length gap) back token after) → Cuts whole at b.slice token after
token_cuts mode whole gap back after at token within s b =
    let size : length (take at whole) ≡ at = length-take-le at whole within in
    let some : 0 < length b.slice = slice_length mode back b.slice token.kind b.begins.has_form in
    let front : List ℕ = take at whole ++ gap in
    let front_size : length front ≡ at + length gap = length-append (take at whole) gap ∙ ap (λ n. n + length gap) size in
    let cut : whole ≡ front ++ (b.slice ++ after) =
    sym (take-append-drop at whole) ∙ ap (λ xs. take at whole ++ xs) (s.cut ∙ ap (λ xs. gap ++ xs) b.begins.cut) ∙ sym (append_assoc (take at whole) gap (b.slice ++ after)) in
    let from : token.span.from ≡ length front = b.from ∙ sym front_size in
    let to : token.span.to ≡ length front + length b.slice = b.to ∙ ap (λ n. n + length b.slice) (sym front_size) in
    let at_from : drop token.span.from whole ≡ b.slice ++ after = ap (λ n. drop n whole) from ∙ ap (drop (length front)) cut ∙ drop_at front (b.slice ++ after) (length front) refl in
    let count : token.span.to - token.span.from ≡ length b.slice = omega (arith, from, to) in
    let both : length (front ++ b.slice) ≡ token.span.to = length-append front b.slice ∙ sym to in
    let regrouped : whole ≡ (front ++ b.slice) ++ after = cut ∙ sym (append_assoc front b.slice after) in
    let total : length whole ≡ length (front ++ b.slice) + length after = ap length regrouped ∙ length-append (front ++ b.slice) after in
    record {
      later = omega (arith, b.from);
      some = omega (arith, from, to, some);
      within = omega (arith, total, both);
      front = front;
      cut = cut;
      from = from;
      to = to;
      rest = sym (ap (drop token.span.to) regrouped ∙ drop_at (front ++ b.slice) after token.span.to both);
      slice_is = ap (λ n. take n (drop token.span.from whole)) count ∙ ap (take (length b.slice)) at_from ∙ take_at b.slice after (length b.slice) refl;
    }

-- what is known of a token in a text, at or after a place
pub record Stands (whole : List ℕ) (at : ℕ) (token : Token) (after : List ℕ) : Type 0 where
  pub later : at ≤ token.span.from
  pub some : token.span.from < token.span.to
  pub starts : IsCharBoundary whole token.span.from
  pub ends : IsCharBoundary whole token.span.to
  pub rest : after ≡ drop token.span.to whole

token_stands : (mode : Mode) (whole gap back after : List ℕ) (at : ℕ) (token : Token) → IsUtf8 whole → IsCharBoundary whole at
    → SplitsGap (drop at whole) gap back → BeginsWith mode (at + length gap) back token after → Stands whole at token after
token_stands mode whole gap back after at token utf8 b s t =
    let cuts : Cuts whole at t.slice token after = token_cuts mode whole gap back after at token b.0 s t in
    record {
      later = cuts.later;
      some = cuts.some;
      starts = subst (IsCharBoundary whole) (sym t.from) (gap_ends whole gap back at utf8 b s);
      ends = ends_at whole cuts.front t.slice after token.span.to utf8 cuts.cut cuts.to (slice_length mode back t.slice token.kind t.begins.has_form)
          (λ xs c e. slice_ends_ascii mode back t.slice token.kind xs c t.begins.has_form e);
      rest = cuts.rest;
    }

part_of : (whole : List ℕ) (at : ℕ) (token : Token) (after : List ℕ) → Stands whole at token after → IsPartOf whole token
part_of whole at token after s = record { ordered = omega (arith, s.some); within = s.ends.0; starts = s.starts; ends = s.ends }

-- the tokens of a text from a place on
record FitsFrom (whole : List ℕ) (at : ℕ) (tokens : List Token) : Type 0 where
  parts : All (IsPartOf whole) tokens
  later : All (λ token. at ≤ token.span.from) tokens
  ordered : AllPairs (λ token later. token.span.to ≤ later.span.from) tokens
  count : length tokens + at ≤ length whole + 1

-- the end, with nothing before it but white space
fits_end : (whole rest : List ℕ) (at : ℕ) → IsCharBoundary whole at → rest ≡ drop at whole → FitsFrom whole at (end_at (at + length rest) ∷ [])
fits_end whole rest at b e =
    let size : at + length rest ≡ length whole = let n : length rest ≡ length whole - at = ap length e ∙ length-drop at whole in omega (arith, n, b.0) in
    let end : IsCharBoundary whole (at + length rest) = subst (IsCharBoundary whole) (sym size) (IsCharBoundary-end whole) in
    record {
      parts = All-cons (IsPartOf whole) (end_at (at + length rest)) [] (record { ordered = omega arith; within = end.0; starts = end; ends = end }) (All-nil (IsPartOf whole));
      later = All-cons (λ token. at ≤ token.span.from) (end_at (at + length rest)) [] (omega arith) (All-nil (λ token. at ≤ token.span.from));
      ordered = AllPairs-cons (λ token later. token.span.to ≤ later.span.from) (end_at (at + length rest)) [] (All-nil _) (λ i j d l m. absurd (omega arith));
      count = omega (arith, b.0);
    }

fits_more : (whole : List ℕ) (at : ℕ) (token : Token) (after : List ℕ) (tokens : List Token) → Stands whole at token after → FitsFrom whole token.span.to tokens → FitsFrom whole at (token ∷ tokens)
fits_more whole at token after tokens s f =
    let more : at ≤ token.span.to = omega (arith, s.later, s.some) in
    record {
      parts = All-cons (IsPartOf whole) token tokens (part_of whole at token after s) f.parts;
      later = All-cons (λ t. at ≤ t.span.from) token tokens s.later (All-weaker (λ t. token.span.to ≤ t.span.from) (λ t. at ≤ t.span.from) (λ t l. omega (arith, more, l)) tokens f.later);
      ordered = AllPairs-cons (λ t u. t.span.to ≤ u.span.from) token tokens f.later f.ordered;
      count = omega (arith, f.count, s.some, s.later);
    }

fits_division : (whole : List ℕ) (tokens : List Token) (state last : State) (at to : ℕ) (text rest : List ℕ) → IsUtf8 whole → IsCharBoundary whole at → text ≡ drop at whole
    → Divides tokens state at text last to rest → FitsFrom whole at (tokens ++ end_at (to + length rest) ∷ [])
fits_division whole [] state last at to text rest utf8 b e d =
    subst (λ n. FitsFrom whole at (end_at (n + length rest) ∷ [])) (sym d.1) (fits_end whole rest at b (d.2 ∙ e))
fits_division whole (t ∷ ts) state last at to text rest utf8 b e d =
    let s : Stands whole at t d.2 = token_stands (mode_of state) whole d.0 d.1 d.2 at t utf8 b (subst (λ xs. SplitsGap xs d.0 d.1) e d.3) d.4 in
    fits_more whole at t d.2 (ts ++ end_at (to + length rest) ∷ []) s (fits_division whole ts (state_past state t d.1) last t.span.to to d.2 rest utf8 s.ends s.rest d.5)

-- no token of a division is the end
no_end : (tokens : List Token) (state last : State) (at to : ℕ) (text rest : List ℕ) → Divides tokens state at text last to rest → All (λ token. token.kind ≢ End) tokens
no_end [] state last at to text rest d = All-nil (λ token. token.kind ≢ End)
no_end (t ∷ ts) state last at to text rest d = All-cons (λ token. token.kind ≢ End) t ts (slice_no_end (mode_of state) d.1 d.4.slice t.kind d.4.begins.has_form) (no_end ts (state_past state t d.1) last t.span.to to d.2 rest d.5)

-- the tokens of a text stand in it one after another
pub fits_text : (text : List ℕ) (tokens : List Token) → IsUtf8 text → Tokens text tokens → FitsText text tokens
fits_text text tokens utf8 t =
    let f : FitsFrom text 0 (t.front ++ end_at (t.to + length t.rest) ∷ []) = fits_division text t.front First t.last 0 t.to text t.rest utf8 (IsCharBoundary-start text utf8) refl t.divides in
    let g : FitsFrom text 0 tokens = subst (FitsFrom text 0) (sym t.whole) f in
    record {
      parts = g.parts;
      ordered = g.ordered;
      ends = record { front = t.front; last = end_at (t.to + length t.rest); whole = t.whole; end = refl; others = no_end t.front First t.last 0 t.to text t.rest t.divides };
      count = omega (arith, g.count);
    }

-- the place after a division is the start of a character
division_ends : (whole : List ℕ) (tokens : List Token) (state last : State) (at to : ℕ) (text rest : List ℕ) → IsUtf8 whole → IsCharBoundary whole at → text ≡ drop at whole
    → Divides tokens state at text last to rest → IsCharBoundary whole to × (rest ≡ drop to whole)
division_ends whole [] state last at to text rest utf8 b e d = (subst (IsCharBoundary whole) (sym d.1) b, d.2 ∙ e ∙ ap (λ n. drop n whole) (sym d.1))
division_ends whole (t ∷ ts) state last at to text rest utf8 b e d =
    let s : Stands whole at t d.2 = token_stands (mode_of state) whole d.0 d.1 d.2 at t utf8 b (subst (λ xs. SplitsGap xs d.0 d.1) e d.3) d.4 in
    division_ends whole ts (state_past state t d.1) last t.span.to to d.2 rest utf8 s.ends s.rest d.5

-- the backslash of a bad escape is ASCII
backslash : (xs : List ℕ) → begins_escape xs ≡ true → (back : List ℕ) × (xs ≡ 92 ∷ back)
backslash [] e = absurd (false≢true e)
backslash (c ∷ cs) e = let same : c ≡ 92 = grind arith in (cs, ap (λ x. x ∷ cs) same)

escape_at : (c : ℕ) (cs : List ℕ) (offset : ℕ) → IsBadEscape c cs offset → (back : List ℕ) × (drop offset (c ∷ cs) ≡ 92 ∷ back)
escape_at c cs offset b =
    let d : drop offset (c ∷ cs) ≡ drop (body_len OfText cs) cs = ap (λ n. drop n (c ∷ cs)) b.place ∙ drop_longer (body_len OfText cs) c cs in
    let r : (back : List ℕ) × (drop (body_len OfText cs) cs ≡ 92 ∷ back) = backslash (drop (body_len OfText cs) cs) b.escape in
    (r.0, d ∙ r.1)

bad_place : (whole : List ℕ) (place : ℕ) (text : List ℕ) (c : ℕ) (cs : List ℕ) (offset : ℕ) → place ≤ length whole → drop place whole ≡ c ∷ cs → IsBadEscape c cs offset → IsCharBoundary whole (place + offset)
bad_place whole place text c cs offset within e b =
    let k : (back : List ℕ) × (drop offset (c ∷ cs) ≡ 92 ∷ back) = escape_at c cs offset b in
    let rest : drop (place + offset) whole ≡ 92 ∷ k.0 = sym (drop-drop offset place whole) ∙ ap (drop offset) e ∙ k.1 in
    let size : length (drop (place + offset) whole) ≡ length whole - (place + offset) = length-drop (place + offset) whole in
    let some : length (drop (place + offset) whole) ≡ suc (length k.0) = ap length rest in
    let l : place + offset < length whole = omega (arith, size, some) in
    let front : length (take (place + offset) whole) ≡ place + offset = length-take-le (place + offset) whole (omega (arith, l)) in
    subst (IsCharBoundary whole) front (at_ascii whole (take (place + offset) whole) k.0 92 (sym (take-append-drop (place + offset) whole) ∙ ap (λ xs. take (place + offset) whole ++ xs) rest) (omega arith))

escape_place : (whole : List ℕ) (place : ℕ) (mode : Mode) (text : List ℕ) (offset : ℕ) → place ≤ length whole → drop place whole ≡ text → bad_escape mode text ≡ Some offset → IsCharBoundary whole (place + offset)
escape_place whole place Plain [] offset within e b = cc
escape_place whole place Plain (c ∷ cs) offset within e b = bad_place whole place (c ∷ cs) c cs offset within e (bad_escape_is c cs offset b)
escape_place whole place Source text offset within e b = cc
escape_place whole place Pattern text offset within e b = cc

has_place : (mode : Mode) (whole : List ℕ) (place : ℕ) (text : List ℕ) (fault : LexError) → IsCharBoundary whole place → drop place whole ≡ text → IsFaultAt mode place text fault → HasPlaceIn whole fault
has_place mode whole place text (BadCharacter at) b e f = subst (IsCharBoundary whole) (sym f.0) b
has_place mode whole place text (WideNumber at) b e f = subst (IsCharBoundary whole) (sym f.0) b
has_place mode whole place text (OpenString at) b e f = subst (IsCharBoundary whole) (sym f.0) b
has_place mode whole place text (BadEscape at) b e f = subst (IsCharBoundary whole) (sym f.2) (escape_place whole place mode text f.0 b.0 e f.1)
has_place mode whole place text (OpenComment at) b e f = subst (IsCharBoundary whole) (sym f.0) b
has_place mode whole place text (Memory error) b e f = tt

-- the first fault of a text stands at the start of a character
pub fault_place : (text : List ℕ) (fault : LexError) → IsUtf8 text → LexFault text fault → HasPlaceIn text fault
fault_place text fault utf8 l =
    let d : IsCharBoundary text l.to × (l.rest ≡ drop l.to text) = division_ends text l.front First l.last 0 l.to text l.rest utf8 (IsCharBoundary-start text utf8) refl l.divides in
    let b : IsCharBoundary text (l.to + length l.gap) = gap_ends text l.gap l.back l.to utf8 d.0 (subst (λ xs. SplitsGap xs l.gap l.back) d.1 l.splits) in
    let cut : drop l.to text ≡ l.gap ++ l.back = sym d.1 ∙ l.splits.cut in
    let back : drop (l.to + length l.gap) text ≡ l.back = sym (drop-drop (length l.gap) l.to text) ∙ ap (drop (length l.gap)) cut ∙ drop_at l.gap l.back (length l.gap) refl in
    has_place (mode_of l.last) text (l.to + length l.gap) l.back fault b back l.stands

pub fit_tokens : (text : List ℕ) (result : Result (List Token) LexError) → IsUtf8 text
    → Lexes text result → IfOk result (FitsText text)
fit_tokens text (Ok tokens) utf8 right = fits_text text tokens utf8 right
fit_tokens text (Err error) utf8 right = tt

refused_place : (text : List ℕ) (error : LexError) → IsWantOfMemory error → HasPlaceIn text error
refused_place text (Memory error) w = tt
refused_place text (BadCharacter at) w = absurd w
refused_place text (WideNumber at) w = absurd w
refused_place text (OpenString at) w = absurd w
refused_place text (BadEscape at) w = absurd w
refused_place text (OpenComment at) w = absurd w

pub fault_places : (text : List ℕ) (result : Result (List Token) LexError) → IsUtf8 text
    → Lexes text result → IfErr result (HasPlaceIn text)
fault_places text (Ok tokens) utf8 right = tt
fault_places text (Err error) utf8 (inl w) = refused_place text error w
fault_places text (Err error) utf8 (inr f) = fault_place text error utf8 f

pub tokens_are_parts : (text : List ℕ) (tokens : List Token) → IsUtf8 text → Tokens text tokens → All (IsPartOf text) tokens
tokens_are_parts text tokens utf8 t = (fits_text text tokens utf8 t).parts

pieces_join_from : (whole : List ℕ) (tokens : List Token) (state last : State) (at to : ℕ) (text rest : List ℕ) → at ≤ length whole → text ≡ drop at whole
    → Divides tokens state at text last to rest → pieces_of whole at (tokens ++ end_at (to + length rest) ∷ []) ≡ drop at whole
pieces_join_from whole [] state last at to text rest within e d =
    let size : length (drop at whole) ≡ length whole - at = length-drop at whole in
    let all : length rest ≡ length (drop at whole) = ap length (d.2 ∙ e) in
    let end : to + length rest ≡ at + length (drop at whole) = omega (arith, all, d.1) in
    let gap : slice_range whole at (to + length rest) ≡ drop at whole =
    ap (slice_range whole at) end ∙ (let n : at + length (drop at whole) - at ≡ length (drop at whole) = omega arith in ap (λ m. take m (drop at whole)) n) ∙ take_all (length (drop at whole)) (drop at whole) (omega arith) in
    let none : slice_range whole (to + length rest) (to + length rest) ≡ [] = (let n : to + length rest - (to + length rest) ≡ 0 = omega arith in ap (λ m. take m (drop (to + length rest) whole)) n) in
    let last : slice_range whole (to + length rest) (to + length rest) ++ [] ≡ [] = ap (λ xs. xs ++ []) none in
    ap (λ xs. slice_range whole at (to + length rest) ++ xs) last ∙ append-nil (slice_range whole at (to + length rest)) ∙ gap
pieces_join_from whole (t ∷ ts) state last at to text rest within e d =
    let cuts : Cuts whole at d.4.slice t d.2 = token_cuts (mode_of state) whole d.0 d.1 d.2 at t within (subst (λ xs. SplitsGap xs d.0 d.1) e d.3) d.4 in
    let more : pieces_of whole t.span.to (ts ++ end_at (to + length rest) ∷ []) ≡ drop t.span.to whole = pieces_join_from whole ts (state_past state t d.1) last t.span.to to d.2 rest cuts.within cuts.rest d.5 in
    let slice : drop t.span.from whole ≡ slice_of whole t ++ drop t.span.to whole = drop_split whole t.span.from t.span.to (omega (arith, cuts.some)) in
    let gap : drop at whole ≡ slice_range whole at t.span.from ++ drop t.span.from whole = drop_split whole at t.span.from cuts.later in
    ap (λ xs. slice_range whole at t.span.from ++ (slice_of whole t ++ xs)) more ∙ ap (λ xs. slice_range whole at t.span.from ++ xs) (sym slice) ∙ sym gap

-- the pieces of a text, joined, are the text
pub pieces_join : (text : List ℕ) (tokens : List Token) → Tokens text tokens → pieces_of text 0 tokens ≡ text
pieces_join text tokens t = ap (pieces_of text 0) t.whole ∙ pieces_join_from text t.front First t.last 0 t.to text t.rest (omega arith) refl t.divides

forms_from : (whole : List ℕ) (tokens : List Token) (state last : State) (at to : ℕ) (text rest : List ℕ) → at ≤ length whole → text ≡ drop at whole
    → Divides tokens state at text last to rest → All (HasForm whole) tokens
forms_from whole [] state last at to text rest within e d = All-nil (HasForm whole)
forms_from whole (t ∷ ts) state last at to text rest within e d =
    let cuts : Cuts whole at d.4.slice t d.2 = token_cuts (mode_of state) whole d.0 d.1 d.2 at t within (subst (λ xs. SplitsGap xs d.0 d.1) e d.3) d.4 in
    All-cons (HasForm whole) t ts (inr (mode_of state, ap (form_of (mode_of state)) cuts.slice_is ∙ form_is (mode_of state) d.1 d.4.slice t.kind d.4.begins.has_form)) (forms_from whole ts (state_past state t d.1) last t.span.to to d.2 rest cuts.within cuts.rest d.5)

-- the slices of a text have the forms of their kinds
pub slices_have_forms : (text : List ℕ) (tokens : List Token) → Tokens text tokens → All (HasForm text) tokens
slices_have_forms text tokens t =
    subst (All (HasForm text)) (sym t.whole) (All-push (HasForm text) t.front (end_at (t.to + length t.rest)) (forms_from text t.front First t.last 0 t.to text t.rest (omega arith) refl t.divides) (inl refl))
