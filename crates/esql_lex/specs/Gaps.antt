-- White space and comments.
use Rattle.std.specs.Prelude.{◌≡◌, ℕ, zero, suc, ◌+◌, ◌==◌, ◌&&◌, ◌||◌, not, eqb, Bool, false, List, [], ◌∷◌, ◌++◌, drop, Option, Some, None, length, is_none, codes, if◌then◌else◌}
use Rattle.std.specs.List.{prefix_len, starts_with}
use Rattle.std.specs.Option.{option_map}

-- space, tab, carriage return and line feed
abbrev pub is_white : ℕ → Bool
is_white c = ((c == 32 || c == 9) || c == 13) || c == 10

-- any character but a line feed
abbrev pub is_in_line : ℕ → Bool
is_in_line c = not (c == 10)

-- the text begins with the mark
abbrev pub begins : List ℕ → List ℕ → Bool
begins mark text = starts_with eqb text mark

-- the characters up to the first mark and the mark itself
abbrev pub end_of : List ℕ → List ℕ → Option ℕ
end_of mark [] = None
end_of mark (c ∷ cs) = if begins mark (c ∷ cs) then Some (length mark) else option_map (λ n. 1 + n) (end_of mark cs)

-- `//` begins a comment of one line
abbrev pub begins_line : List ℕ → Bool
begins_line [] = false
begins_line (c ∷ []) = false
begins_line (c ∷ d ∷ rest) = c == 47 && d == 47

-- `/*` begins a comment that `*/` ends
abbrev pub begins_block : List ℕ → Bool
begins_block [] = false
begins_block (c ∷ []) = false
begins_block (c ∷ d ∷ rest) = c == 47 && d == 42

abbrev pub begins_comment : List ℕ → Bool
begins_comment text = begins_line text || begins_block text

-- a comment is `//` to before the next line feed or the end, or `/*` to the first `*/` after it
unfoldable pub comment_len : List ℕ → Option ℕ
comment_len text =
    if begins_line text then Some (2 + prefix_len is_in_line (drop 2 text))
    else (if begins_block text then option_map (λ n. 2 + n) (end_of (codes "*/") (drop 2 text))
    else None)

-- the white space or comment that the text begins with
abbrev pub piece_len : List ℕ → Option ℕ
piece_len [] = None
piece_len (c ∷ cs) = if is_white c then Some 1 else comment_len (c ∷ cs)

-- so many pieces of white space and comments stand before the rest
abbrev pub BeginsWithPieces : ℕ → List ℕ → List ℕ → Type 0
BeginsWithPieces zero text rest = rest ≡ text
BeginsWithPieces (suc count) text rest = (len : ℕ) × (piece_len text ≡ Some len) × BeginsWithPieces count (drop len text) rest

-- the text is a gap, the longest run of white space and comments, and the rest
pub record SplitsGap (text gap rest : List ℕ) : Type 0 where
  pub cut : text ≡ gap ++ rest
  pub count : ℕ
  pub pieces : BeginsWithPieces count text rest
  pub whole : piece_len rest ≡ None

-- the text begins with a comment that has no end
abbrev pub begins_open_comment : List ℕ → Bool
begins_open_comment text = begins_block text && is_none (comment_len text)
