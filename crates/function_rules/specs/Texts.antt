-- Functions on texts, which are the UTF-8 bytes of characters. Characters are Unicode scalar values.
use Rattle.std.specs.Prelude.{ℕ, zero, suc, ◌+◌, ◌-◌, ℤ, pos, negsuc, min, Bool, nat_eq, List, [], ◌∷◌, ◌++◌, length, take, drop, Option, Some, None, Result, Ok, Err, if◌then◌else◌}
use Rattle.std.specs.List.{starts_with, ends_with}
use Rattle.std.specs.Str.{chars, encode_utf8_all}

-- LENGTH: how many characters a text has, at most 2147483647
abbrev pub length_of : List ℕ → ℕ
length_of text = min (length (chars text)) 2147483647

-- how many characters stand before a start, which counts from 1 or from the end; 0 counts as 1, and a start before the first
-- character is moved to it
abbrev pub before_start : ℤ → ℕ → ℕ
before_start (pos zero) count = 0
before_start (pos (suc place)) count = place
before_start (negsuc back) count = count - (back + 1)

-- the characters from a start on
abbrev pub chars_from : List ℕ → ℤ → List ℕ
chars_from text start = drop (before_start start (length (chars text))) (chars text)

-- SUBSTRING without a length: the text from a start to its end
abbrev pub substring_from : List ℕ → ℤ → List ℕ
substring_from text start = encode_utf8_all (chars_from text start)

-- SUBSTRING with a length: so many characters from a start on, or all that there are; a negative length is refused
abbrev pub substring_of : List ℕ → ℤ → ℤ → Result (List ℕ) ℤ
substring_of text start (pos count) = Ok (encode_utf8_all (take count (chars_from text start)))
substring_of text start (negsuc below) = Err (negsuc below)

-- LEFT: the first characters, all where the count is larger, none where it is below 1
abbrev pub left_of : List ℕ → ℤ → List ℕ
left_of text (pos count) = encode_utf8_all (take count (chars text))
left_of text (negsuc below) = []

-- RIGHT: the last characters, all where the count is larger, none where it is below 1
abbrev pub right_of : List ℕ → ℤ → List ℕ
right_of text (pos count) = encode_utf8_all (drop (length (chars text) - count) (chars text))
right_of text (negsuc below) = []

-- STARTS_WITH, ENDS_WITH: by bytes
abbrev pub begins_with : List ℕ → List ℕ → Bool
begins_with text front = starts_with nat_eq text front

abbrev pub finishes_with : List ℕ → List ℕ → Bool
finishes_with text back = ends_with nat_eq text back

-- one more byte at the front of the first piece
abbrev pub with_first : ℕ → List (List ℕ) → List (List ℕ)
with_first byte [] = (byte ∷ []) ∷ []
with_first byte (piece ∷ pieces) = (byte ∷ piece) ∷ pieces

-- the pieces of a text behind so many bytes of a delimiter that are still to be passed
abbrev pub pieces_behind : List ℕ → ℕ → List ℕ → List (List ℕ)
pieces_behind delimiter skip [] = [] ∷ []
pieces_behind delimiter (suc skip) (byte ∷ bytes) = pieces_behind delimiter skip bytes
pieces_behind delimiter zero (byte ∷ bytes) =
    if starts_with nat_eq (byte ∷ bytes) delimiter
    then [] ∷ pieces_behind delimiter (length delimiter - 1) bytes
    else with_first byte (pieces_behind delimiter zero bytes)

-- SPLIT: the pieces between the occurrences of a delimiter from the left, empty ones kept; no delimiter is empty
abbrev pub split_of : List ℕ → List ℕ → List (List ℕ)
split_of text delimiter = pieces_behind delimiter 0 text

-- texts with a delimiter between each two, as MV_CONCAT joins them
abbrev pub joined : List ℕ → List (List ℕ) → List ℕ
joined delimiter [] = []
joined delimiter (first ∷ []) = first
joined delimiter (first ∷ second ∷ rest) = first ++ (delimiter ++ joined delimiter (second ∷ rest))
