-- Texts cut at other texts, by bytes.
use Rattle.std.specs.Prelude.{ℕ, zero, suc, ◌-◌, nat_eq, List, [], ◌∷◌, length, take, drop, Option, Some, None, option_map, if◌then◌else◌}
use Rattle.std.specs.List.{starts_with, ends_with}

-- the text behind a front, where it begins with the front
abbrev pub behind_front : List ℕ → List ℕ → Option (List ℕ)
behind_front front text = if starts_with nat_eq text front then Some (drop (length front) text) else None

-- the text before a back, where it ends with the back
abbrev pub before_back : List ℕ → List ℕ → Option (List ℕ)
before_back back text = if ends_with nat_eq text back then Some (take (length text - length back) text) else None

-- nothing before a text
abbrev pub with_nothing : List ℕ → List ℕ × List ℕ
with_nothing rest = ([], rest)

-- a text cut in two, with one more byte at its front
abbrev pub with_byte : ℕ → List ℕ × List ℕ → List ℕ × List ℕ
with_byte byte parts = (byte ∷ parts.0, parts.1)

-- the text before the first occurrence of a delimiter, and the text behind it
abbrev pub cut_at : List ℕ → List ℕ → Option (List ℕ × List ℕ)
cut_at delimiter [] = option_map with_nothing (behind_front delimiter [])
cut_at delimiter (byte ∷ bytes) =
    if starts_with nat_eq (byte ∷ bytes) delimiter
    then Some (with_nothing (drop (length delimiter) (byte ∷ bytes)))
    else option_map (with_byte byte) (cut_at delimiter bytes)

-- the text behind so many bytes of a delimiter that are still to be passed, and behind the copies of it that stand there
abbrev pub behind_bytes : List ℕ → ℕ → List ℕ → List ℕ
behind_bytes delimiter skip [] = []
behind_bytes delimiter (suc skip) (byte ∷ bytes) = behind_bytes delimiter skip bytes
behind_bytes delimiter zero (byte ∷ bytes) =
    if starts_with nat_eq (byte ∷ bytes) delimiter then behind_bytes delimiter (length delimiter - 1) bytes else byte ∷ bytes

-- the text behind all copies of a delimiter that it begins with; no such delimiter is empty
abbrev pub behind_copies : List ℕ → List ℕ → List ℕ
behind_copies delimiter text = behind_bytes delimiter 0 text
