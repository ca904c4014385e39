-- The plain operations on whole numbers, by the kernels' constants.
use Rattle.std.specs.Prelude.{ℕ, ◌<◌, ◌^◌, Bool, not, ◌&&◌, ◌||◌, eqb, nat_lt, if◌then◌else◌, Option, Some, None}
use Rattle.std.specs.Int.RustNames.{int_lt, int_le, int_div, int_rem}
use Rattle.std.specs.Ordering.{int_eq}
use lib.IntN.{ℤ, pos, negsuc, ◌+ℤ◌, ◌-ℤ◌, ◌*ℤ◌}
use mir.Syntax.{Width}
use mir.Val.{hbits}

abbrev pub add : ℕ
add = 0

abbrev pub sub : ℕ
sub = 1

abbrev pub mul : ℕ
mul = 2

abbrev pub div : ℕ
div = 3

abbrev pub mod_of : ℕ
mod_of = 4

-- the constants from ADD to MOD, and those from EQ to GE
abbrev pub IsArithmetic : ℕ → Type 0
IsArithmetic op = op < 5

abbrev pub IsComparison : ℕ → Type 0
IsComparison op = op < 6

-- the number that an operation gives, which a width may not hold; quotients and remainders round toward zero
abbrev pub exact : ℕ → ℤ → ℤ → ℤ
exact op left right =
    if eqb op add then left +ℤ right else
    (if eqb op sub then left -ℤ right else
    (if eqb op mul then left *ℤ right else
    (if eqb op div then int_div left right else int_rem left right)))

-- whether an operation divides
abbrev pub divides : ℕ → Bool
divides op = eqb op div || eqb op mod_of

-- whether a signed number of the width can be the number
abbrev pub holds : Width → ℤ → Bool
holds w (pos n) = nat_lt n (2 ^ hbits w)
holds w (negsuc n) = nat_lt n (2 ^ hbits w)

-- an operation fails at a zero divisor, and where the width does not hold its result
abbrev pub fails : Width → ℕ → ℤ → ℤ → Bool
fails w op left right = (divides op && int_eq right (pos 0)) || not (holds w (exact op left right))

-- the result of an operation, and None where it fails
abbrev pub checked : Width → ℕ → ℤ → ℤ → Option ℤ
checked w op left right = if fails w op left right then None else Some (exact op left right)

-- what a place gets: the result where it is valid and does not fail, and else 0
abbrev pub result_at : Width → ℕ → Bool → ℤ → ℤ → ℤ
result_at w op valid left right = if valid && not (fails w op left right) then exact op left right else pos 0

-- whether a comparison holds
abbrev pub compares : ℕ → ℤ → ℤ → Bool
compares op left right =
    if eqb op 0 then int_eq left right else
    (if eqb op 1 then not (int_eq left right) else
    (if eqb op 2 then int_lt left right else
    (if eqb op 3 then int_le left right else
    (if eqb op 4 then int_lt right left else int_le right left))))
