-- One step of a walk over a text.
use Rattle.std.specs.Prelude.{ℕ, ◌+◌, ◌==◌, List, [], ◌∷◌, if◌then◌else◌}
use Rattle.esql_lex.specs.declared.body.Body.{Body}
use Rattle.esql_lex.specs.Forms.{mark_of, may_follow, stands_alone}

-- how long the next character or pair of a body is; 0 where none stands
abbrev pub step_len : Body → List ℕ → ℕ
step_len body [] = 0
step_len body (c ∷ []) = if stands_alone body c then 1 else 0
step_len body (c ∷ d ∷ cs) =
    if c == mark_of body then (if may_follow body d then 2 else 0)
    else (if stands_alone body c then 1 else 0)

-- up to the last backtick that may close a name; 0 where there is none
abbrev pub past : ℕ → ℕ → ℕ → ℕ
past step found more = if more == 0 then found else step + more

abbrev pub closing_len : List ℕ → ℕ
closing_len [] = 0
closing_len (c ∷ []) = if c == 96 then 1 else 0
closing_len (c ∷ d ∷ cs) =
    if c == 96 then (if d == 96 then past 2 1 (closing_len cs) else 1)
    else past 1 0 (closing_len (d ∷ cs))
