-- What is wanted from a place on.
use Rattle.std.proofs.Common.{◌≡◌, ℕ, zero, suc, ◌+◌, ◌<◌, ◌≤◌, ◌%◌, ◌∷◌, drop, replicate, refl, arith}
use Rattle.esql_plan.specs.Signatures.{a_boolean, a_value, branch_wants}

pub drop-replicate : {Item : Type 0} (place count : ℕ) (item : Item) → place < count → drop place (replicate count item) ≡ item ∷ drop (suc place) (replicate count item)
drop-replicate place zero item within = absurd (omega arith)
drop-replicate zero (suc count) item within = refl
drop-replicate (suc place) (suc count) item within = drop-replicate place count item (omega arith)

-- a condition stands at each even place that is not the last
pub drop-condition : (place count : ℕ) → place % 2 ≡ 0 → place + 1 < count → drop place (branch_wants count) ≡ a_boolean ∷ drop (suc place) (branch_wants count)
drop-condition place zero even within = absurd (omega arith)
drop-condition place (suc zero) even within = absurd (omega arith)
drop-condition zero (suc (suc count)) even within = refl
drop-condition (suc zero) (suc (suc count)) even within = absurd (omega arith)
drop-condition (suc (suc place)) (suc (suc count)) even within = drop-condition place count (omega arith) (omega arith)

-- and a value at every other
pub drop-value : (place count : ℕ) → place < count → (place % 2 ≡ 0 → count ≤ place + 1) → drop place (branch_wants count) ≡ a_value ∷ drop (suc place) (branch_wants count)
drop-value place zero within last = absurd (omega arith)
drop-value zero (suc zero) within last = refl
drop-value (suc place) (suc zero) within last = absurd (omega arith)
drop-value zero (suc (suc count)) within last = absurd (let short = last refl in omega arith)
drop-value (suc zero) (suc (suc count)) within last = refl
drop-value (suc (suc place)) (suc (suc count)) within last =
    drop-value place count (omega arith) (λ even. let more : suc (suc place) % 2 ≡ 0 = omega arith in let short = last more in omega arith)
