-- What a last push leaves.
use Rattle.std.proofs.Common.{◌≡◌, ℕ, cond, List, ◌++◌, ◌∙◌, append_assoc, ap}
use Rattle.std.specs.Result.{is_ok, OnOk}
use Rattle.std.specs.declared.result.Result.{Result}
use Rattle.std.specs.declared.result.Result.TheVariants.{Ok, Err}

-- the text after the last of three pushes
pub pushed_third : {T E : Type 0} (result : Result T E) (old one two new first second third : List ℕ)
    → one ≡ old ++ first → two ≡ one ++ second → new ≡ cond (is_ok result) (two ++ third) two
    → OnOk result (new ≡ old ++ ((first ++ second) ++ third))
pushed_third (Ok x) old one two new first second third is_one is_two is_new =
    is_new
    ∙ ap (λ front. front ++ third) (is_two ∙ ap (λ front. front ++ second) is_one)
    ∙ ap (λ front. front ++ third) (append_assoc old first second)
    ∙ append_assoc old (first ++ second) third
pushed_third (Err e) old one two new first second third is_one is_two is_new = tt
