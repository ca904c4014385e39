use Rattle.std.proofs.Common.{◌≤◌, ℕ, Option, sym, subst, arith}
use Rattle.std.specs.Prelude.{IfSome}
use Rattle.source_columns.proofs.sources.add_named.Goals as goal

pub overflow_cast-number : goal.overflow_cast-number
overflow_cast-number c =
    let small : c.in-Some.number.now ≤ 4294967295 =
    subst (λ (this : Option ℕ). IfSome this (λ number. number ≤ 4294967295)) (sym c.in-Some.ensures.value) (c.requires.few c.as_str.result.now) in
    omega arith
