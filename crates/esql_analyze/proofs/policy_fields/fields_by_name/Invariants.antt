use Rattle.std.proofs.Common.{◌≡◌, ℕ, ◌-◌, List, drop, length}
use Rattle.std.specs.BTreeMap.{get_by}
use Rattle.std.specs.Cmp.Lexicographic.{slice_cmp}
use Rattle.std.specs.Ordering.{nat_cmp}
use Rattle.esql_analyze.proofs.PolicyFields.{placed_from}
use Rattle.esql_analyze.proofs.policy_fields.fields_by_name.Given as goal

abbrev pub invariant-loop-back : goal.invariant-loop-back
invariant-loop-back l = (name : List ℕ) →
    get_by (λ key. slice_cmp nat_cmp name key.now) l.named ≡ placed_from (drop (length l.fields - l.back) l.fields) (length l.fields - l.back) name
