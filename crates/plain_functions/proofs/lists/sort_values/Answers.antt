use Rattle.std.proofs.Common.{◌≡◌, List, rules, subst}
use Rattle.std.specs.List.Sorted.{IsPermutation, IsSorted}
use Rattle.std.specs.Ordering.{is_lt}
use Rattle.std.specs.Prelude.{IfOk}
use Rattle.std.proofs.lemmas.Fn.{always_returns_same}
use Rattle.std.proofs.lemmas.List.Sorted.{ranks_by}
use Rattle.esql_types.specs.declared.value.Value.{Value}
use Rattle.function_rules.specs.Lists.{sorted_by}
use Rattle.function_rules.proofs.ListsSorted.{sorted_once}
use Rattle.plain_functions.specs.ValueOrder.{directed_exact, directed_total}
use Rattle.plain_functions.specs.Values.{directed_cmp}
use Rattle.plain_functions.proofs.lists.sort_values.Goals as goal

pub returns : goal.returns
returns c =
    let values = c.args.values.now in
    let order = directed_cmp c.args.descending in
    let total = directed_total c.args.descending in
    let sorted = c.sort_unstable_by.new.self.items in
    let moved : IsPermutation values sorted =
    subst (λ (items : List Value). IsPermutation items sorted) c.in_ok-sorted.ensures c.sort_unstable_by.ensures.permutation in
    let up : IsSorted order sorted =
    c.sort_unstable_by.ensures.sorted (λ left right. is_lt (order left right)) (ranks_by total (λ value. value))
    (always_returns_same _ _ _ (λ a r f' k. search rules)) in
    let same : sorted ≡ sorted_by order values = sorted_once order total (directed_exact c.args.descending) values sorted moved up in
    subst (λ (items : List Value). IfOk c.cell_of.result (λ cell. cell ≡ items)) same c.cell_of.ensures
