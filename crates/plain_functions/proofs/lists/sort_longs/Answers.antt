use Rattle.std.proofs.Common.{◌≡◌, List, map, refl, sym, ap, ◌∙◌, subst}
use Rattle.std.specs.Prelude.{Bool, IfOk}
use Rattle.esql_types.specs.declared.value.Value.{Value}
use Rattle.esql_types.specs.declared.value.Value.TheVariants.{Long}
use Rattle.function_rules.specs.Lists.{sorted_by}
use Rattle.plain_functions.specs.Values.{directed_cmp}
use Rattle.plain_functions.proofs.SortedNumbers.{sorted_down, sorted_up}
use Rattle.plain_functions.proofs.lists.sort_longs.Goals as goal
use Rattle.plain_functions.proofs.lists.sort_longs.Goals.{then-descending, else-descending}

pub returns : goal.returns
returns c =
    let values = c.args.values.now in
    let numbers = c.in-Some.numbers.items in
    let sorted = c.sort_unstable.new.self.items in
    let taken : map Long numbers ≡ values = rw c.in-Some.is at c.in_ok-numbers.ensures.some in
    let moved = c.sort_unstable.ensures.permutation in
    let in_order = c.sort_unstable.ensures.sorted in
    let same : map Long c.if-descending.numbers.items ≡ sorted_by (directed_cmp c.args.descending) values =
    elim c.if-descending.branch [
      | then-descending w ↦
          ap (λ vec. map Long vec.items) w.numbers-is
          ∙ ap (map Long) w.reverse.ensures.items
          ∙ sorted_down Long (λ left right. refl) values numbers sorted taken moved in_order
          ∙ ap (λ (descending : Bool). sorted_by (directed_cmp descending) values) (sym w.if-descending.true)
      | else-descending w ↦
          ap (λ vec. map Long vec.items) w.numbers-is
          ∙ sorted_up Long (λ left right. refl) values numbers sorted taken moved in_order
          ∙ ap (λ (descending : Bool). sorted_by (directed_cmp descending) values) (sym w.if-descending.false)
    ] in
    subst (λ (items : List Value). IfOk c.cell_of_longs.result (λ cell. cell ≡ items)) (ap (map Long) c.deref.ensures.value ∙ same) c.cell_of_longs.ensures
