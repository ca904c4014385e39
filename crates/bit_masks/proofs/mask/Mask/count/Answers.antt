use Rattle.std.proofs.Common.{rules, count_by, count_ones, ◌≡◌, ◌<◌, ◌^◌, ap, ◌∙◌, sym, subst, refl, ℕ, List, get_or, arith}
use Rattle.std.specs.List.{sum_by}
use Rattle.bit_masks.specs.Masks.{booleans}
use Rattle.bit_masks.proofs.Places.{length-booleans, words_fit}
use Rattle.bit_masks.proofs.Counts.{count_is}
use Rattle.std.proofs.lemmas.List.Sums.{count_by-le-length}
use Rattle.bit_masks.proofs.mask.Mask.count.Goals as goal

pub ones-requires : goal.ones-requires
ones-requires c =
    let words = c.self.inside.words.items in
    let long = length-booleans words c.self.inside.len in
    let fits : (k : ℕ) → get_or words k 0 < 2 ^ 64 = λ k. subst (λ (ws : List ℕ). get_or ws k 0 < 2 ^ 64) c.as_slice-words.ensures.value (c.type_inv.words k).fits in
    let counted = count_is words c.self.inside.len c.self.invariant.0 fits c.self.invariant.1 in
    let few = count_by-le-length (λ b. b) (booleans words c.self.inside.len) in
    let same : sum_by count_ones c.as_slice-words.result.now ≡ sum_by count_ones words = ap (sum_by count_ones) c.as_slice-words.ensures.value in
    omega arith

pub returns-then-self-eq0 : goal.returns-then-self-eq0
returns-then-self-eq0 c = subst (λ (n : ℕ). 0 ≡ count_by (λ b. b) (booleans c.self.inside.words.items n)) (sym c.if-self-eq0.true) refl ∙ ap (count_by (λ b. b)) c.self.view_is

pub returns : goal.returns
returns c =
    let words = c.self.inside.words.items in
    let fit = words_fit c.as_slice-words.result.now words c.as_slice-words.ensures.value (search rules) in
    c.ones.ensures
    ∙ ap (sum_by count_ones) c.as_slice-words.ensures.value
    ∙ count_is words c.self.inside.len c.self.invariant.0 fit c.self.invariant.1
    ∙ ap (count_by (λ b. b)) c.self.view_is
