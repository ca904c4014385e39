use Rattle.std.proofs.Common.{◌≡◌, ℕ, List, false, sym, ap, ◌∙◌}
use Rattle.std.specs.List.{slice_get}
use Rattle.std.specs.Str.{bytes_eq}
use Rattle.std.proofs.lemmas.Slice.Eq.{bytes_eq-Decides}
use Rattle.name_rules.specs.Renames.{called, let_go, seen_of}
use Rattle.name_rules.proofs.RenameSteps.{pair_seen, pair_same}
use Rattle.name_rules.proofs.renames.rename_pair.Goals as goal

pub returns-then-eq-clause-seen : goal.returns-then-eq-clause-seen
returns-then-eq-clause-seen c =
    let same = (bytes_eq-Decides c.as_str-before.result.now c.as_str-after.result.now).0 (sym c.eq.ensures ∙ c.if-eq.true) in
    pair_same c.args.pair.now (seen_of c.args.renames) (sym c.as_str-before.ensures ∙ same ∙ c.as_str-after.ensures)

pub returns-clause-seen : goal.returns-clause-seen
returns-clause-seen c =
    let differ : bytes_eq c.args.pair.now.before.name c.args.pair.now.after.name ≡ false =
    sym (λ i. bytes_eq (c.as_str-before.ensures i) (c.as_str-after.ensures i)) ∙ sym c.eq.ensures ∙ c.if-eq.false in
    pair_seen c.args.pair.now c.args.renames.names _ 0 c.args.renames.firsts differ (λ (at : ℕ).
    c.in_ok-call.ensures.names at
    ∙ (λ i. called (c.as_str-before.ensures i) c.args.pair.now.after.name
    ((c.let_go.ensures.names at ∙ ap (λ (name : List ℕ). let_go name (slice_get c.args.renames.names at)) c.as_str-after.ensures) i)))
