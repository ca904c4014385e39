use Rattle.std.proofs.Common.{◌≡◌, ◌≤◌, ℕ, List, drop, false, is_some, length}
use Rattle.std.specs.List.{list_any}
use Rattle.dissect_grok.specs.Numbered.{number_at}
use Rattle.dissect_grok.specs.Patterns.{have_name_twice, is_named}
use Rattle.dissect_grok.specs.declared.keys.Key.{Key}
use Rattle.dissect_grok.proofs.names.have_name_twice.Given as goal

abbrev pub invariant-loop-place : goal.invariant-loop-place
invariant-loop-place l = record {
  within : l.place ≤ length l.keys;
  once : have_name_twice (drop l.place l.keys) ≡ false;
  noted : (name : List ℕ) → is_some (number_at l.noted name) ≡ list_any (λ (key : Key). is_named name key.form) (drop l.place l.keys);
}

abbrev pub decreases-loop-place : goal.decreases-loop-place
decreases-loop-place l = l.place
