use Rattle.std.proofs.Common.{◌≡◌, length}
use denote.Text.{Utf8}
use denote.Shadow.{shadow}
use Rattle.dissect_grok.specs.Patterns.{keys_of}
use Rattle.dissect_grok.proofs.KeyRuns.{behind_keys}
use Rattle.dissect_grok.proofs.keys.keys_of.Given as goal

abbrev pub invariant-loop-part : goal.invariant-loop-part
invariant-loop-part l = shadow (Utf8 l.behind) × (keys_of l.text ≡ behind_keys l.keys (keys_of l.behind))

abbrev pub decreases-loop-part : goal.decreases-loop-part
decreases-loop-part l = length l.behind
