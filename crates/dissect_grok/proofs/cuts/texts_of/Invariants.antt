use Rattle.std.proofs.Common.{◌≡◌, drop, map}
use denote.Text.{Utf8}
use denote.Shadow.{shadow}
use Rattle.dissect_grok.specs.Cuts.{texts_of}
use Rattle.dissect_grok.proofs.Taken.{behind_texts}
use Rattle.dissect_grok.proofs.cuts.texts_of.Given as goal

abbrev pub invariant-loop-key : goal.invariant-loop-key
invariant-loop-key l =
    shadow (Utf8 l.left) × (texts_of l.keys l.text ≡ behind_texts (map (λ text. text.now) l.texts.items) (texts_of (drop l.key-index l.keys) l.left))
