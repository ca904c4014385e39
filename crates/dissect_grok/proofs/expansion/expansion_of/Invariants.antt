use Rattle.std.proofs.Common.{◌≡◌, length}
use denote.Text.{Utf8}
use denote.Shadow.{shadow}
use Rattle.dissect_grok.specs.GrokParts.{read_in}
use Rattle.dissect_grok.specs.Groks.{nothing_read, read_from}
use Rattle.dissect_grok.proofs.expansion.expansion_of.Given as goal

abbrev pub invariant-loop-literal : goal.invariant-loop-literal
invariant-loop-literal l = shadow (Utf8 l.left) × (read_from nothing_read l.pattern ≡ read_from (read_in l.read) l.left)

abbrev pub decreases-loop-literal : goal.decreases-loop-literal
decreases-loop-literal l = length l.left
