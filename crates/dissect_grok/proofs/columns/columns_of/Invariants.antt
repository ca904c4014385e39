use Rattle.std.proofs.Common.{◌≡◌, take}
use Rattle.dissect_grok.specs.Groks.{columns_of}
use Rattle.dissect_grok.proofs.columns.columns_of.Given as goal

abbrev pub invariant-loop-place : goal.invariant-loop-place
invariant-loop-place l = l.columns ≡ columns_of (take l.place-index l.places)
