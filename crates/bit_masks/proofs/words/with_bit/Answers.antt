use Rattle.std.proofs.Common.{w64}
use Rattle.std.proofs.lemmas.Nat.Bits.{bit_at_set_same, bit_at_set_other, bit_at_clear_same, bit_at_clear_other}
use Rattle.bit_masks.proofs.words.with_bit.Goals as goal

pub returns-then-value-clause-here : goal.returns-then-value-clause-here
returns-then-value-clause-here c = rw c.if-value.true (bit_at_set_same w64 c.args.word c.args.bit c.requires)

pub returns-then-value-clause-elsewhere : goal.returns-then-value-clause-elsewhere
returns-then-value-clause-elsewhere c = λ j below other. bit_at_set_other w64 c.args.word c.args.bit c.requires j other

pub returns-else-value-clause-here : goal.returns-else-value-clause-here
returns-else-value-clause-here c = rw c.if-value.false (bit_at_clear_same w64 c.args.word c.args.bit c.requires)

pub returns-else-value-clause-elsewhere : goal.returns-else-value-clause-elsewhere
returns-else-value-clause-elsewhere c = λ j below other. bit_at_clear_other w64 c.args.word c.args.bit c.requires j below other
