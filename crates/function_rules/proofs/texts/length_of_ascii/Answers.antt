use Rattle.std.proofs.Common.{length, min, ap}
use Rattle.std.proofs.lemmas.Str.{chars-IsAscii}
use Rattle.function_rules.proofs.texts.length_of_ascii.Goals as goal

pub returns : goal.returns
returns c = λ text ascii. ap (λ characters. min (length characters) 2147483647) (chars-IsAscii text ascii)
