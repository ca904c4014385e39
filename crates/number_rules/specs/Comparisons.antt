-- Comparisons of values by their order.
use Rattle.std.specs.Prelude.{Bool, true, false}
use Rattle.std.specs.declared.cmp.Ordering.{Ordering}
use Rattle.std.specs.declared.cmp.Ordering.TheVariants.{Less as IsLess, Equal as IsEqual, Greater as IsGreater}
use Rattle.number_rules.specs.declared.Comparison.{Comparison}
use Rattle.number_rules.specs.declared.Comparison.TheVariants.{Equal, NotEqual, Less, LessEqual, Greater, GreaterEqual}

-- the comparison holds of two values that stand in the order
abbrev pub compares : Comparison → Ordering → Bool
compares Equal IsLess = false
compares Equal IsEqual = true
compares Equal IsGreater = false
compares NotEqual IsLess = true
compares NotEqual IsEqual = false
compares NotEqual IsGreater = true
compares Less IsLess = true
compares Less IsEqual = false
compares Less IsGreater = false
compares LessEqual IsLess = true
compares LessEqual IsEqual = true
compares LessEqual IsGreater = false
compares Greater IsLess = false
compares Greater IsEqual = false
compares Greater IsGreater = true
compares GreaterEqual IsLess = false
compares GreaterEqual IsEqual = true
compares GreaterEqual IsGreater = true
