-- Each function is called by its rule.
use Rattle.std.proofs.Common.{◌≡◌, refl}
use Rattle.esql_plan.specs.declared.function.Function.{Function}
use Rattle.esql_plan.specs.declared.function.Function.TheVariants as function
use Rattle.esql_plan.specs.Functions.{rule_of}
use Rattle.scalar_functions.specs.Calls.{call_of, rule_of_call}

pub call_rule : (function : Function) → rule_of function ≡ rule_of_call (call_of function)
call_rule function.Add = refl
call_rule function.Sub = refl
call_rule function.Mul = refl
call_rule function.Div = refl
call_rule function.Mod = refl
call_rule function.Neg = refl
call_rule function.Abs = refl
call_rule function.Eq = refl
call_rule function.Ne = refl
call_rule function.Lt = refl
call_rule function.Le = refl
call_rule function.Gt = refl
call_rule function.Ge = refl
call_rule function.And = refl
call_rule function.Or = refl
call_rule function.Not = refl
call_rule function.In = refl
call_rule function.NotIn = refl
call_rule function.Like = refl
call_rule function.Rlike = refl
call_rule function.NotLike = refl
call_rule function.NotRlike = refl
call_rule function.IsNull = refl
call_rule function.IsNotNull = refl
call_rule function.Greatest = refl
call_rule function.Least = refl
call_rule function.Case = refl
call_rule function.Coalesce = refl
call_rule function.ToInteger = refl
call_rule function.ToLong = refl
call_rule function.ToBoolean = refl
call_rule function.ToString = refl
call_rule function.Length = refl
call_rule function.Concat = refl
call_rule function.Substring = refl
call_rule function.Left = refl
call_rule function.Right = refl
call_rule function.Trim = refl
call_rule function.Ltrim = refl
call_rule function.Rtrim = refl
call_rule function.StartsWith = refl
call_rule function.EndsWith = refl
call_rule function.Replace = refl
call_rule function.Split = refl
call_rule function.MvCount = refl
call_rule function.MvSum = refl
call_rule function.MvMin = refl
call_rule function.MvMax = refl
call_rule function.MvFirst = refl
call_rule function.MvLast = refl
call_rule function.MvDedupe = refl
call_rule function.MvSort = refl
call_rule function.MvSortDesc = refl
call_rule function.MvConcat = refl
call_rule function.MvAppend = refl
call_rule function.MvSlice = refl
