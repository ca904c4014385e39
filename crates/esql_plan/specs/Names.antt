-- The names of functions in calls, of aggregates, and of kinds behind `::`, which are taken without regard to ASCII case.
use Rattle.std.specs.Prelude.{ℕ, List, [], ◌∷◌, ◌++◌, Option, Some, None, codes, if◌then◌else◌}
use Rattle.std.specs.Str.{str_eq_ignore_ascii_case}
use Rattle.esql_plan.specs.declared.function.Function.{Function}
use Rattle.esql_plan.specs.declared.function.Function.TheVariants as function
use Rattle.esql_plan.specs.declared.function.AggFunction.{AggFunction}
use Rattle.esql_plan.specs.declared.function.AggFunction.TheVariants as aggregate
use Rattle.esql_plan.specs.declared.names.FunctionRow.{FunctionRow}
use Rattle.esql_plan.specs.Signatures.{signature_of, least_count, most_count}

-- what a name stands for in a table
abbrev pub entry_in : {Entry : Type 0} → List (List ℕ × Entry) → List ℕ → Option Entry
entry_in [] name = None
entry_in (entry ∷ entries) name = if str_eq_ignore_ascii_case name entry.0 then Some entry.1 else entry_in entries name

-- a function with the numbers of arguments that its signature has
abbrev pub row_of : Function → FunctionRow
row_of function = record {
  function = function;
  least = least_count (signature_of function).parameters;
  most = most_count (signature_of function).parameters;
}

-- MV_SORT may be called with a direction, which a plan has in the function.
abbrev pub sort_row : FunctionRow
sort_row = record { function = function.MvSort; least = 1; most = Some 2 }

abbrev pub value_names : List (List ℕ × FunctionRow)
value_names =
    (codes "ABS", row_of function.Abs) ∷ (codes "GREATEST", row_of function.Greatest) ∷ (codes "LEAST", row_of function.Least)
    ∷ (codes "CASE", row_of function.Case) ∷ (codes "COALESCE", row_of function.Coalesce)
    ∷ (codes "TO_INTEGER", row_of function.ToInteger) ∷ (codes "TO_INT", row_of function.ToInteger)
    ∷ (codes "TO_LONG", row_of function.ToLong)
    ∷ (codes "TO_BOOLEAN", row_of function.ToBoolean) ∷ (codes "TO_BOOL", row_of function.ToBoolean)
    ∷ (codes "TO_STRING", row_of function.ToString) ∷ (codes "TO_STR", row_of function.ToString) ∷ []

abbrev pub text_names : List (List ℕ × FunctionRow)
text_names =
    (codes "LENGTH", row_of function.Length) ∷ (codes "CONCAT", row_of function.Concat) ∷ (codes "SUBSTRING", row_of function.Substring)
    ∷ (codes "LEFT", row_of function.Left) ∷ (codes "RIGHT", row_of function.Right) ∷ (codes "TRIM", row_of function.Trim)
    ∷ (codes "LTRIM", row_of function.Ltrim) ∷ (codes "RTRIM", row_of function.Rtrim)
    ∷ (codes "STARTS_WITH", row_of function.StartsWith) ∷ (codes "ENDS_WITH", row_of function.EndsWith)
    ∷ (codes "REPLACE", row_of function.Replace) ∷ (codes "SPLIT", row_of function.Split) ∷ []

abbrev pub list_names : List (List ℕ × FunctionRow)
list_names =
    (codes "MV_COUNT", row_of function.MvCount) ∷ (codes "MV_SUM", row_of function.MvSum) ∷ (codes "MV_MIN", row_of function.MvMin)
    ∷ (codes "MV_MAX", row_of function.MvMax) ∷ (codes "MV_FIRST", row_of function.MvFirst) ∷ (codes "MV_LAST", row_of function.MvLast)
    ∷ (codes "MV_DEDUPE", row_of function.MvDedupe) ∷ (codes "MV_SORT", sort_row) ∷ (codes "MV_CONCAT", row_of function.MvConcat)
    ∷ (codes "MV_APPEND", row_of function.MvAppend) ∷ (codes "MV_SLICE", row_of function.MvSlice) ∷ []

-- every name of a function that is no aggregate
abbrev pub function_names : List (List ℕ × FunctionRow)
function_names = value_names ++ (text_names ++ list_names)

-- `COUNT(*)` is called by the name of COUNT.
abbrev pub aggregate_names : List (List ℕ × AggFunction)
aggregate_names =
    (codes "COUNT", aggregate.Count) ∷ (codes "COUNT_DISTINCT", aggregate.CountDistinct) ∷ (codes "SUM", aggregate.Sum)
    ∷ (codes "MIN", aggregate.Min) ∷ (codes "MAX", aggregate.Max) ∷ (codes "VALUES", aggregate.Values) ∷ []

-- the conversions to a kind
abbrev pub cast_names : List (List ℕ × Function)
cast_names =
    (codes "INTEGER", function.ToInteger) ∷ (codes "INT", function.ToInteger) ∷ (codes "LONG", function.ToLong)
    ∷ (codes "BOOLEAN", function.ToBoolean) ∷ (codes "BOOL", function.ToBoolean)
    ∷ (codes "KEYWORD", function.ToString) ∷ (codes "STRING", function.ToString) ∷ []

-- the function that a name calls, with the numbers of arguments that a call may have
unfoldable pub function_named : List ℕ → Option FunctionRow
function_named name = entry_in function_names name

-- the aggregate that a name calls
unfoldable pub aggregate_named : List ℕ → Option AggFunction
aggregate_named name = entry_in aggregate_names name

-- the function of `::` and a kind's name
unfoldable pub cast_named : List ℕ → Option Function
cast_named name = entry_in cast_names name
