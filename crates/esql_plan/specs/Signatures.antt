-- How many arguments each function takes, of what kinds, and the kind of its result.
use Rattle.std.specs.Prelude.{ℕ, zero, suc, ◌+◌, ◌==◌, nat_le, Bool, true, false, not, ◌&&◌, ◌||◌, List, [], ◌∷◌, ◌++◌, length, replicate, Option, Some, None, option_map, if◌then◌else◌}
use Rattle.esql_types.specs.declared.value.Kind.{Kind}
use Rattle.esql_types.specs.declared.value.Kind.TheVariants.{Integer, Long, Boolean, Keyword, Null}
use Rattle.esql_plan.specs.declared.function.Function.{Function}
use Rattle.esql_plan.specs.declared.function.Function.TheVariants as function

-- Kinds ------------------------------------------------------------------------------------------------------------------------------

abbrev pub kind_place : Kind → ℕ
kind_place Integer = 0
kind_place Long = 1
kind_place Boolean = 2
kind_place Keyword = 3
kind_place Null = 4

abbrev pub same_kind : Kind → Kind → Bool
same_kind left right = kind_place left == kind_place right

-- a kind, or that of nothing but nulls
abbrev pub is_kind : Kind → Kind → Bool
is_kind wanted kind = same_kind kind wanted || same_kind kind Null

-- integer or long
abbrev pub is_numeric : Kind → Bool
is_numeric kind = same_kind kind Integer || same_kind kind Long

-- Parameters -------------------------------------------------------------------------------------------------------------------------

-- What an argument must be. A literal is a constant of one keyword. The kind null fits every other parameter.
pub data Want : Type 0 where
  a_boolean : Want
  a_keyword : Want
  -- an integer or a long; all of a call have one kind
  a_number : Want
  -- a value of any kind; all of a call have one kind
  a_value : Want
  -- an integer, a long or a keyword; all of a call have one kind
  an_ordered : Want
  -- a literal that is a pattern of LIKE
  like_pattern : Want
  -- a literal that is a regular expression for a whole text
  whole_pattern : Want
  -- a literal that is a regular expression for a part of a text
  free_pattern : Want

-- the arguments that a function takes
pub data Parameters : Type 0 where
  -- these and no others
  these : List Want → Parameters
  -- these, and a last one that may be left out
  optional : List Want → Want → Parameters
  -- these, and any number of others
  repeated : List Want → Want → Parameters
  -- conditions, each with a value behind it, and perhaps a value at the end
  branches : Parameters

-- the kind of a result
pub data Gives : Type 0 where
  always : Kind → Gives
  -- that of the arguments of any kind
  of_values : Gives
  -- that of the numbers
  of_numbers : Gives

-- In a function that widens, integers and longs go together as longs.
pub record Signature : Type 0 where
  pub parameters : Parameters
  pub widens : Bool
  pub gives : Gives

abbrev pub takes : Parameters → Gives → Signature
takes parameters gives = record { parameters = parameters; widens = false; gives = gives }

abbrev pub widening : Parameters → Gives → Signature
widening parameters gives = record { parameters = parameters; widens = true; gives = gives }

-- the signature of each function
abbrev pub signature_of : Function → Signature
signature_of function.Add = widening (these (a_number ∷ a_number ∷ [])) of_numbers
signature_of function.Sub = widening (these (a_number ∷ a_number ∷ [])) of_numbers
signature_of function.Mul = widening (these (a_number ∷ a_number ∷ [])) of_numbers
signature_of function.Div = widening (these (a_number ∷ a_number ∷ [])) of_numbers
signature_of function.Mod = widening (these (a_number ∷ a_number ∷ [])) of_numbers
signature_of function.Neg = takes (these (a_number ∷ [])) of_numbers
signature_of function.Abs = takes (these (a_number ∷ [])) of_numbers
signature_of function.Eq = widening (these (a_value ∷ a_value ∷ [])) (always Boolean)
signature_of function.Ne = widening (these (a_value ∷ a_value ∷ [])) (always Boolean)
signature_of function.Lt = widening (these (an_ordered ∷ an_ordered ∷ [])) (always Boolean)
signature_of function.Le = widening (these (an_ordered ∷ an_ordered ∷ [])) (always Boolean)
signature_of function.Gt = widening (these (an_ordered ∷ an_ordered ∷ [])) (always Boolean)
signature_of function.Ge = widening (these (an_ordered ∷ an_ordered ∷ [])) (always Boolean)
signature_of function.And = takes (these (a_boolean ∷ a_boolean ∷ [])) (always Boolean)
signature_of function.Or = takes (these (a_boolean ∷ a_boolean ∷ [])) (always Boolean)
signature_of function.Not = takes (these (a_boolean ∷ [])) (always Boolean)
signature_of function.In = widening (repeated (a_value ∷ []) a_value) (always Boolean)
signature_of function.NotIn = widening (repeated (a_value ∷ []) a_value) (always Boolean)
signature_of function.Like = takes (these (a_keyword ∷ like_pattern ∷ [])) (always Boolean)
signature_of function.Rlike = takes (these (a_keyword ∷ whole_pattern ∷ [])) (always Boolean)
signature_of function.NotLike = takes (these (a_keyword ∷ like_pattern ∷ [])) (always Boolean)
signature_of function.NotRlike = takes (these (a_keyword ∷ whole_pattern ∷ [])) (always Boolean)
signature_of function.IsNull = takes (these (a_value ∷ [])) (always Boolean)
signature_of function.IsNotNull = takes (these (a_value ∷ [])) (always Boolean)
signature_of function.Greatest = takes (repeated (a_value ∷ []) a_value) of_values
signature_of function.Least = takes (repeated (a_value ∷ []) a_value) of_values
signature_of function.Case = takes branches of_values
signature_of function.Coalesce = takes (repeated (a_value ∷ []) a_value) of_values
signature_of function.ToInteger = takes (these (a_value ∷ [])) (always Integer)
signature_of function.ToLong = takes (these (a_value ∷ [])) (always Long)
signature_of function.ToBoolean = takes (these (a_value ∷ [])) (always Boolean)
signature_of function.ToString = takes (these (a_value ∷ [])) (always Keyword)
signature_of function.Length = takes (these (a_keyword ∷ [])) (always Integer)
signature_of function.Concat = takes (repeated (a_keyword ∷ a_keyword ∷ []) a_keyword) (always Keyword)
signature_of function.Substring = takes (optional (a_keyword ∷ a_number ∷ []) a_number) (always Keyword)
signature_of function.Left = takes (these (a_keyword ∷ a_number ∷ [])) (always Keyword)
signature_of function.Right = takes (these (a_keyword ∷ a_number ∷ [])) (always Keyword)
signature_of function.Trim = takes (these (a_keyword ∷ [])) (always Keyword)
signature_of function.Ltrim = takes (these (a_keyword ∷ [])) (always Keyword)
signature_of function.Rtrim = takes (these (a_keyword ∷ [])) (always Keyword)
signature_of function.StartsWith = takes (these (a_keyword ∷ a_keyword ∷ [])) (always Boolean)
signature_of function.EndsWith = takes (these (a_keyword ∷ a_keyword ∷ [])) (always Boolean)
signature_of function.Replace = takes (these (a_keyword ∷ free_pattern ∷ a_keyword ∷ [])) (always Keyword)
signature_of function.Split = takes (these (a_keyword ∷ a_keyword ∷ [])) (always Keyword)
signature_of function.MvCount = takes (these (a_value ∷ [])) (always Integer)
signature_of function.MvSum = takes (these (a_number ∷ [])) of_numbers
signature_of function.MvMin = takes (these (a_value ∷ [])) of_values
signature_of function.MvMax = takes (these (a_value ∷ [])) of_values
signature_of function.MvFirst = takes (these (a_value ∷ [])) of_values
signature_of function.MvLast = takes (these (a_value ∷ [])) of_values
signature_of function.MvDedupe = takes (these (a_value ∷ [])) of_values
signature_of function.MvSort = takes (these (a_value ∷ [])) of_values
signature_of function.MvSortDesc = takes (these (a_value ∷ [])) of_values
signature_of function.MvConcat = takes (these (a_keyword ∷ a_keyword ∷ [])) (always Keyword)
signature_of function.MvAppend = takes (these (a_value ∷ a_value ∷ [])) of_values
signature_of function.MvSlice = takes (optional (a_value ∷ a_number ∷ []) a_number) of_values

-- The number of arguments ----------------------------------------------------------------------------------------------------------------

-- the least number of arguments
abbrev pub least_count : Parameters → ℕ
least_count (these wants) = length wants
least_count (optional wants last) = length wants
least_count (repeated wants more) = length wants
least_count branches = 2

-- the greatest number of arguments, if there is one
abbrev pub most_count : Parameters → Option ℕ
most_count (these wants) = Some (length wants)
most_count (optional wants last) = Some (length wants + 1)
most_count (repeated wants more) = None
most_count branches = None

abbrev pub is_at_most : Option ℕ → ℕ → Bool
is_at_most None count = true
is_at_most (Some most) count = nat_le count most

-- a call may have so many arguments
abbrev pub is_count : Parameters → ℕ → Bool
is_count parameters count = nat_le (least_count parameters) count && is_at_most (most_count parameters) count

-- conditions and values in turn, where a last one without another behind it is a value
abbrev pub branch_wants : ℕ → List Want
branch_wants zero = []
branch_wants (suc zero) = a_value ∷ []
branch_wants (suc (suc count)) = a_boolean ∷ a_value ∷ branch_wants count

-- what so many arguments must be, from the left
abbrev pub wants_of : Parameters → ℕ → List Want
wants_of (these wants) count = wants
wants_of (optional wants last) count = wants ++ last ∷ []
wants_of (repeated wants more) count = wants ++ replicate count more
wants_of branches count = branch_wants count

-- Kinds of arguments ---------------------------------------------------------------------------------------------------------------------

-- an argument of this kind can be what is wanted
abbrev pub meets : Want → Kind → Bool
meets a_boolean kind = is_kind Boolean kind
meets a_keyword kind = is_kind Keyword kind
meets a_number kind = is_numeric kind || same_kind kind Null
meets a_value kind = true
meets an_ordered kind = not (same_kind kind Boolean)
meets like_pattern kind = same_kind kind Keyword
meets whole_pattern kind = same_kind kind Keyword
meets free_pattern kind = same_kind kind Keyword

-- the one kind of the arguments so far that are of any kind, and that of the numbers so far; null where there is none yet
pub record OneKinds : Type 0 where
  pub values : Kind
  pub numbers : Kind

abbrev pub no_kinds : OneKinds
no_kinds = record { values = Null; numbers = Null }

-- the kind that an argument is to have too
abbrev pub one_kind : Want → OneKinds → Kind
one_kind a_boolean so_far = Null
one_kind a_keyword so_far = Null
one_kind a_number so_far = so_far.numbers
one_kind a_value so_far = so_far.values
one_kind an_ordered so_far = so_far.values
one_kind like_pattern so_far = Null
one_kind whole_pattern so_far = Null
one_kind free_pattern so_far = Null

-- Two kinds are one: null is one with every kind, and integer and long are where the function widens.
abbrev pub is_one_kind : Bool → Kind → Kind → Bool
is_one_kind widens left right =
    same_kind left right || same_kind left Null || same_kind right Null || (widens && is_numeric left && is_numeric right)

-- the one kind that they are: null gives way to every other, and integer to long
abbrev pub joined_kind : Kind → Kind → Kind
joined_kind Integer right = if same_kind right Long then Long else Integer
joined_kind Long right = Long
joined_kind Boolean right = Boolean
joined_kind Keyword right = Keyword
joined_kind Null right = right

-- an argument: what it must be, and its kind
pub record Argument : Type 0 where
  pub want : Want
  pub kind : Kind

-- the arguments of these kinds
abbrev pub arguments : List Want → List Kind → List Argument
arguments [] kinds = []
arguments (want ∷ wants) [] = []
arguments (want ∷ wants) (kind ∷ kinds) = record { want = want; kind = kind } ∷ arguments wants kinds

-- the kinds so far with one more argument
abbrev pub with_kind : Want → Kind → OneKinds → OneKinds
with_kind a_boolean kind so_far = so_far
with_kind a_keyword kind so_far = so_far
with_kind a_number kind so_far = record { values = so_far.values; numbers = joined_kind so_far.numbers kind }
with_kind a_value kind so_far = record { values = joined_kind so_far.values kind; numbers = so_far.numbers }
with_kind an_ordered kind so_far = record { values = joined_kind so_far.values kind; numbers = so_far.numbers }
with_kind like_pattern kind so_far = so_far
with_kind whole_pattern kind so_far = so_far
with_kind free_pattern kind so_far = so_far

-- an argument fits behind others: its kind can be what is wanted, and is one with theirs
abbrev pub argument_fits : Bool → OneKinds → Argument → Bool
argument_fits widens so_far argument =
    meets argument.want argument.kind && is_one_kind widens (one_kind argument.want so_far) argument.kind

-- the place of the first argument that does not fit
abbrev pub first_misfit : Bool → OneKinds → List Argument → Option ℕ
first_misfit widens so_far [] = None
first_misfit widens so_far (argument ∷ rest) =
    if argument_fits widens so_far argument
    then option_map (λ place. place + 1) (first_misfit widens (with_kind argument.want argument.kind so_far) rest)
    else Some 0

abbrev pub kinds_in : OneKinds → List Argument → OneKinds
kinds_in so_far [] = so_far
kinds_in so_far (argument ∷ rest) = kinds_in (with_kind argument.want argument.kind so_far) rest

abbrev pub given_kind : Gives → OneKinds → Kind
given_kind (always kind) kinds = kind
given_kind of_values kinds = kinds.values
given_kind of_numbers kinds = kinds.numbers

-- the arguments of a call with these kinds
abbrev pub arguments_in : Function → List Kind → List Argument
arguments_in function kinds = arguments (wants_of (signature_of function).parameters (length kinds)) kinds

-- the place of the first argument of a call that does not fit by its kind
abbrev pub misfit : Function → List Kind → Option ℕ
misfit function kinds = first_misfit (signature_of function).widens no_kinds (arguments_in function kinds)

-- the kind of a call whose arguments fit
abbrev pub kind_of_call : Function → List Kind → Kind
kind_of_call function kinds = given_kind (signature_of function).gives (kinds_in no_kinds (arguments_in function kinds))

abbrev pub kind_unless : Option ℕ → Kind → Option Kind
kind_unless None kind = Some kind
kind_unless (Some place) kind = None

-- the kind of a call with arguments of these kinds, where they fit
abbrev pub result_kind : Function → List Kind → Option Kind
result_kind function kinds = kind_unless (misfit function kinds) (kind_of_call function kinds)
