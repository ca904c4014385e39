-- The warnings of a query.
use Rattle.std.specs.Prelude.{ℕ, ◌==◌, Bool, true, false, not, List, [], ◌∷◌, ◌++◌, map, take, filter, flat_map, codes, decimal, bytes_eq}
use Rattle.std.specs.Fmt.{signed_decimal}
use Rattle.std.specs.Ordering.{int_eq}
use Rattle.esql_types.specs.declared.cause.Cause.{Cause}
use Rattle.esql_types.specs.declared.cause.Cause.TheVariants.{Multi, IntegerOverflow, LongOverflow, ByZero, CannotParse, OutOfInteger, NegativeLength, EmptyDelimiter}
use Rattle.esql_types.specs.declared.cause.Failure.{Failure}
use Rattle.esql_types.specs.declared.names.NodeId.{NodeId}
use Rattle.esql_types.specs.Places.{line_at, column_at}
use Rattle.esql_types.specs.Spans.{text_at}
use Rattle.esql_ast.specs.declared.nodes.NodeAt.{NodeAt}

-- the text of a cause
abbrev pub cause_text : Cause → List ℕ
cause_text Multi = codes "single-value function encountered multi-value"
cause_text IntegerOverflow = codes "integer overflow"
cause_text LongOverflow = codes "long overflow"
cause_text ByZero = codes "/ by zero"
cause_text (CannotParse text) = codes "Cannot parse number [" ++ text ++ codes "]"
cause_text (OutOfInteger value) = codes "[" ++ signed_decimal value ++ codes "] out of [integer] range"
cause_text (NegativeLength value) = codes "length [" ++ signed_decimal value ++ codes "] is negative"
cause_text EmptyDelimiter = codes "delimiter is empty"

-- whether two causes are the same
abbrev pub cause_eq : Cause → Cause → Bool
cause_eq Multi Multi = true
cause_eq IntegerOverflow IntegerOverflow = true
cause_eq LongOverflow LongOverflow = true
cause_eq ByZero ByZero = true
cause_eq (CannotParse left) (CannotParse right) = bytes_eq left right
cause_eq (OutOfInteger left) (OutOfInteger right) = int_eq left right
cause_eq (NegativeLength left) (NegativeLength right) = int_eq left right
cause_eq EmptyDelimiter EmptyDelimiter = true
cause_eq left right = false

-- each cause once, where it first stands
abbrev pub distinct : List Cause → List Cause
distinct [] = []
distinct (cause ∷ causes) = cause ∷ filter (λ other. not (cause_eq cause other)) (distinct causes)

-- the causes of the failures of a node, in order
abbrev pub at_node : List Failure → NodeId → List Cause
at_node failures node = map (λ failure. failure.cause) (filter (λ failure. failure.node.0 == node.0) failures)

-- `Line L:C: ` with the place of an offset
abbrev pub line_start : List ℕ → ℕ → List ℕ
line_start text at = codes "Line " ++ decimal (line_at text at) ++ codes ":" ++ decimal (column_at text at) ++ codes ": "

-- that a part of the query failed
abbrev pub failed_text : List ℕ → List ℕ
failed_text part =
    codes "evaluation of [" ++ part ++ codes "] failed, treating result as null. Only first 20 failures recorded."

-- what is said first of a node with failures
abbrev pub head_line : List ℕ → NodeAt → List ℕ
head_line text at = line_start text at.span.from ++ failed_text (text_at text at.span) ++ codes "\n"

-- what is said of a cause
abbrev pub cause_line : List ℕ → NodeAt → Cause → List ℕ
cause_line text at cause = line_start text at.span.from ++ cause_text cause ++ codes "\n"

-- nothing of a node without failures; else the head, and a line for each distinct cause
abbrev pub warned_of : List ℕ → NodeAt → List Cause → List ℕ
warned_of text at [] = []
warned_of text at (cause ∷ causes) = head_line text at ++ flat_map (cause_line text at) (distinct (cause ∷ causes))

-- of each node in turn, what is said of its first 20 failures
abbrev pub warned : List ℕ → List NodeAt → List Failure → List ℕ
warned text nodes failures = flat_map (λ at. warned_of text at (take 20 (at_node failures at.node))) nodes
