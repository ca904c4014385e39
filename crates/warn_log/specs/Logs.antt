-- The log of a query: the causes of the first failures of each node.
use Rattle.std.specs.Prelude.{◌≡◌, ℕ, nat_lt, if◌then◌else◌, List, [], ◌∷◌, ◌++◌, length, take, map, fold, flat_map, replicate, slice_set, slice_index_or}
use Rattle.esql_types.specs.declared.cause.Cause.{Cause}
use Rattle.esql_types.specs.declared.cause.Failure.{Failure}
use Rattle.esql_types.specs.declared.cause.RowFailure.{RowFailure}
use Rattle.esql_types.specs.declared.names.NodeId.{NodeId}
use Rattle.esql_ast.specs.declared.nodes.NodeAt.{NodeAt}
use Rattle.answer_text.specs.Warnings.{at_node, warned_of}

-- how many causes of a node are kept
abbrev pub most_kept : ℕ
most_kept = 20

-- the causes after one more, which is kept where fewer than 20 are
abbrev pub keep : List Cause → Cause → List Cause
keep causes cause = if nat_lt (length causes) most_kept then causes ++ cause ∷ [] else causes

-- the causes that are kept of a node
abbrev pub kept_at : List (List Cause) → NodeId → List Cause
kept_at log node = slice_index_or log node.0 []

-- the log after one more failure
abbrev pub noted : List (List Cause) → Failure → List (List Cause)
noted log failure = slice_set log failure.node.0 (keep (kept_at log failure.node) failure.cause)

-- the log after more failures
abbrev pub logged : List (List Cause) → List Failure → List (List Cause)
logged log failures = fold noted log failures

-- the log of so many nodes without failures
abbrev pub empty_log : ℕ → List (List Cause)
empty_log nodes = replicate nodes []

-- the failures of a node at the rows of a page
abbrev pub failures_at : NodeId → List RowFailure → List Failure
failures_at node rows = map (λ row. record { node = node; cause = row.cause }) rows

-- the log has the causes of the first 20 failures of each node
abbrev pub LogStands : List (List Cause) → List Failure → Type 0
LogStands log failures = (node : NodeId) → kept_at log node ≡ take most_kept (at_node failures node)

-- of each node in turn, what is said of the causes that are kept of it
abbrev pub warned_by : List ℕ → List NodeAt → List (List Cause) → List ℕ
warned_by text nodes log = flat_map (λ at. warned_of text at (kept_at log at.node)) nodes
