-- What is written takes room for as many columns, and as many patterns of each kind, as there are nodes at most.
use Rattle.std.proofs.Common.{◌≡◌, ℕ, ◌+◌, ◌*◌, ◌<◌, ◌≤◌, Bool, true, false, not, cond, ◌||◌, eqb, List, [], ◌∷◌, filter, length, fold, All, Option, Some, None, refl, ap, arith}
use Rattle.std.specs.Prelude.{slice_get}
use Rattle.std.specs.List.{flat_map, filter_map, cons_option, list_any}
use Rattle.std.specs.Option.{option_map}
use Rattle.std.proofs.lemmas.Bool.Decides.{nat_tests}
use Rattle.std.proofs.lemmas.List.{length-append, length-map}
use Rattle.std.proofs.lemmas.List.Elements.{All-head, All-tail, All-weaker}
use Rattle.std.proofs.lemmas.Map.Steps.{length-le_from_distinct_below}
use Rattle.esql_types.specs.declared.names.Column.{Column}
use Rattle.esql_types.specs.declared.names.NodeId.{NodeId}
use Rattle.esql_ast.specs.declared.expr.Expr.{Expr}
use Rattle.esql_ast.specs.declared.query.SortKey.{SortKey}
use Rattle.esql_ast.specs.declared.query.NameAt.{NameAt}
use Rattle.esql_ast.specs.declared.query.EnrichItem.{EnrichItem}
use Rattle.esql_ast.specs.declared.query.Command.{Command}
use Rattle.esql_ast.specs.declared.query.CommandKind.{CommandKind}
use Rattle.esql_ast.specs.declared.query.CommandKind.TheVariants.{Filter, Eval, Keep, Drop, Rename, Sort, Limit, Expand, Stats, Dissect, Grok, Enrich, Join}
use Rattle.esql_ast.specs.declared.query.NamePattern.{NamePattern}
use Rattle.esql_ast.specs.declared.query.RenamePair.{RenamePair}
use Rattle.name_rules.specs.NameRules.{Renaming, placed_from, placed, keep_places, drop_places, is_met, at_places, stays, with_new_name, rename_pair, is_there, with_pair, renamings, renamed_by}
use Rattle.name_rules.specs.NameLaws.{IsKept}
use Rattle.esql_ast.specs.Nodes.{nodes_of_expr, nodes_of_key, nodes_of_kind, nodes_of_command}
use Rattle.name_rules.proofs.KeptOnce.{kept_differ, kept_are_won}
use Rattle.esql_plan.specs.declared.catalog.PolicyShape.{PolicyShape}
use Rattle.esql_plan.specs.declared.plan.OutColumn.{OutColumn}
use Rattle.esql_plan.specs.declared.step.NewColumn.{NewColumn}
use Rattle.esql_plan.specs.declared.step.Step.{Step}
use Rattle.esql_plan.specs.declared.step.Step.TheVariants as step
use Rattle.dissect_grok.specs.declared.cutter.Cutter.{Cutter}
use Rattle.dissect_grok.specs.Patterns.{Reading, reading_of}
use Rattle.dissect_grok.specs.Groks.{GrokRead, grok_of}
use Rattle.plan_semantics.specs.Taken.{dissect_columns, columns_in_grok}
use Rattle.row_semantics.specs.Typed.{typing_of, visible_named}
use Rattle.query_semantics.specs.Writings.{Writing, put_visible, visible_names, visible_as, write_input, input_of}
use Rattle.query_semantics.specs.Appended.{FoundPolicy, policy_named, matched_name, FieldTaken, fields_taken, taken_columns, taken_numbers}
use Rattle.query_semantics.specs.Sizes.{fields_appended, appended_by}
use Rattle.query_semantics.specs.WrittenAppended.{put_new, write_new, dissect_cutters, grok_cutters, write_matched, write_policy}
use Rattle.query_semantics.specs.Written.{write_condition, write_keys, write_sort, renumbered, write_expand_of, write_expand, write_kind, write_command}
use Rattle.plan_writing.specs.Writings.{HasRoom}
use Rattle.plan_writing.proofs.Expressions.{patterns_at_most}
use Rattle.plan_writing.proofs.FieldTurns.{fields_room}
use Rattle.plan_writing.proofs.PlainRooms.{filter_shorter, put_shown, less_room, same_room, input_room}
use Rattle.stats_writing.proofs.StatsRooms.{stats_room}

-- lengths -------------------------------------------------------------------------------------------------------------------

found_shorter : {A B : Type 0} (f : A → Option B) (xs : List A) → length (filter_map f xs) ≤ length xs
found_shorter f [] = omega arith
found_shorter {B = B} f (x ∷ xs) = by_found (f x) (found_shorter f xs)
  where
    by_found : (found : Option B) → length (filter_map f xs) ≤ length xs → length (cons_option found (filter_map f xs)) ≤ length (x ∷ xs)
    by_found None rest = omega (arith, rest)
    by_found (Some y) rest = omega (arith, rest)

placed_length : (place : ℕ) (names : List (List ℕ)) → length (placed_from place names) ≡ length names
placed_length place [] = refl
placed_length place (name ∷ names) = let rest = placed_length (place + 1) names in omega (arith, rest)

drop_shorter : (names : List (List ℕ)) (patterns : List NamePattern) → length (drop_places names patterns) ≤ length names
drop_shorter names patterns =
    let left : List Renaming = filter (λ (renaming : Renaming). not (is_met patterns renaming.name)) (placed names) in
    omega (arith, length-map left (λ (renaming : Renaming). renaming.place), filter_shorter (λ (renaming : Renaming). not (is_met patterns renaming.name)) (placed names), placed_length 0 names)

any_below : (n : ℕ) (xs : List ℕ) → All (λ (x : ℕ). x < n) xs → (q : ℕ) → list_any (eqb q) xs ≡ true → q < n
any_below n [] all q is = absurd cc
any_below n (x ∷ xs) all q is = by_first (eqb q x) refl (any_below n xs (All-tail (λ (x : ℕ). x < n) x xs all) q) is
  where
    by_first : (here : Bool) → eqb q x ≡ here → (list_any (eqb q) xs ≡ true → q < n) → (here || list_any (eqb q) xs) ≡ true → q < n
    by_first true same rest there = let below = All-head (λ (x : ℕ). x < n) x xs all in grind (arith, nat_tests)
    by_first false same rest there = rest there

keep_shorter : (names : List (List ℕ)) (patterns : List NamePattern) → length (keep_places names patterns) ≤ length names
keep_shorter names patterns =
    length-le_from_distinct_below (keep_places names patterns) (length names) (kept_differ names patterns)
    (any_below (length names) (keep_places names patterns)
    (All-weaker (IsKept names patterns) (λ (place : ℕ). place < length names) (λ place kept. kept.below) (keep_places names patterns) (kept_are_won names patterns)))

pair_shorter : (these : List Renaming) (pair : RenamePair) → length (with_pair these pair) ≤ length these
pair_shorter these pair =
    let left = filter_shorter (stays pair) these in
    let same = length-map (filter (stays pair) these) (with_new_name pair) in
    elim (is_there these pair.before.name) as (λ there. length (cond there (rename_pair these pair) these) ≤ length these) [ true ↦ omega (arith, left, same) | false ↦ omega arith ]

pairs_shorter : (these : List Renaming) (pairs : List RenamePair) → length (fold with_pair these pairs) ≤ length these
pairs_shorter these [] = omega arith
pairs_shorter these (pair ∷ pairs) = omega (arith, pairs_shorter (with_pair these pair) pairs, pair_shorter these pair)

-- the columns that can be seen ----------------------------------------------------------------------------------------------

names_as_many : (visible : List OutColumn) → length (visible_names visible) ≡ length visible
names_as_many visible = length-map visible (λ (column : OutColumn). column.name)

kept_shown : (patterns : List NamePattern) (visible : List OutColumn) → length (at_places (keep_places (visible_names visible) patterns) visible) ≤ length visible
kept_shown patterns visible =
    omega (arith, found_shorter (λ (place : ℕ). slice_get visible place) (keep_places (visible_names visible) patterns), keep_shorter (visible_names visible) patterns, names_as_many visible)

left_shown : (patterns : List NamePattern) (visible : List OutColumn) → length (at_places (drop_places (visible_names visible) patterns) visible) ≤ length visible
left_shown patterns visible =
    omega (arith, found_shorter (λ (place : ℕ). slice_get visible place) (drop_places (visible_names visible) patterns), drop_shorter (visible_names visible) patterns, names_as_many visible)

renamed_shown : (pairs : List RenamePair) (visible : List OutColumn) → length (renamed_by visible_as (renamings (visible_names visible) pairs) visible) ≤ length visible
renamed_shown pairs visible =
    omega (
      arith,
      found_shorter (λ (renaming : Renaming). option_map (visible_as renaming.name) (slice_get visible renaming.place)) (renamings (visible_names visible) pairs),
      pairs_shorter (placed (visible_names visible)) pairs,
      placed_length 0 (visible_names visible),
      names_as_many visible,
    )

-- room ----------------------------------------------------------------------------------------------------------------------

condition_room : (node : NodeId) (condition : Expr) (writing : Writing) (more : ℕ) → HasRoom writing (length (nodes_of_expr condition) + more) → HasRoom (write_condition node condition writing) more
condition_room node condition writing more room =
    let most = patterns_at_most condition in
    record {
      shown = omega (arith, room.shown);
      columns = omega (arith, room.columns);
      whole = omega (arith, room.whole, most.whole, length-append writing.whole (typing_of condition).whole);
      free = omega (arith, room.free, most.free, length-append writing.free (typing_of condition).free);
      cutters = omega (arith, room.cutters);
    }

-- what changes only the columns that can be seen, and makes none
fewer_room : (writing : Writing) (visible : List OutColumn) (taken more : ℕ) → length visible ≤ length writing.visible → HasRoom writing (taken + more) → HasRoom (record writing { visible = visible }) more
fewer_room writing visible taken more fewer room =
    record { shown = omega (arith, room.shown, fewer); columns = omega (arith, room.columns); whole = omega (arith, room.whole); free = omega (arith, room.free); cutters = omega (arith, room.cutters) }

keys_room : (keys : List SortKey) (writing : Writing) (more : ℕ) → HasRoom writing (length (flat_map nodes_of_key keys) + more) → HasRoom (write_keys keys writing) more
keys_room [] writing more room = same_room writing 0 more room
keys_room (key ∷ keys) writing more room =
    let both = length-append (nodes_of_key key) (flat_map nodes_of_key keys) in
    let ahead : HasRoom writing (length (nodes_of_key key) + (length (flat_map nodes_of_key keys) + more)) =
    record { shown = omega (arith, room.shown, both); columns = omega (arith, room.columns, both); whole = omega (arith, room.whole, both); free = omega (arith, room.free, both); cutters = omega (arith, room.cutters, both) } in
    keys_room keys (write_input writing key.expr) more (input_room key.expr writing _ ahead)

sort_room : (keys : List SortKey) (writing : Writing) (more : ℕ) → HasRoom writing (length (flat_map nodes_of_key keys) + more) → HasRoom (write_sort keys writing) more
sort_room keys writing more room = let made = keys_room keys writing more room in record { shown = made.shown; columns = made.columns; whole = made.whole; free = made.free; cutters = made.cutters }

expand_room : (name : List ℕ) (writing : Writing) (more : ℕ) → HasRoom writing (1 + more) → HasRoom (write_expand name writing) more
expand_room name writing more room = by_column (visible_named writing.visible name)
  where
    by_column : (found : Option OutColumn) → HasRoom (write_expand_of found name writing) more
    by_column None = same_room writing 1 more room
    by_column (Some column) =
        let shown = length-map writing.visible (renumbered name writing.next) in
        record { shown = omega (arith, room.shown, shown); columns = omega (arith, room.columns); whole = omega (arith, room.whole); free = omega (arith, room.free); cutters = omega (arith, room.cutters) }

-- new columns are put one after another
new_shown : (visible : List OutColumn) (columns : List Column) (next : ℕ) → length (put_new visible columns next) ≤ length visible + length columns
new_shown visible [] next = omega arith
new_shown visible (column ∷ columns) next =
    omega (arith, new_shown (put_visible visible column.name column.kind next) columns (next + 1), put_shown visible column.name column.kind next)

new_room : (columns : List Column) (cutters : List Cutter) (step_to : List NewColumn → Step) (writing : Writing) (more : ℕ) → HasRoom writing (length columns + length cutters + more)
    → HasRoom (write_new columns cutters step_to writing) more
new_room columns cutters step_to writing more room = record {
  shown = let shown = new_shown writing.visible columns writing.next in omega (arith, room.shown, shown);
  columns = omega (arith, room.columns);
  whole = omega (arith, room.whole);
  free = omega (arith, room.free);
  cutters = let both = length-append writing.cutters cutters in omega (arith, room.cutters, both);
}

-- an input, and then new columns
cut_room : (input : Expr) (columns : List Column) (cutters : List Cutter) (step_to : List NewColumn → Step) (writing : Writing) (more : ℕ)
    → HasRoom writing (length (nodes_of_expr input) + (length columns + length cutters + more)) → HasRoom (write_new columns cutters step_to (write_input writing input)) more
cut_room input columns cutters step_to writing more room = new_room columns cutters step_to (write_input writing input) more (input_room input writing _ room)

one_dissect : (read : Option Reading) → length (dissect_cutters read) ≤ 1
one_dissect None = omega arith
one_dissect (Some read) = omega arith

one_grok : (read : Option GrokRead) → length (grok_cutters read) ≤ 1
one_grok None = omega arith
one_grok (Some read) = omega arith

matched_room : (policy : FoundPolicy) (column : Option OutColumn) (taken : List FieldTaken) (writing : Writing) (more : ℕ) → HasRoom writing (length taken + more) → HasRoom (write_matched policy column taken writing) more
matched_room policy None taken writing more room = same_room writing _ more room
matched_room policy (Some column) taken writing more room =
    let same = length-map taken (λ (one : FieldTaken). one.column) in
    new_room (taken_columns taken) [] (step.Enrich policy.number column.id (taken_numbers taken)) writing more (less_room writing _ _ (omega (arith, same)) room)

policy_room : (found : Option FoundPolicy) (on : Option NameAt) (items : Option (List EnrichItem)) (writing : Writing) (more : ℕ) → HasRoom writing (fields_appended found items + more)
    → HasRoom (write_policy found on items writing) more
policy_room None on items writing more room = same_room writing _ more room
policy_room (Some policy) on items writing more room =
    matched_room policy (visible_named writing.visible (matched_name policy.shape on)) (fields_taken policy.shape.fields items) writing more room

-- a command's own node has room for the column that MV_EXPAND makes, and for a cutter
kind_room : (text : List ℕ) (policies : List PolicyShape) (node : NodeId) (kind : CommandKind) (writing : Writing) (more : ℕ) → HasRoom writing (2 * length (nodes_of_kind kind) + appended_by policies kind + (2 + more))
    → HasRoom (write_kind text policies node kind writing) more
kind_room text policies node (Filter condition) writing more room = condition_room node condition writing more (less_room writing _ _ (omega arith) room)
kind_room text policies node (Eval fields) writing more room = fields_room text fields writing more (less_room writing _ _ (omega arith) room)
kind_room text policies node (Keep patterns) writing more room = fewer_room writing _ 0 more (kept_shown patterns writing.visible) (less_room writing _ _ (omega arith) room)
kind_room text policies node (Drop patterns) writing more room = fewer_room writing _ 0 more (left_shown patterns writing.visible) (less_room writing _ _ (omega arith) room)
kind_room text policies node (Rename pairs) writing more room = fewer_room writing _ 0 more (renamed_shown pairs writing.visible) (less_room writing _ _ (omega arith) room)
kind_room text policies node (Limit count) writing more room =
    let less = less_room writing _ more (omega arith) room in record { shown = less.shown; columns = less.columns; whole = less.whole; free = less.free; cutters = less.cutters }
kind_room text policies node (Sort keys) writing more room = sort_room keys writing more (less_room writing _ _ (omega arith) room)
kind_room text policies node (Expand column) writing more room = expand_room column.name writing more (less_room writing _ _ (omega arith) room)
kind_room text policies node (Stats fields groups) writing more room = stats_room text fields groups writing more (less_room writing _ _ (omega arith) room)
kind_room text policies node (Dissect input pattern separator) writing more room =
    let one = one_dissect (reading_of pattern.text separator) in
    cut_room input (dissect_columns pattern.text separator) (dissect_cutters (reading_of pattern.text separator)) (step.Dissect node (input_of writing input) (length writing.cutters) pattern.text separator) writing more (less_room writing _ _ (omega (arith, one)) room)
kind_room text policies node (Grok input pattern) writing more room =
    let one = one_grok (grok_of pattern.text) in
    cut_room input (columns_in_grok pattern.text) (grok_cutters (grok_of pattern.text)) (step.Grok node (input_of writing input) (length writing.cutters) pattern.text) writing more (less_room writing _ _ (omega (arith, one)) room)
kind_room text policies node (Enrich policy on items) writing more room = policy_room (policy_named policies policy.name) on items writing more (less_room writing _ _ (omega arith) room)
kind_room text policies node (Join table on) writing more room = less_room writing _ more (omega arith) room

-- a command's own node comes before those of its expressions; it takes as many columns as twice its nodes and those that it appends at most
pub command_room : (text : List ℕ) (policies : List PolicyShape) (command : Command) (writing : Writing) (more : ℕ) → HasRoom writing (2 * length (nodes_of_command command) + appended_by policies command.kind + more)
    → HasRoom (write_command text policies writing command) more
command_room text policies command writing more room = kind_room text policies command.node command.kind writing more (less_room writing _ _ (omega arith) room)

-- what a command has room for has its expressions and its new columns
pub kind_has_room : (policies : List PolicyShape) (command : Command) (kind : CommandKind) (writing : Writing) → command.kind ≡ kind → HasRoom writing (2 * length (nodes_of_command command) + appended_by policies command.kind)
    → HasRoom writing (2 + 2 * length (nodes_of_kind kind) + appended_by policies kind)
kind_has_room policies command kind writing is room =
    let nodes : length (nodes_of_kind command.kind) ≡ length (nodes_of_kind kind) = ap (λ (these : CommandKind). length (nodes_of_kind these)) is in
    let appended : appended_by policies command.kind ≡ appended_by policies kind = ap (λ (these : CommandKind). appended_by policies these) is in
    less_room writing (2 * length (nodes_of_command command) + appended_by policies command.kind) (2 + 2 * length (nodes_of_kind kind) + appended_by policies kind) (omega (arith, nodes, appended)) room
