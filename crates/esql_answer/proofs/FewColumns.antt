-- A short query appends few columns.
use Rattle.std.proofs.Common.{ℕ, ◌+◌, ◌*◌, ◌≤◌, Bool, true, false, cond, List, [], ◌∷◌, length, Option, Some, None, IfSome, All, arith}
use Rattle.std.specs.List.{cons_option, filter_map}
use Rattle.std.specs.Str.{bytes_eq}
use Rattle.std.proofs.lemmas.List.Elements.{All-head, All-tail}
use Rattle.esql_types.specs.declared.names.Column.{Column}
use Rattle.esql_ast.specs.declared.query.Command.{Command}
use Rattle.esql_ast.specs.declared.query.CommandKind.{CommandKind}
use Rattle.esql_ast.specs.declared.query.CommandKind.TheVariants.{Filter, Eval, Keep, Drop, Rename, Sort, Limit, Expand, Stats, Dissect, Grok, Enrich, Join}
use Rattle.esql_ast.specs.declared.query.EnrichItem.{EnrichItem}
use Rattle.esql_ast.specs.declared.query.Query.{Query}
use Rattle.esql_plan.specs.declared.catalog.Catalog.{Catalog}
use Rattle.esql_plan.specs.declared.catalog.PolicyShape.{PolicyShape}
use Rattle.query_semantics.specs.Appended.{FieldTaken, FoundPolicy, all_fields, policy_from, policy_named, taken_item}
use Rattle.query_semantics.specs.Catalogs.{IsCatalog, entries_of_policies}
use Rattle.query_semantics.specs.Sizes.{IsShort, IsShortQuery, appended_by, appended_in, fields_appended}
use Rattle.esql_answer.proofs.FewTaken.{dissect_few, grok_few}

-- all fields are as many as the fields
all_few : (number : ℕ) (fields : List Column) → length (all_fields number fields) ≤ length fields
all_few number [] = omega arith
all_few number (field ∷ fields) = let rest = all_few (number + 1) fields in omega arith

-- and those that are taken are as many as the items at most
items_few : (fields : List Column) (items : List EnrichItem) → length (filter_map (taken_item fields) items) ≤ length items
items_few fields [] = omega arith
items_few fields (item ∷ items) = go (taken_item fields item) (items_few fields items)
  where
    go : (taken : Option FieldTaken) → length (filter_map (taken_item fields) items) ≤ length items → length (cons_option taken (filter_map (taken_item fields) items)) ≤ length (item ∷ items)
    go None rest = omega arith
    go (Some taken) rest = omega arith

-- the fields of a policy that is found are entries of the catalog
found_few : (number : ℕ) (policies : List PolicyShape) (name : List ℕ) → IfSome (policy_from number policies name) (λ (found : FoundPolicy). length found.shape.fields ≤ entries_of_policies policies)
found_few number [] name = tt
found_few number (policy ∷ policies) name = go (bytes_eq policy.name name) (policy_from (number + 1) policies name) (found_few (number + 1) policies name)
  where
    go : (test : Bool) (later : Option FoundPolicy) → IfSome later (λ (found : FoundPolicy). length found.shape.fields ≤ entries_of_policies policies)
        → IfSome (cond test (Some (record { number = number; shape = policy })) later) (λ (found : FoundPolicy). length found.shape.fields ≤ entries_of_policies (policy ∷ policies))
    go true later few = omega arith
    go false None few = tt
    go false (Some found) few = omega arith

fields_few : (policy : Option FoundPolicy) (items : Option (List EnrichItem)) → IfSome policy (λ (found : FoundPolicy). length found.shape.fields ≤ 400000)
    → IfSome items (λ (these : List EnrichItem). length these ≤ 65537) → fields_appended policy items ≤ 400000
fields_few None items found few = omega arith
fields_few (Some policy) None found few = let all = all_few 0 policy.shape.fields in omega arith
fields_few (Some policy) (Some items) found few = let taken = items_few policy.shape.fields items in omega arith

policy_few : (policies : List PolicyShape) (name : List ℕ) → entries_of_policies policies ≤ 400000 → IfSome (policy_named policies name) (λ (found : FoundPolicy). length found.shape.fields ≤ 400000)
policy_few policies name few = go (policy_named policies name) (found_few 0 policies name)
  where
    go : (found : Option FoundPolicy) → IfSome found (λ (one : FoundPolicy). length one.shape.fields ≤ entries_of_policies policies) → IfSome found (λ (one : FoundPolicy). length one.shape.fields ≤ 400000)
    go None within = tt
    go (Some found) within = omega arith

kind_few : (policies : List PolicyShape) (kind : CommandKind) → entries_of_policies policies ≤ 400000 → IsShort kind → appended_by policies kind ≤ 400000
kind_few policies (Filter condition) few short = omega arith
kind_few policies (Eval fields) few short = omega arith
kind_few policies (Keep patterns) few short = omega arith
kind_few policies (Drop patterns) few short = omega arith
kind_few policies (Rename pairs) few short = omega arith
kind_few policies (Sort keys) few short = omega arith
kind_few policies (Limit count) few short = omega arith
kind_few policies (Expand column) few short = omega arith
kind_few policies (Stats fields groups) few short = omega arith
kind_few policies (Dissect input pattern separator) few short = let columns = dissect_few pattern.text separator in omega arith
kind_few policies (Grok input pattern) few short = let columns = grok_few pattern.text in omega arith
kind_few policies (Enrich policy on items) few short = fields_few (policy_named policies policy.name) items (policy_few policies policy.name few) short
kind_few policies (Join table on) few short = omega arith

commands_few : (policies : List PolicyShape) (commands : List Command) → entries_of_policies policies ≤ 400000 → All (λ (command : Command). IsShort command.kind) commands
    → appended_in policies commands ≤ length commands * 400000
commands_few policies [] few short = omega arith
commands_few policies (command ∷ commands) few short =
    let one = kind_few policies command.kind few (All-head (λ (command : Command). IsShort command.kind) command commands short) in
    let rest = commands_few policies commands few (All-tail (λ (command : Command). IsShort command.kind) command commands short) in omega arith

-- a short query over a catalog appends at most 80,000,000 columns
pub appended_few : (catalog : Catalog) (query : Query) → IsCatalog catalog → IsShortQuery query → appended_in catalog.policies query.commands ≤ 80000000
appended_few catalog query stands short =
    let few = stands.few in let commands = short.commands in
    let appended = commands_few catalog.policies query.commands (omega arith) short.each in omega arith
