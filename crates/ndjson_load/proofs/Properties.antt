-- A property that is a branch, by its member `properties`.
use Rattle.std.proofs.Common.{◌≡◌, ℕ, true, cond, List, [], Option, Some, None, Result, Ok, Ordering, Less, Equal, Greater, is_eq, nat_cmp, refl, sym, ap, ◌∙◌}
use Rattle.std.specs.Prelude.{codes}
use Rattle.std.specs.Cmp.Lexicographic.{slice_cmp}
use Rattle.std.specs.Ordering.{match_ordering}
use Rattle.std.proofs.lemmas.Map.Text.{is_eq-slice_cmp}
use Rattle.serde_json.specs.Data.{Data, object, Members, no_members, member}
use Rattle.serde_json.specs.Find.{get_member}
use Rattle.ndjson_load.specs.declared.cause.MappingCause.{MappingCause}
use Rattle.ndjson_load.specs.declared.column.MappedColumn.{MappedColumn}
use Rattle.ndjson_load.specs.Mappings.{is_branch, leaf_of, property_columns, branch_columns, inner_columns}

-- what a branch gives, by what was found under `properties`
abbrev pub branch_from : List ℕ → Option Data → Result (List MappedColumn) MappingCause
branch_from path None = Ok []
branch_from path (Some d) = inner_columns path d

branch_here : (o : Ordering) (path : List ℕ) (d : Data) (ms : Members) → branch_columns path ms ≡ branch_from path (get_member (codes "properties") ms)
    → cond (is_eq o) (inner_columns path d) (branch_columns path ms) ≡ branch_from path (match_ordering o (get_member (codes "properties") ms) (Some d) (get_member (codes "properties") ms))
branch_here Less path d ms later = later
branch_here Equal path d ms later = refl
branch_here Greater path d ms later = later

branch_columns-get : (path : List ℕ) (ms : Members) → branch_columns path ms ≡ branch_from path (get_member (codes "properties") ms)
branch_columns-get path no_members = refl
branch_columns-get path (member key d ms) =
    ap (λ b. cond b (inner_columns path d) (branch_columns path ms)) (sym (is_eq-slice_cmp (codes "properties") key))
    ∙ branch_here (slice_cmp nat_cmp (codes "properties") key) path d ms (branch_columns-get path ms)

pub property_columns-branch : (path : List ℕ) (ms : Members) → is_branch (object ms) ≡ true → property_columns path (object ms) ≡ branch_from path (get_member (codes "properties") ms)
property_columns-branch path ms is = ap (λ b. cond b (branch_columns path ms) (leaf_of path (object ms))) is ∙ branch_columns-get path ms

-- the same of a value that is an object
pub property_columns-from : (path : List ℕ) (property : Data) (ms : Members) (inner : Option Data) → property ≡ object ms → is_branch property ≡ true
    → inner ≡ get_member (codes "properties") ms → property_columns path property ≡ branch_from path inner
property_columns-from path property ms inner is branch found =
    ap (property_columns path) is ∙ property_columns-branch path ms (sym (ap is_branch is) ∙ branch) ∙ ap (branch_from path) (sym found)
