-- Over files that do not tell what they hold, what is told of uses that differ, and of the rows of their tables, is told over one
-- content.
use Rattle.std.proofs.Common.{◌≡◌, ◌⊎◌, inl, inr, ℕ, Bool, true, false, List, Option, Some, None, Result, Ok, Err, ap, sym, ◌∙◌, subst, ◌+◌}
use Rattle.esql_ast.specs.declared.query.NameAt.{NameAt}
use Rattle.esql_ast.specs.declared.uses.SourceUse.{SourceUse}
use Rattle.ndjson_load.specs.Over.{BytesOf}
use Rattle.policy_json.specs.declared.policy.PolicyText.{PolicyText}
use Rattle.table_files.specs.Catalog.{AddsTable, known, one_more, AddsTables, fits, AddsNamed, AddsUse, Gathers, Rows}
use Rattle.table_files.specs.Found.{Found, absent_table, has_table, nothing}
use Rattle.table_files.specs.Halts.{Halt}
use Rattle.table_files.specs.Laws.{HasOneContent, IsGoneSince, SomeHalt, SomeLoading}
use Rattle.table_files.specs.Policies.{entries_of_text, tables_named}
use Rattle.table_files.specs.Shapes.{entries_in}
use Rattle.table_files.proofs.Contents.{some_gathering, table_name}
use Rattle.table_files.proofs.Gone.{halts_at}
use Rattle.table_files.proofs.Grown.{DifferInName, differ_more}
use Rattle.table_files.proofs.Replaced.{set_row, gathers_replaced, HasLoads, IsGone, ToldOver, told_loads}
use Rattle.table_files.proofs.Steps.{in_turn_keeps}

-- ---- the tables that are found have different names

module _ (folder : Option (List ℕ)) (held : BytesOf) where
  table_differs : (policy : Bool) (beside : ℕ) (found : Found) (name : NameAt) (next : Found) → AddsTable folder (Some held) policy beside found name (Ok next) → DifferInName found.tables → DifferInName next.tables
  table_differs policy beside found name next (known has) differ = differ
  table_differs policy beside found name next (one_more new lacks is) differ =
      differ_more found.tables new differ (ap (has_table found.tables) (table_name folder held policy (entries_in found + beside) name new is) ∙ lacks)

  tables_differ : (found : Found) (name : NameAt) (policy : PolicyText) (next : Found) → AddsTables folder (Some held) found name policy (Ok next) → DifferInName found.tables → DifferInName next.tables
  tables_differ found name policy next adds differ =
      in_turn_keeps (AddsTable folder (Some held) true (entries_of_text policy)) (λ (state : Found). DifferInName state.tables)
      (λ state item after step before. table_differs true (entries_of_text policy) state item after step before) found (tables_named name policy) next adds differ

  named_differs : (policy : Bool) (found : Found) (name : NameAt) (next : Found) → AddsNamed folder (Some held) policy found name (Ok next) → DifferInName found.tables → DifferInName next.tables
  named_differs false found name next adds differ = table_differs false 0 found name next adds differ
  named_differs true found name next (fits policy new shape is adds shape_is) differ = tables_differ found name policy new adds differ

  found_differ : (uses : List SourceUse) (last : Found) → Gathers folder (Some held) nothing uses (Ok last) → DifferInName last.tables
  found_differ uses last gathers =
      in_turn_keeps (AddsUse folder (Some held)) (λ (state : Found). DifferInName state.tables) (λ state item after step before. named_differs item.policy state item.name after step before) nothing uses last gathers tt

-- ---- what uses stand for, and the rows of their tables

one_content : (folder : Option (List ℕ)) (held : BytesOf) (uses : List SourceUse) (found : Found) (loaded : Result (List Rows) Halt) → Gathers folder (Some held) nothing uses (Ok found) → HasLoads folder held found.tables loaded
    → HasOneContent folder uses found loaded
one_content folder held uses found loaded gathers has = record {
  held = has.held;
  gathers = gathers_replaced folder held has.held has.replaces nothing uses found gathers;
  loads = has.loads;
}

gone_since : (folder : Option (List ℕ)) (held : BytesOf) (uses : List SourceUse) (found : Found) (halt : Halt) → Gathers folder (Some held) nothing uses (Ok found) → IsGone found.tables (Err halt) → IsGoneSince folder uses halt
gone_since folder held uses found halt gathers gone =
    let is : ◌≡◌ {A = Result (List Rows) Halt} (Err halt) (Err (absent_table gone.found)) = gone.is in
    let same : halt ≡ absent_table gone.found = cc in
    record {
      held = set_row folder gone.found.name None held;
      gathers = subst (λ (h : Halt). Gathers folder (Some (set_row folder gone.found.name None held)) nothing uses (Err h)) (sym same) (halts_at folder held uses found gone.found gathers gone.named);
    }

not_gone : (folder : Option (List ℕ)) (held : BytesOf) (uses : List SourceUse) (found : Found) (reads : List Rows) → Gathers folder (Some held) nothing uses (Ok found) → ToldOver folder held found.tables (Ok reads)
    → HasOneContent folder uses found (Ok reads)
not_gone folder held uses found reads gathers (inl has) = one_content folder held uses found (Ok reads) gathers has
not_gone folder held uses found reads gathers (inr gone) = let is = gone.is in absurd cc

or_gone : (folder : Option (List ℕ)) (held : BytesOf) (uses : List SourceUse) (found : Found) (halt : Halt) → Gathers folder (Some held) nothing uses (Ok found) → ToldOver folder held found.tables (Err halt)
    → HasOneContent folder uses found (Err halt) ⊎ IsGoneSince folder uses halt
or_gone folder held uses found halt gathers (inl has) = inl (one_content folder held uses found (Err halt) gathers has)
or_gone folder held uses found halt gathers (inr gone) = inr (gone_since folder held uses found halt gathers gone)

pub some_loading : SomeLoading
some_loading folder uses found reads gathers are loads =
    let (held, over) = some_gathering folder uses (Ok found) gathers are in
    not_gone folder held uses found reads over (told_loads folder held found.tables (Ok reads) (found_differ folder held uses found over) loads)

pub some_halt : SomeHalt
some_halt folder uses found halt gathers are loads =
    let (held, over) = some_gathering folder uses (Ok found) gathers are in
    or_gone folder held uses found halt over (told_loads folder held found.tables (Err halt) (found_differ folder held uses found over) loads)
