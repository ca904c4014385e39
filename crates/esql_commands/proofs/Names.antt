-- Lists of tables, patterns, pairs and items are read, and what follows a policy.
use Rattle.std.proofs.Common.{◌≡◌, ℕ, ◌+◌, max, false, List, [], ◌∷◌, ◌++◌, Option, Some, None, refl, ap, subst}
use Rattle.esql_lex.specs.declared.token.Reserved.TheVariants as word
use Rattle.esql_lex.specs.declared.token.Sign.TheVariants as sign
use Rattle.esql_ast.specs.declared.query.NameAt.{NameAt}
use Rattle.esql_ast.specs.declared.query.NamePattern.{NamePattern}
use Rattle.esql_ast.specs.declared.query.RenamePair.{RenamePair}
use Rattle.esql_ast.specs.declared.query.EnrichItem.{EnrichItem}
use Rattle.esql_ast.specs.declared.query.CommandKind.TheVariants as command
use Rattle.esql_phrases.specs.declared.lexeme.Lexeme.{Lexeme}
use Rattle.esql_phrases.specs.declared.lexeme.Lexeme.TheVariants.{Quoted, Pattern, Source, Word, Sign as Mark}
use Rattle.esql_phrases.specs.Phrases.{IsName, plain_name, dotted_name, quoted_name}
use Rattle.esql_commands.specs.declared.enrich.EnrichPoint.TheVariants as enrich
use Rattle.esql_commands.specs.declared.from.FromPoint.TheVariants as from
use Rattle.esql_commands.specs.declared.pattern.PatternPoint.TheVariants as pattern
use Rattle.esql_commands.specs.declared.pattern.PatternUse.{PatternUse}
use Rattle.esql_commands.specs.declared.place.CommandEnd.{CommandEnd}
use Rattle.esql_commands.specs.declared.place.CommandEnd.TheVariants as end
use Rattle.esql_commands.specs.declared.place.Place.{Place}
use Rattle.esql_commands.specs.declared.place.Place.TheVariants.{At}
use Rattle.esql_commands.specs.declared.place.Point.{Point}
use Rattle.esql_commands.specs.declared.place.Point.TheVariants as point
use Rattle.esql_commands.specs.declared.rename.RenamePoint.TheVariants as rename
use Rattle.esql_commands.specs.Grammar.{Listed, first_item, next_item, no_name, named, TableLine, table_line, PatternLine, pattern_line, full_name_line, PairLine, pair_line, ItemLine, item_line, OnName, no_on, on_name, WithItems, no_items, with_items}
use Rattle.esql_commands.specs.Enrich.{want_item, have_on, have_with, with_item, have_assign}
use Rattle.esql_commands.specs.Leads.{stays, continues}
use Rattle.esql_commands.specs.Lexemes.{name_in}
use Rattle.esql_commands.specs.Patterns.{patterns_kind}
use Rattle.esql_commands.specs.Points.{moved, finished_command}
use Rattle.esql_commands.specs.Rename.{want_before, want_after}
use Rattle.esql_commands.proofs.Items.{Item, Rests, listed}

-- a lexeme that is a name has that name
pub named_in : {x : Lexeme} {name : NameAt} → IsName x name → name_in x ≡ Some name
named_in (plain_name name) = refl
named_in (dotted_name name) = refl
named_in (quoted_name name) = refl

-- tables of FROM
abbrev next_table : List NameAt → Place
next_table tables = At (point.From (from.Want tables))

abbrev TableRests : List NameAt → Point → Type 0
TableRests = Rests next_table (λ tables. end.From tables)

table_item : (tables : List NameAt) {w : List Lexeme} {table : NameAt} {d : ℕ} → TableLine w table d → Item w d (next_table tables) (TableRests (tables ++ table ∷ []))
table_item tables (table_line name) = record { here = point.From (from.Have (tables ++ name ∷ [])); leads = continues (Source name) refl stays; holds = record { comma = λ at. refl; ends = refl } }

pub reads_tables : {w : List Lexeme} {tables : List NameAt} {d : ℕ} → Listed TableLine w tables d → Item w d (next_table []) (TableRests tables)
reads_tables list = listed next_table TableRests (λ items here r at. r.comma at) (λ items w a d line. table_item items line) list

-- patterns of KEEP and of DROP
abbrev next_pattern : PatternUse → List NamePattern → Place
next_pattern of patterns = At (point.Pattern of (pattern.Want patterns))

abbrev PatternRests : PatternUse → List NamePattern → Point → Type 0
PatternRests of = Rests (next_pattern of) (λ patterns. end.Piped (patterns_kind of patterns))

pattern_item : (of : PatternUse) (patterns : List NamePattern) {w : List Lexeme} {read : NamePattern} {d : ℕ} → PatternLine w read d
    → Item w d (next_pattern of patterns) (PatternRests of (patterns ++ read ∷ []))
pattern_item of patterns (pattern_line read) = record {
  here = point.Pattern of (pattern.Have (patterns ++ read ∷ []));
  leads = continues (Pattern read) refl stays;
  holds = record { comma = λ at. refl; ends = refl };
}
pattern_item of patterns (full_name_line name) = record {
  here = point.Pattern of (pattern.Have (patterns ++ record { text = name.name; wild = false; span = name.span } ∷ []));
  leads = continues (Quoted name) refl stays;
  holds = record { comma = λ at. refl; ends = refl };
}

pub reads_patterns : (of : PatternUse) {w : List Lexeme} {patterns : List NamePattern} {d : ℕ} → Listed PatternLine w patterns d → Item w d (next_pattern of []) (PatternRests of patterns)
reads_patterns of list = listed (next_pattern of) (PatternRests of) (λ items here r at. r.comma at) (λ items w a d line. pattern_item of items line) list

-- pairs of RENAME
abbrev next_pair : List RenamePair → Place
next_pair pairs = At (point.Rename (rename.Want pairs))

abbrev PairRests : List RenamePair → Point → Type 0
PairRests = Rests next_pair (λ pairs. end.Piped (command.Rename pairs))

pair_item : (pairs : List RenamePair) {w : List Lexeme} {pair : RenamePair} {d : ℕ} → PairLine w pair d → Item w d (next_pair pairs) (PairRests (pairs ++ pair ∷ []))
pair_item pairs (pair_line as_ {x = x} {y = y} {before = before} {after = after} b a) = record {
  here = point.Rename (rename.Have (pairs ++ record { before = before; after = after } ∷ []));
  leads =
      continues x (ap (λ o. moved (want_before pairs o)) (named_in b))
      (continues (Word word.As as_) refl
      (continues y (ap (λ o. moved (want_after pairs before o)) (named_in a)) stays));
  holds = record { comma = λ at. refl; ends = refl };
}

pub reads_pairs : {w : List Lexeme} {pairs : List RenamePair} {d : ℕ} → Listed PairLine w pairs d → Item w d (next_pair []) (PairRests pairs)
reads_pairs list = listed next_pair PairRests (λ items here r at. r.comma at) (λ items w a d line. pair_item items line) list

-- items of ENRICH
abbrev EnrichRests : NameAt → Option NameAt → List EnrichItem → Point → Type 0
EnrichRests policy on = Rests (want_item policy on) (λ items. end.Piped (command.Enrich policy on (Some items)))

enrich_item : (policy : NameAt) (on : Option NameAt) (items : List EnrichItem) {w : List Lexeme} {item : EnrichItem} {d : ℕ} → ItemLine w item d
    → Item w d (want_item policy on items) (EnrichRests policy on (items ++ item ∷ []))
enrich_item policy on items (item_line {x = x} {field = field} no_name f) = record {
  here = point.Enrich (enrich.Name policy on items field);
  leads = continues x (ap (λ o. moved (have_with policy on items o)) (named_in f)) stays;
  holds = record { comma = λ at. refl; ends = refl };
}
enrich_item policy on items (item_line {x = y} {field = field} (named assign {x = x} {name = name} n) f) = record {
  here = point.Enrich (enrich.Have policy on (with_item items (Some name) field));
  leads =
      continues x (ap (λ o. moved (have_with policy on items o)) (named_in n))
      (continues (Mark sign.Assign assign) refl
      (continues y (ap (λ o. moved (have_assign policy on items name o)) (named_in f)) stays));
  holds = record { comma = λ at. refl; ends = refl };
}

-- no expression stands in them
no_depth : {w : List Lexeme} {items : List EnrichItem} {d : ℕ} → Listed ItemLine w items d → d ≡ 0
no_depth (first_item (item_line n f)) = refl
no_depth (next_item comma list (item_line n f)) = ap (λ d. max d 0) (no_depth list)

reads_items : (policy : NameAt) (on : Option NameAt) {w : List Lexeme} {items : List EnrichItem} {d : ℕ} → Listed ItemLine w items d → Item w 0 (want_item policy on []) (EnrichRests policy on items)
reads_items policy on {w} {items} list =
    subst (λ d. Item w d (want_item policy on []) (EnrichRests policy on items)) (no_depth list)
    (listed (want_item policy on) (EnrichRests policy on) (λ items here r at. r.comma at) (λ items w a d line. enrich_item policy on items line) list)

-- what the command says that ends here
abbrev pub Saying : CommandEnd → Point → Type 0
Saying says here = finished_command here ≡ Some says

-- what follows a policy
pub reads_policy : (policy : NameAt) {u w : List Lexeme} {on : Option NameAt} {items : Option (List EnrichItem)} → OnName u on → WithItems w items
    → Item (u ++ w) 0 (At (point.Enrich (enrich.Policy policy))) (Saying (end.Piped (command.Enrich policy on items)))
reads_policy policy no_on no_items = record { here = point.Enrich (enrich.Policy policy); leads = stays; holds = refl }
reads_policy policy no_on (with_items with_ list) =
    let r = reads_items policy None list in
    record { here = r.here; leads = continues (Word word.With with_) refl r.leads; holds = r.holds.ends }
reads_policy policy (on_name on {x = x} {name = name} n) no_items = record {
  here = point.Enrich (enrich.Column policy name);
  leads = continues (Word word.On on) refl (continues x (ap (λ o. moved (have_on policy o)) (named_in n)) stays);
  holds = refl;
}
reads_policy policy (on_name on {x = x} {name = name} n) (with_items with_ list) =
    let r = reads_items policy (Some name) list in
    record {
      here = r.here;
      leads = continues (Word word.On on) refl (continues x (ap (λ o. moved (have_on policy o)) (named_in n)) (continues (Word word.With with_) refl r.leads));
      holds = r.holds.ends;
    }
