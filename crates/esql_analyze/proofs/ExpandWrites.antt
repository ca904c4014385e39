-- MV_EXPAND writes what it is to write, and is refused as its shape is.
use Rattle.std.proofs.Common.{◌≡◌, ℕ, ◌+◌, true, false, cond, List, [], ◌∷◌, ◌++◌, map, Option, Some, None, Ok, Err, refl, ap, sym, ◌∙◌}
use Rattle.std.specs.Option.{option_map}
use Rattle.std.specs.Str.{bytes_eq}
use Rattle.esql_types.specs.declared.names.Column.{Column}
use Rattle.esql_types.specs.declared.names.ColId.{ColId}
use Rattle.esql_ast.specs.declared.query.NameAt.{NameAt}
use Rattle.esql_plan.specs.declared.plan.OutColumn.{OutColumn}
use Rattle.esql_plan.specs.declared.step.Step.TheVariants as step
use Rattle.plan_semantics.specs.Plans.{columns_of}
use Rattle.row_semantics.specs.declared.rule.NameRule.TheVariants as rule
use Rattle.row_semantics.specs.Scopes.{column_named}
use Rattle.row_semantics.specs.Kinds.{and_then, kind_of_column}
use Rattle.row_semantics.specs.Typed.{visible_named}
use Rattle.query_semantics.specs.Shapes.{Shape, shape_of_expand}
use Rattle.query_semantics.specs.Writings.{column_at}
use Rattle.query_semantics.specs.Written.{renumbered, write_expand_of, write_expand}
use Rattle.query_semantics.proofs.Named.{columns-renumbered}
use Rattle.visible_columns.specs.declared.columns.Shown.{Shown}
use Rattle.visible_columns.specs.Columns.{shown_of}
use Rattle.plan_writing.specs.declared.writing.Writing.{Writing as Made}
use Rattle.plan_writing.specs.Writings.{seen}

abbrev pub seen_column : OutColumn → Column
seen_column column = record { name = column.name; kind = column.kind }

abbrev pub id_of : OutColumn → ColId
id_of column = column.id

pub names_alike : (visible : List OutColumn) (name : List ℕ) → column_named (columns_of visible) name ≡ option_map seen_column (visible_named visible name)
names_alike [] name = refl
names_alike (column ∷ visible) name =
    elim (bytes_eq column.name name) as (λ found. cond found (Some (seen_column column)) (column_named (columns_of visible) name) ≡ option_map seen_column (cond found (Some column) (visible_named visible name)))
    [ true ↦ refl | false ↦ names_alike visible name ]

shape_found : (column : NameAt) (visible : List OutColumn) (found : Option OutColumn) → visible_named visible column.name ≡ found
    → shape_of_expand column (columns_of visible) ≡ and_then (kind_of_column (option_map seen_column found) column.span) (λ kind. Ok (columns_of visible))
shape_found column visible found is =
    ap (λ (these : Option Column). and_then (kind_of_column these column.span) (λ kind. Ok (columns_of visible))) (names_alike visible column.name ∙ ap (option_map seen_column) is)

-- a column that is not there breaks the rule
pub expand_refused : (column : NameAt) (visible : List OutColumn) → option_map id_of (visible_named visible column.name) ≡ None
    → shape_of_expand column (columns_of visible) ≡ Err (record { rule = rule.UnknownColumn; span = column.span })
expand_refused column visible is = by_found (visible_named visible column.name) refl is
  where
    by_found : (found : Option OutColumn) → visible_named visible column.name ≡ found → option_map id_of found ≡ None
        → shape_of_expand column (columns_of visible) ≡ Err (record { rule = rule.UnknownColumn; span = column.span })
    by_found None named none = shape_found column visible None named
    by_found (Some one) named none = absurd cc

pub expand_writes : (column : NameAt) (old new : Made) (id : ColId) → option_map id_of (visible_named old.visible column.name) ≡ Some id
    → new.visible ≡ map (renumbered column.name old.next) old.visible → new.next ≡ old.next + 1 → new.patterns ≡ old.patterns → new.cutters ≡ old.cutters → new.steps ≡ old.steps ++ step.Expand id (column_at old.next) ∷ []
    → (seen new ≡ write_expand column.name (seen old)) × (shape_of_expand column (columns_of old.visible) ≡ Ok (columns_of new.visible))
expand_writes column old new id is visible next read cut steps = by_found (visible_named old.visible column.name) refl is
  where
    by_found : (found : Option OutColumn) → visible_named old.visible column.name ≡ found → option_map id_of found ≡ Some id
        → (seen new ≡ write_expand column.name (seen old)) × (shape_of_expand column (columns_of old.visible) ≡ Ok (columns_of new.visible))
    by_found None named none = absurd cc
    by_found (Some one) named some =
        let own : one.id ≡ id = cc in
        let written = steps ∙ ap (λ (these : ColId). old.steps ++ step.Expand these (column_at old.next) ∷ []) (sym own) in (
          (λ i. record { visible = visible i; next = next i; whole = (read i).whole; free = (read i).free; cutters = cut i; steps = written i })
              ∙ sym (ap (λ (found : Option OutColumn). write_expand_of found column.name (seen old)) named),
          shape_found column old.visible (Some one) named
              ∙ ap (λ (columns : List Column). let shape : Shape = Ok columns in shape) (sym (ap columns_of visible ∙ columns-renumbered column.name old.next old.visible)),
        )

-- the number of a column that is found
pub id_shown : (found : Option OutColumn) (shown : Shown) → Some shown ≡ option_map shown_of found → Some shown.id ≡ option_map id_of found
id_shown None shown is = absurd cc
id_shown (Some column) shown is = let same : shown ≡ shown_of column = cc in ap (λ (this : Shown). Some this.id) same

pub id_unknown : (found : Option OutColumn) → ◌≡◌ {A = Option Shown} None (option_map shown_of found) → ◌≡◌ {A = Option ColId} None (option_map id_of found)
id_unknown None is = refl
id_unknown (Some column) is = absurd cc
