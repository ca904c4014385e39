-- When a refusal of FROM is right.
use Rattle.std.specs.Prelude.{◌≡◌, List, Result, Err}
use Rattle.esql_types.specs.declared.names.Column.{Column}
use Rattle.row_semantics.specs.Scopes.{Broken as BrokenRule}
use Rattle.source_columns.specs.declared.refusals.SourceError.{SourceError}
use Rattle.source_columns.specs.declared.refusals.SourceError.TheVariants.{Broken, Memory}

-- the broken rule and its place are those of the columns; want of memory can come at any time
abbrev pub IsRefusal : Result (List Column) BrokenRule → SourceError → Type 0
IsRefusal columns (Broken rule span) = columns ≡ Err (record { rule = rule; span = span })
IsRefusal columns (Memory error) = Unit {0}

abbrev pub IsWantOfMemory : SourceError → Type 0
IsWantOfMemory (Broken rule span) = ⊥
IsWantOfMemory (Memory error) = Unit {0}
