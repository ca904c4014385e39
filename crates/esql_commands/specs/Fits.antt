-- What a command says fits a text.
use Rattle.std.specs.Prelude.{ℕ, List, All}
use Rattle.esql_ast.specs.Fits.{NameFits, FieldsFit, KindFits}
use Rattle.esql_commands.specs.declared.place.CommandEnd.{CommandEnd}
use Rattle.esql_commands.specs.declared.place.CommandEnd.TheVariants as end

-- its spans are parts of the text
abbrev pub EndFits : List ℕ → CommandEnd → Type 0
EndFits text (end.From tables) = All (NameFits text) tables
EndFits text (end.Row fields) = FieldsFit text fields
EndFits text (end.Piped kind) = KindFits text kind
