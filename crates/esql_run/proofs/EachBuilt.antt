-- Where no command is the first that is not built, each is built.
use Rattle.std.proofs.Common.{◌≡◌, Bool, true, false, List, [], ◌∷◌, All, Option, Some, None, refl}
use Rattle.std.specs.Prelude.{if◌then◌else◌}
use Rattle.std.proofs.lemmas.List.Elements.{All-nil, All-cons}
use Rattle.esql_types.specs.declared.places.Span.{Span}
use Rattle.esql_ast.specs.declared.query.Command.{Command}
use Rattle.esql_ast.specs.declared.query.Query.{Query}
use Rattle.query_semantics.specs.Built.{is_built_kind, IsBuiltQuery}
use Rattle.esql_run.specs.Built.{unbuilt_in, unbuilt_of}

abbrev IsBuilt : Command → Type 0
IsBuilt command = is_built_kind command.kind ≡ true

passed : (is_built : Bool) (later : Option Span) (span : Span) → (if is_built then later else Some span) ≡ None → (is_built ≡ true) × (later ≡ None)
passed true later span none = (refl, none)
passed false later span none = absurd cc

all_built : (commands : List Command) → unbuilt_in commands ≡ None → All IsBuilt commands
all_built [] none = All-nil IsBuilt
all_built (command ∷ commands) none =
    let (is, later) = passed (is_built_kind command.kind) (unbuilt_in commands) command.span none in
    All-cons IsBuilt command commands is (all_built commands later)

pub none_unbuilt : (query : Query) → unbuilt_of query ≡ None → IsBuiltQuery query
none_unbuilt query none = all_built query.commands none
