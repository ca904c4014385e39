-- The JSON that bytes are.
use Rattle.std.specs.Prelude.{List, ℕ, Option, None, if◌then◌else◌}
use Rattle.std.specs.Str.{is_utf8}
use Rattle.serde_json.specs.Data.{Data}
use Rattle.serde_json.specs.Read.{read}

-- the value that bytes spell, where they are UTF-8 and `serde_json` reads them
abbrev pub document_of : List ℕ → Option Data
document_of bytes = if is_utf8 bytes then read bytes else None
