-- What is said over files that may not tell what they hold.
use Rattle.std.specs.Prelude.{ℕ, List, Option, Some, None}
use Rattle.esql_io.specs.Files.{Held}

-- the bytes of each name that is held
abbrev pub BytesOf : Type 0
BytesOf = List ℕ → Option (List ℕ)

-- P over what the files hold, and over some contents where they do not tell it
abbrev pub Over : Held → (BytesOf → Type 0) → Type 0
Over None P = (held : BytesOf) × P held
Over (Some held) P = P held
