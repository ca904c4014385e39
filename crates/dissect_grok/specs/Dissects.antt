-- What the fields of a `Dissect` hold.
use Rattle.std.specs.Prelude.{◌≡◌, map}
use Rattle.dissect_grok.specs.Patterns.{Reading, names_of}
use Rattle.dissect_grok.specs.Joined.{turns_of}
use Rattle.dissect_grok.specs.declared.dissect.Dissect.TheInside.{Inside}

abbrev pub reading_in : Inside → Reading
reading_in inside = record { first = inside.first; keys = inside.keys; separator = inside.separator }

-- the names of the keys, and the turns of each
pub record HoldsNames (inside : Inside) : Type 0 where
  pub names_are : inside.names ≡ names_of inside.keys
  pub turns_are : inside.turns ≡ map (turns_of inside.keys) inside.names
