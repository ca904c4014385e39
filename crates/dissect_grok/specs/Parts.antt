-- The parts that a pattern is cut into, as the code holds them.
use Rattle.std.specs.Option.{option_copied}
use Rattle.dissect_grok.specs.Patterns.{Part}
use Rattle.dissect_grok.specs.declared.keys.Part.{Part as Held}

abbrev pub part_in : Held → Part
part_in held = record { text = held.text.now; delimiter = held.delimiter.now; rest = option_copied held.rest }
