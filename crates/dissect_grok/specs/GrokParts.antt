-- The parts of a pattern of GROK, as the code holds them.
use Rattle.std.specs.Prelude.{ℕ, List, map, Option, slice_range}
use Rattle.std.specs.Option.{option_map}
use Rattle.regex.specs.Names.{span_at}
use Rattle.dissect_grok.specs.Groups.{index_of}
use Rattle.std.specs.String.{string_bytes}
use Rattle.dissect_grok.specs.Groks.{GrokRead, Place, Reference as Meant, group_name, numbers_of}
use Rattle.dissect_grok.specs.declared.expansion.Expansion.{Expansion}
use Rattle.dissect_grok.specs.declared.reference.Named.{Named}
use Rattle.dissect_grok.specs.declared.reference.Reference.{Reference}

abbrev pub place_in : Named → Place
place_in place = record { name = place.name.now; kind = place.kind }

abbrev pub reference_in : Reference → Meant
reference_in reference = record { syntax = reference.syntax.now; place = option_map place_in reference.place }

abbrev pub read_in : Expansion → GrokRead
read_in read = record { expansion = string_bytes read.text; places = read.places }

-- the groups of the places that have a name, by the names of all groups
abbrev pub groups_in : List (Option (List ℕ)) → List Place → List ℕ → List (Option ℕ)
groups_in names places name = map (λ number. index_of (group_name number) names) (numbers_of places name)

-- the text that a group spans
abbrev pub group_text : List ℕ → (ℕ → Option (ℕ × ℕ)) → Option ℕ → Option (List ℕ)
group_text text span group = option_map (λ (at : ℕ × ℕ). slice_range text at.0 at.1) (span_at span group)
