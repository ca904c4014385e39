-- What the fields of a `Grok` hold.
use Rattle.std.specs.Prelude.{◌≡◌, map}
use Rattle.regex.specs.Strings.{regex_names, regex_source}
use Rattle.esql_types.specs.Patterns.{IsReading}
use Rattle.esql_types.specs.declared.names.Column.{Column}
use Rattle.dissect_grok.specs.GrokParts.{groups_in}
use Rattle.dissect_grok.specs.Groks.{GrokRead, columns_of}
use Rattle.dissect_grok.specs.declared.grok.Grok.TheInside.{Inside}

abbrev pub grok_in : Inside → GrokRead
grok_in inside = record { expansion = regex_source inside.regex; places = inside.places }

-- the regular expression as its text is read, the columns of the places, and the groups of the places of each column
pub record HoldsGroups (inside : Inside) : Type 0 where
  pub reading : IsReading (regex_source inside.regex) inside.regex
  pub columns_are : inside.columns ≡ columns_of inside.places
  pub groups_are : inside.groups ≡ map (λ (column : Column). groups_in (regex_names inside.regex) inside.places column.name) inside.columns
