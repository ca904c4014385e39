-- What words ask for.
use Rattle.std.specs.Prelude.{ℕ, List, Option, Some, None, if◌then◌else◌, option_and_then}
use Rattle.esql_words.specs.declared.options.Format.{Format}
use Rattle.esql_words.specs.declared.options.Format.TheVariants.{Txt}
use Rattle.esql_words.specs.declared.options.Request.{Request}
use Rattle.esql_words.specs.declared.options.Request.TheVariants.{Query}
use Rattle.esql_words.specs.declared.options.Options.{Options}
use Rattle.esql_words.specs.Command.{Given, esql_app, given_of}
use Rattle.esql_words.specs.Values.{page_size_in, format_in, request_in}

abbrev pub options_with : Option (List ℕ) → Option ℕ → Option Format → Option Request → Option Options
options_with folder None format request = None
options_with folder (Some page_size) None request = None
options_with folder (Some page_size) (Some format) None = None
options_with folder (Some page_size) (Some format) (Some request) =
    Some (record { folder = folder; page_size = page_size; format = format; request = request })

-- the options that texts say, where each of them is one of those that are allowed
abbrev pub options_said : Given → Option Options
options_said given = options_with given.folder (page_size_in given.page_size) (format_in given.format) (request_in given.query given.generate)

-- `--explain` is a word of the command that asks for nothing yet
abbrev pub options_in : Given → Option Options
options_in given = if given.explain then None else options_said given

-- what words after the program's name ask for, or nothing where they are not accepted
unfoldable pub options_of : List (List ℕ) → Option Options
options_of words = option_and_then options_in (given_of esql_app words)

-- a query over the working folder, with nothing else said
abbrev pub options_alone : List ℕ → Options
options_alone query = record { folder = None; page_size = 1024; format = Txt; request = Query query }
