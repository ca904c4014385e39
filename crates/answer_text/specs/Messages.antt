-- The lines that are written in place of an answer and of a refusal.
use Rattle.std.specs.Prelude.{ℕ, List, ◌++◌, codes}

-- the line on a file of which a call failed
abbrev pub cannot_read : List ℕ → List ℕ
cannot_read file = codes "cannot read " ++ file ++ codes "\n"

-- the line on a file that is bad, as a message says that names it
abbrev pub bad_data_line : List ℕ → List ℕ
bad_data_line message = message ++ codes "\n"

-- memory was refused
abbrev pub out_of_memory : List ℕ
out_of_memory = codes "out of memory\n"

-- the words are not those of a call
abbrev pub usage : List ℕ
usage = codes "usage: esql [--data DIR] [--page-size N] [--format txt|csv|json] [--explain] (QUERY | --generate SEED,ROWS)\n"
