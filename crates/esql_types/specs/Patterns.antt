-- What `regex` reads in a pattern, with its default options.
use Rattle.std.specs.Prelude.{◌≡◌, ◌⊎◌, ℕ, ◌<◌, List, None, IfSome}
use Rattle.std.specs.Str.{chars}
use Rattle.regex_syntax.specs.Grammar.{read}
use Rattle.regex_syntax.specs.Verdict.{default_config}
use Rattle.regex.specs.Failures.{IsPattern}
use Rattle.regex.specs.Strings.{regex_source, regex_config, IsReadFromSource}
use Rattle.regex.specs.declared.string.regex.Regex.{Regex}

-- the expression is the crate's reading of the pattern
pub record IsReading (pattern : List ℕ) (regex : Regex) : Type 0 where
  pub source : regex_source regex ≡ pattern
  pub options : regex_config regex ≡ default_config
  pub meant : IsReadFromSource regex

-- the grammar of `regex` reads the pattern, which does not nest too deep
abbrev pub IsReadable : List ℕ → Type 0
IsReadable pattern = IsPattern default_config pattern

-- the grammar of `regex` does not read the pattern, or it nests deeper than the crate allows
abbrev pub IsUnreadable : List ℕ → Type 0
IsUnreadable pattern =
    (read default_config (chars pattern) ≡ None)
    ⊎ IfSome (read default_config (chars pattern)) (λ (tree, _). default_config.nest_limit < tree.depth)
