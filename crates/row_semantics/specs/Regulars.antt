-- Regular expressions, as they stand in a query, and which of them are accepted.
use Rattle.std.specs.Prelude.{ℕ, nat_le, Bool, true, false, ◌&&◌, List, unwrap_or, option_map, if◌then◌else◌}
use Rattle.std.specs.Str.{chars}
use Rattle.regex_syntax.specs.Grammar.{read}
use Rattle.regex_syntax.specs.Verdict.{default_config}
use Rattle.esql_types.specs.declared.places.Span.{Span}
use Rattle.function_rules.specs.Found.{wrapped}

-- a regular expression: where it stands, its text, and whether it has to match whole texts, as that of RLIKE has to
pub record Regular : Type 0 where
  pub span : Span
  pub text : List ℕ
  pub is_whole : Bool

-- the grammar of `regex` reads the text, which does not nest deeper than the crate allows
abbrev pub is_readable : List ℕ → Bool
is_readable text = unwrap_or (option_map (λ (tree, _). nat_le tree.depth default_config.nest_limit) (read default_config (chars text))) false

-- A regular expression is accepted that is readable; one that has to match whole texts also between their start and their end.
abbrev pub is_accepted : Regular → Bool
is_accepted regular = is_readable regular.text && (if regular.is_whole then is_readable (wrapped regular.text) else true)
