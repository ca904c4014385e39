use Rattle.std.proofs.Common.{◌∙◌, inl, inr, map, string_bytes}
use Rattle.clap.specs.Words.{app_of, found_of, kind_of, rows_of}
use Rattle.esql_words.specs.Command.{given_by}
use Rattle.esql_words.proofs.Taken.{taken, refused}
use Rattle.esql_words.proofs.command.texts_of.Goals as goal

pub returns-in-Ok : goal.returns-in-Ok
returns-in-Ok c =
    taken (app_of c.in_ok-command.command) c.in_ok-command.ensures (map string_bytes c.args.words.now) (given_by c.texts_in.result) (rows_of (found_of c.in-Ok.matches))
    c.texts_in.ensures c.in-Ok.ensures.matches c.in-Ok.ensures.kinds

pub returns : goal.returns
returns c =
    refused (app_of c.in_ok-command.command) c.in_ok-command.ensures (map string_bytes c.args.words.now) (kind_of c.in-Err.error)
    (λ free. elim (c.in-Err.ensures.kinds free) [
      | inl memory ↦ absurd (c.in_default.not-OutOfMemory (c.kind.ensures ∙ memory))
      | inr among ↦ among
    ])
