-- Lexemes that begin a query begin one of no more commands than they have bars.
use Rattle.std.proofs.Common.{◌≡◌, ℕ, ◌+◌, ◌≤◌, List, take, Some, subst, sym, arith}
use Rattle.esql_phrases.specs.declared.lexeme.Lexeme.{Lexeme}
use Rattle.esql_parse.specs.Machine.{walk, start, need, pipes}
use Rattle.esql_parse.specs.Refusals.{Front, FrontWithin, bars}
use Rattle.esql_parse.specs.Spells.{lexemes_of}
use Rattle.esql_parse.specs.Depth.{DeepAreFronts}
use Rattle.esql_parse.proofs.Fronts.{front_walked, front_within}
use Rattle.esql_parse.proofs.Grows.{counted}

front_of_few : (most : ℕ) (w : List Lexeme) → Front w → bars w ≤ most → (depth : ℕ) × FrontWithin depth most w
front_of_few most w front few =
    let walked = front_walked front in
    (need walked.0, front_within (need walked.0) most w walked.0 walked.1 (omega arith) (subst (λ (n : ℕ). n ≤ most) (sym (counted w walked.0 walked.1)) few))

pub deep_are_fronts : DeepAreFronts
deep_are_fronts text tokens token refused = front_of_few 200 (take (token + 1) (lexemes_of text tokens)) refused.1 refused.2
