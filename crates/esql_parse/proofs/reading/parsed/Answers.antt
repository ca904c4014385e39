use Rattle.std.proofs.Common.{◌≤◌, ◌+◌, List, length, sym, subst}
use Rattle.esql_lex.specs.declared.token.Token.{Token}
use Rattle.esql_parse.proofs.Readings.{few_nodes}
use Rattle.esql_parse.proofs.reading.parsed.Goals as goal

pub numbered_query-requires : goal.numbered_query-requires
numbered_query-requires c =
    let by = c.in_ok-source.ensures in
    few_nodes c.args.text.now c.as_slice.result.now c.in_ok-source.field-0 by.0 by.1 c.requires.short
    (subst (λ (tokens : List Token). length tokens ≤ length c.args.text.now + 1) (sym c.as_slice.ensures) c.requires.fit.count)
