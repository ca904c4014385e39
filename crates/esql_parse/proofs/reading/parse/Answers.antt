use Rattle.esql_parse.proofs.Parsed.{only, refusal, fits, numbers, few, places}
use Rattle.esql_parse.proofs.DepthOfQuery.{within}
use Rattle.esql_parse.proofs.reading.parse.Goals as goal

pub returns : goal.returns
returns c =
    let text = c.args.text.now in
    let tokens = c.args.tokens.now in
    let result = c.parsed.result in
    let is = c.parsed.ensures in record {
      exact = is;
      only = only text tokens result is;
      refusal = refusal text tokens result is;
      fit = fits text tokens result c.requires.short c.requires.fit is;
      numbered = numbers text tokens result c.numbers_in_order.ensures is;
      few = few text tokens result is;
      within = within text tokens result c.numbering_keeps_depth.ensures is;
      place = places text tokens result is;
    }
