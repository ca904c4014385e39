use Rattle.std.proofs.Common.{◌∙◌, ap, arith, option_and_then}
use Rattle.esql_words.specs.Values.{if_within, number_of}
use Rattle.esql_words.proofs.Numbers.{narrowed}
use Rattle.esql_words.proofs.values.number_within.Goals as goal

pub returns-in-Some : goal.returns-in-Some
returns-in-Some c =
    record {
      is = c.if_within.ensures.is
          ∙ ap (option_and_then (if_within c.args.least c.args.most)) c.in-Some.ensures
          ∙ narrowed c.args.least c.args.most (omega arith) (number_of c.args.text.now);
      within = c.if_within.ensures.within;
    }

pub returns-in-None : goal.returns-in-None
returns-in-None c =
    record {
      is = ap (option_and_then (if_within c.args.least c.args.most)) c.in-None.ensures
          ∙ narrowed c.args.least c.args.most (omega arith) (number_of c.args.text.now);
      within = tt;
    }
