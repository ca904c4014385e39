use Rattle.std.proofs.Common.{◌∙◌, ap, codes}
use Rattle.clap.specs.Words.{found_of}
use Rattle.esql_words.specs.Command.{is_set}
use Rattle.esql_words.proofs.Taken.{text_by}
use Rattle.esql_words.proofs.command.texts_in.Goals as goal

pub returns : goal.returns
returns c =
    let text = text_by (found_of c.args.matches.now) in
    λ i. record {
      folder = text (codes "data") _ c.get_str.ensures i;
      page_size = text (codes "page-size") _ c.get_str-2.ensures i;
      format = text (codes "format") _ c.get_str-3.ensures i;
      generate = text (codes "generate") _ c.get_str-4.ensures i;
      explain = (c.is_set.ensures ∙ ap is_set (text (codes "explain") _ c.get_str-5.ensures)) i;
      query = text (codes "query") _ c.get_str-6.ensures i;
    }
