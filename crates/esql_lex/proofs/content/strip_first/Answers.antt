use Rattle.esql_lex.proofs.Contents.{strip_first-none}
use Rattle.esql_lex.proofs.content.strip_first.Goals as goal

pub returns-in-None : goal.returns-in-None
returns-in-None c = strip_first-none c.args.quote c.args.slice.now c.in-None.ensures.cases c.requires.ascii
