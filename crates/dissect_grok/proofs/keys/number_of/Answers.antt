use Rattle.std.proofs.Common.{◌∙◌, sym, lit<}
use Rattle.std.proofs.lemmas.Bool.{false≢true}
use Rattle.std.proofs.lemmas.Str.Pattern.{starts_char}
use Rattle.dissect_grok.proofs.Numbers.{parsed, plus_is_none}
use Rattle.dissect_grok.proofs.keys.number_of.Goals as goal

pub returns-then-starts_with : goal.returns-then-starts_with
returns-then-starts_with c =
    plus_is_none c.args.text.now ((starts_char 43 c.args.text.now c.starts_with.result c.starts_with.ensures.cases (lit< tt) (lit< tt)).0 c.if-starts_with.true)

pub returns : goal.returns
returns c =
    c.ok.ensures.value ∙ parsed c.args.text.now c.parse.result c.parse.ensures.value.0
    (λ plus. false≢true (sym c.if-starts_with.false ∙ (starts_char 43 c.args.text.now c.starts_with.result c.starts_with.ensures.cases (lit< tt) (lit< tt)).1 plus))
