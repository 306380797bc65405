use Rattle.std.proofs.Common.{sym, ◌∙◌, subst}
use Rattle.mime_reader.specs.Reading.{Gives}
use Rattle.mime_reader.proofs.OutcomeLemmas.{outcome_zero, outcome_some, gives_message}
use Rattle.mime_reader.proofs.reading.read_message.Goals as goal

pub returns-then-has_byte-clause-exact : goal.returns-then-has_byte-clause-exact
returns-then-has_byte-clause-exact c = outcome_zero c.args.bytes.now (sym c.has_byte.ensures ∙ c.if-has_byte.true)

pub returns-clause-exact : goal.returns-clause-exact
returns-clause-exact c =
    let is = sym (outcome_some c.args.bytes.now (sym c.has_byte.ensures ∙ c.if-has_byte.false)) in
    subst (Gives c.read_whole.result) is c.read_whole.ensures.exact

pub returns-clause-reads : goal.returns-clause-reads
returns-clause-reads c =
    let is = sym (outcome_some c.args.bytes.now (sym c.has_byte.ensures ∙ c.if-has_byte.false)) in
    gives_message c.args.bytes.now c.read_whole.result (subst (Gives c.read_whole.result) is c.read_whole.ensures.exact)
