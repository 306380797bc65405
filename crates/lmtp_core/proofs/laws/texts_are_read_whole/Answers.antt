use Rattle.lmtp_core.proofs.TextLemmas.{reads-append, taken-append, text_goes_on, text_whole}
use Rattle.lmtp_core.proofs.laws.texts_are_read_whole.Goals as goal

pub returns-clause-whole : goal.returns-clause-whole
returns-clause-whole c = λ bytes text e. text_whole c.law_lines.ensures.pieces_joined bytes text e

pub returns-clause-goes_on : goal.returns-clause-goes_on
returns-clause-goes_on c = λ bytes e. text_goes_on c.law_lines.ensures.pieces_joined bytes e

pub returns-clause-cut : goal.returns-clause-cut
returns-clause-cut c = λ read bytes later. reads-append read bytes later

pub returns-clause-counted : goal.returns-clause-counted
returns-clause-counted c = λ read bytes later. taken-append read bytes later
