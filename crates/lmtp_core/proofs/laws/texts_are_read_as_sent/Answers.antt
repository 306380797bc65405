use Rattle.lmtp_core.proofs.TextLemmas.{content_sent, text_sent}
use Rattle.lmtp_core.proofs.laws.texts_are_read_as_sent.Goals as goal

pub returns-clause-text : goal.returns-clause-text
returns-clause-text c = λ lines rest are. text_sent c.law_lines.ensures.pieces_joined lines rest are

pub returns-clause-content : goal.returns-clause-content
returns-clause-content c = λ lines. content_sent lines
