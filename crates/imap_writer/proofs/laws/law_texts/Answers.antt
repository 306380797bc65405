use Rattle.imap_writer.proofs.TextLaws.{quoted_again}
use Rattle.imap_writer.proofs.laws.law_texts.Goals as goal

pub returns : goal.returns
returns c = quoted_again
