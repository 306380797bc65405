use Rattle.mail_stands.proofs.Counting.{uids_are}
use Rattle.mail_stands.proofs.arriving.message_uids.Goals as goal

pub returns : goal.returns
returns c content t world id mailbox whole = uids_are c.keys.ensures.places content t world id mailbox whole.ordered
