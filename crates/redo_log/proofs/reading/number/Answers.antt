use Rattle.redo_log.proofs.Texts.{number_read}
use Rattle.redo_log.proofs.reading.number.Goals as goal

pub returns-clause-some : goal.returns-clause-some
returns-clause-some c = number_read c.args.bytes.now c.from_be_bytes.result c.in-len8-up.len_at_least c.type_inv.bytes c.from_be_bytes.ensures
