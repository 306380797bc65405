use Rattle.std.proofs.Common.{arith}
use Rattle.lmtp_core.proofs.ReadLemmas.{ends-all}
use Rattle.lmtp_core.proofs.reading.ends_in_return.Goals as goal

pub returns-in-len1-up : goal.returns-in-len1-up
returns-in-len1-up c = ends-all c.args.behind_return c.args.bytes.now (omega (arith, c.in-len1-up.len_at_least))
