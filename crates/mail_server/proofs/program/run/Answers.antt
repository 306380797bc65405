use Rattle.mail_server.specs.Outside.{outside, tells_of}
use Rattle.mail_server.proofs.Answering.{unasked}
use Rattle.mail_server.proofs.FromLinks.{unlinked}
use Rattle.mail_server.proofs.program.run.Goals as goal

pub returns-in_default-clause-does : goal.returns-in_default-clause-does
returns-in_default-clause-does g c =
    unasked (tells_of g.S.Source.left g.S.Source.faults g.K.Sink.written g.K.Sink.faults g.C.Clock.readings) g.D.Disk.told _ c.read_words.result c.code.result
    (outside c.args.source.now c.args.sink.now c.args.clock.now) c.args.files c.read_words.ensures c.in_default.not-Some c.code.ensures

pub returns-in_default-clause-links : goal.returns-in_default-clause-links
returns-in_default-clause-links g c =
    unlinked g.P.Ports.history g.P.Ports.listen_faults g.D.Disk.told _ c.read_words.result c.code.result c.args.ports.now c.args.files c.read_words.ensures c.in_default.not-Some c.code.ensures
