use Rattle.std.proofs.Common.{[], refl}
use Rattle.port_model.proofs.Records.{calls-push, length-push}
use Rattle.port_model.proofs.call_record.CallRecord.push.Goals as goal

pub returns-in-Ok-clause-kept : goal.returns-in-Ok-clause-kept
returns-in-Ok-clause-kept c =
    rw (c.in-Ok.ensures.items, c.in_ok-extend_from_slice.ensures.items, calls-push c.self.inside.calls.items c.self.inside.text.items c.args.call c.args.bytes.now [] c.self.invariant, ← c.self.view_is) refl

pub invariant_of-self-in-Ok : goal.invariant_of-self-in-Ok
invariant_of-self-in-Ok c =
    rw (c.in-Ok.ensures.items, c.in_ok-extend_from_slice.ensures.items)
    (length-push c.self.inside.calls.items c.self.inside.text.items c.args.call c.args.bytes.now c.self.invariant c.requires)
