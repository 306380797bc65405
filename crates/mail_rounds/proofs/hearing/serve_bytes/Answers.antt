use Rattle.std.proofs.Common.{◌∙◌}
use Rattle.mail_rounds.proofs.Halfway.{halfway_byte, halfway_end, halfway_fault, halfway_inside, halfway_stop}
use Rattle.mail_rounds.proofs.hearing.serve_bytes.Goals as goal

pub returns-in_err-count-clause-crash : goal.returns-in_err-count-clause-crash
returns-in_err-count-clause-crash g c =
    halfway_stop g.C.Core.seen c.args.core.now c.args.link.now c.bytes.core c.bytes.link c.args.moment c.args.piece.now c.bytes.rest.now c.steps_record_their_changes.ensures.world c.bytes.invariant.half

pub returns-in_default-clause-taken : goal.returns-in_default-clause-taken
returns-in_default-clause-taken g c =
    halfway_end g.C.Core.seen c.args.core.now c.args.link.now c.bytes.core c.take_inside.new.link c.args.moment c.args.piece.now _
    (halfway_inside g.C.Core.seen c.args.core.now c.args.link.now c.bytes.core c.bytes.link c.take_inside.new.link c.args.moment c.args.piece.now c.bytes.rest.now c.in_ok-count.count c.bytes.invariant.half c.take_inside.ensures.queue c.in_ok-count.ensures.taken)
    c.in_default.ensures.cases

pub returns-in_default-clause-crash : goal.returns-in_default-clause-crash
returns-in_default-clause-crash g c =
    halfway_stop g.C.Core.seen c.args.core.now c.args.link.now c.bytes.core c.bytes.link c.args.moment c.args.piece.now c.bytes.rest.now c.steps_record_their_changes.ensures.world c.bytes.invariant.half

pub returns-in_err-serve_byte-clause-crash : goal.returns-in_err-serve_byte-clause-crash
returns-in_err-serve_byte-clause-crash g c =
    halfway_fault g.C.Core.seen c.args.core.now c.args.link.now c.bytes.core c.take_inside.new.link c.serve_byte.new.core c.args.moment c.args.piece.now _
    c.in-Some.byte.now c.in-Some.behind.now c.steps_record_their_changes.ensures.world
    (halfway_inside g.C.Core.seen c.args.core.now c.args.link.now c.bytes.core c.bytes.link c.take_inside.new.link c.args.moment c.args.piece.now c.bytes.rest.now c.in_ok-count.count c.bytes.invariant.half c.take_inside.ensures.queue c.in_ok-count.ensures.taken)
    c.in-Some.ensures.cases.0 c.serve_byte.ensures.crash

pub bytes-preserved : goal.bytes-preserved
bytes-preserved g c = record {
  same_number = c.serve_byte.ensures.number ∙ c.take_inside.ensures.number ∙ c.bytes.invariant.same_number;
  ready = c.in_ok-serve_byte.ensures.ready;
  faults = c.in_ok-serve_byte.ensures.stored (λ e. cc) ∙ c.bytes.invariant.faults;
  half = halfway_byte g.C.Core.seen c.args.core.now c.args.link.now c.bytes.core c.take_inside.new.link c.serve_byte.new.core c.serve_byte.new.link c.args.moment c.args.piece.now _
      c.in-Some.byte.now c.in-Some.behind.now
      (halfway_inside g.C.Core.seen c.args.core.now c.args.link.now c.bytes.core c.bytes.link c.take_inside.new.link c.args.moment c.args.piece.now c.bytes.rest.now c.in_ok-count.count c.bytes.invariant.half c.take_inside.ensures.queue c.in_ok-count.ensures.taken)
      c.in-Some.ensures.cases.0 c.in_ok-serve_byte.ensures.taken c.serve_byte.ensures.crash;
}
