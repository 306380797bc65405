use Rattle.std.proofs.Common.{ℕ, ◌∙◌, ap, refl, arith, length, length-drop, length-take}
use Rattle.mail_server.proofs.Transfers.{Appends-none, Appends-on}
use Rattle.mail_server.proofs.streams.write_all.Goals as goal

pub writes-init : goal.writes-init
writes-init g c = record {
  within = omega arith;
  appended = Appends-none (g.K.Sink.written c.args.sink.now);
  quiet = refl;
  silent = λ e. refl;
}

pub writes-preserved : goal.writes-preserved
writes-preserved g c = record {
  within = omega (arith, c.in_ok-at.ensures.within, length-drop {A = ℕ}, length-take {A = ℕ});
  appended = Appends-on c.args.bytes.now c.writes.at c.in_ok-at.field-0 (g.K.Sink.written c.args.sink.now) (g.K.Sink.written c.writes.sink) (g.K.Sink.written c.write.new.self) c.writes.invariant.appended c.in_ok-at.ensures.appended;
  quiet = c.in_ok-at.ensures.quiet ∙ c.writes.invariant.quiet;
  silent = λ e. absurd (omega (arith, c.writes-test.true, ap length e));
}
