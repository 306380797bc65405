use Rattle.std.proofs.Common.{sym, ◌∙◌, ap, arith, ◌≡◌, ◌+◌, length, Some, true, false}
use Rattle.std.specs.Prelude.{Err}
use Rattle.std.proofs.lemmas.Bool.Decides.{nat_tests}
use Rattle.port_model.specs.Script.{says_nothing, next_event}
use Rattle.port_model.proofs.ScriptLemmas.{IsLine, AreDone-nothing, AreDone-event, next_event-Some, line-shorter, script_events-bad, script_events-all, script_events-kept}
use Rattle.port_model.proofs.script.parse_script.Goals as goal

pub returns-in_default-clause-bad_line : goal.returns-in_default-clause-bad_line
returns-in_default-clause-bad_line c n is =
    let line : IsLine c.loop-left.left.now c.split_at_byte.result.0.now c.split_at_byte.result.1.now =
    record { some = grind (arith, nat_tests); first = c.split_at_byte.ensures.before; later = c.split_at_byte.ensures.behind } in
    let something : says_nothing c.split_at_byte.result.0.now ≡ false = grind (arith, nat_tests) in
    let number : c.loop-left.number + 1 ≡ n = cc in
    script_events-bad c.args.text.now c.loop-left.left.now c.split_at_byte.result.0.now c.split_at_byte.result.1.now c.loop-left.events.items c.loop-left.number
    c.loop-left.invariant.done line something (sym (c.in_ok-event.ensures c.loop-left.events.items c.loop-left.invariant.sessions) ∙ c.in_default.is) ∙ ap Err number

pub loop-left-preserved-in_ok-push : goal.loop-left-preserved-in_ok-push
loop-left-preserved-in_ok-push c =
    let line : IsLine c.loop-left.left.now c.split_at_byte.result.0.now c.split_at_byte.result.1.now =
    record { some = grind (arith, nat_tests); first = c.split_at_byte.ensures.before; later = c.split_at_byte.ensures.behind } in
    let something : says_nothing c.split_at_byte.result.0.now ≡ false = grind (arith, nat_tests) in
    let good : next_event c.loop-left.events.items c.split_at_byte.result.0.now ≡ Some c.in-Some.event =
    sym (c.in_ok-event.ensures c.loop-left.events.items c.loop-left.invariant.sessions) ∙ c.in-Some.is in
    record {
      done = rw c.in_ok-push.ensures.items
          (AreDone-event c.args.text.now c.loop-left.left.now c.split_at_byte.result.0.now c.split_at_byte.result.1.now c.loop-left.events.items c.loop-left.number c.in-Some.event c.loop-left.invariant.done line something good);
      sessions = rw c.in_ok-push.ensures.items
          (c.in_ok-note.ensures c.loop-left.events.items c.loop-left.invariant.sessions (next_event-Some c.loop-left.events.items c.split_at_byte.result.0.now c.in-Some.event good).may);
      lines = omega (arith, line-shorter c.loop-left.left.now c.split_at_byte.result.0.now c.split_at_byte.result.1.now line);
    }

pub loop-left-preserved : goal.loop-left-preserved
loop-left-preserved c =
    let line : IsLine c.loop-left.left.now c.split_at_byte.result.0.now c.split_at_byte.result.1.now =
    record { some = grind (arith, nat_tests); first = c.split_at_byte.ensures.before; later = c.split_at_byte.ensures.behind } in
    let nothing : says_nothing c.split_at_byte.result.0.now ≡ true = grind (arith, nat_tests) in
    record {
      done = AreDone-nothing c.args.text.now c.loop-left.left.now c.split_at_byte.result.0.now c.split_at_byte.result.1.now c.loop-left.events.items c.loop-left.number c.loop-left.invariant.done line nothing;
      sessions = c.loop-left.invariant.sessions;
      lines = omega (arith, line-shorter c.loop-left.left.now c.split_at_byte.result.0.now c.split_at_byte.result.1.now line);
    }

pub returns-clause-kept : goal.returns-clause-kept
returns-clause-kept c =
    let none : length c.loop-left.left.now ≡ 0 = grind (arith, nat_tests) in
    script_events-kept c.args.text.now c.loop-left.events.items c.requires
    (script_events-all c.args.text.now c.loop-left.left.now c.loop-left.events.items c.loop-left.number c.loop-left.invariant.done none)
