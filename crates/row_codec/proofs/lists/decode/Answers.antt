use Rattle.std.proofs.Common.{rules, ◌≡◌, ◌<◌, length, Some, None, arith}
use Rattle.std.proofs.lemmas.Bool.Decides.{nat_tests}
use Rattle.row_codec.specs.Reading.{read_change}
use Rattle.row_codec.proofs.OneChange.{change_takes}
use Rattle.row_codec.proofs.AllChanges.{no_list, more_read, more_texts, more_widths}
use Rattle.row_codec.proofs.lists.decode.Goals as goal

pub returns-in_default-clause-none : goal.returns-in_default-clause-none
returns-in_default-clause-none c = λ others texts widths same.
    let inv = c.loop-rest.invariant in
    let some : 0 < length c.loop-rest.rest.now = grind (arith, nat_tests, c.loop-rest-test.true, c.is_empty.ensures) in
    let none : read_change c.loop-rest.rest.now ≡ None = search rules in
    no_list c.loop-rest.changes.items others c.loop-rest.rest.now c.args.bytes.now inv.texts inv.widths some none inv.split texts widths same

pub loop-rest-smaller : goal.loop-rest-smaller
loop-rest-smaller c =
    let read : read_change c.loop-rest.rest.now ≡ Some (c.in-Some.change, c.in-Some.after.now) = search rules in
    (change_takes c.loop-rest.rest.now c.in-Some.change c.in-Some.after.now c.loop-rest.invariant.rest_fits read).shorter

pub loop-rest-preserved : goal.loop-rest-preserved
loop-rest-preserved c =
    let inv = c.loop-rest.invariant in
    let read : read_change c.loop-rest.rest.now ≡ Some (c.in-Some.change, c.in-Some.after.now) = search rules in
    let t = change_takes c.loop-rest.rest.now c.in-Some.change c.in-Some.after.now inv.rest_fits read in
    rw c.in_ok-push.ensures.items record {
      split = more_read c.args.bytes.now c.loop-rest.rest.now c.in-Some.after.now c.loop-rest.changes.items c.in-Some.change inv.split t.parts;
      texts = more_texts c.loop-rest.changes.items c.in-Some.change inv.texts t.texts;
      widths = more_widths c.loop-rest.changes.items c.in-Some.change inv.widths t.widths;
      rest_fits = t.rest_fits;
    }
