use Rattle.std.proofs.Common.{◌++◌, refl, ap, ◌∙◌}
use Rattle.std.proofs.lemmas.Result.{on_ok_weaker}
use Rattle.imap_writer.specs.Lines.{exists_line, flags_line, permanent_line, recent_line, uidnext_line, uidvalidity_line}
use Rattle.imap_steps.specs.Selecting.{unseen_told}
use Rattle.imap_exec.proofs.Summarized.{joined, messages_within, recent_within, unseen_within, summary_tells}
use Rattle.imap_exec.proofs.telling.tell_mailbox.Goals as goal

pub returns : goal.returns
returns c = record {
  told = λ m s id small.
      let its = c.args.its.now in
      let flags = c.in_ok-flags.flags.items in
      let counts = c.in_ok-tell_counts.ensures (rw c.len.ensures (messages_within its m s small)) (rw c.len-2.ensures (recent_within its m s small)) in
      let marks = c.in_ok-tell_marks.ensures (unseen_within its m s small) in
      on_ok_weaker c.tell_rest.result (λ rest.
      joined c.args.answer.now.items (exists_line c.len.result) (recent_line c.len-2.result) (flags_line c.deref.result.now) (unseen_told its.first_unseen)
      (permanent_line c.deref-2.result.now c.args.read_write ++ (uidnext_line its.uidnext ++ uidvalidity_line c.args.mailbox))
      c.tell_counts.new.answer.items c.tell_marks.new.answer.items c.tell_rest.new.answer.items counts marks rest
      ∙ ap (λ l. c.args.answer.now.items ++ l)
      (rw (c.len.ensures, c.len-2.ensures, c.deref.ensures.value, c.deref-2.ensures.value)
      (summary_tells its m c.args.mailbox c.args.read_write flags s id (c.in_ok-flags.ensures ∙ rw c.as_slice.ensures refl)))) c.tell_rest.ensures;
}
