use Rattle.std.proofs.Common.{ℕ, List, ap, sym, ◌∙◌}
use Rattle.mime_tree.specs.declared.reasons.Mail.{Mail}
use Rattle.mail_server.specs.declared.status.Status.TheVariants.{Done}
use Rattle.canon_writer.specs.Printing.{print}
use Rattle.mail_server.specs.Run.{End}
use Rattle.mail_server.proofs.Readings.{canon-long, canon-short}
use Rattle.mail_server.proofs.canonical.answer_message.Goals as goal

pub returns-then-text-gt-MOST_BYTES : goal.returns-then-text-gt-MOST_BYTES
returns-then-text-gt-MOST_BYTES c = c.in_ok-line.ensures ∙ sym (canon-long c.args.text.now c.args.now c.if-text-gt-MOST_BYTES.true)

pub returns : goal.returns
returns c =
    ap (λ (lines : List ℕ). (let end : End = record { status = Done; lines = lines } in end)) (c.in_ok-lines.ensures ∙ ap (λ (m : Mail). print m.message) c.in_ok-mail.ensures)
    ∙ sym (canon-short c.args.text.now c.args.now c.if-text-gt-MOST_BYTES.false)
