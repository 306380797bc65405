use Rattle.std.proofs.Common.{◌≡◌, ℕ, refl, ap, ◌∙◌}
use Rattle.std.proofs.lemmas.Option.{same_Some}
use Rattle.row_tables.specs.declared.heads.Mailbox.{Mailbox as Head}
use Rattle.mailbox_core.specs.Statuses.{told}
use Rattle.mailbox_core.proofs.Counts.{entries_counted}
use Rattle.mailbox_core.proofs.Tallied.{recent_told_of}
use Rattle.mailbox_core.proofs.statuses.status_in.Goals as goal

pub returns : goal.returns
returns c =
    let t = c.args.tables.now in
    let id : ℕ = c.args.mailbox in
    record {
      head = λ row found. let same : c.in-Some.row.now ≡ row = same_Some c.in-Some.row.now row (c.in-Some.ensures ∙ found) in (ap (λ (r : Head). r.uidnext) same, ap (λ (r : Head). r.highest) same);
      uidvalidity = refl;
      messages = c.told-messages.ensures ∙ ap told (c.entry_count.ensures ∙ entries_counted t id);
      recent = λ row found below.
          c.told-recent.ensures ∙ ap told (recent_told_of t id c.in-Some.row.now row c.recent_count.result c.recent_count.ensures (same_Some c.in-Some.row.now row (c.in-Some.ensures ∙ found)) below);
      unseen = c.told-unseen.ensures ∙ ap told c.unseen_if.ensures;
    }
