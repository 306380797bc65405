use Rattle.std.proofs.Common.{rules, ◌≡◌, ◌||◌, ◌==◌, ℕ, true, false, length, nat_le, Some, is_some, sym, ap, ◌∙◌}
use Rattle.row_tables.specs.Names.{has_mailbox_name, mailbox_named}
use Rattle.mail_world.specs.Names.{inbox, is_mailbox_name}
use Rattle.mail_world.specs.Limits.{most_mailboxes}
use Rattle.mail_stands.specs.MovingInbox.{keeps_messages}
use Rattle.mail_stands.specs.Refusals.{mailboxes_of}
use Rattle.mailbox_core.proofs.Lengths.{mailbox_is_text}
use Rattle.mailbox_core.proofs.MovedInbox.{left_modseq, refused_as}
use Rattle.mailbox_core.proofs.inbox_renaming.inbox_to_move.Goals as goal

pub returns-clause-found : goal.returns-clause-found
returns-clause-found c =
    let t = c.args.tables.now in
    let owner : ℕ = c.args.owner in
    let to = c.args.to.now in
    let row = c.in-Some.row.now in
    let found : mailbox_named owner inbox t.heads.mailboxes ≡ Some row = sym c.in-Some.ensures in
    let proper : is_mailbox_name to ≡ true = sym c.is_mailbox_name.ensures ∙ c.if-not-is_mailbox_name.false in
    let there : is_some (mailbox_named owner inbox t.heads.mailboxes) ≡ true = ap is_some found in
    let new : is_some (mailbox_named owner to t.heads.mailboxes) ≡ false = search rules in
    let room : (nat_le most_mailboxes (length (mailboxes_of owner t.heads.mailboxes)) || t.heads.counters.next == 0) ≡ false = sym c.has_no_room.ensures ∙ c.if-has_no_room.false in
    let keeps : keeps_messages t (Some row) ≡ false = sym c.keeps_messages.ensures ∙ c.if-keeps_messages.false in
    let fits = c.fits.ensures.0 c.if-not-fits.false in
    record {
      found = found;
      room = refused_as t owner to true true false false false proper there new room (ap (keeps_messages t) found ∙ keeps);
      free = fits.0;
      text = mailbox_is_text to proper;
      inbox_text = fits.1;
      there = c.insertion.ensures.at_key (has_mailbox_name owner inbox) row t.heads.mailboxes c.are_whole.ensures.ordered.mailboxes found;
      few = fits.2;
      modseq = left_modseq t row keeps;
    }
