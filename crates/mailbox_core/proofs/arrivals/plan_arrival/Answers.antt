use Rattle.std.proofs.Common.{◌≡◌, ◌≤◌, ℕ, List, Some, None, length, map, sym, ap, ◌∙◌, subst}
use Rattle.imap_grammar.specs.declared.flags.Flag.{Flag}
use Rattle.ordered_rows.specs.RowKey.{number_key}
use Rattle.ordered_rows.specs.Listed.{row_at}
use Rattle.row_tables.specs.Fits.{IsText}
use Rattle.row_tables.specs.Keys.{mailbox_key, mailbox_message_key, uid_key}
use Rattle.row_tables.specs.declared.heads.Mailbox.{Mailbox as Head}
use Rattle.mail_world.specs.Flags.{distinct}
use Rattle.mail_world.specs.Limits.{most_flags}
use Rattle.mailbox_core.proofs.Named.{plans_flags}
use Rattle.mailbox_core.proofs.Room.{few_enough}
use Rattle.mailbox_core.proofs.arrivals.plan_arrival.Goals as goal

pub returns-clause-plan : goal.returns-clause-plan
returns-clause-plan c =
    let t = c.args.tables.now in
    let id : ℕ = c.args.mailbox in
    let flags : List Flag = c.args.flags.now in
    let few : length (distinct flags) ≤ most_flags = few_enough (length (distinct flags)) (sym c.has_too_many_flags.ensures ∙ c.if-has_too_many_flags.false) in
    let copied : c.in_ok-row.row.now ≡ c.in_ok-row-2.row = sym c.in_ok-row-2.ensures in
    let found : List Flag = map (λ flag. flag.now) c.as_slice.result.now in
    let same : found ≡ distinct flags = ap (λ l. map (λ flag. flag.now) l) c.as_slice.ensures.value ∙ c.in_ok-flags.ensures in
    let planned = c.in_ok-ids.ensures in
    record {
      found = subst (λ (r : Head). row_at mailbox_key (number_key id) t.heads.mailboxes ≡ Some r) copied c.in_ok-row.ensures.found;
      room = c.in_ok-row.ensures.room flags few;
      text = subst (λ (r : Head). IsText r.name) copied c.in_ok-row.ensures.free.0;
      free = subst (λ (r : Head). row_at mailbox_message_key (uid_key id r.uidnext) t.marks.mailbox_messages ≡ None) copied c.in_ok-row.ensures.free.1;
      proper = c.requires.flags.flags_are;
      flags_are = plans_flags c.names_grow.ensures.named t flags found planned.0 c.in_ok-ids.field-0.ids.items c.in_ok-ids.field-0.names.items c.are_whole.ensures.ordered.flag_names
          (λ key le. c.names_grow.ensures.free t.marks.flag_names planned.0 key planned.1 le) (c.names_grow.ensures.differ flags c.requires.flags.flags_are) c.requires.flags.texts same
          planned.2 planned.3;
    }
