-- The rows that are found at the UIDs of a mailbox are those of its messages.
use Rattle.std.proofs.Common.{ℕ, ◌≡◌, ◌==◌, Bool, true, false, cond, List, [], ◌∷◌, ◌++◌, map, Some, refl, ap, subst, ◌∙◌}
use Rattle.std.specs.List.{AllByRecursion, filter}
use Rattle.std.proofs.lemmas.Bool.{eqb-true}
use Rattle.ordered_rows.specs.Listed.{row_at}
use Rattle.row_tables.specs.Keys.{uid_key, mailbox_message_key}
use Rattle.row_tables.specs.References.{uids_of}
use Rattle.row_tables.specs.declared.marks.MailboxMessage.{MailboxMessage}
use Rattle.mail_stands.specs.MovingInbox.{messages_of}
use Rattle.inbox_moves.specs.Rows.{row_in, rows_after}

module _ (mailbox : ℕ) (all : List MailboxMessage) where
  abbrev AtUid : MailboxMessage → Type 0
  AtUid r = row_at mailbox_message_key (uid_key mailbox r.uid) all ≡ Some r

  own : (rows : List MailboxMessage) → AllByRecursion (λ r. row_at mailbox_message_key (mailbox_message_key r) all ≡ Some r) rows → AllByRecursion AtUid (messages_of mailbox rows)
  own [] at = tt
  own (x ∷ rows) at = by (x.mailbox == mailbox) refl (own rows at.1)
    where
      by : (b : Bool) → (x.mailbox == mailbox) ≡ b → AllByRecursion AtUid (messages_of mailbox rows) → AllByRecursion AtUid (cond b (x ∷ messages_of mailbox rows) (messages_of mailbox rows))
      by true e rest = (subst (λ m. row_at mailbox_message_key (uid_key m x.uid) all ≡ Some x) (eqb-true x.mailbox mailbox e) at.0, rest)
      by false e rest = rest

  same : (rows : List MailboxMessage) → AllByRecursion AtUid rows → rows_after mailbox all (map (λ r. r.uid) rows) ≡ rows
  same [] at = refl
  same (r ∷ rows) at = ap (λ o. row_in o ++ rows_after mailbox all (map (λ x. x.uid) rows)) at.0 ∙ ap (λ more. r ∷ more) (same rows at.1)

  pub found : AllByRecursion (λ r. row_at mailbox_message_key (mailbox_message_key r) all ≡ Some r) all → rows_after mailbox all (uids_of mailbox all) ≡ messages_of mailbox all
  found at = same (messages_of mailbox all) (own all at)
