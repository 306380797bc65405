-- What is told of messages whose flags are stored.
use Rattle.std.proofs.Common.{◌≡◌, ℕ, ◌+◌, ◌<◌, ◌==◌, Bool, true, false, cond, not, List, [], ◌∷◌, ◌++◌, length, get_or, take, codes, Option, Some, None, is_some, refl, sym, ap, ◌∙◌}
use Rattle.std.specs.List.{flat_map, list_any}
use Rattle.std.specs.Option.{option_and_then, option_map}
use Rattle.std.proofs.lemmas.Bool.{eqb-true}
use Rattle.std.proofs.lemmas.Grind.{flat_map-append}
use Rattle.std.proofs.lemmas.List.{append-nil, take_more}
use Rattle.std.proofs.lemmas.Option.{none-some, same_Some}
use Rattle.ordered_rows.specs.Listed.{row_at}
use Rattle.row_tables.specs.Keys.{mailbox_message_key, uid_key}
use Rattle.row_tables.specs.declared.marks.MailboxMessage.{MailboxMessage}
use Rattle.row_store.specs.Holding.{Stored}
use Rattle.imap_grammar.specs.declared.flags.Flag.{Flag}
use Rattle.imap_writer.specs.Tagged.{ok_line}
use Rattle.session_view.specs.declared.sessions.Selection.{Selection}
use Rattle.session_view.specs.declared.view.View.{View}
use Rattle.mail_world.specs.Worlds.{Entry, Mailbox, entry_at, mailbox_at}
use Rattle.mail_stands.specs.Facts.{IsEntryRow, Tied}
use Rattle.mailbox_reader.specs.Telling.{told_flags}
use Rattle.imap_steps.specs.Stepping.{World}
use Rattle.imap_steps.specs.Storing.{entry_of, some_gone, store_line, told, told_if}
use Rattle.imap_exec.specs.Storing.{flags_line}

-- ---- the last line

pub line_by_uid : (tag : List ℕ) (gone : Bool) → store_line tag true gone ≡ ok_line tag [] (codes "UID STORE")
line_by_uid tag true = refl
line_by_uid tag false = refl

-- ---- the lines of messages

pub told_more : (world : World) (selection : Selection) (by_uid : Bool) (uids : List ℕ) (k : ℕ) → k < length uids
    → told world selection by_uid (take (k + 1) uids) ≡ told world selection by_uid (take k uids) ++ told_if by_uid selection.view (entry_of world selection.mailbox (get_or uids k 0))
unfolding told
told_more world selection by_uid uids k lt =
    let line : ℕ → List ℕ = λ uid. told_if by_uid selection.view (entry_of world selection.mailbox uid) in
    ap (λ (l : List ℕ). flat_map line l) (take_more uids k 0 lt)
    ∙ (flat_map-append line (take k uids) (get_or uids k 0 ∷ [])
    ∙ ap (λ (l : List ℕ). flat_map line (take k uids) ++ l) (append-nil (line (get_or uids k 0))))

pub told_none : (world : World) (selection : Selection) (by_uid : Bool) → told world selection by_uid [] ≡ []
unfolding told
told_none world selection by_uid = refl

-- ---- a message

found_uid : (uid : ℕ) (entries : List Entry) (entry : Entry) → entry_at uid entries ≡ Some entry → entry.uid ≡ uid
found_uid uid [] entry found = absurd (none-some entry found)
found_uid uid (e ∷ entries) entry found = by (e.uid == uid) refl found (found_uid uid entries entry)
  where
    by : (b : Bool) → (e.uid == uid) ≡ b → cond b (Some e) (entry_at uid entries) ≡ Some entry → (entry_at uid entries ≡ Some entry → entry.uid ≡ uid) → entry.uid ≡ uid
    by true is first rest = ap (λ (x : Entry). x.uid) (sym (same_Some e entry first)) ∙ eqb-true e.uid uid is
    by false is first rest = rest first

uid_in : (uid : ℕ) (o : Option Mailbox) (entry : Entry) → option_and_then (λ m. entry_at uid m.entries) o ≡ Some entry → entry.uid ≡ uid
uid_in uid None entry found = absurd (none-some entry found)
uid_in uid (Some m) entry found = found_uid uid m.entries entry found

module _ (world : World) (mailbox : ℕ) (by_uid : Bool) (view : View) (uid : ℕ) where
  line_of : (b : Bool) (entry : Entry) → told_if b view (Some entry) ≡ flags_line b view entry.uid (told_flags entry.message.flags)
  line_of true entry = refl
  line_of false entry = refl

  flags_are : (flags : List Flag) (entry : Entry) → Some flags ≡ Some (told_flags entry.message.flags) → flags ≡ told_flags entry.message.flags
  flags_are flags entry e = cc

  pub told_of : (flags : List Flag) → Some flags ≡ option_map (λ entry. told_flags entry.message.flags) (entry_of world mailbox uid) → flags_line by_uid view uid flags ≡ told_if by_uid view (entry_of world mailbox uid)
  told_of flags is = by (entry_of world mailbox uid) refl is
    where
      by : (o : Option Entry) → entry_of world mailbox uid ≡ o → Some flags ≡ option_map (λ entry. told_flags entry.message.flags) o → flags_line by_uid view uid flags ≡ told_if by_uid view o
      by None found e = absurd (none-some flags (sym e))
      by (Some entry) found e =
          ap (λ (l : List Flag). flags_line by_uid view uid l) (flags_are flags entry e)
          ∙ (ap (λ (n : ℕ). flags_line by_uid view n (told_flags entry.message.flags)) (sym (uid_in uid (mailbox_at mailbox world.mailboxes) entry found))
          ∙ sym (line_of by_uid entry))

  pub told_absent : None ≡ option_map (λ entry. told_flags entry.message.flags) (entry_of world mailbox uid) → told_if by_uid view (entry_of world mailbox uid) ≡ []
  told_absent is = by (entry_of world mailbox uid) is
    where
      by : (o : Option Entry) → None ≡ option_map (λ entry. told_flags entry.message.flags) o → told_if by_uid view o ≡ []
      by None e = refl
      by (Some entry) e = absurd (none-some (told_flags entry.message.flags) e)

-- ---- messages that are gone

there_alike : (mails : Stored) (row : Option MailboxMessage) (entry : Option Entry) → Tied (IsEntryRow mails) row entry → not (is_some row) ≡ not (is_some entry)
there_alike mails None None tied = refl
there_alike mails None (Some entry) tied = absurd tied.tie
there_alike mails (Some row) None tied = absurd tied.tie
there_alike mails (Some row) (Some entry) tied = refl

any_alike : (p q : ℕ → Bool) → ((n : ℕ) → p n ≡ q n) → (ns : List ℕ) → list_any p ns ≡ list_any q ns
any_alike p q alike [] = refl
any_alike p q alike (n ∷ ns) = rw (alike n, any_alike p q alike ns) refl

pub gone_alike : (mails : Stored) (rows : List MailboxMessage) (world : World) (mailbox : ℕ) (uids : List ℕ) → ((uid : ℕ) → Tied (IsEntryRow mails) (row_at mailbox_message_key (uid_key mailbox uid) rows) (entry_of world mailbox uid))
    → list_any (λ uid. not (is_some (row_at mailbox_message_key (uid_key mailbox uid) rows))) uids ≡ some_gone world mailbox uids
gone_alike mails rows world mailbox uids tied =
    any_alike (λ uid. not (is_some (row_at mailbox_message_key (uid_key mailbox uid) rows))) (λ uid. not (is_some (entry_of world mailbox uid)))
    (λ uid. there_alike mails (row_at mailbox_message_key (uid_key mailbox uid) rows) (entry_of world mailbox uid) (tied uid)) uids
