-- The numbers of a mailbox as they are told.
use Rattle.std.proofs.Common.{◌≡◌, ◌++◌, ℕ, Bool, true, cond, List, [], ◌∷◌, map, codes, Option, Some, refl, sym, ap, ◌∙◌}
use Rattle.std.specs.List.{list_any, count_by}
use Rattle.std.proofs.lemmas.Bool.{or_left, or_right}
use Rattle.imap_grammar.specs.declared.items.StatusItem.{StatusItem}
use Rattle.imap_grammar.specs.declared.items.StatusItem.TheVariants.{Messages, Recent, Uidnext, Uidvalidity, Unseen, Highest}
use Rattle.imap_writer.specs.declared.statuses.StatusData.{StatusData}
use Rattle.imap_writer.specs.Statuses.{status_line}
use Rattle.imap_writer.specs.Tagged.{ok_line}
use Rattle.mail_world.specs.Names.{mailbox_name}
use Rattle.mail_world.specs.Worlds.{Mailbox, mailbox_named}
use Rattle.mail_world.specs.Summaries.{is_unseen}
use Rattle.mailbox_core.specs.declared.numbers.Status.{Status}
use Rattle.mailbox_core.specs.Statuses.{IsStatus}
use Rattle.imap_steps.specs.Stepping.{Shared, answered}
use Rattle.imap_steps.specs.Status.{data_of, status, status_of}
use Rattle.imap_exec.specs.Numbers.{counts_unseen, data_in}

module _ (its : Status) (m : Mailbox) (counted : Bool) (is : IsStatus counted its m) where
  abbrev told : StatusItem → ℕ → StatusData
  told item number = record { item = item; number = number }

  same_data : (item : StatusItem) → (counts_unseen item ≡ true → its.unseen ≡ count_by is_unseen m.entries) → data_in its item ≡ data_of m item
  same_data Messages unseen = ap (told Messages) is.messages
  same_data Recent unseen = ap (told Recent) is.recent
  same_data Uidnext unseen = ap (told Uidnext) is.uidnext
  same_data Uidvalidity unseen = ap (told Uidvalidity) is.uidvalidity
  same_data Unseen unseen = ap (told Unseen) (unseen refl)
  same_data Highest unseen = ap (told Highest) is.highest

  same_all : (items : List StatusItem) → (list_any counts_unseen items ≡ true → its.unseen ≡ count_by is_unseen m.entries) → map (data_in its) items ≡ map (data_of m) items
  same_all [] unseen = refl
  same_all (item ∷ items) unseen =
      ap (λ (d : StatusData). d ∷ map (data_in its) items) (same_data item (λ e. unseen (or_left (counts_unseen item) (list_any counts_unseen items) e)))
      ∙ ap (λ (l : List StatusData). data_of m item ∷ l) (same_all items (λ e. unseen (or_right (counts_unseen item) (list_any counts_unseen items) e)))

  unseen_counted : counted ≡ true → its.unseen ≡ count_by is_unseen m.entries
  unseen_counted e = is.unseen ∙ ap (λ b. cond b (count_by is_unseen m.entries) 0) e

-- what is told of a mailbox is what its numbers are
pub status_step : (shared : Shared) (user : ℕ) (tag name : List ℕ) (items : List StatusItem) (its : Status) (m : Mailbox) → mailbox_named user (mailbox_name name) shared.world.mailboxes ≡ Some m → IsStatus (list_any counts_unseen items) its m
    → status shared user tag name items ≡ answered shared (status_line (mailbox_name name) (map (data_in its) items) ++ ok_line tag [] (codes "STATUS"))
unfolding status
status_step shared user tag name items its m named is =
    ap (λ (o : Option Mailbox). status_of shared tag name items o) named
    ∙ ap (λ (l : List StatusData). answered shared (status_line (mailbox_name name) l ++ ok_line tag [] (codes "STATUS")))
    (sym (same_all its m (list_any counts_unseen items) is items (unseen_counted its m (list_any counts_unseen items) is)))
