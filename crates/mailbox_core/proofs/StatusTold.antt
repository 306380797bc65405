-- The numbers that the rows of a mailbox tell are those of the mailbox in the world that the tables stand for.
use Rattle.std.proofs.Common.{ℕ, ◌≡◌, ◌<◌, ◌≤◌, ◌^◌, Bool, true, false, not, cond, nat_le, List, [], ◌∷◌, length, map, filter, Some, refl, sym, ap, subst, ◌∙◌, arith}
use Rattle.std.specs.Prelude.{codes}
use Rattle.std.specs.List.{AllByRecursion, count_by}
use Rattle.std.proofs.lemmas.List.{length-map}
use Rattle.std.proofs.lemmas.List.Sums.{length-filter, count_by-le-length}
use Rattle.ordered_rows.specs.RowKey.{number_key}
use Rattle.ordered_rows.specs.Listed.{row_at}
use Rattle.ordered_rows.specs.InsertLaws.{InsertLaws}
use Rattle.row_tables.specs.Keys.{mailbox_key, flag_key, flag_name_key}
use Rattle.row_tables.specs.TableRows.{TableRows}
use Rattle.row_tables.specs.References.{uids_of as row_uids}
use Rattle.row_tables.specs.declared.contents.BodyPart.{BodyPart}
use Rattle.row_tables.specs.declared.marks.FlagRow.{FlagRow}
use Rattle.mail_world.specs.Worlds.{World, Mailbox, Entry, mailbox_at, entry_at}
use Rattle.mail_world.specs.Summaries.{uids_of, recent_of, is_unseen}
use Rattle.mail_stands.specs.Flagging.{is_flagged}
use Rattle.mail_stands.specs.Stands.{Stands, AreWhole}
use Rattle.mailbox_core.specs.declared.numbers.Status.{Status}
use Rattle.mailbox_core.specs.Statuses.{IsRowStatus, IsStatus, told, unseen_uids}
use Rattle.mailbox_core.proofs.Found.{row_is}
use Rattle.mailbox_core.proofs.Tallied.{counts_all}
use Rattle.mailbox_core.proofs.Summed.{SameKeys, each_unseen, entries_at, filter_map, weaker}

told_is : (n : ℕ) → n < 2 ^ 32 → told n ≡ n
told_is n small = omega arith

-- as many as there are elements with such numbers
counted : {X : Type 0} (test : ℕ → Bool) (f : X → ℕ) (xs : List X) → length (filter test (map f xs)) ≡ count_by (λ x. test (f x)) xs
counted test f xs = ap length (filter_map test f xs) ∙ (length-map (filter (λ x. test (f x)) xs) f ∙ length-filter (λ x. test (f x)) xs)

all_map : {X : Type 0} (P : ℕ → Type 0) (f : X → ℕ) (xs : List X) → AllByRecursion (λ x. P (f x)) xs → AllByRecursion P (map f xs)
all_map P f [] all = tt
all_map P f (x ∷ xs) all = (all.0, all_map P f xs all.1)

module _ (same : SameKeys) (laws : InsertLaws flag_name_key) (content : BodyPart → List ℕ) (t : TableRows) (w : World) (id : ℕ) (m : Mailbox) (whole : AreWhole t) (s : Stands content t w) (at : mailbox_at id w.mailboxes ≡ Some m)
    (rows_at : AllByRecursion (λ (r : FlagRow). row_at flag_key (flag_key r) t.marks.flags ≡ Some r) t.marks.flags) (uids : row_uids id t.marks.mailbox_messages ≡ uids_of m.entries) where
  few : length m.entries ≤ 100000
  few = (s.legal.mailboxes id m at).itself.few

  -- a count of messages
  told_count : (p : Entry → Bool) → told (count_by p m.entries) ≡ count_by p m.entries
  told_count p = let few = few in let less = count_by-le-length p m.entries in told_is (count_by p m.entries) (omega arith)

  below : AllByRecursion (λ uid. uid < m.head.uidnext) (row_uids id t.marks.mailbox_messages)
  below =
      subst (λ (l : List ℕ). AllByRecursion (λ uid. uid < m.head.uidnext) l) (sym uids) (all_map (λ uid. uid < m.head.uidnext) (λ (e : Entry). e.uid) m.entries
      (weaker (λ (e : Entry). entry_at e.uid m.entries ≡ Some e) (λ (e : Entry). e.uid < m.head.uidnext) (λ e found. ((s.legal.mailboxes id m at).itself.entries e.uid e found).given.below_next) m.entries
      (entries_at same laws content t w id m whole s at rows_at)))

  messages_told : told (length (row_uids id t.marks.mailbox_messages)) ≡ length m.entries
  messages_told = ap (λ (l : List ℕ). told (length l)) uids ∙ (ap told (length-map m.entries (λ (e : Entry). e.uid)) ∙ (let few = few in told_is (length m.entries) (omega arith)))

  recent_told : told (length (filter (λ uid. nat_le m.head.first_recent uid) (row_uids id t.marks.mailbox_messages))) ≡ length (recent_of m)
  recent_told =
      let test : Entry → Bool = λ e. nat_le m.head.first_recent e.uid in
      ap (λ (l : List ℕ). told (length (filter (λ uid. nat_le m.head.first_recent uid) l))) uids
      ∙ (ap told (counted (λ uid. nat_le m.head.first_recent uid) (λ (e : Entry). e.uid) m.entries)
      ∙ (told_count test ∙ sym (length-map (filter test m.entries) (λ (e : Entry). e.uid) ∙ length-filter test m.entries)))

  unseen_told : told (length (unseen_uids t id)) ≡ count_by is_unseen m.entries
  unseen_told =
      let test : ℕ → Bool = λ uid. not (is_flagged id uid (codes "\\Seen") t.marks.flag_names t.marks.flags) in
      ap (λ (l : List ℕ). told (length (filter test l))) uids
      ∙ (ap told (counted test (λ (e : Entry). e.uid) m.entries ∙ counts_all (λ (e : Entry). test e.uid) is_unseen m.entries (each_unseen same laws content t w id m whole s at rows_at)) ∙ told_count is_unseen)

  unseen_if : (b : Bool) → told (cond b (length (unseen_uids t id)) 0) ≡ cond b (count_by is_unseen m.entries) 0
  unseen_if true = unseen_told
  unseen_if false = refl

  pub status_told : row_at mailbox_key (number_key id) t.heads.mailboxes ≡ Some m.head → (with_unseen : Bool) (its : Status) → IsRowStatus t id with_unseen its → IsStatus with_unseen its m
  status_told head with_unseen its are = record {
    messages = are.messages ∙ messages_told;
    recent = are.recent m.head head below ∙ recent_told;
    uidnext = (are.head m.head head).0;
    uidvalidity = are.uidvalidity ∙ sym (row_is t.heads.mailboxes id m.head head);
    unseen = are.unseen ∙ unseen_if with_unseen;
    highest = (are.head m.head head).1;
  }
