-- Lists of changes that run, by what is known before the first of them.
use Rattle.std.proofs.Common.{◌≡◌, ℕ, ◌&&◌, ◌==◌, false, List, [], ◌∷◌, ◌++◌, IsSome, refl, sym, ap, ◌∙◌, subst}
use Rattle.std.specs.List.{AllByRecursion}
use Rattle.ordered_rows.specs.RowKey.{RowKey, same_key}
use Rattle.ordered_rows.specs.InsertLaws.{InsertLaws}
use Rattle.ordered_rows.specs.Listed.{row_at, without}
use Rattle.row_tables.specs.Keys.{uid_key, uid_flag_key, mailbox_message_key, deleted_message_key, flag_key}
use Rattle.row_tables.specs.TableRows.{TableRows}
use Rattle.row_tables.specs.References.{HasMailbox, HasMailboxMessage, HasFlagName}
use Rattle.row_tables.specs.Fits.{CanRun, Fits, Runs, applied}
use Rattle.row_tables.specs.InTurn.{AreFlags, AreNewEntries, AreNewFlags, AreNewGone, ArePlainEntries, entry_insertions, entry_removals, flag_insertions, flag_removals, gone_insertions}
use Rattle.row_tables.specs.declared.marks.DeletedMessage.{DeletedMessage}
use Rattle.row_tables.specs.declared.marks.FlagRow.{FlagRow}
use Rattle.row_tables.specs.declared.marks.MailboxMessage.{MailboxMessage}
use Rattle.row_tables.specs.declared.change.RowChange.{RowChange}
use Rattle.row_tables.specs.declared.change.RowChange.TheVariants.{InsertMailboxMessage, RemoveMailboxMessage, InsertDeletedMessage, InsertFlagRow, RemoveFlagRow}

pub in_turn : (t middle after : TableRows) (first rest : List RowChange) → Runs t first middle → Runs middle rest after → Runs t (first ++ rest) after
in_turn t middle after [] rest h k = subst (λ u. Runs u rest after) (sym h) k
in_turn t middle after (change ∷ first) rest h k = (h.0, in_turn (applied t change) middle after first rest h.1 k)

module _ (laws : InsertLaws flag_key) (mailbox uid : ℕ) where
  abbrev flag_row : ℕ → FlagRow
  flag_row flag = record { mailbox = mailbox; uid = uid; flag = flag }

  still_new : (t : TableRows) (flag : ℕ) (flags : List ℕ) → AllByRecursion (λ other. (flag == other) ≡ false) flags → AreNewFlags t mailbox uid flags → AreNewFlags (applied t (InsertFlagRow (flag_row flag))) mailbox uid flags
  still_new t flag [] differ new = tt
  still_new t flag (other ∷ flags) differ new =
      (laws.other (flag_row flag) (uid_flag_key mailbox uid other) t.marks.flags (ap (λ b. b && (uid == uid) && (mailbox == mailbox)) differ.0) ∙ new.0, new.1, still_new t flag flags differ.1 new.2)

  pub flags_can : (t : TableRows) (flags : List ℕ) → HasMailbox t mailbox → HasMailboxMessage t mailbox uid → AllByRecursion (HasFlagName t) flags → AreNewFlags t mailbox uid flags → CanRun t (flag_insertions mailbox uid flags)
  flags_can t [] box entry named new = (t, refl)
  flags_can t (flag ∷ flags) box entry named new =
      let rest = flags_can (applied t (InsertFlagRow (flag_row flag))) flags box entry named.1 (still_new t flag flags new.1 new.2) in
      (rest.0, ((new.0, (box, entry, named.0)), rest.1))

pub alone : (t : TableRows) (change : RowChange) → Fits t change → Runs t (change ∷ []) (applied t change)
alone t change fits = (fits, refl)

module _ (removed : (k other : RowKey) (rows : List FlagRow) → same_key k other ≡ false → row_at flag_key other (without flag_key k rows) ≡ row_at flag_key other rows) (mailbox uid : ℕ) where
  still_flags : (t : TableRows) (flag : ℕ) (flags : List ℕ) → AllByRecursion (λ other. (flag == other) ≡ false) flags → AreFlags t mailbox uid flags → AreFlags (applied t (RemoveFlagRow (mailbox, uid, flag))) mailbox uid flags
  still_flags t flag [] differ there = tt
  still_flags t flag (other ∷ flags) differ there =
      (subst IsSome (sym (removed (uid_flag_key mailbox uid flag) (uid_flag_key mailbox uid other) t.marks.flags (ap (λ b. b && (uid == uid) && (mailbox == mailbox)) differ.0))) there.0, there.1, still_flags t flag flags differ.1 there.2)

  pub removals_can : (t : TableRows) (flags : List ℕ) → AreFlags t mailbox uid flags → CanRun t (flag_removals mailbox uid flags)
  removals_can t [] there = (t, refl)
  removals_can t (flag ∷ flags) there =
      let rest = removals_can (applied t (RemoveFlagRow (mailbox, uid, flag))) flags (still_flags t flag flags there.1 there.2) in
      (rest.0, (there.0, rest.1))

module _ (laws : InsertLaws deleted_message_key) where
  still_new_gone : (t : TableRows) (r : DeletedMessage) (rows : List DeletedMessage) → AllByRecursion (λ other. same_key (deleted_message_key r) (deleted_message_key other) ≡ false) rows → AreNewGone t rows
      → AreNewGone (applied t (InsertDeletedMessage r)) rows
  still_new_gone t r [] differ new = tt
  still_new_gone t r (other ∷ rows) differ new =
      (laws.other r (deleted_message_key other) t.marks.deleted_messages differ.0 ∙ new.0, new.1, new.2, still_new_gone t r rows differ.1 new.3)

  pub gone_can : (t : TableRows) (rows : List DeletedMessage) → AreNewGone t rows → CanRun t (gone_insertions rows)
  gone_can t [] new = (t, refl)
  gone_can t (r ∷ rows) new =
      let rest = gone_can (applied t (InsertDeletedMessage r)) rows (still_new_gone t r rows new.2 new.3) in
      (rest.0, ((new.0, new.1), rest.1))

module _ (laws : InsertLaws mailbox_message_key) where
  still_new_entries : (t : TableRows) (r : MailboxMessage) (rows : List MailboxMessage) → AllByRecursion (λ other. same_key (mailbox_message_key r) (mailbox_message_key other) ≡ false) rows → AreNewEntries t rows
      → AreNewEntries (applied t (InsertMailboxMessage r)) rows
  still_new_entries t r [] differ new = tt
  still_new_entries t r (other ∷ rows) differ new =
      (laws.other r (mailbox_message_key other) t.marks.mailbox_messages differ.0 ∙ new.0, new.1, new.2, still_new_entries t r rows differ.1 new.3)

  pub entries_can : (t : TableRows) (rows : List MailboxMessage) → AreNewEntries t rows → CanRun t (entry_insertions rows)
  entries_can t [] new = (t, refl)
  entries_can t (r ∷ rows) new =
      let rest = entries_can (applied t (InsertMailboxMessage r)) rows (still_new_entries t r rows new.2 new.3) in
      (rest.0, ((new.0, new.1), rest.1))

module _ (removed : (k other : RowKey) (rows : List MailboxMessage) → same_key k other ≡ false → row_at mailbox_message_key other (without mailbox_message_key k rows) ≡ row_at mailbox_message_key other rows) (mailbox : ℕ) where
  still_plain : (t : TableRows) (uid : ℕ) (uids : List ℕ) → AllByRecursion (λ other. (uid == other) ≡ false) uids → ArePlainEntries t mailbox uids → ArePlainEntries (applied t (RemoveMailboxMessage (mailbox, uid))) mailbox uids
  still_plain t uid [] differ there = tt
  still_plain t uid (other ∷ uids) differ there =
      (subst IsSome (sym (removed (uid_key mailbox uid) (uid_key mailbox other) t.marks.mailbox_messages (ap (λ b. b && (mailbox == mailbox)) differ.0))) there.0, there.1, there.2, still_plain t uid uids differ.1 there.3)

  pub entry_removals_can : (t : TableRows) (uids : List ℕ) → ArePlainEntries t mailbox uids → CanRun t (entry_removals mailbox uids)
  entry_removals_can t [] there = (t, refl)
  entry_removals_can t (uid ∷ uids) there =
      let rest = entry_removals_can (applied t (RemoveMailboxMessage (mailbox, uid))) uids (still_plain t uid uids there.2 there.3) in
      (rest.0, ((there.0, there.1), rest.1))
