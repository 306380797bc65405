-- What keys find among messages that were moved to a new mailbox, and their flags.
use Rattle.std.proofs.Common.{ℕ, ◌≡◌, ◌+◌, ◌<◌, ◌==◌, Bool, true, false, cond, List, [], ◌∷◌, map, Option, Some, None, refl, sym, ap, subst, ◌∙◌, arith}
use Rattle.std.specs.Prelude.{◌&&◌, ◌||◌, is_some}
use Rattle.std.specs.Option.{option_or}
use Rattle.std.proofs.lemmas.Bool.{eqb-true, eq-eqb, ne_eqb, and_left, and_right}
use Rattle.std.proofs.lemmas.List.Folds.{find-append}
use Rattle.ordered_rows.specs.Listed.{row_at, has_key}
use Rattle.row_tables.specs.Keys.{uid_key, uid_flag_key, mailbox_message_key, flag_key}
use Rattle.row_tables.specs.Indexes.{flag_name_id}
use Rattle.row_tables.specs.References.{flags_at}
use Rattle.row_tables.specs.declared.marks.MailboxMessage.{MailboxMessage}
use Rattle.row_tables.specs.declared.marks.FlagName.{FlagName}
use Rattle.row_tables.specs.declared.marks.FlagRow.{FlagRow}
use Rattle.row_store.specs.Holding.{Stored}
use Rattle.mail_world.specs.Worlds.{Entry, entry_at}
use Rattle.mail_world.specs.Arrivals.{numbered}
use Rattle.mail_stands.specs.Facts.{Tied, IsEntryRow, flags_of, has_flag_named}
use Rattle.mail_stands.specs.Flagging.{is_flagged, is_flagged_by}
use Rattle.mail_stands.specs.MovingInbox.{flag_ids_of, moved_flags, moved_rows}
use Rattle.mail_stands.specs.Sameness.{InTurn}

-- ---- messages

module _ (mails : Stored) (id : ℕ) where
  pub moved_tied : (uid : ℕ) (rows : List MailboxMessage) (entries : List Entry) → InTurn (IsEntryRow mails) rows entries → (u : ℕ)
      → Tied (IsEntryRow mails) (row_at mailbox_message_key (uid_key id u) (moved_rows id uid 2 rows)) (entry_at u (numbered uid 2 (map (λ e. e.message) entries)))
  moved_tied uid [] [] are u = record { tie = tt }
  moved_tied uid [] (e ∷ entries) are u = absurd are
  moved_tied uid (r ∷ rows) [] are u = absurd are
  moved_tied uid (r ∷ rows) (e ∷ entries) are u =
      subst (λ b. Tied (IsEntryRow mails) (cond ((uid == u) && b) (Some (record r { mailbox = id; uid = uid; modseq = 2 })) (row_at mailbox_message_key (uid_key id u) (moved_rows id (uid + 1) 2 rows)))
      (cond (uid == u) (Some (record { uid = uid; modseq = 2; message = e.message })) (entry_at u (numbered (uid + 1) 2 (map (λ x. x.message) entries))))) (sym (eq-eqb id id refl))
      (by (uid == u) (moved_tied (uid + 1) rows entries are.1 u))
    where
      by : (b : Bool) → Tied (IsEntryRow mails) (row_at mailbox_message_key (uid_key id u) (moved_rows id (uid + 1) 2 rows)) (entry_at u (numbered (uid + 1) 2 (map (λ x. x.message) entries)))
          → Tied (IsEntryRow mails) (cond (b && true) (Some (record r { mailbox = id; uid = uid; modseq = 2 })) (row_at mailbox_message_key (uid_key id u) (moved_rows id (uid + 1) 2 rows)))
          (cond b (Some (record { uid = uid; modseq = 2; message = e.message })) (entry_at u (numbered (uid + 1) 2 (map (λ x. x.message) entries))))
      by true rest = record { tie = record { modseq = refl; seconds = are.0.seconds; zone = are.0.zone; rows = are.0.rows; kept = are.0.kept } }
      by false rest = rest

pub none_moved : (id uid modseq k u : ℕ) (rows : List MailboxMessage) → (id == k) ≡ false → row_at mailbox_message_key (uid_key k u) (moved_rows id uid modseq rows) ≡ None
none_moved id uid modseq k u [] other = refl
none_moved id uid modseq k u (r ∷ rows) other =
    ap (λ b. cond b (Some (record r { mailbox = id; uid = uid; modseq = modseq })) (row_at mailbox_message_key (uid_key k u) (moved_rows id (uid + 1) modseq rows))) (and_right (uid == u) (id == k) other)
    ∙ none_moved id (uid + 1) modseq k u rows other

-- ---- flags

abbrev flags_for : ℕ → ℕ → List ℕ → List FlagRow
flags_for id uid flags = map (λ flag. record { mailbox = id; uid = uid; flag = flag }) flags

-- none at another UID or in another mailbox
none_for : (id uid k u f : ℕ) (flags : List ℕ) → ((uid == u) && (id == k)) ≡ false → row_at flag_key (uid_flag_key k u f) (flags_for id uid flags) ≡ None
none_for id uid k u f [] other = refl
none_for id uid k u f (flag ∷ flags) other =
    ap (λ b. cond b (Some (record { mailbox = id; uid = uid; flag = flag })) (row_at flag_key (uid_flag_key k u f) (flags_for id uid flags))) (apart (flag == f) (uid == u) (id == k) other)
    ∙ none_for id uid k u f flags other
  where
    apart : (a b c : Bool) → (b && c) ≡ false → (a && b && c) ≡ false
    apart true b c e = e
    apart false b c e = refl

-- the flags of a message, found among those that it gets and those that it has
some_for : (id uid f : ℕ) (row : MailboxMessage) (rows : List FlagRow) → is_some (row_at flag_key (uid_flag_key id uid f) (flags_for id uid (flag_ids_of row rows))) ≡ is_some (row_at flag_key (uid_flag_key row.mailbox row.uid f) rows)
some_for id uid f row [] = refl
some_for id uid f row (x ∷ rows) = by (x.uid == row.uid) (x.mailbox == row.mailbox) (x.flag == f) refl refl refl (some_for id uid f row rows)
  where
    by : (a b c : Bool) → (x.uid == row.uid) ≡ a → (x.mailbox == row.mailbox) ≡ b → (x.flag == f) ≡ c
        → is_some (row_at flag_key (uid_flag_key id uid f) (flags_for id uid (map (λ r. r.flag) (flags_at row.mailbox row.uid rows)))) ≡ is_some (row_at flag_key (uid_flag_key row.mailbox row.uid f) rows)
        → is_some (row_at flag_key (uid_flag_key id uid f) (flags_for id uid (map (λ r. r.flag) (cond (a && b) (x ∷ flags_at row.mailbox row.uid rows) (flags_at row.mailbox row.uid rows)))))
        ≡ is_some (cond (c && a && b) (Some x) (row_at flag_key (uid_flag_key row.mailbox row.uid f) rows))
    by true true true p q e same =
        ap (λ d. is_some (cond (d && (uid == uid) && (id == id)) (Some (record { mailbox = id; uid = uid; flag = x.flag })) (row_at flag_key (uid_flag_key id uid f) (flags_for id uid (map (λ r. r.flag) (flags_at row.mailbox row.uid rows)))))) e
        ∙ ap (λ d. is_some (cond (d && (id == id)) (Some (record { mailbox = id; uid = uid; flag = x.flag })) (row_at flag_key (uid_flag_key id uid f) (flags_for id uid (map (λ r. r.flag) (flags_at row.mailbox row.uid rows)))))) (eq-eqb uid uid refl)
        ∙ ap (λ d. is_some (cond d (Some (record { mailbox = id; uid = uid; flag = x.flag })) (row_at flag_key (uid_flag_key id uid f) (flags_for id uid (map (λ r. r.flag) (flags_at row.mailbox row.uid rows)))))) (eq-eqb id id refl)
    by true true false p q e same =
        ap (λ d. is_some (cond (d && (uid == uid) && (id == id)) (Some (record { mailbox = id; uid = uid; flag = x.flag })) (row_at flag_key (uid_flag_key id uid f) (flags_for id uid (map (λ r. r.flag) (flags_at row.mailbox row.uid rows)))))) e ∙ same
    by true false true p q e same = same
    by true false false p q e same = same
    by false b true p q e same = same
    by false b false p q e same = same

-- ---- what is found among the flags of all

option_or_some : {X : Type 0} (a b : Option X) → is_some (option_or a b) ≡ (is_some a || is_some b)
option_or_some None b = refl
option_or_some (Some x) b = refl

module _ (id : ℕ) (flags : List FlagRow) where
  moved_first : (uid u k f : ℕ) (row : MailboxMessage) (rows : List MailboxMessage)
      → is_some (row_at flag_key (uid_flag_key k u f) (moved_flags id uid flags (row ∷ rows)))
      ≡ (is_some (row_at flag_key (uid_flag_key k u f) (flags_for id uid (flag_ids_of row flags))) || is_some (row_at flag_key (uid_flag_key k u f) (moved_flags id (uid + 1) flags rows)))
  moved_first uid u k f row rows =
      ap is_some (find-append (has_key flag_key (uid_flag_key k u f)) (flags_for id uid (flag_ids_of row flags)) (moved_flags id (uid + 1) flags rows))
      ∙ option_or_some (row_at flag_key (uid_flag_key k u f) (flags_for id uid (flag_ids_of row flags))) (row_at flag_key (uid_flag_key k u f) (moved_flags id (uid + 1) flags rows))

  -- none at a UID below the first, nor in another mailbox
  none_below : (uid u f : ℕ) (rows : List MailboxMessage) → u < uid → is_some (row_at flag_key (uid_flag_key id u f) (moved_flags id uid flags rows)) ≡ false
  none_below uid u f [] less = refl
  none_below uid u f (row ∷ rows) less =
      moved_first uid u id f row rows
      ∙ ap (λ o. is_some o || is_some (row_at flag_key (uid_flag_key id u f) (moved_flags id (uid + 1) flags rows))) (none_for id uid id u f (flag_ids_of row flags) (and_left (uid == u) (id == id) (ne_eqb uid u (λ same. omega (arith, same, less)))))
      ∙ none_below (uid + 1) u f rows (omega (arith, less))

  pub none_elsewhere : (uid k u f : ℕ) (rows : List MailboxMessage) → (id == k) ≡ false → is_some (row_at flag_key (uid_flag_key k u f) (moved_flags id uid flags rows)) ≡ false
  none_elsewhere uid k u f [] other = refl
  none_elsewhere uid k u f (row ∷ rows) other =
      moved_first uid u k f row rows
      ∙ ap (λ o. is_some o || is_some (row_at flag_key (uid_flag_key k u f) (moved_flags id (uid + 1) flags rows))) (none_for id uid k u f (flag_ids_of row flags) (and_right (uid == u) (id == k) other))
      ∙ none_elsewhere (uid + 1) k u f rows other

  none_flagged : (k u : ℕ) (o : Option ℕ) → is_flagged_by k u [] o ≡ false
  none_flagged k u None = refl
  none_flagged k u (Some f) = refl

  -- The flags of the messages, told by names: each has those that its row had.
  module _ (names : List FlagName) (name : List ℕ) where
    abbrev Tells : MailboxMessage → Entry → Type 0
    Tells row entry = is_flagged row.mailbox row.uid name names flags ≡ has_flag_named name entry.message.flags

    at_first : (uid : ℕ) (row : MailboxMessage) (rows : List MailboxMessage) (o : Option ℕ) → is_flagged_by id uid (moved_flags id uid flags (row ∷ rows)) o ≡ is_flagged_by row.mailbox row.uid flags o
    at_first uid row rows None = refl
    at_first uid row rows (Some f) =
        moved_first uid uid id f row rows
        ∙ ap (λ b. is_some (row_at flag_key (uid_flag_key id uid f) (flags_for id uid (flag_ids_of row flags))) || b) (none_below (uid + 1) uid f rows (omega arith))
        ∙ or_false (is_some (row_at flag_key (uid_flag_key id uid f) (flags_for id uid (flag_ids_of row flags))))
        ∙ some_for id uid f row flags
      where
        or_false : (b : Bool) → (b || false) ≡ b
        or_false true = refl
        or_false false = refl

    past_first : (uid u : ℕ) (row : MailboxMessage) (rows : List MailboxMessage) → (uid == u) ≡ false → (o : Option ℕ) → is_flagged_by id u (moved_flags id uid flags (row ∷ rows)) o ≡ is_flagged_by id u (moved_flags id (uid + 1) flags rows) o
    past_first uid u row rows other None = refl
    past_first uid u row rows other (Some f) =
        moved_first uid u id f row rows
        ∙ ap (λ o. is_some o || is_some (row_at flag_key (uid_flag_key id u f) (moved_flags id (uid + 1) flags rows))) (none_for id uid id u f (flag_ids_of row flags) (and_left (uid == u) (id == id) other))

    pub moved_flagged : (uid : ℕ) (rows : List MailboxMessage) (entries : List Entry) → InTurn Tells rows entries → (u : ℕ)
        → is_flagged id u name names (moved_flags id uid flags rows) ≡ has_flag_named name (flags_of (entry_at u (numbered uid 2 (map (λ e. e.message) entries))))
    moved_flagged uid [] [] are u = none_flagged id u (flag_name_id name names)
    moved_flagged uid [] (e ∷ entries) are u = absurd are
    moved_flagged uid (r ∷ rows) [] are u = absurd are
    moved_flagged uid (r ∷ rows) (e ∷ entries) are u = by (uid == u) refl (moved_flagged (uid + 1) rows entries are.1 u)
      where
        by : (b : Bool) → (uid == u) ≡ b → is_flagged id u name names (moved_flags id (uid + 1) flags rows) ≡ has_flag_named name (flags_of (entry_at u (numbered (uid + 1) 2 (map (λ x. x.message) entries))))
            → is_flagged id u name names (moved_flags id uid flags (r ∷ rows))
            ≡ has_flag_named name (flags_of (cond b (Some (record { uid = uid; modseq = 2; message = e.message })) (entry_at u (numbered (uid + 1) 2 (map (λ x. x.message) entries)))))
        by true same rest = subst (λ v. is_flagged id v name names (moved_flags id uid flags (r ∷ rows)) ≡ has_flag_named name e.message.flags) (eqb-true uid u same) (at_first uid r rows (flag_name_id name names) ∙ are.0)
        by false other rest = past_first uid u r rows other (flag_name_id name names) ∙ rest
