-- Messages whose flags change one after another, as rows.
use Rattle.std.proofs.Common.{ℕ, ◌≡◌, ◌==◌, ◌&&◌, ◌||◌, Bool, true, false, not, List, [], ◌∷◌, ◌++◌, Option, Some, None, refl, sym, ap, subst, ◌∙◌}
use Rattle.std.specs.Prelude.{IsSome, is_some}
use Rattle.std.specs.Option.{option_or}
use Rattle.std.specs.List.{AllByRecursion, flat_map}
use Rattle.std.proofs.lemmas.Bool.{false≢true, eqb-true, and_left}
use Rattle.ordered_rows.specs.RowKey.{RowKey, number_key, same_key}
use Rattle.ordered_rows.specs.Listed.{row_at, with_replaced, without}
use Rattle.ordered_rows.specs.InsertLaws.{InsertLaws}
use Rattle.row_tables.specs.Keys.{uid_key, uid_flag_key, mailbox_message_key, flag_key, flag_name_key}
use Rattle.row_tables.specs.TableRows.{TableRows}
use Rattle.row_tables.specs.References.{HasMailbox, HasMailboxMessage, HasMessage}
use Rattle.row_tables.specs.InTurn.{AreFlags, AreNewFlags, flag_insertions, flag_removals}
use Rattle.row_tables.specs.Fits.{Runs, applied}
use Rattle.row_tables.specs.declared.marks.MailboxMessage.{MailboxMessage}
use Rattle.row_tables.specs.declared.marks.FlagRow.{FlagRow}
use Rattle.row_tables.specs.declared.change.RowChange.{RowChange}
use Rattle.row_tables.specs.declared.change.RowChange.TheVariants.{RemoveFlagRow, UpdateMailboxMessage}
use Rattle.mail_world.specs.Worlds.{is_among}
use Rattle.mail_stands.specs.Storing.{flag_changes}
use Rattle.mail_stands.proofs.Lists.{none_there}
use Rattle.mail_stands.proofs.Among.{Apart, not_behind}
use Rattle.mail_stands.proofs.Flags.{with_flags, flags_run, others_flags, its_flags, none_such}
use Rattle.mail_stands.proofs.Appending.{runs_then}

-- ---- rows that are removed and replaced

pub record RemoveLaws {X : Type 0} (key : X → RowKey) : Type 0 where
  pub same : (k : RowKey) (rows : List X) → row_at key k (without key k rows) ≡ None
  pub other : (k other : RowKey) (rows : List X) → same_key k other ≡ false → row_at key other (without key k rows) ≡ row_at key other rows

pub record ReplaceLaws {X : Type 0} (key : X → RowKey) : Type 0 where
  pub same : (row : X) (rows : List X) → IsSome (row_at key (key row) rows) → row_at key (key row) (with_replaced key row rows) ≡ Some row
  pub other : (row : X) (k : RowKey) (rows : List X) → same_key (key row) k ≡ false → row_at key k (with_replaced key row rows) ≡ row_at key k rows

-- ---- flags that are taken off a message

abbrev pub without_flags : ℕ → ℕ → List ℕ → List FlagRow → List FlagRow
without_flags mailbox uid [] rows = rows
without_flags mailbox uid (flag ∷ flags) rows = without_flags mailbox uid flags (without flag_key (uid_flag_key mailbox uid flag) rows)

abbrev unflagged : TableRows → ℕ → ℕ → List ℕ → TableRows
unflagged t mailbox uid flags = record t { marks = record t.marks { flags = without_flags mailbox uid flags t.marks.flags } }

and_true : (b : Bool) → b ≡ (b && true)
and_true true = refl
and_true false = refl

and_false : (b : Bool) → false ≡ (b && false)
and_false true = refl
and_false false = refl

module _ (laws : RemoveLaws flag_key) (mailbox uid : ℕ) where
  -- other messages keep theirs
  others_kept : (flags : List ℕ) (rows : List FlagRow) (m u flag : ℕ) → ((uid == u) && (mailbox == m)) ≡ false → row_at flag_key (uid_flag_key m u flag) (without_flags mailbox uid flags rows) ≡ row_at flag_key (uid_flag_key m u flag) rows
  others_kept [] rows m u flag differ = refl
  others_kept (f ∷ flags) rows m u flag differ =
      others_kept flags (without flag_key (uid_flag_key mailbox uid f) rows) m u flag differ
      ∙ laws.other (uid_flag_key mailbox uid f) (uid_flag_key m u flag) rows (none_such (f == flag) (uid == u) (mailbox == m) differ)

  -- the message keeps those that aren't among them
  its_kept : (flags : List ℕ) (rows : List FlagRow) (flag : ℕ) → is_some (row_at flag_key (uid_flag_key mailbox uid flag) (without_flags mailbox uid flags rows)) ≡ (is_some (row_at flag_key (uid_flag_key mailbox uid flag) rows) && not (is_among flag flags))
  its_kept [] rows flag = and_true (is_some (row_at flag_key (uid_flag_key mailbox uid flag) rows))
  its_kept (f ∷ flags) rows flag = its_kept flags (without flag_key (uid_flag_key mailbox uid f) rows) flag ∙ by (f == flag) refl
    where
      by : (b : Bool) → (f == flag) ≡ b → (is_some (row_at flag_key (uid_flag_key mailbox uid flag) (without flag_key (uid_flag_key mailbox uid f) rows)) && not (is_among flag flags)) ≡ (is_some (row_at flag_key (uid_flag_key mailbox uid flag) rows) && not (b || is_among flag flags))
      by true e =
          ap (λ o. is_some o && not (is_among flag flags)) (subst (λ k. row_at flag_key (uid_flag_key mailbox uid k) (without flag_key (uid_flag_key mailbox uid f) rows) ≡ None) (eqb-true f flag e) (laws.same (uid_flag_key mailbox uid f) rows))
          ∙ and_false (is_some (row_at flag_key (uid_flag_key mailbox uid flag) rows))
      by false e = ap (λ o. is_some o && not (is_among flag flags)) (laws.other (uid_flag_key mailbox uid f) (uid_flag_key mailbox uid flag) rows (ap (λ b. b && (uid == uid) && (mailbox == mailbox)) e))

  still_there : (t : TableRows) (f : ℕ) (flags : List ℕ) → AllByRecursion (λ other. (f == other) ≡ false) flags → AreFlags t mailbox uid flags → AreFlags (applied t (RemoveFlagRow (mailbox, uid, f))) mailbox uid flags
  still_there t f [] differ are = tt
  still_there t f (flag ∷ flags) differ are = (
    subst IsSome (sym (laws.other (uid_flag_key mailbox uid f) (uid_flag_key mailbox uid flag) t.marks.flags (ap (λ b. b && (uid == uid) && (mailbox == mailbox)) differ.0))) are.0,
    are.1,
    still_there t f flags differ.1 are.2,
  )

  removals_run : (t : TableRows) (flags : List ℕ) (rest : List RowChange) (after : TableRows) → AreFlags t mailbox uid flags → Runs (unflagged t mailbox uid flags) rest after → Runs t (flag_removals mailbox uid flags ++ rest) after
  removals_run t [] rest after are runs = runs
  removals_run t (f ∷ flags) rest after are runs = (are.0, removals_run (applied t (RemoveFlagRow (mailbox, uid, f))) flags rest after (still_there t f flags are.1 are.2) runs)

  still_lacked : (t : TableRows) (lost got : List ℕ) → AreNewFlags t mailbox uid got → AreNewFlags (unflagged t mailbox uid lost) mailbox uid got
  still_lacked t lost [] new = tt
  still_lacked t lost (flag ∷ got) new = (
    none_there (row_at flag_key (uid_flag_key mailbox uid flag) (without_flags mailbox uid lost t.marks.flags)) (its_kept lost t.marks.flags flag ∙ ap (λ o. is_some o && not (is_among flag lost)) new.0),
    new.1,
    still_lacked t lost got new.2,
  )

-- ---- one message

abbrev moved_messages : Option MailboxMessage → List MailboxMessage → List MailboxMessage
moved_messages None rows = rows
moved_messages (Some row) rows = with_replaced mailbox_message_key row rows

abbrev moved_flags : ℕ → ℕ → List ℕ → List ℕ → Option MailboxMessage → List FlagRow → List FlagRow
moved_flags id uid lost got None rows = rows
moved_flags id uid lost got (Some row) rows = with_flags id uid got (without_flags id uid lost rows)

-- What is asked of the tables before.
pub record CanMove (t : TableRows) (id uid : ℕ) (lost got : List ℕ) (row : MailboxMessage) : Type 0 where
  pub at : mailbox_message_key row ≡ uid_key id uid
  pub box : HasMailbox t id
  pub there : HasMailboxMessage t id uid
  pub mail : HasMessage t row.message
  pub has : AreFlags t id uid lost
  pub lacks : AreNewFlags t id uid got
  pub named : AllByRecursion (λ flag. IsSome (row_at flag_name_key (number_key flag) t.marks.flag_names)) got

abbrev pub Moves : TableRows → ℕ → ℕ → List ℕ → List ℕ → Option MailboxMessage → Type 0
Moves t id uid lost got None = Unit {0}
Moves t id uid lost got (Some row) = CanMove t id uid lost got row

-- a new row has the key of the message
abbrev pub IsRowOf : ℕ → ℕ → Option MailboxMessage → Type 0
IsRowOf id uid None = Unit {0}
IsRowOf id uid (Some row) = mailbox_message_key row ≡ uid_key id uid

-- whether a flag is there after, from whether it was
abbrev pub told : List ℕ → List ℕ → Option MailboxMessage → ℕ → Bool → Bool
told lost got None flag had = had
told lost got (Some row) flag had = is_among flag got || (had && not (is_among flag lost))

-- the rows after messages, and the tables

abbrev pub messages_after : (ℕ → Option MailboxMessage) → List ℕ → List MailboxMessage → List MailboxMessage
messages_after new [] rows = rows
messages_after new (uid ∷ uids) rows = messages_after new uids (moved_messages (new uid) rows)

abbrev pub flags_after : ℕ → (ℕ → List ℕ) → (ℕ → List ℕ) → (ℕ → Option MailboxMessage) → List ℕ → List FlagRow → List FlagRow
flags_after id lost got new [] rows = rows
flags_after id lost got new (uid ∷ uids) rows = flags_after id lost got new uids (moved_flags id uid (lost uid) (got uid) (new uid) rows)

abbrev pub moved : ℕ → (ℕ → List ℕ) → (ℕ → List ℕ) → (ℕ → Option MailboxMessage) → TableRows → List ℕ → TableRows
moved id lost got new t uids = record t { marks = record t.marks { mailbox_messages = messages_after new uids t.marks.mailbox_messages; flags = flags_after id lost got new uids t.marks.flags } }

abbrev pub Present : ℕ → ℕ → List MailboxMessage → Option MailboxMessage → Type 0
Present id uid rows None = Unit {0}
Present id uid rows (Some row) = IsSome (row_at mailbox_message_key (uid_key id uid) rows)

-- of another message
no_other : (a b c : Bool) → ((a || b) && c) ≡ false → ((a && c) ≡ false) × ((b && c) ≡ false)
no_other true true c e = (e, e)
no_other true false c e = (e, refl)
no_other false b c e = (refl, e)

module _ (inserts : InsertLaws flag_key) (removes : RemoveLaws flag_key) (replaces : ReplaceLaws mailbox_message_key) (id : ℕ) where
  message_elsewhere : (uid : ℕ) (o : Option MailboxMessage) → IsRowOf id uid o → (rows : List MailboxMessage) (k u : ℕ) → ((uid == u) && (id == k)) ≡ false
      → row_at mailbox_message_key (uid_key k u) (moved_messages o rows) ≡ row_at mailbox_message_key (uid_key k u) rows
  message_elsewhere uid None its rows k u differ = refl
  message_elsewhere uid (Some row) its rows k u differ = replaces.other row (uid_key k u) rows (ap (λ j. same_key j (uid_key k u)) its ∙ differ)

  message_here : (uid : ℕ) (o : Option MailboxMessage) → IsRowOf id uid o → (rows : List MailboxMessage) → Present id uid rows o
      → row_at mailbox_message_key (uid_key id uid) (moved_messages o rows) ≡ option_or o (row_at mailbox_message_key (uid_key id uid) rows)
  message_here uid None its rows there = refl
  message_here uid (Some row) its rows there =
      subst (λ k. IsSome (row_at mailbox_message_key k rows) → row_at mailbox_message_key k (with_replaced mailbox_message_key row rows) ≡ Some row) its (replaces.same row rows) there

  flags_elsewhere : (uid : ℕ) (lost got : List ℕ) (o : Option MailboxMessage) (rows : List FlagRow) (k u flag : ℕ) → ((uid == u) && (id == k)) ≡ false
      → row_at flag_key (uid_flag_key k u flag) (moved_flags id uid lost got o rows) ≡ row_at flag_key (uid_flag_key k u flag) rows
  flags_elsewhere uid lost got None rows k u flag differ = refl
  flags_elsewhere uid lost got (Some row) rows k u flag differ = others_flags inserts id uid got (without_flags id uid lost rows) k u flag differ ∙ others_kept removes id uid lost rows k u flag differ

  flags_here : (uid : ℕ) (lost got : List ℕ) (o : Option MailboxMessage) (rows : List FlagRow) (flag : ℕ)
      → is_some (row_at flag_key (uid_flag_key id uid flag) (moved_flags id uid lost got o rows)) ≡ told lost got o flag (is_some (row_at flag_key (uid_flag_key id uid flag) rows))
  flags_here uid lost got None rows flag = refl
  flags_here uid lost got (Some row) rows flag = its_flags inserts id uid got (without_flags id uid lost rows) flag ∙ ap (λ b. is_among flag got || b) (its_kept removes id uid lost rows flag)

  abbrev stepped : TableRows → ℕ → List ℕ → List ℕ → Option MailboxMessage → TableRows
  stepped t uid lost got o = record t { marks = record t.marks { mailbox_messages = moved_messages o t.marks.mailbox_messages; flags = moved_flags id uid lost got o t.marks.flags } }

  one_runs : (t : TableRows) (uid : ℕ) (lost got : List ℕ) (o : Option MailboxMessage) → Moves t id uid lost got o → Runs t (flag_changes id uid lost got o) (stepped t uid lost got o)
  one_runs t uid lost got None moves = refl
  one_runs t uid lost got (Some row) can =
      let after = stepped t uid lost got (Some row) in
      removals_run removes id uid t lost (flag_insertions id uid got ++ UpdateMailboxMessage row ∷ []) after can.has
      (flags_run inserts id uid (unflagged t id uid lost) got (UpdateMailboxMessage row ∷ []) after can.box can.there can.named (still_lacked removes id uid t lost got can.lacks)
      ((subst (λ k. IsSome (row_at mailbox_message_key k t.marks.mailbox_messages)) (sym can.at) can.there, (subst (λ n. HasMailbox t n) (sym (ap (λ (k : RowKey). k.number) can.at)) can.box, can.mail)), refl))

  -- ---- another message can still change

  flags_still : (t u : TableRows) (v : ℕ) (flags : List ℕ) → ((flag : ℕ) → row_at flag_key (uid_flag_key id v flag) u.marks.flags ≡ row_at flag_key (uid_flag_key id v flag) t.marks.flags) → AreFlags t id v flags → AreFlags u id v flags
  flags_still t u v [] same are = tt
  flags_still t u v (f ∷ flags) same are = (subst IsSome (sym (same f)) are.0, are.1, flags_still t u v flags same are.2)

  lacks_still : (t u : TableRows) (v : ℕ) (flags : List ℕ) → ((flag : ℕ) → row_at flag_key (uid_flag_key id v flag) u.marks.flags ≡ row_at flag_key (uid_flag_key id v flag) t.marks.flags) → AreNewFlags t id v flags → AreNewFlags u id v flags
  lacks_still t u v [] same new = tt
  lacks_still t u v (f ∷ flags) same new = (same f ∙ new.0, new.1, lacks_still t u v flags same new.2)

  moves_still : (t : TableRows) (uid : ℕ) (lost got : List ℕ) (o : Option MailboxMessage) → IsRowOf id uid o → (v : ℕ) → (uid == v) ≡ false → (its_lost its_got : List ℕ) (p : Option MailboxMessage) → Moves t id v its_lost its_got p
      → Moves (stepped t uid lost got o) id v its_lost its_got p
  moves_still t uid lost got o its v differ its_lost its_got None moves = tt
  moves_still t uid lost got o its v differ its_lost its_got (Some row) can =
      let apart = and_left (uid == v) (id == id) differ in
      let u = stepped t uid lost got o in
      record {
        at = can.at;
        box = can.box;
        there = subst IsSome (sym (message_elsewhere uid o its t.marks.mailbox_messages id v apart)) can.there;
        mail = can.mail;
        has = flags_still t u v its_lost (λ flag. flags_elsewhere uid lost got o t.marks.flags id v flag apart) can.has;
        lacks = lacks_still t u v its_got (λ flag. flags_elsewhere uid lost got o t.marks.flags id v flag apart) can.lacks;
        named = can.named;
      }

  -- ---- one after another

  module _ (lost got : ℕ → List ℕ) (new : ℕ → Option MailboxMessage) (its : (uid : ℕ) → IsRowOf id uid (new uid)) where
    all_still : (t : TableRows) (uid : ℕ) (uids : List ℕ) → AllByRecursion (λ other. (uid == other) ≡ false) uids → AllByRecursion (λ v. Moves t id v (lost v) (got v) (new v)) uids
        → AllByRecursion (λ v. Moves (stepped t uid (lost uid) (got uid) (new uid)) id v (lost v) (got v) (new v)) uids
    all_still t uid [] apart all = tt
    all_still t uid (v ∷ uids) apart all = (moves_still t uid (lost uid) (got uid) (new uid) (its uid) v apart.0 (lost v) (got v) (new v) all.0, all_still t uid uids apart.1 all.1)

    pub all_run : (uids : List ℕ) → Apart uids → (t : TableRows) → AllByRecursion (λ v. Moves t id v (lost v) (got v) (new v)) uids
        → Runs t (flat_map (λ uid. flag_changes id uid (lost uid) (got uid) (new uid)) uids) (moved id lost got new t uids)
    all_run [] apart t all = refl
    all_run (uid ∷ uids) apart t all =
        let next = stepped t uid (lost uid) (got uid) (new uid) in
        runs_then t (flag_changes id uid (lost uid) (got uid) (new uid)) (flat_map (λ v. flag_changes id v (lost v) (got v) (new v)) uids) next (moved id lost got new next uids)
        (one_runs t uid (lost uid) (got uid) (new uid) all.0) (all_run uids apart.1 next (all_still t uid uids apart.0 all.1))

    -- what is found after: elsewhere what was, and at a UID the new row, and the flags that the message then has

    pub messages_elsewhere : (uids : List ℕ) (rows : List MailboxMessage) (k u : ℕ) → (is_among u uids && (id == k)) ≡ false → row_at mailbox_message_key (uid_key k u) (messages_after new uids rows) ≡ row_at mailbox_message_key (uid_key k u) rows
    messages_elsewhere [] rows k u differ = refl
    messages_elsewhere (uid ∷ uids) rows k u differ =
        let parts = no_other (uid == u) (is_among u uids) (id == k) differ in
        messages_elsewhere uids (moved_messages (new uid) rows) k u parts.1 ∙ message_elsewhere uid (new uid) (its uid) rows k u parts.0

    pub all_flags_elsewhere : (uids : List ℕ) (rows : List FlagRow) (k u flag : ℕ) → (is_among u uids && (id == k)) ≡ false → row_at flag_key (uid_flag_key k u flag) (flags_after id lost got new uids rows) ≡ row_at flag_key (uid_flag_key k u flag) rows
    all_flags_elsewhere [] rows k u flag differ = refl
    all_flags_elsewhere (uid ∷ uids) rows k u flag differ =
        let parts = no_other (uid == u) (is_among u uids) (id == k) differ in
        all_flags_elsewhere uids (moved_flags id uid (lost uid) (got uid) (new uid) rows) k u flag parts.1 ∙ flags_elsewhere uid (lost uid) (got uid) (new uid) rows k u flag parts.0

    pub messages_here : (uids : List ℕ) → Apart uids → (u : ℕ) → is_among u uids ≡ true → (rows : List MailboxMessage) → Present id u rows (new u)
        → row_at mailbox_message_key (uid_key id u) (messages_after new uids rows) ≡ option_or (new u) (row_at mailbox_message_key (uid_key id u) rows)
    messages_here [] apart u e rows there = absurd (false≢true e)
    messages_here (uid ∷ uids) apart u e rows there = by (uid == u) refl e (λ h. messages_here uids apart.1 u h (moved_messages (new uid) rows))
      where
        present : (o : Option MailboxMessage) (a b : List MailboxMessage) → row_at mailbox_message_key (uid_key id u) b ≡ row_at mailbox_message_key (uid_key id u) a → Present id u a o → Present id u b o
        present None a b same is = tt
        present (Some row) a b same is = subst IsSome (sym same) is

        by : (b : Bool) → (uid == u) ≡ b → (b || is_among u uids) ≡ true
            → (is_among u uids ≡ true → Present id u (moved_messages (new uid) rows) (new u)
            → row_at mailbox_message_key (uid_key id u) (messages_after new uids (moved_messages (new uid) rows)) ≡ option_or (new u) (row_at mailbox_message_key (uid_key id u) (moved_messages (new uid) rows)))
            → row_at mailbox_message_key (uid_key id u) (messages_after new uids (moved_messages (new uid) rows)) ≡ option_or (new u) (row_at mailbox_message_key (uid_key id u) rows)
        by true s h rest =
            subst (λ v. Present id v rows (new v) → row_at mailbox_message_key (uid_key id v) (messages_after new uids (moved_messages (new uid) rows)) ≡ option_or (new v) (row_at mailbox_message_key (uid_key id v) rows)) (eqb-true uid u s)
            (λ is. messages_elsewhere uids (moved_messages (new uid) rows) id uid (and_left (is_among uid uids) (id == id) (not_behind uid uids apart.0)) ∙ message_here uid (new uid) (its uid) rows is) there
        by false s h rest =
            let same = message_elsewhere uid (new uid) (its uid) rows id u (and_left (uid == u) (id == id) s) in
            rest h (present (new u) rows (moved_messages (new uid) rows) same there) ∙ ap (option_or (new u)) same

    pub all_flags_here : (uids : List ℕ) → Apart uids → (u : ℕ) → is_among u uids ≡ true → (rows : List FlagRow) (flag : ℕ)
        → is_some (row_at flag_key (uid_flag_key id u flag) (flags_after id lost got new uids rows)) ≡ told (lost u) (got u) (new u) flag (is_some (row_at flag_key (uid_flag_key id u flag) rows))
    all_flags_here [] apart u e rows flag = absurd (false≢true e)
    all_flags_here (uid ∷ uids) apart u e rows flag = by (uid == u) refl e (λ h. all_flags_here uids apart.1 u h (moved_flags id uid (lost uid) (got uid) (new uid) rows) flag)
      where
        by : (b : Bool) → (uid == u) ≡ b → (b || is_among u uids) ≡ true
            → (is_among u uids ≡ true → is_some (row_at flag_key (uid_flag_key id u flag) (flags_after id lost got new uids (moved_flags id uid (lost uid) (got uid) (new uid) rows))) ≡ told (lost u) (got u) (new u) flag (is_some (row_at flag_key (uid_flag_key id u flag) (moved_flags id uid (lost uid) (got uid) (new uid) rows))))
            → is_some (row_at flag_key (uid_flag_key id u flag) (flags_after id lost got new uids (moved_flags id uid (lost uid) (got uid) (new uid) rows))) ≡ told (lost u) (got u) (new u) flag (is_some (row_at flag_key (uid_flag_key id u flag) rows))
        by true s h rest =
            subst (λ v. is_some (row_at flag_key (uid_flag_key id v flag) (flags_after id lost got new uids (moved_flags id uid (lost uid) (got uid) (new uid) rows))) ≡ told (lost v) (got v) (new v) flag (is_some (row_at flag_key (uid_flag_key id v flag) rows))) (eqb-true uid u s)
            (ap is_some (all_flags_elsewhere uids (moved_flags id uid (lost uid) (got uid) (new uid) rows) id uid flag (and_left (is_among uid uids) (id == id) (not_behind uid uids apart.0))) ∙ flags_here uid (lost uid) (got uid) (new uid) rows flag)
        by false s h rest =
            rest h ∙ ap (λ o. told (lost u) (got u) (new u) flag (is_some o)) (flags_elsewhere uid (lost uid) (got uid) (new uid) rows id u flag (and_left (uid == u) (id == id) s))
