-- Messages that are appended: what comes of a commit for which rows were made first, and what the changes bring.
use Rattle.std.proofs.Common.{◌≡◌, ◌<◌, ◌+◌, ℕ, ◌||◌, Bool, true, false, nat_le, nat_lt, cond, find, List, [], ◌∷◌, ◌++◌, length, Option, Some, None, Result, Ok, Err, IsOk, IsErrOf, IfErr, inl, inr, refl, sym, ap, ◌∙◌, subst, arith}
use Rattle.std.specs.List.{AllByRecursion}
use Rattle.std.specs.Option.{option_map}
use Rattle.std.proofs.lemmas.Bool.{false≢true}
use Rattle.std.proofs.lemmas.Option.{none-some, same_Some}
use Rattle.disk_model.specs.Told.{Told}
use Rattle.disk_model.specs.declared.disk.Files.{Files}
use Rattle.imap_grammar.specs.declared.flags.Flag.{Flag}
use Rattle.date_grammar.specs.declared.parts.Stamp.{Stamp}
use Rattle.mime_tree.specs.declared.reasons.Mail.{Mail}
use Rattle.ordered_rows.specs.RowKey.{number_key}
use Rattle.ordered_rows.specs.Listed.{row_at}
use Rattle.row_tables.specs.Keys.{mailbox_key, mailbox_message_key, message_key, uid_key}
use Rattle.mail_world.specs.Names.{is_mailbox_name}
use Rattle.mailbox_core.proofs.Lengths.{mailbox_is_text}
use Rattle.row_tables.specs.TableRows.{TableRows}
use Rattle.row_tables.specs.InTurn.{flag_insertions}
use Rattle.row_tables.specs.declared.heads.Mailbox.{Mailbox as Head}
use Rattle.row_tables.specs.declared.contents.BodyPart.{BodyPart}
use Rattle.row_tables.specs.declared.change.RowChange.{RowChange}
use Rattle.row_tables.specs.declared.change.RowChange.TheVariants.{UpdateMailbox}
use Rattle.row_store.specs.ThreeFiles.{TellsFaults, moments}
use Rattle.row_store.specs.Bodies.{ArePlaced}
use Rattle.row_store.specs.Holding.{stored, in_row}
use Rattle.row_store.specs.Crashes.{Commits, Stays}
use Rattle.row_store.specs.Kept.{Store}
use Rattle.shredder.specs.Shredding.{Shreds}
use Rattle.mail_world.specs.Flags.{distinct}
use Rattle.mail_world.specs.Worlds.{World, Mailbox, mailbox_at}
use Rattle.mail_world.specs.Changes.{Refusal, Full, NoUid, first_refusal}
use Rattle.mail_stands.specs.Stands.{Stands}
use Rattle.mail_stands.specs.Leading.{KeepsOwners}
use Rattle.mail_stands.specs.Facts.{IsKept}
use Rattle.mail_stands.specs.Refusals.{unless_absent}
use Rattle.mail_stands.specs.Arriving.{Brings, append_changes, has_no_uid, is_full, with_arrival}
use Rattle.mailbox_core.specs.declared.faults.MailFault.{MailFault}
use Rattle.row_store.specs.declared.faults.StoreFault.{StoreFault}
use Rattle.row_store.specs.declared.faults.StoreFault.TheVariants.{Failed, NoMemory}
use Rattle.mailbox_core.specs.Faults.{IsOutage, fault_in, fault_of}
use Rattle.mailbox_core.specs.Left.{Left}
use Rattle.mailbox_core.specs.Calls.{Behaves, IsMade, MakesUnless}
use Rattle.mailbox_core.specs.Rooms.{PlansNone}
use Rattle.mailbox_core.specs.Messages.{next_uid, uid_in}
use Rattle.mailbox_core.specs.Appending.{HasNextFree, PlansArrival}
use Rattle.mailbox_core.proofs.Behaving.{error_of, not_failed, not_starved, tells_as}
use Rattle.mailbox_core.proofs.Leaving.{joint_more, joint_of, leaves_more, stand_more, stored_stands}
use Rattle.mailbox_core.proofs.Owners.{keeps_all}

-- an outage is no refusal
no_refusal : {T : Type 0} (fault : MailFault) → IsOutage fault → (refusal : Refusal) → error_of T fault ≡ error_of T (fault_of refusal) → ⊥
no_refusal {T} fault (inl failed) refusal e = not_failed refusal (ap (λ (f : MailFault). error_of T f) (sym failed) ∙ e)
no_refusal {T} fault (inr starved) refusal e = not_starved refusal (ap (λ (f : MailFault). error_of T f) (sym starved) ∙ e)

none_refused : {T : Type 0} (result : Result T MailFault) → IfErr result IsOutage → (refusal : Refusal) → result ≡ Err (fault_of refusal) → ⊥
none_refused (Ok answer) outage refusal e = cc
none_refused (Err fault) outage refusal e = no_refusal fault outage refusal e

-- ---- a call that fails before it commits

module _ {D T : Type 0} (told : Told D) (fault : MailFault) (outage : IsOutage fault) (old new : Store D) (done : Type 0) (stays : Stays told done old.files new.files (stored old.tables)) where
  pub made_none : (world next : World) (answer : T) → Stands in_row old.tables world → IsMade told (error_of T fault) old new world next answer
  made_none world next answer stands =
      record {
        answers = outage;
        stands = λ ok. absurd (false≢true ok);
        settled = λ ok. absurd (false≢true ok);
        within = record {
          states = stored old.tables ∷ [];
          stand = (inr (inl (stored_stands old.tables world stands)), tt);
          joint = stays.joint;
          moments = stays.within;
        };
        since = λ since earlier left.
            let later = stays.since since left.states left.moments in
            record {
              states = left.states;
              stand = stand_more next (world ∷ earlier) left.states left.stand;
              joint = joint_of told new.files since left.states later;
              moments = later;
            };
      }

  pub behaves_none : new.files ≡ old.files → TellsFaults told (IsErrOf (error_of T fault) MailFault.Failed) old.files new.files → Behaves told (error_of T fault) old new
  behaves_none same faults =
      record {
        after = old.tables;
        owners = keeps_all old.tables;
        crash = record {
          settled = λ ok. absurd (false≢true ok);
          joint = joint_more told new.files (stored old.tables) (stored old.tables ∷ []) stays.joint;
          within = leaves_more told new.files (moments told old.files) (stored old.tables) (stored old.tables ∷ []) stays.within;
          since = λ since states left.
              leaves_more told new.files since (stored old.tables) (stored old.tables ∷ states) (leaves_more told new.files since (stored old.tables) states (stays.since since states left));
        };
        done = λ ok. absurd (false≢true ok);
        unchanged = λ refusal e. absurd (no_refusal fault outage refusal e);
        untouched = λ e. same;
        faults = faults;
      }

-- ---- a commit after a call that kept the state

module _ {D T : Type 0} (told : Told D) (result : Result T MailFault) (old mid new : Store D) (same : mid.files ≡ old.files) where
  pub made_after : (world next : World) (answer : T) → IsMade told result mid new world next answer → IsMade told result old new world next answer
  made_after world next answer made = record {
    answers = made.answers;
    stands = made.stands;
    settled = made.settled;
    within = subst (λ (f : Files D). Left told new.files (moments told f) (next ∷ world ∷ [])) same made.within;
    since = λ since earlier left. made.since since earlier (subst (λ (f : Files D). Left told f since (world ∷ earlier)) (sym same) left);
  }

  pub behaves_after : mid.tables ≡ old.tables → IfErr result IsOutage → Behaves told result mid new → Behaves told result old new
  behaves_after tables outage b = record {
    after = b.after;
    owners = subst (λ (t : TableRows). KeepsOwners t b.after) tables b.owners;
    crash = subst (λ (f : Files D). Commits told (IsOk result) f new.files (stored old.tables) (stored b.after)) same
        (subst (λ (t : TableRows). Commits told (IsOk result) mid.files new.files (stored t) (stored b.after)) tables b.crash);
    done = b.done;
    unchanged = λ refusal e. absurd (none_refused result outage refusal e);
    untouched = λ e. b.untouched e ∙ same;
    faults = subst (λ (f : Files D). TellsFaults told (IsErrOf result MailFault.Failed) f new.files) same b.faults;
  }

-- ---- changes

flags_placed : (placed : List BodyPart) (mailbox uid : ℕ) (ids : List ℕ) → ArePlaced placed (flag_insertions mailbox uid ids)
flags_placed placed mailbox uid [] = tt
flags_placed placed mailbox uid (id ∷ ids) = (tt, flags_placed placed mailbox uid ids)

module _ (t : TableRows) (id : ℕ) (flags : List Flag) (row : Head) (ids : List ℕ) (names : List RowChange) (planned : PlansArrival t id flags row ids names) where
  pub brings : (mail : Mail) (message : ℕ) (rows : List RowChange) → Shreds in_row t message mail rows → row_at message_key (number_key message) t.mails.messages ≡ None → IsKept mail
      → Brings in_row t mail flags message rows ids names
  brings mail message rows shreds is_new kept = record { shreds = shreds; is_new = is_new; names_flags = planned.flags_are.named; kept = kept }

  pub all_placed : ((placed : List BodyPart) (changes others : List RowChange) → ArePlaced placed changes → ArePlaced placed others → ArePlaced placed (changes ++ others))
      → (placed : List BodyPart) (rows : List RowChange) (message : ℕ) (date : Stamp) (taken : Bool) → ArePlaced placed rows → ArePlaced placed (append_changes rows names row message date ids taken)
  all_placed both placed rows message date taken rows_are =
      both placed rows _ rows_are (both placed names _ (planned.flags_are.placed placed)
      (tt, both placed (flag_insertions row.id row.uidnext ids) (UpdateMailbox (with_arrival taken row) ∷ []) (flags_placed placed row.id row.uidnext ids) (tt, tt)))

-- ---- room

second_false : (a b : Bool) → (a || b) ≡ false → b ≡ false
second_false false b e = e
second_false true b e = cc

passes_both : (a b : Bool) → first_refusal ((a, Full) ∷ (b, NoUid) ∷ []) ≡ None → (a ≡ false) × (b ≡ false)
passes_both false false e = (refl, refl)
passes_both false true e = cc
passes_both true b e = cc

at_row : (o : Option Head) (row : Head) (reason : Head → Option Refusal) → o ≡ Some row → unless_absent o reason ≡ None → reason row ≡ None
at_row o row reason found none = sym (ap (λ (p : Option Head). unless_absent p reason) found) ∙ none

below : (a b : ℕ) → nat_le a b ≡ false → b < a
below a b e = grind (arith)

within : (a b : ℕ) → nat_lt a (b + 1) ≡ false → b < a
within a b e = grind (arith)

-- a UID and a mod-sequence are left
module _ (t : TableRows) (id : ℕ) (flags : List Flag) (row : Head) (ids : List ℕ) (names : List RowChange) (planned : PlansArrival t id flags row ids names) where
  both_false : (is_full t (length (distinct flags)) row ≡ false) × (has_no_uid row ≡ false)
  both_false = passes_both (is_full t (length (distinct flags)) row) (has_no_uid row) (at_row _ row _ planned.found planned.room)

  pub uid_left : row.uidnext < 4294967295
  uid_left = within 4294967295 row.uidnext both_false.1

  pub modseq_left : row.highest < 18446744073709551614
  modseq_left = below 18446744073709551614 row.highest (second_false _ (nat_le 18446744073709551614 row.highest) both_false.0)

-- ---- one list

behind : (a b c : List RowChange) → (a ++ b) ++ c ≡ a ++ (b ++ c)
behind [] b c = refl
behind (x ∷ a) b c = ap (λ (l : List RowChange). x ∷ l) (behind a b c)

pub gathered : (rows names flags found a b c d : List RowChange) (i u entry made : RowChange) → a ≡ rows ++ names → b ≡ a ++ entry ∷ [] → c ≡ b ++ found → d ≡ c ++ made ∷ [] → entry ≡ i → found ≡ flags → made ≡ u
    → d ≡ rows ++ (names ++ i ∷ (flags ++ u ∷ []))
gathered rows names flags found a b c d i u entry made e1 e2 e3 e4 is same last =
    e4 ∙ (ap (λ (m : RowChange). c ++ m ∷ []) last
    ∙ (ap (λ (l : List RowChange). l ++ u ∷ [])
    (e3 ∙ (ap (λ (l : List RowChange). b ++ l) same ∙ ap (λ (l : List RowChange). l ++ flags) (e2 ∙ (ap (λ (m : RowChange). a ++ m ∷ []) is ∙ ap (λ (l : List RowChange). l ++ i ∷ []) e1))))
    ∙ (behind ((rows ++ names) ++ i ∷ []) flags (u ∷ []) ∙ (behind (rows ++ names) (i ∷ []) (flags ++ u ∷ []) ∙ behind rows names (i ∷ (flags ++ u ∷ []))))))

-- ---- faults of disks, as a call tells them

abbrev pub store_err : {S : Type 0} → StoreFault → Result S StoreFault
store_err fault = Err fault

abbrev pub store_ok : {S : Type 0} → S → Result S StoreFault
store_ok made = Ok made

pub tells_in : {D S T : Type 0} (told : Told D) (old new : Files D) (fault : StoreFault) (given : MailFault) → given ≡ fault_in fault → TellsFaults told (store_err {S = S} fault ≡ store_err {S = S} StoreFault.Failed) old new
    → TellsFaults told (IsErrOf (error_of T given) MailFault.Failed) old new
tells_in {D} {S} {T} told old new Failed given is faults =
    tells_as told old new (store_err {S = S} StoreFault.Failed ≡ store_err {S = S} StoreFault.Failed) (IsErrOf (error_of T given) MailFault.Failed) (λ e. refl) (λ e. ap (λ (f : MailFault). error_of T f) is) faults
tells_in {D} {S} {T} told old new NoMemory given is faults =
    tells_as told old new (store_err {S = S} StoreFault.NoMemory ≡ store_err {S = S} StoreFault.Failed) (IsErrOf (error_of T given) MailFault.Failed)
    (λ e. absurd (starved (ap (λ (f : MailFault). error_of T f) (sym is) ∙ e))) (λ e. cc) faults
  where
    starved : error_of T MailFault.NoMemory ≡ error_of T MailFault.Failed → ⊥
    starved e = cc

pub starved_after : {D S T : Type 0} (told : Told D) (old new : Files D) (made : S) → TellsFaults told (store_ok {S = S} made ≡ store_err {S = S} StoreFault.Failed) old new
    → TellsFaults told (IsErrOf (error_of T MailFault.NoMemory) MailFault.Failed) old new
starved_after {D} {S} {T} told old new made faults =
    tells_as told old new (store_ok {S = S} made ≡ store_err {S = S} StoreFault.Failed) (IsErrOf (error_of T MailFault.NoMemory) MailFault.Failed) (λ e. cc) (λ e. cc) faults

-- ---- a plan, or none

-- A refusal is one of the world; where there is none, memory was lacking.
pub append_none : {D T : Type 0} (told : Told D) (store : Store D) (world next : World) (answer : T) (free : Type 0) (fault : MailFault) (of_tables of_world : Option Refusal)
    → Stays told (Unit {0}) store.files store.files (stored store.tables) → of_tables ≡ of_world → PlansNone free fault of_tables → Stands in_row store.tables world → free
    → MakesUnless told (error_of T fault) store store world next answer of_world
append_none {D} {T} told store world next answer free fault of_tables of_world stays same none stands holds =
    subst (λ (r : Option Refusal). MakesUnless told (error_of T fault) store store world next answer r) same (by_case of_tables none)
  where
    by_case : (r : Option Refusal) → PlansNone free fault r → MakesUnless told (error_of T fault) store store world next answer r
    by_case None (inl starved) = made_none told fault (inr starved) store store (Unit {0}) stays world next answer stands
    by_case None (inr taken) = absurd (taken holds)
    by_case (Some refusal) is = record { answers = ap (λ (f : MailFault). error_of T f) is; unchanged = refl }

found_one : {X : Type 0} (P : X → Type 0) (x y : X) (b : Bool) (r : Option X) → P x → (r ≡ Some y → P y) → cond b (Some x) r ≡ Some y → P y
found_one P x y true r holds behind found = subst P (same_Some x y found) holds
found_one P x y false r holds behind found = behind found

-- what holds of all holds of the one that is found
pub all_found : {X : Type 0} (P : X → Type 0) (p : X → Bool) (xs : List X) (y : X) → AllByRecursion P xs → find p xs ≡ Some y → P y
all_found P p [] y all found = absurd (none-some y found)
all_found P p (x ∷ xs) y all found = found_one P x y (p x) (find p xs) all.0 (all_found P p xs y all.1) found

-- of tables that stand for a world no mailbox has a message with its next UID
pub next_free : (t : TableRows) (world : World) (id : ℕ) → Stands in_row t world
    → ((row : Head) → row_at mailbox_key (number_key id) t.heads.mailboxes ≡ Some row → row_at mailbox_message_key (uid_key id row.uidnext) t.marks.mailbox_messages ≡ None) → HasNextFree t id
next_free t world id stands free row found =
    (mailbox_is_text row.name (all_found (λ (r : Head). is_mailbox_name r.name ≡ true) _ t.heads.mailboxes row stands.names found), free row found)

-- the next UID of the world is that of the row
pub uid_is : (t : TableRows) (world : World) (id : ℕ) (row : Head) → row_at mailbox_key (number_key id) t.heads.mailboxes ≡ option_map (λ mailbox. mailbox.head) (mailbox_at id world.mailboxes)
    → row_at mailbox_key (number_key id) t.heads.mailboxes ≡ Some row → row.uidnext ≡ next_uid world id
uid_is t world id row same found = by_mailbox (mailbox_at id world.mailboxes) (sym same ∙ found)
  where
    by_mailbox : (o : Option Mailbox) → option_map (λ mailbox. mailbox.head) o ≡ Some row → row.uidnext ≡ uid_in o
    by_mailbox None e = absurd (none-some row e)
    by_mailbox (Some mailbox) e = sym (ap (λ (r : Head). r.uidnext) (same_Some mailbox.head row e))
