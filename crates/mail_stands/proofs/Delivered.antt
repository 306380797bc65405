-- A mail that is delivered to users, as rows.
use Rattle.std.proofs.Common.{ℕ, ◌≡◌, ◌==◌, Bool, true, false, cond, List, [], ◌∷◌, Option, Some, None, refl, sym, ap, subst, ◌∙◌}
use Rattle.std.specs.Prelude.{is_some}
use Rattle.std.specs.List.{AllByRecursion, flat_map}
use Rattle.std.specs.Option.{option_map}
use Rattle.std.proofs.lemmas.Bool.{true≢false, eqb-true, eq-eqb, cond_both}
use Rattle.std.proofs.lemmas.Option.{none-some}
use Rattle.date_grammar.specs.declared.parts.Stamp.{Stamp}
use Rattle.date_grammar.specs.Stamps.{HasPrint}
use Rattle.mime_tree.specs.declared.reasons.Mail.{Mail}
use Rattle.ordered_rows.specs.RowKey.{number_key}
use Rattle.ordered_rows.specs.Listed.{IsInOrder, row_at}
use Rattle.ordered_rows.specs.InsertLaws.{InsertLaws}
use Rattle.row_tables.specs.Keys.{uid_key, uid_flag_key, mailbox_key, mailbox_message_key, flag_key, flag_name_key}
use Rattle.row_tables.specs.Names as names
use Rattle.row_tables.specs.TableRows.{TableRows}
use Rattle.row_tables.specs.References.{HasMessage, MailboxRefers}
use Rattle.row_tables.specs.Fits.{IsText, Runs}
use Rattle.row_tables.specs.declared.heads.Mailbox.{Mailbox as Head}
use Rattle.row_tables.specs.declared.contents.BodyPart.{BodyPart}
use Rattle.row_tables.specs.declared.change.RowChange.{RowChange}
use Rattle.shredder.specs.MessageRows.{HasRows}
use Rattle.mail_world.specs.Names.{inbox, is_mailbox_name}
use Rattle.mail_world.specs.Worlds.{World, Mailbox, mailbox_at, has_id, is_among}
use Rattle.mail_world.specs.Changes.{Append, Deliver, Full, NoUid, first_refusal}
use Rattle.mail_world.specs.Arrivals.{has_no_room, has_no_uids, unless_absent, with_messages, appended}
use Rattle.mail_world.specs.Applying.{apply, refused}
use Rattle.mail_world.specs.Legal.{IsLegal}
use Rattle.mail_stands.specs.Facts.{mails_in}
use Rattle.mail_stands.specs.Stands.{Stands, AreWhole}
use Rattle.mail_stands.specs.Leading.{KeepsOwners, Leads}
use Rattle.mail_stands.specs.Delivering.{AreAll, AreOnce, AreReceivers, BringsMail, IsReceiver, arrival_of, deliver_changes, if_open}
use Rattle.mail_stands.proofs.Lists.{all-weaker, all_both, all_found, find-map, number_is}
use Rattle.mail_stands.proofs.Counting.{Places}
use Rattle.mail_stands.proofs.Making.{StaysLegal, mailbox_text}
use Rattle.mail_stands.proofs.Owners.{SameKeys, Replaces}
use Rattle.mail_stands.proofs.Showing.{Shows, shown, standing}
use Rattle.mail_stands.proofs.Staying.{with_mails, shredded_rows, shredded_shows}
use Rattle.mail_stands.proofs.Arrivals.{arrived, arrived_shows}
use Rattle.mail_stands.proofs.Appending.{OneEnd, next_free, no_entry, no_flags, runs_then}
use Rattle.mail_stands.proofs.Receiving.{of_open, one_same}
use Rattle.mail_stands.proofs.ManyArrivals.{CanArrive, HasRoom, all_delivered, all_keep, all_run, into, into_all, still_can, with_all, with_one}

pub record DeliverLaws : Type 0 where
  pub same : SameKeys
  pub places : Places
  pub heads : InsertLaws mailbox_key
  pub entries : InsertLaws mailbox_message_key
  pub replaces : Replaces
  pub one_end : OneEnd
  pub stays : StaysLegal

module _ (laws : DeliverLaws) where
  -- ---- who gets it, over any tables

  open_named : (t : TableRows) (row : Head) (o : Option Head) → if_open t o ≡ Some row → o ≡ Some row
  open_named t row None e = absurd (none-some row e)
  open_named t row (Some r) e = cond_both _ None (Some r) (λ p. p ≡ Some row → Some r ≡ Some row) (λ b none. absurd (none-some row none)) (λ b is. is) e

  at_id : (t : TableRows) (whole : AreWhole t) (user : ℕ) (row : Head) → names.mailbox_named user inbox t.heads.mailboxes ≡ Some row → row_at mailbox_key (number_key row.id) t.heads.mailboxes ≡ Some row
  at_id t whole user row named = laws.heads.at_key (names.has_mailbox_name user inbox) row t.heads.mailboxes whole.ordered.mailboxes named

  can_arrive : (t other : TableRows) (whole : AreWhole t) (users : List ℕ) (row : Head) → IsReceiver t users row → CanArrive (with_mails t other) row
  can_arrive t other whole users row is =
      let named = open_named t row (names.mailbox_named row.owner inbox t.heads.mailboxes) is.takes in
      record {
        found = at_id t whole row.owner row named;
        owner = all_found (MailboxRefers t) (names.has_mailbox_name row.owner inbox) t.heads.mailboxes row whole.closed.mailboxes named;
        text = is.text;
        free = is.free;
        bare = no_flags laws.same t whole.closed row.id row.uidnext is.free;
      }

  pub named_free : (content : BodyPart → List ℕ) (t : TableRows) (world : World) (user : ℕ) (row : Head) → AreWhole t → Stands content t world → names.mailbox_named user inbox t.heads.mailboxes ≡ Some row
      → IsText row.name × (row_at mailbox_message_key (uid_key row.id row.uidnext) t.marks.mailbox_messages ≡ None)
  named_free content t world user row whole s named = (
    mailbox_text row.name (all_found (λ r. is_mailbox_name r.name ≡ true) (names.has_mailbox_name user inbox) t.heads.mailboxes row s.names named),
    next_free content t world row.id row s (at_id t whole user row named),
  )

  -- ---- the changes

  module _ (content : BodyPart → List ℕ) (t : TableRows) (users : List ℕ) (date : Stamp) (mail : Mail) (taken : List ℕ) (message : ℕ) (rows : List RowChange) (heads : List Head) (whole : AreWhole t) (are : AreReceivers t users heads)
      (brings : BringsMail content t mail message rows) where
    abbrev mailed : TableRows
    mailed = with_mails t brings.shreds.after

    abbrev done : TableRows
    done = with_all laws.same laws.replaces laws.entries message date taken mailed heads

    all_can : AllByRecursion (CanArrive mailed) heads
    all_can = all-weaker (IsReceiver t users) (CanArrive mailed) (can_arrive t brings.shreds.after whole users) heads are.each

    there : HasMessage mailed message
    there = ap is_some brings.shreds.rows.size

    pub deliver_runs : Runs t (deliver_changes rows heads message date taken) done
    deliver_runs =
        runs_then t rows (flat_map (arrival_of message date taken) heads) mailed done (subst (Runs t rows) brings.shreds.apart brings.shreds.runs)
        (all_run laws.same laws.replaces laws.entries message date taken mailed heads there all_can are.once)

    keeps_mailed : KeepsOwners mailed done → KeepsOwners t done
    keeps_mailed keeps = record { users = keeps.users; mailboxes = keeps.mailboxes }

    pub deliver_keeps : (after : TableRows) → Runs t (deliver_changes rows heads message date taken) after → KeepsOwners t after
    deliver_keeps after runs =
        subst (KeepsOwners t) (laws.one_end t (deliver_changes rows heads message date taken) done after deliver_runs runs)
        (keeps_mailed (all_keep laws.same laws.replaces laws.entries message date taken mailed heads all_can are.once))

    -- ---- what they stand for

    abbrev with_it : Head → Mailbox → Mailbox
    with_it row x = with_messages (is_among row.id taken) (record { flags = []; date = date; mail = mail } ∷ []) x

    other_at : (world : World) (row : Head) (k : ℕ) (m : Mailbox) → (row.id == k) ≡ false → mailbox_at k world.mailboxes ≡ Some m → mailbox_at k (into mail date taken world row).mailboxes ≡ Some m
    other_at world row k m differs at =
        find-map (has_id k) (has_id k) (λ x. cond (has_id row.id x) (with_it row x) x)
        (λ x. ap (λ n. n == k) (cond_both (has_id row.id x) (with_it row x) x (λ y. y.head.id ≡ x.head.id) (λ e. refl) (λ e. refl))) world.mailboxes
        ∙ (ap (option_map (λ x. cond (has_id row.id x) (with_it row x) x)) at ∙ by (has_id row.id m) refl)
      where
        by : (b : Bool) → has_id row.id m ≡ b → Some (cond b (with_it row m) m) ≡ Some m
        by false e = refl
        by true e = absurd (true≢false (sym (eq-eqb row.id k (sym (eqb-true m.head.id row.id e) ∙ number_is (λ x. x.head.id) k world.mailboxes m at)) ∙ differs))

    others_room : (world : World) (row other : Head) → (row.id == other.id) ≡ false → HasRoom world other → HasRoom (into mail date taken world row) other
    others_room world row other differs has = record {
      mailbox = has.mailbox;
      at = other_at world row other.id has.mailbox differs has.at;
      head = has.head;
      free = has.free;
      room = has.room;
      uids = has.uids;
    }

    into_legal : HasPrint date → (world : World) (row : Head) → IsLegal world → HasRoom world row → IsLegal (into mail date taken world row)
    unfolding apply refused
    into_legal print world row legal has =
        laws.stays world (Append row.id [] date mail (is_among row.id taken)) legal (refl, print)
        (ap (λ o. unless_absent o (λ m. first_refusal ((has_no_room 1 m, Full) ∷ (has_no_uids 1 m, NoUid) ∷ []))) has.at
        ∙ (ap (λ b. first_refusal ((b, Full) ∷ (has_no_uids 1 has.mailbox, NoUid) ∷ [])) has.room ∙ ap (λ b. first_refusal ((b, NoUid) ∷ [])) has.uids))

    into_shows : InsertLaws flag_key → InsertLaws flag_name_key → (u : TableRows) (world : World) (row : Head) → IsLegal world → Shows content u world → IsInOrder flag_name_key u.marks.flag_names → HasRows (mails_in content u) message mail
        → CanArrive u row → HasRoom world row → Shows content (with_one laws.same laws.replaces laws.entries message date taken u row) (into mail date taken world row)
    into_shows flag_laws name_laws u world row legal s order has can room =
        let m = room.mailbox in
        subst (λ (r : Head). Shows content (arrived u r message date [] (is_among r.id taken)) (appended world r.id [] date mail (is_among r.id taken))) room.head
        (arrived_shows laws.same laws.entries flag_laws name_laws content u world m [] date mail (is_among m.head.id taken) message [] legal s
        (subst (λ k. mailbox_at k world.mailboxes ≡ Some m) (sym (ap (λ (r : Head). r.id) room.head)) room.at)
        (subst (λ (r : Head). row_at mailbox_key (number_key r.id) u.heads.mailboxes ≡ Some r) (sym room.head) can.found) order room.free
        (subst (λ (r : Head). (flag : ℕ) → row_at flag_key (uid_flag_key r.id r.uidnext flag) u.marks.flags ≡ None) (sym room.head) can.bare) has brings.kept tt)

    all_show : InsertLaws flag_key → InsertLaws flag_name_key → HasPrint date → (u : TableRows) (world : World) (more : List Head) → IsLegal world → Shows content u world → IsInOrder flag_name_key u.marks.flag_names
        → HasRows (mails_in content u) message mail → AllByRecursion (CanArrive u) more → AllByRecursion (HasRoom world) more → AreOnce more
        → Shows content (with_all laws.same laws.replaces laws.entries message date taken u more) (into_all mail date taken world more)
    all_show flag_laws name_laws print u world [] legal s order has can room once = s
    all_show flag_laws name_laws print u world (row ∷ more) legal s order has can room once =
        all_show flag_laws name_laws print (with_one laws.same laws.replaces laws.entries message date taken u row) (into mail date taken world row) more (into_legal print world row legal room.0)
        (into_shows flag_laws name_laws u world row legal s order has can.0 room.0) order has
        (still_can laws.same laws.replaces laws.entries message date taken u row more once.0 can.1)
        (all_both (λ other. (row.id == other.id) ≡ false) (HasRoom world) (HasRoom (into mail date taken world row)) (λ other d r. others_room world row other d r) more once.0 room.1) once.1

    has_room : (world : World) → Stands content t world → (row : Head) → IsReceiver t users row → HasRoom world row
    has_room world s row is =
        let its = of_open laws.places content t world whole s row.owner row is.takes in
        record {
          mailbox = its.0;
          at = subst (λ (r : Head). mailbox_at r.id world.mailboxes ≡ Some its.0) its.3 its.2;
          head = its.3;
          free = no_entry world its.0 s.legal its.2;
          room = its.4;
          uids = its.5;
        }

    pub deliver_leads : InsertLaws flag_key → InsertLaws flag_name_key → (world : World) → Stands content t world → HasPrint date → AreAll t users heads
        → Leads content t (deliver_changes rows heads message date taken) (apply world (Deliver users mail date taken))
    unfolding apply refused
    deliver_leads flag_laws name_laws world s print all = record {
      after = done;
      runs = deliver_runs;
      stands = standing content done (apply world (Deliver users mail date taken)) (laws.stays world (Deliver users mail date taken) s.legal print refl)
          (subst (Shows content done) (all_delivered mail date taken world users heads are.once (one_same laws.places content t world whole s users heads are all))
          (all_show flag_laws name_laws print mailed world heads s.legal (shredded_shows content t message mail rows brings.shreds world (shown content t world s) brings.is_new) whole.ordered.flag_names
          (shredded_rows content t message mail rows brings.shreds) all_can (all-weaker (IsReceiver t users) (HasRoom world) (has_room world s) heads are.each) are.once));
    }

-- where no INBOX takes it, nothing changes
pub deliver_stays : Places → (content : BodyPart → List ℕ) (t : TableRows) (world : World) (users : List ℕ) (date : Stamp) (mail : Mail) (taken : List ℕ) → AreWhole t → Stands content t world → AreAll t users []
    → apply world (Deliver users mail date taken) ≡ world
unfolding apply
deliver_stays places content t world users date mail taken whole s all =
    sym (all_delivered mail date taken world users [] tt (one_same places content t world whole s users [] (record { each = tt; once = tt }) all))
