-- A message that is appended to a mailbox, as rows.
use Rattle.std.proofs.Common.{ℕ, ◌≡◌, Bool, true, List, [], ◌∷◌, ◌++◌, Option, Some, None, refl, sym, ap, subst, ◌∙◌, arith}
use Rattle.std.specs.Prelude.{IsSome, is_some}
use Rattle.std.specs.List.{list_all}
use Rattle.std.specs.Option.{option_and_then}
use Rattle.std.proofs.lemmas.Bool.{false≢true}
use Rattle.std.proofs.lemmas.Option.{none-some}
use Rattle.date_grammar.specs.declared.parts.Stamp.{Stamp}
use Rattle.imap_grammar.specs.declared.flags.Flag.{Flag}
use Rattle.mime_tree.specs.declared.reasons.Mail.{Mail}
use Rattle.ordered_rows.specs.RowKey.{RowKey, number_key}
use Rattle.ordered_rows.specs.Listed.{IsInOrder, row_at, has_key}
use Rattle.ordered_rows.specs.InsertLaws.{InsertLaws}
use Rattle.row_tables.specs.Keys.{uid_key, uid_flag_key, mailbox_key, mailbox_message_key, flag_key, flag_name_key}
use Rattle.row_tables.specs.TableRows.{TableRows}
use Rattle.row_tables.specs.References.{AreOrdered, AreClosed, MailboxRefers, FlagRefers, HasMessage}
use Rattle.row_tables.specs.InTurn.{flag_insertions}
use Rattle.row_tables.specs.Fits.{Fits, IsText, Runs, applied}
use Rattle.row_tables.specs.declared.heads.Mailbox.{Mailbox as Head}
use Rattle.row_tables.specs.declared.marks.FlagRow.{FlagRow}
use Rattle.row_tables.specs.declared.contents.BodyPart.{BodyPart}
use Rattle.row_tables.specs.declared.change.RowChange.{RowChange}
use Rattle.row_tables.specs.declared.change.RowChange.TheVariants.{InsertMailboxMessage, InsertFlagRow, UpdateMailbox}
use Rattle.mail_world.specs.Flags.{is_flag, distinct}
use Rattle.mail_world.specs.Names.{is_mailbox_name}
use Rattle.mail_world.specs.Worlds.{World, Mailbox, Entry, mailbox_at, entry_at}
use Rattle.mail_world.specs.Changes.{Append}
use Rattle.mail_world.specs.Applying.{apply}
use Rattle.mail_world.specs.Legal.{IsLegal, IsProper}
use Rattle.mail_stands.specs.Facts.{Tied}
use Rattle.mail_stands.specs.Stands.{Stands, AreWhole}
use Rattle.mail_stands.specs.Leading.{KeepsOwners, Leads}
use Rattle.mail_stands.specs.Arriving.{Brings, with_arrival, arrival_row, arrival_changes, append_changes, append_refused}
use Rattle.mail_stands.proofs.Lists.{all-weaker, all_found, find_passes, number_is}
use Rattle.mail_stands.proofs.Heading.{mailbox_of, row_id}
use Rattle.mail_stands.proofs.Making.{StaysLegal, mailbox_text}
use Rattle.mail_stands.proofs.Owners.{SameKeys, Replaces, replaced_owner}
use Rattle.mail_stands.proofs.Showing.{Shows, shown, standing}
use Rattle.mail_stands.proofs.Written.{distinct_differ}
use Rattle.mail_stands.proofs.Counting.{Places, append_same}
use Rattle.mail_stands.proofs.Staying.{with_mails, shredded_rows, shredded_shows}
use Rattle.mail_stands.proofs.Flags.{new_flags, have_names, grown_flags, flagged, flags_run}
use Rattle.mail_stands.proofs.Arrivals.{arrived, arrived_shows}

-- ---- changes one after another

pub runs_then : (t : TableRows) (changes more : List RowChange) (middle after : TableRows) → Runs t changes middle → Runs middle more after → Runs t (changes ++ more) after
runs_then t [] more middle after e rest = subst (λ u. Runs u more after) (sym e) rest
runs_then t (change ∷ changes) more middle after runs rest = (runs.0, runs_then (applied t change) changes more middle after runs.1 rest)

runs_apart : {P : Type 0} (t : TableRows) (changes more : List RowChange) (after : TableRows) → Runs t (changes ++ more) after → ((middle : TableRows) → Runs t changes middle → Runs middle more after → P) → P
runs_apart t [] more after runs use_it = use_it t refl runs
runs_apart t (change ∷ changes) more after runs use_it = runs_apart (applied t change) changes more after runs.1 (λ middle first rest. use_it middle (runs.0, first) rest)

abbrev pub KeepsOrder : Type 0
KeepsOrder = (t : TableRows) (change : RowChange) → AreOrdered t → Fits t change → AreOrdered (applied t change)

pub ordered_along : KeepsOrder → (t : TableRows) (changes : List RowChange) (after : TableRows) → AreOrdered t → Runs t changes after → AreOrdered after
ordered_along order t [] after ordered e = subst AreOrdered e ordered
ordered_along order t (change ∷ changes) after ordered runs = ordered_along order (applied t change) changes after (order t change ordered runs.0) runs.1

abbrev pub OneEnd : Type 0
OneEnd = (t : TableRows) (changes : List RowChange) (after other : TableRows) → Runs t changes after → Runs t changes other → after ≡ other

-- ---- where the message comes

-- a message that isn't there has no flags
pub no_flags : SameKeys → (t : TableRows) → AreClosed t → (id uid : ℕ) → row_at mailbox_message_key (uid_key id uid) t.marks.mailbox_messages ≡ None → (flag : ℕ) → row_at flag_key (uid_flag_key id uid flag) t.marks.flags ≡ None
no_flags same t closed id uid none flag = by (row_at flag_key (uid_flag_key id uid flag) t.marks.flags) refl
  where
    by : (o : Option FlagRow) → row_at flag_key (uid_flag_key id uid flag) t.marks.flags ≡ o → o ≡ None
    by None e = refl
    by (Some r) e =
        let key = same (flag_key r) (uid_flag_key id uid flag) (find_passes (has_key flag_key (uid_flag_key id uid flag)) t.marks.flags r e) in
        let there = (all_found (FlagRefers t) _ t.marks.flags r closed.flags e).1 in
        let its = ap (λ (k : RowKey). row_at mailbox_message_key (uid_key k.number k.place) t.marks.mailbox_messages) key in
        absurd (false≢true (sym (ap is_some (its ∙ none)) ∙ there))

tied_none : {X Y : Type 0} (R : X → Y → Type 0) (o : Option X) (p : Option Y) → Tied R o p → p ≡ None → o ≡ None
tied_none R None p tied e = refl
tied_none R (Some x) None tied e = absurd tied.tie
tied_none R (Some x) (Some y) tied e = absurd (none-some y (sym e))

-- the next UID of a mailbox is of no message
pub no_entry : (world : World) (m : Mailbox) → IsLegal world → mailbox_at m.head.id world.mailboxes ≡ Some m → entry_at m.head.uidnext m.entries ≡ None
no_entry world m legal at = by (entry_at m.head.uidnext m.entries) refl
  where
    by : (o : Option Entry) → entry_at m.head.uidnext m.entries ≡ o → o ≡ None
    by None e = refl
    by (Some entry) e =
        let below = ((legal.mailboxes m.head.id m at).itself.entries m.head.uidnext entry e).given.below_next in
        let is = number_is (λ (x : Entry). x.uid) m.head.uidnext m.entries entry e in
        absurd (omega (arith, below, is))

pub next_free : (content : BodyPart → List ℕ) (t : TableRows) (world : World) (id : ℕ) (row : Head) → Stands content t world → row_at mailbox_key (number_key id) t.heads.mailboxes ≡ Some row
    → row_at mailbox_message_key (uid_key id row.uidnext) t.marks.mailbox_messages ≡ None
next_free content t world id row s found =
    mailbox_of t.heads.mailboxes world.mailboxes id row s.mailboxes found (λ m at is.
    let own = number_is (λ (x : Mailbox). x.head.id) id world.mailboxes m at in
    let itself = subst (λ k. mailbox_at k world.mailboxes ≡ Some m) (sym own) at in
    subst (λ (r : Head). row_at mailbox_message_key (uid_key id r.uidnext) t.marks.mailbox_messages ≡ None) is
    (tied_none _ _ _ (s.entries id m.head.uidnext) (ap (option_and_then (λ x. entry_at m.head.uidnext x.entries)) at ∙ no_entry world m s.legal itself)))

-- ---- all changes, over any tables

module _ (content : BodyPart → List ℕ) (t : TableRows) (mail : Mail) (flags : List Flag) (message : ℕ) (rows : List RowChange) (ids : List ℕ) (names : List RowChange) (brings : Brings content t mail flags message rows ids names) where
  -- with the mail, and then with the names of the flags
  abbrev mailed : TableRows
  mailed = with_mails t brings.shreds.after

  abbrev named : TableRows
  named = record mailed { marks = record t.marks { flag_names = brings.names_flags.names } }

  mail_runs : Runs t rows mailed
  mail_runs = subst (Runs t rows) brings.shreds.apart brings.shreds.runs

  names_run : Runs mailed names named
  names_run = brings.names_flags.runs mailed refl

  names_ordered : KeepsOrder → AreOrdered t → IsInOrder flag_name_key named.marks.flag_names
  names_ordered order ordered = (ordered_along order mailed names named (ordered_along order t rows mailed ordered mail_runs) names_run).flag_names

  message_there : HasMessage named message
  message_there = ap is_some brings.shreds.rows.size

  named_shows : SameKeys → AreClosed t → (world : World) → Shows content mailed world → Shows content named world
  named_shows same closed world s = record {
    users = s.users;
    mailboxes = s.mailboxes;
    names = s.names;
    subscriptions = s.subscriptions;
    next = s.next;
    entries = s.entries;
    gone = s.gone;
    flags = λ id uid name.
        grown_flags same t.marks.flag_names brings.names_flags.names t.marks.flags
        (all-weaker (FlagRefers t) (λ r. IsSome (row_at flag_name_key (number_key r.flag) t.marks.flag_names)) (λ r refers. refers.2) t.marks.flags closed.flags) brings.names_flags.grows id uid name
        ∙ s.flags id uid name;
    distinct = s.distinct;
  }

  module _ (row : Head) (found : row_at mailbox_key (number_key row.id) t.heads.mailboxes ≡ Some row) (date : Stamp) (taken : Bool) where
    abbrev with_entry : TableRows
    with_entry = applied named (InsertMailboxMessage (arrival_row row message date))

    pub append_runs : SameKeys → InsertLaws mailbox_message_key → InsertLaws flag_key → InsertLaws flag_name_key → KeepsOrder → AreWhole t → IsText row.name → row_at mailbox_message_key (uid_key row.id row.uidnext) t.marks.mailbox_messages ≡ None
        → list_all is_flag flags ≡ true → Runs t (append_changes rows names row message date ids taken) (arrived named row message date ids taken)
    append_runs same entry_laws flag_laws name_laws order whole text new proper =
        runs_then t rows (names ++ arrival_changes row message date ids taken) mailed (arrived named row message date ids taken) mail_runs
        (runs_then mailed names (arrival_changes row message date ids taken) named (arrived named row message date ids taken) names_run (
          (new, (ap is_some found, message_there)),
          flags_run flag_laws row.id row.uidnext with_entry ids (UpdateMailbox (with_arrival taken row) ∷ []) (arrived named row message date ids taken) (ap is_some found) (ap is_some (entry_laws.same (arrival_row row message date) t.marks.mailbox_messages))
              (have_names name_laws named.marks.flag_names names_order (distinct flags) ids brings.names_flags.ids_are)
              (new_flags name_laws named.marks.flag_names names_order with_entry row.id row.uidnext (no_flags same t whole.closed row.id row.uidnext new) (distinct flags) ids brings.names_flags.ids_are (distinct_differ flags proper))
              ((text, ap is_some found, all_found (MailboxRefers t) _ t.heads.mailboxes row whole.closed.mailboxes found), refl),
        ))
      where
        names_order : IsInOrder flag_name_key named.marks.flag_names
        names_order = names_ordered order whole.ordered

    -- what runs once the flags are there
    flags_ran : (u : TableRows) (mailbox uid : ℕ) (more : List ℕ) (rest : List RowChange) (after : TableRows) → Runs u (flag_insertions mailbox uid more ++ rest) after → Runs (flagged u mailbox uid more) rest after
    flags_ran u mailbox uid [] rest after runs = runs
    flags_ran u mailbox uid (flag ∷ more) rest after runs = flags_ran (applied u (InsertFlagRow (record { mailbox = mailbox; uid = uid; flag = flag }))) mailbox uid more rest after runs.1

    pub append_keeps : SameKeys → Replaces → OneEnd → (after : TableRows) → Runs t (append_changes rows names row message date ids taken) after → KeepsOwners t after
    append_keeps same replaces one_end after runs =
        runs_apart t rows (names ++ arrival_changes row message date ids taken) after runs (λ middle first rest.
        runs_apart mailed names (arrival_changes row message date ids taken) after (subst (λ u. Runs u (names ++ arrival_changes row message date ids taken) after) (one_end t rows middle mailed first mail_runs) rest) (λ last second end.
        let last_run = subst (λ u. Runs u (arrival_changes row message date ids taken) after) (one_end mailed names last named second names_run) end in
        let done = flags_ran with_entry row.id row.uidnext ids (UpdateMailbox (with_arrival taken row) ∷ []) after last_run.1 in
        subst (KeepsOwners t) done.1 (record { users = λ id there. there; mailboxes = replaced_owner same replaces t.heads.mailboxes row.id row (with_arrival taken row) refl refl found })))

-- ---- in the world

pub record AppendLaws : Type 0 where
  pub same : SameKeys
  pub places : Places
  pub entries : InsertLaws mailbox_message_key
  pub flags : InsertLaws flag_key
  pub names : InsertLaws flag_name_key
  pub order : KeepsOrder
  pub stays : StaysLegal

leads_own : AppendLaws → (content : BodyPart → List ℕ) (t : TableRows) (world : World) (m : Mailbox) (flags : List Flag) (date : Stamp) (mail : Mail) (taken : Bool) (message : ℕ) (rows : List RowChange) (ids : List ℕ) (names : List RowChange) → AreWhole t → Stands content t world
    → mailbox_at m.head.id world.mailboxes ≡ Some m → row_at mailbox_key (number_key m.head.id) t.heads.mailboxes ≡ Some m.head → append_refused t m.head.id flags ≡ None → IsProper world (Append m.head.id flags date mail taken)
    → Brings content t mail flags message rows ids names → Leads content t (append_changes rows names m.head message date ids taken) (apply world (Append m.head.id flags date mail taken))
unfolding apply
leads_own laws content t world m flags date mail taken message rows ids names whole s at found none proper brings =
    let new = next_free content t world m.head.id m.head s found in
    let middle = named content t mail flags message rows ids names brings in
    record {
      after = arrived middle m.head message date ids taken;
      runs = append_runs content t mail flags message rows ids names brings m.head found date taken laws.same laws.entries laws.flags laws.names laws.order whole
          (mailbox_text m.head.name (all_found (λ r. is_mailbox_name r.name ≡ true) _ t.heads.mailboxes m.head s.names found)) new proper.0;
      stands = standing content (arrived middle m.head message date ids taken) (apply world (Append m.head.id flags date mail taken))
          (laws.stays world (Append m.head.id flags date mail taken) s.legal proper (sym (append_same laws.places content t world m.head.id flags date mail taken whole.ordered s) ∙ none))
          (arrived_shows laws.same laws.entries laws.flags laws.names content middle world m flags date mail taken message ids s.legal
          (named_shows content t mail flags message rows ids names brings laws.same whole.closed world (shredded_shows content t message mail rows brings.shreds world (shown content t world s) brings.is_new)) at found
          (names_ordered content t mail flags message rows ids names brings laws.order whole.ordered) (no_entry world m s.legal at) (no_flags laws.same t whole.closed m.head.id m.head.uidnext new)
          (shredded_rows content t message mail rows brings.shreds) brings.kept brings.names_flags.ids_are);
    }

pub append_leads : AppendLaws → (content : BodyPart → List ℕ) (t : TableRows) (world : World) (id : ℕ) (row : Head) (flags : List Flag) (date : Stamp) (mail : Mail) (taken : Bool) (message : ℕ) (rows : List RowChange) (ids : List ℕ) (names : List RowChange) → AreWhole t → Stands content t world
    → row_at mailbox_key (number_key id) t.heads.mailboxes ≡ Some row → append_refused t id flags ≡ None → IsProper world (Append id flags date mail taken)
    → Brings content t mail flags message rows ids names → Leads content t (append_changes rows names row message date ids taken) (apply world (Append id flags date mail taken))
append_leads laws content t world id row flags date mail taken message rows ids names whole s found none proper brings =
    mailbox_of t.heads.mailboxes world.mailboxes id row s.mailboxes found (λ m at is.
    let own = number_is (λ (x : Mailbox). x.head.id) id world.mailboxes m at in
    subst (λ k. append_refused t k flags ≡ None → Leads content t (append_changes rows names row message date ids taken) (apply world (Append k flags date mail taken))) own
    (λ yes. subst (λ (r : Head). Leads content t (append_changes rows names r message date ids taken) (apply world (Append m.head.id flags date mail taken))) is
    (leads_own laws content t world m flags date mail taken message rows ids names whole s (subst (λ k. mailbox_at k world.mailboxes ≡ Some m) (sym own) at)
    (subst (λ k. row_at mailbox_key (number_key k) t.heads.mailboxes ≡ Some m.head) (sym own) (subst (λ (r : Head). row_at mailbox_key (number_key id) t.heads.mailboxes ≡ Some r) (sym is) found)) yes proper brings)) none)

-- the row by its own id
pub itself : (t : TableRows) (id : ℕ) (row : Head) → row_at mailbox_key (number_key id) t.heads.mailboxes ≡ Some row → row_at mailbox_key (number_key row.id) t.heads.mailboxes ≡ Some row
itself t id row found = subst (λ k. row_at mailbox_key (number_key k) t.heads.mailboxes ≡ Some row) (sym (row_id t.heads.mailboxes id row found)) found

pub new_here : (t : TableRows) (id : ℕ) (row : Head) → row_at mailbox_key (number_key id) t.heads.mailboxes ≡ Some row → row_at mailbox_message_key (uid_key id row.uidnext) t.marks.mailbox_messages ≡ None
    → row_at mailbox_message_key (uid_key row.id row.uidnext) t.marks.mailbox_messages ≡ None
new_here t id row found = subst (λ k. row_at mailbox_message_key (uid_key k row.uidnext) t.marks.mailbox_messages ≡ None) (sym (row_id t.heads.mailboxes id row found))
