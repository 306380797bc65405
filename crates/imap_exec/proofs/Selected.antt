-- Mailboxes that are selected.
use Rattle.std.proofs.Common.{◌≡◌, ℕ, ◌<◌, ◌==◌, ◌^◌, ◌++◌, Bool, true, false, cond, not, ◌&&◌, List, [], ◌∷◌, map, length, Option, Some, None, Result, Ok, Err, IsOk, IsErrOf, refl, sym, ap, subst, ◌∙◌, arith}
use Rattle.std.specs.List.{find, filter, AllByRecursion}
use Rattle.std.specs.Prelude.{◌≤◌, nat_le}
use Rattle.std.specs.Option.{option_map}
use Rattle.std.proofs.lemmas.Bool.{eq-eqb, ne_eqb, false≢true, lt-ltb}
use Rattle.std.proofs.lemmas.Option.{none-some, same_Some}
use Rattle.disk_model.specs.Told.{Told}
use Rattle.row_tables.specs.References.{HasUser}
use Rattle.row_store.specs.ThreeFiles.{TellsFaults}
use Rattle.row_store.specs.Holding.{in_row}
use Rattle.row_store.specs.Kept.{Store}
use Rattle.row_store.specs.declared.faults.StoreFault.{StoreFault}
use Rattle.imap_writer.specs.Tagged.{ok_line}
use Rattle.session_units.specs.declared.forms.Awaits.TheVariants.{Command as AwaitsCommand}
use Rattle.session_view.specs.declared.sessions.SessionPart.{SessionPart}
use Rattle.session_view.specs.declared.sessions.Selection.{Selection}
use Rattle.session_view.specs.declared.sessions.State.TheVariants.{Selected}
use Rattle.session_view.specs.Parts.{with_state}
use Rattle.mail_world.specs.Names.{mailbox_name}
use Rattle.session_view.specs.Order.{rising}
use Rattle.mail_world.specs.Worlds.{Entry, Mailbox, World, entry_at, mailbox_at, mailbox_named}
use Rattle.mail_world.specs.Looking.{mailbox_id}
use Rattle.mail_world.specs.Summaries.{uids_of, recent_of}
use Rattle.mail_world.specs.Legal.{Ascend, IsLegal}
use Rattle.mail_world.specs.Changes.{Change, Refusal, TakeRecents}
use Rattle.mail_world.specs.Applying.{apply, refused}
use Rattle.mail_stands.specs.Stands.{Stands}
use Rattle.mailbox_core.specs.declared.faults.MailFault.{MailFault}
use Rattle.mailbox_core.specs.Faults.{answer_of}
use Rattle.mailbox_core.specs.Calls.{Behaves, IsMade, Makes, MakesUnless}
use Rattle.mailbox_core.specs.Summing.{IsSummary}
use Rattle.mailbox_core.specs.declared.summing.Summary.{Summary}
use Rattle.imap_steps.specs.declared.outcome.Outcome.{Outcome}
use Rattle.imap_steps.specs.Stepping.{Shared, Stepped, applied}
use Rattle.imap_steps.specs.Selecting.{access_code, mailbox_told, recents_change, select, select_name, selected_if, selection_of}
use Rattle.imap_exec.specs.Ready.{AreLive, HasOwned, IsReady}
use Rattle.imap_exec.specs.Does.{Does, Executes}
use Rattle.imap_exec.specs.Selecting.{Changes, GoesOn, recents_if, selection_from}
use Rattle.imap_exec.proofs.Living.{live_stay, live_with}

-- ---- the mailbox of a name

-- what is found behind an id has a later one
later_found : (n : ℕ) (p : Mailbox → Bool) (ms : List Mailbox) (m : Mailbox) → AllByRecursion (λ k. n < k) (map (λ x. x.head.id) ms) → find p ms ≡ Some m → n < m.head.id
later_found n p [] m all found = absurd (none-some m found)
later_found n p (x ∷ ms) m all found = by (p x) (later_found n p ms m all.1) found
  where
    by : (b : Bool) → (find p ms ≡ Some m → n < m.head.id) → cond b (Some x) (find p ms) ≡ Some m → n < m.head.id
    by true rest e = subst (λ (y : Mailbox). n < y.head.id) (same_Some x m e) all.0
    by false rest e = rest e

-- In order of ids, a mailbox that is found is the one of its id.
found_at : (p : Mailbox → Bool) (ms : List Mailbox) (m : Mailbox) → Ascend (map (λ x. x.head.id) ms) → find p ms ≡ Some m → mailbox_at m.head.id ms ≡ Some m
found_at p [] m ascend found = absurd (none-some m found)
found_at p (x ∷ ms) m ascend found = by (p x) (found_at p ms m ascend.1) found
  where
    first : x ≡ m → cond (x.head.id == m.head.id) (Some x) (mailbox_at m.head.id ms) ≡ Some m
    first e = rw (eq-eqb x.head.id m.head.id (ap (λ (y : Mailbox). y.head.id) e)) (ap Some e)

    less : x.head.id < m.head.id → x.head.id ≡ m.head.id → ⊥
    less below same = omega (arith, below, same)

    by : (b : Bool) → (find p ms ≡ Some m → mailbox_at m.head.id ms ≡ Some m) → cond b (Some x) (find p ms) ≡ Some m → cond (x.head.id == m.head.id) (Some x) (mailbox_at m.head.id ms) ≡ Some m
    by true rest e = first (same_Some x m e)
    by false rest e = rw (ne_eqb x.head.id m.head.id (less (later_found x.head.id p ms m ascend.0 e))) (rest e)

-- ---- the UIDs of a mailbox, and those of its recent messages, ascend from 1 on

rises : (last : ℕ) (uids : List ℕ) → AllByRecursion (λ uid. last < uid) uids → Ascend uids → rising last uids ≡ uids
rises last [] all up = refl
rises last (uid ∷ uids) all up = ap (λ b. cond b (uid ∷ rising uid uids) []) (lt-ltb last uid all.0) ∙ ap (λ l. uid ∷ l) (rises uid uids up.0 up.1)

later_than : (n : ℕ) (uids : List ℕ) → AllByRecursion (λ uid. n < uid) uids → AllByRecursion (λ uid. 0 < uid) uids
later_than n [] all = tt
later_than n (uid ∷ uids) all = (omega (arith, all.0), later_than n uids all.1)

from_one : (entries : List Entry) → ((uid : ℕ) (entry : Entry) → entry_at uid entries ≡ Some entry → 1 ≤ entry.uid) → Ascend (uids_of entries) → AllByRecursion (λ uid. 0 < uid) (uids_of entries)
from_one [] given up = tt
from_one (e ∷ entries) given up = (omega (arith, given e.uid e here), later_than e.uid (uids_of entries) up.0)
  where
    here : entry_at e.uid (e ∷ entries) ≡ Some e
    here = rw (eq-eqb e.uid e.uid refl) refl

all_kept : (p : Entry → Bool) (n : ℕ) (entries : List Entry) → AllByRecursion (λ uid. n < uid) (uids_of entries) → AllByRecursion (λ uid. n < uid) (uids_of (filter p entries))
all_kept p n [] all = tt
all_kept p n (e ∷ entries) all = by (p e) (all_kept p n entries all.1)
  where
    by : (b : Bool) → AllByRecursion (λ uid. n < uid) (uids_of (filter p entries)) → AllByRecursion (λ uid. n < uid) (uids_of (cond b (e ∷ filter p entries) (filter p entries)))
    by true rest = (all.0, rest)
    by false rest = rest

ascend_kept : (p : Entry → Bool) (entries : List Entry) → Ascend (uids_of entries) → Ascend (uids_of (filter p entries))
ascend_kept p [] up = tt
ascend_kept p (e ∷ entries) up = by (p e) (all_kept p e.uid entries up.0) (ascend_kept p entries up.1)
  where
    by : (b : Bool) → AllByRecursion (λ uid. e.uid < uid) (uids_of (filter p entries)) → Ascend (uids_of (filter p entries)) → Ascend (uids_of (cond b (e ∷ filter p entries) (filter p entries)))
    by true above rest = (above, rest)
    by false above rest = rest

-- A mailbox of a world, by its owner and name, and by its id.
pub record IsFound (world : World) (user mailbox : ℕ) (name : List ℕ) : Type 0 where
  pub m : Mailbox
  pub named : mailbox_named user (mailbox_name name) world.mailboxes ≡ Some m
  pub id : m.head.id ≡ mailbox
  pub at : mailbox_at mailbox world.mailboxes ≡ Some m
  pub few : length m.entries < 2 ^ 32
  pub uids : rising 0 (uids_of m.entries) ≡ uids_of m.entries
  pub recent : rising 0 (recent_of m) ≡ recent_of m

module _ (world : World) (user mailbox : ℕ) (name : List ℕ) (legal : IsLegal world) where
  few_in : (m : Mailbox) → mailbox_at mailbox world.mailboxes ≡ Some m → length m.entries < 2 ^ 32
  few_in m at = omega (arith, (legal.mailboxes mailbox m at).itself.few)

  above_zero : (m : Mailbox) → mailbox_at mailbox world.mailboxes ≡ Some m → AllByRecursion (λ uid. 0 < uid) (uids_of m.entries)
  above_zero m at =
      let its = (legal.mailboxes mailbox m at).itself in
      from_one m.entries (λ uid entry found. (its.entries uid entry found).given.from_one) its.uids

  uids_rise : (m : Mailbox) → mailbox_at mailbox world.mailboxes ≡ Some m → rising 0 (uids_of m.entries) ≡ uids_of m.entries
  uids_rise m at = rises 0 (uids_of m.entries) (above_zero m at) (legal.mailboxes mailbox m at).itself.uids

  recent_rise : (m : Mailbox) → mailbox_at mailbox world.mailboxes ≡ Some m → rising 0 (recent_of m) ≡ recent_of m
  recent_rise m at =
      let is_recent : Entry → Bool = λ entry. nat_le m.head.first_recent entry.uid in
      rises 0 (recent_of m) (all_kept is_recent 0 m.entries (above_zero m at)) (ascend_kept is_recent m.entries (legal.mailboxes mailbox m at).itself.uids)

  found_by : (o : Option Mailbox) → mailbox_named user (mailbox_name name) world.mailboxes ≡ o → Some mailbox ≡ option_map (λ m. m.head.id) o → IsFound world user mailbox name
  found_by None found e = absurd (clash e)
    where
      clash : Some mailbox ≡ None → ⊥
      clash f = cc
  found_by (Some m) found e = record { m = m; named = found; id = id; at = at; few = few_in m at; uids = uids_rise m at; recent = recent_rise m at }
    where
      some_is : (a b : ℕ) → Some a ≡ Some b → b ≡ a
      some_is a b f = cc

      id : m.head.id ≡ mailbox
      id = some_is mailbox m.head.id e

      at : mailbox_at mailbox world.mailboxes ≡ Some m
      at = subst (λ k. mailbox_at k world.mailboxes ≡ Some m) id (found_at _ world.mailboxes m legal.mailbox_ids found)

  pub is_found : Some mailbox ≡ mailbox_id user name world.mailboxes → IsFound world user mailbox name
  is_found e = found_by (mailbox_named user (mailbox_name name) world.mailboxes) refl e

-- ---- recent messages are taken

module _ {T : Type 0} where
  ok_too : (result : Result T StoreFault) → IsOk result → IsOk (answer_of result)
  ok_too (Ok t) ok = refl
  ok_too (Err fault) ok = cc

  failed_too : (result : Result T StoreFault) → IsErrOf (answer_of result) MailFault.Failed → IsErrOf result StoreFault.Failed
  failed_too (Ok t) failed = cc
  failed_too (Err StoreFault.Failed) failed = refl
  failed_too (Err StoreFault.NoMemory) failed = cc

  failed_so : (result : Result T StoreFault) → IsErrOf result StoreFault.Failed → IsErrOf (answer_of result) MailFault.Failed
  failed_so (Ok t) failed = cc
  failed_so (Err StoreFault.Failed) failed = refl
  failed_so (Err StoreFault.NoMemory) failed = cc

module _ {D T : Type 0} (told : Told D) (result : Result T StoreFault) (old new : Store D) where
  pub changes_made : (world : World) (mailbox : ℕ) (answer : T) (m : Mailbox) → mailbox_at mailbox world.mailboxes ≡ Some m
      → Makes told (answer_of result) old new world (TakeRecents mailbox) answer → Changes told result old new world (recents_if true mailbox)
  unfolding applied refused
  changes_made world mailbox answer m at makes = record {
    stands = λ ok. made.stands (ok_too result ok);
    settled = λ ok settled. made.settled (ok_too result ok);
    leaves = λ since earlier left. made.since since earlier left;
  }
    where
      none : refused world (TakeRecents mailbox) ≡ None
      none = rw at refl

      made : IsMade told (answer_of result) old new world (apply world (TakeRecents mailbox)) answer
      made = subst (λ (o : Option Refusal). MakesUnless told (answer_of result) old new world (apply world (TakeRecents mailbox)) answer o) none makes

  pub goes_on_behaved : Behaves told (answer_of result) old new → GoesOn told result old new
  goes_on_behaved behaves = record {
    ready = λ ok parts ready. record {
      unspent = (behaves.done (ok_too result ok)).2;
      none_placed = (behaves.done (ok_too result ok)).1;
      live = subst (λ t. AreLive t parts) (sym (behaves.done (ok_too result ok)).0) (live_stay old.tables behaves.after behaves.owners parts ready.live);
    };
    faults = record {
      disks = behaves.faults.disks;
      failed = λ e. behaves.faults.failed (failed_so result e);
      quiet = λ never. behaves.faults.quiet (λ e. never (failed_too result e));
    };
  }

-- ---- what is told of a mailbox is the mailbox's

module _ (its : Summary) (m : Mailbox) (is : IsSummary its m) (mailbox : ℕ) (id : m.head.id ≡ mailbox) where
  abbrev chosen : Bool → ℕ → List ℕ → List ℕ → Selection
  chosen read_write mailbox uids recent = record { mailbox = mailbox; read_write = read_write; view = record { uids = uids; recent = recent } }

  pub same_selection : (read_write : Bool) → rising 0 (uids_of m.entries) ≡ uids_of m.entries → rising 0 (recent_of m) ≡ recent_of m → selection_of read_write m ≡ selection_from its mailbox read_write
  same_selection read_write uids recent =
      ap (λ (k : ℕ). chosen read_write k (uids_of m.entries) (recent_of m)) id
      ∙ (ap (λ (us : List ℕ). chosen read_write mailbox us (recent_of m)) (sym (ap (λ (us : List ℕ). rising 0 us) is.uids ∙ uids))
      ∙ ap (λ (rs : List ℕ). chosen read_write mailbox (rising 0 its.uids) rs) (sym (ap (λ (rs : List ℕ). rising 0 rs) is.recent ∙ recent)))

  unless : (b : Bool) (change : Change) → cond b None (Some change) ≡ cond (not b) (Some change) None
  unless true change = refl
  unless false change = refl

  pub same_change : (read_write : Bool) → recents_change read_write m ≡ recents_if (read_write && not (its.first_recent == its.uidnext)) mailbox
  same_change false = refl
  same_change true =
      ap (λ (f : ℕ). cond (f == m.head.uidnext) None (Some (TakeRecents m.head.id))) (sym is.first_recent)
      ∙ (ap (λ (n : ℕ). cond (its.first_recent == n) None (Some (TakeRecents m.head.id))) (sym is.uidnext)
      ∙ (ap (λ (k : ℕ). cond (its.first_recent == its.uidnext) None (Some (TakeRecents k))) id
      ∙ unless (its.first_recent == its.uidnext) (TakeRecents mailbox)))

-- ---- SELECT and EXAMINE

abbrev opened : Result Outcome StoreFault
opened = Ok (record { closes = false; awaits = AwaitsCommand })

module _ {D : Type 0} (told : Told D) (old new : Store D) (parts : List SessionPart) (before after : List ℕ) (number user mailbox : ℕ) (tag name : List ℕ) (read_write : Bool) (its : Summary) (call : Result (Unit {0}) StoreFault) (ready : IsReady old parts) where
  abbrev sharing : World → Shared
  sharing world = record { world = world; parts = parts }

  abbrev taken : Bool
  taken = read_write && not (its.first_recent == its.uidnext)

  abbrev text : Mailbox → List ℕ
  text m = mailbox_told read_write m ++ ok_line tag (access_code read_write) (select_name read_write)

  abbrev steps : Shared → Stepped
  steps shared = select shared number user tag name read_write

  module _ (names : (world : World) → Stands in_row old.tables world → Some mailbox ≡ mailbox_id user name world.mailboxes) (tells : (world : World) → Stands in_row old.tables world → (m : Mailbox) → mailbox_at mailbox world.mailboxes ≡ Some m → m.head.id ≡ mailbox → length m.entries < 2 ^ 32 → IsSummary its m × (after ≡ before ++ text m)) (changes : (world : World) → Stands in_row old.tables world → (m : Mailbox) → mailbox_at mailbox world.mailboxes ≡ Some m → Changes told call old new world (recents_if taken mailbox)) (goes_on : GoesOn told call old new) where
    abbrev step_of : (world : World) → IsFound world user mailbox name → Stepped
    step_of world found = selected_if (sharing world) number user tag read_write (Some found.m)

    is_step : (world : World) (found : IsFound world user mailbox name) → steps (sharing world) ≡ step_of world found
    unfolding select
    is_step world found = ap (λ (o : Option Mailbox). selected_if (sharing world) number user tag read_write o) found.named

    found_in : (world : World) → Stands in_row old.tables world → IsFound world user mailbox name
    found_in world stands = is_found world user mailbox name stands.legal (names world stands)

    told_in : (world : World) (stands : Stands in_row old.tables world) → IsSummary its (found_in world stands).m × (after ≡ before ++ text (found_in world stands).m)
    told_in world stands = tells world stands (found_in world stands).m (found_in world stands).at (found_in world stands).id (found_in world stands).few

    changed_in : (world : World) (stands : Stands in_row old.tables world) → Changes told call old new world (recents_change read_write (found_in world stands).m)
    changed_in world stands =
        subst (λ (c : Option Change). Changes told call old new world c) (sym (same_change its (found_in world stands).m (told_in world stands).0 mailbox (found_in world stands).id read_write))
        (changes world stands (found_in world stands).m (found_in world stands).at)

    module _ (result : Result Outcome StoreFault) where
      faults_told : (IsErrOf result StoreFault.Failed → IsErrOf call StoreFault.Failed) → (IsErrOf call StoreFault.Failed → IsErrOf result StoreFault.Failed) → TellsFaults told (IsErrOf result StoreFault.Failed) old.files new.files
      faults_told failed told_too = record {
        disks = goes_on.faults.disks;
        failed = λ e. goes_on.faults.failed (failed e);
        quiet = λ never. goes_on.faults.quiet (λ e. never (told_too e));
      }

    -- the mailbox is selected
    module _ (parts' : List SessionPart) (there : HasUser old.tables user) (owned : HasOwned old.tables user mailbox) (ok : IsOk call) (parts_are : parts' ≡ with_state number (Selected user (selection_from its mailbox read_write)) parts) where
      not_failed : (r : Result (Unit {0}) StoreFault) → IsOk r → IsErrOf r StoreFault.Failed → ⊥
      not_failed (Ok t) is failed = cc
      not_failed (Err fault) is failed = absurd (false≢true is)

      live_then : AreLive old.tables parts'
      live_then = subst (λ (ps : List SessionPart). AreLive old.tables ps) (sym parts_are) (live_with old.tables number (Selected user (selection_from its mailbox read_write)) parts (there, owned) ready.live)

      does_selected : (world : World) (stands : Stands in_row old.tables world) → Does told opened old new parts' before after (sharing world) (step_of world (found_in world stands))
      does_selected world stands = record {
        stands = λ is. (changed_in world stands).stands ok;
        settled = λ is settled. (changed_in world stands).settled ok settled;
        parts_are = λ is. parts_are ∙ ap (λ (s : Selection). with_state number (Selected user s) parts) (sym (same_selection its (found_in world stands).m (told_in world stands).0 mailbox (found_in world stands).id read_write (found_in world stands).uids (found_in world stands).recent));
        tells = record { answer = λ is. (told_in world stands).1; outcome = (refl, refl) };
        leaves = λ since earlier left. (changed_in world stands).leaves since earlier left;
      }

      pub executes_selected : Executes told opened old new parts parts' before after (λ shared. select shared number user tag name read_write)
      executes_selected = record {
        carries = λ world stands. subst (λ (s : Stepped). Does told opened old new parts' before after (sharing world) s) (sym (is_step world (found_in world stands))) (does_selected world stands);
        ready = λ is. goes_on.ready ok parts' (record { unspent = ready.unspent; none_placed = ready.none_placed; live = live_then });
        faults = faults_told opened (λ e. absurd (no_fault e)) (λ e. absurd (not_failed call ok e));
      }
        where
          no_fault : IsErrOf opened StoreFault.Failed → ⊥
          no_fault e = cc

    -- the store answers a fault
    module _ (fault : StoreFault) (is : call ≡ Err fault) where
      abbrev failed : Result Outcome StoreFault
      failed = Err fault

      err_too : IsErrOf failed StoreFault.Failed → IsErrOf call StoreFault.Failed
      err_too e = cc

      err_then : IsErrOf call StoreFault.Failed → IsErrOf failed StoreFault.Failed
      err_then e = cc

      does_failed : (world : World) (stands : Stands in_row old.tables world) → Does told failed old new parts before after (sharing world) (step_of world (found_in world stands))
      does_failed world stands = record {
        stands = λ ok. absurd (false≢true ok);
        settled = λ ok settled. absurd (false≢true ok);
        parts_are = λ ok. absurd (false≢true ok);
        tells = record { answer = λ ok. absurd (false≢true ok); outcome = tt };
        leaves = λ since earlier left. (changed_in world stands).leaves since earlier left;
      }

      pub executes_failed : Executes told failed old new parts parts before after (λ shared. select shared number user tag name read_write)
      executes_failed = record {
        carries = λ world stands. subst (λ (s : Stepped). Does told failed old new parts before after (sharing world) s) (sym (is_step world (found_in world stands))) (does_failed world stands);
        ready = λ ok. absurd (false≢true ok);
        faults = faults_told failed err_too err_then;
      }
