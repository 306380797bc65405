-- What it comes to that the sessions of a script are served from a store.
use Rattle.std.proofs.Common.{ℕ, ◌≡◌, false, true≢false, List, [], ◌∷◌, refl, sym, ◌∙◌, ap, subst, inl, inr}
use Rattle.std.specs.Prelude.{Result, Ok, Err, IfOk, IsOkAnd, IsErr}
use Rattle.disk_model.specs.Told.{Told}
use Rattle.disk_model.specs.declared.disk.Files.{Files}
use Rattle.port_model.specs.declared.calls.PortCall.{PortCall}
use Rattle.port_model.specs.declared.events.Event.{Event}
use Rattle.port_model.specs.History.{sent}
use Rattle.row_store.specs.declared.faults.LoadFault.{LoadFault}
use Rattle.row_store.specs.declared.faults.LoadFault.TheVariants.{Failed as LoadFailed, NotAStore as LoadNotAStore, NoMemory as LoadNoMemory}
use Rattle.row_store.specs.ThreeFiles.{FaultRose, CountsNoFault, TellsFaults, LogMoments, MakesAllSure}
use Rattle.row_store.specs.Holding.{Holds, HoldsNone, stored_by, in_row}
use Rattle.row_store.specs.Crashes.{IsSettled}
use Rattle.row_store.specs.Kept.{Store}
use Rattle.row_store.specs.Loading.{IsNoStore}
use Rattle.session_view.specs.declared.sessions.SessionPart.{SessionPart}
use Rattle.imap_steps.specs.Stepping.{World, Shared}
use Rattle.imap_exec.specs.Ready.{AreLive}
use Rattle.mail_stands.specs.Stands.{Stands}
use Rattle.mailbox_core.specs.Left.{HoldsWorld, Left}
use Rattle.mail_rounds.specs.CoreSeen.{SomeRose}
use Rattle.mail_rounds.specs.Crashes.{worlds_since}
use Rattle.mail_server.specs.declared.answer.Answer.{Answer}
use Rattle.mail_server.specs.declared.script.PlayFault.{PlayFault}
use Rattle.mail_server.specs.declared.script.Played.{Played}
use Rattle.mail_server.specs.declared.script.PlayFault.TheVariants.{StoreFault as PlayStoreFault, NoMemory as PlayNoMemory}
use Rattle.mail_server.specs.declared.status.Status.{Status}
use Rattle.mail_server.specs.declared.status.Status.TheVariants.{Done, Usage, NoMemory, ReadFault, WriteFault, StoreFault, NotAStore, Refused, BadScript, ListenFault}
use Rattle.mail_server.specs.declared.store_core.StoreCore.{StoreCore}
use Rattle.mail_server.specs.OnScript.{HasPlayed, LeavesScript}
use Rattle.mail_server.specs.Run.{End, ServesEnd, end_of, transcript_of}
use Rattle.mail_server.specs.Script.{script_machine}
use Rattle.mail_server.specs.Serving.{ServesFiles, ServesStore, StoreEnd}
use Rattle.mail_server.specs.StoreCore.{IsServing, core_seen}
use Rattle.mail_server.specs.WorldFiles.{IfStands, LeavesChanges}
use Rattle.mail_server.proofs.StoreFiles.{fault-later, read-before, always-read, counts-both}
use Rattle.mail_server.proofs.UserFiles.{LeaveTheSame, LoadedStand, if_world, left-sure, standing}
use Rattle.mail_server.specs.Keeping.{FilesKeep, KeepsScript}
use Rattle.mail_server.proofs.Crashing.{left_since}
use Rattle.mail_server.proofs.Handed.{loaded_keeps, store_keeps, unloaded_keeps, unserved_keeps}

-- what is shared before any session
abbrev pub fresh : World → Shared
fresh first = record { world = first; parts = [] }

pub serving : {D : Type 0} (told : Told D) (core : StoreCore D) (first : World) → core.sessions ≡ [] → IsSettled told core.store.files (stored_by in_row core.store.tables) → Stands in_row core.store.tables first
    → IsServing told core.store core.sessions (fresh first)
serving told core first none settled stands = record { stands = stands; settled = settled; parts_are = none }

pub some-rose : {D : Type 0} (told : Told D) (core core' : StoreCore D) → SomeRose ((core_seen told).faults core) ((core_seen told).faults core') → FaultRose told core.store.files core'.store.files
unfolding core_seen
some-rose told core core' (inl rose) = inl rose
some-rose told core core' (inr (inl rose)) = inr (inl rose)
some-rose told core core' (inr (inr (inl rose))) = inr (inr rose)
some-rose told core core' (inr (inr (inr none))) = absurd none

first_of : List ℕ → ℕ
first_of [] = 0
first_of (count ∷ counts) = count

rest_of : List ℕ → List ℕ
rest_of [] = []
rest_of (count ∷ counts) = counts

pub none-rose : {D : Type 0} (told : Told D) (core core' : StoreCore D) → (core_seen told).faults core' ≡ (core_seen told).faults core → CountsNoFault told core.store.files core'.store.files
unfolding core_seen first_of rest_of
none-rose told core core' same = (ap first_of same, ap (λ (counts : List ℕ). first_of (rest_of counts)) same, ap (λ (counts : List ℕ). first_of (rest_of (rest_of counts))) same)

-- what is left of a core over a store
left-store : {D : Type 0} (told : Told D) (script : List Event) (core core' : StoreCore D) → core.sessions ≡ [] → IsSettled told core.store.files (stored_by in_row core.store.tables)
    → ((first : World) → (core_seen told).stands core (fresh first) → LeavesScript (core_seen told) core core' first script)
    → IfStands told core.store (λ world. (since : LogMoments) (earlier : List World) → Left told core.store.files since (world ∷ earlier)
    → Left told core'.store.files since (worlds_since world (script_machine world script).changes earlier))
unfolding core_seen
left-store told script core core' none settled crash world stands since earlier left = crash world (serving told core world none settled stands) (since.log0 ∷ since.log1 ∷ []) earlier left

-- what is kept of what was handed out
kept-store : {D : Type 0} (told : Told D) (script : List Event) (core core' : StoreCore D) → core.sessions ≡ [] → IsSettled told core.store.files (stored_by in_row core.store.tables)
    → ((first : World) → (core_seen told).stands core (fresh first) → KeepsScript (core_seen told) core' first script)
    → IfStands told core.store (λ world. FilesKeep told core'.store.files world script)
unfolding core_seen
kept-store told script core core' none settled keep world stands = store_keeps told core' world script (keep world (serving told core world none settled stands))

-- The script was played to its end, and what was sent is printed, unless memory for that is refused.
pub served_ok : {D E : Type 0} (told : Told D) (script : List Event) (core core' : StoreCore D) (calls : List PortCall) (last : ℕ) (printed : Result Answer E) → core.sessions ≡ []
    → IsSettled told core.store.files (stored_by in_row core.store.tables)
    → ((first : World) → (core_seen told).stands core (fresh first) → HasPlayed (core_seen told) first script calls last core')
    → ((first : World) → (core_seen told).stands core (fresh first) → LeavesScript (core_seen told) core core' first script)
    → ((first : World) → (core_seen told).stands core (fresh first) → KeepsScript (core_seen told) core' first script)
    → (core_seen told).faults core' ≡ (core_seen told).faults core
    → IfOk printed (λ answer. answer.status ≡ Done) → IfOk printed (λ answer. answer.lines.items ≡ transcript_of last (sent calls)) → ServesStore told script printed core.store core'.store.files
unfolding core_seen
served_ok told script core core' calls last (Err error) none settled plays crash keep same done lines =
    record { ends = tt; leaves = left-store told script core core' none settled crash; keeps = kept-store told script core core' none settled keep; quiet = λ starved. none-rose told core core' same }
served_ok told script core core' calls last (Ok answer) none settled plays crash keep same done lines = record {
  ends = subst (StoreEnd told script answer.lines.items core.store core'.store.files) (sym done) (
    (λ first stands.
        let played = plays first (serving told core first none settled stands) in
        let serves : IsServing told core'.store core'.sessions (script_machine first script).shared = played.stands in (
          record { calls = calls; plays = played.plays; lines_are = lines ∙ ap (λ (n : ℕ). transcript_of n (sent calls)) played.last_is },
          record { state = stored_by in_row core'.store.tables; settled = serves.settled; stands = record { content = in_row; contents = refl; stands = serves.stands } },
        )),
    none-rose told core core' same,
  );
  leaves = left-store told script core core' none settled crash;
  keeps = kept-store told script core core' none settled keep;
  quiet = λ starved. none-rose told core core' same;
}

-- A fault of the store is no want of memory.
store-alone : {T : Type 0} (result : Result T PlayFault) → result ≡ Err PlayNoMemory → result ≡ Err PlayStoreFault → ⊥
store-alone {T} result is e = let bad : (let told : Result T PlayFault = Err PlayNoMemory in told) ≡ Err PlayStoreFault = sym is ∙ e in cc

-- The script was not played to its end.
pub served_err : {D E : Type 0} (told : Told D) (script : List Event) (core core' : StoreCore D) (played : Result Played PlayFault) (fault : PlayFault) (result : Result Answer E) → played ≡ Err fault
    → core.sessions ≡ [] → IsSettled told core.store.files (stored_by in_row core.store.tables)
    → ((first : World) → (core_seen told).stands core (fresh first) → LeavesScript (core_seen told) core core' first script)
    → ((first : World) → (core_seen told).stands core (fresh first) → KeepsScript (core_seen told) core' first script)
    → (played ≡ Err PlayStoreFault → SomeRose ((core_seen told).faults core) ((core_seen told).faults core'))
    → ((played ≡ Err PlayStoreFault → ⊥) → (core_seen told).faults core' ≡ (core_seen told).faults core)
    → (fault ≡ PlayStoreFault → IsOkAnd result (λ answer. end_of answer ≡ record { status = StoreFault; lines = [] })) → (fault ≡ PlayNoMemory → IsErr result)
    → ServesStore told script result core.store core'.store.files
served_err told script core core' played PlayStoreFault (Err error) is none settled crash keep failed quiet ends no_memory = absurd (ends refl)
served_err told script core core' played PlayStoreFault (Ok answer) is none settled crash keep failed quiet ends no_memory =
    let end = ends refl in
    record {
      ends = subst (StoreEnd told script answer.lines.items core.store core'.store.files) (sym (ap (λ (end : End). end.status) end)) (ap (λ (end : End). end.lines) end, some-rose told core core' (failed is));
      leaves = left-store told script core core' none settled crash;
      keeps = kept-store told script core core' none settled keep;
      quiet = λ starved. absurd (true≢false (sym starved));
    }
served_err told script core core' played PlayNoMemory (Err error) is none settled crash keep failed quiet ends no_memory =
    record { ends = tt; leaves = left-store told script core core' none settled crash; keeps = kept-store told script core core' none settled keep; quiet = λ starved. none-rose told core core' (quiet (store-alone played is)) }
served_err told script core core' played PlayNoMemory (Ok answer) is none settled crash keep failed quiet ends no_memory = absurd (true≢false (sym (no_memory refl)))

-- Memory was refused for the sessions, so that none is served.
pub store_unserved : {D E : Type 0} (told : Told D) (script : List Event) (error : E) (store : Store D) → IsSettled told store.files (stored_by in_row store.tables) → ServesStore told script (Err error) store store.files
store_unserved told script error store settled = record {
  ends = tt;
  leaves = λ world stands since earlier left. left_since told store.files since world (script_machine world script).changes earlier left;
  keeps = unserved_keeps told script store settled;
  quiet = λ starved. (refl, refl, refl);
}

-- A core over a store that was loaded can be asked.
pub is_ready : {D : Type 0} (told : Told D) (core : StoreCore D) → core.sessions ≡ [] → core.store.spent ≡ false → core.store.placed ≡ [] → (core_seen told).ready core
unfolding core_seen
is_ready told core none unspent unplaced = record { unspent = unspent; none_placed = unplaced; live = subst (λ (parts : List SessionPart). AreLive core.store.tables parts) (sym none) tt }

-- From the files that were loaded

pub files_served : {D E : Type 0} (told : Told D) (script : List Event) (answer : Result Answer E) (files : Files D) (old : Store D) (files' : Files D)
    → LeaveTheSame told → LoadedStand → MakesAllSure told files old.files → TellsFaults told ⊥ files old.files → IsSettled told old.files (stored_by in_row old.tables)
    → ServesStore told script answer old files' → ServesFiles told script answer files files'
files_served {D} {E} told script answer files old files' law loaded sure tells settled serves =
    record { ends = by-answer answer serves.ends; leaves = leaves; keeps = loaded_keeps told script files old files' loaded sure settled serves.keeps; quiet = λ starved. counts-both told files old.files files' quiet (serves.quiet starved) }
  where
    quiet : CountsNoFault told files old.files
    quiet = tells.quiet (λ failed. failed)

    by-status : (lines : List ℕ) (s : Status) → StoreEnd told script lines old files' s → ServesEnd told script lines files files' s
    by-status lines Done ends = (if_world told files old _ loaded sure settled ends.0, counts-both told files old.files files' quiet ends.1)
    by-status lines StoreFault ends = (ends.0, fault-later told files old.files files' tells.disks ends.1)
    by-status lines NotAStore ends = absurd ends
    by-status lines Usage ends = ends
    by-status lines NoMemory ends = ends
    by-status lines ReadFault ends = ends
    by-status lines WriteFault ends = ends
    by-status lines Refused ends = ends
    by-status lines BadScript ends = ends
    by-status lines ListenFault ends = ends

    by-answer : (answer : Result Answer E) → IfOk answer (λ answer. StoreEnd told script answer.lines.items old files' answer.status) → IfOk answer (λ answer. ServesEnd told script answer.lines.items files files' answer.status)
    by-answer (Err error) ends = tt
    by-answer (Ok answer) ends = by-status answer.lines.items answer.status ends

    leaves : LeavesChanges told (λ world. (script_machine world script).changes) files files'
    leaves = read-before told files old.files (λ bytes. Holds bytes old.tables (stored_by in_row old.tables).contents)
        (λ bytes. (world : World) → HoldsWorld bytes (world ∷ []) → (since : LogMoments) (earlier : List World) → Left told files since (world ∷ earlier)
        → Left told files' since (worlds_since world (script_machine world script).changes earlier)) sure
        (λ bytes holds world stands since earlier left. serves.leaves world (standing old.tables loaded bytes world holds stands) since earlier (left-sure told files old.files since (world ∷ earlier) law sure left)) settled.holds

-- Files could not be loaded, so that no session is served.
pub files_unserved : {D E : Type 0} (told : Told D) (script : List Event) (answer : Result Answer E) (old new : Files D) (fault : LoadFault)
    → LeaveTheSame told → MakesAllSure told old new → TellsFaults told (fault ≡ LoadFailed) old new → (fault ≡ LoadNotAStore → IsNoStore told new)
    → (fault ≡ LoadNotAStore → IsOkAnd answer (λ answer. end_of answer ≡ record { status = NotAStore; lines = [] }))
    → (fault ≡ LoadFailed → IsOkAnd answer (λ answer. end_of answer ≡ record { status = StoreFault; lines = [] }))
    → (fault ≡ LoadNoMemory → IsErr answer) → ServesFiles told script answer old new
files_unserved {D} {E} told script answer old new fault law sure tells none not_a_store failed no_memory = record {
  ends = by-fault fault answer refl (not_a_store, failed, no_memory);
  leaves = always-read told old (λ bytes. (world : World) → HoldsWorld bytes (world ∷ []) → (since : LogMoments) (earlier : List World) → Left told old since (world ∷ earlier)
      → Left told new since (worlds_since world (script_machine world script).changes earlier))
      (λ bytes world stands since earlier left. left_since told new since world (script_machine world script).changes earlier (left-sure told old new since (world ∷ earlier) law sure left));
  keeps = unloaded_keeps told script old new law sure;
  quiet = λ starved. tells.quiet (λ is. unstarved _ answer starved (failed is));
}
  where
    unstarved : (P : Answer → Type 0) (result : Result Answer E) → IsErr result → IsOkAnd result P → ⊥
    unstarved P (Ok answer) starved is = true≢false (sym starved)
    unstarved P (Err error) starved is = is

    Ends : Answer → Type 0
    Ends answer = ServesEnd told script answer.lines.items old new answer.status

    at : (answer : Answer) (end : End) → end_of answer ≡ end → ServesEnd told script end.lines old new end.status → Ends answer
    at answer end is ends = subst (λ (e : End). ServesEnd told script e.lines old new e.status) (sym is) ends

    by-fault : (f : LoadFault) (result : Result Answer E) → fault ≡ f
        → (fault ≡ LoadNotAStore → IsOkAnd result (λ answer. end_of answer ≡ record { status = NotAStore; lines = [] }))
        × (fault ≡ LoadFailed → IsOkAnd result (λ answer. end_of answer ≡ record { status = StoreFault; lines = [] })) × (fault ≡ LoadNoMemory → IsErr result)
        → IfOk result Ends
    by-fault f (Err error) is how = tt
    by-fault LoadNotAStore (Ok answer) is how =
        at answer (record { status = NotAStore; lines = [] }) (how.0 is) (refl, read-before told old new HoldsNone HoldsNone sure (λ bytes no. no) (none is).none, sure, tells.quiet (λ e. cc (e, is)))
    by-fault LoadFailed (Ok answer) is how = at answer (record { status = StoreFault; lines = [] }) (how.1 is) (refl, tells.failed is)
    by-fault LoadNoMemory (Ok answer) is how = absurd (true≢false (sym (how.2 is)))
