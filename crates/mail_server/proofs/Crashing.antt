-- What a crash leaves in the middle of a script.
use Rattle.std.proofs.Common.{ℕ, ◌≡◌, ◌+◌, List, [], ◌∷◌, ◌++◌, Option, Some, None, map, refl, sym, ◌∙◌, ap, subst, append_assoc, append-nil, length}
use Rattle.port_model.specs.declared.calls.PortCall.{PortCall}
use Rattle.port_model.specs.declared.events.Event.{Event}
use Rattle.port_model.specs.History.{PortEvent, Opened, Piece, Ended, Lost, events}
use Rattle.imap_steps.specs.Stepping.{World, Change, Shared}
use Rattle.imap_steps.specs.Step.{greeting}
use Rattle.mail_model.specs.Machine.{Machine, Made, Session, Taking, and_change, at_once, behind, hears_piece, leaves, machine, after, session_at, take_event, takes}
use Rattle.mail_model.specs.Changes.{folded}
use Rattle.mail_rounds.specs.CoreSeen.{CoreSeen, LeavesFiles}
use Rattle.mail_rounds.specs.Crashes.{MachineCrashes, worlds_since}
use Rattle.mail_server.specs.Script.{script_machine, port_event}
use Rattle.mail_server.specs.OnScript.{IsPartway, LeavesMade, LeavesScript, PartCrashes}
use Rattle.disk_model.specs.Told.{Told}
use Rattle.disk_model.specs.declared.disk.Files.{Files}
use Rattle.row_store.specs.ThreeFiles.{LogMoments}
use Rattle.mailbox_core.specs.Left.{Left}
use Rattle.mail_server.proofs.Leads.{runs}
use Rattle.mail_server.proofs.UserFiles.{left-more}

-- Changes only come on top.

abbrev Grown : List Made → List Made → Type 0
Grown older newer = (more : List Made) × (newer ≡ more ++ older)

change-grows : (change : Option Change) (number from count : ℕ) (older : List Made) → Grown older (and_change change number from count older)
change-grows None number from count older = ([], refl)
change-grows (Some change) number from count older = (record { change = change; number = number; from = from; count = count } ∷ [], refl)

found-grows : (m : Machine) (act : Shared → Session → Taking) (found : Option Session)
    → Grown m.changes (elim found as (λ (f : Option Session). Machine) [ None ↦ m | Some session ↦ takes m (act m.shared session) ]).changes
found-grows m act None = ([], refl)
found-grows m act (Some session) = (map (behind (length (m.out (act m.shared session).session.number))) (act m.shared session).changes, refl)

event-grows : (m : Machine) (event : PortEvent) → Grown m.changes (take_event m event).changes
event-grows m (Opened number kind) =
    let greeted = greeting m.shared number kind (at_once m.sessions) in change-grows greeted.change number (length (m.out number)) (length greeted.answer) m.changes
event-grows m (Piece number piece moment) = found-grows m (hears_piece moment piece) (session_at number m.sessions)
event-grows m (Ended number) = found-grows m leaves (session_at number m.sessions)
event-grows m (Lost number) = found-grows m leaves (session_at number m.sessions)

runs-grow : (left : List Event) (m : Machine) → Grown m.changes (runs m left).changes
runs-grow [] m = ([], refl)
runs-grow (event ∷ later) m =
    let one = event-grows m (port_event (m.last + 1) event) in
    let rest = runs-grow later (take_event m (port_event (m.last + 1) event)) in
    (rest.0 ++ one.0, rest.1 ∙ ap (λ (changes : List Made). rest.0 ++ changes) one.1 ∙ sym (append_assoc rest.0 one.0 m.changes))

-- A history in the middle of a script made the first ones of its changes.
pub on_partway : (first : World) (script : List Event) (calls : List PortCall) (left : List Event) → runs (after first calls) left ≡ script_machine first script → IsPartway first script calls
on_partway first script calls left whole = let grown = runs-grow left (after first calls) in (grown.0, ap (λ (m : Machine). m.changes) (sym whole) ∙ grown.1)

-- The laws that these take: those of the worlds since one, and that of the machine's world.
abbrev pub First : Type 0
First = (world : World) (made : List Made) (earlier : List World) → (older : List World) × (worlds_since world made earlier ≡ folded world made ∷ older)

abbrev pub More : Type 0
More = (world : World) (newer made : List Made) (earlier older : List World) → worlds_since world made earlier ≡ folded world made ∷ older
    → worlds_since (folded world made) newer older ≡ worlds_since world (newer ++ made) earlier

abbrev pub Folds : Type 0
Folds = (world : World) (events : List PortEvent) → (machine world events).shared.world ≡ folded world (machine world events).changes

-- Before any call nothing is made.
pub leaves_none : {C : Type 0} (seen : CoreSeen C) (core : C) (first : World) → LeavesMade seen core core first (after first []).changes
unfolding machine
leaves_none seen core first since earlier left = left

-- More calls leave the changes more.
pub leaves_on : {C : Type 0} (seen : CoreSeen C) (old mid new : C) (first : World) (before later : List PortCall) → First → More → Folds
    → LeavesMade seen old mid first (after first before).changes → MachineCrashes seen mid new first before later → LeavesMade seen old new first (after first later).changes
leaves_on seen old mid new first before later law_first law_more law_folds so_far step since earlier left =
    let made : List Made = (after first before).changes in
    let start = law_first first made earlier in
    let its : (after first before).shared.world ≡ folded first made = law_folds first (events before) in
    let between : seen.left mid since ((after first before).shared.world ∷ start.0) =
    subst (seen.left mid since) (start.1 ∙ ap (λ (w : World). w ∷ start.0) (sym its)) (so_far since earlier left) in
    subst (seen.left new since)
    (ap (λ (w : World). worlds_since w step.made start.0) its ∙ law_more first step.made made earlier start.0 start.1 ∙ ap (λ (changes : List Made). worlds_since first changes earlier) (sym step.changes_are))
    (step.left since start.0 between)

worlds-more : (first : World) (more made : List Made) (earlier : List World) → (newer : List World) × (worlds_since first (more ++ made) earlier ≡ newer ++ worlds_since first made earlier)
worlds-more first [] made earlier = ([], refl)
worlds-more first (one ∷ more) made earlier =
    let rest = worlds-more first more made earlier in
    (folded first (one ∷ (more ++ made)) ∷ rest.0, ap (λ (worlds : List World). folded first (one ∷ (more ++ made)) ∷ worlds) rest.1)

-- What leaves some of a script's changes leaves some of them all.
pub leaves_script : {C : Type 0} (seen : CoreSeen C) (old new : C) (first : World) (script : List Event) (calls : List PortCall) → LeavesMade seen old new first (after first calls).changes → IsPartway first script calls
    → LeavesScript seen old new first script
leaves_script seen old new first script calls leaves partway since earlier left =
    let made : List Made = (after first calls).changes in
    let more = worlds-more first partway.0 made earlier in
    subst (λ (changes : List Made). seen.left new since (worlds_since first changes earlier)) (sym partway.1)
    (subst (seen.left new since) (sym more.1) (seen.widened new since more.0 (worlds_since first made earlier) (leaves since earlier left)))

-- A core that was left alone leaves what it left.
pub leaves_alone : {C : Type 0} (seen : CoreSeen C) (core : C) (first : World) (script : List Event) → LeavesScript seen core core first script
unfolding machine
leaves_alone seen core first script =
    leaves_script seen core core first script [] (leaves_none seen core first) ((script_machine first script).changes, sym (append-nil (script_machine first script).changes))

-- The calls of a round go on with a part of a script.
pub part_leaves : {C : Type 0} (seen : CoreSeen C) (old mid new : C) (first : World) (script : List Event) (before : List PortCall) → First → More → Folds
    → LeavesMade seen old mid first (after first before).changes → PartCrashes seen mid new first script before → LeavesScript seen old new first script
part_leaves seen old mid new first script before law_first law_more law_folds so_far part =
    leaves_script seen old new first script part.later (leaves_on seen old mid new first before part.later law_first law_more law_folds so_far part.crashes) part.partway

-- Files that are left alone then leave the same.
pub leaves_still : {C : Type 0} (seen : CoreSeen C) (old mid new : C) (first : World) (made : List Made) → LeavesMade seen old mid first made → LeavesFiles seen mid new → LeavesMade seen old new first made
leaves_still seen old mid new first made leaves files since earlier left = files.left since (worlds_since first made earlier) (leaves since earlier left)

-- What is left since one world is left since it by changes.
pub left_since : {D : Type 0} (told : Told D) (files : Files D) (since : LogMoments) (first : World) (made : List Made) (earlier : List World) → Left told files since (first ∷ earlier)
    → Left told files since (worlds_since first made earlier)
left_since told files since first [] earlier left = left
left_since told files since first (one ∷ made) earlier left = left-more told files since (folded first (one ∷ made)) (worlds_since first made earlier) (left_since told files since first made earlier left)
