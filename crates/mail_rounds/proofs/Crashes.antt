-- The worlds that a crash may leave, over what a session takes and over histories.
use Rattle.std.proofs.Common.{ℕ, ◌≡◌, Bool, true, false, cond, List, [], ◌∷◌, ◌++◌, map, length, Option, Some, None, Ok, refl, sym, ◌∙◌, ap, ap₂, subst, append_assoc, append-nil}
use Rattle.std.specs.List.{count_by, slice_get}
use Rattle.port_model.specs.declared.calls.Kind.{Kind}
use Rattle.port_model.specs.declared.calls.PortCall.{PortCall}
use Rattle.port_model.specs.declared.calls.PortCall.TheVariants.{Accept}
use Rattle.port_model.specs.History.{PortEvent, Opened, events}
use Rattle.port_model.specs.Streams.{moment}
use Rattle.session_units.specs.declared.forms.Awaits.{Awaits}
use Rattle.session_units.specs.declared.forms.Shown.{Shown}
use Rattle.session_units.specs.Units.{Cut, first as first_unit, unit_of}
use Rattle.session_units.specs.Awaited.{Awaited, awaits_of, with_more}
use Rattle.imap_steps.specs.Stepping.{World, Change, Shared, Stepped, applied, changed, after_step}
use Rattle.imap_steps.specs.Step.{step, greeting}
use Rattle.mail_model.specs.Machine.{Machine, Made, Session, Taking, is_open, and_change, behind, awaits_more, leaves, take_unit, take_byte, take_piece, taking_of, at_once, takes, machine, after}
use Rattle.mail_model.specs.Changes.{folded}
use Rattle.mail_rounds.specs.declared.link.Link.{Link}
use Rattle.mail_rounds.specs.CoreSeen.{CoreSeen, LeavesFiles}
use Rattle.mail_rounds.specs.Crashes.{worlds_since, worlds_after, MayLeave, Crashes, TakingCrashes, MachineCrashes, GreetingCrashes}
use Rattle.mail_rounds.specs.Held.{Held, session_of, taking_in}
use Rattle.mail_rounds.specs.Heard.{IsOfLink, IsTaking, HearingCrashes, and_event, acts}
use Rattle.mail_rounds.specs.Serves.{Serves}
use Rattle.mail_rounds.proofs.Kept.{at_once-kept, at_once-links, split-at}
use Rattle.mail_rounds.proofs.Taking.{taking-is, take_byte-unit, same_form}
use Rattle.mail_rounds.proofs.Keeping.{held-at, after-event, machine-event}

-- Worlds and changes.

folded-append : (world : World) (newer made : List Made) → folded (folded world made) newer ≡ folded world (newer ++ made)
folded-append world [] made = refl
folded-append world (one ∷ newer) made = ap (λ (w : World). applied w one.change) (folded-append world newer made)

pub since-last : (world : World) (made : List Made) (earlier : List World) → (newer : List World) × (worlds_since world made earlier ≡ newer ++ world ∷ earlier)
since-last world [] earlier = ([], refl)
since-last world (one ∷ made) earlier =
    let rest = since-last world made earlier in (folded world (one ∷ made) ∷ rest.0, ap (λ (ws : List World). folded world (one ∷ made) ∷ ws) rest.1)

pub since-first : (world : World) (made : List Made) (earlier : List World) → (older : List World) × (worlds_since world made earlier ≡ folded world made ∷ older)
since-first world [] earlier = (earlier, refl)
since-first world (one ∷ made) earlier = (worlds_since world made earlier, refl)

pub since-more : (world : World) (newer made : List Made) (earlier older : List World) → worlds_since world made earlier ≡ folded world made ∷ older
    → worlds_since (folded world made) newer older ≡ worlds_since world (newer ++ made) earlier
since-more world [] made earlier older e = sym e
since-more world (one ∷ newer) made earlier older e =
    ap₂ (λ (w : World) (ws : List World). w ∷ ws) (folded-append world (one ∷ newer) made) (since-more world newer made earlier older e)

folded-behind : (count : ℕ) (world : World) (made : List Made) → folded world (map (behind count) made) ≡ folded world made
folded-behind count world [] = refl
folded-behind count world (one ∷ made) = ap (λ (w : World). applied w one.change) (folded-behind count world made)

since-behind : (count : ℕ) (world : World) (made : List Made) (earlier : List World) → worlds_since world (map (behind count) made) earlier ≡ worlds_since world made earlier
since-behind count world [] earlier = refl
since-behind count world (one ∷ made) earlier =
    ap₂ (λ (w : World) (ws : List World). w ∷ ws) (folded-behind count world (one ∷ made)) (since-behind count world made earlier)

-- What a crash leaves, one after another.

pub files-same : {C : Type 0} (seen : CoreSeen C) (core : C) → LeavesFiles seen core core
files-same seen core = record { left = λ since worlds l. l; moments = refl; faults = refl }

pub files-then : {C : Type 0} (seen : CoreSeen C) (old mid new : C) → LeavesFiles seen old mid → LeavesFiles seen mid new → LeavesFiles seen old new
files-then seen old mid new one two = record {
  left = λ since worlds l. two.left since worlds (one.left since worlds l);
  moments = two.moments ∙ one.moments;
  faults = two.faults ∙ one.faults;
}

pub crashes-then : {C : Type 0} (seen : CoreSeen C) (old mid new : C) (world : World) (changes : List Made) (world' : World) (changes' : List Made) (world'' : World) (changes'' : List Made)
    → Crashes seen old mid world changes world' changes' → Crashes seen mid new world' changes' world'' changes'' → Crashes seen old new world changes world'' changes''
crashes-then seen old mid new world changes world' changes' world'' changes'' one two = record {
  made = two.made ++ one.made;
  changes_are = two.changes_are ∙ ap (λ (xs : List Made). two.made ++ xs) one.changes_are ∙ sym (append_assoc two.made one.made changes);
  world_is = two.world_is ∙ ap (λ (w : World). folded w two.made) one.world_is ∙ folded-append world two.made one.made;
  left = λ since earlier l.
      let start = since-first world one.made earlier in
      let between : seen.left mid since (world' ∷ start.0)
      = subst (seen.left mid since) (start.1 ∙ ap (λ (w : World). w ∷ start.0) (sym one.world_is)) (one.left since earlier l) in
      subst (seen.left new since) (ap (λ (w : World). worlds_since w two.made start.0) one.world_is ∙ since-more world two.made one.made earlier start.0 start.1)
      (two.left since start.0 between);
}

-- Where a core did less than the machine.

-- The machine made some changes.
pub record Grown (world : World) (changes : List Made) (later : World) (all : List Made) : Type 0 where
  pub made : List Made
  pub changes_are : all ≡ made ++ changes
  pub world_is : later ≡ folded world made

grown-then : (world : World) (changes : List Made) (world' : World) (changes' : List Made) (world'' : World) (changes'' : List Made)
    → Grown world changes world' changes' → Grown world' changes' world'' changes'' → Grown world changes world'' changes''
grown-then world changes world' changes' world'' changes'' one two = record {
  made = two.made ++ one.made;
  changes_are = two.changes_are ∙ ap (λ (xs : List Made). two.made ++ xs) one.changes_are ∙ sym (append_assoc two.made one.made changes);
  world_is = two.world_is ∙ ap (λ (w : World). folded w two.made) one.world_is ∙ folded-append world two.made one.made;
}

pub crashes-idle : {C : Type 0} (seen : CoreSeen C) (old new : C) (world : World) (changes : List Made) (later : World) (all : List Made)
    → LeavesFiles seen old new → Grown world changes later all → Crashes seen old new world changes later all
crashes-idle seen old new world changes later all files grown = record {
  made = grown.made;
  changes_are = grown.changes_are;
  world_is = grown.world_is;
  left = λ since earlier l.
      let last = since-last world grown.made earlier in
      subst (seen.left new since) (sym last.1) (seen.widened new since last.0 (world ∷ earlier) (files.left since (world ∷ earlier) l));
}

-- One step

pub step-grown : (world later : World) (change : Option Change) (number from count : ℕ) (changes : List Made) → later ≡ changed world change
    → Grown world changes later (and_change change number from count changes)
step-grown world later None number from count changes e = record { made = []; changes_are = refl; world_is = e }
step-grown world later (Some change) number from count changes e =
    record { made = record { change = change; number = number; from = from; count = count } ∷ []; changes_are = refl; world_is = e }

pub step-crashes : {C : Type 0} (seen : CoreSeen C) (old new : C) (world later : World) (change : Option Change) (number from count : ℕ) (changes : List Made) → later ≡ changed world change
    → MayLeave seen old new world change → Crashes seen old new world changes later (and_change change number from count changes)
step-crashes seen old new world later None number from count changes e leaves = record { made = []; changes_are = refl; world_is = e; left = leaves }
step-crashes seen old new world later (Some change) number from count changes e leaves =
    record { made = record { change = change; number = number; from = from; count = count } ∷ []; changes_are = refl; world_is = e; left = leaves }

-- What a session takes. `Worlds` is the law of what a step makes of the world.

abbrev pub Worlds : Type 0
Worlds = (shared : Shared) (number : ℕ) (stepped : Stepped) → (after_step shared number stepped).world ≡ changed shared.world stepped.change

abbrev pub TakingGrown : Taking → Taking → Type 0
TakingGrown before later = Grown before.shared.world before.changes later.shared.world later.changes

pub byte-grown : Worlds → (moment : ℕ) (taking : Taking) (byte : ℕ) → TakingGrown taking (take_byte moment taking byte)
unfolding take_byte
byte-grown law moment taking byte = by (is_open taking.session.standing) (first_unit taking.session.awaited (byte ∷ []))
  where
    by : (is_served : Bool) (found : Option Cut)
        → TakingGrown taking
        (cond is_served (elim found as (λ (f : Option Cut). Taking) [ None ↦ awaits_more taking byte | Some cut ↦ take_unit moment taking cut ]) taking)
    by true None = record { made = []; changes_are = refl; world_is = refl }
    by true (Some cut) =
        let stepped = step taking.shared taking.session.number (awaits_of taking.session.awaited) cut.shows cut.unit moment in
        step-grown taking.shared.world (after_step taking.shared taking.session.number stepped).world stepped.change taking.session.number (length taking.answers) (length stepped.answer) taking.changes
        (law taking.shared taking.session.number stepped)
    by false found = record { made = []; changes_are = refl; world_is = refl }

pub piece-grown : Worlds → (moment : ℕ) (taking : Taking) (piece : List ℕ) → TakingGrown taking (take_piece moment taking piece)
piece-grown law moment taking [] = record { made = []; changes_are = refl; world_is = refl }
piece-grown law moment taking (byte ∷ piece) =
    let one = take_byte moment taking byte in
    let all = take_piece moment one piece in
    grown-then taking.shared.world taking.changes one.shared.world one.changes all.shared.world all.changes (byte-grown law moment taking byte) (piece-grown law moment one piece)

-- a byte that the core did nothing of
pub byte_idle : {C : Type 0} (seen : CoreSeen C) (core : C) → Worlds → (moment : ℕ) (taking : Taking) (byte : ℕ) → TakingCrashes seen core core taking (take_byte moment taking byte)
byte_idle seen core law moment taking byte =
    crashes-idle seen core core taking.shared.world taking.changes (take_byte moment taking byte).shared.world (take_byte moment taking byte).changes (files-same seen core) (byte-grown law moment taking byte)

-- a byte that ends a unit
pub byte_unit : {C : Type 0} (seen : CoreSeen C) (link : Link) (core core' : C) (moment byte : ℕ) (taking : Taking) (fed : Awaited) → Worlds → IsTaking seen core link taking → true ≡ is_open link.standing
    → fed ≡ with_more link.reader (byte ∷ [])
    → (shows : Shown) → first_unit link.reader (byte ∷ []) ≡ Some (record { unit = unit_of fed; shows = shows; rest = [] })
    → MayLeave seen core core' taking.shared.world (step taking.shared link.number (awaits_of fed) shows (unit_of fed) moment).change
    → TakingCrashes seen core core' taking (take_byte moment taking byte)
byte_unit seen link core core' moment byte taking fed law held h l shows e leaves =
    let stepped : Stepped = step taking.shared link.number (awaits_of link.reader) shows (unit_of fed) moment in
    let here : Taking = taking_in taking.shared link taking.changes in
    subst (λ (t : Taking). TakingCrashes seen core core' t (take_byte moment t byte)) (taking-is seen core link taking held)
    (subst (TakingCrashes seen core core' here) (sym (take_byte-unit moment here byte (record { unit = unit_of fed; shows = shows; rest = [] }) (sym h) e))
    (step-crashes seen core core' taking.shared.world (after_step taking.shared link.number stepped).world stepped.change link.number (length link.queue.items) (length stepped.answer) taking.changes
    (law taking.shared link.number stepped)
    (subst (λ (a : Awaits). MayLeave seen core core' taking.shared.world (step taking.shared link.number a shows (unit_of fed) moment).change) (ap awaits_of l ∙ same_form link.reader (byte ∷ [])) leaves)))

pub take-append : (moment : ℕ) (taking : Taking) (piece later : List ℕ) → take_piece moment taking (piece ++ later) ≡ take_piece moment (take_piece moment taking piece) later
take-append moment taking [] later = refl
take-append moment taking (byte ∷ piece) later = take-append moment (take_byte moment taking byte) piece later

-- what was taken of a piece, and one step of the core more or none
pub piece_then : {C : Type 0} (seen : CoreSeen C) (old mid new : C) (moment : ℕ) (taking : Taking) (front more : List ℕ)
    → TakingCrashes seen old mid taking (take_piece moment taking front)
    → TakingCrashes seen mid new (take_piece moment taking front) (take_piece moment (take_piece moment taking front) more)
    → TakingCrashes seen old new taking (take_piece moment taking (front ++ more))
piece_then seen old mid new moment taking front more one two =
    let here = take_piece moment taking front in
    let later = take_piece moment here more in
    subst (TakingCrashes seen old new taking) (sym (take-append moment taking front more))
    (crashes-then seen old mid new taking.shared.world taking.changes here.shared.world here.changes later.shared.world later.changes one two)

-- and nothing of the rest
pub piece_rest : {C : Type 0} (seen : CoreSeen C) (old new : C) → Worlds → (moment : ℕ) (taking : Taking) (front more : List ℕ)
    → TakingCrashes seen old new taking (take_piece moment taking front) → TakingCrashes seen old new taking (take_piece moment taking (front ++ more))
piece_rest seen old new law moment taking front more one =
    let here = take_piece moment taking front in
    let later = take_piece moment here more in
    piece_then seen old new new moment taking front more one
    (crashes-idle seen new new here.shared.world here.changes later.shared.world later.changes (files-same seen new) (piece-grown law moment here more))

-- The law that a session which leaves changes nothing.
abbrev pub Leaving : Type 0
Leaving = (shared : Shared) (session : Session) → ((leaves shared session).shared.world ≡ shared.world) × ((leaves shared session).changes ≡ [])

-- what a session does whose link ended or was lost
pub ending_crashes : {C : Type 0} (seen : CoreSeen C) (core core' : C) (link : Link) → Leaving → LeavesFiles seen core core' → (shared : Shared) → TakingCrashes seen core core' (taking_of shared (session_of link)) (leaves shared (session_of link))
ending_crashes seen core core' link law files shared =
    record { made = []; changes_are = (law shared (session_of link)).1; world_is = (law shared (session_of link)).0; left = λ since earlier l. files.left since (shared.world ∷ earlier) l }

-- Calls for one link

pub no_event_heard : {C : Type 0} (seen : CoreSeen C) (core : C) (link : Link) (before later : List PortCall) → events later ≡ events before → HearingCrashes seen core link core before later
no_event_heard seen core link before later e = record {
  event = None;
  its = tt;
  events_are = e;
  leaves = λ shared stands. record { made = []; changes_are = refl; world_is = refl; left = λ since earlier l. l };
}

-- Histories

same-machine : {C : Type 0} (seen : CoreSeen C) (core core' : C) (m m' : Machine) → m' ≡ m → LeavesFiles seen core core'
    → Crashes seen core core' m.shared.world m.changes m'.shared.world m'.changes
same-machine seen core core' m m' e files =
    subst (λ (x : Machine). Crashes seen core core' m.shared.world m.changes x.shared.world x.changes) (sym e)
    (record { made = []; changes_are = refl; world_is = refl; left = λ since earlier l. files.left since (m.shared.world ∷ earlier) l })

-- calls without an event
pub no_event : {C : Type 0} (seen : CoreSeen C) (core core' : C) (first : World) (before later : List PortCall) → events later ≡ events before → LeavesFiles seen core core'
    → MachineCrashes seen core core' first before later
no_event seen core core' first before later e files =
    same-machine seen core core' (after first before) (after first later) (ap (machine first) e) files

taken-crashes : {C : Type 0} (seen : CoreSeen C) (core core' : C) (m : Machine) (session : Session) (taking : Taking) → TakingCrashes seen core core' (taking_of m.shared session) taking
    → Crashes seen core core' m.shared.world m.changes (takes m taking).shared.world (takes m taking).changes
taken-crashes seen core core' m session taking taken =
    let count = length (m.out taking.session.number) in
    record {
      made = map (behind count) taken.made;
      changes_are = ap (λ (xs : List Made). map (behind count) xs ++ m.changes) (taken.changes_are ∙ append-nil taken.made);
      world_is = taken.world_is ∙ sym (folded-behind count m.shared.world taken.made);
      left = λ since earlier l. subst (seen.left core' since) (sym (since-behind count m.shared.world taken.made earlier)) (taken.left since earlier l);
    }

hearing-crashes : {C : Type 0} (seen : CoreSeen C) (first : World) (before later : List PortCall) (core core' : C) (front : List Link) (link : Link) (back : List Link) (last : ℕ) (event : Option PortEvent)
    → IsOfLink link.number event → events later ≡ and_event event (events before)
    → ((shared : Shared) → seen.stands core shared → TakingCrashes seen core core' (taking_of shared (session_of link)) (acts event shared (session_of link)))
    → Serves seen first before (record { core = core; links = front ++ link ∷ back; last = last })
    → MachineCrashes seen core core' first before later
hearing-crashes seen first before later core core' front link back last None its are leaves serves =
    let m = after first before in
    let taken = leaves m.shared serves.stands in
    subst (λ (x : Machine). Crashes seen core core' m.shared.world m.changes x.shared.world x.changes) (sym (ap (machine first) are))
    (record {
      made = taken.made;
      changes_are = ap (λ (xs : List Made). xs ++ m.changes) (taken.changes_are ∙ append-nil taken.made);
      world_is = taken.world_is;
      left = taken.left;
    })
hearing-crashes seen first before later core core' front link back last (Some event) its are leaves serves =
    let m = after first before in
    subst (λ (x : Machine). Crashes seen core core' m.shared.world m.changes x.shared.world x.changes)
    (sym (after-event first before later event link.number (session_of link) its are (held-at seen first before core front link back last serves).1))
    (taken-crashes seen core core' m (session_of link) (acts (Some event) m.shared (session_of link)) (leaves m.shared serves.stands))

-- what a link had happen, by its place
pub hearing_crash : {C : Type 0} (seen : CoreSeen C) (first : World) (before later : List PortCall) (core core' : C) (links : List Link) (i : ℕ) (link : Link) (last : ℕ)
    → slice_get links i ≡ Some link → HearingCrashes seen core link core' before later
    → Serves seen first before (record { core = core; links = links; last = last }) → MachineCrashes seen core core' first before later
hearing_crash seen first before later core core' links i link last at hears serves =
    hearing-crashes seen first before later core core' _ link _ last hears.event hears.its hears.events_are hears.leaves
    (subst (λ (xs : List Link). Serves seen first before (record { core = core; links = xs; last = last })) (split-at links i link at) serves)

-- a greeting that was made or begun, or not
pub greeting_made : {C : Type 0} (seen : CoreSeen C) (core mid core' : C) (links : List Link) (number : ℕ) (kind : Kind) (others : ℕ) → Worlds → others ≡ count_by (λ link. is_open link.standing) links
    → ((shared : Shared) → seen.stands core shared → MayLeave seen core mid shared.world (greeting shared number kind others).change) → LeavesFiles seen mid core'
    → (shared : Shared) (from : ℕ) (changes : List Made) → seen.stands core shared
    → GreetingCrashes seen core core' shared number (greeting shared number kind (at_once (map session_of links))) from changes
greeting_made seen core mid core' links number kind others law count may files shared from changes stands =
    subst (λ (n : ℕ). GreetingCrashes seen core core' shared number (greeting shared number kind n) from changes) (count ∙ sym (at_once-links links))
    (let greeted = greeting shared number kind others in
    step-crashes seen core core' shared.world (after_step shared number greeted).world greeted.change number from (length greeted.answer) changes (law shared number greeted)
    (λ since earlier l. files.left since (worlds_after shared.world greeted.change earlier) (may shared stands since earlier l)))

pub greeting_idle : {C : Type 0} (seen : CoreSeen C) (core : C) (links : List Link) (number : ℕ) (kind : Kind) → Worlds
    → (shared : Shared) (from : ℕ) (changes : List Made) → seen.stands core shared
    → GreetingCrashes seen core core shared number (greeting shared number kind (at_once (map session_of links))) from changes
greeting_idle seen core links number kind law shared from changes stands =
    let greeted = greeting shared number kind (at_once (map session_of links)) in
    crashes-idle seen core core shared.world changes (after_step shared number greeted).world (and_change greeted.change number from (length greeted.answer) changes) (files-same seen core)
    (step-grown shared.world (after_step shared number greeted).world greeted.change number from (length greeted.answer) changes (law shared number greeted))

-- a new link
pub opening_crashes : {C : Type 0} (seen : CoreSeen C) (first : World) (history : List PortCall) (held : Held C) (core' : C) (number : ℕ) (kind : Kind)
    → ((shared : Shared) (from : ℕ) (changes : List Made) → seen.stands held.core shared
    → GreetingCrashes seen held.core core' shared number (greeting shared number kind (at_once (map session_of held.links))) from changes)
    → Serves seen first history held → MachineCrashes seen held.core core' first history (Accept number (Ok (Some kind)) ∷ history)
opening_crashes seen first history held core' number kind greets serves =
    let m = after first history in
    let others : at_once (map session_of held.links) ≡ at_once m.sessions = ap at_once serves.sessions ∙ at_once-kept history m.sessions serves.open_kept in
    subst (λ (x : Machine). Crashes seen held.core core' m.shared.world m.changes x.shared.world x.changes) (sym (machine-event first (Opened number kind) (events history)))
    (subst (λ (n : ℕ). GreetingCrashes seen held.core core' m.shared number (greeting m.shared number kind n) (length (m.out number)) m.changes) others
    (greets m.shared (length (m.out number)) m.changes serves.stands))
