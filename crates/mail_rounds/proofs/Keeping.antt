-- What keeps the relation between a server and the machine.
use Rattle.std.proofs.Common.{ℕ, suc, ◌≡◌, ◌≢◌, ◌+◌, ◌<◌, ◌≤◌, ◌==◌, inl, inr, not, Bool, true, false, List, [], ◌∷◌, ◌++◌, map, take, drop, set, Option, Some, None, Ok, refl, sym, ◌∙◌, ap, subst, arith, append-nil}
use Rattle.std.specs.List.{filter, count_by, slice_get, remove}
use Rattle.std.proofs.lemmas.Bool.Decides.{eqb_tells}
use Rattle.std.proofs.lemmas.Option.{same_Some}
use Rattle.std.proofs.lemmas.List.Elements.{filter-append}
use Rattle.std.proofs.lemmas.List.{map-append}
use Rattle.port_model.specs.declared.calls.Kind.{Kind}
use Rattle.port_model.specs.declared.calls.PortCall.{PortCall}
use Rattle.port_model.specs.declared.calls.PortCall.TheVariants.{Accept, Close}
use Rattle.port_model.specs.History.{PortEvent, Opened, Piece, Ended, Lost, events, sent, is_closed}
use Rattle.session_units.specs.declared.forms.Awaits.{Awaits}
use Rattle.session_units.specs.Awaited.{Awaited, begun}
use Rattle.imap_steps.specs.Stepping.{World, Shared, Stepped, after_step, stepped_to}
use Rattle.imap_steps.specs.Step.{greeting}
use Rattle.mail_model.specs.Machine.{Machine, Session, hears_piece, leaves, adds, Taking, of_session, is_open, session_at, becomes, at_once, takes, opens, take_event, machine, after, standing_after}
use Rattle.mail_rounds.specs.CoreSeen.{CoreSeen}
use Rattle.mail_rounds.specs.declared.link.Link.{Link}
use Rattle.mail_rounds.specs.Steps.{IsStep}
use Rattle.mail_rounds.specs.Held.{Held, session_of, queue_of, Ascending}
use Rattle.mail_rounds.specs.Heard.{IsOfLink, IsLossOf, and_event, acts, IsTaking, Hears, Offered}
use Rattle.mail_rounds.specs.Serves.{Answered, OpenAreKept, Serves, IsGreeted, Opens}
use Rattle.mail_rounds.specs.Calls.{is_kept, is_loss, is_lost}
use Rattle.mail_rounds.proofs.Kept.{apart, same, ascending-within, ascending-here, ascending-becomes, ascending-without, ascending-more, queue-past, queue-here, queue-other, queue-without, queue-gone, queue-more, at-here, becomes-here, at-other, at-becomes, at-more-other, at-kept, found-kept, becomes-kept, kept-same, open_kept-same, open_kept-becomes, open_kept-more, at_once-kept, at_once-links, kept-closing, without-here, open_kept-closing, split-at, set-at, sessions-same}

cases : {A : Type 0} (a b : ℕ) → (a ≡ b → A) → (a ≢ b → A) → A
cases a b yes_case no_case = elim (eqb_tells a b) [ inl e ↦ yes_case e.1 | inr e ↦ no_case e.1 ]

lost_cases : {A : Type 0} (lost : Bool) → (lost ≡ false → A) → (lost ≡ true → A) → A
lost_cases true f t = t refl
lost_cases false f t = f refl

answered-same : (lost lost' : Bool) (sent sent' queue queue' out out' : List ℕ) → lost' ≡ lost → sent' ≡ sent → queue' ≡ queue → out' ≡ out
    → Answered lost sent queue out → Answered lost' sent' queue' out'
answered-same lost lost' sent sent' queue queue' out out' l s q o h = rw (l, s, q, o) h

abbrev holding : {C : Type 0} → C → List Link → ℕ → Held C
holding core links last = record { core = core; links = links; last = last }

-- What the event of a link does to the machine.

-- The machine after something that only the session of one link took part in, which is that of `new` now.
record Becomes (before : List PortCall) (front : List Link) (new : Link) (back : List Link) (m m' : Machine) : Type 0 where
  kept : filter (is_kept before) m'.sessions ≡ map session_of (front ++ new ∷ back)
  others : (n : ℕ) → new.number ≢ n → session_at n m'.sessions ≡ session_at n m.sessions
  here : session_at new.number m'.sessions ≡ Some (session_of new)
  open_kept : OpenAreKept before m'.sessions
  out : (n : ℕ) → new.number ≢ n → m'.out n ≡ m.out n
  last : m'.last ≡ m.last

-- Every event of one link, and every call without an event, goes through this.
serves-link : {C : Type 0} (seen : CoreSeen C) (first : World) (before later : List PortCall) (core core' : C) (front : List Link) (link new : Link) (back : List Link) (last : ℕ)
    → new.number ≡ link.number
    → Becomes before front new back (after first before) (after first later)
    → seen.stands core' (after first later).shared
    → ((n : ℕ) → is_closed later n ≡ is_closed before n)
    → ((n : ℕ) → n ≢ link.number → sent later n ≡ sent before n)
    → ((n : ℕ) → n ≢ link.number → is_lost n (events later) ≡ is_lost n (events before))
    → (is_open new.standing ≡ true → is_lost link.number (events later) ≡ false)
    → Answered (is_lost link.number (events later)) (sent later link.number) new.queue.items ((after first later).out link.number)
    → Serves seen first before (holding core (front ++ link ∷ back) last)
    → Serves seen first later (holding core' (front ++ new ∷ back) last)
serves-link seen first before later core core' front link new back last e becomes stands closed_same sent_same lost_same linked answers serves =
    let ordered = ascending-becomes 0 front link new back last e serves.ordered in
    let within : link.number ≤ last = ascending-within link.number back last (ascending-here 0 front link back last serves.ordered).1 in
    record {
      stands = stands;
      sessions = sym (kept-same before later (after first later).sessions closed_same ∙ becomes.kept);
      answered = λ n. cases new.number n
          (λ f. subst (λ (k : ℕ). Answered (is_lost k (events later)) (sent later k) (queue_of k (front ++ new ∷ back)) ((after first later).out k)) f
          (answered-same (is_lost link.number (events later)) (is_lost new.number (events later)) (sent later link.number) (sent later new.number)
          new.queue.items (queue_of new.number (front ++ new ∷ back)) ((after first later).out link.number) ((after first later).out new.number)
          (ap (λ (k : ℕ). is_lost k (events later)) e) (ap (sent later) e) (queue-here new.number 0 front new back last refl ordered) (ap (after first later).out e) answers))
          (λ ne. answered-same (is_lost n (events before)) (is_lost n (events later)) (sent before n) (sent later n)
          (queue_of n (front ++ link ∷ back)) (queue_of n (front ++ new ∷ back)) ((after first before).out n) ((after first later).out n)
          (lost_same n (λ f. ne (e ∙ sym f))) (sent_same n (λ f. ne (e ∙ sym f))) (queue-other n front link new back e (λ f. ne (e ∙ f))) (becomes.out n ne) (serves.answered n));
      ordered = ordered;
      latest = serves.latest ∙ sym becomes.last;
      later_open = λ n above. (
        closed_same n ∙ (serves.later_open n above).0,
        becomes.others n (λ f. absurd (omega (arith, f, e, within, above))) ∙ (serves.later_open n above).1,
        lost_same n (λ f. absurd (omega (arith, f, e, within, above))) ∙ (serves.later_open n above).2,
      );
      open_kept = open_kept-same before later (after first later).sessions closed_same becomes.open_kept;
      open_linked = λ n s at opened. cases new.number n
          (λ f. let its : session_at new.number (after first later).sessions ≡ Some s = subst (λ (k : ℕ). session_at k (after first later).sessions ≡ Some s) (sym f) at in
          let same : session_of new ≡ s = same_Some (session_of new) s (sym becomes.here ∙ its) in
          subst (λ (k : ℕ). is_lost k (events later) ≡ false) (sym e ∙ f) (linked (ap (λ (x : Session). is_open x.standing) same ∙ opened)))
          (λ ne. lost_same n (λ f. ne (e ∙ sym f)) ∙ serves.open_linked n s (sym (becomes.others n ne) ∙ at) opened);
    }

-- the session of a link that is held
pub held-at : {C : Type 0} (seen : CoreSeen C) (first : World) (before : List PortCall) (core : C) (front : List Link) (link : Link) (back : List Link) (last : ℕ)
    → Serves seen first before (holding core (front ++ link ∷ back) last)
    → (is_closed before link.number ≡ false) × (session_at link.number (after first before).sessions ≡ Some (session_of link))
held-at seen first before core front link back last serves =
    let found : session_at link.number (filter (is_kept before) (after first before).sessions) ≡ Some (session_of link)
    = subst (λ (ss : List Session). session_at link.number ss ≡ Some (session_of link)) serves.sessions (at-here link.number 0 front link back last refl serves.ordered) in
    let kept = found-kept before link.number (session_of link) (after first before).sessions found in
    (kept, sym (at-kept before link.number (after first before).sessions kept) ∙ found)

-- nothing happened
becomes-same : {C : Type 0} (seen : CoreSeen C) (first : World) (before : List PortCall) (m' : Machine) (core : C) (front : List Link) (link new : Link) (back : List Link) (last : ℕ)
    → new.number ≡ link.number → session_of new ≡ session_of link → m' ≡ after first before
    → Serves seen first before (holding core (front ++ link ∷ back) last)
    → Becomes before front new back (after first before) m'
becomes-same seen first before m' core front link new back last e s same serves =
    let at = (held-at seen first before core front link back last serves).1 in
    subst (λ (m : Machine). Becomes before front new back (after first before) m) (sym same)
    (record {
      kept = sym serves.sessions ∙ sessions-same front link new back s;
      others = λ n ne. refl;
      here = subst (λ (n : ℕ). session_at n (after first before).sessions ≡ Some (session_of new)) (sym e) (at ∙ ap Some (sym s));
      open_kept = serves.open_kept;
      out = λ n ne. refl;
      last = refl;
    })

-- the session of the link took part in it
becomes-takes : {C : Type 0} (seen : CoreSeen C) (first : World) (before : List PortCall) (m' : Machine) (taking : Taking) (core : C) (front : List Link) (link new : Link) (back : List Link) (last : ℕ)
    → new.number ≡ link.number → session_of new ≡ taking.session → m' ≡ takes (after first before) taking
    → Serves seen first before (holding core (front ++ link ∷ back) last)
    → Becomes before front new back (after first before) m'
becomes-takes seen first before m' taking core front link new back last e s is serves =
    let at = held-at seen first before core front link back last serves in
    let m = after first before in
    let all : m'.sessions ≡ becomes (session_of new) m.sessions = ap (λ (x : Machine). x.sessions) is ∙ ap (λ (x : Session). becomes x m.sessions) (sym s) in
    let kept : filter (is_kept before) (becomes (session_of new) m.sessions) ≡ map session_of (front ++ new ∷ back)
    = becomes-kept before (session_of new) m.sessions ∙ ap (becomes (session_of new)) (sym serves.sessions) ∙ becomes-here 0 front link new back last e serves.ordered in
    record {
      kept = rw all kept;
      others = λ n ne. rw all (at-other n (session_of new) m.sessions ne);
      here = rw all (at-becomes (session_of new) (session_of link) m.sessions (rw e at.1));
      open_kept = rw all (open_kept-becomes before (session_of new) m.sessions (rw e at.0) serves.open_kept);
      out = λ n ne. ap (λ (x : Machine). x.out n) is ∙ rw (apart n taking.session.number (λ f. ne (ap (λ (x : Session). x.number) s ∙ sym f))) refl;
      last = ap (λ (x : Machine). x.last) is;
    }

-- Before any call.

pub serves_start : {C : Type 0} (seen : CoreSeen C) (core : C) (first : World) → seen.stands core (record { world = first; parts = [] }) → Serves seen first [] (holding core [] 0)
unfolding machine
serves_start seen core first stands = record {
  stands = stands;
  sessions = refl;
  answered = λ n. record { whole = λ h. refl; front = λ h. absurd (cc h) };
  ordered = omega arith;
  latest = refl;
  later_open = λ n above. (refl, refl, refl);
  open_kept = tt;
  open_linked = λ n s at opened. absurd (cc);
}

-- What an event of one link does to the machine.

of-session : (m : Machine) (number : ℕ) (act : Shared → Session → Taking) (s : Session) → session_at number m.sessions ≡ Some s → of_session m number act ≡ takes m (act m.shared s)
of-session m number act s at = ap (λ (found : Option Session). elim found as (λ f. Machine) [ None ↦ m | Some session ↦ takes m (act m.shared session) ]) at

event-takes : (m : Machine) (event : PortEvent) (number : ℕ) (s : Session) → IsOfLink number (Some event) → session_at number m.sessions ≡ Some s
    → take_event m event ≡ takes m (acts (Some event) m.shared s)
event-takes m (Opened who kind) number s its found = absurd its
event-takes m (Piece who piece moment) number s its found =
    let at : session_at who m.sessions ≡ Some s = subst (λ (n : ℕ). session_at n m.sessions ≡ Some s) (sym its) found in of-session m who (hears_piece moment piece) s at
event-takes m (Ended who) number s its found =
    let at : session_at who m.sessions ≡ Some s = subst (λ (n : ℕ). session_at n m.sessions ≡ Some s) (sym its) found in of-session m who leaves s at
event-takes m (Lost who) number s its found =
    let at : session_at who m.sessions ≡ Some s = subst (λ (n : ℕ). session_at n m.sessions ≡ Some s) (sym its) found in of-session m who leaves s at

pub machine-event : (first : World) (event : PortEvent) (older : List PortEvent) → machine first (event ∷ older) ≡ take_event (machine first older) event
unfolding machine
machine-event first event older = refl

pub after-event : (first : World) (before later : List PortCall) (event : PortEvent) (number : ℕ) (s : Session)
    → IsOfLink number (Some event) → events later ≡ event ∷ events before → session_at number (after first before).sessions ≡ Some s
    → after first later ≡ takes (after first before) (acts (Some event) (after first before).shared s)
after-event first before later event number s its are found =
    ap (machine first) are ∙ machine-event first event (events before) ∙ event-takes (after first before) event number s its found

-- What an event does to other sessions than that of its link, and to its own.

lost-other : (n number : ℕ) (event : PortEvent) (older : List PortEvent) → IsOfLink number (Some event) → n ≢ number → is_lost n (event ∷ older) ≡ is_lost n older
lost-other n number (Opened who kind) older its ne = absurd its
lost-other n number (Piece who piece moment) older its ne = refl
lost-other n number (Ended who) older its ne = refl
lost-other n number (Lost who) older its ne = rw (apart who n (λ f. ne (sym f ∙ its))) refl

shuts : (shared : Shared) (s : Session) (opened : Bool) → is_open s.standing ≡ opened
    → (is_open (leaves shared s).session.standing ≡ false) × ((leaves shared s).answers ≡ []) × ((leaves shared s).session.number ≡ s.number)
shuts shared s true o = rw o (refl, refl, refl)
shuts shared s false o = rw o (o, refl, refl)

-- A session that was open isn't lost but by a loss, which answers nothing and leaves it shut.
after-own : (event : PortEvent) (older : List PortEvent) (number : ℕ) (shared : Shared) (s : Session) → is_lost number older ≡ false
    → (is_open (acts (Some event) shared s).session.standing ≡ true → is_lost number (event ∷ older) ≡ false)
    × (is_lost number (event ∷ older) ≡ true → (acts (Some event) shared s).answers ≡ [])
after-own (Opened who kind) older number shared s lives = (λ opened. lives, λ lost. refl)
after-own (Piece who piece moment) older number shared s lives = (λ opened. lives, λ lost. absurd (cc (lost, lives)))
after-own (Ended who) older number shared s lives = (λ opened. lives, λ lost. absurd (cc (lost, lives)))
after-own (Lost who) older number shared s lives =
    let shut = shuts shared s (is_open s.standing) refl in
    (λ opened. let bad : true ≡ false = sym opened ∙ shut.0 in cc, λ lost. shut.1)

-- A link was asked.

adds-here : (n who : ℕ) (answers : List ℕ) (out : ℕ → List ℕ) → n ≡ who → adds who answers out n ≡ out n ++ answers
adds-here n who answers out e = rw (same n who e) refl

heard-answers : (lost : Bool) (sent out queue : List ℕ) → lost ≡ false → queue ≡ [] → Answered lost sent queue out → sent ≡ out
heard-answers lost sent out queue l q a = sym (append-nil sent) ∙ ap (λ (x : List ℕ). sent ++ x) (sym q) ∙ a.whole l

heard-answered : (lost : Bool) (sent queue out answers : List ℕ) → sent ≡ out → queue ≡ answers → (lost ≡ true → answers ≡ []) → Answered lost sent queue (out ++ answers)
heard-answered lost sent queue out answers s q silent = record {
  whole = λ l. rw (s, q) refl;
  front = λ l. (q ∙ silent l, (answers, ap (λ (x : List ℕ). x ++ answers) (sym s)));
}

-- what was sent to a link that is held, and what its queue is
answers-at : {C : Type 0} (seen : CoreSeen C) (first : World) (before : List PortCall) (core : C) (front : List Link) (link : Link) (back : List Link) (last : ℕ)
    → Serves seen first before (holding core (front ++ link ∷ back) last)
    → Answered (is_lost link.number (events before)) (sent before link.number) link.queue.items ((after first before).out link.number)
answers-at seen first before core front link back last serves =
    answered-same (is_lost link.number (events before)) (is_lost link.number (events before)) (sent before link.number) (sent before link.number)
    (queue_of link.number (front ++ link ∷ back)) link.queue.items ((after first before).out link.number) ((after first before).out link.number)
    refl refl (sym (queue-here link.number 0 front link back last refl serves.ordered)) refl
    (serves.answered link.number)

-- the link of an open session isn't lost
linked-at : {C : Type 0} (seen : CoreSeen C) (first : World) (before : List PortCall) (core : C) (front : List Link) (link : Link) (back : List Link) (last : ℕ)
    → Serves seen first before (holding core (front ++ link ∷ back) last) → is_open link.standing ≡ true → is_lost link.number (events before) ≡ false
linked-at seen first before core front link back last serves opened =
    serves.open_linked link.number (session_of link) (held-at seen first before core front link back last serves).1 opened

hearing-event : {C : Type 0} (seen : CoreSeen C) (first : World) (before later : List PortCall) (core core' : C) (front : List Link) (link new : Link) (back : List Link) (last : ℕ) (event : PortEvent)
    → new.number ≡ link.number
    → IsOfLink link.number (Some event) → events later ≡ event ∷ events before
    → ((n : ℕ) → sent later n ≡ sent before n) → ((n : ℕ) → is_closed later n ≡ is_closed before n)
    → link.queue.items ≡ [] → is_open link.standing ≡ true
    → ((shared : Shared) → seen.stands core shared → IsTaking seen core' new (acts (Some event) shared (session_of link)))
    → Serves seen first before (holding core (front ++ link ∷ back) last)
    → Serves seen first later (holding core' (front ++ new ∷ back) last)
hearing-event seen first before later core core' front link new back last event e its are sent_same closed_same empty opened does serves =
    let m = after first before in
    let taking : Taking = acts (Some event) m.shared (session_of link) in
    let done : IsTaking seen core' new taking = does m.shared serves.stands in
    let lives = linked-at seen first before core front link back last serves opened in
    let own = after-own event (events before) link.number m.shared (session_of link) lives in
    let is : after first later ≡ takes m taking
    = after-event first before later event link.number (session_of link) its are (held-at seen first before core front link back last serves).1 in
    let number : link.number ≡ taking.session.number = sym e ∙ ap (λ (s : Session). s.number) done.session in
    let stands : seen.stands core' (after first later).shared = subst (λ (x : Machine). seen.stands core' x.shared) (sym is) done.stands in
    let out : (after first later).out link.number ≡ m.out link.number ++ taking.answers
    = ap (λ (x : Machine). x.out link.number) is ∙ adds-here link.number taking.session.number taking.answers m.out number in
    let was : sent before link.number ≡ m.out link.number
    = heard-answers (is_lost link.number (events before)) (sent before link.number) (m.out link.number) link.queue.items lives empty (answers-at seen first before core front link back last serves) in
    let lost_is : (n : ℕ) → is_lost n (events later) ≡ is_lost n (event ∷ events before) = λ n. ap (is_lost n) are in
    serves-link seen first before later core core' front link new back last e
    (becomes-takes seen first before (after first later) taking core front link new back last e done.session is serves)
    stands closed_same (λ n ne. sent_same n)
    (λ n ne. lost_is n ∙ lost-other n link.number event (events before) its ne)
    (λ opened. lost_is link.number ∙ own.0 (sym (ap (λ (s : Session). is_open s.standing) done.session) ∙ opened))
    (subst (Answered (is_lost link.number (events later)) (sent later link.number) new.queue.items) (sym out)
    (heard-answered (is_lost link.number (events later)) (sent later link.number) new.queue.items (m.out link.number) taking.answers (sent_same link.number ∙ was) done.answers
    (λ lost. own.1 (sym (lost_is link.number) ∙ lost))))
    serves

same-event : {C : Type 0} (seen : CoreSeen C) (first : World) (before later : List PortCall) (core core' : C) (front : List Link) (link new : Link) (back : List Link) (last : ℕ)
    → new.number ≡ link.number → events later ≡ events before
    → ((n : ℕ) → is_closed later n ≡ is_closed before n) → ((n : ℕ) → n ≢ link.number → sent later n ≡ sent before n)
    → core' ≡ core → session_of new ≡ session_of link
    → ((lost : Bool) (out : List ℕ) → Answered lost (sent before link.number) link.queue.items out → Answered lost (sent later link.number) new.queue.items out)
    → Serves seen first before (holding core (front ++ link ∷ back) last)
    → Serves seen first later (holding core' (front ++ new ∷ back) last)
same-event seen first before later core core' front link new back last e are closed_same sent_same c s answers serves =
    let is : after first later ≡ after first before = ap (machine first) are in
    let stands : seen.stands core' (after first later).shared = subst (λ (x : Machine). seen.stands core' x.shared) (sym is) (subst (λ x. seen.stands x (after first before).shared) (sym c) serves.stands) in
    serves-link seen first before later core core' front link new back last e
    (becomes-same seen first before (after first later) core front link new back last e s is serves)
    stands closed_same sent_same
    (λ n ne. ap (is_lost n) are)
    (λ opened. ap (is_lost link.number) are ∙ linked-at seen first before core front link back last serves (sym (ap (λ (x : Session). is_open x.standing) s) ∙ opened))
    (answers (is_lost link.number (events later)) ((after first later).out link.number)
    (subst (λ (x : Machine). Answered (is_lost link.number (events later)) (sent before link.number) link.queue.items (x.out link.number)) (sym is)
    (subst (λ (es : List PortEvent). Answered (is_lost link.number es) (sent before link.number) link.queue.items ((after first before).out link.number)) (sym are)
    (answers-at seen first before core front link back last serves))))
    serves

hearing-at : {C : Type 0} (seen : CoreSeen C) (first : World) (before later : List PortCall) (core core' : C) (front : List Link) (link new : Link) (back : List Link) (last : ℕ) (event : Option PortEvent)
    → (hears : Hears seen core link core' new before later) → hears.event ≡ event → new.number ≡ link.number
    → Serves seen first before (holding core (front ++ link ∷ back) last)
    → Serves seen first later (holding core' (front ++ new ∷ back) last)
hearing-at seen first before later core core' front link new back last None hears is e serves =
    let nothing = hears.same is in
    same-event seen first before later core core' front link new back last e
    (hears.events_are ∙ ap (λ (x : Option PortEvent). and_event x (events before)) is)
    hears.closed_same (λ n ne. hears.sent_same n) nothing.0 nothing.1
    (λ lost out a. answered-same lost lost (sent before link.number) (sent later link.number) link.queue.items new.queue.items out out
    refl (hears.sent_same link.number) nothing.2 refl a)
    serves
hearing-at seen first before later core core' front link new back last (Some event) hears is e serves =
    let happens : hears.event ≢ None = λ f. cc in
    hearing-event seen first before later core core' front link new back last event e
    (subst (IsOfLink link.number) is hears.its) (hears.events_are ∙ ap (λ (x : Option PortEvent). and_event x (events before)) is)
    hears.sent_same hears.closed_same (hears.idle happens) (hears.was_open happens)
    (λ shared stands. subst (λ (x : Option PortEvent). IsTaking seen core' new (acts x shared (session_of link))) is (hears.does happens shared stands))
    serves

-- A link was offered its queue.

offered-lost : (lost : Bool) (sent sent' queue queue' out : List ℕ) → sent' ≡ sent → queue' ≡ [] → Answered lost sent queue out → Answered true sent' queue' (out ++ [])
offered-lost true sent sent' queue queue' out s q a = record {
  whole = λ l. absurd (cc l);
  front = λ l. (q, ((a.front refl).1.0, append-nil out ∙ (a.front refl).1.1 ∙ ap (λ (x : List ℕ). x ++ (a.front refl).1.0) (sym s)));
}
offered-lost false sent sent' queue queue' out s q a = record {
  whole = λ l. absurd (cc l);
  front = λ l. (q, (queue, append-nil out ∙ sym (a.whole refl) ∙ ap (λ (x : List ℕ). x ++ queue) (sym s)));
}

offered-some : (lost : Bool) (sent sent' queue queue' out : List ℕ) → sent' ++ queue' ≡ sent ++ queue → (queue ≡ [] → (queue' ≡ []) × (sent' ≡ sent))
    → Answered lost sent queue out → Answered lost sent' queue' out
offered-some lost sent sent' queue queue' out whole idle a = record {
  whole = λ l. whole ∙ a.whole l;
  front = λ l. let same = idle (a.front l).0 in
      (same.0, ((a.front l).1.0, (a.front l).1.1 ∙ ap (λ (x : List ℕ). x ++ (a.front l).1.0) (sym same.1)));
}

offered-loss : {C : Type 0} (seen : CoreSeen C) (first : World) (before later : List PortCall) (core core' : C) (front : List Link) (link new : Link) (back : List Link) (last : ℕ) (event : PortEvent)
    → new.number ≡ link.number
    → IsLossOf link.number (Some event) → events later ≡ event ∷ events before
    → ((n : ℕ) → n ≢ link.number → sent later n ≡ sent before n) → ((n : ℕ) → is_closed later n ≡ is_closed before n)
    → new.queue.items ≡ [] → sent later link.number ≡ sent before link.number
    → ((shared : Shared) → seen.stands core shared → (seen.stands core' (acts (Some event) shared (session_of link)).shared) × (session_of new ≡ (acts (Some event) shared (session_of link)).session))
    → Serves seen first before (holding core (front ++ link ∷ back) last)
    → Serves seen first later (holding core' (front ++ new ∷ back) last)
offered-loss seen first before later core core' front link new back last (Opened who kind) e its are sent_same closed_same empty sent_here does serves = absurd its
offered-loss seen first before later core core' front link new back last (Piece who piece moment) e its are sent_same closed_same empty sent_here does serves = absurd its
offered-loss seen first before later core core' front link new back last (Ended who) e its are sent_same closed_same empty sent_here does serves = absurd its
offered-loss seen first before later core core' front link new back last (Lost who) e its are sent_same closed_same empty sent_here does serves =
    let m = after first before in
    let taking : Taking = acts (Some (Lost who)) m.shared (session_of link) in
    let shut = shuts m.shared (session_of link) (is_open link.standing) refl in
    let done = does m.shared serves.stands in
    let is : after first later ≡ takes m taking
    = after-event first before later (Lost who) link.number (session_of link) its are (held-at seen first before core front link back last serves).1 in
    let stands : seen.stands core' (after first later).shared = subst (λ (x : Machine). seen.stands core' x.shared) (sym is) done.0 in
    let out : (after first later).out link.number ≡ m.out link.number ++ []
    = ap (λ (x : Machine). x.out link.number) is ∙ adds-here link.number taking.session.number taking.answers m.out (sym shut.2) ∙ ap (λ (x : List ℕ). m.out link.number ++ x) shut.1 in
    let itself : is_loss link.number (Lost who) ≡ true = same who link.number its in
    let lost : is_lost link.number (events later) ≡ true = ap (is_lost link.number) are ∙ rw itself refl in
    serves-link seen first before later core core' front link new back last e
    (becomes-takes seen first before (after first later) taking core front link new back last e done.1 is serves)
    stands closed_same sent_same
    (λ n ne. ap (is_lost n) are ∙ lost-other n link.number (Lost who) (events before) its ne)
    (λ opened. let bad : true ≡ false = sym opened ∙ ap (λ (s : Session). is_open s.standing) done.1 ∙ shut.0 in cc)
    (subst (Answered (is_lost link.number (events later)) (sent later link.number) new.queue.items) (sym out)
    (subst (λ (b : Bool). Answered b (sent later link.number) new.queue.items (m.out link.number ++ [])) (sym lost)
    (offered-lost (is_lost link.number (events before)) (sent before link.number) (sent later link.number) link.queue.items new.queue.items (m.out link.number) sent_here empty
    (answers-at seen first before core front link back last serves))))
    serves

offering-at : {C : Type 0} (seen : CoreSeen C) (first : World) (before later : List PortCall) (core core' : C) (front : List Link) (link new : Link) (back : List Link) (last : ℕ) (event : Option PortEvent)
    → (offered : Offered seen core link core' new before later) → offered.event ≡ event → new.number ≡ link.number
    → Serves seen first before (holding core (front ++ link ∷ back) last)
    → Serves seen first later (holding core' (front ++ new ∷ back) last)
offering-at seen first before later core core' front link new back last None offered is e serves =
    let nothing = offered.same is in
    same-event seen first before later core core' front link new back last e
    (offered.events_are ∙ ap (λ (x : Option PortEvent). and_event x (events before)) is)
    offered.closed_same offered.sent_same nothing.0 nothing.1
    (λ lost out a. offered-some lost (sent before link.number) (sent later link.number) link.queue.items new.queue.items out (offered.whole is) offered.idle a)
    serves
offering-at seen first before later core core' front link new back last (Some event) offered is e serves =
    let happens : offered.event ≢ None = λ f. cc in
    let dropped = offered.dropped happens in
    offered-loss seen first before later core core' front link new back last event e
    (subst (IsLossOf link.number) is offered.its) (offered.events_are ∙ ap (λ (x : Option PortEvent). and_event x (events before)) is)
    offered.sent_same offered.closed_same dropped.0 dropped.1
    (λ shared stands. subst (λ (x : Option PortEvent). (seen.stands core' (acts x shared (session_of link)).shared) × (session_of new ≡ (acts x shared (session_of link)).session)) is (offered.no_answer shared stands))
    serves

-- A link that isn't open and has nothing to send is closed.

closing-at : {C : Type 0} (seen : CoreSeen C) (first : World) (history : List PortCall) (core : C) (front : List Link) (link : Link) (back : List Link) (last : ℕ)
    → is_open link.standing ≡ false → link.queue.items ≡ []
    → Serves seen first history (holding core (front ++ link ∷ back) last)
    → Serves seen first (Close link.number ∷ history) (holding core (front ++ back) last)
closing-at seen first history core front link back last shut empty serves =
    let m = after first history in
    let within : link.number ≤ last = ascending-within link.number back last (ascending-here 0 front link back last serves.ordered).1 in
    record {
      stands = serves.stands;
      sessions = sym (kept-closing link.number history m.sessions ∙ ap (filter (λ session. not (link.number == session.number))) (sym serves.sessions) ∙ without-here 0 front link back last serves.ordered);
      answered = λ n. cases link.number n
          (λ e. subst (λ (k : ℕ). Answered (is_lost k (events history)) (sent history k) (queue_of k (front ++ back)) (m.out k)) e
          (answered-same (is_lost link.number (events history)) (is_lost link.number (events history)) (sent history link.number) (sent history link.number)
          (queue_of link.number (front ++ link ∷ back)) (queue_of link.number (front ++ back)) (m.out link.number) (m.out link.number)
          refl refl (queue-gone 0 front link back last serves.ordered ∙ sym (queue-here link.number 0 front link back last refl serves.ordered ∙ empty)) refl (serves.answered link.number)))
          (λ ne. answered-same (is_lost n (events history)) (is_lost n (events history)) (sent history n) (sent history n)
          (queue_of n (front ++ link ∷ back)) (queue_of n (front ++ back)) (m.out n) (m.out n)
          refl refl (queue-without n front link back ne) refl (serves.answered n));
      ordered = ascending-without 0 front link back last serves.ordered;
      latest = serves.latest;
      later_open = λ n above.
          (rw (apart link.number n (omega (arith, within, above))) (serves.later_open n above).0, (serves.later_open n above).1, (serves.later_open n above).2);
      open_kept = open_kept-closing history 0 front link back last m.sessions serves.ordered shut (held-at seen first history core front link back last serves).0 serves.sessions serves.open_kept;
      open_linked = serves.open_linked;
    }

-- A link of a new session stands behind the others.

opening-at : {C : Type 0} (seen : CoreSeen C) (first : World) (history : List PortCall) (core core' : C) (links : List Link) (link : Link) (last number : ℕ) (kind : Kind) (greeted : Stepped)
    → IsGreeted seen core' link (after first history).shared number greeted
    → after first (Accept number (Ok (Some kind)) ∷ history) ≡ opens (after first history) number greeted
    → number ≡ last + 1
    → Serves seen first history (holding core links last)
    → Serves seen first (Accept number (Ok (Some kind)) ∷ history) (holding core' (links ++ link ∷ []) number)
opening-at seen first history core core' links link last number kind greeted done is follows serves =
    let later : List PortCall = Accept number (Ok (Some kind)) ∷ history in
    let m = after first history in
    let m' = after first later in
    let numbered : link.number ≡ number = ap (λ (s : Session). s.number) done.session in
    let all : m'.sessions ≡ m.sessions ++ session_of link ∷ [] = ap (λ (x : Machine). x.sessions) is ∙ ap (λ (s : Session). m.sessions ++ s ∷ []) (sym done.session) in
    let above : last < link.number = omega (arith, numbered, follows) in
    let unseen = serves.later_open link.number above in
    let kept_new : filter (is_kept history) (session_of link ∷ []) ≡ session_of link ∷ [] = rw unseen.0 refl in
    let ordered : Ascending 0 (links ++ link ∷ []) link.number = ascending-more 0 links link last serves.ordered above in
    let was : sent history link.number ≡ m.out link.number
    = heard-answers (is_lost link.number (events history)) (sent history link.number) (m.out link.number) (queue_of link.number links) unseen.2
    (queue-past link.number 0 links last above serves.ordered) (serves.answered link.number) in
    let out : m'.out link.number ≡ m.out link.number ++ greeted.answer
    = ap (λ (x : Machine). x.out link.number) is ∙ adds-here link.number number greeted.answer m.out numbered in
    record {
      stands = subst (λ (x : Machine). seen.stands core' x.shared) (sym is) done.stands;
      sessions = map-append session_of links (link ∷ []) ∙ ap (λ (ss : List Session). ss ++ session_of link ∷ []) serves.sessions
          ∙ sym (ap (filter (is_kept history)) all ∙ filter-append (is_kept history) m.sessions (session_of link ∷ []) ∙ ap (λ (ss : List Session). filter (is_kept history) m.sessions ++ ss) kept_new);
      answered = λ n. cases link.number n
          (λ e. subst (λ (k : ℕ). Answered (is_lost k (events history)) (sent history k) (queue_of k (links ++ link ∷ [])) (m'.out k)) e
          (answered-same (is_lost link.number (events history)) (is_lost link.number (events history)) (sent history link.number) (sent history link.number)
          link.queue.items (queue_of link.number (links ++ link ∷ [])) (m.out link.number ++ greeted.answer) (m'.out link.number)
          refl refl (queue-here link.number 0 links link [] link.number refl ordered) out
          (heard-answered (is_lost link.number (events history)) (sent history link.number) link.queue.items (m.out link.number) greeted.answer was done.answer (λ lost. absurd (cc (lost, unseen.2))))))
          (λ ne. answered-same (is_lost n (events history)) (is_lost n (events history)) (sent history n) (sent history n)
          (queue_of n links) (queue_of n (links ++ link ∷ [])) (m.out n) (m'.out n)
          refl refl (queue-more n links link ne)
          (ap (λ (x : Machine). x.out n) is ∙ rw (apart n number (λ f. ne (numbered ∙ sym f))) refl) (serves.answered n));
      ordered = subst (Ascending 0 (links ++ link ∷ [])) numbered ordered;
      latest = sym (ap (λ (x : Machine). x.last) is);
      later_open = λ n beyond.
          let earlier = serves.later_open n (omega (arith, follows, beyond)) in
          (earlier.0, ap (session_at n) all ∙ at-more-other n m.sessions (session_of link) (omega (arith, numbered, beyond)) ∙ earlier.1, earlier.2);
      open_kept = open_kept-same history later m'.sessions (λ n. refl) (subst (OpenAreKept history) (sym all) (open_kept-more history m.sessions (session_of link) unseen.0 serves.open_kept));
      open_linked = λ n s at opened. cases link.number n
          (λ e. subst (λ (k : ℕ). is_lost k (events history) ≡ false) e unseen.2)
          (λ ne. serves.open_linked n s (sym (ap (session_at n) all ∙ at-more-other n m.sessions (session_of link) ne) ∙ at) opened);
    }

greeted-session : (link : Link) (number : ℕ) (closes : Bool) (next : Awaits) (greeted : Stepped) → link.number ≡ number → link.standing ≡ standing_after closes
    → link.reader ≡ begun next → closes ≡ greeted.closes → next ≡ greeted.next
    → session_of link ≡ record { number = number; standing = standing_after greeted.closes; awaited = begun greeted.next }
greeted-session link number closes next greeted n s l c f =
    λ i. record { number = n i; standing = (s ∙ ap standing_after c) i; awaited = (l ∙ ap begun f) i }

pub keeps_opening : {C : Type 0} (seen : CoreSeen C) (first : World) (history : List PortCall) (held later : Held C) (number : ℕ) (kind : Kind)
    → Opens seen held later number kind → number ≡ held.last + 1
    → Serves seen first history held → Serves seen first (Accept number (Ok (Some kind)) ∷ history) later
keeps_opening seen first history held later number kind opens follows serves =
    let m = after first history in
    let others : at_once (map session_of held.links) ≡ at_once m.sessions = ap at_once serves.sessions ∙ at_once-kept history m.sessions serves.open_kept in
    let done : IsGreeted seen later.core opens.link m.shared number (greeting m.shared number kind (at_once m.sessions))
    = subst (λ (n : ℕ). IsGreeted seen later.core opens.link m.shared number (greeting m.shared number kind n)) others (opens.greeted m.shared serves.stands) in
    subst (λ (xs : List Link). Serves seen first (Accept number (Ok (Some kind)) ∷ history) (holding later.core xs later.last)) (sym opens.links)
    (subst (λ (n : ℕ). Serves seen first (Accept number (Ok (Some kind)) ∷ history) (holding later.core (held.links ++ opens.link ∷ []) n)) (sym opens.last)
    (opening-at seen first history held.core later.core held.links opens.link held.last number kind (greeting m.shared number kind (at_once m.sessions)) done
    (machine-event first (Opened number kind) (events history)) follows serves))

-- what a greeting leaves, as the server has it
pub opening-is : {C : Type 0} (seen : CoreSeen C) (core mid core' : C) (links links' : List Link) (link : Link) (last number : ℕ) (kind : Kind) (others : ℕ) (none : List ℕ) (closes : Bool) (next : Awaits)
    → links' ≡ links ++ link ∷ [] → others ≡ count_by (λ link. is_open link.standing) links → none ≡ []
    → link.number ≡ number → link.standing ≡ standing_after closes → link.reader ≡ begun next
    → ((shared : Shared) → seen.stands core shared → IsStep seen mid none link.queue.items closes next shared (greeting shared number kind others))
    → ((shared : Shared) (stepped : Stepped) → closes ≡ stepped.closes → seen.stands mid (stepped_to shared stepped) → seen.stands core' (after_step shared number stepped))
    → Opens seen (holding core links last) (holding core' links' number) number kind
opening-is seen core mid core' links links' link last number kind others none closes next are count nothing numbered stands awaits done settled = record {
  link = link;
  links = are;
  last = refl;
  greeted = λ shared is_shared.
      subst (λ (n : ℕ). IsGreeted seen core' link shared number (greeting shared number kind n)) (count ∙ sym (at_once-links links))
      (let step : IsStep seen mid none link.queue.items closes next shared (greeting shared number kind others) = done shared is_shared in
      record {
        stands = settled shared (greeting shared number kind others) step.closing step.stands;
        session = greeted-session link number closes next (greeting shared number kind others) numbered stands awaits step.closing step.awaits;
        answer = step.answer ∙ ap (λ (x : List ℕ). x ++ (greeting shared number kind others).answer) nothing;
      });
}

-- no link came
pub keeps_waiting : {C : Type 0} (seen : CoreSeen C) (first : World) (history : List PortCall) (held : Held C) (number : ℕ) → Serves seen first history held → Serves seen first (Accept number (Ok None) ∷ history) held
keeps_waiting seen first history held number serves = record {
  stands = serves.stands;
  sessions = serves.sessions;
  answered = serves.answered;
  ordered = serves.ordered;
  latest = serves.latest;
  later_open = serves.later_open;
  open_kept = open_kept-same history (Accept number (Ok None) ∷ history) (after first history).sessions (λ n. refl) serves.open_kept;
  open_linked = serves.open_linked;
}

-- Where the links are given by a place.

placed : (P : List Link → List Link → Type 0) (links : List Link) (i : ℕ) (link new : Link) → slice_get links i ≡ Some link
    → P (take i links ++ link ∷ drop (suc i) links) (take i links ++ new ∷ drop (suc i) links) → P links (set links i new)
placed P links i link new at h =
    subst (λ (xs : List Link). P xs (set links i new)) (sym (split-at links i link at))
    (subst (λ (xs : List Link). P (take i links ++ link ∷ drop (suc i) links) xs) (sym (set-at links i link new at)) h)

pub keeps_hearing : {C : Type 0} (seen : CoreSeen C) (first : World) (before later : List PortCall) (core core' : C) (links : List Link) (i : ℕ) (link new : Link) (last : ℕ)
    → slice_get links i ≡ Some link → Hears seen core link core' new before later → new.number ≡ link.number
    → Serves seen first before (holding core links last) → Serves seen first later (holding core' (set links i new) last)
keeps_hearing seen first before later core core' links i link new last at hears e =
    placed (λ xs ys. Serves seen first before (holding core xs last) → Serves seen first later (holding core' ys last)) links i link new at
    (hearing-at seen first before later core core' (take i links) link new (drop (suc i) links) last hears.event hears refl e)

pub keeps_offering : {C : Type 0} (seen : CoreSeen C) (first : World) (before later : List PortCall) (core core' : C) (links : List Link) (i : ℕ) (link new : Link) (last : ℕ)
    → slice_get links i ≡ Some link → Offered seen core link core' new before later → new.number ≡ link.number
    → Serves seen first before (holding core links last) → Serves seen first later (holding core' (set links i new) last)
keeps_offering seen first before later core core' links i link new last at offered e =
    placed (λ xs ys. Serves seen first before (holding core xs last) → Serves seen first later (holding core' ys last)) links i link new at
    (offering-at seen first before later core core' (take i links) link new (drop (suc i) links) last offered.event offered refl e)

pub keeps_closing : {C : Type 0} (seen : CoreSeen C) (first : World) (history : List PortCall) (core : C) (links : List Link) (i : ℕ) (link : Link) (last : ℕ)
    → slice_get links i ≡ Some link → is_open link.standing ≡ false → link.queue.items ≡ []
    → Serves seen first history (holding core links last) → Serves seen first (Close link.number ∷ history) (holding core (remove links i) last)
keeps_closing seen first history core links i link last at shut empty serves =
    closing-at seen first history core (take i links) link (drop (suc i) links) last shut empty
    (subst (λ (xs : List Link). Serves seen first history (holding core xs last)) (split-at links i link at) serves)
