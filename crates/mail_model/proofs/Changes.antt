-- The changes of a machine stand by their answers, and make its world. Nothing here looks at what a change is.
use Rattle.std.proofs.Common.{ℕ, ◌≡◌, ◌==◌, ◌+◌, ◌≤◌, ◌-◌, Bool, true, false, List, [], ◌∷◌, ◌++◌, Option, Some, None, cond, refl, ap, sym, ◌∙◌, subst, arith, append_assoc, append-nil, length, length-append, length-drop, map, take, drop}
use Rattle.std.proofs.lemmas.List.{take-append-le, drop-append-le, take_all, drop_at}
use Rattle.std.proofs.lemmas.Bool.Decides.{nat_tests}
use Rattle.port_model.specs.History.{PortEvent, Opened, Piece, Ended, Lost}
use Rattle.session_units.specs.Awaited.{awaits_of}
use Rattle.session_units.specs.Units.{Cut, first}
use Rattle.mail_model.specs.declared.standing.Standing.TheVariants.{Closing}
use Rattle.imap_steps.specs.Stepping.{World, Change, Shared, Stepped, applied, changed, after_step, stepped_to, left_by}
use Rattle.imap_steps.specs.Step.{step, greeting}
use Rattle.mail_model.specs.Machine.{Machine, Made, Session, Taking, is_open, and_change, behind, adds, awaits_more, after_unit, take_unit, take_byte, take_piece, taking_of, leaves, takes, opens, session_at, hears_piece, at_once, take_event, machine}
use Rattle.mail_model.specs.Changes.{folded, Told, told, and_told, unit_tells, byte_tells, piece_tells, event_tells, tells, AllWithin, Records}
use Rattle.mail_model.proofs.Growing.{Grows}

pub itself : (number : ℕ) → (number == number) ≡ true
itself number = grind (arith, nat_tests)

-- Ranges of answers that grow

longer : (old new : List ℕ) → Grows old new → (n : ℕ) → n ≤ length old → n ≤ length new
longer old new g n le = let e : length new ≡ length old + length g.0 = ap length g.1 ∙ length-append old g.0 in omega arith

same_range : (old new : List ℕ) → Grows old new → (from count : ℕ) → from + count ≤ length old → take count (drop from new) ≡ take count (drop from old)
same_range old new g from count le =
    let left : length (drop from old) ≡ length old - from = length-drop from old in
    ap (λ (xs : List ℕ). take count (drop from xs)) g.1 ∙ ap (take count) (drop-append-le from old g.0 (omega arith)) ∙ take-append-le count (drop from old) g.0 (omega arith)

last_range : (front answer : List ℕ) → take (length answer) (drop (length front) (front ++ answer)) ≡ answer
last_range front answer = ap (take (length answer)) (drop_at front answer (length front) refl) ∙ take_all (length answer) answer (omega arith)

within-grown : (old new : ℕ → List ℕ) → ((number : ℕ) → Grows (old number) (new number)) → (changes : List Made) → AllWithin old changes → AllWithin new changes
within-grown old new g [] h = tt
within-grown old new g (made ∷ older) h = (longer (old made.number) (new made.number) (g made.number) (made.from + made.count) h.0, within-grown old new g older h.1)

told-grown : (old new : ℕ → List ℕ) → ((number : ℕ) → Grows (old number) (new number)) → (changes : List Made) → AllWithin old changes → map (told new) changes ≡ map (told old) changes
told-grown old new g [] h = refl
told-grown old new g (made ∷ older) h =
    ap (λ (answer : List ℕ). record { change = made.change; number = made.number; answer = answer } ∷ map (told new) older)
    (same_range (old made.number) (new made.number) (g made.number) made.from made.count h.0)
    ∙ ap (λ (rest : List Told). told old made ∷ rest) (told-grown old new g older h.1)

-- A machine that answered more, and changed nothing
more-records : (world : World) (old new : Machine) (older : List Told) → ((number : ℕ) → Grows (old.out number) (new.out number)) → new.changes ≡ old.changes → new.shared.world ≡ old.shared.world
    → Records world old older → Records world new older
more-records world old new older g c w r = record {
  within = subst (AllWithin new.out) (sym c) (within-grown old.out new.out g old.changes r.within);
  answers = ap (map (told new.out)) c ∙ told-grown old.out new.out g old.changes r.within ∙ r.answers;
  changed = w ∙ r.changed ∙ ap (folded world) (sym c);
}

-- A step's change on top of others
noted-within : (change : Option Change) (number : ℕ) (front answer : List ℕ) (out : ℕ → List ℕ) (changes : List Made) → out number ≡ front ++ answer → AllWithin out changes
    → AllWithin out (and_change change number (length front) (length answer) changes)
noted-within None number front answer out changes e h = h
noted-within (Some change) number front answer out changes e h =
    let size : length (out number) ≡ length front + length answer = ap length e ∙ length-append front answer in (omega arith, h)

noted-told : (number : ℕ) (stepped : Stepped) (change : Option Change) (front : List ℕ) (out : ℕ → List ℕ) (changes : List Made) (older : List Told) → out number ≡ front ++ stepped.answer
    → map (told out) changes ≡ older
    → map (told out) (and_change change number (length front) (length stepped.answer) changes) ≡ and_told number (record stepped { change = change }) older
noted-told number stepped None front out changes older e h = h
noted-told number stepped (Some change) front out changes older e h =
    ap (λ (answer : List ℕ). record { change = change; number = number; answer = answer } ∷ map (told out) changes)
    (ap (λ (xs : List ℕ). take (length stepped.answer) (drop (length front) xs)) e ∙ last_range front stepped.answer)
    ∙ ap (λ (rest : List Told). record { change = change; number = number; answer = stepped.answer } ∷ rest) h

noted-world : (world now : World) (change : Option Change) (number from count : ℕ) (changes : List Made) → now ≡ folded world changes
    → changed now change ≡ folded world (and_change change number from count changes)
noted-world world now None number from count changes e = e
noted-world world now (Some change) number from count changes e = ap (λ (w : World). applied w change) e

pub after_step-world : (shared : Shared) (number : ℕ) (stepped : Stepped) → (after_step shared number stepped).world ≡ changed shared.world stepped.change
unfolding left_by
after_step-world shared number stepped =
    elim stepped.closes as (λ (b : Bool). (cond b (left_by (stepped_to shared stepped) number) (stepped_to shared stepped)).world ≡ changed shared.world stepped.change) [ true ↦ refl | false ↦ refl ]

-- a machine whose answers grew by those of a step, and that noted its change
noted-records : (world : World) (old new : Machine) (number : ℕ) (stepped : Stepped) (front : List ℕ) (older : List Told)
    → ((who : ℕ) → Grows (old.out who) (new.out who)) → new.out number ≡ front ++ stepped.answer
    → new.changes ≡ and_change stepped.change number (length front) (length stepped.answer) old.changes → new.shared.world ≡ changed old.shared.world stepped.change
    → Records world old older → Records world new (and_told number stepped older)
noted-records world old new number stepped front older g o c w r = record {
  within = subst (AllWithin new.out) (sym c) (noted-within stepped.change number front stepped.answer new.out old.changes o (within-grown old.out new.out g old.changes r.within));
  answers = ap (map (told new.out)) c
      ∙ noted-told number stepped stepped.change front new.out old.changes older o (told-grown old.out new.out g old.changes r.within ∙ r.answers);
  changed = w ∙ noted-world world old.shared.world stepped.change number (length front) (length stepped.answer) old.changes r.changed ∙ ap (folded world) (sym c);
}

-- What a session takes

adds-more : (same : Bool) (old front more : List ℕ) → Grows (cond same (old ++ front) old) (cond same (old ++ (front ++ more)) old)
adds-more true old front more = (more, sym (append_assoc old front more))
adds-more false old front more = ([], sym (append-nil old))

adds-any : (same : Bool) (old more : List ℕ) → Grows old (cond same (old ++ more) old)
adds-any true old more = (more, refl)
adds-any false old more = ([], sym (append-nil old))

adds-own : (number : ℕ) (answers : List ℕ) (out : ℕ → List ℕ) → adds number answers out number ≡ out number ++ answers
adds-own number answers out = ap (λ (b : Bool). cond b (out number ++ answers) (out number)) (itself number)

pub shifted : (change : Option Change) (number shift from count : ℕ) (changes older : List Made)
    → map (behind shift) (and_change change number from count changes) ++ older ≡ and_change change number (shift + from) count (map (behind shift) changes ++ older)
shifted None number shift from count changes older = refl
shifted (Some change) number shift from count changes older = refl

pub unit-records : (world : World) (before : Machine) (taking : Taking) (stepped : Stepped) (older : List Told) → Records world (takes before taking) older
    → Records world (takes before (after_unit taking stepped)) (and_told taking.session.number stepped older)
unit-records world before taking stepped older r =
    let number = taking.session.number in
    let own = before.out number in
    noted-records world (takes before taking) (takes before (after_unit taking stepped)) number stepped (own ++ taking.answers) older
    (λ who. adds-more (who == number) (before.out who) taking.answers stepped.answer)
    (adds-own number (taking.answers ++ stepped.answer) before.out ∙ sym (append_assoc own taking.answers stepped.answer))
    (shifted stepped.change number (length own) (length taking.answers) (length stepped.answer) taking.changes before.changes
    ∙ ap (λ (from : ℕ). and_change stepped.change number from (length stepped.answer) (map (behind (length own)) taking.changes ++ before.changes)) (sym (length-append own taking.answers)))
    (after_step-world taking.shared number stepped)
    r

pub greeted-records : (world : World) (before : Machine) (number : ℕ) (greeted : Stepped) (older : List Told) → Records world before older
    → Records world (opens before number greeted) (and_told number greeted older)
greeted-records world before number greeted older r =
    noted-records world before (opens before number greeted) number greeted (before.out number) older
    (λ who. adds-any (who == number) (before.out who) greeted.answer)
    (adds-own number greeted.answer before.out) refl (after_step-world before.shared number greeted) r

more_answers : (prompted : Bool) (front more : List ℕ) → Grows front (cond prompted (front ++ more) front)
more_answers true front more = (more, refl)
more_answers false front more = ([], sym (append-nil front))

adds-grown : (same : Bool) (old front new : List ℕ) → Grows front new → Grows (cond same (old ++ front) old) (cond same (old ++ new) old)
adds-grown true old front new g = (g.0, ap (λ (xs : List ℕ). old ++ xs) g.1 ∙ sym (append_assoc old front g.0))
adds-grown false old front new g = ([], sym (append-nil old))

awaits-records : (world : World) (before : Machine) (taking : Taking) (byte : ℕ) (older : List Told) → Records world (takes before taking) older
    → Records world (takes before (awaits_more taking byte)) older
awaits-records world before taking byte older r =
    more-records world (takes before taking) (takes before (awaits_more taking byte)) older
    (λ who. adds-grown (who == taking.session.number) (before.out who) taking.answers (awaits_more taking byte).answers (more_answers _ taking.answers _)) refl refl r

byte-records : (world : World) (before : Machine) (moment : ℕ) (taking : Taking) (byte : ℕ) (older : List Told) → Records world (takes before taking) older
    → Records world (takes before (take_byte moment taking byte)) (byte_tells moment taking byte older)
unfolding take_byte
byte-records world before moment taking byte older r = by (is_open taking.session.standing) (first taking.session.awaited (byte ∷ []))
  where
    by : (is_served : Bool) (found : Option Cut)
        → Records world
        (takes before (cond is_served (elim found as (λ (f : Option Cut). Taking) [ None ↦ awaits_more taking byte | Some cut ↦ take_unit moment taking cut ]) taking))
        (cond is_served (elim found as (λ (f : Option Cut). List Told) [ None ↦ older | Some cut ↦ unit_tells moment taking cut older ]) older)
    by true None = awaits-records world before taking byte older r
    by true (Some cut) = unit-records world before taking (step taking.shared taking.session.number (awaits_of taking.session.awaited) cut.shows cut.unit moment) older r
    by false found = r

piece-records : (world : World) (before : Machine) (moment : ℕ) (taking : Taking) (piece : List ℕ) (older : List Told) → Records world (takes before taking) older
    → Records world (takes before (take_piece moment taking piece)) (piece_tells moment taking piece older)
piece-records world before moment taking [] older r = r
piece-records world before moment taking (byte ∷ piece) older r =
    piece-records world before moment (take_byte moment taking byte) piece (byte_tells moment taking byte older) (byte-records world before moment taking byte older r)

-- a session that leaves changes nothing
pub leaves-nothing : (shared : Shared) (session : Session) → ((leaves shared session).shared.world ≡ shared.world) × ((leaves shared session).changes ≡ [])
unfolding left_by
leaves-nothing shared session = by (is_open session.standing)
  where
    leaving : Bool → Taking
    leaving is_served =
        cond is_served (record { shared = left_by shared session.number; session = record session { standing = Closing }; answers = []; changes = [] }) (taking_of shared session)

    by : (is_served : Bool) → ((leaving is_served).shared.world ≡ shared.world) × ((leaving is_served).changes ≡ [])
    by true = (refl, refl)
    by false = (refl, refl)

-- a session that took nothing yet
begun-records : (world : World) (before : Machine) (session : Session) (older : List Told) → Records world before older → Records world (takes before (taking_of before.shared session)) older
begun-records world before session older r =
    more-records world before (takes before (taking_of before.shared session)) older (λ who. adds-any (who == session.number) (before.out who) []) refl refl r

left-records : (world : World) (before : Machine) (session : Session) (older : List Told) → Records world before older → Records world (takes before (leaves before.shared session)) older
unfolding left_by
left-records world before session older r = by (is_open session.standing)
  where
    by : (is_served : Bool) → Records world
        (takes before (cond is_served (record { shared = left_by before.shared session.number; session = record session { standing = Closing }; answers = []; changes = [] }) (taking_of before.shared session))) older
    by true = more-records world before _ older (λ who. adds-any (who == session.number) (before.out who) []) refl refl r
    by false = begun-records world before session older r

-- the machine

of-records : (world : World) (before : Machine) (older : List Told) (act : Shared → Session → Taking) (told_then : Session → List Told)
    → ((session : Session) → Records world (takes before (act before.shared session)) (told_then session)) → Records world before older → (found : Option Session)
    → Records world (elim found as (λ (f : Option Session). Machine) [ None ↦ before | Some session ↦ takes before (act before.shared session) ])
    (elim found as (λ (f : Option Session). List Told) [ None ↦ older | Some session ↦ told_then session ])
of-records world before older act told_then acted r None = r
of-records world before older act told_then acted r (Some session) = acted session

left-event : (world : World) (before : Machine) (number : ℕ) (older : List Told) → Records world before older → (found : Option Session)
    → Records world (elim found as (λ (f : Option Session). Machine) [ None ↦ before | Some session ↦ takes before (leaves before.shared session) ]) older
left-event world before number older r None = r
left-event world before number older r (Some session) = left-records world before session older r

event-records : (world : World) (before : Machine) (event : PortEvent) (older : List Told) → Records world before older
    → Records world (take_event before event) (event_tells before event older)
event-records world before (Opened number kind) older r = greeted-records world before number (greeting before.shared number kind (at_once before.sessions)) older r
event-records world before (Piece number piece moment) older r =
    of-records world before older (hears_piece moment piece) (λ session. piece_tells moment (taking_of before.shared session) piece older)
    (λ session. piece-records world before moment (taking_of before.shared session) piece older (begun-records world before session older r)) r (session_at number before.sessions)
event-records world before (Ended number) older r = left-event world before number older r (session_at number before.sessions)
event-records world before (Lost number) older r = left-event world before number older r (session_at number before.sessions)

pub machine-records : (world : World) (events : List PortEvent) → Records world (machine world events) (tells world events)
unfolding machine tells
machine-records world [] = record { within = tt; answers = refl; changed = refl }
machine-records world (event ∷ older) = event-records world (machine world older) event (tells world older) (machine-records world older)
