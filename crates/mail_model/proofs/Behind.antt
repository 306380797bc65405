-- The changes of later events stand on top, and their answers behind all that was answered before. Nothing here looks at what a
-- change is.
use Rattle.std.proofs.Common.{ℕ, ◌≡◌, ◌+◌, ◌≤◌, Bool, true, false, List, [], ◌∷◌, ◌++◌, Option, Some, None, cond, refl, ap, sym, ◌∙◌, arith, append_assoc, length, length-append, map}
use Rattle.port_model.specs.declared.calls.PortCall.{PortCall}
use Rattle.port_model.specs.History.{PortEvent, Opened, Piece, Ended, Lost, sent}
use Rattle.session_units.specs.Awaited.{awaits_of}
use Rattle.session_units.specs.Units.{Cut, first}
use Rattle.mail_model.specs.declared.standing.Standing.TheVariants.{Closing}
use Rattle.imap_steps.specs.Stepping.{World, Change, Shared, left_by}
use Rattle.imap_steps.specs.Step.{step, greeting}
use Rattle.mail_model.specs.Machine.{Machine, Made, Session, Taking, IsHandedOut, after, and_change, at_once, awaits_more, behind, hears_piece, is_open, leaves, machine, session_at, take_byte, take_event, take_piece, take_unit, taking_of, takes}
use Rattle.mail_model.specs.HandedOut.{AllBehind, ChangesOnTop, NoneHandedOut, SendsAnswered}
use Rattle.mail_model.proofs.Growing.{Grows, machine-grows}

-- The changes that a session takes are answered to it.

abbrev AllOf : ℕ → List Made → Type 0
AllOf number [] = Unit {0}
AllOf number (made ∷ older) = (made.number ≡ number) × AllOf number older

abbrev IsOwn : Taking → Type 0
IsOwn taking = AllOf taking.session.number taking.changes

and-own : (change : Option Change) (number from count : ℕ) (older : List Made) → AllOf number older → AllOf number (and_change change number from count older)
and-own None number from count older all = all
and-own (Some change) number from count older all = (refl, all)

byte-own : (moment : ℕ) (taking : Taking) (byte : ℕ) → IsOwn taking → IsOwn (take_byte moment taking byte)
unfolding take_byte
byte-own moment taking byte own = by (is_open taking.session.standing) (first taking.session.awaited (byte ∷ []))
  where
    by : (is_served : Bool) (found : Option Cut)
        → IsOwn (cond is_served (elim found as (λ (f : Option Cut). Taking) [ None ↦ awaits_more taking byte | Some cut ↦ take_unit moment taking cut ]) taking)
    by true None = own
    by true (Some cut) =
        let stepped = step taking.shared taking.session.number (awaits_of taking.session.awaited) cut.shows cut.unit moment in
        and-own stepped.change taking.session.number (length taking.answers) (length stepped.answer) taking.changes own
    by false found = own

piece-own : (moment : ℕ) (taking : Taking) (piece : List ℕ) → IsOwn taking → IsOwn (take_piece moment taking piece)
piece-own moment taking [] own = own
piece-own moment taking (byte ∷ piece) own = piece-own moment (take_byte moment taking byte) piece (byte-own moment taking byte own)

leaves-own : (shared : Shared) (session : Session) → IsOwn (leaves shared session)
leaves-own shared session = by (is_open session.standing)
  where
    by : (is_served : Bool)
        → IsOwn (cond is_served (record { shared = left_by shared session.number; session = record session { standing = Closing }; answers = []; changes = [] }) (taking_of shared session))
    by true = tt
    by false = tt

-- One event

all-behind : (out : ℕ → List ℕ) (number : ℕ) (changes : List Made) → AllOf number changes → AllBehind out (map (behind (length (out number))) changes)
all-behind out number [] all = tt
all-behind out number (made ∷ older) all =
    let same : length (out made.number) ≡ length (out number) = ap (λ (n : ℕ). length (out n)) all.0 in
    (omega (arith, same), all-behind out number older all.1)

found-on-top : (m : Machine) (act : Shared → Session → Taking) → ((session : Session) → IsOwn (act m.shared session)) → (found : Option Session)
    → ChangesOnTop m (elim found as (λ (f : Option Session). Machine) [ None ↦ m | Some session ↦ takes m (act m.shared session) ])
found-on-top m act own None = record { made = []; changes_are = refl; behind = tt }
found-on-top m act own (Some session) =
    let taking = act m.shared session in
    record {
      made = map (behind (length (m.out taking.session.number))) taking.changes;
      changes_are = refl;
      behind = all-behind m.out taking.session.number taking.changes (own session);
    }

greeting-on-top : (m later : Machine) (change : Option Change) (number count : ℕ) → later.changes ≡ and_change change number (length (m.out number)) count m.changes → ChangesOnTop m later
greeting-on-top m later None number count e = record { made = []; changes_are = e; behind = tt }
greeting-on-top m later (Some change) number count e =
    record { made = record { change = change; number = number; from = length (m.out number); count = count } ∷ []; changes_are = e; behind = (omega arith, tt) }

event-on-top : (m : Machine) (event : PortEvent) → ChangesOnTop m (take_event m event)
event-on-top m (Opened number kind) =
    let greeted = greeting m.shared number kind (at_once m.sessions) in greeting-on-top m (take_event m (Opened number kind)) greeted.change number (length greeted.answer) refl
event-on-top m (Piece number piece moment) =
    found-on-top m (hears_piece moment piece) (λ session. piece-own moment (taking_of m.shared session) piece tt) (session_at number m.sessions)
event-on-top m (Ended number) = found-on-top m leaves (leaves-own m.shared) (session_at number m.sessions)
event-on-top m (Lost number) = found-on-top m leaves (leaves-own m.shared) (session_at number m.sessions)

-- Events one after another

longer : (old new : List ℕ) → Grows old new → length old ≤ length new
longer old new g = let e : length new ≡ length old + length g.0 = ap (λ (xs : List ℕ). length xs) g.1 ∙ length-append old g.0 in omega arith

all-longer : (world : World) (newer older : List PortEvent) (number : ℕ) → length ((machine world older).out number) ≤ length ((machine world (newer ++ older)).out number)
all-longer world [] older number = omega arith
all-longer world (event ∷ newer) older number =
    let rest = all-longer world newer older number in
    let one = longer ((machine world (newer ++ older)).out number) ((machine world (event ∷ (newer ++ older))).out number) (machine-grows world event (newer ++ older) number) in
    omega (arith, rest, one)

behind-earlier : (old new : ℕ → List ℕ) → ((number : ℕ) → length (old number) ≤ length (new number)) → (made : List Made) → AllBehind new made → AllBehind old made
behind-earlier old new less [] all = tt
behind-earlier old new less (one ∷ made) all = (let le = less one.number in omega (arith, le, all.0), behind-earlier old new less made all.1)

both-behind : (out : ℕ → List ℕ) (newer made : List Made) → AllBehind out newer → AllBehind out made → AllBehind out (newer ++ made)
both-behind out [] made all more = more
both-behind out (one ∷ newer) made all more = (all.0, both-behind out newer made all.1 more)

on-top-then : (old mid new : Machine) → ((number : ℕ) → length (old.out number) ≤ length (mid.out number)) → ChangesOnTop old mid → ChangesOnTop mid new → ChangesOnTop old new
on-top-then old mid new less one two = record {
  made = two.made ++ one.made;
  changes_are = two.changes_are ∙ ap (λ (changes : List Made). two.made ++ changes) one.changes_are ∙ sym (append_assoc two.made one.made old.changes);
  behind = both-behind old.out two.made one.made (behind-earlier old.out mid.out less two.made two.behind) one.behind;
}

pub on-top : (world : World) (newer older : List PortEvent) → ChangesOnTop (machine world older) (machine world (newer ++ older))
unfolding machine
on-top world [] older = record { made = []; changes_are = refl; behind = tt }
on-top world (event ∷ newer) older =
    let mid = machine world (newer ++ older) in
    on-top-then (machine world older) mid (take_event mid event) (all-longer world newer older) (on-top world newer older) (event-on-top mid event)

-- What was answered already is no part of what such a change is answered by.
pub none-sent : (first : World) (before later : List PortCall) (made : List Made) → SendsAnswered first before later → AllBehind (after first before).out made → NoneHandedOut later made
none-sent first before later [] sends all = tt
none-sent first before later (one ∷ made) sends all = (unsent, none-sent first before later made sends all.1)
  where
    unsent : IsHandedOut later one → ⊥
    unsent handed =
        let own = sends one.number in
        let e : length ((after first before).out one.number) ≡ length (sent later one.number) + length own.0 = ap (λ (xs : List ℕ). length xs) own.1 ∙ length-append (sent later one.number) own.0 in
        omega (arith, e, all.0, handed.1)
