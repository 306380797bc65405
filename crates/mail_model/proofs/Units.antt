-- A session's bytes, and the units that they are cut into.
use Rattle.std.proofs.Common.{ℕ, ◌≡◌, ◌==◌, not, Bool, true, false, List, [], ◌∷◌, ◌++◌, Option, Some, None, refl, ap, sym, ◌∙◌, subst, cond, append-nil}
use Rattle.std.specs.List.{filter, list_any}
use Rattle.std.proofs.lemmas.Option.{same_Some}
use Rattle.port_model.specs.History.{PortEvent, Opened, Piece, Ended, Lost}
use Rattle.session_units.specs.declared.forms.Awaits.{Awaits as Forms}
use Rattle.session_units.specs.Awaited.{Awaited, Imap, Line, Text, begun, with_more}
use Rattle.session_units.specs.Units.{Cut, first}
use Rattle.imap_steps.specs.Stepping.{Shared, World, left_by, has_part}
use Rattle.mail_model.specs.Machine.{Machine, Session, Taking, is_open, awaits_more, take_unit, take_byte, take_piece, taking_of, hears_piece, leaves, becomes, session_at, takes, take_event, machine}
use Rattle.mail_model.specs.Pieces.{IsAwaiting, OpenAwait, TakesUnit, goes_on}

pub take_byte-closed : (moment : ℕ) (taking : Taking) (byte : ℕ) → is_open taking.session.standing ≡ false → take_byte moment taking byte ≡ taking
unfolding take_byte
take_byte-closed moment taking byte h = rw h refl

-- The state after a byte that ends no unit, and after one that does
take_byte-more : (moment : ℕ) (taking : Taking) (byte : ℕ) → is_open taking.session.standing ≡ true → first taking.session.awaited (byte ∷ []) ≡ None
    → take_byte moment taking byte ≡ awaits_more taking byte
unfolding take_byte
take_byte-more moment taking byte h e = rw (h, e) refl

take_byte-unit : (moment : ℕ) (taking : Taking) (byte : ℕ) (cut : Cut) → is_open taking.session.standing ≡ true → first taking.session.awaited (byte ∷ []) ≡ Some cut
    → take_byte moment taking byte ≡ take_unit moment taking cut
unfolding take_byte
take_byte-unit moment taking byte cut h e = rw (h, e) refl

-- no unit is there before the first byte
abbrev pub Begun : Type 0
Begun = (awaits : Forms) → first (begun awaits) [] ≡ None

-- bytes that come later don't change the first unit
abbrev pub Stays : Type 0
Stays = (awaited : Awaited) (bytes later : List ℕ) (cut : Cut) → first awaited bytes ≡ Some cut
    → first awaited (bytes ++ later) ≡ Some (record { unit = cut.unit; shows = cut.shows; rest = cut.rest ++ later })

-- bytes that end no unit go on with what is awaited
abbrev pub GoesOn : Type 0
GoesOn = (awaited : Awaited) (bytes later : List ℕ) → first awaited bytes ≡ None → first awaited (bytes ++ later) ≡ first (with_more awaited bytes) later

-- however they are cut
abbrev pub Joined : Type 0
Joined = (awaited : Awaited) (bytes later : List ℕ) → with_more awaited (bytes ++ later) ≡ with_more (with_more awaited bytes) later

-- a unit that one byte more completes ends with it
abbrev pub AtLast : Type 0
AtLast = (awaited : Awaited) (byte : ℕ) (cut : Cut) → first awaited [] ≡ None → first awaited (byte ∷ []) ≡ Some cut → cut.rest ≡ []

-- two pieces one by one
pub pieces : (moment : ℕ) (taking : Taking) (piece later : List ℕ) → take_piece moment (take_piece moment taking piece) later ≡ take_piece moment taking (piece ++ later)
pieces moment taking [] later = refl
pieces moment taking (byte ∷ piece) later = pieces moment (take_byte moment taking byte) piece later

-- bytes in front of which there is no unit have none themselves
front-none : Stays → (awaited : Awaited) (bytes later : List ℕ) → first awaited (bytes ++ later) ≡ None → first awaited bytes ≡ None
front-none stays awaited bytes later none = by (first awaited bytes) refl
  where
    by : (found : Option Cut) → first awaited bytes ≡ found → first awaited bytes ≡ None
    by None e = e
    by (Some cut) e = let bad = sym none ∙ stays awaited bytes later cut e in cc

pub awaits : Stays → GoesOn → (moment : ℕ) (taking : Taking) (piece : List ℕ) → is_open taking.session.standing ≡ true → first taking.session.awaited piece ≡ None
    → take_piece moment taking piece ≡ goes_on taking piece
awaits stays goes moment taking [] o none = refl
awaits stays goes moment taking (byte ∷ piece) o none =
    let here : first taking.session.awaited (byte ∷ []) ≡ None = front-none stays taking.session.awaited (byte ∷ []) piece none in
    ap (λ (t : Taking). take_piece moment t piece) (take_byte-more moment taking byte o here)
    ∙ awaits stays goes moment (awaits_more taking byte) piece o (sym (goes taking.session.awaited (byte ∷ []) piece here) ∙ none)

with_nothing : (awaited : Awaited) → with_more awaited [] ≡ awaited
with_nothing (Imap form bytes) = ap (Imap form) (append-nil bytes)
with_nothing (Line bytes) = ap Line (append-nil bytes)
with_nothing (Text read) = refl

goes_on-awaited : Joined → (taking : Taking) (piece : List ℕ) → (goes_on taking piece).session.awaited ≡ with_more taking.session.awaited piece
goes_on-awaited joined taking [] = sym (with_nothing taking.session.awaited)
goes_on-awaited joined taking (byte ∷ piece) = goes_on-awaited joined (awaits_more taking byte) piece ∙ sym (joined taking.session.awaited (byte ∷ []) piece)

pub none : Stays → GoesOn → Joined → (moment : ℕ) (taking : Taking) (piece : List ℕ) → IsAwaiting taking.session → first taking.session.awaited piece ≡ None
    → (take_piece moment taking piece ≡ goes_on taking piece) × ((take_piece moment taking piece).session.awaited ≡ with_more taking.session.awaited piece)
none stays goes joined moment taking piece h e =
    let same = awaits stays goes moment taking piece h.opened e in (same, ap (λ (t : Taking). t.session.awaited) same ∙ goes_on-awaited joined taking piece)

pub moments : Stays → GoesOn → (earlier moment : ℕ) (taking : Taking) (piece later : List ℕ) → IsAwaiting taking.session → first taking.session.awaited piece ≡ None
    → take_piece moment (take_piece earlier taking piece) later ≡ take_piece moment taking (piece ++ later)
moments stays goes earlier moment taking piece later h e =
    ap (λ (t : Taking). take_piece moment t later) (awaits stays goes earlier taking piece h.opened e ∙ sym (awaits stays goes moment taking piece h.opened e)) ∙ pieces moment taking piece later

pub takes_unit : Stays → GoesOn → AtLast → (moment : ℕ) (taking : Taking) (piece : List ℕ) (cut : Cut) → is_open taking.session.standing ≡ true → first taking.session.awaited [] ≡ None
    → first taking.session.awaited piece ≡ Some cut → TakesUnit moment taking piece cut
takes_unit stays goes at_last moment taking [] cut o e h = let bad = sym e ∙ h in absurd (cc)
takes_unit stays goes at_last moment taking (byte ∷ piece) cut o e h =
    by (first taking.session.awaited (byte ∷ [])) refl (takes_unit stays goes at_last moment (awaits_more taking byte) piece cut o)
  where
    by : (found : Option Cut) → first taking.session.awaited (byte ∷ []) ≡ found
        → (first (with_more taking.session.awaited (byte ∷ [])) [] ≡ None → first (with_more taking.session.awaited (byte ∷ [])) piece ≡ Some cut
        → TakesUnit moment (awaits_more taking byte) piece cut)
        → TakesUnit moment taking (byte ∷ piece) cut
    by None n rest =
        let later = rest (sym (goes taking.session.awaited (byte ∷ []) [] n) ∙ n) (sym (goes taking.session.awaited (byte ∷ []) piece n) ∙ h) in
        record {
          front = byte ∷ later.front;
          byte = later.byte;
          ends = ap (λ (bytes : List ℕ). byte ∷ bytes) later.ends;
          taken = ap (λ (t : Taking). take_piece moment t piece) (take_byte-more moment taking byte o n) ∙ later.taken;
        }
    by (Some found) n rest =
        let last : found.rest ≡ [] = at_last taking.session.awaited byte found e n in
        let longer : Cut = record { unit = found.unit; shows = found.shows; rest = found.rest ++ piece } in
        let same : longer ≡ cut = same_Some longer cut (sym (stays taking.session.awaited (byte ∷ []) piece found n) ∙ h) in
        record {
          front = [];
          byte = byte;
          ends = ap (λ (bytes : List ℕ). byte ∷ bytes) (ap (λ (bytes : List ℕ). bytes ++ piece) (sym last) ∙ ap (λ (c : Cut). c.rest) same);
          taken = ap (λ (t : Taking). take_piece moment t piece) (take_byte-unit moment taking byte found o n)
              ∙ ap (λ (rest : List ℕ). take_piece moment (take_unit moment taking found) (rest ++ piece)) (sym last)
              ∙ ap (λ (c : Cut). take_piece moment (take_unit moment taking c) c.rest) same;
        }

-- Every open session awaits a unit.

abbrev Awaits : Session → Type 0
Awaits session = is_open session.standing ≡ true → first session.awaited [] ≡ None

awaits_byte : Begun → GoesOn → (moment byte : ℕ) (taking : Taking) → Awaits taking.session → Awaits (take_byte moment taking byte).session
awaits_byte begun-none goes moment byte taking h = by (is_open taking.session.standing) refl
  where
    found : (cut : Option Cut) → first taking.session.awaited (byte ∷ []) ≡ cut → is_open taking.session.standing ≡ true → Awaits (take_byte moment taking byte).session
    found None e o = rw (take_byte-more moment taking byte o e) (λ opened. sym (goes taking.session.awaited (byte ∷ []) [] e) ∙ e)
    found (Some cut) e o = rw (take_byte-unit moment taking byte cut o e) (λ opened. begun-none _)

    by : (opened : Bool) → is_open taking.session.standing ≡ opened → Awaits (take_byte moment taking byte).session
    by true o = found (first taking.session.awaited (byte ∷ [])) refl o
    by false o = rw (take_byte-closed moment taking byte o) h

awaits_piece : Begun → GoesOn → (moment : ℕ) (piece : List ℕ) (taking : Taking) → Awaits taking.session → Awaits (take_piece moment taking piece).session
awaits_piece begun-none goes moment [] taking h = h
awaits_piece begun-none goes moment (byte ∷ piece) taking h = awaits_piece begun-none goes moment piece (take_byte moment taking byte) (awaits_byte begun-none goes moment byte taking h)

awaits_left : (shared : Shared) (session : Session) → Awaits session → Awaits (leaves shared session).session
awaits_left shared session h = by (is_open session.standing) refl
  where
    by : (opened : Bool) → is_open session.standing ≡ opened → Awaits (leaves shared session).session
    by true o = rw o (λ bad. cc)
    by false o = rw o h

awaits_found : (number : ℕ) (sessions : List Session) (session : Session) → session_at number sessions ≡ Some session → OpenAwait sessions → Awaits session
awaits_found number [] session at h = absurd (cc)
awaits_found number (s ∷ sessions) session at h = by (s.number == number) refl (λ later. awaits_found number sessions session later h.1)
  where
    by : (b : Bool) → (s.number == number) ≡ b → (session_at number sessions ≡ Some session → Awaits session) → Awaits session
    by true e rest =
        let same : s ≡ session = same_Some s session (ap (λ (b : Bool). cond b (Some s) (session_at number sessions)) (sym e) ∙ at) in subst Awaits same h.0
    by false e rest = rest (ap (λ (b : Bool). cond b (Some s) (session_at number sessions)) (sym e) ∙ at)

awaits_becomes : (new : Session) (sessions : List Session) → Awaits new → OpenAwait sessions → OpenAwait (becomes new sessions)
awaits_becomes new [] a h = tt
awaits_becomes new (s ∷ sessions) a h =
    (elim (s.number == new.number) as (λ (b : Bool). Awaits (cond b new s)) [ true ↦ a | false ↦ h.0 ], awaits_becomes new sessions a h.1)

awaits_more_sessions : (sessions : List Session) (new : Session) → Awaits new → OpenAwait sessions → OpenAwait (sessions ++ new ∷ [])
awaits_more_sessions [] new a h = (a, tt)
awaits_more_sessions (s ∷ sessions) new a h = (h.0, awaits_more_sessions sessions new a h.1)

awaits_of : (m : Machine) (number : ℕ) (act : Shared → Session → Taking) → ((session : Session) → Awaits session → Awaits (act m.shared session).session) → OpenAwait m.sessions
    → (found : Option Session) → session_at number m.sessions ≡ found
    → OpenAwait (elim found as (λ (f : Option Session). Machine) [ None ↦ m | Some session ↦ takes m (act m.shared session) ]).sessions
awaits_of m number act kept h None e = h
awaits_of m number act kept h (Some session) e = awaits_becomes (act m.shared session).session m.sessions (kept session (awaits_found number m.sessions session e h)) h

awaits_event : Begun → GoesOn → (m : Machine) (event : PortEvent) → OpenAwait m.sessions → OpenAwait (take_event m event).sessions
awaits_event begun-none goes m (Opened number kind) h = awaits_more_sessions m.sessions _ (λ opened. begun-none _) h
awaits_event begun-none goes m (Piece number piece moment) h =
    awaits_of m number (hears_piece moment piece) (λ session a. awaits_piece begun-none goes moment piece (taking_of m.shared session) a) h (session_at number m.sessions) refl
awaits_event begun-none goes m (Ended number) h = awaits_of m number leaves (λ session a. awaits_left m.shared session a) h (session_at number m.sessions) refl
awaits_event begun-none goes m (Lost number) h = awaits_of m number leaves (λ session a. awaits_left m.shared session a) h (session_at number m.sessions) refl

pub open_await : Begun → GoesOn → (world : World) (events : List PortEvent) → OpenAwait (machine world events).sessions
unfolding machine
open_await begun-none goes world [] = tt
open_await begun-none goes world (event ∷ older) = awaits_event begun-none goes (machine world older) event (open_await begun-none goes world older)

-- Who took leave has no part.

without : {X : Type 0} (p : X → Bool) (xs : List X) → list_any p (filter (λ x. not (p x)) xs) ≡ false
without p [] = refl
without p (x ∷ xs) = by (p x) refl (without p xs)
  where
    by : (b : Bool) → p x ≡ b → list_any p (filter (λ y. not (p y)) xs) ≡ false → list_any p (filter (λ y. not (p y)) (x ∷ xs)) ≡ false
    by true e rest = rw e rest
    by false e rest = rw (e, e) rest

pub left_has_none : (shared : Shared) (number : ℕ) → has_part number (left_by shared number) ≡ false
unfolding left_by
left_has_none shared number = without (λ part. part.number == number) shared.parts
