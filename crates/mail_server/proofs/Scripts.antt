-- The machine on what is left of a script.
use Rattle.std.proofs.Common.{ℕ, ◌+◌, ◌<◌, ◌≤◌, ◌==◌, ◌||◌, ◌&&◌, nat_lt, nat_le, not, cond, Bool, true, false, List, [], ◌∷◌, ◌++◌, Option, Some, None, filter, count_by, All, IsTrue, ◌≡◌, refl, ap, ap₂, sym, ◌∙◌, subst, inl, inr, append-nil, arith}
use Rattle.std.proofs.Math.Path.{fun_ext}
use Rattle.std.proofs.lemmas.Option.{same_Some}
use Rattle.std.proofs.lemmas.List.Sums.{sum_by-cons, sum_by-append}
use Rattle.std.proofs.lemmas.List.Elements.{All-head, All-tail}
use Rattle.std.proofs.lemmas.Bool.Decides.{eqb_tells, nat_tests}
use Rattle.port_model.specs.declared.calls.Kind.{Kind}
use Rattle.port_model.specs.declared.events.Event.{Event}
use Rattle.port_model.specs.declared.events.Event.TheVariants.{Opens, Piece, Ends, Loses}
use Rattle.port_model.specs.Playing.{is_of}
use Rattle.port_model.specs.Script.{opens, is_open as is_opened, AreEvents, AreOnOpen, IsOnOpen, IsPiece}
use Rattle.port_model.specs.Streams.{moment}
use Rattle.port_model.specs.History.{PortEvent}
use Rattle.session_units.specs.Units.{Cut, first}
use Rattle.imap_steps.specs.Stepping.{Shared, World}
use Rattle.mail_model.specs.Machine.{Machine, Session, Taking, machine, take_event, takes, becomes, session_at, of_session, is_open, awaits_more, take_byte, take_piece, take_unit, taking_of, hears_piece, leaves}
use Rattle.mail_server.specs.Script.{script_machine, port_event, and_opened, port_events, newest_first}
use Rattle.mail_rounds.specs.Calls.{is_loss}
use Rattle.mail_server.specs.Rounds.{is_loss_of, has_loss}
use Rattle.mail_server.proofs.Leads.{runs, IsLinked, IsNext, AreNext, AreNumbered, MayLose, Leads}

-- Sessions by number

either : {A : Type 0} (b : Bool) (x y : A) → y ≡ x → cond b x y ≡ y
either true x y e = sym e
either false x y e = refl

chosen : (new session : Session) (number : ℕ) → session.number ≡ number → (cond (session.number == new.number) new session).number ≡ number
chosen new session number e = elim (eqb_tells session.number new.number) [ inl p ↦ rw p.0 (sym p.1 ∙ e) | inr q ↦ rw q.0 e ]

pub numbered-becomes : (new : Session) (before last : ℕ) (sessions : List Session) → AreNumbered before sessions last → AreNumbered before (becomes new sessions) last
numbered-becomes new before last [] h = h
numbered-becomes new before last (session ∷ sessions) h = (chosen new session (before + 1) h.0, numbered-becomes new (before + 1) last sessions h.1)

pub numbered-opens : (new : Session) (before last : ℕ) (sessions : List Session) → new.number ≡ last + 1
    → AreNumbered before sessions last → AreNumbered before (sessions ++ new ∷ []) (last + 1)
numbered-opens new before last [] e h = (e ∙ ap (λ (n : ℕ). n + 1) (sym h), ap (λ (n : ℕ). n + 1) h)
numbered-opens new before last (session ∷ sessions) e h = (h.0, numbered-opens new (before + 1) last sessions e h.1)

-- Each number up to the latest is found.
pub numbered-finds : (number before last : ℕ) (sessions : List Session) → AreNumbered before sessions last → before < number → number ≤ last
    → (session : Session) × (session_at number sessions ≡ Some session)
numbered-finds number before last [] h low high = absurd (omega arith)
numbered-finds number before last (session ∷ sessions) h low high =
    elim (eqb_tells session.number number) [
      | inl p ↦ (session, rw p.0 refl)
      | inr q ↦ let more : before + 1 < number = omega (arith, h.0, q.1) in
          let found = numbered-finds number (before + 1) last sessions h.1 more high in (found.0, rw q.0 found.1)
    ]

pub number-found : (number : ℕ) (sessions : List Session) (found : Session) → session_at number sessions ≡ Some found → found.number ≡ number
number-found number [] found e = absurd (cc)
number-found number (session ∷ sessions) found e =
    elim (eqb_tells session.number number) [
      | inl p ↦ ap (λ (s : Session). s.number) (sym (same_Some session found (rw p.0 at e))) ∙ p.1
      | inr q ↦ number-found number sessions found (rw q.0 at e)
    ]

becomes-below : (new : Session) (before last : ℕ) (sessions : List Session) → AreNumbered before sessions last → new.number ≤ before
    → becomes new sessions ≡ sessions
becomes-below new before last [] h low = refl
becomes-below new before last (session ∷ sessions) h low =
    let rest : becomes new sessions ≡ sessions = becomes-below new (before + 1) last sessions h.1 (omega arith) in
    elim (eqb_tells session.number new.number) [
      | inl p ↦ absurd (omega (arith, h.0, p.1, low))
      | inr q ↦ rw q.0 (ap (λ (ss : List Session). session ∷ ss) rest)
    ]

becomes-same : (found : Session) (number before last : ℕ) (sessions : List Session) → AreNumbered before sessions last
    → session_at number sessions ≡ Some found → becomes found sessions ≡ sessions
becomes-same found number before last [] h e = refl
becomes-same found number before last (session ∷ sessions) h e =
    elim (eqb_tells session.number number) [
      | inl p ↦
          let same : session ≡ found = same_Some session found (rw p.0 at e) in
          let low : found.number ≤ before + 1 = omega (arith, h.0, ap (λ (s : Session). s.number) same) in
          ap₂ (λ (s : Session) (ss : List Session). s ∷ ss) (either (session.number == found.number) found session same) (becomes-below found (before + 1) last sessions h.1 low)
      | inr q ↦
          let its : session_at number sessions ≡ Some found = rw q.0 at e in
          let other : (session.number == found.number) ≡ false = subst (λ (n : ℕ). (session.number == n) ≡ false) (sym (number-found number sessions found its)) q.0 in
          rw other (ap (λ (ss : List Session). session ∷ ss) (becomes-same found number (before + 1) last sessions h.1 its))
    ]

-- A session that serves keeps its number, and one that isn't open takes part in nothing.

byte-number : (moment : ℕ) (taking : Taking) (byte : ℕ) → (take_byte moment taking byte).session.number ≡ taking.session.number
unfolding take_byte
byte-number moment taking byte =
    elim (is_open taking.session.standing) as (λ (b : Bool). (cond b (elim (first taking.session.awaited (byte ∷ [])) as (λ (f : Option Cut). Taking) [ None ↦ awaits_more taking byte | Some cut ↦ take_unit moment taking cut ]) taking).session.number ≡ taking.session.number) [
      | true ↦ elim (first taking.session.awaited (byte ∷ [])) as (λ (f : Option Cut). (elim f as (λ (f : Option Cut). Taking) [ None ↦ awaits_more taking byte | Some cut ↦ take_unit moment taking cut ]).session.number ≡ taking.session.number) [
        | None ↦ refl
        | Some cut ↦ refl
      ]
      | false ↦ refl
    ]

piece-number : (moment : ℕ) (piece : List ℕ) (taking : Taking) → (take_piece moment taking piece).session.number ≡ taking.session.number
piece-number moment [] taking = refl
piece-number moment (byte ∷ piece) taking = piece-number moment piece (take_byte moment taking byte) ∙ byte-number moment taking byte

byte-shut : (moment : ℕ) (taking : Taking) (byte : ℕ) → is_open taking.session.standing ≡ false → take_byte moment taking byte ≡ taking
unfolding take_byte
byte-shut moment taking byte h = rw h refl

piece-shut : (moment : ℕ) (piece : List ℕ) (taking : Taking) → is_open taking.session.standing ≡ false → take_piece moment taking piece ≡ taking
piece-shut moment [] taking h = refl
piece-shut moment (byte ∷ piece) taking h = ap (λ (t : Taking). take_piece moment t piece) (byte-shut moment taking byte h) ∙ piece-shut moment piece taking h

-- What a session does with an event of its link.
pub record OfOpen (act : Shared → Session → Taking) : Type 0 where
  pub number : (shared : Shared) (session : Session) → (act shared session).session.number ≡ session.number
  pub shut : (shared : Shared) (session : Session) → is_open session.standing ≡ false → act shared session ≡ taking_of shared session

pub hears-own : (moment : ℕ) (piece : List ℕ) → OfOpen (hears_piece moment piece)
hears-own moment piece = record {
  number = λ shared session. piece-number moment piece (taking_of shared session);
  shut = λ shared session h. piece-shut moment piece (taking_of shared session) h;
}

leaves-number : (shared : Shared) (session : Session) (opened : Bool) → is_open session.standing ≡ opened → (leaves shared session).session.number ≡ session.number
leaves-number shared session true h = rw h refl
leaves-number shared session false h = rw h refl

pub leaves-own : OfOpen leaves
leaves-own = record { number = λ shared session. leaves-number shared session (is_open session.standing) refl; shut = λ shared session h. rw h refl }

-- What an event leaves of the sessions

found-numbered : (m : Machine) (act : Shared → Session → Taking) → AreNumbered 0 m.sessions m.last → (found : Option Session)
    → AreNumbered 0 (elim found as (λ (f : Option Session). Machine) [ None ↦ m | Some session ↦ takes m (act m.shared session) ]).sessions m.last
found-numbered m act h None = h
found-numbered m act h (Some session) = numbered-becomes (act m.shared session).session 0 m.last m.sessions h

found-last : (m : Machine) (act : Shared → Session → Taking) (found : Option Session)
    → (elim found as (λ (f : Option Session). Machine) [ None ↦ m | Some session ↦ takes m (act m.shared session) ]).last ≡ m.last
found-last m act None = refl
found-last m act (Some session) = refl

pub of-last : (m : Machine) (number : ℕ) (act : Shared → Session → Taking) → (of_session m number act).last ≡ m.last
of-last m number act = found-last m act (session_at number m.sessions)

of-numbered : (m : Machine) (number : ℕ) (act : Shared → Session → Taking) → AreNumbered 0 m.sessions m.last → AreNumbered 0 (of_session m number act).sessions (of_session m number act).last
of-numbered m number act h =
    subst (AreNumbered 0 (of_session m number act).sessions) (sym (of-last m number act)) (found-numbered m act h (session_at number m.sessions))

event-last : (m : Machine) (event : Event) → (take_event m (port_event (m.last + 1) event)).last ≡ and_opened m.last event
event-last m (Opens kind) = refl
event-last m (Piece number bytes at) = of-last m number (hears_piece (moment at) bytes)
event-last m (Ends number) = of-last m number leaves
event-last m (Loses number) = of-last m number leaves

event-numbered : (m : Machine) (event : Event) → AreNumbered 0 m.sessions m.last
    → AreNumbered 0 (take_event m (port_event (m.last + 1) event)).sessions (take_event m (port_event (m.last + 1) event)).last
event-numbered m (Opens kind) h = numbered-opens _ 0 m.last m.sessions refl h
event-numbered m (Piece number bytes at) h = of-numbered m number (hears_piece (moment at) bytes) h
event-numbered m (Ends number) h = of-numbered m number leaves h
event-numbered m (Loses number) h = of-numbered m number leaves h

or-true : (a b : Bool) → b ≡ true → a || b ≡ true
or-true true b h = refl
or-true false b h = h

or-left : (a b : Bool) → a ≡ true → a || b ≡ true
or-left true b h = refl
or-left false b h = absurd (cc)

pub or-cases : {P : Type 0} (a b : Bool) → a || b ≡ true → (a ≡ true → P) → (b ≡ true → P) → P
or-cases true b h f g = f refl
or-cases false b h f g = g h

-- The losses so far, with that which an event is, and those that are left behind it.
losses-next : (may lost : ℕ → Bool) (next : ℕ) (event : Event) (later : List Event) → MayLose may lost (event ∷ later)
    → MayLose may (λ number. is_loss number (port_event next event) || lost number) later
losses-next may lost next (Opens kind) later h = record { were = h.were; will = h.will }
losses-next may lost next (Piece who bytes at) later h = record { were = h.were; will = h.will }
losses-next may lost next (Ends who) later h = record { were = h.were; will = h.will }
losses-next may lost next (Loses who) later h = record {
  were = λ number e. or-cases (who == number) (lost number) e (λ its. h.will number (or-left (who == number) (has_loss number later) its)) (λ was. h.were number was);
  will = λ number e. h.will number (or-true (who == number) (has_loss number later) e);
}

-- What is left of a script leads on once its next event happened,
pub leads-next : (event : Event) (later : List Event) (closed may lost : ℕ → Bool) (m goal : Machine) → Leads (event ∷ later) closed may lost m goal
    → Leads later closed may (λ number. is_loss number (port_event (m.last + 1) event) || lost number) (take_event m (port_event (m.last + 1) event)) goal
leads-next event later closed may lost m goal l = record {
  whole = l.whole;
  next = subst (λ (last : ℕ). AreNext closed last later) (sym (event-last m event)) l.next.1;
  numbered = event-numbered m event l.numbered;
  losses = losses-next may lost (m.last + 1) event later l.losses;
}

-- No session of a number is open.
abbrev pub NoneOpen : ℕ → List Session → Type 0
NoneOpen number [] = Unit {0}
NoneOpen number (session ∷ sessions) = (is_open session.standing ≡ true → (session.number == number) ≡ false) × NoneOpen number sessions

none_open-append : (number : ℕ) (new : Session) (sessions : List Session) → (new.number == number) ≡ false → NoneOpen number sessions → NoneOpen number (sessions ++ new ∷ [])
none_open-append number new [] other h = ((λ o. other), tt)
none_open-append number new (session ∷ sessions) other h = (h.0, none_open-append number new sessions other h.1)

none_open-becomes : (number : ℕ) (new : Session) (sessions : List Session) → (new.number == number) ≡ false → NoneOpen number sessions → NoneOpen number (becomes new sessions)
none_open-becomes number new [] other h = tt
none_open-becomes number new (session ∷ sessions) other h =
    let rest = none_open-becomes number new sessions other h.1 in
    elim (session.number == new.number) as (λ (b : Bool). (is_open (cond b new session).standing ≡ true → ((cond b new session).number == number) ≡ false) × NoneOpen number (becomes new sessions)) [
      | true ↦ ((λ o. other), rest)
      | false ↦ (h.0, rest)
    ]

shut-bool : (b : Bool) → (b ≡ true → ⊥) → b ≡ false
shut-bool true h = absurd (h refl)
shut-bool false h = refl

found-shut : (number : ℕ) (sessions : List Session) (found : Session) → NoneOpen number sessions → session_at number sessions ≡ Some found → is_open found.standing ≡ false
found-shut number [] found h e = absurd (cc)
found-shut number (session ∷ sessions) found h e =
    elim (eqb_tells session.number number) [
      | inl p ↦ subst (λ (s : Session). is_open s.standing ≡ false) (same_Some session found (rw p.0 at e))
          (shut-bool (is_open session.standing) (λ o. let no : (session.number == number) ≡ false = h.0 o in let yes : (session.number == number) ≡ true = p.0 in absurd (cc)))
      | inr q ↦ found-shut number sessions found h.1 (rw q.0 at e)
    ]

adds-none : (same : Bool) (out : List ℕ) → cond same (out ++ []) out ≡ out
adds-none true out = append-nil out
adds-none false out = refl

shut-same : (m : Machine) (number : ℕ) (act : Shared → Session → Taking) → OfOpen act → NoneOpen number m.sessions → AreNumbered 0 m.sessions m.last
    → (found : Option Session) → session_at number m.sessions ≡ found
    → (elim found as (λ (f : Option Session). Machine) [ None ↦ m | Some session ↦ takes m (act m.shared session) ]) ≡ m
shut-same m number act own shut h None e = refl
shut-same m number act own shut h (Some session) e =
    ap (takes m) (own.shut m.shared session (found-shut number m.sessions session shut e))
    ∙ ap₂ (λ (ss : List Session) (out : ℕ → List ℕ). let all : Machine = record { shared = m.shared; sessions = ss; out = out; changes = m.changes; last = m.last } in all)
    (becomes-same session number 0 m.last m.sessions h e) (fun_ext (λ who. adds-none (who == session.number) (m.out who)))

found-open : (m : Machine) (number who : ℕ) (act : Shared → Session → Taking) → OfOpen act → (who == number) ≡ false → NoneOpen number m.sessions
    → (found : Option Session) → session_at who m.sessions ≡ found
    → NoneOpen number (elim found as (λ (f : Option Session). Machine) [ None ↦ m | Some session ↦ takes m (act m.shared session) ]).sessions
found-open m number who act own other shut None e = shut
found-open m number who act own other shut (Some session) e =
    let same : (act m.shared session).session.number ≡ who = own.number m.shared session ∙ number-found who m.sessions session e in
    none_open-becomes number (act m.shared session).session m.sessions (subst (λ (n : ℕ). (n == number) ≡ false) (sym same) other) shut

-- a session whose link ended or is lost is answered nothing
pub leaves-out : (m : Machine) (number who : ℕ) → (of_session m number leaves).out who ≡ m.out who
leaves-out m number who = found-out (session_at number m.sessions)
  where
    silent : (session : Session) (opened : Bool) → is_open session.standing ≡ opened → (leaves m.shared session).answers ≡ []
    silent session true o = rw o refl
    silent session false o = rw o refl

    found-out : (found : Option Session) → (elim found as (λ (f : Option Session). Machine) [ None ↦ m | Some session ↦ takes m (leaves m.shared session) ]).out who ≡ m.out who
    found-out None = refl
    found-out (Some session) =
        ap (λ (bytes : List ℕ). cond (who == (leaves m.shared session).session.number) (m.out who ++ bytes) (m.out who)) (silent session (is_open session.standing) refl)
        ∙ adds-none (who == (leaves m.shared session).session.number) (m.out who)

other-number : (last number : ℕ) → number ≤ last → (last + 1 == number) ≡ false
other-number last number h = grind (arith, nat_tests)

-- The events of a session that isn't open change nothing, and those of others don't open it.

event-shut : (m : Machine) (number : ℕ) (event : Event) → is_of number event ≡ true → NoneOpen number m.sessions → AreNumbered 0 m.sessions m.last
    → take_event m (port_event (m.last + 1) event) ≡ m
event-shut m number (Opens kind) its shut h = absurd (cc)
event-shut m number (Piece who bytes at) its shut h =
    let e : number ≡ who = grind (arith, nat_tests, its) in
    shut-same m who (hears_piece (moment at) bytes) (hears-own (moment at) bytes) (subst (λ (n : ℕ). NoneOpen n m.sessions) e shut) h (session_at who m.sessions) refl
event-shut m number (Ends who) its shut h =
    let e : number ≡ who = grind (arith, nat_tests, its) in
    shut-same m who leaves leaves-own (subst (λ (n : ℕ). NoneOpen n m.sessions) e shut) h (session_at who m.sessions) refl
event-shut m number (Loses who) its shut h =
    let e : number ≡ who = grind (arith, nat_tests, its) in
    shut-same m who leaves leaves-own (subst (λ (n : ℕ). NoneOpen n m.sessions) e shut) h (session_at who m.sessions) refl

event-others : (m : Machine) (number : ℕ) (event : Event) → is_of number event ≡ false → number ≤ m.last → NoneOpen number m.sessions
    → NoneOpen number (take_event m (port_event (m.last + 1) event)).sessions
event-others m number (Opens kind) other low shut = none_open-append number _ m.sessions (other-number m.last number low) shut
event-others m number (Piece who bytes at) other low shut =
    found-open m number who (hears_piece (moment at) bytes) (hears-own (moment at) bytes) other shut (session_at who m.sessions) refl
event-others m number (Ends who) other low shut = found-open m number who leaves leaves-own other shut (session_at who m.sessions) refl
event-others m number (Loses who) other low shut = found-open m number who leaves leaves-own other shut (session_at who m.sessions) refl

opened-more : (last : ℕ) (event : Event) → last ≤ and_opened last event
opened-more last (Opens kind) = omega arith
opened-more last (Piece who bytes at) = omega arith
opened-more last (Ends who) = omega arith
opened-more last (Loses who) = omega arith

pub event-rises : (m : Machine) (event : Event) → m.last ≤ (take_event m (port_event (m.last + 1) event)).last
event-rises m event = omega (arith, event-last m event, opened-more m.last event)

-- a list without the events of a number
abbrev without : ℕ → List Event → List Event
without number left = filter (λ event. not (is_of number event)) left

runs-filter : (number : ℕ) (left : List Event) (m : Machine) → NoneOpen number m.sessions → number ≤ m.last → AreNumbered 0 m.sessions m.last
    → runs m (without number left) ≡ runs m left
runs-filter number [] m shut low h = refl
runs-filter number (event ∷ later) m shut low h = elim (is_of number event) as (λ (b : Bool). is_of number event ≡ b → runs m (without number (event ∷ later)) ≡ runs m (event ∷ later)) [
  | true ↦ λ its. rw its (runs-filter number later m shut low h ∙ ap (λ (x : Machine). runs x later) (sym (event-shut m number event its shut h)))
  | false ↦ λ other. rw other (runs-filter number later (take_event m (port_event (m.last + 1) event)) (event-others m number event other low shut)
      (omega (arith, low, event-last m event, opened-more m.last event)) (event-numbered m event h))
] refl

linked-other : (number who last : ℕ) (closed : ℕ → Bool) → (who == number) ≡ false → IsLinked closed last who → IsLinked (λ n. number == n || closed n) last who
linked-other number who last closed other h =
    let apart : (number == who) ≡ false = grind (arith, nat_tests, other) in
    record { above = h.above; opened = h.opened; kept = rw apart h.kept }

next-here-other : (number last : ℕ) (closed : ℕ → Bool) (event : Event) → is_of number event ≡ false → IsNext closed last event → IsNext (λ n. number == n || closed n) last event
next-here-other number last closed (Opens kind) other h = tt
next-here-other number last closed (Piece who bytes at) other h = (linked-other number who last closed other h.0, h.1)
next-here-other number last closed (Ends who) other h = linked-other number who last closed other h
next-here-other number last closed (Loses who) other h = linked-other number who last closed other h

of-opens : (number last : ℕ) (event : Event) → is_of number event ≡ true → and_opened last event ≡ last
of-opens number last (Opens kind) h = absurd (cc)
of-opens number last (Piece who bytes at) h = refl
of-opens number last (Ends who) h = refl
of-opens number last (Loses who) h = refl

next-filter : (number : ℕ) (closed : ℕ → Bool) (left : List Event) (last : ℕ) → AreNext closed last left → AreNext (λ n. number == n || closed n) last (without number left)
next-filter number closed [] last next = tt
next-filter number closed (event ∷ later) last next = elim (is_of number event) as (λ (b : Bool). is_of number event ≡ b → AreNext (λ n. number == n || closed n) last (without number (event ∷ later))) [
  | true ↦ λ its. rw its (next-filter number closed later last (subst (λ (n : ℕ). AreNext closed n later) (of-opens number last event its) next.1))
  | false ↦ λ other. rw other (next-here-other number last closed event other next.0, next-filter number closed later (and_opened last event) next.1)
] refl

loss-filter : (P : Event → Bool) (number : ℕ) (left : List Event) → has_loss number (filter P left) ≡ true → has_loss number left ≡ true
loss-filter P number [] h = h
loss-filter P number (event ∷ later) h = elim (P event) as (λ (b : Bool). P event ≡ b → has_loss number (event ∷ later) ≡ true) [
  | true ↦ λ its. or-cases (is_loss_of number event) (has_loss number (filter P later)) (rw its at h)
      (λ here. or-left (is_loss_of number event) (has_loss number later) here)
      (λ behind. or-true (is_loss_of number event) (has_loss number later) (loss-filter P number later behind))
  | false ↦ λ other. or-true (is_loss_of number event) (has_loss number later) (loss-filter P number later (rw other at h))
] refl

-- and once the link of a session that isn't open is closed.
pub leads-close : (number : ℕ) (left : List Event) (closed may lost : ℕ → Bool) (m goal : Machine) → NoneOpen number m.sessions → number ≤ m.last → Leads left closed may lost m goal
    → Leads (filter (λ event. not (is_of number event)) left) (λ who. number == who || closed who) may lost m goal
leads-close number left closed may lost m goal shut low l = record {
  whole = runs-filter number left m shut low l.numbered ∙ l.whole;
  next = next-filter number closed left m.last l.next;
  numbered = l.numbered;
  losses = record { were = l.losses.were; will = λ who h. l.losses.will who (loss-filter (λ event. not (is_of number event)) who left h) };
}

-- The whole script

newest-runs : (world : World) (events : List Event) (older : List PortEvent) (next : ℕ) → next ≡ (machine world older).last + 1
    → machine world (newest_first older (port_events next events)) ≡ runs (machine world older) events
unfolding machine
newest-runs world [] older next h = refl
newest-runs world (event ∷ later) older next h =
    newest-runs world later (port_event next event ∷ older) (and_opened next event) (next-number world older event next h)
    ∙ ap (λ (n : ℕ). runs (take_event (machine world older) (port_event n event)) later) h
  where
    opened-suc : (last : ℕ) (event : Event) → and_opened (last + 1) event ≡ and_opened last event + 1
    opened-suc last (Opens kind) = refl
    opened-suc last (Piece who bytes at) = refl
    opened-suc last (Ends who) = refl
    opened-suc last (Loses who) = refl

    next-number : (world : World) (older : List PortEvent) (event : Event) (next : ℕ) → next ≡ (machine world older).last + 1
        → and_opened next event ≡ (take_event (machine world older) (port_event next event)).last + 1
    next-number world older event next h =
        subst (λ (n : ℕ). and_opened n event ≡ (take_event (machine world older) (port_event n event)).last + 1) (sym h)
        (opened-suc (machine world older).last event ∙ ap (λ (n : ℕ). n + 1) (sym (event-last (machine world older) event)))

pub script-runs : (world : World) (events : List Event) → runs (machine world []) events ≡ script_machine world events
unfolding machine
script-runs world events = sym (newest-runs world events [] 1 refl)

last-count : (last : ℕ) (event : Event) (later : List Event) → and_opened last event + count_by opens later ≡ last + count_by opens (event ∷ later)
last-count last (Opens kind) later = omega (arith, sum_by-cons (λ (e : Event). cond (opens e) 1 0) (Opens kind) later)
last-count last (Piece number bytes at) later = omega (arith, sum_by-cons (λ (e : Event). cond (opens e) 1 0) (Piece number bytes at) later)
last-count last (Ends number) later = omega (arith, sum_by-cons (λ (e : Event). cond (opens e) 1 0) (Ends number) later)
last-count last (Loses number) later = omega (arith, sum_by-cons (λ (e : Event). cond (opens e) 1 0) (Loses number) later)

runs-last : (m : Machine) (left : List Event) → (runs m left).last ≡ m.last + count_by opens left
runs-last m [] = omega arith
runs-last m (event ∷ later) =
    runs-last (take_event m (port_event (m.last + 1) event)) later
    ∙ ap (λ (n : ℕ). n + count_by opens later) (event-last m event)
    ∙ last-count m.last event later

-- Before a session opens there is a number for it.
pub numbers-last : (kind : Kind) (later : List Event) (closed may lost : ℕ → Bool) (m goal : Machine) → Leads (Opens kind ∷ later) closed may lost m goal → m.last < goal.last
numbers-last kind later closed may lost m goal l =
    let e : goal.last ≡ m.last + count_by opens (Opens kind ∷ later) = ap (λ (x : Machine). x.last) (sym l.whole) ∙ runs-last m (Opens kind ∷ later) in
    omega (arith, e, last-count m.last (Opens kind) later)

pub script-last : (world : World) (events : List Event) → (script_machine world events).last ≡ count_by opens events
unfolding machine
script-last world events = ap (λ (x : Machine). x.last) (sym (script-runs world events)) ∙ runs-last (machine world []) events ∙ (omega arith)

and-parts : (a b : Bool) → a && b ≡ true → (a ≡ true) × (b ≡ true)
and-parts true b h = (refl, h)
and-parts false b h = absurd (cc)

count-more : (before : List Event) (event : Event) → count_by opens (before ++ event ∷ []) ≡ and_opened (count_by opens before) event
count-more before event =
    omega (arith, sum_by-append (λ (e : Event). cond (opens e) 1 0) before (event ∷ []), last-count (count_by opens before) event [])

-- A session that is open was opened.
linked-here : (before : List Event) (number : ℕ) → IsTrue (is_opened before number) → IsLinked (λ n. false) (count_by opens before) number
linked-here before number o =
    let parts = and-parts (nat_lt 0 number && nat_le number (count_by opens before)) _ o in
    let two = and-parts (nat_lt 0 number) (nat_le number (count_by opens before)) parts.0 in
    record { above = grind (arith, nat_tests, two.0); opened = grind (arith, nat_tests, two.1); kept = refl }

next-here : (before : List Event) (event : Event) → IsOnOpen before event → IsPiece event → IsNext (λ number. false) (count_by opens before) event
next-here before (Opens kind) o p = tt
next-here before (Piece number bytes at) o p = (linked-here before number o, p.1)
next-here before (Ends number) o p = linked-here before number o
next-here before (Loses number) o p = linked-here before number o

next-from : (before left : List Event) → AreOnOpen before left → All IsPiece left → AreNext (λ number. false) (count_by opens before) left
next-from before [] o p = tt
next-from before (event ∷ later) o p = (
  next-here before event o.0 (All-head IsPiece event later p),
  subst (λ (n : ℕ). AreNext (λ number. false) n later) (count-more before event)
      (next-from (before ++ event ∷ []) later o.1 (All-tail IsPiece event later p)),
)

next-start : (world : World) (events : List Event) → AreEvents events → AreNext (λ number. false) (machine world []).last events
unfolding machine
next-start world events are = next-from [] events are.on_open are.pieces

numbered-start : (world : World) → AreNumbered 0 (machine world []).sessions (machine world []).last
unfolding machine
numbered-start world = refl

pub leads-start : (world : World) (events : List Event) → AreEvents events
    → Leads events (λ number. false) (λ number. has_loss number events) (λ number. false) (machine world []) (script_machine world events)
leads-start world events are = record {
  whole = script-runs world events;
  next = next-start world events are;
  numbered = numbered-start world;
  losses = record { were = λ number e. absurd (cc); will = λ number e. e };
}
