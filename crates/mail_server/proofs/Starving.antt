-- A round whose calls the script answers up to one from which on they give nothing: the changes that were made by then are the first
-- ones of the script.
use Rattle.std.proofs.Common.{ℕ, zero, suc, ◌+◌, ◌-◌, ◌^◌, nat_eq, Bool, true, false, List, [], ◌∷◌, ◌++◌, Option, Some, None, map, length, take, ◌≡◌, refl, ap, sym, ◌∙◌, subst, inl, inr, ◌⊎◌}
use Rattle.port_model.specs.declared.calls.PortCall.{PortCall}
use Rattle.port_model.specs.declared.calls.PortCall.TheVariants.{Accept, Read, Send, Close}
use Rattle.port_model.specs.declared.calls.PortSend.{PortSend}
use Rattle.port_model.specs.declared.calls.PortSend.TheVariants.{Took, Lost as SendLost}
use Rattle.port_model.specs.declared.calls.ReadAnswer.{ReadAnswer}
use Rattle.port_model.specs.declared.calls.ReadAnswer.TheVariants.{Gave, Quiet, Ended as HasEnded, Lost as WasLost}
use Rattle.port_model.specs.declared.events.Event.{Event}
use Rattle.port_model.specs.Chain.{Chain}
use Rattle.port_model.specs.History.{PortEvent, Opened, Piece, Ended, Lost, event_of, events}
use Rattle.port_model.specs.Script.{AreEvents}
use Rattle.port_model.specs.ScriptPorts.{GiveNothing, IsPlayedUntil}
use Rattle.imap_steps.specs.Stepping.{World, Shared}
use Rattle.mail_model.specs.Machine.{Machine, Made, Session, after, behind, leaves, machine, session_at, takes}
use Rattle.mail_rounds.specs.Calls.{Due, Offers, OffersBytes, Closes, Asks, AcceptsBelow, Flushes, RoundsPart, TakesSome, clocked, dues, read_room}
use Rattle.mail_server.specs.OnScript.{IsPartway}
use Rattle.mail_server.specs.Rounds.{PlaysRounds, left_in, plan_of}
use Rattle.mail_server.proofs.Crashing.{on_partway}
use Rattle.mail_server.proofs.Progress.{rounds_keep, rounds_on}
use Rattle.mail_server.proofs.Told.{Plays, closes-maybe, reads-maybe}

-- The law that a session which leaves changes nothing.
abbrev pub Leaving : Type 0
Leaving = (shared : Shared) (session : Session) → ((leaves shared session).shared.world ≡ shared.world) × ((leaves shared session).changes ≡ [])

abbrev changes_by : World → List PortCall → List Made
changes_by first calls = (after first calls).changes

found-leaves : Leaving → (m : Machine) (found : Option Session) → (elim found as (λ (f : Option Session). Machine) [ None ↦ m | Some session ↦ takes m (leaves m.shared session) ]).changes ≡ m.changes
found-leaves law m None = refl
found-leaves law m (Some session) =
    ap (λ (made : List Made). map (behind (length (m.out (leaves m.shared session).session.number))) made ++ m.changes) (law m.shared session).1

-- Events with which no link came and no byte change nothing.
events-silent : Leaving → (first : World) (some older : List PortEvent) → GiveNothing some → (machine first (some ++ older)).changes ≡ (machine first older).changes
unfolding machine
events-silent law first [] older nothing = refl
events-silent law first (Opened number kind ∷ some) older nothing = absurd nothing
events-silent law first (Piece number bytes moment ∷ some) older nothing = absurd nothing
events-silent law first (Ended number ∷ some) older nothing =
    let before = machine first (some ++ older) in found-leaves law before (session_at number before.sessions) ∙ events-silent law first some older nothing
events-silent law first (Lost number ∷ some) older nothing =
    let before = machine first (some ++ older) in found-leaves law before (session_at number before.sessions) ∙ events-silent law first some older nothing

call-silent : Leaving → (first : World) (call : PortCall) (older : List PortCall) → GiveNothing (event_of call older) → changes_by first (call ∷ older) ≡ changes_by first older
call-silent law first call older nothing = events-silent law first (event_of call older) (events older) nothing

-- A flush changes nothing.

chain-silent : (first : World) (Step : Due → List PortCall → List PortCall → Type 0) → ((due : Due) (before later : List PortCall) → Step due before later → changes_by first later ≡ changes_by first before)
    → (list : List Due) (before later : List PortCall) → Chain Step list before later → changes_by first later ≡ changes_by first before
chain-silent first Step each [] before later c = ap (changes_by first) c
chain-silent first Step each (due ∷ list) before later c = chain-silent first Step each list c.0 later c.2 ∙ each due before c.0 c.1

send-silent : Leaving → (first : World) (number : ℕ) (bytes : List ℕ) (answer : PortSend) (before : List PortCall) → changes_by first (Send number bytes answer ∷ before) ≡ changes_by first before
send-silent law first number bytes (Took n) before = call-silent law first (Send number bytes (Took n)) before tt
send-silent law first number bytes SendLost before = call-silent law first (Send number bytes SendLost) before tt

offers-silent : Leaving → (first : World) (number : ℕ) (bytes : List ℕ) (before later : List PortCall) → OffersBytes number bytes before later → changes_by first later ≡ changes_by first before
offers-silent law first number [] before later h = ap (changes_by first) h
offers-silent law first number (byte ∷ bytes) before later h = ap (changes_by first) h.1 ∙ send-silent law first number (byte ∷ bytes) h.0 before

closes-silent : Leaving → (first : World) (due : Due) (before later : List PortCall) → Closes due before later → changes_by first later ≡ changes_by first before
closes-silent law first due before later h =
    elim (closes-maybe due.standing due.number due.unsent before later h) [
      | inl same ↦ ap (changes_by first) same
      | inr one ↦ ap (changes_by first) one.0 ∙ call-silent law first (Close due.number) before tt
    ]

flush-silent : Leaving → (first : World) (before later : List PortCall) → Flushes first before later → changes_by first later ≡ changes_by first before
flush-silent law first before later f =
    chain-silent first Closes (closes-silent law first) (dues first f.mid) f.mid later f.closes
    ∙ chain-silent first Offers (λ due a b h. offers-silent law first due.number due.unsent a b h) (dues first before) before f.mid f.offers

-- One call or two of which not all have the script's answers change nothing.

abbrev Until : List Event → List PortCall → Type 0
Until script calls = IsPlayedUntil (plan_of script) calls

-- Some calls were all answered by the script, or they changed nothing.
abbrev Silent : World → List Event → List PortCall → List PortCall → Type 0
Silent first script before later = Plays script later ⊎ (Until script before × (changes_by first later ≡ changes_by first before))

silent-same : (first : World) (script : List Event) (before later : List PortCall) → later ≡ before → Until script later → Silent first script before later
silent-same first script before later same until = inr (subst (Until script) same until, ap (changes_by first) same)

silent-one : Leaving → (first : World) (script : List Event) (call : PortCall) (before : List PortCall) → Until script (call ∷ before) → Silent first script before (call ∷ before)
silent-one law first script call before (inl plays) = inl plays
silent-one law first script call before (inr rest) = inr (rest.1, call-silent law first call before rest.0)

silent-read : Leaving → (first : World) (script : List Event) (number : ℕ) (answer : ReadAnswer) (reading : ℕ) (before : List PortCall)
    → Until script (clocked answer reading (Read number read_room answer ∷ before)) → Silent first script before (clocked answer reading (Read number read_room answer ∷ before))
silent-read law first script number (Gave bytes) reading before (inl plays) = inl plays
silent-read law first script number (Gave bytes) reading before (inr rest) = absurd rest.0
silent-read law first script number Quiet reading before until = silent-one law first script (Read number read_room Quiet) before until
silent-read law first script number HasEnded reading before until = silent-one law first script (Read number read_room HasEnded) before until
silent-read law first script number WasLost reading before until = silent-one law first script (Read number read_room WasLost) before until

silent-ask : Leaving → (first : World) (script : List Event) (due : Due) (before later : List PortCall) → Asks due before later → Until script later → Silent first script before later
silent-ask law first script due before later h until =
    elim (reads-maybe due.standing due.number due.unsent before later h) [
      | inl same ↦ silent-same first script before later same until
      | inr reads ↦ subst (Silent first script before) (sym reads.2) (silent-read law first script due.number reads.0 reads.1 before (subst (Until script) reads.2 until))
    ]

silent-accept : Leaving → (first : World) (script : List Event) (full : Bool) (last : ℕ) (before later : List PortCall) → AcceptsBelow full last before later → Until script later → Silent first script before later
silent-accept law first script true last before later h until = silent-same first script before later h until
silent-accept law first script false last before later h until =
    subst (Silent first script before) (sym h.1) (silent-one law first script (Accept (last + 1) h.0) before (subst (Until script) h.1 until))

-- Links that were asked

-- Some links were asked first, all by calls that the script answers; what was asked then changed nothing.
record AskedFirst (first : World) (script : List Event) (list : List Due) (before later : List PortCall) : Type 0 where
  asked : ℕ
  mid : List PortCall
  asks : Chain Asks (take asked list) before mid
  plays : Plays script mid
  same : changes_by first later ≡ changes_by first mid

asks-until : Leaving → (first : World) (script : List Event) (asked : ℕ) (list : List Due) (before later : List PortCall) → Chain Asks (take asked list) before later → Until script later
    → AskedFirst first script list before later ⊎ (Until script before × (changes_by first later ≡ changes_by first before))
asks-until law first script zero list before later c until = inr (subst (Until script) c until, ap (changes_by first) c)
asks-until law first script (suc asked) [] before later c until = inr (subst (Until script) c until, ap (changes_by first) c)
asks-until law first script (suc asked) (due ∷ list) before later c until =
    elim (asks-until law first script asked list c.0 later c.2 until) [
      | inl some ↦ inl (record { asked = suc some.asked; mid = some.mid; asks = (c.0, c.1, some.asks); plays = some.plays; same = some.same })
      | inr none ↦ elim (silent-ask law first script due before c.0 c.1 none.0) [
        | inl plays ↦ inl (record { asked = 1; mid = c.0; asks = (c.0, c.1, refl); plays = plays; same = none.1 })
        | inr silent ↦ inr (silent.0, none.1 ∙ silent.1)
      ]
    ]

partway-same : (first : World) (script : List Event) (before later : List PortCall) → changes_by first later ≡ changes_by first before → IsPartway first script before → IsPartway first script later
partway-same first script before later same partway = (partway.0, partway.1 ∙ ap (λ (made : List Made). partway.0 ++ made) (sym same))

pub round_partway : Leaving → (first : World) (script : List Event) (turns : ℕ) (before later : List PortCall) (had : ℕ → List ℕ) → AreEvents script → PlaysRounds first script turns before had → Plays script before
    → RoundsPart first before later → IsPlayedUntil (plan_of script) later → IsPartway first script later
round_partway law first script turns before later had are rounds plays round until = by_asks (asks-until law first script round.takes.0 (dues first round.flushed) takes.mid later takes.asks until)
  where
    takes : TakesSome round.takes.0 first round.flushed later
    takes = round.takes.1

    last : ℕ
    last = (after first round.flushed).last

    -- as far as the script answers
    as_far : (mid : List PortCall) → RoundsPart first before mid → Plays script mid → IsPartway first script mid
    as_far mid part answered = on_partway first script mid (left_in script mid) (rounds_keep first script turns before mid had are rounds part answered).whole

    by_accept : Silent first script round.flushed takes.mid → IsPartway first script takes.mid
    by_accept (inl answered) =
        as_far takes.mid (record { flushed = round.flushed; flushes = round.flushes; takes = (0, record { mid = takes.mid; accepts = takes.accepts; asks = refl }) }) answered
    by_accept (inr silent) =
        partway-same first script before takes.mid (silent.1 ∙ flush-silent law first before round.flushed round.flushes)
        (on_partway first script before (left_in script before) (rounds_on first script turns before had are rounds plays).fits.on.whole)

    by_asks : AskedFirst first script (dues first round.flushed) takes.mid later ⊎ (Until script takes.mid × (changes_by first later ≡ changes_by first takes.mid)) → IsPartway first script later
    by_asks (inl some) =
        partway-same first script some.mid later some.same
        (as_far some.mid (record { flushed = round.flushed; flushes = round.flushes; takes = (some.asked, record { mid = takes.mid; accepts = takes.accepts; asks = some.asks }) }) some.plays)
    by_asks (inr none) =
        partway-same first script takes.mid later none.1 (by_accept (silent-accept law first script (nat_eq last (2 ^ 32 - 1)) last round.flushed takes.mid takes.accepts none.0))
