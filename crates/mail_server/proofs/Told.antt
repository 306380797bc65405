-- Chains of calls on ports that play a script.
use Rattle.std.proofs.Common.{ℕ, ◌+◌, ◌<◌, ◌≤◌, ◌==◌, ◌||◌, nat_lt, nat_eq, cond, Bool, true, false, List, [], ◌∷◌, ◌++◌, Option, Some, None, Result, Ok, filter, length, drop, ◌≡◌, refl, ap, sym, ◌∙◌, subst, inl, inr, ◌⊎◌, append-nil, take_all, true≢false, arith}
use Rattle.std.proofs.lemmas.Bool.Decides.{nat_tests}
use Rattle.port_model.specs.declared.calls.Kind.{Kind}
use Rattle.port_model.specs.declared.calls.ListenFault.{ListenFault}
use Rattle.port_model.specs.declared.calls.PortSend.{PortSend}
use Rattle.port_model.specs.declared.calls.PortSend.TheVariants.{Took, Lost as SendLost}
use Rattle.port_model.specs.declared.calls.ReadAnswer.{ReadAnswer}
use Rattle.port_model.specs.declared.calls.ReadAnswer.TheVariants.{Gave, Quiet, Ended as HasEnded, Lost as WasLost}
use Rattle.port_model.specs.declared.calls.PortCall.{PortCall}
use Rattle.port_model.specs.declared.calls.PortCall.TheVariants.{Accept, Read, Now, Send, Close}
use Rattle.port_model.specs.declared.events.Event.{Event}
use Rattle.port_model.specs.declared.events.Event.TheVariants.{Opens, Piece, Ends, Loses}
use Rattle.port_model.specs.Chain.{Chain}
use Rattle.port_model.specs.Streams.{moment}
use Rattle.port_model.specs.History.{PortEvent, Opened, Piece as CamePiece, Lost as WentLost, events, sent, is_closed}
use Rattle.port_model.specs.Playing.{Playing, IsPlayed, playing, is_of, given, moment_of, after_read, after_send, after_accept, rest_of, answer_to_read, answer_to_send, answer_to_accept, loses}
use Rattle.mail_model.specs.declared.standing.Standing.{Standing}
use Rattle.mail_model.specs.declared.standing.Standing.TheVariants.{Open, Closing}
use Rattle.imap_steps.specs.Stepping.{World}
use Rattle.mail_model.specs.Machine.{Machine, machine, after, take_event, is_open, leaves}
use Rattle.mail_rounds.specs.Calls.{Due, Offers, OffersBytes, Closes, ClosesEmpty, Asks, AsksIdle, ReadsOnce, clocked, AcceptsBelow, read_room, is_lost}
use Rattle.mail_server.specs.Script.{script_machine, port_event}
use Rattle.mail_server.specs.Rounds.{plan_of, left_in, has_loss}
use Rattle.mail_server.proofs.Leads.{AreNext, Leads, IsOn}
use Rattle.mail_server.proofs.Going.{Goes, goes_same, goes_next}
use Rattle.mail_server.proofs.Scripts.{NoneOpen, leads-next, leads-close, leaves-out, numbers-last, of-last, or-cases}

-- Every call has the script's answer.
abbrev pub Plays : List Event → List PortCall → Type 0
Plays script calls = IsPlayed (plan_of script) calls

-- A step whose calls have the script's answers.
pub record Told (Step : Due → List PortCall → List PortCall → Type 0) (script : List Event) (due : Due) (before later : List PortCall) : Type 0 where
  pub step : Step due before later
  pub holds : Plays script later

-- Calls that have the script's answers at the end of a step have them before it.
abbrev pub GoesBack : (Due → List PortCall → List PortCall → Type 0) → List Event → Type 0
GoesBack Step script = (due : Due) (before later : List PortCall) → Plays script later → Step due before later → Plays script before

pub chain_back : (Step : Due → List PortCall → List PortCall → Type 0) (script : List Event) → GoesBack Step script → (list : List Due) (before later : List PortCall) → Plays script later
    → Chain Step list before later → Plays script before × Chain (Told Step script) list before later
chain_back Step script back [] before later p c = (subst (Plays script) c p, c)
chain_back Step script back (due ∷ list) before later p c =
    let rest = chain_back Step script back list c.0 later p c.2 in
    (back due before c.0 rest.0 c.1, (c.0, record { step = c.1; holds = rest.0 }, rest.1))

-- Offers

offers-bytes-back : (script : List Event) (number : ℕ) (bytes : List ℕ) (before later : List PortCall) → Plays script later → OffersBytes number bytes before later → Plays script before
offers-bytes-back script number [] before later p h = subst (Plays script) h p
offers-bytes-back script number (byte ∷ bytes) before later p h = (subst (Plays script) h.1 p).1

pub offers_back : (script : List Event) → GoesBack Offers script
offers_back script due before later p h = offers-bytes-back script due.number due.unsent before later p h

read-sends : (now_playing : Playing) (number room : ℕ) (left : List Event) → (after_read now_playing number room left).sends ≡ now_playing.sends
read-sends p number room [] = refl
read-sends p number room (event ∷ later) =
    elim (is_of number event) as (λ (b : Bool). (let q : Playing = cond b (record { left = rest_of event room ++ later; sends = p.sends; moment = Rattle.port_model.specs.Playing.moment_of event p.moment }) p in q).sends ≡ p.sends) [ true ↦ refl | false ↦ refl ]

sends-none : (script : List Event) (calls : List PortCall) → (playing (plan_of script) calls).sends ≡ []
sends-none script [] = refl
sends-none script (Accept number answer ∷ older) = sends-none script older
sends-none script (Read number room answer ∷ older) = read-sends (playing (plan_of script) older) number room (left_in script older) ∙ sends-none script older
sends-none script (Now reading ∷ older) = sends-none script older
sends-none script (Send number bytes answer ∷ older) = ap (λ (s : List ℕ). drop 1 s) (sends-none script older)
sends-none script (Close number ∷ older) = sends-none script older

-- A history by calls that leave the script as it was,
on_same : (first : World) (script : List Event) (before later : List PortCall) → left_in script later ≡ left_in script before → events later ≡ events before → is_closed later ≡ is_closed before
    → IsOn first script before → IsOn first script later
on_same first script before later left are closed on =
    subst (λ (c : ℕ → Bool). Leads (left_in script later) c (λ n. has_loss n script) (λ n. is_lost n (events later)) (machine first (events later)) (script_machine first script)) (sym closed)
    (subst (λ (es : List PortEvent). Leads (left_in script later) (is_closed before) (λ n. has_loss n script) (λ n. is_lost n es) (machine first es) (script_machine first script)) (sym are)
    (subst (λ (l : List Event). Leads l (is_closed before) (λ n. has_loss n script) (λ n. is_lost n (events before)) (after first before) (script_machine first script)) (sym left) on))

on_event : (first : World) (script : List Event) (before : List PortCall) (event : Event) (rest : List Event) → IsOn first script before → left_in script before ≡ event ∷ rest
    → (let es = port_event ((after first before).last + 1) event ∷ events before in
    Leads rest (is_closed before) (λ n. has_loss n script) (λ n. is_lost n es) (machine first es) (script_machine first script))
unfolding machine
on_event first script before event rest on e =
    leads-next event rest (is_closed before) (λ n. has_loss n script) (λ n. is_lost n (events before)) (after first before) (script_machine first script)
    (subst (λ (l : List Event). Leads l (is_closed before) (λ n. has_loss n script) (λ n. is_lost n (events before)) (after first before) (script_machine first script)) e on)

-- and by calls that take its next event.
on_next : (first : World) (script : List Event) (before later : List PortCall) (event : Event) (rest : List Event) → left_in script before ≡ event ∷ rest → left_in script later ≡ rest
    → events later ≡ port_event ((after first before).last + 1) event ∷ events before → is_closed later ≡ is_closed before
    → IsOn first script before → IsOn first script later
on_next first script before later event rest e left are closed on =
    subst (λ (c : ℕ → Bool). Leads (left_in script later) c (λ n. has_loss n script) (λ n. is_lost n (events later)) (machine first (events later)) (script_machine first script)) (sym closed)
    (subst (λ (es : List PortEvent). Leads (left_in script later) (is_closed before) (λ n. has_loss n script) (λ n. is_lost n es) (machine first es) (script_machine first script)) (sym are)
    (subst (λ (l : List Event). let es = port_event ((after first before).last + 1) event ∷ events before in
    Leads l (is_closed before) (λ n. has_loss n script) (λ n. is_lost n es) (machine first es) (script_machine first script)) (sym left) (on_event first script before event rest on e)))

send-left : (number : ℕ) (left : List Event) → loses left number ≡ false → after_send left number ≡ left
send-left number [] h = refl
send-left number (Opens kind ∷ later) h = refl
send-left number (Piece who bytes at ∷ later) h = refl
send-left number (Ends who ∷ later) h = refl
send-left number (Loses who ∷ later) h = rw h refl

send-loses : (number : ℕ) (left : List Event) → loses left number ≡ true → (rest : List Event) × (left ≡ Loses number ∷ rest) × (after_send left number ≡ rest)
send-loses number [] h = absurd (cc)
send-loses number (Opens kind ∷ later) h = absurd (cc)
send-loses number (Piece who bytes at ∷ later) h = absurd (cc)
send-loses number (Ends who ∷ later) h = absurd (cc)
send-loses number (Loses who ∷ later) h =
    let e : who ≡ number = grind (arith, nat_tests, h) in
    (later, ap (λ (n : ℕ). Loses n ∷ later) e, rw h refl)

-- What an offer of a queue leaves: all of it was sent, or the link is lost and nothing was.
pub record OffersAll (first : World) (script : List Event) (number : ℕ) (queue : List ℕ) (before later : List PortCall) : Type 0 where
  pub on : IsOn first script later
  pub shorter : length (left_in script later) ≤ length (left_in script before)
  pub out_same : (who : ℕ) → (after first later).out who ≡ (after first before).out who
  pub closed_same : (who : ℕ) → is_closed later who ≡ is_closed before who
  pub last_same : (after first later).last ≡ (after first before).last
  pub others : (who : ℕ) → (number == who) ≡ false → (sent later who ≡ sent before who) × (is_lost who (events later) ≡ is_lost who (events before))
  pub own : sent later number ≡ sent before number ++ cond (is_lost number (events later)) [] queue
  pub still : is_lost number (events later) ≡ false → is_lost number (events before) ≡ false

none-either : (lost : Bool) (bytes : List ℕ) → bytes ≡ bytes ++ cond lost [] []
none-either true bytes = sym (append-nil bytes)
none-either false bytes = sym (append-nil bytes)

offers_none : (first : World) (script : List Event) (number : ℕ) (before : List PortCall) → IsOn first script before → OffersAll first script number [] before before
offers_none first script number before on =
    record { on = on; shorter = omega arith; out_same = λ who. refl; closed_same = λ who. refl; last_same = refl; others = λ who other. (refl, refl); own = none-either (is_lost number (events before)) (sent before number); still = λ h. h }

pub itself : (number : ℕ) → (number == number) ≡ true
itself number = grind (arith, nat_tests)

offers_took : (first : World) (script : List Event) (number : ℕ) (queue : List ℕ) (before : List PortCall) → loses (left_in script before) number ≡ false → is_lost number (events before) ≡ false
    → IsOn first script before → OffersAll first script number queue before (Send number queue (Took (length queue)) ∷ before)
offers_took first script number queue before none linked on =
    let left : after_send (left_in script before) number ≡ left_in script before = send-left number (left_in script before) none in
    record {
      on = on_same first script before (Send number queue (Took (length queue)) ∷ before) left refl refl on;
      shorter = omega (arith, ap (λ (l : List Event). length l) left);
      out_same = λ who. refl;
      closed_same = λ who. refl;
      last_same = refl;
      others = λ who other. (rw other refl, refl);
      own = rw (itself number, linked) (ap (λ (bytes : List ℕ). sent before number ++ bytes) (take_all (length queue) queue (omega arith)));
      still = λ h. h;
    }

after-lost : (first : World) (calls : List PortCall) (number : ℕ) (bytes : List ℕ) → after first (Send number bytes SendLost ∷ calls) ≡ take_event (after first calls) (WentLost number)
unfolding machine
after-lost first calls number bytes = refl

offers_lost : (first : World) (script : List Event) (number : ℕ) (queue : List ℕ) (before : List PortCall) → loses (left_in script before) number ≡ true
    → IsOn first script before → OffersAll first script number queue before (Send number queue SendLost ∷ before)
offers_lost first script number queue before next on =
    let parts = send-loses number (left_in script before) next in
    record {
      on = on_next first script before (Send number queue SendLost ∷ before) (Loses number) parts.0 parts.1 parts.2 refl refl on;
      shorter = omega (arith, ap (λ (l : List Event). length l) parts.1, ap (λ (l : List Event). length l) parts.2);
      out_same = λ who. ap (λ (m : Machine). m.out who) (after-lost first before number queue) ∙ leaves-out (after first before) number who;
      closed_same = λ who. refl;
      last_same = ap (λ (m : Machine). m.last) (after-lost first before number queue) ∙ of-last (after first before) number leaves;
      others = λ who other. (rw other refl, rw other refl);
      own = rw (itself number) refl;
      still = λ h. let bad : true ≡ false = rw (itself number) at h in absurd (cc);
    }

not-true : (b : Bool) → (b ≡ true → ⊥) → b ≡ false
not-true true h = absurd (h refl)
not-true false h = refl

answer-lost : (script : List Event) (number offered : ℕ) (before : List PortCall) → loses (left_in script before) number ≡ true
    → answer_to_send (playing (plan_of script) before) number offered ≡ SendLost
answer-lost script number offered before next = rw next refl

answer-took : (script : List Event) (number offered : ℕ) (before : List PortCall) → loses (left_in script before) number ≡ false
    → answer_to_send (playing (plan_of script) before) number offered ≡ Took offered
answer-took script number offered before none = rw (none, sends-none script before) refl

told_queue : (first : World) (script : List Event) (number : ℕ) (queue : List ℕ) (before later : List PortCall) → OffersBytes number queue before later
    → Plays script later → IsOn first script before → (is_lost number (events before) ≡ true → queue ≡ []) → OffersAll first script number queue before later
told_queue first script number [] before later h p on none = subst (OffersAll first script number [] before) (sym h) (offers_none first script number before on)
told_queue first script number (byte ∷ queue) before later h p on none =
    subst (OffersAll first script number (byte ∷ queue) before) (sym h.1) (send-case (loses (left_in script before) number) refl)
  where
    played : Plays script (Send number (byte ∷ queue) h.0 ∷ before)
    played = subst (Plays script) h.1 p

    send-case : (lost : Bool) → loses (left_in script before) number ≡ lost → OffersAll first script number (byte ∷ queue) before (Send number (byte ∷ queue) h.0 ∷ before)
    send-case true next =
        subst (λ (a : PortSend). OffersAll first script number (byte ∷ queue) before (Send number (byte ∷ queue) a ∷ before))
        (sym (played.0 ∙ answer-lost script number (length (byte ∷ queue)) before next)) (offers_lost first script number (byte ∷ queue) before next on)
    send-case false next =
        let linked : is_lost number (events before) ≡ false = not-true (is_lost number (events before)) (λ lost. absurd (cc (none lost))) in
        subst (λ (a : PortSend). OffersAll first script number (byte ∷ queue) before (Send number (byte ∷ queue) a ∷ before))
        (sym (played.0 ∙ answer-took script number (length (byte ∷ queue)) before next)) (offers_took first script number (byte ∷ queue) before next linked on)

pub told_offer : (first : World) (script : List Event) (due : Due) (before later : List PortCall) → Told Offers script due before later → IsOn first script before
    → (is_lost due.number (events before) ≡ true → due.unsent ≡ []) → OffersAll first script due.number due.unsent before later
told_offer first script due before later t on none = told_queue first script due.number due.unsent before later t.step t.holds on none

-- Closes

-- What a close leaves.
pub record ClosesOn (first : World) (script : List Event) (before later : List PortCall) : Type 0 where
  pub on : IsOn first script later
  pub shorter : length (left_in script later) ≤ length (left_in script before)
  pub same : events later ≡ events before
  pub sent_same : (who : ℕ) → sent later who ≡ sent before who
  pub still : (who : ℕ) → is_closed before who ≡ true → is_closed later who ≡ true
  pub low : ((who : ℕ) → is_closed before who ≡ true → who ≤ (after first before).last) → (who : ℕ) → is_closed later who ≡ true → who ≤ (after first later).last

filter-shorter : (P : Event → Bool) (left : List Event) → length (filter P left) ≤ length left
filter-shorter P [] = omega arith
filter-shorter P (event ∷ later) =
    let rest = filter-shorter P later in
    elim (P event) as (λ (b : Bool). length (cond b (event ∷ filter P later) (filter P later)) ≤ length (event ∷ later)) [ true ↦ omega (arith, rest) | false ↦ omega (arith, rest) ]

or-true : (a b : Bool) → b ≡ true → a || b ≡ true
or-true true b h = refl
or-true false b h = h

-- a session that isn't open, the only one of its number
pub record IsShut (m : Machine) (number : ℕ) : Type 0 where
  pub shut : NoneOpen number m.sessions
  pub within : number ≤ m.last

closes_one : (first : World) (script : List Event) (number : ℕ) (before : List PortCall) → IsShut (after first before) number → IsOn first script before → ClosesOn first script before (Close number ∷ before)
closes_one first script number before s on =
    record {
      on = leads-close number (left_in script before) (is_closed before) (λ n. has_loss n script) (λ n. is_lost n (events before)) (after first before) (script_machine first script) s.shut s.within on;
      shorter = filter-shorter _ (left_in script before);
      same = refl;
      sent_same = λ who. refl;
      still = λ who h. or-true (number == who) (is_closed before who) h;
      low = λ was who h. or-cases (number == who) (is_closed before who) h
          (λ its. let e : number ≡ who = grind (arith, nat_tests, its) in omega (arith, e, s.within)) (was who);
    }

pub closes_none : (first : World) (script : List Event) (before : List PortCall) → IsOn first script before → ClosesOn first script before before
closes_none first script before on = record { on = on; shorter = omega arith; same = refl; sent_same = λ who. refl; still = λ who h. h; low = λ was. was }

-- A step closes a link that isn't open, or nothing happens.
pub closes-maybe : (standing : Standing) (number : ℕ) (bytes : List ℕ) (before later : List PortCall) → ClosesEmpty standing number bytes before later
    → (later ≡ before) ⊎ ((later ≡ Close number ∷ before) × (is_open standing ≡ false))
closes-maybe Open number bytes before later h = inl h
closes-maybe Closing number (byte ∷ bytes) before later h = inl h
closes-maybe Closing number [] before later h = inr (h, refl)

pub closes_back : (script : List Event) → GoesBack Closes script
closes_back script due before later p h =
    elim (closes-maybe due.standing due.number due.unsent before later h) [ inl same ↦ subst (Plays script) same p | inr one ↦ (subst (Plays script) one.0 p).1 ]

pub told_close : (first : World) (script : List Event) (due : Due) (before later : List PortCall) → Told Closes script due before later → (is_open due.standing ≡ false → IsShut (after first before) due.number)
    → IsOn first script before → ClosesOn first script before later
told_close first script due before later t shut on =
    elim (closes-maybe due.standing due.number due.unsent before later t.step) [
      | inl same ↦ subst (ClosesOn first script before) (sym same) (closes_none first script before on)
      | inr one ↦ subst (ClosesOn first script before) (sym one.0) (closes_one first script due.number before (shut one.1) on)
    ]

-- A link that isn't open and has nothing to send is closed.
closes-empty : (standing : Standing) (number : ℕ) (bytes : List ℕ) (before later : List PortCall) → is_open standing ≡ false → bytes ≡ []
    → ClosesEmpty standing number bytes before later → later ≡ Close number ∷ before
closes-empty Open number bytes before later shut none h = absurd (cc)
closes-empty Closing number [] before later shut none h = h
closes-empty Closing number (byte ∷ bytes) before later shut none h = absurd (cc)

pub told_closed : (script : List Event) (due : Due) (before later : List PortCall) → Told Closes script due before later
    → is_open due.standing ≡ false → due.unsent ≡ [] → is_closed later due.number ≡ true
told_closed script due before later t shut none =
    rw (closes-empty due.standing due.number due.unsent before later shut none t.step) (rw (itself due.number) refl)

-- Reads

-- whether the next event happens on the session of a number
abbrev pub begins : ℕ → List Event → Bool
begins number [] = false
begins number (event ∷ later) = is_of number event

-- What a call that takes an event leaves, where this tells whether it is its turn.
pub record TakesNext (first : World) (script : List Event) (turn : Bool) (before later : List PortCall) : Type 0 where
  pub on : IsOn first script later
  pub shorter : length (left_in script later) ≤ length (left_in script before)
  pub same : turn ≡ false → left_in script later ≡ left_in script before
  pub takes : turn ≡ true → length (left_in script later) < length (left_in script before)
  pub goes : Goes first before later

takes_none : (first : World) (script : List Event) (before : List PortCall) → IsOn first script before → TakesNext first script false before before
takes_none first script before on =
    record { on = on; shorter = omega arith; same = λ h. refl; takes = λ h. absurd (cc); goes = goes_same first before before refl (λ who. refl) (λ who. refl) }

read_played : (script : List Event) (number : ℕ) (answer : ReadAnswer) (reading : ℕ) (before : List PortCall)
    → Plays script (clocked answer reading (Read number read_room answer ∷ before)) → Plays script (Read number read_room answer ∷ before)
read_played script number (Gave bytes) reading before p = p.1
read_played script number Quiet reading before p = p
read_played script number HasEnded reading before p = p
read_played script number WasLost reading before p = p

pub reads-maybe : (standing : Standing) (number : ℕ) (bytes : List ℕ) (before later : List PortCall) → AsksIdle standing number bytes before later → (later ≡ before) ⊎ ReadsOnce number before later
reads-maybe Open number [] before later h = inr h
reads-maybe Open number (byte ∷ bytes) before later h = inl h
reads-maybe Closing number bytes before later h = inl h

pub asks_back : (script : List Event) → GoesBack Asks script
asks_back script due before later p h =
    elim (reads-maybe due.standing due.number due.unsent before later h) [
      | inl same ↦ subst (Plays script) same p
      | inr reads ↦ (read_played script due.number reads.0 reads.1 before (subst (Plays script) reads.2 p)).1
    ]

-- What calls leave that take the next event of a script, or none.

takes_event : (first : World) (script : List Event) (before later : List PortCall) (event : Event) (rest : List Event) → left_in script before ≡ event ∷ rest → left_in script later ≡ rest
    → events later ≡ port_event ((after first before).last + 1) event ∷ events before → is_closed later ≡ is_closed before → ((who : ℕ) → sent later who ≡ sent before who)
    → IsOn first script before → TakesNext first script true before later
takes_event first script before later event rest e left are closed sends on = record {
  on = on_next first script before later event rest e left are closed on;
  shorter = omega (arith, ap (λ (l : List Event). length l) left, ap (λ (l : List Event). length l) e);
  same = λ h. absurd (true≢false h);
  takes = λ h. omega (arith, ap (λ (l : List Event). length l) left, ap (λ (l : List Event). length l) e);
  goes = goes_next first before later event (subst (AreNext (is_closed before) (after first before).last) e on.next).0 are sends closed;
}

takes_nothing : (first : World) (script : List Event) (before later : List PortCall) → left_in script later ≡ left_in script before → events later ≡ events before → is_closed later ≡ is_closed before
    → ((who : ℕ) → sent later who ≡ sent before who) → IsOn first script before → TakesNext first script false before later
takes_nothing first script before later left are closed sends on = record {
  on = on_same first script before later left are closed on;
  shorter = omega (arith, ap (λ (l : List Event). length l) left);
  same = λ h. left;
  takes = λ h. absurd (true≢false (sym h));
  goes = goes_same first before later are sends (λ who. ap (λ (c : ℕ → Bool). c who) closed);
}

fits-whole : (room : ℕ) (who : ℕ) (bytes : List ℕ) (at : ℕ) → length bytes ≤ room → rest_of (Piece who bytes at) room ≡ []
fits-whole room who bytes at h = let no : nat_lt room (length bytes) ≡ false = grind (arith, nat_tests) in rw no refl

-- a read of the link that the next event is of, where the buffer has room for all of it
read-left : (p : Playing) (number room : ℕ) (event : Event) (later left : List Event) → is_of number event ≡ true → rest_of event room ≡ [] → left ≡ event ∷ later
    → ((after_read p number room left).left ≡ later) × (answer_to_read left number room ≡ given event room) × ((after_read p number room left).moment ≡ moment_of event p.moment)
read-left p number room event later left its whole e =
    subst (λ (l : List Event). ((after_read p number room l).left ≡ later) × (answer_to_read l number room ≡ given event room) × ((after_read p number room l).moment ≡ moment_of event p.moment)) (sym e)
    (rw (its, whole) (refl, refl, refl))

-- a read of a link that the next event isn't of
read-none : (p : Playing) (number room : ℕ) (left : List Event) → begins number left ≡ false → (after_read p number room left ≡ p) × (answer_to_read left number room ≡ Quiet)
read-none p number room [] h = (refl, refl)
read-none p number room (event ∷ later) h = rw h (refl, refl)

told_quiet : (first : World) (script : List Event) (number : ℕ) (answer : ReadAnswer) (reading : ℕ) (before : List PortCall)
    → Plays script (clocked answer reading (Read number read_room answer ∷ before)) → IsOn first script before → begins number (left_in script before) ≡ false
    → TakesNext first script false before (clocked answer reading (Read number read_room answer ∷ before))
told_quiet first script number answer reading before p on h =
    let nothing = read-none (playing (plan_of script) before) number read_room (left_in script before) h in
    let answered : answer ≡ Quiet = (read_played script number answer reading before p).0 ∙ nothing.1 in
    subst (λ (a : ReadAnswer). TakesNext first script false before (clocked a reading (Read number read_room a ∷ before))) (sym answered)
    (takes_nothing first script before (Read number read_room Quiet ∷ before) (ap (λ (q : Playing). q.left) nothing.0) refl refl (λ who. refl) on)

told_piece : (first : World) (script : List Event) (number : ℕ) (answer : ReadAnswer) (reading : ℕ) (bytes : List ℕ) (at : ℕ) (later : List Event) (before : List PortCall)
    → Plays script (clocked answer reading (Read number read_room answer ∷ before)) → IsOn first script before → left_in script before ≡ Piece number bytes at ∷ later
    → TakesNext first script true before (clocked answer reading (Read number read_room answer ∷ before))
told_piece first script number answer reading bytes at later before p on e =
    let next : AreNext (is_closed before) (after first before).last (Piece number bytes at ∷ later) = subst (AreNext (is_closed before) (after first before).last) e on.next in
    let read = read-left (playing (plan_of script) before) number read_room (Piece number bytes at) later (left_in script before) (itself number) (fits-whole read_room number bytes at next.0.1) e in
    let answered : answer ≡ Gave bytes = (read_played script number answer reading before p).0 ∙ read.1 ∙ ap (λ (b : List ℕ). Gave b) (take_all read_room bytes next.0.1) in
    let played : Plays script (Now reading ∷ Read number read_room (Gave bytes) ∷ before) =
    subst (λ (a : ReadAnswer). Plays script (clocked a reading (Read number read_room a ∷ before))) answered p in
    let its : reading ≡ at = played.0 ∙ read.2 in
    subst (λ (a : ReadAnswer). TakesNext first script true before (clocked a reading (Read number read_room a ∷ before))) (sym answered)
    (takes_event first script before (Now reading ∷ Read number read_room (Gave bytes) ∷ before) (Piece number bytes at) later e read.0
    (ap (λ (r : ℕ). CamePiece number bytes (moment r) ∷ events before) its) refl (λ who. refl) on)

told_end : (first : World) (script : List Event) (number : ℕ) (answer : ReadAnswer) (reading : ℕ) (later : List Event) (before : List PortCall)
    → Plays script (clocked answer reading (Read number read_room answer ∷ before)) → IsOn first script before → left_in script before ≡ Ends number ∷ later
    → TakesNext first script true before (clocked answer reading (Read number read_room answer ∷ before))
told_end first script number answer reading later before p on e =
    let read = read-left (playing (plan_of script) before) number read_room (Ends number) later (left_in script before) (itself number) refl e in
    let answered : answer ≡ HasEnded = (read_played script number answer reading before p).0 ∙ read.1 in
    subst (λ (a : ReadAnswer). TakesNext first script true before (clocked a reading (Read number read_room a ∷ before))) (sym answered)
    (takes_event first script before (Read number read_room HasEnded ∷ before) (Ends number) later e read.0 refl refl (λ who. refl) on)

told_loss : (first : World) (script : List Event) (number : ℕ) (answer : ReadAnswer) (reading : ℕ) (later : List Event) (before : List PortCall)
    → Plays script (clocked answer reading (Read number read_room answer ∷ before)) → IsOn first script before → left_in script before ≡ Loses number ∷ later
    → TakesNext first script true before (clocked answer reading (Read number read_room answer ∷ before))
told_loss first script number answer reading later before p on e =
    let read = read-left (playing (plan_of script) before) number read_room (Loses number) later (left_in script before) (itself number) refl e in
    let answered : answer ≡ WasLost = (read_played script number answer reading before p).0 ∙ read.1 in
    subst (λ (a : ReadAnswer). TakesNext first script true before (clocked a reading (Read number read_room a ∷ before))) (sym answered)
    (takes_event first script before (Read number read_room WasLost ∷ before) (Loses number) later e read.0 refl refl (λ who. refl) on)

told_next : (first : World) (script : List Event) (number : ℕ) (answer : ReadAnswer) (reading : ℕ) (before : List PortCall)
    → Plays script (clocked answer reading (Read number read_room answer ∷ before)) → IsOn first script before
    → (left : List Event) → left_in script before ≡ left → (turn : Bool) → begins number left ≡ turn
    → TakesNext first script turn before (clocked answer reading (Read number read_room answer ∷ before))
told_next first script number answer reading before p on left e false h =
    told_quiet first script number answer reading before p on (subst (λ (l : List Event). begins number l ≡ false) (sym e) h)
told_next first script number answer reading before p on [] e true h = absurd (cc)
told_next first script number answer reading before p on (Opens kind ∷ later) e true h = absurd (cc)
told_next first script number answer reading before p on (Piece who bytes at ∷ later) e true h =
    let own : who ≡ number = grind (arith, nat_tests, h) in
    told_piece first script number answer reading bytes at later before p on (e ∙ ap (λ (n : ℕ). Piece n bytes at ∷ later) own)
told_next first script number answer reading before p on (Ends who ∷ later) e true h =
    let own : who ≡ number = grind (arith, nat_tests, h) in
    told_end first script number answer reading later before p on (e ∙ ap (λ (n : ℕ). Ends n ∷ later) own)
told_next first script number answer reading before p on (Loses who ∷ later) e true h =
    let own : who ≡ number = grind (arith, nat_tests, h) in
    told_loss first script number answer reading later before p on (e ∙ ap (λ (n : ℕ). Loses n ∷ later) own)

-- A link that is asked takes the next event, if it is its own.
told_read : (first : World) (script : List Event) (number : ℕ) (before later : List PortCall) → ReadsOnce number before later → Plays script later → IsOn first script before
    → TakesNext first script (begins number (left_in script before)) before later
told_read first script number before later h p on =
    subst (TakesNext first script (begins number (left_in script before)) before) (sym h.2)
    (told_next first script number h.0 h.1 before (subst (Plays script) h.2 p) on (left_in script before) refl (begins number (left_in script before)) refl)

-- A link that isn't asked takes nothing, and one that is takes the next event, if it is its own.
pub told_ask : (first : World) (script : List Event) (due : Due) (before later : List PortCall) → Told Asks script due before later → IsOn first script before
    → TakesNext first script false before later ⊎ TakesNext first script (begins due.number (left_in script before)) before later
told_ask first script due before later t on =
    elim (reads-maybe due.standing due.number due.unsent before later t.step) [
      | inl same ↦ inl (subst (TakesNext first script false before) (sym same) (takes_none first script before on))
      | inr reads ↦ inr (told_read first script due.number before later reads t.holds on)
    ]

asks-open : (standing : Standing) (number : ℕ) (bytes : List ℕ) (before later : List PortCall) → is_open standing ≡ true → bytes ≡ []
    → AsksIdle standing number bytes before later → ReadsOnce number before later
asks-open Open number [] before later opened none h = h
asks-open Open number (byte ∷ bytes) before later opened none h = absurd (cc)
asks-open Closing number bytes before later opened none h = absurd (cc)

-- A link that is open and has nothing to send takes the next event, if it is its own.
pub told_idle : (first : World) (script : List Event) (due : Due) (before later : List PortCall) → Told Asks script due before later → IsOn first script before
    → is_open due.standing ≡ true → due.unsent ≡ [] → TakesNext first script (begins due.number (left_in script before)) before later
told_idle first script due before later t on opened none =
    told_read first script due.number before later (asks-open due.standing due.number due.unsent before later opened none t.step) t.holds on

-- Accepts

-- whether the next event opens a session
abbrev pub begins_open : List Event → Bool
begins_open [] = false
begins_open (Opens kind ∷ later) = true
begins_open (Piece number bytes at ∷ later) = false
begins_open (Ends number ∷ later) = false
begins_open (Loses number ∷ later) = false

pub accepts_back : (script : List Event) (full : Bool) (last : ℕ) (before later : List PortCall) → Plays script later → AcceptsBelow full last before later → Plays script before
accepts_back script true last before later p h = subst (Plays script) h p
accepts_back script false last before later p h = (subst (Plays script) h.1 p).1

accept-quiet : (left : List Event) → begins_open left ≡ false → (answer_to_accept left ≡ None) × (after_accept left ≡ left)
accept-quiet [] h = (refl, refl)
accept-quiet (Opens kind ∷ later) h = absurd (cc)
accept-quiet (Piece number bytes at ∷ later) h = (refl, refl)
accept-quiet (Ends number ∷ later) h = (refl, refl)
accept-quiet (Loses number ∷ later) h = (refl, refl)

accepts_none : (first : World) (script : List Event) (number : ℕ) (answer : Result (Option Kind) ListenFault) (before : List PortCall) → Plays script (Accept number answer ∷ before) → IsOn first script before
    → begins_open (left_in script before) ≡ false → TakesNext first script false before (Accept number answer ∷ before)
accepts_none first script number answer before p on h =
    let nothing = accept-quiet (left_in script before) h in
    let answered : answer ≡ Ok None = p.0 ∙ ap (λ (found : Option Kind). Ok found) nothing.0 in
    subst (λ (a : Result (Option Kind) ListenFault). TakesNext first script false before (Accept number a ∷ before)) (sym answered)
    (takes_nothing first script before (Accept number (Ok None) ∷ before) nothing.1 refl refl (λ who. refl) on)

accepts_some : (first : World) (script : List Event) (number : ℕ) (answer : Result (Option Kind) ListenFault) (kind : Kind) (later : List Event) (before : List PortCall)
    → Plays script (Accept number answer ∷ before) → IsOn first script before
    → left_in script before ≡ Opens kind ∷ later → number ≡ (after first before).last + 1
    → TakesNext first script true before (Accept number answer ∷ before)
accepts_some first script number answer kind later before p on e its =
    let answered : answer ≡ Ok (Some kind) = p.0 ∙ ap (λ (l : List Event). Ok (answer_to_accept l)) e in
    subst (λ (a : Result (Option Kind) ListenFault). TakesNext first script true before (Accept number a ∷ before)) (sym answered)
    (takes_event first script before (Accept number (Ok (Some kind)) ∷ before) (Opens kind) later e (ap (λ (l : List Event). after_accept l) e)
    (ap (λ (n : ℕ). Opened n kind ∷ events before) its) refl (λ who. refl) on)

accept-answered : (first : World) (script : List Event) (number : ℕ) (answer : Result (Option Kind) ListenFault) (before : List PortCall) → Plays script (Accept number answer ∷ before) → IsOn first script before
    → number ≡ (after first before).last + 1 → (left : List Event) → left_in script before ≡ left
    → TakesNext first script (begins_open left) before (Accept number answer ∷ before)
accept-answered first script number answer before p on its [] e = accepts_none first script number answer before p on (ap begins_open e)
accept-answered first script number answer before p on its (Opens kind ∷ later) e = accepts_some first script number answer kind later before p on e its
accept-answered first script number answer before p on its (Piece who bytes at ∷ later) e = accepts_none first script number answer before p on (ap begins_open e)
accept-answered first script number answer before p on its (Ends who ∷ later) e = accepts_none first script number answer before p on (ap begins_open e)
accept-answered first script number answer before p on its (Loses who ∷ later) e = accepts_none first script number answer before p on (ap begins_open e)

accept-full : (first : World) (script : List Event) (before : List PortCall) → IsOn first script before → (script_machine first script).last ≤ (after first before).last
    → (left : List Event) → left_in script before ≡ left → TakesNext first script (begins_open left) before before
accept-full first script before on full [] e = takes_none first script before on
accept-full first script before on full (Opens kind ∷ later) e =
    let room = numbers-last kind later (is_closed before) (λ n. has_loss n script) (λ n. is_lost n (events before)) (after first before) (script_machine first script)
    (subst (λ (l : List Event). Leads l (is_closed before) (λ n. has_loss n script) (λ n. is_lost n (events before)) (after first before) (script_machine first script)) e on) in
    absurd (omega (arith, room, full))
accept-full first script before on full (Piece who bytes at ∷ later) e = takes_none first script before on
accept-full first script before on full (Ends who ∷ later) e = takes_none first script before on
accept-full first script before on full (Loses who ∷ later) e = takes_none first script before on

-- An accept takes the next event, if it opens a session.
pub told_accept : (first : World) (script : List Event) (full : Bool) (limit last : ℕ) (before later : List PortCall) → nat_eq last limit ≡ full → (script_machine first script).last ≤ limit
    → AcceptsBelow full last before later → last ≡ (after first before).last → Plays script later → IsOn first script before
    → TakesNext first script (begins_open (left_in script before)) before later
told_accept first script true limit last before later test numbers h latest p on =
    let at_limit : last ≡ limit = grind (arith, nat_tests, test) in
    subst (TakesNext first script (begins_open (left_in script before)) before) (sym h)
    (accept-full first script before on (omega arith) (left_in script before) refl)
told_accept first script false limit last before later test numbers h latest p on =
    subst (TakesNext first script (begins_open (left_in script before)) before) (sym h.1)
    (accept-answered first script (last + 1) h.0 before (subst (Plays script) h.1 p) on (ap (λ (n : ℕ). n + 1) latest) (left_in script before) refl)
