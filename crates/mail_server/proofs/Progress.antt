-- Each round takes an event of a script, and what the machine answered is sent.
use Rattle.std.proofs.Common.{ℕ, zero, suc, ◌+◌, ◌-◌, ◌^◌, ◌<◌, ◌≤◌, ◌==◌, ◌≢◌, nat_eq, cond, Bool, true, false, List, [], ◌∷◌, ◌++◌, Option, Some, None, map, filter, length, drop, take, ◌≡◌, refl, ap, sym, ◌∙◌, subst, inl, inr, ◌⊎◌, append-nil, append_assoc, take_all, true≢false, arith}
use Rattle.std.proofs.Math.Seq.{drop-append_seam}
use Rattle.std.proofs.lemmas.Option.{same_Some}
use Rattle.std.proofs.lemmas.Bool.Decides.{eqb_tells, leb_tells, nat_tests}
use Rattle.port_model.specs.declared.calls.PortCall.{PortCall}
use Rattle.port_model.specs.declared.events.Event.{Event}
use Rattle.port_model.specs.declared.events.Event.TheVariants.{Opens, Piece, Ends, Loses}
use Rattle.port_model.specs.Chain.{Chain}
use Rattle.port_model.specs.History.{PortEvent, events, sent, is_closed}
use Rattle.port_model.specs.Script.{AreEvents}
use Rattle.imap_steps.specs.Stepping.{World}
use Rattle.mail_model.specs.Machine.{Machine, Session, machine, after, is_open, session_at}
use Rattle.mail_rounds.specs.Calls.{Due, Offers, Closes, Asks, Flushes, Takes, RoundsPart, is_kept, is_lost, unsent, due_to, dues}
use Rattle.mail_server.specs.Script.{script_machine}
use Rattle.mail_server.specs.Rounds.{left_in, has_loss, reached, PlaysRounds, PlaysBy, PlaysOut}
use Rattle.mail_server.proofs.Leads.{IsLinked, AreNext, AreNumbered, Leads, IsOn}
use Rattle.mail_server.proofs.Going.{Aside, Goes, goes_same, goes_on}
use Rattle.mail_server.proofs.Scripts.{NoneOpen, numbered-finds, number-found, leads-start, script-last}
use Rattle.mail_server.proofs.Told.{Told, Plays, chain_back, OffersAll, offers_back, told_offer, IsShut, ClosesOn, closes_none, closes_back, told_close, told_closed, itself, begins, begins_open, TakesNext, asks_back, told_ask, told_idle, accepts_back, told_accept}

-- Sessions by number

In : Session → List Session → Type 0
In session [] = ⊥
In session (other ∷ others) = (other ≡ session) ⊎ In session others

-- the sessions whose links aren't closed
abbrev linked : World → List PortCall → List Session
linked first calls = filter (is_kept calls) (after first calls).sessions

found-in : (history : List PortCall) (number : ℕ) (sessions : List Session) (session : Session) → session_at number sessions ≡ Some session → is_closed history number ≡ false
    → In session (filter (is_kept history) sessions)
unfolding In
found-in history number [] session e kept = absurd (cc)
found-in history number (other ∷ others) session e kept =
    elim (eqb_tells other.number number) [
      | inl p ↦
          let its : is_closed history other.number ≡ false = subst (λ (n : ℕ). is_closed history n ≡ false) (sym p.1) kept in
          rw its (inl (same_Some other session (rw p.0 at e)))
      | inr q ↦
          let rest = found-in history number others session (rw q.0 at e) kept in
          elim (is_kept history other) as (λ (b : Bool). In session (cond b (other ∷ filter (is_kept history) others) (filter (is_kept history) others))) [ true ↦ inr rest | false ↦ rest ]
    ]

none-in : (number : ℕ) (sessions : List Session) (session : Session) → session_at number sessions ≡ None → In session sessions → session.number ≡ number → ⊥
unfolding In
none-in number [] session e has its = has
none-in number (other ∷ others) session e has its =
    elim (eqb_tells other.number number) [
      | inl p ↦ let bad : Some other ≡ None = rw p.0 at e in cc
      | inr q ↦ elim has [
        | inl is ↦ q.1 (ap (λ (s : Session). s.number) is ∙ its)
        | inr more ↦ none-in number others session (rw q.0 at e) more its
      ]
    ]

-- The numbers rise from above a bound.
Rising : ℕ → List Session → Type 0
Rising low [] = Unit {0}
Rising low (session ∷ sessions) = (low < session.number) × Rising session.number sessions

rising-lower : (low low' : ℕ) (sessions : List Session) → low ≤ low' → Rising low' sessions → Rising low sessions
unfolding Rising
rising-lower low low' [] le h = tt
rising-lower low low' (session ∷ sessions) le h = (omega (arith, h.0), h.1)

rising-kept : (P : Session → Bool) (before last : ℕ) (sessions : List Session) → AreNumbered before sessions last → Rising before (filter P sessions)
unfolding Rising
rising-kept P before last [] h = tt
rising-kept P before last (session ∷ sessions) h =
    let rest = rising-kept P (before + 1) last sessions h.1 in
    elim (P session) as (λ (b : Bool). Rising before (cond b (session ∷ filter P sessions) (filter P sessions))) [
      | true ↦ (omega (arith, h.0), subst (λ (n : ℕ). Rising n (filter P sessions)) (sym h.0) rest)
      | false ↦ rising-lower before (before + 1) (filter P sessions) (omega arith) rest
    ]

-- what is due to the session of a number
abbrev owed : (ℕ → List ℕ) → ℕ → List Session → List ℕ
owed bytes number [] = []
owed bytes number (session ∷ sessions) = cond (session.number == number) (bytes session.number) (owed bytes number sessions)

owed-below : (bytes : ℕ → List ℕ) (number low : ℕ) (sessions : List Session) → Rising low sessions → number ≤ low → owed bytes number sessions ≡ []
unfolding Rising
owed-below bytes number low [] h below = refl
owed-below bytes number low (session ∷ sessions) h below =
    let other : (session.number == number) ≡ false = grind (arith, nat_tests, h.0) in
    rw other (owed-below bytes number session.number sessions h.1 (omega (arith, h.0)))

owed-nothing : (bytes : ℕ → List ℕ) (number : ℕ) (sessions : List Session) → bytes number ≡ [] → owed bytes number sessions ≡ []
owed-nothing bytes number [] e = refl
owed-nothing bytes number (session ∷ sessions) e =
    elim (eqb_tells session.number number) [
      | inl p ↦ rw p.0 (ap bytes p.1 ∙ e)
      | inr q ↦ rw q.0 (owed-nothing bytes number sessions e)
    ]

owed-none : (bytes : ℕ → List ℕ) (number : ℕ) (sessions : List Session) → session_at number sessions ≡ None → owed bytes number sessions ≡ []
owed-none bytes number [] e = refl
owed-none bytes number (session ∷ sessions) e =
    elim (eqb_tells session.number number) [
      | inl p ↦ let bad : Some session ≡ None = rw p.0 at e in cc
      | inr q ↦ rw q.0 (owed-none bytes number sessions (rw q.0 at e))
    ]

owed-some : (bytes : ℕ → List ℕ) (number : ℕ) (sessions : List Session) (found : Session) → session_at number sessions ≡ Some found → owed bytes number sessions ≡ bytes number
owed-some bytes number [] found e = absurd (cc)
owed-some bytes number (session ∷ sessions) found e =
    elim (eqb_tells session.number number) [
      | inl p ↦ rw p.0 (ap bytes p.1)
      | inr q ↦ rw q.0 (owed-some bytes number sessions found (rw q.0 at e))
    ]

-- A history in the middle of a script: what was sent with what is due is what the machine answered, unless a link is lost.
pub record Fits (first : World) (script : List Event) (calls : List PortCall) : Type 0 where
  pub on : IsOn first script calls
  pub owes : (number : ℕ) → is_lost number (events calls) ≡ false → sent calls number ++ owed (unsent first calls) number (linked first calls) ≡ (after first calls).out number
  pub front : (number : ℕ) → (rest : List ℕ) × ((after first calls).out number ≡ sent calls number ++ rest)
  pub low : (number : ℕ) → is_closed calls number ≡ true → number ≤ (after first calls).last

-- Offers

-- What sessions are to be sent where no link is lost, and what offers of it leave. Nothing was sent by a link that is lost
-- by then.
pub record Offered (first : World) (script : List Event) (low : ℕ) (bytes : ℕ → List ℕ) (sessions : List Session) (before later : List PortCall) : Type 0 where
  pub on : IsOn first script later
  pub shorter : length (left_in script later) ≤ length (left_in script before)
  pub out_same : (number : ℕ) → (after first later).out number ≡ (after first before).out number
  pub closed_same : (number : ℕ) → is_closed later number ≡ is_closed before number
  pub last_same : (after first later).last ≡ (after first before).last
  pub all : (number : ℕ) → sent later number ≡ sent before number ++ cond (is_lost number (events later)) [] (owed bytes number sessions)
  pub below : (number : ℕ) → number ≤ low → is_lost number (events later) ≡ is_lost number (events before)
  pub still : (number : ℕ) → is_lost number (events later) ≡ false → is_lost number (events before) ≡ false

none-either : (lost : Bool) (bytes : List ℕ) → bytes ≡ bytes ++ cond lost [] []
none-either true bytes = sym (append-nil bytes)
none-either false bytes = sym (append-nil bytes)

none-more : (lost : Bool) (bytes queue : List ℕ) → queue ≡ [] → bytes ++ cond lost [] queue ≡ bytes
none-more true bytes queue e = append-nil bytes
none-more false bytes queue e = ap (λ (q : List ℕ). bytes ++ q) e ∙ append-nil bytes

-- the offers of a list, by that of its first session
offers_step : (first : World) (script : List Event) (bytes : ℕ → List ℕ) (session : Session) (sessions : List Session) (low : ℕ) (before mid later : List PortCall) → low < session.number
    → owed bytes session.number sessions ≡ [] → OffersAll first script session.number (bytes session.number) before mid → Offered first script session.number bytes sessions mid later
    → Offered first script low bytes (session ∷ sessions) before later
offers_step first script bytes session sessions low before mid later above behind one rest = record {
  on = rest.on;
  shorter = omega (arith, rest.shorter, one.shorter);
  out_same = λ number. rest.out_same number ∙ one.out_same number;
  closed_same = λ number. rest.closed_same number ∙ one.closed_same number;
  last_same = rest.last_same ∙ one.last_same;
  all = λ number. elim (eqb_tells session.number number) [ inl p ↦ subst All p.1 all-here | inr q ↦ rw q.0 (all-other number q.0) ];
  below = λ number h.
      let other : (session.number == number) ≡ false = grind (arith, nat_tests, above) in
      rest.below number (omega (arith, above)) ∙ (one.others number other).1;
  still = λ number h. elim (eqb_tells session.number number) [
    | inl p ↦ subst (λ (n : ℕ). is_lost n (events later) ≡ false → is_lost n (events before) ≡ false) p.1 (λ e. one.still (rest.still session.number e)) h
    | inr q ↦ sym (one.others number q.0).1 ∙ rest.still number h
  ];
}
  where
    All : ℕ → Type 0
    All number = sent later number ≡ sent before number ++ cond (is_lost number (events later)) [] (cond (session.number == number) (bytes session.number) (owed bytes number sessions))

    all-here : sent later session.number ≡ sent before session.number ++ cond (is_lost session.number (events later)) [] (cond (session.number == session.number) (bytes session.number) (owed bytes session.number sessions))
    all-here =
        rw (itself session.number) (rest.all session.number ∙ none-more (is_lost session.number (events later)) (sent mid session.number) (owed bytes session.number sessions) behind
        ∙ one.own ∙ ap (λ (b : Bool). sent before session.number ++ cond b [] (bytes session.number)) (sym (rest.below session.number (omega arith))))

    all-other : (number : ℕ) → (session.number == number) ≡ false → sent later number ≡ sent before number ++ cond (is_lost number (events later)) [] (owed bytes number sessions)
    all-other number other = rest.all number ∙ ap (λ (a : List ℕ). a ++ cond (is_lost number (events later)) [] (owed bytes number sessions)) (one.others number other).0

offers_all : (first : World) (script : List Event) (h : List PortCall) (sessions : List Session) (low : ℕ) (before later : List PortCall) → Chain (Told Offers script) (map (due_to first h) sessions) before later
    → Rising low sessions → IsOn first script before → ((number : ℕ) → is_lost number (events before) ≡ true → owed (unsent first h) number sessions ≡ [])
    → Offered first script low (unsent first h) sessions before later
unfolding Rising
offers_all first script h [] low before later c asc on none =
    subst (Offered first script low (unsent first h) [] before) (sym c)
    (record {
      on = on;
      shorter = omega arith;
      out_same = λ number. refl;
      closed_same = λ number. refl;
      last_same = refl;
      all = λ number. none-either (is_lost number (events before)) (sent before number);
      below = λ number h. refl;
      still = λ number h. h;
    })
offers_all first script h (session ∷ sessions) low before later c asc on none =
    let bytes : ℕ → List ℕ = unsent first h in
    let here : owed bytes session.number (session ∷ sessions) ≡ bytes session.number = rw (itself session.number) refl in
    let one = told_offer first script (due_to first h session) before c.0 c.1 on (λ lost. sym here ∙ none session.number lost) in
    let behind : owed bytes session.number sessions ≡ [] = owed-below bytes session.number session.number sessions asc.1 (omega arith) in
    let rest = offers_all first script h sessions session.number c.0 later c.2 asc.1 one.on
    (λ number lost. elim (eqb_tells session.number number) [
      | inl p ↦ subst (λ (n : ℕ). owed bytes n sessions ≡ []) p.1 behind
      | inr q ↦ rw q.0 at (none number (sym (one.others number q.0).1 ∙ lost))
    ]) in
    offers_step first script bytes session sessions low before c.0 later asc.0 behind one rest

-- Closes

-- The sessions that aren't open are the only ones of their numbers.
AllShut : Machine → List Session → Type 0
AllShut m [] = Unit {0}
AllShut m (session ∷ sessions) = (is_open session.standing ≡ false → IsShut m session.number) × AllShut m sessions

numbered-within : (before last : ℕ) (sessions : List Session) → AreNumbered before sessions last → before ≤ last
numbered-within before last [] h = omega (arith, h)
numbered-within before last (session ∷ sessions) h = omega (arith, numbered-within (before + 1) last sessions h.1)

none_open-above : (number before last : ℕ) (sessions : List Session) → AreNumbered before sessions last → number ≤ before → NoneOpen number sessions
none_open-above number before last [] h le = tt
none_open-above number before last (session ∷ sessions) h le = ((λ o. grind (arith, nat_tests, h.0, le)), none_open-above number (before + 1) last sessions h.1 (omega arith))

none_open-found : (number before last : ℕ) (sessions : List Session) (found : Session) → AreNumbered before sessions last → session_at number sessions ≡ Some found → is_open found.standing ≡ false → NoneOpen number sessions
none_open-found number before last [] found h e shut = tt
none_open-found number before last (session ∷ sessions) found h e shut =
    elim (eqb_tells session.number number) [
      | inl p ↦
          let is : session ≡ found = same_Some session found (rw p.0 at e) in
          ((λ o. absurd (true≢false (sym o ∙ ap (λ (s : Session). is_open s.standing) is ∙ shut))), none_open-above number (before + 1) last sessions h.1 (omega (arith, h.0, p.1)))
      | inr q ↦ ((λ o. q.0), none_open-found number (before + 1) last sessions found h.1 (rw q.0 at e) shut)
    ]

all-shut : (m : Machine) (P : Session → Bool) (before : ℕ) (some : List Session) → AreNumbered 0 m.sessions m.last → AreNumbered before some m.last
    → ((number : ℕ) → before < number → session_at number m.sessions ≡ session_at number some) → AllShut m (filter P some)
unfolding AllShut
all-shut m P before [] numbered h same = tt
all-shut m P before (session ∷ sessions) numbered h same =
    let own : session_at session.number m.sessions ≡ Some session = same session.number (omega (arith, h.0)) ∙ (rw (itself session.number) refl) in
    let rest = all-shut m P (before + 1) sessions numbered h.1 (λ number above.
    let other : (session.number == number) ≡ false = grind (arith, nat_tests, h.0, above) in
    same number (omega (arith, above)) ∙ (rw other refl)) in
    elim (P session) as (λ (b : Bool). AllShut m (cond b (session ∷ filter P sessions) (filter P sessions))) [
      | true ↦ (
        (λ shut. record { shut = none_open-found session.number 0 m.last m.sessions session numbered own shut; within = omega (arith, h.0, numbered-within (before + 1) m.last sessions h.1) }),
        rest,
      )
      | false ↦ rest
    ]

shut-now : (first : World) (h before : List PortCall) (number : ℕ) → events before ≡ events h → IsShut (after first h) number → IsShut (after first before) number
shut-now first h before number same shut = subst (λ (es : List PortEvent). IsShut (machine first es) number) (sym same) shut

closes_all : (first : World) (script : List Event) (h : List PortCall) (sessions : List Session) (before later : List PortCall) → Chain (Told Closes script) (map (due_to first h) sessions) before later
    → events before ≡ events h → AllShut (after first h) sessions → IsOn first script before → ClosesOn first script before later
unfolding AllShut
closes_all first script h [] before later c same shut on = subst (ClosesOn first script before) (sym c) (closes_none first script before on)
closes_all first script h (session ∷ sessions) before later c same shut on =
    let one = told_close first script (due_to first h session) before c.0 c.1 (λ e. shut-now first h before session.number same (shut.0 e)) on in
    let rest = closes_all first script h sessions c.0 later c.2 (one.same ∙ same) shut.1 one.on in
    record {
      on = rest.on;
      shorter = omega (arith, rest.shorter, one.shorter);
      same = rest.same ∙ one.same;
      sent_same = λ who. rest.sent_same who ∙ one.sent_same who;
      still = λ who h. rest.still who (one.still who h);
      low = λ was. rest.low (one.low was);
    }

closes_each : (first : World) (script : List Event) (h : List PortCall) (session : Session) (sessions : List Session) (before later : List PortCall)
    → Chain (Told Closes script) (map (due_to first h) sessions) before later → events before ≡ events h → AllShut (after first h) sessions → IsOn first script before
    → In session sessions → ((number : ℕ) → unsent first h number ≡ []) → is_open session.standing ≡ false → is_closed later session.number ≡ true
unfolding In AllShut
closes_each first script h session [] before later c same shut on has quiet closing = absurd has
closes_each first script h session (other ∷ sessions) before later c same shut on has quiet closing =
    let one = told_close first script (due_to first h other) before c.0 c.1 (λ e. shut-now first h before other.number same (shut.0 e)) on in
    elim has [
      | inl its ↦
          let rest = closes_all first script h sessions c.0 later c.2 (one.same ∙ same) shut.1 one.on in
          let stands : is_open other.standing ≡ false = ap (λ (s : Session). is_open s.standing) its ∙ closing in
          subst (λ (n : ℕ). is_closed later n ≡ true) (ap (λ (s : Session). s.number) its)
          (rest.still other.number (told_closed script (due_to first h other) before c.0 c.1 stands (quiet other.number)))
      | inr more ↦ closes_each first script h session sessions c.0 later c.2 (one.same ∙ same) shut.1 one.on more quiet closing
    ]

-- Asks

-- What links that were asked leave.
pub record AsksOn (first : World) (script : List Event) (before later : List PortCall) : Type 0 where
  pub on : IsOn first script later
  pub shorter : length (left_in script later) ≤ length (left_in script before)
  pub goes : Goes first before later

asks_one : (first : World) (script : List Event) (due : Due) (before later : List PortCall) → Told Asks script due before later → IsOn first script before → AsksOn first script before later
asks_one first script due before later t on = elim (told_ask first script due before later t on) [
  | inl a ↦ record { on = a.on; shorter = a.shorter; goes = a.goes }
  | inr a ↦ record { on = a.on; shorter = a.shorter; goes = a.goes }
]

asks_all : (first : World) (script : List Event) (list : List Due) (before later : List PortCall) → Chain (Told Asks script) list before later → IsOn first script before → AsksOn first script before later
asks_all first script [] before later c on =
    subst (AsksOn first script before) (sym c) (record { on = on; shorter = omega arith; goes = goes_same first before before refl (λ who. refl) (λ who. refl) })
asks_all first script (due ∷ list) before later c on =
    let one = asks_one first script due before c.0 c.1 on in
    let rest = asks_all first script list c.0 later c.2 one.on in
    record { on = rest.on; shorter = omega (arith, rest.shorter, one.shorter); goes = goes_on first before c.0 later one.goes rest.goes }

-- what a link that was asked leaves: less, or all as before
asks_turn : (first : World) (script : List Event) (turn : Bool) (before later : List PortCall) → TakesNext first script turn before later
    → (length (left_in script later) < length (left_in script before)) ⊎ (left_in script later ≡ left_in script before)
asks_turn first script true before later t = inl (t.takes refl)
asks_turn first script false before later t = inr (t.same refl)

asks_less : (first : World) (script : List Event) (due : Due) (before later : List PortCall) → Told Asks script due before later → IsOn first script before
    → (length (left_in script later) < length (left_in script before)) ⊎ (left_in script later ≡ left_in script before)
asks_less first script due before later t on =
    elim (told_ask first script due before later t on) [ inl a ↦ asks_turn first script false before later a | inr a ↦ asks_turn first script (begins due.number (left_in script before)) before later a ]

asks_takes : (first : World) (script : List Event) (h : List PortCall) (session : Session) (sessions : List Session) (before later : List PortCall)
    → Chain (Told Asks script) (map (due_to first h) sessions) before later → IsOn first script before
    → begins session.number (left_in script before) ≡ true → In session sessions → ((number : ℕ) → unsent first h number ≡ []) → is_open session.standing ≡ true
    → length (left_in script later) < length (left_in script before)
unfolding In
asks_takes first script h session [] before later c on turn has quiet opened = absurd has
asks_takes first script h session (other ∷ sessions) before later c on turn (inl its) quiet opened =
    let stands : is_open other.standing ≡ true = ap (λ (s : Session). is_open s.standing) its ∙ opened in
    let its_turn : begins other.number (left_in script before) ≡ true = ap (λ (s : Session). begins s.number (left_in script before)) its ∙ turn in
    let one = told_idle first script (due_to first h other) before c.0 c.1 on stands (quiet other.number) in
    let less : length (left_in script c.0) < length (left_in script before) = one.takes its_turn in
    let rest = asks_all first script (map (due_to first h) sessions) c.0 later c.2 one.on in
    omega (arith, less, rest.shorter)
asks_takes first script h session (other ∷ sessions) before later c on turn (inr has) quiet opened =
    let one = asks_one first script (due_to first h other) before c.0 c.1 on in
    elim (asks_less first script (due_to first h other) before c.0 c.1 on) [
      | inl less ↦ let rest = asks_all first script (map (due_to first h) sessions) c.0 later c.2 one.on in omega (arith, less, rest.shorter)
      | inr same ↦
          let still : begins session.number (left_in script c.0) ≡ true = subst (λ (l : List Event). begins session.number l ≡ true) (sym same) turn in
          let less = asks_takes first script h session sessions c.0 later c.2 one.on still has quiet opened in
          subst (λ (l : List Event). length (left_in script later) < length l) same less
    ]

-- A flush

-- What a flush leaves: all was sent but by links that are lost, by which nothing was, and the sessions whose links aren't
-- closed are open.
pub record Flushed (first : World) (script : List Event) (before later : List PortCall) : Type 0 where
  pub on : IsOn first script later
  pub shorter : length (left_in script later) ≤ length (left_in script before)
  pub all : (number : ℕ) → is_lost number (events later) ≡ false → sent later number ≡ (after first later).out number
  pub none : (number : ℕ) → is_lost number (events later) ≡ true → sent later number ≡ sent before number
  pub out_same : (number : ℕ) → (after first later).out number ≡ (after first before).out number
  pub low : (number : ℕ) → is_closed later number ≡ true → number ≤ (after first later).last
  pub quiet : (number : ℕ) → unsent first later number ≡ []
  pub opened : (number : ℕ) (session : Session) → is_closed later number ≡ false → session_at number (after first later).sessions ≡ Some session → is_open session.standing ≡ true

open-bool : (b : Bool) → (b ≡ false → ⊥) → b ≡ true
open-bool true h = refl
open-bool false h = absurd (h refl)

pub closed-bool : (b : Bool) → (b ≡ true → ⊥) → b ≡ false
closed-bool true h = absurd (h refl)
closed-bool false h = refl

drop-whole : (out : List ℕ) → drop (length out) out ≡ []
drop-whole [] = refl
drop-whole (byte ∷ out) = drop-whole out

-- where all was sent, but for lost links, nothing is due
none-unsent : (first : World) (calls : List PortCall) → ((number : ℕ) → is_lost number (events calls) ≡ false → sent calls number ≡ (after first calls).out number) → (number : ℕ) → unsent first calls number ≡ []
none-unsent first calls all number = by_loss (is_lost number (events calls)) refl
  where
    by_loss : (lost : Bool) → is_lost number (events calls) ≡ lost → unsent first calls number ≡ []
    by_loss true h = rw h refl
    by_loss false h = rw h (ap (λ (bytes : List ℕ). drop (length bytes) ((after first calls).out number)) (all number h) ∙ drop-whole ((after first calls).out number))

-- nothing is due by a link that is lost
lost-unsent : (first : World) (calls : List PortCall) (number : ℕ) → is_lost number (events calls) ≡ true → unsent first calls number ≡ []
lost-unsent first calls number lost = rw lost refl

pub flush_back : (first : World) (script : List Event) (before later : List PortCall) → Flushes first before later → Plays script later → Plays script before
flush_back first script before later f plays =
    (chain_back Offers script (offers_back script) (dues first before) before f.mid (chain_back Closes script (closes_back script) (dues first f.mid) f.mid later plays f.closes).0 f.offers).0

flush_on : (first : World) (script : List Event) (before later : List PortCall) → Flushes first before later → Plays script later → Fits first script before → Flushed first script before later
flush_on first script before later f plays fits = record {
  on = closes.on;
  shorter = omega (arith, closes.shorter, offers.shorter);
  all = all;
  none = λ number lost. closes.sent_same number ∙ offers.all number
      ∙ ap (λ (b : Bool). sent before number ++ cond b [] (owed (unsent first before) number (linked first before))) (sym (lost_same number) ∙ lost) ∙ append-nil (sent before number);
  out_same = λ number. ap (λ (es : List PortEvent). (machine first es).out number) closes.same ∙ offers.out_same number;
  low = closes.low (λ number shut. let le : number ≤ (after first before).last = fits.low number (sym (offers.closed_same number) ∙ shut) in omega (arith, le, offers.last_same));
  quiet = none-unsent first later all;
  opened = λ number session kept e. open-bool (is_open session.standing) (λ shut.
      let its : session_at number (after first f.mid).sessions ≡ Some session = subst (λ (es : List PortEvent). session_at number (machine first es).sessions ≡ Some session) closes.same e in
      let was_kept : is_closed f.mid number ≡ false = closed-bool (is_closed f.mid number) (λ was. true≢false (sym (closes.still number was) ∙ kept)) in
      let gone : is_closed later session.number ≡ true = closes_each first script f.mid session (linked first f.mid) f.mid later closing.1 refl shuts offers.on
      (found-in f.mid number (after first f.mid).sessions session its was_kept) (none-unsent first f.mid all_mid) shut in
      let same : session.number ≡ number = number-found number (after first f.mid).sessions session its in
      true≢false (sym (subst (λ (n : ℕ). is_closed later n ≡ true) same gone) ∙ kept));
}
  where
    closing : Plays script f.mid × Chain (Told Closes script) (dues first f.mid) f.mid later
    closing = chain_back Closes script (closes_back script) (dues first f.mid) f.mid later plays f.closes

    offering : Plays script before × Chain (Told Offers script) (dues first before) before f.mid
    offering = chain_back Offers script (offers_back script) (dues first before) before f.mid closing.0 f.offers

    offers : Offered first script 0 (unsent first before) (linked first before) before f.mid
    offers = offers_all first script before (linked first before) 0 before f.mid offering.1 (rising-kept (is_kept before) 0 (after first before).last (after first before).sessions fits.on.numbered) fits.on
        (λ number lost. owed-nothing (unsent first before) number (linked first before) (lost-unsent first before number lost))

    shuts : AllShut (after first f.mid) (linked first f.mid)
    shuts = all-shut (after first f.mid) (is_kept f.mid) 0 (after first f.mid).sessions offers.on.numbered offers.on.numbered (λ number above. refl)

    closes : ClosesOn first script f.mid later
    closes = closes_all first script f.mid (linked first f.mid) f.mid later closing.1 refl shuts offers.on

    all_mid : (number : ℕ) → is_lost number (events f.mid) ≡ false → sent f.mid number ≡ (after first f.mid).out number
    all_mid number kept =
        offers.all number
        ∙ ap (λ (b : Bool). sent before number ++ cond b [] (owed (unsent first before) number (linked first before))) kept
        ∙ fits.owes number (offers.still number kept)
        ∙ sym (offers.out_same number)

    lost_same : (number : ℕ) → is_lost number (events later) ≡ is_lost number (events f.mid)
    lost_same number = ap (is_lost number) closes.same

    all : (number : ℕ) → is_lost number (events later) ≡ false → sent later number ≡ (after first later).out number
    all number kept = closes.sent_same number ∙ all_mid number (sym (lost_same number) ∙ kept) ∙ ap (λ (es : List PortEvent). (machine first es).out number) (sym closes.same)

-- A round

not-empty : (left : List Event) → left ≢ [] → 0 < length left
not-empty [] some = absurd (some refl)
not-empty (event ∷ later) some = omega arith

empty : (left : List Event) → length left ≤ 0 → left ≡ []
empty [] h = refl
empty (event ∷ later) h = absurd (omega arith)

-- The next event is that of a session, which is open and has nothing to send, so that it is asked.
turn_less : (first : World) (script : List Event) (before mid a later : List PortCall) → Flushed first script before mid
    → left_in script a ≡ left_in script mid → IsOn first script a → Chain (Told Asks script) (dues first mid) a later
    → (number : ℕ) → IsLinked (is_closed mid) (after first mid).last number → begins number (left_in script mid) ≡ true
    → length (left_in script later) < length (left_in script mid)
turn_less first script before mid a later f same on chain number link turn_is =
    let found = numbered-finds number 0 (after first mid).last (after first mid).sessions f.on.numbered link.above link.opened in
    let its : found.0.number ≡ number = number-found number (after first mid).sessions found.0 found.1 in
    let turn : begins found.0.number (left_in script a) ≡ true =
    subst (λ (n : ℕ). begins n (left_in script a) ≡ true) (sym its) (subst (λ (l : List Event). begins number l ≡ true) (sym same) turn_is) in
    let less = asks_takes first script mid found.0 (linked first mid) a later chain on turn
    (found-in mid number (after first mid).sessions found.0 found.1 link.kept) f.quiet (f.opened number found.0 link.kept found.1) in
    subst (λ (l : List Event). length (left_in script later) < length l) same less

round_less : (first : World) (script : List Event) (before mid a later : List PortCall) → Flushed first script before mid
    → TakesNext first script (begins_open (left_in script mid)) mid a → Chain (Told Asks script) (dues first mid) a later
    → left_in script before ≢ [] → (left : List Event) → left_in script mid ≡ left
    → length (left_in script later) < length (left_in script before)
round_less first script before mid a later f t chain some [] e =
    let asks = asks_all first script (dues first mid) a later chain t.on in
    let more = not-empty (left_in script before) some in
    omega (arith, asks.shorter, t.shorter, more, ap (λ (l : List Event). length l) e)
round_less first script before mid a later f t chain some (Opens kind ∷ rest) e =
    let asks = asks_all first script (dues first mid) a later chain t.on in
    let less : length (left_in script a) < length (left_in script mid) = t.takes (ap begins_open e) in
    omega (arith, asks.shorter, less, f.shorter)
round_less first script before mid a later f t chain some (Piece number bytes at ∷ rest) e =
    let next = subst (AreNext (is_closed mid) (after first mid).last) e f.on.next in
    let less = turn_less first script before mid a later f (t.same (ap begins_open e)) t.on chain number next.0.0 (ap (begins number) e ∙ itself number) in
    omega (arith, less, f.shorter)
round_less first script before mid a later f t chain some (Ends number ∷ rest) e =
    let next = subst (AreNext (is_closed mid) (after first mid).last) e f.on.next in
    let less = turn_less first script before mid a later f (t.same (ap begins_open e)) t.on chain number next.0 (ap (begins number) e ∙ itself number) in
    omega (arith, less, f.shorter)
round_less first script before mid a later f t chain some (Loses number ∷ rest) e =
    let next = subst (AreNext (is_closed mid) (after first mid).last) e f.on.next in
    let less = turn_less first script before mid a later f (t.same (ap begins_open e)) t.on chain number next.0 (ap (begins number) e ∙ itself number) in
    omega (arith, less, f.shorter)

-- A number that no linked session has is that of a closed link or of no session.
unlinked-aside : (first : World) (script : List Event) (calls : List PortCall) (number : ℕ) → IsOn first script calls → session_at number (linked first calls) ≡ None
    → Aside (is_closed calls) (after first calls).last number
unlinked-aside first script calls number on none = by_close (is_closed calls number) refl
  where
    by_close : (closed : Bool) → is_closed calls number ≡ closed → Aside (is_closed calls) (after first calls).last number
    by_close true h = inl h
    by_close false h = elim (leb_tells number (after first calls).last) [
      | inl low ↦ elim (eqb_tells number 0) [
        | inl p ↦ inr (inr p.1)
        | inr q ↦
            let found = numbered-finds number 0 (after first calls).last (after first calls).sessions on.numbered (omega (arith, q.1)) low.1 in
            absurd (none-in number (linked first calls) found.0 none (found-in calls number (after first calls).sessions found.0 found.1 h) (number-found number (after first calls).sessions found.0 found.1))
      ]
      | inr high ↦ inr (inl high.1)
    ]

-- What is taken after a flush keeps to the script, since all that the machine answers then is due.
fits_after : (first : World) (script : List Event) (before flushed later : List PortCall) → Fits first script before → Flushed first script before flushed → Goes first flushed later → IsOn first script later
    → Fits first script later
fits_after first script before flushed later fits f goes on = record {
  on = on;
  owes = λ number kept. owes number kept (session_at number (linked first later)) refl;
  front = λ number. front number (is_lost number (events flushed)) refl;
  low = λ number shut. let le : number ≤ (after first flushed).last = f.low number (sym (goes.closed_same number) ∙ shut) in omega (arith, le, goes.rises);
}
  where
    sent-then : (number : ℕ) → is_lost number (events later) ≡ false → sent later number ≡ (after first flushed).out number
    sent-then number kept = goes.sent_same number ∙ f.all number (goes.still number kept)

    owes : (number : ℕ) → is_lost number (events later) ≡ false → (found : Option Session) → session_at number (linked first later) ≡ found
        → sent later number ++ owed (unsent first later) number (linked first later) ≡ (after first later).out number
    owes number kept None e =
        ap (λ (bytes : List ℕ). sent later number ++ bytes) (owed-none (unsent first later) number (linked first later) e) ∙ append-nil (sent later number) ∙ sent-then number kept
        ∙ sym (goes.aside number (f.low number) (unlinked-aside first script later number on e))
    owes number kept (Some session) e =
        let more = goes.grows number in
        let out_is : (after first later).out number ≡ sent later number ++ more.0 = more.1 ∙ ap (λ (out : List ℕ). out ++ more.0) (sym (sent-then number kept)) in
        let unsent_is : unsent first later number ≡ more.0 = rw kept (ap (drop (length (sent later number))) out_is ∙ drop-append_seam (sent later number) more.0) in
        ap (λ (bytes : List ℕ). sent later number ++ bytes) (owed-some (unsent first later) number (linked first later) session e ∙ unsent_is) ∙ sym out_is

    front : (number : ℕ) (lost : Bool) → is_lost number (events flushed) ≡ lost → (rest : List ℕ) × ((after first later).out number ≡ sent later number ++ rest)
    front number true h =
        let more = goes.grows number in let rest = fits.front number in (
          rest.0 ++ more.0,
          more.1 ∙ ap (λ (out : List ℕ). out ++ more.0) (f.out_same number ∙ rest.1 ∙ ap (λ (bytes : List ℕ). bytes ++ rest.0) (sym (goes.sent_same number ∙ f.none number h)))
              ∙ append_assoc (sent later number) rest.0 more.0,
        )
    front number false h =
        let more = goes.grows number in
        (more.0, more.1 ∙ ap (λ (out : List ℕ). out ++ more.0) (sym (goes.sent_same number ∙ f.all number h)))

-- What a round leaves, where something of the script was left.
pub record RoundOn (first : World) (script : List Event) (before flushed later : List PortCall) : Type 0 where
  pub fits : Fits first script later
  pub less : length (left_in script later) < length (left_in script before)
  pub flush : Flushed first script before flushed
  pub sent_same : (number : ℕ) → sent later number ≡ sent flushed number

pub take_back : (first : World) (script : List Event) (before later : List PortCall) → Takes first before later → Plays script later → Plays script before
take_back first script before later t plays =
    accepts_back script (nat_eq (after first before).last (2 ^ 32 - 1)) (after first before).last before t.mid
    (chain_back Asks script (asks_back script) (take (length (dues first before)) (dues first before)) t.mid later plays t.asks).0 t.accepts

-- A round keeps to the script, and takes something of it.
round_on : (first : World) (script : List Event) (before flushed later : List PortCall) → Flushes first before flushed → Takes first flushed later → Plays script later
    → (script_machine first script).last < 2 ^ 32 → Fits first script before → left_in script before ≢ [] → RoundOn first script before flushed later
round_on first script before flushed later flushes takes plays numbers fits some =
    let last = (after first flushed).last in
    let list = dues first flushed in
    let f = flush_on first script before flushed flushes (take_back first script flushed later takes plays) fits in
    let asking = chain_back Asks script (asks_back script) list takes.mid later plays
    (subst (λ (ds : List Due). Chain Asks ds takes.mid later) (take_all (length list) list (omega arith)) takes.asks) in
    let t = told_accept first script (nat_eq last (2 ^ 32 - 1)) (2 ^ 32 - 1) last flushed takes.mid refl (omega arith) takes.accepts refl asking.0 f.on in
    let asks = asks_all first script list takes.mid later asking.1 t.on in
    let goes = goes_on first flushed takes.mid later t.goes asks.goes in
    record {
      fits = fits_after first script before flushed later fits f goes asks.on;
      less = round_less first script before flushed takes.mid later f t asking.1 some (left_in script flushed) refl;
      flush = f;
      sent_same = goes.sent_same;
    }

-- Rounds

-- what the flush of a round reached is what was sent by it
reached-sent : (first : World) (script : List Event) (before flushed : List PortCall) (had : ℕ → List ℕ) → Flushed first script before flushed → ((number : ℕ) → sent before number ≡ had number)
    → (number : ℕ) → sent flushed number ≡ reached first flushed had number
reached-sent first script before flushed had f was number = by_loss (is_lost number (events flushed)) refl
  where
    by_loss : (lost : Bool) → is_lost number (events flushed) ≡ lost → sent flushed number ≡ reached first flushed had number
    by_loss true h = rw h (f.none number h ∙ was number)
    by_loss false h = rw h (f.all number h)

fits-start : (first : World) (script : List Event) → AreEvents script → Fits first script []
unfolding machine
fits-start first script are = record { on = leads-start first script are; owes = λ number kept. refl; front = λ number. ([], refl); low = λ number shut. absurd (cc) }

-- What rounds leave: a history in the middle of the script, of which each took something, and all that the last flush reached was
-- sent.
pub record RoundsOn (first : World) (script : List Event) (turns : ℕ) (calls : List PortCall) (had : ℕ → List ℕ) : Type 0 where
  pub fits : Fits first script calls
  pub bound : turns + length (left_in script calls) ≤ length script
  pub was : (number : ℕ) → sent calls number ≡ had number

pub rounds_on : (first : World) (script : List Event) (turns : ℕ) (calls : List PortCall) (had : ℕ → List ℕ) → AreEvents script → PlaysRounds first script turns calls had → Plays script calls
    → RoundsOn first script turns calls had
rounds_on first script zero calls had are r plays =
    subst (λ (c : List PortCall). RoundsOn first script zero c had) (sym r.0) (record { fits = fits-start first script are; bound = omega arith; was = λ number. sym (r.1 number) })
rounds_on first script (suc turns) calls had are r plays =
    let before = rounds_on first script turns r.before r.had are r.earlier (flush_back first script r.before r.flushed r.flushes (take_back first script r.flushed calls r.takes plays)) in
    let numbers : (script_machine first script).last < 2 ^ 32 = subst (λ (n : ℕ). n < 2 ^ 32) (sym (script-last first script)) are.numbers in
    let round = round_on first script r.before r.flushed calls r.flushes r.takes plays numbers before.fits r.some_left in
    record {
      fits = round.fits;
      bound = omega (arith, before.bound, round.less);
      was = λ number. round.sent_same number ∙ reached-sent first script r.before r.flushed r.had round.flush before.was number ∙ sym (r.got_is number);
    }

-- One more round takes something of the script.
pub rounds_less : (first : World) (script : List Event) (turns : ℕ) (before flushed later : List PortCall) (had : ℕ → List ℕ) → AreEvents script → PlaysRounds first script turns before had
    → Flushes first before flushed → Takes first flushed later → Plays script later → left_in script before ≢ [] → length (left_in script later) < length (left_in script before)
rounds_less first script turns before flushed later had are r flushes takes plays some =
    let numbers : (script_machine first script).last < 2 ^ 32 = subst (λ (n : ℕ). n < 2 ^ 32) (sym (script-last first script)) are.numbers in
    (round_on first script before flushed later flushes takes plays numbers
    (rounds_on first script turns before had are r (flush_back first script before flushed flushes (take_back first script flushed later takes plays))).fits some).less

-- A round keeps to the script wherever it ended.
pub rounds_keep : (first : World) (script : List Event) (turns : ℕ) (before later : List PortCall) (had : ℕ → List ℕ) → AreEvents script → PlaysRounds first script turns before had
    → RoundsPart first before later → Plays script later → IsOn first script later
rounds_keep first script turns before later had are r round plays =
    let numbers : (script_machine first script).last < 2 ^ 32 = subst (λ (n : ℕ). n < 2 ^ 32) (sym (script-last first script)) are.numbers in
    let flushed = round.flushed in
    let takes = round.takes.1 in
    let last = (after first flushed).last in
    let list = take round.takes.0 (dues first flushed) in
    let asking = chain_back Asks script (asks_back script) list takes.mid later plays takes.asks in
    let played : Plays script flushed = accepts_back script (nat_eq last (2 ^ 32 - 1)) last flushed takes.mid asking.0 takes.accepts in
    let fits = (rounds_on first script turns before had are r (flush_back first script before flushed round.flushes played)).fits in
    let f = flush_on first script before flushed round.flushes played fits in
    let t = told_accept first script (nat_eq last (2 ^ 32 - 1)) (2 ^ 32 - 1) last flushed takes.mid refl (omega arith) takes.accepts refl asking.0 f.on in
    (asks_all first script list takes.mid later asking.1 t.on).on

-- The rounds are no more than the script has events.
pub plays_bound : (first : World) (script : List Event) (turns : ℕ) (calls : List PortCall) → AreEvents script → PlaysBy first script turns calls → turns ≤ length script
plays_bound first script turns calls are p = omega (arith, (rounds_on first script turns p.before p.had are p.rounds (flush_back first script p.before calls p.flushes p.answered)).bound)

ends-at : (closed may lost : ℕ → Bool) (m goal : Machine) (left : List Event) → left ≡ [] → Leads left closed may lost m goal → m ≡ goal
ends-at closed may lost m goal left e l = (subst (λ (es : List Event). Leads es closed may lost m goal) e l).whole

-- Once nothing is left and all is flushed, the history plays the script to its end.
pub plays_out : (first : World) (script : List Event) (turns : ℕ) (calls : List PortCall) → AreEvents script → PlaysBy first script turns calls → PlaysOut first script calls
plays_out first script turns calls are p =
    let rounds = rounds_on first script turns p.before p.had are p.rounds (flush_back first script p.before calls p.flushes p.answered) in
    let f = flush_on first script p.before calls p.flushes p.answered rounds.fits in
    let none : left_in script calls ≡ [] = empty (left_in script calls) (omega (arith, f.shorter, ap (λ (l : List Event). length l) p.none_left)) in
    let whole : after first calls ≡ script_machine first script =
    ends-at (is_closed calls) (λ n. has_loss n script) (λ n. is_lost n (events calls)) (after first calls) (script_machine first script) (left_in script calls) none f.on in
    record {
      turns = turns;
      plays = p;
      bound = plays_bound first script turns calls are p;
      nothing_left = none;
      machine = whole;
      sends = reached-sent first script p.before calls p.had f rounds.was;
      whole = λ number kept. f.all number (closed-bool (is_lost number (events calls)) (λ lost. true≢false (sym (f.on.losses.were number lost) ∙ kept))) ∙ ap (λ (m : Machine). m.out number) whole;
      front = λ number. subst (λ (m : Machine). (rest : List ℕ) × (m.out number ≡ sent calls number ++ rest)) whole (front number rounds.fits f (is_lost number (events calls)) refl);
    }
  where
    front : (number : ℕ) → Fits first script p.before → Flushed first script p.before calls → (lost : Bool) → is_lost number (events calls) ≡ lost → (rest : List ℕ) × ((after first calls).out number ≡ sent calls number ++ rest)
    front number fits f true h = let rest = fits.front number in (rest.0, f.out_same number ∙ rest.1 ∙ ap (λ (bytes : List ℕ). bytes ++ rest.0) (sym (f.none number h)))
    front number fits f false h = ([], sym (f.all number h) ∙ sym (append-nil (sent calls number)))
