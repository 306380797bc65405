-- What the machine answers as calls of a script take events: more, and nothing to those whose links are closed.
use Rattle.std.proofs.Common.{ℕ, ◌+◌, ◌<◌, ◌≤◌, ◌==◌, ◌||◌, cond, Bool, true, false, List, [], ◌∷◌, ◌++◌, Option, Some, None, ◌≡◌, refl, ap, sym, ◌∙◌, subst, inl, inr, ◌⊎◌, append-nil, append_assoc, arith}
use Rattle.std.proofs.lemmas.Bool.Decides.{eqb_tells, nat_tests}
use Rattle.port_model.specs.declared.events.Event.{Event}
use Rattle.port_model.specs.declared.events.Event.TheVariants.{Opens, Piece, Ends, Loses}
use Rattle.port_model.specs.declared.calls.PortCall.{PortCall}
use Rattle.port_model.specs.History.{PortEvent, events, sent, is_closed}
use Rattle.port_model.specs.Streams.{moment}
use Rattle.imap_steps.specs.Stepping.{Shared, World}
use Rattle.mail_model.specs.Machine.{Machine, Session, Taking, machine, after, take_event, takes, session_at, hears_piece, leaves}
use Rattle.mail_rounds.specs.Calls.{is_lost}
use Rattle.mail_server.specs.Script.{port_event}
use Rattle.mail_server.proofs.Leads.{IsLinked, IsNext}
use Rattle.mail_server.proofs.Scripts.{OfOpen, hears-own, leaves-own, number-found, event-rises}

adds-grows : (same : Bool) (out answers : List ℕ) → (more : List ℕ) × (cond same (out ++ answers) out ≡ out ++ more)
adds-grows true out answers = (answers, refl)
adds-grows false out answers = ([], sym (append-nil out))

found-grows : (m : Machine) (act : Shared → Session → Taking) (who : ℕ) (found : Option Session)
    → (more : List ℕ) × ((elim found as (λ (f : Option Session). Machine) [ None ↦ m | Some session ↦ takes m (act m.shared session) ]).out who ≡ m.out who ++ more)
found-grows m act who None = ([], sym (append-nil (m.out who)))
found-grows m act who (Some session) = adds-grows (who == (act m.shared session).session.number) (m.out who) (act m.shared session).answers

event-grows : (m : Machine) (event : Event) (who : ℕ) → (more : List ℕ) × ((take_event m (port_event (m.last + 1) event)).out who ≡ m.out who ++ more)
event-grows m (Opens kind) who = adds-grows (who == m.last + 1) (m.out who) _
event-grows m (Piece number bytes at) who = found-grows m (hears_piece (moment at) bytes) who (session_at number m.sessions)
event-grows m (Ends number) who = found-grows m leaves who (session_at number m.sessions)
event-grows m (Loses number) who = found-grows m leaves who (session_at number m.sessions)

found-other : (m : Machine) (act : Shared → Session → Taking) (number who : ℕ) → OfOpen act → (who == number) ≡ false → (found : Option Session) → session_at number m.sessions ≡ found
    → (elim found as (λ (f : Option Session). Machine) [ None ↦ m | Some session ↦ takes m (act m.shared session) ]).out who ≡ m.out who
found-other m act number who own other None e = refl
found-other m act number who own other (Some session) e =
    let its : (act m.shared session).session.number ≡ number = own.number m.shared session ∙ number-found number m.sessions session e in
    let apart : (who == (act m.shared session).session.number) ≡ false = subst (λ (n : ℕ). (who == n) ≡ false) (sym its) other in
    rw apart refl

-- The link of a number is closed, or no session has it.
abbrev pub Aside : (ℕ → Bool) → ℕ → ℕ → Type 0
Aside closed last who = (closed who ≡ true) ⊎ ((last < who) ⊎ (who ≡ 0))

linked-apart : (closed : ℕ → Bool) (last last' who number : ℕ) → last ≤ last' → IsLinked closed last number → Aside closed last' who → (who == number) ≡ false
linked-apart closed last last' who number le linked (inl shut) =
    elim (eqb_tells who number) [
      | inl p ↦ let kept : closed who ≡ false = subst (λ (n : ℕ). closed n ≡ false) (sym p.1) linked.kept in absurd (cc)
      | inr q ↦ q.0
    ]
linked-apart closed last last' who number le linked (inr (inl above)) = grind (arith, nat_tests, le, linked.opened, above)
linked-apart closed last last' who number le linked (inr (inr none)) = grind (arith, nat_tests, linked.above, none)

opened-apart : (closed : ℕ → Bool) (last who : ℕ) → (closed who ≡ true → who ≤ last) → Aside closed (last + 1) who → (who == last + 1) ≡ false
opened-apart closed last who low (inl shut) = let le : who ≤ last = low shut in grind (arith, nat_tests)
opened-apart closed last who low (inr (inl above)) = grind (arith, nat_tests, above)
opened-apart closed last who low (inr (inr none)) = grind (arith, nat_tests, none)

event-aside : (m : Machine) (event : Event) (closed : ℕ → Bool) (who : ℕ) → IsNext closed m.last event → (closed who ≡ true → who ≤ m.last)
    → Aside closed (take_event m (port_event (m.last + 1) event)).last who → (take_event m (port_event (m.last + 1) event)).out who ≡ m.out who
event-aside m (Opens kind) closed who next low aside = let other : (who == m.last + 1) ≡ false = opened-apart closed m.last who low aside in rw other refl
event-aside m (Piece number bytes at) closed who next low aside =
    found-other m (hears_piece (moment at) bytes) number who (hears-own (moment at) bytes)
    (linked-apart closed m.last _ who number (event-rises m (Piece number bytes at)) next.0 aside) (session_at number m.sessions) refl
event-aside m (Ends number) closed who next low aside =
    found-other m leaves number who leaves-own (linked-apart closed m.last _ who number (event-rises m (Ends number)) next aside) (session_at number m.sessions) refl
event-aside m (Loses number) closed who next low aside =
    found-other m leaves number who leaves-own (linked-apart closed m.last _ who number (event-rises m (Loses number)) next aside) (session_at number m.sessions) refl

-- What calls leave that send nothing and close nothing: the machine answers more, and nothing aside of its open links.
pub record Goes (first : World) (before later : List PortCall) : Type 0 where
  pub sent_same : (who : ℕ) → sent later who ≡ sent before who
  pub closed_same : (who : ℕ) → is_closed later who ≡ is_closed before who
  pub still : (who : ℕ) → is_lost who (events later) ≡ false → is_lost who (events before) ≡ false
  pub grows : (who : ℕ) → (more : List ℕ) × ((after first later).out who ≡ (after first before).out who ++ more)
  pub rises : (after first before).last ≤ (after first later).last
  pub aside : (who : ℕ) → (is_closed before who ≡ true → who ≤ (after first before).last) → Aside (is_closed later) (after first later).last who → (after first later).out who ≡ (after first before).out who

-- no event is taken
pub goes_same : (first : World) (before later : List PortCall) → events later ≡ events before → ((who : ℕ) → sent later who ≡ sent before who) → ((who : ℕ) → is_closed later who ≡ is_closed before who)
    → Goes first before later
goes_same first before later are sends closes = record {
  sent_same = sends;
  closed_same = closes;
  still = λ who h. subst (λ (es : List PortEvent). is_lost who es ≡ false) are h;
  grows = λ who. ([], ap (λ (es : List PortEvent). (machine first es).out who) are ∙ sym (append-nil ((after first before).out who)));
  rises = omega (arith, ap (λ (es : List PortEvent). (machine first es).last) are);
  aside = λ who low a. ap (λ (es : List PortEvent). (machine first es).out who) are;
}

or-right : (a b : Bool) → a || b ≡ false → b ≡ false
or-right true b h = absurd (cc)
or-right false b h = h

-- an event of a script is taken
pub goes_next : (first : World) (before later : List PortCall) (event : Event) → IsNext (is_closed before) (after first before).last event
    → events later ≡ port_event ((after first before).last + 1) event ∷ events before → ((who : ℕ) → sent later who ≡ sent before who) → is_closed later ≡ is_closed before → Goes first before later
unfolding machine
goes_next first before later event next are sends closes = record {
  sent_same = sends;
  closed_same = λ who. ap (λ (c : ℕ → Bool). c who) closes;
  still = λ who h. or-right _ (is_lost who (events before)) (subst (λ (es : List PortEvent). is_lost who es ≡ false) are h);
  grows = λ who. let more = event-grows (after first before) event who in (more.0, ap (λ (es : List PortEvent). (machine first es).out who) are ∙ more.1);
  rises = omega (arith, ap (λ (es : List PortEvent). (machine first es).last) are, event-rises (after first before) event);
  aside = λ who low a. ap (λ (es : List PortEvent). (machine first es).out who) are
      ∙ event-aside (after first before) event (is_closed before) who next low
      (subst (λ (c : ℕ → Bool). Aside c (take_event (after first before) (port_event ((after first before).last + 1) event)).last who) closes
      (subst (λ (es : List PortEvent). Aside (is_closed later) (machine first es).last who) are a));
}

pub goes_on : (first : World) (before mid later : List PortCall) → Goes first before mid → Goes first mid later → Goes first before later
goes_on first before mid later one two = record {
  sent_same = λ who. two.sent_same who ∙ one.sent_same who;
  closed_same = λ who. two.closed_same who ∙ one.closed_same who;
  still = λ who h. one.still who (two.still who h);
  grows = λ who. let a = one.grows who in let b = two.grows who in
      (a.0 ++ b.0, b.1 ∙ ap (λ (out : List ℕ). out ++ b.0) a.1 ∙ append_assoc ((after first before).out who) a.0 b.0);
  rises = omega (arith, one.rises, two.rises);
  aside = λ who low a.
      let low' : is_closed mid who ≡ true → who ≤ (after first mid).last = λ shut. (let le : who ≤ (after first before).last = low (sym (one.closed_same who) ∙ shut) in omega (arith, le, one.rises)) in
      two.aside who low' a ∙ one.aside who low (lower a);
}
  where
    lower : {who : ℕ} → Aside (is_closed later) (after first later).last who → Aside (is_closed mid) (after first mid).last who
    lower {who} (inl shut) = inl (sym (two.closed_same who) ∙ shut)
    lower {who} (inr (inl above)) = inr (inl (omega (arith, above, two.rises)))
    lower {who} (inr (inr none)) = inr (inr none)
