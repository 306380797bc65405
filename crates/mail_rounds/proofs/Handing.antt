-- What was handed out outlives a crash: nothing is sent in a round but what was answered before it.
use Rattle.std.proofs.Common.{ℕ, ◌+◌, ◌^◌, ◌-◌, ◌==◌, nat_eq, Bool, true, false, cond, List, [], ◌∷◌, ◌++◌, Option, Some, None, length, ◌≡◌, refl, sym, ◌∙◌, ap, subst, append_assoc, append-nil}
use Rattle.std.specs.List.{AllByRecursion}
use Rattle.std.proofs.lemmas.List.{append_cancel_right}
use Rattle.port_model.specs.declared.calls.PortCall.{PortCall}
use Rattle.port_model.specs.declared.calls.PortCall.TheVariants.{Accept, Read, Send}
use Rattle.port_model.specs.declared.calls.PortSend.{PortSend}
use Rattle.port_model.specs.declared.calls.PortSend.TheVariants.{Took, Lost as SendLost}
use Rattle.port_model.specs.declared.calls.ReadAnswer.{ReadAnswer}
use Rattle.port_model.specs.declared.calls.ReadAnswer.TheVariants.{Gave, Quiet, Ended as HasEnded, Lost as WasLost}
use Rattle.port_model.specs.Chain.{Chain}
use Rattle.port_model.specs.Streams.{moment}
use Rattle.port_model.specs.History.{PortEvent, Piece, Lost, event_of, events, sent}
use Rattle.imap_steps.specs.Stepping.{World, Shared, applied, left_by}
use Rattle.mail_model.specs.declared.standing.Standing.{Standing}
use Rattle.mail_model.specs.declared.standing.Standing.TheVariants.{Open, Closing}
use Rattle.mail_model.specs.Machine.{Machine, Made, Session, Taking, after, is_open, leaves, machine, session_at, take_event, takes, taking_of}
use Rattle.mail_model.specs.Changes.{folded}
use Rattle.mail_model.specs.HandedOut.{AllBehind, ChangesOnTop, HasHandedOut, NoneHandedOut, SendsAnswered}
use Rattle.mail_rounds.specs.CoreSeen.{CoreSeen}
use Rattle.mail_rounds.specs.Crashes.{MachineCrashes, worlds_since}
use Rattle.mail_rounds.specs.Held.{Held, queue_of}
use Rattle.mail_rounds.specs.Calls.{GoesOn, Offers, OffersBytes, Closes, ClosesEmpty, Asks, AsksIdle, AcceptsBelow, Flushes, Rounds, RoundsPart, Takes, TakesPart, TakesSome, clocked, dues, is_lost, read_room}
use Rattle.mail_rounds.specs.Serves.{Answered, Begins, Does, Serves}
use Rattle.mail_rounds.specs.Served.{KeepsHandedOut, Served, ServesAll, ServesPart}
use Rattle.mail_rounds.proofs.Keeping.{machine-event}
use Rattle.mail_rounds.proofs.Making.{machine-then}

-- The laws of the machine that these take: what later events change comes on top; what was answered before is no part of its
-- answers; and the machine's world is the first one after its changes.
pub record Laws : Type 0 where
  on_top : (world : World) (newer older : List PortEvent) → ChangesOnTop (machine world older) (machine world (newer ++ older))
  none : (first : World) (before later : List PortCall) (made : List Made) → SendsAnswered first before later → AllBehind (after first before).out made → NoneHandedOut later made
  folds : (world : World) (events : List PortEvent) → (machine world events).shared.world ≡ folded world (machine world events).changes

pub laws : ((world : World) (newer older : List PortEvent) → ChangesOnTop (machine world older) (machine world (newer ++ older)))
    → ((first : World) (before later : List PortCall) (made : List Made) → SendsAnswered first before later → AllBehind (after first before).out made → NoneHandedOut later made)
    → ((world : World) (events : List PortEvent) → (machine world events).shared.world ≡ folded world (machine world events).changes) → Laws
laws on_top none folds = record { on_top = on_top; none = none; folds = folds }

chain-all : {X : Type 0} (R : List PortCall → List PortCall → Type 0) (Step : X → List PortCall → List PortCall → Type 0) → ((a : List PortCall) → R a a)
    → ((a b c : List PortCall) → R a b → R b c → R a c) → ((x : X) (a b : List PortCall) → Step x a b → R a b) → (xs : List X) (a b : List PortCall) → Chain Step xs a b → R a b
chain-all R Step none then each [] a b c = subst (R a) (sym c) (none a)
chain-all R Step none then each (x ∷ xs) a b c = then a c.0 b (each x a c.0 c.1) (chain-all R Step none then each xs c.0 b c.2)

-- Calls come on top of those before, and so do events.

abbrev More : List PortCall → List PortCall → Type 0
More before later = (newer : List PortEvent) × (events later ≡ newer ++ events before)

more-then : (a b c : List PortCall) → More a b → More b c → More a c
more-then a b c one two = (two.0 ++ one.0, two.1 ∙ ap (λ (es : List PortEvent). two.0 ++ es) one.1 ∙ sym (append_assoc two.0 one.0 (events a)))

-- A `take` sends nothing.

record IsQuiet (before later : List PortCall) : Type 0 where
  more : More before later
  sent_same : (number : ℕ) → sent later number ≡ sent before number

quiet-none : (a : List PortCall) → IsQuiet a a
quiet-none a = record { more = ([], refl); sent_same = λ number. refl }

quiet-then : (a b c : List PortCall) → IsQuiet a b → IsQuiet b c → IsQuiet a c
quiet-then a b c one two = record { more = more-then a b c one.more two.more; sent_same = λ number. two.sent_same number ∙ one.sent_same number }

quiet-read : (number reading : ℕ) (answer : ReadAnswer) (before : List PortCall) → IsQuiet before (clocked answer reading (Read number read_room answer ∷ before))
quiet-read number reading (Gave bytes) before = record { more = (Piece number bytes (moment reading) ∷ [], refl); sent_same = λ who. refl }
quiet-read number reading Quiet before = record { more = ([], refl); sent_same = λ who. refl }
quiet-read number reading HasEnded before = record { more = (event_of (Read number read_room HasEnded) before, refl); sent_same = λ who. refl }
quiet-read number reading WasLost before = record { more = (event_of (Read number read_room WasLost) before, refl); sent_same = λ who. refl }

quiet-ask : (standing : Standing) (number : ℕ) (unsent : List ℕ) (before later : List PortCall) → AsksIdle standing number unsent before later → IsQuiet before later
quiet-ask Open number [] before later h = subst (IsQuiet before) (sym h.2) (quiet-read number h.1 h.0 before)
quiet-ask Open number (byte ∷ bytes) before later h = subst (IsQuiet before) (sym h) (quiet-none before)
quiet-ask Closing number unsent before later h = subst (IsQuiet before) (sym h) (quiet-none before)

quiet-accept : (full : Bool) (last : ℕ) (before later : List PortCall) → AcceptsBelow full last before later → IsQuiet before later
quiet-accept true last before later h = subst (IsQuiet before) (sym h) (quiet-none before)
quiet-accept false last before later h =
    subst (IsQuiet before) (sym h.1) (record { more = (event_of (Accept (last + 1) h.0) before, refl); sent_same = λ number. refl })

quiet-take : (asked : ℕ) (first : World) (before later : List PortCall) → TakesSome asked first before later → IsQuiet before later
quiet-take asked first before later t =
    let last = (after first before).last in
    quiet-then before t.mid later (quiet-accept (nat_eq last (2 ^ 32 - 1)) last before t.mid t.accepts)
    (chain-all IsQuiet Asks quiet-none quiet-then (λ due a b asks. quiet-ask due.standing due.number due.unsent a b asks) _ t.mid later t.asks)

-- A `flush` answers nothing.

record IsStill (first : World) (before later : List PortCall) : Type 0 where
  more : More before later
  out_same : (number : ℕ) → (after first later).out number ≡ (after first before).out number

still-none : (first : World) (a : List PortCall) → IsStill first a a
still-none first a = record { more = ([], refl); out_same = λ number. refl }

still-then : (first : World) (a b c : List PortCall) → IsStill first a b → IsStill first b c → IsStill first a c
still-then first a b c one two = record { more = more-then a b c one.more two.more; out_same = λ number. two.out_same number ∙ one.out_same number }

no-answers : (shared : Shared) (session : Session) → (leaves shared session).answers ≡ []
no-answers shared session = by (is_open session.standing)
  where
    leaving : Bool → Taking
    leaving is_served = cond is_served (record { shared = left_by shared session.number; session = record session { standing = Closing }; answers = []; changes = [] }) (taking_of shared session)

    by : (is_served : Bool) → (leaving is_served).answers ≡ []
    by true = refl
    by false = refl

left-out : (same : Bool) (answers old : List ℕ) → answers ≡ [] → cond same (old ++ answers) old ≡ old
left-out true answers old e = ap (λ (bytes : List ℕ). old ++ bytes) e ∙ append-nil old
left-out false answers old e = refl

lost-out : (m : Machine) (number who : ℕ) → (take_event m (Lost number)).out who ≡ m.out who
lost-out m number who = by (session_at number m.sessions)
  where
    by : (found : Option Session) → (elim found as (λ (f : Option Session). Machine) [ None ↦ m | Some session ↦ takes m (leaves m.shared session) ]).out who ≡ m.out who
    by None = refl
    by (Some session) = let taking = leaves m.shared session in left-out (who == taking.session.number) taking.answers (m.out who) (no-answers m.shared session)

still-send : (first : World) (number : ℕ) (bytes : List ℕ) (answer : PortSend) (before : List PortCall) → IsStill first before (Send number bytes answer ∷ before)
still-send first number bytes (Took n) before = record { more = ([], refl); out_same = λ who. refl }
still-send first number bytes SendLost before = record {
  more = (Lost number ∷ [], refl);
  out_same = λ who. ap (λ (m : Machine). m.out who) (machine-event first (Lost number) (events before)) ∙ lost-out (after first before) number who;
}

still-offer : (first : World) (number : ℕ) (unsent : List ℕ) (before later : List PortCall) → OffersBytes number unsent before later → IsStill first before later
still-offer first number [] before later h = subst (IsStill first before) (sym h) (still-none first before)
still-offer first number (byte ∷ bytes) before later h = subst (IsStill first before) (sym h.1) (still-send first number (byte ∷ bytes) h.0 before)

still-close : (first : World) (standing : Standing) (number : ℕ) (unsent : List ℕ) (before later : List PortCall) → ClosesEmpty standing number unsent before later → IsStill first before later
still-close first Open number unsent before later h = subst (IsStill first before) (sym h) (still-none first before)
still-close first Closing number (byte ∷ bytes) before later h = subst (IsStill first before) (sym h) (still-none first before)
still-close first Closing number [] before later h = subst (IsStill first before) (sym h) (record { more = ([], refl); out_same = λ who. refl })

still-flush : (first : World) (before later : List PortCall) → Flushes first before later → IsStill first before later
still-flush first before later f =
    still-then first before f.mid later
    (chain-all (IsStill first) Offers (still-none first) (still-then first) (λ due a b offers. still-offer first due.number due.unsent a b offers) (dues first before) before f.mid f.offers)
    (chain-all (IsStill first) Closes (still-none first) (still-then first) (λ due a b closes. still-close first due.standing due.number due.unsent a b closes) (dues first f.mid) f.mid later f.closes)

-- What was sent had been answered.

front-answered : (lost : Bool) (sent_bytes queue out : List ℕ) → Answered lost sent_bytes queue out → (rest : List ℕ) × (out ≡ sent_bytes ++ rest)
front-answered true sent_bytes queue out a = (a.front refl).1
front-answered false sent_bytes queue out a = (queue, sym (a.whole refl))

sends-served : {C : Type 0} (seen : CoreSeen C) (first : World) (history : List PortCall) (held : Held C) → Serves seen first history held → SendsAnswered first history history
sends-served seen first history held serves number =
    front-answered (is_lost number (events history)) (sent history number) (queue_of number held.links) ((after first history).out number) (serves.answered number)

sends-flush : (first : World) (before later : List PortCall) → IsStill first before later → SendsAnswered first later later → SendsAnswered first before later
sends-flush first before later still sends number = ((sends number).0, sym (still.out_same number) ∙ (sends number).1)

sends-take : (first : World) (before mid later : List PortCall) → IsQuiet mid later → SendsAnswered first before mid → SendsAnswered first before later
sends-take first before mid later quiet sends number =
    ((sends number).0, (sends number).1 ∙ ap (λ (bytes : List ℕ). bytes ++ (sends number).0) (sym (quiet.sent_same number)))

-- A prefix that lacks only changes of a call has all that was handed out.

folded-more : (world : World) (newer made : List Made) → folded (folded world made) newer ≡ folded world (newer ++ made)
folded-more world [] made = refl
folded-more world (one ∷ newer) made = ap (λ (w : World). applied w one.change) (folded-more world newer made)

none-more : (history : List PortCall) (front : List Made) (one : Made) (made : List Made) → NoneHandedOut history front → NoneHandedOut history (one ∷ made) → NoneHandedOut history (front ++ one ∷ [])
none-more history [] one made none more = (more.0, tt)
none-more history (newest ∷ front) one made none more = (none.0, none-more history front one made none.1 more)

each-has : (first : World) (history : List PortCall) (world : World) (earlier : List Made) → world ≡ folded first earlier → (front made : List Made) → (after first history).changes ≡ front ++ (made ++ earlier)
    → NoneHandedOut history front → NoneHandedOut history made → AllByRecursion (HasHandedOut first history) (worlds_since world made [])
each-has first history world earlier is front [] are none more = (record { missing = front; prefix = earlier; changes_are = are; world_is = is; none = none }, tt)
each-has first history world earlier is front (one ∷ made) are none more = (
  record {
    missing = front;
    prefix = one ∷ (made ++ earlier);
    changes_are = are;
    world_is = ap (λ (w : World). folded w (one ∷ made)) is ∙ folded-more first (one ∷ made) earlier;
    none = none;
  },
  each-has first history world earlier is (front ++ one ∷ []) made (are ∙ sym (append_assoc front (one ∷ []) (made ++ earlier))) (none-more history front one made none more) more.1,
)

keeps : {C : Type 0} (seen : CoreSeen C) (old new : C) (first : World) (before later : List PortCall) → Laws → seen.stands old (after first before).shared → More before later → SendsAnswered first before later
    → MachineCrashes seen old new first before later → KeepsHandedOut seen old new first later
keeps seen old new first before later law stands more sends crash =
    let was = after first before in
    let top : ChangesOnTop was (after first later) = subst (λ (es : List PortEvent). ChangesOnTop was (machine first es)) (sym more.1) (law.on_top first more.0 (events before)) in
    let made : top.made ≡ crash.made = append_cancel_right top.made crash.made was.changes (sym top.changes_are ∙ crash.changes_are) in
    let behind : AllBehind was.out crash.made = subst (AllBehind was.out) made top.behind in
    record {
      worlds = worlds_since was.shared.world crash.made [];
      left = crash.left (seen.moments old) [] (seen.now old was.shared stands);
      each = each-has first later was.shared.world was.changes (law.folds first (events before)) [] crash.made crash.changes_are tt (law.none first before later crash.made sends behind);
    }

-- The calls of the server

pub flush_serves : {C : Type 0} (seen : CoreSeen C) (held later : Held C) (old new : List PortCall → Type 0) → Laws → GoesOn (Does seen Flushes held later) old new → GoesOn (ServesAll seen Flushes held later) old new
flush_serves seen held later old new law goes before may_be =
    let one = goes before may_be in (
      one.0,
      one.1,
      λ first serves.
          let did = one.2 first serves in
          let still = still-flush first before one.0 did.0.calls in
          let sends = sends-flush first before one.0 still (sends-served seen first one.0 later did.1) in (
            record { calls = did.0.calls; sends = sends; crash = did.0.crash; keeps = keeps seen held.core later.core first before one.0 law serves.stands still.more sends did.0.crash },
            did.1,
          ),
    )

taken : {C : Type 0} (seen : CoreSeen C) (Calls : World → List PortCall → List PortCall → Type 0) (held : Held C) (new : C) (first : World) (before later : List PortCall) → Laws → Serves seen first before held
    → IsQuiet before later → Calls first before later → MachineCrashes seen held.core new first before later → Served seen Calls held.core new first before later
taken seen Calls held new first before later law serves quiet calls crash =
    let sends = sends-take first before before later quiet (sends-served seen first before held serves) in
    record { calls = calls; sends = sends; crash = crash; keeps = keeps seen held.core new first before later law serves.stands quiet.more sends crash }

pub take_serves : {C : Type 0} (seen : CoreSeen C) (held later : Held C) (old new : List PortCall → Type 0) → Laws → GoesOn (Does seen Takes held later) old new → GoesOn (ServesAll seen Takes held later) old new
take_serves seen held later old new law goes before may_be =
    let one = goes before may_be in (
      one.0,
      one.1,
      λ first serves.
          let did = one.2 first serves in
          (taken seen Takes held later.core first before one.0 law serves (quiet-take (length (dues first before)) first before one.0 did.0.calls) did.0.calls did.0.crash, did.1),
    )

pub part_serves : {C : Type 0} (seen : CoreSeen C) (held later : Held C) (old new : List PortCall → Type 0) → Laws → GoesOn (Begins seen TakesPart held later) old new → GoesOn (ServesPart seen TakesPart held later) old new
part_serves seen held later old new law goes before may_be =
    let one = goes before may_be in (
      one.0,
      one.1,
      λ first serves.
          let did = one.2 first serves in
          taken seen TakesPart held later.core first before one.0 law serves (quiet-take did.calls.0 first before one.0 did.calls.1) did.calls did.crash,
    )

-- a `flush`, and a `take` or a part of one
both : {C : Type 0} (seen : CoreSeen C) (Calls Both : World → List PortCall → List PortCall → Type 0) (held : Held C) (mid new : C) (first : World) (before flushed later : List PortCall) → Laws → Serves seen first before held
    → Served seen Flushes held.core mid first before flushed → IsQuiet flushed later → Served seen Calls mid new first flushed later → Both first before later → Served seen Both held.core new first before later
both seen Calls Both held mid new first before flushed later law serves one quiet two calls =
    let sends = sends-take first before flushed later quiet one.sends in
    let crash = machine-then seen held.core mid new first before flushed later one.crash two.crash in
    let more = more-then before flushed later (still-flush first before flushed one.calls).more quiet.more in
    record { calls = calls; sends = sends; crash = crash; keeps = keeps seen held.core new first before later law serves.stands more sends crash }

pub round_serves : {C : Type 0} (seen : CoreSeen C) (held flushed later : Held C) (old mid new : List PortCall → Type 0) → Laws → GoesOn (ServesAll seen Flushes held flushed) old mid
    → GoesOn (ServesAll seen Takes flushed later) mid new → GoesOn (ServesAll seen Rounds held later) old new
round_serves seen held flushed later old mid new law one two before may_be =
    let a = one before may_be in
    let b = two a.0 a.1 in (
      b.0,
      b.1,
      λ first serves.
          let did = a.2 first serves in
          let then = b.2 first did.1 in (
            both seen Takes Rounds held flushed.core later.core first before a.0 b.0 law serves did.0 (quiet-take (length (dues first a.0)) first a.0 b.0 then.0.calls) then.0
                (record { flushed = a.0; flushes = did.0.calls; takes = then.0.calls }),
            then.1,
          ),
    )

pub round_part_serves : {C : Type 0} (seen : CoreSeen C) (held flushed later : Held C) (old mid new : List PortCall → Type 0) → Laws → GoesOn (ServesAll seen Flushes held flushed) old mid
    → GoesOn (ServesPart seen TakesPart flushed later) mid new → GoesOn (ServesPart seen RoundsPart held later) old new
round_part_serves seen held flushed later old mid new law one two before may_be =
    let a = one before may_be in
    let b = two a.0 a.1 in (
      b.0,
      b.1,
      λ first serves.
          let did = a.2 first serves in
          let then = b.2 first did.1 in
          both seen TakesPart RoundsPart held flushed.core later.core first before a.0 b.0 law serves did.0 (quiet-take then.calls.0 first a.0 b.0 then.calls.1) then
          (record { flushed = a.0; flushes = did.0.calls; takes = then.calls }),
    )
