-- Rounds on links whose answers may be any.
use Rattle.std.proofs.Common.{ℕ, suc, ◌+◌, ◌-◌, ◌^◌, ◌<◌, nat_eq, Bool, true, false, List, [], ◌∷◌, ◌++◌, ◌≡◌, refl, ap, sym, ◌∙◌, subst, inl, inr, append-nil, append_assoc, take, arith}
use Rattle.port_model.specs.declared.calls.PortCall.{PortCall}
use Rattle.port_model.specs.declared.calls.PortCall.TheVariants.{Accept, Read, Now}
use Rattle.port_model.specs.declared.calls.ReadAnswer.{ReadAnswer}
use Rattle.port_model.specs.declared.calls.ReadAnswer.TheVariants.{Gave, Quiet, Ended as HasEnded, Lost as WasLost}
use Rattle.port_model.specs.Chain.{Chain}
use Rattle.port_model.specs.History.{PortEvent, event_of, events, sent}
use Rattle.imap_steps.specs.Stepping.{World}
use Rattle.mail_model.specs.declared.standing.Standing.{Standing}
use Rattle.mail_model.specs.declared.standing.Standing.TheVariants.{Open, Closing}
use Rattle.mail_model.specs.Machine.{machine, after}
use Rattle.mail_model.specs.HandedOut.{HasHandedOut, SendsAnswered}
use Rattle.mail_rounds.specs.Calls.{AcceptsBelow, Asks, AsksIdle, Due, Flushes, GoesOn, Takes, TakesPart, clocked, dues, is_lost, read_room}
use Rattle.mail_rounds.specs.CoreSeen.{CoreSeen}
use Rattle.mail_rounds.specs.Held.{Held, queue_of}
use Rattle.mail_rounds.specs.Serves.{Answered, Serves}
use Rattle.mail_rounds.specs.Served.{ServesAll, ServesPart}
use Rattle.mail_server.specs.LinkHistories.{KeepsOnLinks, MakesRounds}
use Rattle.mail_server.specs.LinkRounds.{HasServed, LeavesNow, MadeAll, MadeBy, MadeSome, StoppedBy}
use Rattle.mail_server.specs.OnScript.{LeavesMade}
use Rattle.mail_server.proofs.Crashing.{First, More, Folds, leaves_none, leaves_on}

-- More calls.

abbrev Grows : List PortCall → List PortCall → Type 0
Grows before later = (more : List PortCall) × (later ≡ more ++ before)

grows-same : (before later : List PortCall) → later ≡ before → Grows before later
grows-same before later is = ([], is)

grows-then : (before mid later : List PortCall) → Grows before mid → Grows mid later → Grows before later
grows-then before mid later one two = (
  two.0 ++ one.0,
  two.1 ∙ ap (λ (calls : List PortCall). two.0 ++ calls) one.1 ∙ sym (append_assoc two.0 one.0 before),
)

accepts-grow : (last_number : Bool) (last : ℕ) (before later : List PortCall) → AcceptsBelow last_number last before later → Grows before later
accepts-grow true last before later is = grows-same before later is
accepts-grow false last before later is = (Accept (last + 1) is.0 ∷ [], is.1)

reads-grow : (number : ℕ) (answer : ReadAnswer) (reading : ℕ) (before later : List PortCall) → later ≡ clocked answer reading (Read number read_room answer ∷ before) → Grows before later
reads-grow number (Gave bytes) reading before later is = (Now reading ∷ Read number read_room (Gave bytes) ∷ [], is)
reads-grow number Quiet reading before later is = (Read number read_room Quiet ∷ [], is)
reads-grow number HasEnded reading before later is = (Read number read_room HasEnded ∷ [], is)
reads-grow number WasLost reading before later is = (Read number read_room WasLost ∷ [], is)

asks-grow : (standing : Standing) (number : ℕ) (unsent : List ℕ) (before later : List PortCall) → AsksIdle standing number unsent before later → Grows before later
asks-grow Open number [] before later is = reads-grow number is.0 is.1 before later is.2
asks-grow Open number (byte ∷ bytes) before later is = grows-same before later is
asks-grow Closing number bytes before later is = grows-same before later is

all-grow : (list : List Due) (before later : List PortCall) → Chain Asks list before later → Grows before later
all-grow [] before later is = grows-same before later is
all-grow (due ∷ list) before later is = grows-then before is.0 later (asks-grow due.standing due.number due.unsent before is.0 is.1) (all-grow list is.0 later is.2)

takes-grow : (first : World) (before later : List PortCall) → TakesPart first before later → Grows before later
takes-grow first before later takes =
    grows-then before takes.1.mid later (accepts-grow (nat_eq (after first before).last (2 ^ 32 - 1)) (after first before).last before takes.1.mid takes.1.accepts)
    (all-grow (take takes.0 (dues first before)) takes.1.mid later takes.1.asks)

-- The law that answers are never taken back.
abbrev pub OnlyGrow : Type 0
OnlyGrow = (world : World) (event : PortEvent) (older : List PortEvent) (number : ℕ) → (more : List ℕ) × ((machine world (event ∷ older)).out number ≡ (machine world older).out number ++ more)

abbrev Longer : List ℕ → List ℕ → Type 0
Longer out later = (more : List ℕ) × (later ≡ out ++ more)

longer-then : (a b c : List ℕ) → Longer a b → Longer b c → Longer a c
longer-then a b c one two = (one.0 ++ two.0, two.1 ∙ ap (λ (out : List ℕ). out ++ two.0) one.1 ∙ append_assoc a one.0 two.0)

events-longer : OnlyGrow → (first : World) (some older : List PortEvent) (number : ℕ) → Longer ((machine first older).out number) ((machine first (some ++ older)).out number)
events-longer law first [] older number = ([], sym (append-nil ((machine first older).out number)))
events-longer law first (event ∷ some) older number =
    longer-then ((machine first older).out number) ((machine first (some ++ older)).out number) ((machine first (event ∷ (some ++ older))).out number)
    (events-longer law first some older number) (law first event (some ++ older) number)

calls-longer : OnlyGrow → (first : World) (more before : List PortCall) (number : ℕ) → Longer ((after first before).out number) ((after first (more ++ before)).out number)
calls-longer law first [] before number = ([], sym (append-nil ((after first before).out number)))
calls-longer law first (call ∷ more) before number =
    longer-then ((after first before).out number) ((after first (more ++ before)).out number) ((machine first (event_of call (more ++ before) ++ events (more ++ before))).out number)
    (calls-longer law first more before number) (events-longer law first (event_of call (more ++ before)) (events (more ++ before)) number)

-- What a server has sent is a front of what the machine answered.

answered-front : (lost : Bool) (sent_bytes queue out : List ℕ) → Answered lost sent_bytes queue out → (rest : List ℕ) × (out ≡ sent_bytes ++ rest)
answered-front true sent_bytes queue out a = (a.front refl).1
answered-front false sent_bytes queue out a = (queue, sym (a.whole refl))

pub serves_front : {C : Type 0} (seen : CoreSeen C) (first : World) (calls : List PortCall) (held : Held C) → Serves seen first calls held → SendsAnswered first calls calls
serves_front seen first calls held serves number =
    answered-front (is_lost number (events calls)) (sent calls number) (queue_of number held.links) ((after first calls).out number) (serves.answered number)

longer-front : OnlyGrow → (first : World) (before later : List PortCall) → SendsAnswered first before later → Grows before later → SendsAnswered first later later
longer-front law first before later sends grows number =
    let longer = subst (λ (calls : List PortCall). Longer ((after first before).out number) ((after first calls).out number)) (sym grows.1) (calls-longer law first grows.0 before number) in
    longer-then (sent later number) ((after first before).out number) ((after first later).out number) (sends number) longer

-- Before any call nothing is handed out.
pub none_handed : (first : World) → HasHandedOut first [] first
unfolding machine
none_handed first = record { missing = []; prefix = []; changes_are = refl; world_is = refl; none = tt }

none_kept : {C : Type 0} (seen : CoreSeen C) (first : World) (core : C) → seen.stands core (record { world = first; parts = [] }) → KeepsOnLinks first [] (LeavesNow seen core)
none_kept seen first core stands = record { worlds = first ∷ []; left = (core, seen.now core (record { world = first; parts = [] }) stands); each = (none_handed first, tt) }

-- A round, and a part of one.

pub round_made : {C : Type 0} (seen : CoreSeen C) (old mid new : Held C) (before between later : List PortCall → Type 0) → First → More → Folds
    → GoesOn (ServesAll seen Flushes old mid) before between → GoesOn (ServesAll seen Takes mid new) between later → GoesOn (MadeBy seen old new) before later
round_made seen old mid new before between later law_first law_more law_folds flushes takes history may_be =
    let flushed = flushes history may_be in
    let taken = takes flushed.0 flushed.1 in (
      taken.0,
      taken.1,
      λ first serves.
          let one = flushed.2 first serves in
          let two = taken.2 first one.1 in
          record {
            rounds = record { flushed = flushed.0; flushes = one.0.calls; takes = two.0.calls };
            serves = two.1;
            kept = record { worlds = two.0.keeps.worlds; left = (mid.core, two.0.keeps.left); each = two.0.keeps.each };
            leaves = λ began so_far.
                leaves_on seen began mid.core new.core first flushed.0 taken.0 law_first law_more law_folds
                (leaves_on seen began old.core mid.core first history flushed.0 law_first law_more law_folds so_far one.0.crash) two.0.crash;
          },
    )

pub round_stopped : {C : Type 0} (seen : CoreSeen C) (old mid new : Held C) (before between later : List PortCall → Type 0) → First → More → Folds → OnlyGrow
    → GoesOn (ServesAll seen Flushes old mid) before between → GoesOn (ServesPart seen TakesPart mid new) between later → GoesOn (StoppedBy seen old new) before later
round_stopped seen old mid new before between later law_first law_more law_folds law_grow flushes takes history may_be =
    let flushed = flushes history may_be in
    let taken = takes flushed.0 flushed.1 in (
      taken.0,
      taken.1,
      λ first serves.
          let one = flushed.2 first serves in
          let two = taken.2 first one.1 in
          record {
            part = record { flushed = flushed.0; flushes = one.0.calls; takes = two.calls };
            front = longer-front law_grow first flushed.0 taken.0 two.sends (takes-grow first flushed.0 taken.0 two.calls);
            kept = record { worlds = two.keeps.worlds; left = (mid.core, two.keeps.left); each = two.keeps.each };
            leaves = λ began so_far.
                leaves_on seen began mid.core new.core first flushed.0 taken.0 law_first law_more law_folds
                (leaves_on seen began old.core mid.core first history flushed.0 law_first law_more law_folds so_far one.0.crash) two.crash;
          },
    )

-- Rounds after rounds.

pub rounds_none : {C : Type 0} (seen : CoreSeen C) (first : World) (held : Held C) → LeavesMade seen held.core held.core first (after first []).changes → Serves seen first [] held → MadeAll seen first 0 [] held held
unfolding machine
rounds_none seen first held leaves serves = record { made = refl; serves = serves; kept = none_kept seen first held.core serves.stands; leaves = leaves }

pub rounds_more : {C : Type 0} (seen : CoreSeen C) (first : World) (turns : ℕ) (began old new : Held C) (before later : List PortCall) → MadeAll seen first turns before began old → MadeBy seen old new before later
    → MadeAll seen first (turns + 1) later began new
rounds_more seen first turns began old new before later so_far by =
    let round = by first so_far.serves in
    let more : turns + 1 ≡ suc turns = omega arith in
    subst (λ (n : ℕ). MadeAll seen first n later began new) (sym more)
    (record { made = (before, so_far.made, round.rounds); serves = round.serves; kept = round.kept; leaves = round.leaves began.core so_far.leaves })

pub rounds_stop : {C : Type 0} (seen : CoreSeen C) (first : World) (turns rounds : ℕ) (began old new : Held C) (before later : List PortCall) → turns < rounds → MadeAll seen first turns before began old → StoppedBy seen old new before later
    → MadeSome seen first rounds later began.core new.core
rounds_stop seen first turns rounds began old new before later fewer so_far by =
    let round = by first so_far.serves in
    record {
      stops = record { turns = turns; fewer = fewer; before = before; made = so_far.made; part = inr round.part };
      served = record { front = round.front; kept = round.kept; leaves = round.leaves began.core so_far.leaves };
    }

-- All rounds were made.
pub all_served : {C : Type 0} (seen : CoreSeen C) (first : World) (rounds : ℕ) (calls : List PortCall) (old new : Held C) → MadeAll seen first rounds calls old new
    → MakesRounds first rounds calls × seen.stands new.core (after first calls).shared × HasServed seen first calls old.core new.core
all_served seen first rounds calls old new all = (
  all.made,
  all.serves.stands,
  record { front = serves_front seen first calls new all.serves; kept = all.kept; leaves = all.leaves },
)

-- Before any call nothing is sent.
pub sends_none : (first : World) → SendsAnswered first [] []
unfolding machine
sends_none first number = ([], refl)

-- No round was made.
pub none_served : {C : Type 0} (seen : CoreSeen C) (first : World) (rounds : ℕ) (core : C) → 0 < rounds → seen.stands core (record { world = first; parts = [] }) → MadeSome seen first rounds [] core core
unfolding machine
none_served seen first rounds core some stands = record {
  stops = record { turns = 0; fewer = some; before = []; made = refl; part = inl refl };
  served = record {
    front = sends_none first;
    kept = none_kept seen first core stands;
    leaves = leaves_none seen core first;
  };
}
