-- A server whose ports play a script makes the rounds that play it.
use Rattle.std.proofs.Common.{suc, ◌<◌, ◌≤◌, ◌≢◌, Bool, true, false, List, [], ◌∷◌, inl, arith, length, ◌≡◌, refl, sym, ◌∙◌, ap, subst}
use Rattle.std.proofs.lemmas.Option.{same_Some}
use Rattle.port_model.specs.declared.calls.PortCall.{PortCall}
use Rattle.port_model.specs.declared.events.Event.{Event}
use Rattle.port_model.specs.Playing.{Plan, IsPlayed, playing}
use Rattle.port_model.specs.Script.{AreEvents}
use Rattle.port_model.specs.ScriptPorts.{HasCalls, IsPlayedUntil, Scripted, its_plan, script_history}
use Rattle.mail_model.specs.Machine.{Machine}
use Rattle.imap_steps.specs.Stepping.{World}
use Rattle.mail_rounds.specs.Calls.{GoesOn, Flushes, Rounds, RoundsPart, dues}
use Rattle.mail_rounds.specs.CoreSeen.{CoreSeen}
use Rattle.mail_rounds.specs.Crashes.{MachineCrashes}
use Rattle.mail_rounds.specs.Held.{Held}
use Rattle.mail_rounds.specs.Serves.{Serves}
use Rattle.mail_rounds.specs.Served.{ServesAll, ServesPart}
use Rattle.mail_server.specs.Rounds.{plan_of, left_in, reached}
use Rattle.mail_server.specs.OnScript.{HasPlayed, IsOnScript, IsPartway, PartCrashes}
use Rattle.mail_server.proofs.Crashing.{on_partway}
use Rattle.mail_server.proofs.Progress.{rounds_less, rounds_on, plays_out}
use Rattle.mail_server.proofs.Starving.{Leaving, round_partway}

pub none-left : (left : List Event) → length left ≤ 0 → left ≡ []
none-left [] none = refl
none-left (event ∷ later) none = absurd (omega (arith, none))

-- Ports that recorded all calls have these for their history, and no other.

pub told : (ports : Scripted) → ports.starved ≡ false → script_history ports ports.calls
told ports h = subst (λ (starved : Bool). HasCalls starved ports.plan ports.calls ports.calls) (sym h) refl

only : (ports : Scripted) (calls : List PortCall) → ports.starved ≡ false → script_history ports calls → calls ≡ ports.calls
only ports calls h may_be = subst (λ (starved : Bool). HasCalls starved ports.plan ports.calls calls) h may_be

went : (Step : List PortCall → List PortCall → Type 0) (ports ports' : Scripted) → ports.starved ≡ false → ports'.starved ≡ false → GoesOn Step (script_history ports) (script_history ports') → Step ports.calls ports'.calls
went Step ports ports' h h' goes = let gone = goes ports.calls (told ports h) in subst (Step ports.calls) (only ports' gone.0 h' gone.1) gone.2

played-until : (plan : Plan) (calls : List PortCall) → IsPlayed plan calls → IsPlayedUntil plan calls
played-until plan [] plays = tt
played-until plan (call ∷ older) plays = inl plays

-- Whatever their history may be, the script answers it up to calls that give nothing.
pub until : (ports : Scripted) (calls : List PortCall) → (ports.starved ≡ false → IsPlayed ports.plan ports.calls) → script_history ports calls → IsPlayedUntil ports.plan calls
until ports calls plays = by_record ports.starved plays
  where
    by_record : (starved : Bool) → (starved ≡ false → IsPlayed ports.plan ports.calls) → HasCalls starved ports.plan ports.calls calls → IsPlayedUntil ports.plan calls
    by_record true plays has = has.until
    by_record false plays has = subst (IsPlayedUntil ports.plan) (sym has) (played-until ports.plan ports.calls (plays refl))

-- A script begins on a server that holds nothing.
pub script_begins : {C : Type 0} (seen : CoreSeen C) (first : World) (script : List Event) (ports : Scripted) (held : Held C) → Serves seen first [] held
    → ports ≡ record { plan = plan_of script; calls = []; starved = false; starved_accepts = 0; starved_calls = 0 } → IsOnScript seen first script ports held
script_begins seen first script ports held serves e =
    subst (λ (p : Scripted). IsOnScript seen first script p held) (sym e)
    (record { told = refl; plan = refl; serves = serves; turns = 0; had = λ number. []; rounds = (refl, λ number. refl); answered = tt })

-- A round keeps a server in the middle of a script, and less is left of it.
pub round_goes_on : {C : Type 0} (seen : CoreSeen C) (first : World) (script : List Event) (ports ports' : Scripted) (held held' : Held C) → AreEvents script
    → GoesOn (ServesAll seen Rounds held held') (script_history ports) (script_history ports') → its_plan ports' ≡ its_plan ports → ports'.starved ≡ false → IsPlayed ports'.plan ports'.calls
    → IsOnScript seen first script ports held → (playing ports.plan ports.calls).left ≢ []
    → IsOnScript seen first script ports' held' × (length (playing ports'.plan ports'.calls).left < length (playing ports.plan ports.calls).left)
round_goes_on seen first script ports ports' held held' are goes plan h plays on some =
    let plan' : ports'.plan ≡ plan_of script = same_Some ports'.plan ports.plan plan ∙ on.plan in
    let did = went (ServesAll seen Rounds held held') ports ports' on.told h goes first on.serves in
    let round = did.0.calls in
    let some' : left_in script ports.calls ≢ [] = subst (λ (p : Plan). (playing p ports.calls).left ≢ []) on.plan some in
    let plays' : IsPlayed (plan_of script) ports'.calls = subst (λ (p : Plan). IsPlayed p ports'.calls) plan' plays in
    let less = rounds_less first script on.turns ports.calls round.flushed ports'.calls on.had are on.rounds round.flushes round.takes plays' some' in (
      record {
        told = h;
        plan = plan';
        serves = did.1;
        turns = suc on.turns;
        had = reached first round.flushed on.had;
        rounds = record { before = ports.calls; had = on.had; earlier = on.rounds; some_left = some'; flushed = round.flushed; flushes = round.flushes; takes = round.takes; got_is = λ number. refl };
        answered = plays';
      },
      subst (λ (p : Plan). length (playing p ports'.calls).left < length (playing ports.plan ports.calls).left) (sym plan')
          (subst (λ (p : Plan). length (left_in script ports'.calls) < length (playing p ports.calls).left) (sym on.plan) less),
    )

pub round_made : {C : Type 0} (seen : CoreSeen C) (first : World) (script : List Event) (ports ports' : Scripted) (held held' : Held C) → GoesOn (ServesAll seen Rounds held held') (script_history ports) (script_history ports')
    → ports'.starved ≡ false → IsOnScript seen first script ports held → MachineCrashes seen held.core held'.core first ports.calls ports'.calls
round_made seen first script ports ports' held held' goes h on = (went (ServesAll seen Rounds held held') ports ports' on.told h goes first on.serves).0.crash

-- Wherever a round ended, and whether or not its calls were recorded, a crash leaves the world after some of the changes that it
-- made, which are of the script.
part-crashes : {C : Type 0} (seen : CoreSeen C) (first : World) (script : List Event) (ports ports' : Scripted) (held held' : Held C) (later : List PortCall) → Leaving → AreEvents script
    → its_plan ports' ≡ its_plan ports → (ports'.starved ≡ false → IsPlayed ports'.plan ports'.calls) → IsOnScript seen first script ports held → script_history ports' later → RoundsPart first ports.calls later
    → MachineCrashes seen held.core held'.core first ports.calls later → PartCrashes seen held.core held'.core first script ports.calls
part-crashes seen first script ports ports' held held' later law are plan plays on may_be round crash =
    let plan' : ports'.plan ≡ plan_of script = same_Some ports'.plan ports.plan plan ∙ on.plan in
    record {
      later = later;
      crashes = crash;
      partway = round_partway law first script on.turns ports.calls later on.had are on.rounds on.answered round (subst (λ (p : Plan). IsPlayedUntil p later) plan' (until ports' later plays may_be));
    }

pub begun_crashes : {C : Type 0} (seen : CoreSeen C) (first : World) (script : List Event) (ports ports' : Scripted) (held held' : Held C) → Leaving → AreEvents script
    → GoesOn (ServesPart seen RoundsPart held held') (script_history ports) (script_history ports') → its_plan ports' ≡ its_plan ports → (ports'.starved ≡ false → IsPlayed ports'.plan ports'.calls)
    → IsOnScript seen first script ports held → PartCrashes seen held.core held'.core first script ports.calls
begun_crashes seen first script ports ports' held held' law are goes plan plays on =
    let gone = goes ports.calls (told ports on.told) in
    let did = gone.2 first on.serves in
    part-crashes seen first script ports ports' held held' gone.0 law are plan plays on gone.1 did.calls did.crash

pub done_crashes : {C : Type 0} (seen : CoreSeen C) (first : World) (script : List Event) (ports ports' : Scripted) (held held' : Held C) → Leaving → AreEvents script
    → GoesOn (ServesAll seen Rounds held held') (script_history ports) (script_history ports') → its_plan ports' ≡ its_plan ports → (ports'.starved ≡ false → IsPlayed ports'.plan ports'.calls)
    → IsOnScript seen first script ports held → PartCrashes seen held.core held'.core first script ports.calls
done_crashes seen first script ports ports' held held' law are goes plan plays on =
    let gone = goes ports.calls (told ports on.told) in
    let did = (gone.2 first on.serves).0 in
    part-crashes seen first script ports ports' held held' gone.0 law are plan plays on gone.1
    (record { flushed = did.calls.flushed; flushes = did.calls.flushes; takes = (length (dues first did.calls.flushed), did.calls.takes) }) did.crash

-- In the middle of a script the changes that were made are the first ones of it.
pub script_partway : {C : Type 0} (seen : CoreSeen C) (first : World) (script : List Event) (ports : Scripted) (held : Held C) → AreEvents script → IsOnScript seen first script ports held → IsPartway first script ports.calls
script_partway seen first script ports held are on =
    on_partway first script ports.calls (left_in script ports.calls) (rounds_on first script on.turns ports.calls on.had are on.rounds on.answered).fits.on.whole

-- Once nothing is left and all is flushed, the history plays the script to its end.
pub script_ends : {C : Type 0} (seen : CoreSeen C) (first : World) (script : List Event) (ports ports' : Scripted) (held held' : Held C) → AreEvents script
    → GoesOn (ServesAll seen Flushes held held') (script_history ports) (script_history ports') → its_plan ports' ≡ its_plan ports → ports'.starved ≡ false → IsPlayed ports'.plan ports'.calls
    → IsOnScript seen first script ports held → (playing ports.plan ports.calls).left ≡ []
    → HasPlayed seen first script ports'.calls held'.last held'.core
script_ends seen first script ports ports' held held' are goes plan h plays on done =
    let plan' : ports'.plan ≡ plan_of script = same_Some ports'.plan ports.plan plan ∙ on.plan in
    let did = went (ServesAll seen Flushes held held') ports ports' on.told h goes first on.serves in
    let out = plays_out first script on.turns ports'.calls are (record {
      before = ports.calls;
      had = on.had;
      rounds = on.rounds;
      none_left = subst (λ (p : Plan). (playing p ports.calls).left ≡ []) on.plan done;
      flushes = did.0.calls;
      answered = subst (λ (p : Plan). IsPlayed p ports'.calls) plan' plays;
    }) in
    record {
      plays = out;
      last_is = did.1.latest ∙ ap (λ (m : Machine). m.last) out.machine;
      stands = subst (λ (m : Machine). seen.stands held'.core m.shared) out.machine did.1.stands;
    }
