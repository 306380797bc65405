-- A crash keeps what was handed out while a script is played.
use Rattle.std.proofs.Common.{ℕ, ◌≡◌, List, [], ◌∷◌, Option, Some, None, false, length, refl, ◌∙◌, subst, inl, inr, ◌⊎◌, arith}
use Rattle.std.specs.Prelude.{Result, Ok, Err, IfOk}
use Rattle.disk_model.specs.Told.{Told, IfTold}
use Rattle.disk_model.specs.declared.disk.Files.{Files}
use Rattle.port_model.specs.declared.calls.PortCall.{PortCall}
use Rattle.port_model.specs.declared.events.Event.{Event}
use Rattle.port_model.specs.Playing.{Plan, IsPlayed}
use Rattle.port_model.specs.Script.{script_events}
use Rattle.port_model.specs.ScriptPorts.{IsPlayedUntil, Scripted, its_plan, script_history}
use Rattle.std.proofs.lemmas.Option.{same_Some}
use Rattle.row_store.specs.ThreeFiles.{FileBytes, IsLeftSince, LogMoments, MakesAllSure, moments}
use Rattle.row_store.specs.Crashes.{HoldsOne, IsSettled, LeavesStates}
use Rattle.row_store.specs.ThreeFiles.{IsJointImage}
use Rattle.row_store.specs.Holding.{Holds, in_row, stored_by}
use Rattle.row_store.specs.Kept.{Store}
use Rattle.imap_steps.specs.Stepping.{World}
use Rattle.mailbox_core.specs.Left.{HoldsWorld, Left}
use Rattle.mail_model.specs.Machine.{machine}
use Rattle.mail_model.specs.HandedOut.{HasHandedOut}
use Rattle.mail_rounds.specs.CoreSeen.{CoreSeen}
use Rattle.mail_rounds.specs.Calls.{Flushes, GoesOn, Rounds, RoundsPart, dues}
use Rattle.mail_rounds.specs.Held.{Held}
use Rattle.mail_rounds.specs.Serves.{Serves}
use Rattle.mail_rounds.specs.Served.{ServesAll, ServesPart}
use Rattle.mail_server.specs.declared.store_core.StoreCore.{StoreCore}
use Rattle.mail_server.specs.Keeping.{FilesKeep, KeepsScript, KeepsSent, KeepsText, PlaysSome}
use Rattle.mail_server.specs.OnScript.{IsOnScript}
use Rattle.mail_server.specs.Rounds.{plan_of}
use Rattle.mail_server.specs.StoreCore.{core_seen, serving_left}
use Rattle.mail_server.specs.WorldFiles.{IfStands}
use Rattle.mail_server.proofs.Playing.{told, until}
use Rattle.mail_server.proofs.StoreFiles.{always-read, read-before}
use Rattle.mail_server.proofs.UserFiles.{LeaveTheSame, LoadedStand, left-sure, standing}

-- Before any call

no-calls : (first : World) (script : List Event) → PlaysSome first script []
no-calls first script = record { turns = 0; before = []; had = λ number. []; rounds = (refl, λ number. refl); then = inl refl; answered = tt }

nothing-handed : (first : World) → HasHandedOut first [] first
unfolding machine
nothing-handed first = record { missing = []; prefix = []; changes_are = refl; world_is = refl; none = tt }

pub keeps_begun : {C : Type 0} (seen : CoreSeen C) (first : World) (script : List Event) (held : Held C) → Serves seen first [] held → KeepsScript seen held.core first script
unfolding machine
keeps_begun seen first script held serves = record {
  calls = [];
  plays = no-calls first script;
  since = held.core;
  keeps = record { worlds = first ∷ []; left = seen.now held.core (record { world = first; parts = [] }) serves.stands; each = (nothing-handed first, tt) };
}

pub keeps_fresh : {C : Type 0} (seen : CoreSeen C) (first : World) (script : List Event) (core : C) → seen.stands core (record { world = first; parts = [] }) → KeepsScript seen core first script
keeps_fresh seen first script core stands = record {
  calls = [];
  plays = no-calls first script;
  since = core;
  keeps = record { worlds = first ∷ []; left = seen.now core (record { world = first; parts = [] }) stands; each = (nothing-handed first, tt) };
}

-- In the middle of a script, wherever a round or the last flush ended, and whether or not its calls were recorded

some-plays : {C : Type 0} (seen : CoreSeen C) (first : World) (script : List Event) (ports ports' : Scripted) (held : Held C) (later : List PortCall) → its_plan ports' ≡ its_plan ports
    → (ports'.starved ≡ false → IsPlayed ports'.plan ports'.calls) → IsOnScript seen first script ports held → script_history ports' later
    → RoundsPart first ports.calls later ⊎ Flushes first ports.calls later → PlaysSome first script later
some-plays seen first script ports ports' held later plan plays on may_be then =
    let plan' : ports'.plan ≡ plan_of script = same_Some ports'.plan ports.plan plan ∙ on.plan in
    record {
      turns = on.turns;
      before = ports.calls;
      had = on.had;
      rounds = on.rounds;
      then = elim then [ inl round ↦ inr (inl round) | inr flush ↦ inr (inr flush) ];
      answered = subst (λ (p : Plan). IsPlayedUntil p later) plan' (until ports' later plays may_be);
    }

pub part_keeps : {C : Type 0} (seen : CoreSeen C) (first : World) (script : List Event) (ports ports' : Scripted) (held held' : Held C)
    → GoesOn (ServesPart seen RoundsPart held held') (script_history ports) (script_history ports') → its_plan ports' ≡ its_plan ports → (ports'.starved ≡ false → IsPlayed ports'.plan ports'.calls)
    → IsOnScript seen first script ports held → KeepsScript seen held'.core first script
part_keeps seen first script ports ports' held held' goes plan plays on =
    let gone = goes ports.calls (told ports on.told) in
    let did = gone.2 first on.serves in
    record { calls = gone.0; plays = some-plays seen first script ports ports' held gone.0 plan plays on gone.1 (inl did.calls); since = held.core; keeps = did.keeps }

pub round_keeps : {C : Type 0} (seen : CoreSeen C) (first : World) (script : List Event) (ports ports' : Scripted) (held held' : Held C)
    → GoesOn (ServesAll seen Rounds held held') (script_history ports) (script_history ports') → its_plan ports' ≡ its_plan ports → (ports'.starved ≡ false → IsPlayed ports'.plan ports'.calls)
    → IsOnScript seen first script ports held → KeepsScript seen held'.core first script
round_keeps seen first script ports ports' held held' goes plan plays on =
    let gone = goes ports.calls (told ports on.told) in
    let did = (gone.2 first on.serves).0 in
    let round : RoundsPart first ports.calls gone.0 = record { flushed = did.calls.flushed; flushes = did.calls.flushes; takes = (length (dues first did.calls.flushed), did.calls.takes) } in
    record { calls = gone.0; plays = some-plays seen first script ports ports' held gone.0 plan plays on gone.1 (inl round); since = held.core; keeps = did.keeps }

pub flush_keeps : {C : Type 0} (seen : CoreSeen C) (first : World) (script : List Event) (ports ports' : Scripted) (held held' : Held C)
    → GoesOn (ServesAll seen Flushes held held') (script_history ports) (script_history ports') → its_plan ports' ≡ its_plan ports → (ports'.starved ≡ false → IsPlayed ports'.plan ports'.calls)
    → IsOnScript seen first script ports held → KeepsScript seen held'.core first script
flush_keeps seen first script ports ports' held held' goes plan plays on =
    let gone = goes ports.calls (told ports on.told) in
    let did = (gone.2 first on.serves).0 in
    record { calls = gone.0; plays = some-plays seen first script ports ports' held gone.0 plan plays on gone.1 (inr did.calls); since = held.core; keeps = did.keeps }

-- What a crash leaves of now is left of each moment before, too.

if-weaker : (o p q : Option (List ℕ)) (P Q : Type 0) → (P → Q) → IfTold o (λ _. IfTold p (λ _. IfTold q (λ _. P))) → IfTold o (λ _. IfTold p (λ _. IfTold q (λ _. Q)))
if-weaker None p q P Q step fact = tt
if-weaker (Some x) None q P Q step fact = tt
if-weaker (Some x) (Some y) None P Q step fact = tt
if-weaker (Some x) (Some y) (Some z) P Q step fact = step fact

now-joint : {D : Type 0} (told : Told D) (files : Files D) (image : FileBytes) → IsLeftSince told files (moments told files) image → IsJointImage told files image
now-joint told files image (inl is) = (told.now_alone files.log0 image.log0 is.0, is.1, is.2)
now-joint told files image (inr is) = (is.0, told.now_alone files.log1 image.log1 is.1, is.2)

now-left : {D : Type 0} (told : Told D) (files : Files D) (since : LogMoments) (worlds : List World) → Left told files since worlds → Left told files (moments told files) worlds
now-left told files since worlds left = record {
  states = left.states;
  stand = left.stand;
  joint = left.joint;
  moments = if-weaker (told.reading files.log0) (told.reading files.log1) (told.reading files.bodies) ((image : FileBytes) → IsJointImage told files image → HoldsOne image left.states)
      (LeavesStates told files (moments told files) left.states)
      (λ joint. record { later0 = omega arith; later1 = omega arith; each = λ image is. joint image (now-joint told files image is) }) left.joint;
}

-- The files

files_keep-none : {D : Type 0} (told : Told D) (files : Files D) (first : World) (script : List Event) → Left told files (moments told files) (first ∷ []) → FilesKeep told files first script
files_keep-none told files first script left = record { calls = []; plays = no-calls first script; worlds = first ∷ []; left = left; each = (nothing-handed first, tt) }

-- those of a core over a store
pub store_keeps : {D : Type 0} (told : Told D) (core : StoreCore D) (first : World) (script : List Event) → KeepsScript (core_seen told) core first script → FilesKeep told core.store.files first script
unfolding core_seen
store_keeps told core first script k = record {
  calls = k.calls;
  plays = k.plays;
  worlds = k.keeps.worlds;
  left = now-left told core.store.files (moments told k.since.store.files) k.keeps.worlds k.keeps.left;
  each = k.keeps.each;
}

-- those of a store that was loaded, from which none was served
pub unserved_keeps : {D : Type 0} (told : Told D) (script : List Event) (store : Store D) → IsSettled told store.files (stored_by in_row store.tables) → IfStands told store (λ world. FilesKeep told store.files world script)
unserved_keeps told script store settled world stands =
    files_keep-none told store.files world script (serving_left told store [] (record { world = world; parts = [] }) (record { stands = stands; settled = settled; parts_are = refl }))

-- those that could not be loaded
pub unloaded_keeps : {D : Type 0} (told : Told D) (script : List Event) (old new : Files D) → LeaveTheSame told → MakesAllSure told old new → KeepsSent told script old new
unloaded_keeps told script old new law sure =
    always-read told old (λ bytes. (world : World) → HoldsWorld bytes (world ∷ []) → Left told old (moments told old) (world ∷ []) → FilesKeep told new world script)
    (λ bytes world holds left.
    files_keep-none told new world script (now-left told new (moments told old) (world ∷ []) (left-sure told old new (moments told old) (world ∷ []) law sure left)))

-- those that were loaded and served
pub loaded_keeps : {D : Type 0} (told : Told D) (script : List Event) (files : Files D) (old : Store D) (files' : Files D) → LoadedStand → MakesAllSure told files old.files
    → IsSettled told old.files (stored_by in_row old.tables) → IfStands told old (λ world. FilesKeep told files' world script) → KeepsSent told script files files'
loaded_keeps told script files old files' loaded sure settled keeps =
    read-before told files old.files (λ bytes. Holds bytes old.tables (stored_by in_row old.tables).contents)
    (λ bytes. (world : World) → HoldsWorld bytes (world ∷ []) → Left told files (moments told files) (world ∷ []) → FilesKeep told files' world script) sure
    (λ bytes holds world stands left. keeps world (standing old.tables loaded bytes world holds stands)) settled.holds

-- those that are left alone
same-keeps : {D : Type 0} (told : Told D) (script : List Event) (files : Files D) → KeepsSent told script files files
same-keeps told script files =
    always-read told files (λ bytes. (world : World) → HoldsWorld bytes (world ∷ []) → Left told files (moments told files) (world ∷ []) → FilesKeep told files world script)
    (λ bytes world holds left. files_keep-none told files world script left)

pub text_keeps : {D : Type 0} (told : Told D) (text : List ℕ) (files : Files D) → KeepsText told text files files
text_keeps told text files = by (script_events text)
  where
    by : (said : Result (List Event) ℕ) → IfOk said (λ script. KeepsSent told script files files)
    by (Ok script) = same-keeps told script files
    by (Err number) = tt
