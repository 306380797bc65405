-- Steps that change nothing but the sessions' own parts.
use Rattle.std.proofs.Common.{◌≡◌, ℕ, ◌++◌, Bool, true, false, cond, codes, List, [], ◌∷◌, Option, Some, None, Result, Err, IsOk, IsErrOf, IfSome, inr, refl, sym, subst, ◌∙◌, append_assoc, arith}
use Rattle.std.specs.List.{AllByRecursion}
use Rattle.std.specs.Str.{str_eq_ignore_ascii_case}
use Rattle.disk_model.specs.Told.{Told, SameTold}
use Rattle.disk_model.specs.declared.disk.Files.{Files}
use Rattle.row_store.specs.ThreeFiles.{LogMoments, TellsFaults}
use Rattle.row_store.specs.Holding.{Stored, in_row}
use Rattle.row_store.specs.Kept.{Store}
use Rattle.row_store.specs.declared.faults.StoreFault.{StoreFault}
use Rattle.row_tables.specs.TableRows.{TableRows}
use Rattle.row_tables.specs.References.{HasUser}
use Rattle.imap_writer.specs.declared.refusals.Refusal.TheVariants.{Mechanism}
use Rattle.session_view.specs.declared.sessions.SessionPart.{SessionPart}
use Rattle.session_view.specs.declared.sessions.State.{State}
use Rattle.session_view.specs.declared.sessions.State.TheVariants.{Fresh, Asked, Known, Selected}
use Rattle.session_view.specs.Parts.{state_of, with_state}
use Rattle.mail_world.specs.Worlds.{World, no_world}
use Rattle.mail_world.specs.Changes.{Change}
use Rattle.mail_stands.specs.Stands.{Stands}
use Rattle.mailbox_core.specs.Left.{Left, StandsForOne}
use Rattle.imap_steps.specs.declared.outcome.Outcome.{Outcome}
use Rattle.imap_steps.specs.Stepping.{Shared, Stepped, answered, answered_last, applied, changed, refused_with, turned}
use Rattle.imap_steps.specs.LoggingIn.{asked, authenticate, logged_in}
use Rattle.imap_steps.specs.Executing.{before_login}
use Rattle.imap_exec.specs.Ready.{AreLive, IsReady}
use Rattle.imap_exec.specs.Does.{Does, Executes, worlds_after}
use Rattle.imap_exec.specs.Answers.{Says}
use Rattle.imap_exec.proofs.Living.{live_with}

-- ---- no disk is called

same_told : (o : Option (List ℕ)) → SameTold o o
same_told None = tt
same_told (Some x) = tt

pub quiet_files : {D : Type 0} (told : Told D) (files : Files D) (tells : Type 0) → (tells → ⊥) → TellsFaults told tells files files
quiet_files told files tells never = record {
  disks = record {
    told0 = same_told (told.reading files.log0);
    told1 = same_told (told.reading files.log1);
    told_bodies = same_told (told.reading files.bodies);
    faults0 = omega arith;
    faults1 = omega arith;
    faults_bodies = omega arith;
  };
  failed = λ t. absurd (never t);
  quiet = λ n. (refl, refl, refl);
}

-- ---- what is said

-- lines before others
module _ (result : Result Outcome StoreFault) (before text rest after : List ℕ) where
  behind : (stepped : Stepped) → (IsOk result → after ≡ (before ++ text) ++ stepped.answer) → IsOk result → after ≡ before ++ (text ++ stepped.answer)
  behind stepped is ok = is ok ∙ append_assoc before text stepped.answer

  pub said_behind : (shared : Shared) → Says result shared.parts (before ++ text) after (answered shared rest) → Says result shared.parts before after (answered shared (text ++ rest))
  said_behind shared says = record {
    unchanged = refl;
    parts_are = says.parts_are;
    tells = record { answer = behind (answered shared rest) says.tells.answer; outcome = says.tells.outcome };
    memory = says.memory;
  }

  pub said_last_behind : (shared : Shared) → Says result shared.parts (before ++ text) after (answered_last shared rest) → Says result shared.parts before after (answered_last shared (text ++ rest))
  said_last_behind shared says = record {
    unchanged = refl;
    parts_are = says.parts_are;
    tells = record { answer = behind (answered_last shared rest) says.tells.answer; outcome = says.tells.outcome };
    memory = says.memory;
  }

-- the same step, told otherwise
pub said_as : (result : Result Outcome StoreFault) (parts : List SessionPart) (before after : List ℕ) (stepped other : Stepped) → other ≡ stepped → Says result parts before after stepped → Says result parts before after other
said_as result parts before after stepped other e says = subst (λ (s : Stepped). Says result parts before after s) (sym e) says

module _ {D : Type 0} (told : Told D) (result : Result Outcome StoreFault) (store : Store D) (parts parts' : List SessionPart) (before after : List ℕ) (steps : Shared → Stepped) where
  world_kept : (world : World) (change : Option Change) → change ≡ None → Stands in_row store.tables world → Stands in_row store.tables (changed world change)
  world_kept world change e stands = subst (λ (c : Option Change). Stands in_row store.tables (changed world c)) (sym e) stands

  left_kept : (world : World) (change : Option Change) → change ≡ None → (since : LogMoments) (earlier : List World) → Left told store.files since (world ∷ earlier) → Left told store.files since (worlds_after world change earlier)
  left_kept world change e since earlier left = subst (λ (c : Option Change). Left told store.files since (worlds_after world c earlier)) (sym e) left

  does_said : (world : World) → Stands in_row store.tables world → Says result parts' before after (steps (record { world = world; parts = parts }))
      → Does told result store store parts' before after (record { world = world; parts = parts }) (steps (record { world = world; parts = parts }))
  does_said world stands says = record {
    stands = λ ok. world_kept world (steps (record { world = world; parts = parts })).change says.unchanged stands;
    settled = λ ok settled. settled;
    parts_are = says.parts_are;
    tells = says.tells;
    leaves = left_kept world (steps (record { world = world; parts = parts })).change says.unchanged;
  }

  -- what is said is a step
  pub said : IsReady store parts → (IsOk result → AreLive store.tables parts') → (IsErrOf result StoreFault.Failed → ⊥)
      → ((world : World) → Stands in_row store.tables world → Says result parts' before after (steps (record { world = world; parts = parts })))
      → Executes told result store store parts parts' before after steps
  said ready live memory says = record {
    carries = λ world stands. does_said world stands (says world stands);
    ready = λ ok. record { unspent = ready.unspent; none_placed = ready.none_placed; live = live ok };
    faults = quiet_files told store.files (IsErrOf result StoreFault.Failed) memory;
  }

-- what is said whatever the world, where the sessions stay
module _ {D : Type 0} (told : Told D) (result : Result Outcome StoreFault) (store : Store D) (parts : List SessionPart) (before after : List ℕ) (steps : Shared → Stepped) where
  pub said_alone : IsReady store parts → ((world : World) → Says result parts before after (steps (record { world = world; parts = parts })))
      → Executes told result store store parts parts before after steps
  said_alone ready says = said told result store parts parts before after steps ready (λ ok. ready.live) (says no_world).memory (λ world stands. says world)

-- the same for any sessions
module _ {D : Type 0} (told : Told D) (result : Result Outcome StoreFault) (store : Store D) (parts : List SessionPart) (before after : List ℕ) (steps : Shared → Stepped) where
  pub said_always : IsReady store parts → ((shared : Shared) → Says result shared.parts before after (steps shared)) → Executes told result store store parts parts before after steps
  said_always ready says = said_alone told result store parts before after steps ready (λ world. says (record { world = world; parts = parts }))

-- an answer with which the session takes another state
pub turned_as : (result : Result Outcome StoreFault) (before after : List ℕ) (shared other : Shared) (number : ℕ) (state : State) (answer : List ℕ) (parts : List SessionPart) → parts ≡ with_state number state shared.parts
    → Says result other.parts before after (answered other answer) → Says result parts before after (turned shared number state answer)
turned_as result before after shared other number state answer parts is says = record {
  unchanged = refl;
  parts_are = λ ok. is;
  tells = record { answer = says.tells.answer; outcome = says.tells.outcome };
  memory = says.memory;
}

-- ---- a session that is about to be authenticated

module _ (t : TableRows) (shared : Shared) (number : ℕ) (tag mechanism : List ℕ) (live : AreLive t shared.parts) where
  live_asked : (b : Bool) → AreLive t (cond b (asked shared number tag) (refused_with shared tag Mechanism)).parts
  live_asked true = live_with t number (Asked tag) shared.parts tt live
  live_asked false = live

  live_begun : AreLive t (authenticate shared number tag mechanism).parts
  unfolding authenticate
  live_begun = live_asked (str_eq_ignore_ascii_case mechanism (codes "PLAIN"))

  live_before : (state : State) → AreLive t (before_login shared tag state (authenticate shared number tag mechanism)).parts
  live_before Fresh = live_begun
  live_before (Asked other) = live
  live_before (Known user) = live
  live_before (Selected user selection) = live

module _ {D : Type 0} (told : Told D) (result : Result Outcome StoreFault) (store : Store D) (parts parts' : List SessionPart) (before after : List ℕ) (number : ℕ) (tag mechanism : List ℕ) where
  abbrev begins : Shared → Stepped
  begins shared = before_login shared tag (state_of number shared.parts) (authenticate shared number tag mechanism)

  pub said_begun : IsReady store parts → ((world : World) → Says result parts' before after (begins (record { world = world; parts = parts })))
      → Executes told result store store parts parts' before after (λ shared. before_login shared tag (state_of number shared.parts) (authenticate shared number tag mechanism))
  said_begun ready says =
      said told result store parts parts' before after begins ready
      (λ ok. subst (λ (ps : List SessionPart). AreLive store.tables ps) (sym ((says no_world).parts_are ok)) (live_before store.tables (record { world = no_world; parts = parts }) number tag mechanism ready.live (state_of number parts)))
      (says no_world).memory (λ world stands. says world)

-- ---- a session that is authenticated

module _ (t : TableRows) (shared : Shared) (number : ℕ) (tag command : List ℕ) where
  live_logged : (user : Option ℕ) → IfSome user (HasUser t) → AreLive t shared.parts → AreLive t (logged_in shared number tag command user).parts
  live_logged None there live = live_with t number Fresh shared.parts tt live
  live_logged (Some user) there live = live_with t number (Known user) shared.parts there live

module _ {D : Type 0} (told : Told D) (result : Result Outcome StoreFault) (store : Store D) (parts parts' : List SessionPart) (before after : List ℕ) (number : ℕ) (tag command : List ℕ) (user : Option ℕ) (found : World → Option ℕ) where
  abbrev of_world : World → Shared
  of_world world = record { world = world; parts = parts }

  pub logs_in : IsReady store parts → IfSome user (HasUser store.tables) → ((world : World) → Stands in_row store.tables world → user ≡ found world)
      → ((world : World) → Says result parts' before after (logged_in (of_world world) number tag command user))
      → Executes told result store store parts parts' before after (λ shared. logged_in shared number tag command (found shared.world))
  logs_in ready there is says =
      said told result store parts parts' before after (λ shared. logged_in shared number tag command (found shared.world)) ready
      (λ ok. subst (λ (ps : List SessionPart). AreLive store.tables ps) (sym ((says no_world).parts_are ok)) (live_logged store.tables (of_world no_world) number tag command user there ready.live))
      (says no_world).memory
      (λ world stands. subst (λ (u : Option ℕ). Says result parts' before after (logged_in (of_world world) number tag command u)) (is world stands) (says world))

-- ---- want of memory before anything is done

abbrev none_told : Result Outcome StoreFault
none_told = Err StoreFault.NoMemory

pub says_starved : (parts : List SessionPart) (before after : List ℕ) (stepped : Stepped) → stepped.change ≡ None → Says none_told parts before after stepped
says_starved parts before after stepped e = record {
  unchanged = e;
  parts_are = λ ok. cc;
  tells = record { answer = λ ok. cc; outcome = tt };
  memory = λ f. cc;
}

stand_more : (world : World) (worlds : List World) (states : List Stored) → AllByRecursion (StandsForOne worlds) states → AllByRecursion (StandsForOne (world ∷ worlds)) states
stand_more world worlds [] stand = tt
stand_more world worlds (state ∷ states) stand = (inr stand.0, stand_more world worlds states stand.1)

-- one world more than a crash leaves
left_more : {D : Type 0} (told : Told D) (files : Files D) (since : LogMoments) (world : World) (worlds : List World) → Left told files since worlds → Left told files since (world ∷ worlds)
left_more told files since world worlds left = record { states = left.states; stand = stand_more world worlds left.states left.stand; joint = left.joint; moments = left.moments }

module _ {D : Type 0} (told : Told D) (store : Store D) (parts parts' : List SessionPart) (before after : List ℕ) (steps : Shared → Stepped) where
  abbrev starved : Result Outcome StoreFault
  starved = Err StoreFault.NoMemory

  left_before : (world : World) (change : Option Change) (since : LogMoments) (earlier : List World) → Left told store.files since (world ∷ earlier) → Left told store.files since (worlds_after world change earlier)
  left_before world None since earlier left = left
  left_before world (Some change) since earlier left = left_more told store.files since (applied world change) (world ∷ earlier) left

  pub starves : Executes told starved store store parts parts' before after steps
  starves = record {
    carries = λ world stands. record {
      stands = λ ok. cc;
      settled = λ ok settled. settled;
      parts_are = λ ok. cc;
      tells = record { answer = λ ok. cc; outcome = tt };
      leaves = left_before world (steps (record { world = world; parts = parts })).change;
    };
    ready = λ ok. cc;
    faults = quiet_files told store.files (starved ≡ Err StoreFault.Failed) (λ e. cc);
  }

-- a step that is told otherwise
pub executed_as : {D : Type 0} (told : Told D) (result : Result Outcome StoreFault) (old new : Store D) (parts parts' : List SessionPart) (before after : List ℕ) (steps others : Shared → Stepped)
    → ((world : World) → others (record { world = world; parts = parts }) ≡ steps (record { world = world; parts = parts }))
    → Executes told result old new parts parts' before after steps → Executes told result old new parts parts' before after others
executed_as told result old new parts parts' before after steps others same done = record {
  carries = λ world stands. subst (λ (s : Stepped). Does told result old new parts' before after (record { world = world; parts = parts }) s) (sym (same world)) (done.carries world stands);
  ready = done.ready;
  faults = done.faults;
}
