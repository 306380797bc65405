-- What it comes to that the sessions of links are served from a store.
use Rattle.std.proofs.Common.{ℕ, ◌≡◌, ◌<◌, List, [], ◌∷◌, refl, sym, subst, inl}
use Rattle.std.specs.Prelude.{Option, Some, None, Result, Ok, Err, OnOk, OnErr}
use Rattle.std.specs.Option.{option_map}
use Rattle.fault_counts.specs.Rose.{Rose}
use Rattle.disk_model.specs.Told.{Told}
use Rattle.disk_model.specs.declared.disk.Files.{Files}
use Rattle.port_model.specs.declared.calls.PortCall.{PortCall}
use Rattle.row_store.specs.declared.faults.LoadFault.{LoadFault}
use Rattle.row_store.specs.declared.faults.LoadFault.TheVariants.{Failed as LoadFailed, NotAStore as LoadNotAStore, NoMemory as LoadNoMemory}
use Rattle.row_store.specs.ThreeFiles.{FileBytes, CountsNoFault, MakesAllSure, TellsFaults, moments}
use Rattle.row_store.specs.Holding.{Holds, HoldsNone, in_row, stored_by}
use Rattle.row_store.specs.Crashes.{IsSettled}
use Rattle.row_store.specs.Kept.{Store}
use Rattle.row_store.specs.Loading.{IsNoStore}
use Rattle.imap_steps.specs.Stepping.{World}
use Rattle.mail_stands.specs.Stands.{Stands}
use Rattle.mailbox_core.specs.Left.{HoldsWorld}
use Rattle.mail_model.specs.Machine.{after, machine}
use Rattle.mail_rounds.specs.declared.rounds.RoundFault.{RoundFault}
use Rattle.mail_rounds.specs.declared.rounds.RoundFault.TheVariants.{StoreFault as RoundStoreFault, ListenFault as RoundListenFault, NoMemory as RoundNoMemory}
use Rattle.mail_rounds.specs.CoreSeen.{SomeRose}
use Rattle.mail_server.specs.declared.status.Status.{Status}
use Rattle.mail_server.specs.declared.status.Status.TheVariants.{Done, Usage, NoMemory, ReadFault, WriteFault, StoreFault, NotAStore, Refused, BadScript, ListenFault}
use Rattle.mail_server.specs.declared.store_core.StoreCore.{StoreCore}
use Rattle.mail_server.specs.declared.words.Command.{Command}
use Rattle.mail_server.specs.Commands.{meaning}
use Rattle.mail_server.specs.FromLinks.{ServesFromStore, ServesLinksFrom, StoreServeEnds, end_of_rounds}
use Rattle.mail_server.specs.LinkHistories.{MakesRounds, OnLinks, StopsRounds}
use Rattle.mail_server.specs.LinkRounds.{HasServed, MadeSome}
use Rattle.mail_server.specs.Links.{RoundsTo, RunsLinks, ServeEnds, ServesFrom, ServesLinks}
use Rattle.mail_server.specs.Run.{code_of}
use Rattle.mail_server.specs.StoreCore.{core_seen, serving_left}
use Rattle.mail_server.specs.Stores.{HoldsSome}
use Rattle.mail_server.specs.Words.{Asked}
use Rattle.mail_server.specs.WorldFiles.{SettledFor}
use Rattle.mail_server.proofs.FromStore.{fresh, none-rose, serving, some-rose}
use Rattle.mail_server.proofs.Linking.{none_handed, sends_none}
use Rattle.mail_server.proofs.StoreFiles.{always-read, counts-both, fault-later, read-before}
use Rattle.mail_server.proofs.UserFiles.{LeaveTheSame, LoadedStand, left-sure, standing}

-- what a core served, told by its store
store-served : {D : Type 0} (told : Told D) (first : World) (calls : List PortCall) (core core' : StoreCore D) → HasServed (core_seen told) first calls core core' → ServesFromStore told first calls core.store core'.store.files
unfolding core_seen
store-served told first calls core core' served = record {
  front = served.front;
  kept = record {
    worlds = served.kept.worlds;
    left = (moments told served.kept.left.0.store.files, served.kept.left.1);
    each = served.kept.each;
  };
  leaves = λ since earlier left. served.leaves (since.log0 ∷ since.log1 ∷ []) earlier left;
}

settled-for : {D : Type 0} (told : Told D) (first : World) (calls : List PortCall) (core : StoreCore D) → (core_seen told).stands core (after first calls).shared → SettledFor told core.store.files (after first calls).shared.world
unfolding core_seen
settled-for told first calls core serves = record { state = stored_by in_row core.store.tables; settled = serves.settled; stands = record { content = in_row; contents = refl; stands = serves.stands } }

serving-core : {D : Type 0} (told : Told D) (core : StoreCore D) (first : World) → core.sessions ≡ [] → IsSettled told core.store.files (stored_by in_row core.store.tables) → Stands in_row core.store.tables first
    → (core_seen told).stands core (fresh first)
unfolding core_seen
serving-core told core first none settled stands = serving told core first none settled stands

-- The rounds were made, or ended by a fault.
pub served_by : {P D T : Type 0} (history : P → List PortCall → Type 0) (listening : P → ℕ) (told : Told D) (rounds : ℕ) (served : Result T RoundFault) (old new : P) (core core' : StoreCore D)
    → core.sessions ≡ [] → IsSettled told core.store.files (stored_by in_row core.store.tables)
    → OnOk served (OnLinks history old new (λ calls. (first : World) → (core_seen told).stands core (fresh first)
    → MakesRounds first rounds calls × (core_seen told).stands core' (after first calls).shared × HasServed (core_seen told) first calls core core'))
    → OnErr served (OnLinks history old new (λ calls. (first : World) → (core_seen told).stands core (fresh first) → MadeSome (core_seen told) first rounds calls core core'))
    → (served ≡ Err RoundListenFault → Rose (listening old) (listening new)) → ((served ≡ Err RoundListenFault → ⊥) → listening new ≡ listening old)
    → (served ≡ Err RoundStoreFault → SomeRose ((core_seen told).faults core) ((core_seen told).faults core'))
    → ((served ≡ Err RoundStoreFault → ⊥) → (core_seen told).faults core' ≡ (core_seen told).faults core)
    → ServesLinksFrom history listening told rounds (end_of_rounds served) old new core.store core'.store.files
served_by history listening told rounds (Ok done) old new core core' none settled all fewer listen quiet failed stored = record {
  ends = (none-rose told core core' (stored (λ e. cc)), quiet (λ e. cc));
  serves = λ empty.
      let made = all empty in (
        made.0,
        made.1,
        λ first stands.
            let it = made.2 first (serving-core told core first none settled stands) in
            ((it.0, settled-for told first made.0 core' it.1), store-served told first made.0 core core' it.2),
      );
}
served_by history listening told rounds (Err RoundStoreFault) old new core core' none settled all fewer listen quiet failed stored = record {
  ends = (some-rose told core core' (failed refl), quiet (λ e. cc));
  serves = λ empty.
      let made = fewer empty in (
        made.0,
        made.1,
        λ first stands. let it = made.2 first (serving-core told core first none settled stands) in (it.stops, store-served told first made.0 core core' it.served),
      );
}
served_by history listening told rounds (Err RoundListenFault) old new core core' none settled all fewer listen quiet failed stored = record {
  ends = (listen refl, none-rose told core core' (stored (λ e. cc)));
  serves = λ empty.
      let made = fewer empty in (
        made.0,
        made.1,
        λ first stands. let it = made.2 first (serving-core told core first none settled stands) in (it.stops, store-served told first made.0 core core' it.served),
      );
}
served_by history listening told rounds (Err RoundNoMemory) old new core core' none settled all fewer listen quiet failed stored = record {
  ends = (none-rose told core core' (stored (λ e. cc)), quiet (λ e. cc));
  serves = λ empty.
      let made = fewer empty in (
        made.0,
        made.1,
        λ first stands. let it = made.2 first (serving-core told core first none settled stands) in (it.stops, store-served told first made.0 core core' it.served),
      );
}

stops-none : (first : World) (rounds : ℕ) → 0 < rounds → StopsRounds first rounds []
stops-none first rounds some = record { turns = 0; fewer = some; before = []; made = refl; part = inl refl }

-- Memory was refused for the sessions, so that none is served.
pub store_unlinked : {P D : Type 0} (history : P → List PortCall → Type 0) (listening : P → ℕ) (told : Told D) (rounds : ℕ) (ports : P) (store : Store D) → 0 < rounds
    → IsSettled told store.files (stored_by in_row store.tables) → ServesLinksFrom history listening told rounds NoMemory ports ports store store.files
unfolding machine
store_unlinked history listening told rounds ports store some settled = record {
  ends = ((refl, refl, refl), refl);
  serves = λ empty. (
    [],
    empty,
    λ first stands. (
      stops-none first rounds some,
      record {
        front = sends_none first;
        kept = record {
          worlds = first ∷ [];
          left = (moments told store.files, serving_left told store [] (fresh first) (record { stands = stands; settled = settled; parts_are = refl }));
          each = (none_handed first, tt);
        };
        leaves = λ since earlier left. left;
      },
    ),
  );
}

-- From the files that were loaded

pub files_linked : {P D : Type 0} (history : P → List PortCall → Type 0) (listening : P → ℕ) (told : Told D) (rounds : ℕ) (status : Status) (before later : P) (files : Files D) (old : Store D) (files' : Files D)
    → LeaveTheSame told → LoadedStand → MakesAllSure told files old.files → TellsFaults told ⊥ files old.files → IsSettled told old.files (stored_by in_row old.tables)
    → ServesLinksFrom history listening told rounds status before later old files' → ServesLinks history listening told rounds status before later files files'
files_linked history listening told rounds status before later files old files' law loaded sure tells settled serves = record {
  ends = by-status status serves.ends;
  serves = λ empty.
      let made = serves.serves empty in (
        made.0,
        made.1,
        read-before told files old.files Held (λ bytes. (first : World) → HoldsWorld bytes (first ∷ []) → RoundsTo told status first rounds made.0 files' × ServesFrom told first made.0 files files') sure
            (λ bytes holds first stands. let it = made.2 first (standing old.tables loaded bytes first holds stands) in (it.0, from-store first made.0 it.1)) settled.holds,
      );
}
  where
    Held : FileBytes → Type 0
    Held bytes = Holds bytes old.tables (stored_by in_row old.tables).contents

    quiet : CountsNoFault told files old.files
    quiet = tells.quiet (λ failed. failed)

    from-store : (first : World) (calls : List PortCall) → ServesFromStore told first calls old files' → ServesFrom told first calls files files'
    from-store first calls it = record {
      front = it.front;
      kept = record { worlds = it.kept.worlds; left = λ since left. it.kept.left; each = it.kept.each };
      leaves = λ since earlier left. it.leaves since earlier (left-sure told files old.files since (first ∷ earlier) law sure left);
    }

    by-status : (s : Status) → StoreServeEnds listening told s before later old files' → ServeEnds listening told s before later files files'
    by-status Done ends = (
      read-before told files old.files Held HoldsSome sure (λ bytes holds. (old.tables, ((stored_by in_row old.tables).contents, holds))) settled.holds,
      counts-both told files old.files files' quiet ends.0,
      ends.1,
    )
    by-status NoMemory ends = (counts-both told files old.files files' quiet ends.0, ends.1)
    by-status StoreFault ends = (fault-later told files old.files files' tells.disks ends.0, ends.1)
    by-status ListenFault ends = (
      read-before told files old.files Held HoldsSome sure (λ bytes holds. (old.tables, ((stored_by in_row old.tables).contents, holds))) settled.holds,
      ends.0,
      counts-both told files old.files files' quiet ends.1,
    )
    by-status NotAStore ends = absurd ends
    by-status Usage ends = ends
    by-status ReadFault ends = ends
    by-status WriteFault ends = ends
    by-status Refused ends = ends
    by-status BadScript ends = ends

-- Files could not be loaded, so that no session is served.
pub files_unlinked : {P D : Type 0} (history : P → List PortCall → Type 0) (listening : P → ℕ) (told : Told D) (rounds : ℕ) (status : Status) (ports : P) (old new : Files D) (fault : LoadFault) → 0 < rounds
    → LeaveTheSame told → MakesAllSure told old new → TellsFaults told (fault ≡ LoadFailed) old new → (fault ≡ LoadNotAStore → IsNoStore told new)
    → (fault ≡ LoadNotAStore → status ≡ NotAStore) → (fault ≡ LoadFailed → status ≡ StoreFault) → (fault ≡ LoadNoMemory → status ≡ NoMemory)
    → ServesLinks history listening told rounds status ports ports old new
unfolding machine
files_unlinked history listening told rounds status ports old new fault some law sure tells none not_a_store failed no_memory = by-fault fault refl
  where
    Serves : Status → Type 0
    Serves s = ServesLinks history listening told rounds s ports ports old new

    unserved : (first : World) → ServesFrom told first [] old new
    unserved first = record {
      front = sends_none first;
      kept = record { worlds = first ∷ []; left = λ since left. (since, left-sure told old new since (first ∷ []) law sure left); each = (none_handed first, tt) };
      leaves = λ since earlier left. left-sure told old new since (first ∷ earlier) law sure left;
    }

    made : (s : Status) → ((first : World) → RoundsTo told s first rounds [] new) → ServeEnds listening told s ports ports old new → Serves s
    made s stops ends = record {
      ends = ends;
      serves = λ empty. (
        [],
        empty,
        always-read told old (λ bytes. (first : World) → HoldsWorld bytes (first ∷ []) → RoundsTo told s first rounds [] new × ServesFrom told first [] old new) (λ bytes first stands. (stops first, unserved first)),
      );
    }

    by-fault : (f : LoadFault) → fault ≡ f → Serves status
    by-fault LoadNotAStore is = subst Serves (sym (not_a_store is)) (made NotAStore (λ first. stops-none first rounds some)
        (read-before told old new HoldsNone HoldsNone sure (λ bytes no. no) (none is).none, sure, tells.quiet (λ e. cc (e, is)), refl))
    by-fault LoadFailed is = subst Serves (sym (failed is)) (made StoreFault (λ first. stops-none first rounds some) (tells.failed is, refl))
    by-fault LoadNoMemory is = subst Serves (sym (no_memory is)) (made NoMemory (λ first. stops-none first rounds some) (tells.quiet (λ e. cc (e, is)), refl))

-- Words that ask for nothing leave the links alone.
pub unlinked : {P D : Type 0} (history : P → List PortCall → Type 0) (listening : P → ℕ) (told : Told D) (asked : Option Asked) (found : Option Command) (code : ℕ) (ports : P) (files : Files D)
    → option_map meaning found ≡ asked → ((command : Command) → found ≡ Some command → ⊥) → code ≡ code_of Usage → RunsLinks history listening told asked code ports ports files files
unlinked history listening told asked None code ports files is none e = subst (λ (o : Option Asked). RunsLinks history listening told o code ports ports files files) is (Usage, e, refl)
unlinked history listening told asked (Some command) code ports files is none e = absurd (none command refl)
