-- What adding a user to the store of some files comes to.
use Rattle.std.proofs.Common.{◌≡◌, ℕ, Bool, true, false, List, [], ◌∷◌, refl, subst, sym, ◌∙◌, ap, inl, inr}
use Rattle.std.specs.Prelude.{◌⊎◌, Option, Some, None, Result, Ok, Err, codes}
use Rattle.std.specs.List.{AllByRecursion}
use Rattle.std.specs.Option.{option_map}
use Rattle.disk_model.specs.Told.{Told}
use Rattle.disk_model.specs.declared.disk.Files.{Files}
use Rattle.row_tables.specs.TableRows.{TableRows}
use Rattle.row_tables.specs.declared.contents.BodyPart.{BodyPart}
use Rattle.row_store.specs.declared.faults.LoadFault.{LoadFault}
use Rattle.row_store.specs.declared.faults.LoadFault.TheVariants.{Failed as LoadFailed, NotAStore as LoadNotAStore, NoMemory as LoadNoMemory}
use Rattle.row_store.specs.ThreeFiles.{FileBytes, IsJointImage, CountsNoFault, TellsFaults, LogMoments, MakesAllSure}
use Rattle.row_store.specs.Holding.{Stored, Holds, HoldsNone, stored_by, in_row}
use Rattle.row_store.specs.Crashes.{IsSettled, Leaves, HoldsOne}
use Rattle.row_store.specs.Kept.{Store}
use Rattle.row_store.specs.Loading.{IsNoStore}
use Rattle.mail_world.specs.Names.{is_user_name}
use Rattle.mail_world.specs.Worlds.{World}
use Rattle.mail_world.specs.Looking.{verifier_of}
use Rattle.mail_world.specs.Changes.{AddUser, Refusal, BadName, Absent, Exists, InUse, Full, NoUid, first_refusal}
use Rattle.mail_world.specs.Applying.{apply, refused}
use Rattle.mail_world.specs.Users.{new_user_id}
use Rattle.mail_stands.specs.Stands.{Stands}
use Rattle.mailbox_core.specs.declared.faults.MailFault.{MailFault}
use Rattle.mailbox_core.specs.Calls.{Behaves, Makes, MakesUnless}
use Rattle.mailbox_core.specs.Faults.{fault_of, IsOutage, IsRefusal as IsAnyRefusal}
use Rattle.mailbox_core.specs.Left.{HoldsWorld, Left, StandForOne, StandsForOne}
use Rattle.mail_server.specs.declared.status.Status.{Status}
use Rattle.mail_server.specs.declared.status.Status.TheVariants.{Done, NoMemory, StoreFault, NotAStore, Refused, WriteFault}
use Rattle.mail_server.specs.Outside.{EndsWriting}
use Rattle.mail_server.specs.Stores.{HoldsSome}
use Rattle.mail_server.specs.WorldFiles.{IfStands, IfWorld, SettledFor}
use Rattle.mail_server.specs.Users.{AddsEnds, AddsTo, AddsUser, AdduserEnds, IsRefusal, is_password, first_line, user_added, user_refused, words_reasons, world_reasons}
use Rattle.mail_server.proofs.StoreFiles.{fault-later, read-before, read-after, always-read, counts-both}

-- The reasons of a world

line_for : Refusal → List ℕ
line_for Exists = codes "refused: user exists\n"
line_for Full = codes "refused: full\n"
line_for BadName = []
line_for Absent = []
line_for InUse = []
line_for NoUid = []

two-reasons : (taken room : Bool)
    → first_line ((taken, codes "refused: user exists\n") ∷ (room, codes "refused: full\n") ∷ []) ≡ option_map line_for (first_refusal ((taken, Exists) ∷ (room, Full) ∷ []))
unfolding line_for
two-reasons true room = refl
two-reasons false true = refl
two-reasons false false = refl

-- why a world refuses a user with a good name, by the line that says so
world-line : (world : World) (name verifier : List ℕ) → is_user_name name ≡ true → first_line (world_reasons world name) ≡ option_map line_for (refused world (AddUser name verifier))
unfolding refused
world-line world name verifier named = rw named (two-reasons _ _)

-- Why words are refused, or not.
pub words-name : (name password : List ℕ) → is_user_name name ≡ false → first_line (words_reasons name password) ≡ Some (codes "refused: bad name\n")
words-name name password h = rw h refl

pub words-password : (name password : List ℕ) → is_user_name name ≡ true → is_password password ≡ false → first_line (words_reasons name password) ≡ Some (codes "refused: bad password\n")
words-password name password h k = rw (h, k) refl

words-good : (name password : List ℕ) → is_user_name name ≡ true → is_password password ≡ true → first_line (words_reasons name password) ≡ None
words-good name password h k = rw (h, k) refl

-- Left more

all-more : (more : World) (worlds : List World) (states : List Stored) → AllByRecursion (StandsForOne worlds) states → AllByRecursion (StandsForOne (more ∷ worlds)) states
all-more more worlds [] h = tt
all-more more worlds (state ∷ states) h = (inr h.0, all-more more worlds states h.1)

pub left-more : {D : Type 0} (told : Told D) (files : Files D) (since : LogMoments) (more : World) (worlds : List World) → Left told files since worlds → Left told files since (more ∷ worlds)
left-more told files since more worlds left = record { states = left.states; stand = all-more more worlds left.states left.stand; joint = left.joint; moments = left.moments }

-- the law of files that were made sure of
abbrev pub LeaveTheSame : {D : Type 0} → Told D → Type 0
LeaveTheSame {D} told = (old new : Files D) (since : LogMoments) (states : List Stored) → MakesAllSure told old new → Leaves told old since states → Leaves told new since states

pub left-sure : {D : Type 0} (told : Told D) (old new : Files D) (since : LogMoments) (worlds : List World) → LeaveTheSame told → MakesAllSure told old new → Left told old since worlds → Left told new since worlds
left-sure told old new since worlds law sure left = record {
  states = left.states;
  stand = left.stand;
  joint = read-after told old new (λ _. (image : FileBytes) → IsJointImage told old image → HoldsOne image left.states) (λ _. (image : FileBytes) → IsJointImage told new image → HoldsOne image left.states) sure
      (λ bytes each image is. each image (sure.0.images image.log0 is.0, sure.1.images image.log1 is.1, sure.2.images image.bodies is.2)) left.joint;
  moments = law old new since left.states sure left.moments;
}

-- A user is added to a store that was loaded, or isn't.

-- the promises of the call
pub record Called {D : Type 0} (told : Told D) (result : Result ℕ MailFault) (name password : List ℕ) (old new : Store D) : Type 0 where
  pub named : is_user_name name ≡ true
  pub words : first_line (words_reasons name password) ≡ None
  pub makes : IfStands told old (λ world. Makes told result old new world (AddUser name (verifier_of name password)) (new_user_id world))
  pub behaves : Behaves told result old new

pub called : {D : Type 0} (told : Told D) (result : Result ℕ MailFault) (name password : List ℕ) (old new : Store D) → is_user_name name ≡ true → is_password password ≡ true
    → IfStands told old (λ world. Makes told result old new world (AddUser name (verifier_of name password)) (new_user_id world)) → Behaves told result old new → Called told result name password old new
called told result name password old new named good makes behaves = record { named = named; words = words-good name password named good; makes = makes; behaves = behaves }

made-leaves : {D : Type 0} (told : Told D) (result : Result ℕ MailFault) (old new : Store D) (world after : World) (answer : ℕ) (refusal : Option Refusal)
    → MakesUnless told result old new world after answer refusal → (since : LogMoments) (earlier : List World) → Left told old.files since (world ∷ earlier) → Left told new.files since (after ∷ world ∷ earlier)
made-leaves told result old new world after answer None made since earlier left = made.since since earlier left
made-leaves told result old new world after answer (Some refusal) is since earlier left =
    subst (λ (store : Store _). Left told store.files since (after ∷ world ∷ earlier)) (sym is.unchanged) (left-more told old.files since after (world ∷ earlier) left)

applied-is : (world : World) (name password : List ℕ) → apply world (AddUser name (verifier_of name password)) ≡ user_added world name password
unfolding apply
applied-is world name password = refl

leaves : {D : Type 0} (told : Told D) (result : Result ℕ MailFault) (name password : List ℕ) (old new : Store D) → Called told result name password old new
    → IfStands told old (λ world. (since : LogMoments) (earlier : List World) → Left told old.files since (world ∷ earlier) → Left told new.files since (user_added world name password ∷ world ∷ earlier))
leaves told result name password old new c world stands since earlier left =
    subst (λ (after : World). Left told new.files since (after ∷ world ∷ earlier)) (applied-is world name password)
    (made-leaves told result old new world (apply world (AddUser name (verifier_of name password))) (new_user_id world) (refused world (AddUser name (verifier_of name password))) (c.makes world stands) since earlier left)

refused-is : (world : World) (name password : List ℕ) (refusal : Option Refusal) → is_user_name name ≡ true → first_line (words_reasons name password) ≡ None
    → refused world (AddUser name (verifier_of name password)) ≡ refusal → user_refused world name password ≡ option_map line_for refusal
refused-is world name password refusal named words is =
    (rw words refl) ∙ world-line world name (verifier_of name password) named ∙ ap (λ (r : Option Refusal). option_map line_for r) is

-- It was added.
pub adds_done : {K D : Type 0} (written : K → Option (List ℕ)) (faults : K → ℕ) (told : Told D) (id : ℕ) (name password : List ℕ) (sink : K) (old new : Store D)
    → Called told (Ok id) name password old new → AddsTo written faults told Done name password sink sink old new
adds_done written faults told id name password sink old new c = record {
  ends = (
    c.words,
    (λ world stands. added world (refused world (AddUser name (verifier_of name password))) refl (c.makes world stands)),
    c.behaves.faults.quiet (λ failed. cc),
    refl,
  );
  leaves = leaves told (Ok id) name password old new c;
}
  where
    added : (world : World) (refusal : Option Refusal) → refused world (AddUser name (verifier_of name password)) ≡ refusal
        → MakesUnless told (Ok id) old new world (apply world (AddUser name (verifier_of name password))) (new_user_id world) refusal
        → (user_refused world name password ≡ None) × SettledFor told new.files (user_added world name password)
    added world None is made = (
      refused-is world name password None c.named c.words is,
      record {
        state = stored_by in_row new.tables;
        settled = made.settled refl;
        stands = record { content = in_row; contents = refl; stands = subst (Stands in_row new.tables) (applied-is world name password) (made.stands refl) };
      },
    )
    added world (Some refusal) is made = let bad : Ok id ≡ Err (fault_of refusal) = made.answers in cc

-- Who has the refusal is told by the fault, where it is one of these two.
the-refusal : (refusal found : Refusal) → (found ≡ Exists) ⊎ (found ≡ Full) → fault_of found ≡ fault_of refusal → line_for refusal ≡ line_for found
the-refusal Exists found how e = elim how [ inl p ↦ ap line_for (sym p) | inr p ↦ let bad : fault_of Full ≡ fault_of Exists = ap fault_of (sym p) ∙ e in cc ]
the-refusal Full found how e = elim how [ inl p ↦ let bad : fault_of Exists ≡ fault_of Full = ap fault_of (sym p) ∙ e in cc | inr p ↦ ap line_for (sym p) ]
the-refusal BadName found how e = elim how [ inl p ↦ let bad : fault_of Exists ≡ fault_of BadName = ap fault_of (sym p) ∙ e in cc | inr p ↦ let bad : fault_of Full ≡ fault_of BadName = ap fault_of (sym p) ∙ e in cc ]
the-refusal Absent found how e = elim how [ inl p ↦ let bad : fault_of Exists ≡ fault_of Absent = ap fault_of (sym p) ∙ e in cc | inr p ↦ let bad : fault_of Full ≡ fault_of Absent = ap fault_of (sym p) ∙ e in cc ]
the-refusal InUse found how e = elim how [ inl p ↦ let bad : fault_of Exists ≡ fault_of InUse = ap fault_of (sym p) ∙ e in cc | inr p ↦ let bad : fault_of Full ≡ fault_of InUse = ap fault_of (sym p) ∙ e in cc ]
the-refusal NoUid found how e = elim how [ inl p ↦ let bad : fault_of Exists ≡ fault_of NoUid = ap fault_of (sym p) ∙ e in cc | inr p ↦ let bad : fault_of Full ≡ fault_of NoUid = ap fault_of (sym p) ∙ e in cc ]

not-outage : (found : Refusal) → (found ≡ Exists) ⊎ (found ≡ Full) → (fault_of found ≡ MailFault.Failed) ⊎ (fault_of found ≡ MailFault.NoMemory) → ⊥
not-outage found (inl p) (inl e) = let bad : fault_of Exists ≡ MailFault.Failed = ap fault_of (sym p) ∙ e in cc
not-outage found (inl p) (inr e) = let bad : fault_of Exists ≡ MailFault.NoMemory = ap fault_of (sym p) ∙ e in cc
not-outage found (inr p) (inl e) = let bad : fault_of Full ≡ MailFault.Failed = ap fault_of (sym p) ∙ e in cc
not-outage found (inr p) (inr e) = let bad : fault_of Full ≡ MailFault.NoMemory = ap fault_of (sym p) ∙ e in cc

same_fault : {T : Type 0} (fault other : MailFault) → (let result : Result T MailFault = Err fault in result) ≡ Err other → fault ≡ other
same_fault fault other e = cc

-- a line was written that refuses it, where the store is as it was
refusing : {K D : Type 0} (written : K → Option (List ℕ)) (faults : K → ℕ) (told : Told D) (status : Status) (line name password : List ℕ) (before after : K) (old new : Store D)
    → IsRefusal name password line → IfStands told old (λ world. user_refused world name password ≡ Some line) → new ≡ old
    → EndsWriting written faults Refused line status before after → AddsTo written faults told status name password before after old new
refusing written faults told status line name password before after old new is why same how = record {
  ends = elim how [
    | inl done ↦ subst (λ (s : Status). AddsEnds written faults told s name password before after old new) (sym done.0) (line, is, why, same, done.1)
    | inr stops ↦ subst (λ (s : Status). AddsEnds written faults told s name password before after old new) (sym stops.0) (line, is, why, same, stops.1)
  ];
  leaves = λ world stands since earlier left.
      subst (λ (store : Store _). Left told store.files since (user_added world name password ∷ world ∷ earlier)) (sym same) (left-more told old.files since (user_added world name password) (world ∷ earlier) left);
}

-- The words refuse it,
pub adds_not : {K D : Type 0} (written : K → Option (List ℕ)) (faults : K → ℕ) (told : Told D) (status : Status) (line name password : List ℕ) (before after : K) (store : Store D)
    → first_line (words_reasons name password) ≡ Some line → EndsWriting written faults Refused line status before after → AddsTo written faults told status name password before after store store
adds_not written faults told status line name password before after store is how =
    refusing written faults told status line name password before after store store (inl is) (λ world stands. rw is refl) refl how

-- or the store.
adds_refused : {K D : Type 0} (written : K → Option (List ℕ)) (faults : K → ℕ) (told : Told D) (status : Status) (fault : MailFault) (found : Refusal) (name password : List ℕ) (before after : K) (old new : Store D)
    → (found ≡ Exists) ⊎ (found ≡ Full) → fault ≡ fault_of found → Called told (Err fault) name password old new → EndsWriting written faults Refused (line_for found) status before after
    → AddsTo written faults told status name password before after old new
unfolding line_for
adds_refused written faults told status fault found name password before after old new which its c how =
    refusing written faults told status (line_for found) name password before after old new
    (inr (c.words, elim which [ inl p ↦ inl (ap line_for p) | inr p ↦ inr (ap line_for p) ]))
    (λ world stands. why world (refused world (AddUser name (verifier_of name password))) refl (c.makes world stands))
    (c.behaves.unchanged found (ap Err its)) how
  where
    why : (world : World) (refusal : Option Refusal) → refused world (AddUser name (verifier_of name password)) ≡ refusal
        → MakesUnless told (Err fault) old new world (apply world (AddUser name (verifier_of name password))) (new_user_id world) refusal → user_refused world name password ≡ Some (line_for found)
    why world None is made = absurd (not-outage found which (subst (λ (f : MailFault). (f ≡ MailFault.Failed) ⊎ (f ≡ MailFault.NoMemory)) its made.answers))
    why world (Some refusal) is made =
        refused-is world name password (Some refusal) c.named c.words is
        ∙ ap (λ (line : List ℕ). Some line) (the-refusal refusal found which (sym its ∙ same_fault fault (fault_of refusal) made.answers))

-- It wasn't added.
pub adds_err : {K D : Type 0} (written : K → Option (List ℕ)) (faults : K → ℕ) (told : Told D) (status : Status) (fault : MailFault) (name password : List ℕ) (before after : K) (old new : Store D)
    → Called told (Err fault) name password old new → IsAnyRefusal (Exists ∷ Full ∷ []) fault ⊎ IsOutage fault
    → (fault ≡ MailFault.Exists → EndsWriting written faults Refused (codes "refused: user exists\n") status before after)
    → (fault ≡ MailFault.Full → EndsWriting written faults Refused (codes "refused: full\n") status before after)
    → (fault ≡ MailFault.Failed → (status ≡ StoreFault) × (after ≡ before)) → (fault ≡ MailFault.NoMemory → (status ≡ NoMemory) × (after ≡ before))
    → AddsTo written faults told status name password before after old new
unfolding line_for
adds_err written faults told status fault name password before after old new c why exists full failed starved = elim why [
  | inl (inl is) ↦ adds_refused written faults told status fault Exists name password before after old new (inl refl) is c (exists is)
  | inl (inr (inl is)) ↦ adds_refused written faults told status fault Full name password before after old new (inr refl) is c (full is)
  | inl (inr (inr none)) ↦ absurd none
  | inr (inl is) ↦ record {
    ends = subst (λ (s : Status). AddsEnds written faults told s name password before after old new) (sym (failed is).0) (c.behaves.faults.failed (ap Err is), (failed is).1);
    leaves = leaves told (Err fault) name password old new c;
  }
  | inr (inr is) ↦ record {
    ends = subst (λ (s : Status). AddsEnds written faults told s name password before after old new) (sym (starved is).0) (c.behaves.untouched (ap Err is), (starved is).1);
    leaves = leaves told (Err fault) name password old new c;
  }
]

-- The same for the files that were loaded

-- the law of tables that are loaded
abbrev pub LoadedStand : Type 0
LoadedStand = (files : FileBytes) (worlds : List World) (content : BodyPart → List ℕ) (t : TableRows) → HoldsWorld files worlds → Holds files t (stored_by content t).contents → StandForOne content t worlds

-- Files that hold a world hold tables that stand for it, where they were loaded.
pub standing : (t : TableRows) → LoadedStand → (bytes : FileBytes) (world : World) → Holds bytes t (stored_by in_row t).contents → HoldsWorld bytes (world ∷ []) → Stands in_row t world
standing t loaded bytes world holds stands = elim (loaded bytes (world ∷ []) in_row t stands holds) [ inl is ↦ is | inr none ↦ absurd none ]

-- What holds of the world that the tables of a store stand for holds of that of the files from which it was loaded.
pub if_world : {D : Type 0} (told : Told D) (files : Files D) (old : Store D) (P : World → Type 0) → LoadedStand → MakesAllSure told files old.files → IsSettled told old.files (stored_by in_row old.tables)
    → IfStands told old P → IfWorld told files P
if_world told files old P loaded sure settled fact =
    read-before told files old.files (λ bytes. Holds bytes old.tables (stored_by in_row old.tables).contents) (λ bytes. HoldsSome bytes × ((world : World) → HoldsWorld bytes (world ∷ []) → P world)) sure
    (λ bytes holds. ((old.tables, ((stored_by in_row old.tables).contents, holds)), λ world stands. fact world (standing old.tables loaded bytes world holds stands))) settled.holds

pub user_added_to_files : {K D : Type 0} (written : K → Option (List ℕ)) (faults : K → ℕ) (told : Told D) (status : Status) (name password : List ℕ) (before after : K) (files : Files D) (old new : Store D)
    → LeaveTheSame told → LoadedStand → MakesAllSure told files old.files → TellsFaults told ⊥ files old.files → IsSettled told old.files (stored_by in_row old.tables)
    → AddsTo written faults told status name password before after old new → AddsUser written faults told status name password before after files new.files
user_added_to_files {D = D} written faults told status name password before after files old new law loaded sure tells settled adds = record {
  ends = by-status status adds.ends;
  leaves = read-before told files old.files Held (λ bytes. (world : World) → HoldsWorld bytes (world ∷ []) → (since : LogMoments) (earlier : List World) → Left told files since (world ∷ earlier)
      → Left told new.files since (user_added world name password ∷ world ∷ earlier)) sure
      (λ bytes holds world stands since earlier left. adds.leaves world (standing old.tables loaded bytes world holds stands) since earlier (left-sure told files old.files since (world ∷ earlier) law sure left)) settled.holds;
}
  where
    Held : FileBytes → Type 0
    Held bytes = Holds bytes old.tables (stored_by in_row old.tables).contents

    quiet : CountsNoFault told files old.files
    quiet = tells.quiet (λ failed. failed)

    at : (store : Store D) → store ≡ old → MakesAllSure told files store.files × CountsNoFault told files store.files
    at store same = subst (λ (s : Store D). MakesAllSure told files s.files × CountsNoFault told files s.files) (sym same) (sure, quiet)

    by-status : (s : Status) → AddsEnds written faults told s name password before after old new → AdduserEnds written faults told s name password before after files new.files
    by-status Done ends = (ends.0, if_world told files old _ loaded sure settled ends.1, counts-both told files old.files new.files quiet ends.2, ends.3)
    by-status Refused ends = let same = at new ends.3 in (ends.0, ends.1, if_world told files old _ loaded sure settled ends.2, same.0, same.1, ends.4)
    by-status WriteFault ends = let same = at new ends.3 in (ends.0, ends.1, if_world told files old _ loaded sure settled ends.2, same.0, same.1, ends.4)
    by-status NoMemory ends = subst (λ (f : Files D). MakesAllSure told files f × CountsNoFault told files f × (after ≡ before)) (sym ends.0) (sure, quiet, ends.1)
    by-status StoreFault ends = (fault-later told files old.files new.files tells.disks ends.0, ends.1)
    by-status NotAStore ends = absurd ends
    by-status Status.Usage ends = ends
    by-status Status.ReadFault ends = ends
    by-status Status.BadScript ends = ends
    by-status Status.ListenFault ends = ends

-- Files could not be loaded, so no user is added.
pub user_not_added : {K D : Type 0} (written : K → Option (List ℕ)) (faults : K → ℕ) (told : Told D) (old new : Files D) (fault : LoadFault) (status : Status) (name password : List ℕ) (sink : K)
    → LeaveTheSame told → MakesAllSure told old new → TellsFaults told (fault ≡ LoadFailed) old new → (fault ≡ LoadNotAStore → IsNoStore told new)
    → (fault ≡ LoadNotAStore → status ≡ NotAStore) → (fault ≡ LoadFailed → status ≡ StoreFault) → (fault ≡ LoadNoMemory → status ≡ NoMemory)
    → AddsUser written faults told status name password sink sink old new
user_not_added written faults told old new fault status name password sink law sure tells none not_a_store failed no_memory = record {
  ends = by-fault fault refl;
  leaves = always-read told old (λ bytes. (world : World) → HoldsWorld bytes (world ∷ []) → (since : LogMoments) (earlier : List World) → Left told old since (world ∷ earlier)
      → Left told new since (user_added world name password ∷ world ∷ earlier)) (λ bytes world stands since earlier left. left-more told new since (user_added world name password) (world ∷ earlier) (left-sure told old new since (world ∷ earlier) law sure left));
}
  where
    Ends : Status → Type 0
    Ends s = AdduserEnds written faults told s name password sink sink old new

    by-fault : (f : LoadFault) → fault ≡ f → Ends status
    by-fault LoadNotAStore is = subst Ends (sym (not_a_store is))
        (read-before told old new HoldsNone HoldsNone sure (λ bytes no. no) (none is).none, sure, tells.quiet (λ e. cc (e, is)), refl)
    by-fault LoadFailed is = subst Ends (sym (failed is)) (tells.failed is, refl)
    by-fault LoadNoMemory is = subst Ends (sym (no_memory is)) (sure, tells.quiet (λ e. cc (e, is)), refl)
