-- What the word about users does: `adduser`.
use Rattle.std.specs.Prelude.{ℕ, ◌≡◌, ◌⊎◌, ◌==◌, ◌&&◌, ◌||◌, not, nat_le, Bool, List, [], ◌∷◌, Option, Some, None, is_some, codes, length, if◌then◌else◌}
use Rattle.std.specs.List.{list_all}
use Rattle.disk_model.specs.Told.{Told}
use Rattle.disk_model.specs.declared.disk.Files.{Files}
use Rattle.row_tables.specs.Names.{user_named}
use Rattle.row_store.specs.ThreeFiles.{IfRead, FaultRose, CountsNoFault, LogMoments, MakesAllSure}
use Rattle.row_store.specs.Holding.{HoldsNone}
use Rattle.row_store.specs.Kept.{Store}
use Rattle.mail_world.specs.Names.{is_user_name}
use Rattle.mail_world.specs.Limits.{most_users}
use Rattle.mail_world.specs.Worlds.{World}
use Rattle.mail_world.specs.Looking.{verifier_of}
use Rattle.mail_world.specs.Users.{with_user}
use Rattle.mailbox_core.specs.Left.{HoldsWorld, Left}
use Rattle.mail_server.specs.declared.status.Status.{Status}
use Rattle.mail_server.specs.declared.status.Status.TheVariants.{Done, Usage, NoMemory, ReadFault, WriteFault, StoreFault, NotAStore, Refused, BadScript, ListenFault}
use Rattle.mail_server.specs.Outside.{WritesAll, StopsWriting}
use Rattle.mail_server.specs.WorldFiles.{IfWorld, SettledFor, IfStands}

-- a byte of a password: printed ASCII, but for the space
abbrev pub is_password_byte : ℕ → Bool
is_password_byte b = nat_le 0x21 b && nat_le b 0x7E

-- A password that a user may be given.
unfoldable pub is_password : List ℕ → Bool
is_password password = list_all is_password_byte password && nat_le 1 (length password) && nat_le (length password) 128

-- the line of the first reason that holds
abbrev pub first_line : List (Bool × List ℕ) → Option (List ℕ)
first_line [] = None
first_line (reason ∷ reasons) = if reason.0 then Some reason.1 else first_line reasons

abbrev pub words_reasons : List ℕ → List ℕ → List (Bool × List ℕ)
words_reasons name password = (not (is_user_name name), codes "refused: bad name\n") ∷ (not (is_password password), codes "refused: bad password\n") ∷ []

abbrev pub world_reasons : World → List ℕ → List (Bool × List ℕ)
world_reasons world name =
    (is_some (user_named name world.users), codes "refused: user exists\n")
    ∷ (nat_le most_users (length world.users) || world.next == 0, codes "refused: full\n") ∷ []

-- The line that says why no user is added: the words come first, the name before the password, and then what is there.
abbrev pub line_unless : Option (List ℕ) → Option (List ℕ) → Option (List ℕ)
line_unless (Some line) other = Some line
line_unless None other = other

abbrev pub user_refused : World → List ℕ → List ℕ → Option (List ℕ)
user_refused world name password = line_unless (first_line (words_reasons name password)) (first_line (world_reasons world name))

-- the world with the user, who has an INBOX
abbrev pub user_added : World → List ℕ → List ℕ → World
user_added world name password = with_user world name (verifier_of name password)

-- The line is one by which no user is added with these words, whatever the store is.
abbrev pub IsRefusal : List ℕ → List ℕ → List ℕ → Type 0
IsRefusal name password line = (first_line (words_reasons name password) ≡ Some line)
    ⊎ ((first_line (words_reasons name password) ≡ None) × ((line ≡ codes "refused: user exists\n") ⊎ (line ≡ codes "refused: full\n")))

-- How the word ends: each status that it can end with, with its cause and what it leaves of the sink and the files. The sink is
-- called only to refuse.
abbrev pub AdduserEnds : {K D : Type 0} → (K → Option (List ℕ)) → (K → ℕ) → Told D → Status → List ℕ → List ℕ → K → K → Files D → Files D → Type 0
AdduserEnds written faults told Done name password old new files files' =
    (first_line (words_reasons name password) ≡ None) × IfWorld told files (λ world. (user_refused world name password ≡ None) × SettledFor told files' (user_added world name password)) × CountsNoFault told files files' × (new ≡ old)
AdduserEnds written faults told Refused name password old new files files' = (line : List ℕ) × IsRefusal name password line × IfWorld told files (λ world. user_refused world name password ≡ Some line)
    × MakesAllSure told files files' × CountsNoFault told files files' × WritesAll written faults line old new
AdduserEnds written faults told WriteFault name password old new files files' = (line : List ℕ) × IsRefusal name password line × IfWorld told files (λ world. user_refused world name password ≡ Some line)
    × MakesAllSure told files files' × CountsNoFault told files files' × StopsWriting written faults line old new
AdduserEnds written faults told NoMemory name password old new files files' = MakesAllSure told files files' × CountsNoFault told files files' × (new ≡ old)
AdduserEnds written faults told StoreFault name password old new files files' = FaultRose told files files' × (new ≡ old)
AdduserEnds written faults told NotAStore name password old new files files' = IfRead told files HoldsNone × MakesAllSure told files files' × CountsNoFault told files files' × (new ≡ old)
AdduserEnds written faults told Usage name password old new files files' = ⊥
AdduserEnds written faults told ReadFault name password old new files files' = ⊥
AdduserEnds written faults told BadScript name password old new files files' = ⊥
AdduserEnds written faults told ListenFault name password old new files files' = ⊥

-- The word `adduser`: it adds a user with a name and a password to the store that the files hold.
pub record AddsUser {K D : Type 0} (written : K → Option (List ℕ)) (faults : K → ℕ) (told : Told D) (status : Status) (name password : List ℕ) (old new : K) (files files' : Files D) : Type 0 where
  pub ends : AdduserEnds written faults told status name password old new files files'
  -- However it ends, what a crash leaves stands for the world before or after, or for one of those before where a run began earlier:
  -- the joint images of now, and those of each moment since.
  pub leaves : IfRead told files (λ bytes. (world : World) → HoldsWorld bytes (world ∷ []) → (since : LogMoments) (earlier : List World) → Left told files since (world ∷ earlier)
      → Left told files' since (user_added world name password ∷ world ∷ earlier))

-- How a user is added to a store that was loaded, by the status that the run ends with.
abbrev pub AddsEnds : {K D : Type 0} → (K → Option (List ℕ)) → (K → ℕ) → Told D → Status → List ℕ → List ℕ → K → K → Store D → Store D → Type 0
AddsEnds written faults told Done name password old new store store' =
    (first_line (words_reasons name password) ≡ None) × IfStands told store (λ world. (user_refused world name password ≡ None) × SettledFor told store'.files (user_added world name password))
    × CountsNoFault told store.files store'.files × (new ≡ old)
AddsEnds written faults told Refused name password old new store store' = (line : List ℕ) × IsRefusal name password line
    × IfStands told store (λ world. user_refused world name password ≡ Some line) × (store' ≡ store) × WritesAll written faults line old new
AddsEnds written faults told WriteFault name password old new store store' = (line : List ℕ) × IsRefusal name password line
    × IfStands told store (λ world. user_refused world name password ≡ Some line) × (store' ≡ store) × StopsWriting written faults line old new
AddsEnds written faults told NoMemory name password old new store store' = (store'.files ≡ store.files) × (new ≡ old)
AddsEnds written faults told StoreFault name password old new store store' = FaultRose told store.files store'.files × (new ≡ old)
AddsEnds written faults told NotAStore name password old new store store' = ⊥
AddsEnds written faults told Usage name password old new store store' = ⊥
AddsEnds written faults told ReadFault name password old new store store' = ⊥
AddsEnds written faults told BadScript name password old new store store' = ⊥
AddsEnds written faults told ListenFault name password old new store store' = ⊥

pub record AddsTo {K D : Type 0} (written : K → Option (List ℕ)) (faults : K → ℕ) (told : Told D) (status : Status) (name password : List ℕ) (old new : K) (store store' : Store D) : Type 0 where
  pub ends : AddsEnds written faults told status name password old new store store'
  pub leaves : IfStands told store (λ world. (since : LogMoments) (earlier : List World) → Left told store.files since (world ∷ earlier)
      → Left told store'.files since (user_added world name password ∷ world ∷ earlier))
