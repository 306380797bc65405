-- Commands that aren't served yet.
use Rattle.std.proofs.Common.{◌≡◌, ℕ, Bool, List, Option, refl}
use Rattle.date_grammar.specs.declared.parts.Stamp.{Stamp}
use Rattle.imap_grammar.specs.declared.flags.Flag.{Flag}
use Rattle.imap_grammar.specs.declared.flags.FlagChange.{FlagChange}
use Rattle.imap_grammar.specs.declared.sets.SeqSet.{SeqSet}
use Rattle.imap_grammar.specs.declared.items.FetchItem.{FetchItem}
use Rattle.imap_grammar.specs.declared.items.StatusItem.{StatusItem}
use Rattle.imap_grammar.specs.declared.selecting.Resync.{Resync}
use Rattle.imap_grammar.specs.declared.commands.Command.{Command}
use Rattle.imap_grammar.specs.declared.commands.Command.TheVariants.{Capability, Noop, Logout, Check, Close, Expunge, Login, Authenticate, Enable, Create, Delete, Subscribe, Unsubscribe, Rename, List as ListNames, Status, Append, Select, Store, Fetch, Search, Sort, Thread, Copy, UidExpunge}
use Rattle.session_view.specs.declared.sessions.State.{State}
use Rattle.imap_steps.specs.Stepping.{Shared}
use Rattle.imap_steps.specs.Executing.{commanded, unserved}

-- none of those that are
pub record IsOther (command : Command) : Type 0 where
  pub capability : command ≡ Capability → ⊥
  pub noop : command ≡ Noop → ⊥
  pub logout : command ≡ Logout → ⊥
  pub check : command ≡ Check → ⊥
  pub login : (name password : List ℕ) → command ≡ Login name password → ⊥
  pub authenticate : (mechanism : List ℕ) → command ≡ Authenticate mechanism → ⊥
  pub create : (name : List ℕ) → command ≡ Create name → ⊥
  pub delete : (name : List ℕ) → command ≡ Delete name → ⊥
  pub subscribe : (name : List ℕ) → command ≡ Subscribe name → ⊥
  pub unsubscribe : (name : List ℕ) → command ≡ Unsubscribe name → ⊥
  pub status : (name : List ℕ) (items : List StatusItem) → command ≡ Status name items → ⊥
  pub rename : (from to : List ℕ) → command ≡ Rename from to → ⊥
  pub list : (reference name : List ℕ) (subscribed : Bool) → command ≡ ListNames reference name subscribed → ⊥
  pub select : (name : List ℕ) (examine condstore : Bool) (resync : Option Resync) → command ≡ Select name examine condstore resync → ⊥
  pub append : (name : List ℕ) (flags : List Flag) (stamp : Option Stamp) (text : List ℕ) → command ≡ Append name flags stamp text → ⊥
  pub store : (by_uid : Bool) (set : SeqSet) (unchanged_since : Option ℕ) (how : FlagChange) (silent : Bool) (flags : List Flag) → command ≡ Store by_uid set unchanged_since how silent flags → ⊥
  pub fetch : (by_uid : Bool) (set : SeqSet) (items : List FetchItem) (changed_since : Option ℕ) (vanished : Bool) → command ≡ Fetch by_uid set items changed_since vanished → ⊥

module _ (shared : Shared) (number now : ℕ) (state : State) (tag : List ℕ) where
  pub unserved_else : (command : Command) → IsOther command → commanded shared number state tag command now ≡ unserved shared tag
  unserved_else Capability other = absurd (other.capability refl)
  unserved_else Noop other = absurd (other.noop refl)
  unserved_else Logout other = absurd (other.logout refl)
  unserved_else Check other = absurd (other.check refl)
  unserved_else (Login a b) other = absurd (other.login a b refl)
  unserved_else (Authenticate a) other = absurd (other.authenticate a refl)
  unserved_else (Create a) other = absurd (other.create a refl)
  unserved_else (Delete a) other = absurd (other.delete a refl)
  unserved_else (Subscribe a) other = absurd (other.subscribe a refl)
  unserved_else (Unsubscribe a) other = absurd (other.unsubscribe a refl)
  unserved_else (Status a b) other = absurd (other.status a b refl)
  unserved_else (Rename a b) other = absurd (other.rename a b refl)
  unserved_else (ListNames a b x) other = absurd (other.list a b x refl)
  unserved_else (Select a b x y) other = absurd (other.select a b x y refl)
  unserved_else (Append a b x y) other = absurd (other.append a b x y refl)
  unserved_else Close other = refl
  unserved_else Expunge other = refl
  unserved_else (Enable a) other = refl
  unserved_else (Store a b x y z u) other = absurd (other.store a b x y z u refl)
  unserved_else (Fetch a b x y z) other = absurd (other.fetch a b x y z refl)
  unserved_else (Search a b x) other = refl
  unserved_else (Sort a b x y) other = refl
  unserved_else (Thread a b x) other = refl
  unserved_else (Copy a b x) other = refl
  unserved_else (UidExpunge a) other = refl
