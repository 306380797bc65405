-- Worlds that are the same but for the order of the flags of messages, of which no answer depends.
use Rattle.std.specs.Prelude.{◌≡◌, true, List, [], ◌∷◌}
use Rattle.mail_world.specs.Flags.{same_flags}
use Rattle.mail_world.specs.Worlds.{World, Mailbox, Entry}

pub record IsSameEntry (a b : Entry) : Type 0 where
  pub uid : a.uid ≡ b.uid
  pub modseq : a.modseq ≡ b.modseq
  pub date : a.message.date ≡ b.message.date
  pub mail : a.message.mail ≡ b.message.mail
  pub flags : same_flags a.message.flags b.message.flags ≡ true

-- one list against the other, in turn
abbrev pub InTurn : {X Y : Type 0} → (X → Y → Type 0) → List X → List Y → Type 0
InTurn R [] [] = Unit {0}
InTurn R [] (y ∷ ys) = ⊥
InTurn R (x ∷ xs) [] = ⊥
InTurn R (x ∷ xs) (y ∷ ys) = R x y × InTurn R xs ys

pub record IsSameMailbox (a b : Mailbox) : Type 0 where
  pub head : a.head ≡ b.head
  pub entries : InTurn IsSameEntry a.entries b.entries
  pub gone : a.gone ≡ b.gone

pub record IsSameWorld (a b : World) : Type 0 where
  pub users : a.users ≡ b.users
  pub mailboxes : InTurn IsSameMailbox a.mailboxes b.mailboxes
  pub subscriptions : a.subscriptions ≡ b.subscriptions
  pub next : a.next ≡ b.next
