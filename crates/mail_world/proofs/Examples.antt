-- Worked examples: what changes make of small stores, and which are refused.
use Rattle.std.specs.Prelude.{ℕ, ◌≡◌, pos, true, false, List, [], ◌∷◌, ◌++◌, map, fold, replicate, Option, Some, None, codes, refl}
use Rattle.std.specs.Option.{option_map}
use Rattle.date_grammar.specs.declared.parts.Stamp.{Stamp}
use Rattle.imap_grammar.specs.declared.flags.Flag.TheVariants.{Deleted, Seen, Keyword}
use Rattle.imap_grammar.specs.declared.flags.FlagChange.TheVariants.{Add, Remove}
use Rattle.mime_tree.specs.declared.reasons.Mail.{Mail}
use Rattle.mime_tree.specs.declared.trees.Encoding.TheVariants.{Plain}
use Rattle.mime_tree.specs.Trees.Tree.{node}
use Rattle.mime_tree.specs.Trees.Content.{leaf}
use Rattle.mail_world.specs.Names.{is_mailbox_name, created_name, is_user_name}
use Rattle.mail_world.specs.Flags.{distinct}
use Rattle.mail_world.specs.Worlds.{World, Mailbox, no_world, mailbox_at}
use Rattle.mail_world.specs.Listing.{names_of}
use Rattle.mail_world.specs.Changes.{Change, AddUser, Create, Delete, Rename, Subscribe, Unsubscribe, Append, Deliver, Copy, StoreFlags, Expunge, TakeRecents, BadName, Absent, Exists, InUse, Full, NoUid}
use Rattle.mail_world.specs.Applying.{apply, refused}

abbrev a_mail : Mail
a_mail = record { message = node [] (leaf Plain (codes "hi")); reason = None }

abbrev a_date : Stamp
a_date = record { seconds = pos 0; zone = pos 0 }

abbrev arrives : ℕ → Change
arrives id = Append id [] a_date a_mail false

-- a store after changes
abbrev made : List Change → World
made changes = fold apply no_world changes

-- two users, whose INBOXes are the mailboxes 1 and 2
abbrev first_changes : List Change
first_changes = AddUser (codes "alice") [] ∷ AddUser (codes "bob") [] ∷ []

-- of a mailbox: the UIDs and mod-sequences, the gone ones, and of the head the next UID, the first recent one and the highest mod-sequence
abbrev shown : Mailbox → List (ℕ × ℕ) × List (ℕ × ℕ) × ℕ × ℕ × ℕ
shown m = (map (λ e. (e.uid, e.modseq)) m.entries, map (λ g. (g.uid, g.modseq)) m.gone, m.head.uidnext, m.head.first_recent, m.head.highest)

abbrev shown_at : ℕ → World → Option (List (ℕ × ℕ) × List (ℕ × ℕ) × ℕ × ℕ × ℕ)
shown_at id world = option_map shown (mailbox_at id world.mailboxes)

abbrev names : World → List (ℕ × ℕ × List ℕ)
names world = map (λ m. (m.head.id, m.head.owner, m.head.name)) world.mailboxes

mailbox_names : (is_mailbox_name (codes "a/b c") ≡ true) × (is_mailbox_name (codes "") ≡ false) × (is_mailbox_name (codes "/a") ≡ false) × (is_mailbox_name (codes "a//b") ≡ false) × (is_mailbox_name (codes "a/") ≡ false) × (is_mailbox_name (codes "a%") ≡ false)
    × (is_mailbox_name (replicate 255 97) ≡ true) × (is_mailbox_name (replicate 256 97) ≡ false)
unfolding is_mailbox_name
mailbox_names = (refl, refl, refl, refl, refl, refl, refl, refl)

names_of_create : (created_name (codes "a/b/") ≡ codes "a/b") × (created_name (codes "inbox/") ≡ codes "INBOX") × (created_name (codes "inbox/x") ≡ codes "inbox/x") × (created_name (codes "a//") ≡ codes "a/")
unfolding created_name
names_of_create = (refl, refl, refl, refl)

first_mailboxes : names (made first_changes) ≡ (1, 1, codes "INBOX") ∷ (2, 2, codes "INBOX") ∷ []
unfolding apply
first_mailboxes = refl

users_refused : (refused (made first_changes) (AddUser (codes "alice") []) ≡ Some Exists) × (refused (made first_changes) (AddUser (codes "Alice") []) ≡ Some BadName) × (refused (record no_world { next = 0 }) (AddUser (codes "carl") []) ≡ Some Full)
unfolding apply refused is_user_name
users_refused = (refl, refl, refl)

-- A session has the mailbox `work`, which is the third.
deletes_refused : (refused (made (first_changes ++ Create 1 (codes "work") ∷ [])) (Delete 1 (codes "work") (3 ∷ [])) ≡ Some InUse) × (refused (made first_changes) (Delete 1 (codes "inbox") []) ≡ Some BadName)
    × (refused (made first_changes) (Create 1 (codes "INBOX")) ≡ Some Exists) × (refused (made first_changes) (Create 1 (codes "inbox/")) ≡ Some Exists) × (refused (made first_changes) (Delete 1 (codes "none") []) ≡ Some Absent)
unfolding apply refused is_mailbox_name created_name
deletes_refused = (refl, refl, refl, refl, refl)

-- Superior names aren't made, and no id is given twice.
created_below : names (made (first_changes ++ Create 1 (codes "x") ∷ Delete 1 (codes "x") [] ∷ Create 1 (codes "a/b") ∷ [])) ≡ (1, 1, codes "INBOX") ∷ (2, 2, codes "INBOX") ∷ (4, 1, codes "a/b") ∷ []
unfolding apply created_name
created_below = refl

-- Of three messages the first and the last are marked and taken away: each change has a mod-sequence of its own.
expunged_two : shown_at 1 (made (first_changes ++ arrives 1 ∷ arrives 1 ∷ arrives 1 ∷ StoreFlags 1 (1 ∷ 3 ∷ []) Add (Deleted ∷ []) ∷ Expunge 1 (1 ∷ 3 ∷ []) ∷ [])) ≡ Some ((2, 3) ∷ [], (1, 6) ∷ (3, 6) ∷ [], 4, 1, 6)
unfolding apply
expunged_two = refl

-- Gone messages stand in the order of their UIDs, whenever they went. Nothing changes where no message is meant, or no flag.
expunged_in_turn : shown_at 1 (made (first_changes ++ arrives 1 ∷ arrives 1 ∷ arrives 1 ∷ Expunge 1 (3 ∷ []) ∷ Expunge 1 (2 ∷ []) ∷ Expunge 1 (2 ∷ []) ∷ StoreFlags 1 (1 ∷ []) Remove (Seen ∷ []) ∷ [])) ≡ Some ((1, 2) ∷ [], (2, 6) ∷ (3, 5) ∷ [], 4, 1, 6)
unfolding apply
expunged_in_turn = refl

-- a mailbox with so many UIDs given
abbrev late : World
late = record no_world {
  mailboxes = record { head = record { id = 1; owner = 1; name = codes "INBOX"; uidnext = 4294967294; first_recent = 1; highest = 1 }; entries = []; gone = [] } ∷ [];
}

-- The last UID is given, and none after it.
last_uid_given : (refused late (arrives 1) ≡ None) × (shown_at 1 (apply late (arrives 1)) ≡ Some ((4294967294, 2) ∷ [], [], 4294967295, 1, 2)) × (refused (apply late (arrives 1)) (arrives 1) ≡ Some NoUid)
unfolding apply refused
last_uid_given = (refl, refl, refl)

-- The messages of INBOX become the first ones of a new mailbox, of which the second is recent as it was.
inbox_moved : (shown_at 3 (made (first_changes ++ arrives 1 ∷ TakeRecents 1 ∷ arrives 1 ∷ Rename 1 (codes "Inbox") (codes "old") ∷ [])) ≡ Some ((1, 2) ∷ (2, 2) ∷ [], [], 3, 2, 2))
    × (shown_at 1 (made (first_changes ++ arrives 1 ∷ TakeRecents 1 ∷ arrives 1 ∷ Rename 1 (codes "Inbox") (codes "old") ∷ [])) ≡ Some ([], (1, 4) ∷ (2, 4) ∷ [], 3, 2, 4))
    × (shown_at 3 (made (first_changes ++ Rename 1 (codes "INBOX") (codes "old") ∷ [])) ≡ Some ([], [], 1, 1, 1))
unfolding apply
inbox_moved = (refl, refl, refl)

abbrev with_three : World
with_three = made (first_changes ++ Create 1 (codes "a") ∷ Create 1 (codes "a/b") ∷ Create 1 (codes "ab") ∷ [])

-- Inferiors go along.
renamed_with_inferiors : names (apply with_three (Rename 1 (codes "a") (codes "x/y"))) ≡ (1, 1, codes "INBOX") ∷ (2, 2, codes "INBOX") ∷ (3, 1, codes "x/y") ∷ (4, 1, codes "x/y/b") ∷ (5, 1, codes "ab") ∷ []
unfolding apply created_name
renamed_with_inferiors = refl

renames_refused : (refused with_three (Rename 1 (codes "a") (codes "a")) ≡ Some Exists) × (refused with_three (Rename 1 (codes "a") (codes "a/b")) ≡ Some Exists) × (refused with_three (Rename 1 (codes "a") (codes "inbox")) ≡ Some Exists)
    × (refused with_three (Rename 1 (codes "a") (replicate 254 97)) ≡ Some BadName) × (refused with_three (Rename 1 (codes "ab") (replicate 254 97)) ≡ None) × (refused with_three (Rename 2 (codes "a") (codes "b")) ≡ Some Absent)
    × (refused with_three (Rename 1 (codes "none") (codes "*")) ≡ Some BadName) × (refused with_three (Rename 1 (codes "INBOX") (codes "ab")) ≡ Some Exists)
unfolding apply refused is_mailbox_name created_name
renames_refused = (refl, refl, refl, refl, refl, refl, refl, refl)

-- Who is named twice gets one copy. Where a session has the INBOX, no later one is told of the message.
delivered_once : (shown_at 1 (apply (made first_changes) (Deliver (1 ∷ 1 ∷ 2 ∷ []) a_mail a_date (1 ∷ []))) ≡ Some ((1, 2) ∷ [], [], 2, 2, 2))
    × (shown_at 2 (apply (made first_changes) (Deliver (1 ∷ 1 ∷ 2 ∷ []) a_mail a_date (1 ∷ []))) ≡ Some ((1, 2) ∷ [], [], 2, 1, 2))
unfolding apply
delivered_once = (refl, refl)

-- Copies into the mailbox that they are of; no message can be copied anywhere.
copied_here : (shown_at 1 (made (first_changes ++ arrives 1 ∷ arrives 1 ∷ Copy 1 (1 ∷ 2 ∷ []) 1 true ∷ [])) ≡ Some ((1, 2) ∷ (2, 3) ∷ (3, 4) ∷ (4, 4) ∷ [], [], 5, 5, 4))
    × (shown_at 2 (made (first_changes ++ arrives 1 ∷ Copy 1 [] 2 true ∷ [])) ≡ Some ([], [], 1, 1, 1)) × (refused late (Copy 1 [] 1 true) ≡ None)
unfolding apply refused
copied_here = (refl, refl, refl)

flags_once : distinct (Seen ∷ Keyword (codes "x") ∷ Seen ∷ Keyword (codes "y") ∷ Keyword (codes "x") ∷ []) ≡ Seen ∷ Keyword (codes "x") ∷ Keyword (codes "y") ∷ []
flags_once = refl

-- A subscription outlives its mailbox, and isn't made twice.
subscriptions : (map {B = ℕ × List ℕ} (λ s. (s.owner, s.name)) ((made (first_changes ++ Create 1 (codes "x") ∷ Subscribe 1 (codes "x") ∷ Subscribe 1 (codes "inbox") ∷ Subscribe 1 (codes "x") ∷ Delete 1 (codes "x") [] ∷ [])).subscriptions) ≡ (1, codes "INBOX") ∷ (1, codes "x") ∷ [])
    × (refused (made first_changes) (Subscribe 1 (codes "x")) ≡ Some Absent) × (refused (made first_changes) (Unsubscribe 1 (codes "INBOX")) ≡ Some Absent)
unfolding apply refused is_mailbox_name created_name
subscriptions = (refl, refl, refl)

-- Mailboxes are listed by their bytes, whenever they were made; of a mailbox that is gone the subscription is.
listings : (names_of false 1 (made (first_changes ++ Create 1 (codes "b") ∷ Create 1 (codes "a/b") ∷ [])) ≡ codes "INBOX" ∷ codes "b" ∷ codes "a/b" ∷ [])
    × (names_of true 1 (made (first_changes ++ Create 1 (codes "x") ∷ Subscribe 1 (codes "x") ∷ Delete 1 (codes "x") [] ∷ [])) ≡ codes "x" ∷ []) × (names_of true 2 (made (first_changes ++ Subscribe 1 (codes "inbox") ∷ [])) ≡ [])
unfolding apply refused is_mailbox_name created_name
listings = (refl, refl, refl)
