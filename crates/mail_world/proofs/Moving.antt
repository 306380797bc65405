-- A store stays legal as the messages of INBOX become those of a new mailbox.
use Rattle.std.proofs.Common.{ℕ, ◌≡◌, ◌+◌, ◌<◌, ◌==◌, Bool, true, false, not, List, [], ◌∷◌, map, length, Option, Some, None, refl, sym, ap, subst, ◌∙◌, arith}
use Rattle.std.specs.Prelude.{◌&&◌, nat_lt, nat_le, count_by}
use Rattle.std.specs.List.{list_any, AllByRecursion}
use Rattle.std.specs.Option.{is_some, option_map}
use Rattle.std.proofs.lemmas.Bool.{true≢false, eqb-true, le-leb, le-ltb, and_parts}
use Rattle.std.proofs.lemmas.List.{length-map}
use Rattle.std.proofs.lemmas.List.Sums.{count_by-le-length}
use Rattle.mail_world.specs.Names.{inbox, is_mailbox_name}
use Rattle.mail_world.specs.Worlds.{World, Mailbox, Entry, Message, mailbox_at, mailbox_named, user_at, is_named, is_owned_by}
use Rattle.mail_world.specs.Limits.{most_mailboxes, most_messages, last_uid, last_modseq}
use Rattle.mail_world.specs.Changes.{BadName, Absent, Exists, Full}
use Rattle.mail_world.specs.Users.{new_mailbox, is_full_of_mailboxes}
use Rattle.mail_world.specs.Arrivals.{with_changed, with_messages}
use Rattle.mail_world.specs.Storing.{without_messages}
use Rattle.mail_world.specs.Renaming.{keeps_its_messages, rename_inbox_refused, moved_inbox, with_inbox_moved, inbox_renamed}
use Rattle.mail_world.specs.Legal.{IsLegal, IsLegalMailbox}
use Rattle.mail_world.proofs.Finding.{find_passes}
use Rattle.mail_world.proofs.Following.{step, more_keeps}
use Rattle.mail_world.proofs.Apart.{more_owner}
use Rattle.mail_world.proofs.Ascending.{all-map, all_found, listed}
use Rattle.mail_world.proofs.Keeping.{changed-legal, named_step, count_same, step_keeps}
use Rattle.mail_world.proofs.Growing.{IsProperMessage, more-legal, first-legal}
use Rattle.mail_world.proofs.Lasting.{left-legal, all_fail}
use Rattle.mail_world.proofs.Staying.{left_title, more_title}
use Rattle.mail_world.proofs.Making.{found_at, users_stay, made-legal, new-legal}
use Rattle.mail_world.proofs.Coming.{none_there, has_room, inboxes_stay}
use Rattle.mail_world.proofs.Accepting.{not_refused}

abbrev gone_all : Mailbox → Mailbox
gone_all = without_messages (λ uid. true)

fails_too : (entries : List Entry) (b : Bool) → (nat_le 1 (length entries) && b) ≡ false → (list_any (λ entry. true) entries && b) ≡ false
fails_too [] b e = refl
fails_too (entry ∷ entries) b e = sym (rw (le-leb 1 (length (entry ∷ entries)) (omega arith)) refl) ∙ e

apart_fails : (a b : Bool) → a ≡ true → (a && b) ≡ false → b ≡ false
apart_fails true b e none = none
apart_fails false b e none = absurd (true≢false (sym e))

emptied-legal : (world : World) (owner : ℕ) → IsLegal world → list_any (λ m. is_named owner inbox m && keeps_its_messages m) world.mailboxes ≡ false → IsLegal (with_changed (is_named owner inbox) gone_all world)
emptied-legal world owner legal none =
    changed-legal world (is_named owner inbox) gone_all legal (left_title (λ uid. true))
    (λ id m found here.
    left-legal (λ uid. true) m (legal.mailboxes id m found).itself
    (fails_too m.entries (nat_le last_modseq m.head.highest)
    (apart_fails (is_named owner inbox m) (keeps_its_messages m) here
    (all_found (λ x. (is_named owner inbox x && keeps_its_messages x) ≡ false) (λ x. x.head.id == id) world.mailboxes m (all_fail (λ x. is_named owner inbox x && keeps_its_messages x) world.mailboxes none) found))))

proper : (m : Mailbox) → IsLegalMailbox m → AllByRecursion IsProperMessage (map (λ entry. entry.message) m.entries)
proper m legal =
    all-map IsProperMessage (λ entry. entry.message) m.entries
    (listed (λ entry. entry.uid) (λ entry. IsProperMessage entry.message) m.entries legal.uids
    (λ uid entry at. record { flags = (legal.entries uid entry at).flags; date = (legal.entries uid entry at).date }))

next_of : (messages : List Message) (id owner : ℕ) (name : List ℕ) → (with_messages false messages (new_mailbox id owner name)).head.uidnext ≡ 1 + length messages
next_of [] id owner name = refl
next_of (message ∷ messages) id owner name = refl

moved-legal : (id : ℕ) (to : List ℕ) (source : Mailbox) → IsLegalMailbox source → IsLegalMailbox (moved_inbox id to source)
moved-legal id to source legal =
    first-legal (1 + count_by (λ entry. nat_lt entry.uid source.head.first_recent) source.entries) (with_messages false (map (λ entry. entry.message) source.entries) (new_mailbox id source.head.owner to))
    (more-legal false (map (λ entry. entry.message) source.entries) (new_mailbox id source.head.owner to) (new-legal id source.head.owner to) (proper source legal)
    (le-ltb most_messages _ (omega (arith, length-map source.entries (λ entry. entry.message), legal.few))) refl
    (le-ltb (last_uid + 1) _ (omega (arith, length-map source.entries (λ entry. entry.message), legal.few))))
    (omega arith)
    (omega (arith, next_of (map (λ entry. entry.message) source.entries) id source.head.owner to, length-map source.entries (λ entry. entry.message), count_by-le-length (λ entry. nat_lt entry.uid source.head.first_recent) source.entries))

pub record IsRenamed (world : World) (owner : ℕ) (to : List ℕ) : Type 0 where
  pub name : mailbox_named owner to world.mailboxes ≡ None
  pub room : (count_by (is_owned_by owner) world.mailboxes < most_mailboxes) × ((world.next == 0) ≡ false)
  pub modseqs : list_any (λ m. is_named owner inbox m && keeps_its_messages m) world.mailboxes ≡ false

pub accepted_as : (world : World) (owner : ℕ) (to : List ℕ) → rename_inbox_refused world owner to ≡ None → IsRenamed world owner to
accepted_as world owner to accepted =
    let fifth = (list_any (λ m. is_named owner inbox m && keeps_its_messages m) world.mailboxes, Full) ∷ [] in
    let fourth = (is_full_of_mailboxes owner world, Full) ∷ fifth in
    let third = (is_some (mailbox_named owner to world.mailboxes), Exists) ∷ fourth in
    let second = (not (is_some (mailbox_named owner inbox world.mailboxes)), Absent) ∷ third in
    let one = not_refused (not (is_mailbox_name to)) BadName second accepted in
    let two = not_refused (not (is_some (mailbox_named owner inbox world.mailboxes))) Absent third one.1 in
    let three = not_refused (is_some (mailbox_named owner to world.mailboxes)) Exists fourth two.1 in
    let four = not_refused (is_full_of_mailboxes owner world) Full fifth three.1 in
    let five = not_refused (list_any (λ m. is_named owner inbox m && keeps_its_messages m) world.mailboxes) Full [] four.1 in
    record { name = none_there (mailbox_named owner to world.mailboxes) three.0; room = has_room owner world four.0; modseqs = five.0 }

moved-stays : (world : World) (owner : ℕ) (to : List ℕ) (o : Option Mailbox) → mailbox_named owner inbox world.mailboxes ≡ o → IsLegal world → IsRenamed world owner to → IsLegal (with_inbox_moved o world owner to)
moved-stays world owner to None found legal accepted = legal
moved-stays world owner to (Some source) found legal accepted =
    made-legal (with_changed (is_named owner inbox) gone_all world) world.users (moved_inbox world.next to source) emptied (users_stay (with_changed (is_named owner inbox) gone_all world) emptied)
    (record {
      id = more_keeps false (map (λ entry. entry.message) source.entries) (new_mailbox world.next source.head.owner to);
      next = accepted.room.1;
      owner = ap (λ n. is_some (user_at n world.users)) owner_is ∙ (legal.mailboxes source.head.id source at).owner;
      name = ap (λ n. mailbox_named n (with_messages false (map (λ entry. entry.message) source.entries) (new_mailbox world.next source.head.owner to)).head.name (map (step (is_named owner inbox) gone_all) world.mailboxes)) (owner_is ∙ source_owner)
          ∙ ap (λ n. mailbox_named owner n (map (step (is_named owner inbox) gone_all) world.mailboxes)) ((more_title (λ m. false) (map (λ entry. entry.message) source.entries)).name (new_mailbox world.next source.head.owner to))
          ∙ named_step (is_named owner inbox) gone_all (left_title (λ uid. true)) owner to world.mailboxes
          ∙ ap (option_map (step (is_named owner inbox) gone_all)) accepted.name;
      room = subst (λ n. n < most_mailboxes) (sym (ap (λ n. count_by (is_owned_by n) (map (step (is_named owner inbox) gone_all) world.mailboxes)) (owner_is ∙ source_owner)
          ∙ count_same (is_owned_by owner) (step (is_named owner inbox) gone_all) (λ m. ap (λ n. n == owner) ((step_keeps (is_named owner inbox) gone_all (left_title (λ uid. true))).owner m)) world.mailboxes)) accepted.room.0;
      itself = moved-legal world.next to source (legal.mailboxes source.head.id source at).itself;
    })
    (inboxes_stay (with_changed (is_named owner inbox) gone_all world) emptied (moved_inbox world.next to source))
  where
    emptied : IsLegal (with_changed (is_named owner inbox) gone_all world)
    emptied = emptied-legal world owner legal accepted.modseqs

    at : mailbox_at source.head.id world.mailboxes ≡ Some source
    at = found_at world legal (is_named owner inbox) source found

    source_owner : source.head.owner ≡ owner
    source_owner = eqb-true source.head.owner owner (and_parts _ (source.head.owner == owner) (find_passes (is_named owner inbox) world.mailboxes source found)).1

    owner_is : (with_messages false (map (λ entry. entry.message) source.entries) (new_mailbox world.next source.head.owner to)).head.owner ≡ source.head.owner
    owner_is = more_owner false (map (λ entry. entry.message) source.entries) (new_mailbox world.next source.head.owner to)

pub rename_inbox-stays : (world : World) (owner : ℕ) (to : List ℕ) → IsLegal world → rename_inbox_refused world owner to ≡ None → IsLegal (inbox_renamed world owner to)
rename_inbox-stays world owner to legal accepted = moved-stays world owner to (mailbox_named owner inbox world.mailboxes) refl legal (accepted_as world owner to accepted)
