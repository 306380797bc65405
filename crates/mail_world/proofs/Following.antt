-- Each change leaves mailboxes that follow from those before it.
use Rattle.std.proofs.Common.{ℕ, ◌≡◌, ◌<◌, ◌==◌, Bool, true, false, cond, not, List, [], ◌∷◌, ◌++◌, map, Option, Some, None, refl, sym, ap, subst, ◌∙◌, arith}
use Rattle.std.specs.Prelude.{◌&&◌}
use Rattle.std.specs.List.{filter, AllByRecursion}
use Rattle.std.specs.Option.{option_map}
use Rattle.std.proofs.lemmas.Bool.{eqb-true, cond_both}
use Rattle.std.proofs.lemmas.Option.{none-some, same_Some}
use Rattle.mail_world.specs.Names.{inbox, is_inbox, mailbox_name}
use Rattle.mail_world.specs.Flags.{distinct}
use Rattle.mail_world.specs.Worlds.{World, Mailbox, Message, mailbox_at, mailbox_named, has_id, is_named, is_among}
use Rattle.mail_world.specs.Changes.{Change, AddUser, Create, Delete, Rename, Subscribe, Unsubscribe, Append, Deliver, Copy, StoreFlags, Expunge, TakeRecents}
use Rattle.mail_world.specs.Arrivals.{with_messages, takes_mail, copied}
use Rattle.mail_world.specs.Storing.{with_stored, without_messages, without_recents}
use Rattle.mail_world.specs.Subscriptions.{is_subscribed, subscribed}
use Rattle.mail_world.specs.Renaming.{moves, new_name, with_name, renamed, inbox_renamed, with_inbox_moved, moved_inbox}
use Rattle.mail_world.specs.Applying.{apply}
use Rattle.mail_world.specs.Legal.{IsLegal, IsLegalMailbox, Ascend}
use Rattle.mail_world.specs.Laws.{TellsOnce, Follows, tells}
use Rattle.mail_world.proofs.Finding.{find-map, find_passes, find-append_first}
use Rattle.mail_world.proofs.Arriving.{entry_given, uids_same, modseqs_same, tells_none, tells_same, uids_more, modseqs_more, tells_more}
use Rattle.mail_world.proofs.Leaving.{uids_stored, modseqs_stored, tells_stored, uids_left, modseqs_left, tells_left, tells_no_recents}

pub same_follows : (change : Change) (m : Mailbox) → IsLegalMailbox m → Follows change m m
same_follows change m legal = record { uids = uids_same m; modseqs = modseqs_same m; recents = tells_same (tells change m) m legal; owner = refl }

-- one mailbox, where some are changed
abbrev pub step : (Mailbox → Bool) → (Mailbox → Mailbox) → Mailbox → Mailbox
step which f m = cond (which m) (f m) m

pub step-id : (which : Mailbox → Bool) (f : Mailbox → Mailbox) → ((m : Mailbox) → (f m).head.id ≡ m.head.id) → (m : Mailbox) → (step which f m).head.id ≡ m.head.id
step-id which f keeps m = cond_both (which m) (f m) m (λ n. n.head.id ≡ m.head.id) (λ e. keeps m) (λ e. refl)

pub step-at : (which : Mailbox → Bool) (f : Mailbox → Mailbox) → ((m : Mailbox) → (f m).head.id ≡ m.head.id) → (id : ℕ) (ms : List Mailbox)
    → mailbox_at id (map (step which f) ms) ≡ option_map (step which f) (mailbox_at id ms)
step-at which f keeps id ms = find-map (has_id id) (step which f) (λ m. ap (λ n. n == id) (step-id which f keeps m)) ms

abbrev Changed : Change → (Mailbox → Bool) → (Mailbox → Mailbox) → Type 0
Changed change which f = (m : Mailbox) → IsLegalMailbox m → which m ≡ true → Follows change m (f m)

step-follows : (change : Change) (which : Mailbox → Bool) (f : Mailbox → Mailbox) → Changed change which f → (m : Mailbox) → IsLegalMailbox m → Follows change m (step which f m)
step-follows change which f follows m legal = cond_both (which m) (f m) m (Follows change m) (follows m legal) (λ e. same_follows change m legal)

legal_at : (world : World) → IsLegal world → (id : ℕ) (m : Mailbox) → mailbox_at id world.mailboxes ≡ Some m → IsLegalMailbox m
legal_at world legal id m found = (legal.mailboxes id m found).itself

pub changed-follows : (change : Change) (which : Mailbox → Bool) (f : Mailbox → Mailbox) → ((m : Mailbox) → (f m).head.id ≡ m.head.id) → Changed change which f
    → (world : World) (id : ℕ) (before after : Mailbox) → IsLegal world → mailbox_at id world.mailboxes ≡ Some before → mailbox_at id (map (step which f) world.mailboxes) ≡ Some after → Follows change before after
changed-follows change which f keeps follows world id before after legal was is =
    subst (Follows change before)
    (same_Some (step which f before) after (sym (step-at which f keeps id world.mailboxes ∙ ap (option_map (step which f)) was) ∙ is))
    (step-follows change which f follows before (legal_at world legal id before was))

-- The same where a mailbox is made besides.
changed-follows_new : (change : Change) (which : Mailbox → Bool) (f : Mailbox → Mailbox) → ((m : Mailbox) → (f m).head.id ≡ m.head.id) → Changed change which f → (new : List Mailbox)
    → (world : World) (id : ℕ) (before after : Mailbox) → IsLegal world → mailbox_at id world.mailboxes ≡ Some before → mailbox_at id (map (step which f) world.mailboxes ++ new) ≡ Some after → Follows change before after
changed-follows_new change which f keeps follows new world id before after legal was is =
    let here = step-at which f keeps id world.mailboxes ∙ ap (option_map (step which f)) was in
    subst (Follows change before)
    (same_Some (step which f before) after (sym (find-append_first (has_id id) (map (step which f) world.mailboxes) new (step which f before) here) ∙ is))
    (step-follows change which f follows before (legal_at world legal id before was))

more-follows : (change : Change) (taken : Bool) (messages : List Message) (m : Mailbox) → IsLegalMailbox m → taken ≡ tells change m → Follows change m (with_messages taken messages m)
more-follows change taken [] m legal e = same_follows change m legal
more-follows change taken (message ∷ messages) m legal e = record {
  uids = uids_more taken (message ∷ messages) m;
  modseqs = modseqs_more taken (message ∷ messages) m;
  recents = subst (λ told. TellsOnce told m (with_messages taken (message ∷ messages) m)) e (tells_more taken (message ∷ messages) m legal);
  owner = refl;
}

pub more_keeps : (taken : Bool) (messages : List Message) (m : Mailbox) → (with_messages taken messages m).head.id ≡ m.head.id
more_keeps taken [] m = refl
more_keeps taken (message ∷ messages) m = refl

pub left_keeps : (which : ℕ → Bool) (m : Mailbox) → (without_messages which m).head.id ≡ m.head.id
left_keeps which m = cond_both _ _ m (λ n. n.head.id ≡ m.head.id) (λ e. refl) (λ e. refl)

pub left_owner : (which : ℕ → Bool) (m : Mailbox) → (without_messages which m).head.owner ≡ m.head.owner
left_owner which m = cond_both _ _ m (λ n. n.head.owner ≡ m.head.owner) (λ e. refl) (λ e. refl)

pub stored_keeps : (uids : List ℕ) (how : _) (named : _) (m : Mailbox) → (with_stored uids how named m).head.id ≡ m.head.id
stored_keeps uids how named m = cond_both _ _ m (λ n. n.head.id ≡ m.head.id) (λ e. refl) (λ e. refl)

pub stored_owner : (uids : List ℕ) (how : _) (named : _) (m : Mailbox) → (with_stored uids how named m).head.owner ≡ m.head.owner
stored_owner uids how named m = cond_both _ _ m (λ n. n.head.owner ≡ m.head.owner) (λ e. refl) (λ e. refl)

-- Mailboxes that are made or deleted.

made-follows : (change : Change) (new : List Mailbox) (world : World) (id : ℕ) (before after : Mailbox) → IsLegal world → mailbox_at id world.mailboxes ≡ Some before
    → mailbox_at id (world.mailboxes ++ new) ≡ Some after → Follows change before after
made-follows change new world id before after legal was is =
    subst (Follows change before) (same_Some before after (sym (find-append_first (has_id id) world.mailboxes new before was) ∙ is))
    (same_follows change before (legal_at world legal id before was))

stays-follows : (change : Change) (world : World) (id : ℕ) (before after : Mailbox) → IsLegal world → mailbox_at id world.mailboxes ≡ Some before → mailbox_at id world.mailboxes ≡ Some after → Follows change before after
stays-follows change world id before after legal was is =
    subst (Follows change before) (same_Some before after (sym was ∙ is)) (same_follows change before (legal_at world legal id before was))

abbrev id_of : Mailbox → ℕ
id_of m = m.head.id

above_here : (n id : ℕ) (x m : Mailbox) (b : Bool) (r : Option Mailbox) → n < x.head.id → (r ≡ Some m → n < m.head.id) → cond b (Some x) r ≡ Some m → n < m.head.id
above_here n id x m true r less rest e = subst (λ y. n < y.head.id) (same_Some x m e) less
above_here n id x m false r less rest e = rest e

above : (n id : ℕ) (ms : List Mailbox) (m : Mailbox) → AllByRecursion (λ k. n < k) (map id_of ms) → mailbox_at id ms ≡ Some m → n < m.head.id
above n id [] m all found = absurd (none-some m found)
above n id (x ∷ ms) m all found = above_here n id x m (has_id id x) (mailbox_at id ms) all.0 (above n id ms m all.1) found

kept_one : (id : ℕ) (x m : Mailbox) (some all : List Mailbox) (b c : Bool) → has_id id x ≡ b → (mailbox_at id all ≡ Some m → x.head.id < m.head.id)
    → (mailbox_at id some ≡ Some m → mailbox_at id all ≡ Some m) → mailbox_at id (cond c (x ∷ some) some) ≡ Some m → cond b (Some x) (mailbox_at id all) ≡ Some m
kept_one id x m some all true true here less rest found = ap (λ b. cond b (Some x) (mailbox_at id some)) (sym here) ∙ found
kept_one id x m some all false true here less rest found = rest (ap (λ b. cond b (Some x) (mailbox_at id some)) (sym here) ∙ found)
kept_one id x m some all false false here less rest found = rest found
kept_one id x m some all true false here less rest found =
    absurd (no_other (less (rest found)) (eqb-true x.head.id id here) (eqb-true m.head.id id (find_passes (has_id id) all m (rest found))))
  where
    no_other : x.head.id < m.head.id → x.head.id ≡ id → m.head.id ≡ id → ⊥
    no_other less here there = omega (arith, less, here, there)

-- Where ids ascend, what is found among some of the mailboxes is found among all.
pub found_in_all : (q : Mailbox → Bool) (id : ℕ) (ms : List Mailbox) (m : Mailbox) → Ascend (map id_of ms) → mailbox_at id (filter q ms) ≡ Some m → mailbox_at id ms ≡ Some m
found_in_all q id [] m ascend found = found
found_in_all q id (x ∷ ms) m ascend found =
    kept_one id x m (filter q ms) ms (has_id id x) (q x) refl (above x.head.id id ms m ascend.0) (found_in_all q id ms m ascend.1) found

abbrev AreFollowed : Change → World → World → Type 0
AreFollowed change world later = (id : ℕ) (before after : Mailbox) → IsLegal world → mailbox_at id world.mailboxes ≡ Some before → mailbox_at id later.mailboxes ≡ Some after → Follows change before after

-- Renaming.

inbox-follows : (change : Change) (m : Mailbox) → tells change m ≡ false → IsLegalMailbox m → Follows change m (without_messages (λ uid. true) m)
inbox-follows change m e legal = record {
  uids = uids_left (λ uid. true) m legal;
  modseqs = modseqs_left (λ uid. true) m;
  recents = subst (λ told. TellsOnce told m (without_messages (λ uid. true) m)) (sym e) (tells_left (λ uid. true) m legal);
  owner = left_owner (λ uid. true) m;
}

moved-follows : (change : Change) (world : World) (owner : ℕ) (to : List ℕ) (source : Option Mailbox) → ((m : Mailbox) → tells change m ≡ false)
    → AreFollowed change world (with_inbox_moved source world owner to)
moved-follows change world owner to None e id before after legal was is = stays-follows change world id before after legal was is
moved-follows change world owner to (Some source) e id before after legal was is =
    changed-follows_new change (is_named owner inbox) (without_messages (λ uid. true)) (left_keeps (λ uid. true)) (λ m ok here. inbox-follows change m (e m) ok)
    (moved_inbox world.next to source ∷ []) world id before after legal was is

renamed-follows : (change : Change) (world : World) (owner : ℕ) (from to : List ℕ) → ((m : Mailbox) → tells change m ≡ false) → AreFollowed change world (renamed world owner from to)
renamed-follows change world owner from to e id before after legal was is =
    changed-follows change (moves owner from) (λ m. with_name (new_name from to m) m) (λ m. refl)
    (λ m ok here. record { uids = record { rises = omega arith; same = (uids_same m).same; gone = (uids_same m).gone; kept = (uids_same m).kept }; modseqs = record { rises = omega arith; entries = (modseqs_same m).entries; gone = (modseqs_same m).gone }; recents = tells_none (tells change m) m _ ok (omega arith) (entry_given m ok); owner = refl }) world id before after legal was is

subscribed-follows : (change : Change) (world : World) (owner : ℕ) (name : List ℕ) → AreFollowed change world (subscribed world owner name)
subscribed-follows change world owner name =
    cond_both (is_subscribed owner name world) world _ (AreFollowed change world) (λ e. stays-follows change world) (λ e. stays-follows change world)

pub all-follow : (world : World) (change : Change) → AreFollowed change world (apply world change)
unfolding apply
all-follow world (AddUser name verifier) id before after legal was is = made-follows (AddUser name verifier) _ world id before after legal was is
all-follow world (Create owner name) id before after legal was is = made-follows (Create owner name) _ world id before after legal was is
all-follow world (Delete owner name held) id before after legal was is =
    stays-follows (Delete owner name held) world id before after legal was (found_in_all (λ m. not (is_named owner (mailbox_name name) m)) id world.mailboxes after legal.mailbox_ids is)
all-follow world (Rename owner from to) id before after legal was is =
    cond_both (is_inbox from) (inbox_renamed world owner (mailbox_name to)) (renamed world owner from (mailbox_name to)) (AreFollowed (Rename owner from to) world)
    (λ e. moved-follows (Rename owner from to) world owner (mailbox_name to) (mailbox_named owner inbox world.mailboxes) (λ m. refl))
    (λ e. renamed-follows (Rename owner from to) world owner from (mailbox_name to) (λ m. refl))
    id before after legal was is
all-follow world (Subscribe owner name) id before after legal was is = subscribed-follows (Subscribe owner name) world owner (mailbox_name name) id before after legal was is
all-follow world (Unsubscribe owner name) id before after legal was is = stays-follows (Unsubscribe owner name) world id before after legal was is
all-follow world (Append mailbox flags date mail taken) id before after legal was is =
    changed-follows (Append mailbox flags date mail taken) (has_id mailbox) (with_messages taken (record { flags = distinct flags; date = date; mail = mail } ∷ []))
    (more_keeps taken (record { flags = distinct flags; date = date; mail = mail } ∷ []))
    (λ m ok here. more-follows (Append mailbox flags date mail taken) taken (record { flags = distinct flags; date = date; mail = mail } ∷ []) m ok (ap (λ b. b && taken) (sym here)))
    world id before after legal was is
all-follow world (Deliver users mail date taken) id before after legal was is =
    changed-follows (Deliver users mail date taken) (takes_mail users) (λ m. with_messages (is_among m.head.id taken) (record { flags = []; date = date; mail = mail } ∷ []) m)
    (λ m. more_keeps (is_among m.head.id taken) (record { flags = []; date = date; mail = mail } ∷ []) m)
    (λ m ok here. more-follows (Deliver users mail date taken) (is_among m.head.id taken) (record { flags = []; date = date; mail = mail } ∷ []) m ok refl)
    world id before after legal was is
all-follow world (Copy mailbox uids target taken) id before after legal was is =
    changed-follows (Copy mailbox uids target taken) (has_id target) (with_messages taken (copied world mailbox uids)) (more_keeps taken (copied world mailbox uids))
    (λ m ok here. more-follows (Copy mailbox uids target taken) taken (copied world mailbox uids) m ok (ap (λ b. b && taken) (sym here)))
    world id before after legal was is
all-follow world (StoreFlags mailbox uids how flags) id before after legal was is =
    changed-follows (StoreFlags mailbox uids how flags) (has_id mailbox) (with_stored uids how flags) (stored_keeps uids how flags)
    (λ m ok here. record { uids = uids_stored uids how flags m; modseqs = modseqs_stored uids how flags m; recents = tells_stored uids how flags m ok; owner = stored_owner uids how flags m })
    world id before after legal was is
all-follow world (Expunge mailbox uids) id before after legal was is =
    changed-follows (Expunge mailbox uids) (has_id mailbox) (without_messages (λ uid. is_among uid uids)) (left_keeps (λ uid. is_among uid uids))
    (λ m ok here. record { uids = uids_left (λ uid. is_among uid uids) m ok; modseqs = modseqs_left (λ uid. is_among uid uids) m; recents = tells_left (λ uid. is_among uid uids) m ok; owner = left_owner (λ uid. is_among uid uids) m })
    world id before after legal was is
all-follow world (TakeRecents mailbox) id before after legal was is =
    changed-follows (TakeRecents mailbox) (has_id mailbox) without_recents (λ m. refl)
    (λ m ok here. record { uids = record { rises = omega arith; same = (uids_same m).same; gone = (uids_same m).gone; kept = (uids_same m).kept }; modseqs = record { rises = omega arith; entries = (modseqs_same m).entries; gone = (modseqs_same m).gone }; recents = tells_no_recents m ok; owner = refl })
    world id before after legal was is
