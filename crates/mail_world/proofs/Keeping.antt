-- A store stays legal where some mailboxes change and keep their ids, owners and names.
use Rattle.std.proofs.Common.{ℕ, ◌≡◌, ◌==◌, Bool, true, false, cond, List, [], ◌∷◌, map, length, Option, Some, None, refl, sym, ap, subst, ◌∙◌, arith}
use Rattle.std.specs.Prelude.{IsSome, count_by}
use Rattle.std.specs.List.{find, filter}
use Rattle.std.specs.Option.{option_map, is_some}
use Rattle.std.proofs.lemmas.Bool.{cond_both}
use Rattle.std.proofs.lemmas.Option.{none-some, same_Some}
use Rattle.std.proofs.lemmas.List.Sums.{length-filter}
use Rattle.mail_world.specs.Names.{inbox}
use Rattle.mail_world.specs.Worlds.{World, Mailbox, mailbox_at, mailbox_named, is_named, is_owned_by}
use Rattle.mail_world.specs.Arrivals.{with_changed}
use Rattle.mail_world.specs.Legal.{IsLegal, IsLegalIn, IsLegalMailbox, Ascend}
use Rattle.mail_world.proofs.Finding.{find-map}
use Rattle.mail_world.proofs.Following.{step, step-at}

pub record KeepsTitle (f : Mailbox → Mailbox) : Type 0 where
  pub id : (m : Mailbox) → (f m).head.id ≡ m.head.id
  pub owner : (m : Mailbox) → (f m).head.owner ≡ m.head.owner
  pub name : (m : Mailbox) → (f m).head.name ≡ m.head.name

pub step_keeps : (which : Mailbox → Bool) (f : Mailbox → Mailbox) → KeepsTitle f → KeepsTitle (step which f)
step_keeps which f keeps = record {
  id = λ m. cond_both (which m) (f m) m (λ n. n.head.id ≡ m.head.id) (λ e. keeps.id m) (λ e. refl);
  owner = λ m. cond_both (which m) (f m) m (λ n. n.head.owner ≡ m.head.owner) (λ e. keeps.owner m) (λ e. refl);
  name = λ m. cond_both (which m) (f m) m (λ n. n.head.name ≡ m.head.name) (λ e. keeps.name m) (λ e. refl);
}

pub map_same : {X Y : Type 0} (g : Y → X) (f : Y → Y) → ((m : Y) → g (f m) ≡ g m) → (ms : List Y) → map g (map f ms) ≡ map g ms
map_same g f keeps [] = refl
map_same g f keeps (m ∷ ms) = rw (keeps m) (ap (λ rest. g m ∷ rest) (map_same g f keeps ms))

filter_both : (p : Mailbox → Bool) (f : Mailbox → Mailbox) (m : Mailbox) (xs ys : List Mailbox) (b : Bool) → length (filter p xs) ≡ length (filter p ys)
    → length (cond b (f m ∷ filter p xs) (filter p xs)) ≡ length (cond b (m ∷ filter p ys) (filter p ys))
filter_both p f m xs ys true e = omega (arith, e)
filter_both p f m xs ys false e = e

filter_length : (p : Mailbox → Bool) (f : Mailbox → Mailbox) → ((m : Mailbox) → p (f m) ≡ p m) → (ms : List Mailbox) → length (filter p (map f ms)) ≡ length (filter p ms)
filter_length p f keeps [] = refl
filter_length p f keeps (m ∷ ms) = rw (keeps m) (filter_both p f m (map f ms) ms (p m) (filter_length p f keeps ms))

pub count_same : (p : Mailbox → Bool) (f : Mailbox → Mailbox) → ((m : Mailbox) → p (f m) ≡ p m) → (ms : List Mailbox) → count_by p (map f ms) ≡ count_by p ms
count_same p f keeps ms = sym (length-filter p (map f ms)) ∙ filter_length p f keeps ms ∙ length-filter p ms

still_some : (f : Mailbox → Mailbox) (o : Option Mailbox) → IsSome o → IsSome (option_map f o)
still_some f None some = some
still_some f (Some m) some = refl

pub mapped : {P : Type 0} (f : Mailbox → Mailbox) (o : Option Mailbox) (m : Mailbox) → option_map f o ≡ Some m → ((old : Mailbox) → o ≡ Some old → m ≡ f old → P) → P
mapped f None m found use_it = absurd (none-some m found)
mapped f (Some old) m found use_it = use_it old refl (sym (same_Some (f old) m found))

-- the mailbox of a name, where some are changed
pub named_step : (which : Mailbox → Bool) (f : Mailbox → Mailbox) → KeepsTitle f → (owner : ℕ) (name : List ℕ) (ms : List Mailbox)
    → mailbox_named owner name (map (step which f) ms) ≡ option_map (step which f) (mailbox_named owner name ms)
named_step which f keeps owner name ms = find-map (is_named owner name) (step which f) same_test ms
  where
    same_test : (m : Mailbox) → is_named owner name (step which f m) ≡ is_named owner name m
    same_test m =
        ap (λ n. is_named owner name (record m { head = record m.head { name = n; owner = (step which f m).head.owner } })) ((step_keeps which f keeps).name m)
        ∙ ap (λ n. is_named owner name (record m { head = record m.head { owner = n } })) ((step_keeps which f keeps).owner m)

legal_step : (world : World) (which : Mailbox → Bool) (f : Mailbox → Mailbox) → KeepsTitle f → (old : Mailbox) → IsLegalIn world old
    → (which old ≡ true → IsLegalMailbox (f old)) → IsLegalIn (with_changed which f world) (step which f old)
legal_step world which f keeps old legal changed = record {
  from_one = omega (arith, title.id old, legal.from_one);
  below_next = λ more. omega (arith, title.id old, legal.below_next more);
  owner = ap (λ n. is_some (find (λ u. u.id == n) world.users)) (title.owner old) ∙ legal.owner;
  named =
      ap (λ n. mailbox_named n (step which f old).head.name (map (step which f) world.mailboxes)) (title.owner old)
      ∙ ap (λ n. mailbox_named old.head.owner n (map (step which f) world.mailboxes)) (title.name old)
      ∙ named_step which f keeps old.head.owner old.head.name world.mailboxes
      ∙ ap (option_map (step which f)) legal.named;
  itself = cond_both (which old) (f old) old IsLegalMailbox changed (λ e. legal.itself);
}
  where
    title : KeepsTitle (step which f)
    title = step_keeps which f keeps

pub changed-legal : (world : World) (which : Mailbox → Bool) (f : Mailbox → Mailbox) → IsLegal world → KeepsTitle f
    → ((id : ℕ) (m : Mailbox) → mailbox_at id world.mailboxes ≡ Some m → which m ≡ true → IsLegalMailbox (f m)) → IsLegal (with_changed which f world)
changed-legal world which f legal keeps changed = record {
  user_ids = legal.user_ids;
  user_names = legal.user_names;
  few_users = legal.few_users;
  mailbox_ids = subst Ascend (sym (map_same (λ m. m.head.id) (step which f) title.id world.mailboxes)) legal.mailbox_ids;
  mailboxes = λ id m found.
      mapped (step which f) (mailbox_at id world.mailboxes) m (sym (step-at which f keeps.id id world.mailboxes) ∙ found)
      (λ old was is. subst (IsLegalIn (with_changed which f world)) (sym is) (legal_step world which f keeps old (legal.mailboxes id old was) (changed id old was)));
  inboxes = λ user there. ap is_some (named_step which f keeps user inbox world.mailboxes) ∙ still_some (step which f) (mailbox_named user inbox world.mailboxes) (legal.inboxes user there);
  few_mailboxes = λ user. omega (arith, count_same (is_owned_by user) (step which f) (λ m. ap (λ n. n == user) (title.owner m)) world.mailboxes, legal.few_mailboxes user);
  subscriptions = legal.subscriptions;
  subscribers = legal.subscribers;
  few_subscriptions = legal.few_subscriptions;
  next = legal.next;
}
  where
    title : KeepsTitle (step which f)
    title = step_keeps which f keeps
