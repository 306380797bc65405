-- What is known where a change isn't refused.
use Rattle.std.proofs.Common.{ℕ, ◌≡◌, Bool, true, false, List, ◌∷◌, Option, Some, None, refl, sym, ap, subst, ◌∙◌}
use Rattle.std.proofs.lemmas.Bool.{eqb-true}
use Rattle.std.proofs.lemmas.Option.{none-some}
use Rattle.mail_world.specs.Worlds.{World, Mailbox, mailbox_at, has_id}
use Rattle.mail_world.specs.Changes.{Refusal, first_refusal}
use Rattle.mail_world.specs.Arrivals.{unless_absent, refused_by}
use Rattle.mail_world.proofs.Ascending.{number_is}

-- each reason fails
pub not_refused : (b : Bool) (reason : Refusal) (reasons : List (Bool × Refusal)) → first_refusal ((b, reason) ∷ reasons) ≡ None → (b ≡ false) × (first_refusal reasons ≡ None)
not_refused true reason reasons none = absurd (none-some reason (sym none))
not_refused false reason reasons none = (refl, none)

pub accepts : (world : World) (id : ℕ) (reason : Mailbox → Option Refusal) (m : Mailbox) → refused_by world id reason ≡ None → mailbox_at id world.mailboxes ≡ Some m → reason m ≡ None
accepts world id reason m none found = sym (ap (λ o. unless_absent o reason) found) ∙ none

-- the mailbox of an id, however it was found
pub located : (world : World) (id other : ℕ) (m : Mailbox) → mailbox_at other world.mailboxes ≡ Some m → has_id id m ≡ true → mailbox_at id world.mailboxes ≡ Some m
located world id other m found here =
    subst (λ n. mailbox_at n world.mailboxes ≡ Some m) (sym (number_is (λ x. x.head.id) other world.mailboxes m found) ∙ eqb-true m.head.id id here) found
