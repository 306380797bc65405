-- How long names are.
use Rattle.std.proofs.Common.{◌≡◌, ◌==◌, ◌||◌, ℕ, Bool, true, false, not, nat_le, List, [], ◌∷◌, length, None, is_some, refl, arith}
use Rattle.std.proofs.lemmas.Grind.{common_steps}
use Rattle.row_tables.specs.TableRows.{TableRows}
use Rattle.row_tables.specs.Fits.{IsText}
use Rattle.mail_world.specs.Names.{is_mailbox_name, is_user_name}
use Rattle.mail_world.specs.Changes.{Refusal, BadName, Exists, Full, first_refusal}
use Rattle.mail_world.specs.Limits.{most_mailboxes}
use Rattle.row_tables.specs.Names.{mailbox_named}
use Rattle.mail_stands.specs.Refusals.{create_refused, mailboxes_of}

-- a user's name is short
pub name_is_text : (name : List ℕ) → is_user_name name ≡ true → IsText name
unfolding is_user_name
name_is_text name named = grind (arith, common_steps)

pub mailbox_is_text : (name : List ℕ) → is_mailbox_name name ≡ true → IsText name
unfolding is_mailbox_name
mailbox_is_text name named = grind (arith, common_steps)

pub passes_first : (test : Bool) (reasons : List (Bool × Refusal)) → first_refusal ((not test, BadName) ∷ reasons) ≡ None → test ≡ true
passes_first true reasons e = refl
passes_first false reasons e = cc

-- and so is that of a mailbox that can be made
pub created_is_text : (t : TableRows) (owner : ℕ) (name : List ℕ) → create_refused t owner name ≡ None → IsText name
created_is_text t owner name asked =
    mailbox_is_text name (passes_first (is_mailbox_name name)
    ((is_some (mailbox_named owner name t.heads.mailboxes), Exists)
    ∷ (nat_le most_mailboxes (length (mailboxes_of owner t.heads.mailboxes)) || t.heads.counters.next == 0, Full) ∷ []) asked)
