-- Mailboxes that are to be selected.
use Rattle.std.proofs.Common.{◌≡◌, ℕ, Bool, true, false, not, List, Option, Some, None, refl}
use Rattle.std.specs.List.{list_all, list_any}
use Rattle.std.specs.Option.{option_map}
use Rattle.imap_grammar.specs.declared.flags.Flag.{Flag}
use Rattle.imap_grammar.specs.declared.flags.FlagChange.{FlagChange}
use Rattle.imap_grammar.specs.declared.items.FetchItem.{FetchItem}
use Rattle.imap_grammar.specs.declared.items.StatusItem.{StatusItem}
use Rattle.imap_grammar.specs.declared.selecting.Resync.{Resync}
use Rattle.imap_writer.specs.declared.refusals.Refusal.TheVariants.{ReadOnly, Syntax}
use Rattle.session_view.specs.declared.sessions.Selection.{Selection}
use Rattle.session_view.specs.declared.sessions.State.{State}
use Rattle.session_view.specs.Resolving.{resolved}
use Rattle.imap_steps.specs.Stepping.{Shared, refused_with}
use Rattle.imap_steps.specs.Appending.{is_fit_flag}
use Rattle.imap_steps.specs.Storing.{store, stored}
use Rattle.imap_steps.specs.Fetching.{fetch}
use Rattle.imap_steps.specs.Selecting.{select}
use Rattle.imap_steps.specs.Status.{is_highest, status}
use Rattle.imap_steps.specs.Executing.{fetch_plainly, is_plain_fetch, of_selection, of_user, select_plainly, status_plainly, unserved}
use Rattle.imap_exec.specs.Users.{is_plain}

module _ (shared : Shared) (number : ℕ) (tag : List ℕ) (state : State) (name : List ℕ) (examine : Bool) where
  pub plainly : (condstore : Bool) (resync : Option Resync) → is_plain condstore resync ≡ true
      → select_plainly shared number tag state name examine condstore resync ≡ of_user shared tag state (λ user. select shared number user tag name (not examine))
  plainly false None e = refl
  plainly false (Some resync) e = cc
  plainly true resync e = cc

  pub not_plainly : (condstore : Bool) (resync : Option Resync) → is_plain condstore resync ≡ false → select_plainly shared number tag state name examine condstore resync ≡ unserved shared tag
  not_plainly false None e = cc
  not_plainly false (Some resync) e = refl
  not_plainly true resync e = refl

-- STATUS of items that are served
module _ (shared : Shared) (tag : List ℕ) (state : State) (name : List ℕ) (items : List StatusItem) where
  pub status_served : list_any is_highest items ≡ false → status_plainly shared tag state name items ≡ of_user shared tag state (λ user. status shared user tag name items)
  status_served e = rw e refl

  pub status_unserved : list_any is_highest items ≡ true → status_plainly shared tag state name items ≡ unserved shared tag
  status_unserved e = rw e refl

pub none_so : {A B : Type 0} (f : A → B) (o : Option A) → None ≡ option_map f o → o ≡ None
none_so f None e = refl
none_so f (Some a) e = cc

-- ---- STORE

module _ (shared : Shared) (tag : List ℕ) (selection : Selection) (by_uid : Bool) (ranges : List (Option ℕ × Option ℕ)) (how : FlagChange) (silent : Bool) (flags : List Flag) where
  pub store_unfit : list_all is_fit_flag flags ≡ false → store shared tag selection by_uid ranges how silent flags ≡ refused_with shared tag Syntax
  unfolding store
  store_unfit e = rw e refl

  pub store_examined : list_all is_fit_flag flags ≡ true → selection.read_write ≡ false → store shared tag selection by_uid ranges how silent flags ≡ refused_with shared tag ReadOnly
  unfolding store
  store_examined e f = rw (e, f) refl

  pub store_selected : list_all is_fit_flag flags ≡ true → selection.read_write ≡ true
      → store shared tag selection by_uid ranges how silent flags ≡ stored shared tag selection by_uid (resolved selection.view.uids ranges by_uid) how silent flags
  unfolding store
  store_selected e f = rw (e, f) refl

-- ---- FETCH

module _ (shared : Shared) (tag : List ℕ) (state : State) (by_uid : Bool) (ranges : List (Option ℕ × Option ℕ)) (items : List FetchItem) (since : Option ℕ) (vanished : Bool) where
  pub fetch_served : is_plain_fetch items since vanished ≡ true
      → fetch_plainly shared tag state by_uid ranges items since vanished ≡ of_selection shared tag state (λ selection. fetch shared tag selection by_uid ranges items)
  fetch_served e = rw e refl

  pub fetch_unserved : is_plain_fetch items since vanished ≡ false → fetch_plainly shared tag state by_uid ranges items since vanished ≡ unserved shared tag
  fetch_unserved e = rw e refl
