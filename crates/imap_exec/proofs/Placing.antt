-- APPEND by what is found in the world that a store's tables stand for.
use Rattle.std.proofs.Common.{◌≡◌, ℕ, false, List, Option, Some, None, Result, codes, sym, ap, subst, ◌∙◌}
use Rattle.disk_model.specs.Told.{Told}
use Rattle.row_store.specs.Holding.{in_row}
use Rattle.row_store.specs.Kept.{Store}
use Rattle.row_store.specs.declared.faults.StoreFault.{StoreFault}
use Rattle.date_grammar.specs.declared.parts.Stamp.{Stamp}
use Rattle.imap_grammar.specs.declared.flags.Flag.{Flag}
use Rattle.imap_writer.specs.declared.refusals.Refusal.{Refusal}
use Rattle.imap_writer.specs.declared.refusals.Refusal.TheVariants.{TryCreate}
use Rattle.mime_reader.specs.Wrapping.{mail}
use Rattle.session_view.specs.declared.sessions.SessionPart.{SessionPart}
use Rattle.mail_world.specs.Worlds.{World}
use Rattle.mail_world.specs.Changes.{Append}
use Rattle.mail_world.specs.Looking.{mailbox_id}
use Rattle.mail_stands.specs.Stands.{Stands}
use Rattle.imap_steps.specs.declared.outcome.Outcome.{Outcome}
use Rattle.imap_steps.specs.Stepping.{Shared, Stepped, made, refused_with}
use Rattle.imap_steps.specs.Appending.{append, appended_if, date_or, unfit, unless_unfit}
use Rattle.imap_exec.specs.Does.{Does, Executes}

-- a step that is told otherwise in the worlds that the tables stand for
pub executed_where : {D : Type 0} (told : Told D) (result : Result Outcome StoreFault) (old new : Store D) (parts parts' : List SessionPart) (before after : List ℕ) (steps others : Shared → Stepped)
    → ((world : World) → Stands in_row old.tables world → others (record { world = world; parts = parts }) ≡ steps (record { world = world; parts = parts }))
    → Executes told result old new parts parts' before after steps → Executes told result old new parts parts' before after others
executed_where told result old new parts parts' before after steps others same done = record {
  carries = λ world stands. subst (λ (s : Stepped). Does told result old new parts' before after (record { world = world; parts = parts }) s) (sym (same world stands)) (done.carries world stands);
  ready = done.ready;
  faults = done.faults;
}

module _ (shared : Shared) (tag : List ℕ) (flags : List Flag) (date : Option Stamp) (text : List ℕ) (now : ℕ) (found : Option ℕ) where
  pub when_found : (mailbox : ℕ) (stamp : Stamp) → Some mailbox ≡ found → stamp ≡ date_or date now
      → appended_if shared tag flags date text now found ≡ made shared (Append mailbox flags stamp (mail text now) false) tag (codes "APPEND")
  when_found mailbox stamp e f =
      sym (ap (λ (o : Option ℕ). appended_if shared tag flags date text now o) e) ∙ sym (ap (λ (s : Stamp). made shared (Append mailbox flags s (mail text now) false) tag (codes "APPEND")) f)

  pub unless_found : None ≡ found → appended_if shared tag flags date text now found ≡ refused_with shared tag TryCreate
  unless_found e = sym (ap (λ (o : Option ℕ). appended_if shared tag flags date text now o) e)

module _ (shared : Shared) (user : ℕ) (tag name : List ℕ) (flags : List Flag) (date : Option Stamp) (text : List ℕ) (now : ℕ) where
  abbrev done_unless : Option Refusal → Stepped
  done_unless refusal = unless_unfit shared tag refusal (appended_if shared tag flags date text now (mailbox_id user name shared.world.mailboxes))

  pub when_unfit : (refusal : Refusal) → Some refusal ≡ unfit flags date text → append shared user tag name flags date text now ≡ refused_with shared tag refusal
  unfolding append
  when_unfit refusal e = ap done_unless (sym e)

  pub when_fit : None ≡ unfit flags date text → append shared user tag name flags date text now ≡ appended_if shared tag flags date text now (mailbox_id user name shared.world.mailboxes)
  unfolding append
  when_fit e = ap done_unless (sym e)

-- the same command by equal parts
pub same_append : (shared : Shared) (user : ℕ) (tag name name' : List ℕ) (flags flags' : List Flag) (date : Option Stamp) (text text' : List ℕ) (now : ℕ) → name' ≡ name → flags' ≡ flags → text' ≡ text
    → append shared user tag name flags date text now ≡ append shared user tag name' flags' date text' now
same_append shared user tag name name' flags flags' date text text' now e f g = cc
