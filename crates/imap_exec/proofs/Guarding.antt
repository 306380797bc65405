-- Commands by the state of their session.
use Rattle.std.proofs.Common.{◌≡◌, ℕ, true, false, List, Some, None, Result, Ok, Err, codes, refl, sym, ap, subst}
use Rattle.std.specs.Str.{str_eq_ignore_ascii_case}
use Rattle.disk_model.specs.Told.{Told}
use Rattle.row_store.specs.Kept.{Store}
use Rattle.row_store.specs.declared.faults.StoreFault.{StoreFault}
use Rattle.imap_grammar.specs.declared.commands.Command.{Command}
use Rattle.imap_grammar.specs.declared.commands.Tagged.{Tagged}
use Rattle.imap_grammar.specs.declared.commands.ParseFault.{ParseFault}
use Rattle.imap_grammar.specs.declared.commands.ParseFault.TheVariants as faults
use Rattle.imap_grammar.specs.declared.commands.Bad.{Bad}
use Rattle.imap_grammar.specs.declared.commands.Bad.TheVariants.{WithTag, NoTag}
use Rattle.imap_grammar.specs.Commands.{Tells, meaning}
use Rattle.session_units.specs.declared.forms.Awaits.{Awaits}
use Rattle.session_units.specs.declared.forms.Shown.{Shown}
use Rattle.session_units.specs.declared.forms.Shown.TheVariants as shown
use Rattle.imap_writer.specs.declared.refusals.Refusal.TheVariants.{LiteralTooLong, Mechanism, Syntax, State as WrongState}
use Rattle.session_view.specs.declared.sessions.SessionPart.{SessionPart}
use Rattle.session_view.specs.declared.sessions.Selection.{Selection}
use Rattle.session_view.specs.Parts.{state_of}
use Rattle.session_view.specs.declared.sessions.State.{State}
use Rattle.session_view.specs.declared.sessions.State.TheVariants.{Fresh, Asked, Known, Selected}
use Rattle.imap_steps.specs.declared.outcome.Outcome.{Outcome}
use Rattle.imap_steps.specs.Stepping.{Shared, Stepped, answered_last, bye, refused_with, refused_untagged}
use Rattle.imap_steps.specs.Executing.{before_login, commanded, executed, literal_refused, of_selection, of_user, while_selected}
use Rattle.imap_steps.specs.LoggingIn.{asked, authenticate, plain_line}
use Rattle.imap_steps.specs.Step.{plain_by_state, shown_step, step, whole_step}
use Rattle.imap_exec.specs.Does.{Executes}
use Rattle.imap_exec.specs.Answers.{refused_bad}
use Rattle.imap_exec.specs.Users.{is_fresh, is_selected, selection_in, tag_asked, user_in}

module _ (shared : Shared) (tag : List ℕ) where
  pub when_fresh : (state : State) (done : Stepped) → is_fresh state ≡ true → before_login shared tag state done ≡ done
  when_fresh Fresh done e = refl
  when_fresh (Asked asked) done e = cc
  when_fresh (Known user) done e = cc
  when_fresh (Selected user selection) done e = cc

  pub unless_fresh : (state : State) (done : Stepped) → is_fresh state ≡ false → before_login shared tag state done ≡ refused_with shared tag WrongState
  unless_fresh Fresh done e = cc
  unless_fresh (Asked asked) done e = refl
  unless_fresh (Known user) done e = refl
  unless_fresh (Selected user selection) done e = refl

  pub when_selected : (state : State) (done : Stepped) → is_selected state ≡ true → while_selected shared tag state done ≡ done
  when_selected Fresh done e = cc
  when_selected (Asked asked) done e = cc
  when_selected (Known user) done e = cc
  when_selected (Selected user selection) done e = refl

  pub unless_selected : (state : State) (done : Stepped) → is_selected state ≡ false → while_selected shared tag state done ≡ refused_with shared tag WrongState
  unless_selected Fresh done e = refl
  unless_selected (Asked asked) done e = refl
  unless_selected (Known user) done e = refl
  unless_selected (Selected user selection) done e = cc

  some_is : (a b : ℕ) → Some a ≡ Some b → a ≡ b
  some_is a b e = cc

  pub when_user : (state : State) (user : ℕ) (done : ℕ → Stepped) → user_in state ≡ Some user → of_user shared tag state done ≡ done user
  when_user Fresh user done e = cc
  when_user (Asked asked) user done e = cc
  when_user (Known other) user done e = ap done (some_is other user e)
  when_user (Selected other selection) user done e = ap done (some_is other user e)

  pub unless_user : (state : State) (done : ℕ → Stepped) → user_in state ≡ None → of_user shared tag state done ≡ refused_with shared tag WrongState
  unless_user Fresh done e = refl
  unless_user (Asked asked) done e = refl
  unless_user (Known user) done e = cc
  unless_user (Selected user selection) done e = cc

  selection_is : (a b : Selection) → Some a ≡ Some b → a ≡ b
  selection_is a b e = cc

  pub when_selection : (state : State) (selection : Selection) (done : Selection → Stepped) → selection_in state ≡ Some selection → of_selection shared tag state done ≡ done selection
  when_selection Fresh selection done e = cc
  when_selection (Asked asked) selection done e = cc
  when_selection (Known user) selection done e = cc
  when_selection (Selected user other) selection done e = ap done (selection_is other selection e)

  pub unless_selection : (state : State) (done : Selection → Stepped) → selection_in state ≡ None → of_selection shared tag state done ≡ refused_with shared tag WrongState
  unless_selection Fresh done e = refl
  unless_selection (Asked asked) done e = refl
  unless_selection (Known user) done e = refl
  unless_selection (Selected user selection) done e = cc

-- PLAIN, and any other mechanism
module _ (shared : Shared) (number : ℕ) (tag mechanism : List ℕ) where
  pub when_plain : str_eq_ignore_ascii_case mechanism (codes "PLAIN") ≡ true → authenticate shared number tag mechanism ≡ asked shared number tag
  unfolding authenticate
  when_plain e = rw e refl

  pub unless_plain : str_eq_ignore_ascii_case mechanism (codes "PLAIN") ≡ false → authenticate shared number tag mechanism ≡ refused_with shared tag Mechanism
  unfolding authenticate
  unless_plain e = rw e refl

-- the command that is given
pub as_command : {D : Type 0} (told : Told D) (result : Result Outcome StoreFault) (old new : Store D) (parts parts' : List SessionPart) (before after : List ℕ) (number now : ℕ) (tag : List ℕ) (given command : Command) → given ≡ command
    → Executes told result old new parts parts' before after (λ shared. commanded shared number (state_of number shared.parts) tag command now)
    → Executes told result old new parts parts' before after (λ shared. commanded shared number (state_of number shared.parts) tag given now)
as_command told result old new parts parts' before after number now tag given command is done =
    subst (λ (c : Command). Executes told result old new parts parts' before after (λ shared. commanded shared number (state_of number shared.parts) tag c now)) (sym is) done

module _ (shared : Shared) (number : ℕ) (unit : List ℕ) where
  tag_is : (a b : List ℕ) → Some a ≡ Some b → a ≡ b
  tag_is a b e = cc

  pub when_asked : (state : State) (tag : List ℕ) → tag_asked state ≡ Some tag → plain_by_state shared number unit state ≡ plain_line shared number tag unit
  when_asked Fresh tag e = cc
  when_asked (Asked asked) tag e = ap (λ t. plain_line shared number t unit) (tag_is asked tag e)
  when_asked (Known user) tag e = cc
  when_asked (Selected user selection) tag e = cc

  pub unless_asked : (state : State) → tag_asked state ≡ None → plain_by_state shared number unit state ≡ refused_untagged shared
  unless_asked Fresh e = refl
  unless_asked (Asked asked) e = cc
  unless_asked (Known user) e = refl
  unless_asked (Selected user selection) e = refl

-- ---- units

-- a fault that tells that a unit is no command
pub told_bad : (m : Result Tagged Bad) (fault : ParseFault) (bad : Bad) → fault ≡ faults.Bad bad → Tells m (Err fault) → m ≡ Err bad
told_bad m fault bad is tells = subst (λ (f : ParseFault). Tells m (Err f)) is tells

pub long_unchanged : (shared : Shared) (m : Result Tagged Bad) → (literal_refused shared m).change ≡ None
long_unchanged shared (Ok tagged) = refl
long_unchanged shared (Err (WithTag tag)) = refl
long_unchanged shared (Err NoTag) = refl

module _ (shared : Shared) (number now : ℕ) where
  -- what is no command
  pub long_bad : (bad : Bad) → literal_refused shared (Err bad) ≡ refused_bad shared bad LiteralTooLong
  long_bad (WithTag tag) = refl
  long_bad NoTag = refl

  pub short_bad : (bad : Bad) → executed shared number (Err bad) now ≡ refused_bad shared bad Syntax
  short_bad (WithTag tag) = refl
  short_bad NoTag = refl

module _ (shared : Shared) (number moment : ℕ) (unit : List ℕ) (shows : Shown) where
  pub step_long : (awaits : Awaits) → shows ≡ shown.LineTooLong → step shared number awaits shows unit moment ≡ answered_last shared (bye (codes "line too long"))
  unfolding step
  step_long awaits is = ap (λ (s : Shown). shown_step shared number awaits s unit moment) is

  pub step_literal : (awaits : Awaits) → shows ≡ shown.LiteralTooLong → step shared number awaits shows unit moment ≡ literal_refused shared (meaning unit)
  unfolding step
  step_literal awaits is = ap (λ (s : Shown). shown_step shared number awaits s unit moment) is

  pub step_text : (awaits : Awaits) → shows ≡ shown.TextTooLong → step shared number awaits shows unit moment ≡ refused_untagged shared
  unfolding step
  step_text awaits is = ap (λ (s : Shown). shown_step shared number awaits s unit moment) is

  pub step_whole : (awaits : Awaits) → shows ≡ shown.Unit → step shared number awaits shows unit moment ≡ whole_step shared number awaits unit moment
  unfolding step
  step_whole awaits is = ap (λ (s : Shown). shown_step shared number awaits s unit moment) is
