-- How sessions are greeted.
use Rattle.std.proofs.Common.{◌≡◌, ℕ, ◌++◌, Bool, true, false, cond, List, [], ◌∷◌, None, Result, nat_lt, codes, refl, ap, ◌∙◌}
use Rattle.row_store.specs.declared.faults.StoreFault.{StoreFault}
use Rattle.port_model.specs.declared.calls.Kind.{Kind}
use Rattle.port_model.specs.declared.calls.Kind.TheVariants.{Imap, Lmtp}
use Rattle.session_view.specs.declared.sessions.SessionPart.{SessionPart}
use Rattle.session_view.specs.declared.sessions.State.TheVariants.{Fresh}
use Rattle.imap_steps.specs.declared.outcome.Outcome.{Outcome}
use Rattle.imap_steps.specs.Stepping.{Shared, answered, answered_last, bye, crlf}
use Rattle.imap_steps.specs.Step.{greeted, greeting, session_limit}
use Rattle.imap_exec.specs.Answers.{Says}

module _ (shared : Shared) (number others : ℕ) where
  pub served : (kind : Kind) → kind ≡ Imap → nat_lt others session_limit ≡ true → greeting shared number kind others ≡ greeted shared number (codes "* OK IMAP4rev1 ready" ++ crlf) false
  unfolding greeting
  served kind is room = ap (λ (k : Kind). greeting shared number k others) is ∙ rw room refl

  pub turned_away : (kind : Kind) → kind ≡ Imap → nat_lt others session_limit ≡ false → greeting shared number kind others ≡ greeted shared number (bye (codes "too many sessions")) true
  unfolding greeting
  turned_away kind is room = ap (λ (k : Kind). greeting shared number k others) is ∙ rw room refl

  pub unserved_kind : (kind : Kind) → kind ≡ Lmtp → greeting shared number kind others ≡ greeted shared number (codes "421 4.3.2 LMTP is not served" ++ crlf) true
  unfolding greeting
  unserved_kind kind is = ap (λ (k : Kind). greeting shared number k others) is

  pub unchanged : (kind : Kind) → (greeting shared number kind others).change ≡ None
  unfolding greeting
  unchanged Imap = by (nat_lt others session_limit)
    where
      by : (b : Bool) → (cond b (greeted shared number (codes "* OK IMAP4rev1 ready" ++ crlf) false) (greeted shared number (bye (codes "too many sessions")) true)).change ≡ None
      by true = refl
      by false = refl
  unchanged Lmtp = refl

  module _ (result : Result Outcome StoreFault) (before after text : List ℕ) where
    abbrev with_new : List SessionPart
    with_new = shared.parts ++ record { number = number; state = Fresh } ∷ []

    pub goes_on : Says result shared.parts before after (answered shared text) → Says result with_new before after (greeted shared number text false)
    goes_on says = record { unchanged = refl; parts_are = λ ok. refl; tells = record { answer = says.tells.answer; outcome = says.tells.outcome }; memory = says.memory }

    pub ends : Says result shared.parts before after (answered_last shared text) → Says result with_new before after (greeted shared number text true)
    ends says = record { unchanged = refl; parts_are = λ ok. refl; tells = record { answer = says.tells.answer; outcome = says.tells.outcome }; memory = says.memory }
