-- One history at most is that of rounds on a script's ports.
use Rattle.std.proofs.Common.{ℕ, zero, suc, ◌+◌, ◌-◌, ◌^◌, ◌<◌, ◌≢◌, nat_eq, Bool, true, false, List, [], ◌∷◌, length, take, ◌≡◌, refl, ap, sym, ◌∙◌, subst, inl, inr, arith}
use Rattle.std.proofs.lemmas.Bool.Decides.{eqb_tells, leb_tells}
use Rattle.std.specs.Prelude.{Option, Result}
use Rattle.port_model.specs.declared.calls.Kind.{Kind}
use Rattle.port_model.specs.declared.calls.ListenFault.{ListenFault}
use Rattle.port_model.specs.declared.calls.PortSend.{PortSend}
use Rattle.port_model.specs.declared.calls.PortCall.{PortCall}
use Rattle.port_model.specs.declared.calls.PortCall.TheVariants.{Accept, Read, Now, Send}
use Rattle.port_model.specs.declared.calls.ReadAnswer.{ReadAnswer}
use Rattle.port_model.specs.declared.calls.ReadAnswer.TheVariants.{Gave, Quiet, Ended as HasEnded, Lost as WasLost}
use Rattle.port_model.specs.declared.events.Event.{Event}
use Rattle.port_model.specs.Chain.{Chain}
use Rattle.port_model.specs.Playing.{playing, answer_to_read}
use Rattle.mail_model.specs.declared.standing.Standing.{Standing}
use Rattle.mail_model.specs.declared.standing.Standing.TheVariants.{Open, Closing}
use Rattle.imap_steps.specs.Stepping.{World}
use Rattle.mail_model.specs.Machine.{after}
use Rattle.mail_rounds.specs.Calls.{Due, Offers, OffersBytes, Closes, ClosesEmpty, Asks, AsksIdle, ReadsOnce, AcceptsBelow, Flushes, Takes, clocked, dues, read_room}
use Rattle.mail_server.specs.Rounds.{plan_of, left_in, PlaysRounds, PlaysBy}
use Rattle.mail_server.proofs.Told.{Plays, GoesBack, chain_back, offers_back, closes_back, asks_back}
use Rattle.mail_server.proofs.Progress.{flush_back, take_back}

-- Two steps that begin equal and have the script's answers end equal.
abbrev IsAlone : (Due → List PortCall → List PortCall → Type 0) → List Event → Type 0
IsAlone Step script = (due : Due) (before later later' : List PortCall) → Plays script later → Plays script later' → Step due before later → Step due before later' → later ≡ later'

offers-bytes-alone : (script : List Event) (number : ℕ) (bytes : List ℕ) (before later later' : List PortCall) → Plays script later → Plays script later'
    → OffersBytes number bytes before later → OffersBytes number bytes before later' → later ≡ later'
offers-bytes-alone script number [] before later later' p p' h h' = h ∙ sym h'
offers-bytes-alone script number (byte ∷ bytes) before later later' p p' h h' =
    let played : Plays script (Send number (byte ∷ bytes) h.0 ∷ before) = subst (Plays script) h.1 p in
    let played' : Plays script (Send number (byte ∷ bytes) h'.0 ∷ before) = subst (Plays script) h'.1 p' in
    h.1 ∙ ap (λ (a : PortSend). Send number (byte ∷ bytes) a ∷ before) (played.0 ∙ sym played'.0) ∙ sym h'.1

offers_alone : (script : List Event) → IsAlone Offers script
offers_alone script due before later later' p p' h h' = offers-bytes-alone script due.number due.unsent before later later' p p' h h'

closes-empty-alone : (standing : Standing) (number : ℕ) (bytes : List ℕ) (before later later' : List PortCall) → ClosesEmpty standing number bytes before later → ClosesEmpty standing number bytes before later' → later ≡ later'
closes-empty-alone Open number bytes before later later' h h' = h ∙ sym h'
closes-empty-alone Closing number [] before later later' h h' = h ∙ sym h'
closes-empty-alone Closing number (byte ∷ bytes) before later later' h h' = h ∙ sym h'

closes_alone : (script : List Event) → IsAlone Closes script
closes_alone script due before later later' p p' h h' = closes-empty-alone due.standing due.number due.unsent before later later' h h'

clocked-is : (script : List Event) (number : ℕ) (answer : ReadAnswer) (reading : ℕ) (before : List PortCall)
    → Plays script (clocked answer reading (Read number read_room answer ∷ before))
    → (clocked answer reading (Read number read_room answer ∷ before) ≡ clocked answer (playing (plan_of script) (Read number read_room answer ∷ before)).moment (Read number read_room answer ∷ before))
    × (answer ≡ answer_to_read (left_in script before) number read_room)
clocked-is script number (Gave bytes) reading before p = (ap (λ (r : ℕ). Now r ∷ Read number read_room (Gave bytes) ∷ before) p.0, p.1.0)
clocked-is script number Quiet reading before p = (refl, p.0)
clocked-is script number HasEnded reading before p = (refl, p.0)
clocked-is script number WasLost reading before p = (refl, p.0)

read-is : (script : List Event) (number : ℕ) (before later : List PortCall) → Plays script later → ReadsOnce number before later
    → (let answer = answer_to_read (left_in script before) number read_room in
    later ≡ clocked answer (playing (plan_of script) (Read number read_room answer ∷ before)).moment (Read number read_room answer ∷ before))
read-is script number before later p h =
    let read = clocked-is script number h.0 h.1 before (subst (Plays script) h.2 p) in
    h.2 ∙ read.0 ∙ ap (λ (a : ReadAnswer). clocked a (playing (plan_of script) (Read number read_room a ∷ before)).moment (Read number read_room a ∷ before)) read.1

asks-idle-alone : (script : List Event) (standing : Standing) (number : ℕ) (bytes : List ℕ) (before later later' : List PortCall) → Plays script later → Plays script later'
    → AsksIdle standing number bytes before later → AsksIdle standing number bytes before later' → later ≡ later'
asks-idle-alone script Open number [] before later later' p p' h h' = read-is script number before later p h ∙ sym (read-is script number before later' p' h')
asks-idle-alone script Open number (byte ∷ bytes) before later later' p p' h h' = h ∙ sym h'
asks-idle-alone script Closing number bytes before later later' p p' h h' = h ∙ sym h'

asks_alone : (script : List Event) → IsAlone Asks script
asks_alone script due before later later' p p' h h' = asks-idle-alone script due.standing due.number due.unsent before later later' p p' h h'

accepts_alone : (script : List Event) (full : Bool) (last : ℕ) (before later later' : List PortCall) → Plays script later → Plays script later' → AcceptsBelow full last before later → AcceptsBelow full last before later' → later ≡ later'
accepts_alone script true last before later later' p p' h h' = h ∙ sym h'
accepts_alone script false last before later later' p p' h h' =
    let played : Plays script (Accept (last + 1) h.0 ∷ before) = subst (Plays script) h.1 p in
    let played' : Plays script (Accept (last + 1) h'.0 ∷ before) = subst (Plays script) h'.1 p' in
    h.1 ∙ ap (λ (a : Result (Option Kind) ListenFault). Accept (last + 1) a ∷ before) (played.0 ∙ sym played'.0) ∙ sym h'.1

chain_alone : (Step : Due → List PortCall → List PortCall → Type 0) (script : List Event) → GoesBack Step script → IsAlone Step script → (list : List Due) (before later later' : List PortCall)
    → Plays script later → Plays script later' → Chain Step list before later → Chain Step list before later' → later ≡ later'
chain_alone Step script back alone [] before later later' p p' c c' = c ∙ sym c'
chain_alone Step script back alone (due ∷ list) before later later' p p' c c' =
    let mid = (chain_back Step script back list c.0 later p c.2).0 in
    let mid' = (chain_back Step script back list c'.0 later' p' c'.2).0 in
    let same : c.0 ≡ c'.0 = alone due before c.0 c'.0 mid mid' c.1 c'.1 in
    chain_alone Step script back alone list c.0 later later' p p' c.2 (subst (λ (m : List PortCall). Chain Step list m later') (sym same) c'.2)

flush_alone : (first : World) (script : List Event) (before later later' : List PortCall) → Plays script later → Plays script later' → Flushes first before later → Flushes first before later' → later ≡ later'
flush_alone first script before later later' p p' f f' =
    let mid = (chain_back Closes script (closes_back script) (dues first f.mid) f.mid later p f.closes).0 in
    let mid' = (chain_back Closes script (closes_back script) (dues first f'.mid) f'.mid later' p' f'.closes).0 in
    let same : f.mid ≡ f'.mid = chain_alone Offers script (offers_back script) (offers_alone script) (dues first before) before f.mid f'.mid mid mid' f.offers f'.offers in
    chain_alone Closes script (closes_back script) (closes_alone script) (dues first f.mid) f.mid later later' p p' f.closes
    (subst (λ (m : List PortCall). Chain Closes (dues first m) m later') (sym same) f'.closes)

take_alone : (first : World) (script : List Event) (before later later' : List PortCall) → Plays script later → Plays script later' → Takes first before later → Takes first before later' → later ≡ later'
take_alone first script before later later' p p' t t' =
    let list = take (length (dues first before)) (dues first before) in
    let mid = (chain_back Asks script (asks_back script) list t.mid later p t.asks).0 in
    let mid' = (chain_back Asks script (asks_back script) list t'.mid later' p' t'.asks).0 in
    let same : t.mid ≡ t'.mid = accepts_alone script (nat_eq (after first before).last (2 ^ 32 - 1)) (after first before).last before t.mid t'.mid mid mid' t.accepts t'.accepts in
    chain_alone Asks script (asks_back script) (asks_alone script) list t.mid later later' p p' t.asks (subst (λ (m : List PortCall). Chain Asks list m later') (sym same) t'.asks)

-- As many rounds have the same history,
rounds_alone : (first : World) (script : List Event) (turns : ℕ) (calls calls' : List PortCall) (had had' : ℕ → List ℕ) → Plays script calls → Plays script calls'
    → PlaysRounds first script turns calls had → PlaysRounds first script turns calls' had' → calls ≡ calls'
rounds_alone first script zero calls calls' had had' p p' r r' = r.0 ∙ sym r'.0
rounds_alone first script (suc turns) calls calls' had had' p p' r r' =
    let flushed = take_back first script r.flushed calls r.takes p in
    let flushed' = take_back first script r'.flushed calls' r'.takes p' in
    let before : r.before ≡ r'.before = rounds_alone first script turns r.before r'.before r.had r'.had
    (flush_back first script r.before r.flushed r.flushes flushed) (flush_back first script r'.before r'.flushed r'.flushes flushed') r.earlier r'.earlier in
    let same : r.flushed ≡ r'.flushed = flush_alone first script r.before r.flushed r'.flushed flushed flushed' r.flushes
    (subst (λ (b : List PortCall). Flushes first b r'.flushed) (sym before) r'.flushes) in
    take_alone first script r.flushed calls calls' p p' r.takes (subst (λ (f : List PortCall). Takes first f calls') (sym same) r'.takes)

-- and before more of them something was left.
earlier_left : (first : World) (script : List Event) (turns all : ℕ) (calls : List PortCall) (had : ℕ → List ℕ) → turns < all → Plays script calls → PlaysRounds first script all calls had
    → (mid : List PortCall) × (got : ℕ → List ℕ) × PlaysRounds first script turns mid got × (left_in script mid ≢ []) × Plays script mid
earlier_left first script turns zero calls had less p r = absurd (omega (arith, less))
earlier_left first script turns (suc all) calls had less p r =
    let before = flush_back first script r.before r.flushed r.flushes (take_back first script r.flushed calls r.takes p) in
    elim (eqb_tells turns all) [
      | inl same ↦ (r.before, r.had, subst (λ (n : ℕ). PlaysRounds first script n r.before r.had) (sym same.1) r.earlier, r.some_left, before)
      | inr other ↦ earlier_left first script turns all r.before r.had (omega (arith, less, other.1)) before r.earlier
    ]

-- So where nothing is left there can't be more rounds.
no_more : (first : World) (script : List Event) (turns turns' : ℕ) (calls calls' : List PortCall) → PlaysBy first script turns calls → PlaysBy first script turns' calls' → turns < turns' → ⊥
no_more first script turns turns' calls calls' p p' less =
    let before = flush_back first script p.before calls p.flushes p.answered in
    let before' = flush_back first script p'.before calls' p'.flushes p'.answered in
    let mid = earlier_left first script turns turns' p'.before p'.had less before' p'.rounds in
    let same : p.before ≡ mid.0 = rounds_alone first script turns p.before mid.0 p.had mid.1 before mid.4 p.rounds mid.2 in
    mid.3 (subst (λ (c : List PortCall). left_in script c ≡ []) same p.none_left)

pub plays_alone : (first : World) (script : List Event) (turns turns' : ℕ) (calls calls' : List PortCall) → PlaysBy first script turns calls → PlaysBy first script turns' calls'
    → (turns ≡ turns') × (calls ≡ calls')
plays_alone first script turns turns' calls calls' p p' = elim (eqb_tells turns turns') [
  | inl same ↦
      let before : p.before ≡ p'.before = rounds_alone first script turns p.before p'.before p.had p'.had (flush_back first script p.before calls p.flushes p.answered)
      (flush_back first script p'.before calls' p'.flushes p'.answered) p.rounds (subst (λ (n : ℕ). PlaysRounds first script n p'.before p'.had) (sym same.1) p'.rounds) in
      (same.1, flush_alone first script p.before calls calls' p.answered p'.answered p.flushes (subst (λ (b : List PortCall). Flushes first b calls') (sym before) p'.flushes))
  | inr other ↦ elim (leb_tells turns turns') [
    | inl low ↦ absurd (no_more first script turns turns' calls calls' p p' (omega (arith, low.1, other.1)))
    | inr high ↦ absurd (no_more first script turns' turns calls' calls p' p high.1)
  ]
]
