-- What the calls for one link come to.
use Rattle.std.proofs.Common.{ℕ, ◌≡◌, ◌≢◌, ◌==◌, Bool, true, false, List, [], ◌∷◌, Some, Result, Ok, Err, OnErr, length, refl, ap, sym, ◌∙◌, subst, append-nil, rules, arith}
use Rattle.std.proofs.lemmas.Grind.{common_steps}
use Rattle.std.proofs.lemmas.List.{nil_from_length}
use Rattle.port_model.specs.declared.calls.PortCall.{PortCall}
use Rattle.port_model.specs.declared.calls.PortCall.TheVariants.{Read, Now, Send}
use Rattle.port_model.specs.declared.calls.PortSend.{PortSend}
use Rattle.port_model.specs.declared.calls.PortSend.TheVariants.{Lost as SendLost}
use Rattle.port_model.specs.declared.calls.ReadAnswer.{ReadAnswer}
use Rattle.port_model.specs.declared.calls.ReadAnswer.TheVariants.{Gave, Ended as HasEnded, Lost as WasLost}
use Rattle.port_model.specs.Ports.{Records}
use Rattle.port_model.specs.Streams.{moment}
use Rattle.port_model.specs.History.{PortEvent, Piece, Ended, Lost, events, sent}
use Rattle.mail_model.specs.declared.standing.Standing.{Standing}
use Rattle.mail_model.specs.declared.standing.Standing.TheVariants.{Open, Closing}
use Rattle.imap_steps.specs.Stepping.{Shared}
use Rattle.mail_model.specs.Machine.{Session, Taking, is_open, leaves, taking_of, take_piece}
use Rattle.mail_rounds.specs.CoreSeen.{CoreSeen, LeavesFiles}
use Rattle.mail_rounds.specs.Crashes.{TakingCrashes}
use Rattle.mail_rounds.specs.declared.link.Link.{Link}
use Rattle.mail_rounds.specs.Calls.{GoesOn, Asks, AsksIdle, OffersBytes, clocked, read_room}
use Rattle.mail_rounds.specs.Held.{AtLink, session_of}
use Rattle.mail_rounds.specs.Heard.{Hearing, Hears, IsOfLink, IsTaking, Offering, acts}
use Rattle.mail_rounds.proofs.Crashes.{Leaving, ending_crashes}

-- what `is_empty` tells of a queue
pub no_items : (bytes : List ℕ) (count : ℕ) → count ≡ length bytes → true ≡ (count == 0) → bytes ≡ []
no_items bytes count same h = nil_from_length bytes (let e : count ≡ 0 = search rules in sym same ∙ e)

pub some_items : (bytes : List ℕ) (count : ℕ) → count ≡ length bytes → false ≡ (count == 0) → bytes ≢ []
some_items bytes count same h e = let none : count ≡ 0 = same ∙ ap (λ (b : List ℕ). length b) e in cc

leaves-silent : (shared : Shared) (session : Session) (opened : Bool) → is_open session.standing ≡ opened → (leaves shared session).answers ≡ []
leaves-silent shared session true o = rw o refl
leaves-silent shared session false o = rw o refl

pub on_err_always : {T E P : Type 0} (result : Result T E) → P → OnErr result P
on_err_always (Ok value) p = tt
on_err_always (Err fault) p = p

-- A link that was asked

-- what is heard of a link, if that went well
abbrev pub Heard : {C : Type 0} → CoreSeen C → C → Link → C → Link → List PortCall → List PortCall → Type 0
Heard seen core link core' link' before later = Hearing seen core link core' before later × Hears seen core link core' link' before later

asks-once : (standing : Standing) (number : ℕ) (queue : List ℕ) (before : List PortCall) (answer : ReadAnswer) (reading : ℕ) → is_open standing ≡ true → queue ≡ []
    → AsksIdle standing number queue before (clocked answer reading (Read number read_room answer ∷ before))
asks-once Open number [] before answer reading o q = (answer, reading, refl)
asks-once Open number (byte ∷ queue) before answer reading o q = absurd (cc)
asks-once Closing number queue before answer reading o q = absurd (cc)

-- The link ended or was lost, as a read tells it.
pub record TellsEnd (answer : ReadAnswer) (number : ℕ) (event : PortEvent) : Type 0 where
  pub its : IsOfLink number (Some event)
  pub events_are : (before : List PortCall) → events (Read number read_room answer ∷ before) ≡ event ∷ events before
  pub acts_are : (shared : Shared) (session : Session) → acts (Some event) shared session ≡ leaves shared session
  pub unclocked : (calls : List PortCall) → clocked answer 0 calls ≡ calls

pub tells_end : (number : ℕ) → TellsEnd HasEnded number (Ended number)
tells_end number = record { its = refl; events_are = λ before. refl; acts_are = λ shared session. refl; unclocked = λ calls. refl }

pub tells_loss : (number : ℕ) → TellsEnd WasLost number (Lost number)
tells_loss number = record { its = refl; events_are = λ before. refl; acts_are = λ shared session. refl; unclocked = λ calls. refl }

pub asked_end : {C : Type 0} (seen : CoreSeen C) (core : C) (link : Link) (core' : C) (link' : Link) (answer : ReadAnswer) (event : PortEvent) (old new : List PortCall → Type 0)
    → TellsEnd answer link.number event → Records (Read link.number read_room answer) old new → is_open link.standing ≡ true → link.queue.items ≡ [] → link'.queue.items ≡ []
    → ((shared : Shared) → session_of link' ≡ (leaves shared (session_of link)).session) → ((shared : Shared) → seen.stands core shared → seen.stands core' (leaves shared (session_of link)).shared)
    → Leaving → LeavesFiles seen core core' → GoesOn (Heard seen core link core' link') old new
asked_end seen core link core' link' answer event old new end recorded o q q' s left law files before may_be =
    let later = Read link.number read_room answer ∷ before in (
      later,
      recorded before may_be,
      (
        record {
          calls = subst (AtLink Asks link before) (end.unclocked later) (asks-once link.standing link.number link.queue.items before answer 0 o q);
          crashes = record {
            event = Some event;
            its = end.its;
            events_are = end.events_are before;
            leaves = λ shared stands. subst (TakingCrashes seen core core' (taking_of shared (session_of link))) (sym (end.acts_are shared (session_of link))) (ending_crashes seen core core' link law files shared);
          };
        },
        record {
          event = Some event;
          its = end.its;
          events_are = end.events_are before;
          sent_same = λ n. refl;
          closed_same = λ n. refl;
          same = λ none. absurd (cc);
          idle = λ some. q;
          was_open = λ some. o;
          does = λ some shared stands. subst (IsTaking seen core' link') (sym (end.acts_are shared (session_of link)))
              (record { stands = left shared stands; session = s shared; answers = q' ∙ sym (leaves-silent shared (session_of link) true o) });
        },
      ),
    )

-- It gave a piece, of which some was taken,
heard-piece : {C : Type 0} (seen : CoreSeen C) (core : C) (link : Link) (core' : C) (piece : List ℕ) (reading : ℕ) (before : List PortCall) → is_open link.standing ≡ true → link.queue.items ≡ []
    → ((taking : Taking) → IsTaking seen core link taking → TakingCrashes seen core core' taking (take_piece (moment reading) taking piece))
    → Hearing seen core link core' before (Now reading ∷ Read link.number read_room (Gave piece) ∷ before)
heard-piece seen core link core' piece reading before o q crash = record {
  calls = asks-once link.standing link.number link.queue.items before (Gave piece) reading o q;
  crashes = record {
    event = Some (Piece link.number piece (moment reading));
    its = refl;
    events_are = refl;
    leaves = λ shared stands. crash (taking_of shared (session_of link)) (record { stands = stands; session = refl; answers = q });
  };
}

pub asked_part : {C : Type 0} (seen : CoreSeen C) (core : C) (link : Link) (core' : C) (piece : List ℕ) (reading : ℕ) (old mid new : List PortCall → Type 0)
    → Records (Read link.number read_room (Gave piece)) old mid → Records (Now reading) mid new → is_open link.standing ≡ true → link.queue.items ≡ []
    → ((taking : Taking) → IsTaking seen core link taking → TakingCrashes seen core core' taking (take_piece (moment reading) taking piece))
    → GoesOn (Hearing seen core link core') old new
asked_part seen core link core' piece reading old mid new one two o q crash before may_be =
    let read = Read link.number read_room (Gave piece) ∷ before in (Now reading ∷ read, two read (one before may_be), heard-piece seen core link core' piece reading before o q crash)

-- or all.
pub asked_piece : {C : Type 0} (seen : CoreSeen C) (core : C) (link : Link) (core' : C) (link' : Link) (piece : List ℕ) (reading : ℕ) (old mid new : List PortCall → Type 0)
    → Records (Read link.number read_room (Gave piece)) old mid → Records (Now reading) mid new → is_open link.standing ≡ true → link.queue.items ≡ []
    → ((taking : Taking) → IsTaking seen core link taking → TakingCrashes seen core core' taking (take_piece (moment reading) taking piece))
    → ((taking : Taking) → IsTaking seen core link taking → IsTaking seen core' link' (take_piece (moment reading) taking piece))
    → GoesOn (Heard seen core link core' link') old new
asked_piece seen core link core' link' piece reading old mid new one two o q crash did before may_be =
    let read = Read link.number read_room (Gave piece) ∷ before in (
      Now reading ∷ read,
      two read (one before may_be),
      (
        heard-piece seen core link core' piece reading before o q crash,
        record {
          event = Some (Piece link.number piece (moment reading));
          its = refl;
          events_are = refl;
          sent_same = λ n. refl;
          closed_same = λ n. refl;
          same = λ none. absurd (cc);
          idle = λ some. q;
          was_open = λ some. o;
          does = λ some shared stands. did (taking_of shared (session_of link)) (record { stands = stands; session = refl; answers = q });
        },
      ),
    )

-- A link that was offered its queue

equal-itself : (n : ℕ) → (n == n) ≡ true
equal-itself n = search rules

equal-other : (m n : ℕ) → m ≢ n → (n == m) ≡ false
equal-other m n other = grind (arith, common_steps)

offers-some : (number : ℕ) (queue : List ℕ) (answer : PortSend) (before : List PortCall) → queue ≢ [] → OffersBytes number queue before (Send number queue answer ∷ before)
offers-some number [] answer before some = absurd (some refl)
offers-some number (byte ∷ queue) answer before some = (answer, refl)

-- nothing was taken of what a lost link was offered
lost_same : (number : ℕ) (before : List PortCall) (bytes : List ℕ) → sent (Send number bytes SendLost ∷ before) number ≡ sent before number
lost_same number before bytes = rw (equal-itself number) (append-nil (sent before number))

-- The link was lost.
pub offered_lost : {C : Type 0} (seen : CoreSeen C) (core : C) (link : Link) (core' : C) (link' : Link) (old new : List PortCall → Type 0) → Records (Send link.number link.queue.items SendLost) old new
    → link.queue.items ≢ [] → link'.queue.items ≡ [] → ((shared : Shared) → session_of link' ≡ (leaves shared (session_of link)).session)
    → ((shared : Shared) → seen.stands core shared → seen.stands core' (leaves shared (session_of link)).shared) → Leaving → LeavesFiles seen core core'
    → GoesOn (Offering seen core link core' link') old new
offered_lost seen core link core' link' old new recorded some q s left law files before may_be = (
  Send link.number link.queue.items SendLost ∷ before,
  recorded before may_be,
  record {
    calls = offers-some link.number link.queue.items SendLost before some;
    offered = record {
      event = Some (Lost link.number);
      its = refl;
      events_are = refl;
      closed_same = λ n. refl;
      sent_same = λ n other. rw (equal-other n link.number other) refl;
      idle = λ none. (q, lost_same link.number before link.queue.items);
      whole = λ none. absurd (cc);
      dropped = λ some. (q, lost_same link.number before link.queue.items);
      no_answer = λ shared stands. (left shared stands, s shared);
      same = λ none. absurd (cc);
    };
    crashes = record { event = Some (Lost link.number); its = refl; events_are = refl; leaves = λ shared stands. ending_crashes seen core core' link law files shared };
  },
)
