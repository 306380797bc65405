-- A byte that a link's session takes.
use Rattle.std.proofs.Common.{ℕ, ◌≡◌, Bool, true, false, List, [], ◌∷◌, ◌++◌, Some, None, Result, Ok, Err, IfOk, cond, refl, ap, sym, ◌∙◌, subst, append-nil}
use Rattle.session_units.specs.declared.forms.Awaits.{Awaits}
use Rattle.session_units.specs.declared.forms.Shown.{Shown}
use Rattle.session_units.specs.Awaited.{Awaited, Imap, Line, Text, awaits_of, is_prompting, with_more}
use Rattle.session_units.specs.Units.{Cut, GoesOn, first, unit_of}
use Rattle.mail_model.specs.declared.standing.Standing.{Standing}
use Rattle.imap_steps.specs.Stepping.{Stepped}
use Rattle.imap_steps.specs.Step.{step}
use Rattle.mail_model.specs.Machine.{Session, Taking, is_open, awaits_more, go_ahead, take_byte, take_piece, take_unit, standing_after}
use Rattle.mail_rounds.specs.CoreSeen.{CoreSeen}
use Rattle.mail_rounds.specs.declared.link.Link.{Link}
use Rattle.mail_rounds.specs.Held.{session_of, taking_in}
use Rattle.mail_rounds.specs.Heard.{IsTaking, AfterStep, in_session}

take_byte-closed : (moment : ℕ) (taking : Taking) (byte : ℕ) → is_open taking.session.standing ≡ false → take_byte moment taking byte ≡ taking
unfolding take_byte
take_byte-closed moment taking byte h = rw h refl

take_byte-more : (moment : ℕ) (taking : Taking) (byte : ℕ) → is_open taking.session.standing ≡ true → first taking.session.awaited (byte ∷ []) ≡ None
    → take_byte moment taking byte ≡ awaits_more taking byte
unfolding take_byte
take_byte-more moment taking byte h e = rw (h, e) refl

pub take_byte-unit : (moment : ℕ) (taking : Taking) (byte : ℕ) (cut : Cut) → is_open taking.session.standing ≡ true → first taking.session.awaited (byte ∷ []) ≡ Some cut
    → take_byte moment taking byte ≡ take_unit moment taking cut
unfolding take_byte
take_byte-unit moment taking byte cut h e = rw (h, e) refl

-- What a core, a session and its queue are where they are what a session's part in an event leaves.
pub record Took {C : Type 0} (seen : CoreSeen C) (core : C) (session : Session) (queue : List ℕ) (taking : Taking) : Type 0 where
  pub stands : seen.stands core taking.shared
  pub session_is : session ≡ taking.session
  pub answers : queue ≡ taking.answers

-- the part of a session that a link has is that of the link, but for the changes that it made
pub taking-is : {C : Type 0} (seen : CoreSeen C) (core : C) (link : Link) (taking : Taking) → IsTaking seen core link taking → taking_in taking.shared link taking.changes ≡ taking
taking-is seen core link taking held =
    ap (λ (s : Session). record { shared = taking.shared; session = s; answers = link.queue.items; changes = taking.changes }) held.session
    ∙ ap (λ (q : List ℕ). record { shared = taking.shared; session = taking.session; answers = q; changes = taking.changes }) held.answers

-- A link takes a byte that ..

-- .. comes to a session that isn't open,
pub takes_closed : {C : Type 0} (seen : CoreSeen C) (core : C) (link : Link) (moment byte : ℕ) (taking : Taking) → IsTaking seen core link taking → false ≡ is_open link.standing
    → IsTaking seen core link (take_byte moment taking byte)
takes_closed seen core link moment byte taking held h =
    let closed : is_open taking.session.standing ≡ false = sym (ap (λ (s : Session). is_open s.standing) held.session) ∙ sym h in
    subst (IsTaking seen core link) (sym (take_byte-closed moment taking byte closed)) held

-- .. ends no unit,
pub takes_more : {C : Type 0} (seen : CoreSeen C) (core : C) (link : Link) (moment byte : ℕ) (taking : Taking) (reader : Awaited) (queue : List ℕ) → IsTaking seen core link taking → true ≡ is_open link.standing
    → reader ≡ with_more link.reader (byte ∷ []) → first link.reader (byte ∷ []) ≡ None
    → queue ≡ cond (is_prompting reader) (link.queue.items ++ go_ahead) link.queue.items
    → Took seen core (record { number = link.number; standing = link.standing; awaited = reader }) queue (take_byte moment taking byte)
takes_more seen core link moment byte taking reader queue held h l none q =
    let here : Session = record { number = link.number; standing = link.standing; awaited = reader } in
    subst (λ (t : Taking). Took seen core here queue (take_byte moment t byte)) (taking-is seen core link taking held)
    (subst (Took seen core here queue) (sym (take_byte-more moment (taking_in taking.shared link taking.changes) byte (sym h) none))
    (record {
      stands = held.stands;
      session_is = ap (λ (v : Awaited). record { number = link.number; standing = link.standing; awaited = v }) l;
      answers = q ∙ ap (λ (v : Awaited). cond (is_prompting v) (link.queue.items ++ go_ahead) link.queue.items) l;
    }))

pub same_form : (awaited : Awaited) (bytes : List ℕ) → awaits_of (with_more awaited bytes) ≡ awaits_of awaited
same_form (Imap form so_far) bytes = refl
same_form (Line so_far) bytes = refl
same_form (Text read) bytes = refl

-- .. or ends one.
pub takes_unit : {C : Type 0} (seen : CoreSeen C) (link : Link) (core core' : C) (standing : Standing) (reader : Awaited) (queue : List ℕ) (moment byte : ℕ) (taking : Taking) (fed : Awaited) → IsTaking seen core link taking → true ≡ is_open link.standing
    → fed ≡ with_more link.reader (byte ∷ [])
    → (shows : Shown) → first link.reader (byte ∷ []) ≡ Some (record { unit = unit_of fed; shows = shows; rest = [] })
    → AfterStep seen core' standing reader link.queue.items queue taking.shared link.number (step taking.shared link.number (awaits_of fed) shows (unit_of fed) moment)
    → Took seen core' (record { number = link.number; standing = standing; awaited = reader }) queue (take_byte moment taking byte)
takes_unit seen link core core' standing reader queue moment byte taking fed held h l shows e done =
    let stepped : Stepped = step taking.shared link.number (awaits_of link.reader) shows (unit_of fed) moment in
    let did : AfterStep seen core' standing reader link.queue.items queue taking.shared link.number stepped =
    subst (λ (a : Awaits). AfterStep seen core' standing reader link.queue.items queue taking.shared link.number (step taking.shared link.number a shows (unit_of fed) moment))
    (ap awaits_of l ∙ same_form link.reader (byte ∷ [])) done in
    let here : Session = record { number = link.number; standing = standing; awaited = reader } in
    subst (λ (t : Taking). Took seen core' here queue (take_byte moment t byte)) (taking-is seen core link taking held)
    (subst (Took seen core' here queue) (sym (take_byte-unit moment (taking_in taking.shared link taking.changes) byte _ (sym h) e))
    (record {
      stands = did.stands;
      session_is = ap (λ (v : Standing). record { number = link.number; standing = v; awaited = reader }) did.standing_is
          ∙ ap (λ (v : Awaited). record { number = link.number; standing = standing_after stepped.closes; awaited = v }) did.awaits;
      answers = did.answer;
    }))

-- Bytes that go on with a literal or a line of a text

abbrev with_awaited : Session → Awaited → Session
with_awaited session awaited = record { number = session.number; standing = session.standing; awaited = awaited }

awaits-silent : (taking : Taking) (byte : ℕ) → is_prompting (with_more taking.session.awaited (byte ∷ [])) ≡ false
    → awaits_more taking byte ≡ in_session taking (with_awaited taking.session (with_more taking.session.awaited (byte ∷ [])))
awaits-silent taking byte e =
    ap (λ (asks : Bool). record {
      shared = taking.shared;
      session = with_awaited taking.session (with_more taking.session.awaited (byte ∷ []));
      answers = cond asks (taking.answers ++ go_ahead) taking.answers;
      changes = taking.changes;
    }) e

with_nothing : (awaited : Awaited) → with_more awaited [] ≡ awaited
with_nothing (Imap form bytes) = ap (Imap form) (append-nil bytes)
with_nothing (Line bytes) = ap Line (append-nil bytes)
with_nothing (Text read) = refl

-- bytes go on with what is awaited however they are cut
abbrev pub Joined : Type 0
Joined = (awaited : Awaited) (bytes later : List ℕ) → with_more awaited (bytes ++ later) ≡ with_more (with_more awaited bytes) later

inside-goes_on : Joined → (moment : ℕ) (taking : Taking) (bytes : List ℕ) → is_open taking.session.standing ≡ true → GoesOn taking.session.awaited bytes
    → take_piece moment taking bytes ≡ in_session taking (with_awaited taking.session (with_more taking.session.awaited bytes))
inside-goes_on joined moment taking [] h g = ap (λ (awaited : Awaited). in_session taking (with_awaited taking.session awaited)) (sym (with_nothing taking.session.awaited))
inside-goes_on joined moment taking (byte ∷ bytes) h g =
    let next = in_session taking (with_awaited taking.session (with_more taking.session.awaited (byte ∷ []))) in
    let one : take_byte moment taking byte ≡ next = take_byte-more moment taking byte h g.1 ∙ awaits-silent taking byte g.0 in
    ap (λ (t : Taking). take_piece moment t bytes) one ∙ inside-goes_on joined moment next bytes h g.2
    ∙ ap (λ (awaited : Awaited). in_session taking (with_awaited taking.session awaited)) (sym (joined taking.session.awaited (byte ∷ []) bytes))

pub inside_takes : Joined → (link : Link) (reader : Awaited) (bytes : List ℕ) → true ≡ is_open link.standing → reader ≡ with_more link.reader bytes
    → GoesOn link.reader bytes → (moment : ℕ) (taking : Taking) → session_of link ≡ taking.session
    → take_piece moment taking bytes ≡ in_session taking (record { number = link.number; standing = link.standing; awaited = reader })
inside_takes joined link reader bytes h l g moment taking held =
    subst (λ (s : Session). take_piece moment (in_session taking s) bytes ≡ in_session taking (record { number = link.number; standing = link.standing; awaited = reader })) held
    (inside-goes_on joined moment (in_session taking (session_of link)) bytes (sym h) g
    ∙ ap (λ (v : Awaited). in_session taking (record { number = link.number; standing = link.standing; awaited = v })) (sym l))

pub both_ok : {T E : Type 0} {F G H : T → Type 0} (result : Result T E) → ((value : T) → F value → G value → H value) → IfOk result F → IfOk result G → IfOk result H
both_ok (Ok value) each f g = each value f g
both_ok (Err fault) each f g = tt

-- the same of what a core and a link hold
pub inside_held : {C : Type 0} (seen : CoreSeen C) (core : C) (link link' : Link) (moment : ℕ) (taking : Taking) (bytes : List ℕ) → IsTaking seen core link taking → link'.queue.items ≡ link.queue.items
    → take_piece moment taking bytes ≡ in_session taking (session_of link') → IsTaking seen core link' (take_piece moment taking bytes)
inside_held seen core link link' moment taking bytes held q e =
    subst (IsTaking seen core link') (sym e) (record { stands = held.stands; session = refl; answers = q ∙ held.answers })
