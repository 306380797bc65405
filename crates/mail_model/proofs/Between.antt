-- A piece that ends no unit of a session, and what happens on other links before or after it.
use Rattle.std.proofs.Common.{ℕ, ◌≡◌, ◌≢◌, ◌==◌, ◌+◌, Bool, true, false, List, [], ◌∷◌, ◌++◌, Option, Some, None, cond, refl, ap, sym, ◌∙◌, subst, arith, fold, length, map}
use Rattle.std.proofs.lemmas.Bool.Decides.{nat_tests}
use Rattle.std.proofs.lemmas.Option.{same_Some}
use Rattle.port_model.specs.History.{PortEvent, Opened, Piece, Ended, Lost}
use Rattle.session_units.specs.Awaited.{Awaited, is_prompting, with_more}
use Rattle.session_units.specs.Units.{Cut, first}
use Rattle.mail_model.specs.declared.standing.Standing.{Standing}
use Rattle.mail_model.specs.declared.standing.Standing.TheVariants.{Closing}
use Rattle.imap_steps.specs.Stepping.{World, Shared, Stepped, left_by}
use Rattle.imap_steps.specs.Step.{greeting}
use Rattle.mail_model.specs.Machine.{Machine, Session, Taking, is_open, and_change, behind, adds, becomes, at_once, go_ahead, awaits_more, take_unit, take_byte, take_piece, taking_of, leaves, takes, opens, session_at, hears_piece, take_event, machine}
use Rattle.mail_model.specs.Pieces.{goes_on}
use Rattle.mail_model.specs.Between.{link_of, IsAlone, EndsNoUnit}
use Rattle.mail_model.proofs.Units.{GoesOn, Stays, awaits, take_byte-closed}

-- Numbers

pub equal : (a b : ℕ) → (a == b) ≡ true → a ≡ b
equal a b e = grind (arith, nat_tests)

pub differs : (a b : ℕ) → a ≢ b → (a == b) ≡ false
differs a b e = grind (arith, nat_tests)

both_numbers : (a b n : ℕ) → (a == b) ≡ false → (n == a) ≡ true → (n == b) ≡ true → ⊥
both_numbers a b n e ea eb = grind (arith, nat_tests)

-- What such a piece leaves, whatever is shared

abbrev prompted : Awaited → List ℕ → List ℕ → List ℕ
prompted awaited answers [] = answers
prompted awaited answers (byte ∷ piece) =
    prompted (with_more awaited (byte ∷ [])) (cond (is_prompting (with_more awaited (byte ∷ []))) (answers ++ go_ahead) answers) piece

abbrev joined : Awaited → List ℕ → Awaited
joined awaited [] = awaited
joined awaited (byte ∷ piece) = joined (with_more awaited (byte ∷ [])) piece

went_on : (shared : Shared) (session : Session) (awaited : Awaited) (answers : List ℕ) (piece : List ℕ)
    → goes_on (record { shared = shared; session = record session { awaited = awaited }; answers = answers; changes = [] }) piece
    ≡ record { shared = shared; session = record session { awaited = joined awaited piece }; answers = prompted awaited answers piece; changes = [] }
went_on shared session awaited answers [] = refl
went_on shared session awaited answers (byte ∷ piece) =
    went_on shared session (with_more awaited (byte ∷ [])) (cond (is_prompting (with_more awaited (byte ∷ []))) (answers ++ go_ahead) answers) piece

dropped : (moment : ℕ) (taking : Taking) (piece : List ℕ) → is_open taking.session.standing ≡ false → take_piece moment taking piece ≡ taking
dropped moment taking [] h = refl
dropped moment taking (byte ∷ piece) h = ap (λ (t : Taking). take_piece moment t piece) (take_byte-closed moment taking byte h) ∙ dropped moment taking piece h

-- a session with more of a unit
abbrev longer : Session → List ℕ → Session
longer session piece = record session { awaited = cond (is_open session.standing) (joined session.awaited piece) session.awaited }

-- the prompts for it
abbrev prompts : Session → List ℕ → List ℕ
prompts session piece = cond (is_open session.standing) (prompted session.awaited [] piece) []

-- the machine after it
abbrev quiet : Session → List ℕ → Machine → Machine
quiet session piece before = record {
  shared = before.shared;
  sessions = becomes (longer session piece) before.sessions;
  out = adds session.number (prompts session piece) before.out;
  changes = before.changes;
  last = before.last;
}

heard : Stays → GoesOn → (moment : ℕ) (piece : List ℕ) (before : Machine) (session : Session) → EndsNoUnit (Some session) piece
    → takes before (hears_piece moment piece before.shared session) ≡ quiet session piece before
heard stays goes moment piece before session none = by (is_open session.standing) refl
  where
    by : (served : Bool) → is_open session.standing ≡ served
        → takes before (take_piece moment (taking_of before.shared session) piece)
        ≡ takes before (record {
          shared = before.shared;
          session = record session { awaited = cond served (joined session.awaited piece) session.awaited };
          answers = cond served (prompted session.awaited [] piece) [];
          changes = [];
        })
    by true e = ap (takes before) (awaits stays goes moment (taking_of before.shared session) piece e (none e) ∙ went_on before.shared session session.awaited [] piece)
    by false e = ap (takes before) (dropped moment (taking_of before.shared session) piece e)

-- Sessions by their numbers

pub number_found : (number : ℕ) (sessions : List Session) (session : Session) → session_at number sessions ≡ Some session → session.number ≡ number
number_found number [] session at = absurd (cc)
number_found number (s ∷ sessions) session at = by (s.number == number) refl (number_found number sessions session)
  where
    by : (b : Bool) → (s.number == number) ≡ b → (session_at number sessions ≡ Some session → session.number ≡ number) → session.number ≡ number
    by true e rest =
        let same : s ≡ session = same_Some s session (ap (λ (b : Bool). cond b (Some s) (session_at number sessions)) (sym e) ∙ at) in
        ap (λ (x : Session). x.number) (sym same) ∙ equal s.number number e
    by false e rest = rest (ap (λ (b : Bool). cond b (Some s) (session_at number sessions)) (sym e) ∙ at)

pub found_beside : (number : ℕ) (new : Session) (sessions : List Session) → (new.number == number) ≡ false → session_at number (becomes new sessions) ≡ session_at number sessions
found_beside number new [] ne = refl
found_beside number new (s ∷ sessions) ne = by (s.number == new.number) refl (found_beside number new sessions ne)
  where
    by : (b : Bool) → (s.number == new.number) ≡ b → session_at number (becomes new sessions) ≡ session_at number sessions
        → session_at number (cond b new s ∷ becomes new sessions) ≡ session_at number (s ∷ sessions)
    by true e rest =
        let other : (s.number == number) ≡ false = ap (λ (n : ℕ). n == number) (equal s.number new.number e) ∙ ne in
        ap (λ (b : Bool). cond b (Some new) (session_at number (becomes new sessions))) ne ∙ rest ∙ sym (ap (λ (b : Bool). cond b (Some s) (session_at number sessions)) other)
    by false e rest = ap (λ (found : Option Session). cond (s.number == number) (Some s) found) rest

pub found_before : (number : ℕ) (new : Session) (sessions : List Session) → (new.number == number) ≡ false → session_at number (sessions ++ new ∷ []) ≡ session_at number sessions
found_before number new [] ne = ap (λ (b : Bool). cond b (Some new) None) ne
found_before number new (s ∷ sessions) ne = ap (λ (found : Option Session). cond (s.number == number) (Some s) found) (found_before number new sessions ne)

becomes_before : (a new : Session) (sessions : List Session) → (new.number == a.number) ≡ false → becomes a (sessions ++ new ∷ []) ≡ becomes a sessions ++ new ∷ []
becomes_before a new [] ne = ap (λ (b : Bool). cond b a new ∷ []) ne
becomes_before a new (s ∷ sessions) ne = ap (λ (rest : List Session). cond (s.number == a.number) a s ∷ rest) (becomes_before a new sessions ne)

becomes_both : (a b : Session) (sessions : List Session) → (a.number == b.number) ≡ false → (b.number == a.number) ≡ false → becomes a (becomes b sessions) ≡ becomes b (becomes a sessions)
becomes_both a b [] ab ba = refl
becomes_both a b (s ∷ sessions) ab ba =
    ap (λ (x : Session). x ∷ becomes a (becomes b sessions)) (by (s.number == b.number) (s.number == a.number) refl refl)
    ∙ ap (λ (rest : List Session). cond ((cond (s.number == a.number) a s).number == b.number) b (cond (s.number == a.number) a s) ∷ rest) (becomes_both a b sessions ab ba)
  where
    by : (x y : Bool) → (s.number == b.number) ≡ x → (s.number == a.number) ≡ y
        → cond ((cond x b s).number == a.number) a (cond x b s) ≡ cond ((cond y a s).number == b.number) b (cond y a s)
    by true true ex ey = absurd (both_numbers a.number b.number s.number ab ey ex)
    by true false ex ey = ap (λ (c : Bool). cond c a b) ba ∙ sym (ap (λ (c : Bool). cond c b s) ex)
    by false true ex ey = ap (λ (c : Bool). cond c a s) ey ∙ sym (ap (λ (c : Bool). cond c b a) ab)
    by false false ex ey = ap (λ (c : Bool). cond c a s) ey ∙ sym (ap (λ (c : Bool). cond c b s) ex)

adds_both : (j k : ℕ) (xs ys : List ℕ) (out : ℕ → List ℕ) → (j == k) ≡ false → (who : ℕ) → adds j xs (adds k ys out) who ≡ adds k ys (adds j xs out) who
adds_both j k xs ys out ne who = by (who == j) (who == k) refl refl
  where
    by : (x y : Bool) → (who == j) ≡ x → (who == k) ≡ y
        → cond x (cond y (out who ++ ys) (out who) ++ xs) (cond y (out who ++ ys) (out who)) ≡ cond y (cond x (out who ++ xs) (out who) ++ ys) (cond x (out who ++ xs) (out who))
    by true true ex ey = absurd (both_numbers j k who ne ex ey)
    by true false ex ey = refl
    by false true ex ey = refl
    by false false ex ey = refl

adds_other : (j k : ℕ) (xs : List ℕ) (out : ℕ → List ℕ) → (k == j) ≡ false → adds j xs out k ≡ out k
adds_other j k xs out ne = ap (λ (b : Bool). cond b (out k ++ xs) (out k)) ne

-- How many are at once

unheld : (new : Session) (sessions : List Session) → session_at new.number sessions ≡ None → becomes new sessions ≡ sessions
unheld new [] none = refl
unheld new (s ∷ sessions) none = by (s.number == new.number) refl (unheld new sessions)
  where
    by : (b : Bool) → (s.number == new.number) ≡ b → (session_at new.number sessions ≡ None → becomes new sessions ≡ sessions) → cond b new s ∷ becomes new sessions ≡ s ∷ sessions
    by true e rest = let bad = ap (λ (b : Bool). cond b (Some s) (session_at new.number sessions)) (sym e) ∙ none in absurd (cc)
    by false e rest = ap (λ (xs : List Session). s ∷ xs) (rest (ap (λ (b : Bool). cond b (Some s) (session_at new.number sessions)) (sym e) ∙ none))

abbrev counted : ℕ → List Session → ℕ
counted so_far sessions = fold (λ (n : ℕ) (session : Session). n + cond (is_open session.standing) 1 0) so_far sessions

same_count : (new session : Session) (sessions : List Session) (so_far : ℕ) → new.standing ≡ session.standing → session_at new.number sessions ≡ Some session → IsAlone new.number sessions
    → counted so_far (becomes new sessions) ≡ counted so_far sessions
same_count new session [] so_far st at alone = refl
same_count new session (s ∷ sessions) so_far st at alone = by (s.number == new.number) refl (λ n. same_count new session sessions n st)
  where
    by : (b : Bool) → (s.number == new.number) ≡ b
        → ((n : ℕ) → session_at new.number sessions ≡ Some session → IsAlone new.number sessions → counted n (becomes new sessions) ≡ counted n sessions)
        → counted (so_far + cond (is_open (cond b new s).standing) 1 0) (becomes new sessions) ≡ counted (so_far + cond (is_open s.standing) 1 0) sessions
    by true e rest =
        let same : s ≡ session = same_Some s session (ap (λ (b : Bool). cond b (Some s) (session_at new.number sessions)) (sym e) ∙ at) in
        let none : session_at new.number sessions ≡ None = subst (λ (b : Bool). elim b as (λ (c : Bool). Type 0) [ true ↦ session_at new.number sessions ≡ None | false ↦ IsAlone new.number sessions ]) e alone in
        ap (λ (standing : Standing). counted (so_far + cond (is_open standing) 1 0) (becomes new sessions)) (st ∙ ap (λ (x : Session). x.standing) (sym same))
        ∙ ap (counted (so_far + cond (is_open s.standing) 1 0)) (unheld new sessions none)
    by false e rest =
        rest (so_far + cond (is_open s.standing) 1 0) (ap (λ (b : Bool). cond b (Some s) (session_at new.number sessions)) (sym e) ∙ at)
        (subst (λ (b : Bool). elim b as (λ (c : Bool). Type 0) [ true ↦ session_at new.number sessions ≡ None | false ↦ IsAlone new.number sessions ]) e alone)

-- A quiet piece and what happens on another link

pub same_machine : (a b : Machine) → a.shared ≡ b.shared → a.sessions ≡ b.sessions → a.out ≡ b.out → a.changes ≡ b.changes → a.last ≡ b.last → a ≡ b
same_machine a b s n o c l = λ i. record { shared = s i; sessions = n i; out = o i; changes = c i; last = l i }

quiet_opens : (session : Session) (piece : List ℕ) (before : Machine) (number : ℕ) (greeted : Stepped) → (number == session.number) ≡ false → (session.number == number) ≡ false
    → opens (quiet session piece before) number greeted ≡ quiet session piece (opens before number greeted)
quiet_opens session piece before number greeted ne en =
    same_machine _ _ refl
    (sym (becomes_before (longer session piece) _ before.sessions ne))
    (λ i who. adds_both number session.number greeted.answer (prompts session piece) before.out ne who i)
    (ap (λ (answers : List ℕ). and_change greeted.change number (length answers) (length greeted.answer) before.changes) (adds_other session.number number (prompts session piece) before.out ne))
    refl

quiet_takes : (session : Session) (piece : List ℕ) (before : Machine) (taking : Taking) → (taking.session.number == session.number) ≡ false → (session.number == taking.session.number) ≡ false
    → takes (quiet session piece before) taking ≡ quiet session piece (takes before taking)
quiet_takes session piece before taking ne en =
    same_machine _ _ refl
    (becomes_both taking.session (longer session piece) before.sessions ne en)
    (λ i who. adds_both taking.session.number session.number taking.answers (prompts session piece) before.out ne who i)
    (ap (λ (answers : List ℕ). map (behind (length answers)) taking.changes ++ before.changes) (adds_other session.number taking.session.number (prompts session piece) before.out ne))
    refl

-- whoever acts keeps its number
number_of_byte : (moment : ℕ) (taking : Taking) (byte : ℕ) → (take_byte moment taking byte).session.number ≡ taking.session.number
unfolding take_byte
number_of_byte moment taking byte = by (is_open taking.session.standing) (first taking.session.awaited (byte ∷ []))
  where
    by : (served : Bool) (found : Option Cut)
        → (cond served (elim found as (λ (f : Option Cut). Taking) [ None ↦ awaits_more taking byte | Some cut ↦ take_unit moment taking cut ]) taking).session.number
        ≡ taking.session.number
    by true None = refl
    by true (Some cut) = refl
    by false found = refl

pub number_of_piece : (moment : ℕ) (taking : Taking) (piece : List ℕ) → (take_piece moment taking piece).session.number ≡ taking.session.number
number_of_piece moment taking [] = refl
number_of_piece moment taking (byte ∷ piece) = number_of_piece moment (take_byte moment taking byte) piece ∙ number_of_byte moment taking byte

pub number_of_left : (shared : Shared) (session : Session) → (leaves shared session).session.number ≡ session.number
number_of_left shared session = by (is_open session.standing)
  where
    by : (served : Bool)
        → (cond served (record { shared = left_by shared session.number; session = record session { standing = Closing }; answers = []; changes = [] }) (taking_of shared session)).session.number
        ≡ session.number
    by true = refl
    by false = refl

abbrev pub acted : Machine → (Shared → Session → Taking) → Option Session → Machine
acted before act found = elim found [ None ↦ before | Some session ↦ takes before (act before.shared session) ]

-- what another session does beside the quiet one
module _ (session : Session) (piece : List ℕ) (before : Machine) (number : ℕ) (ne : (number == session.number) ≡ false) (en : (session.number == number) ≡ false)
    (act : Shared → Session → Taking) (kept : (shared : Shared) (other : Session) → (act shared other).session.number ≡ other.number) where
  quiet_acted : (found : Option Session) → session_at number before.sessions ≡ found → acted (quiet session piece before) act found ≡ quiet session piece (acted before act found)
  quiet_acted None at = refl
  quiet_acted (Some other) at =
      let same : (act before.shared other).session.number ≡ number = kept before.shared other ∙ number_found number before.sessions other at in
      quiet_takes session piece before (act before.shared other) (ap (λ (n : ℕ). n == session.number) same ∙ ne) (ap (λ (n : ℕ). session.number == n) same ∙ en)

  quiet_of : acted (quiet session piece before) act (session_at number (quiet session piece before).sessions) ≡ quiet session piece (acted before act (session_at number before.sessions))
  quiet_of = ap (acted (quiet session piece before) act) (found_beside number (longer session piece) before.sessions en) ∙ quiet_acted (session_at number before.sessions) refl

quiet_event : (session : Session) (piece : List ℕ) (before : Machine) (event : PortEvent) → link_of event ≢ session.number
    → at_once (quiet session piece before).sessions ≡ at_once before.sessions → take_event (quiet session piece before) event ≡ quiet session piece (take_event before event)
quiet_event session piece before (Opened number kind) other count =
    ap (λ (n : ℕ). opens (quiet session piece before) number (greeting before.shared number kind n)) count
    ∙ quiet_opens session piece before number (greeting before.shared number kind (at_once before.sessions)) (differs number session.number other)
    (differs session.number number (λ same. other (sym same)))
quiet_event session piece before (Piece number bytes moment) other count =
    quiet_of session piece before number (differs number session.number other) (differs session.number number (λ same. other (sym same)))
    (hears_piece moment bytes) (λ shared s. number_of_piece moment (taking_of shared s) bytes)
quiet_event session piece before (Ended number) other count =
    quiet_of session piece before number (differs number session.number other) (differs session.number number (λ same. other (sym same))) leaves number_of_left
quiet_event session piece before (Lost number) other count =
    quiet_of session piece before number (differs number session.number other) (differs session.number number (λ same. other (sym same))) leaves number_of_left

still_acts : (who number : ℕ) (before : Machine) → (number == who) ≡ false → (act : Shared → Session → Taking) → ((shared : Shared) (other : Session) → (act shared other).session.number ≡ other.number)
    → (found : Option Session) → session_at number before.sessions ≡ found → session_at who (acted before act found).sessions ≡ session_at who before.sessions
still_acts who number before ne act kept None at = refl
still_acts who number before ne act kept (Some other) at =
    let same : (act before.shared other).session.number ≡ number = kept before.shared other ∙ number_found number before.sessions other at in
    found_beside who (act before.shared other).session before.sessions (ap (λ (n : ℕ). n == who) same ∙ ne)

pub still_there : (who : ℕ) (before : Machine) (event : PortEvent) → link_of event ≢ who → session_at who (take_event before event).sessions ≡ session_at who before.sessions
still_there who before (Opened number kind) other = found_before who _ before.sessions (differs number who other)
still_there who before (Piece number bytes moment) other =
    still_acts who number before (differs number who other) (hears_piece moment bytes) (λ shared s. number_of_piece moment (taking_of shared s) bytes) (session_at number before.sessions) refl
still_there who before (Ended number) other = still_acts who number before (differs number who other) leaves number_of_left (session_at number before.sessions) refl
still_there who before (Lost number) other = still_acts who number before (differs number who other) leaves number_of_left (session_at number before.sessions) refl

-- the moment of such a piece doesn't matter
pub any_moment : Stays → GoesOn → (before : Machine) (number earlier later : ℕ) (piece : List ℕ) → EndsNoUnit (session_at number before.sessions) piece
    → take_event before (Piece number piece earlier) ≡ take_event before (Piece number piece later)
any_moment stays goes before number earlier later piece none = by (session_at number before.sessions) none
  where
    by : (found : Option Session) → EndsNoUnit found piece → acted before (hears_piece earlier piece) found ≡ acted before (hears_piece later piece) found
    by None ends = refl
    by (Some session) ends = heard stays goes earlier piece before session ends ∙ sym (heard stays goes later piece before session ends)

pub either_order : Stays → GoesOn → (before : Machine) (number earlier later : ℕ) (piece : List ℕ) (event : PortEvent) → link_of event ≢ number → IsAlone number before.sessions
    → EndsNoUnit (session_at number before.sessions) piece
    → take_event (take_event before (Piece number piece earlier)) event ≡ take_event (take_event before event) (Piece number piece later)
either_order stays goes before number earlier later piece event other alone none = by (session_at number before.sessions) refl
  where
    by : (found : Option Session) → session_at number before.sessions ≡ found
        → take_event (take_event before (Piece number piece earlier)) event ≡ take_event (take_event before event) (Piece number piece later)
    by None at =
        let first_one : take_event before (Piece number piece earlier) ≡ before = ap (acted before (hears_piece earlier piece)) at in
        let last_one : take_event (take_event before event) (Piece number piece later) ≡ take_event before event =
        ap (acted (take_event before event) (hears_piece later piece)) (still_there number before event other ∙ at) in
        ap (λ (m : Machine). take_event m event) first_one ∙ sym last_one
    by (Some session) at =
        let own : session.number ≡ number = number_found number before.sessions session at in
        let ends : EndsNoUnit (Some session) piece = subst (λ (found : Option Session). EndsNoUnit found piece) at none in
        let first_one : take_event before (Piece number piece earlier) ≡ quiet session piece before =
        ap (acted before (hears_piece earlier piece)) at ∙ heard stays goes earlier piece before session ends in
        let last_one : take_event (take_event before event) (Piece number piece later) ≡ quiet session piece (take_event before event) =
        ap (acted (take_event before event) (hears_piece later piece)) (still_there number before event other ∙ at) ∙ heard stays goes later piece (take_event before event) session ends in
        let count : at_once (becomes (longer session piece) before.sessions) ≡ at_once before.sessions =
        same_count (longer session piece) session before.sessions 0 refl
        (subst (λ (n : ℕ). session_at n before.sessions ≡ Some session) (sym own) at) (subst (λ (n : ℕ). IsAlone n before.sessions) (sym own) alone) in
        ap (λ (m : Machine). take_event m event) first_one ∙ quiet_event session piece before event (λ same. other (same ∙ own)) count ∙ sym last_one

pub between : Stays → GoesOn → (world : World) (older : List PortEvent) (number earlier later : ℕ) (piece : List ℕ) (event : PortEvent) → link_of event ≢ number
    → IsAlone number (machine world older).sessions → EndsNoUnit (session_at number (machine world older).sessions) piece
    → machine world (event ∷ Piece number piece earlier ∷ older) ≡ machine world (Piece number piece later ∷ event ∷ older)
unfolding machine
between stays goes world older number earlier later piece event other alone none = either_order stays goes (machine world older) number earlier later piece event other alone none
