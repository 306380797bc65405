-- Pieces of one session are one, with what happens on other links between them.
use Rattle.std.proofs.Common.{ℕ, ◌≡◌, ◌≢◌, ◌==◌, ◌+◌, Bool, true, false, List, [], ◌∷◌, ◌++◌, Option, Some, None, cond, refl, ap, sym, ◌∙◌, subst, arith, append_assoc, append-nil, length, length-append, map}
use Rattle.port_model.specs.History.{PortEvent, Opened, Piece, Ended, Lost}
use Rattle.session_units.specs.Awaited.{awaits_of, is_prompting, with_more}
use Rattle.session_units.specs.Units.{Cut, first}
use Rattle.imap_steps.specs.Stepping.{World, Shared, Stepped}
use Rattle.imap_steps.specs.Step.{step}
use Rattle.mail_model.specs.Machine.{Machine, Made, Session, Taking, is_open, and_change, behind, adds, becomes, go_ahead, after_unit, awaits_more, take_unit, take_byte, take_piece, taking_of, leaves, takes, session_at, hears_piece, take_event, machine}
use Rattle.mail_model.specs.Between.{link_of, IsAlone, EndsNoUnit, AllElsewhere}
use Rattle.mail_model.proofs.Units.{GoesOn, Stays, pieces}
use Rattle.mail_model.proofs.Changes.{itself, shifted}
use Rattle.mail_model.proofs.Between.{equal, differs, number_found, found_beside, found_before, number_of_piece, number_of_left, still_there, any_moment, either_order, same_machine, acted}

-- What a session takes behind what it took before

abbrev onto : Taking → Taking → Taking
onto old new = record {
  shared = new.shared;
  session = new.session;
  answers = old.answers ++ new.answers;
  changes = map (behind (length old.answers)) new.changes ++ old.changes;
}

same_taking : (a b : Taking) → a.shared ≡ b.shared → a.session ≡ b.session → a.answers ≡ b.answers → a.changes ≡ b.changes → a ≡ b
same_taking a b s n o c = λ i. record { shared = s i; session = n i; answers = o i; changes = c i }

onto_unit : (old taking : Taking) (stepped : Stepped) → after_unit (onto old taking) stepped ≡ onto old (after_unit taking stepped)
onto_unit old taking stepped =
    let shift : ℕ = length old.answers in
    let later : List Made = map (behind shift) taking.changes ++ old.changes in
    same_taking _ _ refl refl (append_assoc old.answers taking.answers stepped.answer)
    (ap (λ (from : ℕ). and_change stepped.change taking.session.number from (length stepped.answer) later) (length-append old.answers taking.answers)
    ∙ sym (shifted stepped.change taking.session.number shift (length taking.answers) (length stepped.answer) taking.changes old.changes))

onto_more : (old taking : Taking) (byte : ℕ) → awaits_more (onto old taking) byte ≡ onto old (awaits_more taking byte)
onto_more old taking byte = same_taking _ _ refl refl (by (is_prompting (with_more taking.session.awaited (byte ∷ [])))) refl
  where
    by : (asks : Bool) → cond asks ((old.answers ++ taking.answers) ++ go_ahead) (old.answers ++ taking.answers) ≡ old.answers ++ cond asks (taking.answers ++ go_ahead) taking.answers
    by true = append_assoc old.answers taking.answers go_ahead
    by false = refl

onto_byte : (moment : ℕ) (old taking : Taking) (byte : ℕ) → take_byte moment (onto old taking) byte ≡ onto old (take_byte moment taking byte)
unfolding take_byte
onto_byte moment old taking byte = by (is_open taking.session.standing) (first taking.session.awaited (byte ∷ []))
  where
    by : (served : Bool) (found : Option Cut)
        → cond served (elim found as (λ (f : Option Cut). Taking) [ None ↦ awaits_more (onto old taking) byte | Some cut ↦ take_unit moment (onto old taking) cut ]) (onto old taking)
        ≡ onto old (cond served (elim found as (λ (f : Option Cut). Taking) [ None ↦ awaits_more taking byte | Some cut ↦ take_unit moment taking cut ]) taking)
    by true None = onto_more old taking byte
    by true (Some cut) = onto_unit old taking (step taking.shared taking.session.number (awaits_of taking.session.awaited) cut.shows cut.unit moment)
    by false found = refl

onto_piece : (moment : ℕ) (old taking : Taking) (piece : List ℕ) → take_piece moment (onto old taking) piece ≡ onto old (take_piece moment taking piece)
onto_piece moment old taking [] = refl
onto_piece moment old taking (byte ∷ piece) =
    ap (λ (t : Taking). take_piece moment t piece) (onto_byte moment old taking byte) ∙ onto_piece moment old (take_byte moment taking byte) piece

onto_begun : (taking : Taking) → onto taking (taking_of taking.shared taking.session) ≡ taking
onto_begun taking = same_taking _ _ refl refl (append-nil taking.answers) refl

-- A session of the machine that takes twice

becomes_twice : (old new : Session) (sessions : List Session) → new.number ≡ old.number → becomes new (becomes old sessions) ≡ becomes new sessions
becomes_twice old new [] same = refl
becomes_twice old new (s ∷ sessions) same =
    ap (λ (x : Session). x ∷ becomes new (becomes old sessions)) (by (s.number == old.number) refl)
    ∙ ap (λ (rest : List Session). cond (s.number == new.number) new s ∷ rest) (becomes_twice old new sessions same)
  where
    by : (b : Bool) → (s.number == old.number) ≡ b → cond ((cond b old s).number == new.number) new (cond b old s) ≡ cond (s.number == new.number) new s
    by true e =
        let own : (old.number == new.number) ≡ true = ap (λ (n : ℕ). n == new.number) (sym same) ∙ itself new.number in
        let found : (s.number == new.number) ≡ true = ap (λ (n : ℕ). s.number == n) same ∙ e in
        ap (λ (c : Bool). cond c new old) own ∙ sym (ap (λ (c : Bool). cond c new s) found)
    by false e = refl

adds_twice : (number : ℕ) (xs ys : List ℕ) (out : ℕ → List ℕ) (who : ℕ) → adds number ys (adds number xs out) who ≡ adds number (xs ++ ys) out who
adds_twice number xs ys out who = by (who == number)
  where
    by : (b : Bool) → cond b (cond b (out who ++ xs) (out who) ++ ys) (cond b (out who ++ xs) (out who)) ≡ cond b (out who ++ (xs ++ ys)) (out who)
    by true = append_assoc (out who) xs ys
    by false = refl

behind_twice : (p q : ℕ) (new old older : List Made) → map (behind (p + q)) new ++ (map (behind p) old ++ older) ≡ map (behind p) (map (behind q) new ++ old) ++ older
behind_twice p q [] old older = refl
behind_twice p q (made ∷ new) old older =
    let sum : p + q + made.from ≡ p + (q + made.from) = omega arith in
    ap (λ (from : ℕ). record { change = made.change; number = made.number; from = from; count = made.count } ∷ (map (behind (p + q)) new ++ (map (behind p) old ++ older))) sum
    ∙ ap (λ (rest : List Made). behind p (behind q made) ∷ rest) (behind_twice p q new old older)

takes_twice : (before : Machine) (old new : Taking) → new.session.number ≡ old.session.number → takes (takes before old) new ≡ takes before (onto old new)
takes_twice before old new same =
    let number : ℕ = new.session.number in
    same_machine _ _ refl (becomes_twice old.session new.session before.sessions same)
    (ap (λ (n : ℕ). adds number new.answers (adds n old.answers before.out)) (sym same) ∙ (λ i who. adds_twice number old.answers new.answers before.out who i))
    (ap (λ (n : ℕ). map (behind (length (adds n old.answers before.out number))) new.changes ++ (map (behind (length (before.out n))) old.changes ++ before.changes)) (sym same)
    ∙ ap (λ (shift : ℕ). map (behind shift) new.changes ++ (map (behind (length (before.out number))) old.changes ++ before.changes))
    (ap (λ (b : Bool). length (cond b (before.out number ++ old.answers) (before.out number))) (itself number) ∙ length-append (before.out number) old.answers)
    ∙ behind_twice (length (before.out number)) (length old.answers) new.changes old.changes before.changes)
    refl

found_itself : (new session : Session) (sessions : List Session) → session_at new.number sessions ≡ Some session → session_at new.number (becomes new sessions) ≡ Some new
found_itself new session [] at = absurd (cc)
found_itself new session (s ∷ sessions) at = by (s.number == new.number) refl (found_itself new session sessions)
  where
    by : (b : Bool) → (s.number == new.number) ≡ b → (session_at new.number sessions ≡ Some session → session_at new.number (becomes new sessions) ≡ Some new)
        → session_at new.number (cond b new s ∷ becomes new sessions) ≡ Some new
    by true e rest = ap (λ (b : Bool). cond b (Some new) (session_at new.number (becomes new sessions))) (itself new.number)
    by false e rest =
        ap (λ (b : Bool). cond b (Some s) (session_at new.number (becomes new sessions))) e
        ∙ rest (ap (λ (b : Bool). cond b (Some s) (session_at new.number sessions)) (sym e) ∙ at)

two_pieces : (before : Machine) (number moment : ℕ) (piece later : List ℕ)
    → take_event (take_event before (Piece number piece moment)) (Piece number later moment) ≡ take_event before (Piece number (piece ++ later) moment)
two_pieces before number moment piece later = by (session_at number before.sessions) refl
  where
    by : (found : Option Session) → session_at number before.sessions ≡ found
        → take_event (take_event before (Piece number piece moment)) (Piece number later moment) ≡ take_event before (Piece number (piece ++ later) moment)
    by None at =
        ap (λ (m : Machine). take_event m (Piece number later moment)) (ap (acted before (hears_piece moment piece)) at)
        ∙ ap (acted before (hears_piece moment later)) at ∙ sym (ap (acted before (hears_piece moment (piece ++ later))) at)
    by (Some session) at =
        let taking : Taking = hears_piece moment piece before.shared session in
        let next : Taking = hears_piece moment later taking.shared taking.session in
        let own : taking.session.number ≡ number = number_of_piece moment (taking_of before.shared session) piece ∙ number_found number before.sessions session at in
        let there : session_at number (becomes taking.session before.sessions) ≡ Some taking.session =
        subst (λ (n : ℕ). session_at n (becomes taking.session before.sessions) ≡ Some taking.session) own
        (found_itself taking.session session before.sessions (subst (λ (n : ℕ). session_at n before.sessions ≡ Some session) (sym own) at)) in
        ap (λ (m : Machine). take_event m (Piece number later moment)) (ap (acted before (hears_piece moment piece)) at)
        ∙ ap (acted (takes before taking) (hears_piece moment later)) there
        ∙ takes_twice before taking next (number_of_piece moment (taking_of taking.shared taking.session) later)
        ∙ ap (takes before) (sym (onto_piece moment taking (taking_of taking.shared taking.session) later))
        ∙ ap (λ (t : Taking). takes before (take_piece moment t later)) (onto_begun taking)
        ∙ ap (takes before) (pieces moment (taking_of before.shared session) piece later)
        ∙ sym (ap (acted before (hears_piece moment (piece ++ later))) at)

-- A number stays one session's alone

abbrev Alone : ℕ → List Session → Bool → Type 0
Alone number later b = elim b [ true ↦ session_at number later ≡ None | false ↦ IsAlone number later ]

alone_beside : (number : ℕ) (new : Session) (sessions : List Session) → (new.number == number) ≡ false → IsAlone number sessions → IsAlone number (becomes new sessions)
alone_beside number new [] ne alone = tt
alone_beside number new (s ∷ sessions) ne alone = by (s.number == new.number) (s.number == number) refl refl (alone_beside number new sessions ne)
  where
    by : (x y : Bool) → (s.number == new.number) ≡ x → (s.number == number) ≡ y → (IsAlone number sessions → IsAlone number (becomes new sessions)) → IsAlone number (cond x new s ∷ becomes new sessions)
    by true y ex ey rest =
        let other : (s.number == number) ≡ false = ap (λ (n : ℕ). n == number) (equal s.number new.number ex) ∙ ne in
        subst (Alone number (becomes new sessions)) (sym ne) (rest (subst (Alone number sessions) other alone))
    by false true ex ey rest = subst (Alone number (becomes new sessions)) (sym ey) (found_beside number new sessions ne ∙ subst (Alone number sessions) ey alone)
    by false false ex ey rest = subst (Alone number (becomes new sessions)) (sym ey) (rest (subst (Alone number sessions) ey alone))

alone_before : (number : ℕ) (new : Session) (sessions : List Session) → (new.number == number) ≡ false → IsAlone number sessions → IsAlone number (sessions ++ new ∷ [])
alone_before number new [] ne alone = subst (Alone number []) (sym ne) tt
alone_before number new (s ∷ sessions) ne alone = by (s.number == number) refl (alone_before number new sessions ne)
  where
    by : (b : Bool) → (s.number == number) ≡ b → (IsAlone number sessions → IsAlone number (sessions ++ new ∷ [])) → IsAlone number (s ∷ (sessions ++ new ∷ []))
    by true e rest = subst (Alone number (sessions ++ new ∷ [])) (sym e) (found_before number new sessions ne ∙ subst (Alone number sessions) e alone)
    by false e rest = subst (Alone number (sessions ++ new ∷ [])) (sym e) (rest (subst (Alone number sessions) e alone))

alone_acted : (who number : ℕ) (before : Machine) → (number == who) ≡ false → (act : Shared → Session → Taking) → ((shared : Shared) (other : Session) → (act shared other).session.number ≡ other.number)
    → IsAlone who before.sessions → (found : Option Session) → session_at number before.sessions ≡ found → IsAlone who (acted before act found).sessions
alone_acted who number before ne act kept alone None at = alone
alone_acted who number before ne act kept alone (Some other) at =
    let same : (act before.shared other).session.number ≡ number = kept before.shared other ∙ number_found number before.sessions other at in
    alone_beside who (act before.shared other).session before.sessions (ap (λ (n : ℕ). n == who) same ∙ ne) alone

still_alone : (who : ℕ) (before : Machine) (event : PortEvent) → link_of event ≢ who → IsAlone who before.sessions → IsAlone who (take_event before event).sessions
still_alone who before (Opened number kind) other alone = alone_before who _ before.sessions (differs number who other) alone
still_alone who before (Piece number bytes moment) other alone =
    alone_acted who number before (differs number who other) (hears_piece moment bytes) (λ shared s. number_of_piece moment (taking_of shared s) bytes) alone (session_at number before.sessions) refl
still_alone who before (Ended number) other alone = alone_acted who number before (differs number who other) leaves number_of_left alone (session_at number before.sessions) refl
still_alone who before (Lost number) other alone = alone_acted who number before (differs number who other) leaves number_of_left alone (session_at number before.sessions) refl

-- Pieces with other links' events between them

module _ (stays : Stays) (goes : GoesOn) (world : World) (older : List PortEvent) (number earlier later : ℕ) (piece : List ℕ) where
  alone_after : (others : List PortEvent) → AllElsewhere number others → IsAlone number (machine world older).sessions → IsAlone number (machine world (others ++ older)).sessions
  unfolding machine
  alone_after [] elsewhere alone = alone
  alone_after (event ∷ others) elsewhere alone = still_alone number (machine world (others ++ older)) event elsewhere.0 (alone_after others elsewhere.1 alone)

  there_after : (others : List PortEvent) → AllElsewhere number others → session_at number (machine world (others ++ older)).sessions ≡ session_at number (machine world older).sessions
  unfolding machine
  there_after [] elsewhere = refl
  there_after (event ∷ others) elsewhere = still_there number (machine world (others ++ older)) event elsewhere.0 ∙ there_after others elsewhere.1

  any_order : (others : List PortEvent) → AllElsewhere number others → IsAlone number (machine world older).sessions → EndsNoUnit (session_at number (machine world older).sessions) piece
      → machine world (others ++ Piece number piece earlier ∷ older) ≡ take_event (machine world (others ++ older)) (Piece number piece later)
  unfolding machine
  any_order [] elsewhere alone none = any_moment stays goes (machine world older) number earlier later piece none
  any_order (event ∷ others) elsewhere alone none =
      ap (λ (m : Machine). take_event m event) (any_order others elsewhere.1 alone none)
      ∙ either_order stays goes (machine world (others ++ older)) number later later piece event elsewhere.0 (alone_after others elsewhere.1 alone)
      (subst (λ (found : Option Session). EndsNoUnit found piece) (sym (there_after others elsewhere.1)) none)

  pub joined : (others : List PortEvent) (rest : List ℕ) → AllElsewhere number others → IsAlone number (machine world older).sessions
      → EndsNoUnit (session_at number (machine world older).sessions) piece
      → machine world (Piece number rest later ∷ (others ++ Piece number piece earlier ∷ older)) ≡ machine world (Piece number (piece ++ rest) later ∷ (others ++ older))
  unfolding machine
  joined others rest elsewhere alone none =
      ap (λ (m : Machine). take_event m (Piece number rest later)) (any_order others elsewhere alone none) ∙ two_pieces (machine world (others ++ older)) number later piece rest

pub two_of_machine : (world : World) (older : List PortEvent) (number moment : ℕ) (piece later : List ℕ)
    → machine world (Piece number later moment ∷ Piece number piece moment ∷ older) ≡ machine world (Piece number (piece ++ later) moment ∷ older)
unfolding machine
two_of_machine world older number moment piece later = two_pieces (machine world older) number moment piece later
