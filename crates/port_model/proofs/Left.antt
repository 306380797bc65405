-- Lists of the events that are left.
use Rattle.std.proofs.Common.{◌≡◌, ℕ, Bool, true, false, not, ◌==◌, if◌then◌else◌, cond, List, [], ◌∷◌, refl, ap, ◌∙◌, arith}
use Rattle.std.specs.List.{filter, All}
use Rattle.std.specs.Ordering.{nat_cmp}
use Rattle.std.specs.BTreeMap.{is_at}
use Rattle.std.proofs.lemmas.Bool.Decides.{nat_tests}
use Rattle.port_model.specs.declared.events.Event.{Event}
use Rattle.port_model.specs.declared.events.Event.TheVariants.{Opens, Piece, Ends, Loses}
use Rattle.port_model.specs.Player.{HasBytes, is_left, past, past_first, left_of, IsPartRead, HasMore, Happens}
use Rattle.port_model.specs.Playing.{is_of}

pub past-none : (event : Event) → past 0 event ≡ event
past-none (Opens kind) = refl
past-none (Piece number bytes moment) = refl
past-none (Ends number) = refl
past-none (Loses number) = refl

pub part-fresh : (event : Event) → HasBytes event → IsPartRead 0 event
part-fresh (Opens kind) h = tt
part-fresh (Piece number bytes moment) h = h
part-fresh (Ends number) h = tt
part-fresh (Loses number) h = tt

pub is_left-past : (gone : ℕ → Bool) (offset : ℕ) (event : Event) → is_left gone (past offset event) ≡ is_left gone event
is_left-past gone offset (Opens kind) = refl
is_left-past gone offset (Piece number bytes moment) = refl
is_left-past gone offset (Ends number) = refl
is_left-past gone offset (Loses number) = refl

past_first-none : (events : List Event) → past_first 0 events ≡ events
past_first-none [] = refl
past_first-none (event ∷ later) = ap (λ (e : Event). e ∷ later) (past-none event)

-- of no event any bytes were read
pub left-none : (gone : ℕ → Bool) (events : List Event) → left_of gone 0 events ≡ filter (is_left gone) events
left-none gone events = ap (λ (es : List Event). filter (is_left gone) es) (past_first-none events)

-- an event that doesn't happen is skipped
pub left-skip : (gone : ℕ → Bool) (offset : ℕ) (event : Event) (later : List Event) → is_left gone event ≡ false
    → left_of gone offset (event ∷ later) ≡ filter (is_left gone) later
left-skip gone offset event later not_here = rw (is_left-past gone offset event, not_here) refl

-- an event that happens is the next
pub left-here : (gone : ℕ → Bool) (offset : ℕ) (event : Event) (later : List Event) → is_left gone event ≡ true
    → left_of gone offset (event ∷ later) ≡ past offset event ∷ filter (is_left gone) later
left-here gone offset event later here = rw (is_left-past gone offset event, here) refl

-- where no link is closed, all happens
pub happens-open : (gone : ℕ → Bool) → ((n : ℕ) → gone n ≡ false) → (event : Event) → is_left gone event ≡ true
happens-open gone none (Opens kind) = refl
happens-open gone none (Piece number bytes moment) = ap not (none number)
happens-open gone none (Ends number) = ap not (none number)
happens-open gone none (Loses number) = ap not (none number)

filter-open : (gone : ℕ → Bool) → ((n : ℕ) → gone n ≡ false) → (events : List Event) → filter (is_left gone) events ≡ events
filter-open gone none [] = refl
filter-open gone none (event ∷ later) = rw (happens-open gone none event) (ap (λ (es : List Event). event ∷ es) (filter-open gone none later))

pub left-open : (gone : ℕ → Bool) → ((n : ℕ) → gone n ≡ false) → (events : List Event) → left_of gone 0 events ≡ events
left-open gone none events = left-none gone events ∙ filter-open gone none events

pub happens-first : (gone : ℕ → Bool) → ((n : ℕ) → gone n ≡ false) → (events : List Event) → Happens gone events
happens-first gone none [] = tt
happens-first gone none (event ∷ later) = happens-open gone none event

pub more-fresh : (events : List Event) → All HasBytes events → HasMore 0 events
more-fresh [] bytes = tt
more-fresh (event ∷ later) bytes = part-fresh event (bytes 0 event (omega arith))

-- a key of a set of numbers is found by its value
at-number : (number who : ℕ) → is_at (nat_cmp number) who ≡ (who == number)
at-number number who = grind (arith, nat_tests)

not-if : (of gone : Bool) → not (if of then true else gone) ≡ (if of then false else not gone)
not-if true gone = refl
not-if false gone = refl

-- these links are closed, and the one of a number beside them
Closes : (ℕ → Bool) → (ℕ → Bool) → ℕ → Type 0
Closes gone gone' number = (n : ℕ) → gone' n ≡ (if is_at (nat_cmp number) n then true else gone n)

gone-close : (gone gone' : ℕ → Bool) (number : ℕ) → Closes gone gone' number → (who : ℕ) → not (gone' who) ≡ (if who == number then false else not (gone who))
unfolding Closes
gone-close gone gone' number closes who = rw (closes who, at-number number who) (not-if (who == number) (gone who))

is_left-close : (gone gone' : ℕ → Bool) (number : ℕ) → Closes gone gone' number
    → (event : Event) → is_left gone' event ≡ (if is_of number event then false else is_left gone event)
is_left-close gone gone' number closes (Opens kind) = refl
is_left-close gone gone' number closes (Piece who bytes moment) = gone-close gone gone' number closes who
is_left-close gone gone' number closes (Ends who) = gone-close gone gone' number closes who
is_left-close gone gone' number closes (Loses who) = gone-close gone gone' number closes who

filter-one : (P : Event → Bool) (event : Event) (later : List Event) (of left : Bool) → P event ≡ not of
    → cond (if of then false else left) (event ∷ filter P later) (filter P later) ≡ filter P (cond left (event ∷ later) later)
filter-one P event later true true e = rw e refl
filter-one P event later true false e = refl
filter-one P event later false true e = rw e refl
filter-one P event later false false e = refl

filter-close : (gone gone' : ℕ → Bool) (number : ℕ) → Closes gone gone' number
    → (events : List Event) → filter (is_left gone') events ≡ filter (λ event. not (is_of number event)) (filter (is_left gone) events)
filter-close gone gone' number closes [] = refl
filter-close gone gone' number closes (event ∷ later) =
    rw (is_left-close gone gone' number closes event, filter-close gone gone' number closes later)
    (filter-one (λ e. not (is_of number e)) event (filter (is_left gone) later) (is_of number event) (is_left gone event) refl)

-- The events of a link are left out once it is closed.
pub left-close : (gone gone' : ℕ → Bool) (number : ℕ) → ((n : ℕ) → gone' n ≡ (if is_at (nat_cmp number) n then true else gone n))
    → (offset : ℕ) (events : List Event) → left_of gone' offset events ≡ filter (λ event. not (is_of number event)) (left_of gone offset events)
unfolding Closes
left-close gone gone' number closes offset events = filter-close gone gone' number closes (past_first offset events)
