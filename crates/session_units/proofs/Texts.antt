-- Texts as units.
use Rattle.std.proofs.Common.{◌≡◌, ℕ, suc, ◌+◌, ◌<◌, ◌≤◌, Bool, true, false, cond, eqb, Option, Some, None, List, [], ◌∷◌, ◌++◌, length, get_or, drop, refl, sym, ◌∙◌, ap, subst, arith}
use Rattle.std.proofs.lemmas.Bool.{false_from_ne_true}
use Rattle.std.proofs.lemmas.List.{drop-append-le}
use Rattle.std.proofs.Math.Seq.{drop-append-add}
use Rattle.std.proofs.lemmas.Option.{same_Some}
use Rattle.lmtp_core.specs.declared.reading.Place.{Place}
use Rattle.lmtp_core.specs.declared.reading.Place.TheVariants.{Start, Dot, DotReturn, Inside, Return, End}
use Rattle.lmtp_core.specs.Reading.{Read, is_end, place_behind, reads, reads_byte, taken}
use Rattle.session_units.specs.Awaited.{Text}
use Rattle.session_units.specs.Units.{Cut, GoesOn, content_in, first, text_cut, text_shows}
use Rattle.session_units.proofs.Lines.{followed}

abbrev pub Joined : Type 0
Joined = (read : Read) (bytes later : List ℕ) → reads read (bytes ++ later) ≡ reads (reads read bytes) later

abbrev pub Counted : Type 0
Counted = (read : Read) (bytes later : List ℕ) → taken read (bytes ++ later) ≡ taken read bytes + taken (reads read bytes) later

reads_end : (read : Read) (bytes : List ℕ) → is_end read.place ≡ true → (reads read bytes ≡ read) × (taken read bytes ≡ 0)
reads_end read [] e = (refl, refl)
reads_end read (b ∷ bs) e = (rw e refl, rw e refl)

takes_all : (read : Read) (bytes : List ℕ) → is_end (reads read bytes).place ≡ false → taken read bytes ≡ length bytes
takes_all read [] going = refl
takes_all read (b ∷ bs) going = by (is_end read.place) refl going (takes_all (reads_byte read b) bs)
  where
    by : (end : Bool) → is_end read.place ≡ end → is_end (cond end read (reads (reads_byte read b) bs)).place ≡ false
        → (is_end (reads (reads_byte read b) bs).place ≡ false → taken (reads_byte read b) bs ≡ length bs)
        → cond end 0 (taken (reads_byte read b) bs + 1) ≡ suc (length bs)
    by true e going next = absurd (cc)
    by false e going next = let all = next going in omega arith

takes_within : (read : Read) (bytes : List ℕ) → taken read bytes ≤ length bytes
takes_within read [] = omega arith
takes_within read (b ∷ bs) = by (is_end read.place) (takes_within (reads_byte read b) bs)
  where
    by : (end : Bool) → taken (reads_byte read b) bs ≤ length bs → cond end 0 (taken (reads_byte read b) bs + 1) ≤ suc (length bs)
    by true next = omega arith
    by false next = omega arith

pub text-open : (read : Read) → first (Text read) [] ≡ None → is_end read.place ≡ false
unfolding first
text-open read e = by (is_end read.place) refl e
  where
    by : (end : Bool) → is_end read.place ≡ end → cond end (Some (text_cut read.kept [])) None ≡ None → is_end read.place ≡ false
    by true e h = cc
    by false e h = e

pub text-none : (read : Read) (bytes : List ℕ) → is_end (reads read bytes).place ≡ false → first (Text read) bytes ≡ None
unfolding first
text-none read bytes going = rw going refl

text-some : (read : Read) (bytes : List ℕ) → is_end (reads read bytes).place ≡ true → first (Text read) bytes ≡ Some (text_cut (reads read bytes).kept (drop (taken read bytes) bytes))
unfolding first
text-some read bytes end = rw end refl

-- where a text ends, or not yet
text-ends : (read : Read) (bytes : List ℕ) (cut : Cut) → first (Text read) bytes ≡ Some cut → is_end (reads read bytes).place ≡ true
text-ends read bytes cut h = by (is_end (reads read bytes).place) refl
  where
    by : (end : Bool) → is_end (reads read bytes).place ≡ end → is_end (reads read bytes).place ≡ true
    by true e = e
    by false e = let bad = sym (text-none read bytes e) ∙ h in cc

text-open_behind : (read : Read) (bytes : List ℕ) → first (Text read) bytes ≡ None → is_end (reads read bytes).place ≡ false
text-open_behind read bytes h = by (is_end (reads read bytes).place) refl
  where
    by : (end : Bool) → is_end (reads read bytes).place ≡ end → is_end (reads read bytes).place ≡ false
    by true e = let bad = sym (text-some read bytes e) ∙ h in cc
    by false e = e

pub text-stays : Joined → Counted → (read : Read) (bytes later : List ℕ) (cut : Cut) → first (Text read) bytes ≡ Some cut → first (Text read) (bytes ++ later) ≡ followed later (Some cut)
text-stays joined counted read bytes later cut h =
    let end : is_end (reads read bytes).place ≡ true = text-ends read bytes cut h in
    let done = reads_end (reads read bytes) later end in
    let same : reads read (bytes ++ later) ≡ reads read bytes = joined read bytes later ∙ done.0 in
    let none = done.1 in
    let count : taken read (bytes ++ later) ≡ taken read bytes = counted read bytes later ∙ ap (λ (n : ℕ). taken read bytes + n) none ∙ (let e : taken read bytes + 0 ≡ taken read bytes = omega arith in e) in
    text-some read (bytes ++ later) (ap (λ (r : Read). is_end r.place) same ∙ end)
    ∙ ap (λ (r : Read). Some (text_cut r.kept (drop (taken read (bytes ++ later)) (bytes ++ later)))) same
    ∙ ap (λ (l : List ℕ). Some (text_cut (reads read bytes).kept l)) (ap (λ (n : ℕ). drop n (bytes ++ later)) count ∙ drop-append-le (taken read bytes) bytes later (takes_within read bytes))
    ∙ ap (followed later) (sym (text-some read bytes end) ∙ h)

pub text-goes_on : Joined → Counted → (read : Read) (bytes later : List ℕ) → first (Text read) bytes ≡ None → first (Text read) (bytes ++ later) ≡ first (Text (reads read bytes)) later
unfolding first
text-goes_on joined counted read bytes later none =
    let count : taken read (bytes ++ later) ≡ length bytes + taken (reads read bytes) later =
    counted read bytes later ∙ ap (λ (n : ℕ). n + taken (reads read bytes) later) (takes_all read bytes (text-open_behind read bytes none)) in
    let left : drop (taken read (bytes ++ later)) (bytes ++ later) ≡ drop (taken (reads read bytes) later) later =
    ap (λ (n : ℕ). drop n (bytes ++ later)) count ∙ drop-append-add bytes later (taken (reads read bytes) later) in
    ap (λ (r : Read). cond (is_end r.place) (Some (text_cut r.kept (drop (taken read (bytes ++ later)) (bytes ++ later)))) None) (joined read bytes later)
    ∙ ap (λ (l : List ℕ). cond (is_end (reads (reads read bytes) later).place) (Some (text_cut (reads (reads read bytes) later).kept l)) None) left

one_byte : (read : Read) (byte : ℕ) → is_end read.place ≡ false → drop (taken read (byte ∷ [])) (byte ∷ []) ≡ []
one_byte read byte going = rw going refl

pub text-last : (read : Read) (byte : ℕ) → first (Text read) [] ≡ None → is_end (reads read (byte ∷ [])).place ≡ true
    → first (Text read) (byte ∷ []) ≡ Some (text_cut (reads read (byte ∷ [])).kept [])
text-last read byte none end =
    text-some read (byte ∷ []) end ∙ ap (λ (l : List ℕ). Some (text_cut (reads read (byte ∷ [])).kept l)) (one_byte read byte (text-open read none))

pub text-at_last : (read : Read) (byte : ℕ) (cut : Cut) → first (Text read) [] ≡ None → first (Text read) (byte ∷ []) ≡ Some cut → cut.rest ≡ []
text-at_last read byte cut none h =
    ap (λ (c : Cut). c.rest) (sym (same_Some (text_cut (reads read (byte ∷ [])).kept []) cut (sym (text-last read byte none (text-ends read (byte ∷ []) cut h)) ∙ h)))

-- what a reader tells of the last byte of a text
pub text-whole : (old new : Read) (byte : ℕ) (content : Option (List ℕ)) → first (Text old) [] ≡ None → new ≡ reads old (byte ∷ []) → is_end new.place ≡ true → new.kept ≡ content
    → first (Text old) (byte ∷ []) ≡ Some (record { unit = content_in new.kept; shows = text_shows content; rest = [] })
text-whole old new byte content none is end kept =
    text-last old byte none (ap (λ (r : Read). is_end r.place) (sym is) ∙ end)
    ∙ ap (λ (r : Read). Some (text_cut r.kept [])) (sym is)
    ∙ ap (λ (k : Option (List ℕ)). Some (record { unit = content_in new.kept; shows = text_shows k; rest = [] })) kept

pub text-more : (old new : Read) (byte : ℕ) → new ≡ reads old (byte ∷ []) → is_end new.place ≡ false → first (Text old) (byte ∷ []) ≡ None
text-more old new byte is going = text-none old (byte ∷ []) (ap (λ (r : Read). is_end r.place) (sym is) ∙ going)

-- Bytes before the end of a line

either : (test : Bool) (one other : Place) → is_end one ≡ false → is_end other ≡ false → is_end (cond test one other) ≡ false
either true one other a b = a
either false one other a b = b

stays_open : (place : Place) (byte : ℕ) → is_end place ≡ false → eqb byte 10 ≡ false → is_end (place_behind place byte) ≡ false
stays_open Start byte going other = either (eqb byte 46) Dot _ refl (either (eqb byte 13) Return Inside refl refl)
stays_open Dot byte going other = either (eqb byte 13) DotReturn Inside refl refl
stays_open DotReturn byte going other = rw other (either (eqb byte 13) Return Inside refl refl)
stays_open Inside byte going other = either (eqb byte 13) Return Inside refl refl
stays_open Return byte going other = rw other (either (eqb byte 13) Return Inside refl refl)
stays_open End byte going other = cc

reads_one : (read : Read) (byte : ℕ) → is_end read.place ≡ false → reads read (byte ∷ []) ≡ reads_byte read byte
reads_one read byte going = rw going refl

-- no byte of these is a LF
abbrev pub NoEnd : List ℕ → Type 0
NoEnd bytes = (k : ℕ) → k < length bytes → eqb (get_or bytes k 0) 10 ≡ true → ⊥

pub text-inside : (read : Read) (bytes : List ℕ) → is_end read.place ≡ false → NoEnd bytes → is_end (reads read bytes).place ≡ false
text-inside read [] going none = going
text-inside read (b ∷ bs) going none =
    let next : is_end (reads_byte read b).place ≡ false = stays_open read.place b going (false_from_ne_true (eqb b 10) (none 0 (omega arith))) in
    rw going (text-inside (reads_byte read b) bs next (λ k h e. none (suc k) (omega arith) e))

pub text-quiet : (read : Read) (bytes : List ℕ) → is_end read.place ≡ false → NoEnd bytes → GoesOn (Text read) bytes
text-quiet read [] going none = tt
text-quiet read (b ∷ bs) going none =
    let next : is_end (reads_byte read b).place ≡ false = stays_open read.place b going (false_from_ne_true (eqb b 10) (none 0 (omega arith))) in
    let one : reads read (b ∷ []) ≡ reads_byte read b = reads_one read b going in (
      refl,
      text-none read (b ∷ []) (ap (λ (r : Read). is_end r.place) one ∙ next),
      subst (λ (r : Read). GoesOn (Text r) bs) (sym one) (text-quiet (reads_byte read b) bs next (λ k h e. none (suc k) (omega arith) e)),
    )

pub text-taken : (read : Read) (bytes : List ℕ) → is_end read.place ≡ false → NoEnd bytes → taken read bytes ≡ length bytes
text-taken read bytes going none = takes_all read bytes (text-inside read bytes going none)
