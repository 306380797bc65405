-- Where a UID stands in a view, and a session's part among the parts.
use Rattle.std.proofs.Common.{◌≡◌, ℕ, zero, suc, ◌+◌, ◌<◌, ◌≤◌, Bool, true, false, List, [], ◌∷◌, Some, None, length, get_or, set, refl, sym, ap, ◌∙◌, arith, inl, inr}
use Rattle.std.specs.Prelude.{◌==◌, ◌||◌, cond}
use Rattle.std.specs.List.{position_from, find, list_any}
use Rattle.std.specs.Option.{is_some}
use Rattle.std.proofs.lemmas.Bool.{ne_eqb, eq-eqb, cases_lt}
use Rattle.std.proofs.lemmas.Map.Keys.{below_from_sorted}
use Rattle.session_view.specs.Numbers.{number_of}
use Rattle.session_view.specs.declared.sessions.SessionPart.{SessionPart}
use Rattle.session_view.specs.declared.sessions.State.{State}
use Rattle.session_view.specs.Order.{Ascend}
use Rattle.session_view.specs.Parts.{has_number, with_state}

-- the first place of a number, where none before it is that number
pub found_at : (uid first : ℕ) (xs : List ℕ) (i : ℕ) → i < length xs → get_or xs i 0 ≡ uid → ((k : ℕ) → k < i → get_or xs k 0 ≡ uid → ⊥) → position_from (λ other. other == uid) first xs ≡ Some (first + i)
found_at uid first [] i lt is before = absurd (omega arith)
found_at uid first (x ∷ xs) zero lt is before =
    let e : first ≡ first + 0 = omega arith in
    rw (eq-eqb x uid is) (ap (λ n. Some n) e)
found_at uid first (x ∷ xs) (suc i) lt is before =
    let e : first + 1 + i ≡ first + suc i = omega arith in
    rw (ne_eqb x uid (before 0 (omega arith))) (found_at uid (first + 1) xs i (omega arith) is (λ k h. before (suc k) (omega arith)) ∙ ap (λ n. Some n) e)

pub not_found : (uid first : ℕ) (xs : List ℕ) → ((k : ℕ) → k < length xs → get_or xs k 0 ≡ uid → ⊥) → position_from (λ other. other == uid) first xs ≡ None
not_found uid first [] none = refl
not_found uid first (x ∷ xs) none = rw (ne_eqb x uid (none 0 (omega arith))) (not_found uid (first + 1) xs (λ k h. none (suc k) (omega arith)))

pub unnumbered : (number : ℕ) (state : State) (parts : List SessionPart) (first : ℕ) → position_from (has_number number) first parts ≡ None → with_state number state parts ≡ parts
unnumbered number state [] first none = refl
unnumbered number state (p ∷ parts) first none = by_test (p.number == number) refl none (unnumbered number state parts (first + 1))
  where
    by_test : (b : Bool) → (p.number == number) ≡ b → cond b (Some first) (position_from (has_number number) (first + 1) parts) ≡ None → (position_from (has_number number) (first + 1) parts ≡ None → with_state number state parts ≡ parts) → with_state number state (p ∷ parts) ≡ p ∷ parts
    by_test true is none rest = absurd cc
    by_test false is none rest = rw (is, rest none) refl

pub put_at : (number : ℕ) (state : State) (parts : List SessionPart) (i : ℕ) (d : SessionPart) → i < length parts → has_number number (get_or parts i d) ≡ true → ((k : ℕ) → k < i → has_number number (get_or parts k d) ≡ false) → set parts i (record { number = number; state = state }) ≡ with_state number state parts
put_at number state [] i d lt is before = absurd (omega arith)
put_at number state (p ∷ parts) zero d lt is before = rw is refl
put_at number state (p ∷ parts) (suc i) d lt is before = rw (before 0 (omega arith)) (ap (λ l. p ∷ l) (put_at number state parts i d (omega arith) is (λ k h. before (suc k) (omega arith))))

pub found_any : (p : SessionPart → Bool) (parts : List SessionPart) → is_some (find p parts) ≡ list_any p parts
found_any p [] = refl
found_any p (x ∷ parts) = elim (p x) as (λ b. is_some (cond b (Some x) (find p parts)) ≡ (b || list_any p parts)) [ true ↦ refl | false ↦ found_any p parts ]

pub number_found : (uids : List ℕ) (uid place : ℕ) → Ascend uids → place < length uids → get_or uids place 0 ≡ uid → Some (place + 1) ≡ number_of uid uids
number_found uids uid place up lt is =
    let e : place + 1 ≡ 1 + place = omega arith in
    ap (λ n. Some n) e ∙ sym (found_at uid 1 uids place lt is (λ k h same. absurd (omega (arith, below_from_sorted uids k place 0 up h lt))))

pub number_absent : (uids : List ℕ) (uid place : ℕ) → ((k : ℕ) → k < place → get_or uids k 0 < uid) → ((k : ℕ) → place ≤ k → k < length uids → uid < get_or uids k 0) → None ≡ number_of uid uids
number_absent uids uid place below above =
    sym (not_found uid 1 uids (λ k lt same. elim (cases_lt k place) [ inl a ↦ absurd (omega (arith, below k a)) | inr a ↦ absurd (omega (arith, above k a lt)) ]))
