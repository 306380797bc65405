-- What `numbered` gives: where tests agree, over joined lists, where all pass or none.
use Rattle.std.proofs.Common.{◌≡◌, ℕ, zero, suc, ◌+◌, ◌-◌, ◌<◌, ◌≤◌, Bool, true, false, cond, List, [], ◌∷◌, ◌++◌, length, get_or, take, drop, refl, sym, ap, ◌∙◌, arith}
use Rattle.std.specs.List.{filter, slice_range}
use Rattle.std.proofs.lemmas.List.{append-nil, length-drop, length-take-le, take-append-drop}
use Rattle.session_view.specs.Resolving.{numbered}

pub numbered_same : (p q : ℕ → Bool) (a : ℕ) (xs : List ℕ) → ((k : ℕ) → a ≤ k → k < a + length xs → p k ≡ q k) → numbered p a xs ≡ numbered q a xs
numbered_same p q a [] h = refl
numbered_same p q a (x ∷ xs) h =
    let here : p a ≡ q a = h a (omega arith) (omega arith) in
    let rest : numbered p (a + 1) xs ≡ numbered q (a + 1) xs = numbered_same p q (a + 1) xs (λ k low high. h k (omega arith) (omega arith)) in
    rw (here, rest) refl

pub numbered-append : (p : ℕ → Bool) (a : ℕ) (xs ys : List ℕ) → numbered p a (xs ++ ys) ≡ numbered p a xs ++ numbered p (a + length xs) ys
numbered-append p a [] ys = let e : a ≡ a + 0 = omega arith in ap (λ n. numbered p n ys) e
numbered-append p a (x ∷ xs) ys =
    let e : a + 1 + length xs ≡ a + suc (length xs) = omega arith in
    let both = numbered-append p (a + 1) xs ys ∙ ap (λ n. numbered p (a + 1) xs ++ numbered p n ys) e in
    elim (p a) as (λ b. cond b (x ∷ numbered p (a + 1) (xs ++ ys)) (numbered p (a + 1) (xs ++ ys)) ≡ cond b (x ∷ numbered p (a + 1) xs) (numbered p (a + 1) xs) ++ numbered p (a + suc (length xs)) ys) [ true ↦ ap (λ l. x ∷ l) both | false ↦ both ]

pub numbered_all : (p : ℕ → Bool) (a : ℕ) (xs : List ℕ) → ((k : ℕ) → a ≤ k → k < a + length xs → p k ≡ true) → numbered p a xs ≡ xs
numbered_all p a [] h = refl
numbered_all p a (x ∷ xs) h =
    let here : p a ≡ true = h a (omega arith) (omega arith) in
    let rest : numbered p (a + 1) xs ≡ xs = numbered_all p (a + 1) xs (λ k low high. h k (omega arith) (omega arith)) in
    rw (here, rest) refl

pub numbered_none : (p : ℕ → Bool) (a : ℕ) (xs : List ℕ) → ((k : ℕ) → a ≤ k → k < a + length xs → p k ≡ false) → numbered p a xs ≡ []
numbered_none p a [] h = refl
numbered_none p a (x ∷ xs) h =
    let here : p a ≡ false = h a (omega arith) (omega arith) in
    let rest : numbered p (a + 1) xs ≡ [] = numbered_none p (a + 1) xs (λ k low high. h k (omega arith) (omega arith)) in
    rw (here, rest) refl

-- numbers that are one greater
pub numbered_shift : (q : ℕ → Bool) (a : ℕ) (xs : List ℕ) → numbered (λ place. q (place + 1)) a xs ≡ numbered q (a + 1) xs
numbered_shift q a [] = refl
numbered_shift q a (x ∷ xs) = rw (numbered_shift q (a + 1) xs) refl

-- a test of the number that is a test of what has it
pub numbered_filter : (p q : ℕ → Bool) (a : ℕ) (xs : List ℕ) → ((k : ℕ) → k < length xs → p (a + k) ≡ q (get_or xs k 0)) → numbered p a xs ≡ filter q xs
numbered_filter p q a [] h = refl
numbered_filter p q a (x ∷ xs) h =
    let start : a ≡ a + 0 = omega arith in
    let here : p a ≡ q x = ap p start ∙ h 0 (omega arith) in
    let next : (k : ℕ) → k < length xs → p (a + 1 + k) ≡ q (get_or xs k 0) = λ k lt. (let e : a + 1 + k ≡ a + suc k = omega arith in ap p e ∙ h (suc k) (omega arith)) in
    let rest : numbered p (a + 1) xs ≡ filter q xs = numbered_filter p q (a + 1) xs next in
    rw (here, rest) refl

take_nil : (n : ℕ) → take {A = ℕ} n [] ≡ []
take_nil zero = refl
take_nil (suc n) = refl

drop_nil : (n : ℕ) → drop {A = ℕ} n [] ≡ []
drop_nil zero = refl
drop_nil (suc n) = refl

-- a list up to a later place
take_split : (xs : List ℕ) (a b : ℕ) → a ≤ b → take b xs ≡ take a xs ++ slice_range xs a b
take_split [] a b h = rw (take_nil b, take_nil a, drop_nil a, take_nil (b - a)) refl
take_split (x ∷ xs) zero zero h = refl
take_split (x ∷ xs) zero (suc b) h = let e : suc b ≡ suc b - 0 = omega arith in ap (λ n. take n (x ∷ xs)) e
take_split (x ∷ xs) (suc a) zero h = absurd (omega arith)
take_split (x ∷ xs) (suc a) (suc b) h =
    let e : b - a ≡ suc b - suc a = omega arith in
    ap (λ l. x ∷ l) (take_split xs a b (omega arith)) ∙ ap (λ n. x ∷ (take a xs ++ take n (drop a xs))) e

length_range : (xs : List ℕ) (a b : ℕ) → a ≤ b → b ≤ length xs → length (slice_range xs a b) ≡ b - a
length_range xs a b low high = let ld = length-drop a xs in length-take-le (b - a) (drop a xs) (omega (arith, ld))

-- the first places up to `from` pass no more, and those up to `end` all
pub numbered_more : (p : ℕ → Bool) (xs : List ℕ) (done from end : ℕ) → done ≤ from → from ≤ end → end ≤ length xs → ((k : ℕ) → done ≤ k → k < from → p k ≡ false) → ((k : ℕ) → from ≤ k → k < end → p k ≡ true) → numbered p 0 (take end xs) ≡ numbered p 0 (take done xs) ++ slice_range xs from end
numbered_more p xs done from end low mid high none all =
    let la : length (take done xs) ≡ done = length-take-le done xs (omega arith) in
    let lf : length (take from xs) ≡ from = length-take-le from xs (omega arith) in
    let lb : length (slice_range xs done from) ≡ from - done = length_range xs done from low (omega arith) in
    let lc : length (slice_range xs from end) ≡ end - from = length_range xs from end mid high in
    let gap : numbered p (0 + length (take done xs)) (slice_range xs done from) ≡ [] = numbered_none p _ _ (λ k a b. none k (omega arith) (omega arith)) in
    let run : numbered p (0 + length (take from xs)) (slice_range xs from end) ≡ slice_range xs from end = numbered_all p _ _ (λ k a b. all k (omega arith) (omega arith)) in
    let front : numbered p 0 (take from xs) ≡ numbered p 0 (take done xs) =
    ap (numbered p 0) (take_split xs done from low) ∙ numbered-append p 0 (take done xs) (slice_range xs done from) ∙ ap (λ l. numbered p 0 (take done xs) ++ l) gap ∙ append-nil (numbered p 0 (take done xs)) in
    ap (numbered p 0) (take_split xs from end mid) ∙ numbered-append p 0 (take from xs) (slice_range xs from end) ∙ ap (λ l. numbered p 0 (take from xs) ++ l) run ∙ ap (λ l. l ++ slice_range xs from end) front

-- none passes from `done` on
pub numbered_done : (p : ℕ → Bool) (xs : List ℕ) (done : ℕ) → done ≤ length xs → ((k : ℕ) → done ≤ k → k < length xs → p k ≡ false) → numbered p 0 xs ≡ numbered p 0 (take done xs)
numbered_done p xs done high none =
    let la : length (take done xs) ≡ done = length-take-le done xs high in
    let ld : length (drop done xs) ≡ length xs - done = length-drop done xs in
    let gap : numbered p (0 + length (take done xs)) (drop done xs) ≡ [] = numbered_none p _ _ (λ k a b. none k (omega arith) (omega arith)) in
    ap (numbered p 0) (sym (take-append-drop done xs)) ∙ numbered-append p 0 (take done xs) (drop done xs) ∙ ap (λ l. numbered p 0 (take done xs) ++ l) gap ∙ append-nil (numbered p 0 (take done xs))
