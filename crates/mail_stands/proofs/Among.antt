-- Lists of numbers, none of which comes twice.
use Rattle.std.proofs.Common.{ℕ, ◌≡◌, ◌+◌, ◌==◌, ◌&&◌, ◌||◌, Bool, true, false, cond, not, List, [], ◌∷◌, length, refl, sym, ap, subst, ◌∙◌, arith}
use Rattle.std.specs.List.{AllByRecursion, filter, list_any}
use Rattle.std.proofs.lemmas.Bool.{true≢false, false≢true, eqb-true, eq-eqb, or_left, or_right}
use Rattle.mail_world.specs.Worlds.{is_among}
use Rattle.mail_stands.proofs.Lists.{all-filter}

-- ---- what some number passes

pub among_any : (p : ℕ → Bool) (xs : List ℕ) (i : ℕ) → is_among i xs ≡ true → p i ≡ true → list_any p xs ≡ true
among_any p [] i e passes = absurd (false≢true e)
among_any p (x ∷ xs) i e passes = by (x == i) refl e (among_any p xs i)
  where
    by : (b : Bool) → (x == i) ≡ b → (b || is_among i xs) ≡ true → (is_among i xs ≡ true → p i ≡ true → list_any p xs ≡ true) → (p x || list_any p xs) ≡ true
    by true s h rest = or_left (p x) (list_any p xs) (subst (λ n. p n ≡ true) (sym (eqb-true x i s)) passes)
    by false s h rest = or_right (p x) (list_any p xs) (rest h passes)

pub any_among : {P : Type 0} (p : ℕ → Bool) (xs : List ℕ) → list_any p xs ≡ true → ((i : ℕ) → is_among i xs ≡ true → p i ≡ true → P) → P
any_among p [] e use_it = absurd (false≢true e)
any_among {P} p (x ∷ xs) e use_it = by (p x) refl e (λ h. any_among p xs h (λ i there passes. use_it i (or_right (x == i) (is_among i xs) there) passes))
  where
    by : (b : Bool) → p x ≡ b → (b || list_any p xs) ≡ true → (list_any p xs ≡ true → P) → P
    by true s h rest = use_it x (or_left (x == x) (is_among x xs) (eq-eqb x x refl)) s
    by false s h rest = rest h

-- none passes where each of them fails
pub none_among : (p : ℕ → Bool) (xs : List ℕ) → ((i : ℕ) → is_among i xs ≡ true → p i ≡ false) → list_any p xs ≡ false
none_among p xs fails = by (list_any p xs) refl
  where
    by : (b : Bool) → list_any p xs ≡ b → b ≡ false
    by false e = refl
    by true e = any_among p xs e (λ i there passes. absurd (true≢false (sym passes ∙ fails i there)))

pub each_fails : (p : ℕ → Bool) (xs : List ℕ) (i : ℕ) → list_any p xs ≡ false → is_among i xs ≡ true → p i ≡ false
each_fails p xs i none there = by (p i) refl
  where
    by : (b : Bool) → p i ≡ b → b ≡ false
    by false e = refl
    by true e = absurd (true≢false (sym (among_any p xs i there e) ∙ none))

pub among_filter : (p : ℕ → Bool) (xs : List ℕ) (i : ℕ) → is_among i (filter p xs) ≡ (p i && is_among i xs)
among_filter p [] i = by (p i)
  where
    by : (b : Bool) → false ≡ (b && false)
    by true = refl
    by false = refl
among_filter p (x ∷ xs) i = by (p x) (x == i) refl (λ s. ap p (eqb-true x i s)) (among_filter p xs i)
  where
    after : (c : Bool) → true ≡ c → (true || is_among i (filter p xs)) ≡ (c && true)
    after true e = refl
    after false e = absurd (true≢false e)

    gone : (c : Bool) → false ≡ c → is_among i (filter p xs) ≡ (c && is_among i xs) → is_among i (filter p xs) ≡ (c && true)
    gone false e rest = rest
    gone true e rest = absurd (false≢true e)

    by : (b c : Bool) → (x == i) ≡ c → (c ≡ true → b ≡ p i) → is_among i (filter p xs) ≡ (p i && is_among i xs) → is_among i (cond b (x ∷ filter p xs) (filter p xs)) ≡ (p i && (c || is_among i xs))
    by true true s same rest = ap (λ d. d || is_among i (filter p xs)) s ∙ after (p i) (same refl)
    by true false s same rest = ap (λ d. d || is_among i (filter p xs)) s ∙ rest
    by false true s same rest = gone (p i) (same refl) rest
    by false false s same rest = rest

-- ---- none comes twice

abbrev pub Apart : List ℕ → Type 0
Apart [] = Unit {0}
Apart (x ∷ xs) = AllByRecursion (λ other. (x == other) ≡ false) xs × Apart xs

pub apart_filter : (p : ℕ → Bool) (xs : List ℕ) → Apart xs → Apart (filter p xs)
apart_filter p [] apart = tt
apart_filter p (x ∷ xs) apart = by (p x) (all-filter (λ other. (x == other) ≡ false) p xs apart.0) (apart_filter p xs apart.1)
  where
    by : (b : Bool) → AllByRecursion (λ other. (x == other) ≡ false) (filter p xs) → Apart (filter p xs) → Apart (cond b (x ∷ filter p xs) (filter p xs))
    by true all rest = (all, rest)
    by false all rest = rest

swapped : (a b : ℕ) → (a == b) ≡ false → (b == a) ≡ false
swapped a b e = by (b == a) refl
  where
    by : (c : Bool) → (b == a) ≡ c → c ≡ false
    by false s = refl
    by true s = absurd (true≢false (sym (eq-eqb a b (sym (eqb-true b a s))) ∙ e))

pub not_behind : (x : ℕ) (xs : List ℕ) → AllByRecursion (λ other. (x == other) ≡ false) xs → is_among x xs ≡ false
not_behind x [] all = refl
not_behind x (y ∷ xs) all = ap (λ b. b || is_among x xs) (swapped x y all.0) ∙ not_behind x xs all.1

abbrev without_number : ℕ → List ℕ → List ℕ
without_number x xs = filter (λ y. not (y == x)) xs

kept_all : (x : ℕ) (xs : List ℕ) → is_among x xs ≡ false → without_number x xs ≡ xs
kept_all x [] e = refl
kept_all x (y ∷ xs) e = by (y == x) e (kept_all x xs)
  where
    by : (b : Bool) → (b || is_among x xs) ≡ false → (is_among x xs ≡ false → without_number x xs ≡ xs) → cond (not b) (y ∷ without_number x xs) (without_number x xs) ≡ y ∷ xs
    by true q rest = absurd (true≢false q)
    by false q rest = ap (λ l. y ∷ l) (rest q)

one_less : (x : ℕ) (xs : List ℕ) → Apart xs → is_among x xs ≡ true → length xs ≡ length (without_number x xs) + 1
one_less x [] apart e = absurd (false≢true e)
one_less x (y ∷ xs) apart e = by (y == x) refl e (one_less x xs apart.1)
  where
    by : (b : Bool) → (y == x) ≡ b → (b || is_among x xs) ≡ true → (is_among x xs ≡ true → length xs ≡ length (without_number x xs) + 1)
        → length (y ∷ xs) ≡ length (cond (not b) (y ∷ without_number x xs) (without_number x xs)) + 1
    by true s q rest =
        let same = ap length (kept_all x xs (subst (λ n. is_among n xs ≡ false) (eqb-true y x s) (not_behind y xs apart.0))) in
        omega (arith, same)
    by false s q rest = let less = rest q in omega (arith, less)

-- Two lists with the same numbers are as long.
pub same_length : (xs ys : List ℕ) → Apart xs → Apart ys → ((i : ℕ) → is_among i xs ≡ is_among i ys) → length xs ≡ length ys
same_length [] [] p q same = refl
same_length [] (y ∷ ys) p q same = absurd (false≢true (same y ∙ or_left (y == y) (is_among y ys) (eq-eqb y y refl)))
same_length (x ∷ xs) ys p q same =
    let rest = same_length xs (without_number x ys) p.1 (apart_filter (λ y. not (y == x)) ys q) (λ i. others i (x == i) refl) in
    let less = one_less x ys q (sym (same x) ∙ or_left (x == x) (is_among x xs) (eq-eqb x x refl)) in
    omega (arith, rest, less)
  where
    others : (i : ℕ) (b : Bool) → (x == i) ≡ b → is_among i xs ≡ is_among i (without_number x ys)
    others i true s =
        subst (λ n. is_among n xs ≡ is_among n (without_number x ys)) (eqb-true x i s)
        (not_behind x xs p.0 ∙ sym (among_filter (λ y. not (y == x)) ys x ∙ ap (λ b. not b && is_among x ys) (eq-eqb x x refl)))
    others i false s =
        ap (λ b. b || is_among i xs) (sym s) ∙ (same i ∙ sym (among_filter (λ y. not (y == x)) ys i ∙ ap (λ b. not b && is_among i ys) (swapped x i s)))
