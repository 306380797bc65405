-- Chains of calls, one link after another.
use Rattle.std.proofs.Common.{ℕ, zero, suc, ◌≡◌, ◌+◌, ◌<◌, List, [], ◌∷◌, length, take, drop, Option, Some, None, IfSome, refl, sym, ◌∙◌, ap, subst, arith, add-one}
use Rattle.std.specs.List.{slice_get}
use Rattle.port_model.specs.Chain.{Chain}
use Rattle.port_model.specs.Ports.{NeverFall}

-- the step of the next member, behind those of the first ones
pub chain-suc : {X S : Type 0} (Step : X → S → S → Type 0) (xs : List X) (i : ℕ) (x : X) (old mid new : S)
    → Chain Step (take i xs) old mid → slice_get xs i ≡ Some x → Step x mid new → Chain Step (take (suc i) xs) old new
chain-suc Step [] i x old mid new chain at step = cc
chain-suc Step (y ∷ xs) zero x old mid new chain at step =
    let e : x ≡ y = cc in (new, subst (λ z. Step z old new) e (subst (λ s. Step x s new) chain step), refl)
chain-suc Step (y ∷ xs) (suc i) x old mid new chain at step = (chain.0, chain.1, chain-suc Step xs i x chain.0 mid new chain.2 at step)

within-none : {X : Type 0} (xs : List X) (i : ℕ) → i < length xs → slice_get xs i ≡ None → ⊥
within-none [] i within at = omega arith
within-none (x ∷ xs) zero within at = cc
within-none (x ∷ xs) (suc i) within at = within-none xs i (omega (arith, within)) at

-- the same of a step whose member is known as it stands in a list
pub chain_more : {X S : Type 0} (Step : X → S → S → Type 0) (xs : List X) (i : ℕ) (found : Option X) (old mid new : S)
    → Chain Step (take i xs) old mid → i < length xs → slice_get xs i ≡ found → IfSome found (λ x. Step x mid new) → Chain Step (take (i + 1) xs) old new
chain_more Step xs i None old mid new chain within at step = absurd (within-none xs i within at)
chain_more Step xs i (Some x) old mid new chain within at step = rw add-one (chain-suc Step xs i x old mid new chain at step)

pub never_falls : (listen listen' listen'' : ℕ) (links links' links'' : ℕ → ℕ) → NeverFall listen links listen' links' → NeverFall listen' links' listen'' links'' → NeverFall listen links listen'' links''
never_falls listen listen' listen'' links links' links'' one two = record {
  listen = omega (arith, one.listen, two.listen);
  each = λ n. omega (arith, one.each n, two.each n);
}

-- Lists behind a place.

drop-more : {X : Type 0} (xs : List X) (i : ℕ) → drop (suc i) xs ≡ drop 1 (drop i xs)
drop-more [] zero = refl
drop-more [] (suc i) = refl
drop-more (x ∷ xs) zero = refl
drop-more (x ∷ xs) (suc i) = drop-more xs i

first-at : {X : Type 0} (xs : List X) (i : ℕ) → slice_get xs i ≡ slice_get (drop i xs) 0
first-at [] zero = refl
first-at [] (suc i) = refl
first-at (x ∷ xs) zero = refl
first-at (x ∷ xs) (suc i) = first-at xs i

pub rest-more : {X : Type 0} (xs ys : List X) (i k : ℕ) → drop i xs ≡ drop k ys → drop (i + 1) xs ≡ drop (k + 1) ys
rest-more xs ys i k e =
    simp add-one (drop-more xs i ∙ ap (drop 1) e ∙ sym (drop-more ys k))

pub rest-at : {X : Type 0} (xs ys : List X) (i k : ℕ) → drop i xs ≡ drop k ys → slice_get xs i ≡ slice_get ys k
rest-at xs ys i k e = first-at xs i ∙ ap (λ zs. slice_get zs 0) e ∙ sym (first-at ys k)
