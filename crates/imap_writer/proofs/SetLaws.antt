-- The runs of numbers have these numbers, and none goes on with the next.
use Rattle.std.proofs.Common.{◌≡◌, ◌≢◌, ℕ, zero, suc, ◌+◌, ◌-◌, ◌≤◌, Bool, true, false, cond, eqb, List, [], ◌∷◌, ◌++◌, refl, sym, ap, ◌∙◌, append_assoc, arith, eqb-true, false-eqb}
use Rattle.std.specs.Prelude.{flat_map}
use Rattle.std.specs.List.{range_with_len}
use Rattle.imap_writer.specs.declared.runs.Run.{Run}
use Rattle.imap_writer.specs.Sets.{members, runs, runs_behind, AreApart}

range_more : (a k : ℕ) → range_with_len a (suc k) ≡ range_with_len a k ++ (a + k) ∷ []
range_more a zero = let e : a ≡ a + 0 = omega arith in ap (λ x. x ∷ []) e
range_more a (suc k) =
    let e : (a + 1) + k ≡ a + suc k = omega arith in
    ap (λ xs. a ∷ xs) (range_more (a + 1) k ∙ ap (λ x. range_with_len (a + 1) k ++ x ∷ []) e)

-- a run with one more number
longer : (first last n : ℕ) → first ≤ last → n ≡ last + 1 → members (record { first = first; last = n }) ≡ members (record { first = first; last = last }) ++ n ∷ []
longer first last n within next =
    let more : n - first + 1 ≡ suc (last - first + 1) = omega arith in
    let at : first + (last - first + 1) ≡ n = omega arith in
    ap (range_with_len first) more ∙ range_more first (last - first + 1) ∙ ap (λ x. range_with_len first (last - first + 1) ++ x ∷ []) at

alone : (n : ℕ) → members (record { first = n; last = n }) ≡ n ∷ []
alone n = let one : n - n + 1 ≡ 1 = omega arith in ap (range_with_len n) one

-- a choice between what goes on with the run and what does not
goes_on : (b : Bool) (run : Run) (n : ℕ) (ns : List ℕ) → eqb n (run.last + 1) ≡ b → run.first ≤ run.last
    → flat_map members (runs_behind (record { first = run.first; last = n }) ns) ≡ members (record { first = run.first; last = n }) ++ ns
    → flat_map members (runs_behind (record { first = n; last = n }) ns) ≡ members (record { first = n; last = n }) ++ ns
    → flat_map members (cond b (runs_behind (record { first = run.first; last = n }) ns) (run ∷ runs_behind (record { first = n; last = n }) ns)) ≡ members run ++ n ∷ ns
goes_on true run n ns is within more apart =
    more ∙ ap (λ xs. xs ++ ns) (longer run.first run.last n within (eqb-true n (run.last + 1) is)) ∙ append_assoc (members run) (n ∷ []) ns
goes_on false run n ns is within more apart = ap (λ xs. members run ++ xs) (apart ∙ ap (λ xs. xs ++ ns) (alone n))

members-behind : (ns : List ℕ) (run : Run) → run.first ≤ run.last → flat_map members (runs_behind run ns) ≡ members run ++ ns
members-behind [] run within = refl
members-behind (n ∷ ns) run within =
    elim (eqb n (run.last + 1)) as (λ b. eqb n (run.last + 1) ≡ b → flat_map members (cond b (runs_behind (record { first = run.first; last = n }) ns) (run ∷ runs_behind (record { first = n; last = n }) ns)) ≡ members run ++ n ∷ ns) [
      | true ↦ λ is. goes_on true run n ns is within (members-behind ns (record { first = run.first; last = n }) (let next = eqb-true n (run.last + 1) is in omega arith)) (members-behind ns (record { first = n; last = n }) (omega arith))
      | false ↦ λ is. ap (λ xs. members run ++ xs) (members-behind ns (record { first = n; last = n }) (omega arith) ∙ ap (λ xs. xs ++ ns) (alone n))
    ] refl

pub members-runs : (ns : List ℕ) → flat_map members (runs ns) ≡ ns
members-runs [] = refl
members-runs (n ∷ ns) = members-behind ns (record { first = n; last = n }) (omega arith) ∙ ap (λ xs. xs ++ ns) (alone n)

-- The first of the runs begins where the run does, so what is before it can be told from it.
apart-behind : (ns : List ℕ) (run before : Run) → run.first ≢ before.last + 1 → AreApart (before ∷ runs_behind run ns)
apart-behind [] run before ne = (ne, tt)
apart-behind (n ∷ ns) run before ne =
    elim (eqb n (run.last + 1)) as (λ b. eqb n (run.last + 1) ≡ b → AreApart (before ∷ cond b (runs_behind (record { first = run.first; last = n }) ns) (run ∷ runs_behind (record { first = n; last = n }) ns))) [
      | true ↦ λ is. apart-behind ns (record { first = run.first; last = n }) before ne
      | false ↦ λ is. (ne, apart-behind ns (record { first = n; last = n }) run (false-eqb n (run.last + 1) (sym is)))
    ] refl

behind_apart : (run : Run) (ns : List ℕ) → AreApart (runs_behind run ns)
behind_apart run [] = tt
behind_apart run (n ∷ ns) =
    elim (eqb n (run.last + 1)) as (λ b. eqb n (run.last + 1) ≡ b → AreApart (cond b (runs_behind (record { first = run.first; last = n }) ns) (run ∷ runs_behind (record { first = n; last = n }) ns))) [
      | true ↦ λ is. behind_apart (record { first = run.first; last = n }) ns
      | false ↦ λ is. apart-behind ns (record { first = n; last = n }) run (false-eqb n (run.last + 1) (sym is))
    ] refl

pub runs-apart : (ns : List ℕ) → AreApart (runs ns)
runs-apart [] = tt
runs-apart (n ∷ ns) = behind_apart (record { first = n; last = n }) ns
