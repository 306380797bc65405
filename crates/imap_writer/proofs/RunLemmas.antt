-- How runs are printed one after another.
use Rattle.std.proofs.Common.{◌≡◌, ℕ, ◌+◌, Bool, true, false, cond, eqb, List, [], ◌∷◌, ◌++◌, ◌∙◌, append_assoc}
use Rattle.std.specs.Prelude.{flat_map, codes}
use Rattle.imap_writer.specs.declared.runs.Run.{Run}
use Rattle.imap_writer.specs.Sets.{run_text, runs_behind, runs_text}

-- a choice between lists of runs, each of which begins with a run
behind_comma : (b : Bool) (xs ys : List Run)
    → flat_map (λ r. codes "," ++ run_text r) xs ≡ codes "," ++ runs_text xs
    → flat_map (λ r. codes "," ++ run_text r) ys ≡ codes "," ++ runs_text ys
    → flat_map (λ r. codes "," ++ run_text r) (cond b xs ys) ≡ codes "," ++ runs_text (cond b xs ys)
behind_comma true xs ys p q = p
behind_comma false xs ys p q = q

one_behind_comma : (run : Run) (rs : List Run) → flat_map (λ r. codes "," ++ run_text r) (run ∷ rs) ≡ codes "," ++ runs_text (run ∷ rs)
one_behind_comma run rs = append_assoc (codes ",") (run_text run) (flat_map (λ r. codes "," ++ run_text r) rs)

pub runs_behind_comma : (run : Run) (ns : List ℕ) → flat_map (λ r. codes "," ++ run_text r) (runs_behind run ns) ≡ codes "," ++ runs_text (runs_behind run ns)
runs_behind_comma run [] = one_behind_comma run []
runs_behind_comma run (n ∷ ns) =
    behind_comma (eqb n (run.last + 1)) (runs_behind (record { first = run.first; last = n }) ns) (run ∷ runs_behind (record { first = n; last = n }) ns)
    (runs_behind_comma (record { first = run.first; last = n }) ns)
    (one_behind_comma run (runs_behind (record { first = n; last = n }) ns))

-- A run that ended, written with its comma, and the runs behind it.
pub ended : (old new : List ℕ) (run : Run) (n : ℕ) (ns : List ℕ) → eqb n (run.last + 1) ≡ false → new ≡ (old ++ run_text run) ++ codes ","
    → new ++ runs_text (runs_behind (record { first = n; last = n }) ns) ≡ old ++ runs_text (runs_behind run (n ∷ ns))
ended old new run n ns apart is =
    let next : Run = record { first = n; last = n } in
    let behind = runs_behind next ns in
    rw (apart, is, runs_behind_comma next ns)
    (append_assoc (old ++ run_text run) (codes ",") (runs_text behind) ∙ append_assoc old (run_text run) (codes "," ++ runs_text behind))
