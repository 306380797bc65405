-- The texts of flags, each of them once.
use Rattle.std.proofs.Common.{Bool, true, false, not, cond, List, [], ◌∷◌}
use Rattle.std.specs.List.{AllByRecursion, filter}
use Rattle.imap_grammar.specs.declared.flags.Flag.{Flag}
use Rattle.mail_world.specs.Flags.{distinct, same_flag}

kept_one : (P : Flag → Type 0) (x : Flag) (kept : List Flag) (b : Bool) → P x → AllByRecursion P kept → AllByRecursion P (cond b (x ∷ kept) kept)
kept_one P x kept true one all = (one, all)
kept_one P x kept false one all = all

all_kept : (P : Flag → Type 0) (g : Flag → Bool) (flags : List Flag) → AllByRecursion P flags → AllByRecursion P (filter g flags)
all_kept P g [] all = tt
all_kept P g (x ∷ flags) all = kept_one P x (filter g flags) (g x) all.0 (all_kept P g flags all.1)

-- what holds of all flags holds of each of them once
pub all_distinct : (P : Flag → Type 0) (flags : List Flag) → AllByRecursion P flags → AllByRecursion P (distinct flags)
all_distinct P [] all = tt
all_distinct P (x ∷ flags) all = (all.0, all_kept P (λ other. not (same_flag x other)) (distinct flags) (all_distinct P flags all.1))
