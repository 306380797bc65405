-- The words of SELECT, taken from the last.
use Rattle.std.proofs.Common.{◌≡◌, Bool, true, false, List, [], ◌∷◌, ◌++◌, refl, sym, ap, ◌∙◌, Option, Some, None}
use Rattle.std.specs.Prelude.{◌||◌}
use Rattle.imap_grammar.specs.declared.selecting.Resync.{Resync}
use Rattle.imap_grammar.specs.declared.selecting.Opening.{Opening}
use Rattle.imap_grammar.specs.declared.selecting.Opening.TheVariants.{Condstore, Qresync}
use Rattle.imap_grammar.specs.Selecting.{is_condstore, some_condstore, unless_later, last_resync}

-- what was found behind, or else before
abbrev pub or_else : Option Resync → Option Resync → Option Resync
or_else (Some found) before = Some found
or_else None before = before

or_assoc : (a b c : Bool) → (a || (b || c)) ≡ ((a || b) || c)
or_assoc true b c = refl
or_assoc false b c = refl

or-false : (a : Bool) → (a || false) ≡ a
or-false true = refl
or-false false = refl

pub some_condstore-push : (os : List Opening) (o : Opening) → some_condstore (os ++ o ∷ []) ≡ (some_condstore os || is_condstore o)
some_condstore-push [] o = or-false (is_condstore o)
some_condstore-push (p ∷ os) o = ap (λ b. is_condstore p || b) (some_condstore-push os o) ∙ or_assoc (is_condstore p) (some_condstore os) (is_condstore o)

unless_later-or : (found : Option Resync) (before : Option Resync) (o p : Opening) → unless_later (or_else (unless_later found o) before) p ≡ or_else (unless_later found o) (unless_later before p)
unless_later-or (Some found) before o p = refl
unless_later-or None before Condstore p = refl
unless_later-or None before (Qresync what) p = refl

or-none : (found : Option Resync) → or_else found None ≡ found
or-none (Some found) = refl
or-none None = refl

found-push : (found : Option Resync) (os : List Opening) (o : Opening) → or_else found (last_resync (os ++ o ∷ [])) ≡ or_else (unless_later found o) (last_resync os)
found-push (Some found) os o = refl
found-push None [] o = sym (or-none (unless_later None o))
found-push None (p ∷ os) o = ap (λ later. unless_later later p) (found-push None os o) ∙ unless_later-or None (last_resync os) o p

-- One word is taken from the end.
pub condstore_taken : (all rest : List Opening) (o : Opening) (found : Bool) → all ≡ rest ++ o ∷ [] → (some_condstore rest || (is_condstore o || found)) ≡ (some_condstore all || found)
condstore_taken all rest o found is = or_assoc (some_condstore rest) (is_condstore o) found ∙ sym (ap (λ b. b || found) (ap some_condstore is ∙ some_condstore-push rest o))

pub resync_taken : (all rest : List Opening) (o : Opening) (found : Option Resync) → all ≡ rest ++ o ∷ [] → or_else (unless_later found o) (last_resync rest) ≡ or_else found (last_resync all)
resync_taken all rest o found is = sym (found-push found rest o) ∙ sym (ap (λ xs. or_else found (last_resync xs)) is)
