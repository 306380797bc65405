-- Moments as days and seconds where a zone is.
use Rattle.std.proofs.Common.{◌≡◌, ℕ, arith, ℤ, pos, ◌+ℤ◌, ◌-ℤ◌, ◌*ℤ◌, FitsSigned, w64}
use Rattle.std.specs.Int.{int_div_euclid, int_rem_euclid}
use Rattle.jiff_core.proofs.SignedLemmas.{signed_arith}
use Rattle.date_grammar.specs.declared.parts.Stamp.{Stamp}
use Rattle.date_grammar.specs.Stamps.{HasPrint}

-- the zone moves only the second of the day
pub day_apart : (s z : ℤ) → int_div_euclid (s +ℤ pos 60 *ℤ z) (pos 86400) ≡ int_div_euclid s (pos 86400) +ℤ int_div_euclid (int_rem_euclid s (pos 86400) +ℤ pos 60 *ℤ z) (pos 86400)
day_apart s z = omega (arith, signed_arith)

pub moment_at : (s z day ahead : ℤ) (second : ℕ) → day ≡ int_div_euclid (s +ℤ pos 60 *ℤ z) (pos 86400) → pos second ≡ int_rem_euclid (s +ℤ pos 60 *ℤ z) (pos 86400) →
    ahead ≡ z → day *ℤ pos 86400 +ℤ pos second -ℤ pos 60 *ℤ ahead ≡ s
moment_at s z day ahead second d r e = omega (arith, signed_arith)

-- a moment that has a print is near enough to be moved by its zone
pub local_fits : (stamp : Stamp) → HasPrint stamp → FitsSigned w64 (stamp.seconds +ℤ pos 60 *ℤ stamp.zone)
local_fits stamp h = omega (arith, signed_arith, h.year.0, h.year.1, h.zone.0, h.zone.1)

pub day_by_parts : (s z a b m : ℤ) (r : ℕ) → a ≡ int_div_euclid s (pos 86400) → pos r ≡ int_rem_euclid s (pos 86400) → m ≡ pos r +ℤ pos 60 *ℤ z →
    b ≡ int_div_euclid m (pos 86400) → a +ℤ b ≡ int_div_euclid (s +ℤ pos 60 *ℤ z) (pos 86400)
day_by_parts s z a b m r h i j k = omega (arith, signed_arith)
