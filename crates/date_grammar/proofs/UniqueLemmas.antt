-- A moment has one date in a zone.
use Rattle.std.proofs.Common.{◌≡◌, ℕ, ◌<◌, Bool, true, false, min, cond, List, refl, sym, ◌∙◌, ap, arith, ℤ, pos, neg_ℤ, ◌+ℤ◌, ◌-ℤ◌, ◌*ℤ◌}
use Rattle.jiff_core.specs.declared.civil.date.Date.{Date}
use Rattle.jiff_core.proofs.SignedLemmas.{signed_arith}
use Rattle.jiff_core.proofs.DateLemmas.{epoch_day_injective}
use Rattle.date_grammar.specs.declared.parts.CalendarDay.{CalendarDay}
use Rattle.date_grammar.specs.declared.parts.TimeOfDay.{TimeOfDay}
use Rattle.date_grammar.specs.declared.parts.Zone.{Zone}
use Rattle.date_grammar.specs.declared.parts.DateTime.{DateTime}
use Rattle.date_grammar.specs.declared.parts.Stamp.{Stamp}
use Rattle.date_grammar.specs.Calendar.{exists, day_number, second_of_day, minutes_ahead, IsShown}
use Rattle.date_grammar.specs.Printing.{printed}
use Rattle.date_grammar.specs.Stamps.{IsDateAt, printed_internal}
use Rattle.date_grammar.specs.Dates.{IsInternalPrint, IsNowPrint, last_second}
use Rattle.date_grammar.proofs.StampLaws.{civil}

as_date : (d : CalendarDay) → exists d ≡ true → Date
as_date d h = let c = civil d h in record { year = pos d.year; month = d.month; day = d.day; year_in = c.0; month_in = c.1; day_in = c.2 }

day_is : (a b : CalendarDay) → a.year ≡ b.year → a.month ≡ b.month → a.day ≡ b.day → a ≡ b
day_is a b y m d =
    ap (λ (n : ℕ). record { year = n; month = a.month; day = a.day }) y ∙ ap (λ (n : ℕ). record { year = b.year; month = n; day = a.day }) m
    ∙ ap (λ (n : ℕ). record { year = b.year; month = b.month; day = n }) d

same_day : (a b : CalendarDay) → exists a ≡ true → exists b ≡ true → day_number a ≡ day_number b → a ≡ b
unfolding as_date
same_day a b h k e =
    let same = epoch_day_injective (as_date a h) (as_date b k) e in
    let year : a.year ≡ b.year = omega (arith, signed_arith, same.0) in
    day_is a b year same.1 same.2

same_time : (a b : TimeOfDay) → IsShown a → a.second < 60 → IsShown b → b.second < 60 → second_of_day a ≡ second_of_day b → a ≡ b
same_time a b h hs k ks e =
    let hour : a.hour ≡ b.hour = omega arith in
    let minute : a.minute ≡ b.minute = omega arith in
    let second : a.second ≡ b.second = omega arith in
    ap (λ (n : ℕ). record { hour = n; minute = a.minute; second = a.second }) hour ∙ ap (λ (n : ℕ). record { hour = b.hour; minute = n; second = a.second }) minute
    ∙ ap (λ (n : ℕ). record { hour = b.hour; minute = b.minute; second = n }) second

zone_by : (ab bb : Bool) (am bm : ℕ) → (ab ≡ true → 0 < am) → (bb ≡ true → 0 < bm) → cond ab (neg_ℤ (pos am)) (pos am) ≡ cond bb (neg_ℤ (pos bm)) (pos bm) → (ab ≡ bb) × (am ≡ bm)
zone_by true true am bm h k e = (refl, omega (arith, signed_arith))
zone_by true false am bm h k e = absurd (omega (arith, signed_arith, h refl))
zone_by false true am bm h k e = absurd (omega (arith, signed_arith, k refl))
zone_by false false am bm h k e = (refl, omega (arith, signed_arith))

same_zone : (a b : Zone) → (a.behind ≡ true → 0 < a.minutes) → (b.behind ≡ true → 0 < b.minutes) → minutes_ahead a ≡ minutes_ahead b → a ≡ b
same_zone a b h k e =
    let parts = zone_by a.behind b.behind a.minutes b.minutes h k e in
    ap (λ (x : Bool). record { behind = x; minutes = a.minutes }) parts.0 ∙ ap (λ (n : ℕ). record { behind = b.behind; minutes = n }) parts.1

apart : (da db za zb s z : ℤ) (sa sb : ℕ) → sa < 86400 → sb < 86400 → za ≡ z → zb ≡ z →
    da *ℤ pos 86400 +ℤ pos sa -ℤ pos 60 *ℤ za ≡ s → db *ℤ pos 86400 +ℤ pos sb -ℤ pos 60 *ℤ zb ≡ s → (da ≡ db) × (sa ≡ sb)
apart da db za zb s z sa sb ha hb ea eb ma mb = (omega (arith, signed_arith), omega (arith, signed_arith))

pub same_date : (seconds zone : ℤ) (a b : DateTime) → IsDateAt seconds zone a → IsDateAt seconds zone b → a ≡ b
same_date seconds zone a b h k =
    let sa : second_of_day a.time < 86400 = omega (arith, h.is_date.time.0, h.is_date.time.1, h.no_leap) in
    let sb : second_of_day b.time < 86400 = omega (arith, k.is_date.time.0, k.is_date.time.1, k.no_leap) in
    let parts = apart (day_number a.day) (day_number b.day) (minutes_ahead a.zone) (minutes_ahead b.zone) seconds zone (second_of_day a.time) (second_of_day b.time)
    sa sb h.zone_is k.zone_is h.moment_is k.moment_is in
    ap (λ (x : CalendarDay). record { day = x; time = a.time; zone = a.zone }) (same_day a.day b.day h.is_date.day k.is_date.day parts.0)
    ∙ ap (λ (x : TimeOfDay). record { day = b.day; time = x; zone = a.zone }) (same_time a.time b.time h.is_date.time h.no_leap k.is_date.time k.no_leap parts.1)
    ∙ ap (λ (x : Zone). record { day = b.day; time = b.time; zone = x }) (same_zone a.zone b.zone h.sign k.sign (h.zone_is ∙ sym k.zone_is))

pub one_internal : (stamp : Stamp) (a b : List ℕ) → IsInternalPrint stamp a → IsInternalPrint stamp b → a ≡ b
one_internal stamp a b p q = p.text_is ∙ ap printed_internal (same_date stamp.seconds stamp.zone p.date q.date p.at q.at) ∙ sym q.text_is

pub one_now : (now : ℕ) (a b : List ℕ) → IsNowPrint now a → IsNowPrint now b → a ≡ b
one_now now a b p q = p.text_is ∙ ap printed (same_date (pos (min now last_second)) (pos 0) p.date q.date p.at q.at) ∙ sym q.text_is
