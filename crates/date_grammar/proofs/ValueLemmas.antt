-- Printed dates can stand as values of fields.
use Rattle.std.proofs.Common.{◌≡◌, ℕ, ◌/◌, ◌%◌, ◌<◌, ◌≤◌, true, false, eqb, List, [], ◌∷◌, ◌++◌, length, Some, refl, sym, ◌∙◌, ap, subst, arith, rules, lit≤, lit<, codes, ◌-◌}
use Rattle.std.proofs.lemmas.Bool.{cond-false, cond_both, or_from, ne_eqb}
use Rattle.std.proofs.lemmas.List.{length-append}
use Rattle.jiff_core.specs.Calendar.{weekday_number}
use Rattle.jiff_core.proofs.CalendarLemmas.{weekday_number_bound}
use Rattle.mail_text.specs.Texts.{behind, is_blank, before_trimmed, without_blank_end}
use Rattle.mail_text.specs.Lines.{has}
use Rattle.mime_tree.specs.declared.values.SentDate.{SentDate}
use Rattle.date_grammar.specs.declared.parts.CalendarDay.{CalendarDay}
use Rattle.date_grammar.specs.declared.parts.TimeOfDay.{TimeOfDay}
use Rattle.date_grammar.specs.declared.parts.DateTime.{DateTime}
use Rattle.date_grammar.specs.declared.parts.Zone.{Zone}
use Rattle.date_grammar.specs.Scanning.{is_plain}
use Rattle.date_grammar.specs.Names.{weekdays, months}
use Rattle.date_grammar.specs.Calendar.{day_number, exists}
use Rattle.date_grammar.specs.Printing.{two_digits, four_digits, weekday_name, month_name, printed_day, printed_time, printed_zone, printed}
use Rattle.date_grammar.specs.Reading.{reading}
use Rattle.date_grammar.specs.Dates.{sent_date, IsFieldValue, IsNowPrint}
use Rattle.date_grammar.proofs.DayLemmas.{exists_bounds}
use Rattle.date_grammar.proofs.NameLemmas.{AllOf, one_of, three_weekday, three_month, name_weekday}
use Rattle.date_grammar.proofs.WordLemmas.{ArePlain, plain_is}
use Rattle.date_grammar.proofs.PartLemmas.{reading_date}
use Rattle.date_grammar.proofs.LawLemmas.{plain_zone}
use Rattle.date_grammar.proofs.StampLaws.{sent_once}

-- bytes that are no controls
abbrev pub AreShown : List ℕ → Type 0
AreShown [] = Unit {0}
AreShown (c ∷ cs) = (32 ≤ c) × AreShown cs

shown_join : (a b : List ℕ) → AreShown a → AreShown b → AreShown (a ++ b)
shown_join [] b h k = k
shown_join (c ∷ a) b h k = (h.0, shown_join a b h.1 k)

shown_has : (b : ℕ) (text : List ℕ) → b < 32 → AreShown text → has b text ≡ false
shown_has b [] h s = refl
shown_has b (c ∷ cs) h s = or_from (eqb c b) (has b cs) (ne_eqb c b (λ e. omega arith)) (shown_has b cs h s.1)

shown_two : (n : ℕ) → AreShown (two_digits n)
shown_two n = (omega arith, (omega arith, tt))

shown_weekdays : AllOf AreShown weekdays
shown_weekdays = search rules

shown_months : AllOf AreShown months
shown_months = search rules

shown_sign : (z : Zone) → AreShown (printed_zone z)
shown_sign z = (cond_both z.behind 45 43 (λ n. 32 ≤ n) (λ _. lit≤ tt) (λ _. lit≤ tt), shown_join (two_digits (z.minutes / 60)) (two_digits (z.minutes % 60)) (shown_two (z.minutes / 60)) (shown_two (z.minutes % 60)))

space : AreShown (codes " ")
space = (lit≤ tt, tt)

shown_day : (d : CalendarDay) → 1 ≤ d.month → d.month ≤ 12 → AreShown (printed_day d)
shown_day d low high =
    let name = one_of AreShown weekdays (weekday_number (day_number d)) shown_weekdays (weekday_number_bound (day_number d)) in
    let month = one_of AreShown months (d.month - 1) shown_months (omega arith) in
    let w_comma = shown_join (weekday_name d) (codes ", ") name (lit≤ tt, (lit≤ tt, tt)) in
    let w_day = shown_join (weekday_name d ++ codes ", ") (two_digits d.day) w_comma (shown_two d.day) in
    let w_space = shown_join (weekday_name d ++ codes ", " ++ two_digits d.day) (codes " ") w_day space in
    let w_month = shown_join (weekday_name d ++ codes ", " ++ two_digits d.day ++ codes " ") (month_name d.month) w_space month in
    let w_more = shown_join (weekday_name d ++ codes ", " ++ two_digits d.day ++ codes " " ++ month_name d.month) (codes " ") w_month space in
    shown_join (weekday_name d ++ codes ", " ++ two_digits d.day ++ codes " " ++ month_name d.month ++ codes " ") (four_digits d.year) w_more
    (shown_join (two_digits (d.year / 100)) (two_digits (d.year % 100)) (shown_two (d.year / 100)) (shown_two (d.year % 100)))

shown_time : (t : TimeOfDay) → AreShown (printed_time t)
shown_time t =
    (omega arith, (omega arith, (lit≤ tt, (omega arith, (omega arith, (lit≤ tt, (omega arith, (omega arith, tt))))))))

before_zone : DateTime → List ℕ
before_zone d = printed_day d.day ++ codes " " ++ printed_time d.time ++ codes " "

shown_before : (d : DateTime) → 1 ≤ d.day.month → d.day.month ≤ 12 → AreShown (before_zone d)
unfolding before_zone
shown_before d low high =
    let day = shown_join (printed_day d.day) (codes " ") (shown_day d.day low high) space in
    let time = shown_join (printed_day d.day ++ codes " ") (printed_time d.time) day (shown_time d.time) in
    shown_join (printed_day d.day ++ codes " " ++ printed_time d.time) (codes " ") time space

before_some : (c : ℕ) (text : List ℕ) → 0 < length text → before_trimmed c text ≡ c ∷ text
before_some c [] h = absurd (omega arith)
before_some c (d ∷ ds) h = refl

word_ends : (w : List ℕ) → ArePlain w → without_blank_end w ≡ w
word_ends [] h = refl
word_ends (c ∷ []) h = cond-false (is_blank c) [] (c ∷ []) (plain_is c h.0).0
word_ends (c ∷ d ∷ w) h = ap (before_trimmed c) (word_ends (d ∷ w) h.1)

ends_so : (x w : List ℕ) → ArePlain w → 0 < length w → without_blank_end (x ++ w) ≡ x ++ w
ends_so [] w h some = word_ends w h
ends_so (c ∷ x) w h some =
    let more : 0 < length (x ++ w) = omega (arith, length-append x w) in
    ap (before_trimmed c) (ends_so x w h some) ∙ before_some c (x ++ w) more

begins_so : (c : ℕ) (cs : List ℕ) → is_plain c ≡ true → behind is_blank (c ∷ cs) ≡ c ∷ cs
begins_so c cs h = cond-false (is_blank c) (behind is_blank cs) (c ∷ cs) (plain_is c h).0

printed_begins : (d : DateTime) → exists d.day ≡ true → behind is_blank (printed d) ≡ printed d
printed_begins d h =
    let w = three_weekday d.day in
    let plain = subst ArePlain w.is (name_weekday d.day).plain in
    rw w.is (begins_so w.first _ plain.0)

printed_size : (d : DateTime) → exists d.day ≡ true → length (printed d) ≡ 31
printed_size d h =
    let bounds = exists_bounds d.day h in
    let w = three_weekday d.day in
    let m = three_month d.day.month bounds.0 bounds.1 in
    rw (w.is, m.is) refl

pub printed_value : (d : DateTime) → exists d.day ≡ true → IsFieldValue (printed d)
unfolding before_zone
printed_value d h =
    let bounds = exists_bounds d.day h in
    let shown : AreShown (printed d) = shown_join (before_zone d) (printed_zone d.zone) (shown_before d bounds.0 bounds.1) (shown_sign d.zone) in
    record {
      size = printed_size d h;
      is_trimmed = ap without_blank_end (printed_begins d h) ∙ ends_so (before_zone d) (printed_zone d.zone) (plain_zone d.zone) (omega arith);
      no_zero = shown_has 0 (printed d) (lit< tt) shown;
      no_lf = shown_has 10 (printed d) (lit< tt) shown;
      no_cr = shown_has 13 (printed d) (lit< tt) shown;
    }

pub sent_value : (value : List ℕ) (d : SentDate) → sent_date value ≡ Some d → IsFieldValue d.text
unfolding sent_date
sent_value value d h =
    let found = sent_once (reading value) d h in
    subst (λ (x : SentDate). IsFieldValue x.text) found.2 (printed_value found.0 (reading_date value found.0 found.1).day)

pub now_value : (now : ℕ) (text : List ℕ) → IsNowPrint now text → IsFieldValue text
now_value now text p = subst IsFieldValue (sym p.text_is) (printed_value p.date p.at.is_date.day)
