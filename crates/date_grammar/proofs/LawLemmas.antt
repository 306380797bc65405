-- What is printed is read as the same date.
use Rattle.std.proofs.Common.{◌≡◌, ℕ, ◌+◌, ◌/◌, ◌%◌, ◌<◌, Bool, true, false, cond, List, [], ◌∷◌, ◌++◌, length, Option, Some, None, refl, ◌∙◌, ap, subst, arith}
use Rattle.std.specs.Option.{option_map, option_and_then}
use Rattle.std.specs.List.{list_all}
use Rattle.std.specs.Char.{is_ascii_alphabetic}
use Rattle.std.proofs.lemmas.Bool.{cond-true}
use Rattle.std.proofs.lemmas.Bool.Decides.{nat_tests}
use Rattle.date_grammar.specs.declared.parts.CalendarDay.{CalendarDay}
use Rattle.date_grammar.specs.declared.parts.TimeOfDay.{TimeOfDay}
use Rattle.date_grammar.specs.declared.parts.Zone.{Zone}
use Rattle.date_grammar.specs.declared.parts.DateTime.{DateTime}
use Rattle.date_grammar.specs.Calendar.{exists}
use Rattle.date_grammar.specs.Words.{uncommented, split, not_empty, words, put_word}
use Rattle.date_grammar.specs.Scanning.{is_plain}
use Rattle.date_grammar.specs.Parts.{day_of_month, month_of, year_of, time_of, zone_of}
use Rattle.date_grammar.specs.Reading.{date_time, date_of, date_words, without_day_name, reading}
use Rattle.date_grammar.specs.Printing.{two_digits, four_digits, weekday_name, month_name, printed_time, printed_zone, printed}
use Rattle.date_grammar.proofs.DayLemmas.{exists_bounds}
use Rattle.date_grammar.proofs.NameLemmas.{IsThree, three_weekday, three_month, name_weekday, name_month}
use Rattle.date_grammar.proofs.WordLemmas.{ArePlain, words-word}
use Rattle.date_grammar.proofs.PartLemmas.{IsRead}
use Rattle.date_grammar.proofs.AgainLemmas.{decimal-two, month_again, year_again, time_again, zone_again, calendar_again}

words-blank : (o : Option (List ℕ)) → option_map (λ t. not_empty (split t)) (option_map (λ t. 32 ∷ t) o) ≡ option_map (λ t. not_empty (split t)) o
words-blank None = refl
words-blank (Some t) = refl

-- a word and a space
word_space : (w text : List ℕ) (ws : List (List ℕ)) → ArePlain w → 0 < length w → words text ≡ Some ws → words (w ++ 32 ∷ text) ≡ Some (w ∷ ws)
word_space w text ws h some e =
    words-word w (32 ∷ text) h some refl ∙ ap (option_map (λ x. w ∷ x)) (words-blank (uncommented text) ∙ e)

word_last : (w : List ℕ) → ArePlain w → 0 < length w → words (w ++ []) ≡ Some (w ∷ [])
word_last w h some = words-word w [] h some refl

plain_digit : (d : ℕ) → is_plain (48 + d) ≡ true
plain_digit d = grind (arith, nat_tests)

plain_two : (n : ℕ) → ArePlain (two_digits n)
plain_two n = (plain_digit (n / 10), (plain_digit (n % 10), tt))

plain_join : (a b : List ℕ) → ArePlain a → ArePlain b → ArePlain (a ++ b)
plain_join [] b h k = k
plain_join (c ∷ a) b h k = (h.0, plain_join a b h.1 k)

plain_sign : (behind : Bool) → is_plain (cond behind 45 43) ≡ true
plain_sign true = refl
plain_sign false = refl

pub plain_zone : (z : Zone) → ArePlain (printed_zone z)
plain_zone z = (plain_sign z.behind, plain_join (two_digits (z.minutes / 60)) (two_digits (z.minutes % 60)) (plain_two (z.minutes / 60)) (plain_two (z.minutes % 60)))

plain_time : (t : TimeOfDay) → ArePlain (printed_time t)
plain_time t = (
  plain_digit (t.hour / 10),
  (
    plain_digit (t.hour % 10),
    (
      refl,
      (
        plain_digit (t.minute / 10),
        (
          plain_digit (t.minute % 10),
          (
            refl,
            (plain_digit (t.second / 10), (plain_digit (t.second % 10), tt)),
          ),
        ),
      ),
    ),
  ),
)

-- the words of a printed date
spaced : List ℕ → List ℕ → List ℕ → List ℕ → List ℕ → List ℕ → List ℕ
spaced a b c d e f = a ++ 32 ∷ (b ++ 32 ∷ (c ++ 32 ∷ (d ++ 32 ∷ (e ++ 32 ∷ (f ++ [])))))

spaced_words : (a b c d e f : List ℕ) → ArePlain a → ArePlain b → ArePlain c → ArePlain d → ArePlain e → ArePlain f →
    0 < length a → 0 < length b → 0 < length c → 0 < length d → 0 < length e → 0 < length f →
    words (spaced a b c d e f) ≡ Some (a ∷ b ∷ c ∷ d ∷ e ∷ f ∷ [])
unfolding spaced
spaced_words a b c d e f pa pb pc pd pe pf na nb nc nd ne nf =
    word_space a _ _ pa na (word_space b _ _ pb nb (word_space c _ _ pc nc (word_space d _ _ pd nd (word_space e _ _ pe ne (word_last f pf nf)))))

printed_spaced : (d : DateTime) → exists d.day ≡ true →
    printed d ≡ spaced (weekday_name d.day ++ 44 ∷ []) (two_digits d.day.day) (month_name d.day.month) (four_digits d.day.year) (printed_time d.time) (printed_zone d.zone)
unfolding spaced
printed_spaced d h =
    let bounds = exists_bounds d.day h in
    let w = three_weekday d.day in
    let m = three_month d.day.month bounds.0 bounds.1 in
    rw (w.is, m.is) refl

printed_words : (d : DateTime) → exists d.day ≡ true →
    words (printed d) ≡ Some ((weekday_name d.day ++ 44 ∷ []) ∷ two_digits d.day.day ∷ month_name d.day.month ∷ four_digits d.day.year ∷ printed_time d.time ∷ printed_zone d.zone ∷ [])
printed_words d h =
    let bounds = exists_bounds d.day h in
    let w = three_weekday d.day in
    let m = three_month d.day.month bounds.0 bounds.1 in
    let w_some : 0 < length (weekday_name d.day ++ 44 ∷ []) = rw w.is (omega arith) in
    let m_some : 0 < length (month_name d.day.month) = rw m.is (omega arith) in
    ap words (printed_spaced d h)
    ∙ spaced_words (weekday_name d.day ++ 44 ∷ []) (two_digits d.day.day) (month_name d.day.month) (four_digits d.day.year) (printed_time d.time) (printed_zone d.zone)
    (plain_join (weekday_name d.day) (44 ∷ []) (name_weekday d.day).plain (refl, tt))
    (plain_two d.day.day) (name_month d.day.month bounds.0 bounds.1).plain
    (plain_join (two_digits (d.day.year / 100)) (two_digits (d.day.year % 100)) (plain_two (d.day.year / 100)) (plain_two (d.day.year % 100)))
    (plain_time d.time) (plain_zone d.zone)
    w_some (omega arith) m_some (omega arith) (omega arith) (omega arith)

-- the name of the day is left out
without_name : (name : List ℕ) → IsThree name → list_all is_ascii_alphabetic name ≡ true → without_day_name (name ++ 44 ∷ []) ≡ []
without_name name t h =
    let letters = subst (λ (x : List ℕ). list_all is_ascii_alphabetic x ≡ true) t.is h in
    let word : List ℕ = t.first ∷ t.second ∷ t.third ∷ 44 ∷ [] in
    ap (λ (x : List ℕ). without_day_name (x ++ 44 ∷ [])) t.is
    ∙ cond-true (list_all is_ascii_alphabetic (t.first ∷ t.second ∷ t.third ∷ [])) [] word letters

pub printed_again : (d : DateTime) → IsRead d → reading (printed d) ≡ Some d
printed_again d r =
    let bounds = exists_bounds d.day r.is_date.day in
    let day : day_of_month (two_digits d.day.day) ≡ Some d.day.day = decimal-two d.day.day (omega arith) in
    let ws : List (List ℕ) = two_digits d.day.day ∷ month_name d.day.month ∷ four_digits d.day.year ∷ printed_time d.time ∷ printed_zone d.zone ∷ [] in
    ap (option_and_then (λ x. date_of (date_words x))) (printed_words d r.is_date.day)
    ∙ ap (λ (w : List ℕ). date_of (put_word w ws)) (without_name (weekday_name d.day) (three_weekday d.day) (name_weekday d.day).letters)
    ∙ ap (λ (o : Option CalendarDay). date_time o (time_of (printed_time d.time)) (zone_of (printed_zone d.zone)))
    (calendar_again d.day (day_of_month (two_digits d.day.day)) (month_of (month_name d.day.month)) (year_of (four_digits d.day.year)) r.is_date.day day
    (month_again d.day.month bounds.0 bounds.1) (year_again d.day.year r.late bounds.3))
    ∙ ap (λ (o : Option TimeOfDay). date_time (Some d.day) o (zone_of (printed_zone d.zone))) (time_again d.time r.is_date.time)
    ∙ ap (λ (o : Option Zone). date_time (Some d.day) (Some d.time) o) (zone_again d.zone r.is_date.zone)
