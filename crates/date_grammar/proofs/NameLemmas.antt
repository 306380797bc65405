-- Each name of a day and of a month has three letters.
use Rattle.std.proofs.Common.{◌≡◌, ℕ, zero, suc, ◌-◌, ◌<◌, ◌≤◌, List, [], ◌∷◌, length, get_or, refl, true, arith}
use Rattle.std.specs.List.{list_all}
use Rattle.std.specs.Char.{is_ascii_alphabetic}
use Rattle.jiff_core.specs.Calendar.{weekday_number}
use Rattle.jiff_core.proofs.CalendarLemmas.{weekday_number_bound}
use Rattle.date_grammar.specs.declared.parts.CalendarDay.{CalendarDay}
use Rattle.date_grammar.specs.Calendar.{day_number}
use Rattle.date_grammar.specs.Names.{weekdays, months}
use Rattle.date_grammar.proofs.WordLemmas.{ArePlain}
use Rattle.date_grammar.specs.Printing.{weekday_name, month_name}

pub record IsThree (text : List ℕ) : Type 0 where
  pub first : ℕ
  pub second : ℕ
  pub third : ℕ
  pub is : text ≡ first ∷ second ∷ third ∷ []

abbrev pub AllOf : (List ℕ → Type 0) → List (List ℕ) → Type 0
AllOf P [] = Unit {0}
AllOf P (t ∷ ts) = P t × AllOf P ts

pub one_of : (P : List ℕ → Type 0) (names : List (List ℕ)) (k : ℕ) → AllOf P names → k < length names → P (get_or names k [])
one_of P [] k h within = absurd (omega arith)
one_of P (t ∷ ts) zero h within = h.0
one_of P (t ∷ ts) (suc k) h within = one_of P ts k h.1 (omega arith)

-- letters alone, which stand together as a word
pub record IsName (text : List ℕ) : Type 0 where
  pub letters : list_all is_ascii_alphabetic text ≡ true
  pub plain : ArePlain text

three : (a b c : ℕ) → IsThree (a ∷ b ∷ c ∷ [])
three a b c = record { first = a; second = b; third = c; is = refl }

pub three_weekday : (d : CalendarDay) → IsThree (weekday_name d)
three_weekday d =
    one_of IsThree weekdays (weekday_number (day_number d))
    (three _ _ _, (three _ _ _, (three _ _ _, (three _ _ _, (three _ _ _, (three _ _ _, (three _ _ _, tt)))))))
    (weekday_number_bound (day_number d))

pub three_month : (month : ℕ) → 1 ≤ month → month ≤ 12 → IsThree (month_name month)
three_month month low high =
    one_of IsThree months (month - 1) (
      three _ _ _,
      (
        three _ _ _,
        (
          three _ _ _,
          (
            three _ _ _,
            (
              three _ _ _,
              (
                three _ _ _,
                (three _ _ _, (three _ _ _, (three _ _ _, (three _ _ _, (three _ _ _, (three _ _ _, tt)))))),
              ),
            ),
          ),
        ),
      ),
    )
    (omega arith)

abbrev name_by : (text : List ℕ) → list_all is_ascii_alphabetic text ≡ true → ArePlain text → IsName text
name_by text h p = record { letters = h; plain = p }

pub name_weekday : (d : CalendarDay) → IsName (weekday_name d)
name_weekday d =
    one_of IsName weekdays (weekday_number (day_number d)) (
      name_by _ refl (refl, (refl, (refl, tt))),
      (
        name_by _ refl (refl, (refl, (refl, tt))),
        (
          name_by _ refl (refl, (refl, (refl, tt))),
          (
            name_by _ refl (refl, (refl, (refl, tt))),
            (name_by _ refl (refl, (refl, (refl, tt))), (name_by _ refl (refl, (refl, (refl, tt))), (name_by _ refl (refl, (refl, (refl, tt))), tt))),
          ),
        ),
      ),
    )
    (weekday_number_bound (day_number d))

pub name_month : (month : ℕ) → 1 ≤ month → month ≤ 12 → IsName (month_name month)
name_month month low high =
    one_of IsName months (month - 1) (
      name_by _ refl (refl, (refl, (refl, tt))),
      (
        name_by _ refl (refl, (refl, (refl, tt))),
        (
          name_by _ refl (refl, (refl, (refl, tt))),
          (
            name_by _ refl (refl, (refl, (refl, tt))),
            (
              name_by _ refl (refl, (refl, (refl, tt))),
              (
                name_by _ refl (refl, (refl, (refl, tt))),
                (
                  name_by _ refl (refl, (refl, (refl, tt))),
                  (
                    name_by _ refl (refl, (refl, (refl, tt))),
                    (name_by _ refl (refl, (refl, (refl, tt))), (name_by _ refl (refl, (refl, (refl, tt))), (name_by _ refl (refl, (refl, (refl, tt))), (name_by _ refl (refl, (refl, (refl, tt))), tt)))),
                  ),
                ),
              ),
            ),
          ),
        ),
      ),
    )
    (omega arith)
