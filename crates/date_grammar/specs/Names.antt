-- The names in dates (RFC 5322 §3.3, §4.3).
use Rattle.std.specs.Prelude.{ℕ, List, [], ◌∷◌, codes}

-- The days of the week, from Monday on.
abbrev pub weekdays : List (List ℕ)
weekdays = codes "Mon" ∷ codes "Tue" ∷ codes "Wed" ∷ codes "Thu" ∷ codes "Fri" ∷ codes "Sat" ∷ codes "Sun" ∷ []

-- The months.
abbrev pub months : List (List ℕ)
months =
    codes "Jan" ∷ codes "Feb" ∷ codes "Mar" ∷ codes "Apr" ∷ codes "May" ∷ codes "Jun"
    ∷ codes "Jul" ∷ codes "Aug" ∷ codes "Sep" ∷ codes "Oct" ∷ codes "Nov" ∷ codes "Dec" ∷ []

-- The names of universal time.
abbrev pub universal : List (List ℕ)
universal = codes "UT" ∷ codes "GMT" ∷ codes "Z" ∷ []

-- The zones of North America, with the hours that each is behind universal time.
abbrev pub american : List (List ℕ × ℕ)
american =
    (codes "EDT", 4) ∷ (codes "EST", 5) ∷ (codes "CDT", 5) ∷ (codes "CST", 6)
    ∷ (codes "MDT", 6) ∷ (codes "MST", 7) ∷ (codes "PDT", 7) ∷ (codes "PST", 8) ∷ []
