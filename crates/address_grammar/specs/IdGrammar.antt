-- Lists of ids (RFC 5322 §3.6.4).
use Rattle.std.specs.Prelude.{◌≡◌, ℕ, Bool, true, ◌&&◌, ◌||◌, not, ◌==◌, List, [], ◌∷◌, ◌++◌, Option, Some, None}
use Rattle.mail_text.specs.Texts.{is_blank}
use Rattle.address_grammar.specs.Ids.{are_blanks}

abbrev pub are_inner : List ℕ → Bool
are_inner [] = true
are_inner (c ∷ cs) = not (c == 62 || (c == 60 || is_blank c)) && are_inner cs

-- `<`, one byte at least that is neither angle bracket nor white space, `>`.
pub record IsId (id : List ℕ) : Type 0 where
  pub first : ℕ
  pub more : List ℕ
  pub inner : are_inner (first ∷ more) ≡ true
  pub is : id ≡ 60 ∷ (first ∷ more ++ 62 ∷ [])

-- Ids, with white space or nothing before each and behind the last.
abbrev pub IsIdList : List ℕ → List (List ℕ) → Type 0
IsIdList value [] = are_blanks value ≡ true
IsIdList value (id ∷ ids) = (gap : List ℕ) × (rest : List ℕ) × (are_blanks gap ≡ true) × IsId id × (value ≡ gap ++ (id ++ rest)) × IsIdList rest ids

-- A value that reads as these ids: one at least.
pub record ReadsIds (value : List ℕ) (ids : List (List ℕ)) : Type 0 where
  pub is_list : IsIdList value ids
  pub some : ids ≡ [] → ⊥

-- The ids that a value reads as, and no others; or that it reads as none.
abbrev pub IsIdReadingOf : List ℕ → Option (List (List ℕ)) → Type 0
IsIdReadingOf value None = (ids : List (List ℕ)) → ReadsIds value ids → ⊥
IsIdReadingOf value (Some ids) = ReadsIds value ids × ((others : List (List ℕ)) → ReadsIds value others → others ≡ ids)
