-- The text of a log.
use Rattle.std.specs.Prelude.{◌≡◌, ◌≢◌, ◌⊎◌, ◌<◌, ◌^◌, ℕ, List, [], ◌∷◌, ◌++◌, length, codes}
use Rattle.std.specs.Int.{w64, to_be_bytes}
use Rattle.std.specs.List.{flat_map, AllByRecursion}

-- a number of 64 bits, the highest byte first
unfoldable pub number_text : ℕ → List ℕ
number_text number = to_be_bytes w64 number

-- the open gate of the log, its letters, the format byte and the generation
unfoldable pub header : ℕ → ℕ → List ℕ
header format generation = 1 ∷ codes "MAILROW" ++ format ∷ number_text generation

-- an open gate, the length of the payload, and the payload
abbrev pub record_text : List ℕ → List ℕ
record_text payload = 1 ∷ (number_text (length payload) ++ payload)

-- the header and the records
unfoldable pub front : ℕ → ℕ → List (List ℕ) → List ℕ
front format generation payloads = header format generation ++ flat_map record_text payloads

-- The bytes are the text of an open log: an open header with this format byte and generation, a record with an
-- open gate for each payload, then a gate that isn't open, and any rest.
pub record IsLog (format generation : ℕ) (payloads : List (List ℕ)) (bytes : List ℕ) : Type 0 where
  pub generation_fits : generation < 2 ^ 64
  pub lengths_fit : AllByRecursion (λ payload. length payload < 2 ^ 64) payloads
  pub gate : ℕ
  pub rest : List ℕ
  pub split : bytes ≡ front format generation payloads ++ gate ∷ rest
  pub closed : gate ≢ 1

-- the text of a log whose closed gate stands at this place
pub record EndsAt (format generation : ℕ) (payloads : List (List ℕ)) (end : ℕ) (bytes : List ℕ) : Type 0 where
  pub text : IsLog format generation payloads bytes
  pub place : end ≡ length (front format generation payloads)

-- the text of a log with the payloads, or with one more after them
abbrev pub IsBeforeOrAfter : ℕ → ℕ → List (List ℕ) → List ℕ → List ℕ → Type 0
IsBeforeOrAfter format generation payloads payload bytes = IsLog format generation payloads bytes ⊎ IsLog format generation (payloads ++ payload ∷ []) bytes

-- the text that a new log begins with: the header, and a closed gate
abbrev pub empty_text : ℕ → ℕ → List ℕ
empty_text format generation = header format generation ++ 0 ∷ []

-- no whole record with an open gate stands at the front
abbrev pub BeginsNoRecord : List ℕ → Type 0
BeginsNoRecord bytes = (payload rest : List ℕ) → length payload < 2 ^ 64 → bytes ≡ record_text payload ++ rest → ⊥
