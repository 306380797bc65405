-- The ids of Message-ID, In-Reply-To and References (RFC 5322 §3.6.4).
use Rattle.std.specs.Prelude.{ℕ, Bool, true, false, ◌&&◌, ◌||◌, not, ◌==◌, if◌then◌else◌, List, [], ◌∷◌, ◌++◌, Option, Some, None}
use Rattle.mail_text.specs.Texts.{behind, is_blank}
use Rattle.address_grammar.specs.Printing.{split}

abbrev pub are_blanks : List ℕ → Bool
are_blanks [] = true
are_blanks (c ∷ cs) = is_blank c && are_blanks cs

-- A byte within an id. No `>` stands in a text that was cut at each `>`.
abbrev pub is_id_byte : ℕ → Bool
is_id_byte c = not (c == 60 || is_blank c)

abbrev pub are_id_bytes : List ℕ → Bool
are_id_bytes [] = true
are_id_bytes (c ∷ cs) = is_id_byte c && are_id_bytes cs

-- An id without its `>`: `<` and one byte at least.
abbrev pub is_id_front : List ℕ → Bool
is_id_front [] = false
is_id_front (c ∷ []) = false
is_id_front (c ∷ d ∷ ds) = c == 60 && are_id_bytes (d ∷ ds)

abbrev pub id_before : List ℕ → Option (List (List ℕ)) → Option (List (List ℕ))
id_before id None = None
id_before id (Some ids) = Some (id ∷ ids)

-- The ids of a value, cut at each `>`: white space may stand before each, and behind the last.
abbrev pub ids_of : List (List ℕ) → Option (List (List ℕ))
ids_of [] = None
ids_of (last ∷ []) = if are_blanks last then Some [] else None
ids_of (t ∷ u ∷ ts) = if is_id_front (behind is_blank t) then id_before (behind is_blank t ++ 62 ∷ []) (ids_of (u ∷ ts)) else None

abbrev pub some_ids : Option (List (List ℕ)) → Option (List (List ℕ))
some_ids None = None
some_ids (Some []) = None
some_ids (Some (id ∷ ids)) = Some (id ∷ ids)

-- What a value reads as: one id at least.
abbrev pub ids_reading : List ℕ → Option (List (List ℕ))
ids_reading value = some_ids (ids_of (split 62 value))
