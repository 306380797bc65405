-- What the names of fields tell of their values (RFC 5322 §3.6).
use Rattle.std.specs.Prelude.{ℕ, Bool, ◌||◌, if◌then◌else◌, List, [], ◌∷◌, codes}
use Rattle.std.specs.List.{list_any}
use Rattle.mail_text.specs.Case.{is_same}
use Rattle.header_reader.specs.declared.kinds.FieldKind.{FieldKind}
use Rattle.header_reader.specs.declared.kinds.FieldKind.TheVariants.{Unstructured, AddressList, DateTime, OneId, IdList}

-- The fields of those who send (RFC 5322 §3.6.2), of those who are sent to (RFC 5322 §3.6.3), and of both when a message is
-- sent again (RFC 5322 §3.6.6).
abbrev pub originators : List (List ℕ)
originators = codes "From" ∷ codes "Sender" ∷ codes "Reply-To" ∷ []

abbrev pub destinations : List (List ℕ)
destinations = codes "To" ∷ codes "Cc" ∷ codes "Bcc" ∷ []

abbrev pub resent_addresses : List (List ℕ)
resent_addresses = codes "Resent-From" ∷ codes "Resent-Sender" ∷ codes "Resent-To" ∷ codes "Resent-Cc" ∷ codes "Resent-Bcc" ∷ []

-- The fields of dates (RFC 5322 §3.6.1, §3.6.6).
abbrev pub dates : List (List ℕ)
dates = codes "Date" ∷ codes "Resent-Date" ∷ []

-- The fields of one message id, and of one or more (RFC 5322 §3.6.4, §3.6.6).
abbrev pub single_ids : List (List ℕ)
single_ids = codes "Message-ID" ∷ codes "Resent-Message-ID" ∷ []

abbrev pub id_lists : List (List ℕ)
id_lists = codes "In-Reply-To" ∷ codes "References" ∷ []

-- Whether a name is one of these, in any case.
abbrev pub is_among : List (List ℕ) → List ℕ → Bool
is_among names name = list_any (λ known. is_same name known) names

-- How the value of a field with this name is read.
unfoldable pub kind_of : List ℕ → FieldKind
kind_of name =
    if is_among originators name || is_among destinations name || is_among resent_addresses name then AddressList
    else (if is_among dates name then DateTime
    else (if is_among single_ids name then OneId
    else (if is_among id_lists name then IdList else Unstructured)))
