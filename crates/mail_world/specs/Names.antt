-- Names of users and of mailboxes (RFC 3501 §5.1). What INBOX is, and what stands between levels, is said beside patterns of names.
use Rattle.std.specs.Prelude.{ℕ, ◌++◌, ◌==◌, ◌&&◌, ◌||◌, ◌-◌, Bool, not, nat_eq, nat_le, if◌then◌else◌, List, [], ◌∷◌, length, take, drop}
use Rattle.std.specs.List.{list_all, starts_with, ends_with, slice_split}
use Rattle.std.specs.Char.{is_ascii_digit}
use Rattle.std.specs.Str.{byte}
pub use Rattle.mailbox_names.specs.Names.{same_name, inbox, is_inbox, mailbox_name, separator}

-- a byte of a name: printed ASCII, but for the wildcards of LIST
abbrev pub is_name_byte : ℕ → Bool
is_name_byte b = nat_le 0x20 b && nat_le b 0x7E && not (b == byte "*") && not (b == byte "%")

abbrev pub is_level : List ℕ → Bool
is_level level = nat_le 1 (length level)

-- how long a name may be
abbrev pub longest_name : ℕ
longest_name = 255

-- A name that a mailbox may have: no level is empty.
unfoldable pub is_mailbox_name : List ℕ → Bool
is_mailbox_name name = list_all is_name_byte name && list_all is_level (slice_split (λ b. b == separator) name) && nat_le (length name) longest_name

-- The name that CREATE makes: a separator at its end says that names will be made below it, and is dropped (RFC 3501 §6.3.3).
unfoldable pub created_name : List ℕ → List ℕ
created_name text = mailbox_name (if ends_with nat_eq text (separator ∷ []) then take (length text - 1) text else text)

-- a name below another in the hierarchy
abbrev pub is_inferior : List ℕ → List ℕ → Bool
is_inferior name text = starts_with nat_eq text (name ++ separator ∷ [])

-- RENAME takes a name and all that are inferior to it (RFC 3501 §6.3.5).
abbrev pub is_renamed : List ℕ → List ℕ → Bool
is_renamed from name = same_name name from || is_inferior from name

-- the name that such a name gets
abbrev pub renamed_as : List ℕ → List ℕ → List ℕ → List ℕ
renamed_as from to name = to ++ drop (length from) name

-- a byte of a user's name: a small letter, a digit, `.`, `_` or `-`
abbrev pub is_user_byte : ℕ → Bool
is_user_byte b = (nat_le (byte "a") b && nat_le b (byte "z")) || is_ascii_digit b || b == byte "." || b == byte "_" || b == byte "-"

-- A name that a user may have.
unfoldable pub is_user_name : List ℕ → Bool
is_user_name name = list_all is_user_byte name && nat_le 1 (length name) && nat_le (length name) 64
