-- A text as far as it was read, byte by byte.
use Rattle.std.specs.Prelude.{ℕ, ◌+◌, ◌==◌, ◌≡◌, ◌≤◌, Bool, true, false, List, [], ◌∷◌, ◌++◌, Option, Some, None, drop, length, min, vec_capacity, vec_len, if◌then◌else◌}
use Rattle.lmtp_core.specs.declared.reading.Place.{Place}
use Rattle.lmtp_core.specs.declared.reading.Place.TheVariants.{Start, Dot, DotReturn, Inside, Return, End}
use Rattle.lmtp_core.specs.declared.kept.Kept.{Kept}
use Rattle.lmtp_core.specs.Texts.{bounded, content_limit}

-- A text as far as it was read: where it stands, and its content so far, or none where that is too long.
pub record Read : Type 0 where
  pub place : Place
  pub kept : Option (List ℕ)

-- before the first byte
abbrev pub unread : Read
unread = record { place = Start; kept = Some [] }

abbrev pub is_end : Place → Bool
is_end Start = false
is_end Dot = false
is_end DotReturn = false
is_end Inside = false
is_end Return = false
is_end End = true

-- behind a byte of a line that has more than a leading dot
abbrev pub behind_byte : ℕ → Place
behind_byte byte = if byte == 13 then Return else Inside

abbrev pub place_behind : Place → ℕ → Place
place_behind Start byte = if byte == 46 then Dot else behind_byte byte
place_behind Dot byte = if byte == 13 then DotReturn else Inside
place_behind DotReturn byte = if byte == 10 then End else behind_byte byte
place_behind Inside byte = behind_byte byte
place_behind Return byte = if byte == 10 then Start else behind_byte byte
place_behind End byte = End

-- What a byte adds to the content: a leading dot is left out, and so is a CR behind that, until it shows that the text
-- goes on.
abbrev pub added : Place → ℕ → List ℕ
added Start byte = if byte == 46 then [] else byte ∷ []
added Dot byte = if byte == 13 then [] else byte ∷ []
added DotReturn byte = if byte == 10 then [] else 13 ∷ byte ∷ []
added Inside byte = byte ∷ []
added Return byte = byte ∷ []
added End byte = []

-- more bytes behind a content, which is lost where it is too long
abbrev pub with_bytes : Option (List ℕ) → List ℕ → Option (List ℕ)
with_bytes kept [] = kept
with_bytes None (byte ∷ more) = None
with_bytes (Some bytes) (byte ∷ more) = bounded (bytes ++ byte ∷ more)

abbrev pub reads_byte : Read → ℕ → Read
reads_byte read byte = record { place = place_behind read.place byte; kept = with_bytes read.kept (added read.place byte) }

-- Behind further bytes, as far as the text goes.
abbrev pub reads : Read → List ℕ → Read
reads read [] = read
reads read (byte ∷ bytes) = if is_end read.place then read else reads (reads_byte read byte) bytes

-- how many of these the text takes
abbrev pub taken : Read → List ℕ → ℕ
taken read [] = 0
taken read (byte ∷ bytes) = if is_end read.place then 0 else taken (reads_byte read byte) bytes + 1

-- The first bytes were taken: what is read of the others is what is read of all.
pub record Takes (old new : Read) (bytes : List ℕ) (count : ℕ) : Type 0 where
  pub within : count ≤ length bytes
  pub reads_on : reads old bytes ≡ reads new (drop count bytes)
  pub counts_on : taken old bytes ≡ count + taken new (drop count bytes)

-- The content that is kept.
abbrev pub kept_of : Kept → Option (List ℕ)
kept_of kept = if kept.too_long then None else Some kept.bytes.items

-- what was read by a lexer that stands there and keeps this
abbrev pub read_at : Place → Kept → Read
read_at place kept = record { place = place; kept = kept_of kept }

-- where a line stands that has more than a leading dot
abbrev pub within_line : Bool → Place
within_line behind_return = if behind_return then Return else Inside

-- whether a line ends with a CR behind these bytes
abbrev pub ends_return : Bool → List ℕ → Bool
ends_return behind_return [] = behind_return
ends_return behind_return (byte ∷ bytes) = ends_return (byte == 13) bytes

-- There is room for further bytes, as far as they may be kept.
abbrev pub HasRoom : Kept → ℕ → Type 0
HasRoom kept more = kept.too_long ≡ false → min (vec_len kept.bytes + more) content_limit ≤ vec_capacity kept.bytes

-- how many bytes may be added with so many further ones
abbrev pub room_for : Place → ℕ → ℕ
room_for Start count = count
room_for Dot count = count
room_for DotReturn count = count + 1
room_for Inside count = count
room_for Return count = count
room_for End count = count
