-- How a session is authenticated (RFC 3501 §6.2.2, §6.2.3; RFC 4616).
use Rattle.std.specs.Prelude.{ℕ, ◌+◌, ◌-◌, ◌==◌, ◌||◌, Bool, false, List, [], Option, Some, None, codes, length, take, drop, if◌then◌else◌}
use Rattle.std.specs.List.{position}
use Rattle.std.specs.Option.{option_map, option_and_then}
use Rattle.std.specs.Str.{str_eq_ignore_ascii_case}
use Rattle.session_units.specs.declared.forms.Awaits.TheVariants.{PlainLine as AwaitsPlain}
use Rattle.imap_writer.specs.declared.refusals.Refusal.TheVariants.{Syntax, Mechanism, LoginFailed}
use Rattle.imap_writer.specs.Tagged.{ok_line, no_line}
use Rattle.transfer_codec.specs.Base64.{decoded}
use Rattle.session_view.specs.declared.sessions.State.TheVariants.{Fresh, Asked, Known}
use Rattle.session_view.specs.Parts.{with_state}
use Rattle.mail_world.specs.Names.{same_name}
use Rattle.mail_world.specs.Looking.{login_id}
use Rattle.imap_steps.specs.Stepping.{Shared, Stepped, refused_with, turned}

-- the user of a name and a password is known from now on, where there is one; else the session stays without a user
abbrev pub logged_in : Shared → ℕ → List ℕ → List ℕ → Option ℕ → Stepped
logged_in shared number tag command (Some user) = turned shared number (Known user) (ok_line tag [] command)
logged_in shared number tag command None = turned shared number Fresh (no_line tag LoginFailed)

-- LOGIN of a session that isn't authenticated
unfoldable pub login : Shared → ℕ → List ℕ → List ℕ → List ℕ → Stepped
login shared number tag name password = logged_in shared number tag (codes "LOGIN") (login_id name password shared.world.users)

-- the line of PLAIN is awaited, behind an empty challenge
abbrev pub asked : Shared → ℕ → List ℕ → Stepped
asked shared number tag = record { change = None; answer = codes "+ \r\n"; parts = with_state number (Asked tag) shared.parts; closes = false; next = AwaitsPlain }

-- AUTHENTICATE of a session that isn't authenticated: PLAIN is the one mechanism
unfoldable pub authenticate : Shared → ℕ → List ℕ → List ℕ → Stepped
authenticate shared number tag mechanism =
    if str_eq_ignore_ascii_case mechanism (codes "PLAIN") then asked shared number tag else refused_with shared tag Mechanism

-- Whose a PLAIN message is: the user as whom the session is to act, the user's name and password (RFC 4616 §2).
pub record Credentials : Type 0 where
  pub identity : List ℕ
  pub name : List ℕ
  pub password : List ℕ

-- where the first zero byte stands
abbrev pub zero_in : List ℕ → Option ℕ
zero_in text = position (λ b. b == 0) text

-- A user acts as itself alone.
abbrev pub acts_alone : Credentials → Bool
acts_alone its = length its.identity == 0 || same_name its.identity its.name

abbrev pub acting : Credentials → Option Credentials
acting its = if acts_alone its then Some its else None

-- identity, zero, name, zero, password
abbrev pub parted : List ℕ → List ℕ → ℕ → Credentials
parted identity rest end = record { identity = identity; name = take end rest; password = drop (end + 1) rest }

abbrev pub parted_behind : List ℕ → List ℕ → Option Credentials
parted_behind identity rest = option_map (parted identity rest) (zero_in rest)

abbrev pub credentials_of : List ℕ → Option Credentials
credentials_of message = option_and_then acting (option_and_then (λ end. parted_behind (take end message) (drop (end + 1) message)) (zero_in message))

-- a line without its CRLF
abbrev pub line_of : List ℕ → List ℕ
line_of unit = take (length unit - 2) unit

-- the same as base64 (RFC 4648 §4), with no blanks
unfoldable pub credentials : List ℕ → Option Credentials
credentials unit = option_and_then credentials_of (decoded (line_of unit))

abbrev pub authenticated : Shared → ℕ → List ℕ → Option Credentials → Stepped
authenticated shared number tag None = turned shared number Fresh (no_line tag Syntax)
authenticated shared number tag (Some its) = logged_in shared number tag (codes "AUTHENTICATE") (login_id its.name its.password shared.world.users)

-- The line behind AUTHENTICATE PLAIN, with that command's tag. One that is no PLAIN message, as `*`, ends the exchange.
unfoldable pub plain_line : Shared → ℕ → List ℕ → List ℕ → Stepped
plain_line shared number tag unit = authenticated shared number tag (credentials unit)
