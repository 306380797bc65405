-- What one unit of one session does.
use Rattle.std.specs.Prelude.{ℕ, Bool, false, true, List, [], ◌∷◌, ◌++◌, None, codes, nat_lt, if◌then◌else◌}
use Rattle.port_model.specs.declared.calls.Kind.{Kind}
use Rattle.port_model.specs.declared.calls.Kind.TheVariants.{Imap, Lmtp}
use Rattle.session_units.specs.declared.forms.Awaits.{Awaits}
use Rattle.session_units.specs.declared.forms.Awaits.TheVariants.{Command as AwaitsCommand, PlainLine as AwaitsPlain, LmtpLine as AwaitsLine, LmtpText as AwaitsText}
use Rattle.session_units.specs.declared.forms.Shown.{Shown}
use Rattle.session_units.specs.declared.forms.Shown.TheVariants.{Unit as Whole, LineTooLong, LiteralTooLong, TextTooLong}
use Rattle.imap_grammar.specs.Commands.{meaning}
use Rattle.session_view.specs.declared.sessions.State.{State}
use Rattle.session_view.specs.declared.sessions.State.TheVariants.{Fresh, Asked, Known, Selected}
use Rattle.session_view.specs.Parts.{state_of}
use Rattle.imap_steps.specs.Stepping.{Shared, Stepped, answered_last, bye, crlf, refused_untagged}
use Rattle.imap_steps.specs.Executing.{executed, literal_refused}
use Rattle.imap_steps.specs.LoggingIn.{plain_line}

-- a line that is awaited after AUTHENTICATE PLAIN; no other line is awaited so
abbrev pub plain_by_state : Shared → ℕ → List ℕ → State → Stepped
plain_by_state shared number unit (Asked tag) = plain_line shared number tag unit
plain_by_state shared number unit Fresh = refused_untagged shared
plain_by_state shared number unit (Known user) = refused_untagged shared
plain_by_state shared number unit (Selected user selection) = refused_untagged shared

-- What a whole unit does, by the form in which it was awaited. No session awaits lines or texts of LMTP, which isn't served yet.
abbrev pub whole_step : Shared → ℕ → Awaits → List ℕ → ℕ → Stepped
whole_step shared number AwaitsCommand unit moment = executed shared number (meaning unit) moment
whole_step shared number AwaitsPlain unit moment = plain_by_state shared number unit (state_of number shared.parts)
whole_step shared number AwaitsLine unit moment = refused_untagged shared
whole_step shared number AwaitsText unit moment = refused_untagged shared

-- what a unit does, by what it shows
abbrev pub shown_step : Shared → ℕ → Awaits → Shown → List ℕ → ℕ → Stepped
shown_step shared number awaits LineTooLong unit moment = answered_last shared (bye (codes "line too long"))
shown_step shared number awaits LiteralTooLong unit moment = literal_refused shared (meaning unit)
shown_step shared number awaits TextTooLong unit moment = refused_untagged shared
shown_step shared number awaits Whole unit moment = whole_step shared number awaits unit moment

-- What a unit of the session of a number does, with the form in which it was awaited, what it shows, and the moment
-- of its last byte in seconds since 1970.
unfoldable pub step : Shared → ℕ → Awaits → Shown → List ℕ → ℕ → Stepped
step shared number awaits shows unit moment = shown_step shared number awaits shows unit moment

-- How many sessions are served at once.
abbrev pub session_limit : ℕ
session_limit = 64

-- a greeting, with the own part of the new session behind the others
abbrev pub greeted : Shared → ℕ → List ℕ → Bool → Stepped
greeted shared number answer closes =
    record { change = None; answer = answer; parts = shared.parts ++ record { number = number; state = Fresh } ∷ []; closes = closes; next = AwaitsCommand }

-- What a new session of a kind is greeted with, where so many sessions are open beside it (RFC 3501 §7.1.1). A session
-- too many is told so and closed. LMTP is not served yet: its links are told so and closed (RFC 5321 §3.8).
unfoldable pub greeting : Shared → ℕ → Kind → ℕ → Stepped
greeting shared number Imap others =
    if nat_lt others session_limit then greeted shared number (codes "* OK IMAP4rev1 ready" ++ crlf) false
    else greeted shared number (bye (codes "too many sessions")) true
greeting shared number Lmtp others = greeted shared number (codes "421 4.3.2 LMTP is not served" ++ crlf) true
