-- What the laws of sessions say of pieces and units.
use Rattle.std.specs.Prelude.{ℕ, ◌≡◌, true, List, [], ◌∷◌, ◌++◌, None}
use Rattle.session_units.specs.Units.{Cut, first}
use Rattle.mail_model.specs.Machine.{Session, Taking, is_open, awaits_more, take_unit, take_piece}

-- The session is open, and what came of the unit that it awaits isn't whole.
pub record IsAwaiting (session : Session) : Type 0 where
  pub opened : is_open session.standing ≡ true
  pub no_unit : first session.awaited [] ≡ None

-- each session that is open awaits a unit
abbrev pub OpenAwait : List Session → Type 0
OpenAwait [] = Unit {0}
OpenAwait (session ∷ sessions) = (is_open session.standing ≡ true → first session.awaited [] ≡ None) × OpenAwait sessions

-- what bytes leave that end no unit, one after another
abbrev pub goes_on : Taking → List ℕ → Taking
goes_on taking [] = taking
goes_on taking (byte ∷ bytes) = goes_on (awaits_more taking byte) bytes

-- The unit that a session awaits ends with this byte of a piece, behind this front of it. What comes before its last byte
-- awaits more, the unit is one step at the moment of that byte, and what is behind it is taken after that.
pub record TakesUnit (moment : ℕ) (taking : Taking) (piece : List ℕ) (cut : Cut) : Type 0 where
  pub front : List ℕ
  pub byte : ℕ
  pub ends : piece ≡ front ++ byte ∷ cut.rest
  pub taken : take_piece moment taking piece ≡ take_piece moment (take_unit moment (goes_on taking front) cut) cut.rest
