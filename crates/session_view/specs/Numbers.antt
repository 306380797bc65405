-- The numbers of messages: their places in a view, from 1 (RFC 3501 §2.3.1.2).
use Rattle.std.specs.Prelude.{ℕ, ◌==◌, List, Option}
use Rattle.std.specs.List.{position_from}

-- the number of the message with a UID
abbrev pub number_of : ℕ → List ℕ → Option ℕ
number_of uid uids = position_from (λ other. other == uid) 1 uids
