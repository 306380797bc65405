use Rattle.transfer_codec.proofs.JoinLemmas.{nothing_unescaped, escape_first, itself_first, line_ended, line_joined}
use Rattle.transfer_codec.proofs.laws.law_quoted.Goals as goal

pub returns : goal.returns
returns c = record { nothing = nothing_unescaped; escaped = escape_first; itself = itself_first; ended = line_ended; joined = line_joined }
