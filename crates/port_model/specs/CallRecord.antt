-- How calls and the bytes that they moved are kept: a small record of each call, and one text of all the bytes.
use Rattle.std.specs.Prelude.{ℕ, ◌+◌, List, [], ◌∷◌, take, drop}
use Rattle.port_model.specs.declared.calls.PortCall.{PortCall}
use Rattle.port_model.specs.declared.calls.PortCall.TheVariants.{Accept, Read, Now, Send, Close}
use Rattle.port_model.specs.declared.calls.PortRead.{PortRead}
use Rattle.port_model.specs.declared.calls.PortRead.TheVariants.{Bytes, Quiet, Ended, Lost}
use Rattle.port_model.specs.declared.call_record.KeptCall.{KeptCall}
use Rattle.port_model.specs.declared.call_record.KeptCall.TheVariants.{Accept as KeptAccept, Read as KeptRead, Now as KeptNow, Send as KeptSend, Close as KeptClose}
use Rattle.port_model.specs.Ports.{answer_of_read}

-- how many bytes a read gave
abbrev pub read_len : PortRead → ℕ
read_len (Bytes n) = n
read_len Quiet = 0
read_len Ended = 0
read_len Lost = 0

-- how many bytes of the text are a call's
abbrev pub text_len : KeptCall → ℕ
text_len (KeptAccept number answer) = 0
text_len (KeptRead number room answer) = read_len answer
text_len (KeptNow reading) = 0
text_len (KeptSend number offered answer) = offered
text_len (KeptClose number) = 0

-- the call that a kept one tells, whose bytes are at the front of the text
abbrev pub call_of : KeptCall → List ℕ → PortCall
call_of (KeptAccept number answer) text = Accept number answer
call_of (KeptRead number room answer) text = Read number room (answer_of_read answer text)
call_of (KeptNow reading) text = Now reading
call_of (KeptSend number offered answer) text = Send number (take offered text) answer
call_of (KeptClose number) text = Close number

-- the calls of a record, the newest first, before some older calls
abbrev pub calls_of : List KeptCall → List ℕ → List PortCall → List PortCall
calls_of [] text older = older
calls_of (call ∷ later) text older = calls_of later (drop (text_len call) text) (call_of call text ∷ older)

-- how many bytes the calls have in the text
abbrev pub whole_len : List KeptCall → ℕ
whole_len [] = 0
whole_len (call ∷ later) = text_len call + whole_len later
