-- A call that is kept behind the others stands in front of them as the newest.
use Rattle.std.proofs.Common.{◌≡◌, ℕ, ◌+◌, ◌≤◌, List, [], ◌∷◌, ◌++◌, length, drop, refl, ◌∙◌, ap, arith, length-append, length-drop}
use Rattle.std.proofs.lemmas.List.{take-append-le, drop-append-le}
use Rattle.port_model.specs.declared.calls.PortCall.{PortCall}
use Rattle.port_model.specs.declared.calls.PortRead.{PortRead}
use Rattle.port_model.specs.declared.calls.PortRead.TheVariants.{Bytes, Quiet, Ended, Lost}
use Rattle.port_model.specs.declared.call_record.KeptCall.{KeptCall}
use Rattle.port_model.specs.declared.call_record.KeptCall.TheVariants.{Accept as KeptAccept, Read as KeptRead, Now as KeptNow, Send as KeptSend, Close as KeptClose}
use Rattle.port_model.specs.Ports.{answer_of_read}
use Rattle.port_model.specs.CallRecord.{call_of, calls_of, text_len, read_len, whole_len}

answer-append : (answer : PortRead) (text more : List ℕ) → read_len answer ≤ length text → answer_of_read answer (text ++ more) ≡ answer_of_read answer text
answer-append (Bytes n) text more h = rw (take-append-le n text more h)
answer-append Quiet text more h = refl
answer-append Ended text more h = refl
answer-append Lost text more h = refl

call-append : (call : KeptCall) (text more : List ℕ) → text_len call ≤ length text → call_of call (text ++ more) ≡ call_of call text
call-append (KeptAccept number answer) text more h = refl
call-append (KeptRead number room answer) text more h = rw (answer-append answer text more h)
call-append (KeptNow reading) text more h = refl
call-append (KeptSend number offered answer) text more h = rw (take-append-le offered text more h)
call-append (KeptClose number) text more h = refl

pub calls-push : (calls : List KeptCall) (text : List ℕ) (call : KeptCall) (bytes : List ℕ) (older : List PortCall)
    → length text ≡ whole_len calls → calls_of (calls ++ call ∷ []) (text ++ bytes) older ≡ call_of call bytes ∷ calls_of calls text older
calls-push [] [] call bytes older h = refl
calls-push [] (b ∷ text) call bytes older h = absurd (omega arith)
calls-push (first ∷ later) text call bytes older h =
    let parts : whole_len (first ∷ later) ≡ text_len first + whole_len later = refl in
    let there : text_len first ≤ length text = omega arith in
    let left : length (drop (text_len first) text) ≡ whole_len later = omega (arith, length-drop (text_len first) text) in
    ap (λ (rest : List ℕ). calls_of (later ++ call ∷ []) rest (call_of first (text ++ bytes) ∷ older)) (drop-append-le (text_len first) text bytes there)
    ∙ ap (λ (told : PortCall). calls_of (later ++ call ∷ []) (drop (text_len first) text ++ bytes) (told ∷ older)) (call-append first text bytes there)
    ∙ calls-push later (drop (text_len first) text) call bytes (call_of first text ∷ older) left

pub whole_len-push : (calls : List KeptCall) (call : KeptCall) → whole_len (calls ++ call ∷ []) ≡ whole_len calls + text_len call
whole_len-push [] call = omega arith
whole_len-push (first ∷ later) call = omega (arith, whole_len-push later call)

pub length-push : (calls : List KeptCall) (text : List ℕ) (call : KeptCall) (bytes : List ℕ)
    → length text ≡ whole_len calls → length bytes ≡ text_len call → length (text ++ bytes) ≡ whole_len (calls ++ call ∷ [])
length-push calls text call bytes before here = omega (arith, length-append text bytes, whole_len-push calls call)
