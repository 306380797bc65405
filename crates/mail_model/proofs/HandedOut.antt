-- What was sent is never taken back, so what was handed out stays so.
use Rattle.std.proofs.Common.{ℕ, ◌≡◌, ◌==◌, ◌+◌, ◌<◌, ◌≤◌, Bool, true, false, List, [], ◌∷◌, ◌++◌, cond, arith, length, length-append}
use Rattle.port_model.specs.declared.calls.PortCall.{PortCall}
use Rattle.port_model.specs.declared.calls.PortCall.TheVariants.{Accept, Read, Now, Send, Close}
use Rattle.port_model.specs.History.{sent, taken}
use Rattle.mail_model.specs.Machine.{Made, IsHandedOut}

longer : (same : Bool) (old more : List ℕ) (n : ℕ) → n < length old → n < length (cond same (old ++ more) old)
longer true old more n lt = let e : length (old ++ more) ≡ length old + length more = length-append old more in omega arith
longer false old more n lt = lt

sent_later : (call : PortCall) (older : List PortCall) (number n : ℕ) → n < length (sent older number) → n < length (sent (call ∷ older) number)
sent_later (Accept who answer) older number n lt = lt
sent_later (Read who room answer) older number n lt = lt
sent_later (Now reading) older number n lt = lt
sent_later (Send who bytes answer) older number n lt = longer (who == number) (sent older number) (taken answer bytes) n lt
sent_later (Close who) older number n lt = lt

pub stays : (newer older : List PortCall) (made : Made) → IsHandedOut older made → IsHandedOut (newer ++ older) made
stays [] older made h = h
stays (call ∷ newer) older made h = let later = stays newer older made h in (later.0, sent_later call (newer ++ older) made.number made.from later.1)

pub whole : (history : List PortCall) (made : Made) → 0 < made.count → made.from + made.count ≤ length (sent history made.number) → IsHandedOut history made
whole history made some all = (some, omega arith)
