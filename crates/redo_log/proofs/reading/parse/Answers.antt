use Rattle.std.proofs.Common.{◌≡◌, ◌-◌, ◌<◌, inl, inr, length, take, drop, arith}
use Rattle.std.proofs.lemmas.Bool.Decides.{nat_tests}
use Rattle.std.proofs.lemmas.List.{take_rest}
use Rattle.redo_log.proofs.Texts.{not_log, is_log, shut, not_begun}
use Rattle.redo_log.proofs.reading.parse.Goals as goal
use Rattle.redo_log.proofs.reading.parse.Goals.{then-is_empty-via-then-is_empty, then-is_empty-via-else-is_empty+then-gate-eq1}

pub returns-in_default-clause-none : goal.returns-in_default-clause-none
returns-in_default-clause-none c format generation payloads log = not_begun c.args.bytes.now c.in_default.ensures.none format generation payloads log

pub returns-then-is_empty-clause-none : goal.returns-then-is_empty-clause-none
returns-then-is_empty-clause-none c =
    let records = c.in-Some.records.now in
    let used = c.in_ok-payloads.used in
    let rest = drop used records in
    let slice = take (length records - used) rest in
    not_log c.in-Some.format c.in-Some.generation c.in_ok-payloads.payloads.items c.args.bytes.now records rest c.in-Some.ensures.some c.in_ok-payloads.ensures.split c.in_ok-payloads.ensures.fit c.in_ok-payloads.ensures.all
    (shut slice rest (take_rest records used) (elim c.then-is_empty.branch [
      | then-is_empty-via-then-is_empty w ↦ let none : length slice ≡ 0 = grind (arith, nat_tests, w.if-is_empty.true, c.is_empty.ensures) in inl none
      | then-is_empty-via-else-is_empty+then-gate-eq1 w ↦ inr w.if-gate-eq1.true
    ]))

pub returns-clause-some : goal.returns-clause-some
returns-clause-some c =
    let records = c.in-Some.records.now in
    let used = c.in_ok-payloads.used in
    let rest = drop used records in
    let slice = take (length records - used) rest in
    let there : 0 < length slice = grind (arith, nat_tests, c.if-is_empty.false, c.is_empty.ensures) in
    is_log c.in-Some.format c.in-Some.generation c.in_ok-payloads.payloads.items c.args.bytes.now records rest c.in-Some.ensures.some c.in_ok-payloads.ensures.split c.in_ok-payloads.ensures.fit
    c.in-Some.ensures.fits slice (take_rest records used) there c.if-gate-eq1.false
