use Rattle.std.proofs.Common.{◌≡◌, ◌+◌, ◌-◌, ◌*◌, ◌≤◌, ◌++◌, length, take, vec_capacity, vec_len}
use Rattle.lmtp_core.specs.Session.{text_replied}
use Rattle.lmtp_core.proofs.session.push_answers.Given as goal

abbrev pub invariant-answers : goal.invariant-answers
invariant-answers l = record {
  items : l.out.items ≡ l.initial.out.items ++ text_replied (take l.answer-index l.answers);
  room : vec_len l.out + (length l.answers - l.answer-index) * 80 ≤ vec_capacity l.out;
}
