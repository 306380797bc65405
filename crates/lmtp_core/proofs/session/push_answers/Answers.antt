use Rattle.std.proofs.Common.{◌≡◌, ℕ, ◌+◌, ◌-◌, ◌*◌, ◌<◌, List, [], ◌∷◌, ◌++◌, length, get_or, take, sym, ◌∙◌, ap, append_assoc, append-nil, arith}
use Rattle.std.proofs.lemmas.Grind.{flat_map-append}
use Rattle.std.proofs.lemmas.List.{take_more}
use Rattle.lmtp_core.specs.declared.replies.Reply.{Reply}
use Rattle.lmtp_core.specs.declared.session.Delivered.{Delivered}
use Rattle.lmtp_core.specs.Replies.{reply_text}
use Rattle.lmtp_core.specs.Session.{delivered_reply, text_replied}
use Rattle.lmtp_core.proofs.session.push_answers.Goals as goal

-- one answer more
replied-more : (answers : List Delivered) (i : ℕ) (d : Delivered) (old out next : List ℕ) (reply : Reply) → i < length answers
    → out ≡ old ++ text_replied (take i answers) → reply ≡ delivered_reply (get_or answers i d) → next ≡ out ++ reply_text reply
    → next ≡ old ++ text_replied (take (i + 1) answers)
replied-more answers i d old out next reply within so_far this more =
    let last : text_replied (take (i + 1) answers) ≡ text_replied (take i answers) ++ reply_text reply =
    ap text_replied (take_more answers i d within) ∙ flat_map-append (λ answer. reply_text (delivered_reply answer)) (take i answers) (get_or answers i d ∷ [])
    ∙ ap (λ (l : List ℕ). text_replied (take i answers) ++ l) (append-nil (reply_text (delivered_reply (get_or answers i d))) ∙ ap reply_text (sym this)) in
    more ∙ ap (λ (l : List ℕ). l ++ reply_text reply) so_far ∙ append_assoc old (text_replied (take i answers)) (reply_text reply) ∙ ap (λ (l : List ℕ). old ++ l) (sym last)

pub answers-preserved : goal.answers-preserved
answers-preserved c = record {
  items = replied-more c.args.answers.now c.answers.answer-index _ c.args.out.now.items c.answers.out.items c.push_reply.new.out.items c.reply_of.result c.answers-test.true c.answers.invariant.items c.reply_of.ensures c.push_reply.ensures.items;
  room = c.push_reply.ensures.room ((length c.args.answers.now - (c.answers.answer-index + 1)) * 80) (omega (arith, c.answers.invariant.room, c.answers-test.true));
}
