use Rattle.std.proofs.Common.{ℕ, cond, Some, None, List, ◌∙◌, ap, refl, drop}
use Rattle.lmtp_core.specs.Texts.{bounded, content}
use Rattle.lmtp_core.specs.Reading.{Read, is_end, taken, unread}
use Rattle.session_units.specs.Units.{first, text_cut}
use Rattle.session_units.proofs.laws.texts_are_units.Goals as goal

pub returns-clause-text : goal.returns-clause-text
unfolding first
returns-clause-text c = λ bytes text e.
    let its = c.texts_are_read_whole.ensures.whole bytes text e in
    ap (λ (r : Read). cond (is_end r.place) (Some (text_cut r.kept (drop (taken unread bytes) bytes))) None) its.0
    ∙ ap (λ (l : List ℕ). Some (text_cut (bounded (content text.lines)) l)) its.1

pub returns-clause-none : goal.returns-clause-none
unfolding first
returns-clause-none c = λ bytes e. rw (c.texts_are_read_whole.ensures.goes_on bytes e).0 refl
