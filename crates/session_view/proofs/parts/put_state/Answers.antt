use Rattle.std.proofs.Common.{◌≡◌, Some, None, arith, ap, sym, ◌∙◌}
use Rattle.std.specs.Prelude.{position}
use Rattle.std.proofs.lemmas.Grind.{common_steps}
use Rattle.std.proofs.lemmas.Iterator.Adapters.{position_from-zero}
use Rattle.std.proofs.lemmas.List.Quantifiers.{position-Some}
use Rattle.session_view.specs.Parts.{has_number}
use Rattle.session_view.proofs.Placing.{put_at, unnumbered}
use Rattle.session_view.proofs.parts.put_state.Goals as goal

pub returns-in-Some : goal.returns-in-Some
returns-in-Some c =
    let items = c.args.parts.now.items in
    let test = has_number c.args.number in
    let found : position test items ≡ Some c.in-Some.place = ap (position test) (sym c.as_slice.ensures.value) ∙ sym c.in-Some.ensures in
    let at = position-Some test items c.in-Some.place (record { number = c.args.number; state = c.args.state }) found in
    let put = put_at c.args.number c.args.state items c.in-Some.place (record { number = c.args.number; state = c.args.state }) at.0 at.1 at.2 in
    grind (arith, common_steps, put)

pub returns-in-None : goal.returns-in-None
returns-in-None c =
    let items = c.args.parts.now.items in
    let test = has_number c.args.number in
    let none : position test items ≡ None = ap (position test) (sym c.as_slice.ensures.value) ∙ sym c.in-None.ensures in
    sym (unnumbered c.args.number c.args.state items 0 (sym (position_from-zero test items) ∙ none))
