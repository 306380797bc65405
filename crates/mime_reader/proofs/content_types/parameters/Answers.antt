use Rattle.std.proofs.Common.{◌≡◌, ◌++◌, Some, drop, sym, ◌∙◌, ap, subst}
use Rattle.mime_reader.specs.ContentTypes.{parameters_of, parameter_front}
use Rattle.mime_reader.specs.Found.{IsFront}
use Rattle.mime_reader.proofs.TypeLemmas.{parameters_step, parameters_done}
use Rattle.mime_reader.proofs.content_types.parameters.Goals as goal

pub loop-out-preserved : goal.loop-out-preserved
loop-out-preserved c =
    let rest = c.loop-out.rest.now in
    let text = c.args.text.now in
    let size = c.in-Some.size in
    let front : IsFront rest (Some (c.in-Some.parameter, size)) (parameter_front rest) =
    subst (λ f. IsFront rest f (parameter_front rest)) c.in-Some.is c.in_ok-parameter.ensures in
    subst (λ r. c.push.new.self.items ++ parameters_of r ≡ parameters_of text) (sym c.behind-rest.ensures)
    (ap (λ z. z ++ parameters_of (drop size rest)) c.in_ok-push.ensures.items
    ∙ parameters_step c.loop-out.out.items text rest c.in-Some.parameter size front c.loop-out.invariant)

pub returns : goal.returns
returns c =
    let rest = c.loop-out.rest.now in
    c.from_vec.ensures
    ∙ parameters_done c.loop-out.out.items c.args.text.now rest
    (subst (λ f. IsFront rest f (parameter_front rest)) c.in_default.is c.in_ok-parameter.ensures) c.loop-out.invariant
