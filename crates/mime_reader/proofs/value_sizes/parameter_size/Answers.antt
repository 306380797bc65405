use Rattle.std.proofs.Common.{Some, true, false, ◌∙◌, ap, subst}
use Rattle.mime_reader.specs.ContentTypes.{parameter_front, parameters_of}
use Rattle.mime_reader.specs.Found.{IsFront}
use Rattle.mime_reader.specs.ValueSizes.{named_size, parameter_size}
use Rattle.mime_reader.proofs.ValueSizeLemmas.{size_here, size_later, size_none}
use Rattle.mime_reader.proofs.value_sizes.parameter_size.Goals as goal

pub returns-then-is_named : goal.returns-then-is_named
returns-then-is_named c =
    let name = c.args.name.now in
    let rest = c.loop-is_named.rest.now in
    let front : IsFront rest (Some ((true, c.in-Some.size), c.in-Some.all)) (named_size name (parameter_front rest)) =
    subst (λ f. IsFront rest f (named_size name (parameter_front rest))) (c.in-Some.is ∙ ap (λ b. Some ((b, c.in-Some.size), c.in-Some.all)) c.if-is_named.true) c.front_size.ensures in
    size_here name rest c.in-Some.size c.in-Some.all front ∙ c.loop-is_named.invariant

pub loop-is_named-preserved : goal.loop-is_named-preserved
loop-is_named-preserved c =
    let name = c.args.name.now in
    let rest = c.loop-is_named.rest.now in
    let front : IsFront rest (Some ((false, c.in-Some.size), c.in-Some.all)) (named_size name (parameter_front rest)) =
    subst (λ f. IsFront rest f (named_size name (parameter_front rest))) (c.in-Some.is ∙ ap (λ b. Some ((b, c.in-Some.size), c.in-Some.all)) c.if-is_named.false) c.front_size.ensures in
    ap (λ r. parameter_size name (parameters_of r)) c.behind-rest.ensures ∙ size_later name rest c.in-Some.size c.in-Some.all front ∙ c.loop-is_named.invariant

pub returns : goal.returns
returns c =
    let name = c.args.name.now in
    let rest = c.loop-is_named.rest.now in
    size_none name rest (subst (λ f. IsFront rest f (named_size name (parameter_front rest))) c.in_default.is c.front_size.ensures) ∙ c.loop-is_named.invariant
