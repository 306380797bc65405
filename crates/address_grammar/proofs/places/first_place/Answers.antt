use Rattle.std.proofs.Common.{◌+◌, ◌∷◌, take, sym, ◌∙◌, ap}
use Rattle.std.proofs.lemmas.List.{take_rest}
use Rattle.address_grammar.specs.Places.{places_behind}
use Rattle.address_grammar.specs.Places.Place.{place}
use Rattle.address_grammar.proofs.PlaceLemmas.{place_more, place_ends, place_all}
use Rattle.address_grammar.proofs.places.first_place.Goals as goal

pub returns-in-Some-clause-is : goal.returns-in-Some-clause-is
returns-in-Some-clause-is c =
    let ps = c.args.pieces.now in
    place_ends ps c.loop-at.at _ c.loop-at.angled c.in-Some.ending c.loop-at-test.true c.index-pieces-at.is (sym c.in-Some.ensures) c.loop-at.invariant
    ∙ ap (λ z. place (take c.loop-at.at ps) c.in-Some.ending ∷ places_behind c.in-Some.ending z) (sym (take_rest ps (c.loop-at.at + 1)))

pub loop-at-preserved : goal.loop-at-preserved
loop-at-preserved c =
    place_more c.args.pieces.now c.loop-at.at _ c.loop-at.angled c.angled_behind-angled.result c.loop-at-test.true c.index-pieces-at.is (sym c.in_default.ensures) c.angled_behind-angled.ensures c.loop-at.invariant

pub returns-clause-is : goal.returns-clause-is
returns-clause-is c = place_all c.args.pieces.now c.loop-at.at c.loop-at.angled c.loop-at-test.false c.loop-at.invariant
