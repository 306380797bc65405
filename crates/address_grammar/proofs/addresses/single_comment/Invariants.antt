use Rattle.std.proofs.Common.{◌≡◌, ◌∷◌, drop, MatchOption}
use Rattle.address_grammar.specs.Words.{comments}
use Rattle.address_grammar.proofs.addresses.single_comment.Given as goal

-- The comments are the one found, if there is one, and those that are left.
abbrev pub invariant-loop-piece : goal.invariant-loop-piece
invariant-loop-piece l =
    MatchOption l.found (comments l.pieces ≡ comments (drop l.piece-index l.pieces))
    (λ text. comments l.pieces ≡ text.now ∷ comments (drop l.piece-index l.pieces))
