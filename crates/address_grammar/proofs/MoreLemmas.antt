-- The pieces that were found, and those that are left.
use Rattle.std.proofs.Common.{◌≡◌, ℕ, ◌+◌, ◌≤◌, List, [], ◌∷◌, ◌++◌, length, drop, Option, Some, None, option_map, refl, sym, ◌∙◌, ap}
use Rattle.std.proofs.lemmas.List.{drop_all, append-nil, append_assoc, drop-drop}
use Rattle.address_grammar.specs.declared.pieces.Piece.{Piece}
use Rattle.address_grammar.specs.Pieces.{before, pieces}
use Rattle.address_grammar.specs.Found.{IsPiece}
use Rattle.address_grammar.proofs.PieceLemmas.{pieces_none}

-- Pieces in front of those that are left.
abbrev pub ahead_of : List Piece → Option (List Piece) → Option (List Piece)
ahead_of out left = option_map (λ ps. out ++ ps) left

pub pieces_all : (value : List ℕ) (at : ℕ) (out : List Piece) → ahead_of out (pieces (drop at value)) ≡ pieces value → length value ≤ at → Some out ≡ pieces value
pieces_all value at out left none =
    sym (ap (ahead_of out) (ap pieces (drop_all at value none) ∙ pieces_none) ∙ ap Some (append-nil out)) ∙ left

ahead-before : (out : List Piece) (p : Piece) (left : Option (List Piece)) → ahead_of (out ++ p ∷ []) left ≡ ahead_of out (before p left)
ahead-before out p None = refl
ahead-before out p (Some ps) = ap Some (append_assoc out (p ∷ []) ps)

pub pieces_more : (value : List ℕ) (at taken : ℕ) (out : List Piece) (p : Piece) → ahead_of out (pieces (drop at value)) ≡ pieces value →
    IsPiece (pieces (drop at value)) (drop at value) p taken → ahead_of (out ++ p ∷ []) (pieces (drop (at + taken) value)) ≡ pieces value
pieces_more value at taken out p left i =
    ahead-before out p (pieces (drop (at + taken) value))
    ∙ ap (ahead_of out) (sym (i.is ∙ ap (λ z. before p (pieces z)) (drop-drop taken at value))) ∙ left

pub pieces_fail : (value : List ℕ) (at : ℕ) (out : List Piece) → ahead_of out (pieces (drop at value)) ≡ pieces value → pieces (drop at value) ≡ None → None ≡ pieces value
pieces_fail value at out left none = sym (ap (ahead_of out) none) ∙ left
