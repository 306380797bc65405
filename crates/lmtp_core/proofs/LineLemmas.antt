-- Lines however their bytes are cut.
use Rattle.std.proofs.Common.{◌≡◌, ℕ, Option, Some, None, List, [], ◌∷◌, ◌++◌, refl, sym, ◌∙◌, ap, append_assoc, append-nil}
use Rattle.lmtp_core.specs.declared.lines.LineShown.{LineShown}
use Rattle.lmtp_core.specs.declared.lines.LineShown.TheVariants.{More, Whole, TooLong}
use Rattle.lmtp_core.specs.Lines.{Line, first_line, line_behind, line_shown, or_later}

-- a line with more bytes behind it
followed : List ℕ → Option Line → Option Line
followed later None = None
followed later (Some cut) = Some (record { line = cut.line; shows = cut.shows; rest = cut.rest ++ later })

behind-append : (line bytes later : List ℕ) → line_behind line bytes ≡ None → line_behind line (bytes ++ later) ≡ line_behind (line ++ bytes) later
behind-append line [] later none = ap (λ (l : List ℕ). line_behind l later) (sym (append-nil line))
behind-append line (b ∷ bs) later none = by (line_shown (line ++ b ∷ [])) none (λ h. behind-append (line ++ b ∷ []) bs later h)
  where
    by : (shown : LineShown) → or_later shown (line ++ b ∷ []) bs (line_behind (line ++ b ∷ []) bs) ≡ None
        → (line_behind (line ++ b ∷ []) bs ≡ None → line_behind (line ++ b ∷ []) (bs ++ later) ≡ line_behind ((line ++ b ∷ []) ++ bs) later)
        → or_later shown (line ++ b ∷ []) (bs ++ later) (line_behind (line ++ b ∷ []) (bs ++ later)) ≡ line_behind (line ++ b ∷ bs) later
    by More h next = next h ∙ ap (λ (l : List ℕ). line_behind l later) (append_assoc line (b ∷ []) bs)
    by Whole h next = cc
    by TooLong h next = cc

stays_behind : (line bytes later : List ℕ) (cut : Line) → line_behind line bytes ≡ Some cut → line_behind line (bytes ++ later) ≡ followed later (Some cut)
unfolding followed
stays_behind line [] later cut some = cc
stays_behind line (b ∷ bs) later cut some = by (line_shown (line ++ b ∷ [])) some (λ h. stays_behind (line ++ b ∷ []) bs later cut h)
  where
    by : (shown : LineShown) → or_later shown (line ++ b ∷ []) bs (line_behind (line ++ b ∷ []) bs) ≡ Some cut
        → (line_behind (line ++ b ∷ []) bs ≡ Some cut → line_behind (line ++ b ∷ []) (bs ++ later) ≡ followed later (Some cut))
        → or_later shown (line ++ b ∷ []) (bs ++ later) (line_behind (line ++ b ∷ []) (bs ++ later)) ≡ followed later (Some cut)
    by More h next = next h
    by Whole h next = ap (followed later) h
    by TooLong h next = ap (followed later) h

-- the bytes of a line and those behind it are all of them
whole_of : Option Line → List ℕ → List ℕ
whole_of None bytes = bytes
whole_of (Some cut) bytes = cut.line ++ cut.rest

parts_behind : (line bytes : List ℕ) → whole_of (line_behind line bytes) (line ++ bytes) ≡ line ++ bytes
unfolding whole_of
parts_behind line [] = refl
parts_behind line (b ∷ bs) = by (line_shown (line ++ b ∷ [])) (parts_behind (line ++ b ∷ []) bs)
  where
    by : (shown : LineShown) → whole_of (line_behind (line ++ b ∷ []) bs) ((line ++ b ∷ []) ++ bs) ≡ (line ++ b ∷ []) ++ bs
        → whole_of (or_later shown (line ++ b ∷ []) bs (line_behind (line ++ b ∷ []) bs)) (line ++ b ∷ bs) ≡ line ++ b ∷ bs
    by More next = ap (λ (l : List ℕ). whole_of (line_behind (line ++ b ∷ []) bs) l) (sym (append_assoc line (b ∷ []) bs)) ∙ next ∙ append_assoc line (b ∷ []) bs
    by Whole next = append_assoc line (b ∷ []) bs
    by TooLong next = append_assoc line (b ∷ []) bs

pub line_parts : (bytes : List ℕ) (cut : Line) → first_line bytes ≡ Some cut → bytes ≡ cut.line ++ cut.rest
unfolding first_line whole_of
line_parts bytes cut some = sym (parts_behind [] bytes) ∙ ap (λ (found : Option Line). whole_of found bytes) some

pub line_stays : (bytes later : List ℕ) (cut : Line) → first_line bytes ≡ Some cut
    → first_line (bytes ++ later) ≡ Some (record { line = cut.line; shows = cut.shows; rest = cut.rest ++ later })
unfolding first_line followed
line_stays bytes later cut some = stays_behind [] bytes later cut some

pub line_goes_on : (bytes later : List ℕ) → first_line bytes ≡ None → first_line (bytes ++ later) ≡ line_behind bytes later
unfolding first_line
line_goes_on bytes later none = behind-append [] bytes later none
