-- Texts without the blanks at their ends.
use Rattle.std.proofs.Common.{◌≡◌, ℕ, ◌+◌, ◌<◌, true, false, List, [], ◌∷◌, ◌++◌, length, get_or, take, sym, ◌∙◌, ap}
use Rattle.std.proofs.lemmas.Bool.{cond-true, cond-false}
use Rattle.std.proofs.lemmas.List.{take_more}
use Rattle.mail_text.specs.Texts.{is_blank, before_trimmed, without_blank_end}

blank_end : (x : List ℕ) (c : ℕ) → is_blank c ≡ true → without_blank_end (x ++ c ∷ []) ≡ without_blank_end x
blank_end [] c is = cond-true (is_blank c) [] (c ∷ []) is
blank_end (d ∷ ds) c is = ap (before_trimmed d) (blank_end ds c is)

no_blank_end : (x : List ℕ) (c : ℕ) → is_blank c ≡ false → without_blank_end (x ++ c ∷ []) ≡ x ++ c ∷ []
no_blank_end [] c isnt = cond-false (is_blank c) [] (c ∷ []) isnt
no_blank_end (d ∷ []) c isnt = ap (before_trimmed d) (no_blank_end [] c isnt)
no_blank_end (d ∷ e ∷ es) c isnt = ap (before_trimmed d) (no_blank_end (e ∷ es) c isnt)

pub end_more : (text : List ℕ) (end : ℕ) → end < length text → is_blank (get_or text end 0) ≡ true →
    without_blank_end (take (end + 1) text) ≡ without_blank_end (take end text)
end_more text end h is = ap without_blank_end (take_more text end 0 h) ∙ blank_end (take end text) (get_or text end 0) is

pub end_stays : (text : List ℕ) (end : ℕ) → end < length text → is_blank (get_or text end 0) ≡ false →
    without_blank_end (take (end + 1) text) ≡ take (end + 1) text
end_stays text end h isnt =
    ap without_blank_end (take_more text end 0 h) ∙ no_blank_end (take end text) (get_or text end 0) isnt ∙ sym (take_more text end 0 h)
