-- Reading bytes from the left, one item after another.
use Rattle.std.proofs.Common.{◌≡◌, ℕ, zero, suc, ◌+◌, ◌-◌, ◌<◌, List, [], ◌∷◌, length, get_or, drop, Option, Some, None, refl, sym, ◌∙◌, ap, arith}
use Rattle.std.proofs.lemmas.List.{drop_more, drop-drop, drop_all}
use Rattle.transfer_codec.specs.Scan.{scan}

scan_over : {A : Type 0} (front : List ℕ → Option (ℕ × A)) (single : ℕ → A) (over : ℕ) (text : List ℕ) → scan front single over text ≡ scan front single 0 (drop over text)
unfolding scan
scan_over front single zero text = refl
scan_over front single (suc over) [] = refl
scan_over front single (suc over) (c ∷ cs) = scan_over front single over cs

found_here : {A : Type 0} (front : List ℕ → Option (ℕ × A)) (single : ℕ → A) (c : ℕ) (cs : List ℕ) (n : ℕ) (item : A) → front (c ∷ cs) ≡ Some (n, item) →
    scan front single 0 (c ∷ cs) ≡ item ∷ scan front single 0 (drop (n - 1) cs)
unfolding scan
found_here front single c cs n item e = rw (e, scan) (ap (λ items. item ∷ items) (scan_over front single (n - 1) cs))

none_here : {A : Type 0} (front : List ℕ → Option (ℕ × A)) (single : ℕ → A) (c : ℕ) (cs : List ℕ) → front (c ∷ cs) ≡ None →
    scan front single 0 (c ∷ cs) ≡ single c ∷ scan front single 0 cs
unfolding scan
none_here front single c cs e = rw (e, scan) refl

pub scan_found : {A : Type 0} (front : List ℕ → Option (ℕ × A)) (single : ℕ → A) (text : List ℕ) (at n : ℕ) (item : A) → at < length text → 0 < n →
    front (drop at text) ≡ Some (n, item) → scan front single 0 (drop at text) ≡ item ∷ scan front single 0 (drop (at + n) text)
scan_found front single text at n item h some e =
    let here = drop_more text at 0 h in
    let after : at + 1 + (n - 1) ≡ at + n = omega arith in
    ap (scan front single 0) here ∙ found_here front single (get_or text at 0) (drop (at + 1) text) n item (sym (ap front here) ∙ e)
    ∙ ap (λ rest. item ∷ scan front single 0 rest) (drop-drop (n - 1) (at + 1) text ∙ ap (λ k. drop k text) after)

pub scan_none : {A : Type 0} (front : List ℕ → Option (ℕ × A)) (single : ℕ → A) (text : List ℕ) (at : ℕ) → at < length text →
    front (drop at text) ≡ None → scan front single 0 (drop at text) ≡ single (get_or text at 0) ∷ scan front single 0 (drop (at + 1) text)
scan_none front single text at h e =
    let here = drop_more text at 0 h in
    ap (scan front single 0) here ∙ none_here front single (get_or text at 0) (drop (at + 1) text) (sym (ap front here) ∙ e)

pub scan_all : {A : Type 0} (front : List ℕ → Option (ℕ × A)) (single : ℕ → A) (text : List ℕ) (at : ℕ) → length text < at + 1 → scan front single 0 (drop at text) ≡ []
unfolding scan
scan_all front single text at h = rw (drop_all at text (omega arith)) refl
