-- Lines and boundaries, compared.
use Rattle.std.proofs.Common.{◌≡◌, ℕ, ◌+◌, ◌-◌, ◌<◌, Bool, true, false, ◌&&◌, ◌||◌, eqb, List, [], ◌∷◌, ◌++◌, length, take, drop, get_or, refl, sym, ◌∙◌, ap, arith, length-append, take-append-drop}
use Rattle.std.specs.Str.{bytes_eq}
use Rattle.std.specs.List.{list_any}
use Rattle.std.proofs.lemmas.Bool.{and_right, or_left, false_from_ne_true}
use Rattle.std.proofs.lemmas.List.{drop_more}
use Rattle.mime_reader.specs.Bodies.{closing, delimiter}
use Rattle.std.proofs.lemmas.Slice.Eq.{bytes_eq-Decides}
use Rattle.std.proofs.Math.Seq.{drop-append_seam, take-append_seam}
use Rattle.std.specs.Bool.{Decides}

both_false : (s t : Bool) → (s && (t && true)) ≡ false → (u : Bool) → (s && (t && u)) ≡ false
both_false true true h u = absurd (cc)
both_false true false h u = refl
both_false false t h u = refl

both_true : (s t : Bool) → (s && (t && true)) ≡ true → (u : Bool) → (s && (t && u)) ≡ u
both_true true true h u = refl
both_true true false h u = absurd (cc)
both_true false t h u = absurd (cc)

-- A text that doesn't begin with `--`.
pub dashes_none : (t x : List ℕ) → bytes_eq (take 2 t) (45 ∷ 45 ∷ []) ≡ false → bytes_eq t (45 ∷ 45 ∷ x) ≡ false
dashes_none [] x h = refl
dashes_none (c ∷ []) x h = and_right (eqb c 45) false refl
dashes_none (c ∷ d ∷ ds) x h = both_false (eqb c 45) (eqb d 45) h (bytes_eq ds x)

-- A text that does.
pub dashes_some : (t x : List ℕ) → bytes_eq (take 2 t) (45 ∷ 45 ∷ []) ≡ true → bytes_eq t (45 ∷ 45 ∷ x) ≡ bytes_eq (drop 2 t) x
dashes_some [] x h = absurd (cc)
dashes_some (c ∷ []) x h = let none : (eqb c 45 && false) ≡ false = and_right (eqb c 45) false refl in let bad : true ≡ false = sym h ∙ none in absurd (cc)
dashes_some (c ∷ d ∷ ds) x h = both_true (eqb c 45) (eqb d 45) h (bytes_eq ds x)

decides_same : {P : Type 0} (r s : Bool) → Decides r P → Decides s P → r ≡ s
decides_same true true d e = refl
decides_same true false d e = sym (e.1 (d.0 refl))
decides_same false true d e = d.1 (e.0 refl)
decides_same false false d e = refl

pub bytes_eq-sym : (x y : List ℕ) → bytes_eq x y ≡ bytes_eq y x
bytes_eq-sym x y =
    let d = bytes_eq-Decides y x in
    decides_same {P = x ≡ y} (bytes_eq x y) (bytes_eq y x) (bytes_eq-Decides x y) (λ e. sym (d.0 e), λ e. d.1 (sym e))

abbrev dashes : List ℕ
dashes = 45 ∷ 45 ∷ []

short_by : (b : List ℕ) → length (b ++ dashes) - 2 ≡ length b
short_by b = omega (arith, length-append b dashes)

-- A text that doesn't end with `--`.
pub closed_none : (text b : List ℕ) → bytes_eq (drop (length text - 2) text) (45 ∷ 45 ∷ []) ≡ false → bytes_eq text (b ++ 45 ∷ 45 ∷ []) ≡ false
closed_none text b h =
    false_from_ne_true (bytes_eq text (b ++ dashes))
    (λ e.
    let is : text ≡ b ++ dashes = (bytes_eq-Decides text (b ++ dashes)).0 e in
    let ends : drop (length text - 2) text ≡ dashes = ap (λ t. drop (length t - 2) t) is ∙ ap (λ n. drop n (b ++ dashes)) (short_by b) ∙ drop-append_seam b dashes in
    let bad : true ≡ false = sym ((bytes_eq-Decides (drop (length text - 2) text) dashes).1 ends) ∙ h in
    absurd (cc))

-- A text that does.
pub closed_some : (text b front : List ℕ) → bytes_eq (drop (length text - 2) text) (45 ∷ 45 ∷ []) ≡ true → front ≡ take (length text - 2) text →
    bytes_eq front b ≡ bytes_eq text (b ++ 45 ∷ 45 ∷ [])
closed_some text b front h is =
    let ends : drop (length text - 2) text ≡ dashes = (bytes_eq-Decides (drop (length text - 2) text) dashes).0 h in
    let d = bytes_eq-Decides front b in
    decides_same {P = text ≡ b ++ dashes} (bytes_eq front b) (bytes_eq text (b ++ dashes)) (
      λ e. sym (take-append-drop (length text - 2) text) ∙ ap (λ z. z ++ drop (length text - 2) text) (sym is ∙ d.0 e) ∙ ap (λ z. b ++ z) ends,
      λ e. d.1 (is ∙ ap (λ t. take (length t - 2) t) e ∙ ap (λ n. take n (b ++ dashes)) (short_by b) ∙ take-append_seam b dashes),
    )
    (bytes_eq-Decides text (b ++ dashes))

-- A boundary among others whose delimiter is the closing line.
closing_of : (b outer : List ℕ) → bytes_eq outer (b ++ 45 ∷ 45 ∷ []) ≡ bytes_eq (closing b) (delimiter outer)
closing_of b outer = bytes_eq-sym outer (b ++ dashes)

pub closes_here : (b : List ℕ) (enclosing : List (List ℕ)) (i : ℕ) (d : List ℕ) → i < length enclosing → bytes_eq (get_or enclosing i d) (b ++ 45 ∷ 45 ∷ []) ≡ true →
    list_any (λ outer. bytes_eq (closing b) (delimiter outer)) (drop i enclosing) ≡ true
closes_here b enclosing i d h is =
    ap (list_any (λ outer. bytes_eq (closing b) (delimiter outer))) (drop_more enclosing i d h)
    ∙ or_left (bytes_eq (closing b) (delimiter (get_or enclosing i d))) (list_any (λ outer. bytes_eq (closing b) (delimiter outer)) (drop (i + 1) enclosing))
    (sym (closing_of b (get_or enclosing i d)) ∙ is)

pub closes_later : (b : List ℕ) (enclosing : List (List ℕ)) (i : ℕ) (d : List ℕ) → i < length enclosing → bytes_eq (get_or enclosing i d) (b ++ 45 ∷ 45 ∷ []) ≡ false →
    list_any (λ outer. bytes_eq (closing b) (delimiter outer)) (drop i enclosing) ≡ list_any (λ outer. bytes_eq (closing b) (delimiter outer)) (drop (i + 1) enclosing)
closes_later b enclosing i d h isnt =
    ap (list_any (λ outer. bytes_eq (closing b) (delimiter outer))) (drop_more enclosing i d h)
    ∙ ap (λ t. t || list_any (λ outer. bytes_eq (closing b) (delimiter outer)) (drop (i + 1) enclosing)) (sym (closing_of b (get_or enclosing i d)) ∙ isnt)
