-- A text in quotes is read again as itself.
use Rattle.std.proofs.Common.{◌≡◌, ℕ, suc, ◌+◌, ◌≤◌, Bool, true, false, cond, eqb, leb, List, [], ◌∷◌, ◌++◌, length, take, drop, refl, ap, ◌∙◌, arith, Some, leb-true, ne_eqb}
use Rattle.std.specs.Prelude.{flat_map, ◌&&◌, ◌||◌, option_map}
use Rattle.std.specs.List.{list_all}
use Rattle.std.proofs.Math.Seq.{take-append_seam}
use Rattle.std.proofs.lemmas.List.{append_assoc}
use Rattle.imap_grammar.specs.Spellings.{unescaped}
use Rattle.imap_grammar.specs.Strings.{closing, is_text, quoted}
use Rattle.imap_grammar.specs.Readings.{byte}
use Rattle.imap_writer.specs.Texts.{is_printable, escaped, text_of}

both : (a b : Bool) → (a && b) ≡ true → (a ≡ true) × (b ≡ true)
both true b h = (refl, h)
both false b h = absurd (let no : false ≡ true = h in cc)

neither : (a b : Bool) → (a || b) ≡ false → (a ≡ false) × (b ≡ false)
neither true b h = absurd (let no : true ≡ false = h in cc)
neither false b h = (refl, h)

-- a byte that has a print can stand in quotes
printable_text : (c : ℕ) → is_printable c ≡ true → is_text c ≡ true
printable_text c h =
    let low : 32 ≤ c = leb-true 32 c (both (leb 32 c) (leb c 126) h).0 in
    let a : eqb c 0 ≡ false = ne_eqb c 0 (λ e. omega arith) in
    let b : eqb c 10 ≡ false = ne_eqb c 10 (λ e. omega arith) in
    let d : eqb c 13 ≡ false = ne_eqb c 13 (λ e. omega arith) in
    rw (a, b, d) refl

-- one byte more in front of what ends at its quote
closing_more : (special : Bool) (c : ℕ) (front rest : List ℕ) → (eqb c 34 || eqb c 92) ≡ special → is_text c ≡ true
    → closing false (front ++ 34 ∷ rest) ≡ Some (length front)
    → closing false ((cond special (92 ∷ c ∷ []) (c ∷ []) ++ front) ++ 34 ∷ rest) ≡ Some (length (cond special (92 ∷ c ∷ []) (c ∷ []) ++ front))
closing_more true c front rest is fits ends = rw (is, ends) refl
closing_more false c front rest is fits ends =
    let n = neither (eqb c 34) (eqb c 92) is in
    let quote : eqb c 34 ≡ false = n.0 in
    let slash : eqb c 92 ≡ false = n.1 in
    rw (quote, slash, fits, ends) refl

closing_escaped : (bytes rest : List ℕ) → list_all is_printable bytes ≡ true → closing false (flat_map escaped bytes ++ 34 ∷ rest) ≡ Some (length (flat_map escaped bytes))
closing_escaped [] rest h = refl
closing_escaped (c ∷ cs) rest h =
    let p = both (is_printable c) (list_all is_printable cs) h in
    closing_more (eqb c 34 || eqb c 92) c (flat_map escaped cs) rest refl (printable_text c p.0) (closing_escaped cs rest p.1)

unescaped_more : (special : Bool) (c : ℕ) (front : List ℕ) → (eqb c 34 || eqb c 92) ≡ special → unescaped (cond special (92 ∷ c ∷ []) (c ∷ []) ++ front) ≡ c ∷ unescaped front
unescaped_more true c front is = refl
unescaped_more false c front is = let slash : eqb c 92 ≡ false = (neither (eqb c 34) (eqb c 92) is).1 in rw slash refl

unescaped_escaped : (bytes : List ℕ) → unescaped (flat_map escaped bytes) ≡ bytes
unescaped_escaped [] = refl
unescaped_escaped (c ∷ cs) = unescaped_more (eqb c 34 || eqb c 92) c (flat_map escaped cs) refl ∙ ap (λ xs. c ∷ xs) (unescaped_escaped cs)

drop_seam : (xs : List ℕ) (y : ℕ) (ys : List ℕ) → drop (length xs + 1) (xs ++ y ∷ ys) ≡ ys
drop_seam [] y ys = refl
drop_seam (x ∷ xs) y ys = let e : length (x ∷ xs) + 1 ≡ suc (length xs + 1) = omega arith in ap (λ n. drop n (x ∷ (xs ++ y ∷ ys))) e ∙ drop_seam xs y ys

-- what stands behind the first quote
behind_quote : (bytes rest : List ℕ) → list_all is_printable bytes ≡ true
    → option_map {U = List ℕ × List ℕ} (λ n. (unescaped (take n (flat_map escaped bytes ++ 34 ∷ rest)), drop (n + 1) (flat_map escaped bytes ++ 34 ∷ rest))) (closing false (flat_map escaped bytes ++ 34 ∷ rest)) ≡ Some (bytes, rest)
behind_quote bytes rest h =
    rw (closing_escaped bytes rest h, take-append_seam (flat_map escaped bytes) (34 ∷ rest), unescaped_escaped bytes, drop_seam (flat_map escaped bytes) 34 rest) refl

pub quoted_again : (bytes rest : List ℕ) → list_all is_printable bytes ≡ true → quoted (text_of bytes ++ rest) ≡ Some (bytes, rest)
unfolding quoted byte text_of
quoted_again bytes rest h =
    rw h (ap (λ xs. quoted (34 ∷ xs)) (append_assoc (flat_map escaped bytes) (34 ∷ []) rest) ∙ behind_quote bytes rest h)
