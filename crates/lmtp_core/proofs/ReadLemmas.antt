-- How a text is read in runs of bytes.
use Rattle.std.proofs.Common.{◌≡◌, ℕ, zero, suc, ◌+◌, ◌-◌, ◌<◌, ◌≤◌, Bool, true, false, cond, eqb, nat_lt, Option, Some, None, List, [], ◌∷◌, ◌++◌, length, get_or, take, drop, refl, sym, ◌∙◌, ap, subst, arith, append_assoc, append-nil, length-append, length-drop}
use Rattle.std.proofs.lemmas.Bool.{false_from_ne_true, eqb-true}
use Rattle.std.proofs.lemmas.Bool.Decides.{nat_tests}
use Rattle.std.proofs.lemmas.List.{drop_more, take_more, drop_all, take_all}
use native.Mathlib.Numerals.{unary_clauses}
use Rattle.memchr.specs.Find.{IsFirstByte, is_byte}
use Rattle.lmtp_core.specs.declared.reading.Place.TheVariants.{Start, Inside}
use Rattle.lmtp_core.specs.Texts.{bounded, content_limit}
use Rattle.lmtp_core.specs.Reading.{Read, Takes, ends_return, is_end, reads, reads_byte, taken, with_bytes, within_line}

-- Bytes behind a content, in two parts or at once.

both_parts : (bytes more later : List ℕ) (long : Bool) → nat_lt content_limit (length (bytes ++ more)) ≡ long → with_bytes (cond long None (Some (bytes ++ more))) later ≡ with_bytes (bounded (bytes ++ more)) later
both_parts bytes more later long h = rw h refl

bounded_parts : (bytes later : List ℕ) (b : ℕ) → with_bytes (bounded bytes) (b ∷ later) ≡ bounded (bytes ++ b ∷ later)
bounded_parts bytes later b = by (nat_lt content_limit (length bytes)) refl
  where
    by : (long : Bool) → nat_lt content_limit (length bytes) ≡ long → with_bytes (cond long None (Some bytes)) (b ∷ later) ≡ bounded (bytes ++ b ∷ later)
    by true h =
        let longer : nat_lt content_limit (length (bytes ++ b ∷ later)) ≡ true = grind (arith, nat_tests, h, length-append bytes (b ∷ later)) in
        rw longer refl
    by false h = refl

pub with-append : (kept : Option (List ℕ)) (more later : List ℕ) → with_bytes (with_bytes kept more) later ≡ with_bytes kept (more ++ later)
with-append kept [] later = refl
with-append kept (c ∷ cs) [] = ap (with_bytes kept) (sym (append-nil (c ∷ cs)))
with-append None (c ∷ cs) (b ∷ later) = refl
with-append (Some bytes) (c ∷ cs) (b ∷ later) = bounded_parts (bytes ++ c ∷ cs) later b ∙ ap bounded (append_assoc bytes (c ∷ cs) (b ∷ later))

-- Runs put together.

drop-add : (m n : ℕ) (xs : List ℕ) → drop n (drop m xs) ≡ drop (m + n) xs
drop-add zero n xs = ap (λ k. drop k xs) (let e : n ≡ zero + n = omega arith in e)
drop-add (suc m) n [] = drop_all n [] (omega arith) ∙ sym (drop_all (suc m + n) [] (omega arith))
drop-add (suc m) n (x ∷ xs) = drop-add m n xs ∙ ap (λ k. drop k (x ∷ xs)) (let e : suc (m + n) ≡ suc m + n = omega arith in e)

pub takes_none : (read : Read) (bytes : List ℕ) → Takes read read bytes 0
takes_none read bytes = record { within = omega arith; reads_on = refl; counts_on = omega arith }

pub takes_both : (a b c : Read) (bytes : List ℕ) (m n : ℕ) → Takes a b bytes m → Takes b c (drop m bytes) n → Takes a c bytes (m + n)
takes_both a b c bytes m n one two = record {
  within = omega (arith, one.within, two.within, length-drop m bytes);
  reads_on = one.reads_on ∙ two.reads_on ∙ ap (reads c) (drop-add m n bytes);
  counts_on = one.counts_on ∙ ap (λ k. m + k) (two.counts_on ∙ ap (λ l. n + taken c l) (drop-add m n bytes)) ∙ (let e : m + (n + taken c (drop (m + n) bytes)) ≡ m + n + taken c (drop (m + n) bytes) = omega arith in e);
}

pub takes_byte : (read : Read) (byte : ℕ) (bytes : List ℕ) → is_end read.place ≡ false → Takes read (reads_byte read byte) (byte ∷ bytes) 1
takes_byte read byte bytes goes = record { within = omega arith; reads_on = rw goes refl; counts_on = rw goes (omega arith) }

-- A run within a line.

pub ends-last : (behind : Bool) (xs : List ℕ) (at : ℕ) → 0 < at → at ≤ length xs → ends_return behind (take at xs) ≡ eqb (get_or xs (at - 1) 0) 13
ends-last behind xs zero some within = absurd (omega arith)
ends-last behind [] (suc n) some within = absurd (omega arith)
ends-last behind (c ∷ cs) (suc zero) some within = refl
ends-last behind (c ∷ cs) (suc (suc n)) some within = simp unary_clauses (simp unary_clauses at (ends-last (eqb c 13) cs (suc n) (omega arith) (omega arith)))

pub ends-all : (behind : Bool) (xs : List ℕ) → 0 < length xs → eqb (get_or xs (length xs - 1) 0) 13 ≡ ends_return behind xs
ends-all behind xs some =
    sym (ends-last behind xs (length xs) some (omega arith)) ∙ ap (ends_return behind) (take_all (length xs) xs (omega arith))

is_open : (behind : Bool) → is_end (within_line behind) ≡ false
is_open true = refl
is_open false = refl

byte_within : (behind : Bool) (kept : Option (List ℕ)) (c : ℕ) → eqb c 10 ≡ false
    → reads_byte (record { place = within_line behind; kept = kept }) c ≡ record { place = within_line (eqb c 13); kept = with_bytes kept (c ∷ []) }
byte_within true kept c other = rw other refl
byte_within false kept c other = refl

end_within : (behind : Bool) (kept : Option (List ℕ))
    → reads_byte (record { place = within_line behind; kept = kept }) 10 ≡ record { place = cond behind Start Inside; kept = with_bytes kept (10 ∷ []) }
end_within true kept = refl
end_within false kept = refl

takes_within : (behind : Bool) (kept : Option (List ℕ)) (c : ℕ) (cs : List ℕ) → eqb c 10 ≡ false
    → Takes (record { place = within_line behind; kept = kept }) (record { place = within_line (eqb c 13); kept = with_bytes kept (c ∷ []) }) (c ∷ cs) 1
takes_within behind kept c cs other =
    subst (λ (next : Read). Takes (record { place = within_line behind; kept = kept }) next (c ∷ cs) 1) (byte_within behind kept c other)
    (takes_byte (record { place = within_line behind; kept = kept }) c cs (is_open behind))

pub takes_run : (behind : Bool) (kept : Option (List ℕ)) (xs : List ℕ) (at : ℕ) → at ≤ length xs
    → ((k : ℕ) → k < at → eqb (get_or xs k 0) 10 ≡ true → ⊥)
    → Takes (record { place = within_line behind; kept = kept }) (record { place = within_line (ends_return behind (take at xs)); kept = with_bytes kept (take at xs) }) xs at
takes_run behind kept xs zero within none = takes_none (record { place = within_line behind; kept = kept }) xs
takes_run behind kept [] (suc n) within none = absurd (omega arith)
takes_run behind kept (c ∷ cs) (suc n) within none =
    let here = takes_within behind kept c cs (false_from_ne_true (eqb c 10) (none 0 (omega arith))) in
    let later = takes_run (eqb c 13) (with_bytes kept (c ∷ [])) cs n (omega arith) (λ k h e. none (suc k) (omega arith) e) in
    let one : 1 + n ≡ suc n = omega arith in
    subst (λ (count : ℕ). Takes (record { place = within_line behind; kept = kept }) (record { place = within_line (ends_return (eqb c 13) (take n cs)); kept = with_bytes kept (c ∷ take n cs) }) (c ∷ cs) count) one
    (takes_both _ _ _ (c ∷ cs) 1 n here
    (subst (λ (k : Option (List ℕ)). Takes (record { place = within_line (eqb c 13); kept = with_bytes kept (c ∷ []) }) (record { place = within_line (ends_return (eqb c 13) (take n cs)); kept = k }) cs n) (with-append kept (c ∷ []) (take n cs)) later))

-- What a search for a LF tells.
pub takes_line : (behind ends : Bool) (kept new : Option (List ℕ)) (xs : List ℕ) (at : ℕ) → IsFirstByte (is_byte 10) xs (Some at)
    → ends_return behind (take at xs) ≡ ends → new ≡ with_bytes kept (take (at + 1) xs)
    → Takes (record { place = within_line behind; kept = kept }) (record { place = cond ends Start Inside; kept = new }) xs (at + 1)
takes_line behind ends kept new xs at found same is =
    let within : at < length xs = found.0.high in
    let run = takes_run behind kept xs at (omega arith) (λ k h e. found.0.before k (omega arith) h e) in
    let here : drop at xs ≡ 10 ∷ drop (at + 1) xs = drop_more xs at 0 within ∙ ap (λ c. c ∷ drop (at + 1) xs) (eqb-true (get_or xs at 0) 10 found.1) in
    let longer : with_bytes (with_bytes kept (take at xs)) (10 ∷ []) ≡ new =
    with-append kept (take at xs) (10 ∷ []) ∙ ap (with_bytes kept) (ap (λ c. take at xs ++ c ∷ []) (sym (eqb-true (get_or xs at 0) 10 found.1)) ∙ sym (take_more xs at 0 within)) ∙ sym is in
    let last = takes_byte (record { place = within_line (ends_return behind (take at xs)); kept = with_bytes kept (take at xs) }) 10 (drop (at + 1) xs) (is_open (ends_return behind (take at xs))) in
    let next : reads_byte (record { place = within_line (ends_return behind (take at xs)); kept = with_bytes kept (take at xs) }) 10 ≡ record { place = cond ends Start Inside; kept = new } =
    end_within (ends_return behind (take at xs)) (with_bytes kept (take at xs)) ∙ ap (λ (e : Bool). record { place = cond e Start Inside; kept = with_bytes (with_bytes kept (take at xs)) (10 ∷ []) }) same
    ∙ ap (λ (k : Option (List ℕ)). record { place = cond ends Start Inside; kept = k }) longer in
    takes_both _ _ _ xs at 1 run
    (subst (λ (l : List ℕ). Takes (record { place = within_line (ends_return behind (take at xs)); kept = with_bytes kept (take at xs) }) (record { place = cond ends Start Inside; kept = new }) l 1) (sym here)
    (subst (λ (r : Read). Takes (record { place = within_line (ends_return behind (take at xs)); kept = with_bytes kept (take at xs) }) r (10 ∷ drop (at + 1) xs) 1) next last))

pub takes_rest : (behind ends : Bool) (kept new : Option (List ℕ)) (xs : List ℕ) → IsFirstByte (is_byte 10) xs None
    → ends_return behind xs ≡ ends → new ≡ with_bytes kept xs
    → Takes (record { place = within_line behind; kept = kept }) (record { place = within_line ends; kept = new }) xs (length xs)
takes_rest behind ends kept new xs none same is =
    let all : take (length xs) xs ≡ xs = take_all (length xs) xs (omega arith) in
    let run = takes_run behind kept xs (length xs) (omega arith) (λ k h e. none k (omega arith) h e) in
    let after : record { place = within_line (ends_return behind (take (length xs) xs)); kept = with_bytes kept (take (length xs) xs) } ≡ record { place = within_line ends; kept = new } =
    ap (λ (l : List ℕ). record { place = within_line (ends_return behind l); kept = with_bytes kept l }) all ∙ ap (λ (e : Bool). record { place = within_line e; kept = with_bytes kept xs }) same ∙ ap (λ (k : Option (List ℕ)). record { place = within_line ends; kept = k }) (sym is) in
    subst (λ (r : Read). Takes (record { place = within_line behind; kept = kept }) r xs (length xs)) after run

-- The text is whole, or no byte is left.
pub takes_all : (a b : Read) (xs : List ℕ) (at : ℕ) → Takes a b xs at → length xs ≤ at → (at ≡ taken a xs) × (b ≡ reads a xs)
takes_all a b xs at all none =
    let left : drop at xs ≡ [] = drop_all at xs none in (
      sym (all.counts_on ∙ ap (λ l. at + taken b l) left ∙ (let e : at + 0 ≡ at = omega arith in e)),
      sym (all.reads_on ∙ ap (reads b) left),
    )

pub reads_end : (b : Read) (xs : List ℕ) → is_end b.place ≡ true → (reads b xs ≡ b) × (taken b xs ≡ 0)
reads_end b [] e = (refl, refl)
reads_end b (c ∷ cs) e = (rw e refl, rw e refl)

pub takes_end : (a b : Read) (xs : List ℕ) (at : ℕ) → Takes a b xs at → is_end b.place ≡ true → (at ≡ taken a xs) × (b ≡ reads a xs)
takes_end a b xs at all e =
    let end = reads_end b (drop at xs) e in (
      sym (all.counts_on ∙ ap (λ n. at + n) end.1 ∙ (let e : at + 0 ≡ at = omega arith in e)),
      sym (all.reads_on ∙ end.0),
    )
