-- A column that is read is the column that was written, and what was written is read again.
use Rattle.std.proofs.Common.{◌≡◌, ℕ, ℤ, FitsSigned, ◌+◌, ◌^◌, ◌<◌, ◌≤◌, Bool, true, false, cond, ltb, List, [], ◌∷◌, ◌++◌, length, get_or, take, drop, Option, Some, None, refl, sym, ap, subst, ◌∙◌, append_assoc, arith, inl, inr}
use Rattle.std.specs.Prelude.{⊤, if◌then◌else◌}
use Rattle.std.specs.Int.{Width, w8, w16, w32, w64, byte_len, from_be_bytes, to_be_bytes, cast_signed, cast_unsigned}
use Rattle.std.specs.Option.{option_and_then}
use Rattle.std.proofs.lemmas.Bool.{cases_lt, ltb-false, le-ltb}
use Rattle.std.proofs.lemmas.List.{take_at, drop_at, take-append-drop, length-append, length-take, get_or-drop, get_or-take, get_or_past}
use Rattle.std.proofs.lemmas.Nat.{be_bytes_2, be_bytes_4, be_bytes_8, from_be_bytes-to_be_bytes_2, from_be_bytes-to_be_bytes_4, from_be_bytes-to_be_bytes_8}
use Rattle.std.proofs.lemmas.Int.{to_z-of_z, of_z-to_z}
use Rattle.std.proofs.Math.Facts.{Fits-of_z, sfits_to_z}
use Rattle.row_codec.specs.Columns.{Column, number_bytes, text_bytes, number, signed, nothing, text, digest, ◌&◌}
use Rattle.row_codec.specs.Codec.{Codec, mapped, front_read, number_read, text_read, both_read, number_codec, signed_codec, nothing_codec, text_codec, digest_codec, ◌then◌}

abbrev pub IsBytes : List ℕ → Type 0
IsBytes bytes = (i : ℕ) → get_or bytes i 0 < 256

-- the bytes are those of a value and a rest
pub record Takes {A : Type 0} (column : Column A) (bytes : List ℕ) (x : A) (rest : List ℕ) : Type 0 where
  pub parts : bytes ≡ column.bytes x ++ rest
  pub texts : column.HasTexts x
  pub widths : column.HasWidths x
  pub rest_fits : IsBytes rest

-- What is written is read again, whatever follows it, and what is read was written.
pub record Laws {A : Type 0} (c : Codec A) : Type 0 where
  pub again : (x : A) (rest : List ℕ) → c.column.HasTexts x → c.column.HasWidths x → c.read (c.column.bytes x ++ rest) ≡ Some (x, rest)
  pub takes : (bytes : List ℕ) (x : A) (rest : List ℕ) → IsBytes bytes → c.read bytes ≡ Some (x, rest) → Takes c.column bytes x rest

IsBytes-drop : (n : ℕ) (bytes : List ℕ) → IsBytes bytes → IsBytes (drop n bytes)
IsBytes-drop n bytes h i = rw get_or-drop (h (n + i))

IsBytes-take : (n : ℕ) (bytes : List ℕ) → IsBytes bytes → IsBytes (take n bytes)
IsBytes-take n bytes h i =
    elim (cases_lt i n) [
      | inl lt ↦ rw (get_or-take n bytes i 0 lt) (h i)
      | inr le ↦ rw (get_or_past (take n bytes) i 0 (omega (arith, length-take n bytes))) (omega arith)
    ]

-- the value of a step that found one
pub bind_some : {A B : Type 0} (o : Option A) (f : A → Option B) (y : B) → option_and_then f o ≡ Some y → (x : A) × (o ≡ Some x) × (f x ≡ Some y)
bind_some (Some x) f y e = (x, refl, e)
bind_some None f y e = absurd cc

-- a test that didn't fail
pub guard_some : {A : Type 0} (b : Bool) (x y : A) → cond b None (Some x) ≡ Some y → (b ≡ false) × (x ≡ y)
guard_some true x y e = absurd cc
guard_some false x y e = (refl, cc)

abbrev found : {A : Type 0} → A → Option A
found x = Some x

pub found_is : {A : Type 0} (x y : A) → found x ≡ found y → x ≡ y
found_is x y e = cc

-- ---- so many bytes

front_takes : (n : ℕ) (bytes front rest : List ℕ) → IsBytes bytes → front_read n bytes ≡ Some (front, rest) → (bytes ≡ front ++ rest) × (length front ≡ n) × IsBytes front × IsBytes rest
front_takes n bytes front rest fits e =
    let g = guard_some (ltb (length bytes) n) (take n bytes, drop n bytes) (front, rest) e in
    let long : n ≤ length bytes = ltb-false _ _ g.0 in
    subst (λ (p : List ℕ × List ℕ). (bytes ≡ p.0 ++ p.1) × (length p.0 ≡ n) × IsBytes p.0 × IsBytes p.1) g.1
    (sym (take-append-drop n bytes), (omega (arith, length-take n bytes)), IsBytes-take n bytes fits, IsBytes-drop n bytes fits)

front_again : (n : ℕ) (front rest : List ℕ) → length front ≡ n → front_read n (front ++ rest) ≡ Some (front, rest)
front_again n front rest len =
    let long : ltb (length (front ++ rest)) n ≡ false = le-ltb _ _ (omega (arith, length-append front rest)) in
    rw (long, take_at front rest n len, drop_at front rest n len) refl

-- ---- numbers

pub record IsWide (w : Width) : Type 0 where
  pub len : (n : ℕ) → length (to_be_bytes w n) ≡ byte_len w
  pub back : (bytes : List ℕ) → length bytes ≡ byte_len w → IsBytes bytes → to_be_bytes w (from_be_bytes w bytes) ≡ bytes
  pub again : (n : ℕ) → n < 256 ^ byte_len w → from_be_bytes w (to_be_bytes w n) ≡ n
  pub below : (bytes : List ℕ) → IsBytes bytes → from_be_bytes w bytes < 256 ^ byte_len w

back8 : (bytes : List ℕ) → length bytes ≡ 1 → IsBytes bytes → to_be_bytes w8 (from_be_bytes w8 bytes) ≡ bytes
back8 (b ∷ []) len fits =
    ap (λ (n : ℕ). n ∷ []) (omega (arith, fits 0))
back8 bytes len fits = absurd (omega arith)

pub wide8 : IsWide w8
wide8 = record {
  len = λ n. refl;
  back = back8;
  again = λ n lt. omega arith;
  below = λ bytes fits. omega (arith, fits 0);
}

pub wide16 : IsWide w16
wide16 = record {
  len = λ n. refl;
  back = λ bytes len fits. be_bytes_2 bytes _ len fits refl;
  again = λ n lt. from_be_bytes-to_be_bytes_2 n lt;
  below = λ bytes fits. omega (arith, fits 0, fits 1);
}

pub wide32 : IsWide w32
wide32 = record {
  len = λ n. refl;
  back = λ bytes len fits. be_bytes_4 bytes _ len fits refl;
  again = λ n lt. from_be_bytes-to_be_bytes_4 n lt;
  below = λ bytes fits. omega (arith, fits 0, fits 1, fits 2, fits 3);
}

pub wide64 : IsWide w64
wide64 = record {
  len = λ n. refl;
  back = λ bytes len fits. be_bytes_8 bytes _ len fits refl;
  again = λ n lt. from_be_bytes-to_be_bytes_8 n lt;
  below = λ bytes fits. omega (arith, fits 0, fits 1, fits 2, fits 3, fits 4, fits 5, fits 6, fits 7);
}

number_again : (w : Width) (wide : IsWide w) (n : ℕ) (rest : List ℕ) → n < 256 ^ byte_len w → number_read w (number_bytes w n ++ rest) ≡ Some (n, rest)
unfolding number_read number_bytes
number_again w wide n rest lt =
    ap (option_and_then (λ (p : List ℕ × List ℕ). Some (from_be_bytes w p.0, p.1))) (front_again (byte_len w) (to_be_bytes w n) rest (wide.len n))
    ∙ ap (λ (m : ℕ). Some (m, rest)) (wide.again n lt)

number_takes : (w : Width) (wide : IsWide w) (bytes : List ℕ) (n : ℕ) (rest : List ℕ) → IsBytes bytes → number_read w bytes ≡ Some (n, rest) → Takes (number w) bytes n rest
unfolding number_read number_bytes
number_takes w wide bytes n rest fits e =
    let b = bind_some (front_read (byte_len w) bytes) (λ p. Some (from_be_bytes w p.0, p.1)) (n, rest) e in
    let front = b.0.0 in
    let t = front_takes (byte_len w) bytes front b.0.1 fits b.1 in
    let written : bytes ≡ to_be_bytes w (from_be_bytes w front) ++ b.0.1 = t.0 ∙ ap (λ (l : List ℕ). l ++ b.0.1) (sym (wide.back front t.1 t.2)) in
    let whole : Takes (number w) bytes (from_be_bytes w front) b.0.1 = record { parts = written; texts = tt; widths = wide.below front t.2; rest_fits = t.3 } in
    subst (λ (p : ℕ × List ℕ). Takes (number w) bytes p.0 p.1) (found_is (from_be_bytes w front, b.0.1) (n, rest) b.2) whole

pub number_laws : (w : Width) → IsWide w → Laws (number_codec w)
number_laws w wide = record { again = λ n rest texts widths. number_again w wide n rest widths; takes = number_takes w wide }

-- ---- signed numbers

-- what is known of a width and its casts
pub record IsSigned (w : Width) : Type 0 where
  pub again : (z : ℤ) → FitsSigned w z → cast_signed w (cast_unsigned w z) ≡ z
  pub below : (z : ℤ) → FitsSigned w z → cast_unsigned w z < 256 ^ byte_len w
  pub back : (n : ℕ) → n < 256 ^ byte_len w → cast_unsigned w (cast_signed w n) ≡ n
  pub fits : (n : ℕ) → n < 256 ^ byte_len w → FitsSigned w (cast_signed w n)

pub bits16 : IsSigned w16
bits16 = record { again = to_z-of_z w16; below = λ z f. (Fits-of_z f).fits; back = λ n lt. of_z-to_z w16 n lt; fits = λ n lt. sfits_to_z (record { fits = lt }) }

pub bits64 : IsSigned w64
bits64 = record { again = to_z-of_z w64; below = λ z f. (Fits-of_z f).fits; back = λ n lt. of_z-to_z w64 n lt; fits = λ n lt. sfits_to_z (record { fits = lt }) }

signed_again : (w : Width) → IsWide w → IsSigned w → (z : ℤ) (rest : List ℕ) → FitsSigned w z → mapped (λ n. cast_signed w n) (number_read w (number_bytes w (cast_unsigned w z) ++ rest)) ≡ Some (z, rest)
signed_again w wide bits z rest fits =
    ap (λ o. mapped (λ n. cast_signed w n) o) (number_again w wide (cast_unsigned w z) rest (bits.below z fits)) ∙ ap (λ x. Some (x, rest)) (bits.again z fits)

signed_takes : (w : Width) → IsWide w → IsSigned w → (bytes : List ℕ) (z : ℤ) (rest : List ℕ) → IsBytes bytes → mapped (λ n. cast_signed w n) (number_read w bytes) ≡ Some (z, rest) → Takes (signed w) bytes z rest
signed_takes w wide bits bytes z rest fits e =
    let b = bind_some (number_read w bytes) (λ p. Some (cast_signed w p.0, p.1)) (z, rest) e in
    let t = number_takes w wide bytes b.0.0 b.0.1 fits b.1 in
    let parts : bytes ≡ number_bytes w (cast_unsigned w (cast_signed w b.0.0)) ++ b.0.1 = t.parts ∙ ap (λ (n : ℕ). number_bytes w n ++ b.0.1) (sym (bits.back b.0.0 t.widths)) in
    let whole : Takes (signed w) bytes (cast_signed w b.0.0) b.0.1 = record { parts = parts; texts = tt; widths = bits.fits b.0.0 t.widths; rest_fits = t.rest_fits } in
    subst (λ (p : ℤ × List ℕ). Takes (signed w) bytes p.0 p.1) (found_is (cast_signed w b.0.0, b.0.1) (z, rest) b.2) whole

pub signed_laws : (w : Width) → IsWide w → IsSigned w → Laws (signed_codec w)
signed_laws w wide bits = record { again = λ z rest texts widths. signed_again w wide bits z rest widths; takes = signed_takes w wide bits }

-- ---- no column

nothing_takes : (bytes : List ℕ) (x : ⊤) (rest : List ℕ) → IsBytes bytes → nothing_codec.read bytes ≡ Some (x, rest) → Takes nothing bytes x rest
nothing_takes bytes x rest fits e =
    let here : Takes nothing bytes tt bytes = record { parts = refl; texts = tt; widths = tt; rest_fits = fits } in
    subst (λ (p : ⊤ × List ℕ). Takes nothing bytes p.0 p.1) (found_is (tt, bytes) (x, rest) e) here

pub nothing_laws : Laws nothing_codec
nothing_laws = record { again = λ x rest texts widths. refl; takes = nothing_takes }

-- ---- texts

text_again : (t rest : List ℕ) → text.HasTexts t → text_read (text_bytes t ++ rest) ≡ Some (t, rest)
unfolding text_read text_bytes
text_again t rest short =
    ap (λ (l : List ℕ). option_and_then (λ (n : ℕ × List ℕ). front_read n.0 n.1) (number_read w32 l)) (append_assoc (number_bytes w32 (length t)) t rest)
    ∙ ap (option_and_then (λ (n : ℕ × List ℕ). front_read n.0 n.1)) (number_again w32 wide32 (length t) (t ++ rest) (omega arith))
    ∙ front_again (length t) t rest refl

text_takes : (bytes t rest : List ℕ) → IsBytes bytes → text_read bytes ≡ Some (t, rest) → Takes text bytes t rest
unfolding text_read text_bytes
text_takes bytes t rest fits e =
    let b = bind_some (number_read w32 bytes) (λ n. front_read n.0 n.1) (t, rest) e in
    let n = number_takes w32 wide32 bytes b.0.0 b.0.1 fits b.1 in
    let f = front_takes b.0.0 b.0.1 t rest n.rest_fits b.2 in
    let parts : bytes ≡ number_bytes w32 (length t) ++ (t ++ rest) = n.parts ∙ ap (λ (k : ℕ). number_bytes w32 k ++ b.0.1) (sym f.1) ∙ ap (λ (l : List ℕ). number_bytes w32 (length t) ++ l) f.0 in
    record { parts = parts ∙ sym (append_assoc (number_bytes w32 (length t)) t rest); texts = omega (arith, n.widths, f.1); widths = tt; rest_fits = f.3 }

pub text_laws : Laws text_codec
text_laws = record { again = λ t rest texts widths. text_again t rest texts; takes = text_takes }

-- ---- digests

digest_takes : (bytes d rest : List ℕ) → IsBytes bytes → front_read 32 bytes ≡ Some (d, rest) → Takes digest bytes d rest
digest_takes bytes d rest fits e =
    let f = front_takes 32 bytes d rest fits e in
    record { parts = f.0; texts = tt; widths = f.1; rest_fits = f.3 }

pub digest_laws : Laws digest_codec
digest_laws = record { again = λ d rest texts widths. front_again 32 d rest widths; takes = digest_takes }

-- ---- one after the other

both_again : {A B : Type 0} (a : Codec A) (b : Codec B) → Laws a → Laws b → (x : A × B) (rest : List ℕ) → (a.column & b.column).HasTexts x → (a.column & b.column).HasWidths x
    → both_read a.read b.read ((a.column & b.column).bytes x ++ rest) ≡ Some (x, rest)
both_again {A} {B} a b la lb x rest texts widths =
    let after : A × List ℕ → Option ((A × B) × List ℕ) = λ p. option_and_then (λ q. Some ((p.0, q.0), q.1)) (b.read p.1) in
    ap (λ (l : List ℕ). option_and_then after (a.read l)) (append_assoc (a.column.bytes x.0) (b.column.bytes x.1) rest)
    ∙ ap (option_and_then after) (la.again x.0 (b.column.bytes x.1 ++ rest) texts.0 widths.0)
    ∙ ap (option_and_then (λ (q : B × List ℕ). Some ((x.0, q.0), q.1))) (lb.again x.1 rest texts.1 widths.1)

both_takes : {A B : Type 0} (a : Codec A) (b : Codec B) → Laws a → Laws b → (bytes : List ℕ) (x : A × B) (rest : List ℕ) → IsBytes bytes
    → both_read a.read b.read bytes ≡ Some (x, rest) → Takes (a.column & b.column) bytes x rest
both_takes {A} {B} a b la lb bytes x rest fits e =
    let p = bind_some (a.read bytes) (λ p. option_and_then (λ q. Some ((p.0, q.0), q.1)) (b.read p.1)) (x, rest) e in
    let q = bind_some (b.read p.0.1) (λ q. Some ((p.0.0, q.0), q.1)) (x, rest) p.2 in
    let t = la.takes bytes p.0.0 p.0.1 fits p.1 in
    let u = lb.takes p.0.1 q.0.0 q.0.1 t.rest_fits q.1 in
    let parts : bytes ≡ (a.column.bytes p.0.0 ++ b.column.bytes q.0.0) ++ q.0.1 =
    t.parts ∙ ap (λ (l : List ℕ). a.column.bytes p.0.0 ++ l) u.parts ∙ sym (append_assoc (a.column.bytes p.0.0) (b.column.bytes q.0.0) q.0.1) in
    let whole : Takes (a.column & b.column) bytes (p.0.0, q.0.0) q.0.1 = record { parts = parts; texts = (t.texts, u.texts); widths = (t.widths, u.widths); rest_fits = u.rest_fits } in
    subst (λ (r : (A × B) × List ℕ). Takes (a.column & b.column) bytes r.0 r.1) (found_is ((p.0.0, q.0.0), q.0.1) (x, rest) q.2) whole

pub then_laws : {A B : Type 0} {a : Codec A} {b : Codec B} → Laws a → Laws b → Laws (a then b)
then_laws {A} {B} {a} {b} la lb = record { again = both_again a b la lb; takes = both_takes a b la lb }
