-- Lines that no multipart around them takes for its own.
use Rattle.std.proofs.Common.{◌≡◌, ℕ, Bool, true, false, ◌&&◌, ◌||◌, not, eqb, List, [], ◌∷◌, ◌++◌, refl, sym, ◌∙◌, ap, subst}
use Rattle.std.proofs.lemmas.Bool.{cond_both, and_parts, or_parts, not-true, false_from_ne_true, eqb-true}
use Rattle.std.proofs.lemmas.Slice.Eq.{bytes_eq-Decides}
use Rattle.std.specs.Str.{bytes_eq}
use Rattle.mail_text.specs.Texts.{begins, behind, is_blank, before_trimmed, without_blank_end}
use Rattle.mail_text.specs.Lines.{lines, joined, has, AreLines}
use Rattle.header_reader.specs.Fields.{is_dash, begins_with_dashes, is_field_line, is_name, is_colon}
use Rattle.header_reader.specs.Fields.{body}
use Rattle.header_reader.specs.Faults.{go_on}
use Rattle.mime_reader.specs.Bodies.{is_delimiter, is_closing}
use Rattle.canon_writer.proofs.FieldLemmas.{AllLack}

-- A line that is neither line of a multipart with this boundary.
pub record IsFreeOf (outer line : List ℕ) : Type 0 where
  pub delimiter : is_delimiter outer line ≡ false
  pub closing : is_closing outer line ≡ false

abbrev pub IsFree : List (List ℕ) → List ℕ → Type 0
IsFree [] line = Unit {0}
IsFree (outer ∷ es) line = IsFreeOf outer line × IsFree es line

-- A line within multiparts with these boundaries.
pub record IsInside (es : List (List ℕ)) (line : List ℕ) : Type 0 where
  pub free : IsFree es line
  pub no_zero : has 0 line ≡ false
  pub no_lf : has 10 line ≡ false

abbrev pub AreInside : List (List ℕ) → List (List ℕ) → Type 0
AreInside es [] = Unit {0}
AreInside es (l ∷ ls) = IsInside es l × AreInside es ls

pub inside-append : (es ls ms : List (List ℕ)) → AreInside es ls → AreInside es ms → AreInside es (ls ++ ms)
inside-append es [] ms h k = k
inside-append es (l ∷ ls) ms h k = (h.0, inside-append es ls ms h.1 k)

-- Lines inside a further multipart are inside those around it.
pub inside_more : (b : List ℕ) (es ls : List (List ℕ)) → AreInside (b ∷ es) ls → AreInside es ls
inside_more b es [] h = tt
inside_more b es (l ∷ ls) h = (record { free = h.0.free.1; no_zero = h.0.no_zero; no_lf = h.0.no_lf }, inside_more b es ls h.1)

-- A line that doesn't begin with `--` is no delimiter.

kept_by : (d c : ℕ) (w z : List ℕ) → before_trimmed d w ≡ c ∷ z → d ≡ c
kept_by d c [] z = cond_both (is_blank d) [] (d ∷ []) (λ t. t ≡ c ∷ z → d ≡ c) (λ _ e. absurd (cc)) (λ _ e. cc)
kept_by d c (x ∷ xs) z = λ e. cc

first_kept : (y z : List ℕ) (c : ℕ) → without_blank_end y ≡ c ∷ z → (t : List ℕ) × (y ≡ c ∷ t)
first_kept [] z c e = absurd (cc)
first_kept (d ∷ ds) z c e = (ds, ap (λ b. b ∷ ds) (kept_by d c (without_blank_end ds) z e))

two_kept : (c : ℕ) (cs w x : List ℕ) → without_blank_end cs ≡ w → before_trimmed c w ≡ 45 ∷ 45 ∷ x → begins_with_dashes (c ∷ cs) ≡ true
two_kept c cs [] x is = cond_both (is_blank c) [] (c ∷ []) (λ t. t ≡ 45 ∷ 45 ∷ x → begins_with_dashes (c ∷ cs) ≡ true) (λ _ e. absurd (cc)) (λ _ e. absurd (cc))
two_kept c cs (d ∷ ds) x is = λ e.
    let one : c ≡ 45 = cc in
    let two : d ≡ 45 = cc in
    let f = first_kept cs ds d is in
    ap (λ z. begins_with_dashes (c ∷ z)) f.1 ∙ ap (λ z. begins_with_dashes (z ∷ d ∷ f.0)) one ∙ ap (λ z. begins_with_dashes (45 ∷ z ∷ f.0)) two

dashes_kept : (line x : List ℕ) → without_blank_end line ≡ 45 ∷ 45 ∷ x → begins_with_dashes line ≡ true
dashes_kept [] x e = absurd (cc)
dashes_kept (c ∷ cs) x e = two_kept c cs (without_blank_end cs) x refl e

no_line_of : (line x : List ℕ) → begins_with_dashes line ≡ false → bytes_eq (without_blank_end line) (45 ∷ 45 ∷ x) ≡ false
no_line_of line x h =
    false_from_ne_true (bytes_eq (without_blank_end line) (45 ∷ 45 ∷ x)) (λ e.
    let bad : false ≡ true = sym h ∙ dashes_kept line x ((bytes_eq-Decides (without_blank_end line) (45 ∷ 45 ∷ x)).0 e) in
    cc)

pub undashed_free : (es : List (List ℕ)) (line : List ℕ) → begins_with_dashes line ≡ false → IsFree es line
undashed_free [] line h = tt
undashed_free (b ∷ es) line h =
    (record { delimiter = no_line_of line b h; closing = no_line_of line (b ++ 45 ∷ 45 ∷ []) h }, undashed_free es line h)

-- Where no line of some begins with `--`.
abbrev pub Undashed : List (List ℕ) → Type 0
Undashed [] = Unit {0}
Undashed (l ∷ ls) = (begins_with_dashes l ≡ false) × Undashed ls

pub undashed_inside : (es ls : List (List ℕ)) → Undashed ls → AllLack 0 ls → AllLack 10 ls → AreInside es ls
undashed_inside es [] u zero lf = tt
undashed_inside es (l ∷ ls) u zero lf =
    (record { free = undashed_free es l u.0; no_zero = zero.0; no_lf = lf.0 }, undashed_inside es ls u.1 zero.1 lf.1)

pub empty_inside : (es : List (List ℕ)) → AreInside es ([] ∷ [])
empty_inside es = (record { free = undashed_free es [] refl; no_zero = refl; no_lf = refl }, tt)

-- The lines of a header.

blank_dash : (c : ℕ) → is_blank c ≡ true → is_dash c ≡ false
blank_dash c h =
    false_from_ne_true (eqb c 45) (λ e.
    let same = eqb-true c 45 e in
    let bad : is_blank 45 ≡ true = sym (ap is_blank same) ∙ h in
    cc)

blank_undashed : (line : List ℕ) → begins is_blank line ≡ true → begins_with_dashes line ≡ false
blank_undashed [] h = refl
blank_undashed (c ∷ cs) h = ap (λ t. t && begins is_dash cs) (blank_dash c h)

header_line_undashed : (line : List ℕ) (field : Bool) → is_field_line line ≡ field → (field || begins is_blank line) ≡ true → begins_with_dashes line ≡ false
header_line_undashed line true is h =
    not-true (begins_with_dashes line)
    ((and_parts (not (begins_with_dashes line)) (begins is_colon (behind is_blank (behind is_name line)))
    ((and_parts (begins is_name line) (not (begins_with_dashes line) && begins is_colon (behind is_blank (behind is_name line))) is).1)).0)
header_line_undashed line false is h = blank_undashed line h

pub go_on_undashed : (hs : List (List ℕ)) → go_on hs ≡ true → Undashed hs
go_on_undashed [] h = tt
go_on_undashed (l ∷ ls) h =
    let parts = and_parts (is_field_line l || begins is_blank l) (go_on ls) h in
    (header_line_undashed l (is_field_line l) refl parts.0, go_on_undashed ls parts.1)

-- Lines without a dash.

undashed_lack : (line : List ℕ) → has 45 line ≡ false → begins_with_dashes line ≡ false
undashed_lack [] h = refl
undashed_lack (c ∷ cs) h = ap (λ t. t && begins is_dash cs) ((or_parts (eqb c 45) (has 45 cs) h).0)

pub lack_undashed : (ls : List (List ℕ)) → AllLack 45 ls → Undashed ls
lack_undashed [] h = tt
lack_undashed (l ∷ ls) h = (undashed_lack l h.0, lack_undashed ls h.1)

-- Lines of a body.

body_inside : (es ls : List (List ℕ)) → AreInside es ls → AreInside es (body ls)
body_inside es [] h = tt
body_inside es ([] ∷ ls) h = h.1
body_inside es ((c ∷ l) ∷ ls) h = body_inside es ls h.1

are_lines : (l : List ℕ) (es ls : List (List ℕ)) → AreInside es (l ∷ ls) → AreLines (l ∷ ls)
are_lines l es [] h = h.0.no_lf
are_lines l es (m ∷ ls) h = (h.0.no_lf, are_lines m es ls h.1)

module _ (read_again : (ls : List (List ℕ)) → AreLines ls → lines (joined ls) ≡ ls) where
  pub joined_inside : (es ls : List (List ℕ)) → AreInside es ls → AreInside es (lines (joined ls))
  joined_inside es [] h = empty_inside es
  joined_inside es (l ∷ ls) h = subst (AreInside es) (sym (read_again (l ∷ ls) (are_lines l es ls h))) h

  pub body_of_inside : (es : List (List ℕ)) (text : List ℕ) → AreInside es (lines text) → AreInside es (lines (joined (body (lines text))))
  body_of_inside es text h = joined_inside es (body (lines text)) (body_inside es (lines text) h)

-- Whole texts.

pub lacks_zero : (es ls : List (List ℕ)) → AreInside es ls → AllLack 0 ls
lacks_zero es [] h = tt
lacks_zero es (l ∷ ls) h = (h.0.no_zero, lacks_zero es ls h.1)
