-- Why what is read byte by byte is the text at the front of the bytes.
use Rattle.std.proofs.Common.{◌≡◌, ℕ, ◌+◌, Bool, true, false, cond, ◌&&◌, eqb, Option, Some, None, List, [], ◌∷◌, ◌++◌, length, drop, refl, sym, ◌∙◌, ap, subst, map, arith, append_assoc, add-one}
use Rattle.std.proofs.lemmas.Bool.{eqb-true}
use Rattle.std.specs.List.{flat_map}
use Rattle.mail_text.specs.Texts.{begins}
use Rattle.mail_text.specs.Lines.{is_lf, joined, pieces, put, without_first}
use Rattle.lmtp_core.specs.declared.reading.Place.{Place}
use Rattle.lmtp_core.specs.declared.reading.Place.TheVariants.{Start, Dot, DotReturn, Inside, Return, End}
use Rattle.lmtp_core.specs.Lines.{line_end}
use Rattle.lmtp_core.specs.Texts.{AreLines, Text, behind_line, bounded, content, dotted, first_text, is_dot, sent, undotted, up_to_dot}
use Rattle.lmtp_core.specs.Reading.{Read, added, behind_byte, is_end, place_behind, reads, reads_byte, taken, unread, with_bytes}
use Rattle.lmtp_core.proofs.ReadLemmas.{reads_end, with-append}

-- What is yet to come of a text, and the bytes behind it.
record Left : Type 0 where
  content : List ℕ
  rest : List ℕ

in_front : List ℕ → Option Left → Option Left
in_front bytes None = None
in_front bytes (Some left) = Some (record { content = bytes ++ left.content; rest = left.rest })

left_of : Option Text → Option Left
left_of None = None
left_of (Some text) = Some (record { content = content text.lines; rest = text.rest })

-- what is yet to come at the start of a line
up : List (List ℕ) → Option Left
unfolding left_of
up ls = left_of (up_to_dot ls)

-- within a line
inside : List (List ℕ) → Option Left
unfolding in_front up
inside [] = None
inside (l ∷ []) = None
inside (l ∷ m ∷ ls) = in_front (l ++ line_end) (up (m ∷ ls))

-- behind a byte that was read
remaining : Place → List ℕ → Option Left
unfolding in_front up inside
remaining Start bytes = up (pieces bytes)
remaining Dot bytes = up (put 46 (pieces bytes))
remaining DotReturn bytes = cond (begins is_lf bytes) (Some (record { content = []; rest = drop 1 bytes })) (in_front (13 ∷ []) (inside (pieces bytes)))
remaining Inside bytes = inside (pieces bytes)
remaining Return bytes = cond (begins is_lf bytes) (in_front (10 ∷ []) (up (pieces (drop 1 bytes)))) (inside (pieces bytes))
remaining End bytes = Some (record { content = []; rest = bytes })

in_front-none : (left : Option Left) → in_front [] left ≡ left
unfolding in_front
in_front-none None = refl
in_front-none (Some left) = refl

in_front-both : (a b : List ℕ) (left : Option Left) → in_front a (in_front b left) ≡ in_front (a ++ b) left
unfolding in_front
in_front-both a b None = refl
in_front-both a b (Some left) = ap (λ (l : List ℕ). Some (record { content = l; rest = left.rest })) (sym (append_assoc a b left.content))

-- a line that isn't a dot alone
up-line : (l m : List ℕ) (ls : List (List ℕ)) → is_dot l ≡ false → up (l ∷ m ∷ ls) ≡ in_front (undotted l ++ line_end) (up (m ∷ ls))
unfolding left_of up in_front
up-line l m ls other = rw other (by (up_to_dot (m ∷ ls)))
  where
    by : (text : Option Text) → left_of (behind_line l text) ≡ in_front (undotted l ++ line_end) (left_of text)
    by None = refl
    by (Some text) = refl

two_bytes : (b c : ℕ) (l : List ℕ) → is_dot (b ∷ c ∷ l) ≡ false
two_bytes b c l = refl

no_dot : (b : ℕ) (l : List ℕ) → eqb b 46 ≡ false → is_dot (b ∷ l) ≡ false
no_dot b [] other = other
no_dot b (c ∷ l) other = refl

undotted-other : (b : ℕ) (l : List ℕ) → eqb b 46 ≡ false → undotted (b ∷ l) ≡ b ∷ l
undotted-other b l other = rw other refl

-- a line of one byte more, which is no leading dot
up-put : (b : ℕ) (ls : List (List ℕ)) → (ls ≡ [] → ⊥) → eqb b 46 ≡ false → up (put b ls) ≡ in_front (b ∷ []) (inside ls)
unfolding left_of up in_front inside
up-put b [] some other = absurd (some refl)
up-put b (l ∷ []) some other = refl
up-put b (l ∷ m ∷ ls) some other =
    up-line (b ∷ l) m ls (no_dot b l other)
    ∙ ap (λ (u : List ℕ). in_front (u ++ line_end) (up (m ∷ ls))) (undotted-other b l other)
    ∙ sym (in_front-both (b ∷ []) (l ++ line_end) (up (m ∷ ls)))

-- a line of a leading dot and one byte more
up-dot : (b : ℕ) (ls : List (List ℕ)) → (ls ≡ [] → ⊥) → up (put 46 (put b ls)) ≡ in_front (b ∷ []) (inside ls)
unfolding left_of up in_front inside
up-dot b [] some = absurd (some refl)
up-dot b (l ∷ []) some = refl
up-dot b (l ∷ m ∷ ls) some =
    up-line (46 ∷ b ∷ l) m ls (two_bytes 46 b l)
    ∙ sym (in_front-both (b ∷ []) (l ++ line_end) (up (m ∷ ls)))

inside-put : (b : ℕ) (ls : List (List ℕ)) → (ls ≡ [] → ⊥) → inside (put b ls) ≡ in_front (b ∷ []) (inside ls)
unfolding left_of up in_front inside
inside-put b [] some = absurd (some refl)
inside-put b (l ∷ []) some = refl
inside-put b (l ∷ m ∷ ls) some = sym (in_front-both (b ∷ []) (l ++ line_end) (up (m ∷ ls)))

put-some : (b : ℕ) (ls : List (List ℕ)) → put b ls ≡ [] → ⊥
put-some b [] = λ e. cc
put-some b (l ∷ ls) = λ e. cc

-- The pieces of a text, byte by byte.

cut_some : (cut : Bool) (b : ℕ) (ls : List (List ℕ)) → cond cut ([] ∷ without_first ls) (put b ls) ≡ [] → ⊥
cut_some true b ls = λ e. cc
cut_some false b ls = put-some b ls

pieces-some : (bytes : List ℕ) → pieces bytes ≡ [] → ⊥
pieces-some [] = λ e. cc
pieces-some (b ∷ bs) = cut_some (eqb b 13 && begins is_lf bs) b (pieces bs)

pieces-other : (b : ℕ) (bs : List ℕ) → eqb b 13 ≡ false → pieces (b ∷ bs) ≡ put b (pieces bs)
pieces-other b bs other = rw other refl

pieces-return : (bs : List ℕ) → begins is_lf bs ≡ false → pieces (13 ∷ bs) ≡ put 13 (pieces bs)
pieces-return bs other = rw other refl

without-put : (b : ℕ) (ls : List (List ℕ)) → (ls ≡ [] → ⊥) → without_first (put b ls) ≡ ls
without-put b [] some = absurd (some refl)
without-put b (l ∷ ls) some = refl

pieces-end : (bs : List ℕ) → begins is_lf bs ≡ true → pieces (13 ∷ bs) ≡ [] ∷ pieces (drop 1 bs)
pieces-end [] h = cc
pieces-end (d ∷ ds) h =
    subst (λ (c : ℕ). pieces (13 ∷ c ∷ ds) ≡ [] ∷ pieces ds) (sym (eqb-true d 10 h))
    (ap (λ (ls : List (List ℕ)). [] ∷ ls) (without-put 10 (pieces ds) (pieces-some ds)))

up-none : (ls : List (List ℕ)) → (ls ≡ [] → ⊥) → up ([] ∷ ls) ≡ in_front line_end (up ls)
unfolding left_of up in_front
up-none [] some = absurd (some refl)
up-none (m ∷ ls) some = up-line [] m ls refl

inside-none : (ls : List (List ℕ)) → (ls ≡ [] → ⊥) → inside ([] ∷ ls) ≡ in_front line_end (up ls)
unfolding left_of up in_front inside
inside-none [] some = absurd (some refl)
inside-none (m ∷ ls) some = refl

-- Behind each byte.

return_inside : (bs : List ℕ) → inside (pieces (13 ∷ bs)) ≡ in_front (13 ∷ []) (remaining Return bs)
unfolding in_front up inside remaining
return_inside bs = by (begins is_lf bs) refl
  where
    by : (lf : Bool) → begins is_lf bs ≡ lf → inside (pieces (13 ∷ bs)) ≡ in_front (13 ∷ []) (cond lf (in_front (10 ∷ []) (up (pieces (drop 1 bs)))) (inside (pieces bs)))
    by true h = ap inside (pieces-end bs h) ∙ inside-none (pieces (drop 1 bs)) (pieces-some (drop 1 bs)) ∙ sym (in_front-both (13 ∷ []) (10 ∷ []) (up (pieces (drop 1 bs))))
    by false h = ap inside (pieces-return bs h) ∙ inside-put 13 (pieces bs) (pieces-some bs)

return_up : (bs : List ℕ) → up (pieces (13 ∷ bs)) ≡ in_front (13 ∷ []) (remaining Return bs)
unfolding in_front up inside remaining
return_up bs = by (begins is_lf bs) refl
  where
    by : (lf : Bool) → begins is_lf bs ≡ lf → up (pieces (13 ∷ bs)) ≡ in_front (13 ∷ []) (cond lf (in_front (10 ∷ []) (up (pieces (drop 1 bs)))) (inside (pieces bs)))
    by true h = ap up (pieces-end bs h) ∙ up-none (pieces (drop 1 bs)) (pieces-some (drop 1 bs)) ∙ sym (in_front-both (13 ∷ []) (10 ∷ []) (up (pieces (drop 1 bs))))
    by false h = ap up (pieces-return bs h) ∙ up-put 13 (pieces bs) (pieces-some bs) refl

ends_here : (joins : (x : List ℕ) → joined (pieces x) ≡ x) (ls : List (List ℕ)) (x : List ℕ) → ls ≡ pieces x → up ((46 ∷ []) ∷ ls) ≡ Some (record { content = []; rest = x })
unfolding left_of up
ends_here joins [] x e = absurd (pieces-some x (sym e))
ends_here joins (m ∷ ls) x e = ap (λ (l : List ℕ). Some (record { content = []; rest = l })) (ap joined e ∙ joins x)

dot_up : (joins : (x : List ℕ) → joined (pieces x) ≡ x) (bs : List ℕ) → up (put 46 (pieces (13 ∷ bs))) ≡ remaining DotReturn bs
unfolding in_front up inside remaining
dot_up joins bs = by (begins is_lf bs) refl
  where
    by : (lf : Bool) → begins is_lf bs ≡ lf → up (put 46 (pieces (13 ∷ bs))) ≡ cond lf (Some (record { content = []; rest = drop 1 bs })) (in_front (13 ∷ []) (inside (pieces bs)))
    by true h = ap (λ (ls : List (List ℕ)). up (put 46 ls)) (pieces-end bs h) ∙ ends_here joins (pieces (drop 1 bs)) (drop 1 bs) refl
    by false h = ap (λ (ls : List (List ℕ)). up (put 46 ls)) (pieces-return bs h) ∙ up-dot 13 (pieces bs) (pieces-some bs)

step_inside : (b : ℕ) (bs : List ℕ) → inside (pieces (b ∷ bs)) ≡ in_front (b ∷ []) (remaining (behind_byte b) bs)
unfolding in_front up inside remaining
step_inside b bs = by (eqb b 13) refl
  where
    by : (cr : Bool) → eqb b 13 ≡ cr → inside (pieces (b ∷ bs)) ≡ in_front (b ∷ []) (remaining (cond cr Return Inside) bs)
    by true h = subst (λ (c : ℕ). inside (pieces (c ∷ bs)) ≡ in_front (c ∷ []) (remaining Return bs)) (sym (eqb-true b 13 h)) (return_inside bs)
    by false h = ap inside (pieces-other b bs h) ∙ inside-put b (pieces bs) (pieces-some bs)

step_start : (b : ℕ) (bs : List ℕ) → up (pieces (b ∷ bs)) ≡ in_front (added Start b) (remaining (place_behind Start b) bs)
unfolding in_front up inside remaining
step_start b bs = by (eqb b 46) refl
  where
    of_return : (cr : Bool) → eqb b 46 ≡ false → eqb b 13 ≡ cr → up (pieces (b ∷ bs)) ≡ in_front (b ∷ []) (remaining (cond cr Return Inside) bs)
    of_return true other h = subst (λ (c : ℕ). up (pieces (c ∷ bs)) ≡ in_front (c ∷ []) (remaining Return bs)) (sym (eqb-true b 13 h)) (return_up bs)
    of_return false other h = ap up (pieces-other b bs h) ∙ up-put b (pieces bs) (pieces-some bs) other

    by : (dot : Bool) → eqb b 46 ≡ dot → up (pieces (b ∷ bs)) ≡ in_front (cond dot [] (b ∷ [])) (remaining (cond dot Dot (behind_byte b)) bs)
    by true h = subst (λ (c : ℕ). up (pieces (c ∷ bs)) ≡ in_front [] (remaining Dot bs)) (sym (eqb-true b 46 h)) (sym (in_front-none (remaining Dot bs)))
    by false h = of_return (eqb b 13) h refl

step_dot : (joins : (x : List ℕ) → joined (pieces x) ≡ x) (b : ℕ) (bs : List ℕ) → up (put 46 (pieces (b ∷ bs))) ≡ in_front (added Dot b) (remaining (place_behind Dot b) bs)
unfolding in_front up inside remaining
step_dot joins b bs = by (eqb b 13) refl
  where
    by : (cr : Bool) → eqb b 13 ≡ cr → up (put 46 (pieces (b ∷ bs))) ≡ in_front (cond cr [] (b ∷ [])) (remaining (cond cr DotReturn Inside) bs)
    by true h = subst (λ (c : ℕ). up (put 46 (pieces (c ∷ bs))) ≡ in_front [] (remaining DotReturn bs)) (sym (eqb-true b 13 h)) (dot_up joins bs ∙ sym (in_front-none (remaining DotReturn bs)))
    by false h = ap (λ (ls : List (List ℕ)). up (put 46 ls)) (pieces-other b bs h) ∙ up-dot b (pieces bs) (pieces-some bs)

step_dot_return : (b : ℕ) (bs : List ℕ) → remaining DotReturn (b ∷ bs) ≡ in_front (added DotReturn b) (remaining (place_behind DotReturn b) bs)
unfolding in_front up inside remaining
step_dot_return b bs = by (eqb b 10)
  where
    by : (lf : Bool) → cond lf (Some (record { content = []; rest = bs })) (in_front (13 ∷ []) (inside (pieces (b ∷ bs)))) ≡ in_front (cond lf [] (13 ∷ b ∷ [])) (remaining (cond lf End (behind_byte b)) bs)
    by true = refl
    by false = ap (in_front (13 ∷ [])) (step_inside b bs) ∙ in_front-both (13 ∷ []) (b ∷ []) (remaining (behind_byte b) bs)

step_return : (b : ℕ) (bs : List ℕ) → remaining Return (b ∷ bs) ≡ in_front (added Return b) (remaining (place_behind Return b) bs)
unfolding in_front up inside remaining
step_return b bs = by (eqb b 10) refl
  where
    by : (lf : Bool) → eqb b 10 ≡ lf → cond lf (in_front (10 ∷ []) (up (pieces bs))) (inside (pieces (b ∷ bs))) ≡ in_front (b ∷ []) (remaining (cond lf Start (behind_byte b)) bs)
    by true h = subst (λ (c : ℕ). in_front (10 ∷ []) (up (pieces bs)) ≡ in_front (c ∷ []) (up (pieces bs))) (sym (eqb-true b 10 h)) refl
    by false h = step_inside b bs

step : (joins : (x : List ℕ) → joined (pieces x) ≡ x) (place : Place) (b : ℕ) (bs : List ℕ) → is_end place ≡ false → remaining place (b ∷ bs) ≡ in_front (added place b) (remaining (place_behind place b) bs)
unfolding in_front up inside remaining
step joins Start b bs goes = step_start b bs
step joins Dot b bs goes = step_dot joins b bs
step joins DotReturn b bs goes = step_dot_return b bs
step joins Inside b bs goes = step_inside b bs
step joins Return b bs goes = step_return b bs
step joins End b bs goes = cc

-- What is read, where this is yet to come.
Fits : Read → List ℕ → Option Left → Type 0
Fits read bytes None = (is_end (reads read bytes).place ≡ false) × (taken read bytes ≡ length bytes)
Fits read bytes (Some left) = (reads read bytes ≡ record { place = End; kept = with_bytes read.kept left.content }) × (drop (taken read bytes) bytes ≡ left.rest)

fits_none : (place : Place) (kept : Option (List ℕ)) → Fits (record { place = place; kept = kept }) [] (remaining place [])
unfolding in_front left_of up inside remaining Fits
fits_none Start kept = (refl, refl)
fits_none Dot kept = (refl, refl)
fits_none DotReturn kept = (refl, refl)
fits_none Inside kept = (refl, refl)
fits_none Return kept = (refl, refl)
fits_none End kept = (refl, refl)

fits_end : (kept : Option (List ℕ)) (bytes : List ℕ) → Fits (record { place = End; kept = kept }) bytes (remaining End bytes)
unfolding remaining Fits
fits_end kept [] = (refl, refl)
fits_end kept (b ∷ bs) = (refl, refl)

fits_byte : (place : Place) (kept : Option (List ℕ)) (b : ℕ) (bs : List ℕ) (left : Option Left) → is_end place ≡ false
    → Fits (reads_byte (record { place = place; kept = kept }) b) bs left → Fits (record { place = place; kept = kept }) (b ∷ bs) (in_front (added place b) left)
unfolding in_front Fits
fits_byte place kept b bs None goes fits =
    (rw goes fits.0, rw goes (ap (λ n. n + 1) fits.1 ∙ add-one (length bs)))
fits_byte place kept b bs (Some left) goes fits = (
  rw goes (fits.0 ∙ ap (λ (k : Option (List ℕ)). record { place = End; kept = k }) (with-append kept (added place b) left.content)),
  rw goes (ap (λ n. drop n (b ∷ bs)) (add-one (taken (reads_byte (record { place = place; kept = kept }) b) bs)) ∙ fits.1),
)

fits_more : (joins : (x : List ℕ) → joined (pieces x) ≡ x) (place : Place) (kept : Option (List ℕ)) (b : ℕ) (bs : List ℕ)
    → ((at : Place) (more : Option (List ℕ)) → Fits (record { place = at; kept = more }) bs (remaining at bs))
    → Fits (record { place = place; kept = kept }) (b ∷ bs) (remaining place (b ∷ bs))
fits_more joins place kept b bs later = by place
  where
    goes : (at : Place) → is_end at ≡ false → Fits (record { place = at; kept = kept }) (b ∷ bs) (remaining at (b ∷ bs))
    goes at e =
        subst (Fits (record { place = at; kept = kept }) (b ∷ bs)) (sym (step joins at b bs e))
        (fits_byte at kept b bs (remaining (place_behind at b) bs) e (later (place_behind at b) (with_bytes kept (added at b))))

    by : (at : Place) → Fits (record { place = at; kept = kept }) (b ∷ bs) (remaining at (b ∷ bs))
    by Start = goes Start refl
    by Dot = goes Dot refl
    by DotReturn = goes DotReturn refl
    by Inside = goes Inside refl
    by Return = goes Return refl
    by End = fits_end kept (b ∷ bs)

fits : (joins : (x : List ℕ) → joined (pieces x) ≡ x) (bytes : List ℕ) (place : Place) (kept : Option (List ℕ)) → Fits (record { place = place; kept = kept }) bytes (remaining place bytes)
fits joins [] place kept = fits_none place kept
fits joins (b ∷ bs) place kept = fits_more joins place kept b bs (λ at more. fits joins bs at more)

text_left : (bytes : List ℕ) → left_of (first_text bytes) ≡ remaining Start bytes
unfolding first_text up remaining
text_left bytes = refl

from_none : (bytes : List ℕ) → with_bytes (Some []) bytes ≡ bounded bytes
from_none [] = refl
from_none (b ∷ bs) = refl

pub text_whole : (joins : (x : List ℕ) → joined (pieces x) ≡ x) (bytes : List ℕ) (text : Text) → first_text bytes ≡ Some text
    → (reads unread bytes ≡ record { place = End; kept = bounded (content text.lines) }) × (drop (taken unread bytes) bytes ≡ text.rest)
unfolding Fits left_of
text_whole joins bytes text e =
    let all = subst (Fits unread bytes) (sym (text_left bytes) ∙ ap left_of e) (fits joins bytes Start (Some [])) in
    (all.0 ∙ ap (λ (k : Option (List ℕ)). record { place = End; kept = k }) (from_none (content text.lines)), all.1)

pub text_goes_on : (joins : (x : List ℕ) → joined (pieces x) ≡ x) (bytes : List ℕ) → first_text bytes ≡ None
    → (is_end (reads unread bytes).place ≡ false) × (taken unread bytes ≡ length bytes)
unfolding Fits left_of
text_goes_on joins bytes e =
    subst (Fits unread bytes) (sym (text_left bytes) ∙ ap left_of e) (fits joins bytes Start (Some []))

-- However the bytes are cut.

pub reads-append : (read : Read) (bytes later : List ℕ) → reads read (bytes ++ later) ≡ reads (reads read bytes) later
reads-append read [] later = refl
reads-append read (b ∷ bs) later = by (is_end read.place) refl (reads-append (reads_byte read b) bs later)
  where
    by : (end : Bool) → is_end read.place ≡ end → reads (reads_byte read b) (bs ++ later) ≡ reads (reads (reads_byte read b) bs) later
        → cond end read (reads (reads_byte read b) (bs ++ later)) ≡ reads (cond end read (reads (reads_byte read b) bs)) later
    by true e next = sym (reads_end read later e).0
    by false e next = next

pub taken-append : (read : Read) (bytes later : List ℕ) → taken read (bytes ++ later) ≡ taken read bytes + taken (reads read bytes) later
taken-append read [] later = let e : taken read later ≡ 0 + taken read later = omega arith in e
taken-append read (b ∷ bs) later = by (is_end read.place) refl (taken-append (reads_byte read b) bs later)
  where
    by : (end : Bool) → is_end read.place ≡ end → taken (reads_byte read b) (bs ++ later) ≡ taken (reads_byte read b) bs + taken (reads (reads_byte read b) bs) later
        → cond end 0 (taken (reads_byte read b) (bs ++ later) + 1) ≡ cond end 0 (taken (reads_byte read b) bs + 1) + taken (cond end read (reads (reads_byte read b) bs)) later
    by true e next = let none : taken read later ≡ 0 = (reads_end read later e).1 in sym none ∙ (let same : taken read later ≡ 0 + taken read later = omega arith in same)
    by false e next = omega (arith, next)

-- A text that is sent.

without-append : (ls ms : List (List ℕ)) → (ls ≡ [] → ⊥) → without_first (ls ++ ms) ≡ without_first ls ++ ms
without-append [] ms some = absurd (some refl)
without-append ([] ∷ ls) ms some = refl
without-append ((c ∷ l) ∷ ls) ms some = refl

put-append : (b : ℕ) (ls ms : List (List ℕ)) → (ls ≡ [] → ⊥) → put b (ls ++ ms) ≡ put b ls ++ ms
put-append b [] ms some = absurd (some refl)
put-append b (l ∷ ls) ms some = refl

begins-line : (bs y : List ℕ) → begins is_lf (bs ++ 13 ∷ 10 ∷ y) ≡ begins is_lf bs
begins-line [] y = refl
begins-line (b ∷ bs) y = refl

piece_step : (cut : Bool) (b : ℕ) (ls ms : List (List ℕ)) → (ls ≡ [] → ⊥)
    → cond cut ([] ∷ without_first (ls ++ ms)) (put b (ls ++ ms)) ≡ cond cut ([] ∷ without_first ls) (put b ls) ++ ms
piece_step true b ls ms some = ap (λ (l : List (List ℕ)). [] ∷ l) (without-append ls ms some)
piece_step false b ls ms some = put-append b ls ms some

pieces-append : (x y : List ℕ) → pieces (x ++ 13 ∷ 10 ∷ y) ≡ pieces x ++ pieces y
pieces-append [] y = ap (λ (ls : List (List ℕ)). [] ∷ ls) (without-put 10 (pieces y) (pieces-some y))
pieces-append (b ∷ bs) y =
    rw (begins-line bs y, pieces-append bs y) (piece_step (eqb b 13 && begins is_lf bs) b (pieces bs) (pieces y) (pieces-some bs))

pieces-dotted : (line : List ℕ) → pieces line ≡ line ∷ [] → pieces (dotted line) ≡ dotted line ∷ []
pieces-dotted [] e = e
pieces-dotted (b ∷ bs) e = by (eqb b 46) refl
  where
    by : (dot : Bool) → eqb b 46 ≡ dot → pieces (cond dot (46 ∷ b ∷ bs) (b ∷ bs)) ≡ cond dot (46 ∷ b ∷ bs) (b ∷ bs) ∷ []
    by true h = ap (put 46) e
    by false h = e

dotted-dot : (line : List ℕ) → is_dot (dotted line) ≡ false
dotted-dot [] = refl
dotted-dot (b ∷ bs) = by (eqb b 46) refl
  where
    by : (dot : Bool) → eqb b 46 ≡ dot → is_dot (cond dot (46 ∷ b ∷ bs) (b ∷ bs)) ≡ false
    by true h = refl
    by false h = no_dot b bs h

undotted-dotted : (line : List ℕ) → undotted (dotted line) ≡ line
undotted-dotted [] = refl
undotted-dotted (b ∷ bs) = by (eqb b 46) refl
  where
    by : (dot : Bool) → eqb b 46 ≡ dot → undotted (cond dot (46 ∷ b ∷ bs) (b ∷ bs)) ≡ b ∷ bs
    by true h = refl
    by false h = undotted-other b bs h

behind-some : (line : List ℕ) (ls : List (List ℕ)) → (ls ≡ [] → ⊥) → is_dot line ≡ false → up_to_dot (line ∷ ls) ≡ behind_line line (up_to_dot ls)
behind-some line [] some other = absurd (some refl)
behind-some line (m ∷ ls) some other = rw other refl

dot_ends : (joins : (x : List ℕ) → joined (pieces x) ≡ x) (ls : List (List ℕ)) (x : List ℕ) → ls ≡ pieces x → up_to_dot ((46 ∷ []) ∷ ls) ≡ Some (record { lines = []; rest = x })
dot_ends joins [] x e = absurd (pieces-some x (sym e))
dot_ends joins (m ∷ ls) x e = ap (λ (l : List ℕ). Some (record { lines = []; rest = l })) (ap joined e ∙ joins x)

line_first : (line others rest : List ℕ) → ((line ++ line_end) ++ others ++ 46 ∷ line_end) ++ rest ≡ line ++ 13 ∷ 10 ∷ ((others ++ 46 ∷ line_end) ++ rest)
line_first line others rest = simp append_assoc refl

pub text_sent : (joins : (x : List ℕ) → joined (pieces x) ≡ x) (lines : List (List ℕ)) (rest : List ℕ) → AreLines lines
    → first_text (sent lines ++ rest) ≡ Some (record { lines = map dotted lines; rest = rest })
unfolding first_text
text_sent joins [] rest are =
    ap up_to_dot (pieces-append (46 ∷ []) rest) ∙ dot_ends joins (pieces rest) rest refl
text_sent joins (line ∷ lines) rest are =
    ap (λ (x : List ℕ). up_to_dot (pieces x)) (line_first (dotted line) (flat_map (λ l. dotted l ++ line_end) lines) rest)
    ∙ ap up_to_dot (pieces-append (dotted line) (sent lines ++ rest) ∙ ap (λ (ls : List (List ℕ)). ls ++ pieces (sent lines ++ rest)) (pieces-dotted line are.0))
    ∙ behind-some (dotted line) (pieces (sent lines ++ rest)) (pieces-some (sent lines ++ rest)) (dotted-dot line)
    ∙ ap (behind_line (dotted line)) (text_sent joins lines rest are.1)

pub content_sent : (lines : List (List ℕ)) → content (map dotted lines) ≡ flat_map (λ line. line ++ line_end) lines
content_sent [] = refl
content_sent (line ∷ lines) = rw (undotted-dotted line, content_sent lines) refl
