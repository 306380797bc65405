-- What holds of each field that was read.
use Rattle.std.proofs.Common.{◌≡◌, ℕ, ◌<◌, Bool, true, false, cond, ◌&&◌, ◌||◌, not, eqb, ltb, List, [], ◌∷◌, ◌++◌, length, map, Some, None, refl, sym, ◌∙◌, ap, subst, arith, inl, inr}
use Rattle.std.proofs.lemmas.Bool.{cond_both, cond-true, cond-false, and_parts, and_from, and_right, or_parts, or_from, not-true, not_from_false, cases_Bool, false_from_ne_true}
use Rattle.mail_text.specs.Texts.{begins, front, behind, is_blank, before_trimmed, without_blank_end, trimmed}
use Rattle.mail_text.specs.Lines.{put, is_lf, lines, has}
use Rattle.mime_tree.specs.declared.reasons.Reason.TheVariants.{LoneReturn, NoField, LongHeader}
use Rattle.header_reader.specs.Fields.{header, is_name, is_colon, is_dash, rest, begins_with_dashes, is_field_line, continued, unfolded, field_of, fields_of}
use Rattle.header_reader.specs.Faults.{have_cr, go_on, are_fields, header_size, longest_header, fault_of}
use Rattle.header_reader.specs.Good.{IsGood, AllGood}
use Rattle.header_reader.proofs.TrimLemmas.{trimmed-again}
use Rattle.header_reader.proofs.UnfoldLemmas.{taken_in, stands_apart}

-- No line has the byte.
abbrev pub AllLack : ℕ → List (List ℕ) → Type 0
AllLack b [] = Unit {0}
AllLack b (l ∷ ls) = (has b l ≡ false) × AllLack b ls

has-append : (b : ℕ) (x y : List ℕ) → has b x ≡ false → has b y ≡ false → has b (x ++ y) ≡ false
has-append b [] y h k = k
has-append b (c ∷ cs) y h k =
    let parts = or_parts (eqb c b) (has b cs) h in
    or_from (eqb c b) (has b (cs ++ y)) parts.0 (has-append b cs y parts.1 k)

AllLack-put : (b c : ℕ) (ls : List (List ℕ)) → eqb c b ≡ false → AllLack b ls → AllLack b (put c ls)
AllLack-put b c [] h k = (or_from (eqb c b) false h refl, tt)
AllLack-put b c (l ∷ ls) h k = (or_from (eqb c b) (has b l) h k.0, k.1)

AllLack-lines : (b : ℕ) (x : List ℕ) → has b x ≡ false → AllLack b (lines x)
AllLack-lines b [] h = (refl, tt)
AllLack-lines b (c ∷ cs) h =
    let parts = or_parts (eqb c b) (has b cs) h in
    let later = AllLack-lines b cs parts.1 in
    cond_both (eqb c 13 && begins is_lf cs) (lines cs) (cond (eqb c 10) ([] ∷ lines cs) (put c (lines cs))) (AllLack b)
    (λ _. later) (λ _. cond_both (eqb c 10) ([] ∷ lines cs) (put c (lines cs)) (AllLack b) (λ _. (refl, later)) (λ _. AllLack-put b c (lines cs) parts.0 later))

AllLack-lf : (x : List ℕ) → AllLack 10 (lines x)
AllLack-lf [] = (refl, tt)
AllLack-lf (c ∷ cs) =
    cond_both (eqb c 13 && begins is_lf cs) (lines cs) (cond (eqb c 10) ([] ∷ lines cs) (put c (lines cs))) (AllLack 10)
    (λ _. AllLack-lf cs)
    (λ _. cond_both (eqb c 10) ([] ∷ lines cs) (put c (lines cs)) (AllLack 10) (λ _. (refl, AllLack-lf cs)) (λ e. AllLack-put 10 c (lines cs) e (AllLack-lf cs)))

AllLack-header : (b : ℕ) (ls : List (List ℕ)) → AllLack b ls → AllLack b (header ls)
AllLack-header b [] h = tt
AllLack-header b ([] ∷ ls) h = tt
AllLack-header b ((c ∷ l) ∷ ls) h = (h.0, AllLack-header b ls h.1)

AllLack-cr : (ls : List (List ℕ)) → have_cr ls ≡ false → AllLack 13 ls
AllLack-cr [] h = tt
AllLack-cr (l ∷ ls) h = let parts = or_parts (has 13 l) (have_cr ls) h in (parts.0, AllLack-cr ls parts.1)

AllLack-continued : (b : ℕ) (l : List ℕ) (us : List (List ℕ)) → has b l ≡ false → AllLack b us → AllLack b (continued l us)
AllLack-continued b l [] h k = (h, tt)
AllLack-continued b l (m ∷ ms) h k =
    cond_both (begins is_blank m) ((l ++ m) ∷ ms) (l ∷ m ∷ ms) (AllLack b) (λ _. (has-append b l m h k.0, k.1)) (λ _. (h, k))

AllLack-unfolded : (b : ℕ) (ls : List (List ℕ)) → AllLack b ls → AllLack b (unfolded ls)
AllLack-unfolded b [] h = tt
AllLack-unfolded b (l ∷ ls) h = AllLack-continued b l (unfolded ls) h.0 (AllLack-unfolded b ls h.1)

-- A value has no byte that its line has not.

has-behind : (b : ℕ) (test : ℕ → Bool) (x : List ℕ) → has b x ≡ false → has b (behind test x) ≡ false
has-behind b test [] h = refl
has-behind b test (c ∷ cs) h =
    cond_both (test c) (behind test cs) (c ∷ cs) (λ z. has b z ≡ false) (λ _. has-behind b test cs ((or_parts (eqb c b) (has b cs) h).1)) (λ _. h)

has-rest : (b : ℕ) (x : List ℕ) → has b x ≡ false → has b (rest x) ≡ false
has-rest b [] h = refl
has-rest b (c ∷ cs) h = (or_parts (eqb c b) (has b cs) h).1

has-before : (b c : ℕ) (e : List ℕ) → eqb c b ≡ false → has b e ≡ false → has b (before_trimmed c e) ≡ false
has-before b c [] h k = cond_both (is_blank c) [] (c ∷ []) (λ z. has b z ≡ false) (λ _. refl) (λ _. or_from (eqb c b) false h refl)
has-before b c (d ∷ ds) h k = or_from (eqb c b) (has b (d ∷ ds)) h k

has-without_end : (b : ℕ) (x : List ℕ) → has b x ≡ false → has b (without_blank_end x) ≡ false
has-without_end b [] h = refl
has-without_end b (c ∷ cs) h =
    let parts = or_parts (eqb c b) (has b cs) h in
    has-before b c (without_blank_end cs) parts.0 (has-without_end b cs parts.1)

has-value : (b : ℕ) (line : List ℕ) → has b line ≡ false → has b (trimmed (rest (behind (λ c. not (is_colon c)) line))) ≡ false
has-value b line h =
    let after = rest (behind (λ c. not (is_colon c)) line) in
    has-without_end b (behind is_blank after) (has-behind b is_blank after (has-rest b _ (has-behind b (λ c. not (is_colon c)) line h)))

-- A line of a field stays one with whatever continues it.

begins_some : (test : ℕ → Bool) (x : List ℕ) → begins test x ≡ true → 0 < length x
begins_some test [] h = absurd (cc)
begins_some test (c ∷ cs) h = omega arith

begins-append : (test : ℕ → Bool) (x y : List ℕ) → 0 < length x → begins test (x ++ y) ≡ begins test x
begins-append test [] y h = absurd (omega arith)
begins-append test (c ∷ cs) y h = refl

behind_step : (t : Bool) (c : ℕ) (cs y w w' : List ℕ) → (0 < length w → w' ≡ w ++ y) → 0 < length (cond t w (c ∷ cs)) →
    cond t w' (c ∷ (cs ++ y)) ≡ cond t w (c ∷ cs) ++ y
behind_step true c cs y w w' e h = e h
behind_step false c cs y w w' e h = refl

behind-append : (test : ℕ → Bool) (x y : List ℕ) → 0 < length (behind test x) → behind test (x ++ y) ≡ behind test x ++ y
behind-append test [] y h = absurd (omega arith)
behind-append test (c ∷ cs) y h = behind_step (test c) c cs y (behind test cs) (behind test (cs ++ y)) (behind-append test cs y) h

behind_some : (test : ℕ → Bool) (x : List ℕ) → 0 < length (behind test x) → 0 < length x
behind_some test [] h = h
behind_some test (c ∷ cs) h = omega arith

dashes-append : (l m : List ℕ) → is_field_line l ≡ true → begins_with_dashes (l ++ m) ≡ begins_with_dashes l
dashes-append [] m h = absurd (cc)
dashes-append (c ∷ []) m h =
    let parts = and_parts (is_name c) (not (begins_with_dashes (c ∷ [])) && begins is_colon (behind is_blank (behind is_name (c ∷ [])))) h in
    let more = and_parts (not (begins_with_dashes (c ∷ []))) (begins is_colon (behind is_blank (behind is_name (c ∷ [])))) parts.1 in
    let nothing : false ≡ true = sym (ap (λ z. begins is_colon (behind is_blank z)) (cond-true (is_name c) [] (c ∷ []) parts.0)) ∙ more.1 in
    absurd (cc)
dashes-append (c ∷ d ∷ ds) m h = refl

field_line-append : (l m : List ℕ) → is_field_line l ≡ true → is_field_line (l ++ m) ≡ true
field_line-append l m h =
    let parts = and_parts (begins is_name l) (not (begins_with_dashes l) && begins is_colon (behind is_blank (behind is_name l))) h in
    let more = and_parts (not (begins_with_dashes l)) (begins is_colon (behind is_blank (behind is_name l))) parts.1 in
    let colon = begins_some is_colon (behind is_blank (behind is_name l)) more.1 in
    let after : behind is_name (l ++ m) ≡ behind is_name l ++ m = behind-append is_name l m (behind_some is_blank (behind is_name l) colon) in
    let last : behind is_blank (behind is_name (l ++ m)) ≡ behind is_blank (behind is_name l) ++ m =
    ap (behind is_blank) after ∙ behind-append is_blank (behind is_name l) m colon in
    and_from (begins is_name (l ++ m)) (not (begins_with_dashes (l ++ m)) && begins is_colon (behind is_blank (behind is_name (l ++ m))))
    (begins-append is_name l m (begins_some is_name l parts.0) ∙ parts.0)
    (and_from (not (begins_with_dashes (l ++ m))) (begins is_colon (behind is_blank (behind is_name (l ++ m))))
    (ap not (dashes-append l m h) ∙ more.0)
    (ap (begins is_colon) last ∙ begins-append is_colon (behind is_blank (behind is_name l)) m colon ∙ more.1))

or_left_of : (a b : Bool) → (a || b) ≡ true → b ≡ false → a ≡ true
or_left_of true b h e = refl
or_left_of false b h e = let bad : false ≡ true = sym e ∙ h in absurd (cc)

-- Each unfolded line is a field's.
abbrev pub AllFields : List (List ℕ) → Type 0
AllFields [] = Unit {0}
AllFields (u ∷ us) = (is_field_line u ≡ true) × AllFields us

all_fields : (ls : List (List ℕ)) (l : List ℕ) → go_on ls ≡ true → is_field_line l ≡ true → AllFields (continued l (unfolded ls))
all_fields [] l g h = (h, tt)
all_fields (m ∷ ms) l g h =
    let parts = and_parts (is_field_line m || begins is_blank m) (go_on ms) g in
    elim (cases_Bool (begins is_blank m)) [
      | inl is ↦ subst AllFields (sym (taken_in l m (unfolded ms) is)) (all_fields ms (l ++ m) parts.1 (field_line-append l m h))
      | inr isnt ↦
          let field : is_field_line m ≡ true = or_left_of (is_field_line m) (begins is_blank m) parts.0 isnt in
          let named = and_parts (begins is_name m) (not (begins_with_dashes m) && begins is_colon (behind is_blank (behind is_name m))) field in
          subst AllFields (sym (stands_apart l m (unfolded ms) (begins_some is_name m named.0) isnt)) (h, all_fields ms m parts.1 field)
    ]

AllFields-unfolded : (ls : List (List ℕ)) → are_fields ls ≡ true → AllFields (unfolded ls)
AllFields-unfolded [] h = tt
AllFields-unfolded (l ∷ ls) h = let parts = and_parts (is_field_line l) (go_on ls) h in all_fields ls l parts.1 parts.0

-- The name of a field's line.

front_begins : (x : List ℕ) → begins is_name x ≡ true → begins is_name (front is_name x) ≡ true
front_begins [] h = h
front_begins (c ∷ cs) h = ap (begins is_name) (cond-true (is_name c) (c ∷ front is_name cs) [] h) ∙ h

front-front : (test : ℕ → Bool) (x : List ℕ) → front test (front test x) ≡ front test x
front-front test [] = refl
front-front test (c ∷ cs) =
    cond_both (test c) (c ∷ front test cs) [] (λ z. front test z ≡ z)
    (λ is. cond-true (test c) (c ∷ front test (front test cs)) [] is ∙ ap (λ z. c ∷ z) (front-front test cs)) (λ _. refl)

front_dashes : (test : ℕ → Bool) (x : List ℕ) → begins_with_dashes x ≡ false → begins_with_dashes (front test x) ≡ false
front_dashes test [] h = refl
front_dashes test (c ∷ []) h =
    cond_both (test c) (c ∷ []) [] (λ z. begins_with_dashes z ≡ false) (λ _. h) (λ _. refl)
front_dashes test (c ∷ d ∷ ds) h =
    cond_both (test c) (c ∷ cond (test d) (d ∷ front test ds) []) [] (λ z. begins_with_dashes z ≡ false)
    (λ _. cond_both (test d) (d ∷ front test ds) [] (λ z. begins_with_dashes (c ∷ z) ≡ false) (λ _. h) (λ _. and_right (is_dash c) false refl)) (λ _. refl)

good_line : (u : List ℕ) → is_field_line u ≡ true → has 0 u ≡ false → has 10 u ≡ false → has 13 u ≡ false → IsGood (field_of u).name (field_of u).value
good_line u h zero lf cr =
    let parts = and_parts (begins is_name u) (not (begins_with_dashes u) && begins is_colon (behind is_blank (behind is_name u))) h in
    let more = and_parts (not (begins_with_dashes u)) (begins is_colon (behind is_blank (behind is_name u))) parts.1 in
    record {
      some = front_begins u parts.0;
      names = front-front is_name u;
      no_dashes = front_dashes is_name u (not-true (begins_with_dashes u) more.0);
      is_trimmed = trimmed-again (rest (behind (λ c. not (is_colon c)) u));
      no_zero = has-value 0 u zero;
      no_lf = has-value 10 u lf;
      no_cr = has-value 13 u cr;
    }

good_lines : (us : List (List ℕ)) → AllFields us → AllLack 0 us → AllLack 10 us → AllLack 13 us → AllGood (map field_of us)
good_lines [] h zero lf cr = tt
good_lines (u ∷ us) h zero lf cr = (good_line u h.0 zero.0 lf.0 cr.0, good_lines us h.1 zero.1 lf.1 cr.1)

-- What a header without a fault has.

no_cr_in : (ls : List (List ℕ)) → fault_of ls ≡ None → have_cr ls ≡ false
no_cr_in ls h =
    false_from_ne_true (have_cr ls) (λ is.
    let bad : Some LoneReturn ≡ None =
    sym (cond-true (have_cr ls) (Some LoneReturn) (cond (not (are_fields ls)) (Some NoField) (cond (ltb longest_header (header_size ls)) (Some LongHeader) None)) is) ∙ h in
    cc)

fields_in : (ls : List (List ℕ)) → fault_of ls ≡ None → are_fields ls ≡ true
fields_in ls h =
    let later = cond (not (are_fields ls)) (Some NoField) (cond (ltb longest_header (header_size ls)) (Some LongHeader) None) in
    let left : later ≡ None = sym (cond-false (have_cr ls) (Some LoneReturn) later (no_cr_in ls h)) ∙ h in
    elim (cases_Bool (are_fields ls)) [
      | inl is ↦ is
      | inr isnt ↦
          let bad : Some NoField ≡ None =
          sym (cond-true (not (are_fields ls)) (Some NoField) (cond (ltb longest_header (header_size ls)) (Some LongHeader) None) (not_from_false (are_fields ls) isnt)) ∙ left in
          absurd (cc)
    ]

pub good : (text : List ℕ) → has 0 text ≡ false → fault_of (header (lines text)) ≡ None → AllGood (fields_of (header (lines text)))
good text zero sound =
    let ls = header (lines text) in
    good_lines (unfolded ls) (AllFields-unfolded ls (fields_in ls sound)) (AllLack-unfolded 0 ls (AllLack-header 0 (lines text) (AllLack-lines 0 text zero)))
    (AllLack-unfolded 10 ls (AllLack-header 10 (lines text) (AllLack-lf text))) (AllLack-unfolded 13 ls (AllLack-cr ls (no_cr_in ls sound)))
