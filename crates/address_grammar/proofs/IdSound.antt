-- What a value reads as by the grammar of ids is what its pieces between `>` give.
use Rattle.std.proofs.Common.{◌≡◌, ℕ, true, false, ◌||◌, not, eqb, List, [], ◌∷◌, ◌++◌, Option, Some, None, refl, sym, ◌∙◌, ap, subst, inl, inr}
use Rattle.std.proofs.lemmas.Bool.{cases_Bool, cond-true, cond-false, eqb-true, and_parts, and_from, or_cases, or_parts, or_from, not-true, not_from_false}
use Rattle.std.proofs.lemmas.List.{append_assoc}
use Rattle.mail_text.specs.Texts.{behind, is_blank}
use Rattle.mail_text.specs.Lines.{put}
use Rattle.address_grammar.specs.Printing.{split}
use Rattle.address_grammar.specs.Ids.{are_blanks, are_id_bytes, is_id_front, id_before, ids_of, some_ids, ids_reading}
use Rattle.address_grammar.specs.IdGrammar.{are_inner, IsId, IsIdList, ReadsIds, IsIdReadingOf}
use Rattle.address_grammar.proofs.SplitLemmas.{split-some}
use Rattle.address_grammar.proofs.IdLemmas.{lacks, all_lack, split_lack, behind_lack, cut_behind, one_id, lacks_both}

-- From the grammar

inner_lacks : (text : List ℕ) → are_inner text ≡ true → (lacks text ≡ true) × (are_id_bytes text ≡ true)
inner_lacks [] h = (refl, refl)
inner_lacks (c ∷ cs) h =
    let parts = and_parts (not (eqb c 62 || (eqb c 60 || is_blank c))) (are_inner cs) h in
    let one = or_parts (eqb c 62) (eqb c 60 || is_blank c) (not-true (eqb c 62 || (eqb c 60 || is_blank c)) parts.0) in
    let more = inner_lacks cs parts.1 in (
      and_from (not (eqb c 62)) (lacks cs) (not_from_false (eqb c 62) one.0) more.0,
      and_from (not (eqb c 60 || is_blank c)) (are_id_bytes cs) (not_from_false (eqb c 60 || is_blank c) one.1) more.1,
    )

blank_other : (c : ℕ) → is_blank c ≡ true → eqb c 62 ≡ false
blank_other c is =
    elim (or_cases (eqb c 32) (eqb c 9) is) [
      | inl one ↦ ap (λ b. eqb b 62) (eqb-true c 32 one)
      | inr two ↦ ap (λ b. eqb b 62) (eqb-true c 9 two)
    ]

blank_lacks : (gap : List ℕ) → are_blanks gap ≡ true → lacks gap ≡ true
blank_lacks [] h = refl
blank_lacks (c ∷ cs) h =
    let parts = and_parts (is_blank c) (are_blanks cs) h in and_from (not (eqb c 62)) (lacks cs) (not_from_false (eqb c 62) (blank_other c parts.0)) (blank_lacks cs parts.1)

behind_gap : (gap rest : List ℕ) → are_blanks gap ≡ true → behind is_blank (gap ++ rest) ≡ behind is_blank rest
behind_gap [] rest h = refl
behind_gap (c ∷ cs) rest h =
    let parts = and_parts (is_blank c) (are_blanks cs) h in cond-true (is_blank c) (behind is_blank (cs ++ rest)) (c ∷ (cs ++ rest)) parts.0 ∙ behind_gap cs rest parts.1

last_lacks : (value : List ℕ) → lacks value ≡ true → split 62 value ≡ value ∷ []
last_lacks [] h = refl
last_lacks (c ∷ cs) h =
    let parts = and_parts (not (eqb c 62)) (lacks cs) h in
    cond-false (eqb c 62) ([] ∷ split 62 cs) (put c (split 62 cs)) (not-true (eqb c 62) parts.0) ∙ ap (put c) (last_lacks cs parts.1)

pub list_given : (ids : List (List ℕ)) (value : List ℕ) → IsIdList value ids → ids_of (split 62 value) ≡ Some ids
list_given [] value blank = ap ids_of (last_lacks value (blank_lacks value blank)) ∙ cond-true (are_blanks value) (Some []) None blank
list_given (id ∷ ids) value (gap, rest, blank, i, same, more) =
    let front = 60 ∷ i.first ∷ i.more in
    let inner = inner_lacks (i.first ∷ i.more) i.inner in
    let begins : is_id_front front ≡ true = inner.1 in
    let cut : value ≡ (gap ++ front) ++ 62 ∷ rest =
    same ∙ ap (λ z. gap ++ (z ++ rest)) i.is ∙ ap (λ z. gap ++ z) (append_assoc front (62 ∷ []) rest) ∙ sym (append_assoc gap front (62 ∷ rest)) in
    ap (λ z. ids_of (split 62 z)) cut ∙ ap ids_of (cut_behind (gap ++ front) rest (lacks_both gap front (blank_lacks gap blank) inner.0))
    ∙ one_id (gap ++ front) (split 62 rest) front (split-some 62 rest) (behind_gap gap front blank) begins
    ∙ ap (id_before (front ++ 62 ∷ [])) (list_given ids rest more) ∙ ap (λ z. Some (z ∷ ids)) (sym i.is)

-- To the grammar

-- The text that was cut.
abbrev pub text_of : List (List ℕ) → List ℕ
text_of [] = []
text_of (t ∷ []) = t
text_of (t ∷ u ∷ ts) = t ++ 62 ∷ text_of (u ∷ ts)

text_some : (ts : List (List ℕ)) → (ts ≡ [] → ⊥) → text_of ([] ∷ ts) ≡ 62 ∷ text_of ts
text_some [] some = absurd (some refl)
text_some (t ∷ ts) some = refl

text_put : (c : ℕ) (ts : List (List ℕ)) → (ts ≡ [] → ⊥) → text_of (put c ts) ≡ c ∷ text_of ts
text_put c [] some = absurd (some refl)
text_put c (t ∷ []) some = refl
text_put c (t ∷ u ∷ ts) some = refl

text-split : (x : List ℕ) → text_of (split 62 x) ≡ x
text-split [] = refl
text-split (c ∷ cs) =
    elim (cases_Bool (eqb c 62)) [
      | inl is ↦
          ap text_of (cond-true (eqb c 62) ([] ∷ split 62 cs) (put c (split 62 cs)) is) ∙ text_some (split 62 cs) (split-some 62 cs) ∙ ap (λ z. 62 ∷ z) (text-split cs)
          ∙ ap (λ b. b ∷ cs) (sym (eqb-true c 62 is))
      | inr isnt ↦ ap text_of (cond-false (eqb c 62) ([] ∷ split 62 cs) (put c (split 62 cs)) isnt) ∙ text_put c (split 62 cs) (split-some 62 cs) ∙ ap (λ z. c ∷ z) (text-split cs)
    ]

-- A text is its blanks and what is behind them.
gap_of : (t : List ℕ) → (gap : List ℕ) × (are_blanks gap ≡ true) × (t ≡ gap ++ behind is_blank t)
gap_of [] = ([], refl, refl)
gap_of (c ∷ cs) =
    elim (cases_Bool (is_blank c)) [
      | inl is ↦
          let more = gap_of cs in (
            c ∷ more.0,
            and_from (is_blank c) (are_blanks more.0) is more.1,
            ap (λ z. c ∷ z) more.2 ∙ ap (λ z. c ∷ (more.0 ++ z)) (sym (cond-true (is_blank c) (behind is_blank cs) (c ∷ cs) is)),
          )
      | inr isnt ↦ ([], refl, sym (cond-false (is_blank c) (behind is_blank cs) (c ∷ cs) isnt))
    ]

inner_so : (text : List ℕ) → lacks text ≡ true → are_id_bytes text ≡ true → are_inner text ≡ true
inner_so [] l b = refl
inner_so (c ∷ cs) l b =
    let lack = and_parts (not (eqb c 62)) (lacks cs) l in
    let fit = and_parts (not (eqb c 60 || is_blank c)) (are_id_bytes cs) b in
    and_from (not (eqb c 62 || (eqb c 60 || is_blank c))) (are_inner cs)
    (not_from_false (eqb c 62 || (eqb c 60 || is_blank c)) (or_from (eqb c 62) (eqb c 60 || is_blank c) (not-true (eqb c 62) lack.0) (not-true (eqb c 60 || is_blank c) fit.0)))
    (inner_so cs lack.1 fit.1)

front_id : (f : List ℕ) → is_id_front f ≡ true → lacks f ≡ true → IsId (f ++ 62 ∷ [])
front_id [] h l = absurd (cc)
front_id (c ∷ []) h l = absurd (cc)
front_id (c ∷ d ∷ ds) h l =
    let parts = and_parts (eqb c 60) (are_id_bytes (d ∷ ds)) h in
    let lack = and_parts (not (eqb c 62)) (lacks (d ∷ ds)) l in
    record { first = d; more = ds; inner = inner_so (d ∷ ds) lack.1 parts.1; is = ap (λ b. b ∷ (d ∷ ds ++ 62 ∷ [])) (eqb-true c 60 parts.0) }

-- What an id and those behind it give.
before_so : (id : List ℕ) (v : Option (List (List ℕ))) (ids : List (List ℕ)) → id_before id v ≡ Some ids → (others : List (List ℕ)) × (v ≡ Some others) × (ids ≡ id ∷ others)
before_so id None ids e = absurd (cc)
before_so id (Some others) ids e = let same : id ∷ others ≡ ids = cc in (others, refl, sym same)

list_so : (ts ids : List (List ℕ)) → all_lack ts ≡ true → ids_of ts ≡ Some ids → IsIdList (text_of ts) ids
list_so [] ids l e = absurd (cc)
list_so (last ∷ []) ids l e =
    elim (cases_Bool (are_blanks last)) [
      | inl is ↦
          let same : Some [] ≡ Some ids = sym (cond-true (are_blanks last) (Some []) None is) ∙ e in
          let none : [] ≡ ids = cc in subst (IsIdList last) none is
      | inr isnt ↦ let none : None ≡ Some ids = sym (cond-false (are_blanks last) (Some []) None isnt) ∙ e in absurd (cc)
    ]
list_so (t ∷ u ∷ ts) ids l e =
    let f = behind is_blank t in
    let v = ids_of (u ∷ ts) in
    let lack = and_parts (lacks t) (all_lack (u ∷ ts)) l in
    elim (cases_Bool (is_id_front f)) [
      | inl is ↦
          let here = before_so (f ++ 62 ∷ []) v ids (sym (cond-true (is_id_front f) (id_before (f ++ 62 ∷ []) v) None is) ∙ e) in
          let gap = gap_of t in
          let rest = text_of (u ∷ ts) in
          subst (IsIdList (t ++ 62 ∷ rest)) (sym here.2) (
            gap.0,
            rest,
            gap.1,
            front_id f is (behind_lack t lack.0),
            ap (λ z. z ++ 62 ∷ rest) gap.2 ∙ append_assoc gap.0 f (62 ∷ rest) ∙ ap (λ z. gap.0 ++ z) (sym (append_assoc f (62 ∷ []) rest)),
            list_so (u ∷ ts) here.0 lack.1 here.1,
          )
      | inr isnt ↦ let none : None ≡ Some ids = sym (cond-false (is_id_front f) (id_before (f ++ 62 ∷ []) v) None isnt) ∙ e in absurd (cc)
    ]

some_given : (ids : List (List ℕ)) → (ids ≡ [] → ⊥) → some_ids (Some ids) ≡ Some ids
some_given [] some = absurd (some refl)
some_given (id ∷ ids) some = refl

pub ids_given : (value : List ℕ) (ids : List (List ℕ)) → ReadsIds value ids → ids_reading value ≡ Some ids
ids_given value ids r = ap some_ids (list_given ids value r.is_list) ∙ some_given ids r.some

some_so : (v : Option (List (List ℕ))) (ids : List (List ℕ)) → some_ids v ≡ Some ids → (v ≡ Some ids) × (ids ≡ [] → ⊥)
some_so None ids e = absurd (cc)
some_so (Some []) ids e = absurd (cc)
some_so (Some (id ∷ more)) ids e = let same : id ∷ more ≡ ids = cc in (ap Some same, λ none. absurd (cc))

pub ids_so : (value : List ℕ) (ids : List (List ℕ)) → ids_reading value ≡ Some ids → ReadsIds value ids
ids_so value ids e =
    let found = some_so (ids_of (split 62 value)) ids e in
    record { is_list = subst (λ z. IsIdList z ids) (text-split value) (list_so (split 62 value) ids (split_lack value) found.0); some = found.1 }

pub ids_reading_is : (value : List ℕ) (r : Option (List (List ℕ))) → r ≡ ids_reading value → IsIdReadingOf value r
ids_reading_is value None e = λ ids r. let two : None ≡ Some ids = e ∙ ids_given value ids r in absurd (cc)
ids_reading_is value (Some ids) e = (
  ids_so value ids (sym e),
  λ others r. let same : Some ids ≡ Some others = e ∙ ids_given value others r in let one : ids ≡ others = cc in sym one,
)
