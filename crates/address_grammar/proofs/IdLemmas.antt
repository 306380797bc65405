-- Printed ids are read as these ids.
use Rattle.std.proofs.Common.{◌≡◌, ℕ, Bool, true, false, ◌&&◌, not, cond, eqb, List, [], ◌∷◌, ◌++◌, Option, Some, None, refl, sym, ◌∙◌, ap, subst}
use Rattle.std.proofs.lemmas.Bool.{cond_both, cond-true, cond-false, eqb-true, and_parts, and_from, not-true}
use Rattle.std.proofs.lemmas.List.{append_assoc}
use Rattle.mail_text.specs.Texts.{behind, is_blank}
use Rattle.mail_text.specs.Lines.{put}
use Rattle.address_grammar.specs.Words.{each_spaced, spaced}
use Rattle.address_grammar.specs.Printing.{split}
use Rattle.address_grammar.specs.Ids.{are_blanks, are_id_bytes, is_id_front, id_before, ids_of, some_ids, ids_reading}
use Rattle.address_grammar.proofs.SplitLemmas.{split-some, split_here, split_later}

-- Whether a text has no `>`.
abbrev pub lacks : List ℕ → Bool
lacks [] = true
lacks (c ∷ cs) = not (eqb c 62) && lacks cs

abbrev pub all_lack : List (List ℕ) → Bool
all_lack [] = true
all_lack (t ∷ ts) = lacks t && all_lack ts

put_lack : (c : ℕ) (ts : List (List ℕ)) → eqb c 62 ≡ false → all_lack ts ≡ true → all_lack (put c ts) ≡ true
put_lack c [] isnt h = ap (λ b. (not b && true) && true) isnt
put_lack c (t ∷ ts) isnt h =
    let parts = and_parts (lacks t) (all_lack ts) h in
    and_from (not (eqb c 62) && lacks t) (all_lack ts) (and_from (not (eqb c 62)) (lacks t) (ap not isnt) parts.0) parts.1

pub lacks_both : (x y : List ℕ) → lacks x ≡ true → lacks y ≡ true → lacks (x ++ y) ≡ true
lacks_both [] y a b = b
lacks_both (c ∷ cs) y a b = let parts = and_parts (not (eqb c 62)) (lacks cs) a in and_from (not (eqb c 62)) (lacks (cs ++ y)) parts.0 (lacks_both cs y parts.1 b)

pub split_lack : (x : List ℕ) → all_lack (split 62 x) ≡ true
split_lack [] = refl
split_lack (c ∷ cs) =
    cond_both (eqb c 62) ([] ∷ split 62 cs) (put c (split 62 cs)) (λ ts. all_lack ts ≡ true) (λ _. split_lack cs) (λ isnt. put_lack c (split 62 cs) isnt (split_lack cs))

pub behind_lack : (t : List ℕ) → lacks t ≡ true → lacks (behind is_blank t) ≡ true
behind_lack [] h = refl
behind_lack (c ∷ cs) h =
    let parts = and_parts (not (eqb c 62)) (lacks cs) h in
    cond_both (is_blank c) (behind is_blank cs) (c ∷ cs) (λ z. lacks z ≡ true) (λ _. behind_lack cs parts.1) (λ _. h)

pub cut_behind : (f rest : List ℕ) → lacks f ≡ true → split 62 (f ++ 62 ∷ rest) ≡ f ∷ split 62 rest
cut_behind [] rest h = split_here 62 62 rest refl
cut_behind (c ∷ cs) rest h =
    let parts = and_parts (not (eqb c 62)) (lacks cs) h in
    split_later 62 c (cs ++ 62 ∷ rest) (not-true (eqb c 62) parts.0) ∙ ap (put c) (cut_behind cs rest parts.1)

-- An id: its front without a `>`, and a `>`.
pub record IsId (id : List ℕ) : Type 0 where
  pub front : List ℕ
  pub is : id ≡ front ++ 62 ∷ []
  pub begins : is_id_front front ≡ true
  pub lack : lacks front ≡ true

abbrev pub AreIds : List (List ℕ) → Type 0
AreIds [] = Unit {0}
AreIds (id ∷ ids) = IsId id × AreIds ids

abbrev pub GoodIds : Option (List (List ℕ)) → Type 0
GoodIds None = Unit {0}
GoodIds (Some ids) = AreIds ids

good_before : (id : List ℕ) (ids : Option (List (List ℕ))) → IsId id → GoodIds ids → GoodIds (id_before id ids)
good_before id None is good = tt
good_before id (Some ids) is good = (is, good)

good_last : (blank : Bool) → GoodIds (cond blank (Some []) None)
good_last true = tt
good_last false = tt

ids_good : (ts : List (List ℕ)) → all_lack ts ≡ true → GoodIds (ids_of ts)
ids_good [] h = tt
ids_good (last ∷ []) h = good_last (are_blanks last)
ids_good (t ∷ u ∷ ts) h =
    let parts = and_parts (lacks t) (all_lack (u ∷ ts)) h in
    let f = behind is_blank t in
    cond_both (is_id_front f) (id_before (f ++ 62 ∷ []) (ids_of (u ∷ ts))) None GoodIds
    (λ is. good_before (f ++ 62 ∷ []) (ids_of (u ∷ ts)) (record { front = f; is = refl; begins = is; lack = behind_lack t parts.0 }) (ids_good (u ∷ ts) parts.1))
    (λ _. tt)

front_stays : (f : List ℕ) → is_id_front f ≡ true → behind is_blank f ≡ f
front_stays [] h = absurd (cc)
front_stays (c ∷ []) h = absurd (cc)
front_stays (c ∷ d ∷ ds) h =
    let one = eqb-true c 60 (and_parts (eqb c 60) (are_id_bytes (d ∷ ds)) h).0 in
    cond-false (is_blank c) (behind is_blank (d ∷ ds)) (c ∷ d ∷ ds) (ap is_blank one)

pub one_id : (t : List ℕ) (ts : List (List ℕ)) (f : List ℕ) → (ts ≡ [] → ⊥) → behind is_blank t ≡ f → is_id_front f ≡ true → ids_of (t ∷ ts) ≡ id_before (f ++ 62 ∷ []) (ids_of ts)
one_id t [] f some same is = absurd (some refl)
one_id t (u ∷ us) f some same is =
    cond-true (is_id_front (behind is_blank t)) (id_before (behind is_blank t ++ 62 ∷ []) (ids_of (u ∷ us))) None (ap is_id_front same ∙ is)
    ∙ ap (λ z. id_before (z ++ 62 ∷ []) (ids_of (u ∷ us))) same

each_again : (ids : List (List ℕ)) → AreIds ids → ids_of (split 62 (each_spaced ids)) ≡ Some ids
each_again [] good = refl
each_again (id ∷ ids) good =
    let i = good.0 in
    let rest = each_spaced ids in
    ap (λ z. ids_of (split 62 (32 ∷ (z ++ rest)))) i.is ∙ ap (λ z. ids_of (split 62 (32 ∷ z))) (append_assoc i.front (62 ∷ []) rest)
    ∙ ap ids_of (cut_behind (32 ∷ i.front) rest i.lack)
    ∙ one_id (32 ∷ i.front) (split 62 rest) i.front (split-some 62 rest) (front_stays i.front i.begins) i.begins
    ∙ ap (id_before (i.front ++ 62 ∷ [])) (each_again ids good.1) ∙ ap (λ z. Some (z ∷ ids)) (sym i.is)

all_again : (ids : List (List ℕ)) → AreIds ids → ids_of (split 62 (spaced ids)) ≡ Some ids
all_again [] good = refl
all_again (id ∷ ids) good =
    let i = good.0 in
    let rest = each_spaced ids in
    ap (λ z. ids_of (split 62 (z ++ rest))) i.is ∙ ap (λ z. ids_of (split 62 z)) (append_assoc i.front (62 ∷ []) rest)
    ∙ ap ids_of (cut_behind i.front rest i.lack)
    ∙ one_id i.front (split 62 rest) i.front (split-some 62 rest) (front_stays i.front i.begins) i.begins
    ∙ ap (id_before (i.front ++ 62 ∷ [])) (each_again ids good.1) ∙ ap (λ z. Some (z ∷ ids)) (sym i.is)

some_again : (v : Option (List (List ℕ))) (ids : List (List ℕ)) → GoodIds v → some_ids v ≡ Some ids → ids_reading (spaced ids) ≡ Some ids
some_again None ids good e = absurd (cc)
some_again (Some []) ids good e = absurd (cc)
some_again (Some (id ∷ more)) ids good e =
    let same : id ∷ more ≡ ids = cc in
    subst (λ z. ids_reading (spaced z) ≡ Some z) same (ap some_ids (all_again (id ∷ more) good))

pub ids_again : (value : List ℕ) (ids : List (List ℕ)) → ids_reading value ≡ Some ids → ids_reading (spaced ids) ≡ Some ids
ids_again value ids e = some_again (ids_of (split 62 value)) ids (ids_good (split 62 value) (split_lack value)) e
