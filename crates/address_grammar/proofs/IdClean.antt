-- A print of ids has no white space at its ends, and no control byte that the value lacks.
use Rattle.std.proofs.Common.{◌≡◌, ℕ, ◌<◌, List, [], ◌∷◌, ◌++◌, refl, sym, subst}
use Rattle.std.proofs.lemmas.List.{append-nil}
use Rattle.mail_text.specs.Texts.{trimmed}
use Rattle.address_grammar.specs.Words.{each_spaced, spaced}
use Rattle.address_grammar.specs.IdGrammar.{IsId, IsIdList, ReadsIds}
use Rattle.address_grammar.proofs.CleanLemmas.{Lacks, EachLacks, lacks_parts, spaced_lacks}
use Rattle.address_grammar.proofs.TrimmedLemmas.{Starts, Ends, starts_append, ends_append, kept}

ids_lack : (b : ℕ) (ids : List (List ℕ)) (value : List ℕ) → IsIdList value ids → Lacks b value → EachLacks b ids
ids_lack b [] value l h = tt
ids_lack b (id ∷ ids) value (gap, rest, blank, i, same, more) h =
    let parts = lacks_parts b gap (id ++ rest) (subst (Lacks b) same h) in
    let one = lacks_parts b id rest parts.1 in (one.0, ids_lack b ids rest more one.1)

pub ids_no_control : (b : ℕ) (value : List ℕ) (ids : List (List ℕ)) → b < 32 → ReadsIds value ids → Lacks b value → Lacks b (spaced ids)
ids_no_control b value ids small r h = spaced_lacks b ids small (ids_lack b ids value r.is_list h)

id_starts : (id : List ℕ) → IsId id → Starts id
id_starts id i = record { first = 60; rest = i.first ∷ i.more ++ 62 ∷ []; is = i.is; isnt_blank = refl }

id_ends : (id : List ℕ) → IsId id → Ends id
id_ends id i = record { front = 60 ∷ i.first ∷ i.more; last = 62; is = i.is; isnt_blank = refl }

list_ends : (id : List ℕ) (ids : List (List ℕ)) (value : List ℕ) → IsIdList value (id ∷ ids) → Ends (id ++ each_spaced ids)
list_ends id [] value (gap, rest, blank, i, same, more) = subst Ends (sym (append-nil id)) (id_ends id i)
list_ends id (next ∷ ids) value (gap, rest, blank, i, same, more) =
    ends_append id (32 ∷ next ++ each_spaced ids) (ends_append (32 ∷ []) (next ++ each_spaced ids) (list_ends next ids rest more))

pub ids_trimmed : (value : List ℕ) (ids : List (List ℕ)) → ReadsIds value ids → trimmed (spaced ids) ≡ spaced ids
ids_trimmed value [] r = absurd (r.some refl)
ids_trimmed value (id ∷ ids) r = kept (spaced (id ∷ ids)) (starts_append id (each_spaced ids) (id_starts id r.is_list.3)) (list_ends id ids value r.is_list)
