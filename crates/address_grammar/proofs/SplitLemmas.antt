-- Texts cut at each byte of a kind.
use Rattle.std.proofs.Common.{◌≡◌, ℕ, zero, suc, ◌+◌, ◌<◌, ◌≤◌, Bool, true, false, ◌&&◌, cond, eqb, List, [], ◌∷◌, ◌++◌, length, get_or, take, drop, Option, Some, None, option_map, refl, sym, ◌∙◌, ap, arith}
use Rattle.std.proofs.lemmas.Bool.{cond_both, cond-true, cond-false, eq-eqb, eqb-true, ne_eqb, false_from_ne_true}
use Rattle.std.proofs.lemmas.List.{drop_more, drop_all, append-nil, append_assoc}
use Rattle.memchr.specs.Find.{IsFirstByte, is_byte}
use Rattle.mail_text.specs.Texts.{behind, is_blank}
use Rattle.mail_text.specs.Lines.{put}
use Rattle.address_grammar.specs.Pieces.{is_atom}
use Rattle.address_grammar.specs.Printing.{split, are_atom_bytes, is_atom_text, are_atoms, is_bare}
use Rattle.address_grammar.specs.Ids.{are_blanks, is_id_front, id_before, ids_of, some_ids, ids_reading}

put-some : (c : ℕ) (ls : List (List ℕ)) → put c ls ≡ [] → ⊥
put-some c [] e = cc
put-some c (l ∷ ls) e = cc

pub split-some : (at : ℕ) (x : List ℕ) → split at x ≡ [] → ⊥
split-some at [] = λ e. cc
split-some at (c ∷ cs) = cond_both (eqb c at) ([] ∷ split at cs) (put c (split at cs)) (λ ls. ls ≡ [] → ⊥) (λ _ e. cc) (λ _. put-some c (split at cs))

pub split_here : (at c : ℕ) (cs : List ℕ) → c ≡ at → split at (c ∷ cs) ≡ [] ∷ split at cs
split_here at c cs is = cond-true (eqb c at) ([] ∷ split at cs) (put c (split at cs)) (eq-eqb c at is)

pub split_later : (at c : ℕ) (cs : List ℕ) → eqb c at ≡ false → split at (c ∷ cs) ≡ put c (split at cs)
split_later at c cs isnt = cond-false (eqb c at) ([] ∷ split at cs) (put c (split at cs)) isnt

pub split_found : (at : ℕ) (x : List ℕ) (end : ℕ) → ((k : ℕ) → k < end → eqb (get_or x k 0) at ≡ false) → end < length x → get_or x end 0 ≡ at →
    split at x ≡ take end x ∷ split at (drop (suc end) x)
split_found at [] end before h is = absurd (omega arith)
split_found at (c ∷ cs) zero before h is = split_here at c cs is
split_found at (c ∷ cs) (suc end) before h is =
    split_later at c cs (before 0 (omega arith)) ∙ ap (put c) (split_found at cs end (λ k b. before (suc k) (omega arith)) (omega arith) is)

pub split_none : (at : ℕ) (x : List ℕ) → ((k : ℕ) → k < length x → eqb (get_or x k 0) at ≡ false) → split at x ≡ x ∷ []
split_none at [] none = refl
split_none at (c ∷ cs) none = split_later at c cs (none 0 (omega arith)) ∙ ap (put c) (split_none at cs (λ k b. none (suc k) (omega arith)))

-- Bare texts, byte by byte: what the pieces that are left tell, where an atom was begun or not.
abbrev pub left_bare : Bool → List (List ℕ) → Bool
left_bare begun [] = false
left_bare true (w ∷ ws) = are_atom_bytes w && are_atoms ws
left_bare false (w ∷ ws) = is_atom_text w && are_atoms ws

start : (ls : List (List ℕ)) → (ls ≡ [] → ⊥) → are_atoms ls ≡ left_bare false ls
start [] some = absurd (some refl)
start (w ∷ ws) some = refl

pub bare_start : (at : ℕ) (text : List ℕ) → is_bare at text ≡ left_bare false (split at text)
bare_start at text = start (split at text) (split-some at text)

left_put : (begun : Bool) (b : ℕ) (ls : List (List ℕ)) → (ls ≡ [] → ⊥) → is_atom b ≡ true → left_bare begun (put b ls) ≡ left_bare true ls
left_put begun b [] some is = absurd (some refl)
left_put true b (w ∷ ws) some is = ap (λ t. (t && are_atom_bytes w) && are_atoms ws) is
left_put false b (w ∷ ws) some is = ap (λ t. (t && are_atom_bytes w) && are_atoms ws) is

left_bad : (begun : Bool) (b : ℕ) (ls : List (List ℕ)) → (ls ≡ [] → ⊥) → is_atom b ≡ false → left_bare begun (put b ls) ≡ false
left_bad begun b [] some is = absurd (some refl)
left_bad true b (w ∷ ws) some is = ap (λ t. (t && are_atom_bytes w) && are_atoms ws) is
left_bad false b (w ∷ ws) some is = ap (λ t. (t && are_atom_bytes w) && are_atoms ws) is

again : (ls : List (List ℕ)) → (ls ≡ [] → ⊥) → left_bare true ([] ∷ ls) ≡ left_bare false ls
again [] some = absurd (some refl)
again (w ∷ ws) some = refl

split_at : (at : ℕ) (text : List ℕ) (i b : ℕ) → i < length text → b ≡ get_or text i 0 → split at (drop i text) ≡ split at (b ∷ drop (i + 1) text)
split_at at text i b h is = ap (split at) (drop_more text i 0 h ∙ ap (λ c. c ∷ drop (i + 1) text) (sym is))

pub bare_between : (at : ℕ) (text : List ℕ) (i b : ℕ) → i < length text → b ≡ get_or text i 0 → b ≡ at → is_bare at text ≡ left_bare true (split at (drop i text)) →
    is_bare at text ≡ left_bare false (split at (drop (i + 1) text))
bare_between at text i b h here is so_far =
    so_far ∙ ap (left_bare true) (split_at at text i b h here ∙ split_here at b (drop (i + 1) text) is) ∙ again (split at (drop (i + 1) text)) (split-some at (drop (i + 1) text))

pub bare_twice : (at : ℕ) (text : List ℕ) (i b : ℕ) → i < length text → b ≡ get_or text i 0 → b ≡ at → is_bare at text ≡ left_bare false (split at (drop i text)) → false ≡ is_bare at text
bare_twice at text i b h here is so_far = sym (so_far ∙ ap (left_bare false) (split_at at text i b h here ∙ split_here at b (drop (i + 1) text) is))

pub bare_atom : (at : ℕ) (text : List ℕ) (i b : ℕ) (begun : Bool) → i < length text → b ≡ get_or text i 0 → (b ≡ at → ⊥) → is_atom b ≡ true →
    is_bare at text ≡ left_bare begun (split at (drop i text)) → is_bare at text ≡ left_bare true (split at (drop (i + 1) text))
bare_atom at text i b begun h here isnt is so_far =
    so_far ∙ ap (left_bare begun) (split_at at text i b h here ∙ split_later at b (drop (i + 1) text) (ne_eqb b at isnt))
    ∙ left_put begun b (split at (drop (i + 1) text)) (split-some at (drop (i + 1) text)) is

pub bare_other : (at : ℕ) (text : List ℕ) (i b : ℕ) (begun : Bool) → i < length text → b ≡ get_or text i 0 → (b ≡ at → ⊥) → is_atom b ≡ false →
    is_bare at text ≡ left_bare begun (split at (drop i text)) → false ≡ is_bare at text
bare_other at text i b begun h here isnt is so_far =
    sym (so_far ∙ ap (left_bare begun) (split_at at text i b h here ∙ split_later at b (drop (i + 1) text) (ne_eqb b at isnt))
    ∙ left_bad begun b (split at (drop (i + 1) text)) (split-some at (drop (i + 1) text)) is)

left_end : (begun : Bool) → left_bare begun ([] ∷ []) ≡ begun
left_end true = refl
left_end false = refl

pub bare_all : (at : ℕ) (text : List ℕ) (i : ℕ) (begun : Bool) → length text ≤ i → is_bare at text ≡ left_bare begun (split at (drop i text)) → begun ≡ is_bare at text
bare_all at text i begun none so_far = sym (so_far ∙ ap (λ z. left_bare begun (split at z)) (drop_all i text none) ∙ left_end begun)

-- Ids, cut at each `>`

abbrev pub ahead_ids : List (List ℕ) → Option (List (List ℕ)) → Option (List (List ℕ))
ahead_ids out ids = option_map (λ is. out ++ is) ids

pub cut_at : (x : List ℕ) (end : ℕ) → IsFirstByte (is_byte 62) x (Some end) → split 62 x ≡ take end x ∷ split 62 (drop (end + 1) x)
cut_at x end f =
    split_found 62 x end (λ k h. false_from_ne_true (eqb (get_or x k 0) 62) (f.0.before k (omega arith) h)) f.0.high (eqb-true (get_or x end 0) 62 f.1)
    ∙ ap (λ n. take end x ∷ split 62 (drop n x)) (let e : suc end ≡ end + 1 = omega arith in e)

pub no_cut : (x : List ℕ) → IsFirstByte (is_byte 62) x None → split 62 x ≡ x ∷ []
no_cut x f = split_none 62 x (λ k h. false_from_ne_true (eqb (get_or x k 0) 62) (f k (omega arith) h))

ids_front : (t : List ℕ) (ts : List (List ℕ)) → (ts ≡ [] → ⊥) → is_id_front (behind is_blank t) ≡ true → ids_of (t ∷ ts) ≡ id_before (behind is_blank t ++ 62 ∷ []) (ids_of ts)
ids_front t [] some is = absurd (some refl)
ids_front t (u ∷ us) some is = cond-true (is_id_front (behind is_blank t)) (id_before (behind is_blank t ++ 62 ∷ []) (ids_of (u ∷ us))) None is

ids_bad : (t : List ℕ) (ts : List (List ℕ)) → (ts ≡ [] → ⊥) → is_id_front (behind is_blank t) ≡ false → ids_of (t ∷ ts) ≡ None
ids_bad t [] some isnt = absurd (some refl)
ids_bad t (u ∷ us) some isnt = cond-false (is_id_front (behind is_blank t)) (id_before (behind is_blank t ++ 62 ∷ []) (ids_of (u ∷ us))) None isnt

ahead_more : (out : List (List ℕ)) (id : List ℕ) (ids : Option (List (List ℕ))) → ahead_ids out (id_before id ids) ≡ ahead_ids (out ++ id ∷ []) ids
ahead_more out id None = refl
ahead_more out id (Some is) = ap Some (sym (append_assoc out (id ∷ []) is))

pub ids_more : (value rest : List ℕ) (end : ℕ) (out : List (List ℕ)) → IsFirstByte (is_byte 62) rest (Some end) → is_id_front (behind is_blank (take end rest)) ≡ true →
    ahead_ids out (ids_of (split 62 rest)) ≡ ids_of (split 62 value) → ahead_ids (out ++ (behind is_blank (take end rest) ++ 62 ∷ []) ∷ []) (ids_of (split 62 (drop (end + 1) rest))) ≡ ids_of (split 62 value)
ids_more value rest end out f is so_far =
    let left = split 62 (drop (end + 1) rest) in
    let t = take end rest in
    sym (ap (ahead_ids out) (ap ids_of (cut_at rest end f) ∙ ids_front t left (split-some 62 (drop (end + 1) rest)) is) ∙ ahead_more out (behind is_blank t ++ 62 ∷ []) (ids_of left)) ∙ so_far

pub ids_stop : (value rest : List ℕ) (end : ℕ) (out : List (List ℕ)) → IsFirstByte (is_byte 62) rest (Some end) → is_id_front (behind is_blank (take end rest)) ≡ false →
    ahead_ids out (ids_of (split 62 rest)) ≡ ids_of (split 62 value) → None ≡ ids_reading value
ids_stop value rest end out f isnt so_far =
    sym (ap some_ids (sym so_far ∙ ap (ahead_ids out) (ap ids_of (cut_at rest end f)
    ∙ ids_bad (take end rest) (split 62 (drop (end + 1) rest)) (split-some 62 (drop (end + 1) rest)) isnt)))

last_ids : (rest : List ℕ) (blank : Bool) → are_blanks rest ≡ blank → ids_of (rest ∷ []) ≡ cond blank (Some []) None
last_ids rest blank is = ap (λ t. cond t (Some []) None) is

pub ids_end : (value rest : List ℕ) (out : List (List ℕ)) (blank : Bool) → IsFirstByte (is_byte 62) rest None → are_blanks rest ≡ blank →
    ahead_ids out (ids_of (split 62 rest)) ≡ ids_of (split 62 value) → ids_of (split 62 value) ≡ cond blank (Some out) None
ids_end value rest out true f is so_far = sym so_far ∙ ap (ahead_ids out) (ap ids_of (no_cut rest f) ∙ last_ids rest true is) ∙ ap Some (append-nil out)
ids_end value rest out false f is so_far = sym so_far ∙ ap (ahead_ids out) (ap ids_of (no_cut rest f) ∙ last_ids rest false is)

pub some_out : (out : List (List ℕ)) → 0 < length out → some_ids (Some out) ≡ Some out
some_out [] h = absurd (omega arith)
some_out (id ∷ ids) h = refl

pub none_out : (out : List (List ℕ)) (blank : Bool) → length out ≡ 0 → some_ids (cond blank (Some out) None) ≡ None
none_out [] true h = refl
none_out [] false h = refl
none_out (id ∷ ids) blank h = absurd (omega arith)
