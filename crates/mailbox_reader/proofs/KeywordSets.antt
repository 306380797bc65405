-- The keywords that messages have, as a set of words.
use Rattle.std.proofs.Common.{ℕ, ◌≡◌, ◌&&◌, ◌||◌, ◌==◌, nat_eq, Bool, true, false, not, List, [], ◌∷◌, length, refl, sym, ap, ◌∙◌}
use Rattle.std.specs.Prelude.{codes, nat_le}
use Rattle.std.specs.List.{AllByRecursion, list_any, list_all}
use Rattle.std.specs.List.Sorted.{IsStrictlySortedBy}
use Rattle.std.specs.declared.cmp.Ordering.{Ordering}
use Rattle.std.specs.declared.cmp.Ordering.TheVariants.{Less, Equal, Greater}
use Rattle.std.specs.Ordering.{nat_cmp, is_eq, match_ordering}
use Rattle.std.specs.Char.{to_ascii_lowercase}
use Rattle.std.specs.Cmp.Lexicographic.{slice_cmp, pointwise, bytes_decides}
use Rattle.std.specs.BTreeSet.{insert_key}
use Rattle.std.proofs.Math.Bool.{or_assoc}
use Rattle.std.proofs.lemmas.Bool.{true≢false, eqb-true, eq-eqb, and_parts}
use Rattle.std.proofs.lemmas.Cmp.{nat_list_cmp_total}
use Rattle.std.proofs.lemmas.Map.Lookups.{btree_set_from_contains, exact_bytes}
use Rattle.std.proofs.lemmas.Map.Text.{is_eq-slice_cmp}
use Rattle.imap_grammar.specs.declared.flags.Flag.{Flag}
use Rattle.imap_grammar.specs.declared.flags.Flag.TheVariants.{Answered, Flagged, Deleted, Seen, Draft, Keyword}
use Rattle.imap_grammar.specs.Classes.{is_atom_byte}
use Rattle.imap_grammar.specs.Flags.{flag_text}
use Rattle.mail_world.specs.Names.{same_name}
use Rattle.mail_world.specs.Flags.{is_flag, same_flag, has_flag}
use Rattle.mail_world.specs.Summaries.{placed_by, with_word, with_keywords}
use Rattle.mail_stands.specs.Facts.{has_flag_named}
use Rattle.mailbox_reader.specs.FlagRows.{has_word, is_keyword}
use Rattle.mailbox_reader.specs.Telling.{system_flags}
use Rattle.mailbox_reader.proofs.Words.{any_inserted, same_bool, sorted_inserted}

abbrev Sorted : List (List ℕ) → Type 0
Sorted words = IsStrictlySortedBy (slice_cmp nat_cmp) words

-- ---- a word at its place

with_word_is : (word : List ℕ) (words : List (List ℕ)) → with_word word words ≡ insert_key (slice_cmp nat_cmp) words word
with_word_is word [] = refl
with_word_is word (first ∷ words) = by (slice_cmp nat_cmp word first) (with_word_is word words)
  where
    by : (o : Ordering) → with_word word words ≡ insert_key (slice_cmp nat_cmp) words word
        → placed_by o word first words (with_word word words) ≡ match_ordering o (word ∷ first ∷ words) (first ∷ words) (first ∷ insert_key (slice_cmp nat_cmp) words word)
    by Less rest = refl
    by Equal rest = refl
    by Greater rest = ap (λ l. first ∷ l) rest

with_sorted : (word : List ℕ) (words : List (List ℕ)) → Sorted words → Sorted (with_word word words)
with_sorted word words order = rw (with_word_is word words) (sorted_inserted (slice_cmp nat_cmp) nat_list_cmp_total words word order)

with_has : (q word : List ℕ) (words : List (List ℕ)) → has_word q (with_word word words) ≡ (same_name word q || has_word q words)
with_has q word words =
    ap (has_word q) (with_word_is word words) ∙ any_inserted (slice_cmp nat_cmp) (λ w. same_name w q) (λ x y e. ap (λ w. same_name w q) (exact_bytes x y e)) words word

-- ---- the keywords of flags

abbrev pub is_word_of : List ℕ → Flag → Bool
is_word_of q (Keyword name) = same_name name q
is_word_of q flag = false

pub keywords_sorted : (flags : List Flag) (words : List (List ℕ)) → Sorted words → Sorted (with_keywords flags words)
keywords_sorted [] words order = order
keywords_sorted (Answered ∷ flags) words order = keywords_sorted flags words order
keywords_sorted (Flagged ∷ flags) words order = keywords_sorted flags words order
keywords_sorted (Deleted ∷ flags) words order = keywords_sorted flags words order
keywords_sorted (Seen ∷ flags) words order = keywords_sorted flags words order
keywords_sorted (Draft ∷ flags) words order = keywords_sorted flags words order
keywords_sorted (Keyword name ∷ flags) words order = with_sorted name (with_keywords flags words) (keywords_sorted flags words order)

pub keywords_has : (q : List ℕ) (flags : List Flag) (words : List (List ℕ)) → has_word q (with_keywords flags words) ≡ (list_any (is_word_of q) flags || has_word q words)
keywords_has q [] words = refl
keywords_has q (Answered ∷ flags) words = keywords_has q flags words
keywords_has q (Flagged ∷ flags) words = keywords_has q flags words
keywords_has q (Deleted ∷ flags) words = keywords_has q flags words
keywords_has q (Seen ∷ flags) words = keywords_has q flags words
keywords_has q (Draft ∷ flags) words = keywords_has q flags words
keywords_has q (Keyword name ∷ flags) words =
    with_has q name (with_keywords flags words) ∙ (ap (λ b. same_name name q || b) (keywords_has q flags words) ∙ sym (or_assoc (same_name name q) (list_any (is_word_of q) flags) (has_word q words)))

-- ---- keywords begin with no backslash

no_backslash : is_atom_byte 92 ≡ false
unfolding is_atom_byte
no_backslash = refl

starts : (c : ℕ) (rest : List ℕ) → is_flag (Keyword (c ∷ rest)) ≡ true → is_atom_byte c ≡ true
starts c rest e =
    let all = and_parts (nat_le 1 (length (c ∷ rest))) (list_all (λ b. is_atom_byte b && (to_ascii_lowercase b == b)) (c ∷ rest)) e in
    (and_parts (is_atom_byte c) (to_ascii_lowercase c == c) (and_parts (is_atom_byte c && (to_ascii_lowercase c == c)) (list_all (λ b. is_atom_byte b && (to_ascii_lowercase b == b)) rest) all.1).0).0

plain : (name : List ℕ) → is_flag (Keyword name) ≡ true → is_keyword name ≡ true
plain [] e = refl
plain (c ∷ rest) e = by (c == 92) refl
  where
    by : (b : Bool) → (c == 92) ≡ b → not b ≡ true
    by false q = refl
    by true q = absurd (true≢false (sym (starts c rest e) ∙ (ap is_atom_byte (eqb-true c 92 q) ∙ no_backslash)))

system : (q rest : List ℕ) → false ≡ (is_keyword q && same_name (92 ∷ rest) q)
system [] rest = refl
system (b ∷ bytes) rest = by (b == 92) (92 == b) refl refl
  where
    and_false : (b : Bool) → (b && false) ≡ false
    and_false true = refl
    and_false false = refl

    turned : (92 == b) ≡ true → (b == 92) ≡ false → ⊥
    turned s d = true≢false (sym (eq-eqb b 92 (sym (eqb-true 92 b s))) ∙ d)

    by : (c d : Bool) → (b == 92) ≡ c → (92 == b) ≡ d → false ≡ (not c && (d && pointwise nat_eq rest bytes))
    by true d e f = refl
    by false false e f = refl
    by false true e f = absurd (turned f e)

-- a legal flag is the keyword of a word that begins with no backslash, and that it is written as
word_of : (q : List ℕ) (flag : Flag) → is_flag flag ≡ true → is_word_of q flag ≡ (is_keyword q && same_name (flag_text flag) q)
word_of q (Keyword name) e = by (same_name name q) refl
  where
    and_false : (b : Bool) → (b && false) ≡ false
    and_false true = refl
    and_false false = refl

    by : (b : Bool) → same_name name q ≡ b → b ≡ (is_keyword q && b)
    by false s = sym (and_false (is_keyword q))
    by true s = sym (ap (λ b. b && true) (ap is_keyword (sym ((bytes_decides name q).0 s)) ∙ plain name e))
word_of q Answered e = system q (codes "Answered")
word_of q Flagged e = system q (codes "Flagged")
word_of q Deleted e = system q (codes "Deleted")
word_of q Seen e = system q (codes "Seen")
word_of q Draft e = system q (codes "Draft")

and_or : (k a b : Bool) → ((k && a) || (k && b)) ≡ (k && (a || b))
and_or true a b = refl
and_or false a b = refl

pub words_named : (q : List ℕ) (flags : List Flag) → list_all is_flag flags ≡ true → list_any (is_word_of q) flags ≡ (is_keyword q && has_flag_named q flags)
words_named q [] all = none (is_keyword q)
  where
    none : (b : Bool) → false ≡ (b && false)
    none true = refl
    none false = refl
words_named q (flag ∷ flags) all =
    let parts = and_parts (is_flag flag) (list_all is_flag flags) all in
    ap (λ b. b || list_any (is_word_of q) flags) (word_of q flag parts.0)
    ∙ (ap (λ b. (is_keyword q && same_name (flag_text flag) q) || b) (words_named q flags parts.1)
    ∙ and_or (is_keyword q) (same_name (flag_text flag) q) (has_flag_named q flags))

-- ---- flags of the standard, which are written with a backslash

not_written : (name rest : List ℕ) → is_flag (Keyword name) ≡ true → false ≡ same_name name (92 ∷ rest)
not_written name rest e = by (same_name name (92 ∷ rest)) refl
  where
    by : (b : Bool) → same_name name (92 ∷ rest) ≡ b → false ≡ b
    by false s = refl
    by true s = absurd (true≢false (sym (plain name e) ∙ ap is_keyword ((bytes_decides name (92 ∷ rest)).0 s)))

abbrev IsNamed : Flag → Type 0
IsNamed flag = (other : Flag) → is_flag other ≡ true → same_flag other flag ≡ same_name (flag_text other) (flag_text flag)

among_named : (flag : Flag) → IsNamed flag → (flags : List Flag) → list_all is_flag flags ≡ true → has_flag flag flags ≡ has_flag_named (flag_text flag) flags
among_named flag one [] all = refl
among_named flag one (other ∷ flags) all =
    let parts = and_parts (is_flag other) (list_all is_flag flags) all in
    ap (λ b. b || has_flag flag flags) (one other parts.0) ∙ ap (λ b. same_name (flag_text other) (flag_text flag) || b) (among_named flag one flags parts.1)

answered_one : IsNamed Answered
answered_one Answered e = refl
answered_one Flagged e = refl
answered_one Deleted e = refl
answered_one Seen e = refl
answered_one Draft e = refl
answered_one (Keyword name) e = not_written name (codes "Answered") e

flagged_one : IsNamed Flagged
flagged_one Answered e = refl
flagged_one Flagged e = refl
flagged_one Deleted e = refl
flagged_one Seen e = refl
flagged_one Draft e = refl
flagged_one (Keyword name) e = not_written name (codes "Flagged") e

deleted_one : IsNamed Deleted
deleted_one Answered e = refl
deleted_one Flagged e = refl
deleted_one Deleted e = refl
deleted_one Seen e = refl
deleted_one Draft e = refl
deleted_one (Keyword name) e = not_written name (codes "Deleted") e

seen_one : IsNamed Seen
seen_one Answered e = refl
seen_one Flagged e = refl
seen_one Deleted e = refl
seen_one Seen e = refl
seen_one Draft e = refl
seen_one (Keyword name) e = not_written name (codes "Seen") e

draft_one : IsNamed Draft
draft_one Answered e = refl
draft_one Flagged e = refl
draft_one Deleted e = refl
draft_one Seen e = refl
draft_one Draft e = refl
draft_one (Keyword name) e = not_written name (codes "Draft") e

-- A message has a flag of the standard where one of its flags is written so.
pub system_named : (flags : List Flag) → list_all is_flag flags ≡ true → AllByRecursion (λ flag. has_flag flag flags ≡ has_flag_named (flag_text flag) flags) system_flags
system_named flags all =
    (among_named Answered answered_one flags all, (among_named Flagged flagged_one flags all, (among_named Deleted deleted_one flags all, (among_named Seen seen_one flags all, (among_named Draft draft_one flags all, tt)))))

pub seen_named : (flags : List Flag) → list_all is_flag flags ≡ true → has_flag Seen flags ≡ has_flag_named (codes "\\Seen") flags
seen_named flags all = among_named Seen seen_one flags all

-- ---- two lists of words

same_flipped : (a b : List ℕ) → same_name a b ≡ same_name b a
same_flipped a b = same_bool (same_name a b) (same_name b a) (λ e. (bytes_decides b a).1 (sym ((bytes_decides a b).0 e))) (λ e. (bytes_decides a b).1 (sym ((bytes_decides b a).0 e)))

found_as : (q : List ℕ) (words : List (List ℕ)) → list_any (λ w. is_eq (slice_cmp nat_cmp q w)) words ≡ has_word q words
found_as q [] = refl
found_as q (word ∷ words) = ap (λ b. b || list_any (λ w. is_eq (slice_cmp nat_cmp q w)) words) (is_eq-slice_cmp q word ∙ same_flipped q word) ∙ ap (λ b. same_name word q || b) (found_as q words)

pub same_words : (a b : List (List ℕ)) → Sorted a → Sorted b → ((q : List ℕ) → has_word q a ≡ has_word q b) → a ≡ b
same_words a b up over same =
    btree_set_from_contains nat_list_cmp_total (record { keys = a }) (record { keys = b }) up over (λ q. found_as q a ∙ (same q ∙ sym (found_as q b))) exact_bytes
