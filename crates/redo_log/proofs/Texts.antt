-- The parts of a log's text can be told apart.
use Rattle.std.proofs.Common.{◌≡◌, ◌≢◌, ◌⊎◌, inl, inr, ⊎_elim, ℕ, ◌-◌, ◌<◌, ◌≤◌, ◌^◌, List, [], ◌∷◌, ◌++◌, length, get_or, take, drop, codes, refl, sym, ◌∙◌, ap, subst, arith, append_assoc, length-append, length-take, take-append-drop, Fits, w8, w64}
use Rattle.std.specs.Int.{from_be_bytes, to_be_bytes}
use Rattle.std.specs.List.{flat_map, AllByRecursion}
use Rattle.std.proofs.lemmas.Bool.{cases_lt}
use Rattle.std.proofs.lemmas.Nat.{from_be_bytes-to_be_bytes_8, be_bytes_8}
use Rattle.std.proofs.lemmas.List.{take_at, drop_at, append-nil, get_or-take, get_or_past, take_rest}
use Rattle.std.proofs.lemmas.Grind.{flat_map-append}
use Rattle.redo_log.specs.Text.{number_text, header, record_text, front, empty_text, BeginsNoRecord, IsLog, EndsAt}
use Rattle.disk_model.specs.Calls.{overwritten}

pub length-number : (number : ℕ) → length (number_text number) ≡ 8
unfolding number_text
length-number number = refl

number_back : (number : ℕ) → number < 2 ^ 64 → from_be_bytes w64 (number_text number) ≡ number
unfolding number_text
number_back number fits = from_be_bytes-to_be_bytes_8 number fits

-- two equal texts whose fronts are of one length have equal parts
same_parts : (a b c d : List ℕ) → length a ≡ length c → a ++ b ≡ c ++ d → (a ≡ c) × (b ≡ d)
same_parts a b c d size same = (
  sym (take_at a b (length a) refl) ∙ ap (λ (l : List ℕ). take (length a) l) same ∙ take_at c d (length a) (sym size),
  sym (drop_at a b (length a) refl) ∙ ap (λ (l : List ℕ). drop (length a) l) same ∙ drop_at c d (length a) (sym size),
)

pub same_number : (m n : ℕ) (a b : List ℕ) → m < 2 ^ 64 → n < 2 ^ 64 → number_text m ++ a ≡ number_text n ++ b → (m ≡ n) × (a ≡ b)
same_number m n a b fits fits' same =
    let parts = same_parts (number_text m) a (number_text n) b (length-number m ∙ sym (length-number n)) same in
    (sym (number_back m fits) ∙ ap (from_be_bytes w64) parts.0 ∙ number_back n fits', parts.1)

record_split : (payload rest : List ℕ) → record_text payload ++ rest ≡ 1 ∷ (number_text (length payload) ++ (payload ++ rest))
record_split payload rest = ap (λ (l : List ℕ). 1 ∷ l) (append_assoc (number_text (length payload)) payload rest)

pub same_record : (p q a b : List ℕ) → length p < 2 ^ 64 → length q < 2 ^ 64 → record_text p ++ a ≡ record_text q ++ b → (p ≡ q) × (a ≡ b)
same_record p q a b fits fits' same =
    let behind : number_text (length p) ++ (p ++ a) ≡ number_text (length q) ++ (q ++ b) = ap (λ (l : List ℕ). drop 1 l) (sym (record_split p a) ∙ same ∙ record_split q b) in
    let parts = same_number (length p) (length q) (p ++ a) (q ++ b) fits fits' behind in
    same_parts p a q b parts.0 parts.1

pub length-header : (format generation : ℕ) → length (header format generation) ≡ 17
unfolding header
length-header format generation = omega (arith, length-number generation)

pub same_header : (f g f' g' : ℕ) (a b : List ℕ) → header f g ++ a ≡ header f' g' ++ b → a ≡ b
same_header f g f' g' a b same = (same_parts (header f g) a (header f' g') b (length-header f g ∙ sym (length-header f' g')) same).1

same_head : (f g f' g' : ℕ) (a b : List ℕ) → g < 2 ^ 64 → g' < 2 ^ 64 → header f g ++ a ≡ header f' g' ++ b → (f ≡ f') × (g ≡ g')
unfolding header
same_head f g f' g' a b fits fits' same = (
  ap (λ (l : List ℕ). get_or l 8 0) same,
  (same_number g g' a b fits fits' (ap (λ (l : List ℕ). drop 9 l) same)).0,
)

-- records that end at a gate that isn't open are no others that end where no record begins and no closed gate stands
pub no_other : (payloads others : List (List ℕ)) (rest behind : List ℕ) (gate : ℕ)
    → AllByRecursion (λ payload. length payload < 2 ^ 64) payloads → AllByRecursion (λ payload. length payload < 2 ^ 64) others
    → BeginsNoRecord rest → ((x : ℕ) (xs : List ℕ) → rest ≡ x ∷ xs → x ≡ 1) → gate ≢ 1
    → flat_map record_text others ++ gate ∷ behind ≡ flat_map record_text payloads ++ rest → ⊥
no_other [] [] rest behind gate fit fit' none is_open closed same = closed (is_open gate behind (sym same))
no_other [] (p ∷ others) rest behind gate fit fit' none is_open closed same =
    none p (flat_map record_text others ++ gate ∷ behind) fit'.0 (sym same ∙ append_assoc (record_text p) (flat_map record_text others) (gate ∷ behind))
no_other (q ∷ payloads) [] rest behind gate fit fit' none is_open closed same = closed (cc)
no_other (q ∷ payloads) (p ∷ others) rest behind gate fit fit' none is_open closed same =
    let parts = same_record p q (flat_map record_text others ++ gate ∷ behind) (flat_map record_text payloads ++ rest) fit'.0 fit.0
    (sym (append_assoc (record_text p) (flat_map record_text others) (gate ∷ behind)) ∙ same ∙ append_assoc (record_text q) (flat_map record_text payloads) rest) in
    no_other payloads others rest behind gate fit.1 fit'.1 none is_open closed parts.1

pub front_more : (format generation : ℕ) (payloads : List (List ℕ)) (payload : List ℕ) → front format generation (payloads ++ payload ∷ []) ≡ front format generation payloads ++ record_text payload
unfolding front
front_more format generation payloads payload =
    ap (λ (l : List ℕ). header format generation ++ l) (flat_map-append record_text payloads (payload ∷ []) ∙ ap (λ (l : List ℕ). flat_map record_text payloads ++ l) (append-nil (record_text payload)))
    ∙ sym (append_assoc (header format generation) (flat_map record_text payloads) (record_text payload))

pub fit_more : (payloads : List (List ℕ)) (payload : List ℕ) → AllByRecursion (λ payload. length payload < 2 ^ 64) payloads → length payload < 2 ^ 64 → AllByRecursion (λ payload. length payload < 2 ^ 64) (payloads ++ payload ∷ [])
fit_more [] payload fit fits = (fits, tt)
fit_more (p ∷ payloads) payload fit fits = (fit.0, fit_more payloads payload fit.1 fits)

-- eight bytes are the text of the number that is read of them
front_eight : (bytes : List ℕ) → 8 ≤ length bytes → take 8 bytes ≡ get_or bytes 0 0 ∷ get_or bytes 1 0 ∷ get_or bytes 2 0 ∷ get_or bytes 3 0 ∷ get_or bytes 4 0 ∷ get_or bytes 5 0 ∷ get_or bytes 6 0 ∷ get_or bytes 7 0 ∷ []
front_eight (a ∷ b ∷ c ∷ d ∷ e ∷ f ∷ g ∷ h ∷ rest) long = refl
front_eight bytes long = absurd (omega arith)

small : (bytes : List ℕ) → ((i : ℕ) → Fits w8 (get_or bytes i 0)) → (i : ℕ) → get_or (take 8 bytes) i 0 < 256
small bytes fit i = ⊎_elim
    (λ (lt : i < 8). subst (λ (n : ℕ). n < 256) (sym (get_or-take 8 bytes i 0 lt)) (omega (arith, fit i)))
    (λ (le : 8 ≤ i). subst (λ (n : ℕ). n < 256) (sym (get_or_past (take 8 bytes) i 0 (omega (arith, length-take 8 bytes)))) (omega arith))
    (cases_lt i 8)

pub number_read : (bytes : List ℕ) (number : ℕ) → 8 ≤ length bytes → ((i : ℕ) → Fits w8 (get_or bytes i 0))
    → number ≡ from_be_bytes w64 (get_or bytes 0 0 ∷ get_or bytes 1 0 ∷ get_or bytes 2 0 ∷ get_or bytes 3 0 ∷ get_or bytes 4 0 ∷ get_or bytes 5 0 ∷ get_or bytes 6 0 ∷ get_or bytes 7 0 ∷ [])
    → bytes ≡ number_text number ++ take (length bytes - 8) (drop 8 bytes)
unfolding number_text
number_read bytes number long fit is =
    let eight : to_be_bytes w64 number ≡ take 8 bytes = be_bytes_8 (take 8 bytes) number (omega (arith, length-take 8 bytes)) (small bytes fit) (is ∙ ap (from_be_bytes w64) (sym (front_eight bytes long))) in
    sym (take-append-drop 8 bytes) ∙ ap (λ (l : List ℕ). l ++ drop 8 bytes) (sym eight) ∙ ap (λ (l : List ℕ). to_be_bytes w64 number ++ l) (sym (take_rest bytes 8))

-- a header is its letters, the format byte and a number
pub header_is : (format generation : ℕ) (rest : List ℕ) → header format generation ++ rest ≡ (1 ∷ codes "MAILROW") ++ format ∷ (number_text generation ++ rest)
unfolding header
header_is format generation rest = refl

pub header_long : (format generation : ℕ) (rest bytes : List ℕ) → bytes ≡ header format generation ++ rest → 17 ≤ length bytes
header_long format generation rest bytes is = omega (arith, ap length is, length-append (header format generation) rest, length-header format generation)

pub record_long : (payload rest bytes : List ℕ) → bytes ≡ record_text payload ++ rest → 9 ≤ length bytes
record_long payload rest bytes is =
    omega (arith, ap length is, length-append (record_text payload) rest, length-append (number_text (length payload)) payload, length-number (length payload))

-- a record is longer than what is there
pub too_long : (number : ℕ) (bytes behind : List ℕ) → number < 2 ^ 64 → length behind < number → drop 1 bytes ≡ number_text number ++ behind → BeginsNoRecord bytes
too_long number bytes behind fits short is payload rest fits' same =
    let parts = same_number number (length payload) behind (payload ++ rest) fits fits' (sym is ∙ ap (λ (l : List ℕ). drop 1 l) (same ∙ record_split payload rest)) in
    omega (arith, parts.0, ap length parts.1, length-append payload rest, short)

module _ (format generation : ℕ) (payloads : List (List ℕ)) (bytes records rest : List ℕ) (begins : bytes ≡ header format generation ++ records) (split : records ≡ flat_map record_text payloads ++ rest)
    (fit : AllByRecursion (λ payload. length payload < 2 ^ 64) payloads) where
  -- where no record and no closed gate stand behind the records, the bytes are no log
  pub not_log : BeginsNoRecord rest → ((x : ℕ) (xs : List ℕ) → rest ≡ x ∷ xs → x ≡ 1) → (f g : ℕ) (others : List (List ℕ)) → IsLog f g others bytes → ⊥
  unfolding front
  not_log none is_open f g others log =
      let same : flat_map record_text others ++ log.gate ∷ log.rest ≡ records = same_header f g format generation (flat_map record_text others ++ log.gate ∷ log.rest) records
      (sym (append_assoc (header f g) (flat_map record_text others) (log.gate ∷ log.rest)) ∙ sym log.split ∙ begins) in
      no_other payloads others rest log.rest log.gate fit log.lengths_fit none is_open log.closed (same ∙ split)

  -- and with a closed gate there they are one
  pub is_log : generation < 2 ^ 64 → (r : List ℕ) → r ≡ rest → 0 < length r → (get_or r 0 0 ≡ 1 → ⊥) → EndsAt format generation payloads (length bytes - length r) bytes
  unfolding front
  is_log fits [] e there closed = absurd (omega arith)
  is_log fits (gate ∷ behind) e there closed =
      let whole : bytes ≡ header format generation ++ flat_map record_text payloads ++ gate ∷ behind =
      begins ∙ ap (λ (l : List ℕ). header format generation ++ l) (split ∙ ap (λ (l : List ℕ). flat_map record_text payloads ++ l) (sym e)) ∙ sym (append_assoc (header format generation) (flat_map record_text payloads) (gate ∷ behind)) in
      record {
        text = record { generation_fits = fits; lengths_fit = fit; gate = gate; rest = behind; split = whole; closed = closed };
        place = omega (arith, ap length whole, length-append (header format generation ++ flat_map record_text payloads) (gate ∷ behind));
      }

pub shut : (r rest : List ℕ) → r ≡ rest → (length r ≡ 0) ⊎ (get_or r 0 0 ≡ 1) → (x : ℕ) (xs : List ℕ) → rest ≡ x ∷ xs → x ≡ 1
shut r rest e (inl none) x xs is = absurd (omega (arith, none, ap length e, ap length is))
shut r rest e (inr one) x xs is = sym (ap (λ (l : List ℕ). get_or l 0 0) (e ∙ is)) ∙ one

-- the text of a log without payloads, at the front of a file
pub empty_log : (format generation : ℕ) (file : List ℕ) → generation < 2 ^ 64 → IsLog format generation [] (overwritten 0 (empty_text format generation) file)
unfolding front
empty_log format generation file fits = record {
  generation_fits = fits;
  lengths_fit = tt;
  gate = 0;
  rest = drop (length (empty_text format generation)) file;
  split = ap (λ (n : ℕ). header format generation ++ 0 ∷ [] ++ drop n file) (omega arith)
      ∙ append_assoc (header format generation) (0 ∷ []) (drop (length (empty_text format generation)) file)
      ∙ ap (λ (l : List ℕ). l ++ 0 ∷ drop (length (empty_text format generation)) file) (sym (append-nil (header format generation)));
  closed = λ (e : 0 ≡ 1). omega (arith, e);
}

pub length-empty : (format generation : ℕ) → length (empty_text format generation) ≡ 18
length-empty format generation = omega (arith, length-append (header format generation) (0 ∷ []), length-header format generation)

pub not_begun : (bytes : List ℕ) → ((format generation : ℕ) (rest : List ℕ) → generation < 2 ^ 64 → bytes ≡ header format generation ++ rest → ⊥) → (format generation : ℕ) (payloads : List (List ℕ)) → IsLog format generation payloads bytes → ⊥
unfolding front
not_begun bytes none format generation payloads log =
    none format generation (flat_map record_text payloads ++ log.gate ∷ log.rest) log.generation_fits (log.split ∙ append_assoc (header format generation) (flat_map record_text payloads) (log.gate ∷ log.rest))

same_records : (payloads others : List (List ℕ)) (gate gate' : ℕ) (rest rest' : List ℕ)
    → AllByRecursion (λ payload. length payload < 2 ^ 64) payloads → AllByRecursion (λ payload. length payload < 2 ^ 64) others → gate ≢ 1 → gate' ≢ 1
    → flat_map record_text payloads ++ gate ∷ rest ≡ flat_map record_text others ++ gate' ∷ rest' → payloads ≡ others
same_records [] [] gate gate' rest rest' fit fit' closed closed' same = refl
same_records [] (q ∷ others) gate gate' rest rest' fit fit' closed closed' same = absurd (closed (cc))
same_records (p ∷ payloads) [] gate gate' rest rest' fit fit' closed closed' same = absurd (closed' (cc))
same_records (p ∷ payloads) (q ∷ others) gate gate' rest rest' fit fit' closed closed' same =
    let parts = same_record p q (flat_map record_text payloads ++ gate ∷ rest) (flat_map record_text others ++ gate' ∷ rest') fit.0 fit'.0
    (sym (append_assoc (record_text p) (flat_map record_text payloads) (gate ∷ rest)) ∙ same ∙ append_assoc (record_text q) (flat_map record_text others) (gate' ∷ rest')) in
    ap (λ (first : List ℕ). first ∷ payloads) parts.0 ∙ ap (λ (l : List (List ℕ)). q ∷ l) (same_records payloads others gate gate' rest rest' fit.1 fit'.1 closed closed' parts.1)

-- the text of a log says one thing
pub one_meaning : (f g f' g' : ℕ) (payloads others : List (List ℕ)) (bytes : List ℕ) → IsLog f g payloads bytes → IsLog f' g' others bytes → (f ≡ f') × (g ≡ g') × (payloads ≡ others)
unfolding front
one_meaning f g f' g' payloads others bytes log log' =
    let same : header f g ++ (flat_map record_text payloads ++ log.gate ∷ log.rest) ≡ header f' g' ++ (flat_map record_text others ++ log'.gate ∷ log'.rest) =
    sym (append_assoc (header f g) (flat_map record_text payloads) (log.gate ∷ log.rest)) ∙ sym log.split ∙ log'.split ∙ append_assoc (header f' g') (flat_map record_text others) (log'.gate ∷ log'.rest) in
    let heads = same_head f g f' g' (flat_map record_text payloads ++ log.gate ∷ log.rest) (flat_map record_text others ++ log'.gate ∷ log'.rest) log.generation_fits log'.generation_fits same in
    (heads.0, heads.1, same_records payloads others log.gate log'.gate log.rest log'.rest log.lengths_fit log'.lengths_fit log.closed log'.closed (same_header f g f' g' _ _ same))
