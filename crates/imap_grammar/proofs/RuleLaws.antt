-- The rules that lists are made of take bytes.
use Rattle.std.proofs.Common.{◌≡◌, ℕ, zero, suc, ◌+◌, ◌<◌, ◌≤◌, Bool, true, false, cond, List, [], ◌∷◌, ◌++◌, length, take, drop, refl, arith, Option, Some, None}
use Rattle.std.specs.Prelude.{option_map, nat_le, ◌==◌}
use Rattle.std.proofs.lemmas.List.{length-drop}
use Rattle.mail_text.specs.Texts.{front, behind}
use Rattle.mail_text.specs.Decimals.{decimal_value}
use Rattle.mail_text.specs.Case.{is_same}
use Rattle.imap_grammar.specs.declared.classes.Class.{Class}
use Rattle.imap_grammar.specs.declared.classes.Class.TheVariants.{Atom, Digit, Word}
use Rattle.imap_grammar.specs.Classes.{is_in}
use Rattle.imap_grammar.specs.Readings.{Outcome, Reading, and_then, ◌>>=◌, byte, begun, pure, nothing, sees, after, counted}
use Rattle.imap_grammar.specs.Strings.{some, number, number32, modseq, within as bounded, closing, quoted, literal, string, string_or}
use Rattle.imap_grammar.specs.Spellings.{unescaped}
use Rattle.imap_grammar.specs.Words.{named, keyword, word}
use Rattle.imap_grammar.specs.Lists.{separated_from, separated, listed}
use Rattle.imap_grammar.specs.Sets.{bound, range, seq_set}
use Rattle.imap_grammar.specs.Flags.{system_flags, keyword_flag, flag}
use Rattle.imap_grammar.specs.Mailboxes.{status_items}
use Rattle.imap_grammar.proofs.ListLaws.{Under, Keeps, Takes, after_short}

pub wider : {A : Type 0} (o : Outcome A) (n m : ℕ) → n ≤ m → Under n o → Under m o
wider None n m h u = tt
wider (Some r) n m h u = omega (arith, h, u)

pub bind : {A B : Type 0} (f : A → Reading B) (o : Outcome A) (n m : ℕ) → Under n o → ((a : A) (rest : List ℕ) → length rest < n → Under m (f a rest)) → Under m (and_then o f)
bind f None n m u h = tt
bind f (Some r) n m u h = h r.0 r.1 u

pub one_of : {A : Type 0} (n : ℕ) (seen : Bool) (x y : Outcome A) → Under n x → Under n y → Under n (cond seen x y)
one_of n true x y ux uy = ux
one_of n false x y ux uy = uy

where_true : {A : Type 0} (n : ℕ) (is : Bool) (x : Outcome A) → (is ≡ true → Under n x) → Under n (cond is x None)
where_true n true x h = h refl
where_true n false x h = tt

pub mapped : {X A : Type 0} (n : ℕ) (o : Option X) (f : X → A × List ℕ) → ((x : X) → length (f x).1 < n) → Under n (option_map f o)
mapped n None f h = tt
mapped n (Some x) f h = h x

-- Rules that are put together.
pub keeps : {A : Type 0} {p : Reading A} → Takes p → Keeps p
keeps {p = p} t = record { kept = λ text. wider (p text) (length text) (suc (length text)) (omega arith) (t.less text) }

pub keeps_on : {A B : Type 0} {p : Reading A} {f : A → Reading B} → Keeps p → ((a : A) → Keeps (f a)) → Keeps (p >>= f)
keeps_on {p = p} {f = f} k ks = record { kept = λ text. bind f (p text) (suc (length text)) (suc (length text)) (k.kept text) (λ a rest h. wider (f a rest) (suc (length rest)) (suc (length text)) (omega (arith, h)) ((ks a).kept rest)) }

pub takes_on : {A B : Type 0} {p : Reading A} {f : A → Reading B} → Takes p → ((a : A) → Keeps (f a)) → Takes (p >>= f)
takes_on {p = p} {f = f} t ks = record { less = λ text. bind f (p text) (length text) (length text) (t.less text) (λ a rest h. wider (f a rest) (suc (length rest)) (length text) (omega (arith, h)) ((ks a).kept rest)) }

pub takes_later : {A B : Type 0} {p : Reading A} {f : A → Reading B} → Keeps p → ((a : A) → Takes (f a)) → Takes (p >>= f)
takes_later {p = p} {f = f} k ts = record { less = λ text. bind f (p text) (suc (length text)) (length text) (k.kept text) (λ a rest h. wider (f a rest) (length rest) (length text) (omega (arith, h)) ((ts a).less rest)) }

pub begun_takes : {A : Type 0} (b : ℕ) {p q : Reading A} → Takes p → Takes q → Takes (begun b p q)
begun_takes b {p = p} {q = q} tp tq = record { less = λ text. one_of (length text) (sees b text) (p text) (q text) (tp.less text) (tq.less text) }

pub begun_keeps : {A : Type 0} (b : ℕ) {p q : Reading A} → Keeps p → Keeps q → Keeps (begun b p q)
begun_keeps b {p = p} {q = q} kp kq = record { kept = λ text. one_of (suc (length text)) (sees b text) (p text) (q text) (kp.kept text) (kq.kept text) }

pub pure_keeps : {A : Type 0} (a : A) → Keeps (pure a)
pure_keeps a = record { kept = λ text. omega arith }

pub nothing_keeps : {A : Type 0} → Keeps (nothing {A = A})
nothing_keeps = record { kept = λ text. tt }

byte_less : (b : ℕ) (text : List ℕ) → Under (length text) (byte b text)
unfolding byte
byte_less b [] = tt
byte_less b (c ∷ cs) = one_of (length (c ∷ cs)) (c == b) (Some (tt, cs)) None (omega arith) tt

pub byte_takes : (b : ℕ) → Takes (byte b)
byte_takes b = record { less = byte_less b }

-- Runs of bytes.
both_long : (is : Bool) (c : ℕ) (cs f b : List ℕ) → length f + length b ≡ length cs → length (cond is (c ∷ f) []) + length (cond is b (c ∷ cs)) ≡ length (c ∷ cs)
both_long true c cs f b h = omega (arith, h)
both_long false c cs f b h = omega arith

pub front_behind : (test : ℕ → Bool) (text : List ℕ) → length (front test text) + length (behind test text) ≡ length text
front_behind test [] = omega arith
front_behind test (c ∷ cs) = both_long (test c) c cs (front test cs) (behind test cs) (front_behind test cs)

some_is : (front rest : List ℕ) (n : ℕ) → length front + length rest ≡ n → nat_le 1 (length front) ≡ true → length rest < n
some_is [] rest n e is = absurd (let no : false ≡ true = is in cc)
some_is (c ∷ cs) rest n e is = omega (arith, e)

some_less : (class : Class) (text : List ℕ) → Under (length text) (some class text)
unfolding some
some_less class text = where_true (length text) (nat_le 1 (length (front (is_in class) text))) (Some (front (is_in class) text, behind (is_in class) text)) (some_is (front (is_in class) text) (behind (is_in class) text) (length text) (front_behind (is_in class) text))

pub some_takes : (class : Class) → Takes (some class)
some_takes class = record { less = some_less class }

digits_less : (low high : ℕ) (digits rest : List ℕ) (n : ℕ) → length digits + length rest ≡ n → Under n (option_map {U = ℕ × List ℕ} (λ v. (v, rest)) (bounded low high (decimal_value digits)))
digits_less low high [] rest n e = tt
digits_less low high (c ∷ cs) rest n e = mapped n (bounded low high (decimal_value (c ∷ cs))) (λ v. (v, rest)) (λ v. omega (arith, e))

number_less : (low high : ℕ) (text : List ℕ) → Under (length text) (number low high text)
unfolding number
number_less low high text = digits_less low high (front (is_in Digit) text) (behind (is_in Digit) text) (length text) (front_behind (is_in Digit) text)

pub number_takes : (low high : ℕ) → Takes (number low high)
number_takes low high = record { less = number_less low high }

pub number32_takes : (low : ℕ) → Takes (number32 low)
unfolding number32
number32_takes low = number_takes low 4_294_967_295

pub modseq_takes : (low : ℕ) → Takes (modseq low)
unfolding modseq
modseq_takes low = number_takes low 18_446_744_073_709_551_614

named_less : {A : Type 0} (table : List (List ℕ × A)) → named table [] ≡ None → (name rest : List ℕ) (n : ℕ) → length name + length rest ≡ n → Under n (option_map {U = A × List ℕ} (λ a. (a, rest)) (named table name))
named_less table none [] rest n e = rw none tt
named_less table none (c ∷ cs) rest n e = mapped n (named table (c ∷ cs)) (λ a. (a, rest)) (λ a. omega (arith, e))

keyword_less : {A : Type 0} (table : List (List ℕ × A)) → named table [] ≡ None → (text : List ℕ) → Under (length text) (keyword table text)
unfolding keyword
keyword_less table none text = named_less table none (front (is_in Word) text) (behind (is_in Word) text) (length text) (front_behind (is_in Word) text)

pub keyword_takes : {A : Type 0} (table : List (List ℕ × A)) → named table [] ≡ None → Takes (keyword table)
keyword_takes table none = record { less = keyword_less table none }

word_kept : (name text : List ℕ) → Under (suc (length text)) (word name text)
unfolding word
word_kept name text = let e = front_behind (is_in Word) text in where_true (suc (length text)) (is_same (front (is_in Word) text) name) (Some (tt, behind (is_in Word) text)) (λ is. omega (arith, e))

pub word_keeps : (name : List ℕ) → Keeps (word name)
word_keeps name = record { kept = word_kept name }

pub dropped : (n : ℕ) (text : List ℕ) → length (drop n text) < suc (length text)
dropped n text = let e = length-drop n text in omega (arith, e)

-- Strings.
closed_keeps : Keeps (λ text. option_map {U = List ℕ × List ℕ} (λ n. (unescaped (take n text), drop (n + 1) text)) (closing false text))
closed_keeps = record { kept = λ text. mapped (suc (length text)) (closing false text) (λ n. (unescaped (take n text), drop (n + 1) text)) (λ n. dropped (n + 1) text) }

pub quoted_takes : Takes quoted
unfolding quoted
quoted_takes = takes_on (byte_takes 34) (λ _. closed_keeps)

counted_kept : (n : ℕ) (text : List ℕ) → Under (suc (length text)) (counted n text)
unfolding counted
counted_kept n text = where_true (suc (length text)) (nat_le n (length text)) (Some (take n text, drop n text)) (λ is. dropped n text)

literal_takes : Takes literal
unfolding literal
literal_takes =
    takes_on (byte_takes 123)
    (λ _. keeps_on (keeps (number_takes 0 18_446_744_073_709_551_615))
    (λ n. keeps_on (keeps (byte_takes 125))
    (λ _. keeps_on (keeps (byte_takes 13))
    (λ _. keeps_on (keeps (byte_takes 10)) (λ _. record { kept = counted_kept n })))))

pub string_takes : Takes string
unfolding string
string_takes = begun_takes 34 quoted_takes literal_takes

pub string_or_takes : (class : Class) → Takes (string_or class)
unfolding string_or
string_or_takes class = begun_takes 34 quoted_takes (begun_takes 123 literal_takes (some_takes class))

-- Lists.
separated_less : {A : Type 0} (item : Reading A) → Takes item → (between turns : ℕ) (found : List A) (text : List ℕ) → Under (length text) (separated_from between item turns found text)
unfolding separated_from
separated_less item t between zero found text = tt
separated_less item t between (suc turns) found text =
    bind _ (item text) (length text) (length text) (t.less text)
    (λ a rest h.
    let short = after_short between rest in
    one_of (length text) (sees between rest) (separated_from between item turns (found ++ a ∷ []) (after between rest)) (Some (found ++ a ∷ [], rest))
    (wider (separated_from between item turns (found ++ a ∷ []) (after between rest)) (length (after between rest)) (length text) (omega (arith, h, short)) (separated_less item t between turns (found ++ a ∷ []) (after between rest))) h)

pub separated_takes : {A : Type 0} (between : ℕ) {item : Reading A} → Takes item → Takes (separated between item)
separated_takes between {item = item} t = record { less = λ text. separated_less item t between (length text) [] text }

pub listed_takes : {A : Type 0} {item : Reading A} → Takes item → Takes (listed item)
listed_takes t = takes_on (byte_takes 40) (λ _. keeps_on (keeps (separated_takes 32 t)) (λ xs. keeps_on (keeps (byte_takes 41)) (λ _. pure_keeps xs)))

-- Sets and flags.
bound_takes : Takes bound
unfolding bound
bound_takes = begun_takes 42 (takes_on (byte_takes 42) (λ _. pure_keeps None)) (takes_on (number32_takes 1) (λ n. pure_keeps (Some n)))

pub range_takes : Takes range
unfolding range
range_takes = takes_on bound_takes (λ first. begun_keeps 58 (keeps (takes_on (byte_takes 58) (λ _. keeps_on (keeps bound_takes) (λ last. pure_keeps (first, last))))) (pure_keeps (first, first)))

pub seq_set_takes : Takes seq_set
unfolding seq_set
seq_set_takes = takes_on (separated_takes 44 range_takes) (λ ranges. pure_keeps _)

pub keyword_flag_takes : Takes keyword_flag
unfolding keyword_flag
keyword_flag_takes = takes_on (some_takes Atom) (λ name. pure_keeps _)

pub flag_takes : Takes flag
unfolding flag
flag_takes = begun_takes 92 (takes_on (byte_takes 92) (λ _. keeps (keyword_takes system_flags refl))) keyword_flag_takes

pub status_takes : Takes (keyword status_items)
status_takes = keyword_takes status_items refl
