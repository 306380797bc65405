-- Rules that take bytes, and lists of what they read.
use Rattle.std.proofs.Common.{◌≡◌, ℕ, zero, suc, ◌<◌, ◌≤◌, Bool, true, false, cond, List, [], ◌∷◌, ◌++◌, length, drop, refl, sym, ap, ◌∙◌, arith, Some, None}
use Rattle.std.proofs.lemmas.List.{append_assoc, length-drop}
use Rattle.imap_grammar.specs.Readings.{Outcome, Reading, and_then, ◌>>=◌, ◌>>◌, byte, pure, sees, after}
use Rattle.imap_grammar.specs.Lists.{separated_from, separated, TurnsSuffice, IsOneOrMore, IsList}

-- Less is left than so many bytes.
abbrev pub Under : {A : Type 0} → ℕ → Outcome A → Type 0
Under n None = Unit {0}
Under n (Some r) = length r.1 < n

-- A rule that leaves no more than there was, and one that leaves less.
pub record Keeps {A : Type 0} (p : Reading A) : Type 0 where
  pub kept : (text : List ℕ) → Under (suc (length text)) (p text)

pub record Takes {A : Type 0} (p : Reading A) : Type 0 where
  pub less : (text : List ℕ) → Under (length text) (p text)

-- what stands behind a rule reads alike where it reads short texts alike
pub alike : {A B : Type 0} (f g : A → Reading B) (n : ℕ) (o : Outcome A) → Under n o → ((a : A) (rest : List ℕ) → length rest < n → f a rest ≡ g a rest) → and_then o f ≡ and_then o g
alike f g n None u h = refl
alike f g n (Some r) u h = h r.0 r.1 u

pub none_of_empty : {A B : Type 0} (o : Outcome A) (f : A → Reading B) → Under 0 o → and_then o f ≡ None
none_of_empty None f u = refl
none_of_empty (Some r) f u = absurd (omega (arith, u))

shorter : (seen : Bool) (c : ℕ) (cs : List ℕ) → length (cond seen cs (c ∷ cs)) ≤ length (c ∷ cs)
shorter true c cs = omega arith
shorter false c cs = omega arith

pub after_short : (b : ℕ) (text : List ℕ) → length (after b text) ≤ length text
unfolding after
after_short b [] = omega arith
after_short b (c ∷ cs) = shorter (sees b (c ∷ cs)) c cs

-- Any counts of turns do that are not below the length.
enough : {A : Type 0} (item : Reading A) → Takes item → (between n m : ℕ) (found : List A) (text : List ℕ) → length text ≤ n → length text ≤ m → separated_from between item n found text ≡ separated_from between item m found text
unfolding separated_from
enough item takes between zero zero found text hn hm = refl
enough item takes between zero (suc m) found [] hn hm = sym (none_of_empty (item []) _ (takes.less []))
enough item takes between zero (suc m) found (c ∷ cs) hn hm = absurd (omega (arith, hn))
enough item takes between (suc n) zero found [] hn hm = none_of_empty (item []) _ (takes.less [])
enough item takes between (suc n) zero found (c ∷ cs) hn hm = absurd (omega (arith, hm))
enough item takes between (suc n) (suc m) found text hn hm =
    alike _ _ (length text) (item text) (takes.less text)
    (λ a rest short.
    let left = after_short between rest in
    ap (λ y. cond (sees between rest) y (Some (found ++ a ∷ [], rest)))
    (enough item takes between n m (found ++ a ∷ []) (after between rest) (omega (arith, left, short, hn)) (omega (arith, left, short, hm))))

turns_suffice : {A : Type 0} {item : Reading A} → Takes item → TurnsSuffice item
turns_suffice {item = item} takes between turns text h = enough item takes between turns (length text) [] text h (omega arith)

-- one turn more, behind what was read
before_seen : {A : Type 0} (item : Reading A) (between n : ℕ) (before found : List A) (x : A) (rest : List ℕ) (seen : Bool) → ((more : List A) (text : List ℕ) → separated_from between item n (before ++ more) text ≡ and_then (separated_from between item n more text) (λ xs left. Some (before ++ xs, left)))
    → cond seen (separated_from between item n ((before ++ found) ++ x ∷ []) (after between rest)) (Some ((before ++ found) ++ x ∷ [], rest))
    ≡ and_then (cond seen (separated_from between item n (found ++ x ∷ []) (after between rest)) (Some (found ++ x ∷ [], rest))) (λ xs left. Some (before ++ xs, left))
before_seen item between n before found x rest true more = ap (λ xs. separated_from between item n xs (after between rest)) (append_assoc before found (x ∷ [])) ∙ more (found ++ x ∷ []) (after between rest)
before_seen item between n before found x rest false more = ap (λ xs. Some (xs, rest)) (append_assoc before found (x ∷ []))

-- one turn more
before_read : {A : Type 0} (item : Reading A) (between n : ℕ) (before found : List A) (o : Outcome A) → ((more : List A) (text : List ℕ) → separated_from between item n (before ++ more) text ≡ and_then (separated_from between item n more text) (λ xs rest. Some (before ++ xs, rest)))
    → and_then o (λ x rest. cond (sees between rest) (separated_from between item n ((before ++ found) ++ x ∷ []) (after between rest)) (Some ((before ++ found) ++ x ∷ [], rest)))
    ≡ and_then (and_then o (λ x rest. cond (sees between rest) (separated_from between item n (found ++ x ∷ []) (after between rest)) (Some (found ++ x ∷ [], rest)))) (λ xs rest. Some (before ++ xs, rest))
before_read item between n before found None more = refl
before_read item between n before found (Some r) more = before_seen item between n before found r.0 r.1 (sees between r.1) more

-- what was found before stands before what is found
found_before : {A : Type 0} (item : Reading A) (between n : ℕ) (before found : List A) (text : List ℕ) → separated_from between item n (before ++ found) text ≡ and_then (separated_from between item n found text) (λ xs rest. Some (before ++ xs, rest))
unfolding separated_from
found_before item between zero before found text = refl
found_before item between (suc n) before found text = before_read item between n before found (item text) (found_before item between n before)

-- a list from its first on, where the text behind the first is so
list_seen : {A : Type 0} (item : Reading A) → Takes item → (between n : ℕ) (x : A) (rest : List ℕ) (seen : Bool) → sees between rest ≡ seen → length rest ≤ n
    → cond seen (separated_from between item n (x ∷ []) (after between rest)) (Some (x ∷ [], rest))
    ≡ cond seen ((byte between >> (separated between item >>= (λ xs. pure (x ∷ xs)))) rest) (Some (x ∷ [], rest))
unfolding byte after
list_seen item takes between n x rest true is h =
    let short = after_short between rest in
    rw is (found_before item between n (x ∷ []) [] (drop 1 rest) ∙ ap (λ o. and_then o (λ xs left. Some (x ∷ xs, left))) (enough item takes between n (length (drop 1 rest)) [] (drop 1 rest) (let e = length-drop 1 rest in omega (arith, e, h)) (omega arith)))
list_seen item takes between n x rest false is h = refl

one_or_more : {A : Type 0} {item : Reading A} → Takes item → IsOneOrMore item
unfolding separated_from
one_or_more {item = item} takes between [] = sym (none_of_empty (item []) _ (takes.less []))
one_or_more {item = item} takes between (c ∷ cs) =
    alike _ _ (length (c ∷ cs)) (item (c ∷ cs)) (takes.less (c ∷ cs)) (λ x rest h. list_seen item takes between (length cs) x rest (sees between rest) refl (omega (arith, h)))

pub is_list : {A : Type 0} {item : Reading A} → Takes item → IsList item
is_list takes = (turns_suffice takes, one_or_more takes)
