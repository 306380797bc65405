-- Levels of names are those that a separator splits.
use Rattle.std.proofs.Common.{◌≡◌, ℕ, ◌==◌, ◌&&◌, Bool, true, false, cond, List, [], ◌∷◌, length, refl, sym, ◌∙◌, ap, subst, le-leb, arith}
use Rattle.std.specs.List.{list_all, slice_split, onto_first}
use Rattle.mail_world.specs.Names.{is_level, separator}

-- whether the bytes of a name go on so that no level is empty; `is_open` says that the level of now has a byte
abbrev pub levels_go_on : Bool → List ℕ → Bool
levels_go_on is_open [] = is_open
levels_go_on is_open (b ∷ bytes) = cond (b == separator) (cond is_open (levels_go_on false bytes) false) (levels_go_on true bytes)

abbrev levels : List ℕ → List (List ℕ)
levels name = slice_split (λ b. b == separator) name

-- a level that has a byte
full : (b : ℕ) (bytes : List ℕ) → is_level (b ∷ bytes) ≡ true
full b bytes = le-leb 1 (length (b ∷ bytes)) (omega arith)

-- a byte that is put before a level that has one already
one_more : (a b : ℕ) (parts : List (List ℕ)) → list_all is_level (onto_first a (onto_first b parts)) ≡ list_all is_level (onto_first b parts)
one_more a b [] = refl
one_more a b (part ∷ parts) = ap (λ (level : Bool). level && list_all is_level parts) (full a (b ∷ part) ∙ sym (full b part))

same_bool : (b : Bool) (x y x' y' : Bool) → x ≡ x' → y ≡ y' → cond b x y ≡ cond b x' y'
same_bool true x y x' y' e f = e
same_bool false x y x' y' e f = f

split_at : (b : ℕ) (test : Bool) (rest : List (List ℕ)) → list_all is_level (cond test ([] ∷ rest) (onto_first b rest)) ≡ cond test false (list_all is_level (onto_first b rest))
split_at b true rest = refl
split_at b false rest = refl

split_open : (a b : ℕ) (test : Bool) (rest : List (List ℕ)) → list_all is_level (onto_first a (cond test ([] ∷ rest) (onto_first b rest))) ≡ cond test (list_all is_level rest) (list_all is_level (onto_first b rest))
split_open a b true rest = refl
split_open a b false rest = one_more a b rest

-- in a level that isn't open, and in one that is
both : (name : List ℕ) → (list_all is_level (levels name) ≡ levels_go_on false name) × ((a : ℕ) → list_all is_level (onto_first a (levels name)) ≡ levels_go_on true name)
both [] = (refl, λ a. refl)
both (b ∷ name) =
    let rest = both name in (
      split_at b (b == separator) (levels name) ∙ same_bool (b == separator) _ _ _ _ refl (rest.1 b),
      λ a. split_open a b (b == separator) (levels name) ∙ same_bool (b == separator) _ _ _ _ rest.0 (rest.1 b),
    )

pub levels_are_full : (name : List ℕ) → list_all is_level (slice_split (λ b. b == separator) name) ≡ levels_go_on false name
levels_are_full name = (both name).0

-- a separator where no level is open
pub closed_at : (name rest : List ℕ) (b : ℕ) (is_open : Bool) → name ≡ b ∷ rest → b ≡ separator → is_open ≡ false → levels_go_on is_open name ≡ false
closed_at name rest b is_open n e o =
    subst (λ (l : List ℕ). levels_go_on is_open l ≡ false) (sym n)
    (subst (λ (x : ℕ). levels_go_on is_open (x ∷ rest) ≡ false) (sym e)
    (subst (λ (p : Bool). levels_go_on p (separator ∷ rest) ≡ false) (sym o) refl))
