-- One place of a value after another.
use Rattle.std.proofs.Common.{◌≡◌, true, false, List, [], ◌∷◌, ◌++◌, Option, Some, None, refl, sym, ◌∙◌, ap}
use Rattle.std.proofs.lemmas.List.{append-nil, append_assoc}
use Rattle.mime_tree.specs.declared.values.Item.{Item}
use Rattle.mime_tree.specs.declared.values.Item.TheVariants.{GroupEnd}
use Rattle.address_grammar.specs.declared.pieces.Piece.{Piece}
use Rattle.address_grammar.specs.declared.places.Ending.{Ending}
use Rattle.address_grammar.specs.declared.places.Ending.TheVariants.{AtComma, AtColon, AtSemicolon, AtEnd}
use Rattle.address_grammar.specs.declared.items.Within.{Within}
use Rattle.address_grammar.specs.declared.items.Within.TheVariants.{NoGroup, InGroup, BehindGroup, Nothing}
use Rattle.address_grammar.specs.Places.{Place, is_last}
use Rattle.address_grammar.specs.Places.Place.{place}
use Rattle.address_grammar.specs.Lists.{then_items, address_or_none, group_begun, nothing, behind_group}
use Rattle.address_grammar.specs.Steps.{ahead_items, Appends, next_of, given, left_items, is_nothing, IsFound}

then_none : (v : Option (List Item)) → then_items v (Some []) ≡ v
then_none None = refl
then_none (Some items) = ap Some (append-nil items)

then_assoc : (v w x : Option (List Item)) → then_items v (then_items w x) ≡ then_items (then_items v w) x
then_assoc None w x = refl
then_assoc (Some a) None x = refl
then_assoc (Some a) (Some b) None = refl
then_assoc (Some a) (Some b) (Some c) = ap Some (sym (append_assoc a b c))

pub no_next : (within : Within) (ps : List Piece) (ending : Ending) (rest : List Place) → is_nothing within ≡ false → next_of within ending ≡ None → left_items within (place ps ending ∷ rest) ≡ None
no_next NoGroup ps AtComma rest going e = absurd (cc)
no_next NoGroup ps AtColon rest going e = absurd (cc)
no_next NoGroup ps AtSemicolon rest going e = refl
no_next NoGroup ps AtEnd rest going e = absurd (cc)
no_next InGroup ps AtComma rest going e = absurd (cc)
no_next InGroup ps AtColon rest going e = refl
no_next InGroup ps AtSemicolon rest going e = absurd (cc)
no_next InGroup ps AtEnd rest going e = refl
no_next BehindGroup ps AtComma rest going e = absurd (cc)
no_next BehindGroup ps AtColon rest going e = refl
no_next BehindGroup ps AtSemicolon rest going e = refl
no_next BehindGroup ps AtEnd rest going e = absurd (cc)
no_next Nothing ps ending rest going e = absurd (cc)

-- What a place gives, and what is left behind it.
pub here_and_left : (within next : Within) (ps : List Piece) (ending : Ending) (rest : List Place) → next_of within ending ≡ Some next →
    left_items within (place ps ending ∷ rest) ≡ then_items (given within ending ps) (left_items next rest)
here_and_left NoGroup next ps AtComma rest e = let n : NoGroup ≡ next = cc in ap (λ w. then_items (address_or_none ps) (left_items w rest)) n
here_and_left NoGroup next ps AtColon rest e = let n : InGroup ≡ next = cc in ap (λ w. then_items (group_begun ps) (left_items w rest)) n
here_and_left NoGroup next ps AtSemicolon rest e = absurd (cc)
here_and_left NoGroup next ps AtEnd rest e =
    let n : Nothing ≡ next = cc in sym (then_none (address_or_none ps)) ∙ ap (λ w. then_items (address_or_none ps) (left_items w rest)) n
here_and_left InGroup next ps AtComma rest e = let n : InGroup ≡ next = cc in ap (λ w. then_items (address_or_none ps) (left_items w rest)) n
here_and_left InGroup next ps AtColon rest e = absurd (cc)
here_and_left InGroup next ps AtSemicolon rest e =
    let n : BehindGroup ≡ next = cc in
    then_assoc (address_or_none ps) (Some (GroupEnd ∷ [])) (behind_group rest) ∙ ap (λ w. then_items (given InGroup AtSemicolon ps) (left_items w rest)) n
here_and_left InGroup next ps AtEnd rest e = absurd (cc)
here_and_left BehindGroup next ps AtComma rest e = let n : NoGroup ≡ next = cc in ap (λ w. then_items (nothing ps) (left_items w rest)) n
here_and_left BehindGroup next ps AtColon rest e = absurd (cc)
here_and_left BehindGroup next ps AtSemicolon rest e = absurd (cc)
here_and_left BehindGroup next ps AtEnd rest e = let n : Nothing ≡ next = cc in sym (then_none (nothing ps)) ∙ ap (λ w. then_items (nothing ps) (left_items w rest)) n
here_and_left Nothing next ps ending rest e = absurd (cc)

last_so : (within next : Within) (ending : Ending) → next_of within ending ≡ Some next → is_last ending ≡ is_nothing next
last_so NoGroup next AtComma e = let n : NoGroup ≡ next = cc in ap is_nothing n
last_so NoGroup next AtColon e = let n : InGroup ≡ next = cc in ap is_nothing n
last_so NoGroup next AtSemicolon e = absurd (cc)
last_so NoGroup next AtEnd e = let n : Nothing ≡ next = cc in ap is_nothing n
last_so InGroup next AtComma e = let n : InGroup ≡ next = cc in ap is_nothing n
last_so InGroup next AtColon e = absurd (cc)
last_so InGroup next AtSemicolon e = let n : BehindGroup ≡ next = cc in ap is_nothing n
last_so InGroup next AtEnd e = absurd (cc)
last_so BehindGroup next AtComma e = let n : NoGroup ≡ next = cc in ap is_nothing n
last_so BehindGroup next AtColon e = absurd (cc)
last_so BehindGroup next AtSemicolon e = absurd (cc)
last_so BehindGroup next AtEnd e = let n : Nothing ≡ next = cc in ap is_nothing n
last_so Nothing next ending e = absurd (cc)

ahead-then : (old after : List Item) (v w : Option (List Item)) → Appends old after v true → ahead_items old (then_items v w) ≡ ahead_items after w
ahead-then old after None w e = absurd (cc)
ahead-then old after (Some items) None e = refl
ahead-then old after (Some items) (Some more) e =
    let same : old ++ items ≡ after = cc in ap Some (sym (append_assoc old items more) ∙ ap (λ z. z ++ more) same)

ahead-none : (old after : List Item) (v w : Option (List Item)) → Appends old after v false → then_items v w ≡ None
ahead-none old after None w e = refl
ahead-none old after (Some items) w e = absurd (cc)

pub step_found : (old after : List Item) (within next : Within) (ps : List Piece) (ending : Ending) → next_of within ending ≡ Some next → Appends old after (given within ending ps) true →
    IsFound old after within next ps ending
step_found old after within next ps ending n a = record {
  same = λ rest. ap (ahead_items old) (here_and_left within next ps ending rest n) ∙ ahead-then old after (given within ending ps) (left_items next rest) a;
  last = last_so within next ending n;
}

pub step_refused : (old after : List Item) (within next : Within) (ps : List Piece) (ending : Ending) → next_of within ending ≡ Some next → Appends old after (given within ending ps) false →
    (rest : List Place) → left_items within (place ps ending ∷ rest) ≡ None
step_refused old after within next ps ending n a rest =
    here_and_left within next ps ending rest n ∙ ahead-none old after (given within ending ps) (left_items next rest) a
