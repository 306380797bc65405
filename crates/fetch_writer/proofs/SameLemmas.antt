-- Items are one where they are equal.
use Rattle.std.proofs.Common.{◌≡◌, ℕ, Bool, true, false, ◌&&◌, List, eqb, refl, ◌∙◌, ap}
use Rattle.std.specs.Prelude.{Option, Some, None}
use Rattle.std.specs.Cmp.Lexicographic.{pointwise_decides, bytes_decides}
use Rattle.std.proofs.lemmas.Bool.{and_from, eq-eqb, eqb-true}
use Rattle.imap_grammar.specs.declared.items.FetchItem.{FetchItem}
use Rattle.imap_grammar.specs.declared.items.FetchItem.TheVariants.{Body, BodyStructure, Envelope, Flags, InternalDate, Modseq, Rfc822, Rfc822Header, Rfc822Size, Rfc822Text, Uid, Part}
use Rattle.imap_grammar.specs.declared.items.Section.{Section}
use Rattle.imap_grammar.specs.declared.items.SectionPart.{SectionPart}
use Rattle.imap_grammar.specs.declared.items.SectionPart.TheVariants.{Whole, Mime, Header, Fields, Text}
use Rattle.fetch_writer.specs.Asked.{same_truth, same_bytes, same_names, same_part, same_section, same_bounds, same_item}
use Rattle.fetch_writer.specs.Laws.{SameItems}

truth_own : (b : Bool) → same_truth b b ≡ true
truth_own true = refl
truth_own false = refl

truth_one : (a b : Bool) → same_truth a b ≡ true → a ≡ b
truth_one true true h = refl
truth_one true false h = absurd (cc)
truth_one false true h = absurd (cc)
truth_one false false h = refl

and_both : (a b : Bool) → (a && b) ≡ true → (a ≡ true) × (b ≡ true)
and_both true b h = (refl, h)
and_both false b h = absurd (cc)

names_decide : (a b : List (List ℕ)) → (same_names a b ≡ true → a ≡ b) × (a ≡ b → same_names a b ≡ true)
names_decide = pointwise_decides bytes_decides

part_own : (part : SectionPart) → same_part part part ≡ true
part_own Whole = refl
part_own Mime = refl
part_own Header = refl
part_own (Fields names except) = and_from _ _ ((names_decide names names).1 refl) (truth_own except)
part_own Text = refl

fields_one : (a b : List (List ℕ)) (except but : Bool) → a ≡ b → except ≡ but → Fields a except ≡ Fields b but
fields_one a b except but e t = ap (λ names. Fields names except) e ∙ ap (λ x. Fields b x) t

part_one : (a b : SectionPart) → same_part a b ≡ true → a ≡ b
part_one Whole Whole h = refl
part_one Mime Mime h = refl
part_one Header Header h = refl
part_one (Fields names except) (Fields others but) h =
    let same = and_both (same_names names others) (same_truth except but) h in
    fields_one names others except but ((names_decide names others).0 same.0) (truth_one except but same.1)
part_one Text Text h = refl
part_one a b h = absurd (cc)

section_own : (section : Section) → same_section section section ≡ true
section_own section = and_from _ _ ((bytes_decides section.path section.path).1 refl) (part_own section.part)

section_one : (a b : Section) → same_section a b ≡ true → a ≡ b
section_one a b h =
    let same = and_both (same_bytes a.path b.path) (same_part a.part b.part) h in
    ap (λ (path : List ℕ). record { path = path; part = a.part }) ((bytes_decides a.path b.path).0 same.0)
    ∙ ap (λ (part : SectionPart). record { path = b.path; part = part }) (part_one a.part b.part same.1)

bounds_own : (bounds : Option (ℕ × ℕ)) → same_bounds bounds bounds ≡ true
bounds_own None = refl
bounds_own (Some bounds) = and_from _ _ (eq-eqb bounds.0 bounds.0 refl) (eq-eqb bounds.1 bounds.1 refl)

pair_one : (a b : ℕ × ℕ) → a.0 ≡ b.0 → a.1 ≡ b.1 → a ≡ b
pair_one a b e f = λ i. (e i, f i)

bounds_one : (a b : Option (ℕ × ℕ)) → same_bounds a b ≡ true → a ≡ b
bounds_one None None h = refl
bounds_one (Some a) (Some b) h =
    let same = and_both (eqb a.0 b.0) (eqb a.1 b.1) h in
    ap Some (pair_one a b (eqb-true a.0 b.0 same.0) (eqb-true a.1 b.1 same.1))
bounds_one a b h = absurd (cc)

item_own : (item : FetchItem) → same_item item item ≡ true
item_own Body = refl
item_own BodyStructure = refl
item_own Envelope = refl
item_own Flags = refl
item_own InternalDate = refl
item_own Modseq = refl
item_own Rfc822 = refl
item_own Rfc822Header = refl
item_own Rfc822Size = refl
item_own Rfc822Text = refl
item_own Uid = refl
item_own (Part section peek bounds) = and_from _ _ (section_own section) (and_from _ _ (truth_own peek) (bounds_own bounds))

bytes_one : (s t : Section) (p q : Bool) (b c : Option (ℕ × ℕ)) → s ≡ t → p ≡ q → b ≡ c → Part s p b ≡ Part t q c
bytes_one s t p q b c e f g = ap (λ section. Part section p b) e ∙ ap (λ peek. Part t peek b) f ∙ ap (λ bounds. Part t q bounds) g

item_one : (item other : FetchItem) → same_item item other ≡ true → item ≡ other
item_one Body Body h = refl
item_one BodyStructure BodyStructure h = refl
item_one Envelope Envelope h = refl
item_one Flags Flags h = refl
item_one InternalDate InternalDate h = refl
item_one Modseq Modseq h = refl
item_one Rfc822 Rfc822 h = refl
item_one Rfc822Header Rfc822Header h = refl
item_one Rfc822Size Rfc822Size h = refl
item_one Rfc822Text Rfc822Text h = refl
item_one Uid Uid h = refl
item_one (Part section peek bounds) (Part other peeked others) h =
    let same = and_both (same_section section other) (same_truth peek peeked && same_bounds bounds others) h in
    let rest = and_both (same_truth peek peeked) (same_bounds bounds others) same.1 in
    bytes_one section other peek peeked bounds others (section_one section other same.0) (truth_one peek peeked rest.0) (bounds_one bounds others rest.1)
item_one a b h = absurd (cc)

pub same_items : SameItems
same_items = record { equal = item_own; one = item_one }
