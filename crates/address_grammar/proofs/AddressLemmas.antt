-- Pieces without white space and comments.
use Rattle.std.proofs.Common.{◌≡◌, ℕ, zero, suc, ◌+◌, ◌<◌, ◌≤◌, Bool, true, false, ◌&&◌, List, [], ◌∷◌, length, get_or, take, drop, Option, Some, None, refl, sym, ◌∙◌, ap, inl, inr, arith}
use Rattle.std.proofs.lemmas.Bool.{cond-true, cond-false, and_left, and_right, and_parts, cases_Bool}
use Rattle.std.proofs.lemmas.List.{drop_all, length-drop}
use Rattle.address_grammar.specs.declared.pieces.Special.TheVariants.{Comma, Colon, Semicolon, Open, Close, At}
use Rattle.address_grammar.specs.declared.pieces.Piece.{Piece}
use Rattle.address_grammar.specs.declared.pieces.Piece.TheVariants.{Run, Quoted, Comment, Literal, Mark, Blank}
use Rattle.address_grammar.specs.Words.{is_gap, is_mark, are_gaps, bare, ending_gaps, local_of, domain_of, comments, comment_name, name_of}
use Rattle.address_grammar.specs.Addresses.{addr, both, is_close, alone, closed, angled, begins_angle, routed_addr, front_phrase, behind_phrase, address}
use Rattle.mime_tree.specs.declared.values.Item.TheVariants.{Address}
use Rattle.address_grammar.specs.Addresses.AddrSpec.{addr_spec}
use Rattle.address_grammar.specs.Found.{IsNext, IsAddr}
use Rattle.address_grammar.proofs.PlaceLemmas.{at_piece}

pub gaps_more : (ps : List Piece) (at : ℕ) (p : Piece) → at < length ps → p ≡ get_or ps at p → is_gap p ≡ true → are_gaps ps ≡ are_gaps (drop at ps) → are_gaps ps ≡ are_gaps (drop (at + 1) ps)
gaps_more ps at p h is gap so_far = so_far ∙ ap are_gaps (at_piece ps at p h is) ∙ ap (λ t. t && are_gaps (drop (at + 1) ps)) gap

pub gaps_stop : (ps : List Piece) (at : ℕ) (p : Piece) → at < length ps → p ≡ get_or ps at p → is_gap p ≡ false → are_gaps ps ≡ are_gaps (drop at ps) → false ≡ are_gaps ps
gaps_stop ps at p h is gap so_far = sym (so_far ∙ ap are_gaps (at_piece ps at p h is) ∙ ap (λ t. t && are_gaps (drop (at + 1) ps)) gap)

pub gaps_all : (ps : List Piece) (at : ℕ) → length ps ≤ at → are_gaps ps ≡ are_gaps (drop at ps) → true ≡ are_gaps ps
gaps_all ps at none so_far = sym (so_far ∙ ap are_gaps (drop_all at ps none))

pub bare_gap : (p : Piece) (ps : List Piece) → is_gap p ≡ true → bare (p ∷ ps) ≡ bare ps
bare_gap p ps is = cond-true (is_gap p) (bare ps) (p ∷ bare ps) is

pub bare_other : (p : Piece) (ps : List Piece) → is_gap p ≡ false → bare (p ∷ ps) ≡ p ∷ bare ps
bare_other p ps isnt = cond-false (is_gap p) (bare ps) (p ∷ bare ps) isnt

pub bare_more : (ps : List Piece) (at : ℕ) (p : Piece) → at < length ps → p ≡ get_or ps at p → is_gap p ≡ true → bare ps ≡ bare (drop at ps) → bare ps ≡ bare (drop (at + 1) ps)
bare_more ps at p h is gap so_far = so_far ∙ ap bare (at_piece ps at p h is) ∙ bare_gap p (drop (at + 1) ps) gap

pub bare_all : (ps : List Piece) (at : ℕ) → length ps ≤ at → bare ps ≡ bare (drop at ps) → bare ps ≡ []
bare_all ps at none so_far = so_far ∙ ap bare (drop_all at ps none)

-- Pieces in which one is no gap are not all gaps.
not_gaps : (ps : List Piece) (at : ℕ) (p : Piece) → at < length ps → p ≡ get_or ps at p → is_gap p ≡ false → are_gaps ps ≡ false
not_gaps [] at p h is gap = absurd (omega arith)
not_gaps (q ∷ qs) zero p h is gap = and_left (is_gap q) (are_gaps qs) (ap is_gap (sym is) ∙ gap)
not_gaps (q ∷ qs) (suc at) p h is gap = and_right (is_gap q) (are_gaps qs) (not_gaps qs at p (omega arith) is gap)

-- What pieces end with stands behind each that is no gap.
same_end : (ps : List Piece) (at : ℕ) (p : Piece) → at < length ps → p ≡ get_or ps at p → is_gap p ≡ false → ending_gaps ps ≡ ending_gaps (drop (suc at) ps)
same_end [] at p h is gap = absurd (omega arith)
same_end (q ∷ qs) zero p h is gap = cond-false (are_gaps (q ∷ qs)) (q ∷ qs) (ending_gaps qs) (not_gaps (q ∷ qs) zero p h is gap)
same_end (q ∷ qs) (suc at) p h is gap =
    cond-false (are_gaps (q ∷ qs)) (q ∷ qs) (ending_gaps qs) (not_gaps (q ∷ qs) (suc at) p h is gap) ∙ same_end qs at p (omega arith) is gap

pub next_found : (ps : List Piece) (at : ℕ) (p : Piece) → at < length ps → p ≡ get_or ps at p → is_gap p ≡ false → bare ps ≡ bare (drop at ps) → IsNext ps p (drop (at + 1) ps)
next_found ps at p h is gap so_far = record {
  is = so_far ∙ ap bare (at_piece ps at p h is) ∙ bare_other p (drop (at + 1) ps) gap;
  same_end = same_end ps at p h is gap ∙ ap (λ n. ending_gaps (drop n ps)) (let e : suc at ≡ at + 1 = omega arith in e);
  shorter = rw (length-drop (at + 1) ps) (omega arith);
}

-- The addr at the front

addr_at : (l : Piece) (m : Piece) (d : Piece) (rest : List Piece) → is_mark At m ≡ true → addr (l ∷ m ∷ d ∷ rest) ≡ both (local_of l) (domain_of d) rest
addr_at l (Mark At) d rest e = refl
addr_at l (Mark Comma) d rest e = absurd (cc)
addr_at l (Mark Colon) d rest e = absurd (cc)
addr_at l (Mark Semicolon) d rest e = absurd (cc)
addr_at l (Mark Open) d rest e = absurd (cc)
addr_at l (Mark Close) d rest e = absurd (cc)
addr_at l (Run text) d rest e = absurd (cc)
addr_at l (Quoted text) d rest e = absurd (cc)
addr_at l (Comment text) d rest e = absurd (cc)
addr_at l (Literal text) d rest e = absurd (cc)
addr_at l Blank d rest e = absurd (cc)

addr_no_at : (l : Piece) (m : Piece) (rest : List Piece) → is_mark At m ≡ false → addr (l ∷ m ∷ rest) ≡ None
addr_no_at l (Mark At) rest e = absurd (cc)
addr_no_at l (Mark Comma) rest e = refl
addr_no_at l (Mark Colon) rest e = refl
addr_no_at l (Mark Semicolon) rest e = refl
addr_no_at l (Mark Open) rest e = refl
addr_no_at l (Mark Close) rest e = refl
addr_no_at l (Run text) rest e = refl
addr_no_at l (Quoted text) rest e = refl
addr_no_at l (Comment text) rest e = refl
addr_no_at l (Literal text) rest e = refl
addr_no_at l Blank rest e = refl

addr_ends : (l : Piece) (m : Piece) → addr (l ∷ m ∷ []) ≡ None
addr_ends l (Mark At) = refl
addr_ends l (Mark Comma) = refl
addr_ends l (Mark Colon) = refl
addr_ends l (Mark Semicolon) = refl
addr_ends l (Mark Open) = refl
addr_ends l (Mark Close) = refl
addr_ends l (Run text) = refl
addr_ends l (Quoted text) = refl
addr_ends l (Comment text) = refl
addr_ends l (Literal text) = refl
addr_ends l Blank = refl

pub addr_none : (ps : List Piece) → bare ps ≡ [] → addr (bare ps) ≡ None
addr_none ps e = ap addr e

pub addr_one : (ps rest : List Piece) (l : Piece) → IsNext ps l rest → bare rest ≡ [] → addr (bare ps) ≡ None
addr_one ps rest l n e = ap addr (n.is ∙ ap (λ z. l ∷ z) e)

pub addr_other : (ps rest behind : List Piece) (l m : Piece) → IsNext ps l rest → IsNext rest m behind → is_mark At m ≡ false → addr (bare ps) ≡ None
addr_other ps rest behind l m n o isnt = ap addr (n.is ∙ ap (λ z. l ∷ z) o.is) ∙ addr_no_at l m (bare behind) isnt

pub addr_two : (ps rest behind : List Piece) (l m : Piece) → IsNext ps l rest → IsNext rest m behind → bare behind ≡ [] → addr (bare ps) ≡ None
addr_two ps rest behind l m n o e = ap addr (n.is ∙ ap (λ z. l ∷ z) (o.is ∙ ap (λ z. m ∷ z) e)) ∙ addr_ends l m

pub addr_three : (ps rest behind last : List Piece) (l m d : Piece) → IsNext ps l rest → IsNext rest m behind → is_mark At m ≡ true → IsNext behind d last →
    addr (bare ps) ≡ both (local_of l) (domain_of d) (bare last)
addr_three ps rest behind last l m d n o is b =
    ap addr (n.is ∙ ap (λ z. l ∷ z) (o.is ∙ ap (λ z. m ∷ z) b.is)) ∙ addr_at l m d (bare last) is

pub both_none : (l : Option (List ℕ)) (rest : List Piece) → both l None rest ≡ None
both_none None rest = refl
both_none (Some text) rest = refl

pub bare-gaps : (ps : List Piece) → are_gaps ps ≡ true → bare ps ≡ []
bare-gaps [] h = refl
bare-gaps (p ∷ ps) h = let parts = and_parts (is_gap p) (are_gaps ps) h in bare_gap p ps parts.0 ∙ bare-gaps ps parts.1

pub bare-some : (ps : List Piece) → are_gaps ps ≡ false → (p : Piece) × (rest : List Piece) × (bare ps ≡ p ∷ rest)
bare-some [] h = absurd (cc)
bare-some (p ∷ ps) h =
    elim (cases_Bool (is_gap p)) [
      | inl gap ↦ let more = bare-some ps (sym (ap (λ t. t && are_gaps ps) gap) ∙ h) in (more.0, more.1, bare_gap p ps gap ∙ more.2)
      | inr other ↦ (p, bare ps, bare_other p ps other)
    ]

pub ending-gaps : (ps : List Piece) → are_gaps ps ≡ true → ending_gaps ps ≡ ps
ending-gaps [] h = refl
ending-gaps (p ∷ ps) h = cond-true (are_gaps (p ∷ ps)) (p ∷ ps) (ending_gaps ps) h

close_case : (p : Piece) (rest : List Piece) (t : Bool) → is_mark Close p ≡ true → are_gaps rest ≡ t → is_close (p ∷ bare rest) ≡ t
close_case p rest true is e = ap (λ z. is_close (p ∷ z)) (bare-gaps rest e) ∙ is
close_case p rest false is e = let some = bare-some rest e in ap (λ z. is_close (p ∷ z)) some.2

pub closes_so : (ps rest : List Piece) (p : Piece) → IsNext ps p rest → is_mark Close p ≡ true → are_gaps rest ≡ is_close (bare ps)
closes_so ps rest p n is = sym (ap is_close n.is ∙ close_case p rest (are_gaps rest) is refl)

pub alone_found : (ps rest : List Piece) (local domain name : List ℕ) → IsAddr ps local domain rest → are_gaps rest ≡ true → name ≡ comment_name (comments rest) →
    Some (Address name local domain) ≡ alone (comment_name (comments (ending_gaps ps))) (addr (bare ps))
alone_found ps rest local domain name a gaps same =
    sym (ap (alone (comment_name (comments (ending_gaps ps)))) (a.is ∙ ap (λ z. Some (addr_spec local domain z)) (bare-gaps rest gaps))
    ∙ ap (λ z. Some (Address (comment_name (comments z)) local domain)) (a.same_end ∙ ending-gaps rest gaps) ∙ ap (λ z. Some (Address z local domain)) (sym same))

pub alone_more : (ps rest : List Piece) (local domain : List ℕ) → IsAddr ps local domain rest → are_gaps rest ≡ false →
    None ≡ alone (comment_name (comments (ending_gaps ps))) (addr (bare ps))
alone_more ps rest local domain a gaps =
    let some = bare-some rest gaps in
    sym (ap (alone (comment_name (comments (ending_gaps ps)))) (a.is ∙ ap (λ z. Some (addr_spec local domain z)) some.2))

angle_of : (name : List ℕ) (ps : List Piece) → begins_angle ps ≡ true → angled name (bare ps) ≡ closed name (routed_addr (bare (drop 1 ps)))
angle_of name [] h = absurd (cc)
angle_of name (Mark Open ∷ ps) h = refl
angle_of name (Mark Comma ∷ ps) h = absurd (cc)
angle_of name (Mark Colon ∷ ps) h = absurd (cc)
angle_of name (Mark Semicolon ∷ ps) h = absurd (cc)
angle_of name (Mark Close ∷ ps) h = absurd (cc)
angle_of name (Mark At ∷ ps) h = absurd (cc)
angle_of name (Run text ∷ ps) h = absurd (cc)
angle_of name (Quoted text ∷ ps) h = absurd (cc)
angle_of name (Comment text ∷ ps) h = absurd (cc)
angle_of name (Literal text ∷ ps) h = absurd (cc)
angle_of name (Blank ∷ ps) h = absurd (cc)

pub address_angled : (ps : List Piece) (len : ℕ) → front_phrase ps ≡ take len ps → behind_phrase ps ≡ drop len ps → begins_angle (drop len ps) ≡ true →
    closed (name_of (take len ps)) (routed_addr (bare (drop 1 (drop len ps)))) ≡ address ps
address_angled ps len front behind is =
    sym (cond-true (begins_angle (behind_phrase ps)) (angled (name_of (front_phrase ps)) (bare (behind_phrase ps))) (alone (comment_name (comments (ending_gaps ps))) (addr (bare ps))) (ap begins_angle behind ∙ is)
    ∙ ap (λ z. angled (name_of z) (bare (behind_phrase ps))) front ∙ ap (λ z. angled (name_of (take len ps)) (bare z)) behind ∙ angle_of (name_of (take len ps)) (drop len ps) is)

pub address_alone : (ps : List Piece) (len : ℕ) → behind_phrase ps ≡ drop len ps → begins_angle (drop len ps) ≡ false →
    alone (comment_name (comments (ending_gaps ps))) (addr (bare ps)) ≡ address ps
address_alone ps len behind isnt =
    sym (cond-false (begins_angle (behind_phrase ps)) (angled (name_of (front_phrase ps)) (bare (behind_phrase ps))) (alone (comment_name (comments (ending_gaps ps))) (addr (bare ps))) (ap begins_angle behind ∙ isnt))
