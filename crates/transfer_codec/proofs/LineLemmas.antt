-- Texts cut into lines.
use Rattle.std.proofs.Common.{◌≡◌, ℕ, zero, suc, ◌<◌, ◌≤◌, false, eqb, List, [], ◌∷◌, ◌++◌, length, take, drop, refl, sym, ◌∙◌, ap, arith}
use Rattle.std.specs.List.{AllByRecursion, filter, flat_map}
use Rattle.std.proofs.lemmas.Bool.{or_from, or_parts}
use Rattle.std.proofs.lemmas.List.{append_assoc, append-nil, length-drop, length-take, take-append-drop}
use Rattle.std.proofs.lemmas.List.Elements.{filter-append}
use Rattle.mail_text.specs.Lines.{has, joined, lines, LineLaws}
use Rattle.transfer_codec.specs.Layout.{is_content, cut, pieces_of, ended}

crlf : List ℕ
crlf = 13 ∷ 10 ∷ []

-- The letters are in the lines.
pub content_of_lines : (width turns : ℕ) (text : List ℕ) → 0 < width → length text ≤ turns →
    filter is_content (flat_map ended (cut width turns text)) ≡ filter is_content text
content_of_lines width turns [] h enough = refl
content_of_lines width zero (c ∷ cs) h enough = absurd (omega arith)
content_of_lines width (suc turns) (c ∷ cs) h enough =
    let text = c ∷ cs in
    let line = take width text in
    let behind = drop width text in
    let rest = flat_map ended (cut width turns behind) in
    filter-append is_content (ended line) rest
    ∙ ap (λ z. z ++ filter is_content rest) (filter-append is_content line (13 ∷ 10 ∷ []) ∙ append-nil (filter is_content line))
    ∙ ap (λ z. filter is_content line ++ z) (content_of_lines width turns behind h (omega (arith, length-drop width text)))
    ∙ sym (filter-append is_content line behind) ∙ ap (filter is_content) (take-append-drop width text)

-- A byte that a text lacks

has_parts : (b : ℕ) (x y : List ℕ) → has b (x ++ y) ≡ false → (has b x ≡ false) × (has b y ≡ false)
has_parts b [] y h = (refl, h)
has_parts b (c ∷ cs) y h =
    let parts = or_parts (eqb c b) (has b (cs ++ y)) h in
    let rest = has_parts b cs y parts.1 in
    (or_from (eqb c b) (has b cs) parts.0 rest.0, rest.1)

has_from : (b : ℕ) (x y : List ℕ) → has b x ≡ false → has b y ≡ false → has b (x ++ y) ≡ false
has_from b [] y hx hy = hy
has_from b (c ∷ cs) y hx hy =
    let parts = or_parts (eqb c b) (has b cs) hx in
    or_from (eqb c b) (has b (cs ++ y)) parts.0 (has_from b cs y parts.1 hy)

abbrev pub AllLack : ℕ → List (List ℕ) → Type 0
AllLack b ls = AllByRecursion (λ line. has b line ≡ false) ls

pub lines_lack : (b width turns : ℕ) (text : List ℕ) → has b text ≡ false → AllLack b (cut width turns text)
lines_lack b width turns [] h = tt
lines_lack b width zero (c ∷ cs) h = tt
lines_lack b width (suc turns) (c ∷ cs) h =
    let parts = has_parts b (take width (c ∷ cs)) (drop width (c ∷ cs)) (rw (take-append-drop width (c ∷ cs)) h) in
    (parts.0, lines_lack b width turns (drop width (c ∷ cs)) parts.1)

pub ended_lack : (b : ℕ) (ls : List (List ℕ)) → has b (13 ∷ 10 ∷ []) ≡ false → AllLack b ls → has b (flat_map ended ls) ≡ false
ended_lack b [] h all = refl
ended_lack b (l ∷ ls) h all = has_from b (ended l) (flat_map ended ls) (has_from b l (13 ∷ 10 ∷ []) all.0 h) (ended_lack b ls h all.1)

-- The lines of the text are the pieces.

ended_more : (l rest : List ℕ) → ended l ++ rest ≡ l ++ 13 ∷ 10 ∷ rest
ended_more l rest = append_assoc l (13 ∷ 10 ∷ []) rest

pub lines-ended : LineLaws → (ls : List (List ℕ)) → AllLack 10 ls → lines (flat_map ended ls) ≡ ls ++ [] ∷ []
lines-ended laws [] all = refl
lines-ended laws (l ∷ ls) all =
    ap lines (ended_more l (flat_map ended ls)) ∙ laws.appended l (flat_map ended ls)
    ∙ ap (λ z. z ++ lines (flat_map ended ls)) (laws.read_again (l ∷ []) all.0) ∙ ap (λ z. l ∷ z) (lines-ended laws ls all.1)

pub joined-ended : (ls : List (List ℕ)) → joined (ls ++ [] ∷ []) ≡ flat_map ended ls
joined-ended [] = refl
joined-ended (l ∷ []) = sym (ended_more l [])
joined-ended (l ∷ m ∷ ls) = ap (λ z. l ++ 13 ∷ 10 ∷ z) (joined-ended (m ∷ ls)) ∙ sym (ended_more l (flat_map ended (m ∷ ls)))

abbrev AllShort : ℕ → List (List ℕ) → Type 0
AllShort width ls = AllByRecursion (λ line. length line ≤ width) ls

pub lines_short : (width turns : ℕ) (text : List ℕ) → AllShort width (cut width turns text ++ [] ∷ [])
lines_short width turns [] = (omega arith, tt)
lines_short width zero (c ∷ cs) = (omega arith, tt)
lines_short width (suc turns) (c ∷ cs) = (omega (arith, length-take width (c ∷ cs)), lines_short width turns (drop width (c ∷ cs)))

-- The pieces one after another

cut_turns : (width m n : ℕ) (text : List ℕ) → 0 < width → length text ≤ m → length text ≤ n → cut width m text ≡ cut width n text
cut_turns width m n [] h hm hn = refl
cut_turns width zero n (c ∷ cs) h hm hn = absurd (omega arith)
cut_turns width (suc m) zero (c ∷ cs) h hm hn = absurd (omega arith)
cut_turns width (suc m) (suc n) (c ∷ cs) h hm hn =
    ap (λ z. take width (c ∷ cs) ∷ z) (cut_turns width m n (drop width (c ∷ cs)) h (omega (arith, length-drop width (c ∷ cs))) (omega (arith, length-drop width (c ∷ cs))))

pub pieces_more : (width : ℕ) (text : List ℕ) → 0 < width → 0 < length text → pieces_of width text ≡ take width text ∷ pieces_of width (drop width text)
pieces_more width [] h some = absurd (omega arith)
pieces_more width (c ∷ cs) h some =
    let behind = drop width (c ∷ cs) in
    ap (λ z. take width (c ∷ cs) ∷ z) (cut_turns width (length cs) (length behind) behind h (omega (arith, length-drop width (c ∷ cs))) (omega arith))
