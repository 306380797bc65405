-- A control byte that a value lacks is in no item that it reads as, and in no print of them.
use Rattle.std.proofs.Common.{◌≡◌, ℕ, zero, suc, ◌<◌, false, ◌||◌, cond, eqb, List, [], ◌∷◌, ◌++◌, Some, refl, sym, subst, inl, inr, arith}
use Rattle.std.proofs.lemmas.Bool.{cond_both, or_parts, or_from, ne_eqb}
use Rattle.mail_text.specs.Texts.{behind, is_blank, before_trimmed, without_blank_end}
use Rattle.mail_text.specs.Lines.{has, ahead}
use Rattle.mime_tree.specs.declared.values.Item.{Item}
use Rattle.mime_tree.specs.declared.values.Item.TheVariants.{Address, Group, GroupEnd}
use Rattle.address_grammar.specs.declared.printing.Before.{Before}
use Rattle.address_grammar.specs.declared.printing.Before.TheVariants.{TheStart, AnItem, AGroupName}
use Rattle.address_grammar.specs.declared.pieces.Special.TheVariants.{Comma, Colon, Semicolon, Open, Close}
use Rattle.address_grammar.specs.declared.pieces.Piece.{Piece}
use Rattle.address_grammar.specs.declared.pieces.Piece.TheVariants.{Run, Quoted, Comment, Literal, Mark, Blank}
use Rattle.address_grammar.specs.Spelling.{Inside, spelled, content, IsSpelled, IsText}
use Rattle.address_grammar.specs.Spelling.Inside.{nothing, byte, pair, comment}
use Rattle.address_grammar.specs.Words.{is_gap, is_wordlike, are_gaps, word_text, bare, begins_word, words, each_spaced, spaced, local_of, domain_of, ending_gaps, comments, comment_name}
use Rattle.address_grammar.specs.Grammar.{IsAddrSpec, IsAlone, IsNamed, IsMember, Separated, IsGroup, IsPart, Reads, route}
use Rattle.address_grammar.specs.Printing.{is_bare, escaped_byte, escaped, in_quotation, bare_or_quoted, phrase_text, addr_text, address_text, between, item_text, behind_of, printed_behind, printed}

-- Whether a text lacks a byte.
abbrev pub Lacks : ℕ → List ℕ → Type 0
Lacks b text = has b text ≡ false

pub lacks_parts : (b : ℕ) (x y : List ℕ) → Lacks b (x ++ y) → Lacks b x × Lacks b y
lacks_parts b [] y h = (refl, h)
lacks_parts b (c ∷ cs) y h =
    let one = or_parts (eqb c b) (has b (cs ++ y)) h in
    let more = lacks_parts b cs y one.1 in (or_from (eqb c b) (has b cs) one.0 more.0, more.1)

pub lacks_both : (b : ℕ) (x y : List ℕ) → Lacks b x → Lacks b y → Lacks b (x ++ y)
lacks_both b [] y h k = k
lacks_both b (c ∷ cs) y h k = let one = or_parts (eqb c b) (has b cs) h in or_from (eqb c b) (has b (cs ++ y)) one.0 (lacks_both b cs y one.1 k)

-- Pieces

content_lacks : (b : ℕ) (i : Inside) → Lacks b (spelled i) → Lacks b (content i)
content_lacks b nothing h = refl
content_lacks b (byte c i) h = let one = or_parts (eqb c b) (has b (spelled i)) h in or_from (eqb c b) (has b (content i)) one.0 (content_lacks b i one.1)
content_lacks b (pair c i) h =
    let one = or_parts (eqb 92 b) (has b (c ∷ spelled i)) h in
    let two = or_parts (eqb c b) (has b (spelled i)) one.1 in or_from (eqb c b) (has b (content i)) two.0 (content_lacks b i two.1)
content_lacks b (comment j i) h =
    let one = or_parts (eqb 40 b) (has b (spelled j ++ 41 ∷ spelled i)) h in
    let parts = lacks_parts b (spelled j) (41 ∷ spelled i) one.1 in
    let two = or_parts (eqb 41 b) (has b (spelled i)) parts.1 in
    or_from (eqb 40 b) (has b (content j ++ 41 ∷ content i)) one.0
    (lacks_both b (content j) (41 ∷ content i) (content_lacks b j parts.0) (or_from (eqb 41 b) (has b (content i)) two.0 (content_lacks b i two.1)))

abbrev pub text_in : Piece → List ℕ
text_in (Run text) = text
text_in (Quoted text) = text
text_in (Comment text) = text
text_in (Literal text) = text
text_in p = []

abbrev pub AllLack : ℕ → List Piece → Type 0
AllLack b [] = Unit {0}
AllLack b (p ∷ ps) = Lacks b (text_in p) × AllLack b ps

enclosed : (b c d : ℕ) (i : Inside) → Lacks b (c ∷ (spelled i ++ d ∷ [])) → Lacks b (content i)
enclosed b c d i h = content_lacks b i (lacks_parts b (spelled i) (d ∷ []) (or_parts (eqb c b) (has b (spelled i ++ d ∷ [])) h).1).0

piece_lacks : (b : ℕ) (p : Piece) (here : List ℕ) → IsSpelled p here → Lacks b here → Lacks b (text_in p)
piece_lacks b (Run x) here s h = subst (Lacks b) s.0 h
piece_lacks b (Quoted x) here (i, good, text, same) h = subst (Lacks b) (sym same) (enclosed b 34 34 i (subst (Lacks b) text h))
piece_lacks b (Comment x) here (i, good, text, same) h = subst (Lacks b) (sym same) (enclosed b 40 41 i (subst (Lacks b) text h))
piece_lacks b (Literal x) here (y, good, text, same) h = subst (Lacks b) (sym same) h
piece_lacks b (Mark special) here s h = refl
piece_lacks b Blank here s h = refl

text_lacks : (b : ℕ) (ps : List Piece) (text : List ℕ) → IsText ps text → Lacks b text → AllLack b ps
text_lacks b [] text t h = tt
text_lacks b (p ∷ ps) text (here, rest, s, same, e, more) h =
    let parts = lacks_parts b here rest (subst (Lacks b) same h) in (piece_lacks b p here s parts.0, text_lacks b ps rest more parts.1)

all_parts : (b : ℕ) (ps qs : List Piece) → AllLack b (ps ++ qs) → AllLack b ps × AllLack b qs
all_parts b [] qs h = (tt, h)
all_parts b (p ∷ ps) qs h = let more = all_parts b ps qs h.1 in ((h.0, more.0), more.1)

bare_lacks : (b : ℕ) (ps : List Piece) → AllLack b ps → AllLack b (bare ps)
bare_lacks b [] h = tt
bare_lacks b (p ∷ ps) h = cond_both (is_gap p) (bare ps) (p ∷ bare ps) (AllLack b) (λ _. bare_lacks b ps h.1) (λ _. (h.0, bare_lacks b ps h.1))

ending_lacks : (b : ℕ) (ps : List Piece) → AllLack b ps → AllLack b (ending_gaps ps)
ending_lacks b [] h = tt
ending_lacks b (p ∷ ps) h = cond_both (are_gaps (p ∷ ps)) (p ∷ ps) (ending_gaps ps) (AllLack b) (λ _. h) (λ _. ending_lacks b ps h.1)

-- Names

abbrev pub EachLacks : ℕ → List (List ℕ) → Type 0
EachLacks b [] = Unit {0}
EachLacks b (w ∷ ws) = Lacks b w × EachLacks b ws

comments_lack : (b : ℕ) (ps : List Piece) → AllLack b ps → EachLacks b (comments ps)
comments_lack b [] h = tt
comments_lack b (Comment text ∷ ps) h = (h.0, comments_lack b ps h.1)
comments_lack b (Run text ∷ ps) h = comments_lack b ps h.1
comments_lack b (Quoted text ∷ ps) h = comments_lack b ps h.1
comments_lack b (Literal text ∷ ps) h = comments_lack b ps h.1
comments_lack b (Mark special ∷ ps) h = comments_lack b ps h.1
comments_lack b (Blank ∷ ps) h = comments_lack b ps h.1

behind_lacks : (b : ℕ) (x : List ℕ) → Lacks b x → Lacks b (behind is_blank x)
behind_lacks b [] h = refl
behind_lacks b (c ∷ cs) h = cond_both (is_blank c) (behind is_blank cs) (c ∷ cs) (Lacks b) (λ _. behind_lacks b cs (or_parts (eqb c b) (has b cs) h).1) (λ _. h)

before_lacks : (b c : ℕ) (x : List ℕ) → eqb c b ≡ false → Lacks b x → Lacks b (before_trimmed c x)
before_lacks b c [] one h = cond_both (is_blank c) [] (c ∷ []) (Lacks b) (λ _. refl) (λ _. or_from (eqb c b) false one refl)
before_lacks b c (d ∷ ds) one h = or_from (eqb c b) (has b (d ∷ ds)) one h

end_lacks : (b : ℕ) (x : List ℕ) → Lacks b x → Lacks b (without_blank_end x)
end_lacks b [] h = refl
end_lacks b (c ∷ cs) h = let one = or_parts (eqb c b) (has b cs) h in before_lacks b c (without_blank_end cs) one.0 (end_lacks b cs one.1)

comment_name_lacks : (b : ℕ) (texts : List (List ℕ)) → EachLacks b texts → Lacks b (comment_name texts)
comment_name_lacks b [] h = refl
comment_name_lacks b (text ∷ []) h = end_lacks b (behind is_blank text) (behind_lacks b text h.0)
comment_name_lacks b (text ∷ other ∷ more) h = refl

word_lacks : (b : ℕ) (p : Piece) → Lacks b (text_in p) → Lacks b (word_text p)
word_lacks b (Run text) h = h
word_lacks b (Quoted text) h = h
word_lacks b p h = refl

ahead_lacks : (b : ℕ) (w : List ℕ) (ws : List (List ℕ)) → Lacks b w → EachLacks b ws → EachLacks b (ahead w ws)
ahead_lacks b w [] h k = (h, tt)
ahead_lacks b w (v ∷ vs) h k = (lacks_both b w v h k.0, k.1)

words_lack : (b : ℕ) (ps : List Piece) → AllLack b ps → EachLacks b (words ps)
words_lack b [] h = tt
words_lack b (p ∷ ps) h =
    let more = words_lack b ps h.1 in
    let one = word_lacks b p h.0 in
    cond_both (is_wordlike p) (cond (begins_word ps) (ahead (word_text p) (words ps)) (word_text p ∷ words ps)) (words ps) (EachLacks b)
    (λ _. cond_both (begins_word ps) (ahead (word_text p) (words ps)) (word_text p ∷ words ps) (EachLacks b) (λ _. ahead_lacks b (word_text p) (words ps) one more) (λ _. (one, more)))
    (λ _. more)

own : (b c : ℕ) → b < 32 → 32 < suc c → eqb c b ≡ false
own b c small large = ne_eqb c b (λ e. absurd (omega (arith, e)))

pub each_lacks : (b : ℕ) (ws : List (List ℕ)) → b < 32 → EachLacks b ws → Lacks b (each_spaced ws)
each_lacks b [] small h = refl
each_lacks b (w ∷ ws) small h = or_from (eqb 32 b) (has b (w ++ each_spaced ws)) (own b 32 small (omega arith)) (lacks_both b w (each_spaced ws) h.0 (each_lacks b ws small h.1))

pub spaced_lacks : (b : ℕ) (ws : List (List ℕ)) → b < 32 → EachLacks b ws → Lacks b (spaced ws)
spaced_lacks b [] small h = refl
spaced_lacks b (w ∷ ws) small h = lacks_both b w (each_spaced ws) h.0 (each_lacks b ws small h.1)

-- Items

abbrev pub ItemLacks : ℕ → Item → Type 0
ItemLacks b (Address name local domain) = Lacks b name × Lacks b local × Lacks b domain
ItemLacks b (Group name) = Lacks b name
ItemLacks b GroupEnd = Unit {0}

abbrev pub ItemsLack : ℕ → List Item → Type 0
ItemsLack b [] = Unit {0}
ItemsLack b (item ∷ items) = ItemLacks b item × ItemsLack b items

items_both : (b : ℕ) (xs ys : List Item) → ItemsLack b xs → ItemsLack b ys → ItemsLack b (xs ++ ys)
items_both b [] ys h k = k
items_both b (x ∷ xs) ys h k = (h.0, items_both b xs ys h.1 k)

local_lacks : (b : ℕ) (l : Piece) (local : List ℕ) → local_of l ≡ Some local → Lacks b (text_in l) → Lacks b local
local_lacks b (Run text) local e h = let same : text ≡ local = cc in subst (Lacks b) same h
local_lacks b (Quoted text) local e h = let same : text ≡ local = cc in subst (Lacks b) same h
local_lacks b p local e h = absurd (cc)

domain_lacks : (b : ℕ) (d : Piece) (domain : List ℕ) → domain_of d ≡ Some domain → Lacks b (text_in d) → Lacks b domain
domain_lacks b (Run text) domain e h = let same : text ≡ domain = cc in subst (Lacks b) same h
domain_lacks b (Literal text) domain e h = let same : text ≡ domain = cc in subst (Lacks b) same h
domain_lacks b p domain e h = absurd (cc)

spec_lacks : (b : ℕ) (ps : List Piece) (local domain : List ℕ) → IsAddrSpec ps local domain → AllLack b ps → Lacks b local × Lacks b domain
spec_lacks b ps local domain s h =
    let all = subst (AllLack b) s.is h in (local_lacks b s.l local s.local_is all.0, domain_lacks b s.d domain s.domain_is all.1.1.0)

alone_lacks : (b : ℕ) (ps : List Piece) (item : Item) → IsAlone ps item → AllLack b ps → ItemLacks b item
alone_lacks b ps item a h =
    let parts = spec_lacks b (bare ps) a.local a.domain a.is_addr (bare_lacks b ps h) in
    subst (ItemLacks b) (sym a.is) (comment_name_lacks b (comments (ending_gaps ps)) (comments_lack b (ending_gaps ps) (ending_lacks b ps h)), parts.0, parts.1)

named_lacks : (b : ℕ) (ps : List Piece) (item : Item) → b < 32 → IsNamed ps item → AllLack b ps → ItemLacks b item
named_lacks b ps item small n h =
    let all = all_parts b n.phrase (Mark Open ∷ n.rest) (subst (AllLack b) n.parts h) in
    let within = subst (AllLack b) n.within (bare_lacks b n.rest all.1.1) in
    let behind_it = all_parts b (route n.domains) (n.addr ++ Mark Close ∷ []) within in
    let spec = all_parts b n.addr (Mark Close ∷ []) behind_it.1 in
    let parts = spec_lacks b n.addr n.local n.domain n.is_addr spec.0 in
    subst (ItemLacks b) (sym n.is) (spaced_lacks b (words n.phrase) small (words_lack b n.phrase all.0), parts.0, parts.1)

member_lacks : (b : ℕ) (ps : List Piece) (items : List Item) → b < 32 → IsMember ps items → AllLack b ps → ItemsLack b items
member_lacks b ps items small (inl empty) h = subst (ItemsLack b) (sym empty.1) tt
member_lacks b ps items small (inr (item, inl a, is)) h = subst (ItemsLack b) (sym is) (alone_lacks b ps item a h, tt)
member_lacks b ps items small (inr (item, inr n, is)) h = subst (ItemsLack b) (sym is) (named_lacks b ps item small n h, tt)

separated_lack : (b : ℕ) (Part : List Piece → List Item → Type 0) → ((ps : List Piece) (items : List Item) → Part ps items → AllLack b ps → ItemsLack b items) →
    (n : ℕ) (ps : List Piece) (items : List Item) → Separated Part n ps items → AllLack b ps → ItemsLack b items
separated_lack b Part one zero ps items part h = one ps items part h
separated_lack b Part one (suc n) ps items (part, rest, here, others, m, parts, is, more) h =
    let all = all_parts b part (Mark Comma ∷ rest) (subst (AllLack b) parts h) in
    subst (ItemsLack b) (sym is) (items_both b here others (one part here m all.0) (separated_lack b Part one n rest others more all.1.1))

group_lacks : (b : ℕ) (ps : List Piece) (items : List Item) → b < 32 → IsGroup ps items → AllLack b ps → ItemsLack b items
group_lacks b ps items small g h =
    let all = all_parts b g.phrase (Mark Colon ∷ (g.inside ++ Mark Semicolon ∷ g.after)) (subst (AllLack b) g.parts h) in
    let inner = all_parts b g.inside (Mark Semicolon ∷ g.after) all.1.1 in
    subst (ItemsLack b) (sym g.is) (
      spaced_lacks b (words g.phrase) small (words_lack b g.phrase all.0),
      items_both b g.found (GroupEnd ∷ []) (separated_lack b IsMember (λ qs is m. member_lacks b qs is small m) g.commas g.inside g.found g.addresses inner.0) (tt, tt),
    )

part_lacks : (b : ℕ) (ps : List Piece) (items : List Item) → b < 32 → IsPart ps items → AllLack b ps → ItemsLack b items
part_lacks b ps items small (inl m) h = member_lacks b ps items small m h
part_lacks b ps items small (inr g) h = group_lacks b ps items small g h

reads_lack : (b : ℕ) (value : List ℕ) (items : List Item) → b < 32 → Reads value items → Lacks b value → ItemsLack b items
reads_lack b value items small r h =
    separated_lack b IsPart (λ qs is p. part_lacks b qs is small p) r.is_list.0 r.pieces items r.is_list.1 (text_lacks b r.pieces value r.spelled h)

-- Prints

escaped_byte_lacks : (b c : ℕ) → b < 32 → eqb c b ≡ false → Lacks b (escaped_byte c)
escaped_byte_lacks b c small h =
    cond_both (eqb c 34 || eqb c 92) (92 ∷ c ∷ []) (c ∷ []) (Lacks b)
    (λ _. or_from (eqb 92 b) (has b (c ∷ [])) (own b 92 small (omega arith)) (or_from (eqb c b) false h refl)) (λ _. or_from (eqb c b) false h refl)

escaped_lacks : (b : ℕ) (text : List ℕ) → b < 32 → Lacks b text → Lacks b (escaped text)
escaped_lacks b [] small h = refl
escaped_lacks b (c ∷ cs) small h =
    let one = or_parts (eqb c b) (has b cs) h in lacks_both b (escaped_byte c) (escaped cs) (escaped_byte_lacks b c small one.0) (escaped_lacks b cs small one.1)

one_lacks : (b c : ℕ) (text : List ℕ) → b < 32 → 32 < suc c → Lacks b text → Lacks b (c ∷ text)
one_lacks b c text small large h = or_from (eqb c b) (has b text) (own b c small large) h

bare_or_quoted_lacks : (b sep : ℕ) (text : List ℕ) → b < 32 → Lacks b text → Lacks b (bare_or_quoted sep text)
bare_or_quoted_lacks b sep text small h =
    cond_both (is_bare sep text) text (in_quotation text) (Lacks b) (λ _. h)
    (λ _. one_lacks b 34 (escaped text ++ 34 ∷ []) small (omega arith) (lacks_both b (escaped text) (34 ∷ []) (escaped_lacks b text small h) (one_lacks b 34 [] small (omega arith) refl)))

addr_lacks : (b : ℕ) (local domain : List ℕ) → b < 32 → Lacks b local → Lacks b domain → Lacks b (addr_text local domain)
addr_lacks b local domain small l d =
    lacks_both b (bare_or_quoted 46 local) (64 ∷ domain) (bare_or_quoted_lacks b 46 local small l) (one_lacks b 64 domain small (omega arith) d)

address_lacks : (b : ℕ) (name local domain : List ℕ) → b < 32 → Lacks b name → Lacks b local → Lacks b domain → Lacks b (address_text name local domain)
address_lacks b [] local domain small n l d = addr_lacks b local domain small l d
address_lacks b (c ∷ cs) local domain small n l d =
    lacks_both b (phrase_text (c ∷ cs)) (32 ∷ 60 ∷ (addr_text local domain ++ 62 ∷ [])) (bare_or_quoted_lacks b 32 (c ∷ cs) small n)
    (one_lacks b 32 (60 ∷ (addr_text local domain ++ 62 ∷ [])) small (omega arith) (one_lacks b 60 (addr_text local domain ++ 62 ∷ []) small (omega arith)
    (lacks_both b (addr_text local domain) (62 ∷ []) (addr_lacks b local domain small l d) (one_lacks b 62 [] small (omega arith) refl))))

between_lacks : (b : ℕ) (before : Before) → b < 32 → Lacks b (between before)
between_lacks b TheStart small = refl
between_lacks b AnItem small = one_lacks b 44 (32 ∷ []) small (omega arith) (one_lacks b 32 [] small (omega arith) refl)
between_lacks b AGroupName small = one_lacks b 32 [] small (omega arith) refl

item_text_lacks : (b : ℕ) (before : Before) (item : Item) → b < 32 → ItemLacks b item → Lacks b (item_text before item)
item_text_lacks b before (Address name local domain) small h =
    lacks_both b (between before) (address_text name local domain) (between_lacks b before small) (address_lacks b name local domain small h.0 h.1 h.2)
item_text_lacks b before (Group name) small h =
    lacks_both b (between before) (phrase_text name ++ 58 ∷ []) (between_lacks b before small)
    (lacks_both b (phrase_text name) (58 ∷ []) (bare_or_quoted_lacks b 32 name small h) (one_lacks b 58 [] small (omega arith) refl))
item_text_lacks b before GroupEnd small h = one_lacks b 59 [] small (omega arith) refl

printed_lacks : (b : ℕ) (before : Before) (items : List Item) → b < 32 → ItemsLack b items → Lacks b (printed_behind before items)
printed_lacks b before [] small h = refl
printed_lacks b before (item ∷ items) small h =
    lacks_both b (item_text before item) (printed_behind (behind_of item) items) (item_text_lacks b before item small h.0) (printed_lacks b (behind_of item) items small h.1)

pub no_control : (b : ℕ) (value : List ℕ) (items : List Item) → b < 32 → Reads value items → Lacks b value → Lacks b (printed items)
no_control b value items small r h = printed_lacks b TheStart items small (reads_lack b value items small r h)
