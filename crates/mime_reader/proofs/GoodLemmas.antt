-- Each field of a message is good, and its boundary is told by its fields.
use Rattle.std.proofs.Common.{◌≡◌, ℕ, Bool, true, false, cond, ◌&&◌, ◌||◌, not, eqb, List, [], ◌∷◌, ◌++◌, map, Option, Some, None, refl, sym, ◌∙◌, ap, subst}
use Rattle.std.specs.Prelude.{codes}
use Rattle.std.specs.Option.{unwrap_or, option_and_then}
use Rattle.std.proofs.lemmas.Bool.{cond_both, or_parts, or_from}
use Rattle.mail_text.specs.Texts.{begins}
use Rattle.mail_text.specs.Case.{is_same}
use Rattle.mail_text.specs.Lines.{put, is_lf, lines, joined, has}
use Rattle.mime_tree.specs.declared.values.Field.{Field}
use Rattle.mime_tree.specs.Trees.{Tree, Content, Trees}
use Rattle.mime_tree.specs.Trees.Tree.{node}
use Rattle.mime_tree.specs.Trees.Content.{leaf, multi, nested}
use Rattle.mime_tree.specs.Trees.Trees.{none, more}
use Rattle.header_reader.specs.Fields.{header, body, fields_of}
use Rattle.header_reader.specs.Good.{AllGood}
use Rattle.header_reader.specs.Laws.{FieldLaws}
use Rattle.header_reader.specs.Values.{read_field}
use Rattle.header_reader.specs.declared.raw.RawField.{RawField}
use Rattle.mime_reader.specs.declared.content_types.ContentType.{ContentType}
use Rattle.mime_reader.specs.declared.kinds.BodyKind.{BodyKind}
use Rattle.mime_reader.specs.declared.kinds.BodyKind.TheVariants.{Multipart, Embedded, Single}
use Rattle.mime_reader.specs.ContentTypes.{content_type_of}
use Rattle.mime_reader.specs.Kinds.{first_text, default_type, type_of, has_encoding, boundary_in, body_kind, boundary_of}
use Rattle.mime_reader.specs.Bodies.{is_closing, is_delimiter, pieces, behind_first, parts}
use Rattle.mime_reader.specs.Reading.{Reads, ReadsBody, ReadsParts, IsMessage, body_of, AreGoodFields, HasGoodFields, HasGoodFieldsIn, HaveGoodFields}

-- No line has the byte.
abbrev pub AllLack : ℕ → List (List ℕ) → Type 0
AllLack b [] = Unit {0}
AllLack b (l ∷ ls) = (has b l ≡ false) × AllLack b ls

lacks-put : (b c : ℕ) (ls : List (List ℕ)) → eqb c b ≡ false → AllLack b ls → AllLack b (put c ls)
lacks-put b c [] h k = (or_from (eqb c b) false h refl, tt)
lacks-put b c (l ∷ ls) h k = (or_from (eqb c b) (has b l) h k.0, k.1)

pub lacks-lines : (b : ℕ) (x : List ℕ) → has b x ≡ false → AllLack b (lines x)
lacks-lines b [] h = (refl, tt)
lacks-lines b (c ∷ cs) h =
    let parts = or_parts (eqb c b) (has b cs) h in
    cond_both (eqb c 13 && begins is_lf cs) (lines cs) (cond (eqb c 10) ([] ∷ lines cs) (put c (lines cs))) (AllLack b)
    (λ _. lacks-lines b cs parts.1)
    (λ _. cond_both (eqb c 10) ([] ∷ lines cs) (put c (lines cs)) (AllLack b)
    (λ _. (refl, lacks-lines b cs parts.1))
    (λ _. lacks-put b c (lines cs) parts.0 (lacks-lines b cs parts.1)))

pub lacks-body : (b : ℕ) (ls : List (List ℕ)) → AllLack b ls → AllLack b (body ls)
lacks-body b [] h = tt
lacks-body b ([] ∷ ls) h = h.1
lacks-body b ((c ∷ l) ∷ ls) h = lacks-body b ls h.1

lacks-append : (b : ℕ) (x y : List ℕ) → has b x ≡ false → has b y ≡ false → has b (x ++ y) ≡ false
lacks-append b [] y h k = k
lacks-append b (c ∷ cs) y h k =
    let parts = or_parts (eqb c b) (has b cs) h in
    or_from (eqb c b) (has b (cs ++ y)) parts.0 (lacks-append b cs y parts.1 k)

-- Only a zero byte is looked for here: it is no part of a line end.
joined-lacks : (ls : List (List ℕ)) → AllLack 0 ls → has 0 (joined ls) ≡ false
joined-lacks [] h = refl
joined-lacks (l ∷ []) h = h.0
joined-lacks (l ∷ m ∷ ls) h = lacks-append 0 l (13 ∷ 10 ∷ joined (m ∷ ls)) h.0 (joined-lacks (m ∷ ls) h.1)

pub body-lacks : (text : List ℕ) → has 0 text ≡ false → has 0 (body_of text) ≡ false
body-lacks text h = joined-lacks (body (lines text)) (lacks-body 0 (lines text) (lacks-lines 0 text h))

abbrev pub EachLacks : ℕ → List (List (List ℕ)) → Type 0
EachLacks b [] = Unit {0}
EachLacks b (p ∷ ps) = AllLack b p × EachLacks b ps

each-put : (c : ℕ) (l : List ℕ) (ps : List (List (List ℕ))) → has c l ≡ false → EachLacks c ps → EachLacks c (put l ps)
each-put c l [] h k = ((h, tt), tt)
each-put c l (p ∷ ps) h k = ((h, k.0), k.1)

pub each-pieces : (c : ℕ) (b : List ℕ) (ls : List (List ℕ)) → AllLack c ls → EachLacks c (pieces b ls)
each-pieces c b [] h = (tt, tt)
each-pieces c b (l ∷ ls) h =
    cond_both (is_closing b l) ([] ∷ []) (cond (is_delimiter b l) ([] ∷ pieces b ls) (put l (pieces b ls))) (EachLacks c)
    (λ _. (tt, tt))
    (λ _. cond_both (is_delimiter b l) ([] ∷ pieces b ls) (put l (pieces b ls)) (EachLacks c)
    (λ _. (tt, each-pieces c b ls h.1))
    (λ _. each-put c l (pieces b ls) h.0 (each-pieces c b ls h.1)))

pub each-behind : (c : ℕ) (ps : List (List (List ℕ))) → EachLacks c ps → EachLacks c (behind_first ps)
each-behind c [] h = tt
each-behind c (p ∷ ps) h = h.1

each-joined : (ps : List (List (List ℕ))) → EachLacks 0 ps → AllLack 0 (map joined ps)
each-joined [] h = tt
each-joined (p ∷ ps) h = (joined-lacks p h.0, each-joined ps h.1)

pub parts-lack : (b text : List ℕ) → has 0 text ≡ false → AllLack 0 (parts b text)
parts-lack b text h =
    each-joined (behind_first (pieces b (lines text))) (each-behind 0 (pieces b (lines text)) (each-pieces 0 b (lines text) (lacks-lines 0 text h)))

good_fields : (raws : List RawField) → AllGood raws → AreGoodFields (map read_field raws)
good_fields [] h = tt
good_fields (raw ∷ raws) h = (record { raw = raw; is_good = h.0; read = refl }, good_fields raws h.1)

module _ (laws : FieldLaws) where
  mutual
    good_tree : (es : List (List ℕ)) (d : Bool) (text : List ℕ) (tree : Tree) → has 0 text ≡ false → Reads es d text tree → HasGoodFields tree
    good_tree es d text (node fields content) z h = (
      subst AreGoodFields h.0.read (good_fields (fields_of (header (lines text))) (laws.good text z h.0.sound)),
      good_body es (body_kind d fields) (body_of text) content (body-lacks text z) h.1,
    )

    good_body : (es : List (List ℕ)) (kind : BodyKind) (text : List ℕ) (content : Content) → has 0 text ≡ false → ReadsBody es kind text content → HasGoodFieldsIn content
    good_body es kind text (leaf encoding bytes) z h = tt
    good_body es kind text (nested tree) z h = good_tree es false text tree z h.1
    good_body es kind text (multi trees) z h = good_parts (h.0 ∷ es) h.1 (parts h.0 text) trees (parts-lack h.0 text z) h.5

    good_parts : (es : List (List ℕ)) (d : Bool) (texts : List (List ℕ)) (trees : Trees) → AllLack 0 texts → ReadsParts es d texts trees → HaveGoodFields trees
    good_parts es d texts none z h = tt
    good_parts es d [] (more tree trees) z h = absurd h
    good_parts es d (p ∷ ps) (more tree trees) z h = (good_tree es d p tree z.0 h.0, good_parts es d ps trees z.1 h.1)

  pub good : (text : List ℕ) (tree : Tree) → IsMessage text tree → HasGoodFields tree
  good text tree m = good_tree [] false text tree m.no_zero m.reads

-- The boundary that a kind tells is that of its type.
kind_boundary : (t u v w : Bool) (base64 : Bool) (found : Option (List ℕ)) (b : List ℕ) (inner other : Bool) →
    cond t (Multipart found other) (cond ((u && v) && not w) Embedded (Single base64)) ≡ Multipart (Some b) inner → found ≡ Some b
kind_boundary true u v w base64 found b inner other e = cc
kind_boundary false u v w base64 found b inner other e = of ((u && v) && not w) e
  where
    of : (t : Bool) → cond t Embedded (Single base64) ≡ Multipart (Some b) inner → found ≡ Some b
    of true e = absurd (cc)
    of false e = absurd (cc)

default_boundary : (digest : Bool) (found : Option ContentType) → boundary_in (unwrap_or found (default_type digest)) ≡ boundary_in (unwrap_or found (default_type false))
default_boundary digest (Some type) = refl
default_boundary true None = refl
default_boundary false None = refl

type_boundary : (digest : Bool) (fields : List Field) → boundary_in (type_of digest fields) ≡ boundary_in (type_of false fields)
unfolding type_of
type_boundary digest fields = default_boundary digest (option_and_then content_type_of (first_text (codes "Content-Type") fields))

pub boundary_is : (digest inner : Bool) (fields : List Field) (boundary : List ℕ) → body_kind digest fields ≡ Multipart (Some boundary) inner → boundary_of fields ≡ boundary
unfolding body_kind boundary_of
boundary_is digest inner fields boundary e =
    let type = type_of digest fields in
    let base64 = has_encoding (codes "base64") fields in
    let quoted = has_encoding (codes "quoted-printable") fields in
    ap (λ o. unwrap_or o [])
    (sym (type_boundary digest fields)
    ∙ kind_boundary (is_same type.top_level (codes "multipart")) (is_same type.top_level (codes "message")) (is_same type.subtype (codes "rfc822")) (base64 || quoted) base64
    (boundary_in type) boundary inner (is_same type.subtype (codes "digest")) e)
