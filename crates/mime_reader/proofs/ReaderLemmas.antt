-- The steps of a reader, and what it is to answer.
use Rattle.std.proofs.Common.{◌≡◌, ℕ, zero, suc, ◌+◌, ◌-◌, ◌<◌, ◌≤◌, Bool, true, false, cond, ltb, List, [], ◌∷◌, ◌++◌, length, Option, Some, None, Result, Ok, Err, refl, sym, ◌∙◌, ap, subst, arith}
use Rattle.std.proofs.lemmas.Bool.{cond-true, cond-false, lt-ltb, le-ltb}
use Rattle.mail_text.specs.Lines.{lines}
use Rattle.mime_tree.specs.declared.values.Field.{Field}
use Rattle.mime_tree.specs.declared.reasons.Reason.{Reason}
use Rattle.mime_tree.specs.declared.reasons.Reason.TheVariants.{TooDeep, TooMany}
use Rattle.mime_tree.specs.Trees.{Tree, Content, Trees}
use Rattle.mime_tree.specs.Trees.Tree.{node}
use Rattle.mime_tree.specs.Trees.Content.{multi}
use Rattle.mime_tree.specs.Trees.Trees.{none, more}
use Rattle.mime_tree.specs.Contents.{trees_of}
use Rattle.mime_tree.specs.Sizes.{nodes, nodes_in, nodes_of}
use Rattle.header_reader.specs.Fields.{header}
use Rattle.header_reader.specs.Faults.{fault_of}
use Rattle.transfer_codec.specs.Layout.{decoded64}
use Rattle.std.specs.Prelude.{IfErr}
use Rattle.mime_reader.specs.declared.faults.ReadFault.{ReadFault}
use Rattle.mime_reader.specs.declared.faults.ReadFault.TheVariants.{Unreadable, NoMemory}
use Rattle.mime_reader.specs.declared.kinds.BodyKind.{BodyKind}
use Rattle.mime_reader.specs.Kinds.{body_kind}
use Rattle.mime_reader.specs.Reading.{and_then, unless, or_plain, leaf_of, read_parts, read_multipart, read_body, fields_in, body_of, read, most_nodes, Gives}
use Rattle.mime_reader.specs.Steps.{Fails, Tells}

pub read_deep : (levels : ℕ) (es : List (List ℕ)) (d : Bool) (n : ℕ) (text : List ℕ) → levels ≡ 0 → read levels es d n text ≡ Err TooDeep
unfolding read
read_deep zero es d n text e = refl
read_deep (suc levels) es d n text e = absurd (omega arith)

-- what is read behind the header
abbrev pub behind_header : ℕ → List (List ℕ) → Bool → ℕ → List ℕ → Result Tree Reason
behind_header levels es d n text =
    and_then (read_body (read levels) es (body_kind d (fields_in text)) (n + 1) (body_of text)) (λ content. Ok (node (fields_in text) content))

abbrev pub from_header : ℕ → List (List ℕ) → Bool → ℕ → List ℕ → Result Tree Reason
from_header levels es d n text = unless (fault_of (header (lines text))) (behind_header levels es d n text)

pub read_some : (levels : ℕ) (es : List (List ℕ)) (d : Bool) (n : ℕ) (text : List ℕ) → read (suc levels) es d n text ≡ cond (ltb n most_nodes) (from_header levels es d n text) (Err TooMany)
unfolding read
read_some levels es d n text = refl

pub read_many : (levels : ℕ) (es : List (List ℕ)) (d : Bool) (n : ℕ) (text : List ℕ) → 0 < levels → most_nodes ≤ n → read levels es d n text ≡ Err TooMany
read_many zero es d n text some many = absurd (omega arith)
read_many (suc levels) es d n text some many =
    read_some levels es d n text ∙ cond-false (ltb n most_nodes) (from_header levels es d n text) (Err TooMany) (le-ltb n most_nodes many)

pub read_step : (levels : ℕ) (es : List (List ℕ)) (d : Bool) (n : ℕ) (text : List ℕ) → 0 < levels → n < most_nodes → read levels es d n text ≡ from_header (levels - 1) es d n text
read_step zero es d n text some few = absurd (omega arith)
read_step (suc levels) es d n text some few =
    read_some levels es d n text ∙ cond-true (ltb n most_nodes) (from_header levels es d n text) (Err TooMany) (lt-ltb n most_nodes few)
    ∙ ap (λ k. from_header k es d n text) (let e : levels ≡ suc levels - 1 = omega arith in e)

-- Faults.
pub fails_then : {A B : Type 0} (fault : ReadFault) (r : Result A Reason) (f : A → Result B Reason) → Fails fault r → Fails fault (and_then r f)
fails_then (Unreadable reason) r f h = ap (λ r. and_then r f) h
fails_then NoMemory r f h = tt

pub fails_by : {A : Type 0} (fault : ReadFault) (a b : Result A Reason) → a ≡ b → Fails fault b → Fails fault a
fails_by (Unreadable reason) a b e h = e ∙ h
fails_by NoMemory a b e h = tt

pub tells_fails : {A : Type 0} (fault : ReadFault) (reason : Option Reason) (r : Result A Reason) → Tells fault reason → Fails fault (unless reason r)
tells_fails (Unreadable reason) told r h = ap (λ o. unless o r) h
tells_fails NoMemory told r h = tt

-- A header that can't be read.
pub node_header_fails : (fault : ReadFault) (levels : ℕ) (es : List (List ℕ)) (d : Bool) (n : ℕ) (text : List ℕ) → 0 < levels → n < most_nodes →
    Tells fault (fault_of (header (lines text))) → Fails fault (read levels es d n text)
node_header_fails fault levels es d n text some few h =
    fails_by fault (read levels es d n text) (from_header (levels - 1) es d n text) (read_step levels es d n text some few)
    (tells_fails fault (fault_of (header (lines text))) (behind_header (levels - 1) es d n text) h)

-- A body's answer, where its kind and text are those that the fields tell.
pub body_by : (P : Result Content Reason → Type 0) (levels : ℕ) (es : List (List ℕ)) (n : ℕ) (kind other : BodyKind) (text part : List ℕ) → kind ≡ other → text ≡ part →
    P (read_body (read levels) es kind n text) → P (read_body (read levels) es other n part)
body_by P levels es n kind other text part k t h =
    subst (λ z. P (read_body (read levels) es other n z)) t (subst (λ z. P (read_body (read levels) es z n text)) k h)

node_is : (levels : ℕ) (es : List (List ℕ)) (d : Bool) (n : ℕ) (text : List ℕ) → 0 < levels → n < most_nodes → fault_of (header (lines text)) ≡ None →
    read levels es d n text ≡ behind_header (levels - 1) es d n text
node_is levels es d n text some few sound =
    read_step levels es d n text some few ∙ ap (λ o. unless o (behind_header (levels - 1) es d n text)) sound

pub node_body_fails : (fault : ReadFault) (levels : ℕ) (es : List (List ℕ)) (d : Bool) (n : ℕ) (text : List ℕ) (kind : BodyKind) (part : List ℕ) → 0 < levels → n < most_nodes →
    fault_of (header (lines text)) ≡ None → kind ≡ body_kind d (fields_in text) → part ≡ body_of text →
    Fails fault (read_body (read (levels - 1)) es kind (n + 1) part) → Fails fault (read levels es d n text)
node_body_fails fault levels es d n text kind part some few sound k t h =
    fails_by fault (read levels es d n text) (behind_header (levels - 1) es d n text) (node_is levels es d n text some few sound)
    (fails_then fault (read_body (read (levels - 1)) es (body_kind d (fields_in text)) (n + 1) (body_of text)) (λ content. Ok (node (fields_in text) content))
    (body_by (Fails fault) (levels - 1) es (n + 1) kind (body_kind d (fields_in text)) part (body_of text) k t h))

pub node_reads : (levels : ℕ) (es : List (List ℕ)) (d : Bool) (n new : ℕ) (text : List ℕ) (fields : List Field) (kind : BodyKind) (part : List ℕ) (content : Content) → 0 < levels → n < most_nodes →
    fault_of (header (lines text)) ≡ None → fields ≡ fields_in text → kind ≡ body_kind d (fields_in text) → part ≡ body_of text →
    (read_body (read (levels - 1)) es kind (n + 1) part ≡ Ok content) × (new ≡ n + 1 + nodes_in content) →
    (read levels es d n text ≡ Ok (node fields content)) × (new ≡ n + nodes (node fields content))
node_reads levels es d n new text fields kind part content some few sound fs k t h = (
  node_is levels es d n text some few sound
      ∙ ap (λ r. and_then r (λ content. Ok (node (fields_in text) content)))
      (body_by (λ r. r ≡ Ok content) (levels - 1) es (n + 1) kind (body_kind d (fields_in text)) part (body_of text) k t h.0)
      ∙ ap (λ z. Ok (node z content)) (sym fs),
  omega (arith, h.1),
)

-- Leaves.
pub leaf_nodes : (base64 : Bool) (text : List ℕ) → nodes_in (leaf_of base64 text) ≡ 0
leaf_nodes false text = refl
leaf_nodes true text = of (decoded64 text)
  where
    of : (found : Option (List ℕ)) → nodes_in (or_plain text found) ≡ 0
    of None = refl
    of (Some bytes) = refl

-- Parts, those that were read and those that are left.
abbrev pub ahead_of : List Tree → Trees → Trees
ahead_of [] trees = trees
ahead_of (t ∷ ts) trees = more t (ahead_of ts trees)

abbrev pub ahead_all : List Tree → Result Trees Reason → Result Trees Reason
ahead_all done r = and_then r (λ trees. Ok (ahead_of done trees))

ahead_none : (r : Result Trees Reason) → ahead_all [] r ≡ r
ahead_none (Ok trees) = refl
ahead_none (Err reason) = refl

ahead-snoc : (done : List Tree) (t : Tree) (trees : Trees) → ahead_of (done ++ t ∷ []) trees ≡ ahead_of done (more t trees)
ahead-snoc [] t trees = refl
ahead-snoc (x ∷ done) t trees = ap (more x) (ahead-snoc done t trees)

ahead_one : (done : List Tree) (t : Tree) (r : Result Trees Reason) →
    ahead_all (done ++ t ∷ []) r ≡ ahead_all done (and_then r (λ trees. Ok (more t trees)))
ahead_one done t (Ok trees) = ap Ok (ahead-snoc done t trees)
ahead_one done t (Err reason) = refl

ahead_end : (done : List Tree) → ahead_of done none ≡ trees_of done
ahead_end [] = refl
ahead_end (t ∷ done) = ap (more t) (ahead_end done)

nodes-snoc : (done : List Tree) (t : Tree) → nodes_of (trees_of (done ++ t ∷ [])) ≡ nodes_of (trees_of done) + nodes t
nodes-snoc [] t = omega arith
nodes-snoc (x ∷ done) t = omega (arith, nodes-snoc done t)

pub record AreRead (f : ℕ → List ℕ → Result Tree Reason) (old new : ℕ) (done : List Tree) (left all : List (List ℕ)) : Type 0 where
  pub is : ahead_all done (read_parts f new left) ≡ read_parts f old all
  pub number : new ≡ old + nodes_of (trees_of done)

module _ (f : ℕ → List ℕ → Result Tree Reason) (old : ℕ) (all : List (List ℕ)) where
  pub read_more : (new newer : ℕ) (done : List Tree) (p : List ℕ) (left : List (List ℕ)) (t : Tree) → (f new p ≡ Ok t) × (newer ≡ new + nodes t) →
      AreRead f old new done (p ∷ left) all → AreRead f old newer (done ++ t ∷ []) left all
  read_more new newer done p left t h r = record {
    is = ahead_one done t (read_parts f newer left) ∙ ap (λ n. ahead_all done (and_then (read_parts f n left) (λ trees. Ok (more t trees)))) h.1
        ∙ sym (ap (λ r. ahead_all done (and_then r (λ tree. and_then (read_parts f (new + nodes tree) left) (λ trees. Ok (more tree trees))))) h.0) ∙ r.is;
    number = omega (arith, h.1, r.number, nodes-snoc done t);
  }

  pub read_all : (new : ℕ) (done : List Tree) → AreRead f old new done [] all → (read_parts f old all ≡ Ok (trees_of done)) × (new ≡ old + nodes_of (trees_of done))
  read_all new done r = (sym r.is ∙ ap Ok (ahead_end done), r.number)

pub some_is : (f : ℕ → List ℕ → Result Tree Reason) (n : ℕ) (texts : List (List ℕ)) → 0 < length texts →
    read_multipart f n texts ≡ and_then (read_parts f n texts) (λ trees. Ok (multi trees))
some_is f n [] h = absurd (omega arith)
some_is f n (t ∷ ts) h = refl

pub multi_answers : (f : ℕ → List ℕ → Result Tree Reason) (n new : ℕ) (texts : List (List ℕ)) (done : List Tree) → 0 < length texts →
    (read_parts f n texts ≡ Ok (trees_of done)) × (new ≡ n + nodes_of (trees_of done)) →
    (read_multipart f n texts ≡ Ok (multi (trees_of done))) × (new ≡ n + nodes_in (multi (trees_of done)))
multi_answers f n new texts done some h = (some_is f n texts some ∙ ap (λ r. and_then r (λ trees. Ok (multi trees))) h.0, h.1)

-- The answer of a whole message.
pub fails_gives : (fault : ReadFault) (expected : Result Tree Reason) → Fails fault expected → Gives (Err fault) expected
fails_gives (Unreadable reason) expected h = h
fails_gives NoMemory expected h = tt

-- What holds whatever the answer is.
pub whatever_fault : {A P : Type 0} (r : Result A ReadFault) → P → IfErr r (λ fault. fault ≡ NoMemory → P)
whatever_fault (Ok x) p = tt
whatever_fault (Err fault) p = λ _. p
