-- Comments by their grammar, and by the depth that they are read at.
use Rattle.std.proofs.Common.{◌≡◌, ◌≢◌, ℕ, zero, suc, ◌+◌, ◌-◌, ◌<◌, ◌≤◌, inl, inr, ltb, eqb, cond, List, [], ◌∷◌, ◌++◌, length, Option, Some, None, refl, sym, ◌∙◌, ap, subst, arith}
use Rattle.std.specs.Option.{option_map, IsSome}
use Rattle.std.proofs.lemmas.Bool.{cond-true, cond-false, ne_eqb, lt-ltb, cases_eq}
use Rattle.std.proofs.lemmas.List.{append_assoc, length-append}
use Rattle.date_grammar.specs.Words.{uncommented, behind_comments, behind_quoted}
use Rattle.date_grammar.specs.Comments.{IsContent}
use Rattle.date_grammar.specs.Comments.IsContent.{nothing, byte, quoted, comment}

close : ℕ → List ℕ → Option (List ℕ)
close depth cs = cond (ltb 1 depth) (behind_comments (depth - 1) cs) (uncommented cs)

-- how a byte within comments is read
at_close : (depth : ℕ) (cs : List ℕ) → behind_comments depth (41 ∷ cs) ≡ close depth cs
unfolding close
at_close depth cs = refl

at_open : (depth : ℕ) (cs : List ℕ) → behind_comments depth (40 ∷ cs) ≡ behind_comments (depth + 1) cs
at_open depth cs = refl

at_byte : (depth c : ℕ) (cs : List ℕ) → c ≢ 40 → c ≢ 41 → c ≢ 92 → behind_comments depth (c ∷ cs) ≡ behind_comments depth cs
at_byte depth c cs opens shuts quotes =
    let shut = cond (eqb c 41) (cond (ltb 1 depth) (behind_comments (depth - 1) cs) (uncommented cs)) (behind_comments depth cs) in
    cond-false (eqb c 92) (behind_quoted depth cs) (cond (eqb c 40) (behind_comments (depth + 1) cs) shut) (ne_eqb c 92 quotes)
    ∙ cond-false (eqb c 40) (behind_comments (depth + 1) cs) shut (ne_eqb c 40 opens)
    ∙ cond-false (eqb c 41) (cond (ltb 1 depth) (behind_comments (depth - 1) cs) (uncommented cs)) (behind_comments depth cs) (ne_eqb c 41 shuts)

close_inner : (depth : ℕ) (cs : List ℕ) → 1 ≤ depth → close (depth + 1) cs ≡ behind_comments depth cs
unfolding close
close_inner depth cs h =
    let more : 1 < depth + 1 = omega arith in
    let back : depth + 1 - 1 ≡ depth = omega arith in
    cond-true (ltb 1 (depth + 1)) (behind_comments (depth + 1 - 1) cs) (uncommented cs) (lt-ltb 1 (depth + 1) more) ∙ ap (λ (d : ℕ). behind_comments d cs) back

-- the content of a comment is passed over at any depth
passed : {content : List ℕ} → IsContent content → (depth : ℕ) (text : List ℕ) → 1 ≤ depth → behind_comments depth (content ++ text) ≡ behind_comments depth text
passed nothing depth text h = refl
passed (byte c cs opens shuts quotes is) depth text h = at_byte depth c (cs ++ text) opens shuts quotes ∙ passed is depth text h
passed (quoted c cs is) depth text h = passed is depth text h
passed (comment inner cs is rest) depth text h =
    let deep : 1 ≤ depth + 1 = omega arith in
    ap (behind_comments (depth + 1)) (append_assoc inner (41 ∷ cs) text) ∙ passed is (depth + 1) (41 ∷ (cs ++ text)) deep
    ∙ at_close (depth + 1) (cs ++ text) ∙ close_inner depth (cs ++ text) h ∙ passed rest depth text h

pub comment_blank : (content text : List ℕ) → IsContent content → uncommented (40 ∷ (content ++ 41 ∷ text)) ≡ option_map (λ t. 32 ∷ t) (uncommented text)
comment_blank content text is = ap (option_map (λ t. 32 ∷ t)) (passed is 1 (41 ∷ text) (omega arith))

-- a comment's content at the front of a text, and what stands behind the comment
pub record Ends (text : List ℕ) : Type 0 where
  pub content : List ℕ
  pub rest : List ℕ
  pub is : IsContent content
  pub parts : text ≡ content ++ 41 ∷ rest

some_along : (a b : Option (List ℕ)) → a ≡ b → IsSome a → IsSome b
some_along a b e h = subst (λ (o : Option (List ℕ)). IsSome o) e h

ends_quoted : (c : ℕ) (cs : List ℕ) → Ends cs → Ends (92 ∷ c ∷ cs)
ends_quoted c cs e = record { content = 92 ∷ c ∷ e.content; rest = e.rest; is = quoted c e.content e.is; parts = ap (λ (t : List ℕ). 92 ∷ c ∷ t) e.parts }

ends_byte : (c : ℕ) (cs : List ℕ) → c ≢ 40 → c ≢ 41 → c ≢ 92 → Ends cs → Ends (c ∷ cs)
ends_byte c cs opens shuts quotes e =
    record { content = c ∷ e.content; rest = e.rest; is = byte c e.content opens shuts quotes e.is; parts = ap (λ (t : List ℕ). c ∷ t) e.parts }

ends_comment : (cs : List ℕ) (e : Ends cs) → Ends e.rest → Ends (40 ∷ cs)
ends_comment cs e f = record {
  content = 40 ∷ (e.content ++ 41 ∷ f.content);
  rest = f.rest;
  is = comment e.content f.content e.is f.is;
  parts = ap (λ (t : List ℕ). 40 ∷ t) (e.parts ∙ ap (λ (t : List ℕ). e.content ++ 41 ∷ t) f.parts ∙ sym (append_assoc e.content (41 ∷ f.content) (41 ∷ f.rest)));
}

-- what is left behind an inner comment
behind_inner : (depth : ℕ) (cs : List ℕ) (e : Ends cs) → 1 ≤ depth → behind_comments (depth + 1) cs ≡ behind_comments depth e.rest
behind_inner depth cs e h =
    let deep : 1 ≤ depth + 1 = omega arith in
    ap (behind_comments (depth + 1)) e.parts ∙ passed e.is (depth + 1) (41 ∷ e.rest) deep ∙ at_close (depth + 1) e.rest ∙ close_inner depth e.rest h

shorter : (cs : List ℕ) (e : Ends cs) → length e.rest < length cs
shorter cs e = omega (arith, length-append e.content (41 ∷ e.rest), ap length e.parts)

abbrev Finds : ℕ → Type 0
Finds n = (depth : ℕ) (text : List ℕ) → length text ≤ n → 1 ≤ depth → IsSome (behind_comments depth text) → Ends text

find_quoted : (n depth : ℕ) (cs : List ℕ) → Finds n → length cs ≤ n → 1 ≤ depth → IsSome (behind_quoted depth cs) → Ends (92 ∷ cs)
find_quoted n depth [] more h d s = absurd (cc)
find_quoted n depth (c ∷ cs) more h d s = ends_quoted c cs (more depth cs (omega arith) d s)

find_open : (n depth : ℕ) (cs : List ℕ) → Finds n → length cs ≤ n → 1 ≤ depth → IsSome (behind_comments (depth + 1) cs) → Ends (40 ∷ cs)
find_open n depth cs more h d s =
    let e = more (depth + 1) cs h (omega arith) s in
    ends_comment cs e (more depth e.rest (omega (arith, shorter cs e)) d (some_along (behind_comments (depth + 1) cs) (behind_comments depth e.rest) (behind_inner depth cs e d) s))

find_byte : (n depth c : ℕ) (cs : List ℕ) → Finds n → length cs ≤ n → 1 ≤ depth → IsSome (behind_comments depth (c ∷ cs)) → Ends (c ∷ cs)
find_byte n depth c cs more h d s =
    elim (cases_eq c 92) [
      | inl quotes ↦ subst (λ (x : ℕ). Ends (x ∷ cs)) (sym quotes) (find_quoted n depth cs more h d (subst (λ (x : ℕ). IsSome (behind_comments depth (x ∷ cs))) quotes s))
      | inr not_quotes ↦ elim (cases_eq c 40) [
        | inl opens ↦ subst (λ (x : ℕ). Ends (x ∷ cs)) (sym opens) (find_open n depth cs more h d (subst (λ (x : ℕ). IsSome (behind_comments depth (x ∷ cs))) opens s))
        | inr not_opens ↦ elim (cases_eq c 41) [
          | inl shuts ↦ record { content = []; rest = cs; is = nothing; parts = ap (λ (x : ℕ). x ∷ cs) shuts }
          | inr not_shuts ↦ ends_byte c cs not_opens not_shuts not_quotes
              (more depth cs h d (some_along (behind_comments depth (c ∷ cs)) (behind_comments depth cs) (at_byte depth c cs not_opens not_shuts not_quotes) s))
        ]
      ]
    ]

find : (n : ℕ) → Finds n
find n depth [] h d s = absurd (cc)
find zero depth (c ∷ cs) h d s = absurd (omega arith)
find (suc n) depth (c ∷ cs) h d s = find_byte n depth c cs (find n) (omega arith) d s

some_mapped : (o : Option (List ℕ)) → IsSome (option_map (λ t. 32 ∷ t) o) → IsSome o
some_mapped None h = h
some_mapped (Some t) h = refl

pub comment_begins : (text : List ℕ) → IsSome (uncommented (40 ∷ text)) → (content rest : List ℕ) × IsContent content × (text ≡ content ++ 41 ∷ rest)
comment_begins text h =
    let e = find (length text) 1 text (omega arith) (omega arith) (some_mapped (behind_comments 1 text) h) in
    (e.content, e.rest, e.is, e.parts)
