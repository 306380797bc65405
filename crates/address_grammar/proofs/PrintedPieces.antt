-- The pieces of printed text.
use Rattle.std.proofs.Common.{◌≡◌, ℕ, Bool, true, false, ◌||◌, not, cond, eqb, List, [], ◌∷◌, ◌++◌, Option, Some, None, refl, sym, ◌∙◌, ap, inl, inr, arith}
use Rattle.std.proofs.lemmas.Bool.{cases_Bool, cond-true, cond-false, eqb-true, eqb-false, and_parts, and_from, or_parts, or_left, not-true, false≢true}
use Rattle.std.proofs.lemmas.List.{append-nil, append_assoc}
use Rattle.address_grammar.specs.declared.pieces.Special.TheVariants.{Comma, Colon, Semicolon, Open, Close, At}
use Rattle.address_grammar.specs.declared.pieces.Piece.{Piece}
use Rattle.address_grammar.specs.declared.pieces.Piece.TheVariants.{Run, Quoted, Literal, Mark, Blank}
use Rattle.address_grammar.specs.Pieces.{is_atom, is_plain, before, onto, pieces, in_run, in_quotes, in_literal}
use Rattle.address_grammar.specs.Words.{each_spaced, spaced}
use Rattle.address_grammar.specs.Printing.{are_atom_bytes, is_atom_text, are_atoms, escaped_byte, escaped, in_quotation}
use Rattle.address_grammar.proofs.PieceLemmas.{pieces_none, pieces_plain, pieces_apart, run_none, run_more, run_ends, quotes_end, quotes_more, quotes_escape, quotes_pair_more, literal_end, literal_more, ontos, ontos-before, with_bytes-quoted}
use Rattle.address_grammar.proofs.MoreLemmas.{ahead_of}
use Rattle.address_grammar.specs.Spelling.{are_plain, is_run}
use Rattle.address_grammar.proofs.GoodLemmas.{is_nil, ends_literal, is_literal}

-- A text that doesn't go on with a run.
abbrev pub is_apart : List ℕ → Bool
is_apart [] = true
is_apart (c ∷ cs) = not (is_plain c)

onto-run : (c : ℕ) (text : List ℕ) (ps : Option (List Piece)) → onto c (before (Run text) ps) ≡ before (Run (c ∷ text)) ps
onto-run c text None = refl
onto-run c text (Some ps) = refl

onto-literal : (c : ℕ) (text : List ℕ) (ps : Option (List Piece)) → onto c (before (Literal text) ps) ≡ before (Literal (c ∷ text)) ps
onto-literal c text None = refl
onto-literal c text (Some ps) = refl

nil_so : (cs : List ℕ) → is_nil cs ≡ true → cs ≡ []
nil_so [] h = refl
nil_so (c ∷ cs) h = absurd (cc)

run_stops : (rest : List ℕ) → is_apart rest ≡ true → in_run rest ≡ before (Run []) (pieces rest)
run_stops [] h = run_none ∙ ap (before (Run [])) (sym pieces_none)
run_stops (c ∷ cs) h = run_ends c cs (not-true (is_plain c) h)

run_through : (text rest : List ℕ) → are_plain text ≡ true → is_apart rest ≡ true → in_run (text ++ rest) ≡ before (Run text) (pieces rest)
run_through [] rest plain h = run_stops rest h
run_through (c ∷ cs) rest plain h =
    let parts = and_parts (is_plain c) (are_plain cs) plain in
    run_more c (cs ++ rest) parts.0 ∙ ap (onto c) (run_through cs rest parts.1 h) ∙ onto-run c cs (pieces rest)

pub pieces_run : (text rest : List ℕ) → is_run text ≡ true → is_apart rest ≡ true → pieces (text ++ rest) ≡ before (Run text) (pieces rest)
pieces_run [] rest plain h = absurd (cc)
pieces_run (c ∷ cs) rest plain h =
    let parts = and_parts (is_plain c) (are_plain cs) plain in
    pieces_plain c (cs ++ rest) parts.0 ∙ ap (onto c) (run_through cs rest parts.1 h) ∙ onto-run c cs (pieces rest)

-- Quoted strings

escaped_quotes : (c : ℕ) (rest : List ℕ) → in_quotes (escaped_byte c ++ rest) ≡ onto c (in_quotes rest)
escaped_quotes c rest =
    elim (cases_Bool (eqb c 34 || eqb c 92)) [
      | inl is ↦
          ap (λ z. in_quotes (z ++ rest)) (cond-true (eqb c 34 || eqb c 92) (92 ∷ c ∷ []) (c ∷ []) is)
          ∙ quotes_escape 92 (c ∷ rest) (λ e. let no : ◌≡◌ {A = ℕ} 92 34 = e in absurd (omega (arith, no))) refl ∙ quotes_pair_more c rest
      | inr isnt ↦
          let parts = or_parts (eqb c 34) (eqb c 92) isnt in
          ap (λ z. in_quotes (z ++ rest)) (cond-false (eqb c 34 || eqb c 92) (92 ∷ c ∷ []) (c ∷ []) isnt)
          ∙ quotes_more c rest (eqb-false c 34 parts.0) (eqb-false c 92 parts.1)
    ]

quotes_through : (text rest : List ℕ) → in_quotes (escaped text ++ 34 ∷ rest) ≡ ontos text (before (Quoted []) (pieces rest))
quotes_through [] rest = quotes_end 34 rest refl
quotes_through (c ∷ cs) rest =
    ap in_quotes (append_assoc (escaped_byte c) (escaped cs) (34 ∷ rest)) ∙ escaped_quotes c (escaped cs ++ 34 ∷ rest) ∙ ap (onto c) (quotes_through cs rest)

pub pieces_quoted : (text rest : List ℕ) → pieces (in_quotation text ++ rest) ≡ before (Quoted text) (pieces rest)
pieces_quoted text rest =
    let within = escaped text ++ 34 ∷ rest in
    pieces_apart 34 ((escaped text ++ 34 ∷ []) ++ rest) refl ∙ ap in_quotes (append_assoc (escaped text) (34 ∷ []) rest)
    ∙ quotes_through text rest ∙ ontos-before text (Quoted []) (pieces rest)
    ∙ ap (λ p. before p (pieces rest)) (with_bytes-quoted text [] ∙ ap Quoted (append-nil text))

-- Domain literals

literal_through : (text rest : List ℕ) → ends_literal text ≡ true → in_literal (text ++ rest) ≡ before (Literal text) (pieces rest)
literal_through [] rest h = absurd (cc)
literal_through (c ∷ cs) rest h =
    elim (cases_Bool (eqb c 93)) [
      | inl end ↦
          let last = sym (cond-true (eqb c 93) (is_nil cs) (cond (eqb c 91 || eqb c 92) false (ends_literal cs)) end) ∙ h in
          let one : c ≡ 93 = eqb-true c 93 end in
          let none = nil_so cs last in
          literal_end c (cs ++ rest) one ∙ ap (λ z. before (Literal (93 ∷ [])) (pieces (z ++ rest))) none
          ∙ ap (λ z. before (Literal z) (pieces rest)) (ap (λ b. b ∷ []) (sym one) ∙ ap (λ z. c ∷ z) (sym none))
      | inr more ↦
          let inner = sym (cond-false (eqb c 93) (is_nil cs) (cond (eqb c 91 || eqb c 92) false (ends_literal cs)) more) ∙ h in
          elim (cases_Bool (eqb c 91 || eqb c 92)) [
            | inl bad ↦ let never = sym (cond-true (eqb c 91 || eqb c 92) false (ends_literal cs) bad) ∙ inner in absurd (false≢true never)
            | inr good ↦
                let left = sym (cond-false (eqb c 91 || eqb c 92) false (ends_literal cs) good) ∙ inner in
                literal_more c (cs ++ rest) (eqb-false c 93 more) good ∙ ap (onto c) (literal_through cs rest left) ∙ onto-literal c cs (pieces rest)
          ]
    ]

pub pieces_literal : (text rest : List ℕ) → is_literal text ≡ true → pieces (text ++ rest) ≡ before (Literal text) (pieces rest)
pieces_literal [] rest h = absurd (cc)
pieces_literal (c ∷ cs) rest h =
    let parts = and_parts (eqb c 91) (ends_literal cs) h in
    let one : c ≡ 91 = eqb-true c 91 parts.0 in
    ap (λ b. pieces (b ∷ (cs ++ rest))) one ∙ pieces_apart 91 (cs ++ rest) refl ∙ ap (onto 91) (literal_through cs rest parts.1)
    ∙ onto-literal 91 cs (pieces rest) ∙ ap (λ b. before (Literal (b ∷ cs)) (pieces rest)) (sym one)

-- Special characters and blanks

pub pieces_comma : (rest : List ℕ) → pieces (44 ∷ rest) ≡ before (Mark Comma) (pieces rest)
pieces_comma rest = pieces_apart 44 rest refl

pub pieces_colon : (rest : List ℕ) → pieces (58 ∷ rest) ≡ before (Mark Colon) (pieces rest)
pieces_colon rest = pieces_apart 58 rest refl

pub pieces_semicolon : (rest : List ℕ) → pieces (59 ∷ rest) ≡ before (Mark Semicolon) (pieces rest)
pieces_semicolon rest = pieces_apart 59 rest refl

pub pieces_open : (rest : List ℕ) → pieces (60 ∷ rest) ≡ before (Mark Open) (pieces rest)
pieces_open rest = pieces_apart 60 rest refl

pub pieces_close : (rest : List ℕ) → pieces (62 ∷ rest) ≡ before (Mark Close) (pieces rest)
pieces_close rest = pieces_apart 62 rest refl

pub pieces_at : (rest : List ℕ) → pieces (64 ∷ rest) ≡ before (Mark At) (pieces rest)
pieces_at rest = pieces_apart 64 rest refl

pub pieces_blank : (rest : List ℕ) → pieces (32 ∷ rest) ≡ before Blank (pieces rest)
pieces_blank rest = pieces_apart 32 rest refl

-- Words

-- Words as runs with a blank before each.
abbrev pub each_run : List (List ℕ) → List Piece
each_run [] = []
each_run (w ∷ ws) = Blank ∷ Run w ∷ each_run ws

-- Words as runs with a blank between each two.
abbrev pub runs : List (List ℕ) → List Piece
runs [] = []
runs (w ∷ ws) = Run w ∷ each_run ws

atoms_plain : (text : List ℕ) → are_atom_bytes text ≡ true → are_plain text ≡ true
atoms_plain [] h = refl
atoms_plain (c ∷ cs) h =
    let parts = and_parts (is_atom c) (are_atom_bytes cs) h in
    and_from (is_plain c) (are_plain cs) (or_left (is_atom c) (eqb c 46) parts.0) (atoms_plain cs parts.1)

atom_run : (text : List ℕ) → is_atom_text text ≡ true → is_run text ≡ true
atom_run [] h = h
atom_run (c ∷ cs) h =
    let parts = and_parts (is_atom c) (are_atom_bytes cs) h in
    and_from (is_plain c) (are_plain cs) (or_left (is_atom c) (eqb c 46) parts.0) (atoms_plain cs parts.1)

apart-each : (ws : List (List ℕ)) (rest : List ℕ) → is_apart rest ≡ true → is_apart (each_spaced ws ++ rest) ≡ true
apart-each [] rest h = h
apart-each (w ∷ ws) rest h = refl

ahead-before : (p : Piece) (ps : List Piece) (left : Option (List Piece)) → before p (ahead_of ps left) ≡ ahead_of (p ∷ ps) left
ahead-before p ps None = refl
ahead-before p ps (Some qs) = refl

ahead-none : (left : Option (List Piece)) → left ≡ ahead_of [] left
ahead-none None = refl
ahead-none (Some qs) = refl

pieces_each : (ws : List (List ℕ)) (rest : List ℕ) → are_atoms ws ≡ true → is_apart rest ≡ true → pieces (each_spaced ws ++ rest) ≡ ahead_of (each_run ws) (pieces rest)
pieces_each [] rest atoms h = ahead-none (pieces rest)
pieces_each (w ∷ ws) rest atoms h =
    let parts = and_parts (is_atom_text w) (are_atoms ws) atoms in
    let left = each_spaced ws ++ rest in
    pieces_blank ((w ++ each_spaced ws) ++ rest) ∙ ap (λ z. before Blank (pieces z)) (append_assoc w (each_spaced ws) rest)
    ∙ ap (before Blank) (pieces_run w left (atom_run w parts.0) (apart-each ws rest h) ∙ ap (before (Run w)) (pieces_each ws rest parts.1 h) ∙ ahead-before (Run w) (each_run ws) (pieces rest))
    ∙ ahead-before Blank (Run w ∷ each_run ws) (pieces rest)

pub pieces_words : (ws : List (List ℕ)) (rest : List ℕ) → are_atoms ws ≡ true → is_apart rest ≡ true → pieces (spaced ws ++ rest) ≡ ahead_of (runs ws) (pieces rest)
pieces_words [] rest atoms h = ahead-none (pieces rest)
pieces_words (w ∷ ws) rest atoms h =
    let parts = and_parts (is_atom_text w) (are_atoms ws) atoms in
    ap pieces (append_assoc w (each_spaced ws) rest)
    ∙ pieces_run w (each_spaced ws ++ rest) (atom_run w parts.0) (apart-each ws rest h) ∙ ap (before (Run w)) (pieces_each ws rest parts.1 h)
    ∙ ahead-before (Run w) (each_run ws) (pieces rest)
