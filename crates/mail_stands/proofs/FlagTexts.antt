-- Flags are told apart by how they are written.
use Rattle.std.proofs.Common.{ℕ, ◌≡◌, true, List, [], ◌∷◌, refl, sym, ◌∙◌, ⊎_elim}
use Rattle.std.specs.Prelude.{nat_eq}
use Rattle.std.specs.List.{list_all}
use Rattle.std.specs.Cmp.Lexicographic.{pointwise}
use Rattle.std.proofs.lemmas.Bool.{eq-eqb, and_parts, and_from, or_cases, or_left, or_right}
use Rattle.imap_grammar.specs.Flags.{flag_text}
use Rattle.imap_grammar.specs.declared.flags.Flag.{Flag}
use Rattle.mail_world.specs.Names.{same_name}
use Rattle.mail_world.specs.Flags.{is_flag, same_flag, has_flag, same_flags}
use Rattle.mail_stands.specs.Facts.{has_flag_named}
use Rattle.mail_stands.proofs.Written.{written}

pub same_itself : (name : List ℕ) → pointwise nat_eq name name ≡ true
same_itself [] = refl
same_itself (b ∷ bytes) = rw (eq-eqb b b refl) (same_itself bytes)

text_same : (g f : Flag) → is_flag g ≡ true → is_flag f ≡ true → same_name (flag_text g) (flag_text f) ≡ true → same_flag g f ≡ true
text_same g f p q e = sym (written g f p q) ∙ e

-- a flag whose text is that of one in a list is in the list
found_named : (f : Flag) (flags : List Flag) → is_flag f ≡ true → list_all is_flag flags ≡ true → has_flag_named (flag_text f) flags ≡ true → has_flag f flags ≡ true
found_named f [] p all e = e
found_named f (g ∷ flags) p all e =
    let parts = and_parts (is_flag g) (list_all is_flag flags) all in
    ⊎_elim (λ here. or_left (same_flag g f) (has_flag f flags) (text_same g f parts.0 p here)) (λ there. or_right (same_flag g f) (has_flag f flags) (found_named f flags p parts.1 there))
    (or_cases (same_name (flag_text g) (flag_text f)) (has_flag_named (flag_text f) flags) e)

within : (flags others : List Flag) → list_all is_flag flags ≡ true → list_all is_flag others ≡ true → ((name : List ℕ) → has_flag_named name flags ≡ true → has_flag_named name others ≡ true)
    → list_all (λ flag. has_flag flag others) flags ≡ true
within [] others p q sub = refl
within (f ∷ flags) others p q sub =
    let parts = and_parts (is_flag f) (list_all is_flag flags) p in
    and_from (has_flag f others) (list_all (λ flag. has_flag flag others) flags)
    (found_named f others parts.0 q (sub (flag_text f) (or_left (same_name (flag_text f) (flag_text f)) (has_flag_named (flag_text f) flags) (same_itself (flag_text f)))))
    (within flags others parts.1 q (λ name there. sub name (or_right (same_name (flag_text f) name) (has_flag_named name flags) there)))

-- flags that are written the same are the same
pub named_same : (a b : List Flag) → list_all is_flag a ≡ true → list_all is_flag b ≡ true → ((name : List ℕ) → has_flag_named name a ≡ has_flag_named name b) → same_flags a b ≡ true
named_same a b p q same =
    and_from (list_all (λ flag. has_flag flag b) a) (list_all (λ flag. has_flag flag a) b) (within a b p q (λ name there. sym (same name) ∙ there)) (within b a q p (λ name there. same name ∙ there))
