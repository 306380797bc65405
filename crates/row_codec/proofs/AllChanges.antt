-- Lists of changes that are read, and that no others have their bytes.
use Rattle.std.proofs.Common.{◌≡◌, ℕ, ◌<◌, List, [], ◌∷◌, ◌++◌, length, Some, None, refl, sym, ap, ◌∙◌, append_assoc, arith}
use Rattle.std.specs.List.{AllByRecursion}
use Rattle.std.proofs.lemmas.List.{append-nil}
use Rattle.std.proofs.lemmas.Grind.{flat_map-append}
use Rattle.std.proofs.lemmas.Option.{none-some}
use Rattle.row_tables.specs.declared.change.RowChange.{RowChange}
use Rattle.row_codec.specs.Encoding.{encoding_of, encoding, HasTexts, HasWidths, HaveTexts, HaveWidths}
use Rattle.row_codec.specs.Reading.{read_change}
use Rattle.row_codec.proofs.Fields.{found_is}
use Rattle.row_codec.proofs.OneChange.{change_again}

read_nothing : read_change [] ≡ None
unfolding read_change
read_nothing = refl

-- the first of the changes is read, and the rest are left
first_read : (change : RowChange) (changes : List RowChange) (rest : List ℕ) → HaveTexts (change ∷ changes) → HaveWidths (change ∷ changes)
    → read_change (encoding (change ∷ changes) ++ rest) ≡ Some (change, encoding changes ++ rest)
first_read change changes rest texts widths = ap read_change (append_assoc (encoding_of change) (encoding changes) rest) ∙ change_again change (encoding changes ++ rest) texts.0 widths.0

-- no change is at the front of what is left, so no list of changes has all of the bytes
pub no_other : (changes others : List RowChange) (rest : List ℕ) → HaveTexts changes → HaveWidths changes → HaveTexts others → HaveWidths others
    → 0 < length rest → read_change rest ≡ None → encoding changes ++ rest ≡ encoding others ++ [] → ⊥
no_other [] [] rest texts widths texts' widths' some none same = absurd (omega (arith, ap length same))
no_other [] (o ∷ others) rest texts widths texts' widths' some none same =
    none-some (o, encoding others ++ []) (sym none ∙ ap read_change same ∙ first_read o others [] texts' widths')
no_other (c ∷ changes) [] rest texts widths texts' widths' some none same =
    none-some (c, encoding changes ++ rest) (sym read_nothing ∙ ap read_change (sym same) ∙ first_read c changes rest texts widths)
no_other (c ∷ changes) (o ∷ others) rest texts widths texts' widths' some none same =
    let both = found_is (c, encoding changes ++ rest) (o, encoding others ++ []) (sym (first_read c changes rest texts widths) ∙ ap read_change same ∙ first_read o others [] texts' widths') in
    no_other changes others rest texts.1 widths.1 texts'.1 widths'.1 some none (ap (λ (p : RowChange × List ℕ). p.1) both)

pub same_lists : (changes others : List RowChange) → HaveTexts changes → HaveWidths changes → HaveTexts others → HaveWidths others
    → encoding changes ++ [] ≡ encoding others ++ [] → changes ≡ others
same_lists [] [] texts widths texts' widths' same = refl
same_lists [] (o ∷ others) texts widths texts' widths' same =
    absurd (none-some (o, encoding others ++ []) (sym read_nothing ∙ ap read_change same ∙ first_read o others [] texts' widths'))
same_lists (c ∷ changes) [] texts widths texts' widths' same =
    absurd (none-some (c, encoding changes ++ []) (sym read_nothing ∙ ap read_change (sym same) ∙ first_read c changes [] texts widths))
same_lists (c ∷ changes) (o ∷ others) texts widths texts' widths' same =
    let both = found_is (c, encoding changes ++ []) (o, encoding others ++ []) (sym (first_read c changes [] texts widths) ∙ ap read_change same ∙ first_read o others [] texts' widths') in
    let behind = same_lists changes others texts.1 widths.1 texts'.1 widths'.1 (ap (λ (p : RowChange × List ℕ). p.1) both) in
    ap (λ (x : RowChange). x ∷ changes) (ap (λ (p : RowChange × List ℕ). p.0) both) ∙ ap (λ (l : List RowChange). o ∷ l) behind

all_more : (P : RowChange → Type 0) (changes : List RowChange) (change : RowChange) → AllByRecursion P changes → P change → AllByRecursion P (changes ++ change ∷ [])
all_more P [] change all one = (one, tt)
all_more P (c ∷ changes) change all one = (all.0, all_more P changes change all.1 one)

pub more_texts : (changes : List RowChange) (change : RowChange) → HaveTexts changes → HasTexts change → HaveTexts (changes ++ change ∷ [])
more_texts changes change all one = all_more HasTexts changes change all one

pub more_widths : (changes : List RowChange) (change : RowChange) → HaveWidths changes → HasWidths change → HaveWidths (changes ++ change ∷ [])
more_widths changes change all one = all_more HasWidths changes change all one

-- the bytes after one more change was read
pub more_read : (bytes rest after : List ℕ) (changes : List RowChange) (change : RowChange) → bytes ≡ encoding changes ++ rest → rest ≡ encoding_of change ++ after
    → bytes ≡ encoding (changes ++ change ∷ []) ++ after
more_read bytes rest after changes change split is =
    split ∙ ap (λ (l : List ℕ). encoding changes ++ l) is ∙ sym (append_assoc (encoding changes) (encoding_of change) after)
    ∙ ap (λ (l : List ℕ). l ++ after) (sym (flat_map-append encoding_of changes (change ∷ []) ∙ ap (λ (l : List ℕ). encoding changes ++ l) (append-nil (encoding_of change))))

-- with nothing behind the lists
pub no_list : (changes others : List RowChange) (rest bytes : List ℕ) → HaveTexts changes → HaveWidths changes → 0 < length rest → read_change rest ≡ None
    → bytes ≡ encoding changes ++ rest → HaveTexts others → HaveWidths others → bytes ≡ encoding others → ⊥
no_list changes others rest bytes texts widths some none split texts' widths' same =
    no_other changes others rest texts widths texts' widths' some none (sym split ∙ same ∙ sym (append-nil (encoding others)))

pub one_list : (changes others : List RowChange) → HaveTexts changes → HaveWidths changes → HaveTexts others → HaveWidths others → encoding changes ≡ encoding others → changes ≡ others
one_list changes others texts widths texts' widths' same =
    same_lists changes others texts widths texts' widths' (append-nil (encoding changes) ∙ same ∙ sym (append-nil (encoding others)))
