-- The items of FETCH, the words of SELECT, and the keys of SORT and SEARCH take bytes.
use Rattle.std.proofs.Common.{◌≡◌, ℕ, zero, suc, ◌≤◌, Bool, true, false, cond, List, [], ◌∷◌, ◌++◌, length, drop, refl, sym, ap, arith, Option, Some, None, ℤ}
use Rattle.std.specs.Prelude.{codes}
use Rattle.date_grammar.specs.Dates.{search_day}
use Rattle.mail_text.specs.Texts.{begins}
use Rattle.imap_grammar.specs.declared.classes.Class.TheVariants.{Astring, Digit}
use Rattle.imap_grammar.specs.declared.fetching.ItemWord.{ItemWord}
use Rattle.imap_grammar.specs.declared.fetching.ItemWord.TheVariants as item
use Rattle.imap_grammar.specs.declared.fetching.PartWord.{PartWord}
use Rattle.imap_grammar.specs.declared.fetching.PartWord.TheVariants as part
use Rattle.imap_grammar.specs.declared.selecting.OpeningWord.{OpeningWord}
use Rattle.imap_grammar.specs.declared.selecting.OpeningWord.TheVariants.{Condstore, Qresync}
use Rattle.imap_grammar.specs.declared.keys.LeafWord.{LeafWord}
use Rattle.imap_grammar.specs.declared.keys.LeafWord.TheVariants as leaf
use Rattle.imap_grammar.specs.declared.keys.KeyWord.{KeyWord}
use Rattle.imap_grammar.specs.declared.keys.KeyWord.TheVariants.{Leaf, Not, Or}
use Rattle.imap_grammar.specs.declared.searching.SearchKey.{SearchKey}
use Rattle.imap_grammar.specs.declared.items.SectionPart.TheVariants as asked
use Rattle.imap_grammar.specs.Classes.{is_in}
use Rattle.imap_grammar.specs.Readings.{Reading, byte, given, sees}
use Rattle.imap_grammar.specs.Strings.{number32}
use Rattle.imap_grammar.specs.Fetching.{part_words, field_names, part_by, section_part, part_at, numbered_from, numbered, section, partial, bracketed, item_words, item_by, fetch_item}
use Rattle.imap_grammar.specs.Selecting.{matched, matched_behind, known, resync, opening_words, opening_by, opening}
use Rattle.imap_grammar.specs.Finding.{sort_names, sorted_by, reversed, sort_key}
use Rattle.imap_grammar.specs.Keys.{argument, day_in, longest_day, bare_day, quoted_day, day, entry_types, entry, entry_or_none, modseq_key, field_key, header_key, keyword_key, size_key, uid_key, leaf_by}
use Rattle.imap_grammar.specs.Searching.{key_words, group, set_key, not_key, or_key, key_by, named_key, level, within}
use Rattle.imap_grammar.proofs.ListLaws.{Under, Keeps, Takes, alike, none_of_empty}
use Rattle.imap_grammar.proofs.RuleLaws.{one_of, keeps, keeps_on, takes_on, takes_later, begun_takes, begun_keeps, pure_keeps, nothing_keeps, byte_takes, number32_takes, modseq_takes, keyword_takes, word_keeps, dropped, mapped, quoted_takes, string_takes, string_or_takes, separated_takes, listed_takes, seq_set_takes, keyword_flag_takes}

-- one rule or another by what a text is like
by_test_keeps : {A : Type 0} (test : List ℕ → Bool) {p q : Reading A} → Keeps p → Keeps q → Keeps (λ text. cond (test text) (p text) (q text))
by_test_keeps test {p = p} {q = q} kp kq = record { kept = λ text. one_of (suc (length text)) (test text) (p text) (q text) (kp.kept text) (kq.kept text) }

by_test_takes : {A : Type 0} (test : List ℕ → Bool) {p q : Reading A} → Takes p → Takes q → Takes (λ text. cond (test text) (p text) (q text))
by_test_takes test {p = p} {q = q} tp tq = record { less = λ text. one_of (length text) (test text) (p text) (q text) (tp.less text) (tq.less text) }

given_keeps : {A : Type 0} (o : Option A) → Keeps (given o)
given_keeps None = nothing_keeps
given_keeps (Some a) = pure_keeps a

-- Sections.
field_names_takes : Takes field_names
unfolding field_names
field_names_takes = takes_on (byte_takes 32) (λ _. keeps (listed_takes (string_or_takes Astring)))

part_keeps : (numbered : Bool) (w : PartWord) → Keeps (part_by numbered w)
unfolding part_by
part_keeps _ part.Header = pure_keeps _
part_keeps _ part.Fields = keeps_on (keeps field_names_takes) (λ names. pure_keeps _)
part_keeps _ part.OtherFields = keeps_on (keeps field_names_takes) (λ names. pure_keeps _)
part_keeps _ part.Text = pure_keeps _
part_keeps true part.Mime = pure_keeps _
part_keeps false part.Mime = nothing_keeps

section_part_takes : (numbered : Bool) → Takes (section_part numbered)
unfolding section_part
section_part_takes numbered = takes_on (keyword_takes part_words refl) (part_keeps numbered)

part_at_takes : (path : List ℕ) → Takes (part_at path)
unfolding part_at
part_at_takes path = takes_on (section_part_takes true) (λ what. pure_keeps _)

numbered_from_keeps : (turns : ℕ) (path : List ℕ) → Keeps (numbered_from turns path)
unfolding numbered_from
numbered_from_keeps zero path = nothing_keeps
numbered_from_keeps (suc turns) path =
    keeps_on (keeps (number32_takes 1))
    (λ n. begun_keeps 46
    (keeps_on (keeps (byte_takes 46)) (λ _. by_test_keeps (begins (is_in Digit)) (numbered_from_keeps turns (path ++ n ∷ [])) (keeps (part_at_takes (path ++ n ∷ [])))))
    (pure_keeps _))

numbered_keeps : Keeps numbered
numbered_keeps = record { kept = λ text. (numbered_from_keeps (length text) []).kept text }

numbered_alike : (n m : ℕ) (path text : List ℕ) → length text ≤ n → length text ≤ m → numbered_from n path text ≡ numbered_from m path text
unfolding numbered_from
numbered_alike zero zero path text hn hm = refl
numbered_alike zero (suc m) path [] hn hm = sym (none_of_empty (number32 1 []) _ ((number32_takes 1).less []))
numbered_alike zero (suc m) path (c ∷ cs) hn hm = absurd (omega (arith, hn))
numbered_alike (suc n) zero path [] hn hm = none_of_empty (number32 1 []) _ ((number32_takes 1).less [])
numbered_alike (suc n) zero path (c ∷ cs) hn hm = absurd (omega (arith, hm))
numbered_alike (suc n) (suc m) path text hn hm =
    alike _ _ (length text) (number32 1 text) ((number32_takes 1).less text)
    (λ k rest short. ap (λ y. cond (sees 46 rest) y (Some (record { path = path ++ k ∷ []; part = asked.Whole }, rest)))
    (alike _ _ (length rest) (byte 46 rest) ((byte_takes 46).less rest)
    (λ _ left less. ap (λ y. cond (begins (is_in Digit) left) y (part_at (path ++ k ∷ []) left)) (numbered_alike n m (path ++ k ∷ []) left (omega (arith, less, short, hn)) (omega (arith, less, short, hm))))))

pub numbers_suffice : (turns : ℕ) (text : List ℕ) → length text ≤ turns → numbered_from turns [] text ≡ numbered text
numbers_suffice turns text h = numbered_alike turns (length text) [] text h (omega arith)

section_keeps : Keeps section
unfolding section
section_keeps = by_test_keeps (begins (is_in Digit)) numbered_keeps (begun_keeps 93 (pure_keeps _) (keeps_on (keeps (section_part_takes false)) (λ what. pure_keeps _)))

partial_keeps : Keeps partial
unfolding partial
partial_keeps =
    begun_keeps 60
    (keeps_on (keeps (byte_takes 60))
    (λ _. keeps_on (keeps (number32_takes 0))
    (λ start. keeps_on (keeps (byte_takes 46)) (λ _. keeps_on (keeps (number32_takes 1)) (λ count. keeps_on (keeps (byte_takes 62)) (λ _. pure_keeps _))))))
    (pure_keeps None)

bracketed_keeps : (peek : Bool) → Keeps (bracketed peek)
unfolding bracketed
bracketed_keeps peek =
    keeps_on (keeps (byte_takes 91)) (λ _. keeps_on section_keeps (λ what. keeps_on (keeps (byte_takes 93)) (λ _. keeps_on partial_keeps (λ bytes. pure_keeps _))))

item_keeps : (w : ItemWord) → Keeps (item_by w)
unfolding item_by
item_keeps item.All = nothing_keeps
item_keeps item.Fast = nothing_keeps
item_keeps item.Full = nothing_keeps
item_keeps item.Body = begun_keeps 91 (bracketed_keeps false) (pure_keeps _)
item_keeps item.Peek = bracketed_keeps true
item_keeps item.BodyStructure = pure_keeps _
item_keeps item.Envelope = pure_keeps _
item_keeps item.Flags = pure_keeps _
item_keeps item.InternalDate = pure_keeps _
item_keeps item.Modseq = pure_keeps _
item_keeps item.Rfc822 = pure_keeps _
item_keeps item.Rfc822Header = pure_keeps _
item_keeps item.Rfc822Size = pure_keeps _
item_keeps item.Rfc822Text = pure_keeps _
item_keeps item.Uid = pure_keeps _

pub fetch_item_takes : Takes fetch_item
unfolding fetch_item
fetch_item_takes = takes_on (keyword_takes item_words refl) item_keeps

-- Words of SELECT.
matched_takes : Takes matched
unfolding matched
matched_takes = takes_on (byte_takes 40) (λ _. keeps_on (keeps seq_set_takes) (λ a. keeps_on (keeps (byte_takes 32)) (λ _. keeps_on (keeps seq_set_takes) (λ b. keeps (byte_takes 41)))))

matched_behind_keeps : Keeps matched_behind
unfolding matched_behind
matched_behind_keeps = begun_keeps 32 (keeps_on (keeps (byte_takes 32)) (λ _. keeps matched_takes)) (pure_keeps tt)

known_keeps : Keeps known
unfolding known
known_keeps =
    begun_keeps 32
    (keeps_on (keeps (byte_takes 32))
    (λ _. begun_keeps 40 (keeps_on (keeps matched_takes) (λ _. pure_keeps None)) (keeps_on (keeps seq_set_takes) (λ set. keeps_on matched_behind_keeps (λ _. pure_keeps (Some set))))))
    (pure_keeps None)

resync_takes : Takes resync
unfolding resync
resync_takes =
    takes_on (byte_takes 40)
    (λ _. keeps_on (keeps (number32_takes 0))
    (λ validity. keeps_on (keeps (byte_takes 32))
    (λ _. keeps_on (keeps (modseq_takes 1)) (λ since. keeps_on known_keeps (λ uids. keeps_on (keeps (byte_takes 41)) (λ _. pure_keeps _))))))

opening_keeps : (w : OpeningWord) → Keeps (opening_by w)
unfolding opening_by
opening_keeps Condstore = pure_keeps _
opening_keeps Qresync = keeps_on (keeps (byte_takes 32)) (λ _. keeps_on (keeps resync_takes) (λ what. pure_keeps _))

pub opening_takes : Takes opening
unfolding opening
opening_takes = takes_on (keyword_takes opening_words refl) opening_keeps

-- Keys of SORT.
sorted_by_takes : (reverse : Bool) → Takes (sorted_by reverse)
unfolding sorted_by
sorted_by_takes reverse = takes_on (keyword_takes sort_names refl) (λ by. pure_keeps _)

reversed_takes : Takes reversed
unfolding reversed
reversed_takes = takes_later (word_keeps (codes "REVERSE")) (λ _. takes_on (byte_takes 32) (λ _. keeps (sorted_by_takes true)))

pub sort_key_takes : Takes sort_key
unfolding sort_key
sort_key_takes = by_test_takes _ reversed_takes (sorted_by_takes false)

-- Keys of SEARCH.
argument_takes : Takes argument
unfolding argument
argument_takes = takes_on (byte_takes 32) (λ _. keeps (string_or_takes Astring))

longest_kept : (text : List ℕ) (a b : Option ℤ) → Under (suc (length text)) (longest_day text a b)
longest_kept text None b = mapped (suc (length text)) b (λ day. (day, drop 10 text)) (λ _. dropped 10 text)
longest_kept text (Some d) b = dropped 11 text

bare_day_keeps : Keeps bare_day
unfolding bare_day
bare_day_keeps = record { kept = λ text. longest_kept text (day_in 11 text) (day_in 10 text) }

quoted_day_keeps : Keeps quoted_day
unfolding quoted_day
quoted_day_keeps = keeps_on (keeps quoted_takes) (λ text. given_keeps (search_day text))

day_takes : Takes day
unfolding day
day_takes = takes_on (byte_takes 32) (λ _. begun_keeps 34 quoted_day_keeps bare_day_keeps)

entry_takes : Takes entry
unfolding entry
entry_takes = takes_on string_takes (λ _. keeps_on (keeps (byte_takes 32)) (λ _. keeps_on (keeps (keyword_takes entry_types refl)) (λ _. keeps_on (keeps (byte_takes 32)) (λ _. pure_keeps tt))))

entry_or_none_keeps : Keeps entry_or_none
unfolding entry_or_none
entry_or_none_keeps = begun_keeps 34 (keeps entry_takes) (begun_keeps 123 (keeps entry_takes) (pure_keeps tt))

modseq_key_takes : Takes modseq_key
unfolding modseq_key
modseq_key_takes = takes_on (byte_takes 32) (λ _. keeps_on entry_or_none_keeps (λ _. keeps_on (keeps (modseq_takes 0)) (λ n. pure_keeps _)))

field_key_takes : (name : List ℕ) → Takes (field_key name)
unfolding field_key
field_key_takes name = takes_on argument_takes (λ text. pure_keeps _)

header_key_takes : Takes header_key
unfolding header_key
header_key_takes = takes_on argument_takes (λ name. keeps_on (keeps argument_takes) (λ text. pure_keeps _))

keyword_key_takes : Takes keyword_key
unfolding keyword_key
keyword_key_takes = takes_on (byte_takes 32) (λ _. keeps keyword_flag_takes)

size_key_takes : Takes size_key
unfolding size_key
size_key_takes = takes_on (byte_takes 32) (λ _. keeps (number32_takes 0))

uid_key_takes : Takes uid_key
unfolding uid_key
uid_key_takes = takes_on (byte_takes 32) (λ _. keeps_on (keeps seq_set_takes) (λ set. pure_keeps _))

leaf_keeps : (w : LeafWord) → Keeps (leaf_by w)
unfolding leaf_by
leaf_keeps leaf.All = pure_keeps _
leaf_keeps leaf.Recent = pure_keeps _
leaf_keeps leaf.New = pure_keeps _
leaf_keeps leaf.Old = pure_keeps _
leaf_keeps (leaf.Has mark) = pure_keeps _
leaf_keeps (leaf.Lacks mark) = pure_keeps _
leaf_keeps leaf.Keyword = keeps_on (keeps keyword_key_takes) (λ flag. pure_keeps _)
leaf_keeps leaf.Unkeyword = keeps_on (keeps keyword_key_takes) (λ flag. pure_keeps _)
leaf_keeps leaf.Bcc = keeps (field_key_takes (codes "BCC"))
leaf_keeps leaf.Cc = keeps (field_key_takes (codes "CC"))
leaf_keeps leaf.From = keeps (field_key_takes (codes "FROM"))
leaf_keeps leaf.Subject = keeps (field_key_takes (codes "SUBJECT"))
leaf_keeps leaf.To = keeps (field_key_takes (codes "TO"))
leaf_keeps leaf.Header = keeps header_key_takes
leaf_keeps leaf.Body = keeps_on (keeps argument_takes) (λ text. pure_keeps _)
leaf_keeps leaf.Text = keeps_on (keeps argument_takes) (λ text. pure_keeps _)
leaf_keeps (leaf.Before sent) = keeps_on (keeps day_takes) (λ date. pure_keeps _)
leaf_keeps (leaf.On sent) = keeps_on (keeps day_takes) (λ date. pure_keeps _)
leaf_keeps (leaf.Since sent) = keeps_on (keeps day_takes) (λ date. pure_keeps _)
leaf_keeps leaf.Larger = keeps_on (keeps size_key_takes) (λ n. pure_keeps _)
leaf_keeps leaf.Smaller = keeps_on (keeps size_key_takes) (λ n. pure_keeps _)
leaf_keeps leaf.Uid = keeps uid_key_takes
leaf_keeps leaf.Modseq = keeps modseq_key_takes

set_key_takes : Takes set_key
unfolding set_key
set_key_takes = takes_on seq_set_takes (λ set. pure_keeps _)

group_takes : (inner : Reading SearchKey) → Takes inner → Takes (group inner)
unfolding group
group_takes inner t = takes_on (byte_takes 40) (λ _. keeps_on (keeps (separated_takes 32 t)) (λ keys. keeps_on (keeps (byte_takes 41)) (λ _. pure_keeps _)))

key_keeps : (inner : Reading SearchKey) → Takes inner → (w : KeyWord) → Keeps (key_by inner w)
unfolding not_key or_key
key_keeps inner t (Leaf name) = leaf_keeps name
key_keeps inner t Not = keeps_on (keeps (byte_takes 32)) (λ _. keeps_on (keeps t) (λ k. pure_keeps _))
key_keeps inner t Or = keeps_on (keeps (byte_takes 32)) (λ _. keeps_on (keeps t) (λ a. keeps_on (keeps (byte_takes 32)) (λ _. keeps_on (keeps t) (λ b. pure_keeps _))))

named_key_takes : (inner : Reading SearchKey) → Takes inner → Takes (named_key inner)
unfolding named_key
named_key_takes inner t = takes_on (keyword_takes key_words refl) (key_keeps inner t)

level_takes : (inner : Reading SearchKey) → Takes inner → Takes (level inner)
unfolding level
level_takes inner t = begun_takes 40 (group_takes inner t) (begun_takes 42 set_key_takes (by_test_takes (begins (is_in Digit)) set_key_takes (named_key_takes inner t)))

pub within_takes : (levels : ℕ) → Takes (within levels)
unfolding within
within_takes zero = record { less = λ text. tt }
within_takes (suc levels) = level_takes (within levels) (within_takes levels)
