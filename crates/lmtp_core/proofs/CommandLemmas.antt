-- Recipients as they are written.
use Rattle.std.proofs.Common.{◌≡◌, ◌≢◌, ℕ, suc, ◌-◌, Bool, true, false, cond, Some, List, [], ◌∷◌, ◌++◌, length, take, map, codes, refl, ◌∙◌, ap, arith, length-append, append_assoc}
use Rattle.std.specs.List.{AllPass}
use Rattle.std.specs.Char.{to_ascii_lowercase}
use Rattle.std.proofs.Math.Seq.{take-append_seam}
use Rattle.mail_text.specs.Texts.{behind, front}
use Rattle.lmtp_core.specs.declared.commands.Command.{Command}
use Rattle.lmtp_core.specs.declared.commands.Command.TheVariants.{Rcpt, OtherForm}
use Rattle.lmtp_core.specs.Lines.{line_end}
use Rattle.lmtp_core.specs.Commands.{asked, asked_by, closes, command, ends_path, is_domain_byte, is_form, is_local_byte, is_path, isnt_space, local_part, named, tail_of, without_end, words}

without-end : (text : List ℕ) → without_end (text ++ line_end) ≡ text
without-end text =
    let count : length (text ++ line_end) - 2 ≡ length text = omega (arith, length-append text line_end) in
    ap (λ n. take n (text ++ line_end)) count ∙ take-append_seam text line_end

all-head : (test : ℕ → Bool) (b : ℕ) (bs : List ℕ) → AllPass test (b ∷ bs) → test b ≡ true
all-head test b bs all = all 0 b (omega arith)

all-tail : (test : ℕ → Bool) (b : ℕ) (bs : List ℕ) → AllPass test (b ∷ bs) → AllPass test bs
all-tail test b bs all = λ k d h. all (suc k) d (omega arith)

front-all : (test : ℕ → Bool) (bytes : List ℕ) (next : ℕ) (more : List ℕ) → AllPass test bytes → test next ≡ false → front test (bytes ++ next ∷ more) ≡ bytes
front-all test [] next more all ends = rw ends refl
front-all test (b ∷ bs) next more all ends = rw (all-head test b bs all) (ap (λ (l : List ℕ). b ∷ l) (front-all test bs next more (all-tail test b bs all) ends))

behind-all : (test : ℕ → Bool) (bytes : List ℕ) (next : ℕ) (more : List ℕ) → AllPass test bytes → test next ≡ false → behind test (bytes ++ next ∷ more) ≡ next ∷ more
behind-all test [] next more all ends = rw ends refl
behind-all test (b ∷ bs) next more all ends = rw (all-head test b bs all) (behind-all test bs next more (all-tail test b bs all) ends)

-- a path, of which the local part ends before a byte with which it can end
path : (local : List ℕ) (next : ℕ) (more : List ℕ) → local ≢ [] → AllPass is_local_byte local → is_local_byte next ≡ false → ends_path (next ∷ more) ≡ true
    → is_path (local ++ next ∷ more) ≡ true
path [] next more some all ends closed = absurd (some refl)
path (b ∷ bs) next more some all ends closed =
    rw (all-head is_local_byte b bs all) (ap ends_path (behind-all is_local_byte bs next more (all-tail is_local_byte b bs all) ends) ∙ closed)

-- RCPT with such a path
named_rcpt : Command → List ℕ → Command
named_rcpt word tail = cond (is_form word tail) word OtherForm

command_text : (line text : List ℕ) → without_end line ≡ text → command line ≡ named_rcpt (named words (front isnt_space text)) (behind isnt_space text)
unfolding command named_rcpt
command_text line text e = ap (λ (t : List ℕ). cond (is_form (named words (front isnt_space t)) (behind isnt_space t)) (named words (front isnt_space t)) OtherForm) e

pub recipient : (rest : List ℕ) → is_path rest ≡ true → command ((codes "RCPT TO:<" ++ rest) ++ line_end) ≡ Rcpt
unfolding named_rcpt
recipient rest is = command_text ((codes "RCPT TO:<" ++ rest) ++ line_end) (codes "RCPT TO:<" ++ rest) (without-end (codes "RCPT TO:<" ++ rest)) ∙ (rw is refl)

pub recipient_asked : (rest : List ℕ) → is_path rest ≡ true → asked ((codes "RCPT TO:<" ++ rest) ++ line_end) ≡ Some (map to_ascii_lowercase (front is_local_byte rest))
recipient_asked rest is =
    ap (λ (word : Command). asked_by word (tail_of ((codes "RCPT TO:<" ++ rest) ++ line_end))) (recipient rest is)
    ∙ ap (λ (text : List ℕ). Some (local_part (behind isnt_space text))) (without-end (codes "RCPT TO:<" ++ rest))

-- written with a domain and without one
with_local : (local : List ℕ) → codes "RCPT TO:<" ++ local ++ codes ">\r\n" ≡ (codes "RCPT TO:<" ++ (local ++ codes ">")) ++ line_end
with_local local = simp append_assoc refl

with_domain : (local domain : List ℕ) → codes "RCPT TO:<" ++ local ++ codes "@" ++ domain ++ codes ">\r\n" ≡ (codes "RCPT TO:<" ++ (local ++ 64 ∷ (domain ++ codes ">"))) ++ line_end
with_domain local domain = simp append_assoc refl

pub local_asked : (local : List ℕ) → local ≢ [] → AllPass is_local_byte local
    → asked (codes "RCPT TO:<" ++ local ++ codes ">\r\n") ≡ Some (map to_ascii_lowercase local)
local_asked local some all =
    ap asked (with_local local)
    ∙ recipient_asked (local ++ codes ">") (path local 62 [] some all refl refl)
    ∙ ap (λ (l : List ℕ). Some (map to_ascii_lowercase l)) (front-all is_local_byte local 62 [] all refl)

closed_domain : (domain : List ℕ) → AllPass is_domain_byte domain → ends_path (64 ∷ (domain ++ 62 ∷ [])) ≡ true
closed_domain domain all = ap closes (behind-all is_domain_byte domain 62 [] all refl)

pub domain_asked : (local domain : List ℕ) → local ≢ [] → AllPass is_local_byte local → AllPass is_domain_byte domain
    → asked (codes "RCPT TO:<" ++ local ++ codes "@" ++ domain ++ codes ">\r\n") ≡ Some (map to_ascii_lowercase local)
domain_asked local domain some all all_domain =
    ap asked (with_domain local domain)
    ∙ recipient_asked (local ++ 64 ∷ (domain ++ codes ">")) (path local 64 (domain ++ codes ">") some all refl (closed_domain domain all_domain))
    ∙ ap (λ (l : List ℕ). Some (map to_ascii_lowercase l)) (front-all is_local_byte local 64 (domain ++ codes ">") all refl)
