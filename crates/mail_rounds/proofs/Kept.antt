-- Lists of links and of their sessions, found by their numbers.
use Rattle.std.proofs.Common.{ℕ, zero, suc, ◌≡◌, ◌≢◌, ◌+◌, ◌<◌, ◌≤◌, ◌==◌, not, Bool, true, false, cond, List, [], ◌∷◌, ◌++◌, map, take, drop, set, Option, Some, None, refl, sym, ◌∙◌, ap, subst, arith}
use Rattle.std.specs.List.{filter, count_by, slice_get}
use Rattle.std.proofs.lemmas.Bool.Decides.{nat_tests}
use Rattle.std.proofs.lemmas.List.Sums.{sum_by-cons}
use Rattle.port_model.specs.declared.calls.PortCall.{PortCall}
use Rattle.port_model.specs.declared.calls.PortCall.TheVariants.{Close}
use Rattle.port_model.specs.History.{is_closed}
use Rattle.mail_model.specs.Machine.{Session, is_open, session_at, becomes, at_once}
use Rattle.mail_rounds.specs.declared.link.Link.{Link}
use Rattle.mail_rounds.specs.Held.{session_of, queue_of, Ascending}
use Rattle.mail_rounds.specs.Calls.{is_kept}
use Rattle.mail_rounds.specs.Serves.{OpenAreKept}

-- Numbers.

equal : (a b : ℕ) → (a == b) ≡ true → a ≡ b
equal a b h = grind (arith, nat_tests)

pub same : (a b : ℕ) → a ≡ b → (a == b) ≡ true
same a b h = grind (arith, nat_tests)

pub apart : (a b : ℕ) → a ≢ b → (a == b) ≡ false
apart a b h = grind (arith, nat_tests)

differ : (a b : ℕ) → (a == b) ≡ false → a ≢ b
differ a b h e = cc (same a b e)

-- Links in the order of their numbers.

pub ascending-within : (low : ℕ) (links : List Link) (last : ℕ) → Ascending low links last → low ≤ last
ascending-within low [] last h = h
ascending-within low (l ∷ links) last h = omega (arith, h.0, ascending-within l.number links last h.1)

pub ascending-here : (low : ℕ) (front : List Link) (link : Link) (back : List Link) (last : ℕ) → Ascending low (front ++ link ∷ back) last
    → (low < link.number) × Ascending link.number back last
ascending-here low [] link back last h = h
ascending-here low (l ∷ front) link back last h =
    let here = ascending-here l.number front link back last h.1 in
    (omega (arith, h.0, here.0), here.1)

pub ascending-becomes : (low : ℕ) (front : List Link) (link new : Link) (back : List Link) (last : ℕ) → new.number ≡ link.number
    → Ascending low (front ++ link ∷ back) last → Ascending low (front ++ new ∷ back) last
ascending-becomes low [] link new back last e h = (subst (λ (n : ℕ). low < n) (sym e) h.0, subst (λ (n : ℕ). Ascending n back last) (sym e) h.1)
ascending-becomes low (l ∷ front) link new back last e h = (h.0, ascending-becomes l.number front link new back last e h.1)

ascending-lower : (low low' : ℕ) (links : List Link) (last : ℕ) → low ≤ low' → Ascending low' links last → Ascending low links last
ascending-lower low low' [] last le h = omega (arith, h)
ascending-lower low low' (l ∷ links) last le h = (omega (arith, h.0), h.1)

pub ascending-without : (low : ℕ) (front : List Link) (link : Link) (back : List Link) (last : ℕ) → Ascending low (front ++ link ∷ back) last → Ascending low (front ++ back) last
ascending-without low [] link back last h = ascending-lower low link.number back last (omega (arith, h.0)) h.1
ascending-without low (l ∷ front) link back last h = (h.0, ascending-without l.number front link back last h.1)

pub ascending-more : (low : ℕ) (links : List Link) (link : Link) (last : ℕ) → Ascending low links last → last < link.number → Ascending low (links ++ link ∷ []) link.number
ascending-more low [] link last h above = (omega (arith, h), omega arith)
ascending-more low (l ∷ links) link last h above = (h.0, ascending-more l.number links link last h.1 above)

-- The answers of a number that aren't sent yet.

queue-above : (n low : ℕ) (links : List Link) (last : ℕ) → n ≤ low → Ascending low links last → queue_of n links ≡ []
queue-above n low [] last le h = refl
queue-above n low (l ∷ links) last le h =
    rw (apart l.number n (omega (arith, h.0))) (queue-above n l.number links last (omega (arith, h.0)) h.1)

pub queue-past : (n low : ℕ) (links : List Link) (last : ℕ) → last < n → Ascending low links last → queue_of n links ≡ []
queue-past n low [] last above h = refl
queue-past n low (l ∷ links) last above h =
    let within = ascending-within l.number links last h.1 in
    rw (apart l.number n (omega arith)) (queue-past n l.number links last above h.1)

pub queue-here : (n low : ℕ) (front : List Link) (link : Link) (back : List Link) (last : ℕ) → link.number ≡ n → Ascending low (front ++ link ∷ back) last
    → queue_of n (front ++ link ∷ back) ≡ link.queue.items
queue-here n low [] link back last e h = rw (same link.number n e) refl
queue-here n low (l ∷ front) link back last e h =
    let here = ascending-here l.number front link back last h.1 in
    rw (apart l.number n (omega (arith, here.0))) (queue-here n l.number front link back last e h.1)

pub queue-other : (n : ℕ) (front : List Link) (link new : Link) (back : List Link) → new.number ≡ link.number → link.number ≢ n
    → queue_of n (front ++ new ∷ back) ≡ queue_of n (front ++ link ∷ back)
queue-other n [] link new back e ne = rw (apart link.number n ne, apart new.number n (λ f. ne (sym e ∙ f))) refl
queue-other n (l ∷ front) link new back e ne = ap (λ (q : List ℕ). cond (l.number == n) l.queue.items q) (queue-other n front link new back e ne)

pub queue-without : (n : ℕ) (front : List Link) (link : Link) (back : List Link) → link.number ≢ n
    → queue_of n (front ++ back) ≡ queue_of n (front ++ link ∷ back)
queue-without n [] link back ne = rw (apart link.number n ne) refl
queue-without n (l ∷ front) link back ne = ap (λ (q : List ℕ). cond (l.number == n) l.queue.items q) (queue-without n front link back ne)

pub queue-gone : (low : ℕ) (front : List Link) (link : Link) (back : List Link) (last : ℕ) → Ascending low (front ++ link ∷ back) last
    → queue_of link.number (front ++ back) ≡ []
queue-gone low [] link back last h = queue-above link.number link.number back last (omega arith) h.1
queue-gone low (l ∷ front) link back last h =
    let here = ascending-here l.number front link back last h.1 in
    rw (apart l.number link.number (omega (arith, here.0))) (queue-gone l.number front link back last h.1)

pub queue-more : (n : ℕ) (links : List Link) (link : Link) → link.number ≢ n → queue_of n (links ++ link ∷ []) ≡ queue_of n links
queue-more n [] link ne = rw (apart link.number n ne) refl
queue-more n (l ∷ links) link ne = ap (λ (q : List ℕ). cond (l.number == n) l.queue.items q) (queue-more n links link ne)

-- The sessions of links.

pub at-here : (n low : ℕ) (front : List Link) (link : Link) (back : List Link) (last : ℕ) → link.number ≡ n → Ascending low (front ++ link ∷ back) last
    → session_at n (map session_of (front ++ link ∷ back)) ≡ Some (session_of link)
at-here n low [] link back last e h = rw (same link.number n e) refl
at-here n low (l ∷ front) link back last e h =
    let here = ascending-here l.number front link back last h.1 in
    rw (apart l.number n (omega (arith, here.0))) (at-here n l.number front link back last e h.1)

becomes-above : (new : Session) (low : ℕ) (links : List Link) (last : ℕ) → new.number ≤ low → Ascending low links last
    → becomes new (map session_of links) ≡ map session_of links
becomes-above new low [] last le h = refl
becomes-above new low (l ∷ links) last le h =
    rw (apart l.number new.number (omega (arith, h.0)))
    (ap (λ (ss : List Session). session_of l ∷ ss) (becomes-above new l.number links last (omega (arith, h.0)) h.1))

pub becomes-here : (low : ℕ) (front : List Link) (link new : Link) (back : List Link) (last : ℕ) → new.number ≡ link.number → Ascending low (front ++ link ∷ back) last
    → becomes (session_of new) (map session_of (front ++ link ∷ back)) ≡ map session_of (front ++ new ∷ back)
becomes-here low [] link new back last e h =
    rw (same link.number new.number (sym e))
    (ap (λ (ss : List Session). session_of new ∷ ss) (becomes-above (session_of new) link.number back last (omega (arith, e)) h.1))
becomes-here low (l ∷ front) link new back last e h =
    let here = ascending-here l.number front link back last h.1 in
    rw (apart l.number new.number (omega (arith, here.0, e)))
    (ap (λ (ss : List Session). session_of l ∷ ss) (becomes-here l.number front link new back last e h.1))

-- Sessions that are found by a number.

at-other-head : (n : ℕ) (new s : Session) (ss : List Session) (is : Bool) → (s.number == new.number) ≡ is → new.number ≢ n
    → session_at n (becomes new ss) ≡ session_at n ss → session_at n (becomes new (s ∷ ss)) ≡ session_at n (s ∷ ss)
at-other-head n new s ss true e ne h =
    let is = equal s.number new.number e in
    rw (e, apart new.number n ne, apart s.number n (λ f. ne (sym is ∙ f))) h
at-other-head n new s ss false e ne h = rw e (ap (λ (o : Option Session). cond (s.number == n) (Some s) o) h)

pub at-other : (n : ℕ) (new : Session) (ss : List Session) → new.number ≢ n → session_at n (becomes new ss) ≡ session_at n ss
at-other n new [] ne = refl
at-other n new (s ∷ ss) ne = at-other-head n new s ss (s.number == new.number) refl ne (at-other n new ss ne)

at-becomes-head : (new s found : Session) (ss : List Session) (is : Bool) → (s.number == new.number) ≡ is
    → (session_at new.number ss ≡ Some found → session_at new.number (becomes new ss) ≡ Some new)
    → session_at new.number (s ∷ ss) ≡ Some found → session_at new.number (becomes new (s ∷ ss)) ≡ Some new
at-becomes-head new s found ss true e rest h = rw (e, same new.number new.number refl) refl
at-becomes-head new s found ss false e rest h = rw (e, e) (rest (rw e at h))

pub at-becomes : (new found : Session) (ss : List Session) → session_at new.number ss ≡ Some found → session_at new.number (becomes new ss) ≡ Some new
at-becomes new found [] h = cc
at-becomes new found (s ∷ ss) h = at-becomes-head new s found ss (s.number == new.number) refl (at-becomes new found ss) h

pub at-more-other : (n : ℕ) (ss : List Session) (new : Session) → new.number ≢ n → session_at n (ss ++ new ∷ []) ≡ session_at n ss
at-more-other n [] new ne = rw (apart new.number n ne) refl
at-more-other n (s ∷ ss) new ne = ap (λ (o : Option Session). cond (s.number == n) (Some s) o) (at-more-other n ss new ne)

at-more-head : (s new : Session) (ss : List Session) (is : Bool) → (s.number == new.number) ≡ is
    → (session_at new.number ss ≡ None → session_at new.number (ss ++ new ∷ []) ≡ Some new)
    → session_at new.number (s ∷ ss) ≡ None → session_at new.number (s ∷ ss ++ new ∷ []) ≡ Some new
at-more-head s new ss true e rest h = let bad = rw e at h in cc
at-more-head s new ss false e rest h = rw e (rest (rw e at h))

pub at-more : (ss : List Session) (new : Session) → session_at new.number ss ≡ None → session_at new.number (ss ++ new ∷ []) ≡ Some new
at-more [] new h = rw (same new.number new.number refl) refl
at-more (s ∷ ss) new h = at-more-head s new ss (s.number == new.number) refl (at-more ss new) h

-- The sessions whose links aren't closed.

at-kept-head : (history : List PortCall) (n : ℕ) (s : Session) (ss : List Session) (closed is : Bool) → is_closed history s.number ≡ closed → (s.number == n) ≡ is
    → is_closed history n ≡ false → session_at n (filter (is_kept history) ss) ≡ session_at n ss
    → session_at n (filter (is_kept history) (s ∷ ss)) ≡ session_at n (s ∷ ss)
at-kept-head history n s ss true true c e h rest =
    let bad = ap (is_closed history) (equal s.number n e) in cc
at-kept-head history n s ss true false c e h rest = rw (c, e) rest
at-kept-head history n s ss false is c e h rest = rw c (ap (λ (o : Option Session). cond (s.number == n) (Some s) o) rest)

pub at-kept : (history : List PortCall) (n : ℕ) (ss : List Session) → is_closed history n ≡ false
    → session_at n (filter (is_kept history) ss) ≡ session_at n ss
at-kept history n [] h = refl
at-kept history n (s ∷ ss) h =
    at-kept-head history n s ss (is_closed history s.number) (s.number == n) refl refl h (at-kept history n ss h)

found-kept-head : (history : List PortCall) (n : ℕ) (s found : Session) (ss : List Session) (closed is : Bool) → is_closed history s.number ≡ closed → (s.number == n) ≡ is
    → (session_at n (filter (is_kept history) ss) ≡ Some found → is_closed history n ≡ false)
    → session_at n (filter (is_kept history) (s ∷ ss)) ≡ Some found → is_closed history n ≡ false
found-kept-head history n s found ss true is c e rest h = rest (rw c at h)
found-kept-head history n s found ss false true c e rest h = sym (ap (is_closed history) (equal s.number n e)) ∙ c
found-kept-head history n s found ss false false c e rest h = rest (rw (c, e) at h)

-- a session that is found among those that are kept isn't closed
pub found-kept : (history : List PortCall) (n : ℕ) (found : Session) (ss : List Session)
    → session_at n (filter (is_kept history) ss) ≡ Some found → is_closed history n ≡ false
found-kept history n found [] h = cc
found-kept history n found (s ∷ ss) h =
    found-kept-head history n s found ss (is_closed history s.number) (s.number == n) refl refl (found-kept history n found ss) h

becomes-kept-head : (history : List PortCall) (new s : Session) (ss : List Session) (closed is : Bool) → is_closed history s.number ≡ closed → (s.number == new.number) ≡ is
    → filter (is_kept history) (becomes new ss) ≡ becomes new (filter (is_kept history) ss)
    → filter (is_kept history) (becomes new (s ∷ ss)) ≡ becomes new (filter (is_kept history) (s ∷ ss))
becomes-kept-head history new s ss true true c e rest =
    let here : is_closed history new.number ≡ true = sym (ap (is_closed history) (equal s.number new.number e)) ∙ c in
    rw (e, here, c) rest
becomes-kept-head history new s ss false true c e rest =
    let here : is_closed history new.number ≡ false = sym (ap (is_closed history) (equal s.number new.number e)) ∙ c in
    rw (e, here, c, e) (ap (λ (xs : List Session). new ∷ xs) rest)
becomes-kept-head history new s ss true false c e rest = rw (e, c) rest
becomes-kept-head history new s ss false false c e rest = rw (e, c, e) (ap (λ (xs : List Session). s ∷ xs) rest)

pub becomes-kept : (history : List PortCall) (new : Session) (ss : List Session)
    → filter (is_kept history) (becomes new ss) ≡ becomes new (filter (is_kept history) ss)
becomes-kept history new [] = refl
becomes-kept history new (s ∷ ss) =
    becomes-kept-head history new s ss (is_closed history s.number) (s.number == new.number) refl refl (becomes-kept history new ss)

pub kept-same : (before later : List PortCall) (ss : List Session) → ((n : ℕ) → is_closed later n ≡ is_closed before n)
    → filter (is_kept later) ss ≡ filter (is_kept before) ss
kept-same before later [] h = refl
kept-same before later (s ∷ ss) h = rw (h s.number, kept-same before later ss h) refl

-- Only sessions that aren't open are closed.

pub open_kept-same : (before later : List PortCall) (ss : List Session) → ((n : ℕ) → is_closed later n ≡ is_closed before n)
    → OpenAreKept before ss → OpenAreKept later ss
open_kept-same before later [] h kept = tt
open_kept-same before later (s ∷ ss) h kept = (λ opened. h s.number ∙ kept.0 opened, open_kept-same before later ss h kept.1)

open_kept-head : (history : List PortCall) (new s : Session) (ss : List Session) (is : Bool) → (s.number == new.number) ≡ is → is_closed history new.number ≡ false
    → (is_open s.standing ≡ true → is_closed history s.number ≡ false) → OpenAreKept history (becomes new ss) → OpenAreKept history (becomes new (s ∷ ss))
open_kept-head history new s ss true e h here rest = rw e (λ opened. h, rest)
open_kept-head history new s ss false e h here rest = rw e (here, rest)

pub open_kept-becomes : (history : List PortCall) (new : Session) (ss : List Session) → is_closed history new.number ≡ false
    → OpenAreKept history ss → OpenAreKept history (becomes new ss)
open_kept-becomes history new [] h kept = tt
open_kept-becomes history new (s ∷ ss) h kept =
    open_kept-head history new s ss (s.number == new.number) refl h kept.0 (open_kept-becomes history new ss h kept.1)

pub open_kept-more : (history : List PortCall) (ss : List Session) (new : Session) → is_closed history new.number ≡ false
    → OpenAreKept history ss → OpenAreKept history (ss ++ new ∷ [])
open_kept-more history [] new h kept = (λ opened. h, tt)
open_kept-more history (s ∷ ss) new h kept = (kept.0, open_kept-more history ss new h kept.1)

counted : (s : Session) (ss : List Session) → at_once (s ∷ ss) ≡ cond (is_open s.standing) 1 0 + at_once ss
counted s ss = sum_by-cons (λ (session : Session). cond (is_open session.standing) 1 0) s ss

at_once-head : (history : List PortCall) (s : Session) (ss : List Session) (closed opened : Bool) → is_closed history s.number ≡ closed → is_open s.standing ≡ opened
    → (is_open s.standing ≡ true → is_closed history s.number ≡ false)
    → at_once (filter (is_kept history) ss) ≡ at_once ss → at_once (filter (is_kept history) (s ∷ ss)) ≡ at_once (s ∷ ss)
at_once-head history s ss true true c o here rest = let bad = here o in cc
at_once-head history s ss true false c o here rest = rw (c, o) (omega (arith, rest))
at_once-head history s ss false opened c o here rest =
    rw c (counted s (filter (is_kept history) ss) ∙ ap (λ (n : ℕ). cond (is_open s.standing) 1 0 + n) rest ∙ sym (counted s ss))

-- as many are open among those that are kept as among all
pub at_once-kept : (history : List PortCall) (ss : List Session) → OpenAreKept history ss → at_once (filter (is_kept history) ss) ≡ at_once ss
at_once-kept history [] kept = refl
at_once-kept history (s ∷ ss) kept =
    at_once-head history s ss (is_closed history s.number) (is_open s.standing) refl refl kept.0 (at_once-kept history ss kept.1)

pub at_once-links : (links : List Link) → at_once (map session_of links) ≡ count_by (λ link. is_open link.standing) links
at_once-links [] = refl
at_once-links (l ∷ links) =
    counted (session_of l) (map session_of links) ∙ ap (λ (n : ℕ). cond (is_open l.standing) 1 0 + n) (at_once-links links)
    ∙ sym (sum_by-cons (λ (link : Link). cond (is_open link.standing) 1 0) l links)

-- A link that is closed.

kept-closing-head : (n : ℕ) (history : List PortCall) (s : Session) (ss : List Session) (closed is : Bool) → is_closed history s.number ≡ closed → (n == s.number) ≡ is
    → filter (is_kept (Close n ∷ history)) ss ≡ filter (λ session. not (n == session.number)) (filter (is_kept history) ss)
    → filter (is_kept (Close n ∷ history)) (s ∷ ss) ≡ filter (λ session. not (n == session.number)) (filter (is_kept history) (s ∷ ss))
kept-closing-head n history s ss true true c e rest = rw (e, c) rest
kept-closing-head n history s ss true false c e rest = rw (e, c) rest
kept-closing-head n history s ss false true c e rest = rw (e, c, e) rest
kept-closing-head n history s ss false false c e rest = rw (e, c, e) (ap (λ (xs : List Session). s ∷ xs) rest)

pub kept-closing : (n : ℕ) (history : List PortCall) (ss : List Session)
    → filter (is_kept (Close n ∷ history)) ss ≡ filter (λ session. not (n == session.number)) (filter (is_kept history) ss)
kept-closing n history [] = refl
kept-closing n history (s ∷ ss) =
    kept-closing-head n history s ss (is_closed history s.number) (n == s.number) refl refl (kept-closing n history ss)

without-above : (n low : ℕ) (links : List Link) (last : ℕ) → n ≤ low → Ascending low links last
    → filter (λ session. not (n == session.number)) (map session_of links) ≡ map session_of links
without-above n low [] last le h = refl
without-above n low (l ∷ links) last le h =
    rw (apart n l.number (omega (arith, h.0))) (ap (λ (ss : List Session). session_of l ∷ ss) (without-above n l.number links last (omega (arith, h.0)) h.1))

pub without-here : (low : ℕ) (front : List Link) (link : Link) (back : List Link) (last : ℕ) → Ascending low (front ++ link ∷ back) last
    → filter (λ session. not (link.number == session.number)) (map session_of (front ++ link ∷ back)) ≡ map session_of (front ++ back)
without-here low [] link back last h = rw (same link.number link.number refl) (without-above link.number link.number back last (omega arith) h.1)
without-here low (l ∷ front) link back last h =
    let here = ascending-here l.number front link back last h.1 in
    rw (apart link.number l.number (omega (arith, here.0)))
    (ap (λ (ss : List Session). session_of l ∷ ss) (without-here l.number front link back last h.1))

-- no session of the number is open
NoneOpen : ℕ → List Session → Type 0
NoneOpen n [] = Unit {0}
NoneOpen n (s ∷ ss) = (n ≡ s.number → is_open s.standing ≡ false) × NoneOpen n ss

none-above : (n low : ℕ) (links : List Link) (last : ℕ) → n ≤ low → Ascending low links last → NoneOpen n (map session_of links)
unfolding NoneOpen
none-above n low [] last le h = tt
none-above n low (l ∷ links) last le h = (λ e. absurd (omega (arith, h.0, e)), none-above n l.number links last (omega (arith, h.0)) h.1)

none-here : (low : ℕ) (front : List Link) (link : Link) (back : List Link) (last : ℕ) → Ascending low (front ++ link ∷ back) last → is_open link.standing ≡ false
    → NoneOpen link.number (map session_of (front ++ link ∷ back))
unfolding NoneOpen
none-here low [] link back last h shut = (λ e. shut, none-above link.number link.number back last (omega arith) h.1)
none-here low (l ∷ front) link back last h shut =
    let here = ascending-here l.number front link back last h.1 in
    (λ e. absurd (omega (arith, here.0, e)), none-here l.number front link back last h.1 shut)

closing-head : (n : ℕ) (history : List PortCall) (s : Session) (ss : List Session) (closed is : Bool) → is_closed history s.number ≡ closed → (n == s.number) ≡ is
    → is_closed history n ≡ false → NoneOpen n (filter (is_kept history) (s ∷ ss))
    → (is_open s.standing ≡ true → is_closed history s.number ≡ false)
    → (NoneOpen n (filter (is_kept history) ss) → OpenAreKept (Close n ∷ history) ss)
    → OpenAreKept (Close n ∷ history) (s ∷ ss)
unfolding NoneOpen
closing-head n history s ss true true c e open_link none here rest =
    let bad = ap (is_closed history) (equal n s.number e) in absurd (cc)
closing-head n history s ss true false c e open_link none here rest = rw e (here, rest (rw c at none))
closing-head n history s ss false true c e open_link none here rest =
    let nones = rw c at none in
    rw e (λ opened. cc (nones.0 (equal n s.number e)), rest nones.1)
closing-head n history s ss false false c e open_link none here rest = rw e (here, rest (rw c at none).1)

open_kept-closing-all : (n : ℕ) (history : List PortCall) (ss : List Session) → is_closed history n ≡ false → NoneOpen n (filter (is_kept history) ss)
    → OpenAreKept history ss → OpenAreKept (Close n ∷ history) ss
open_kept-closing-all n history [] h none kept = tt
open_kept-closing-all n history (s ∷ ss) h none kept =
    closing-head n history s ss (is_closed history s.number) (n == s.number) refl refl h none kept.0 (λ nones. open_kept-closing-all n history ss h nones kept.1)

pub open_kept-closing : (history : List PortCall) (low : ℕ) (front : List Link) (link : Link) (back : List Link) (last : ℕ) (ss : List Session)
    → Ascending low (front ++ link ∷ back) last → is_open link.standing ≡ false → is_closed history link.number ≡ false
    → map session_of (front ++ link ∷ back) ≡ filter (is_kept history) ss
    → OpenAreKept history ss → OpenAreKept (Close link.number ∷ history) ss
open_kept-closing history low front link back last ss h shut open_link e kept =
    open_kept-closing-all link.number history ss open_link (subst (NoneOpen link.number) e (none-here low front link back last h shut)) kept

-- A link at a place.

pub split-at : (links : List Link) (i : ℕ) (link : Link) → slice_get links i ≡ Some link → links ≡ take i links ++ link ∷ drop (suc i) links
split-at [] i link h = cc
split-at (l ∷ links) zero link h = let e : l ≡ link = cc in ap (λ (x : Link). x ∷ links) e
split-at (l ∷ links) (suc i) link h = ap (λ (xs : List Link). l ∷ xs) (split-at links i link h)

pub set-at : (links : List Link) (i : ℕ) (link new : Link) → slice_get links i ≡ Some link → set links i new ≡ take i links ++ new ∷ drop (suc i) links
set-at [] i link new h = cc
set-at (l ∷ links) zero link new h = refl
set-at (l ∷ links) (suc i) link new h = ap (λ (xs : List Link). l ∷ xs) (set-at links i link new h)

pub sessions-same : (front : List Link) (link new : Link) (back : List Link) → session_of new ≡ session_of link
    → map session_of (front ++ link ∷ back) ≡ map session_of (front ++ new ∷ back)
sessions-same [] link new back e = ap (λ (s : Session). s ∷ map session_of back) (sym e)
sessions-same (l ∷ front) link new back e = ap (λ (ss : List Session). session_of l ∷ ss) (sessions-same front link new back e)

pub get-set-other : (links : List Link) (i k : ℕ) (new : Link) → k ≢ i → slice_get (set links i new) k ≡ slice_get links k
get-set-other [] i k new ne = refl
get-set-other (l ∷ links) zero zero new ne = absurd (ne refl)
get-set-other (l ∷ links) zero (suc k) new ne = refl
get-set-other (l ∷ links) (suc i) zero new ne = refl
get-set-other (l ∷ links) (suc i) (suc k) new ne = get-set-other links i k new (λ e. ne (ap suc e))
