-- Parts of a round, one after another: the calls for the links that a server holds are those that the machine tells.
use Rattle.std.proofs.Common.{ℕ, zero, suc, ◌+◌, ◌-◌, ◌^◌, ◌<◌, ◌≤◌, ◌≢◌, nat_eq, cond, Bool, true, false, List, [], ◌∷◌, map, set, length, take, drop, Option, Some, None, Result, Ok, IfSome, ◌≡◌, refl, ap, ap₂, sym, ◌∙◌, subst, arith}
use Rattle.std.specs.List.{remove, slice_get}
use Rattle.std.proofs.Math.Seq.{drop-append_seam}
use Rattle.std.proofs.lemmas.Bool.Decides.{nat_tests}
use Rattle.std.proofs.lemmas.List.{length-map, take-map, take_all}
use Rattle.port_model.specs.declared.calls.Kind.{Kind}
use Rattle.port_model.specs.declared.calls.ListenFault.{ListenFault}
use Rattle.port_model.specs.declared.calls.PortCall.{PortCall}
use Rattle.port_model.specs.declared.calls.PortCall.TheVariants.{Accept, Close}
use Rattle.port_model.specs.Ports.{Records}
use Rattle.port_model.specs.Chain.{Chain}
use Rattle.port_model.specs.History.{events, sent}
use Rattle.imap_steps.specs.Stepping.{World, Shared}
use Rattle.imap_steps.specs.Step.{greeting}
use Rattle.mail_model.specs.declared.standing.Standing.{Standing}
use Rattle.mail_model.specs.declared.standing.Standing.TheVariants.{Open, Closing}
use Rattle.mail_model.specs.Machine.{Made, Session, after, at_once, is_open}
use Rattle.mail_rounds.specs.declared.link.Link.{Link}
use Rattle.mail_rounds.specs.CoreSeen.{CoreSeen}
use Rattle.mail_rounds.specs.Crashes.{GreetingCrashes, MachineCrashes}
use Rattle.mail_rounds.specs.Heard.{Hearing, Offering}
use Rattle.mail_rounds.specs.Held.{Held, session_of, queue_of, due_of, AsksPart, AtEach, AtLink, AtPlace, Ascending}
use Rattle.mail_rounds.specs.Calls.{Due, GoesOn, Offers, Closes, ClosesEmpty, Asks, Accepts, Flushes, Takes, TakesPart, TakesSome, unsent, due_to, dues, is_lost}
use Rattle.mail_rounds.specs.Serves.{Answered, Begins, Does, Opens, Serves}
use Rattle.mail_rounds.proofs.Kept.{apart, same}
use Rattle.mail_rounds.proofs.Chains.{chain_more}
use Rattle.mail_rounds.proofs.Crashes.{crashes-then, files-same, hearing_crash, no_event, opening_crashes}
use Rattle.mail_rounds.proofs.Keeping.{keeps_closing, keeps_hearing, keeps_offering, keeps_opening, keeps_waiting}
use Rattle.mail_rounds.proofs.OneLink.{Heard}

-- What is due by the machine is what the links of the server have.

unsent-case : (lost : Bool) (sent_bytes queue out : List ℕ) → Answered lost sent_bytes queue out → cond lost [] (drop (length sent_bytes) out) ≡ queue
unsent-case true sent_bytes queue out a = sym (a.front refl).0
unsent-case false sent_bytes queue out a = ap (drop (length sent_bytes)) (sym (a.whole refl)) ∙ drop-append_seam sent_bytes queue

links-due : (first : World) (history : List PortCall) (low last : ℕ) (links : List Link) → Ascending low links last → ((number : ℕ) → low < number → unsent first history number ≡ queue_of number links)
    → map due_of links ≡ map (due_to first history) (map session_of links)
links-due first history low last [] h all = refl
links-due first history low last (link ∷ links) h all =
    let own : unsent first history link.number ≡ link.queue.items = rw (same link.number link.number refl) at (all link.number h.0) in
    let rest = links-due first history link.number last links h.1 (λ number above. rw (apart link.number number (omega (arith, above))) at (all number (omega (arith, above, h.0)))) in
    ap₂ (λ (bytes : List ℕ) (ds : List Due). (let due : Due = record { number = link.number; standing = link.standing; unsent = bytes } in due) ∷ ds) (sym own) rest

dues-held : {C : Type 0} (seen : CoreSeen C) (first : World) (history : List PortCall) (held : Held C) → Serves seen first history held → map due_of held.links ≡ dues first history
dues-held seen first history held serves =
    links-due first history 0 held.last held.links serves.ordered
    (λ number above. unsent-case (is_lost number (events history)) (sent history number) (queue_of number held.links) ((after first history).out number) (serves.answered number))
    ∙ ap (λ (ss : List Session). map (due_to first history) ss) serves.sessions

-- Parts one after another

-- where no call is made
pub does_none : {C : Type 0} (seen : CoreSeen C) (Calls : World → List PortCall → List PortCall → Type 0) (held : Held C) (history : List PortCall → Type 0)
    → ((first : World) (before : List PortCall) → Calls first before before) → GoesOn (Does seen Calls held held) history history
does_none seen Calls held history calls before may_be =
    (before, may_be, λ first serves. (record { calls = calls first before; crash = no_event seen held.core held.core first before before refl (files-same seen held.core) }, serves))

pub machine-then : {C : Type 0} (seen : CoreSeen C) (old mid new : C) (first : World) (before between later : List PortCall) → MachineCrashes seen old mid first before between → MachineCrashes seen mid new first between later
    → MachineCrashes seen old new first before later
machine-then seen old mid new first before between later one two =
    crashes-then seen old mid new (after first before).shared.world (after first before).changes (after first between).shared.world (after first between).changes (after first later).shared.world (after first later).changes one two

pub does_then : {C : Type 0} (seen : CoreSeen C) (First Second Both : World → List PortCall → List PortCall → Type 0) (held mid later : Held C) (old between new : List PortCall → Type 0)
    → ((first : World) (a b c : List PortCall) → Serves seen first a held → Serves seen first b mid → First first a b → Second first b c → Both first a c)
    → GoesOn (Does seen First held mid) old between → GoesOn (Does seen Second mid later) between new → GoesOn (Does seen Both held later) old new
does_then seen First Second Both held mid later old between new both one two before may_be =
    let a = one before may_be in
    let b = two a.0 a.1 in (
      b.0,
      b.1,
      λ first serves.
          let did = a.2 first serves in
          let then = b.2 first did.1 in (
            record { calls = both first before a.0 b.0 serves did.1 did.0.calls then.0.calls; crash = machine-then seen held.core mid.core later.core first before a.0 b.0 did.0.crash then.0.crash },
            then.1,
          ),
    )

pub begins_then : {C : Type 0} (seen : CoreSeen C) (First Second Both : World → List PortCall → List PortCall → Type 0) (held mid later : Held C) (old between new : List PortCall → Type 0)
    → ((first : World) (a b c : List PortCall) → Serves seen first a held → Serves seen first b mid → First first a b → Second first b c → Both first a c)
    → GoesOn (Does seen First held mid) old between → GoesOn (Begins seen Second mid later) between new → GoesOn (Begins seen Both held later) old new
begins_then seen First Second Both held mid later old between new both one two before may_be =
    let a = one before may_be in
    let b = two a.0 a.1 in (
      b.0,
      b.1,
      λ first serves.
          let did = a.2 first serves in
          let then = b.2 first did.1 in
          record { calls = both first before a.0 b.0 serves did.1 did.0.calls then.calls; crash = machine-then seen held.core mid.core later.core first before a.0 b.0 did.0.crash then.crash },
    )

pub begins_as : {C : Type 0} (seen : CoreSeen C) (Calls Others : World → List PortCall → List PortCall → Type 0) (held later : Held C) (old new : List PortCall → Type 0)
    → ((first : World) (a b : List PortCall) → Serves seen first a held → Calls first a b → Others first a b) → GoesOn (Begins seen Calls held later) old new → GoesOn (Begins seen Others held later) old new
begins_as seen Calls Others held later old new alike one before may_be =
    let a = one before may_be in
    (a.0, a.1, λ first serves. let did = a.2 first serves in record { calls = alike first before a.0 serves did.calls; crash = did.crash })

-- Calls for a link at a place

at-place : (Calls : Due → List PortCall → List PortCall → Type 0) (links : List Link) (i : ℕ) (link : Link) (first : World) (before later : List PortCall) → slice_get links i ≡ Some link → AtLink Calls link before later
    → AtPlace Calls links i first before later
at-place Calls links i link first before later at calls = subst (λ (found : Option Link). IfSome found (λ link. AtLink Calls link before later)) (sym at) calls

abbrev holding : {C : Type 0} → C → List Link → ℕ → Held C
holding core links last = record { core = core; links = links; last = last }

pub hearing_does : {C : Type 0} (seen : CoreSeen C) (core core' : C) (links : List Link) (i : ℕ) (link new : Link) (last : ℕ) (old now : List PortCall → Type 0) → slice_get links i ≡ Some link → new.number ≡ link.number
    → GoesOn (Heard seen core link core' new) old now → GoesOn (Does seen (AtPlace Asks links i) (holding core links last) (holding core' (set links i new) last)) old now
hearing_does seen core core' links i link new last old now at e goes before may_be =
    let one = goes before may_be in (
      one.0,
      one.1,
      λ first serves. (
        record { calls = at-place Asks links i link first before one.0 at one.2.0.calls; crash = hearing_crash seen first before one.0 core core' links i link last at one.2.0.crashes serves },
        keeps_hearing seen first before one.0 core core' links i link new last at one.2.1 e serves,
      ),
    )

pub hearing_begins : {C : Type 0} (seen : CoreSeen C) (core core' : C) (links : List Link) (i : ℕ) (link new : Link) (last : ℕ) (old now : List PortCall → Type 0) → slice_get links i ≡ Some link
    → GoesOn (Hearing seen core link core') old now → GoesOn (Begins seen (AtPlace Asks links i) (holding core links last) (holding core' (set links i new) last)) old now
hearing_begins seen core core' links i link new last old now at goes before may_be =
    let one = goes before may_be in (
      one.0,
      one.1,
      λ first serves. record { calls = at-place Asks links i link first before one.0 at one.2.calls; crash = hearing_crash seen first before one.0 core core' links i link last at one.2.crashes serves },
    )

pub offering_does : {C : Type 0} (seen : CoreSeen C) (core core' : C) (links : List Link) (i : ℕ) (link new : Link) (last : ℕ) (old now : List PortCall → Type 0) → slice_get links i ≡ Some link → new.number ≡ link.number
    → GoesOn (Offering seen core link core' new) old now → GoesOn (Does seen (AtPlace Offers links i) (holding core links last) (holding core' (set links i new) last)) old now
offering_does seen core core' links i link new last old now at e goes before may_be =
    let one = goes before may_be in (
      one.0,
      one.1,
      λ first serves. (
        record { calls = at-place Offers links i link first before one.0 at one.2.calls; crash = hearing_crash seen first before one.0 core core' links i link last at one.2.crashes serves },
        keeps_offering seen first before one.0 core core' links i link new last at one.2.offered e serves,
      ),
    )

closes-once : (standing : Standing) (number : ℕ) (queue : List ℕ) (before : List PortCall) → is_open standing ≡ false → queue ≡ [] → ClosesEmpty standing number queue before (Close number ∷ before)
closes-once Open number queue before shut q = absurd (cc)
closes-once Closing number [] before shut q = refl
closes-once Closing number (byte ∷ queue) before shut q = absurd (cc)

pub closing_does : {C : Type 0} (seen : CoreSeen C) (core : C) (links : List Link) (i : ℕ) (link : Link) (last : ℕ) (old now : List PortCall → Type 0) → slice_get links i ≡ Some link
    → is_open link.standing ≡ false → link.queue.items ≡ [] → Records (Close link.number) old now → GoesOn (Does seen (AtPlace Closes links i) (holding core links last) (holding core (remove links i) last)) old now
closing_does seen core links i link last old now at shut q recorded before may_be = (
  Close link.number ∷ before,
  recorded before may_be,
  λ first serves. (
    record {
      calls = at-place Closes links i link first before (Close link.number ∷ before) at (closes-once link.standing link.number link.queue.items before shut q);
      crash = no_event seen core core first before (Close link.number ∷ before) refl (files-same seen core);
    },
    keeps_closing seen first before core links i link last at shut q serves,
  ),
)

-- Calls for one link after another

-- those of the first links, and of the next one
pub each_then : {C : Type 0} (seen : CoreSeen C) (Calls : Due → List PortCall → List PortCall → Type 0) (links now : List Link) (i k : ℕ) (held mid later : Held C) (old between new : List PortCall → Type 0)
    → i < length links → slice_get links i ≡ slice_get now k → GoesOn (Does seen (AtEach Calls (take i links)) held mid) old between → GoesOn (Does seen (AtPlace Calls now k) mid later) between new
    → GoesOn (Does seen (AtEach Calls (take (i + 1) links)) held later) old new
each_then seen Calls links now i k held mid later old between new within at =
    does_then seen (AtEach Calls (take i links)) (AtPlace Calls now k) (AtEach Calls (take (i + 1) links)) held mid later old between new
    (λ first a b c s s' one two. chain_more (AtLink Calls) links i (slice_get now k) a b c one within at two)

-- and once those were all
pub each_all : {C : Type 0} (seen : CoreSeen C) (Calls : Due → List PortCall → List PortCall → Type 0) (links : List Link) (i : ℕ) (held later : Held C) (old new : List PortCall → Type 0) → length links ≤ i
    → GoesOn (Does seen (AtEach Calls (take i links)) held later) old new → GoesOn (Does seen (AtEach Calls links) held later) old new
each_all seen Calls links i held later old new all goes = subst (λ (ls : List Link). GoesOn (Does seen (AtEach Calls ls) held later) old new) (take_all i links all) goes

-- or the next one ended with a fault
pub ask_begins : {C : Type 0} (seen : CoreSeen C) (count : ℕ) (links now : List Link) (i : ℕ) (held mid later : Held C) (old between new : List PortCall → Type 0)
    → i < length links → i + 1 ≤ count → slice_get links i ≡ slice_get now i → GoesOn (Does seen (AtEach Asks (take i links)) held mid) old between → GoesOn (Begins seen (AtPlace Asks now i) mid later) between new
    → GoesOn (Begins seen (AsksPart count links) held later) old new
ask_begins seen count links now i held mid later old between new within low at =
    begins_then seen (AtEach Asks (take i links)) (AtPlace Asks now i) (AsksPart count links) held mid later old between new
    (λ first a b c s s' one two. (i + 1, low, chain_more (AtLink Asks) links i (slice_get now i) a b c one within at two))

chain-due : (Step : Due → List PortCall → List PortCall → Type 0) (links : List Link) (before later : List PortCall) → Chain (AtLink Step) links before later → Chain Step (map due_of links) before later
chain-due Step [] before later c = c
chain-due Step (link ∷ links) before later c = (c.0, c.1, chain-due Step links c.0 later c.2)

pub flush_does : {C : Type 0} (seen : CoreSeen C) (held offered later : Held C) (old mid new : List PortCall → Type 0) → GoesOn (Does seen (AtEach Offers held.links) held offered) old mid
    → GoesOn (Does seen (AtEach Closes offered.links) offered later) mid new → GoesOn (Does seen Flushes held later) old new
flush_does seen held offered later old mid new =
    does_then seen (AtEach Offers held.links) (AtEach Closes offered.links) Flushes held offered later old mid new
    (λ first a b c serves serves' one two. record {
      mid = b;
      offers = subst (λ (ds : List Due). Chain Offers ds a b) (dues-held seen first a held serves) (chain-due Offers held.links a b one);
      closes = subst (λ (ds : List Due). Chain Closes ds b c) (dues-held seen first b offered serves') (chain-due Closes offered.links b c two);
    })

take-front : {X : Type 0} (some : ℕ) (xs ys : List X) (count : ℕ) → some ≤ count → take count ys ≡ xs → take some ys ≡ take some xs
take-front zero xs ys count le e = refl
take-front (suc some) xs ys zero le e = absurd (omega arith)
take-front (suc some) xs [] (suc count) le e = ap (λ (zs : List _). take (suc some) zs) e
take-front (suc some) xs (y ∷ ys) (suc count) le e =
    ap (λ (zs : List _). y ∷ zs) (take-front some (take count ys) ys count (omega arith) refl) ∙ ap (λ (zs : List _). take (suc some) zs) e

-- the calls of `take` as far as so many links were asked, which stand first in these
take-some : {C : Type 0} (seen : CoreSeen C) (asked : ℕ) (held : Held C) (links : List Link) (first : World) (before mid later : List PortCall) → asked ≤ length held.links → take (length held.links) links ≡ held.links
    → Serves seen first before held → Accepts held.last before mid → Chain (AtLink Asks) (take asked links) mid later → TakesSome asked first before later
take-some seen asked held links first before mid later le front serves accepts asks =
    let own : take asked links ≡ take asked held.links = take-front asked held.links links (length held.links) le front in
    record {
      mid = mid;
      accepts = subst (λ (last : ℕ). Accepts last before mid) serves.latest accepts;
      asks = subst (λ (ds : List Due). Chain Asks ds mid later)
          (ap (map due_of) own ∙ sym (take-map due_of asked held.links) ∙ ap (λ (ds : List Due). take asked ds) (dues-held seen first before held serves)) (chain-due Asks (take asked links) mid later asks);
    }

pub take_does : {C : Type 0} (seen : CoreSeen C) (held accepted later : Held C) (old mid new : List PortCall → Type 0) → take (length held.links) accepted.links ≡ held.links
    → GoesOn (Does seen (λ first. Accepts held.last) held accepted) old mid → GoesOn (Does seen (AtEach Asks (take (length held.links) accepted.links)) accepted later) mid new
    → GoesOn (Does seen Takes held later) old new
take_does seen held accepted later old mid new front =
    does_then seen (λ first. Accepts held.last) (AtEach Asks (take (length held.links) accepted.links)) Takes held accepted later old mid new
    (λ first a b c serves serves' one two. subst (λ (n : ℕ). TakesSome n first a c) (sym (length-map held.links due_of) ∙ ap (λ (ds : List Due). length ds) (dues-held seen first a held serves))
    (take-some seen (length held.links) held accepted.links first a b c (omega arith) front serves one two))

pub take_begins : {C : Type 0} (seen : CoreSeen C) (held accepted later : Held C) (old mid new : List PortCall → Type 0) → take (length held.links) accepted.links ≡ held.links
    → GoesOn (Does seen (λ first. Accepts held.last) held accepted) old mid → GoesOn (Begins seen (AsksPart (length held.links) accepted.links) accepted later) mid new
    → GoesOn (Begins seen TakesPart held later) old new
take_begins seen held accepted later old mid new front =
    begins_then seen (λ first. Accepts held.last) (AsksPart (length held.links) accepted.links) TakesPart held accepted later old mid new
    (λ first a b c serves serves' one two. (two.0, take-some seen two.0 held accepted.links first a b c two.1 front serves one two.2))

-- where no link was asked
pub accept_begins : {C : Type 0} (seen : CoreSeen C) (held later : Held C) (old new : List PortCall → Type 0) → GoesOn (Begins seen (λ first. Accepts held.last) held later) old new
    → GoesOn (Begins seen TakesPart held later) old new
accept_begins seen held later old new =
    begins_as seen (λ first. Accepts held.last) TakesPart held later old new
    (λ first a b serves one. (0, take-some seen 0 held held.links first a b b (omega arith) (take_all (length held.links) held.links (omega arith)) serves one refl))

-- Accepts

accepts-below : (last : ℕ) (answer : Result (Option Kind) ListenFault) (before : List PortCall) → last ≢ 2 ^ 32 - 1 → Accepts last before (Accept (last + 1) answer ∷ before)
accepts-below last answer before e = let room : nat_eq last (2 ^ 32 - 1) ≡ false = grind (arith, nat_tests) in rw room (answer, refl)

-- no link came
pub waiting_does : {C : Type 0} (seen : CoreSeen C) (held : Held C) (old new : List PortCall → Type 0) → held.last ≢ 2 ^ 32 - 1 → Records (Accept (held.last + 1) (Ok None)) old new
    → GoesOn (Does seen (λ first. Accepts held.last) held held) old new
waiting_does seen held old new room recorded before may_be =
    let later = Accept (held.last + 1) (Ok None) ∷ before in (
      later,
      recorded before may_be,
      λ first serves. (
        record { calls = accepts-below held.last (Ok None) before room; crash = no_event seen held.core held.core first before later refl (files-same seen held.core) },
        keeps_waiting seen first before held (held.last + 1) serves,
      ),
    )

-- What greeting a session leaves of the core, whatever it answers.
abbrev pub Greets : {C : Type 0} → CoreSeen C → Held C → C → Kind → Type 0
Greets seen held core' kind = (shared : Shared) (from : ℕ) (changes : List Made) → seen.stands held.core shared
    → GreetingCrashes seen held.core core' shared (held.last + 1) (greeting shared (held.last + 1) kind (at_once (map session_of held.links))) from changes

pub opening_does : {C : Type 0} (seen : CoreSeen C) (held later : Held C) (kind : Kind) (old new : List PortCall → Type 0) → held.last ≢ 2 ^ 32 - 1 → Records (Accept (held.last + 1) (Ok (Some kind))) old new
    → Greets seen held later.core kind → Opens seen held later (held.last + 1) kind → GoesOn (Does seen (λ first. Accepts held.last) held later) old new
opening_does seen held later kind old new room recorded greets opens before may_be = (
  Accept (held.last + 1) (Ok (Some kind)) ∷ before,
  recorded before may_be,
  λ first serves. (
    record { calls = accepts-below held.last (Ok (Some kind)) before room; crash = opening_crashes seen first before held later.core (held.last + 1) kind greets serves },
    keeps_opening seen first before held later (held.last + 1) kind opens refl serves,
  ),
)

pub opening_begins : {C : Type 0} (seen : CoreSeen C) (held later : Held C) (kind : Kind) (old new : List PortCall → Type 0) → held.last ≢ 2 ^ 32 - 1 → Records (Accept (held.last + 1) (Ok (Some kind))) old new
    → Greets seen held later.core kind → GoesOn (Begins seen (λ first. Accepts held.last) held later) old new
opening_begins seen held later kind old new room recorded greets before may_be = (
  Accept (held.last + 1) (Ok (Some kind)) ∷ before,
  recorded before may_be,
  λ first serves. record { calls = accepts-below held.last (Ok (Some kind)) before room; crash = opening_crashes seen first before held later.core (held.last + 1) kind greets serves },
)
