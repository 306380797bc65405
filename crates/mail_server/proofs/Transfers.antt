-- What reads and writes one after another come to.
use Rattle.std.proofs.Common.{◌≡◌, ℕ, ◌+◌, ◌-◌, ◌≤◌, List, [], ◌++◌, length, take, drop, refl, sym, ◌∙◌, ap, arith, append_assoc, subst, length-drop, length-take, length-append}
use Rattle.std.specs.Prelude.{Option, Some, None, Result, Ok, Err, OnOk, OnErr}
use Rattle.std.proofs.lemmas.List.{append-nil, take_all, take_min}
use Rattle.std.proofs.Math.Seq.{take-add}
use Rattle.port_model.specs.Streams.{Appends}
use Rattle.port_model.specs.Transcript.{Extends}
use Rattle.mail_server.specs.Run.{HasRead, ReadsSome}

pub Appends-none : (old : Option (List ℕ)) → Appends [] old old
Appends-none None = refl
Appends-none (Some bytes) = ap Some (sym (append-nil bytes))

pub Appends-more : (a b : List ℕ) (old mid new : Option (List ℕ)) → Appends a old mid → Appends b mid new → Appends (a ++ b) old new
Appends-more a b None None new first second = second
Appends-more a b None (Some x) new first second = cc
Appends-more a b (Some x) None new first second = cc
Appends-more a b (Some x) (Some y) new first second =
    let e : y ≡ x ++ a = cc in
    second ∙ ap Some (ap (λ z. z ++ b) e ∙ append_assoc x a b)

pub HasRead-none : (old : Option (List ℕ)) → HasRead [] old old
HasRead-none None = refl
HasRead-none (Some bytes) = refl

pub HasRead-more : (a b : List ℕ) (old mid new : Option (List ℕ)) → HasRead a old mid → HasRead b mid new → HasRead (a ++ b) old new
HasRead-more a b None None new first second = second
HasRead-more a b None (Some x) new first second = cc
HasRead-more a b (Some x) None new first second = absurd first
HasRead-more a b (Some x) (Some y) None first second = second
HasRead-more a b (Some x) (Some y) (Some z) first second =
    let e : x ≡ a ++ y = first in let f : y ≡ b ++ z = second in
    e ∙ ap (λ w. a ++ w) f ∙ sym (append_assoc a b z)

-- bytes that are written behind those before a place
pub Appends-on : (bytes : List ℕ) (at n : ℕ) (old mid new : Option (List ℕ)) → Appends (take at bytes) old mid → Appends (take n (take (length bytes - at) (drop at bytes))) mid new → Appends (take (at + n) bytes) old new
Appends-on bytes at n old mid new first second =
    let rest : take (length bytes - at) (drop at bytes) ≡ drop at bytes = take_all (length bytes - at) (drop at bytes) (omega (arith, length-drop at bytes)) in
    let both : Appends (take at bytes ++ take n (drop at bytes)) old new = Appends-more (take at bytes) (take n (drop at bytes)) old mid new first (subst (λ (p : List ℕ). Appends (take n p) mid new) rest second) in
    subst (λ (p : List ℕ). Appends p old new) (sym (take-add at n bytes)) both

-- bytes up to a place are a front of all
pub front_upto : (bytes : List ℕ) (at : ℕ) → Extends (take at bytes) bytes
front_upto bytes at = ap (λ n. take n bytes) (length-take at bytes) ∙ take_min at bytes

pub Appends-all : (bytes : List ℕ) (at : ℕ) (old new : Option (List ℕ)) → length bytes ≤ at → Appends (take at bytes) old new → Appends bytes old new
Appends-all bytes at old new le appends = subst (λ (p : List ℕ). Appends p old new) (take_all at bytes le) appends

-- what a call that failed read, behind what was read before it
pub ReadsSome-more : (limit room : ℕ) (bytes : List ℕ) (old mid new : Option (List ℕ)) → HasRead bytes old mid → length bytes + room ≤ limit → ReadsSome room mid new → ReadsSome limit old new
ReadsSome-more limit room bytes old mid new before fits some = record {
  bytes = bytes ++ some.bytes;
  taken = HasRead-more bytes some.bytes old mid new before some.taken;
  within = omega (arith, length-append bytes some.bytes, some.within);
}

pub ReadsSome-none : (limit : ℕ) (old : Option (List ℕ)) → ReadsSome limit old old
ReadsSome-none limit old = record { bytes = []; taken = HasRead-none old; within = omega arith }

pub OnErr-always : {T E : Type 0} (result : Result T E) (P : Type 0) → P → OnErr result P
OnErr-always (Ok value) P fact = tt
OnErr-always (Err error) P fact = fact

-- what one answer promises, by what another promised of it
pub OnOk-from : {T E : Type 0} (result : Result T E) (P Q : Type 0) → (P → Q) → OnOk result P → OnOk result Q
OnOk-from (Ok value) P Q step fact = step fact
OnOk-from (Err error) P Q step fact = tt

pub OnErr-from : {T E : Type 0} (result : Result T E) (P Q : Type 0) → (P → Q) → OnErr result P → OnErr result Q
OnErr-from (Ok value) P Q step fact = tt
OnErr-from (Err error) P Q step fact = step fact
