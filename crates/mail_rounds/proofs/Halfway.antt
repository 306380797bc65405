-- A piece of which some bytes were taken.
use Rattle.std.proofs.Common.{ℕ, ◌≡◌, ◌-◌, arith, length-drop, List, [], ◌∷◌, ◌++◌, take, drop, length, refl, sym, ◌∙◌, ap, subst, append_assoc, append-nil}
use Rattle.std.proofs.lemmas.List.{take-append-drop, take_all, nil_from_length}
use Rattle.mail_model.specs.Machine.{Taking, take_byte, take_piece}
use Rattle.mail_rounds.specs.declared.link.Link.{Link}
use Rattle.mail_rounds.specs.CoreSeen.{CoreSeen}
use Rattle.mail_rounds.specs.Crashes.{TakingCrashes}
use Rattle.mail_rounds.specs.Held.{session_of}
use Rattle.mail_rounds.specs.Heard.{IsTaking, in_session}
use Rattle.mail_rounds.proofs.Taking.{inside_held}
use Rattle.mail_rounds.proofs.Crashes.{Worlds, take-append, piece_then, piece_rest}

-- The core and the link are where the bytes in front of the rest bring them.
pub record Halfway {C : Type 0} (seen : CoreSeen C) (core : C) (link : Link) (core' : C) (link' : Link) (moment : ℕ) (piece rest : List ℕ) : Type 0 where
  pub front : List ℕ
  pub parts : piece ≡ front ++ rest
  pub taken : (taking : Taking) → IsTaking seen core link taking → IsTaking seen core' link' (take_piece moment taking front)
  pub crash : (taking : Taking) → IsTaking seen core link taking → TakingCrashes seen core core' taking (take_piece moment taking front)

pub halfway_start : {C : Type 0} (seen : CoreSeen C) (core : C) (link : Link) (moment : ℕ) (piece : List ℕ) → Halfway seen core link core link moment piece piece
halfway_start seen core link moment piece = record {
  front = [];
  parts = refl;
  taken = λ taking held. held;
  crash = λ taking held. record { made = []; changes_are = refl; world_is = refl; left = λ since earlier l. l };
}

-- the slice of a list from a place to its end
whole_slice : (count : ℕ) (rest : List ℕ) → take (length rest - count) (drop count rest) ≡ drop count rest
whole_slice count rest = let left : length (drop count rest) ≡ length rest - count = length-drop count rest in take_all (length rest - count) (drop count rest) (omega arith)

-- bytes of a literal were taken
pub halfway_inside : {C : Type 0} (seen : CoreSeen C) (core : C) (link : Link) (core' : C) (link' link'' : Link) (moment : ℕ) (piece rest : List ℕ) (count : ℕ) → Halfway seen core link core' link' moment piece rest
    → link''.queue.items ≡ link'.queue.items
    → ((moment : ℕ) (taking : Taking) → session_of link' ≡ taking.session → take_piece moment taking (take count rest) ≡ in_session taking (session_of link''))
    → Halfway seen core link core' link'' moment piece (take (length rest - count) (drop count rest))
halfway_inside seen core link core' link' link'' moment piece rest count half q literal = record {
  front = half.front ++ take count rest;
  parts = half.parts ∙ ap (λ (xs : List ℕ). half.front ++ xs) (sym (take-append-drop count rest)) ∙ sym (append_assoc half.front (take count rest) (drop count rest)) ∙ ap (λ (xs : List ℕ). (half.front ++ take count rest) ++ xs) (sym (whole_slice count rest));
  taken = λ taking held.
      let here = take_piece moment taking half.front in
      let held' = half.taken taking held in
      subst (IsTaking seen core' link'') (sym (take-append moment taking half.front (take count rest)))
      (inside_held seen core' link' link'' moment here (take count rest) held' q (literal moment here held'.session));
  crash = λ taking held.
      let here = take_piece moment taking half.front in
      piece_then seen core core' core' moment taking half.front (take count rest) (half.crash taking held)
      (subst (TakingCrashes seen core' core' here) (sym (literal moment here (half.taken taking held).session))
      (record { made = []; changes_are = refl; world_is = refl; left = λ since earlier l. l }));
}

-- and one byte more
pub halfway_byte : {C : Type 0} (seen : CoreSeen C) (core : C) (link : Link) (core' : C) (link' : Link) (core'' : C) (link'' : Link) (moment : ℕ) (piece rest : List ℕ) (byte : ℕ) (behind : List ℕ)
    → Halfway seen core link core' link' moment piece rest → rest ≡ byte ∷ behind
    → ((taking : Taking) → IsTaking seen core' link' taking → IsTaking seen core'' link'' (take_byte moment taking byte))
    → ((taking : Taking) → IsTaking seen core' link' taking → TakingCrashes seen core' core'' taking (take_byte moment taking byte))
    → Halfway seen core link core'' link'' moment piece behind
halfway_byte seen core link core' link' core'' link'' moment piece rest byte behind half e taken crash = record {
  front = half.front ++ byte ∷ [];
  parts = half.parts ∙ ap (λ (xs : List ℕ). half.front ++ xs) e ∙ sym (append_assoc half.front (byte ∷ []) behind);
  taken = λ taking held. subst (IsTaking seen core'' link'') (sym (take-append moment taking half.front (byte ∷ []))) (taken (take_piece moment taking half.front) (half.taken taking held));
  crash = λ taking held.
      piece_then seen core core' core'' moment taking half.front (byte ∷ []) (half.crash taking held) (crash (take_piece moment taking half.front) (half.taken taking held));
}

-- the core did nothing of the rest
pub halfway_stop : {C : Type 0} (seen : CoreSeen C) (core : C) (link : Link) (core' : C) (link' : Link) (moment : ℕ) (piece rest : List ℕ) → Worlds → Halfway seen core link core' link' moment piece rest
    → (taking : Taking) → IsTaking seen core link taking → TakingCrashes seen core core' taking (take_piece moment taking piece)
halfway_stop seen core link core' link' moment piece rest law half taking held =
    subst (λ (bytes : List ℕ). TakingCrashes seen core core' taking (take_piece moment taking bytes)) (sym half.parts)
    (piece_rest seen core core' law moment taking half.front rest (half.crash taking held))

-- and may have done one byte more
pub halfway_fault : {C : Type 0} (seen : CoreSeen C) (core : C) (link : Link) (core' : C) (link' : Link) (core'' : C) (moment : ℕ) (piece rest : List ℕ) (byte : ℕ) (behind : List ℕ) → Worlds
    → Halfway seen core link core' link' moment piece rest → rest ≡ byte ∷ behind
    → ((taking : Taking) → IsTaking seen core' link' taking → TakingCrashes seen core' core'' taking (take_byte moment taking byte))
    → (taking : Taking) → IsTaking seen core link taking → TakingCrashes seen core core'' taking (take_piece moment taking piece)
halfway_fault seen core link core' link' core'' moment piece rest byte behind law half e crash taking held =
    subst (λ (bytes : List ℕ). TakingCrashes seen core core'' taking (take_piece moment taking bytes))
    (append_assoc half.front (byte ∷ []) behind ∙ ap (λ (xs : List ℕ). half.front ++ xs) (sym e) ∙ sym half.parts)
    (piece_rest seen core core'' law moment taking (half.front ++ byte ∷ []) behind
    (piece_then seen core core' core'' moment taking half.front (byte ∷ []) (half.crash taking held) (crash (take_piece moment taking half.front) (half.taken taking held))))

-- nothing is left
pub halfway_end : {C : Type 0} (seen : CoreSeen C) (core : C) (link : Link) (core' : C) (link' : Link) (moment : ℕ) (piece rest : List ℕ) → Halfway seen core link core' link' moment piece rest → length rest ≡ 0
    → (taking : Taking) → IsTaking seen core link taking → IsTaking seen core' link' (take_piece moment taking piece)
halfway_end seen core link core' link' moment piece rest half none taking held =
    subst (λ (bytes : List ℕ). IsTaking seen core' link' (take_piece moment taking bytes))
    (sym (half.parts ∙ ap (λ (xs : List ℕ). half.front ++ xs) (nil_from_length rest none) ∙ append-nil half.front))
    (half.taken taking held)
