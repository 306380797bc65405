-- What a crash leaves of a log while a record is added.
use Rattle.std.proofs.Common.{◌≡◌, inl, inr, ⊎_elim, ℕ, ◌+◌, ◌<◌, ◌≤◌, ◌^◌, List, [], ◌∷◌, ◌++◌, length, get_or, take, drop, Option, Some, None, option_map, refl, sym, ◌∙◌, ap, subst, arith, append_assoc, length-append, length-drop}
use Rattle.std.proofs.lemmas.List.{take_at, drop_at, drop_more, ext_get_or, get_or-drop}
use Rattle.std.proofs.lemmas.List.Prefix.{front_from_reads, front_reads}
use Rattle.std.proofs.lemmas.Bool.{cases_eq}
use Rattle.disk_model.specs.Told.{Told, IfTold}
use Rattle.disk_model.specs.Images.{Only, Torn, Tears}
use Rattle.disk_model.specs.Calls.{overwritten, LeavesAlone, Elapses, LeavesOnly}
use Rattle.redo_log.specs.Text.{number_text, record_text, front, empty_text, IsLog, EndsAt, IsBeforeOrAfter}
use Rattle.redo_log.proofs.Texts.{front_more, fit_more, empty_log}

-- one run after another
pub joined : {D : Type 0} (told : Told D) (old mid new : D) (P Q R : List ℕ → Type 0) → LeavesOnly told old mid P → LeavesOnly told mid new Q → ((image : List ℕ) → P image → R image) → ((image : List ℕ) → Q image → R image) → LeavesOnly told old new R
joined told old mid new P Q R first second p q = record {
  later = omega (arith, first.later, second.later);
  each = λ image left. ⊎_elim (λ was. p image (first.each image was)) (q image) (second.before (told.moment old) image first.later left);
  before = λ since image le left. ⊎_elim (λ was. ⊎_elim inl (λ is. inr (p image is)) (first.before since image le was)) (λ is. inr (q image is)) (second.before since image (omega (arith, le, first.later)) left);
}

pub weaker : {D : Type 0} (told : Told D) (old new : D) (P R : List ℕ → Type 0) → LeavesOnly told old new P → ((image : List ℕ) → P image → R image) → LeavesOnly told old new R
weaker told old new P R run p = record {
  later = run.later;
  each = λ image left. p image (run.each image left);
  before = λ since image le left. ⊎_elim inl (λ is. inr (p image is)) (run.before since image le left);
}

module _ (format generation : ℕ) (payloads : List (List ℕ)) (end : ℕ) (file : List ℕ) (ends : EndsAt format generation payloads end file) where
  abbrev gate : ℕ
  gate = ends.text.gate

  -- the text up to and with the closed gate
  abbrev up_to_gate : List ℕ
  up_to_gate = front format generation payloads ++ gate ∷ []

  size_up_to : length up_to_gate ≡ end + 1
  size_up_to = omega (arith, ends.place, length-append (front format generation payloads) (gate ∷ []))

  split_behind : file ≡ up_to_gate ++ ends.text.rest
  split_behind = ends.text.split ∙ sym (append_assoc (front format generation payloads) (gate ∷ []) ends.text.rest)

  pub room : end < length file
  room = omega (arith, ap length split_behind, size_up_to, length-append up_to_gate ends.text.rest)

  -- the closed gate stands in each image of a write behind it
  pub torn_behind : (count : ℕ) (image : List ℕ) → Torn (end + 1) count file image → IsLog format generation payloads image
  torn_behind count image torn =
      let size : length up_to_gate ≤ length image = omega (arith, size_up_to, room, torn.no_shorter) in
      let whole : image ≡ up_to_gate ++ drop (length up_to_gate) image = front_from_reads 0 image up_to_gate size
      (λ i lt. torn.kept i (omega (arith, lt, size_up_to, room)) (inl (omega (arith, lt, size_up_to))) ∙ front_reads 0 file up_to_gate ends.text.rest split_behind i lt) in
      record {
        generation_fits = ends.text.generation_fits;
        lengths_fit = ends.text.lengths_fit;
        gate = gate;
        rest = drop (length up_to_gate) image;
        split = whole ∙ append_assoc (front format generation payloads) (gate ∷ []) (drop (length up_to_gate) image);
        closed = ends.text.closed;
      }

  module _ (payload block : List ℕ) (fits : length payload < 2 ^ 64) (block_is : block ≡ number_text (length payload) ++ payload ++ 0 ∷ []) where
    -- the file with the record behind the closed gate
    abbrev staged : List ℕ
    staged = overwritten (end + 1) block file

    abbrev rest : List ℕ
    rest = drop (end + 1 + length block) file

    staged_behind : staged ≡ up_to_gate ++ (block ++ rest)
    staged_behind =
        ap (λ (l : List ℕ). l ++ block ++ rest) (ap (λ (l : List ℕ). take (end + 1) l) split_behind ∙ take_at up_to_gate ends.text.rest (end + 1) size_up_to)
        ∙ append_assoc up_to_gate block rest

    staged_front : staged ≡ front format generation payloads ++ gate ∷ (block ++ rest)
    staged_front = staged_behind ∙ append_assoc (front format generation payloads) (gate ∷ []) (block ++ rest)

    size_staged : length staged ≡ end + 1 + length (block ++ rest)
    size_staged = omega (arith, ap length staged_behind, size_up_to, length-append up_to_gate (block ++ rest))

    behind_staged : drop (end + 1) staged ≡ block ++ rest
    behind_staged = ap (λ (l : List ℕ). drop (end + 1) l) staged_behind ∙ drop_at up_to_gate (block ++ rest) (end + 1) size_up_to

    -- with an open gate before the record, the log has one payload more
    opened : (image : List ℕ) → image ≡ front format generation payloads ++ 1 ∷ (block ++ rest) → image ≡ front format generation (payloads ++ payload ∷ []) ++ 0 ∷ rest
    opened image is =
        is ∙ ap (λ (l : List ℕ). front format generation payloads ++ 1 ∷ (l ++ rest)) block_is
        ∙ ap (λ (l : List ℕ). front format generation payloads ++ 1 ∷ l) (append_assoc (number_text (length payload) ++ payload) (0 ∷ []) rest)
        ∙ sym (append_assoc (front format generation payloads) (record_text payload) (0 ∷ rest))
        ∙ ap (λ (l : List ℕ). l ++ 0 ∷ rest) (sym (front_more format generation payloads payload))

    log_after : (image : List ℕ) → image ≡ front format generation payloads ++ 1 ∷ (block ++ rest) → IsLog format generation (payloads ++ payload ∷ []) image
    log_after image is = record {
      generation_fits = ends.text.generation_fits;
      lengths_fit = fit_more payloads payload ends.text.lengths_fit fits;
      gate = 0;
      rest = rest;
      split = opened image is;
      closed = λ (e : 0 ≡ 1). omega (arith, e);
    }

    size_after : length (front format generation (payloads ++ payload ∷ [])) ≡ end + length block
    size_after = omega (
      arith,
      ends.place,
      ap length (front_more format generation payloads payload),
      length-append (front format generation payloads) (record_text payload),
      ap length block_is,
      length-append (number_text (length payload) ++ payload) (0 ∷ []),
      length-append (number_text (length payload)) payload,
    )

    -- the record stands whole in each image of the write that opens its gate
    whole_behind : (image : List ℕ) → Torn end 1 staged image → image ≡ front format generation payloads ++ get_or image end 0 ∷ (block ++ rest)
    whole_behind image torn =
        let size : length image ≡ length staged = omega (arith, torn.no_shorter, torn.no_longer, size_staged) in
        let before : image ≡ front format generation payloads ++ drop (length (front format generation payloads)) image =
        front_from_reads 0 image (front format generation payloads) (omega (arith, size, size_staged, ends.place))
        (λ i lt. torn.kept i (omega (arith, lt, size_staged, ends.place)) (inl (omega (arith, lt, ends.place))) ∙ front_reads 0 staged (front format generation payloads) (gate ∷ (block ++ rest)) staged_front i lt) in
        let behind : drop (end + 1) image ≡ drop (end + 1) staged =
        ext_get_or 0 (drop (end + 1) image) (drop (end + 1) staged) (omega (arith, size, length-drop (end + 1) image, length-drop (end + 1) staged))
        (λ i lt. get_or-drop (end + 1) image i 0 ∙ torn.kept (end + 1 + i) (omega (arith, lt, size, length-drop (end + 1) image)) (inr (omega arith)) ∙ sym (get_or-drop (end + 1) staged i 0)) in
        before
        ∙ ap (λ (n : ℕ). front format generation payloads ++ drop n image) (sym ends.place)
        ∙ ap (λ (l : List ℕ). front format generation payloads ++ l) (drop_more image end 0 (omega (arith, size, size_staged)))
        ∙ ap (λ (l : List ℕ). front format generation payloads ++ get_or image end 0 ∷ l) (behind ∙ behind_staged)

    pub torn_gate : (image : List ℕ) → Torn end 1 staged image → IsBeforeOrAfter format generation payloads payload image
    torn_gate image torn = ⊎_elim
        (λ (open_gate : get_or image end 0 ≡ 1). inr (log_after image (whole_behind image torn ∙ ap (λ (g : ℕ). front format generation payloads ++ g ∷ (block ++ rest)) open_gate)))
        (λ (shut : get_or image end 0 ≡ 1 → ⊥). inl (record {
          generation_fits = ends.text.generation_fits;
          lengths_fit = ends.text.lengths_fit;
          gate = get_or image end 0;
          rest = block ++ rest;
          split = whole_behind image torn;
          closed = shut;
        }))
        (cases_eq (get_or image end 0) 1)

    -- the log once the gate is open
    pub done : EndsAt format generation (payloads ++ payload ∷ []) (end + length block) (overwritten end (1 ∷ []) staged)
    done =
        let size : length (front format generation payloads) ≡ end = sym ends.place in
        record {
          text = log_after (overwritten end (1 ∷ []) staged)
              (ap (λ (l : List ℕ). l ++ (1 ∷ []) ++ drop (end + 1) staged) (ap (λ (l : List ℕ). take end l) staged_front ∙ take_at (front format generation payloads) (gate ∷ (block ++ rest)) end size)
              ∙ append_assoc (front format generation payloads) (1 ∷ []) (drop (end + 1) staged)
              ∙ ap (λ (l : List ℕ). front format generation payloads ++ 1 ∷ l) behind_staged);
          place = sym size_after;
        }

-- the same over a disk that may not tell its reading
module _ {D : Type 0} (told : Told D) (format generation : ℕ) (payloads : List (List ℕ)) (payload block : List ℕ) (end : ℕ) (fits : length payload < 2 ^ 64) (block_is : block ≡ number_text (length payload) ++ payload ++ 0 ∷ []) where
  abbrev Is : List ℕ → Type 0
  Is = EndsAt format generation payloads end

  abbrev Either : List ℕ → Type 0
  Either = IsBeforeOrAfter format generation payloads payload

  -- the record is behind the closed gate
  pub leaves_first : (old new : D) (o : Option (List ℕ)) → IfTold o Is → IfTold o (λ file. LeavesOnly told old new (Torn (end + 1) (length block) file)) → IfTold o (λ _. LeavesOnly told old new Either)
  leaves_first old new None is first = tt
  leaves_first old new (Some file) is first = weaker told old new (Torn (end + 1) (length block) file) Either first
      (λ image torn. inl (torn_behind format generation payloads end file is (length block) image torn))

  -- and its gate is opened
  pub leaves_both : (old mid new : D) (o m : Option (List ℕ)) → m ≡ option_map (overwritten (end + 1) block) o → IfTold o Is
      → IfTold o (λ file. LeavesOnly told old mid (Torn (end + 1) (length block) file)) → IfTold m (λ file. LeavesOnly told mid new (Torn end 1 file))
      → IfTold o (λ _. LeavesOnly told old new Either)
  leaves_both old mid new None m e is first second = tt
  leaves_both old mid new (Some file) m e is first second =
      let staged_is = overwritten (end + 1) block file in
      let gate_run : LeavesOnly told mid new (Torn end 1 staged_is) = subst (λ (o : Option (List ℕ)). IfTold o (λ f. LeavesOnly told mid new (Torn end 1 f))) e second in
      joined told old mid new (Torn (end + 1) (length block) file) (Torn end 1 staged_is) Either first gate_run
      (λ image torn. inl (torn_behind format generation payloads end file is (length block) image torn))
      (torn_gate format generation payloads end file is payload block fits block_is)

  pub is_added : (new : D) (o m n : Option (List ℕ)) → m ≡ option_map (overwritten (end + 1) block) o → n ≡ option_map (overwritten end (1 ∷ [])) m → IfTold o Is
      → IfTold n (λ file. Only file (told.images new)) → IfTold n (λ file. Only file (told.images new) × EndsAt format generation (payloads ++ payload ∷ []) (end + length block) file)
  is_added new None m n e e' is rests = subst (λ (o : Option (List ℕ)). IfTold o (λ file. Only file (told.images new) × EndsAt format generation (payloads ++ payload ∷ []) (end + length block) file)) (sym (e' ∙ ap (option_map (overwritten end (1 ∷ []))) e)) tt
  is_added new (Some file) m n e e' is rests =
      let n_is = e' ∙ ap (option_map (overwritten end (1 ∷ []))) e in
      let P : Option (List ℕ) → Type 0 = λ o. IfTold o (λ f. Only f (told.images new) × EndsAt format generation (payloads ++ payload ∷ []) (end + length block) f) in
      subst P (sym n_is) (
        subst (λ (o : Option (List ℕ)). IfTold o (λ f. Only f (told.images new))) n_is rests,
        done format generation payloads end file is payload block fits block_is,
      )

-- a fact about the reading, and what follows from it
pub told_weaker : {P Q : List ℕ → Type 0} (o : Option (List ℕ)) → ((file : List ℕ) → P file → Q file) → IfTold o P → IfTold o Q
told_weaker None step fact = tt
told_weaker (Some file) step fact = step file fact

-- what was read of a disk at rest is its reading, and so is no log
pub no_log_there : {D : Type 0} (told : Told D) (old mid new : D) (bytes : List ℕ) → IfTold (told.reading old) (λ file. Only file (told.images mid)) → told.reading mid ≡ told.reading old → LeavesAlone told mid new
    → IfTold (told.reading mid) (λ file. bytes ≡ file) → ((format generation : ℕ) (payloads : List (List ℕ)) → IsLog format generation payloads bytes → ⊥)
    → IfTold (told.reading new) (λ file. Only file (told.images new) × ((format generation : ℕ) (payloads : List (List ℕ)) → IsLog format generation payloads file → ⊥))
no_log_there told old mid new bytes sure same alone read none = by (told.reading old) (told.reading mid) (told.reading new) same alone.reading sure read
  where
    by : (o m n : Option (List ℕ)) → m ≡ o → n ≡ m → IfTold o (λ file. Only file (told.images mid)) → IfTold m (λ file. bytes ≡ file)
        → IfTold n (λ file. Only file (told.images new) × ((format generation : ℕ) (payloads : List (List ℕ)) → IsLog format generation payloads file → ⊥))
    by o None None e e' s r = tt
    by o None (Some file) e e' s r = cc
    by o (Some file) None e e' s r = tt
    by None (Some file) (Some file') e e' s r = cc
    by (Some file'') (Some file) (Some file') e e' s r =
        let same' : file' ≡ file = cc in
        let same'' : file'' ≡ file' = cc in (
          λ image left. s image ((alone.images image).0 left) ∙ same'',
          λ format generation payloads log. none format generation payloads (subst (IsLog format generation payloads) (same' ∙ sym r) log),
        )

-- A write on any disk, and then a sync.
module _ {D : Type 0} (told : Told D) (old mid : D) (count : ℕ) where
  abbrev pub TornFrom : List ℕ → Type 0
  TornFrom image = (before : List ℕ) × told.images old before × Torn 0 count before image

  torn_itself : (image : List ℕ) → told.images old image → TornFrom image
  torn_itself image now = (image, now, record { kept = λ place lt out. refl; no_shorter = omega arith; no_longer = omega arith })

  pub leaves_write : Elapses told old mid → Tears 0 count (told.images old) (told.images mid) → LeavesOnly told old mid TornFrom
  leaves_write time tears = record {
    later = time.later;
    each = λ image left. ⊎_elim (λ was. torn_itself image (told.now_alone old image was)) (tears image) (time.nothing_else (told.moment old) image (omega arith) left);
    before = λ since image le left. ⊎_elim inl (λ now. inr (tears image now)) (time.nothing_else since image le left);
  }

  pub leaves_sync : (new : D) → Elapses told old mid → Tears 0 count (told.images old) (told.images mid) → Elapses told mid new → ((image : List ℕ) → told.images new image → told.images mid image) → LeavesOnly told old new TornFrom
  leaves_sync new time tears time' fewer =
      let run = leaves_write time tears in
      record {
        later = omega (arith, time.later, time'.later);
        each = λ image left. ⊎_elim (run.each image) (λ now. tears image (fewer image now)) (time'.nothing_else (told.moment old) image time.later left);
        before = λ since image le left. ⊎_elim (run.before since image le) (λ now. inr (tears image (fewer image now))) (time'.nothing_else since image (omega (arith, le, time.later)) left);
      }

pub is_formatted : (format generation : ℕ) → generation < 2 ^ 64 → (o n : Option (List ℕ)) → n ≡ option_map (overwritten 0 (empty_text format generation)) o → IfTold n (IsLog format generation [])
is_formatted format generation fits None n e = subst (λ (o : Option (List ℕ)). IfTold o (IsLog format generation [])) (sym e) tt
is_formatted format generation fits (Some file) n e = subst (λ (o : Option (List ℕ)). IfTold o (IsLog format generation [])) (sym e) (empty_log format generation file fits)
