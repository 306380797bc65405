-- Changes and payloads one after another.
use Rattle.std.proofs.Common.{◌≡◌, List, ℕ, [], ◌∷◌, ◌++◌, refl, sym, ap, ◌∙◌, subst}
use Rattle.std.proofs.lemmas.List.{append_assoc, append-nil}
use Rattle.row_tables.specs.TableRows.{TableRows}
use Rattle.row_tables.specs.Fits.{Fits, applied, CanRun, Runs}
use Rattle.row_tables.specs.declared.change.RowChange.{RowChange}
use Rattle.row_codec.specs.Encoding.{HaveTexts, HaveWidths, encoding}
use Rattle.row_store.specs.Holding.{Replays}

runs_and : (t now : TableRows) (made : List RowChange) (change : RowChange) → Runs t made now → Fits now change → Runs t (made ++ change ∷ []) (applied now change)
runs_and t now [] change e f = (subst (λ u. Fits u change) (sym e) f, ap (λ u. applied u change) e)
runs_and t now (c ∷ made) change h f = (h.0, runs_and (applied t c) now made change h.1 f)

runs_left : (t now after : TableRows) (made left : List RowChange) → Runs t made now → Runs t (made ++ left) after → Runs now left after
runs_left t now after [] left e r = subst (λ u. Runs u left after) e r
runs_left t now after (c ∷ made) left h r = runs_left (applied t c) now after made left h.1 r.1

-- one change more was made
pub one_more : (t now new : TableRows) (all made left rest : List RowChange) (change : RowChange) → Runs t made now → all ≡ made ++ left → left ≡ change ∷ rest → Fits now change → new ≡ applied now change
    → Runs t (made ++ change ∷ []) new × (all ≡ (made ++ change ∷ []) ++ rest)
one_more t now new all made left rest change runs split e fits done =
    (subst (Runs t (made ++ change ∷ [])) (sym done) (runs_and t now made change runs fits), split ∙ ap (λ l. made ++ l) e ∙ sym (append_assoc made (change ∷ []) rest))

-- changes can't run where the next one doesn't fit
pub stuck : (t now : TableRows) (all made left rest : List RowChange) (change : RowChange) → Runs t made now → all ≡ made ++ left → left ≡ change ∷ rest → (Fits now change → ⊥) → CanRun t all → ⊥
stuck t now all made left rest change runs split e none can =
    none (runs_left t now can.0 made (change ∷ rest) runs (subst (λ l. Runs t l can.0) (split ∙ ap (λ l. made ++ l) e) can.1)).0

-- The laws of what the payloads say.
pub record Laws : Type 0 where
  pub one_end : (t : TableRows) (changes : List RowChange) (after other : TableRows) → Runs t changes after → Runs t changes other → after ≡ other
  pub differ : (changes others : List RowChange) → HaveTexts changes → HaveWidths changes → HaveTexts others → HaveWidths others → encoding changes ≡ encoding others → changes ≡ others
  pub texts : (t after : TableRows) (changes : List RowChange) → Runs t changes after → HaveTexts changes

pub replays_more : (t now new : TableRows) (payloads : List (List ℕ)) (payload : List ℕ) (changes : List RowChange) → Replays t payloads now → HaveWidths changes → payload ≡ encoding changes → Runs now changes new
    → Replays t (payloads ++ payload ∷ []) new
replays_more t now new [] payload changes e widths is runs = (changes, widths, is, (new, subst (λ u. Runs u changes new) (sym e) runs, refl))
replays_more t now new (p ∷ payloads) payload changes (c, w, e, (mid, r, rest)) widths is runs = (c, w, e, (mid, r, replays_more mid now new payloads payload changes rest widths is runs))

module _ (laws : Laws) where
  pub same_changes : (t now after : TableRows) (payload : List ℕ) (changes others : List RowChange) → HaveWidths changes → payload ≡ encoding changes → Runs t changes now → HaveWidths others → payload ≡ encoding others → Runs t others after
      → others ≡ changes
  same_changes t now after payload changes others w e r w' e' r' =
      laws.differ others changes (laws.texts t after others r') w' (laws.texts t now changes r) w (sym e' ∙ e)

  replays_left : (t now after : TableRows) (payloads left : List (List ℕ)) → Replays t payloads now → Replays t (payloads ++ left) after → Replays now left after
  replays_left t now after [] left e r = subst (λ u. Replays u left after) e r
  replays_left t now after (p ∷ payloads) left (c, w, e, (mid, r, rest)) (c', w', e', (mid', r', rest')) =
      let same : c' ≡ c = same_changes t mid mid' p c c' w e r w' e' r' in
      let mids : mid' ≡ mid = laws.one_end t c mid' mid (subst (λ x. Runs t x mid') same r') r in
      replays_left mid now after payloads left rest (subst (λ u. Replays u (payloads ++ left) after) mids rest')

  -- payloads make one thing
  pub one_replay : (t now after : TableRows) (payloads : List (List ℕ)) → Replays t payloads now → Replays t payloads after → now ≡ after
  one_replay t now after payloads h k = replays_left t now after payloads [] h (subst (λ l. Replays t l after) (sym (append-nil payloads)) k)

  -- payloads make nothing where the next one isn't changes that fit
  pub replay_stuck : (t now : TableRows) (all made left rest : List (List ℕ)) (payload : List ℕ) → Replays t made now → all ≡ made ++ left → left ≡ payload ∷ rest
      → ((changes : List RowChange) → HaveWidths changes → payload ≡ encoding changes → CanRun now changes → ⊥)
      → (after : TableRows) → Replays t all after → ⊥
  replay_stuck t now all made left rest payload runs split e none after whole =
      by (replays_left t now after made (payload ∷ rest) runs (subst (λ l. Replays t l after) (split ∙ ap (λ l. made ++ l) e) whole))
    where
      by : Replays now (payload ∷ rest) after → ⊥
      by (c, w, is, (mid, r, more)) = none c w is (mid, r)

-- one payload more was made
pub one_payload_more : (t now new : TableRows) (all made left rest : List (List ℕ)) (payload : List ℕ) (changes : List RowChange) → Replays t made now → all ≡ made ++ left → left ≡ payload ∷ rest
    → HaveWidths changes → payload ≡ encoding changes → Runs now changes new
    → Replays t (made ++ payload ∷ []) new × (all ≡ (made ++ payload ∷ []) ++ rest)
one_payload_more t now new all made left rest payload changes runs split e widths is run =
    (replays_more t now new made payload changes runs widths is run, split ∙ ap (λ l. made ++ l) e ∙ sym (append_assoc made (payload ∷ []) rest))
