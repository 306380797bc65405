-- What may have been called on ports whose record of a call found no memory.
use Rattle.std.proofs.Common.{ℕ, ◌≡◌, Bool, true, false, List, [], ◌∷◌, refl, sym, subst, inl, inr}
use Rattle.port_model.specs.declared.calls.PortCall.{PortCall}
use Rattle.port_model.specs.History.{event_of, piece_at}
use Rattle.port_model.specs.Playing.{Plan, IsPlayed}
use Rattle.port_model.specs.Player.{Played}
use Rattle.port_model.specs.ScriptPorts.{GiveNothing, HasCalls, IsFollowed, IsPlayedUntil, Starves}

played-until : (plan : Plan) (calls : List PortCall) → IsPlayed plan calls → IsPlayedUntil plan calls
played-until plan [] played = tt
played-until plan (call ∷ older) played = inl played

until-now : (starved : Bool) (plan : Plan) (calls before : List PortCall) → (starved ≡ false → IsPlayed plan calls) → HasCalls starved plan calls before → IsPlayedUntil plan before
until-now true plan calls before played has = has.until
until-now false plan calls before played has = subst (IsPlayedUntil plan) (sym has) (played-until plan calls (played refl))

-- After a call that gives nothing the history is still one that starves.
pub starves : (call : PortCall) (played : Played) (plan : Plan) (starved : Bool) (calls : List PortCall) (texts : ℕ → List ℕ) (before : List PortCall) → plan ≡ played.plan
    → (starved ≡ false → IsFollowed played calls texts) → HasCalls starved played.plan calls before → GiveNothing (event_of call before) → ((reading : ℕ) → piece_at reading (call ∷ before) ≡ [])
    → Starves plan (call ∷ before)
starves call played plan starved calls texts before same follows has nothing none = record {
  until = inr (nothing, subst (λ (p : Plan). IsPlayedUntil p before) (sym same) (until-now starved played.plan calls before (λ told. (follows told).answers) has));
  none_waits = none;
}
