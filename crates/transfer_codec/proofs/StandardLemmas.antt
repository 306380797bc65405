-- The engine of standard base64 encodes as the definition says.
use Rattle.std.proofs.Common.{◌≡◌, ℕ, List, Option, Some, None, refl, sym, ◌∙◌, ap, subst}
use Rattle.base64.specs.Rfc4648.{encode}
use Rattle.base64.specs.Decode.{IsExact}
use Rattle.base64.specs.GeneralPurpose.{IsStrict, encode_of, config_padding, engine_config, engine_padding}
use Rattle.base64.specs.declared.engine.general_purpose.GeneralPurpose.{GeneralPurpose}
use Rattle.transfer_codec.specs.Base64.{letters, base64, padding}
use Rattle.transfer_codec.specs.Engines.{IsStandard}

pub encodes_standard : (engine : GeneralPurpose) (bytes : List ℕ) → IsStandard engine → encode_of engine bytes ≡ base64 bytes
encodes_standard engine bytes h =
    ap (λ t. encode t (engine_padding engine) (config_padding (engine_config engine)) bytes) h.symbols
    ∙ ap (λ p. encode letters p (config_padding (engine_config engine)) bytes) h.pads ∙ ap (λ b. encode letters padding b bytes) h.strict.0

pub is_strict : (engine : GeneralPurpose) → IsStandard engine → IsStrict engine
is_strict engine h = (h.strict.1, subst (λ mode. IsExact mode (config_padding (engine_config engine))) (sym h.strict.2) h.strict.0)

pub none_is : {A : Type 0} (o : Option A) → ((x : A) → o ≡ Some x → ⊥) → None ≡ o
none_is None h = refl
none_is (Some x) h = absurd (h x refl)
