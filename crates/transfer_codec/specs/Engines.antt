-- The engine of standard base64.
use Rattle.std.specs.Prelude.{◌≡◌, true, false}
use Rattle.base64.specs.declared.engine.general_purpose.GeneralPurpose.{GeneralPurpose}
use Rattle.base64.specs.declared.engine.DecodePaddingMode.TheVariants.{RequireCanonical}
use Rattle.base64.specs.GeneralPurpose.{IsConfig, engine_config, engine_padding, engine_symbols}
use Rattle.transfer_codec.specs.Base64.{letters, padding}

-- An engine over the 64 letters, which writes the padding and wants it, and takes no bits that stand for nothing but zeros.
pub record IsStandard (engine : GeneralPurpose) : Type 0 where
  pub symbols : engine_symbols engine ≡ letters
  pub pads : engine_padding engine ≡ padding
  pub strict : IsConfig (engine_config engine) true false RequireCanonical
