use Rattle.std.proofs.Common.{true, false, sym, ◌∙◌, subst}
use Rattle.base64.specs.declared.engine.DecodePaddingMode.TheVariants.{RequireCanonical}
use Rattle.base64.specs.GeneralPurpose.{IsConfig}
use Rattle.transfer_codec.specs.Base64.{letters}
use Rattle.transfer_codec.proofs.engines.standard_engine.Goals as goal

pub returns : goal.returns
unfolding letters
returns c = record {
  symbols = c.new-3.ensures.symbols ∙ c.in-Ok.ensures.ok.0;
  pads = c.new-3.ensures.padding ∙ c.in-Ok.ensures.ok.1;
  strict = subst (λ config. IsConfig config true false RequireCanonical) (sym c.new-3.ensures.config) c.new-2.ensures;
}
