use Rattle.std.proofs.Common.{◌∙◌}
use Rattle.pep440_compiled.proofs.Fronts.{parsed}
use Rattle.pep440_compiled.proofs.form_buffer.FormBuffer.compile_other.Goals as goal

pub returns : goal.returns
returns c =
    let (r, derives, bytes) = c.in_ok-self.ensures.found in
    record {
      found = (r, derives, record { parsed = parsed c.args.text.now r derives; same = c.as_slice.ensures.value ∙ bytes });
      rejected = tt;
    }
