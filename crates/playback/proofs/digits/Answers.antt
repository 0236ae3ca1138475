-- What is written at the start stands there.
use Rattle.std.proofs.Common.{length, ◌∙◌, refl}
use lib.Seq.{take_at}
use Rattle.octets.proofs.Put.{put-def}
use Rattle.playback.proofs.digits.Goals as goal

pub returns-clause-value : goal.returns-clause-value
returns-clause-value c =
    let w = c.as_bytes-written.result.now in
    rw (c.write.ensures, put-def) (take_at w _ (length w) refl ∙ c.as_bytes-written.ensures.value ∙ c.format.ensures.text)
