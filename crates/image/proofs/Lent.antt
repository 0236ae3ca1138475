-- A lent image that is well-formed, and the image of a well-formed state: the one is the other.
use Rattle.std.specs.Prelude.{ℕ, true, ◌≡◌, List}
use Rattle.octets.specs.Bytes.{Octets}
use Rattle.rules.specs.Layout.{base}
use Rattle.rules.specs.Pack.{unpack}
use Rattle.rules.specs.Form.{well_formed}
use Rattle.rules.specs.Internal.Good.{Good}
use Rattle.rules.proofs.Good.{good-formed}
use Rattle.rules.proofs.Form.Packed.{formed-pack}
use Rattle.image.specs.declared.formed.Formed.{Formed}

pub good_in : (f : Formed) → Good f.bytes.now
unfolding Octets
good_in f = good-formed f.bytes.now f.long f.octets f.formed

pub formed-good : {img : List ℕ} → Good img → well_formed base img ≡ true
formed-good {img} g = rw (← g.back) (formed-pack base (unpack base img) g.well)
