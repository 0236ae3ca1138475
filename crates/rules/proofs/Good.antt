-- Images of well-formed states.
use Prim.Native.Nat.{ℕ}
use mathlib.Core.Bool.{true}
use mathlib.Core.Path.{◌≡◌, ap}
use mathlib.Core.List.{List}
use lib.ListN.{length}
use Rattle.octets.specs.Bytes.{Octets}
use Rattle.rules.specs.Layout.{base, image_bytes}
use Rattle.rules.specs.State.{State}
use Rattle.rules.specs.Pack.{pack, unpack}
use Rattle.rules.specs.Form.{well_formed}
use Rattle.rules.specs.Internal.Well.{WellFormed}
use Rattle.rules.specs.Internal.Good.{Good}
use Rattle.rules.proofs.Pack.Sizes.{length-pack}
use Rattle.rules.proofs.Pack.RoundTrip.{unpack-pack, pack-unpack-formed}
use Rattle.rules.proofs.Form.State.{formed-state}

pub good-pack : (s : State) → WellFormed base s → Good (pack base s)
good-pack s w =
    let e : unpack base (pack base s) ≡ s = unpack-pack base s w.packable in
    record { long = length-pack base s; back = ap (pack base) e; well = rw e w }

pub good-formed : (img : List ℕ) → length img ≡ image_bytes base → Octets img → well_formed base img ≡ true → Good img
good-formed img long o e = record { long = long; back = pack-unpack-formed base img long o e; well = formed-state base img long o e }
