-- Where show finds what it shows.
use Rattle.std.specs.Prelude.{ℕ, List, eqb, Result, Ok, Err}
use Rattle.octets.specs.Bytes.{pick}
use Rattle.rules.specs.Layout.{Layout}
use Rattle.rules.specs.State.{place_of}
use Rattle.rules.specs.Pack.{unpack}
use Rattle.rules.specs.declared.refusals.Refusal.{Refusal}
use Rattle.rules.specs.Calls.{show_refusal}
use Rattle.image.specs.Internal.Addresses.{map_at}

-- the map of the waiting parcel with number n; refused, 0
unfoldable pub shown_at : Layout → List ℕ → ℕ → ℕ
shown_at y img n = pick (eqb (show_refusal y img n) 0) (map_at y (place_of (unpack y img) n)) 0

-- the place that is answered; refused, 0
abbrev pub place_in : Result ℕ Refusal → ℕ
place_in (Ok at) = at
place_in (Err r) = 0
