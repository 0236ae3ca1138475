-- Layouts of another width, with or without stored limits, and images from one layout to another: what the laws on conversions go over.
use Rattle.std.specs.Prelude.{ℕ, Bool, List}
use Rattle.rules.specs.Layout.{Layout}
use Rattle.rules.specs.Pack.{pack, unpack}

-- y with life numbers of w bytes, and the limits stored or not
abbrev pub resized : Layout → ℕ → Bool → Layout
resized y w stored = record { width = w; places = y.places; transactors = y.transactors; messages = y.messages; limited = stored }

-- an image of layout y in layout z
unfoldable pub rewritten : Layout → Layout → List ℕ → List ℕ
rewritten y z img = pack z (unpack y img)
