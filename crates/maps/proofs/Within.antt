-- The numbers of the marks of a map: what fits a width is low, what is low fits, and the test says the same.
use Prim.Native.Nat.{ℕ, ◌+◌, ◌≤◌}
use mathlib.Core.Bool.{Bool, true, not}
use mathlib.Core.Path.{◌≡◌, refl, sym}
use native.Mathlib.Omega.{arith}
use Rattle.octets.specs.Bytes.{◌or◌}
use Rattle.octets.specs.Numbers.{bound}
use Rattle.octets.proofs.Tests.{implied, implying, never}
use Rattle.octets.proofs.Zero.{every-all, every-at}
use Rattle.marks.specs.declared.History.{History}
use Rattle.marks.specs.Within.{history_within, Low}
use Rattle.marks.proofs.Within.{within_low, low-within}
use Rattle.maps.specs.declared.DependenceMap.{DependenceMap}
use Rattle.maps.specs.Map.{held_at, history_at}
use Rattle.maps.specs.Within.{map_within, LowMap}
use Rattle.maps.specs.Internal.Fitting.{EntryOk, present, absent, MapOk}

-- ---- what fits is low, also below a higher bound

module _ (v w : ℕ) (more : bound v ≤ bound w) where
  low-entry : {l : ℕ} {p : Bool} {h : History} → EntryOk v l p h → p ≡ true → Low (bound w) h
  low-entry (present r k) e = record {
    incarnation = omega (arith, k.incarnation);
    checkpoints = λ i. omega (arith, k.checkpoints i);
  }
  low-entry absent e = never (sym e)

  pub low-map : {l n : ℕ} {m : DependenceMap} → MapOk v l n m → LowMap (bound w) n m
  unfolding LowMap
  low-map o i h e = low-entry (o.each i h) e

-- ---- what is low fits

module _ (v w : ℕ) where
  entry-fits : {l : ℕ} {p : Bool} {h : History} → EntryOk v l p h → (p ≡ true → Low (bound w) h) → EntryOk w l p h
  entry-fits (present r k) f = let z = f refl in present r (record { incarnation = z.incarnation; checkpoints = z.checkpoints; count = k.count })
  entry-fits absent f = absent

  pub map-fits : {l n : ℕ} {m : DependenceMap} → MapOk v l n m → LowMap (bound w) n m → MapOk w l n m
  unfolding LowMap
  map-fits o f = record { helds = o.helds; histories = o.histories; each = λ i h. entry-fits (o.each i h) (f i h) }

-- ---- the test says the same

module _ (n l k : ℕ) where
  entry-low : {v : ℕ} {p : Bool} {h : History} → EntryOk v l p h → p ≡ true → history_within n l h ≡ true → Low (n + 1) h
  entry-low (present r q) e f = within_low n l r f
  entry-low absent e f = never (sym e)

  pub map-low : {v : ℕ} {m : DependenceMap} → MapOk v l k m → map_within n l k m ≡ true → LowMap (n + 1) k m
  unfolding map_within LowMap
  map-low {m} o e i h p = entry-low (o.each i h) p
      (implied (held_at m i) (history_within n l (history_at m i)) (every-at (λ i. not (held_at m i) or history_within n l (history_at m i)) k i e h) p)

  pub low-map_within : (m : DependenceMap) → LowMap (n + 1) k m → map_within n l k m ≡ true
  unfolding map_within LowMap
  low-map_within m f = every-all (λ i. not (held_at m i) or history_within n l (history_at m i)) k
      (λ i h. implying (held_at m i) (history_within n l (history_at m i)) (λ p. low-within n l (f i h p)))
