-- 32 is read off the first bytes of the numbers, mark by mark.
use Prim.Native.Nat.{ℕ, ◌+◌, ◌*◌, ◌<◌}
use mathlib.Core.Bool.{Bool, not}
use mathlib.Core.Path.{◌≡◌, ap, sym, ◌∙◌}
use mathlib.Core.List.{List}
use native.Mathlib.Omega.{arith}
use Rattle.octets.specs.Bytes.{◌and◌, ◌or◌, part, every}
use Rattle.octets.proofs.Tests.{and_assoc}
use Rattle.octets.proofs.Zero.{every-same}
use Rattle.octets.proofs.Runs.{every-add}
use Rattle.maps.specs.Map.{held_at, history_at}
use Rattle.rules.specs.Layout.{Layout, history_bytes, map_bytes, state_at, creation_at, behaviour_at, dependences_at, transactor_address, message_address}
use Rattle.rules.specs.State.{transactor_at, message_at}
use Rattle.rules.specs.Pack.{unpack_dependences, waiting_in, unpack}
use Rattle.marks.specs.Within.{history_within}
use Rattle.maps.specs.Within.{map_within}
use Rattle.convert.specs.Convert.{transactor_within, message_within, state_within}
use Rattle.convert.specs.Internal.HighBytes.{entry_within, entries_within}
use Rattle.rules.proofs.Pack.Loads.{held-at, history-at, read-state, read-creation, read-behaviour, read-dependences, unpack-waiting}

module _ (n : ℕ) (y : Layout) (img : List ℕ) where
  map-entries : (at : ℕ) → map_within n y.places y.transactors (unpack_dependences y at img) ≡ entries_within n y img at y.transactors
  unfolding map_within entries_within entry_within
  map-entries at = every-same (λ i. not (held_at (unpack_dependences y at img) i) or history_within n y.places (history_at (unpack_dependences y at img) i)) (λ i. entry_within n y (part (at + history_bytes y * i) (history_bytes y) img)) y.transactors
      (λ i h. rw (held-at y at img i h, history-at y at img i h))

  entries-add : (at a b : ℕ) → entries_within n y img at (a + b) ≡ entries_within n y img at a and entries_within n y img (at + history_bytes y * a) b
  unfolding entries_within
  entries-add at a b =
      let f : ℕ → Bool = λ i. entry_within n y (part (at + history_bytes y * i) (history_bytes y) img) in
      every-add a b f
      ∙ ap (λ (t : Bool). every a f and t) (every-same (λ i. f (a + i)) (λ i. entry_within n y (part (at + history_bytes y * a + history_bytes y * i) (history_bytes y) img)) b
      (λ i h. ap (λ (k : ℕ). entry_within n y (part k (history_bytes y) img)) (omega arith)))

  -- the three maps of a take, one after the other
  transactor-entries : (t : ℕ) → t < y.transactors → transactor_within n y (transactor_at (unpack y img) t) ≡ entries_within n y img (transactor_address y t + state_at) (y.transactors + y.transactors + y.transactors)
  unfolding transactor_within
  transactor-entries t h =
      let at : ℕ = transactor_address y t + state_at in
      let m : ℕ = y.transactors in
      let b : at + map_bytes y ≡ transactor_address y t + creation_at y = omega arith in
      let c : at + history_bytes y * (m + m) ≡ transactor_address y t + behaviour_at y = omega arith in
      rw (read-state y img t h, read-creation y img t h, read-behaviour y img t h, map-entries at, map-entries (transactor_address y t + creation_at y), map-entries (transactor_address y t + behaviour_at y), entries-add at (m + m) m, entries-add at m m, b, c)
      (sym (and_assoc (entries_within n y img at m) (entries_within n y img (transactor_address y t + creation_at y) m) (entries_within n y img (transactor_address y t + behaviour_at y) m)))

  message-entries : (k : ℕ) → k < waiting_in y img → message_within n y (message_at (unpack y img) k) ≡ entries_within n y img (message_address y k + dependences_at) y.transactors
  unfolding message_within
  message-entries k h = ap (map_within n y.places y.transactors) (read-dependences y img k h) ∙ map-entries (message_address y k + dependences_at)

  -- of the whole image: its takes, and its parcels that wait
  pub state-entries : state_within n y (unpack y img)
      ≡ every y.transactors (λ t. entries_within n y img (transactor_address y t + state_at) (y.transactors + y.transactors + y.transactors))
      and every (waiting_in y img) (λ k. entries_within n y img (message_address y k + dependences_at) y.transactors)
  unfolding state_within
  state-entries = rw (
    unpack-waiting y img,
    every-same (λ t. transactor_within n y (transactor_at (unpack y img) t)) (λ t. entries_within n y img (transactor_address y t + state_at) (y.transactors + y.transactors + y.transactors)) y.transactors transactor-entries,
    every-same (λ k. message_within n y (message_at (unpack y img) k)) (λ k. entries_within n y img (message_address y k + dependences_at) y.transactors) (waiting_in y img) message-entries,
  )
