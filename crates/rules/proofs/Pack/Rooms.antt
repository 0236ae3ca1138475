-- The marks of a good image have zeros in the unused places of their lists.
use Prim.Native.Nat.{ℕ, ◌+◌, ◌*◌, ◌<◌}
use mathlib.Core.Path.{◌≡◌, sym, subst}
use mathlib.Core.List.{List}
use Rattle.marks.specs.History.{Roomy}
use Rattle.marks.specs.Packed.{history_in}
use Rattle.maps.specs.declared.DependenceMap.{DependenceMap}
use Rattle.maps.proofs.View.{roomy-entry}
use Rattle.rules.specs.Layout.{base, history_bytes, state_at, creation_at, behaviour_at, dependences_at, transactor_address, message_address}
use Rattle.rules.specs.Pack.{unpack_dependences, waiting_in}
use Rattle.rules.specs.Internal.Well.{DependencesOk}
use Rattle.rules.specs.Internal.Good.{Good}
use Rattle.rules.proofs.Pack.Loads.{history-at, read-state, read-creation, read-behaviour, read-dependences, unpack-waiting}

-- the mark packed in img from at on
abbrev pub Room : List ℕ → ℕ → Type 0
Room img at = Roomy base.places (history_in base.width base.places img at)

module _ (img : List ℕ) (good : Good img) (i : ℕ) (below : i < base.transactors) where
  room-in : {m : DependenceMap} (at : ℕ) → DependencesOk base m → m ≡ unpack_dependences base at img → Room img (at + history_bytes base * i)
  room-in at k e = subst (Roomy base.places) (history-at base at img i below) (roomy-entry ((subst (DependencesOk base) e k).each i below))

  module _ (t : ℕ) (low : t < base.transactors) where
    pub room-state : Room img (transactor_address base t + state_at + history_bytes base * i)
    room-state = room-in (transactor_address base t + state_at) (good.well.packable.transactors t low).state (read-state base img t low)

    pub room-creation : Room img (transactor_address base t + creation_at base + history_bytes base * i)
    room-creation = room-in (transactor_address base t + creation_at base) (good.well.packable.transactors t low).creation (read-creation base img t low)

    pub room-behaviour : Room img (transactor_address base t + behaviour_at base + history_bytes base * i)
    room-behaviour = room-in (transactor_address base t + behaviour_at base) (good.well.packable.transactors t low).behaviour (read-behaviour base img t low)

  pub room-message : (k : ℕ) → k < waiting_in base img → Room img (message_address base k + dependences_at + history_bytes base * i)
  room-message k h =
      room-in (message_address base k + dependences_at) (good.well.packable.messages k (subst (λ (n : ℕ). k < n) (sym (unpack-waiting base img)) h)).dependences (read-dependences base img k h)
