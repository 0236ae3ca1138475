-- Who rests on a take's present life, as the code finds it: the volume of the takes at which a test holds; the maps of an image.
use Prim.Native.Nat.{ℕ, zero, suc, ◌+◌, ◌*◌, ◌^◌, ◌≤◌, ◌<◌}
use mathlib.Core.Bool.{Bool, true, false, not, false≢true}
use mathlib.Core.Path.{◌≡◌, refl, sym, ◌∙◌, subst}
use mathlib.Core.List.{List}
use native.Mathlib.Omega.{arith}
use lib.Dec.{eqb}
use borrow.Author.Tests.{eq-eqb, ne_eqb}
use Rattle.octets.specs.Bytes.{pick, ◌and◌, part}
use Rattle.marks.specs.declared.History.{History}
use Rattle.marks.specs.Incarnation.{same_incarnation}
use Rattle.marks.specs.History.{incarnation_of}
use Rattle.marks.specs.Packed.{present_in, unpack_history}
use Rattle.rules.specs.Layout.{Layout, history_bytes, state_at, creation_at, behaviour_at, dependences_at, transactor_address, message_address}
use Rattle.rules.specs.Status.{busy}
use Rattle.rules.specs.State.{State, transactor_at, own_history, live}
use Rattle.rules.specs.Refusals.{named}
use Rattle.rules.specs.Pack.{unpack_dependences, waiting_in, unpack}
use Rattle.rules.specs.declared.Dependents.{Dependents}
use Rattle.rules.specs.Calls.{query_refusal}
use Rattle.rules.specs.Dependents.{holds_present, rests_at, works_at, carries_at, group_of, dependents_of, no_dependents, dependents_answer}
use Rattle.rules.specs.Internal.Closure.{Names}
use Rattle.rules.specs.Internal.Held.{present_at}
use Rattle.rules.proofs.Bits.{names-none, names-on, names-off, named-same}
use Rattle.rules.proofs.Pack.Loads.{held-at, history-at, read-state, read-creation, read-behaviour, read-dependences}

-- the code's loop keeps Names; this is the same word
pub group-names : (n : ℕ) (f : ℕ → Bool) → Names f n (group_of n f)
unfolding group_of
group-names zero f = names-none f
group-names (suc n) f = subst (λ (k : ℕ). Names f k (group_of n f + pick (f n) (2 ^ n) 0)) {x = n + 1} {y = suc n} (omega arith) (go (group-names n f) (f n) refl)
  where
    go : Names f n (group_of n f) → (c : Bool) → f n ≡ c → Names f (n + 1) (group_of n f + pick c (2 ^ n) 0)
    go before true e = names-on before (2 ^ n) refl e
    go before false e = subst (Names f (n + 1)) {x = group_of n f} {y = group_of n f + 0} (omega arith) (names-off before e)

-- and there is one such word
pub names-group : (n : ℕ) (f : ℕ → Bool) (v : ℕ) → Names f n v → v ≡ group_of n f
names-group n f v k = let g = group-names n f in named-same n v (group_of n f) k.bits g.bits (λ u l. rw (k.exactly u l, g.exactly u l))

-- a take is in the volume exactly if it is one of the first n and the test holds
pub in_group : (n : ℕ) (f : ℕ → Bool) (u : ℕ) → u < n → named (group_of n f) u ≡ f u
in_group n f u l = (group-names n f).exactly u l

-- ---- the maps of an image

module _ (y : Layout) (img : List ℕ) (t : ℕ) (below : t < y.transactors) where
  abbrev s : State
  s = unpack y img

  pub present-absent : (at : ℕ) → not (present_in (part at (history_bytes y) img)) ≡ true → false ≡ present_at y img at t
  unfolding present_at
  present-absent at e = go (present_in (part at (history_bytes y) img)) _ e
    where
      go : (c d : Bool) → not c ≡ true → false ≡ c and d
      go true d e = absurd (false≢true e)
      go false d e = refl

  pub present-same : (at : ℕ) → not (present_in (part at (history_bytes y) img)) ≡ false → (o : History) → o ≡ own_history t (transactor_at (unpack y img) t)
      → same_incarnation (incarnation_of (unpack_history y.width y.places (part at (history_bytes y) img))) (incarnation_of o) ≡ present_at y img at t
  unfolding present_at
  present-same at e o q = rw q (go (present_in (part at (history_bytes y) img)) _ e)
    where
      go : (c d : Bool) → not c ≡ false → d ≡ c and d
      go true d e = refl
      go false d e = absurd (false≢true (sym e))

  present-map : (at : ℕ) → present_at y img (at + history_bytes y * t) t ≡ holds_present s t (unpack_dependences y at img)
  unfolding present_at holds_present
  present-map at = rw (held-at y at img t below, history-at y at img t below)

  module _ (u : ℕ) (within : u < y.transactors) where
    in-state : present_at y img (transactor_address y u + state_at + history_bytes y * t) t ≡ holds_present s t (transactor_at s u).state
    in-state = rw (read-state y img u within) (present-map (transactor_address y u + state_at))

    in-creation : present_at y img (transactor_address y u + creation_at y + history_bytes y * t) t ≡ holds_present s t (transactor_at s u).creation
    in-creation = rw (read-creation y img u within) (present-map (transactor_address y u + creation_at y))

    in-behaviour : present_at y img (transactor_address y u + behaviour_at y + history_bytes y * t) t ≡ holds_present s t (transactor_at s u).behaviour
    in-behaviour = rw (read-behaviour y img u within) (present-map (transactor_address y u + behaviour_at y))

    pub rests-dead : live (transactor_at s u) ≡ false → false ≡ rests_at s t u
    unfolding rests_at
    rests-dead e = rw e

    module _ (l : live (transactor_at s u) ≡ true) (p : Bool) (ep : p ≡ present_at y img (transactor_address y u + state_at + history_bytes y * t) t) where
      pub rests-state : p ≡ true → true ≡ rests_at s t u
      unfolding rests_at
      rests-state e = rw (l, sym in-state ∙ sym ep ∙ e)

      pub rests-creation : p ≡ false → present_at y img (transactor_address y u + creation_at y + history_bytes y * t) t ≡ rests_at s t u
      unfolding rests_at
      rests-creation e = rw (l, sym in-state ∙ sym ep ∙ e, in-creation)

    pub works-idle : eqb (transactor_at s u).status busy ≡ false → false ≡ works_at s t u
    unfolding works_at
    works-idle e = rw e

    pub works-busy : eqb (transactor_at s u).status busy ≡ true → present_at y img (transactor_address y u + behaviour_at y + history_bytes y * t) t ≡ works_at s t u
    unfolding works_at
    works-busy e = rw (e, in-behaviour)

  pub carries-at : (k : ℕ) → k < waiting_in y img → present_at y img (message_address y k + dependences_at + history_bytes y * t) t ≡ carries_at s t k
  unfolding carries_at
  carries-at k h = rw (read-dependences y img k h) (present-map (message_address y k + dependences_at))

-- all takes are looked at
pub names-end : {n u v : ℕ} {f : ℕ → Bool} → Names f u v → u ≤ n → n ≤ u → v ≡ group_of n f
names-end {n} {u} {v} {f} k h l = let e : u ≡ n = omega arith in names-group n f v (subst (λ (i : ℕ). Names f i v) e k)

-- ---- the call's returns

module _ (y : Layout) (img : List ℕ) (t r : ℕ) (e : r ≡ query_refusal y img t) where
  pub dependents-refused : (r ≡ 0 → ⊥) → (r ≡ query_refusal y img t) × (no_dependents ≡ dependents_answer y img t)
  unfolding dependents_answer
  dependents-refused n = (e, rw (ne_eqb (query_refusal y img t) 0 (λ (z : query_refusal y img t ≡ 0). n (e ∙ z))))

  pub dependents-0 : r ≡ 0 → (d : Dependents) → d ≡ dependents_of y (unpack y img) t → (r ≡ query_refusal y img t) × (d ≡ dependents_answer y img t)
  unfolding dependents_answer
  dependents-0 z d q = (e, q ∙ rw (eq-eqb (query_refusal y img t) 0 (sym e ∙ z)))
