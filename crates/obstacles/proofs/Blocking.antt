-- The tests of the code, one after the other, and the first that is one.
use Prim.Native.Nat.{ℕ, ◌+◌, ◌*◌, ◌<◌}
use mathlib.Core.Bool.{Bool, true, false, not, false≢true}
use mathlib.Core.Path.{◌≡◌, refl, sym, ap, ◌∙◌}
use mathlib.Core.List.{List}
use Rattle.std.specs.Prelude.{Option, Some, None}
use Rattle.std.specs.Option.{option_or}
use Rattle.octets.specs.Bytes.{pick, ◌and◌, part}
use Rattle.marks.specs.declared.History.{History}
use Rattle.marks.specs.Incarnation.{same_incarnation, checkpointed_in}
use Rattle.marks.specs.History.{incarnation_of}
use Rattle.marks.specs.Packed.{present_in, unpack_history}
use Rattle.marks.proofs.Order.{checkpointed-ne}
use Rattle.marks.proofs.Tests.{checkpointed-test, same_test}
use Rattle.maps.specs.Map.{history_at}
use Rattle.rules.specs.declared.Obstacle.{Obstacle}
use Rattle.rules.specs.declared.Obstacle.TheVariants.{Unstable, Outside, SupersededOrAnnihilated}
use Rattle.rules.specs.Layout.{Layout, history_bytes, state_at, creation_at, transactor_address}
use Rattle.rules.specs.State.{State, Transactor, transactor_at, own_history, live}
use Rattle.rules.specs.Refusals.{named}
use Rattle.rules.specs.Rules.{entry_ready}
use Rattle.rules.specs.Pack.{unpack_dependences, unpack}
use Rattle.rules.specs.Obstacle.{first_of, unstable_at, blocks_in, is_present, ground_of, entry_obstacle, map_obstacle}
use Rattle.rules.proofs.Pack.Loads.{held-at, history-at, read-state, read-creation}
use Rattle.obstacles.specs.Internal.Marks.{mark_obstacle}

-- ---- one mark

module _ (y : Layout) (img : List ℕ) (v t u at : ℕ) where
  abbrev s : State
  s = unpack y img

  abbrev x : Transactor
  x = transactor_at (unpack y img) u

  abbrev h : History
  h = unpack_history y.width y.places (part at (history_bytes y) img)

  there-is : not (present_in (part at (history_bytes y) img)) ≡ false → present_in (part at (history_bytes y) img) ≡ true
  there-is = go (present_in (part at (history_bytes y) img))
    where
      go : (c : Bool) → not c ≡ false → c ≡ true
      go true e = refl
      go false e = absurd (false≢true (sym e))

  pub mark-absent : not (present_in (part at (history_bytes y) img)) ≡ true → None ≡ mark_obstacle y img v t u at
  unfolding mark_obstacle
  mark-absent e = go (present_in (part at (history_bytes y) img)) _ _ e
    where
      go : (c d : Bool) (o : Option Obstacle) → not c ≡ true → None ≡ pick (c and d) o None
      go true d o e = absurd (false≢true e)
      go false d o e = refl

  module _ (p : not (present_in (part at (history_bytes y) img)) ≡ false) where
    pub mark-dead : live x ≡ false → Some (SupersededOrAnnihilated t u) ≡ mark_obstacle y img v t u at
    unfolding mark_obstacle entry_ready ground_of is_present
    mark-dead l = rw (there-is p, l)

    module _ (l : live x ≡ true) (o : History) (own : o ≡ own_history u x) where
      same-to : (c : Bool) → same_incarnation (incarnation_of h) (incarnation_of o) ≡ c → same_incarnation (incarnation_of h) (incarnation_of (own_history u x)) ≡ c
      same-to c e = ap (λ (z : History). same_incarnation (incarnation_of h) (incarnation_of z)) (sym own) ∙ e

      -- the same history, read where it stands
      checkpointed-to : (g : History) → g ≡ own_history u x → (c : Bool) → checkpointed_in (incarnation_of h) (incarnation_of g) ≡ c → checkpointed_in (incarnation_of h) (incarnation_of (own_history u x)) ≡ c
      checkpointed-to g k c e = ap (λ (z : History). checkpointed_in (incarnation_of h) (incarnation_of z)) (sym k) ∙ e

      module _ (same : same_incarnation (incarnation_of h) (incarnation_of o) ≡ true) where
        -- a present life is not signed
        unsigned : checkpointed_in (incarnation_of h) (incarnation_of (own_history u x)) ≡ false
        unsigned = go (checkpointed_in (incarnation_of h) (incarnation_of (own_history u x))) refl
          where
            go : (c : Bool) → checkpointed_in (incarnation_of h) (incarnation_of (own_history u x)) ≡ c → c ≡ false
            go false e = refl
            go true e = absurd (checkpointed-ne ((checkpointed-test _ _).0 e) ((same_test _ _).0 (same-to true same)))

        pub mark-member : named v u ≡ true → None ≡ mark_obstacle y img v t u at
        unfolding mark_obstacle entry_ready
        mark-member n = rw (there-is p, l, n, same-to true same, unsigned)

        pub mark-outside : named v u ≡ false → Some (Outside t u) ≡ mark_obstacle y img v t u at
        unfolding mark_obstacle entry_ready ground_of is_present
        mark-outside n = rw (there-is p, l, n, same-to true same, unsigned)

      module _ (other : same_incarnation (incarnation_of h) (incarnation_of o) ≡ false) where
        pub mark-checkpointed : (g : History) → g ≡ own_history u x → checkpointed_in (incarnation_of h) (incarnation_of g) ≡ true → None ≡ mark_obstacle y img v t u at
        unfolding mark_obstacle entry_ready
        mark-checkpointed g k e = rw (there-is p, l, checkpointed-to g k true e)

        pub mark-withdrawn : (g : History) → g ≡ own_history u x → checkpointed_in (incarnation_of h) (incarnation_of g) ≡ false → Some (SupersededOrAnnihilated t u) ≡ mark_obstacle y img v t u at
        unfolding mark_obstacle entry_ready ground_of is_present
        mark-withdrawn g k e = rw (there-is p, l, checkpointed-to g k false e, same-to false other) (go (named v u))
          where
            go : (c : Bool) → Some (SupersededOrAnnihilated t u) ≡ pick (not (c and false)) (Some (SupersededOrAnnihilated t u)) None
            go true = refl
            go false = refl

-- ---- the two marks of an entry

module _ (y : Layout) (img : List ℕ) (v t u : ℕ) (low : t < y.transactors) (within : u < y.transactors) where
  mark-map : (at : ℕ) → mark_obstacle y img v t u (at + history_bytes y * u)
      ≡ pick (blocks_in (unpack y img) v (unpack_dependences y at img) u) (Some (ground_of (unpack y img) t u (history_at (unpack_dependences y at img) u))) None
  unfolding mark_obstacle blocks_in
  mark-map at = rw (held-at y at img u within, history-at y at img u within)

  in-state : mark_obstacle y img v t u (transactor_address y t + state_at + history_bytes y * u)
      ≡ pick (blocks_in (unpack y img) v (transactor_at (unpack y img) t).state u) (Some (ground_of (unpack y img) t u (history_at (transactor_at (unpack y img) t).state u))) None
  in-state = rw (read-state y img t low) (mark-map (transactor_address y t + state_at))

  in-creation : mark_obstacle y img v t u (transactor_address y t + creation_at y + history_bytes y * u)
      ≡ pick (blocks_in (unpack y img) v (transactor_at (unpack y img) t).creation u) (Some (ground_of (unpack y img) t u (history_at (transactor_at (unpack y img) t).creation u))) None
  in-creation = rw (read-creation y img t low) (mark-map (transactor_address y t + creation_at y))

  pub entry-is : option_or (mark_obstacle y img v t u (transactor_address y t + state_at + history_bytes y * u)) (mark_obstacle y img v t u (transactor_address y t + creation_at y + history_bytes y * u)) ≡ entry_obstacle (unpack y img) v t u
  unfolding entry_obstacle
  entry-is = rw (in-state, in-creation) (go (blocks_in (unpack y img) v (transactor_at (unpack y img) t).state u) _ _)
    where
      go : (c : Bool) (o : Obstacle) (p : Option Obstacle) → option_or (pick c (Some o) None) p ≡ pick c (Some o) p
      go true o p = refl
      go false o p = refl

-- ---- a take, a volume

module _ (y : Layout) (s : State) (v t : ℕ) where
  pub unstable-unnamed : named v t ≡ false → None ≡ unstable_at s v t
  unfolding unstable_at
  unstable-unnamed e = rw e

  pub unstable-stable : named v t ≡ true → (h : History) → h ≡ own_history t (transactor_at s t) → h.stable ≡ true → None ≡ unstable_at s v t
  unfolding unstable_at
  unstable-stable n h e q = rw (n, sym (ap (λ (z : History). z.stable) e) ∙ q)

  pub unstable-not : named v t ≡ true → (h : History) → h ≡ own_history t (transactor_at s t) → h.stable ≡ false → Some (Unstable t) ≡ unstable_at s v t
  unfolding unstable_at
  unstable-not n h e q = rw (n, sym (ap (λ (z : History). z.stable) e) ∙ q)

  pub map-unnamed : named v t ≡ false → None ≡ map_obstacle y s v t
  unfolding map_obstacle
  map-unnamed e = rw e

  pub map-named : named v t ≡ true → {o : Option Obstacle} → o ≡ first_of (entry_obstacle s v t) 0 y.transactors → o ≡ map_obstacle y s v t
  unfolding map_obstacle
  map-named e q = q ∙ rw e
