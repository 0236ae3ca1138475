-- A step of each kind on an image: what each way out of the code gives.
use Prim.Native.Nat.{ℕ, ◌+◌, ◌-◌, ◌≤◌, ◌<◌}
use mathlib.Core.Bool.{true, false, not}
use mathlib.Core.Path.{◌≡◌, refl, sym, ap, ◌∙◌}
use mathlib.Core.List.{List}
use native.Mathlib.Omega.{arith}
use lib.Dec.{leb}
use lib.ListN.{length}
use borrow.Author.Tests.{le-leb, lt-leb, not-true, not-false}
use Rattle.octets.specs.Bytes.{pick}
use Rattle.octets.specs.Numbers.{bound}
use Rattle.maps.specs.declared.DependenceMap.{DependenceMap}
use Rattle.rules.specs.Layout.{base, last_number}
use Rattle.rules.specs.State.{Transactor, State, transactor_at, with_transactor, with_message, without_message, place_of}
use Rattle.rules.specs.declared.Step.{Step}
use Rattle.rules.specs.declared.Reply.{Reply}
use Rattle.rules.specs.Step.{done, not_ready, root, letter, new, send, lose, sign}
use Rattle.rules.specs.Refusals.{malformed}
use Rattle.rules.specs.Rules.{no_dependences, carried, group_ready, checkpoint_group, refusal, answer, apply_root, apply_letter, apply_new, apply_send, apply_lose, apply_sign}
use Rattle.rules.specs.Pack.{pack_transactor, unpack_transactor, waiting_in, pack, unpack}
use Rattle.rules.specs.Internal.Good.{Good}
use Rattle.steps.specs.Internal.Stepped.{Stepped, Asked, Counted}
use Rattle.rules.specs.Internal.Guards.{first, busy_refusal, room_refusal, busy_in, room_in, group_in}
use Rattle.transactor.specs.Internal.Effects.{open_bytes, adopts}
use Rattle.rules.proofs.Pack.Stores.{with_transactor-many}
use Rattle.rules.proofs.Pack.Loads.{unpack-many, unpack-waiting}
use Rattle.transactor.proofs.Lent.{lent, back, unpack-lent, good-back, open-pack}
use Rattle.rules.proofs.ByKind.Guards.{first_taken, first-left, free}
use Rattle.rules.proofs.ByKind.Refused.{refusal-malformed, Refuses, refuses}
use Rattle.rules.proofs.ByKind.Applied.{applies}
use Rattle.steps.proofs.Stepped.{stepped-refused, stepped-applied}
use Rattle.steps.proofs.Counting.{one_more, one_fewer, counted-applied}

-- what the image says, asked for 21 to 23 and for 26 and 27
pub busy-in : (img : List ℕ) (r n t status : ℕ) → r ≡ busy_refusal n t status → n ≡ (unpack base img).opened → status ≡ (transactor_at (unpack base img) t).status → r ≡ busy_in (unpack base img) t
busy-in img r n t status e p q = e ∙ λ i. busy_refusal (p i) t (q i)

pub room-in : (img : List ℕ) (r most n next : ℕ) → r ≡ room_refusal most n next → most ≡ (unpack base img).limits.messages → n ≡ waiting_in base img → next ≡ (unpack base img).next
    → r ≡ room_in (unpack base img)
room-in img r most n next e p q k = e ∙ λ i. room_refusal (p i) ((q ∙ sym (unpack-waiting base img)) i) (k i)

-- room: a place and a number are free for one more message, with no map or with what a take carries
module _ (img : List ℕ) (n to : ℕ) (good : Good img) (w : n ≡ waiting_in base img) (z : room_in (unpack base img) ≡ 0) (small : to < 16) where
  pub free-place : Good img × (n ≡ waiting_in base img) × (n < base.messages) × (to < 16) × ((unpack base img).next < last_number)
  unfolding bound
  free-place =
      let f = free (unpack base img).limits.messages (length (unpack base img).messages) (unpack base img).next z in
      (good, w, omega (arith, unpack-waiting base img, f.room, good.well.limits.messages-high), small, omega (arith, good.well.packable.next, f.number))

  pub free-place-for : (t : ℕ) → t < base.transactors
      → Good img × (n ≡ waiting_in base img) × (n < base.messages) × (to < 16) × ((unpack base img).next < last_number) × (t < base.transactors)
  free-place-for t h = (good, w, free-place.2, small, free-place.4, h)

module _ (img : List ℕ) (p : Step) where
  -- what the image says
  abbrev s : State
  s = unpack base img

  pub stepped-malformed : (r : Reply) → Good img → malformed p ≡ true → r ≡ answer 20 0 0 0 → Stepped img p r img
  stepped-malformed r good e = stepped-refused img p r good 20 (refusal-malformed base s p e) (λ z. omega arith)

  refused-by : {k : ℕ} → Asked k img p → Refuses base s p
  refused-by a = refuses base s p a.formed

  -- ---- root

  module _ (a : Asked root img p) where
    pub root-full : (r : Reply) → s.limits.transactors ≤ s.opened → r ≡ answer 25 0 0 0 → Stepped img p r img
    root-full r h = stepped-refused img p r a.good 25 ((refused-by a).root a.kind ∙ rw (le-leb s.limits.transactors s.opened h)) (λ z. omega arith)

    -- n is the take opened
    pub root-done : (n : ℕ) (after : List ℕ) → n ≡ s.opened → n < s.limits.transactors → after ≡ open_bytes base img n p.value (no_dependences base) → Stepped img p (answer done n 0 0) after
    unfolding apply_root
    root-done n after e h i = stepped-applied img p (answer done n 0 0) after (apply_root base s p)
        ((refused-by a).root a.kind ∙ rw (← e, lt-leb s.limits.transactors n h))
        ((applies base s p).root a.kind) (rw (← e))
        (i ∙ rw e (ap (λ (l : List ℕ). open_bytes base l s.opened p.value (no_dependences base)) (sym a.good.back) ∙ open-pack base s p.value (no_dependences base) (omega (arith, a.good.well.limits.transactors-high)) (unpack-many base img)))

  -- ---- letter

  module _ (a : Asked letter img p) where
    pub letter-unopened : (r : Reply) → s.opened ≤ p.transactor → r ≡ answer 21 0 0 0 → Stepped img p r img
    letter-unopened r h = stepped-refused img p r a.good 21 ((refused-by a).letter a.kind ∙ rw (le-leb s.opened p.transactor h)) (λ z. omega arith)

    module _ (h : p.transactor < s.opened) where
      letter-left : refusal base s p ≡ room_in s
      letter-left = (refused-by a).letter a.kind ∙ rw (lt-leb s.opened p.transactor h)

      pub letter-full : (r : Reply) → (room_in s ≡ 0 → ⊥) → r ≡ answer (room_in s) 0 0 0 → Stepped img p r img
      letter-full r = stepped-refused img p r a.good (room_in s) letter-left

      pub letter-done : room_in s ≡ 0 → (number : ℕ) (after : List ℕ) → number ≡ s.next → after ≡ pack base (with_message s p.transactor p.value (no_dependences base))
          → Stepped img p (answer done p.transactor number 0) after
      unfolding apply_letter
      letter-done z number after e i = stepped-applied img p (answer done p.transactor number 0) after (apply_letter base s p) (letter-left ∙ z) ((applies base s p).letter a.kind)
          (ap (λ (k : ℕ). answer done p.transactor k 0) e) i

      pub letter-counted : room_in s ≡ 0 → (n : ℕ) (after : List ℕ) → Counted n img → after ≡ pack base (with_message s p.transactor p.value (no_dependences base)) → Counted (n + 1) after
      unfolding apply_letter
      letter-counted z n after c i = counted-applied img p after (apply_letter base s p) a.good a.step (letter-left ∙ z) ((applies base s p).letter a.kind) i (n + 1)
          (omega (arith, c.is, unpack-waiting base img, one_more s p.transactor p.value (no_dependences base)))

  -- ---- send

  -- what the acting take carries, as its bytes say
  abbrev carries : DependenceMap
  carries = carried base p.transactor (unpack_transactor base (lent base img p.transactor))

  module _ (a : Asked send img p) where
    pub send-unopened : (r : Reply) → s.opened ≤ p.other → r ≡ answer 21 0 0 0 → Stepped img p r img
    send-unopened r h = stepped-refused img p r a.good 21 ((refused-by a).send a.kind ∙ rw (le-leb s.opened p.other h)) (λ z. omega arith)

    module _ (h : p.other < s.opened) where
      send-first : refusal base s p ≡ first (busy_in s p.transactor) (room_in s)
      send-first = (refused-by a).send a.kind ∙ rw (lt-leb s.opened p.other h)

      pub send-idle : (r : Reply) → (busy_in s p.transactor ≡ 0 → ⊥) → r ≡ answer (busy_in s p.transactor) 0 0 0 → Stepped img p r img
      send-idle r n = stepped-refused img p r a.good (busy_in s p.transactor) (send-first ∙ first_taken (busy_in s p.transactor) (room_in s) _ refl n) n

      module _ (works : busy_in s p.transactor ≡ 0) where
        send-left : refusal base s p ≡ room_in s
        send-left = send-first ∙ first-left (busy_in s p.transactor) (room_in s) _ refl works

        pub send-full : (r : Reply) → (room_in s ≡ 0 → ⊥) → r ≡ answer (room_in s) 0 0 0 → Stepped img p r img
        send-full r = stepped-refused img p r a.good (room_in s) send-left

        pub send-done : room_in s ≡ 0 → (number : ℕ) (after : List ℕ) → number ≡ s.next
            → after ≡ pack base (with_message s p.other p.value (carried base p.transactor (transactor_at s p.transactor)))
            → Stepped img p (answer done p.transactor number 0) after
        unfolding apply_send
        send-done z number after e i =
            stepped-applied img p (answer done p.transactor number 0) after (apply_send base s p) (send-left ∙ z) ((applies base s p).send a.kind)
            (ap (λ (k : ℕ). answer done p.transactor k 0) e) i

        pub send-counted : room_in s ≡ 0 → (n : ℕ) (after : List ℕ) → Counted n img
            → after ≡ pack base (with_message s p.other p.value (carried base p.transactor (transactor_at s p.transactor))) → Counted (n + 1) after
        unfolding apply_send
        send-counted z n after c i = counted-applied img p after (apply_send base s p) a.good a.step (send-left ∙ z) ((applies base s p).send a.kind) i (n + 1)
            (omega (arith, c.is, unpack-waiting base img, one_more s p.other p.value (carried base p.transactor (transactor_at s p.transactor))))

  -- ---- new

  module _ (a : Asked new img p) where
    pub new-idle : (r : Reply) → (busy_in s p.transactor ≡ 0 → ⊥) → r ≡ answer (busy_in s p.transactor) 0 0 0 → Stepped img p r img
    new-idle r n = stepped-refused img p r a.good (busy_in s p.transactor) ((refused-by a).new a.kind ∙ first_taken (busy_in s p.transactor) _ _ refl n) n

    module _ (works : busy_in s p.transactor ≡ 0) where
      new-left : refusal base s p ≡ pick (leb s.limits.transactors s.opened) 25 0
      new-left = (refused-by a).new a.kind ∙ first-left (busy_in s p.transactor) _ _ refl works

      pub new-full : (r : Reply) → s.limits.transactors ≤ s.opened → r ≡ answer 25 0 0 0 → Stepped img p r img
      new-full r h = stepped-refused img p r a.good 25 (new-left ∙ rw (le-leb s.limits.transactors s.opened h)) (λ z. omega arith)

      -- n is the take opened, bs the opener's bytes
      pub new-done : (n : ℕ) (bs after : List ℕ) (m : DependenceMap) → n ≡ s.opened → n < s.limits.transactors
          → bs ≡ pack_transactor base (adopts base n (unpack_transactor base (lent base img p.transactor)))
          → m ≡ carries → after ≡ open_bytes base (back base img p.transactor bs) n p.value m → Stepped img p (answer done n 0 0) after
      unfolding apply_new adopts with_transactor
      new-done n bs after m o h b k i =
          let t : ℕ = p.transactor in
          let x : Transactor = transactor_at s t in
          let e : unpack_transactor base (lent base img t) ≡ x = unpack-lent base img t a.step.transactor in
          let g : back base img t bs ≡ pack base (with_transactor s t (adopts base s.opened x)) = good-back img a.good t a.step.transactor (adopts base s.opened x) bs (rw (e, o) at b) in
          stepped-applied img p (answer done n 0 0) after (apply_new base s p)
          (new-left ∙ rw (← o, lt-leb s.limits.transactors n h))
          ((applies base s p).new a.kind) (rw (← o))
          (i ∙ rw (g, k, e, o) (open-pack base (with_transactor s t (adopts base s.opened x)) p.value (carried base t x) (omega (arith, a.good.well.limits.transactors-high)) (with_transactor-many s t (adopts base s.opened x) ∙ unpack-many base img)))

  -- ---- lose

  module _ (a : Asked lose img p) where
    pub lose-missing : (r : Reply) → waiting_in base img ≤ place_of s p.message → r ≡ answer 24 0 0 0 → Stepped img p r img
    lose-missing r h = stepped-refused img p r a.good 24 ((refused-by a).lose a.kind ∙ rw (unpack-waiting base img, le-leb (waiting_in base img) (place_of s p.message) h)) (λ z. omega arith)

    pub lose-done : (after : List ℕ) → place_of s p.message < waiting_in base img → after ≡ pack base (without_message s (place_of s p.message))
        → Stepped img p (answer done 0 p.message 0) after
    unfolding apply_lose
    lose-done after h i = stepped-applied img p (answer done 0 p.message 0) after (apply_lose s p)
        ((refused-by a).lose a.kind ∙ rw (unpack-waiting base img, lt-leb (waiting_in base img) (place_of s p.message) h)) ((applies base s p).lose a.kind) refl i

    pub lose-counted : (n : ℕ) (after : List ℕ) → place_of s p.message < waiting_in base img → Counted n img → after ≡ pack base (without_message s (place_of s p.message))
        → Counted (n - 1) after
    unfolding apply_lose
    lose-counted n after h c i = counted-applied img p after (apply_lose s p) a.good a.step
        ((refused-by a).lose a.kind ∙ rw (unpack-waiting base img, lt-leb (waiting_in base img) (place_of s p.message) h)) ((applies base s p).lose a.kind) i (n - 1)
        (omega (arith, c.is, unpack-waiting base img, one_fewer s (place_of s p.message) (omega (arith, unpack-waiting base img))))

  -- ---- sign

  module _ (a : Asked sign img p) where
    sign-refusal : refusal base s p ≡ group_in s p.message
    sign-refusal = (refused-by a).sign a.kind

    pub sign-refused : (r : Reply) → (group_in s p.message ≡ 0 → ⊥) → r ≡ answer (group_in s p.message) 0 0 0 → Stepped img p r img
    sign-refused r = stepped-refused img p r a.good (group_in s p.message) sign-refusal

    module _ (z : group_in s p.message ≡ 0) where
      pub sign-unready : (r : Reply) → not (group_ready base s p.message) ≡ true → r ≡ answer not_ready 0 0 0 → Stepped img p r img
      unfolding apply_sign
      sign-unready r g q = stepped-applied img p r img (apply_sign base s p) (sign-refusal ∙ z) ((applies base s p).sign a.kind) (q ∙ rw (not-true (group_ready base s p.message) g)) (sym a.good.back ∙ rw (not-true (group_ready base s p.message) g))

      pub sign-done : (r : Reply) (after : List ℕ) → not (group_ready base s p.message) ≡ false → r ≡ answer done 0 0 0 → after ≡ pack base (checkpoint_group base s p.message) → Stepped img p r after
      unfolding apply_sign
      sign-done r after g q i = stepped-applied img p r after (apply_sign base s p) (sign-refusal ∙ z) ((applies base s p).sign a.kind) (q ∙ rw (not-false (group_ready base s p.message) g)) (i ∙ rw (not-false (group_ready base s p.message) g))
