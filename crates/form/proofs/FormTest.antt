-- The code's test of the form is the form.
use Prim.Native.Nat.{ℕ, zero, suc, ◌+◌, ◌-◌, ◌/◌, ◌%◌, ◌≤◌, ◌<◌}
use mathlib.Core.Bool.{Bool, true, false, not}
use mathlib.Core.Path.{◌≡◌, refl, sym, ap, ◌∙◌}
use mathlib.Core.List.{List}
use mathlib.Core.Logic.{⊎_elim, ◌↔◌}
use native.Mathlib.Numerals.{add-one}
use native.Mathlib.Omega.{arith}
use mir.Syntax.{w8}
use mir.Val.{Fits}
use lib.Dec.{eqb, ltb, leb}
use borrow.Author.Tests.{eqb-true, eqb-false, eq-eqb, ne_eqb, lt-ltb, ltb-true, le-leb, lt-leb, leb-true, not-true, not-false}
use lib.ListN.{length, get_or, drop, length-drop}
use lib.Seq.{take_all}
use Rattle.octets.specs.Bytes.{pick, ◌and◌, ◌or◌, part, every, all_zero, Octets}
use Rattle.octets.specs.Numbers.{of_be}
use Rattle.octets.proofs.Put.{part-def, octet, octets-of}
use Rattle.octets.proofs.Chunks.{sides}
use Rattle.octets.proofs.Zero.{both, all_zero-at, all_zero-part, every-at, every-all}
use Rattle.maps.specs.Map.{held_at}
use Rattle.maps.specs.Packed.{formed_map}
use Rattle.rules.specs.Layout.{Layout, base, limits_of, in_range, map_bytes, state_at, creation_at, behaviour_at, dependences_at, transactor_bytes, transactor_address, message_address, image_bytes}
use Rattle.rules.specs.Status.{unused, idle, annihilated}
use Rattle.rules.specs.State.{State, Transactor, transactor_at, message_at, own_history}
use Rattle.rules.specs.Pack.{transactor_part, message_part, waiting_in, unpack}
use Rattle.rules.specs.Form.{map_formed, limits_zero, well_formed}
use Rattle.rules.specs.Internal.Well.{Live, is-idle, is-busy}
use Rattle.rules.specs.Internal.Guards.{image_refusal}
use Rattle.rules.proofs.Calls.Begin.{wrong-length, right-length}
use Rattle.form.specs.Internal.Tests.{formed_own_at, formed_live_at, formed_transactor_at, least_at, formed_message_at, formed_front, formed_image}
use Rattle.octets.proofs.Tests.{implied, implying, same_test}
use Rattle.rules.proofs.Form.Clauses.{Below}
use Rattle.rules.proofs.Ranges.{allowed_of}
use Rattle.rules.proofs.Pack.Loads.{length-transactor_part, part-transactor, first-transactor, part-message, first-message, read-status, read-saved, read_held, read_history, read-addressee, read_number, unpack-waiting, waiting_few}
use Rattle.rules.proofs.Form.Transactor.{TransactorForm, TransactorFormAt, unopened, vanished, living, AliveForm, live-low, live-high, statuses, map_formed-zeros}
use Rattle.rules.proofs.Form.Message.{MessageFormAt, MessagesForm}
use Rattle.rules.proofs.Form.Image.{ImageForm, form-image, image-form}

-- ---- one transactor

-- The test on the bytes b of transactor t, which is x: last, for a live one, and whole.
abbrev test_behaviour : Layout → State → List ℕ → Transactor → Bool
test_behaviour y s b x = pick (eqb x.status idle) (all_zero (part (behaviour_at y) (map_bytes y) b)) (map_formed y s (behaviour_at y) b)

abbrev test_own : ℕ → Transactor → Bool
test_own t x = held_at x.state t and (not (eqb (own_history t x).count 0) or eqb x.saved 0)

abbrev test_live : Layout → State → ℕ → List ℕ → Transactor → Bool
test_live y s t b x =
    map_formed y s state_at b
    and map_formed y s (creation_at y) b
    and test_own t x
    and test_behaviour y s b x

abbrev test_transactor : Layout → State → ℕ → List ℕ → Transactor → Bool
test_transactor y s t b x =
    pick (leb s.opened t) (all_zero b)
    (eqb (get_or b 0 0 % 64) 0
    and not (eqb x.status unused)
    and pick (eqb x.status annihilated) (all_zero (drop 1 b)) (test_live y s t b x))

module _ (y : Layout) (img : List ℕ) (t : ℕ) (below : t < y.transactors) where
  map-there : (s : State) (at : ℕ) → at + map_bytes y ≤ transactor_bytes y → map_formed y s at (transactor_part y img t) ≡ map_formed y s (transactor_address y t + at) img
  unfolding map_formed
  map-there s at h = ap (formed_map y.width y.places y.transactors s.limits.checkpoints s.opened) (part-transactor y img t at (map_bytes y) h)

  rest-there : length img ≡ image_bytes y → drop 1 (transactor_part y img t) ≡ part (transactor_address y t + 1) (transactor_bytes y - 1) img
  rest-there n =
      let m : length (drop 1 (transactor_part y img t)) ≤ transactor_bytes y - 1 = rw length-drop (omega (arith, length-transactor_part y img n t below)) in
      sym (take_all (transactor_bytes y - 1) (drop 1 (transactor_part y img t)) m)
      ∙ sym (part-def 1 (transactor_bytes y - 1) (transactor_part y img t))
      ∙ part-transactor y img t 1 (transactor_bytes y - 1) (omega arith)

  whole-there : transactor_part y img t ≡ part (transactor_address y t) (transactor_bytes y) img
  unfolding transactor_part
  whole-there = refl

  transactor-test : length img ≡ image_bytes y → test_transactor y (unpack y img) t (transactor_part y img t) (transactor_at (unpack y img) t) ≡ formed_transactor_at y img t
  unfolding formed_transactor_at formed_live_at formed_own_at
  transactor-test n =
      rw (
        rest-there n,
        first-transactor y img t,
        read-status y img t below,
        read-saved y img t below,
        read_held y img t below t below,
        read_history y img t below t below,
        map-there (unpack y img) state_at (omega arith),
        map-there (unpack y img) (creation_at y) (omega arith),
        map-there (unpack y img) (behaviour_at y) (omega arith),
        part-transactor y img t (behaviour_at y) (map_bytes y) (omega arith),
        whole-there,
      )

module _ (y : Layout) (s : State) (t : ℕ) (b : List ℕ) (x : Transactor) where
  saved-test : ((own_history t x).count ≡ 0 → x.saved ≡ 0) → not (eqb (own_history t x).count 0) or eqb x.saved 0 ≡ true
  saved-test f = implying (eqb (own_history t x).count 0) (eqb x.saved 0) (λ e. eq-eqb x.saved 0 (f (eqb-true (own_history t x).count 0 e)))

  test-saved : not (eqb (own_history t x).count 0) or eqb x.saved 0 ≡ true → (own_history t x).count ≡ 0 → x.saved ≡ 0
  test-saved e z = eqb-true x.saved 0 (implied (eqb (own_history t x).count 0) (eqb x.saved 0) e (eq-eqb (own_history t x).count 0 z))

  form-test : TransactorForm y s t b x → test_transactor y s t b x ≡ true
  form-test (unopened p u e) = rw (le-leb s.opened t p) e
  form-test (vanished p u d e) = rw (lt-leb s.opened t p, eq-eqb (get_or b 0 0 % 64) 0 d, u) e
  form-test (living p a) =
      let low = live-low a.status in
      let high = live-high a.status in
      rw (
        lt-leb s.opened t p,
        eq-eqb (get_or b 0 0 % 64) 0 a.head,
        ne_eqb x.status unused (λ u. omega arith),
        ne_eqb x.status annihilated (λ u. omega arith),
        a.state,
        a.creation,
        a.own,
        saved-test a.saved,
      ) (last x.status refl a.status)
    where
      last : (n : ℕ) → x.status ≡ n → Live n → test_behaviour y s b x ≡ true
      last n u is-idle = rw u (a.behaves u)
      last n u is-busy = rw u a.behaviour

  live-form : length b ≡ transactor_bytes y → get_or b 0 0 % 64 ≡ 0 → Live x.status → test_live y s t b x ≡ true → AliveForm y s t b x
  live-form n d l e =
      let state = both (map_formed y s state_at b) _ e in
      let creation = both (map_formed y s (creation_at y) b) _ state.1 in
      let checkpointed = both (test_own t x) _ creation.1 in
      let own = both (held_at x.state t) _ checkpointed.0 in
      let last = behaves x.status refl l checkpointed.1 in
      record {
        head = d;
        status = l;
        state = state.0;
        creation = creation.0;
        behaviour = last.0;
        own = own.0;
        saved = test-saved own.1;
        behaves = last.1;
      }
    where
      behaves : (m : ℕ) → x.status ≡ m → Live m → test_behaviour y s b x ≡ true
          → (map_formed y s (behaviour_at y) b ≡ true) × (x.status ≡ idle → all_zero (part (behaviour_at y) (map_bytes y) b) ≡ true)
      behaves m u is-idle g =
          let z : all_zero (part (behaviour_at y) (map_bytes y) b) ≡ true = rw u at g in
          (map_formed-zeros y s (behaviour_at y) b (all_zero-part (behaviour_at y) (map_bytes y) b (omega arith) z), λ r. z)
      behaves m u is-busy g = (rw u at g, λ r. absurd (omega arith))

  test-form : x.status ≡ get_or b 0 0 / 64 → get_or b 0 0 < 256 → length b ≡ transactor_bytes y → test_transactor y s t b x ≡ true → TransactorForm y s t b x
  test-form f h n e = ⊎_elim used rest (sides t s.opened)
    where
      rest : s.opened ≤ t → TransactorForm y s t b x
      rest p =
          let z : all_zero b ≡ true = rw (le-leb s.opened t p) at e in
          unopened p (omega (arith, all_zero-at b 0 z)) z

      used : t < s.opened → TransactorForm y s t b x
      used p =
          let head = both (eqb (get_or b 0 0 % 64) 0) _ (rw (lt-leb s.opened t p) at e) in
          let status = both (not (eqb x.status unused)) _ head.1 in
          let d : get_or b 0 0 % 64 ≡ 0 = eqb-true (get_or b 0 0 % 64) 0 head.0 in
          ⊎_elim
          (λ u. absurd (eqb-false x.status unused (not-true (eqb x.status unused) status.0) u))
          (⊎_elim
          (λ u. vanished p u d (rw u at status.1))
          (λ l. living p (live-form n d l (rw (ne_eqb x.status annihilated (λ u. omega (arith, live-high l))) at status.1))))
          (statuses x.status (omega arith))

transactor-tested : (y : Layout) (img : List ℕ) → length img ≡ image_bytes y → Octets img → (t : ℕ) → t < y.transactors
    → (formed_transactor_at y img t ≡ true) ↔ TransactorFormAt y img t
transactor-tested y img n o t h =
    let b = transactor_part y img t in
    let x = transactor_at (unpack y img) t in
    let first = first-transactor y img t in
    let e = transactor-test y img t h n in (
      λ f. test-form y (unpack y img) t b x (omega (arith, read-status y img t h)) (omega (arith, octet img o (transactor_address y t))) (length-transactor_part y img n t h) (e ∙ f),
      λ f. sym e ∙ form-test y (unpack y img) t b x f,
    )

-- ---- the messages

module _ (y : Layout) (img : List ℕ) where
  pub least-none : least_at y img 0 ≡ 0
  unfolding least_at
  least-none = refl

  pub least_more : (k : ℕ) → least_at y img (k + 1) ≡ of_be 2 (part (message_address y k + 1) 2 img) + 1
  unfolding least_at
  least_more k = rw add-one

  -- over the place k - 1 before
  pub least-after : (k j : ℕ) → j + 1 ≡ k → least_at y img k ≡ of_be 2 (part (message_address y j + 1) 2 img) + 1
  least-after k j e = rw (← e) (least_more j)

  dependences-there : (k : ℕ) → map_formed y (unpack y img) dependences_at (message_part y img k) ≡ map_formed y (unpack y img) (message_address y k + dependences_at) img
  unfolding map_formed
  dependences-there k = ap (formed_map y.width y.places y.transactors (unpack y img).limits.checkpoints (unpack y img).opened) (part-message y img k dependences_at (map_bytes y) (omega arith))

  -- what the test says of a place that is taken
  record Tested (k : ℕ) : Type 0 where
    pub form : MessageFormAt y img k
    pub least : least_at y img k ≤ (message_at (unpack y img) k).number

  taken-test : (k : ℕ) → k < waiting_in y img → formed_message_at y img k ≡ true → Tested k
  unfolding formed_message_at
  taken-test k h e =
      let head = both (eqb (get_or img (message_address y k) 0 / 16) 8) _ (rw (lt-leb (waiting_in y img) k h) at e) in
      let addressee = both (ltb (get_or img (message_address y k) 0 % 16) (unpack y img).opened) _ head.1 in
      let number = both (ltb (of_be 2 (part (message_address y k + 1) 2 img)) (unpack y img).next) _ addressee.1 in
      let least = both (leb (least_at y img k) (of_be 2 (part (message_address y k + 1) 2 img))) _ number.1 in
      record {
        form = record {
          head = rw (first-message y img k) (eqb-true (get_or img (message_address y k) 0 / 16) 8 head.0);
          dependences = dependences-there k ∙ least.1;
          number = rw (read_number y img k h) (ltb-true (of_be 2 (part (message_address y k + 1) 2 img)) (unpack y img).next number.0);
          addressee = rw (read-addressee y img k h) (ltb-true (get_or img (message_address y k) 0 % 16) (unpack y img).opened addressee.0);
        };
        least = rw (read_number y img k h) (leb-true (least_at y img k) (of_be 2 (part (message_address y k + 1) 2 img)) least.0);
      }

  taken-tested : (k : ℕ) → k < waiting_in y img → Tested k → formed_message_at y img k ≡ true
  unfolding formed_message_at
  taken-tested k h f =
      let a = read-addressee y img k h in
      let b = read_number y img k h in
      rw (
        lt-leb (waiting_in y img) k h,
        eq-eqb (get_or img (message_address y k) 0 / 16) 8 (rw (first-message y img k) at f.form.head),
        lt-ltb (get_or img (message_address y k) 0 % 16) (unpack y img).opened (rw a at f.form.addressee),
        lt-ltb (of_be 2 (part (message_address y k + 1) 2 img)) (unpack y img).next (rw b at f.form.number),
        le-leb (least_at y img k) (of_be 2 (part (message_address y k + 1) 2 img)) (rw b at f.least),
      ) (sym (dependences-there k) ∙ f.form.dependences)

  free-test : (k : ℕ) → waiting_in y img ≤ k → formed_message_at y img k ≡ all_zero (message_part y img k)
  unfolding formed_message_at message_part
  free-test k h = rw (le-leb (waiting_in y img) k h)

  messages-test : Below y.messages (formed_message_at y img) → MessagesForm y img
  messages-test f = record {
    taken = λ k h. (tested k h).form;
    free = λ k p h. sym (free-test k p) ∙ f k h;
    order = λ k h.
        let b : k < waiting_in y img = omega arith in
        omega (arith, (tested (k + 1) h).least, least_more k, read_number y img k b);
  }
    where
      tested : (k : ℕ) → k < waiting_in y img → Tested k
      tested k h = taken-test k h (f k (omega (arith, waiting_few y img)))

  messages-tested : MessagesForm y img → Below y.messages (formed_message_at y img)
  messages-tested f k h = ⊎_elim
      (λ (p : k < waiting_in y img). taken-tested k p (record { form = f.taken k p; least = least k p }))
      (λ (p : waiting_in y img ≤ k). free-test k p ∙ f.free k p h)
      (sides k (waiting_in y img))
    where
      least : (k : ℕ) → k < waiting_in y img → least_at y img k ≤ (message_at (unpack y img) k).number
      least zero p = omega (arith, least-none)
      least (suc j) p =
          let a : j < waiting_in y img = omega arith in
          let b : j + 1 < waiting_in y img = omega arith in
          rw (← add-one j) (omega (arith, least_more j, read_number y img j a, f.order j b))

-- ---- the image

-- what the test says of the head and the limits
pub record Front (y : Layout) (img : List ℕ) : Type 0 where
  pub zero : get_or img 3 0 ≡ 0
  pub fourth : limits_zero y img ≡ true
  pub limits : in_range y (unpack y img).limits ≡ true
  pub opened : (unpack y img).opened ≤ (unpack y img).limits.transactors
  pub waiting : waiting_in y img ≤ (unpack y img).limits.messages

module _ (y : Layout) (img : List ℕ) where
  pub front-test : formed_front y img ≡ true → Front y img
  unfolding formed_front
  front-test e =
      let zero = both (eqb (get_or img 3 0) 0) _ e in
      let fourth = both (limits_zero y img) _ zero.1 in
      let limits = both (in_range y (unpack y img).limits) _ fourth.1 in
      let opened = both (leb (unpack y img).opened (unpack y img).limits.transactors) _ limits.1 in
      record {
        zero = eqb-true (get_or img 3 0) 0 zero.0;
        fourth = fourth.0;
        limits = limits.0;
        opened = leb-true (unpack y img).opened (unpack y img).limits.transactors opened.0;
        waiting = leb-true (waiting_in y img) (unpack y img).limits.messages opened.1;
      }

  front-tested : Front y img → formed_front y img ≡ true
  unfolding formed_front
  front-tested f = rw (
    eq-eqb (get_or img 3 0) 0 f.zero,
    f.fourth,
    f.limits,
    le-leb (unpack y img).opened (unpack y img).limits.transactors f.opened,
    le-leb (waiting_in y img) (unpack y img).limits.messages f.waiting,
  )

pub formed_image-is : (y : Layout) (img : List ℕ) → length img ≡ image_bytes y → Octets img → formed_image y img ≡ well_formed y img
unfolding formed_image
formed_image-is y img n o = same_test (formed_image y img) (well_formed y img) (λ e. image-form y img n (tested e)) (λ e. test (form-image y img o e))
  where
    tested : formed_image y img ≡ true → ImageForm y img
    tested e =
        let front = both (formed_front y img) _ e in
        let f = front-test y img front.0 in
        let transactors = both (every y.transactors (formed_transactor_at y img)) _ front.1 in
        record {
          zero = f.zero;
          fourth = f.fourth;
          limits = f.limits;
          opened = f.opened;
          waiting = omega (arith, unpack-waiting y img, f.waiting);
          transactors = λ t h. (transactor-tested y img n o t h).0 (every-at (formed_transactor_at y img) y.transactors t transactors.0 h);
          messages = messages-test y img (λ k. every-at (formed_message_at y img) y.messages k transactors.1);
        }

    test : ImageForm y img → formed_image y img ≡ true
    test f = rw (
      front-tested y img (record { zero = f.zero; fourth = f.fourth; limits = f.limits; opened = f.opened; waiting = omega (arith, unpack-waiting y img, f.waiting) }),
      every-all (formed_transactor_at y img) y.transactors (λ t h. (transactor-tested y img n o t h).1 (f.transactors t h)),
      every-all (formed_message_at y img) y.messages (messages-tested y img f.messages),
    )

-- a list has room for what the limits allow
pub front-few : (y : Layout) (img : List ℕ) → not (formed_front y img) ≡ false → (unpack y img).limits.checkpoints ≤ y.places
front-few y img e = (allowed_of (front-test y img (not-false (formed_front y img) e)).limits).checkpoints-high

-- what the code answers of the head and the limits, test by test
module _ (img : List ℕ) where
  pub front-blank : (get_or img 3 0 ≡ 0 → ⊥) → false ≡ formed_front base img
  unfolding formed_front
  front-blank n = rw (ne_eqb (get_or img 3 0) 0 n)

  module _ (blank : get_or img 3 0 ≡ 0) where
    pub front-fourth : (get_or img 7 0 ≡ 0 → ⊥) → false ≡ formed_front base img
    unfolding formed_front limits_zero
    front-fourth n = rw (eq-eqb (get_or img 3 0) 0 blank, ne_eqb (get_or img 7 0) 0 n)

    module _ (fourth : get_or img 7 0 ≡ 0) (a b c : ℕ) (transactors : a ≡ (unpack base img).limits.transactors) (messages : b ≡ (unpack base img).limits.messages) (checkpoints : c ≡ (unpack base img).limits.checkpoints) where
      same : in_range base (limits_of a b c) ≡ in_range base (unpack base img).limits
      same = ap (in_range base) (λ i. limits_of (transactors i) (messages i) (checkpoints i))

      pub front-limits : not (in_range base (limits_of a b c)) ≡ true → false ≡ formed_front base img
      unfolding formed_front limits_zero
      front-limits n = rw (eq-eqb (get_or img 3 0) 0 blank, eq-eqb (get_or img 7 0) 0 fourth, ← same, not-true (in_range base (limits_of a b c)) n)

      module _ (range : not (in_range base (limits_of a b c)) ≡ false) where
        pub front-opened : a < (unpack base img).opened → false ≡ formed_front base img
        unfolding formed_front limits_zero
        front-opened h = rw (eq-eqb (get_or img 3 0) 0 blank, eq-eqb (get_or img 7 0) 0 fourth, ← same, not-false (in_range base (limits_of a b c)) range, lt-leb (unpack base img).opened (unpack base img).limits.transactors (omega arith))

        pub front-waiting : (unpack base img).opened ≤ a → (n : ℕ) → n ≡ waiting_in base img → leb n b ≡ formed_front base img
        unfolding formed_front limits_zero
        front-waiting h n e = rw (eq-eqb (get_or img 3 0) 0 blank, eq-eqb (get_or img 7 0) 0 fourth, ← same, not-false (in_range base (limits_of a b c)) range, le-leb (unpack base img).opened (unpack base img).limits.transactors (omega arith), ← messages, ← e)

-- and of the rest
module _ (y : Layout) (img : List ℕ) (long : length img ≡ image_bytes y) (bytes : (i : ℕ) → Fits w8 (get_or img i 0)) where
  tested : {r : Bool} → r ≡ formed_image y img → r ≡ well_formed y img
  tested e = e ∙ formed_image-is y img long (octets-of img bytes)

  pub front-ill-formed : not (formed_front y img) ≡ true → false ≡ well_formed y img
  unfolding formed_image
  front-ill-formed e = tested (rw (not-true (formed_front y img) e))

  module _ (front : not (formed_front y img) ≡ false) where
    pub one-ill-formed : not (every y.transactors (formed_transactor_at y img)) ≡ true → false ≡ well_formed y img
    unfolding formed_image
    one-ill-formed e = tested (rw (not-false (formed_front y img) front, not-true (every y.transactors (formed_transactor_at y img)) e))

    pub all-formed : not (every y.transactors (formed_transactor_at y img)) ≡ false → every y.messages (formed_message_at y img) ≡ well_formed y img
    unfolding formed_image
    all-formed e = tested (rw (not-false (formed_front y img) front, not-false (every y.transactors (formed_transactor_at y img)) e))

-- ---- 16, 19

module _ (y : Layout) (img : List ℕ) where
  pub image-16 : (length img ≡ image_bytes y → ⊥) → 16 ≡ image_refusal y img
  unfolding image_refusal
  image-16 n = rw (wrong-length y img n)

  module _ (long : length img ≡ image_bytes y) where
    pub image-19 : not (well_formed y img) ≡ true → 19 ≡ image_refusal y img
    unfolding image_refusal
    image-19 e = rw (right-length y img long, e)

    pub image-0 : not (well_formed y img) ≡ false → 0 ≡ image_refusal y img
    unfolding image_refusal
    image-0 e = rw (right-length y img long, e)
