-- What each kind of step gives: refused, or done.
use Prim.Native.Nat.{ℕ, ◌≤◌, ◌<◌}
use mathlib.Core.Bool.{Bool, true, false, not}
use mathlib.Core.Path.{◌≡◌, refl, ap, sym, ◌∙◌}
use mathlib.Core.List.{List}
use native.Mathlib.Omega.{arith}
use lib.Dec.{eqb, leb}
use lib.ListN.{length}
use borrow.Author.Tests.{le-leb, lt-leb, ne_eqb}
use Rattle.octets.specs.Bytes.{pick, ◌and◌}
use Rattle.octets.proofs.Tests.{and_assoc}
use Rattle.octets.specs.Table.{updated}
use Rattle.rules.specs.Layout.{base}
use Rattle.rules.specs.declared.Step.{Step}
use Rattle.rules.specs.declared.Reply.{Reply}
use Rattle.rules.specs.Step.{done, not_ready, root, letter, receive, new, send, read, fail, lose, sign}
use Rattle.rules.specs.Refusals.{group_bits, sends, malformed}
use Rattle.rules.specs.Rules.{answer}
use Rattle.rules.specs.Internal.Guards.{first}
use Rattle.rules.proofs.ByKind.Guards.{first_taken, first-left}
use Rattle.engine_tables.specs.declared.table.Row.{Row}
use Rattle.engine_tables.specs.declared.table.Slot.{Slot}
use Rattle.engine_tables.specs.declared.table.RowEffect.{RowEffect}
use Rattle.engine_tables.specs.Internal.Tables.{Tables, empty_slot, open_row, with_slot, without_slot, local_row, receive_row, play_refusal, Played, play, play_applied, play_receive, play_local}
use Rattle.engine_tables.specs.declared.register.Register.{Register}
use Rattle.engine_tables.specs.declared.turns.Operands.{Operands}
use Rattle.engine_tables.specs.declared.turns.Turn.{Turn}
use Rattle.engine_tables.specs.declared.turns.GroupTurn.{GroupTurn}
use Rattle.engine_tables.specs.Internal.Register.{row_at, view_of, without_number, CheckpointedRows}
use Rattle.engine_tables.specs.Internal.Guards.{last_row, local_guard, busy_guard, room_guard, receipt_guard, group_guard}
use Rattle.engine_tables.specs.Internal.Turns.{place_of, subject_of, answers, answers_group, opens, sends_to, Holds, played_of, played_group, TurnsBy, Turns, Receives, Signs, Asked}
use Rattle.engine_tables.proofs.Views.{same_at, view-opened, view-checkpoint, view-number, view-without}
use Rattle.engine_tables.proofs.Applied.{applies}
use Rattle.engine_tables.proofs.Refused.{refused-malformed, refuses}

module _ (T : Tables) (p : Step) (d f g : Bool) where
  play-refused : (n : ℕ) → (n ≡ 0 → ⊥) → play_refusal base T p d f ≡ n → record { reply = answer n 0 0 0; tables = T } ≡ play base T p d f g
  unfolding play
  play-refused n z e = rw (e, ne_eqb n 0 z)

  play-applied : play_refusal base T p d f ≡ 0 → play_applied T p d f g ≡ play base T p d f g
  unfolding play
  play-applied e = rw e

abbrev played : Reply → Tables → Played
played r T = record { reply = r; tables = T }

module _ (x : Operands) (p : Step) where
  abbrev reg : Register
  reg = x.register

  abbrev place : ℕ
  place = place_of reg p

  -- of a letter and a send the next number, else the step's own
  next_place : (k : ℕ) → p.kind ≡ k → sends k ≡ true → place ≡ reg.next
  unfolding place_of
  next_place k e h = rw (e, h)

  own-place : (k : ℕ) → p.kind ≡ k → sends k ≡ false → place ≡ p.message
  unfolding place_of
  own-place k e h = rw (e, h)

  -- of a receipt its receiver, else the step's own take
  pub receiver : x.at ≡ subject_of p x.slot → p.kind ≡ receive → x.at ≡ x.slot.addressee
  unfolding subject_of
  receiver e k = e ∙ rw k

  own-transactor : x.at ≡ subject_of p x.slot → eqb p.kind receive ≡ false → x.at ≡ p.transactor
  unfolding subject_of
  own-transactor e k = e ∙ rw k

  module _ (R : ℕ → Row) (F : ℕ → Slot) (holds : Holds x p R F) where
    abbrev same_rows : updated R x.at x.row ≡ R
    same_rows = same_at R x.at x.row holds.row

    abbrev same-slots : updated F place x.slot ≡ F
    same-slots = same_at F place x.slot holds.slot

    -- nothing changed
    stays_by : (n : ℕ) → played_of (answers x n) R F place ≡ played (answer n 0 0 0) (view_of reg R F)
    unfolding played_of
    stays_by n = λ i. played (answer n 0 0 0) (view_of reg (same_rows i) (same-slots i))

    opens_by : (v : ℕ) → played_of (opens x v) R F place ≡ played (answer done reg.opened 0 0) (open_row (view_of reg R F) v)
    unfolding played_of
    opens_by v = (λ i. played (answer done reg.opened 0 0) (view_of (opens x v).operands.register (updated R reg.opened (opens x v).operands.row) (same-slots i)))
        ∙ ap (played (answer done reg.opened 0 0)) (view-opened reg R F v)

    sends-by : place ≡ reg.next → (c : Bool) (t to v : ℕ) → played_of (sends_to x c t to v) R F place ≡ played (answer done t reg.next 0) (with_slot (view_of reg R F) c to v)
    unfolding played_of
    sends-by n c t to v = (λ i. played (answer done t reg.next 0) (view_of (sends_to x c t to v).operands.register (same_rows i) (updated F (n i) (sends_to x c t to v).operands.slot)))
        ∙ ap (played (answer done t reg.next 0)) (view-number reg R F c to v)

    -- what the operands' take is
    seen : (t : ℕ) → x.at ≡ t → x.row ≡ R t
    seen t e = sym holds.row ∙ ap R e

    local_by : x.at ≡ p.transactor → (e : RowEffect) → e ≡ local_row p.kind p.value x.row
        → played_of (record { reply = answer e.outcome p.transactor 0 e.value; operands = record { register = reg; at = x.at; row = e.row; slot = x.slot } }) R F place ≡ play_local (view_of reg R F) p
    unfolding played_of play_local view_of
    local_by at e k =
        let q : e ≡ local_row p.kind p.value (R p.transactor) = k ∙ ap (local_row p.kind p.value) (seen p.transactor at) in
        λ i. played (answer (q i).outcome p.transactor 0 (q i).value) (view_of reg (updated R (at i) (q i).row) (same-slots i))

    module _ (own : place ≡ p.message) where
      -- the operands' parcel is the step's
      message : x.slot ≡ F p.message
      message = sym holds.slot ∙ ap F own

      lose-by : (z : Register) → z ≡ without_number reg
          → played_of (record { reply = answer done 0 p.message 0; operands = record { register = z; at = x.at; row = x.row; slot = empty_slot } }) R F place ≡ played (answer done 0 p.message 0) (without_slot (view_of reg R F) p.message)
      unfolding played_of
      lose-by z e = (λ i. played (answer done 0 p.message 0) (view_of (e i) (same_rows i) (updated F (own i) empty_slot))) ∙ ap (played (answer done 0 p.message 0)) (view-without reg R F p.message)

      receive-by : x.at ≡ x.slot.addressee → (d f : Bool) (e : RowEffect) → e ≡ receive_row d f x.slot.content x.row → (z : Register) → z ≡ without_number reg
          → played_of (record { reply = answer e.outcome x.slot.addressee p.message e.value; operands = record { register = z; at = x.at; row = e.row; slot = empty_slot } }) R F place
          ≡ play_receive (view_of reg R F) p d f
      unfolding played_of play_receive view_of without_slot
      receive-by at d f e k z w =
          let m : x.slot ≡ F p.message = message in
          let t : x.at ≡ (F p.message).addressee = at ∙ ap (λ (m : Slot). m.addressee) m in
          let q : e ≡ receive_row d f (F p.message).content (R (F p.message).addressee) = k ∙ λ i. receive_row d f (m i).content (seen (F p.message).addressee t i) in
          λ i. played (answer (q i).outcome (m i).addressee p.message (q i).value) (view_of (w i) (updated R (t i) (q i).row) (updated F (own i) empty_slot))

module _ {x : Operands} {p : Step} where
  -- ---- a number alone

  answers_by : (d f g : Bool) (n : ℕ) → (n ≡ 0 → ⊥) → ((R : ℕ → Row) (F : ℕ → Slot) → Holds x p R F → play_refusal base (view_of x.register R F) p d f ≡ n)
      → (u : Turn) → u ≡ answers x n → TurnsBy d f g x p u
  answers_by d f g n z h u e = record {
    plays = λ R F l. ap (λ (u : Turn). played_of u R F (place_of x.register p)) e ∙ stays_by x p R F l n ∙ play-refused (view_of x.register R F) p d f g n z (h R F l);
    within = λ k. omega (arith, ap (λ (u : Turn). u.operands.at) e);
  }

  answers-all : (n : ℕ) → (n ≡ 0 → ⊥) → ((R : ℕ → Row) (F : ℕ → Slot) (d f : Bool) → Holds x p R F → play_refusal base (view_of x.register R F) p d f ≡ n) → (u : Turn) → u ≡ answers x n → Turns x p u
  answers-all n z h u e = record { by = λ d f g. answers_by d f g n z (λ R F l. h R F d f l) u e }

  applied_by : (d f g : Bool) → ((R : ℕ → Row) (F : ℕ → Slot) → Holds x p R F → play_refusal base (view_of x.register R F) p d f ≡ 0)
      → (u : Turn) → ((R : ℕ → Row) (F : ℕ → Slot) → Holds x p R F → played_of u R F (place_of x.register p) ≡ play_applied (view_of x.register R F) p d f g)
      → (x.at < group_bits → u.operands.at < group_bits) → TurnsBy d f g x p u
  applied_by d f g h u k w = record { plays = λ R F l. k R F l ∙ play-applied (view_of x.register R F) p d f g (h R F l); within = w }

  pub malformed-done : malformed p ≡ true → (u : Turn) → u ≡ answers x 20 → Turns x p u
  malformed-done e u q = answers-all 20 (omega arith) (λ R F d f l. refused-malformed x.register R F p d f e) u q

  -- ---- root, new: one more take

  opens-turn : ((R : ℕ → Row) (F : ℕ → Slot) (d f : Bool) → Holds x p R F → play_refusal base (view_of x.register R F) p d f ≡ 0)
      → ((T : Tables) (d f g : Bool) → play_applied T p d f g ≡ played (answer done T.opened 0 0) (open_row T p.value))
      → x.register.opened < group_bits → (u : Turn) → u ≡ opens x p.value → Turns x p u
  unfolding view_of
  opens-turn free kind h u e = record {
    by = λ d f g. applied_by d f g (λ R F l. free R F d f l) u
        (λ R F l. ap (λ (u : Turn). played_of u R F (place_of x.register p)) e ∙ opens_by x p R F l p.value ∙ sym (kind (view_of x.register R F) d f g))
        (λ k. omega (arith, ap (λ (u : Turn). u.operands.at) e));
  }

  module _ (a : Asked root x p) where
    pub root-full : x.register.transactors ≤ x.register.opened → (u : Turn) → u ≡ answers x 25 → Turns x p u
    root-full h u e = answers-all 25 (omega arith) (λ R F d f l. (refuses x.register R F p d f a.formed).root a.kind ∙ rw (le-leb x.register.transactors x.register.opened h)) u e

    pub root-done : x.register.opened < x.register.transactors → (u : Turn) → u ≡ opens x p.value → Turns x p u
    root-done h u e = opens-turn
        (λ R F d f l. (refuses x.register R F p d f a.formed).root a.kind ∙ rw (lt-leb x.register.transactors x.register.opened h))
        (λ T d f g. (applies T p d f g).root a.kind) (omega (arith, a.limits)) u e

  module _ (a : Asked new x p) where
    abbrev full : ℕ
    full = pick (leb x.register.transactors x.register.opened) 25 0

    abbrev idle : ℕ
    idle = busy_guard x.register.opened p.transactor x.row

    new-transactor : x.at ≡ p.transactor
    new-transactor = own-transactor x p a.subject (rw a.kind)

    new-left : (R : ℕ → Row) (F : ℕ → Slot) (d f : Bool) → Holds x p R F → play_refusal base (view_of x.register R F) p d f ≡ first idle full
    new-left R F d f l = (refuses x.register R F p d f a.formed).new a.kind ∙ ap (λ (z : Row). first (busy_guard x.register.opened p.transactor z) full) (sym (seen x p R F l p.transactor new-transactor))

    pub new-idle : (r : ℕ) → r ≡ idle → (r ≡ 0 → ⊥) → (u : Turn) → u ≡ answers x r → Turns x p u
    new-idle r k z u e = answers-all r z (λ R F d f l. new-left R F d f l ∙ first_taken idle full r k z) u e

    module _ (r : ℕ) (works : r ≡ idle) (zero : r ≡ 0) where
      new-works : (R : ℕ → Row) (F : ℕ → Slot) (d f : Bool) → Holds x p R F → play_refusal base (view_of x.register R F) p d f ≡ full
      new-works R F d f l = new-left R F d f l ∙ first-left idle full r works zero

      pub new-full : x.register.transactors ≤ x.register.opened → (u : Turn) → u ≡ answers x 25 → Turns x p u
      new-full h u e = answers-all 25 (omega arith) (λ R F d f l. new-works R F d f l ∙ rw (le-leb x.register.transactors x.register.opened h)) u e

      pub new-done : x.register.opened < x.register.transactors → (u : Turn) → u ≡ opens x p.value → Turns x p u
      new-done h u e = opens-turn (λ R F d f l. new-works R F d f l ∙ rw (lt-leb x.register.transactors x.register.opened h)) (λ T d f g. (applies T p d f g).new a.kind) (omega (arith, a.limits)) u e

  -- ---- letter, send: one more parcel

  sends-turn : place_of x.register p ≡ x.register.next → (c : Bool) (to : ℕ)
      → ((R : ℕ → Row) (F : ℕ → Slot) (d f : Bool) → Holds x p R F → play_refusal base (view_of x.register R F) p d f ≡ 0)
      → ((T : Tables) (d f g : Bool) → play_applied T p d f g ≡ played (answer done p.transactor T.next 0) (with_slot T c to p.value))
      → (u : Turn) → u ≡ sends_to x c p.transactor to p.value → Turns x p u
  unfolding view_of
  sends-turn n c to free kind u e = record {
    by = λ d f g. applied_by d f g (λ R F l. free R F d f l) u
        (λ R F l. ap (λ (u : Turn). played_of u R F (place_of x.register p)) e ∙ sends-by x p R F l n c p.transactor to p.value ∙ sym (kind (view_of x.register R F) d f g))
        (λ k. omega (arith, ap (λ (u : Turn). u.operands.at) e));
  }

  module _ (a : Asked letter x p) where
    pub letter-unopened : x.register.opened ≤ p.transactor → (u : Turn) → u ≡ answers x 21 → Turns x p u
    letter-unopened h u e = answers-all 21 (omega arith) (λ R F d f l. (refuses x.register R F p d f a.formed).letter a.kind ∙ rw (le-leb x.register.opened p.transactor h)) u e

    module _ (opened : p.transactor < x.register.opened) (r : ℕ) (room : r ≡ room_guard x.register) where
      letter-left : (R : ℕ → Row) (F : ℕ → Slot) (d f : Bool) → play_refusal base (view_of x.register R F) p d f ≡ r
      letter-left R F d f = (refuses x.register R F p d f a.formed).letter a.kind ∙ rw (lt-leb x.register.opened p.transactor opened) (sym room)

      pub letter-full : (r ≡ 0 → ⊥) → (u : Turn) → u ≡ answers x r → Turns x p u
      letter-full z u e = answers-all r z (λ R F d f l. letter-left R F d f) u e

      pub letter-done : r ≡ 0 → (u : Turn) → u ≡ sends_to x true p.transactor p.transactor p.value → Turns x p u
      letter-done z u e = sends-turn (next_place x p letter a.kind refl) true p.transactor (λ R F d f l. letter-left R F d f ∙ z) (λ T d f g. (applies T p d f g).letter a.kind) u e

  module _ (a : Asked send x p) where
    abbrev resting : ℕ
    resting = busy_guard x.register.opened p.transactor x.row

    pub send-unopened : x.register.opened ≤ p.other → (u : Turn) → u ≡ answers x 21 → Turns x p u
    send-unopened h u e = answers-all 21 (omega arith) (λ R F d f l. (refuses x.register R F p d f a.formed).send a.kind ∙ rw (le-leb x.register.opened p.other h)) u e

    module _ (opened : p.other < x.register.opened) (w : ℕ) (works : w ≡ resting) where
      send-opened : (R : ℕ → Row) (F : ℕ → Slot) (d f : Bool) → Holds x p R F → play_refusal base (view_of x.register R F) p d f ≡ first resting (room_guard x.register)
      send-opened R F d f l = (refuses x.register R F p d f a.formed).send a.kind ∙ rw (lt-leb x.register.opened p.other opened)
          (ap (λ (z : Row). first (busy_guard x.register.opened p.transactor z) (room_guard x.register)) (sym (seen x p R F l p.transactor (own-transactor x p a.subject (rw a.kind)))))

      pub send-idle : (w ≡ 0 → ⊥) → (u : Turn) → u ≡ answers x w → Turns x p u
      send-idle z u e = answers-all w z (λ R F d f l. send-opened R F d f l ∙ first_taken resting (room_guard x.register) w works z) u e

      module _ (zero : w ≡ 0) (r : ℕ) (room : r ≡ room_guard x.register) where
        send-left : (R : ℕ → Row) (F : ℕ → Slot) (d f : Bool) → Holds x p R F → play_refusal base (view_of x.register R F) p d f ≡ r
        send-left R F d f l = send-opened R F d f l ∙ first-left resting (room_guard x.register) w works zero ∙ sym room

        pub send-full : (r ≡ 0 → ⊥) → (u : Turn) → u ≡ answers x r → Turns x p u
        send-full z u e = answers-all r z send-left u e

        pub send-done : r ≡ 0 → (u : Turn) → u ≡ sends_to x false p.transactor p.other p.value → Turns x p u
        send-done z u e = sends-turn (next_place x p send a.kind refl) false p.other (λ R F d f l. send-left R F d f l ∙ z) (λ T d f g. (applies T p d f g).send a.kind) u e

  -- ---- kinds 5 to 10

  module _ {k : ℕ} (a : Asked k x p) (low : read ≤ p.kind) (high : p.kind ≤ fail) where
    local-transactor : x.at ≡ p.transactor
    local-transactor = own-transactor x p a.subject (ne_eqb p.kind receive (omega arith))

    pub local-unopened : x.register.opened ≤ p.transactor → (u : Turn) → u ≡ answers x 21 → Turns x p u
    local-unopened h u e = answers-all 21 (omega arith) (λ R F d f l. (refuses x.register R F p d f a.formed).local low high ∙ rw (le-leb x.register.opened p.transactor h)) u e

    module _ (opened : p.transactor < x.register.opened) (r : ℕ) (refused : r ≡ local_guard k x.row) where
      local-left : (R : ℕ → Row) (F : ℕ → Slot) (d f : Bool) → Holds x p R F → play_refusal base (view_of x.register R F) p d f ≡ r
      local-left R F d f l = (refuses x.register R F p d f a.formed).local low high ∙ rw (lt-leb x.register.opened p.transactor opened)
          (ap (local_guard p.kind) (sym (seen x p R F l p.transactor local-transactor)) ∙ ap (λ (k : ℕ). local_guard k x.row) a.kind ∙ sym refused)

      pub local-refused : (r ≡ 0 → ⊥) → (u : Turn) → u ≡ answers x r → Turns x p u
      local-refused z u e = answers-all r z local-left u e

      pub local-done : r ≡ 0 → (e : RowEffect) → e ≡ local_row k p.value x.row
          → Turns x p (record { reply = answer e.outcome p.transactor 0 e.value; operands = record { register = x.register; at = x.at; row = e.row; slot = x.slot } })
      local-done zero e q = record {
        by = λ d f g. applied_by d f g (λ R F l. local-left R F d f l ∙ zero) _ (λ R F l. local_by x p R F l local-transactor e (q ∙ ap (λ (k : ℕ). local_row k p.value x.row) (sym a.kind)) ∙ sym ((applies (view_of x.register R F) p d f g).local low high)) (λ k. k);
      }

  -- ---- lose

  module _ (a : Asked lose x p) where
    lose-place : place_of x.register p ≡ p.message
    lose-place = own-place x p lose a.kind refl

    lose-left : (R : ℕ → Row) (F : ℕ → Slot) (d f : Bool) → Holds x p R F → play_refusal base (view_of x.register R F) p d f ≡ pick x.slot.missing 24 0
    lose-left R F d f l = (refuses x.register R F p d f a.formed).lose a.kind ∙ ap (λ (m : Slot). pick m.missing 24 0) (sym (message x p R F l lose-place))

    pub lose-missing : x.slot.missing ≡ true → (u : Turn) → u ≡ answers x 24 → Turns x p u
    lose-missing h u e = answers-all 24 (omega arith) (λ R F d f l. lose-left R F d f l ∙ rw h) u e

    pub lose-done : x.slot.missing ≡ false → (z : Register) → z ≡ without_number x.register
        → Turns x p (record { reply = answer done 0 p.message 0; operands = record { register = z; at = x.at; row = x.row; slot = empty_slot } })
    lose-done h z e = record {
      by = λ d f g. applied_by d f g (λ R F l. lose-left R F d f l ∙ rw h) _ (λ R F l. lose-by x p R F l lose-place z e ∙ sym ((applies (view_of x.register R F) p d f g).lose a.kind)) (λ k. k);
    }

  -- ---- receive

  module _ (a : Asked receive x p) where
    receive-place : place_of x.register p ≡ p.message
    receive-place = own-place x p receive a.kind refl

    receive-transactor : x.at ≡ x.slot.addressee
    receive-transactor = receiver x p a.subject a.kind

    abbrev falling : Bool → Bool → ℕ
    falling d f = pick ((not d and f) and last_row x.row) 28 0

    receive-left : (R : ℕ → Row) (F : ℕ → Slot) (d f : Bool) → Holds x p R F → play_refusal base (view_of x.register R F) p d f ≡ first (receipt_guard x.slot x.row) (falling d f)
    receive-left R F d f l =
        let m : x.slot ≡ F p.message = message x p R F l receive-place in
        let z : x.row ≡ R (F p.message).addressee = seen x p R F l (F p.message).addressee (receive-transactor ∙ ap (λ (m : Slot). m.addressee) m) in
        (refuses x.register R F p d f a.formed).receive a.kind ∙ sym (λ i. first (receipt_guard (m i) (z i)) (pick ((not d and f) and last_row (z i)) 28 0))

    pub receive-refused : (r : ℕ) → r ≡ receipt_guard x.slot x.row → (r ≡ 0 → ⊥) → (u : Turn) → u ≡ answers x r → Turns x p u
    receive-refused r k z u e = answers-all r z (λ R F d f l. receive-left R F d f l ∙ first_taken (receipt_guard x.slot x.row) (falling d f) r k z) u e

    module _ (waits : receipt_guard x.slot x.row ≡ 0) (d f : Bool) where
      receive-last-left : (R : ℕ → Row) (F : ℕ → Slot) → Holds x p R F → (c : Bool) → not d and f and last_row x.row ≡ c → play_refusal base (view_of x.register R F) p d f ≡ pick c 28 0
      receive-last-left R F l c k = receive-left R F d f l ∙ first-left (receipt_guard x.slot x.row) (falling d f) 0 (sym waits) refl ∙ ap (λ (c : Bool). pick c 28 0) (and_assoc (not d) f (last_row x.row) ∙ k)

      pub receive-last : not d and f and last_row x.row ≡ true → (u : Turn) → u ≡ answers x 28 → Receives d f x p u
      receive-last k u e = record { by = λ g. answers_by d f g 28 (omega arith) (λ R F l. receive-last-left R F l true k) u e }

      pub receive-done : not d and f and last_row x.row ≡ false → (e : RowEffect) → e ≡ receive_row d f x.slot.content x.row → (z : Register) → z ≡ without_number x.register
          → Receives d f x p (record { reply = answer e.outcome x.slot.addressee p.message e.value; operands = record { register = z; at = x.at; row = e.row; slot = empty_slot } })
      receive-done k e w z i = record {
        by = λ g. applied_by d f g (λ R F l. receive-last-left R F l false k) _
            (λ R F l. receive-by x p R F l receive-place receive-transactor d f e w z i ∙ sym ((applies (view_of x.register R F) p d f g).receive a.kind)) (λ k. k);
      }

-- ---- sign

module _ (x : Register) (rows : List Row) (p : Step) where
  sign-answers : (g : Bool) (n : ℕ) → (n ≡ 0 → ⊥) → ((F : ℕ → Slot) (d f : Bool) → play_refusal base (view_of x (row_at rows) F) p d f ≡ n) → (u : GroupTurn) → u ≡ answers_group rows n → Signs g x rows p u
  sign-answers g n z h u e = record {
    plays = λ d f F. ap (λ (u : GroupTurn). played_group u x F) e ∙ play-refused (view_of x (row_at rows) F) p d f g n z (h F d f);
    long = λ l. ap (λ (u : GroupTurn). length u.rows) e ∙ l;
  }

  pub sign-malformed : malformed p ≡ true → (g : Bool) (u : GroupTurn) → u ≡ answers_group rows 20 → Signs g x rows p u
  sign-malformed e g = sign-answers g 20 (omega arith) (λ F d f. refused-malformed x (row_at rows) F p d f e)

  module _ (formed : malformed p ≡ false) (kind : p.kind ≡ sign) where
    sign-left : (F : ℕ → Slot) (d f : Bool) → play_refusal base (view_of x (row_at rows) F) p d f ≡ group_guard x (row_at rows) p.message
    sign-left F d f = (refuses x (row_at rows) F p d f formed).sign kind

    pub sign-refused : (r : ℕ) → r ≡ group_guard x (row_at rows) p.message → (r ≡ 0 → ⊥) → (g : Bool) (u : GroupTurn) → u ≡ answers_group rows r → Signs g x rows p u
    sign-refused r k z g = sign-answers g r z (λ F d f. sign-left F d f ∙ sym k)

    module _ (free : group_guard x (row_at rows) p.message ≡ 0) (g : Bool) where
      pub sign-unready : g ≡ false → (u : GroupTurn) → u ≡ answers_group rows not_ready → Signs g x rows p u
      sign-unready k u e = record {
        plays = λ d f F. ap (λ (u : GroupTurn). played_group u x F) e
            ∙ sym ((applies (view_of x (row_at rows) F) p d f g).sign kind ∙ rw k) ∙ play-applied (view_of x (row_at rows) F) p d f g (sign-left F d f ∙ free);
        long = λ l. ap (λ (u : GroupTurn). length u.rows) e ∙ l;
      }

      pub sign-done : g ≡ true → (after : List Row) → CheckpointedRows p.message rows after → (u : GroupTurn) → u ≡ answers_group after done → Signs g x rows p u
      sign-done k after c u e = record {
        plays = λ d f F. ap (λ (u : GroupTurn). played_group u x F) e
            ∙ ap (played (answer done 0 0 0)) (view-checkpoint x F p.message rows after c)
            ∙ sym ((applies (view_of x (row_at rows) F) p d f g).sign kind ∙ rw k) ∙ play-applied (view_of x (row_at rows) F) p d f g (sign-left F d f ∙ free);
        long = λ l. ap (λ (u : GroupTurn). length u.rows) e ∙ c.long;
      }
