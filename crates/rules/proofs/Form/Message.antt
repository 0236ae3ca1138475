-- What the form says of the messages, as facts on their bytes.
use Prim.Native.Nat.{ℕ, ◌+◌, ◌/◌, ◌≤◌, ◌<◌}
use mathlib.Core.Bool.{true, false}
use mathlib.Core.Path.{◌≡◌, sym, ◌∙◌, subst}
use mathlib.Core.List.{List}
use mathlib.Core.Logic.{⊎_elim}
use native.Mathlib.Omega.{arith}
use lib.Dec.{eqb, ltb, leb}
use borrow.Author.Tests.{eqb-true, eq-eqb, lt-ltb, ltb-true, lt-leb, leb-false}
use lib.ListN.{length, get_or, get_or-eq_default}
use Rattle.octets.specs.Bytes.{◌and◌, ◌or◌, all_zero}
use Rattle.octets.proofs.Chunks.{sides}
use Rattle.octets.proofs.Zero.{both, all_zero-at}
use Rattle.rules.specs.Layout.{Layout, dependences_at, message_address, image_bytes}
use Rattle.rules.specs.State.{Message, State, message_at}
use Rattle.rules.specs.Pack.{message_part, vacant_at, waiting_in, unpack}
use Rattle.rules.specs.Form.{map_formed, message_zeros, no_gap, in_order, number_right, addressee_right}
use Rattle.rules.proofs.Pack.RoundTrip.{vacant-behind}
use Rattle.octets.proofs.Tests.{never, implying, otherwise, unless}
use Rattle.rules.proofs.Form.Clauses.{Below}
use Rattle.rules.proofs.Pack.Loads.{read-vacant, unpack-waiting, waiting_few, waiting-taken}

-- ---- each clause at k, as a fact

module _ (y : Layout) (img : List ℕ) (k : ℕ) where
  vacant-says : message_zeros y img k ≡ true → vacant_at y img k ≡ true → all_zero (message_part y img k) ≡ true
  unfolding message_zeros
  vacant-says e v = rw v at e

  taken-says : message_zeros y img k ≡ true → vacant_at y img k ≡ false
      → (get_or (message_part y img k) 0 0 / 16 ≡ 8) × (map_formed y (unpack y img) dependences_at (message_part y img k) ≡ true)
  unfolding message_zeros
  taken-says e v =
      let f : eqb (get_or (message_part y img k) 0 0 / 16) 8 and map_formed y (unpack y img) dependences_at (message_part y img k) ≡ true = rw v at e in
      let p = both (eqb (get_or (message_part y img k) 0 0 / 16) 8) _ f in
      (eqb-true (get_or (message_part y img k) 0 0 / 16) 8 p.0, p.1)

  vacant-holds : vacant_at y img k ≡ true → all_zero (message_part y img k) ≡ true → message_zeros y img k ≡ true
  unfolding message_zeros
  vacant-holds v e = rw v e

  taken-holds : vacant_at y img k ≡ false → get_or (message_part y img k) 0 0 / 16 ≡ 8 → map_formed y (unpack y img) dependences_at (message_part y img k) ≡ true → message_zeros y img k ≡ true
  unfolding message_zeros
  taken-holds v h m = rw (v, eq-eqb (get_or (message_part y img k) 0 0 / 16) 8 h) m

  gap-holds : (vacant_at y img k ≡ true → vacant_at y img (k + 1) ≡ true) → no_gap y img k ≡ true
  unfolding no_gap
  gap-holds f = implying (vacant_at y img k) (vacant_at y img (k + 1)) f

  -- a place of zeros is vacant
  zero-vacant : all_zero (message_part y img k) ≡ true → vacant_at y img k ≡ true
  unfolding vacant_at
  zero-vacant e = rw (all_zero-at (message_part y img k) 0 e)

-- a test of the place k, asked only before place n
module _ (n k a b : ℕ) where
  asked : leb n k or ltb a b ≡ true → k < n → a < b
  asked e h = ltb-true a b (otherwise (leb n k) (ltb a b) e (lt-leb n k h))

  answered : (k < n → a < b) → leb n k or ltb a b ≡ true
  answered f = unless (leb n k) (ltb a b) (λ e. lt-ltb a b (f (leb-false n k e)))

-- ---- what they say together

-- message m, which waits, in the bytes b
pub record MessageForm (y : Layout) (s : State) (b : List ℕ) (m : Message) : Type 0 where
  pub head : get_or b 0 0 / 16 ≡ 8
  pub dependences : map_formed y s dependences_at b ≡ true
  pub number : m.number < s.next
  pub addressee : m.addressee < s.opened

abbrev pub MessageFormAt : Layout → List ℕ → ℕ → Type 0
MessageFormAt y img k = MessageForm y (unpack y img) (message_part y img k) (message_at (unpack y img) k)

pub record MessagesForm (y : Layout) (img : List ℕ) : Type 0 where
  pub taken : (k : ℕ) → k < waiting_in y img → MessageFormAt y img k
  pub free : (k : ℕ) → waiting_in y img ≤ k → k < y.messages → all_zero (message_part y img k) ≡ true
  pub order : (k : ℕ) → k + 1 < waiting_in y img → (message_at (unpack y img) k).number < (message_at (unpack y img) (k + 1)).number

-- the five clauses
pub record MessageClauses (y : Layout) (img : List ℕ) : Type 0 where
  pub zeros : Below y.messages (message_zeros y img)
  pub gap : Below y.messages (no_gap y img)
  pub order : Below y.messages (in_order (unpack y img))
  pub number : Below y.messages (number_right (unpack y img))
  pub addressee : Below y.messages (addressee_right (unpack y img))

module _ (y : Layout) (img : List ℕ) where
  pub messages-form : MessageClauses y img → MessagesForm y img
  unfolding in_order number_right addressee_right
  messages-form c = record {
    taken = λ k h.
        let m : k < length (unpack y img).messages = omega (arith, unpack-waiting y img) in
        let b : k < y.messages = omega (arith, waiting_few y img) in
        let p = taken-says y img k (c.zeros k b) (waiting-taken y img k h) in
        record {
          head = p.0;
          dependences = p.1;
          number = asked (length (unpack y img).messages) k (message_at (unpack y img) k).number (unpack y img).next (c.number k b) m;
          addressee = asked (length (unpack y img).messages) k (message_at (unpack y img) k).addressee (unpack y img).opened (c.addressee k b) m;
        };
    free = λ k p h. vacant-says y img k (c.zeros k h) (vacant-behind y img c.gap k h p);
    order = λ k h.
        let m : k + 1 < length (unpack y img).messages = omega (arith, unpack-waiting y img) in
        let b : k < y.messages = omega (arith, waiting_few y img) in
        asked (length (unpack y img).messages) (k + 1) (message_at (unpack y img) k).number (message_at (unpack y img) (k + 1)).number (c.order k b) m;
  }

  pub messages-clauses : length img ≡ image_bytes y → MessagesForm y img → MessageClauses y img
  unfolding in_order number_right addressee_right
  messages-clauses n f = record {
    zeros = λ k h. ⊎_elim
        (λ (p : k < waiting_in y img). taken-holds y img k (waiting-taken y img k p) (f.taken k p).head (f.taken k p).dependences)
        (λ (p : waiting_in y img ≤ k). vacant-holds y img k (zero-vacant y img k (f.free k p h)) (f.free k p h))
        (sides k (waiting_in y img));
    gap = λ k h. gap-holds y img k (λ v. ⊎_elim
        (λ (p : k < waiting_in y img). never (sym v ∙ waiting-taken y img k p))
        (λ (p : waiting_in y img ≤ k). ⊎_elim
        (λ (q : k + 1 < y.messages). zero-vacant y img (k + 1) (f.free (k + 1) (omega arith) q))
        (λ (q : y.messages ≤ k + 1). subst (λ (i : ℕ). vacant_at y img i ≡ true) (omega arith) end)
        (sides (k + 1) y.messages))
        (sides k (waiting_in y img)));
    order = λ k h. answered (length (unpack y img).messages) (k + 1) (message_at (unpack y img) k).number (message_at (unpack y img) (k + 1)).number (λ p. f.order k (omega (arith, unpack-waiting y img)));
    number = λ k h. answered (length (unpack y img).messages) k (message_at (unpack y img) k).number (unpack y img).next (λ p. (f.taken k (omega (arith, unpack-waiting y img))).number);
    addressee = λ k h. answered (length (unpack y img).messages) k (message_at (unpack y img) k).addressee (unpack y img).opened (λ p. (f.taken k (omega (arith, unpack-waiting y img))).addressee);
  }
    where
      -- past the last place
      end : vacant_at y img y.messages ≡ true
      end = rw (read-vacant y img y.messages, get_or-eq_default img 0 {n = message_address y y.messages} (omega arith))
