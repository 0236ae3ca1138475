-- 32, history by history: the loop over its first bytes, and what the answers say of the image.
use Prim.Native.Nat.{ℕ, ◌+◌, ◌*◌, ◌≤◌, ◌<◌}
use mathlib.Core.Bool.{Bool, true, false, not}
use mathlib.Core.Path.{◌≡◌, refl, ap, sym, ◌∙◌}
use mathlib.Core.List.{List}
use native.Mathlib.Omega.{arith}
use native.Mathlib.Numerals.{add-one}
use lib.Bits.{bit_or}
use lib.Dec.{eqb, leb}
use lib.ListN.{get_or}
use borrow.Author.Tests.{leb-true, le-leb, lt-leb, eqb-true, eq-eqb, ne_eqb}
use Rattle.octets.specs.Bytes.{◌and◌, part, every, Octets}
use Rattle.octets.specs.Numbers.{of_be}
use Rattle.octets.proofs.Tests.{same_test}
use Rattle.octets.proofs.Put.{octet, get_d_part, octets-part}
use Rattle.octets.proofs.Numbers.{two_bytes}
use Rattle.octets.proofs.Zero.{every-same, or-zero}
use Rattle.octets.proofs.Chunks.{get_d_tabulate}
use Rattle.octets.proofs.Runs.{every-add}
use Rattle.marks.specs.Packed.{present_in, load_number_at, unpack_history}
use Rattle.marks.specs.Within.{history_within}
use Rattle.rules.specs.Layout.{base, widest, state_at, dependences_at, transactor_address, message_address}
use Rattle.rules.specs.Pack.{waiting_in, unpack}
use Rattle.convert.specs.Convert.{largest_narrow, limits_are, state_within, too_wide}
use Rattle.convert.specs.Internal.HighBytes.{entry_within, entries_within}
use Rattle.convert.proofs.HighBytes.{state-entries}

-- ---- a number of two bytes is at most 255 exactly if the first is zero

high : (a b : ℕ) → b < 256 → leb (a * 256 + b) 255 ≡ eqb a 0
high a b h = same_test (leb (a * 256 + b) 255) (eqb a 0)
    (λ (e : leb (a * 256 + b) 255 ≡ true). let p : a * 256 + b ≤ 255 = leb-true (a * 256 + b) 255 e in eq-eqb a 0 (omega arith))
    (λ (e : eqb a 0 ≡ true). let p : a ≡ 0 = eqb-true a 0 e in le-leb (a * 256 + b) 255 (omega arith))

-- the first byte of number i of a mark
abbrev pub first_zero : List ℕ → ℕ → Bool
first_zero b i = eqb (get_or b (1 + 2 * i) 0) 0

module _ (b : List ℕ) (o : Octets b) where
  number-high : (at : ℕ) → leb (of_be 2 (part at 2 b)) 255 ≡ eqb (get_or b at 0) 0
  number-high at = ap (λ (n : ℕ). leb n 255) (two_bytes at b) ∙ high (get_or b at 0) (get_or b (at + 1) 0) (octet b o (at + 1))

  history-high : history_within 255 15 (unpack_history 2 15 b) ≡ every (1 + 15) (first_zero b)
  unfolding history_within unpack_history load_number_at every
  history-high =
      let rest : (i : ℕ) → i < 15 → leb (get_or (unpack_history 2 15 b).checkpoints i 0) 255 ≡ first_zero b (1 + i) =
      λ i h. ap (λ (n : ℕ). leb n 255) (get_d_tabulate (load_number_at 2 b (1 + 2)) 15 i 0 h) ∙ number-high (1 + 2 + 2 * i) ∙ ap (λ (k : ℕ). eqb (get_or b k 0) 0) (omega arith) in
      rw (number-high 1, every-same (λ i. leb (get_or (unpack_history 2 15 b).checkpoints i 0) 255) (λ i. first_zero b (1 + i)) 15 rest)
      (sym (every-add 1 15 (first_zero b)))

-- ---- one mark in an image: its first bytes, one after the other

module _ (at : ℕ) (s : List ℕ) where
  first_byte : (i : ℕ) → i < 16 → first_zero (part at 33 s) i ≡ eqb (get_or s (at + 1 + 2 * i) 0) 0
  first_byte i h = ap (λ (x : ℕ). eqb x 0) (get_d_part at 33 s (1 + 2 * i) (omega arith) ∙ ap (λ (k : ℕ). get_or s k 0) (omega arith))

  pub first_more : (i any : ℕ) → i < 16 → eqb any 0 ≡ every i (first_zero (part at 33 s)) → eqb (bit_or any (get_or s (at + 1 + 2 * i) 0)) 0 ≡ every (i + 1) (first_zero (part at 33 s))
  unfolding every
  first_more i any h e =
      let f : ℕ → Bool = first_zero (part at 33 s) in
      let x : ℕ = get_or s (at + 1 + 2 * i) 0 in
      or-zero any x ∙ ap (λ (t : Bool). t and eqb x 0) e ∙ ap (λ (t : Bool). every i f and t) (sym (first_byte i h)) ∙ ap (λ (k : ℕ). every k f) (sym (add-one i))

  present-is : present_in (part at 33 s) ≡ leb 128 (get_or s at 0)
  unfolding present_in
  present-is = ap (leb 128) (get_d_part at 33 s 0 (omega arith) ∙ ap (λ (k : ℕ). get_or s k 0) (omega arith))

  pub absent-within : get_or s at 0 < 128 → true ≡ entry_within largest_narrow base (part at 33 s)
  unfolding entry_within
  absent-within h = rw (present-is, lt-leb 128 (get_or s at 0) h)

  pub present-within : Octets s → 128 ≤ get_or s at 0 → (i any : ℕ) → eqb any 0 ≡ every i (first_zero (part at 33 s)) → i ≡ 16 → eqb any 0 ≡ entry_within largest_narrow base (part at 33 s)
  unfolding entry_within
  present-within o h i any e k = rw (present-is, le-leb 128 (get_or s at 0) h, history-high (part at 33 s) (octets-part at 33 s o), e, k)

-- all of them, and then the messages
module _ (s : List ℕ) where
  abbrev transactors : ℕ → Bool
  transactors t = entries_within largest_narrow base s (transactor_address base t + state_at) 48

  abbrev messages : ℕ → Bool
  messages k = entries_within largest_narrow base s (message_address base k + dependences_at) 16

  abbrev widest_limits : Bool
  widest_limits = limits_are (unpack base s).limits (widest base)

  image-within : not (too_wide s) ≡ widest_limits and (every 16 transactors and every (waiting_in base s) messages)
  unfolding too_wide
  image-within = twice (widest_limits and state_within largest_narrow base (unpack base s)) ∙ ap (λ (t : Bool). widest_limits and t) (state-entries largest_narrow base s)
    where
      twice : (t : Bool) → not (not t) ≡ t
      twice true = refl
      twice false = refl

  -- the three limits
  module _ (a : ℕ) (p : a ≡ (unpack base s).limits.transactors) where
    pub transactors-other : (a ≡ 16 → ⊥) → false ≡ widest_limits
    unfolding limits_are
    transactors-other h = sym (rw (sym p, ne_eqb a 16 h))

    module _ (e : a ≡ 16) (b : ℕ) (q : b ≡ (unpack base s).limits.messages) where
      pub messages-other : (b ≡ 32 → ⊥) → false ≡ widest_limits
      unfolding limits_are
      messages-other h = sym (rw (sym p, eq-eqb a 16 e, sym q, ne_eqb b 32 h))

      pub checkpoints-left : b ≡ 32 → (c : ℕ) → c ≡ (unpack base s).limits.checkpoints → eqb c 15 ≡ widest_limits
      unfolding limits_are
      checkpoints-left f c r = sym (rw (sym p, eq-eqb a 16 e, sym q, eq-eqb b 32 f, sym r))

  pub limits-other : widest_limits ≡ false → false ≡ not (too_wide s)
  limits-other f = sym (image-within ∙ rw f)

  pub transactors-over : widest_limits ≡ true → every 16 transactors ≡ false → false ≡ not (too_wide s)
  transactors-over f e = sym (image-within ∙ rw (f, e))

  pub messages-left : (n : ℕ) → widest_limits ≡ true → every 16 transactors ≡ true → n ≡ waiting_in base s → (r : Bool) → r ≡ every n messages → r ≡ not (too_wide s)
  messages-left n f e h r q = q ∙ ap (λ (k : ℕ). every k messages) h ∙ sym (image-within ∙ rw (f, e))
