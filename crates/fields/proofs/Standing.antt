-- Every byte of an image is the byte of the field that is answered for it.
use Prim.Native.Nat.{ℕ, zero, suc, ◌+◌, ◌-◌, ◌*◌, ◌/◌, ◌%◌, ◌≤◌, ◌<◌}
use mathlib.Core.Bool.{Bool, true, false}
use mathlib.Core.Path.{◌≡◌, refl, sym, ◌∙◌, subst}
use mathlib.Core.Logic.{⊎_elim}
use mathlib.Core.List.{List}
use native.Mathlib.Omega.{arith}
use lib.Dec.{ltb}
use borrow.Author.Tests.{lt-ltb}
use lib.ListN.{length, get_or}
use Rattle.octets.specs.Bytes.{part}
use Rattle.octets.specs.Numbers.{be}
use Rattle.octets.proofs.Put.{get_d_part}
use Rattle.octets.proofs.Numbers.{length-be}
use Rattle.octets.proofs.Zero.{length-zeros}
use Rattle.octets.proofs.Chunks.{sides}
use Rattle.marks.specs.declared.History.{History}
use Rattle.marks.specs.Packed.{bit}
use Rattle.maps.specs.declared.DependenceMap.{DependenceMap}
use Rattle.maps.specs.Map.{held_at, history_at}
use Rattle.maps.specs.Packed.{pack_entry}
use Rattle.rules.specs.Layout.{base, widest, history_bytes, map_bytes, state_at, dependences_at, transactor_address, message_address, image_bytes}
use Rattle.rules.specs.State.{State, transactor_at, message_at, fresh}
use Rattle.rules.specs.Pack.{pack_dependences, pack_transactor, pack_message_at, pack}
use Rattle.fields.specs.declared.Field.{Field}
use Rattle.fields.specs.Field.{plain, in_history, from, of_history, map_of, map_address, front_field, history_field, map_field, transactor_field, message_field, field_of, history_place, message_place, transactor_place, field_place, Stands}
use Rattle.fields.proofs.Finding as finding
use Rattle.fields.proofs.Parts as parts

length-of_mark : (p : Bool) (w n : ℕ) → length (of_history p w n) ≡ w
length-of_mark true w n = length-be w n
length-of_mark false w n = length-zeros w

module _ (s : State) where
  -- by the part of the image that is the field's
  stand : (f : Field) (o at a n : ℕ) (b : List ℕ) → field_place base s f ≡ from at b → part a n (pack base s) ≡ b → a ≡ at → length b ≡ n → f.byte < n → at + f.byte ≡ o → Stands base s o f
  stand f o at a n b e p q l h here = record {
    here = rw e here;
    within = rw e (omega arith);
    byte = rw (e, ← here, ← p, ← q) (sym (get_d_part a n (pack base s) f.byte h));
  }

  -- ---- a mark in map i of h

  module _ (i h u : ℕ) where
    abbrev m : DependenceMap
    m = map_of s i h

    abbrev x : History
    x = history_at m u

    abbrev at : ℕ
    at = map_address base i h + history_bytes base * u

    module _ (entry : part at 33 (pack base s) ≡ pack_entry 2 15 (held_at m u) x) where
      piece : (j n : ℕ) (b : List ℕ) → j + n ≤ 33 → part j n (pack_entry 2 15 (held_at m u) x) ≡ b → part (at + j) n (pack base s) ≡ b
      piece j n b fits e = parts.inner (pack base s) (pack_entry 2 15 (held_at m u) x) b at 33 j n fits entry e

      flags : (o : ℕ) → at ≡ o → Stands base s o (in_history 14 h i u 0 0)
      unfolding field_place transactor_place message_place history_place
      flags o e =
          let v : ℕ = 128 + 64 * bit x.stable + x.count in
          stand (in_history 14 h i u 0 0) o at (at + 0) 1 (of_history (held_at m u) 1 v) refl (piece 0 1 (of_history (held_at m u) 1 v) (omega arith) (parts.entry-flags 2 15 x (held_at m u)))
          (omega arith) (length-of_mark (held_at m u) 1 v) (omega arith) (omega (arith, e))

      number : (b o : ℕ) → b < 2 → at + 1 + b ≡ o → Stands base s o (in_history 15 h i u 0 b)
      unfolding field_place transactor_place message_place history_place
      number b o low e =
          let v : ℕ = x.incarnation in
          stand (in_history 15 h i u 0 b) o (at + 1) (at + 1) 2 (of_history (held_at m u) 2 v) refl (piece 1 2 (of_history (held_at m u) 2 v) (omega arith) (parts.entry-number 2 15 x (held_at m u)))
          refl (length-of_mark (held_at m u) 2 v) low e

      checkpoint : (j b o : ℕ) → j < 15 → b < 2 → at + (3 + 2 * j) + b ≡ o → Stands base s o (in_history 16 h i u j b)
      unfolding field_place transactor_place message_place history_place
      checkpoint j b o below low e =
          let v : ℕ = get_or x.checkpoints j 0 in
          stand (in_history 16 h i u j b) o (at + (3 + 2 * j)) (at + (3 + 2 * j)) 2 (of_history (held_at m u) 2 v) refl (piece (3 + 2 * j) 2 (of_history (held_at m u) 2 v) (omega (arith, below)) (parts.entry-checkpoint 2 15 x j below (held_at m u)))
          refl (length-of_mark (held_at m u) 2 v) low e

      history : (q : ℕ) → q < 33 → Stands base s (at + q) (history_field base i h u q)
      history q below = ⊎_elim
          (λ (p : q < 1). subst (Stands base s (at + q)) (finding.history-flags i h u q p refl) (flags (at + q) (omega arith)))
          (λ (p : 1 ≤ q). ⊎_elim
          (λ (r : q < 3). subst (Stands base s (at + q)) (finding.history-number i h u q p r refl) (number (q - 1) (at + q) (omega arith) (omega arith)))
          (λ (r : 3 ≤ q). subst (Stands base s (at + q)) (finding.history-entry i h u q r refl) (checkpoint ((q - 3) / 2) ((q - 3) % 2) (at + q) (omega arith) (omega arith) (omega arith)))
          (sides q 3))
          (sides q 1)

  -- ---- a byte of map i of h, every entry of which stands in the image

  mapped : (i h : ℕ) → ((u : ℕ) → u < 16 → part (map_address base i h + history_bytes base * u) 33 (pack base s) ≡ pack_entry 2 15 (held_at (map_of s i h) u) (history_at (map_of s i h) u))
      → (q : ℕ) → q < 528 → Stands base s (map_address base i h + q) (map_field base i h q)
  mapped i h entries q below =
      let e : map_address base i h + history_bytes base * (q / 33) + q % 33 ≡ map_address base i h + q = omega arith in
      subst (Stands base s (map_address base i h + q)) (finding.in_map i h q refl)
      (rw e at (history i h (q / 33) (entries (q / 33) (omega arith)) (q % 33) (omega arith)))

  -- ---- a take

  module _ (t : ℕ) (opened : t < 16) where
    abbrev start : ℕ
    start = transactor_address base t

    abbrev bytes : List ℕ
    bytes = pack_transactor base (transactor_at s t)

    here : (j n : ℕ) (b : List ℕ) → j + n ≤ 1593 → part j n bytes ≡ b → part (start + j) n (pack base s) ≡ b
    here j n b fits e = parts.inner (pack base s) bytes b start 1593 j n fits (parts.transactor-part s t opened) e

    status : (o : ℕ) → start ≡ o → Stands base s o (plain 8 t 0)
    unfolding field_place transactor_place
    status o e =
        let v : ℕ = 64 * (transactor_at s t).status in
        stand (plain 8 t 0) o start (start + 0) 1 (be 1 v) refl (here 0 1 (be 1 v) (omega arith) (parts.transactor-status base (transactor_at s t))) (omega arith) (length-be 1 v) (omega arith) (omega (arith, e))

    value : (b o : ℕ) → b < 4 → start + 1 + b ≡ o → Stands base s o (plain 9 t b)
    unfolding field_place transactor_place
    value b o low e =
        let v : ℕ = (transactor_at s t).value in
        stand (plain 9 t b) o (start + 1) (start + 1) 4 (be 4 v) refl (here 1 4 (be 4 v) (omega arith) (parts.transactor-value base (transactor_at s t))) refl (length-be 4 v) low e

    saved : (b o : ℕ) → b < 4 → start + 5 + b ≡ o → Stands base s o (plain 10 t b)
    unfolding field_place transactor_place
    saved b o low e =
        let v : ℕ = (transactor_at s t).saved in
        stand (plain 10 t b) o (start + 5) (start + 5) 4 (be 4 v) refl (here 5 4 (be 4 v) (omega arith) (parts.transactor-saved base (transactor_at s t))) refl (length-be 4 v) low e

    address : (i : ℕ) → i < 3 → map_address base i t ≡ start + (state_at + map_bytes base * i)
    unfolding map_address
    address i h = rw (lt-ltb i 3 h)

    entry : (i : ℕ) → i < 3 → (u : ℕ) → u < 16 → part (map_address base i t + history_bytes base * u) 33 (pack base s) ≡ pack_entry 2 15 (held_at (map_of s i t) u) (history_at (map_of s i t) u)
    entry i h u below =
        let m : DependenceMap = map_of s i t in
        rw (address i h)
        (parts.inner (pack base s) (pack_dependences base m) (pack_entry 2 15 (held_at m u) (history_at m u)) (start + (state_at + map_bytes base * i)) 528 (33 * u) 33 (omega arith)
        (here (state_at + map_bytes base * i) 528 (pack_dependences base m) (omega arith) (parts.transactor-map s t i h)) (parts.entry-part base m u below))

    transactor : (q : ℕ) → q < 1593 → Stands base s (start + q) (transactor_field base t q)
    transactor q below = ⊎_elim
        (λ (p : q < 1). subst (Stands base s (start + q)) (finding.transactor-status t q p refl) (status (start + q) (omega arith)))
        (λ (p : 1 ≤ q). ⊎_elim
        (λ (r : q < 5). subst (Stands base s (start + q)) (finding.transactor-value t q p r refl) (value (q - 1) (start + q) (omega arith) (omega arith)))
        (λ (r : 5 ≤ q). ⊎_elim
        (λ (z : q < 9). subst (Stands base s (start + q)) (finding.transactor-saved t q r z refl) (saved (q - 5) (start + q) (omega arith) (omega arith)))
        (λ (z : 9 ≤ q). subst (Stands base s (start + q)) (finding.transactor-map t q z refl) (map q z below))
        (sides q 9))
        (sides q 5))
        (sides q 1)
      where
        map : (q : ℕ) → 9 ≤ q → q < 1593 → Stands base s (start + q) (map_field base ((q - 9) / 528) t ((q - 9) % 528))
        map q z below =
            let i : ℕ = (q - 9) / 528 in
            let h : (q - 9) / 528 < 3 = omega arith in
            let e : map_address base i t + (q - 9) % 528 ≡ start + q = rw (address i h) (omega arith) in
            rw e at (mapped i t (entry i h) ((q - 9) % 528) (omega arith))

  -- ---- a parcel place

  module _ (k : ℕ) (within : k < 32) where
    abbrev begin : ℕ
    begin = message_address base k

    there : (j n : ℕ) (b : List ℕ) → j + n ≤ 535 → part j n (pack_message_at base s k) ≡ b → part (begin + j) n (pack base s) ≡ b
    there j n b fits e = parts.inner (pack base s) (pack_message_at base s k) b begin 535 j n fits (parts.message-part s k within) e

    addressee : (o : ℕ) → begin ≡ o → Stands base s o (plain 11 k 0)
    unfolding field_place transactor_place message_place
    addressee o e =
        let v : ℕ = 128 + (message_at s k).addressee in
        let p : Bool = ltb k (length s.messages) in
        stand (plain 11 k 0) o begin (begin + 0) 1 (of_history p 1 v) refl (there 0 1 (of_history p 1 v) (omega arith) (parts.place-first base s k)) (omega arith) (length-of_mark p 1 v) (omega arith) (omega (arith, e))

    numbered : (b o : ℕ) → b < 2 → begin + 1 + b ≡ o → Stands base s o (plain 12 k b)
    unfolding field_place transactor_place message_place
    numbered b o low e =
        let v : ℕ = (message_at s k).number in
        stand (plain 12 k b) o (begin + 1) (begin + 1) 2 (be 2 v) refl (there 1 2 (be 2 v) (omega arith) (parts.place-number base s k)) refl (length-be 2 v) low e

    content : (b o : ℕ) → b < 4 → begin + 3 + b ≡ o → Stands base s o (plain 13 k b)
    unfolding field_place transactor_place message_place
    content b o low e =
        let v : ℕ = (message_at s k).value in
        stand (plain 13 k b) o (begin + 3) (begin + 3) 4 (be 4 v) refl (there 3 4 (be 4 v) (omega arith) (parts.place-value base s k)) refl (length-be 4 v) low e

    carried : (u : ℕ) → u < 16 → part (map_address base 3 k + history_bytes base * u) 33 (pack base s) ≡ pack_entry 2 15 (held_at (map_of s 3 k) u) (history_at (map_of s 3 k) u)
    unfolding map_address map_of
    carried u below =
        let d : DependenceMap = (message_at s k).dependences in
        let e : begin + dependences_at + 33 * u ≡ begin + (dependences_at + 33 * u) = omega arith in
        rw e (there (dependences_at + 33 * u) 33 (pack_entry 2 15 (held_at d u) (history_at d u)) (omega arith) (parts.place-entry base s k u below))

    behind : (q : ℕ) → q < 528 → Stands base s (begin + dependences_at + q) (map_field base 3 k q)
    unfolding map_address
    behind q below = mapped 3 k carried q below

    message : (q : ℕ) → q < 535 → Stands base s (begin + q) (message_field base k q)
    message q below = ⊎_elim
        (λ (p : q < 1). subst (Stands base s (begin + q)) (finding.message-addressee k q p refl) (addressee (begin + q) (omega arith)))
        (λ (p : 1 ≤ q). ⊎_elim
        (λ (r : q < 3). subst (Stands base s (begin + q)) (finding.message-number k q p r refl) (numbered (q - 1) (begin + q) (omega arith) (omega arith)))
        (λ (r : 3 ≤ q). ⊎_elim
        (λ (z : q < 7). subst (Stands base s (begin + q)) (finding.message-value k q r z refl) (content (q - 3) (begin + q) (omega arith) (omega arith)))
        (λ (z : 7 ≤ q). subst (Stands base s (begin + q)) (finding.message-map k q z refl) (map q z below))
        (sides q 7))
        (sides q 3))
        (sides q 1)
      where
        map : (q : ℕ) → 7 ≤ q → q < 535 → Stands base s (begin + q) (map_field base 3 k (q - 7))
        map q z below =
            let e : begin + dependences_at + (q - 7) ≡ begin + q = omega arith in
            rw e at (behind (q - 7) (omega arith))

  -- ---- the head and the limits

  one : (k v : ℕ) → field_place base s (plain k 0 0) ≡ from k (be 1 v) → part k 1 (pack base s) ≡ be 1 v → Stands base s k (plain k 0 0)
  one k v e p = stand (plain k 0 0) k k k 1 (be 1 v) e p refl (length-be 1 v) (omega arith) (omega arith)

  behind_next : (o : ℕ) → o < 5 → Stands base s (3 + o) (plain (3 + o) 0 0)
  unfolding field_place
  behind_next zero h = one 3 0 refl (parts.front-blank s)
  behind_next (suc zero) h = one 4 s.limits.transactors refl (parts.front-transactors s)
  behind_next (suc (suc zero)) h = one 5 s.limits.messages refl (parts.front-messages s)
  behind_next (suc (suc (suc zero))) h = one 6 s.limits.checkpoints refl (parts.front-checkpoints s)
  behind_next (suc (suc (suc (suc zero)))) h = one 7 0 refl (parts.front-end s)
  behind_next (suc (suc (suc (suc (suc o))))) h = absurd (omega arith)

  first : (o : ℕ) → o < 1 → Stands base s o (plain 1 0 0)
  unfolding field_place
  first o h = stand (plain 1 0 0) o 0 0 1 (be 1 s.opened) refl (parts.front-opened s) refl (length-be 1 s.opened) (omega arith) (omega arith)

  following : (o : ℕ) → 1 ≤ o → o < 3 → Stands base s o (plain 2 0 (o - 1))
  unfolding field_place
  following o g h = stand (plain 2 0 (o - 1)) o 1 1 2 (be 2 s.next) refl (parts.front-next s) refl (length-be 2 s.next) (omega arith) (omega arith)

  front : (o : ℕ) → o < 8 → Stands base s o (front_field o)
  front o below = ⊎_elim
      (λ (p : o < 1). subst (Stands base s o) (finding.front-opened o p refl) (first o p))
      (λ (p : 1 ≤ o). ⊎_elim
      (λ (r : o < 3). subst (Stands base s o) (finding.front-next o p r refl) (following o p r))
      (λ (r : 3 ≤ o).
      let e : 3 + (o - 3) ≡ o = omega arith in
      subst (Stands base s o) (finding.front_rest o r refl) (rw e at (behind_next (o - 3) (omega arith))))
      (sides o 3))
      (sides o 1)

  -- ---- the image

  pub stands : (o : ℕ) → o < image_bytes base → Stands base s o (field_of base o)
  stands o below = ⊎_elim
      (λ (p : o < 8). subst (Stands base s o) (finding.field-front o p refl) (front o p))
      (λ (p : 8 ≤ o). ⊎_elim
      (λ (r : o < 25496).
      let e : transactor_address base ((o - 8) / 1593) + (o - 8) % 1593 ≡ o = omega arith in
      subst (Stands base s o) (finding.field-transactor o p r refl) (rw e at (transactor ((o - 8) / 1593) (omega arith) ((o - 8) % 1593) (omega arith))))
      (λ (r : 25496 ≤ o).
      let e : message_address base ((o - 25496) / 535) + (o - 25496) % 535 ≡ o = omega arith in
      subst (Stands base s o) (finding.field-message o r below refl) (rw e at (message ((o - 25496) / 535) (omega arith) ((o - 25496) % 535) (omega arith))))
      (sides o 25496))
      (sides o 8)

-- two bytes of an image have different answers
pub one-offset : (o p : ℕ) → o < image_bytes base → p < image_bytes base → field_of base o ≡ field_of base p → o ≡ p
one-offset o p h k e =
    let s : State = fresh base (widest base) in
    let q : (field_place base s (field_of base o)).at + (field_of base o).byte ≡ p = rw e (stands s p k).here in
    sym (stands s o h).here ∙ q

-- past the image: nothing
pub past-image : (o : ℕ) → image_bytes base ≤ o → field_of base o ≡ plain 0 0 0
past-image o h = sym (finding.field_past o h refl)
