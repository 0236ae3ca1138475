-- What an accepted offer says of the image, and the numbers that stand for answers.
use Prim.Native.Nat.{ℕ, ◌+◌, ◌<◌}
use mathlib.Core.Bool.{Bool, true, false, not}
use mathlib.Core.Path.{◌≡◌, refl, sym, ◌∙◌}
use mathlib.Core.List.{List, []}
use mathlib.Core.Option.{Option, none, some}
use native.Mathlib.Omega.{arith}
use borrow.Author.Tests.{eq-eqb, ne_eqb, eqb-true, not-false}
use lib.ListN.{length}
use lib.Dec.{eqb}
use Rattle.octets.specs.Bytes.{pick, part, Octets}
use Rattle.octets.specs.Numbers.{bound}
use Rattle.std.specs.Prelude.{Option as Maybe, Some, None, Result, Ok, Err}
use Rattle.std.specs.Option.{unwrap_or}
use Rattle.std.specs.Result.{result_unwrap_or}
use Rattle.rules.specs.declared.refusals.Refusal.{Refusal}
use Rattle.rules.specs.Numbers.{answer_in}
use Rattle.rules.specs.Layout.{Layout, base, image_bytes, message_address, dependences_at, map_bytes}
use Rattle.rules.specs.State.{place_of}
use Rattle.rules.specs.Pack.{unpack}
use Rattle.rules.specs.Form.{well_formed}
use Rattle.rules.specs.Calls.{wrong_length, query_refusal, Offers, waiting, show_refusal, shown}
use Rattle.rules.specs.Groups.{Smallest, smallest}
use Rattle.ledger.specs.Internal.Shown.{shown_at}
use Rattle.rules.proofs.Bits.{named-zero}
use Rattle.rules.proofs.Form.State.{formed-state}
use Rattle.octets.proofs.Tests.{never}
use Rattle.ledger_c.specs.declared.Part.{Part}
use Rattle.ledger_c.specs.Interface.{no_message, number_of, offered_by, group_bits_of, group_of, shown_part}

module _ (img : List ℕ) where
  -- a call that is turned back with neither 16 nor 19 goes on to the refusal n
  record Entered (n : ℕ) : Type 0 where
    pub whole : length img ≡ image_bytes base
    pub formed : well_formed base img ≡ true
    pub rest : n ≡ 0

  entered : (n : ℕ) → pick (wrong_length base img) 16 (pick (not (well_formed base img)) 19 n) ≡ 0 → Entered n
  entered n e = go (wrong_length base img) (well_formed base img) refl refl e
    where
      go : (w f : Bool) → wrong_length base img ≡ w → well_formed base img ≡ f → ◌≡◌ {A = ℕ} (pick w 16 (pick (not f) 19 n)) 0 → Entered n
      go true f p q d = absurd (omega arith)
      go false false p q d = absurd (omega arith)
      go false true p q d = record { whole = eqb-true (length img) (image_bytes base) (not-false _ p); formed = q; rest = d }

  -- ---- offer

  module _ (t : ℕ) (o : Octets img) where
    -- a parcel's number is below that of the next, which fits two bytes
    offered-below : (n : ℕ) → Offers base img t (some n) → n < no_message
    unfolding query_refusal bound
    offered-below n (waiting r w) =
        let i = entered _ r in
        let s = formed-state base img i.whole o i.formed in
        let p = w.waits in
        omega (arith, s.numbers p.place p.waits, p.number, s.packable.next)

    -- so the number that stands for an answer stands for no other
    stands : (a : Option ℕ) → Offers base img t a → Offers base img t (offered_by (number_of a))
    unfolding offered_by
    stands none f = f
    stands (some n) f = let h : n ≡ no_message → ⊥ = λ d. omega (arith, offered-below n f) in rw (ne_eqb n no_message h) f

    pub answered : (call : Result (Maybe ℕ) Refusal) → Offers base img t (answer_in call) → Offers base img t (offered_by (unwrap_or (result_unwrap_or call None) no_message))
    answered (Ok (Some n)) f = stands (some n) f
    answered (Ok None) f = stands none f
    answered (Err r) f = stands none f

  -- ---- smallest group

  module _ (t : ℕ) where
    -- a volume with take t is not 0
    grouped : (a : Option ℕ) → Smallest base img t a → Smallest base img t (group_of (group_bits_of a))
    unfolding group_of
    grouped none f = f
    grouped (some v) (smallest r c l) =
        let h : v ≡ 0 → ⊥ = λ d. never (sym c.contains ∙ rw d (named-zero t)) in
        rw (ne_eqb v 0 h) (smallest r c l)

    pub named : (call : Result (Maybe ℕ) Refusal) → Smallest base img t (answer_in call) → Smallest base img t (group_of (unwrap_or (result_unwrap_or call None) 0))
    named (Ok (Some v)) f = grouped (some v) f
    named (Ok None) f = grouped none f
    named (Err r) f = grouped none f

  -- ---- show

  pub part-shown : (v : ℕ) → show_refusal base img v ≡ 0 → (at : ℕ) → at ≡ shown_at base img v → record { offset = at; length = map_bytes base } ≡ shown_part base img v
  unfolding shown_part shown_at
  part-shown v e at d = rw (d, eq-eqb (show_refusal base img v) 0 e)

  pub part-refused : (v : ℕ) → (show_refusal base img v ≡ 0 → ⊥) → record { offset = 0; length = 0 } ≡ shown_part base img v
  unfolding shown_part
  part-refused v n = rw (ne_eqb (show_refusal base img v) 0 n)

-- These bytes of the image are what show gives.
pub part-is-shown : (y : Layout) (img : List ℕ) (v : ℕ) → part (shown_part y img v).offset (shown_part y img v).length img ≡ shown y img v
unfolding shown_part shown part
part-is-shown y img v = go (eqb (show_refusal y img v) 0)
  where
    at : ℕ
    at = message_address y (place_of (unpack y img) v) + dependences_at

    go : (b : Bool) → part (pick {A = Part} b (record { offset = at; length = map_bytes y }) (record { offset = 0; length = 0 })).offset (pick {A = Part} b (record { offset = at; length = map_bytes y }) (record { offset = 0; length = 0 })).length img ≡ pick b (part at (map_bytes y) img) []
    go true = refl
    go false = refl
