-- Offer has an answer on every image; what a signing is refused with.
use Prim.Native.Nat.{ℕ, zero, suc, ◌≤◌, ◌<◌}
use mathlib.Core.Path.{◌≡◌, refl, sym, subst}
use mathlib.Core.List.{List}
use mathlib.Core.Logic.{⊎_elim}
use mathlib.Core.Option.{Option, none, some}
use native.Mathlib.Decide.{ℕ_discrete, dec_le}
use native.Mathlib.Omega.{arith}
use lib.Dec.{eqb, leb}
use lib.ListN.{length}
use Rattle.octets.specs.Bytes.{pick}
use Rattle.octets.proofs.Chunks.{cases}
use Rattle.rules.specs.Layout.{Layout}
use Rattle.rules.specs.Status.{annihilated}
use Rattle.rules.specs.State.{State, message_at}
use Rattle.rules.specs.Refusals.{Seen, any_named, malformed, not_waiting, empty_group, unopened, is_gone, wrong_status, unrelated_receipt, all_opened, all_waiting, all_numbered, all_checkpointed, last_rolls_back, refusal_of}
use Rattle.rules.specs.Pack.{unpack}
use Rattle.rules.specs.Calls.{query_refusal, Offers}
use Rattle.rules.specs.Calls as offering
use Rattle.rules.specs.Groups.{signing}

-- ---- offer: the lowest number among the parcels that wait for the take

-- among the first i parcels
data Lowest (s : State) (t i : ℕ) : Type 0 where
  nobody : ((k : ℕ) → k < i → (message_at s k).addressee ≡ t → ⊥) → Lowest s t i
  lowest : (p : ℕ) → p < i → (message_at s p).addressee ≡ t → ((k : ℕ) → k < i → (message_at s k).addressee ≡ t → (message_at s p).number ≤ (message_at s k).number) → Lowest s t i

-- what holds of the first i and of i
one_more : {i : ℕ} (P : ℕ → Type 0) → ((k : ℕ) → k < i → P k) → P i → (k : ℕ) → k < suc i → P k
one_more {i} P f p k h = ⊎_elim (f k) (λ e. subst P (sym e) p) (cases i k h)

lowest-among : (s : State) (t i : ℕ) → Lowest s t i
lowest-among s t zero = nobody (λ k h. absurd (omega arith))
lowest-among s t (suc i) = go (lowest-among s t i) (ℕ_discrete (message_at s i).addressee t)
  where
    Above : ℕ → ℕ → Type 0
    Above p k = (message_at s k).addressee ≡ t → (message_at s p).number ≤ (message_at s k).number

    go : Lowest s t i → Dec ((message_at s i).addressee ≡ t) → Lowest s t (suc i)
    go (nobody f) (no n) = nobody (one_more (λ k. (message_at s k).addressee ≡ t → ⊥) f n)
    go (nobody f) (yes e) = lowest i (omega arith) e (one_more (Above i) (λ k h g. absurd (f k h g)) (λ g. omega arith))
    go (lowest p h e f) (no n) = lowest p (omega arith) e (one_more (Above p) f (λ g. absurd (n g)))
    go (lowest p h e f) (yes g) = at (dec_le (message_at s p).number (message_at s i).number)
      where
        at : Dec ((message_at s p).number ≤ (message_at s i).number) → Lowest s t (suc i)
        at (yes l) = lowest p (omega arith) e (one_more (Above p) f (λ w. l))
        at (no l) = lowest i (omega arith) g (one_more (Above i) (λ k q w. let z = f k q w in omega arith) (λ w. omega arith))

pub offers-exist : (y : Layout) (img : List ℕ) (t : ℕ) → (message : Option ℕ) × Offers y img t message
offers-exist y img t = go (ℕ_discrete (query_refusal y img t) 0)
  where
    found : query_refusal y img t ≡ 0 → Lowest (unpack y img) t (length (unpack y img).messages) → (message : Option ℕ) × Offers y img t message
    found e (nobody f) = (none, offering.nothing e (λ n w. f w.place w.waits w.addressee))
    found e (lowest p h g f) = (
      some (message_at (unpack y img) p).number,
      offering.waiting e (record {
        waits = record { place = p; waits = h; addressee = g; number = refl };
        lowest = λ k w. subst (λ n. (message_at (unpack y img) p).number ≤ n) w.number (f w.place w.waits w.addressee);
      }),
    )

    go : Dec (query_refusal y img t ≡ 0) → (message : Option ℕ) × Offers y img t message
    go (no n) = (none, offering.refused n)
    go (yes e) = found e (lowest-among (unpack y img) t (length (unpack y img).messages))

-- ---- the refusals of a signing

pub signing-refusal : (y : Layout) (v : Seen) (g : ℕ) → refusal_of y v (signing g)
    ≡ pick (eqb g 0) 29
    (pick (any_named g (λ t. leb v.opened t)) 21
    (pick (any_named g (λ t. eqb (v.status t) annihilated)) 22
    (pick (any_named g (λ t. leb v.limits.checkpoints (v.checkpoints t))) 30 0)))
unfolding refusal_of malformed not_waiting empty_group unopened is_gone wrong_status unrelated_receipt all_opened all_waiting all_numbered all_checkpointed last_rolls_back
signing-refusal y v g = refl
