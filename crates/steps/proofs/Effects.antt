-- What one take's bytes decide, kinds 5 to 10 and receipts: refusals apart from effects.
use Prim.Native.Nat.{ℕ, ◌≤◌, ◌<◌}
use mathlib.Core.Bool.{Bool, true, false, not}
use mathlib.Core.Path.{◌≡◌, refl, sym}
use native.Mathlib.Omega.{arith}
use lib.Dec.{eqb, leb}
use borrow.Author.Tests.{ne_eqb}
use Rattle.octets.specs.Bytes.{pick, ◌and◌, ◌or◌}
use Rattle.marks.specs.History.{rolled_back}
use Rattle.maps.specs.Map.{first_superseded, any_unrelated}
use Rattle.rules.specs.Layout.{Layout}
use Rattle.rules.specs.Status.{busy, annihilated}
use Rattle.rules.specs.State.{Transactor, Message, bare, own_history}
use Rattle.rules.specs.Step.{done, dropped, fallen_back, vanished, fall, fail}
use Rattle.rules.specs.Rules.{Effect, is_some, known, unchanged, renewed, rollback, local_by, taken, message_unrelated, message_superseded, receiver_superseded, receive_by}
use Rattle.rules.specs.Internal.Guards.{local_refusal, is_last_incarnation}
use Rattle.transactor.specs.Internal.Effects.{rollback_or28, act_by, taken_in, settle_by, accept_by}
use Rattle.rules.proofs.ByKind.Outcomes.{local-small}
use Rattle.rules.proofs.ByKind.Refused.{local_in}

-- what a fall answers
record RolledBack (e : Effect) : Type 0 where
  small : e.outcome < 16
  some : e.outcome ≡ done → ⊥
  silent : e.value ≡ 0

rolled : (y : Layout) (t : ℕ) (x : Transactor) → RolledBack (rollback y t x)
unfolding rollback
rolled y t x = go (eqb (own_history t x).count 0)
  where
    go : (c : Bool) → RolledBack (pick c (record { outcome = vanished; value = 0; transactor = bare y annihilated }) (record { outcome = fallen_back; value = 0; transactor = renewed y t (rolled_back (own_history t x)) x.saved x.saved }))
    go true = record { small = omega arith; some = λ e. omega arith; silent = refl }
    go false = record { small = omega arith; some = λ e. omega arith; silent = refl }

-- e is the refusal r of take x, or else the effect l
pub data Judged (r : ℕ) (x : Transactor) (l e : Effect) : Type 0 where
  refused : 16 ≤ e.outcome → r ≡ e.outcome → e.transactor ≡ x → Judged r x l e
  applied : e.outcome < 16 → r ≡ 0 → e ≡ l → Judged r x l e

module _ {r : ℕ} {x : Transactor} {l e : Effect} where
  pub judged-refused : Judged r x l e → 16 ≤ e.outcome → (r ≡ e.outcome) × (e.transactor ≡ x)
  judged-refused (refused n a b) h = (a, b)
  judged-refused (applied n a b) h = absurd (omega arith)

  pub judged-applied : Judged r x l e → e.outcome < 16 → (r ≡ 0) × (e ≡ l)
  judged-applied (refused n a b) h = absurd (omega arith)
  judged-applied (applied n a b) h = (a, b)

pub act-judged : (y : Layout) (k t v : ℕ) (x : Transactor) → Judged (local_in y k t x) x (local_by y k t v x) (act_by y k t v x)
unfolding act_by local_refusal
act-judged y k t v x =
    go (eqb x.status annihilated) (leb k fall and not (eqb x.status busy)) ((eqb k fall or eqb k fail) and not (own_history t x).stable and is_last_incarnation y t x) (local_by y k t v x) (omega (arith, local-small y t x k v))
  where
    go : (a b c : Bool) (l : Effect) → l.outcome < 16
        → Judged (pick a 22 (pick b 23 (pick c 28 0))) x l (pick (not (eqb (pick a 22 (pick b 23 0)) 0)) (unchanged (pick a 22 (pick b 23 0)) x) (pick c (unchanged 28 x) l))
    go true b c l h = refused (omega arith) refl refl
    go false true c l h = refused (omega arith) refl refl
    go false false true l h = refused (omega arith) refl refl
    go false false false l h = applied h refl refl

-- with the parcel's text, if it is taken in
abbrev pub answering : ℕ → Effect → Effect
answering v e = record { outcome = e.outcome; value = pick (eqb e.outcome done) v 0; transactor = e.transactor }

pub receipt-judged : (y : Layout) (t : ℕ) (x : Transactor) (p : Message)
    → Judged (pick (message_unrelated y x p) 31 (pick ((not (message_superseded y x p) and receiver_superseded y x p) and is_last_incarnation y t x) 28 0)) x (receive_by y t x p) (answering p.value (accept_by y t x p.dependences))
unfolding accept_by settle_by taken_in rollback_or28 message_unrelated message_superseded receiver_superseded receive_by
receipt-judged y t x p =
    go (any_unrelated y.transactors p.dependences (known y x)) (is_some (first_superseded y.transactors p.dependences (known y x))) (is_some (first_superseded y.transactors (known y x) p.dependences)) (is_last_incarnation y t x) (rollback y t x) (rolled y t x)
  where
    go : (u a b c : Bool) (e : Effect) → RolledBack e
        → Judged (pick u 31 (pick ((not a and b) and c) 28 0)) x (pick a (unchanged dropped x) (pick b e (record { outcome = done; value = p.value; transactor = taken y t x p.dependences })))
        (answering p.value (pick u (unchanged 31 x) (pick a (unchanged dropped x) (pick b (pick c (unchanged 28 x) e) (unchanged done (taken y t x p.dependences))))))
    go true a b c e f = refused (omega arith) refl refl
    go false true b c e f = applied (omega arith) refl refl
    go false false true true e f = refused (omega arith) refl refl
    go false false true false e f = applied f.small refl (rw (ne_eqb e.outcome done f.some) (λ i. record { outcome = e.outcome; value = sym f.silent i; transactor = e.transactor }))
    go false false false c e f = applied (omega arith) refl refl
