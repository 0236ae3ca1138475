-- When a volume could be signed: the signing's reply is 0.
use Prim.Native.Nat.{ℕ, zero, suc}
use mathlib.Core.Bool.{Bool, true, false}
use mathlib.Core.Path.{◌≡◌, refl, sym, ◌∙◌}
use mathlib.Core.Logic.{◌↔◌}
use native.Mathlib.Omega.{arith}
use borrow.Author.Tests.{eq-eqb, ne_eqb, eqb-true, eqb-false, leb-false, lt-leb}
use lib.Dec.{eqb, leb}
use Rattle.octets.specs.Bytes.{pick, ◌and◌}
use Rattle.octets.proofs.Tests.{pick-zero}
use Rattle.octets.proofs.Zero.{both}
use Rattle.rules.specs.Layout.{Layout}
use Rattle.rules.specs.Status.{annihilated}
use Rattle.rules.specs.State.{State, transactor_at, own_history}
use Rattle.rules.specs.Step.{done, not_ready}
use Rattle.rules.specs.Refusals.{malformed, any_named}
use Rattle.rules.specs.Rules.{Result, group_ready, checkpoint_group, answer, apply_sign, step_of}
use Rattle.rules.specs.Groups.{signing}
use Rattle.rules.specs.ReadyGroups.{ready_group, Ready}
use Rattle.rules.specs.Internal.Guards.{named_refusal, group_refusal, group_in}
use Rattle.rules.proofs.Bits.{named-at, unnamed-all}
use Rattle.rules.proofs.ByKind.Refused.{refuses}
use Rattle.rules.proofs.ByKind.Applied.{applies}

module _ (y : Layout) (s : State) (v : ℕ) where
  -- none of the table's refusals of a signing, and ready
  pub signing-done : eqb (step_of y s (signing v)).reply.outcome done ≡ eqb (group_in s v) 0 and group_ready y s v
  unfolding step_of apply_sign malformed
  signing-done =
      rw ((refuses y s (signing v) refl).sign refl, (applies y s (signing v)).sign refl)
      (go (group_in s v) (group_ready y s v))
    where
      applied : Bool → Result
      applied e = pick e (record { reply = answer done 0 0 0; state = checkpoint_group y s v }) (record { reply = answer not_ready 0 0 0; state = s })

      go : (n : ℕ) (e : Bool) → eqb (pick (eqb n 0) (applied e) (record { reply = answer n 0 0 0; state = s })).reply.outcome done ≡ eqb n 0 and e
      go zero true = refl
      go zero false = refl
      go (suc n) e = let h = ne_eqb (suc n) 0 (omega arith) in rw h h

module _ (y : Layout) (s : State) where
  -- a take that is not opened, that is gone, that has no room
  abbrev unopened : ℕ → Bool
  unopened = leb s.opened

  abbrev gone : ℕ → Bool
  gone t = eqb (transactor_at s t).status annihilated

  abbrev full : ℕ → Bool
  full t = leb s.limits.checkpoints (own_history t (transactor_at s t)).count

  -- what a signing needs, of a volume that names one
  record Signable (v : ℕ) : Type 0 where
    opened : any_named v unopened ≡ false
    there : any_named v gone ≡ false
    room : any_named v full ≡ false
    ready : group_ready y s v ≡ true

  signable : (v : ℕ) → (step_of y s (signing v)).reply.outcome ≡ done → (v ≡ 0 → ⊥) × Signable v
  unfolding group_refusal named_refusal
  signable v e =
      let a = both (eqb (group_in s v) 0) (group_ready y s v) (sym (signing-done y s v) ∙ eq-eqb (step_of y s (signing v)).reply.outcome done e) in
      let b = pick-zero (eqb v 0) 29 _ (omega arith) (eqb-true (group_in s v) 0 a.0) in
      let c = pick-zero (any_named v unopened) 21 _ (omega arith) b.1 in
      let d = pick-zero (any_named v gone) 22 _ (omega arith) c.1 in
      (eqb-false v 0 b.0, record { opened = c.0; there = d.0; room = (pick-zero (any_named v full) 30 0 (omega arith) d.1).0; ready = a.1 })

  signs : (v : ℕ) → (v ≡ 0 → ⊥) → Signable v → (step_of y s (signing v)).reply.outcome ≡ done
  unfolding group_refusal named_refusal
  signs v n a = eqb-true (step_of y s (signing v)).reply.outcome done (signing-done y s v ∙ rw (ne_eqb v 0 n, a.opened, a.there, a.room, a.ready))

  -- take by take: which volumes are ready
  pub ready-exactly : (v : ℕ) → (ready_group y s v ≡ true) ↔ Ready y s v
  unfolding ready_group
  ready-exactly v = (
    λ e.
        let a = signable v (eqb-true (step_of y s (signing v)).reply.outcome done e) in
        record {
          names = a.0;
          opened = λ t h n. leb-false s.opened t (named-at v unopened t a.1.opened h n);
          there = λ t h n. eqb-false (transactor_at s t).status annihilated (named-at v gone t a.1.there h n);
          room = λ t h n. leb-false s.limits.checkpoints (own_history t (transactor_at s t)).count (named-at v full t a.1.room h n);
          rule = a.1.ready;
        },
    λ r. eq-eqb (step_of y s (signing v)).reply.outcome done (signs v r.names (record {
      opened = unnamed-all v unopened (λ t h n. lt-leb s.opened t (r.opened t h n));
      there = unnamed-all v gone (λ t h n. ne_eqb (transactor_at s t).status annihilated (r.there t h n));
      room = unnamed-all v full (λ t h n. lt-leb s.limits.checkpoints (own_history t (transactor_at s t)).count (r.room t h n));
      ready = r.rule;
    })),
  )
